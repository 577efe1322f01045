use Rattle.flow_commands.specs.ArchiveFiles.{AreListings}
use Rattle.flow_commands.specs.Asking.{Writes, WritesOrNot}
use Rattle.flow_commands.proofs.Endings.{if_refused, on_ended}
use Rattle.flow_commands.proofs.archive_files.write_listing.Goals as goal

pub returns-clause-written : goal.returns-clause-written
returns-clause-written g c =
    let old = g.W.Write.contents c.args.output.now in
    let new = g.W.Write.contents c.check_files.new.output in
    on_ended c.check_files.result c.ended.result (Writes AreListings old new) c.ended.ensures
    c.check_files.ensures.written

pub returns-clause-kept : goal.returns-clause-kept
returns-clause-kept g c =
    let old = g.W.Write.contents c.args.output.now in
    let new = g.W.Write.contents c.check_files.new.output in
    if_refused c.check_files.result c.ended.result (λ e. WritesOrNot AreListings e old new) c.ended.ensures
    c.check_files.ensures.kept
