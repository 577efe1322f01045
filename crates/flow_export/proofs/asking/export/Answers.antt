use Rattle.std.proofs.Common.{◌∙◌, ap, subst, sym}
use Rattle.flow_manifest.specs.Slots.{reads_of}
use Rattle.flow_export.specs.Asked.{AreUnexported, KeepsArchive}
use Rattle.flow_export.proofs.AskedFor.{asked_alone, some_ended, some_written, unopened_messages}
use Rattle.flow_export.proofs.asking.export.Goals as goal

pub returns-in-Ok-clause-exact : goal.returns-in-Ok-clause-exact
returns-in-Ok-clause-exact g c = λ honest.
    c.ask_messages-asked.ensures.exact (c.in-Ok.ensures.honest ∙ honest) (reads_of (g.D.Disk.held c.args.disk))
    (c.in-Ok.ensures.read honest)

pub returns-in-Ok-clause-refused : goal.returns-in-Ok-clause-refused
returns-in-Ok-clause-refused g c = λ honest.
    c.ask_messages-asked.ensures.refused (c.in-Ok.ensures.honest ∙ honest) (reads_of (g.D.Disk.held c.args.disk))
    (c.in-Ok.ensures.read honest)

pub returns-in-Ok-clause-any_moment : goal.returns-in-Ok-clause-any_moment
returns-in-Ok-clause-any_moment g c =
    subst (λ d. KeepsArchive g.D.Disk c.args.disk d)
    (sym (c.into_disk.ensures ∙ c.ask_messages-asked.ensures.disk)) c.in-Ok.ensures.any_moment

pub returns-in-Ok-clause-opening : goal.returns-in-Ok-clause-opening
returns-in-Ok-clause-opening g c =
    asked_alone (g.D.Disk.faults c.args.disk) (g.D.Disk.faults c.in-Ok.archive.disk) (g.D.Disk.faults c.into_disk.result)
    c.ask_messages-asked.result c.in-Ok.ensures.cause.done
    (ap g.D.Disk.faults (c.into_disk.ensures ∙ c.ask_messages-asked.ensures.disk)) c.ask_messages-asked.ensures.asking

pub returns-in-Err-clause-refused : goal.returns-in-Err-clause-refused
returns-in-Err-clause-refused g c = λ honest.
    let output = g.W.Write.contents c.args.output.now in
    let reads = reads_of (g.D.Disk.held c.args.disk) in
    subst (λ e. AreUnexported reads c.args.span.now output output e) (sym c.from.ensures)
    (unopened_messages reads output c.in-Err.refused.error (c.in-Err.ensures.told honest) c.args.span.now)

pub returns-in-Ok-clause-written : goal.returns-in-Ok-clause-written
returns-in-Ok-clause-written g c =
    some_written _ _ c.args.span.now (g.W.Write.contents c.args.output.now)
    (g.W.Write.contents c.ask_messages-asked.new.output) c.ask_messages-asked.result
    c.ask_messages-asked.ensures.written

pub returns-in-Ok-clause-some : goal.returns-in-Ok-clause-some
returns-in-Ok-clause-some g c =
    some_ended _ _ c.args.span.now (g.W.Write.contents c.args.output.now)
    (g.W.Write.contents c.ask_messages-asked.new.output) c.ask_messages-asked.result c.ask_messages-asked.ensures.some
