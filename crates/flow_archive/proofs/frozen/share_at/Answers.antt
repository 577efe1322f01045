use Rattle.std.proofs.Common.{rules}
use Rattle.flow_archive.proofs.Marking.{put_back}
use Rattle.flow_archive.proofs.frozen.share_at.Goals as goal

pub returns-clause-same : goal.returns-clause-same
returns-clause-same g c =
    put_back c.args.files.now.items c.remove-file.new.self.items c.insert.new.self.items c.args.place c.remove-file.result
    c.shared.result (search rules) c.remove-file.ensures.value c.remove-file.ensures.by_index.2 c.in-Ok.ensures.items
    c.shared.ensures
