use Rattle.std.proofs.Common.{arith}
use Rattle.flow_report.proofs.Fields.{put_tail}
use Rattle.flow_report.proofs.line.put_label.Goals as goal

pub returns-clause-put : goal.returns-clause-put
returns-clause-put c =
    put_tail c.args.line.now c.put_whole.new.line c.args.at c.put_whole.result c.args.label.before c.args.label.octets.now
    c.put_whole.ensures.put c.put_whole.ensures.room (omega (arith, c.put_whole.ensures.len, c.requires))
