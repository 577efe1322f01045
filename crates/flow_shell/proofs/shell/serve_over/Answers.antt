use Rattle.std.proofs.Common.{inl}
use Rattle.flow_shell.proofs.shell.serve_over.Goals as goal

pub returns-clause-asked : goal.returns-clause-asked
returns-clause-asked g c = inl (c.new-disk.result, c.serve_disk.ensures.asked)
