use Rattle.std.proofs.Common.{inl, inr}
use Rattle.std.proofs.KnownBytes.{Keeps-refl}
use Rattle.flow_shell.proofs.Unserved.{unopened}
use Rattle.flow_shell.proofs.shell.serve_disk.Goals as goal

pub returns-in-Ok-clause-asked : goal.returns-in-Ok-clause-asked
returns-in-Ok-clause-asked g c = elim c.serve_archive.ensures.asked [
  | inl served ↦ inl (c.in-Ok.archive.state, c.in-Ok.ensures.read, served)
  | inr unserved ↦ inr unserved
]

pub returns-in-Err-clause-asked : goal.returns-in-Err-clause-asked
returns-in-Err-clause-asked g c =
    inr (rw c.from.ensures (unopened c.in-Err.refused.error), Keeps-refl (g.W.Write.contents c.args.output.now))
