use Rattle.std.proofs.Common.{append_assoc}
use Rattle.std.proofs.Output.{has_written_of_eq}
use Rattle.flow_shell.specs.Losses.{refused_text}
use Rattle.flow_shell.proofs.losses.PassedLinesDisplay.fmt.Goals as goal

pub returns-clause-writes : goal.returns-clause-writes
unfolding refused_text
returns-clause-writes g c plain ok =
    has_written_of_eq _ _ _ _ _ (simp append_assoc) (c.write.ensures.writes plain ok)
