use Rattle.std.proofs.Common.{append_assoc}
use Rattle.std.proofs.Output.{has_written_of_eq}
use Rattle.flow_commands.proofs.warning.LackPartDisplay.fmt.Goals as goal

pub returns-in-OfDomain-clause-writes : goal.returns-in-OfDomain-clause-writes
returns-in-OfDomain-clause-writes g c plain ok =
    rw c.in-OfDomain.is
    (has_written_of_eq _ _ _ _ _ (simp append_assoc) (c.write.ensures.writes plain ok))

pub returns-in-OfDomains-clause-writes : goal.returns-in-OfDomains-clause-writes
returns-in-OfDomains-clause-writes g c plain ok =
    rw c.in-OfDomains.is
    (has_written_of_eq _ _ _ _ _ (simp append_assoc) (c.write-in-OfDomains.ensures.writes plain ok))

pub returns-in-Gaps-clause-writes : goal.returns-in-Gaps-clause-writes
returns-in-Gaps-clause-writes g c plain ok =
    rw c.in-Gaps.is (has_written_of_eq _ _ _ _ _ (simp append_assoc) (c.write-in-Gaps.ensures.writes plain ok))
