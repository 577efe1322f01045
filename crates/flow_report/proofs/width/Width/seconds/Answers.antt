use Rattle.flow_report.proofs.width.Width.seconds.Goals as goal

pub returns-clause-some : goal.returns-clause-some
returns-clause-some c = c.self.invariant.0

pub returns-clause-most : goal.returns-clause-most
returns-clause-most c = c.self.invariant.1
