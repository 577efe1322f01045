use Rattle.flow_turns.proofs.WholeJobs.{answered, installed, keeps, whole_job}
use Rattle.flow_turns.proofs.laws.whole_job.Goals as goal

pub returns-clause-installed : goal.returns-clause-installed
returns-clause-installed g c = installed g.D.Disk

pub returns-clause-whole : goal.returns-clause-whole
returns-clause-whole g c = whole_job g.D.Disk

pub returns-clause-answered : goal.returns-clause-answered
returns-clause-answered g c = answered g.D.Disk

pub returns-clause-keeps : goal.returns-clause-keeps
returns-clause-keeps g c = keeps g.D.Disk
