use Rattle.flow_archive.proofs.Marked.{appended_mark, installed_mark, sealed_mark}
use Rattle.flow_archive.proofs.laws.marks_of_answers.Goals as goal

pub returns-clause-appended : goal.returns-clause-appended
returns-clause-appended c = appended_mark

pub returns-clause-sealed : goal.returns-clause-sealed
returns-clause-sealed c = sealed_mark

pub returns-clause-installed : goal.returns-clause-installed
returns-clause-installed c = installed_mark
