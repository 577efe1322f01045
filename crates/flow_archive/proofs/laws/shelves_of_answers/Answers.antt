use Rattle.flow_archive.proofs.Shelves.{appended_law, installed_law, sealed_law}
use Rattle.flow_archive.proofs.laws.shelves_of_answers.Goals as goal

pub returns-clause-appended : goal.returns-clause-appended
returns-clause-appended c = appended_law

pub returns-clause-sealed : goal.returns-clause-sealed
returns-clause-sealed c = sealed_law

pub returns-clause-installed : goal.returns-clause-installed
returns-clause-installed c = installed_law
