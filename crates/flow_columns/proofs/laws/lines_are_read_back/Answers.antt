use Rattle.flow_columns.proofs.Named.{asked_by_name}
use Rattle.flow_columns.proofs.Plain.{parts_are, values_plain}
use Rattle.flow_columns.proofs.laws.lines_are_read_back.Goals as goal

pub returns-clause-plain : goal.returns-clause-plain
returns-clause-plain c = λ times s column. values_plain times s column

pub returns-clause-parts : goal.returns-clause-parts
returns-clause-parts c = λ times s column columns. parts_are times s column columns

pub returns-clause-names : goal.returns-clause-names
returns-clause-names c = λ id is. asked_by_name id is
