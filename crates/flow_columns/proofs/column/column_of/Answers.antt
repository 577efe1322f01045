use Rattle.std.proofs.Common.{◌∙◌, ap}
use Rattle.std.specs.Prelude.{option_map}
use Rattle.flow_columns.specs.declared.column.Column.TheVariants.{Element}
use Rattle.flow_columns.proofs.Naming.{other_column}
use Rattle.flow_columns.proofs.column.column_of.Goals as goal

pub returns-in_default : goal.returns-in_default
returns-in_default c =
    c.column_by.ensures ∙ ap (option_map Element) c.element_of.ensures
    ∙ other_column c.args.name.now c.in_default.not-start c.in_default.not-domain c.in_default.not-template
