use Rattle.std.proofs.Common.{rules, ◌∙◌, ◌++◌, ◌∷◌, [], List, Option, ap}
use Rattle.flow_columns.specs.declared.column.Column.{Column}
use Rattle.flow_columns.specs.Columns.{columns_of}
use Rattle.flow_columns.proofs.Naming.{column_taken, last_column}
use Rattle.flow_columns.proofs.columns.push_columns.Goals as goal

pub names-preserved : goal.names-preserved
names-preserved c = record {
  text = search rules;
  same =
      ap (λ (l : List (Option Column)). l ++ columns_of c.in-Some.more.now)
      (c.in_ok-push.ensures.items
      ∙ ap (λ (o : Option Column). c.names.columns.items ++ o ∷ []) c.column_of.ensures)
      ∙ column_taken c.names.rest.now c.in-Some.name.now c.in-Some.more.now c.in-Some.ensures.first
      c.in-Some.ensures.rest c.in-Some.ensures.some c.names.columns.items _ c.names.invariant.same;
}

pub returns : goal.returns
returns c =
    c.in_ok-push-2.ensures.items
    ∙ ap (λ (o : Option Column). c.names.columns.items ++ o ∷ []) c.column_of-2.ensures
    ∙ last_column c.names.rest.now c.in_default.ensures.none c.names.columns.items _ c.names.invariant.same
