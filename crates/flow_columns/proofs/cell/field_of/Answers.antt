use Rattle.std.proofs.Common.{◌∙◌, None}
use Rattle.flow_columns.proofs.Making.{field_found, field_passed, no_field}
use Rattle.flow_columns.proofs.cell.field_of.Goals as goal

pub returns-then-is_same : goal.returns-then-is_same
returns-then-is_same c =
    field_found c.args.id c.args.specifiers.now c.loop-of.of-index (
      record { enterprise = None; number = 0 },
      0,
    ) c.loop-of.rest.now c.loop-of-test.true c.split_field.result.0.now c.is_same.result c.split_field.ensures.value
    c.is_same.ensures c.if-is_same.true
    ∙ c.loop-of.invariant

pub loop-of-preserved : goal.loop-of-preserved
loop-of-preserved c =
    field_passed c.args.id c.args.specifiers.now c.loop-of.of-index (
      record { enterprise = None; number = 0 },
      0,
    ) c.loop-of.rest.now c.loop-of-test.true c.split_field.result.1.now c.is_same.result c.split_field.ensures.rest
    c.is_same.ensures c.if-is_same.false
    ∙ c.loop-of.invariant

pub returns : goal.returns
returns c =
    no_field c.args.id c.args.specifiers.now c.loop-of.of-index c.loop-of.rest.now c.loop-of-test.false
    ∙ c.loop-of.invariant
