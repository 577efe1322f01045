use Rattle.std.proofs.Common.{rules, ◌∙◌}
use Rattle.flow_columns.proofs.Naming.{known_passed, last_known, last_unknown, unknown_found}
use Rattle.flow_columns.proofs.names.first_unknown.Goals as goal

pub returns-then-not-is_known : goal.returns-then-not-is_known
returns-then-not-is_known c =
    unknown_found c.names.rest.now c.in-Some.name.now c.in-Some.more.now c.in-Some.ensures.first c.in-Some.ensures.rest
    c.in-Some.ensures.some c.is_known.result c.is_known.ensures c.if-not-is_known.true
    ∙ c.names.invariant.same

pub names-preserved : goal.names-preserved
names-preserved c = record {
  text = search rules;
  same =
      known_passed c.names.rest.now c.in-Some.name.now c.in-Some.more.now c.in-Some.ensures.first
      c.in-Some.ensures.rest c.in-Some.ensures.some c.is_known.result c.is_known.ensures c.if-not-is_known.false
      ∙ c.names.invariant.same;
}

pub returns-then-not-is_known-2 : goal.returns-then-not-is_known-2
returns-then-not-is_known-2 c =
    last_unknown c.names.rest.now c.in_default.ensures.none c.is_known-2.result c.is_known-2.ensures
    c.if-not-is_known-2.true
    ∙ c.names.invariant.same

pub returns : goal.returns
returns c =
    last_known c.names.rest.now c.in_default.ensures.none c.is_known-2.result c.is_known-2.ensures
    c.if-not-is_known-2.false
    ∙ c.names.invariant.same
