use Rattle.std.proofs.Common.{◌∙◌, arith, sym}
use Rattle.flow_export.proofs.Spanning.{end_holds, next_holds, none_holds, one_holds, sets_begin}
use Rattle.flow_export.proofs.sets.holds_templates.Goals as goal

pub loop-set-init : goal.loop-set-init
loop-set-init c = sets_begin c.min.result c.args.octets.now c.min.ensures

pub returns-in-Some : goal.returns-in-Some
returns-in-Some c =
    one_holds c.args.octets.now c.loop-set.rest.now c.loop-set.set c.loop-set.invariant c.in-Some.id
    c.loop-set-test.true c.in-Some.ensures.some c.in-Some.ensures.id
    (sym c.is_of_templates.ensures ∙ c.if-is_of_templates.true)

pub returns-in-None : goal.returns-in-None
returns-in-None c =
    none_holds c.args.octets.now c.loop-set.rest.now c.loop-set.set c.loop-set.invariant c.in-None.ensures.none

pub loop-set-preserved : goal.loop-set-preserved
loop-set-preserved c =
    next_holds c.args.octets.now c.loop-set.rest.now c.loop-set.set c.loop-set.invariant c.in-Some.id
    c.in-Some.field-0-1.now c.loop-set-test.true c.in-Some.ensures.some c.in-Some.ensures.id c.in-Some.ensures.after
    (sym c.is_of_templates.ensures ∙ c.if-is_of_templates.false)

pub returns : goal.returns
returns c =
    end_holds c.args.octets.now c.loop-set.rest.now c.loop-set.set c.loop-set.invariant
    (omega (arith, c.loop-set-test.false, c.loop-set.auto.set-end))
