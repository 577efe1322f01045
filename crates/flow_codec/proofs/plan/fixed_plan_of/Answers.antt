use Rattle.std.proofs.Common.{◌<◌, ap, ◌∙◌, arith, None, get_or}
use Rattle.flow_codec.specs.declared.plan.Places.{Places}
use Rattle.flow_codec.proofs.PlaceLoop.{plan_from, from_start, is_variable, goes_on, is_done}
use Rattle.flow_codec.proofs.plan.fixed_plan_of.Goals as goal

pub loop-id-init : goal.loop-id-init
loop-id-init c = (
  ap (λ (places : Places). plan_from places 0 c.args.fields.now) c.none-places.ensures ∙ from_start c.args.fields.now,
  omega arith,
)

pub loop-id-preserved : goal.loop-id-preserved
loop-id-preserved c =
    let field = get_or c.args.fields.now c.loop-id.id-index (record { enterprise = None; number = 0 }, 0) in
    let less : field.1 < 65535 = omega (arith, c.if-len.false) in (
      rw c.note.ensures (goes_on c.args.fields.now c.loop-id.id-index _ c.loop-id.places c.loop-id.at _
          c.loop-id.invariant.0 c.loop-id-test.true less),
      omega (arith, less, c.loop-id.invariant.1),
    )

pub returns-then-len : goal.returns-then-len
returns-then-len c = is_variable c.args.fields.now c.loop-id.id-index _ c.loop-id.places c.loop-id.at _
    c.loop-id.invariant.0 c.loop-id-test.true c.if-len.true

pub returns : goal.returns
returns c = is_done c.args.fields.now c.loop-id.id-index (record { enterprise = None; number = 0 }, 0) c.loop-id.places
    c.loop-id.at _ c.loop-id.invariant.0 c.loop-id-test.false
