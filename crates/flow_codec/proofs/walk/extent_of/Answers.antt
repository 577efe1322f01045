use Rattle.std.proofs.Common.{◌∙◌, sym, arith}
use Rattle.flow_codec.specs.Reading.{Gives, extent_at}
use Rattle.flow_codec.proofs.Extents.{by_steps, all_fixed}
use Rattle.flow_codec.proofs.Ways.{its_places, its_steps}
use Rattle.flow_codec.proofs.WholeRecords.{seen, whole_of}
use Rattle.flow_codec.proofs.walk.extent_of.Goals as goal

pub returns-in-ByPlaces : goal.returns-in-ByPlaces
returns-in-ByPlaces c =
    let fields = c.args.definition.now.fields in
    let fixed = its_places fields c.plan-plan.result.now c.plan-plan.ensures c.in-ByPlaces.field-0 c.in-ByPlaces.is in
    let exact : Gives seen c.octets_at.result (extent_at c.args.at fields c.args.octets.now) =
    rw (← all_fixed c.args.at fields c.args.octets.now fixed.0) (rw c.plan-plan.ensures at c.octets_at.ensures) in
    record {
      exact = exact;
      whole = whole_of c.args.at c.args.definition.now c.args.octets.now c.octets_at.result
          (λ i. omega (arith, c.type_inv.octets i)) exact;
    }

pub returns-in-BySteps : goal.returns-in-BySteps
returns-in-BySteps c =
    let fields = c.args.definition.now.fields in
    let steps = c.as_slice.ensures
    ∙ sym (its_steps fields c.plan-plan.result.now c.plan-plan.ensures c.in-BySteps.steps c.in-BySteps.is) in
    let exact : Gives seen c.stepped_over.result (extent_at c.args.at fields c.args.octets.now) =
    rw (← by_steps c.args.at fields c.args.octets.now) (rw steps at c.stepped_over.ensures) in
    record {
      exact = exact;
      whole = whole_of c.args.at c.args.definition.now c.args.octets.now c.stepped_over.result
          (λ i. omega (arith, c.type_inv.octets i)) exact;
    }
