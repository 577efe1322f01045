-- The sums of the flows of few messages fit their types.
use Rattle.std.proofs.Common.{ℕ, ◌+◌, ◌*◌, ◌<◌, ◌≤◌, ◌^◌, List, [], ◌∷◌, ◌++◌, length, sym, ap, subst, arith}
use Rattle.std.specs.List.{AllByRecursion}
use Rattle.std.proofs.lemmas.List.{length-append, length-map}
use Rattle.flow_codec.specs.Message.{in_fields}
use Rattle.flow_codec.specs.Raw.{under, Placed, RawRecord}
use Rattle.flow_codec.specs.Templates.{AllTemplates}
use Rattle.flow_codec.proofs.Sizes.{few_records, short_enough}
use Rattle.flow_measure.specs.declared.flow.Flow.{Flow}
use Rattle.flow_measure.specs.Flows.{flows_of, FlowFits}
use Rattle.flow_measure.specs.History.{Accepted, AreAcceptedFrom, flows_in}
use Rattle.flow_measure.specs.Sums.{table_of, AllFit}
use Rattle.flow_measure.proofs.FewFlows.{few_fit}
use Rattle.flow_measure.proofs.SinkSteps.{fit_both, flows_few, flows-in_fields}
use Rattle.flow_measure.proofs.SumLaws.{merged-table_of}
use Rattle.flow_segment.specs.PartFlows.{with_flows}

few_flows : (before : AllTemplates) (messages : List Accepted) → AreAcceptedFrom before messages
    → length (flows_in messages) ≤ 65536 * length messages
few_flows before [] h = omega arith
few_flows before (a ∷ more) h =
    let m = a.message in
    let records = few_records a.octets before m a.after h.0.0 in
    let short = short_enough a.octets before m a.after h.0.0 in
    let few = flows_few (under m.header m.records) in
    let same = ap length (flows-in_fields m) in
    omega (
      arith,
      length-append (flows_of (in_fields m)) (flows_in more),
      same,
      few,
      length-map {B = Placed} m.records (λ (r : RawRecord). (m.header, r)),
      records,
      short.1,
      few_flows a.after more h.1,
    )

pub few_fit_behind : (width : ℕ) (before : AllTemplates) (flows : List Flow) (messages : List Accepted)
    → AreAcceptedFrom before messages → AllByRecursion FlowFits flows → AllByRecursion FlowFits (flows_in messages)
    → length flows + 65536 * length messages < 2 ^ 64
    → AllFit (with_flows (flows_in messages) (table_of width flows))
few_fit_behind width before flows messages are fits fit few =
    subst AllFit (sym (merged-table_of width flows (flows_in messages)))
    (few_fit width (flows ++ flows_in messages) (fit_both flows (flows_in messages) fits fit)
    (omega (arith, few, few_flows before messages are, length-append flows (flows_in messages))))
