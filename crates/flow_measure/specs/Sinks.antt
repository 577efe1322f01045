-- Sinks that take the flows of data records, and what they refuse.
use Rattle.std.specs.Prelude.{◌≡◌, List, [], ◌∷◌, ◌++◌}
use Rattle.std.specs.List.{AllByRecursion}
use Rattle.flow_codec.specs.Raw.{Placed}
use Rattle.flow_measure.specs.declared.error.SumError.{SumError}
use Rattle.flow_measure.specs.declared.flow.Flow.{Flow}
use Rattle.flow_measure.specs.Flows.{FlowFits, flows_of_records}
use Rattle.flow_measure.specs.Sums.{Table, AreSums, IsRefused, table_of}

-- Rows took the flows of these records: of whatever flows they were the sums at the start, now they are of these too.
abbrev pub TookFlows : Table → List Placed → Table → Type 0
TookFlows start taken now =
    (now.width ≡ start.width)
    × ((flows : List Flow) → AreSums start flows → AreSums now (flows ++ flows_of_records taken))
    × AllByRecursion FlowFits (flows_of_records taken)

-- rows refuse sums that would include this record's flow
abbrev pub RefuseFlow : Table → List Placed → Placed → SumError → Type 0
RefuseFlow start taken x e =
    ((flows : List Flow) → AreSums start flows
    → IsRefused e (table_of start.width (flows ++ flows_of_records (taken ++ x ∷ []))))
    × AllByRecursion FlowFits (flows_of_records (taken ++ x ∷ []))
