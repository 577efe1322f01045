-- What is known of a rolled file without reading it.
use Rattle.std.proofs.Common.{◌≡◌, ℕ, true, ◌%◌, ◌<◌, List, Option, Some, None, subst}
use Rattle.std.specs.Prelude.{IfSome}
use Rattle.std.specs.FinMap.{get}
use Rattle.flow_measure.specs.declared.rows.Key.{Key}
use Rattle.flow_measure.specs.declared.rows.Sums.{Sums}
use Rattle.flow_measure.specs.declared.span.PartSpan.{PartSpan}
use Rattle.flow_measure.specs.Span.{is_outside}
use Rattle.flow_measure.proofs.Spanning.{none_among}
use Rattle.flow_rolled.specs.declared.row_span.RowSpan.{RowSpan}
use Rattle.flow_rolled.specs.Rollup.{IsRollup}
use Rattle.flow_rolled.specs.Rows.{IsTableEntry}
use Rattle.flow_rolled.specs.Spans.{HasSpan, IsPassedOver}

aligned : (width : ℕ) (key : Key) (o : Option Sums) → IfSome o (IsTableEntry width key)
    → IfSome o (λ _. key.start % width ≡ 0)
aligned width key None h = tt
aligned width key (Some s) h = h.aligned

pub passed_by : (s : RowSpan) (octets : List ℕ) (width from to : ℕ) → 0 < width → HasSpan s octets → s.width ≡ width
    → is_outside width from to s.span ≡ true → IsPassedOver width from to octets
passed_by s octets width from to some (table, rollup, is) same out =
    let here = subst (λ (w : ℕ). IsRollup w octets table) same rollup in (
      table,
      here,
      none_among width from to some table.sums (subst (λ (p : PartSpan). is_outside width from to p ≡ true) is out)
          (λ key. aligned width key (get table.sums key)
          (subst (λ (w : ℕ). IfSome (get table.sums key) (IsTableEntry w key)) here.width_is (here.valid key))),
    )
