-- Each row of a rolled file is one flow.
use Rattle.std.proofs.Common.{◌≡◌, ℕ, ◌*◌, ◌^◌, ◌<◌, ◌≤◌, Bool, true, false, inl, inr, List, [], ◌∷◌, ◌++◌, map, Option}
use Rattle.std.proofs.Common.{Some, None, refl, sym, ap, ◌∙◌, arith}
use Rattle.std.specs.Prelude.{filter, is_some, nat_le, ◌/◌}
use Rattle.std.specs.List.{AllByRecursion, filter_map}
use Rattle.std.specs.Int.{w64, to_be_bytes}
use Rattle.std.proofs.lemmas.List.{map-append}
use Rattle.flow_codec.specs.declared.message.Field.{Field}
use Rattle.flow_codec.specs.Fields.{fields_in}
use Rattle.flow_codec.specs.Message.{interpreted, in_fields}
use Rattle.flow_rolled.specs.declared.row.RolledRow.{RolledRow}
use Rattle.flow_rolled.specs.Octets.{row_octets, has_protocol, has_none, IsOf, AreOf, IsRolledMessage}
use Rattle.flow_rolled.specs.Messages.{RolledMessage, rows_within}
use Rattle.flow_rolled.specs.Rows.{IsTable, most, IsRow, rows_in}
use Rattle.flow_rolled.specs.Rollup.{table_messages}
use Rattle.flow_measure.specs.Sums.{Table}
use Rattle.flow_codec.proofs.Steps.{by_bool}
use Rattle.std.proofs.lemmas.Bool.{leb-false}
use Rattle.flow_rolled.proofs.Breaking.{file_parts, all_parts}
use Rattle.flow_rolled.specs.AsFile.{with_protocol, without_protocol, rows_under, records_of, message_of, messages_of}
use Rattle.flow_rolled.specs.AsFile.{flow_of_row, flows_within}
use Rattle.std.proofs.lemmas.Nat.{from_be_bytes-to_be_bytes_8}
use Rattle.std.proofs.lemmas.List.Elements.{filter_map-append}
use Rattle.flow_elements.specs.Values.{number_of}
use Rattle.flow_codec.specs.declared.message.Header.{Header}
use Rattle.flow_codec.specs.Plan.{values_of}
use Rattle.flow_codec.proofs.FieldLaws.{fields_are}
use Rattle.flow_measure.specs.Flows.{start_of, flow_from, flow_of_record, flows_of}
use Rattle.flow_rolled.proofs.RowRecords.{id_of, layout_of, row_by, whole_with, whole_none}

eight_again : (n : ℕ) → n ≤ most → number_of (to_be_bytes w64 n) ≡ n
eight_again n small = from_be_bytes-to_be_bytes_8 n (omega (arith, small))

one_again : (n : ℕ) → number_of (n ∷ []) ≡ n
one_again n = omega arith

start_again : (time n s : ℕ) (seconds : Option ℕ) → n ≡ s * 1000 → s < 2 ^ 32 → start_of time (Some n) seconds ≡ s
start_again time n s seconds is small =
    let e : n / 1000 ≡ s = omega (arith, is) in
    elim (by_bool (nat_le (n / 1000) 4294967295)) [
      | inl yes_le ↦ rw yes_le e
      | inr past ↦ let gt = leb-false (n / 1000) 4294967295 past in absurd (omega (arith, gt, e, small))
    ]

flow_with : (header : Header) (w : ℕ) (r : RolledRow) (p : ℕ) → IsRow w r
    → flow_from header (values_of (fields_in with_protocol.fields (row_by w (Some p) r))) ≡ record {
      domain = header.domain;
      start = r.key.start;
      protocol = Some p;
      octets = r.octets;
      packets = r.packets;
    }
unfolding whole_with
flow_with header w r p h =
    let whole = whole_with w r p in
    let start = h.start in
    let first = from_be_bytes-to_be_bytes_8 (r.key.start * 1000) (omega (arith, start)) in
    ap (λ (fs : List Field). flow_from header (values_of fs))
    (sym (fields_are with_protocol.fields (row_by w (Some p) r) whole.0 whole.1))
    ∙ (λ i. record {
      domain = header.domain;
      start = start_again header.time (number_of (to_be_bytes w64 (r.key.start * 1000))) r.key.start None first
          h.start i;
      protocol = Some (one_again p i);
      octets = eight_again r.octets h.octets i;
      packets = eight_again r.packets h.packets i;
    })

flow_none : (header : Header) (w : ℕ) (r : RolledRow) → IsRow w r
    → flow_from header (values_of (fields_in without_protocol.fields (row_by w None r))) ≡ record {
      domain = header.domain;
      start = r.key.start;
      protocol = None;
      octets = r.octets;
      packets = r.packets;
    }
unfolding whole_none
flow_none header w r h =
    let whole = whole_none w r in
    let start = h.start in
    let first = from_be_bytes-to_be_bytes_8 (r.key.start * 1000) (omega (arith, start)) in
    ap (λ (fs : List Field). flow_from header (values_of fs))
    (sym (fields_are without_protocol.fields (row_by w None r) whole.0 whole.1))
    ∙ (λ i. record {
      domain = header.domain;
      start = start_again header.time (number_of (to_be_bytes w64 (r.key.start * 1000))) r.key.start None first
          h.start i;
      protocol = None;
      octets = eight_again r.octets h.octets i;
      packets = eight_again r.packets h.packets i;
    })

-- a row's flow
row_flow : (header : Header) (w d : ℕ) (b : Bool) (r : RolledRow) → header.domain ≡ d → IsOf w d b r
    → flow_from header (values_of (fields_in (layout_of b).fields (row_octets w r))) ≡ flow_of_row r
row_flow header w d b r here h = by b r.key.protocol h.kind ∙ (λ i. record {
  domain = (here ∙ sym h.own) i;
  start = r.key.start;
  protocol = r.key.protocol;
  octets = r.octets;
  packets = r.packets;
})
  where
    by : (b : Bool) (o : Option ℕ) → is_some o ≡ b
        → flow_from header (values_of (fields_in (layout_of b).fields (row_by w o r))) ≡ record {
          domain = header.domain;
          start = r.key.start;
          protocol = o;
          octets = r.octets;
          packets = r.packets;
        }
    by true None e = absurd cc
    by true (Some p) e = flow_with header w r p h.row
    by false None e = flow_none header w r h.row
    by false (Some p) e = absurd cc

flows_under : (header : Header) (w d : ℕ) (b : Bool) (rows : List RolledRow) → header.domain ≡ d
    → AllByRecursion (IsOf w d b) rows
    → filter_map (flow_of_record header) (map interpreted (rows_under w (id_of b) (layout_of b) rows))
    ≡ map flow_of_row rows
flows_under header w d true [] here h = refl
flows_under header w d true (r ∷ rs) here h =
    (λ i. row_flow header w d true r here h.0 i ∷ flows_under header w d true rs here h.1 i)
flows_under header w d false [] here h = refl
flows_under header w d false (r ∷ rs) here h =
    (λ i. row_flow header w d false r here h.0 i ∷ flows_under header w d false rs here h.1 i)

-- the flows of a message
message_flows : (w : ℕ) (header : Header) (rows : List RolledRow) → AreOf w header.domain rows
    → flows_of (in_fields (record { header = header; records = records_of w rows })) ≡ map flow_of_row rows
message_flows w header [] h = refl
message_flows w header (r ∷ rs) h =
    let xs = filter has_protocol (r ∷ rs) in
    let ys = filter has_none (r ∷ rs) in
    let a = rows_under w 256 with_protocol xs in
    let b = rows_under w 257 without_protocol ys in
    ap (filter_map (flow_of_record header)) (map-append interpreted a b)
    ∙ filter_map-append (flow_of_record header) (map interpreted a) (map interpreted b)
    ∙ (λ i. flows_under header w header.domain true xs refl h.with i
    ++ flows_under header w header.domain false ys refl h.without i)
    ∙ sym (map-append flow_of_row xs ys) ∙ ap (map flow_of_row) h.parted

parts_flows : (w : ℕ) (ps : List RolledMessage) → AllByRecursion (IsRolledMessage w) ps
    → flows_within (messages_of w ps) ≡ map flow_of_row (rows_within ps)
parts_flows w [] h = refl
parts_flows w (p ∷ ps) h =
    (λ i. message_flows w (message_of w p).header p.rows h.0.rows i ++ parts_flows w ps h.1 i)
    ∙ sym (map-append flow_of_row p.rows (rows_within ps))

pub rolled_flows : (t : Table) (time : ℕ) → IsTable t → time < 2 ^ 32
    → flows_within (messages_of t.width (table_messages t time)) ≡ map flow_of_row (rows_in t.sums)
rolled_flows t time valid small =
    let file = file_parts t time small valid in
    parts_flows t.width (table_messages t time) (all_parts t.width None (table_messages t time) tt file.follow)
    ∙ ap (map flow_of_row) file.same
