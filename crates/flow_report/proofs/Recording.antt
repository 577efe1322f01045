-- The parts of the lines of flows' records.
use Rattle.std.proofs.Common.{◌≡◌, ℕ, ◌+◌, ◌<◌, ◌≤◌, List, [], ◌∷◌, ◌++◌, length, drop, get_or, refl, sym, ap, ◌∙◌}
use Rattle.std.proofs.Common.{append_assoc, add-one, drop-cons}
use Rattle.std.proofs.lemmas.List.{drop_all}
use Rattle.std.specs.Fmt.{decimal}
use Rattle.std.specs.List.{flat_map}
use Rattle.std.specs.Prelude.{unwrap_or, Option, Some, None}
use Rattle.flow_elements.specs.declared.element.ElementId.{ElementId}
use Rattle.flow_elements.specs.Elements.{name_of}
use Rattle.flow_elements.specs.Values.{value_of as value_by_id}
use Rattle.flow_codec.specs.Fields.{value_of, fields_in}
use Rattle.flow_report.specs.declared.format.Times.{Times}
use Rattle.flow_report.specs.Formats.{second_text}
use Rattle.flow_report.specs.Lines.{name_text, number_text, record_line}
use Rattle.flow_report.specs.Records.{json_field, json_line, json_start, json_value, words_line, Started}

abbrev pub flow_text : Times → Started → List ℕ
flow_text times s = second_text times s.0 ++ 32 ∷ decimal s.1.0.domain ++ 32 ∷ []

pub words_parts : (times : Times) (s : Started) → words_line times s ≡ flow_text times s ++ record_line s.1.1
unfolding words_line
words_parts times s =
    sym (append_assoc (second_text times s.0 ++ 32 ∷ decimal s.1.0.domain) (32 ∷ []) (record_line s.1.1))

abbrev pub json_fields : List (ElementId × ℕ) → List ℕ → List ℕ
json_fields fs octets = flat_map json_field (fields_in fs octets)

pub json_parts : (times : Times) (s : Started) → json_line times s
    ≡ (json_start times s.0 s.1.0.domain s.1.1.id ++ json_fields s.1.1.layout.fields s.1.1.octets) ++ 125 ∷ 10 ∷ []
unfolding json_line
json_parts times s = refl

pub next_json : (fs : List (ElementId × ℕ)) (i : ℕ) (d : ElementId × ℕ) (octets : List ℕ) → i < length fs
    → json_fields (drop i fs) octets ≡ json_field (record {
      id = (get_or fs i d).0;
      octets =
          (value_of (get_or fs i d).1 octets).0;
    }) ++ json_fields (drop (i + 1) fs) (value_of (get_or fs i d).1 octets).1
unfolding fields_in
next_json fs i d octets lt = let split : drop i fs ≡ get_or fs i d ∷ drop (i + 1) fs =
    rw add-one (drop-cons fs i d lt) in rw split refl

pub no_json : (fs : List (ElementId × ℕ)) (i : ℕ) (octets : List ℕ) → length fs ≤ i
    → json_fields (drop i fs) octets ≡ []
unfolding fields_in
no_json fs i octets le = let none : drop i fs ≡ [] = drop_all i fs le in rw none refl

-- ---- names

pub name_listed : (id : ElementId) (name : List ℕ) → Some name ≡ name_of id → name ≡ name_text id
unfolding name_text
name_listed id name is =
    ap (λ (o : Option (List ℕ)). unwrap_or o (number_text id.enterprise id.number)) is

pub name_numbered : (id : ElementId) → None ≡ name_of id → number_text id.enterprise id.number ≡ name_text id
unfolding name_text
name_numbered id is =
    ap (λ (o : Option (List ℕ)). unwrap_or o (number_text id.enterprise id.number)) is

-- a name, and then a value
pub field_pushed : (old mid new : List ℕ) (id : ElementId) (octets : List ℕ)
    → mid ≡ old ++ (44 ∷ 34 ∷ name_text id ++ 34 ∷ 58 ∷ []) → new ≡ mid ++ json_value (value_by_id id octets)
    → new ≡ old ++ json_field (record { id = id; octets = octets })
unfolding json_field
field_pushed old mid new id octets first more =
    let value = json_value (value_by_id id octets) in
    more ∙ ap (λ (l : List ℕ). l ++ value) first
    ∙ append_assoc old (44 ∷ 34 ∷ name_text id ++ 34 ∷ 58 ∷ []) value
    ∙ ap (λ (l : List ℕ). old ++ l) (append_assoc (44 ∷ 34 ∷ name_text id) (34 ∷ 58 ∷ []) value)
