-- The text of a field, by what is known of its element.
use Rattle.std.proofs.Common.{◌≡◌, ℕ, ◌+◌, ◌≤◌, List, [], ◌∷◌, ◌++◌, Option, Some, None, length, drop}
use Rattle.std.proofs.Common.{refl, sym, ap, ◌∙◌, append_assoc, true≢false, is_some, arith}
use Rattle.std.specs.Prelude.{option_map, unwrap_or}
use Rattle.std.specs.Option.{option_map_or}
use Rattle.std.proofs.lemmas.List.{drop-drop, drop-append-le}
use Rattle.flow_elements.specs.declared.element.ElementId.{ElementId}
use Rattle.flow_elements.specs.declared.element.ElementType.{ElementType}
use Rattle.flow_elements.specs.declared.element.ElementType.TheVariants.{Other}
use Rattle.flow_elements.specs.Elements.{Listed, find_listed}
use Rattle.flow_elements.specs.Lending.{listed_of}
use Rattle.flow_elements.specs.Values.{value_by}
use Rattle.flow_report.specs.Lines.{octets_text, value_text, number_text, name_text, field_text}
use Rattle.flow_report.specs.Telling.{IsPut}

-- the rest of a text that was put, without its first octets
pub put_tail : (old new : List ℕ) (at s n : ℕ) (text : List ℕ) → IsPut old at new s text → s + length text ≡ at
    → n ≤ length text → IsPut old at new (s + n) (drop n text)
put_tail old new at s n text put size short = record {
  before = omega (arith, size, short);
  parts = sym (drop-drop n s new) ∙ ap (λ (l : List ℕ). drop n l) put.parts ∙ drop-append-le n text (drop at old) short;
}

-- a text that was put, without its first octet
pub put_rest : (old new : List ℕ) (at s x : ℕ) (text : List ℕ) → IsPut old at new s (x ∷ text) → s + 1 ≤ at
    → IsPut old at new (s + 1) text
put_rest old new at s x text put room = record {
  before = room;
  parts = sym (drop-drop 1 s new) ∙ ap (λ (l : List ℕ). drop 1 l) put.parts;
}

-- ---- the two kinds of elements

abbrev pub label_of : List ℕ × ElementType → List ℕ × ElementType
label_of e = (32 ∷ e.0 ++ 61 ∷ [], e.1)

pub listed_field : (id : ElementId) (text : List ℕ) (kind : ElementType) (octets : List ℕ)
    → Some (text, kind) ≡ option_map label_of (listed_of id)
    → field_text (record { id = id; octets = octets }) ≡ text ++ value_text (value_by kind octets)
unfolding field_text name_text
listed_field id text kind octets h =
    named (find_listed id.enterprise id.number) text kind octets (number_text id.enterprise id.number) h
  where
    named : (f : Option Listed) (text : List ℕ) (kind : ElementType) (octets number : List ℕ)
        → Some (text, kind) ≡ option_map label_of (option_map (λ e. (e.name, e.kind)) f)
        → 32 ∷ unwrap_or (option_map (λ e. e.name) f) number
        ++ 61 ∷ value_text (value_by (option_map_or (λ e. e.kind) f Other) octets)
        ≡ text ++ value_text (value_by kind octets)
    named None text kind octets number h = absurd (true≢false (ap is_some h))
    named (Some e) text kind octets number h =
        let same : text ≡ 32 ∷ e.name ++ 61 ∷ [] = ap (λ (r : Option (List ℕ × ElementType)). (unwrap_or r (text, kind)).0) h in
        let type : kind ≡ e.kind = ap (λ (r : Option (List ℕ × ElementType)). (unwrap_or r (text, kind)).1) h in
        rw (same, type) (ap (λ (l : List ℕ). 32 ∷ l) (sym (append_assoc e.name (61 ∷ []) (value_text (value_by e.kind octets)))))

pub other_field : (id : ElementId) (octets : List ℕ) → None ≡ option_map label_of (listed_of id)
    → field_text (record { id = id; octets = octets })
    ≡ 32 ∷ number_text id.enterprise id.number ++ 61 ∷ octets_text octets
unfolding field_text name_text
other_field id octets h =
    numbered (find_listed id.enterprise id.number) octets (number_text id.enterprise id.number) h
  where
    numbered : (f : Option Listed) (octets number : List ℕ)
        → None ≡ option_map label_of (option_map (λ e. (e.name, e.kind)) f)
        → 32 ∷ unwrap_or (option_map (λ e. e.name) f) number
        ++ 61 ∷ value_text (value_by (option_map_or (λ e. e.kind) f Other) octets)
        ≡ 32 ∷ number ++ 61 ∷ octets_text octets
    numbered None octets number h = refl
    numbered (Some e) octets number h = absurd (true≢false (sym (ap is_some h)))
