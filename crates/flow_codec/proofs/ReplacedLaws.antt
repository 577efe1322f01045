-- The template records of a message that replace a definition, by reading and by its Sets.
use Rattle.std.proofs.Common.{◌≡◌, ◌≢◌, ℕ, zero, suc, ◌+◌, ◌-◌, ◌≤◌, true, false, List, [], ◌∷◌, ◌++◌, length, None, Some}
use Rattle.std.proofs.Common.{Option, refl, sym, ap, subst, ◌∙◌, append_assoc, arith, inl, inr}
use Rattle.std.proofs.lemmas.List.{append-nil, length-append}
use Rattle.std.proofs.lemmas.List.Concat.{flat_map-cons}
use Rattle.flow_codec.specs.declared.kind.TemplateKind.{TemplateKind}
use Rattle.flow_codec.specs.declared.kind.TemplateKind.TheVariants.{Plain, Options}
use Rattle.flow_codec.specs.Raw.{RawRecord, RawMessage}
use Rattle.flow_codec.specs.Layout.{set_id}
use Rattle.flow_codec.specs.Templates.{AllTemplates, applied, template}
use Rattle.flow_codec.specs.Message.{header_octets, Division, content, joined, set_octets, AreSets, AreTemplates}
use Rattle.flow_codec.specs.Message.{IsEnd, IsMessage, IsSet}
use Rattle.flow_codec.specs.Reading.{is_ended, kind_of, set_at}
use Rattle.flow_codec.specs.Replaced.{one_if, replaces, replacing_at, replacing_by, replacing_in, replaced_at}
use Rattle.flow_codec.specs.Replaced.{replaced_of, AreReplacing, IsReplacing, AreReplaced}
use Rattle.flow_codec.proofs.TemplateLaws.{template_again, template_long, end_again, goes_on}
use Rattle.flow_codec.proofs.SetLaws.{all_octets, set_again, content_again, by_kind, kind_is}
use Rattle.flow_codec.proofs.MessageLaws.{header_again}
use Rattle.flow_codec.proofs.ReplacedLoop.{of_message}

of_records : (n end domain : ℕ) (kind : TemplateKind) (before : AllTemplates) (rs : List (List ℕ)) (rest : List ℕ)
    (after : AllTemplates) → AreTemplates domain kind before rs after → IsEnd rest → length (joined rs ++ rest) ≤ n
    → AreReplacing domain kind before rs (replacing_at n end domain kind before (joined rs ++ rest))
unfolding replacing_at
of_records zero end domain kind before [] rest after h ended le = refl
of_records (suc n) end domain kind before [] rest after h ended le =
    let e : is_ended rest ≡ true = end_again rest ended in rw e refl
of_records zero end domain kind before (r ∷ rs) rest after h ended le =
    let len : length (joined (r ∷ rs) ++ rest) ≡ length (r ++ (joined rs ++ rest)) =
    ap length (ap (λ (t : List ℕ). t ++ rest) (flat_map-cons (λ r. r) r rs) ∙ append_assoc r (joined rs) rest) in
    let some : length r ≡ length (template kind h.0) = ap length h.2 in
    absurd (omega (arith, length-append r (joined rs ++ rest), template_long kind h.0 h.1))
of_records (suc n) end domain kind before (r ∷ rs) rest after h ended le =
    let t = template kind h.0 in
    let next = applied domain kind h.0 before in
    let regrouped : joined (r ∷ rs) ++ rest ≡ t ++ (joined rs ++ rest) =
    ap (λ (t : List ℕ). t ++ rest) (flat_map-cons (λ r. r) r rs) ∙ append_assoc r (joined rs) rest
    ∙ ap (λ (x : List ℕ). x ++ (joined rs ++ rest)) h.2 in
    let len : length (joined (r ∷ rs) ++ rest) ≡ length t + length (joined rs ++ rest) = ap length regrouped
    ∙ length-append t (joined rs ++ rest) in
    let goes : is_ended (t ++ (joined rs ++ rest)) ≡ false = goes_on kind h.0 (joined rs ++ rest) h.1 in
    let first = template_again kind (end - length (t ++ (joined rs ++ rest))) h.0 (joined rs ++ rest) h.1 in
    let one : replacing_at (suc n) end domain kind before (t ++ (joined rs ++ rest)) ≡ one_if (replaces domain before h.0)
    + replacing_at n end domain kind next (joined rs ++ rest) = rw (goes, first) refl in (
      h.0,
      replacing_at n end domain kind next (joined rs ++ rest),
      h.1,
      h.2,
      of_records n end domain kind next rs rest after h.3 ended (omega (arith, template_long kind h.0 h.1)),
      ap (replacing_at (suc n) end domain kind before) regrouped ∙ one,
    )

of_set : (end domain : ℕ) (before : AllTemplates) (set : Division) (records : List RawRecord) (after : AllTemplates)
    → IsSet domain before set records after
    → IsReplacing domain before set (replacing_in end domain set.id before (content set))
unfolding replacing_in
of_set end domain before set records after h = record {
  templates = λ kind is.
      let t = h.templates kind is in
      let by : kind_of set.id ≡ Some kind = ap kind_of is ∙ kind_is kind in
      subst (λ (o : Option TemplateKind). AreReplacing domain kind before set.records
      (replacing_by o end domain before (content set))) (sym by)
      (of_records (length (content set)) end domain kind before set.records set.rest after t.1 t.2 (omega arith));
  other = λ two three. elim (by_kind set.id) [
    | inl k ↦ absurd (never k.0 k.1 two three)
    | inr k ↦ ap (λ (o : Option TemplateKind). replacing_by o end domain before (content set)) k.2
  ];
}
  where
    never : (kind : TemplateKind) → set.id ≡ set_id kind → set.id ≢ 2 → set.id ≢ 3 → ⊥
    never Plain is two three = two is
    never Options is two three = three is

of_sets : (n end domain : ℕ) (here : AllTemplates) (sets : List Division) (records : List RawRecord)
    (next : AllTemplates) → AreSets domain here sets records next → length (all_octets sets) ≤ n
    → AreReplaced domain here sets (replaced_at n end domain here (all_octets sets))
unfolding replaced_at set_at
of_sets zero end domain here [] records next h le = refl
of_sets (suc n) end domain here [] records next h le = refl
of_sets zero end domain here (s ∷ ss) records next h le =
    let whole = flat_map-cons set_octets s ss in
    let len : length (all_octets (s ∷ ss)) ≡ length (set_octets s) + length (all_octets ss) =
    ap length whole ∙ length-append (set_octets s) (all_octets ss) in
    absurd (omega (arith, len))
of_sets (suc n) end domain here (s ∷ ss) records next h le =
    let rest = all_octets ss in
    let octets = set_octets s ++ rest in
    let whole : all_octets (s ∷ ss) ≡ octets = flat_map-cons set_octets s ss in
    let len : length (all_octets (s ∷ ss)) ≡ length (set_octets s) + length rest = ap length whole
    ∙ length-append (set_octets s) rest in
    let first = set_again (end - length octets) s.id (content s) rest (h.3).id (h.3).fits in
    let second = content_again (end - length rest) domain here s h.0 h.2 h.3 in
    let one : replaced_at (suc n) end domain here octets ≡ replacing_in (end - length rest) domain s.id here (content s)
    + replaced_at n end domain h.2 rest = rw (first, second) refl in (
      h.0,
      h.2,
      replacing_in (end - length rest) domain s.id here (content s),
      replaced_at n end domain h.2 rest,
      h.3,
      of_set (end - length rest) domain here s h.0 h.2 h.3,
      of_sets n end domain h.2 ss h.1 next h.4 (omega (arith, len)),
      ap (replaced_at (suc n) end domain here) whole ∙ one,
    )

pub are_replaced : (octets : List ℕ) (before after : AllTemplates) (m : RawMessage)
    (h : IsMessage octets before m after) → AreReplaced m.header.domain before h.sets (replaced_of before octets)
are_replaced octets before after m h =
    let rest = all_octets h.sets in
    let parts : octets ≡ header_octets m.header ++ rest = h.parts ∙ append_assoc (header_octets m.header) rest []
    ∙ ap (λ (t : List ℕ). header_octets m.header ++ t) (append-nil rest) in
    let header = header_again m.header rest octets h.fits parts h.len in
    subst (AreReplaced m.header.domain before h.sets) (of_message before octets m.header rest header)
    (of_sets (length rest) (length octets) m.header.domain before h.sets m.records after h.hold (omega arith))
