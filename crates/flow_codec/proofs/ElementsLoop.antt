-- The fields of a definition, one after the other, for what looks for elements among them.
use Rattle.std.proofs.Common.{◌≡◌, ℕ, ◌+◌, ◌<◌, ◌≤◌, Bool, List, length, take, get_or, refl, sym, ap, ◌∙◌}
use Rattle.std.specs.Prelude.{◌||◌}
use Rattle.std.proofs.lemmas.List.{take_all}
use Rattle.std.proofs.lemmas.List.Folds.{list_any_more}
use Rattle.flow_elements.specs.declared.element.ElementId.{ElementId}
use Rattle.flow_codec.specs.declared.caveats.Elements.{Elements}
use Rattle.flow_codec.specs.Caveats.{elements_of, has, is_octets, is_other_octets, is_other_packets, is_packets}
use Rattle.flow_codec.specs.Caveats.{is_rate, with_element}

module _ (fs : List (ElementId × ℕ)) (i : ℕ) (d : ElementId × ℕ) (found : Elements)
    (so_far : found ≡ elements_of (take i fs)) where
  pub goes_on : i < length fs → with_element found (get_or fs i d).0 ≡ elements_of (take (i + 1) fs)
  goes_on lt =
      ap (λ (e : Elements). with_element e (get_or fs i d).0) so_far
      ∙ rw (
        has_more is_octets,
        has_more is_packets,
        has_more is_other_octets,
        has_more is_other_packets,
        has_more is_rate,
      ) refl
    where
      has_more : (test : ElementId → Bool)
          → (has test (take i fs) || test (get_or fs i d).0) ≡ has test (take (i + 1) fs)
      has_more test = sym (list_any_more (λ (f : ElementId × ℕ). test f.0) fs i d lt)

  pub is_done : length fs ≤ i → found ≡ elements_of fs
  is_done le = so_far ∙ ap elements_of (take_all i fs le)
