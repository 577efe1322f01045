-- The fields of a record, one after the other.
use Rattle.std.proofs.Common.{◌≡◌, ℕ, ◌+◌, ◌<◌, ◌≤◌, List, [], ◌∷◌, ◌++◌, length, drop, get_or, sym, ◌∙◌, append_assoc}
use Rattle.std.proofs.Common.{drop-cons, add-one}
use Rattle.std.proofs.lemmas.List.{append-nil, drop_all}
use Rattle.flow_elements.specs.declared.element.ElementId.{ElementId}
use Rattle.flow_codec.specs.declared.message.Field.{Field}
use Rattle.flow_codec.specs.Fields.{value_of, fields_in}

module _ (fs : List (ElementId × ℕ)) (i : ℕ) (d : ElementId × ℕ) (front : List Field) (octets : List ℕ)
    (total : List Field) (so_far : front ++ fields_in (drop i fs) octets ≡ total) where
  split : i < length fs → drop i fs ≡ get_or fs i d ∷ drop (i + 1) fs
  split lt = rw add-one (drop-cons fs i d lt)

  pub goes_on : i < length fs
      → (front ++ record { id = (get_or fs i d).0; octets = (value_of (get_or fs i d).1 octets).0 } ∷ []) ++ fields_in
      (drop (i + 1) fs) (value_of (get_or fs i d).1 octets).1 ≡ total
  unfolding fields_in
  goes_on lt =
      let f = get_or fs i d in
      let one : front ++ fields_in (drop i fs) octets ≡ (front ++ record {
        id = f.0;
        octets =
            (value_of f.1 octets).0;
      } ∷ []) ++ fields_in (drop (i + 1) fs) (value_of f.1 octets).1 =
      rw (split lt) (simp append_assoc) in
      sym one ∙ so_far

  pub is_done : length fs ≤ i → front ≡ total
  unfolding fields_in
  is_done le =
      let none : drop i fs ≡ [] = drop_all i fs le in
      let one : front ++ fields_in (drop i fs) octets ≡ front = rw none (append-nil front) in
      sym one ∙ so_far
