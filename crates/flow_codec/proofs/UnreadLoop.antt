-- The data Sets without a definition in force, of Sets one after the other.
use Rattle.std.proofs.Common.{◌≡◌, ℕ, zero, suc, ◌+◌, ◌-◌, ◌<◌, ◌≤◌, true, false, List, [], ◌∷◌, ◌++◌, length}
use Rattle.std.proofs.Common.{Ok, refl, sym, ap, ◌∙◌, append_assoc, arith}
use Rattle.std.specs.List.{flat_map}
use Rattle.std.proofs.lemmas.List.{append-nil, length-append, nil_from_length}
use Rattle.std.proofs.lemmas.List.Concat.{flat_map-append}
use Rattle.flow_codec.specs.declared.message.Header.{Header}
use Rattle.flow_codec.specs.declared.walk.UnreadSets.{UnreadSets}
use Rattle.flow_codec.specs.Raw.{RawRecord}
use Rattle.flow_codec.specs.Templates.{AllTemplates}
use Rattle.flow_codec.specs.Message.{Division, set_octets}
use Rattle.flow_codec.specs.Reading.{header_at, set_at, content_at}
use Rattle.flow_codec.specs.Unread.{counted, is_unread, unread_in, unread_at, unread_of}

module _ (end domain most : ℕ) (total : List Division) where
  -- So many were met so far, which are the first of all, and reading goes on at `rest`, with enough steps left.
  pub record HasMet (met : UnreadSets) (all : AllTemplates) (rest : List ℕ) : Type 0 where
    pub front : List Division
    pub is : met ≡ counted front
    pub few : met.sets ≤ met.octets
    pub within : met.octets + length rest ≤ most
    pub steps : ℕ
    pub enough : length rest ≤ steps
    pub same : front ++ unread_at steps end domain all rest ≡ total

  pub starts : (all : AllTemplates) (octets : List ℕ) → length octets ≡ most
      → unread_at (length octets) end domain all octets ≡ total → HasMet (counted []) all octets
  starts all octets fits is = record {
    front = [];
    is = refl;
    few = omega arith;
    within = omega arith;
    steps = length octets;
    enough = omega arith;
    same = is;
  }

  module _ (met : UnreadSets) (all : AllTemplates) (rest : List ℕ) (h : HasMet met all rest) where
    module _ (id : ℕ) (content after : List ℕ) (is : set_at (end - length rest) rest ≡ Ok (id, content, after))
        (parts : length content + length after + 4 ≡ length rest) (more : List RawRecord) (next : AllTemplates)
        (read : content_at (end - length after) domain id all content ≡ Ok (more, next)) where
      one : List Division
      one = unread_in domain all id content

      step : (n : ℕ) → 0 < n → unread_at n end domain all rest ≡ one ++ unread_at (n - 1) end domain next after
      unfolding unread_at one
      step zero lt = absurd (omega arith)
      step (suc n) lt = let k : suc n - 1 ≡ n = omega arith in rw (is, read, k) refl

      same : (h.front ++ one) ++ unread_at (h.steps - 1) end domain next after ≡ total
      same =
          append_assoc h.front one (unread_at (h.steps - 1) end domain next after)
          ∙ ap (λ (sets : List Division). h.front ++ sets) (sym (step h.steps (omega (arith, h.enough)))) ∙ h.same

      -- the Set has a definition, or holds no data records
      pub passes : false ≡ is_unread domain all id → HasMet met next after
      unfolding one
      passes is_not =
          let none : one ≡ [] = rw (← is_not) refl in
          let all_of : h.front ++ one ≡ h.front = ap (λ (sets : List Division). h.front ++ sets) none
          ∙ append-nil h.front in
          record {
            front = h.front;
            is = h.is;
            few = h.few;
            within = omega (arith, h.within);
            steps = h.steps - 1;
            enough = omega (arith, h.enough);
            same = ap (λ (sets : List Division). sets ++ unread_at (h.steps - 1) end domain next after) (sym all_of)
                ∙ same;
          }

      -- it is one more
      pub meets : true ≡ is_unread domain all id → (sets octets : ℕ) → sets ≡ met.sets + 1
          → octets ≡ met.octets + (4 + length content)
          → HasMet (record { sets = sets; octets = octets }) next after
      unfolding one
      meets is_so sets octets sets_are octets_are =
          let set : Division = record { id = id; records = []; rest = content } in
          let some : one ≡ set ∷ [] = rw (← is_so) refl in
          let all_of : h.front ++ one ≡ h.front ++ set ∷ [] =
          ap (λ (sets : List Division). h.front ++ sets) some in
          let count : met.sets ≡ length h.front = ap (λ (u : UnreadSets). u.sets) h.is in
          let size : met.octets ≡ length (flat_map set_octets h.front) = ap (λ (u : UnreadSets). u.octets) h.is in
          let joint : length (flat_map set_octets (h.front ++ set ∷ [])) ≡ length (flat_map set_octets h.front)
          + length (flat_map set_octets (set ∷ [])) = ap length (flat_map-append set_octets h.front (set ∷ []))
          ∙ length-append (flat_map set_octets h.front) (flat_map set_octets (set ∷ [])) in
          let last : length (flat_map set_octets (set ∷ [])) ≡ 4 + length content =
          omega (arith, ap length (append-nil (set_octets set))) in
          let sets_same : sets ≡ length (h.front ++ set ∷ []) =
          omega (arith, sets_are, count, length-append h.front (set ∷ [])) in
          let octets_same : octets ≡ length (flat_map set_octets (h.front ++ set ∷ [])) =
          omega (arith, octets_are, size, joint, last) in
          record {
            front = h.front ++ set ∷ [];
            is = rw (← sets_same, ← octets_same) refl;
            few = omega (arith, h.few, sets_are, octets_are);
            within = omega (arith, h.within, octets_are);
            steps = h.steps - 1;
            enough = omega (arith, h.enough);
            same = ap (λ (sets : List Division). sets ++ unread_at (h.steps - 1) end domain next after) (sym all_of)
                ∙ same;
          }

    pub is_all : length rest ≡ 0 → met ≡ counted total
    unfolding unread_at set_at
    is_all none = h.is ∙ ap counted (sym (append-nil h.front) ∙ ap (λ (sets : List Division). h.front ++ sets)
        (sym (last h.steps)) ∙ h.same)
      where
        last : (n : ℕ) → unread_at n end domain all rest ≡ []
        last zero = refl
        last (suc n) = rw (nil_from_length rest none) refl

-- those of a message are those of its Sets
pub of_message : (before : AllTemplates) (octets : List ℕ) (header : Header) (rest : List ℕ)
    → header_at octets ≡ Ok (header, rest)
    → unread_at (length rest) (length octets) header.domain before rest ≡ unread_of before octets
unfolding unread_of
of_message before octets header rest is = rw is refl
