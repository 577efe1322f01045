-- Octets have one gated list, or a fault, and never both.
use Rattle.std.proofs.Common.{◌≡◌, ◌≢◌, ⊎_elim, inl, inr, ℕ, ◌+◌, ◌≤◌, ◌<◌, List, [], ◌∷◌, length, get_or, take, drop}
use Rattle.std.proofs.Common.{refl, sym, ◌∙◌, ap, subst, arith, length-drop, length-take}
use Rattle.std.proofs.lemmas.List.{get_or-take, get_or-drop}
use Rattle.flow_gate.specs.Gate.{IsWhole, IsMessageAt, IsClosedAt, IsFaultyAt, StandsAt, StandInRow, IsGated, IsDamaged}
use Rattle.flow_gate.specs.Gate.{octet_sum, length_field}

module _ (octets : List ℕ) (place : ℕ) (message : List ℕ) (whole : IsWhole message)
    (stands : StandsAt octets place message) where
  pub octet : (k : ℕ) → k < length message → get_or octets (place + k) 0 ≡ get_or message k 0
  octet k lt = sym (get_or-drop place octets k 0) ∙ sym (get_or-take (length message) (drop place octets) k 0 lt)
      ∙ ap (λ (l : List ℕ). get_or l k 0) stands

  open_gate : get_or octets (place + 1) 0 ≡ 10
  open_gate = octet 1 (omega (arith, whole.long)) ∙ whole.low

  first_octet : get_or octets place 0 ≡ 0
  first_octet = ap (λ (n : ℕ). get_or octets n 0) (omega arith) ∙ octet 0 (omega (arith, whole.long)) ∙ whole.high

  pub field : length_field octets place ≡ length message
  field = omega (arith, octet 2 (omega (arith, whole.long)), octet 3 (omega (arith, whole.long)), whole.counted)

  -- the message ends within the octets
  pub fits : place + length message ≤ length octets
  fits = omega (
    arith,
    whole.long,
    ap length stands,
    length-take (length message) (drop place octets),
    length-drop place octets,
  )

  pub message_here : IsMessageAt octets place (length message)
  message_here = record { zero_octet = first_octet; ten = open_gate; counted = field; long = whole.long; room = fits }

  not_closed : IsClosedAt octets place → ⊥
  not_closed closed = closed.shut open_gate

  not_faulty : place + length message + 2 ≤ length octets → IsFaultyAt octets place → ⊥
  not_faulty room (inl short) = omega (arith, whole.long, room, short)
  not_faulty room (inr (inl high)) = high first_octet
  not_faulty room (inr (inr cut)) =
      ⊎_elim (λ few. omega (arith, whole.long, field, few)) (λ over. omega (arith, field, over, room)) cut.1

closed_not_faulty : (octets : List ℕ) (place : ℕ) → IsClosedAt octets place → IsFaultyAt octets place → ⊥
closed_not_faulty octets place closed (inl short) = omega (arith, closed.room, short)
closed_not_faulty octets place closed (inr (inl high)) = high closed.zero_octet
closed_not_faulty octets place closed (inr (inr cut)) = closed.shut cut.0

pub same_message : (octets : List ℕ) (place : ℕ) (a b : List ℕ) → IsWhole a → StandsAt octets place a → IsWhole b
    → StandsAt octets place b → a ≡ b
same_message octets place a b whole_a at_a whole_b at_b =
    sym at_a ∙ ap (λ (n : ℕ). take n (drop place octets)) (sym (field octets place a whole_a at_a)
    ∙ field octets place b whole_b at_b) ∙ at_b

rows_same : (octets : List ℕ) (place : ℕ) (a b : List (List ℕ)) → StandInRow octets place a
    → IsClosedAt octets (place + octet_sum a) → StandInRow octets place b → IsClosedAt octets (place + octet_sum b)
    → a ≡ b
rows_same octets place [] [] row_a end_a row_b end_b = refl
rows_same octets place [] (m ∷ b) row_a end_a row_b end_b =
    absurd (not_closed octets place m row_b.0 row_b.1 (subst (λ (p : ℕ). IsClosedAt octets p) (omega arith) end_a))
rows_same octets place (m ∷ a) [] row_a end_a row_b end_b =
    absurd (not_closed octets place m row_a.0 row_a.1 (subst (λ (p : ℕ). IsClosedAt octets p) (omega arith) end_b))
rows_same octets place (m ∷ a) (n ∷ b) row_a end_a row_b end_b =
    let same = same_message octets place m n row_a.0 row_a.1 row_b.0 row_b.1 in
    let rest = rows_same octets (place + length m) a b row_a.2
    (subst (λ (p : ℕ). IsClosedAt octets p) (omega arith) end_a)
    (subst (λ (l : List ℕ). StandInRow octets (place + length l) b) (sym same) row_b.2)
    (subst (λ (p : ℕ). IsClosedAt octets p) (omega (arith, ap length same)) end_b) in
    ap (λ (l : List ℕ). l ∷ a) same ∙ ap (λ (l : List (List ℕ)). n ∷ l) rest

pub one_list : (octets : List ℕ) (from : ℕ) (a b : List (List ℕ)) → IsGated octets from a → IsGated octets from b
    → a ≡ b
one_list octets from a b gated_a gated_b =
    rows_same octets from a b gated_a.row gated_a.closed gated_b.row gated_b.closed

rows_differ : (octets : List ℕ) (place : ℕ) (a b : List (List ℕ)) → StandInRow octets place a
    → IsClosedAt octets (place + octet_sum a) → StandInRow octets place b → IsFaultyAt octets (place + octet_sum b) → ⊥
rows_differ octets place [] [] row_a end_a row_b end_b = closed_not_faulty octets (place + 0) end_a end_b
rows_differ octets place [] (m ∷ b) row_a end_a row_b end_b =
    not_closed octets place m row_b.0 row_b.1 (subst (λ (p : ℕ). IsClosedAt octets p) (omega arith) end_a)
rows_differ octets place (m ∷ a) [] row_a end_a row_b end_b =
    not_faulty octets place m row_a.0 row_a.1 (omega (arith, end_a.room))
    (subst (λ (p : ℕ). IsFaultyAt octets p) (omega arith) end_b)
rows_differ octets place (m ∷ a) (n ∷ b) row_a end_a row_b end_b =
    let same = same_message octets place m n row_a.0 row_a.1 row_b.0 row_b.1 in
    rows_differ octets (place + length m) a b row_a.2 (subst (λ (p : ℕ). IsClosedAt octets p) (omega arith) end_a)
    (subst (λ (l : List ℕ). StandInRow octets (place + length l) b) (sym same) row_b.2)
    (subst (λ (p : ℕ). IsFaultyAt octets p) (omega (arith, ap length same)) end_b)

-- two rows of as many octets are one
pub one_row : (octets : List ℕ) (place : ℕ) (a b : List (List ℕ)) → StandInRow octets place a
    → StandInRow octets place b → octet_sum a ≡ octet_sum b → a ≡ b
one_row octets place [] [] row_a row_b same = refl
one_row octets place [] (n ∷ b) row_a row_b same = let whole = row_b.0 in absurd (omega (arith, whole.long, same))
one_row octets place (m ∷ a) [] row_a row_b same = let whole = row_a.0 in absurd (omega (arith, whole.long, same))
one_row octets place (m ∷ a) (n ∷ b) row_a row_b same =
    let first = same_message octets place m n row_a.0 row_a.1 row_b.0 row_b.1 in
    let rest = one_row octets (place + length m) a b row_a.2
    (subst (λ (l : List ℕ). StandInRow octets (place + length l) b) (sym first) row_b.2)
    (omega (arith, same, ap length first)) in
    ap (λ (l : List ℕ). l ∷ a) first ∙ ap (λ (l : List (List ℕ)). n ∷ l) rest

some : (m : List ℕ) (a : List (List ℕ)) → m ∷ a ≢ []
some m a same = cc

faults_same : (octets : List ℕ) (place : ℕ) (a b : List (List ℕ)) → StandInRow octets place a
    → (a ≢ [] → place + octet_sum a + 2 ≤ length octets) → IsFaultyAt octets (place + octet_sum a)
    → StandInRow octets place b → (b ≢ [] → place + octet_sum b + 2 ≤ length octets)
    → IsFaultyAt octets (place + octet_sum b) → octet_sum a ≡ octet_sum b
faults_same octets place [] [] row_a fits_a end_a row_b fits_b end_b = refl
faults_same octets place [] (n ∷ b) row_a fits_a end_a row_b fits_b end_b =
    absurd (not_faulty octets place n row_b.0 row_b.1 (omega (arith, fits_b (some n b)))
    (subst (λ (p : ℕ). IsFaultyAt octets p) (omega arith) end_a))
faults_same octets place (m ∷ a) [] row_a fits_a end_a row_b fits_b end_b =
    absurd (not_faulty octets place m row_a.0 row_a.1 (omega (arith, fits_a (some m a)))
    (subst (λ (p : ℕ). IsFaultyAt octets p) (omega arith) end_b))
faults_same octets place (m ∷ a) (n ∷ b) row_a fits_a end_a row_b fits_b end_b =
    let same = same_message octets place m n row_a.0 row_a.1 row_b.0 row_b.1 in
    let rest = faults_same octets (place + length m) a b row_a.2 (λ more. omega (arith, fits_a (some m a)))
    (subst (λ (p : ℕ). IsFaultyAt octets p) (omega arith) end_a)
    (subst (λ (l : List ℕ). StandInRow octets (place + length l) b) (sym same) row_b.2)
    (λ more. omega (arith, fits_b (some n b), ap length same))
    (subst (λ (p : ℕ). IsFaultyAt octets p) (omega (arith, ap length same)) end_b) in
    omega (arith, rest, ap length same)

pub one_place : (octets : List ℕ) (from a b : ℕ) → IsDamaged octets from a → IsDamaged octets from b → a ≡ b
one_place octets from a b first second = omega (
  arith,
  first.place,
  second.place,
  faults_same octets from first.list second.list first.row (λ more. omega (arith, first.fits more, first.place))
      (subst (λ (p : ℕ). IsFaultyAt octets p) first.place first.fault)
      second.row (λ more. omega (arith, second.fits more, second.place))
      (subst (λ (p : ℕ). IsFaultyAt octets p) second.place second.fault),
)

pub never_both : (octets : List ℕ) (from at : ℕ) (list : List (List ℕ)) → IsGated octets from list
    → IsDamaged octets from at → ⊥
never_both octets from at list gated damaged =
    rows_differ octets from list damaged.list gated.row gated.closed damaged.row
    (subst (λ (p : ℕ). IsFaultyAt octets p) damaged.place damaged.fault)
