-- One message more on a walk.
use Rattle.std.proofs.lemmas.Bool.{cases_eq, cases_lt}
use Rattle.std.proofs.Common.{◌≡◌, ◌≢◌, ◌⊎◌, inl, inr, ⊎_elim, refl, zero, suc, ◌≤◌, ℕ, ◌+◌, ◌<◌, List, [], ◌∷◌, ◌++◌}
use Rattle.std.proofs.Common.{length, get_or, take, drop, sym, ◌∙◌, ap, subst, arith, length-drop}
use Rattle.std.proofs.lemmas.List.{length-take-le, get_or-take, get_or-drop}
use Rattle.flow_gate.specs.Gate.{IsWhole, IsMessageAt, StandsAt, StandInRow, IsClosedAt, IsFaultyAt, IsGated, IsDamaged}
use Rattle.flow_gate.specs.Gate.{length_field, octet_sum}
use Rattle.flow_gate.specs.Scan.{IsOpenAt}
use Rattle.flow_gate.proofs.Exact.{same_message, message_here, fits}
use Rattle.flow_gate.proofs.Rows.{row_push, octet_sum-push}

module _ (octets : List ℕ) (at count : ℕ) (found : IsMessageAt octets at count) where
  part : List ℕ
  part = take count (drop at octets)

  pub part_long : length (take count (drop at octets)) ≡ count
  part_long = length-take-le count (drop at octets) (omega (arith, length-drop at octets, found.room))

  octet : (k : ℕ) → k < count → get_or (take count (drop at octets)) k 0 ≡ get_or octets (at + k) 0
  octet k lt = get_or-take count (drop at octets) k 0 lt ∙ get_or-drop at octets k 0

  pub whole : IsWhole (take count (drop at octets))
  whole = record {
    long = omega (arith, part_long, found.long);
    high = octet 0 (omega (arith, found.long)) ∙ ap (λ (n : ℕ). get_or octets n 0) (omega arith) ∙ found.zero_octet;
    low = octet 1 (omega (arith, found.long)) ∙ found.ten;
    counted = omega (
      arith,
      octet 2 (omega (arith, found.long)),
      octet 3 (omega (arith, found.long)),
      found.counted,
      part_long,
    );
  }

  pub one_more : (from : ℕ) (list : List (List ℕ)) (message : List ℕ) → message ≡ take count (drop at octets)
      → StandInRow octets from list → at ≡ from + octet_sum list
      → StandInRow octets from (list ++ message ∷ []) × (at + count ≡ from + octet_sum (list ++ message ∷ []))
  one_more from list message is row place = (
    row_push octets from list message row (subst (λ (m : List ℕ). IsWhole m) (sym is) whole)
        (subst (λ (p : ℕ). StandsAt octets p message) place
        (subst (λ (m : List ℕ). StandsAt octets at m) (sym is)
        (ap (λ (n : ℕ). take n (drop at octets)) part_long))),
    omega (arith, place, octet_sum-push list message, ap length is, part_long),
  )

-- no other row fills the octets where this one can't go on
pub no_fill : (octets : List ℕ) (place : ℕ) (a b : List (List ℕ)) → StandInRow octets place a
    → ((count : ℕ) → IsMessageAt octets (place + octet_sum a) count → ⊥) → (place + octet_sum a ≡ length octets → ⊥)
    → StandInRow octets place b → place + octet_sum b ≡ length octets → ⊥
no_fill octets place [] [] row_a stops more row_b ends = more ends
no_fill octets place [] (n ∷ b) row_a stops more row_b ends =
    stops (length n) (subst (λ (p : ℕ). IsMessageAt octets p (length n)) (omega arith)
    (message_here octets place n row_b.0 row_b.1))
no_fill octets place (m ∷ a) [] row_a stops more row_b ends =
    let whole = row_a.0 in omega (arith, ends, whole.long, fits octets place m row_a.0 row_a.1)
no_fill octets place (m ∷ a) (n ∷ b) row_a stops more row_b ends =
    let same = same_message octets place m n row_a.0 row_a.1 row_b.0 row_b.1 in
    no_fill octets (place + length m) a b row_a.2
    (λ count found. stops count (subst (λ (p : ℕ). IsMessageAt octets p count) (omega arith) found))
    (λ is. more (omega (arith, is)))
    (subst (λ (l : List ℕ). StandInRow octets (place + length l) b) (sym same) row_b.2)
    (omega (arith, ends, ap length same))

-- what is at a place
found_at : (octets : List ℕ) (place : ℕ) → IsClosedAt octets place
    ⊎ (((count : ℕ) × IsOpenAt octets place count) ⊎ IsFaultyAt octets place)
found_at octets place =
    ⊎_elim (λ short. inr (inr (inl short)))
    (λ room. ⊎_elim (λ high. gate room high) (λ high. inr (inr (inr (inl high)))) (cases_eq (get_or octets place 0) 0))
    (cases_lt (length octets) (place + 2))
  where
    count : ℕ
    count = length_field octets place

    message : place + 2 ≤ length octets → get_or octets place 0 ≡ 0 → get_or octets (place + 1) 0 ≡ 10
        → ((count : ℕ) × IsOpenAt octets place count) ⊎ IsFaultyAt octets place
    message room high ten = ⊎_elim (λ few. inr (inr (inr (ten, inl few))))
        (λ long. ⊎_elim (λ over. inr (inr (inr (ten, inr over))))
        (λ fits. inl (
          count,
          record {
            message =
                record { zero_octet = high; ten = ten; counted = refl; long = long; room = omega (arith, fits) };
            room =
                fits;
          },
        ))
        (cases_lt (length octets) (place + count + 2)))
        (cases_lt count 16)

    gate : place + 2 ≤ length octets → get_or octets place 0 ≡ 0 → IsClosedAt octets place
        ⊎ (((count : ℕ) × IsOpenAt octets place count) ⊎ IsFaultyAt octets place)
    gate room high = ⊎_elim (λ ten. inr (message room high ten))
        (λ shut. inl (record { room = room; zero_octet = high; shut = shut }))
        (cases_eq (get_or octets (place + 1) 0) 10)

-- damage after one message more
fits_more : (octets : List ℕ) (at : ℕ) (list : List (List ℕ)) → (list ≢ [] → at + 2 ≤ length octets)
    → (list ≡ [] → at + 2 ≤ length octets) → at + 2 ≤ length octets
fits_more octets at [] many none = none refl
fits_more octets at (message ∷ list) many none = many (λ same. cc)

abbrev HasListOrDamage : List ℕ → ℕ → Type 0
HasListOrDamage octets from = ((list : List (List ℕ)) × IsGated octets from list)
    ⊎ ((at : ℕ) × IsDamaged octets from at)

message_more : (octets : List ℕ) (from count : ℕ) → IsOpenAt octets from count → HasListOrDamage octets (from + count)
    → HasListOrDamage octets from
message_more octets from count found rest =
    let message = take count (drop from octets) in
    let long : length message ≡ count = part_long octets from count found.message in
    let next : from + count ≡ from + length message = omega (arith, long) in
    let stands : StandsAt octets from message = ap (λ (n : ℕ). take n (drop from octets)) long in
    ⊎_elim
    (λ there. inl (
      message ∷ there.0,
      let gated = there.1 in record {
        row = (
          whole octets from count found.message,
          stands,
          subst (λ (p : ℕ). StandInRow octets p there.0) next gated.row,
        );
        closed = subst (λ (p : ℕ). IsClosedAt octets p) (omega (arith, long)) gated.closed;
      },
    ))
    (λ there. inr (
      there.0,
      let damaged = there.1 in record {
        list = message ∷ damaged.list;
        row = (
          whole octets from count found.message,
          stands,
          subst (λ (p : ℕ). StandInRow octets p damaged.list) next damaged.row,
        );
        place = omega (arith, long, damaged.place);
        fits = λ some. fits_more octets there.0 damaged.list damaged.fits
            (λ none. omega (arith, found.room, damaged.place, ap octet_sum none));
        fault = damaged.fault;
      },
    ))
    rest

-- by one message and the octets after it
stopped_or_more : (octets : List ℕ) (from : ℕ)
    → ((count : ℕ) → IsOpenAt octets from count → HasListOrDamage octets (from + count)) → HasListOrDamage octets from
stopped_or_more octets from behind = ⊎_elim
    (λ closed. inl ([], record { row = tt; closed = subst (λ (p : ℕ). IsClosedAt octets p) (omega arith) closed }))
    (⊎_elim (λ message. message_more octets from message.0 message.1 (behind message.0 message.1))
    (λ fault. inr (
      from,
      record {
        list = [];
        row = tt;
        place = omega arith;
        fits = λ some. absurd (some refl);
        fault =
            fault;
      },
    )))
    (found_at octets from)

-- Octets have a gated list or damage.
explored : (fuel : ℕ) (octets : List ℕ) (from : ℕ) → length octets ≤ from + fuel → HasListOrDamage octets from
explored zero octets from within =
    stopped_or_more octets from (λ count found. absurd (omega (arith, within, found.room)))
explored (suc fuel) octets from within =
    stopped_or_more octets from (λ count found. explored fuel octets (from + count) (let m = found.message in
    omega (arith, within, m.long)))

pub list_or_damage : (octets : List ℕ) (from : ℕ) → ((list : List (List ℕ)) × IsGated octets from list)
    ⊎ ((at : ℕ) × IsDamaged octets from at)
list_or_damage octets from = explored (length octets) octets from (omega arith)
