-- What a file reads as once a batch is written.
use Rattle.std.proofs.Common.{zero, suc, Bor, ◌≡◌, ◌≢◌, ◌⊎◌, inl, inr, ⊎_elim, ℕ, ◌+◌, ◌-◌, ◌<◌, ◌≤◌, List, [], ◌∷◌}
use Rattle.std.proofs.Common.{◌++◌, length}
use Rattle.std.proofs.Common.{get_or, take, drop, refl, sym, ◌∙◌, ap, subst, arith, append_assoc, length-append}
use Rattle.std.proofs.Common.{length-drop}
use Rattle.std.proofs.lemmas.List.{length-take-le, take_at, drop_at, take_rest, get_or_at, get_or_append_left}
use Rattle.std.proofs.lemmas.List.{append-nil, take-append-drop, drop-append-le, drop-drop, take-take, take_more}
use Rattle.std.proofs.lemmas.List.{drop_more}
use Rattle.std.proofs.lemmas.List.Elements.{All-head, All-tail}
use Rattle.std.proofs.lemmas.List.Folds.{concat-append}
use Rattle.std.specs.List.{All, concat}
use Rattle.flow_disk.specs.Disk.{put_at}
use Rattle.flow_gate.specs.Gate.{IsWhole, IsClosedAt, StandsAt, StandInRow, IsGated, IsPlaced, octet_sum, opened}
use Rattle.flow_gate.specs.Steps.{slices, put_behind, put_batch}
use Rattle.flow_gate.proofs.Rows.{closed_front}

pub length_concat : (list : List (List ℕ)) → length (concat list) ≡ octet_sum list
length_concat [] = refl
length_concat (message ∷ list) = omega (arith, length-append message (concat list), length_concat list)

joined : (list : List (List ℕ)) (message : List ℕ) → concat (list ++ message ∷ []) ≡ concat list ++ message
joined list message = concat-append list (message ∷ []) ∙ ap (λ l. concat list ++ l) (append-nil message)

-- a write right after another's octets
put_more : (old : List ℕ) (place : ℕ) (a b : List ℕ) → place ≤ length old
    → put_at (put_at old place a) (place + length a) b ≡ put_at old place (a ++ b)
put_more old place a b within =
    ap (λ l. l ++ b ++ drop (place + length a + length b) (front ++ rest))
    (take_at front rest (place + length a) front_long)
    ∙ ap (λ l. front ++ b ++ l) (sym (drop-drop (length b) (place + length a) (front ++ rest))
    ∙ ap (λ l. drop (length b) l) (drop_at front rest (place + length a) front_long)
    ∙ drop-drop (length b) (place + length a) old)
    ∙ ap (λ l. l ++ drop (place + length a + length b) old) (append_assoc (take place old) a b)
    ∙ ap (λ n. take place old ++ (a ++ b) ++ drop n old) far
  where
    front : List ℕ
    front = take place old ++ a

    rest : List ℕ
    rest = drop (place + length a) old

    front_long : length (take place old ++ a) ≡ place + length a
    front_long = omega (arith, length-append (take place old) a, length-take-le place old within)

    far : place + length a + length b ≡ place + length (a ++ b)
    far = omega (arith, length-append a b)

pub put_nothing : (old : List ℕ) (end : ℕ) → put_behind old end [] ≡ old
put_nothing old end = ap (λ l. l ++ drop (end + 2 + 0) old) (append-nil (take (end + 2) old))
    ∙ ap (λ n. take (end + 2) old ++ drop n old) near ∙ take-append-drop (end + 2) old
  where
    near : end + 2 + 0 ≡ end + 2
    near = omega arith

none : (octets : List ℕ) → length octets ≡ 0 → octets ≡ []
none [] empty = refl
none (octet ∷ octets) empty = absurd (omega (arith, empty))

-- the first message is written from its third octet on, each other one whole
pub record IsNext (end at kept : ℕ) : Type 0 where
  pub next : ((at ≡ end) × (kept ≡ 2)) ⊎ ((end + 16 ≤ at) × (kept ≡ 0))

pub next_first : (end at kept : ℕ) → at ≡ end → kept ≡ 2 → IsNext end at kept
next_first end at kept here two = record { next = inl (here, two) }

pub next_later : (end at kept : ℕ) → (at ≡ end → ⊥) → (at ≡ end) ⊎ (end + 16 ≤ at) → kept ≡ 0 → IsNext end at kept
next_later end at kept not first none =
    record { next = inr (⊎_elim (λ same. absurd (not same)) (λ later. later) first, none) }

first_part : (front part message : List ℕ) → front ≡ [] → part ≡ drop 2 message
    → drop 2 front ++ part ≡ drop 2 (front ++ message)
first_part [] part message empty is = is
first_part (octet ∷ front) part message empty is = absurd (some empty)
  where
    some : octet ∷ front ≡ [] → ⊥
    some same = cc

pub next_behind : (end at kept : ℕ) → IsNext end at kept → end + 2 ≤ at + kept
next_behind end at kept is = ⊎_elim (λ first. omega (arith, first.0, first.1)) (λ later. omega (arith, later.0)) is.next

pub next_within : (end at kept : ℕ) → IsNext end at kept → kept ≤ 2
next_within end at kept is = ⊎_elim (λ first. omega (arith, first.1)) (λ later. omega (arith, later.1)) is.next

-- each message of a batch is whole
pub whole_at : (messages : List (Bor (List ℕ))) → All IsWhole (slices messages) → (k : ℕ) (none : Bor (List ℕ))
    → k < length messages → IsWhole (get_or messages k none).now
whole_at [] whole k none lt = absurd (omega (arith, lt))
whole_at (message ∷ messages) whole zero none lt = All-head IsWhole message.now (slices messages) whole
whole_at (message ∷ messages) whole (suc k) none lt =
    whole_at messages (All-tail IsWhole message.now (slices messages) whole) k none (omega (arith, lt))

-- one message more
pub put_next : (old : List ℕ) (end : ℕ) (done : List (List ℕ)) (message : List ℕ) (at kept : ℕ) (part : List ℕ)
    → end + 2 ≤ length old → at ≡ end + octet_sum done → IsNext end at kept
    → part ≡ take (length message - kept) (drop kept message)
    → put_at (put_behind old end done) (at + kept) part ≡ put_behind old end (done ++ message ∷ [])
put_next old end done message at kept part within place next is =
    ap (λ n. put_at (put_at old (end + 2) (drop 2 front)) n part) there
    ∙ put_more old (end + 2) (drop 2 front) part within
    ∙ ap (λ l. put_at old (end + 2) l) (both ∙ ap (λ l. drop 2 l) (sym (joined done message)))
  where
    front : List ℕ
    front = concat done

    there : at + kept ≡ end + 2 + length (drop 2 (concat done))
    there = ⊎_elim (λ first. omega (arith, first.0, first.1, place, length_concat done, length-drop 2 (concat done)))
        (λ later. omega (arith, later.0, later.1, place, length_concat done, length-drop 2 (concat done))) next.next

    both : drop 2 (concat done) ++ part ≡ drop 2 (concat done ++ message)
    both = ⊎_elim
        (λ first. first_part (concat done) part message
        (none (concat done) (omega (arith, first.0, place, length_concat done)))
        (is ∙ ap (λ n. take (length message - n) (drop n message)) first.1 ∙ take_rest message 2))
        (λ later. ap (λ l. drop 2 (concat done) ++ l) (is
        ∙ ap (λ n. take (length message - n) (drop n message)) later.1 ∙ take_rest message 0)
        ∙ sym (drop-append-le 2 (concat done) message (omega (arith, later.0, place, length_concat done))))
        next.next

-- and the trailer
pub put_trailer : (old : List ℕ) (end at : ℕ) (done : List (List ℕ)) → end + 2 ≤ length old → at ≡ end + octet_sum done
    → 2 ≤ octet_sum done
    → put_at (put_behind old end done) at (0 ∷ 0 ∷ []) ≡ put_batch old end done
put_trailer old end at done within place some = ap (λ n. put_at (put_behind old end done) n (0 ∷ 0 ∷ [])) there
    ∙ put_more old (end + 2) (drop 2 (concat done)) (0 ∷ 0 ∷ []) within
  where
    there : at ≡ end + 2 + length (drop 2 (concat done))
    there = omega (arith, place, some, length_concat done, length-drop 2 (concat done))

-- one message, and the rest of the row
message_of : (before after : List ℕ) (message : List ℕ) (list : List (List ℕ)) → IsWhole message
    → StandInRow ((before ++ message) ++ (concat list ++ after)) (length (before ++ message)) list
    → StandInRow (before ++ ((message ++ concat list) ++ after)) (length before) (message ∷ list)
message_of before after message list whole row = (whole, stands, rest)
  where
    behind : drop (length before) (before ++ ((message ++ concat list) ++ after)) ≡ message ++ (concat list ++ after)
    behind = drop_at before ((message ++ concat list) ++ after) (length before) refl
        ∙ append_assoc message (concat list) after

    stands : StandsAt (before ++ ((message ++ concat list) ++ after)) (length before) message
    stands = ap (λ l. take (length message) l) behind ∙ take_at message (concat list ++ after) (length message) refl

    same : (before ++ message) ++ (concat list ++ after) ≡ before ++ ((message ++ concat list) ++ after)
    same = append_assoc before message (concat list ++ after)
        ∙ ap (λ l. before ++ l) (sym (append_assoc message (concat list) after))

    rest : StandInRow (before ++ ((message ++ concat list) ++ after)) (length before + length message) list
    rest = subst (λ (l : List ℕ). StandInRow l (length before + length message) list) same
        (subst (λ (n : ℕ). StandInRow ((before ++ message) ++ (concat list ++ after)) n list)
        (length-append before message) row)

-- whole messages are a row
pub row_of : (before after : List ℕ) (list : List (List ℕ)) → All IsWhole list
    → StandInRow (before ++ (concat list ++ after)) (length before) list
row_of before after [] whole = tt
row_of before after (message ∷ list) whole =
    message_of before after message list (All-head IsWhole message list whole)
    (row_of (before ++ message) after list (All-tail IsWhole message list whole))

pub gated_of : (before after : List ℕ) (list : List (List ℕ)) → All IsWhole list
    → IsGated (before ++ (concat list ++ (0 ∷ 0 ∷ after))) (length before) list
gated_of before after list whole = record {
  row = row_of before (0 ∷ 0 ∷ after) list whole;
  closed = record {
    room = omega (arith, ap length flat, length-append (before ++ concat list) (0 ∷ 0 ∷ after), long);
    zero_octet = ap (λ l. get_or l (length before + octet_sum list) 0) flat
        ∙ get_or_at (before ++ concat list) 0 (0 ∷ after) 0 (length before + octet_sum list) long;
    shut = λ ten. omega (arith, second, ten);
  };
}
  where
    long : length (before ++ concat list) ≡ length before + octet_sum list
    long = omega (arith, length-append before (concat list), length_concat list)

    flat : before ++ (concat list ++ (0 ∷ 0 ∷ after)) ≡ (before ++ concat list) ++ (0 ∷ 0 ∷ after)
    flat = sym (append_assoc before (concat list) (0 ∷ 0 ∷ after))

    second : get_or (before ++ (concat list ++ (0 ∷ 0 ∷ after))) (length before + octet_sum list + 1) 0 ≡ 0
    second = ap (λ l. get_or l (length before + octet_sum list + 1) 0) (flat
        ∙ sym (append_assoc (before ++ concat list) (0 ∷ []) (0 ∷ after)))
        ∙ get_or_at ((before ++ concat list) ++ (0 ∷ [])) 0 after 0 (length before + octet_sum list + 1)
        (omega (arith, length-append (before ++ concat list) (0 ∷ []), long))

-- whole messages begin with the open gate
begins : (list : List (List ℕ)) → list ≢ [] → All IsWhole list → concat list ≡ 0 ∷ 10 ∷ drop 2 (concat list)
begins [] some whole = absurd (some refl)
begins (message ∷ list) some whole = drop_more octets 0 0 (omega (arith, long)) ∙ ap (λ n. n ∷ drop 1 octets) high
    ∙ ap (λ l. 0 ∷ l) (drop_more octets 1 0 (omega (arith, long)) ∙ ap (λ n. n ∷ drop 2 octets) low)
  where
    octets : List ℕ
    octets = message ++ concat list

    first : IsWhole message
    first = All-head IsWhole message list whole

    long : 16 ≤ length (message ++ concat list)
    long = omega (arith, first.long, length-append message (concat list))

    high : get_or (message ++ concat list) 0 0 ≡ 0
    high = get_or_append_left message (concat list) 0 0 (omega (arith, first.long)) ∙ first.high

    low : get_or (message ++ concat list) 1 0 ≡ 10
    low = get_or_append_left message (concat list) 0 1 (omega (arith, first.long)) ∙ first.low

-- a batch at a closed gate
pub placed : (old : List ℕ) (end : ℕ) (messages : List (List ℕ)) → IsClosedAt old end → messages ≢ []
    → All IsWhole messages → IsPlaced (put_batch old end messages) end messages
placed old end messages closed some whole = record {
  closed = closed_front end old last (sym front_of)
      (omega (arith, ap length last_is, length-append front behind, front_long)) closed;
  once_open = subst (λ (l : List ℕ). IsGated l end messages) (sym opened_is)
      (subst (λ (n : ℕ). IsGated (take end old ++ (concat messages ++ (0 ∷ 0 ∷ rest))) n messages)
      (length-take-le end old (omega (arith, closed.room)))
      (gated_of (take end old) rest messages whole));
}
  where
    body : List ℕ
    body = drop 2 (concat messages)

    rest : List ℕ
    rest = drop (end + 2 + length (drop 2 (concat messages) ++ 0 ∷ 0 ∷ [])) old

    front : List ℕ
    front = take (end + 2) old

    behind : List ℕ
    behind = body ++ (0 ∷ 0 ∷ rest)

    last : List ℕ
    last = put_batch old end messages

    front_long : length (take (end + 2) old) ≡ end + 2
    front_long = length-take-le (end + 2) old closed.room

    last_is : put_batch old end messages ≡ take (end + 2) old ++ (body ++ (0 ∷ 0 ∷ rest))
    last_is = append_assoc (take (end + 2) old) (body ++ 0 ∷ 0 ∷ []) rest
        ∙ ap (λ l. take (end + 2) old ++ l) (append_assoc body (0 ∷ 0 ∷ []) rest)

    front_of : take (end + 2) (put_batch old end messages) ≡ take (end + 2) old
    front_of = ap (λ l. take (end + 2) l) last_is ∙ take_at front behind (end + 2) front_long

    near : end + 1 ≤ end + 2
    near = omega arith

    far : end + 1 + 1 ≡ end + 2
    far = omega arith

    gate_front : take (end + 1) (put_batch old end messages) ≡ take end old ++ 0 ∷ []
    gate_front = sym (take-take (end + 1) (end + 2) last near) ∙ ap (λ l. take (end + 1) l) front_of
        ∙ take-take (end + 1) (end + 2) old near
        ∙ take_more old end 0 (omega (arith, closed.room)) ∙ ap (λ n. take end old ++ n ∷ []) closed.zero_octet

    gate_behind : drop (end + 1 + 1) (put_batch old end messages) ≡ body ++ (0 ∷ 0 ∷ rest)
    gate_behind = ap (λ n. drop n last) far ∙ ap (λ l. drop (end + 2) l) last_is
        ∙ drop_at front behind (end + 2) front_long

    opened_is : opened (put_batch old end messages) end ≡ take end old ++ (concat messages ++ (0 ∷ 0 ∷ rest))
    opened_is = ap (λ l. l ++ 10 ∷ [] ++ drop (end + 1 + 1) last) gate_front
        ∙ ap (λ l. take end old ++ 0 ∷ [] ++ 10 ∷ [] ++ l) gate_behind
        ∙ append_assoc (take end old ++ 0 ∷ []) (10 ∷ []) behind ∙ append_assoc (take end old) (0 ∷ []) (10 ∷ behind)
        ∙ ap (λ l. take end old ++ (l ++ (0 ∷ 0 ∷ rest))) (sym (begins messages some whole))
