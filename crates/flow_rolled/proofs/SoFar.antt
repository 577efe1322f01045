-- The loop over a rolled file's messages.
use Rattle.std.proofs.Common.{◌≡◌, ℕ, suc, ◌+◌, ◌-◌, true, false, cond, not, ◌<◌, ◌≤◌, ◌^◌, List, []}
use Rattle.std.proofs.Common.{◌∷◌, ◌++◌, length, Option, Some, None, refl, sym, ap, subst, ◌∙◌, arith, append_assoc}
use Rattle.std.proofs.Common.{length-append}
use Rattle.std.proofs.lemmas.List.{append-nil}
use Rattle.std.specs.Prelude.{is_some, filter}
use Rattle.flow_measure.specs.Sums.{Table, empty_table, gathered}
use Rattle.flow_rolled.specs.declared.message.State.{State}
use Rattle.flow_rolled.specs.Rows.{sums_of, AreRows}
use Rattle.flow_rolled.specs.Messages.{rows_within, last_message}
use Rattle.flow_rolled.specs.Messages.{RolledMessage, Follows, AllFollow, IsDone}
use Rattle.flow_rolled.specs.Octets.{message_octets, messages_octets}
use Rattle.flow_rolled.specs.Rollup.{IsRollup, IsBroken}
use Rattle.flow_rolled.specs.Reading.{Stands, Knows, IsStuck}
use Rattle.flow_rolled.specs.Stored.{IsEnd}
use Rattle.flow_rolled.proofs.Grouping.{Row}
use Rattle.flow_rolled.proofs.Fronts.{rows_in_order}
use Rattle.flow_rolled.specs.Octets.{row_octets, rows_octets, row_set_octets, sets_of, has_protocol, has_none}
use Rattle.flow_rolled.proofs.PartOctets.{row_long}
use Rattle.flow_rolled.proofs.SameParts.{part_long}
use Rattle.flow_rolled.proofs.Breaking.{last_more, follow_more, octets_more, rollup_of, broken_at}

-- the messages before this place
pub record IsSoFar (w : ℕ) (octets rest : List ℕ) (before : Option State) (rows : Table)
    (front : List RolledMessage) : Type 0 where
  pub is : octets ≡ messages_octets w front ++ rest
  pub follow : AllFollow w None front
  pub stands : Stands before (last_message None front)
  pub sums : rows ≡ record { width = w; sums = sums_of (rows_within front) }

pub rows_more : (ps qs : List RolledMessage) → rows_within (ps ++ qs) ≡ rows_within ps ++ rows_within qs
rows_more [] qs = refl
rows_more (p ∷ ps) qs = ap (λ (l : List Row). p.rows ++ l) (rows_more ps qs)
    ∙ sym (append_assoc p.rows (rows_within ps) (rows_within qs))

pub rows_one_more : (front : List RolledMessage) (p : RolledMessage) → rows_within (front ++ p ∷ [])
    ≡ rows_within front ++ p.rows
rows_one_more front p = rows_more front (p ∷ []) ∙ ap (λ (l : List Row). rows_within front ++ l) (append-nil p.rows)

pub one_more_follows : (w : ℕ) (front : List RolledMessage) (p : RolledMessage) → AllFollow w None front
    → Follows w (last_message None front) p → AllFollow w None (front ++ p ∷ [])
one_more_follows w front p all h = follow_more w None front (p ∷ []) all (h, tt)

-- the rows so far and those of the next message are in order
pub rows_follow : (w : ℕ) (front : List RolledMessage) (p : RolledMessage) → AllFollow w None front
    → Follows w (last_message None front) p
    → AreRows w None (rows_within front ++ p.rows)
rows_follow w front p all h =
    subst (AreRows w None) (rows_one_more front p)
    (rows_in_order w (front ++ p ∷ []) (one_more_follows w front p all h))

pub parts_more : (w : ℕ) (octets rest after : List ℕ) (front : List RolledMessage) (p : RolledMessage)
    → octets ≡ messages_octets w front ++ rest → rest ≡ message_octets w p ++ after
    → octets ≡ messages_octets w (front ++ p ∷ []) ++ after
parts_more w octets rest after front p is is_2 =
    is ∙ ap (λ (l : List ℕ). messages_octets w front ++ l) is_2
    ∙ sym (append_assoc (messages_octets w front) (message_octets w p) after)
    ∙ ap (λ (l : List ℕ). messages_octets w front ++ l ++ after) (sym (append-nil (message_octets w p)))
    ∙ ap (λ (l : List ℕ). l ++ after) (sym (octets_more w front (p ∷ [])))

pub one_more : (w : ℕ) (octets rest after : List ℕ) (before : Option State) (rows new : Table) (front : List
    RolledMessage)
    (p : RolledMessage) (s : State)
    → IsSoFar w octets rest before rows front → rest ≡ message_octets w p ++ after
    → Follows w (last_message None front) p
    → Knows s p
    → new ≡ record { width = w; sums = sums_of (rows_within front ++ p.rows) }
    → IsSoFar w octets after (Some s) new (front ++ p ∷ [])
one_more w octets rest after before rows new front p s h is follows knows sums = record {
  is = parts_more w octets rest after front p h.is is;
  follow = one_more_follows w front p h.follow follows;
  stands = subst (Stands (Some s)) (sym (last_more None front (p ∷ []))) knows;
  sums = sums ∙ ap (λ l. record { width = w; sums = sums_of l }) (sym (rows_one_more front p));
}

pub at_start : (w : ℕ) (octets : List ℕ) (rows : Table) → rows ≡ record { width = w; sums = sums_of [] }
    → IsSoFar w octets octets None rows []
at_start w octets rows h = record { is = refl; follow = tt; stands = tt; sums = h }

-- the state says whether the last message is a head
pub done_if : (before : Option State) (b : Option RolledMessage) → Stands before b → IsEnd before → IsDone b
done_if None None h e = tt
done_if None (Some p) h e = absurd h
done_if (Some s) None h e = absurd h
done_if (Some s) (Some p) h e = let c = h.count in omega (arith, c, e)

pub not_done : (s : State) (b : Option RolledMessage) → Stands (Some s) b → s.count ≡ 0 → IsDone b → ⊥
not_done s None h e d = h
not_done s (Some p) h e d = let c = h.count in omega (arith, c, e, d)

pub no_octets : (rest : List ℕ) → length rest ≡ 0 → rest ≡ []
no_octets [] h = refl
no_octets (x ∷ xs) h = absurd (omega (arith, h))

pub at_end : (w : ℕ) (octets rest : List ℕ) (before : Option State) (rows : Table) (front : List RolledMessage)
    → IsSoFar w octets rest before rows front → length rest ≡ 0 → IsEnd before → IsRollup w octets rows
at_end w octets rest before rows front h none e =
    subst (IsRollup w octets) (sym h.sums)
    (rollup_of w octets front h.follow (done_if before (last_message None front) h.stands e) (h.is
    ∙ ap (λ (l : List ℕ). messages_octets w front ++ l) (no_octets rest none) ∙ append-nil (messages_octets w front)))

pub broken : (w : ℕ) → w < 2 ^ 32 → (octets rest : List ℕ) (before : Option State) (rows : Table) (front : List
    RolledMessage)
    → IsSoFar w octets rest before rows front → ((b : Option RolledMessage) → Stands before b → IsStuck w b rest)
    → 0 < length rest → IsBroken w octets (length octets - length rest)
broken w wide octets rest before rows front h stuck some =
    let at : length (messages_octets w front) ≡ length octets - length rest = let l =
    ap (λ (x : List ℕ). length x) h.is in let m = length-append (messages_octets w front) rest in
    omega (arith, l, m) in
    subst (IsBroken w octets) at
    (broken_at w wide octets front rest h.follow h.is (stuck (last_message None front) h.stands)
    (λ none. absurd (let l = ap (λ (x : List ℕ). length x) none in omega (arith, l, some))))

-- there is no message at the end
pub stuck_end : (w : ℕ) (rest : List ℕ) → length rest ≡ 0 → (b : Option RolledMessage) → IsStuck w b rest
stuck_end w rest none b p more f e = absurd (let l = ap (λ (x : List ℕ). length x) e in let n = part_long w p in
    let m = length-append (message_octets w p) more in omega (arith, l, n, m, none))

pub broken_end : (w : ℕ) → w < 2 ^ 32 → (octets rest : List ℕ) (s : State) (rows : Table) (front : List RolledMessage)
    → IsSoFar w octets rest (Some s) rows front → length rest ≡ 0 → s.count ≡ 0 → IsBroken w octets (length octets)
broken_end w wide octets rest s rows front h none bare =
    let at : length (messages_octets w front) ≡ length octets = let l = ap (λ (x : List ℕ). length x) h.is in let m =
    length-append (messages_octets w front) rest in omega (arith, l, m, none) in
    subst (IsBroken w octets) at (broken_at w wide octets front rest h.follow h.is (stuck_end (last_message None front))
    (λ e. not_done s (last_message None front) h.stands bare))
  where
    stuck_end : (b : Option RolledMessage) → IsStuck w b rest
    stuck_end b p more f e = absurd (let l = ap (λ (x : List ℕ). length x) e in let n = part_long w p in let m =
        length-append (message_octets w p) more in omega (arith, l, n, m, none))

pub no_sums : (w : ℕ) → record { width = w; sums = sums_of [] } ≡ empty_table w
unfolding gathered
no_sums w = refl

-- ---- there are no more rows than octets

rows_least : (w : ℕ) (rs : List Row) → length rs ≤ length (rows_octets w rs)
rows_least w [] = omega arith
rows_least w (r ∷ rs) = let a = length-append (row_octets w r) (rows_octets w rs) in let b = (row_long w r).0 in
    let i = rows_least w rs in omega (arith, a, b, i)

set_least : (w n : ℕ) (rs : List Row) → length rs ≤ length (row_set_octets w n rs)
set_least w n [] = omega arith
set_least w n (r ∷ rs) = let a = rows_least w (r ∷ rs) in omega (arith, a)

pub count_parted : (rows : List Row) → length (filter has_protocol rows) + length (filter has_none rows) ≡ length rows
count_parted [] = refl
count_parted (r ∷ rs) =
    elim (is_some r.key.protocol) as
    (λ t. length (cond t (r ∷ filter has_protocol rs) (filter has_protocol rs)) + length
    (cond (not t) (r ∷ filter has_none rs) (filter has_none rs)) ≡ suc (length rs)) [
      | true ↦ let i = count_parted rs in omega (arith, i)
      | false ↦ let i = count_parted rs in omega (arith, i)
    ]

sets_least : (w : ℕ) (rows : List Row) → length rows ≤ length (sets_of w rows)
sets_least w [] = omega arith
sets_least w (r ∷ rs) =
    let a = set_least w 256 (filter has_protocol (r ∷ rs)) in
    let b = set_least w 257 (filter has_none (r ∷ rs)) in
    let c = length-append (row_set_octets w 256 (filter has_protocol (r ∷ rs)))
    (row_set_octets w 257 (filter has_none (r ∷ rs))) in
    let n = count_parted (r ∷ rs) in
    omega (arith, a, b, c, n)

part_least : (w : ℕ) (p : RolledMessage) → length p.rows ≤ length (message_octets w p)
unfolding message_octets
part_least w p = let s = sets_least w p.rows in omega (arith, s)

parts_least : (w : ℕ) (ps : List RolledMessage) → length (rows_within ps) ≤ length (messages_octets w ps)
parts_least w [] = omega arith
parts_least w (p ∷ ps) = let a = part_least w p in let i = parts_least w ps in let l =
    length-append p.rows (rows_within ps) in let m = length-append (message_octets w p) (messages_octets w ps) in
    omega (arith, a, i, l, m)

pub few_rows : (w : ℕ) (octets rest after : List ℕ) (front : List RolledMessage) (p : RolledMessage)
    → octets ≡ messages_octets w front ++ rest → rest ≡ message_octets w p ++ after → length octets < 2 ^ 64
    → length (rows_within front) + length p.rows < 2 ^ 64
few_rows w octets rest after front p is is_2 lt =
    let a = parts_least w front in
    let b = part_least w p in
    let c = ap (λ (l : List ℕ). length l) is in
    let d = ap (λ (l : List ℕ). length l) is_2 in
    let e = length-append (messages_octets w front) rest in
    let f = length-append (message_octets w p) after in
    omega (arith, a, b, c, d, e, f, lt)
