-- Messages as they are written, one after the other.
use Rattle.std.proofs.Common.{◌≡◌, ◌≢◌, ℕ, zero, suc, ◌+◌, ◌*◌, ◌<◌, ◌≤◌}
use Rattle.std.proofs.Common.{true, false, cond, List, [], ◌∷◌, ◌++◌, length, take, drop, Option, Some, None}
use Rattle.std.proofs.Common.{refl, sym, ap, subst, ◌∙◌, arith, append_assoc, length-append, length-drop}
use Rattle.std.specs.Prelude.{◌==◌, IfSome}
use Rattle.std.proofs.lemmas.Bool.{eqb-true, eq-eqb}
use Rattle.std.proofs.lemmas.List.{append-nil, take_at, take-append-drop}
use Rattle.flow_rolled.specs.declared.row.RolledRow.{RolledRow}
use Rattle.flow_rolled.specs.declared.encoding.Place.{Place}
use Rattle.flow_rolled.specs.Messages.{RolledMessage, due, group, head, message_after, messages_from, messages_with}
use Rattle.flow_rolled.specs.Octets.{message_octets, messages_octets}
use Rattle.flow_rolled.specs.Writing.{part_at, IsPlaceOf}
use Rattle.flow_rolled.proofs.Fronts.{group_few, group_rest, group_some}

abbrev Row : Type 0
Row = RolledRow

-- ---- a group's length

pub group_next : (n d : ℕ) (r : Row) (rs : List Row) → r.key.domain ≡ d
    → length (group (suc n) d (r ∷ rs)) ≡ 1 + length (group n d rs)
unfolding group
group_next n d r rs e = rw (eq-eqb r.key.domain d e) (omega arith)

pub group_other : (n d : ℕ) (r : Row) (rs : List Row) → (r.key.domain ≡ d → ⊥) → length (group n d (r ∷ rs)) ≡ 0
unfolding group
group_other zero d r rs e = refl
group_other (suc n) d r rs e =
    elim (r.key.domain == d) as (λ b. (r.key.domain == d) ≡ b → length (cond b (r ∷ group n d rs) []) ≡ 0) [
      | true ↦ λ is. absurd (e (eqb-true r.key.domain d is))
      | false ↦ λ is. refl
    ] refl

pub group_full : (n d : ℕ) (rows : List Row) → n ≡ 0 → length (group n d rows) ≡ 0
unfolding group
group_full zero d rows e = refl
group_full (suc n) d rows e = absurd (omega (arith, e))

pub group_end : (n d : ℕ) (rows : List Row) → rows ≡ [] → length (group n d rows) ≡ 0
unfolding group
group_end zero d rows e = refl
group_end (suc n) d [] e = refl
group_end (suc n) d (r ∷ rs) e = absurd cc

-- so many rows are counted, and this is what is left to count
abbrev pub IsCounted : ℕ → ℕ → List Row → List Row → Type 0
IsCounted count d rows left =
    (n : ℕ) × (count + n ≡ 1000) × (length (group 1000 d rows) ≡ count + length (group n d left))

pub count_more : (count d : ℕ) (rows : List Row) (r : Row) (rs : List Row) → count ≢ 1000 → r.key.domain ≡ d
    → IsCounted count d rows (r ∷ rs) → IsCounted (count + 1) d rows rs
count_more count d rows r rs few own h = more h.0 h.1 h.2
  where
    more : (n : ℕ) → count + n ≡ 1000 → length (group 1000 d rows) ≡ count + length (group n d (r ∷ rs))
        → IsCounted (count + 1) d rows rs
    more zero e f = absurd (few (omega (arith, e)))
    more (suc n) e f = (n, omega (arith, e), let g = group_next n d r rs own in omega (arith, f, g))

pub count_full : (count d : ℕ) (rows left : List Row) → count ≡ 1000 → IsCounted count d rows left
    → count ≡ length (group 1000 d rows)
count_full count d rows left full h = let g = group_full h.0 d left (omega (arith, full, h.1)) in omega (arith, g, h.2)

pub count_other : (count d : ℕ) (rows : List Row) (r : Row) (rs : List Row) → (r.key.domain ≡ d → ⊥)
    → IsCounted count d rows (r ∷ rs) → count ≡ length (group 1000 d rows)
count_other count d rows r rs other h = let g = group_other h.0 d r rs other in omega (arith, g, h.2)

pub count_end : (count d : ℕ) (rows left : List Row) → left ≡ [] → IsCounted count d rows left
    → count ≡ length (group 1000 d rows)
count_end count d rows left none h = let g = group_end h.0 d left none in omega (arith, g, h.2)

pub group_within : (d : ℕ) (rows : List Row)
    → (length (group 1000 d rows) ≤ 1000) × (length (group 1000 d rows) ≤ length rows)
group_within d rows = let g = ap (λ (l : List Row). length l) (group_rest 1000 d rows) in let l =
    length-append (group 1000 d rows) (drop (length (group 1000 d rows)) rows) in
    (group_few 1000 d rows, omega (arith, g, l))

taken : (d : ℕ) (rows : List Row) → take (length (group 1000 d rows)) rows ≡ group 1000 d rows
taken d rows = ap (λ (l : List Row). take (length (group 1000 d rows)) l) (sym (group_rest 1000 d rows))
    ∙ take_at (group 1000 d rows) (drop (length (group 1000 d rows)) rows) (length (group 1000 d rows)) refl

-- ---- the next message

abbrev part : ℕ → ℕ → ℕ → List Row → RolledMessage
part t s d rows = record { time = t; sequence = s; domain = d; rows = rows }

made : (t s d : ℕ) (rows : List Row) (s' d' : ℕ) (rows' : List Row) → s ≡ s' → d ≡ d' → rows ≡ rows'
    → part t s d rows ≡ part t s' d' rows'
made t s d rows s' d' rows' es ed er = λ i. record { time = t; sequence = es i; domain = ed i; rows = er i }

-- rows of the domain of the message before
pub group_at : (time : ℕ) (before place : Place) (b : Option RolledMessage) (rows : List Row) (r : Row) (rs : List Row)
    → IsPlaceOf (Some before) b → rows ≡ r ∷ rs → before.domain ≡ r.key.domain
    → ((q : RolledMessage) → q.sequence ≡ before.sequence → length q.rows ≡ before.count → place.sequence ≡ due q)
    → place.domain ≡ r.key.domain → place.count ≡ length (group 1000 r.key.domain rows)
    → part_at time place rows ≡ message_after time b r rs
group_at time before place None rows r rs tie is same due_is domain count = absurd tie
group_at time before place (Some q) rows r rs tie is same due_is domain count =
    let own : r.key.domain ≡ q.domain = sym same ∙ sym tie.domain in
    let list : take place.count rows ≡ group 1000 q.domain (r ∷ rs) = ap (λ n. take n rows) count
    ∙ taken r.key.domain rows ∙ (λ i. group 1000 (own i) (is i)) in
    rw (eq-eqb r.key.domain q.domain own)
    (made time place.sequence place.domain (take place.count rows) (due q) q.domain (group 1000 q.domain (r ∷ rs))
    (due_is q tie.sequence tie.count) (domain ∙ own) list)

-- the first row's domain begins
pub head_at : (time : ℕ) (before : Option Place) (place : Place) (b : Option RolledMessage) (rows : List Row) (r : Row)
    (rs : List Row) → IsPlaceOf before b → (IfSome before (λ p. p.domain ≡ r.key.domain → ⊥))
    → place.sequence ≡ 0 → place.domain ≡ r.key.domain → place.count ≡ 0
    → part_at time place rows ≡ message_after time b r rs
head_at time None place None rows r rs tie other s d c =
    made time place.sequence place.domain (take place.count rows) 0 r.key.domain [] s d (ap (λ n. take n rows) c)
head_at time None place (Some q) rows r rs tie other s d c = absurd tie
head_at time (Some before) place None rows r rs tie other s d c = absurd tie
head_at time (Some before) place (Some q) rows r rs tie other s d c =
    elim (r.key.domain == q.domain) as (λ t. (r.key.domain == q.domain) ≡ t
    → part_at time place rows ≡ cond t (record {
      time = time;
      sequence = due q;
      domain = q.domain;
      rows =
          group 1000 q.domain (r ∷ rs);
    }) (head time r.key.domain)) [
      | true ↦ λ e. absurd (other (sym tie.domain ∙ sym (eqb-true r.key.domain q.domain e)))
      | false ↦ λ e. made time place.sequence place.domain (take place.count rows) 0 r.key.domain [] s d
          (ap (λ n. take n rows) c)
    ] refl

-- ---- the loop over the rows

-- 1 where the next message is a head
abbrev pub wanted : Option Place → List Row → ℕ
wanted before [] = 1
wanted None (r ∷ rs) = 1
wanted (Some p) (r ∷ rs) = cond (r.key.domain == p.domain) 0 1

-- how many messages may still come
abbrev pub work : Option Place → List Row → ℕ
work before left = 2 * length left + wanted before left

wanted_most : (before : Option Place) (left : List Row) → wanted before left ≤ 1
wanted_most None [] = omega arith
wanted_most (Some p) [] = omega arith
wanted_most None (r ∷ rs) = omega arith
wanted_most (Some p) (r ∷ rs) =
    elim (r.key.domain == p.domain) as (λ t. cond t 0 1 ≤ 1) [ true ↦ omega arith | false ↦ omega arith ]

drop_none : (n : ℕ) (rows : List Row) → n ≡ 0 → drop n rows ≡ rows
drop_none zero rows e = refl
drop_none (suc n) rows e = absurd (omega (arith, e))

-- what next_place says of its message
abbrev IsNext : Option Place → Place → List Row → Type 0
IsNext before place rows = (time : ℕ) (b : Option RolledMessage) (r : Row) (rs : List Row) → IsPlaceOf before b → rows
    ≡ r ∷ rs
    → part_at time place rows ≡ message_after time b r rs

count_is : (n : ℕ) (rows : List Row) → n ≤ length rows → length (take n rows) ≡ n
count_is n rows le = let a = length-append (take n rows) (drop n rows) in let b =
    ap (λ (l : List Row). length l) (take-append-drop n rows) in let c = length-drop n rows in
    omega (arith, a, b, c, le)

begun : (before : Option Place) (place : Place) (r : Row) (rs : List Row) → place.count ≡ 0
    → place.domain ≡ r.key.domain → wanted before (r ∷ rs) ≡ 1
    → work (Some place) (drop place.count (r ∷ rs)) < work before (r ∷ rs)
begun before place r rs none own one =
    let same : drop place.count (r ∷ rs) ≡ r ∷ rs = drop_none place.count (r ∷ rs) none in
    let e : wanted (Some place) (r ∷ rs) ≡ 0 = ap (λ t. cond t 0 1) (eq-eqb r.key.domain place.domain (sym own)) in
    subst (λ (l : List Row). work (Some place) l < work before (r ∷ rs)) (sym same) (omega (arith, e, one))

went_on : (before : Option Place) (place : Place) (r : Row) (rs : List Row) → 0 < place.count
    → place.count ≤ length (r ∷ rs) → work (Some place) (drop place.count (r ∷ rs)) < work before (r ∷ rs)
went_on before place r rs some within = let l = length-drop place.count (r ∷ rs) in let w =
    wanted_most (Some place) (drop place.count (r ∷ rs)) in omega (arith, l, w, some, within)

moves_on : (before : Option Place) (b : Option RolledMessage) (place : Place) (r : Row) (rs : List Row)
    → IsPlaceOf before b
    → place.count ≤ length (r ∷ rs) → part_at 0 place (r ∷ rs) ≡ message_after 0 b r rs
    → work (Some place) (drop place.count (r ∷ rs)) < work before (r ∷ rs)
moves_on None None place r rs tie within is =
    let n = ap (λ (p : RolledMessage). length p.rows) is in let c = count_is place.count (r ∷ rs) within in
    begun None place r rs (sym c ∙ n) (ap (λ (p : RolledMessage). p.domain) is) refl
moves_on None (Some q) place r rs tie within is = absurd tie
moves_on (Some before) None place r rs tie within is = absurd tie
moves_on (Some before) (Some q) place r rs tie within is =
    let c = count_is place.count (r ∷ rs) within in
    elim (r.key.domain == q.domain) as (λ t. (r.key.domain == q.domain) ≡ t
    → part_at 0 place (r ∷ rs) ≡ cond t (record {
      time = 0;
      sequence = due q;
      domain = q.domain;
      rows =
          group 1000 q.domain (r ∷ rs);
    }) (head 0 r.key.domain)
    → work (Some place) (drop place.count (r ∷ rs)) < work (Some before) (r ∷ rs)) [
      | true ↦ λ e h. let n = ap (λ (p : RolledMessage). length p.rows) h in let s =
          group_some 999 q.domain r rs (eqb-true r.key.domain q.domain e) in
          went_on (Some before) place r rs (omega (arith, c, n, s)) within
      | false ↦ λ e h.
          let n = ap (λ (p : RolledMessage). length p.rows) h in
          let one : wanted (Some before) (r ∷ rs) ≡ 1 =
          ap (λ t. cond t 0 1) (ap (λ d. r.key.domain == d) (sym tie.domain) ∙ e) in
          begun (Some before) place r rs (sym c ∙ n) (ap (λ (p : RolledMessage). p.domain) h) one
    ] refl is

-- the octets so far, and those of the messages that still come
pub record IsWritten (w time : ℕ) (all octets : List ℕ) (before : Option Place) (left : List Row) : Type 0 where
  pub fuel : ℕ
  pub part : Option RolledMessage
  pub tie : IsPlaceOf before part
  pub enough : work before left ≤ fuel + 1
  pub is : all ≡ octets ++ messages_octets w (messages_from fuel time part left)

pub none_written : (w time : ℕ) (rows : List Row) (octets : List ℕ) → octets ≡ []
    → IsWritten w time (messages_octets w (messages_with time rows)) octets None rows
none_written w time rows octets none =
    record {
      fuel = 2 * length rows;
      part = None;
      tie = tt;
      enough = let m = wanted_most None rows in
          omega (arith, m);
      is = ap (λ (l : List ℕ). l ++ messages_octets w (messages_with time rows)) (sym none);
    }

pub place_moves : (w time : ℕ) (all octets : List ℕ) (before : Option Place) (left : List Row) (place : Place)
    → IsWritten w time all octets before left → 0 < length left → IsNext before place left → place.count ≤ length left
    → work (Some place) (drop place.count left) < work before left
place_moves w time all octets before [] place h some next within = absurd (omega (arith, some))
place_moves w time all octets before (r ∷ rs) place h some next within =
    moves_on before h.part place r rs h.tie within (next 0 h.part r rs h.tie refl)

written : (w time : ℕ) (all octets new : List ℕ) (before : Option Place) (place : Place) (r : Row) (rs : List Row)
    (b : Option RolledMessage) → IsPlaceOf before b → place.count ≤ length (r ∷ rs)
    → part_at time place (r ∷ rs) ≡ message_after time b r rs
    → work (Some place) (drop place.count (r ∷ rs)) < work before (r ∷ rs) → (n : ℕ) → work before (r ∷ rs) ≤ suc n + 1
    → all ≡ octets ++ messages_octets w (messages_from (suc n) time b (r ∷ rs))
    → new ≡ octets ++ message_octets w (part_at time place (r ∷ rs))
    → IsWritten w time all new (Some place) (drop place.count (r ∷ rs))
unfolding messages_from
written w time all octets new before place r rs b tie within is less n enough all_is new_is =
    let p = part_at time place (r ∷ rs) in
    let c = count_is place.count (r ∷ rs) within in
    let len : length (message_after time b r rs).rows ≡ place.count = ap (λ (q : RolledMessage). length q.rows) (sym
    is) ∙ c in
    record {
      fuel = n;
      part = Some p;
      tie = record { sequence = refl; domain = refl; count = c };
      enough = omega (arith, less, enough);
      is = all_is ∙ ap (λ (l : List ℕ). octets ++ l)
          (λ i. message_octets w (sym is i) ++ messages_octets w
          (messages_from n time (Some (sym is i)) (drop (len i) (r ∷ rs))))
          ∙ sym (append_assoc octets (message_octets w p)
          (messages_octets w (messages_from n time (Some p) (drop place.count (r ∷ rs)))))
          ∙ ap (λ (l : List ℕ). l ++ messages_octets w (messages_from n time (Some p) (drop place.count (r ∷ rs))))
          (sym new_is);
    }

pub one_written : (w time : ℕ) (all octets new : List ℕ) (before : Option Place) (left : List Row) (place : Place)
    → IsWritten w time all octets before left → 0 < length left → IsNext before place left → place.count ≤ length left
    → new ≡ octets ++ message_octets w (part_at time place left)
    → IsWritten w time all new (Some place) (drop place.count left)
one_written w time all octets new before [] place h some next within new_is = absurd (omega (arith, some))
one_written w time all octets new before (r ∷ rs) place h some next within new_is = step h.fuel h.enough h.is
  where
    step : (n : ℕ) → work before (r ∷ rs) ≤ n + 1 → all ≡ octets ++ messages_octets w (messages_from n time h.part (r ∷
        rs))
        → IsWritten w time all new (Some place) (drop place.count (r ∷ rs))
    step zero enough is = absurd (omega (arith, enough))
    step (suc n) enough is =
        written w time all octets new before place r rs h.part h.tie within (next time h.part r rs h.tie refl)
        (moves_on before h.part place r rs h.tie within (next 0 h.part r rs h.tie refl)) n enough is new_is

ends : (n time : ℕ) (b : Option RolledMessage) → messages_from n time b [] ≡ []
unfolding messages_from
ends zero time b = refl
ends (suc n) time b = refl

pub all_written : (w time : ℕ) (all octets : List ℕ) (before : Option Place) (left : List Row)
    → IsWritten w time all octets before left → left ≡ [] → octets ≡ all
all_written w time all octets before left h none =
    sym (h.is ∙ ap (λ (l : List ℕ). octets ++ l)
    (ap (λ (l : List Row). messages_octets w (messages_from h.fuel time h.part l)) none
    ∙ ap (messages_octets w) (no_parts h.fuel h.part)) ∙ append-nil octets)
  where
    no_parts : (n : ℕ) (b : Option RolledMessage) → messages_from n time b [] ≡ []
    no_parts n b = ends n time b
