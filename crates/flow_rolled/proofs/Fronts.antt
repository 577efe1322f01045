-- The messages of rows in order follow one another, and rows of messages that do are in order.
use Rattle.std.proofs.Common.{◌≡◌, ℕ, zero, suc, ◌+◌, ◌*◌, ◌≤◌, ◌<◌, ◌⊎◌, inl, inr, ⊎_elim, true, false}
use Rattle.std.proofs.Common.{cond, List, [], ◌∷◌, ◌++◌, length, drop, Option, Some, None, refl, sym, ap, subst}
use Rattle.std.proofs.Common.{arith, length-append}
use Rattle.std.specs.Prelude.{◌==◌}
use Rattle.std.specs.List.{AllByRecursion}
use Rattle.std.proofs.lemmas.Bool.{eqb-true, eq-eqb, eqb-false}
use Rattle.flow_rolled.specs.Rows.{AreRows}
use Rattle.flow_rolled.specs.Messages.{rows_within}
use Rattle.flow_rolled.specs.Messages.{RolledMessage, group, last_from}
use Rattle.flow_rolled.specs.Messages.{AllFollow, EndsWell}
use Rattle.flow_rolled.proofs.Grouping.{Row, Own, IsPast, less_domain, rows_append}

-- ---- one time

pub one_time : (w : ℕ) (b : RolledMessage) (ps : List RolledMessage) → AllFollow w (Some b) ps
    → AllByRecursion (λ p. p.time ≡ b.time) ps
one_time w b [] all = tt
one_time w b (p ∷ ps) all =
    let now : p.time ≡ b.time = ⊎_elim (λ h. h.time) (λ h. h.time) all.0 in
    (now, subst (λ t. AllByRecursion (λ (q : RolledMessage). q.time ≡ t) ps) now (one_time w p ps all.1))

-- ---- not many messages

-- one more where it is after a head
abbrev pub extra : List Row → ℕ
extra [] = 1
extra (r ∷ rs) = 0

pub extra_of : (rows : List Row) → extra rows ≤ 1
extra_of [] = omega arith
extra_of (r ∷ rs) = omega arith

pub extra_some : (rows : List Row) → 0 < length rows → extra rows ≡ 0
extra_some [] h = absurd (omega (arith, h))
extra_some (r ∷ rs) h = refl

pub few_parts : (w : ℕ) (b : RolledMessage) (ps : List RolledMessage) → AllFollow w (Some b) ps → EndsWell (Some b) ps
    → length ps + extra b.rows ≤ 2 * length (rows_within ps)
few_parts w b [] all ends = let e = extra_some b.rows ends in omega (arith, e)
few_parts w b (p ∷ ps) all ends = ⊎_elim
    (λ h. let e = extra_some b.rows h.rows in
    let i = few_parts w p ps all.1 ends in
    let n = ap extra (h.head).rows in
    let l = ap (λ (x : List Row). length (x ++ rows_within ps)) (h.head).rows in
    omega (arith, e, i, n, l))
    (λ h. let e = extra_of b.rows in
    let i = few_parts w p ps all.1 ends in
    let s = h.some in
    let l = length-append p.rows (rows_within ps) in
    omega (arith, e, i, s, l))
    all.0

-- ---- rows of messages that follow one another are in order

abbrev IsUnder : ℕ → Option Row → Type 0
IsUnder d None = Unit {0}
IsUnder d (Some r) = r.key.domain < d

abbrev IsUpTo : ℕ → Option Row → Type 0
IsUpTo d None = Unit {0}
IsUpTo d (Some r) = r.key.domain ≤ d

up_to : (d : ℕ) (o : Option Row) (rows : List Row) → IsUpTo d o → Own d rows → IsUpTo d (last_from o rows)
up_to d o [] h own = h
up_to d o (r ∷ rs) h own = let e = own.0 in up_to d (Some r) rs (omega (arith, e)) own.1

under : (d e : ℕ) (o : Option Row) → IsUpTo d o → d < e → IsUnder e o
under d e None h lt = tt
under d e (Some r) h lt = omega (arith, h, lt)

-- the first rows of a domain follow rows of lesser ones
behind_lesser : (w d : ℕ) (o : Option Row) (rows : List Row) → AreRows w None rows → Own d rows → IsUnder d o
    → AreRows w o rows
behind_lesser w d o [] h own lt = tt
behind_lesser w d None (r ∷ rs) h own lt = h
behind_lesser w d (Some l) (r ∷ rs) h own lt = let e = own.0 in
    (h.0, inr (record { order = less_domain l.key r.key (omega (arith, e, lt)); flows = h.1 }), h.2)

last_some : (o : Option Row) (rows : List Row) → 0 < length rows → last_from o rows ≡ last_from None rows
last_some o [] h = absurd (omega (arith, h))
last_some o (r ∷ rs) h = refl

-- the last row before, from a message on: in it, or in a lesser domain
pub record Ends (b : RolledMessage) (o : Option Row) : Type 0 where
  pub own : Own b.domain b.rows
  pub at : ((0 < length b.rows) × (o ≡ last_from None b.rows)) ⊎ ((b.rows ≡ []) × IsUnder b.domain o)

pub in_order : (w : ℕ) (b : RolledMessage) (o : Option Row) (ps : List RolledMessage) → AllFollow w (Some b) ps
    → Ends b o
    → AreRows w o (rows_within ps)
in_order w b o [] all at = tt
in_order w b o (p ∷ ps) all at = ⊎_elim
    (λ h.
    let last : IsUnder p.domain o = ⊎_elim
    (λ f. subst (IsUnder p.domain) (sym f.1)
    (under b.domain p.domain (last_from None b.rows) (up_to b.domain None b.rows tt at.own) h.domain))
    (λ f. absurd (let e = ap (λ (l : List Row). length l) f.0 in let s = h.rows in omega (arith, e, s))) at.at in
    let none = (h.head).rows in
    subst (λ (l : List Row). AreRows w o (l ++ rows_within ps)) (sym none)
    (in_order w p o ps all.1 (record { own = subst (Own p.domain) (sym none) tt; at = inr (none, last) })))
    (λ h.
    let first : AreRows w o p.rows = ⊎_elim
    (λ f. subst (λ x. AreRows w x p.rows) (sym f.1) h.order)
    (λ f. behind_lesser w p.domain o p.rows
    (subst (λ (l : List Row). AreRows w (last_from None l) p.rows) f.0 h.order) h.own
    (subst (λ d. IsUnder d o) (sym h.domain) f.1)) at.at in
    rows_append w o p.rows (rows_within ps) first
    (in_order w p (last_from o p.rows) ps all.1 (record { own = h.own; at = inl (h.some, last_some o p.rows h.some) })))
    all.0

-- from the beginning
pub rows_in_order : (w : ℕ) (ps : List RolledMessage) → AllFollow w None ps → AreRows w None (rows_within ps)
rows_in_order w [] all = tt
rows_in_order w (p ∷ ps) all =
    let none = (all.0).rows in
    subst (λ (l : List Row). AreRows w None (l ++ rows_within ps)) (sym none)
    (in_order w p None ps all.1 (record { own = subst (Own p.domain) (sym none) tt; at = inr (none, tt) }))

-- ---- the messages of rows in order follow one another

-- a group is of its domain, and what is left of the rows
pub group_own : (n d : ℕ) (rows : List Row) → Own d (group n d rows)
unfolding group
group_own zero d rows = tt
group_own (suc n) d [] = tt
group_own (suc n) d (r ∷ rs) =
    elim (r.key.domain == d) as (λ b. (r.key.domain == d) ≡ b → Own d (cond b (r ∷ group n d rs) [])) [
      | true ↦ λ e. (eqb-true r.key.domain d e, group_own n d rs)
      | false ↦ λ e. tt
    ] refl

pub group_few : (n d : ℕ) (rows : List Row) → length (group n d rows) ≤ n
unfolding group
group_few zero d rows = omega arith
group_few (suc n) d [] = omega arith
group_few (suc n) d (r ∷ rs) = elim (r.key.domain == d) as (λ b. length (cond b (r ∷ group n d rs) []) ≤ suc n) [
  | true ↦ let i = group_few n d rs in omega (arith, i)
  | false ↦ omega arith
]

pub group_rest : (n d : ℕ) (rows : List Row) → group n d rows ++ drop (length (group n d rows)) rows ≡ rows
unfolding group
group_rest zero d rows = refl
group_rest (suc n) d [] = refl
group_rest (suc n) d (r ∷ rs) =
    elim (r.key.domain ==
    d) as (λ b. cond b (r ∷ group n d rs) [] ++ drop (length (cond b (r ∷ group n d rs) [])) (r ∷ rs) ≡ r ∷ rs) [
      | true ↦ ap (λ (l : List Row). r ∷ l) (group_rest n d rs)
      | false ↦ refl
    ]

pub group_ends : (n d : ℕ) (rows : List Row) → (length (group n d rows) ≡ n)
    ⊎ IsPast d (drop (length (group n d rows)) rows)
unfolding group
group_ends zero d rows = inl refl
group_ends (suc n) d [] = inr tt
group_ends (suc n) d (r ∷ rs) =
    elim (r.key.domain == d) as (λ b. (r.key.domain == d) ≡ b → (length (cond b (r ∷ group n d rs) []) ≡ suc n)
    ⊎ IsPast d (drop (length (cond b (r ∷ group n d rs) [])) (r ∷ rs))) [
      | true ↦ λ e. ⊎_elim (λ h. inl (omega (arith, h))) (λ h. inr h) (group_ends n d rs)
      | false ↦ λ e. inr (eqb-false r.key.domain d e)
    ] refl

pub group_some : (n d : ℕ) (r : Row) (rs : List Row) → r.key.domain ≡ d → 0 < length (group (suc n) d (r ∷ rs))
unfolding group
group_some n d r rs e = rw (eq-eqb r.key.domain d e) (omega arith)
