-- Which messages hold which rows.
use Rattle.std.proofs.Common.{◌≡◌, ◌≢◌, ℕ, zero, suc, ◌≤◌, ◌<◌, ◌⊎◌, inl, inr, ⊎_elim, true, false}
use Rattle.std.proofs.Common.{List, [], ◌∷◌, ◌++◌, length, drop, Option, Some, None, refl, sym, ap, subst, ◌∙◌}
use Rattle.std.proofs.Common.{arith}
use Rattle.std.specs.Prelude.{◌==◌}
use Rattle.std.specs.List.{AllByRecursion}
use Rattle.std.specs.Ordering.{nat_cmp, ordering_then}
use Rattle.std.specs.declared.cmp.Ordering.{Ordering}
use Rattle.std.specs.declared.cmp.Ordering.TheVariants.{Less, Equal, Greater}
use Rattle.std.specs.Cmp.{ranked, nat_cmp_is}
use Rattle.std.proofs.lemmas.Bool.{eqb-true, eq-eqb, eqb-false}
use Rattle.std.proofs.Math.Seq.{drop-append_seam}
use Rattle.flow_measure.specs.declared.rows.Key.{Key}
use Rattle.flow_rolled.specs.declared.row.RolledRow.{RolledRow}
use Rattle.flow_rolled.specs.Rows.{file_cmp, MayFollow, AreRows}
use Rattle.flow_rolled.specs.Messages.{RolledMessage, due, group, head, messages_from, last_from, IsHead}
use Rattle.flow_rolled.specs.Messages.{RowsFollow, AllFollow, EndsWell, rows_within}

abbrev pub Row : Type 0
Row = RolledRow

-- ---- domains rise

pub ordered : (m n : ℕ) (o : Ordering) → ordering_then (nat_cmp m n) o ≡ Less → m ≤ n
ordered m n o h = elim (nat_cmp m n) as (λ r. nat_cmp m n ≡ r → ordering_then r o ≡ Less → m ≤ n) [
  | Less ↦ λ e k. let lt : m < n = ranked m n Less (sym e) in omega (arith, lt)
  | Equal ↦ λ e k. let eq : m ≡ n = ranked m n Equal (sym e) in omega (arith, eq)
  | Greater ↦ λ e k. absurd cc
] refl h

pub domains_rise : (a b : Key) → file_cmp a b ≡ Less → a.domain ≤ b.domain
domains_rise a b h = ordered a.domain b.domain _ h

pub less_domain : (a b : Key) → a.domain < b.domain → file_cmp a b ≡ Less
less_domain a b h = let less : Less ≡ nat_cmp a.domain b.domain = nat_cmp_is a.domain b.domain Less h in
    rw (sym less) refl

pub next_domain : (a b : Row) → MayFollow (Some a) b → a.key.domain ≤ b.key.domain
next_domain a b (inl h) = let e = ap (λ (k : Key). k.domain) h.key in omega (arith, e)
next_domain a b (inr h) = domains_rise a.key b.key h.order

-- ---- rows in order, joined

pub rows_append : (w : ℕ) (b : Option Row) (xs ys : List Row) → AreRows w b xs → AreRows w (last_from b xs) ys
    → AreRows w b (xs ++ ys)
rows_append w b [] ys hx hy = hy
rows_append w b (x ∷ xs) ys hx hy = (hx.0, hx.1, rows_append w (Some x) xs ys hx.2 hy)

pub rows_front : (w : ℕ) (b : Option Row) (xs ys : List Row) → AreRows w b (xs ++ ys)
    → AreRows w b xs × AreRows w (last_from b xs) ys
rows_front w b [] ys h = (tt, h)
rows_front w b (x ∷ xs) ys h = let r = rows_front w (Some x) xs ys h.2 in ((h.0, h.1, r.0), r.1)

-- the first row isn't of this domain
abbrev pub IsPast : ℕ → List Row → Type 0
IsPast d [] = Unit {0}
IsPast d (r ∷ rs) = r.key.domain ≢ d

abbrev pub Own : ℕ → List Row → Type 0
Own d rows = AllByRecursion (λ r. r.key.domain ≡ d) rows

-- ---- a group

other : (a b : ℕ) → a ≢ b → (a == b) ≡ false
other a b h = elim (a == b) as (λ t. (a == b) ≡ t → t ≡ false) [
  | true ↦ λ e. absurd (h (eqb-true a b e))
  | false ↦ λ e. refl
] refl

group_past : (n d : ℕ) (rows : List Row) → IsPast d rows → group n d rows ≡ []
unfolding group
group_past zero d rows h = refl
group_past (suc n) d [] h = refl
group_past (suc n) d (r ∷ rs) h = rw (other r.key.domain d h) refl

pub group_again : (n d : ℕ) (g rows : List Row) → Own d g → length g ≤ n → (length g ≡ n) ⊎ IsPast d rows
    → group n d (g ++ rows) ≡ g
unfolding group
group_again zero d [] rows own few ends = refl
group_again zero d (r ∷ rs) rows own few ends = absurd (omega (arith, few))
group_again (suc n) d [] rows own few (inl full) = absurd (omega (arith, full))
group_again (suc n) d [] rows own few (inr past) = group_past (suc n) d rows past
group_again (suc n) d (r ∷ rs) rows own few ends =
    let rest : (length rs ≡ n) ⊎ IsPast d rows = ⊎_elim (λ full. inl (omega (arith, full))) (λ past. inr past) ends in
    rw (eq-eqb r.key.domain d own.0)
    (ap (λ (g : List Row). r ∷ g) (group_again n d rs rows own.1 (omega (arith, few)) rest))

-- ---- messages that follow one another are those of their rows

pub no_length : (rows : List Row) → length rows ≡ 0 → rows ≡ []
no_length [] h = refl
no_length (r ∷ rs) h = absurd (omega (arith, h))

first_past : (d e : ℕ) (rows more : List Row) → 0 < length rows → Own e rows → d < e → IsPast d (rows ++ more)
first_past d e [] more some own lt = absurd (omega (arith, some))
first_past d e (r ∷ rs) more some own lt = λ is. let e_is = own.0 in omega (arith, is, e_is, lt)

abbrev pub Starts : ℕ → List Row → Type 0
Starts d [] = ⊥
Starts d (r ∷ rs) = r.key.domain ≡ d

first_starts : (d : ℕ) (rows more : List Row) → 0 < length rows → Own d rows → Starts d (rows ++ more)
first_starts d [] more some own = absurd (omega (arith, some))
first_starts d (r ∷ rs) more some own = own.0

starts_past : (d e : ℕ) (rows : List Row) → Starts e rows → d < e → IsPast d rows
starts_past d e [] h lt = tt
starts_past d e (r ∷ rs) h lt = λ is. omega (arith, is, h, lt)

-- after a head come rows of its domain
pub after_head : (w : ℕ) (p : RolledMessage) (ps : List RolledMessage) → AllFollow w (Some p) ps → EndsWell (Some p) ps
    → p.rows ≡ []
    → Starts p.domain (rows_within ps)
after_head w p [] all ends none = absurd (let e = ap (λ (l : List Row). length l) none in omega (arith, ends, e))
after_head w p (q ∷ qs) all ends none = ⊎_elim
    (λ h. absurd (let e = ap (λ (l : List Row). length l) none in let s = h.rows in omega (arith, s, e)))
    (λ h. first_starts p.domain q.rows (rows_within qs) h.some (subst (λ d. Own d q.rows) h.domain h.own))
    all.0

-- after a message that isn't full come no rows of its domain
pub after_short : (w : ℕ) (b : RolledMessage) (ps : List RolledMessage) → AllFollow w (Some b) ps → EndsWell (Some b) ps
    → 0 < length b.rows → length b.rows ≢ 1000 → IsPast b.domain (rows_within ps)
after_short w b [] all ends some short = tt
after_short w b (p ∷ ps) all ends some short = ⊎_elim
    (λ h. subst (λ (l : List Row). IsPast b.domain (l ++ rows_within ps)) (sym (h.head).rows)
    (starts_past b.domain p.domain (rows_within ps) (after_head w p ps all.1 ends (h.head).rows) h.domain))
    (λ h. absurd (⊎_elim (λ e. omega (arith, some, e)) (λ e. short e) h.room))
    all.0

made : (p : RolledMessage) (t s d : ℕ) (rows : List Row) → p.time ≡ t → p.sequence ≡ s → p.domain ≡ d → p.rows ≡ rows
    → record { time = t; sequence = s; domain = d; rows = rows } ≡ p
made p t s d rows et es ed er = λ i. record { time = sym et i; sequence = sym es i; domain = sym ed i; rows = sym er i }

abbrev pub IsElsewhere : ℕ → Option RolledMessage → Type 0
IsElsewhere d None = Unit {0}
IsElsewhere d (Some b) = b.domain < d

pub step_head : (n time d : ℕ) (b : Option RolledMessage) (rows : List Row) → Starts d rows → IsElsewhere d b
    → messages_from (suc n) time b rows ≡ head time d ∷ messages_from n time (Some (head time d)) rows
unfolding messages_from
step_head n time d b [] starts else = absurd starts
step_head n time d None (r ∷ rs) starts else = rw starts refl
step_head n time d (Some b) (r ∷ rs) starts else =
    let differs : (r.key.domain == b.domain) ≡ false =
    other r.key.domain b.domain (λ e. omega (arith, e, starts, else)) in
    rw (differs, starts) refl

abbrev pub of_rows : ℕ → RolledMessage → List Row → RolledMessage
of_rows time b rows = record { time = time; sequence = due b; domain = b.domain; rows = rows }

pub step_group : (n time : ℕ) (b : RolledMessage) (rows g more : List Row) → Starts b.domain rows
    → group 1000 b.domain rows ≡ g
    → drop (length g) rows ≡ more
    → messages_from (suc n) time (Some b) rows ≡ of_rows time b g ∷ messages_from n time (Some (of_rows time b g)) more
unfolding messages_from
step_group n time b [] g more starts is left = absurd starts
step_group n time b (r ∷ rs) g more starts is left = rw (eq-eqb r.key.domain b.domain starts, is, left) refl

pub step_rows : (n time : ℕ) (b : RolledMessage) (rows more : List Row) → 0 < length rows → Own b.domain rows
    → length rows ≤ 1000 → (length rows ≡ 1000) ⊎ IsPast b.domain more
    → messages_from (suc n) time (Some b) (rows ++ more) ≡ of_rows time b rows ∷ messages_from n time
    (Some (of_rows time b rows)) more
step_rows n time b rows more some own few ends =
    step_group n time b (rows ++ more) rows more (first_starts b.domain rows more some own)
    (group_again 1000 b.domain rows more own few ends) (drop-append_seam rows more)

pub decide : (a b : ℕ) → (a ≡ b) ⊎ (a ≢ b)
decide a b = elim (a == b) as (λ t. (a == b) ≡ t → (a ≡ b) ⊎ (a ≢ b)) [
  | true ↦ λ e. inl (eqb-true a b e)
  | false ↦ λ e. inr (eqb-false a b e)
] refl

again_head : (w n time : ℕ) (b : Option RolledMessage) (p : RolledMessage) (ps : List RolledMessage) → IsHead p
    → IsElsewhere p.domain b
    → AllFollow w (Some p) ps → EndsWell (Some p) ps → p.time ≡ time → messages_from n time (Some p) (rows_within ps)
    ≡ ps
    → messages_from (suc n) time b (p.rows ++ rows_within ps) ≡ p ∷ ps
again_head w n time b p ps h else all ends now ih =
    let is : head time p.domain ≡ p = made p time 0 p.domain [] now h.sequence refl h.rows in
    subst (λ (l : List Row). messages_from (suc n) time b (l ++ rows_within ps) ≡ p ∷ ps) (sym h.rows)
    (step_head n time p.domain b (rows_within ps) (after_head w p ps all ends h.rows) else
    ∙ ap (λ (q : RolledMessage). q ∷ messages_from n time (Some q) (rows_within ps)) is
    ∙ ap (λ (l : List RolledMessage). p ∷ l) ih)

again_rows : (w n time : ℕ) (b p : RolledMessage) (ps : List RolledMessage) → RowsFollow w b p → AllFollow w (Some p) ps
    → EndsWell (Some p) ps → p.time ≡ time → messages_from n time (Some p) (rows_within ps) ≡ ps
    → messages_from (suc n) time (Some b) (p.rows ++ rows_within ps) ≡ p ∷ ps
again_rows w n time b p ps h all ends now ih =
    let is : of_rows time b p.rows ≡ p = made p time (due b) b.domain p.rows now h.sequence h.domain refl in
    let past : (length p.rows ≡ 1000) ⊎ IsPast b.domain (rows_within ps) =
    ⊎_elim (λ e. inl e) (λ ne. inr
    (subst (λ d. IsPast d (rows_within ps)) h.domain (after_short w p ps all ends h.some ne)))
    (decide (length p.rows) 1000) in
    step_rows n time b p.rows (rows_within ps) h.some (subst (λ d. Own d p.rows) h.domain h.own) h.few past
    ∙ ap (λ (q : RolledMessage). q ∷ messages_from n time (Some q) (rows_within ps)) is
    ∙ ap (λ (l : List RolledMessage). p ∷ l) ih

nothing : (n time : ℕ) (b : Option RolledMessage) → messages_from n time b [] ≡ []
unfolding messages_from
nothing zero time b = refl
nothing (suc n) time b = refl

-- the messages of the rows in messages that follow one another are these messages
pub again : (w n time : ℕ) (b : Option RolledMessage) (ps : List RolledMessage) → AllFollow w b ps → EndsWell b ps
    → AllByRecursion (λ p. p.time ≡ time) ps → length ps ≤ n → messages_from n time b (rows_within ps) ≡ ps
again w n time b [] all ends times enough = nothing n time b
again w zero time b (p ∷ ps) all ends times enough = absurd (omega (arith, enough))
again w (suc n) time None (p ∷ ps) all ends times enough =
    again_head w n time None p ps all.0 tt all.1 ends times.0
    (again w n time (Some p) ps all.1 ends times.1 (omega (arith, enough)))
again w (suc n) time (Some b) (p ∷ ps) all ends times enough = ⊎_elim
    (λ h. again_head w n time (Some b) p ps h.head h.domain all.1 ends times.0
    (again w n time (Some p) ps all.1 ends times.1 (omega (arith, enough))))
    (λ h. again_rows w n time b p ps h all.1 ends times.0
    (again w n time (Some p) ps all.1 ends times.1 (omega (arith, enough))))
    all.0
