-- What the messages of rows are, and that nothing else is.
use Rattle.std.proofs.Common.{◌≡◌, ℕ, zero, suc, ◌≤◌, ◌<◌, ◌⊎◌, inl, inr, ⊎_elim, true, false, cond}
use Rattle.std.proofs.Common.{List, [], ◌∷◌, ◌++◌, length, drop, Option, Some, None, refl, sym, ap, subst, ◌∙◌, arith}
use Rattle.std.specs.Prelude.{◌==◌}
use Rattle.std.specs.List.{AllByRecursion, Contains}
use Rattle.flow_rolled.specs.Messages.{RolledMessage, group, due, head, message_after, messages_from, messages_with, rows_within}
use Rattle.flow_rolled.specs.Messages.{IsHead, Follows, AllFollow, EndsWell}
use Rattle.flow_rolled.specs.Octets.{IsRolledMessage}
use Rattle.flow_rolled.proofs.Grouping.{Row, Own, IsElsewhere}
use Rattle.flow_rolled.proofs.Complete.{whole_parts}
use Rattle.flow_rolled.proofs.Judgement.{each_own}

-- ---- each message by itself

pub all_few : (w : ℕ) (ps : List RolledMessage) → AllByRecursion (IsRolledMessage w) ps
    → AllByRecursion (λ p. length p.rows ≤ 1000) ps
all_few w [] h = tt
all_few w (p ∷ ps) h = (((h.0).rows).few, all_few w ps h.1)

pub all_own : (w : ℕ) (ps : List RolledMessage) → AllByRecursion (IsRolledMessage w) ps
    → AllByRecursion (λ p. Own p.domain p.rows) ps
all_own w [] h = tt
all_own w (p ∷ ps) h = (each_own w p.domain p.rows (h.0).rows, all_own w ps h.1)

its_time : (time : ℕ) (b : Option RolledMessage) (r : Row) (rs : List Row) → (message_after time b r rs).time ≡ time
its_time time None r rs = refl
its_time time (Some b) r rs = elim (r.key.domain == b.domain) as (λ c. (cond c (record {
  time = time;
  sequence = due b;
  domain = b.domain;
  rows = group 1000 b.domain (r ∷ rs);
}) (head time r.key.domain)).time ≡ time) [ true ↦ refl | false ↦ refl ]

pub all_times : (n time : ℕ) (b : Option RolledMessage) (rows : List Row)
    → AllByRecursion (λ p. p.time ≡ time) (messages_from n time b rows)
unfolding messages_from
all_times zero time b rows = tt
all_times (suc n) time b [] = tt
all_times (suc n) time b (r ∷ rs) = let p = message_after time b r rs in
    (its_time time b r rs, all_times n time (Some p) (drop (length p.rows) (r ∷ rs)))

-- ---- heads

head_is : (time : ℕ) (p : RolledMessage) → IsHead p → p.time ≡ time → head time p.domain ≡ p
head_is time p h now =
    λ i. record { time = sym now i; sequence = sym h.sequence i; domain = p.domain; rows = sym h.rows i }

-- the message before is one of this domain
abbrev IsThere : ℕ → Option RolledMessage → Type 0
IsThere d None = ⊥
IsThere d (Some b) = b.domain ≡ d

-- a message of this domain is its head, or the message before is of the domain
head_or : (w time d : ℕ) (b : Option RolledMessage) (p : RolledMessage) → Follows w b p → p.time ≡ time → p.domain ≡ d
    → (head time d ≡ p) ⊎ IsThere d b
head_or w time d None p h now is = inl (ap (head time) (sym is) ∙ head_is time p h now)
head_or w time d (Some b) p (inl h) now is = inl (ap (head time) (sym is) ∙ head_is time p h.head now)
head_or w time d (Some b) p (inr h) now is = inr (sym h.domain ∙ is)

rows_there : (w : ℕ) (b : Option RolledMessage) (p : RolledMessage) → Follows w b p → 0 < length p.rows
    → IsThere p.domain b
rows_there w None p h some = let none = ap (λ (l : List Row). length l) h.rows in absurd (omega (arith, none, some))
rows_there w (Some b) p (inl h) some =
    let none = ap (λ (l : List Row). length l) (h.head).rows in absurd (omega (arith, none, some))
rows_there w (Some b) p (inr h) some = sym h.domain

one_later : (q x : RolledMessage) (xs : List RolledMessage) → Contains xs x → Contains (q ∷ xs) x
one_later q x xs (k, small, is) = (suc k, omega (arith, small), is)

pub opened : (w time : ℕ) (b : Option RolledMessage) (earlier more : List RolledMessage) (p : RolledMessage)
    → AllFollow w b (earlier ++ p ∷ more)
    → AllByRecursion (λ q. q.time ≡ time) (earlier ++ p ∷ more) → 0 < length p.rows
    → Contains earlier (head time p.domain) ⊎ IsThere p.domain b
opened w time b [] more p all times some = inr (rows_there w b p all.0 some)
opened w time b (q ∷ qs) more p all times some = ⊎_elim
    (λ later. inl (one_later q (head time p.domain) qs later))
    (λ here. ⊎_elim
    (λ is. inl (0, omega arith, sym is))
    (λ before. inr before)
    (head_or w time p.domain b q all.0 times.0 here))
    (opened w time (Some q) qs more p all.1 times.1 some)

-- a head is of a greater domain than all messages before it
above_before : (w : ℕ) (b : Option RolledMessage) (p : RolledMessage) → Follows w b p → p.rows ≡ []
    → IsElsewhere p.domain b
above_before w None p h none = tt
above_before w (Some b) p (inl h) none = h.domain
above_before w (Some b) p (inr h) none =
    let empty = ap (λ (l : List Row). length l) none in absurd (omega (arith, h.some, empty))

above_more : (w d : ℕ) (b : Option RolledMessage) (q : RolledMessage) → Follows w b q → q.domain < d → IsElsewhere d b
above_more w d None q h lt = tt
above_more w d (Some b) q (inl h) lt = omega (arith, h.domain, lt)
above_more w d (Some b) q (inr h) lt = omega (arith, h.domain, lt)

pub once : (w : ℕ) (b : Option RolledMessage) (earlier more : List RolledMessage) (p : RolledMessage)
    → AllFollow w b (earlier ++ p ∷ more)
    → p.rows ≡ [] → IsElsewhere p.domain b × AllByRecursion (λ q. q.domain < p.domain) earlier
once w b [] more p all none = (above_before w b p all.0 none, tt)
once w b (q ∷ qs) more p all none = let later = once w (Some q) qs more p all.1 none in
    (above_more w p.domain b q all.0 later.0, (later.0, later.1))

-- ---- nothing else is

pub only_parts : (w time : ℕ) (ps : List RolledMessage) → AllFollow w None ps → EndsWell None ps
    → AllByRecursion (λ p. p.time ≡ time) ps → messages_with time (rows_within ps) ≡ ps
unfolding messages_from
only_parts w time [] all ends times = refl
only_parts w time (p ∷ ps) all ends times =
    subst (λ t. messages_with t (rows_within (p ∷ ps)) ≡ p ∷ ps) times.0 (whole_parts w p ps all ends)
