-- A message by itself, and after another.
use Rattle.std.proofs.Common.{◌≡◌, ℕ, List, [], ◌∷◌, ◌++◌, Option, Some, Bool, true, false}
use Rattle.std.proofs.Common.{subst}
use Rattle.std.specs.Prelude.{filter}
use Rattle.std.specs.List.{AllByRecursion}
use Rattle.flow_rolled.specs.declared.row.RolledRow.{RolledRow}
use Rattle.flow_rolled.specs.Rows.{IsRow, AreRows, AllMayFollow}
use Rattle.flow_rolled.specs.Octets.{IsOf, AreOf, has_protocol, has_none}

pub all_joined : (P : RolledRow → Type 0) (xs ys : List RolledRow) → AllByRecursion P xs → AllByRecursion P ys
    → AllByRecursion P (xs ++ ys)
all_joined P [] ys h k = k
all_joined P (x ∷ xs) ys h k = (h.0, all_joined P xs ys h.1 k)

pub all_weaker : (P Q : RolledRow → Type 0) (xs : List RolledRow) → ((r : RolledRow) → P r → Q r) → AllByRecursion P xs
    → AllByRecursion Q xs
all_weaker P Q [] f h = tt
all_weaker P Q (x ∷ xs) f h = (f x h.0, all_weaker P Q xs f h.1)

-- what is true of the rows of either kind is true of all
both_kinds : (w d : ℕ) (rows : List RolledRow) (Q : RolledRow → Type 0)
    → ((b : Bool) (r : RolledRow) → IsOf w d b r → Q r) → AreOf w d rows → AllByRecursion Q rows
both_kinds w d rows Q f h = subst (AllByRecursion Q) h.parted
    (all_joined Q (filter has_protocol rows) (filter has_none rows)
    (all_weaker (IsOf w d true) Q (filter has_protocol rows) (f true) h.with)
    (all_weaker (IsOf w d false) Q (filter has_none rows) (f false) h.without))

pub each_row : (w d : ℕ) (rows : List RolledRow) → AreOf w d rows → AllByRecursion (IsRow w) rows
each_row w d rows h = both_kinds w d rows (IsRow w) (λ b r is. is.row) h

pub each_own : (w d : ℕ) (rows : List RolledRow) → AreOf w d rows
    → AllByRecursion (λ (r : RolledRow). r.key.domain ≡ d) rows
each_own w d rows h = both_kinds w d rows (λ (r : RolledRow). r.key.domain ≡ d) (λ b r is. is.own) h

pub in_order : (w : ℕ) (b : Option RolledRow) (rows : List RolledRow) → AllByRecursion (IsRow w) rows
    → AllMayFollow b rows → AreRows w b rows
in_order w b [] h k = tt
in_order w b (r ∷ rs) h k = (h.0, k.0, in_order w (Some r) rs h.1 k.1)

pub may_follow : (w : ℕ) (b : Option RolledRow) (rows : List RolledRow) → AreRows w b rows → AllMayFollow b rows
may_follow w b [] h = tt
may_follow w b (r ∷ rs) h = (h.1, may_follow w (Some r) rs h.2)
