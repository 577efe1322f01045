-- A file that is listed or settled is among those of which something was reported.
use Rattle.std.proofs.Common.{◌≡◌, ◌⊎◌, ⊎_elim, inl, inr, ℕ, zero, suc, ◌+◌, ◌-◌, ◌≤◌, ◌<◌, Bool, true, false, ◌||◌}
use Rattle.std.proofs.Common.{List, [], ◌∷◌, ◌++◌, Option, Some, None, is_some, refl, sym, ap, subst, ◌∙◌, arith, nat_eq}
use Rattle.std.proofs.Common.{if◌then◌else◌}
use Rattle.std.proofs.lemmas.Bool.{cases_eq, false≢true}
use Rattle.std.proofs.lemmas.Bool.Decides.{nat_tests}
use Rattle.std.proofs.lemmas.List.Folds.{list_any-append}
use Rattle.std.specs.Ordering.{nat_cmp, eq_by_cmp}
use Rattle.std.specs.BTreeMap.{get}
use Rattle.std.specs.List.{list_any}
use Rattle.flow_disk.specs.Disk.{Marks}
use Rattle.flow_folder_disk.specs.declared.number_range.NumberRange.{NumberRange}
use Rattle.flow_folder_disk.specs.declared.reported.Named.{Named}
use Rattle.flow_folder_disk.specs.declared.reported.Reported.{Reported}
use Rattle.flow_folder_disk.specs.declared.reported.Table.{Table}
use Rattle.flow_folder_disk.specs.Numbers.{counted_from, has, is_among, numbers_from, numbers_of}
use Rattle.flow_folder_disk.specs.Table.{last_of, marks_after, marks_in, marks_of, marks_of_some, others_in}
use Rattle.flow_folder_disk.proofs.Listed.{is_or, or_true, other_is, same_is}

-- ---- among numbers

abbrev here : (n : ℕ) → List ℕ → Bool
here n list = list_any (eq_by_cmp nat_cmp n) list

on_left : (n : ℕ) (a b : List ℕ) → here n a ≡ true → here n (a ++ b) ≡ true
on_left n a b is = list_any-append (eq_by_cmp nat_cmp n) a b ∙ ap (λ (x : Bool). x || here n b) is

on_right : (n : ℕ) (a b : List ℕ) → here n b ≡ true → here n (a ++ b) ≡ true
on_right n a b is =
    list_any-append (eq_by_cmp nat_cmp n) a b ∙ ap (λ (x : Bool). here n a || x) is ∙ or_true (here n a)

among_counted : (k from n : ℕ) → from ≤ n → n < from + k → here n (counted_from k from) ≡ true
among_counted zero from n least before = absurd (omega (arith, least, before))
among_counted (suc k) from n least before = ⊎_elim
    (λ same. ap (λ (b : Bool). b || here n (counted_from k (from + 1)))
    (subst (λ (x : ℕ). eq_by_cmp nat_cmp n x ≡ true) same (same_is n)))
    (λ differs. ap (λ (b : Bool). b || here n (counted_from k (from + 1))) (other_is n from (λ e. differs (sym e)))
    ∙ among_counted k (from + 1) n (omega (arith, least, differs)) (omega (arith, before)))
    (cases_eq n from)

among_range : (range : NumberRange) (n : ℕ) → has n range ≡ true → here n (numbers_from range.from range.to) ≡ true
among_range range n is =
    let least : range.from ≤ n = grind (arith, nat_tests) in
    let before : n < range.to = grind (arith, nat_tests) in
    among_counted (range.to - range.from) range.from n least (omega (arith, least, before))

among : (ranges : List NumberRange) (n : ℕ) → is_among n ranges ≡ true → here n (numbers_of ranges) ≡ true
among [] n is = absurd (false≢true is)
among (range ∷ ranges) n is = ⊎_elim
    (λ own. on_left n (numbers_from range.from range.to) (numbers_of ranges) (among_range range n own))
    (λ later. on_right n (numbers_from range.from range.to) (numbers_of ranges) (among ranges n later))
    (is_or (has n range) (is_among n ranges) is)

-- ---- in a table

-- of the file that was named last, or of others
by_last : (mark : Marks → Bool) (last : Option Named) (others : ℕ → Marks) (n : ℕ)
    → mark (marks_after last others n) ≡ true → (mark (others n) ≡ true) ⊎ (here n (last_of last) ≡ true)
by_last mark None others n is = inl is
by_last mark (Some named) others n is = ⊎_elim
    (λ same. inr (ap (λ (b : Bool). b || false) (subst (λ (x : ℕ). eq_by_cmp nat_cmp n x ≡ true) same (same_is n))))
    (λ differs. inl (subst (λ (b : Bool). mark (if b then marks_of named.reported else others n) ≡ true)
    (other_file differs) is))
    (cases_eq n named.file)
  where
    other_file : ((n ≡ named.file) → ⊥) → nat_eq named.file n ≡ false
    other_file differs = grind (arith, nat_tests)

all_found : (table : Table) (files : List ℕ) (n : ℕ)
    → (is_some (get nat_cmp table.reported n) ≡ true) ⊎ (is_among n table.removed.ranges.items ≡ true)
    ⊎ (here n (last_of table.last) ≡ true)
    → (is_some (get nat_cmp table.reported n) ≡ true → here n files ≡ true)
    → here n (files ++ numbers_of table.removed.ranges.items ++ last_of table.last) ≡ true
all_found table files n where_it_is known =
    let removed : List ℕ = numbers_of table.removed.ranges.items in
    let last : List ℕ = last_of table.last in ⊎_elim
    (λ some. on_left n (files ++ removed) last (on_left n files removed (known some)))
    (λ other. ⊎_elim
    (λ gone. on_left n (files ++ removed) last (on_right n files removed (among table.removed.ranges.items n gone)))
    (λ own. on_right n (files ++ removed) last own) other)
    where_it_is

listed_other : (o : Option Reported) (gone : Bool) → (marks_of_some o gone).listed ≡ true → is_some o ≡ true
listed_other None gone is = absurd (false≢true is)
listed_other (Some r) gone is = refl

settled_other : (o : Option Reported) (gone : Bool) → (marks_of_some o gone).settled ≡ true
    → (is_some o ≡ true) ⊎ (gone ≡ true)
settled_other None gone is = inr is
settled_other (Some r) gone is = inl refl

pub listed_found : (table : Table) (files : List ℕ) (n : ℕ) → (marks_in table n).listed ≡ true
    → (is_some (get nat_cmp table.reported n) ≡ true → list_any (eq_by_cmp nat_cmp n) files ≡ true)
    → list_any (eq_by_cmp nat_cmp n) (files ++ numbers_of table.removed.ranges.items ++ last_of table.last) ≡ true
listed_found table files n is known = all_found table files n (⊎_elim
    (λ other. inl (listed_other (get nat_cmp table.reported n) (is_among n table.removed.ranges.items) other))
    (λ last. inr (inr last)) (by_last (λ marks. marks.listed) table.last (others_in table) n is)) known

pub settled_found : (table : Table) (files : List ℕ) (n : ℕ) → (marks_in table n).settled ≡ true
    → (is_some (get nat_cmp table.reported n) ≡ true → list_any (eq_by_cmp nat_cmp n) files ≡ true)
    → list_any (eq_by_cmp nat_cmp n) (files ++ numbers_of table.removed.ranges.items ++ last_of table.last) ≡ true
settled_found table files n is known = all_found table files n (⊎_elim
    (λ other. ⊎_elim (λ some. inl some) (λ gone. inr (inl gone))
    (settled_other (get nat_cmp table.reported n) (is_among n table.removed.ranges.items) other))
    (λ last. inr (inr last)) (by_last (λ marks. marks.settled) table.last (others_in table) n is)) known
