use Rattle.std.proofs.Common.{◌≡◌, ℕ, List, sym, ◌∙◌, subst, rules}
use Rattle.std.proofs.lemmas.Bool.Decides.{nat_tests}
use Rattle.std.proofs.Common.{arith}
use Rattle.std.proofs.lemmas.Cmp.{nat_cmp_total}
use Rattle.std.proofs.lemmas.Map.Views.{btree_set_contains_iff}
use Rattle.std.proofs.lemmas.Map.Keys.{IsStrictlyIncreasing-from_sorted}
use Rattle.std.specs.List.Sorted.{IsStrictlyIncreasing}
use Rattle.std.specs.BTreeSet as sorted
use Rattle.std.specs.Ordering.{nat_cmp}
use Rattle.std.specs.declared.cmp.Ordering.TheVariants.{Equal}
use Rattle.std.specs.Prelude.{Bool, Contains, IsTrue, true, ◌↔◌}
use Rattle.flow_memory_disk.specs.Memory.{story_of}
use Rattle.flow_memory_disk.proofs.device.MemoryDiskDisk.files.Goals as goal

equal_is : (x y : ℕ) → nat_cmp x y ≡ Equal → x ≡ y
equal_is x y is = grind (arith, nat_tests)

to_true : {b : Bool} → IsTrue b → b ≡ true
to_true h = search rules

of_true : {b : Bool} → b ≡ true → IsTrue b
of_true h = search rules

pub returns-clause-ascending : goal.returns-clause-ascending
returns-clause-ascending c =
    let same : c.in_ok-collect.field-0.items ≡ c.in_ok-numbers.numbers.keys = search rules in
    subst IsStrictlyIncreasing (sym same)
    (IsStrictlyIncreasing-from_sorted c.in_ok-numbers.numbers.keys c.iter.ensures.ordered)

pub returns-clause-listed : goal.returns-clause-listed
returns-clause-listed c n =
    let same : c.in_ok-collect.field-0.items ≡ c.in_ok-numbers.numbers.keys = search rules in
    let iff = btree_set_contains_iff nat_cmp_total equal_is c.in_ok-numbers.numbers n in
    let is : sorted.contains nat_cmp c.in_ok-numbers.numbers n ≡ ((story_of c.args.self.now).marks n).listed =
    c.in_ok-numbers.ensures n in
    subst (λ (l : List ℕ). Contains l n ↔ (((story_of c.args.self.now).marks n).listed ≡ true)) (sym same)
    (λ has. sym is ∙ to_true (iff.1 has), λ lists. iff.0 (of_true (is ∙ lists)))
