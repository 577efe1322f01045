-- A call that changes one node.
use Rattle.std.proofs.Common.{◌≡◌, ◌≢◌, ⊎_elim, ℕ, zero, suc, ◌<◌, ◌≤◌, Bool, List, []}
use Rattle.std.proofs.Common.{◌∷◌, ◌++◌, length, get_or, set, reverse, refl, sym, ◌∙◌, ap, subst, arith, if◌then◌else◌}
use Rattle.std.proofs.lemmas.Bool.{cases_eq, eq-eqb, ne_eqb}
use Rattle.std.proofs.lemmas.List.{reverse-append}
use Rattle.flow_disk.specs.Disk.{Held}
use Rattle.flow_directory.specs.File.{File}
use Rattle.flow_memory_directory.specs.declared.deed.Deed.{Deed}
use Rattle.flow_memory_directory.specs.declared.node.Node.{Node}
use Rattle.flow_memory_directory.specs.Bound.{file_of, made, bound, IsSound}
use Rattle.flow_memory_directory.specs.Nodes.{looked, octets_in, device_in, file_in, no_file}
use Rattle.flow_memory_directory.specs.Views.{files_in, AllSound}

pub bound_here : (deeds : List Deed) (deed : Deed) (n : ℕ) → n ≡ file_of deed
    → bound (deed ∷ deeds) n ≡ made (bound deeds n) deed
bound_here deeds deed n is = ap (λ (b : Bool). if b then made (bound deeds n) deed else bound deeds n)
    (eq-eqb n (file_of deed) is)

pub bound_there : (deeds : List Deed) (deed : Deed) (n : ℕ) → n ≢ file_of deed → bound (deed ∷ deeds) n ≡ bound deeds n
bound_there deeds deed n differs = ap (λ (b : Bool). if b then made (bound deeds n) deed else bound deeds n)
    (ne_eqb n (file_of deed) differs)

-- the log with one call more
pub pushed : (log : List Deed) (deed : Deed) → reverse (log ++ deed ∷ []) ≡ deed ∷ reverse log
pushed log deed = reverse-append log (deed ∷ [])

module _ {A : Type 0} (view : Node → A) (none : A) where
  pub looked_here : (nodes : List Node) (i : ℕ) (d : Node) → i < length nodes
      → looked view none nodes i ≡ view (get_or nodes i d)
  looked_here [] i d lt = absurd (omega (arith, lt))
  looked_here (node ∷ nodes) zero d lt = refl
  looked_here (node ∷ nodes) (suc i) d lt = looked_here nodes i d (omega (arith, lt))

  pub looked_set : (nodes : List Node) (i : ℕ) (to : Node) → i < length nodes
      → looked view none (set nodes i to) i ≡ view to
  looked_set [] i to lt = absurd (omega (arith, lt))
  looked_set (node ∷ nodes) zero to lt = refl
  looked_set (node ∷ nodes) (suc i) to lt = looked_set nodes i to (omega (arith, lt))

  pub looked_other : (nodes : List Node) (i n : ℕ) (to : Node) → n ≢ i
      → looked view none (set nodes i to) n ≡ looked view none nodes n
  looked_other [] i n to differs = refl
  looked_other (node ∷ nodes) zero zero to differs = absurd (differs refl)
  looked_other (node ∷ nodes) zero (suc n) to differs = refl
  looked_other (node ∷ nodes) (suc i) zero to differs = refl
  looked_other (node ∷ nodes) (suc i) (suc n) to differs =
      looked_other nodes i n to (λ same. differs (ap suc same))

  pub looked_past : (nodes : List Node) (n : ℕ) → length nodes ≤ n → looked view none nodes n ≡ none
  looked_past [] n le = refl
  looked_past (node ∷ nodes) zero le = absurd (omega (arith, le))
  looked_past (node ∷ nodes) (suc n) le = looked_past nodes n (omega (arith, le))

-- one node of these was changed, by calls that leave this of its file
pub record NodeStep (nodes : List Node) (i : ℕ) (was to : Node) (before after : List Deed) : Type 0 where
  pub within : i < length nodes
  pub stood : was ≡ get_or nodes i was
  pub others : (n : ℕ) → n ≢ i → bound after n ≡ bound before n
  pub sound : IsSound (bound after i) (octets_in to) (device_in to)

module _ (nodes : List Node) (i : ℕ) (was to : Node) (before after : List Deed)
    (step : NodeStep nodes i was to before after) where
  pub step_sound : AllSound nodes before → AllSound (set nodes i to) after
  step_sound all n = ⊎_elim (λ same. here n same) (λ differs. there n differs) (cases_eq n i)
    where
      here : (n : ℕ) → n ≡ i → IsSound (bound after n) (looked octets_in [] (set nodes i to) n)
          (looked device_in [] (set nodes i to) n)
      here n same = subst (λ (k : ℕ). IsSound (bound after k) (looked octets_in [] (set nodes i to) k)
          (looked device_in [] (set nodes i to) k)) (sym same)
          (subst (λ (l : List ℕ). IsSound (bound after i) l (looked device_in [] (set nodes i to) i))
          (sym (looked_set octets_in [] nodes i to step.within))
          (subst (λ (l : List ℕ). IsSound (bound after i) (octets_in to) l)
          (sym (looked_set device_in [] nodes i to step.within)) step.sound))

      there : (n : ℕ) → n ≢ i → IsSound (bound after n) (looked octets_in [] (set nodes i to) n)
          (looked device_in [] (set nodes i to) n)
      there n differs = subst (λ (h : Held). IsSound h (looked octets_in [] (set nodes i to) n)
          (looked device_in [] (set nodes i to) n)) (sym (step.others n differs))
          (subst (λ (l : List ℕ). IsSound (bound before n) l (looked device_in [] (set nodes i to) n))
          (sym (looked_other octets_in [] nodes i n to differs))
          (subst (λ (l : List ℕ). IsSound (bound before n) (looked octets_in [] nodes n) l)
          (sym (looked_other device_in [] nodes i n to differs)) (all n)))

  pub step_was : files_in nodes before i ≡ file_in (bound before i) was
  step_was = looked_here (file_in (bound before i)) (no_file (bound before i)) nodes i was step.within
      ∙ ap (file_in (bound before i)) (sym step.stood)

  pub step_now : files_in (set nodes i to) after i ≡ file_in (bound after i) to
  step_now = looked_set (file_in (bound after i)) (no_file (bound after i)) nodes i to step.within

  pub step_other : (n : ℕ) → n ≢ i → files_in (set nodes i to) after n ≡ files_in nodes before n
  step_other n differs = looked_other (file_in (bound after n)) (no_file (bound after n)) nodes i n to differs
      ∙ ap (λ (h : Held). looked (file_in h) (no_file h) nodes n) (step.others n differs)

  -- a rule of the node is one of the file
  pub step_rule : (R : File → File → Type 0) → R (file_in (bound before i) was) (file_in (bound after i) to)
      → R (files_in nodes before i) (files_in (set nodes i to) after i)
  step_rule R holds = subst (λ (f : File). R f (files_in (set nodes i to) after i)) (sym step_was)
      (subst (λ (f : File). R (file_in (bound before i) was) f) (sym step_now) holds)

-- what the sound node was
pub was_sound : (nodes : List Node) (i : ℕ) (was : Node) (deeds : List Deed) → i < length nodes → was ≡ get_or nodes i was
    → AllSound nodes deeds → IsSound (bound deeds i) (octets_in was) (device_in was)
was_sound nodes i was deeds lt stood all =
    subst (λ (l : List ℕ). IsSound (bound deeds i) l (device_in was))
    (looked_here octets_in [] nodes i was lt ∙ ap octets_in (sym stood))
    (subst (λ (l : List ℕ). IsSound (bound deeds i) (looked octets_in [] nodes i) l)
    (looked_here device_in [] nodes i was lt ∙ ap device_in (sym stood)) (all i))
