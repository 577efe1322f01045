use Rattle.std.proofs.Common.{rules, ◌≡◌, ◌++◌, ◌∷◌, [], ◌∙◌, ℕ, List, subst, sym, refl, ap}
use Rattle.std.proofs.Common.{true, false}
use Rattle.flow_directory.specs.File.{File}
use Rattle.flow_memory_directory.specs.Memory.{files_of}
use Rattle.flow_memory_directory.proofs.At.{file_at}
use Rattle.std.proofs.Common.{inl, inr, ⊎_elim, Contains}
use Rattle.std.proofs.lemmas.Bool.{false≢true}
use Rattle.std.proofs.lemmas.List.Elements.{Contains-append_left, Contains-push, Contains-push_cases}
use Rattle.flow_memory_directory.proofs.memory.MemoryDirectory.list_node.Goals as goal

pub returns-then-not-index : goal.returns-then-not-index
returns-then-not-index c n =
    let absent : c.index.result.now.linked ≡ false = search rules in (
      λ is. inl is,
      λ either. ⊎_elim (λ is. is)
          (λ both. absurd (false≢true (sym (ap (λ (f : File). f.linked) (file_at c.args.self.now c.args.place c.args.place c.index.result.now refl c.requires c.index.ensures) ∙ absent)
          ∙ subst (λ (k : ℕ). (files_of c.args.self.now k).linked ≡ true) both.0 both.1))) either,
    )

pub returns : goal.returns
returns c n =
    let xs = c.args.list.now.items in
    let items : c.push.new.self.items ≡ xs ++ c.args.place ∷ [] = search rules in
    let there : c.index.result.now.linked ≡ true = search rules in
    let linked = ap (λ (f : File). f.linked) (file_at c.args.self.now c.args.place c.args.place c.index.result.now refl c.requires c.index.ensures) ∙ there in (
      λ is. ⊎_elim (λ before. inl before)
          (λ same. inr (sym same, subst (λ (k : ℕ). (files_of c.args.self.now k).linked ≡ true) same linked))
          (Contains-push_cases xs c.args.place n (subst (λ (l : List ℕ). Contains l n) items is)),
      λ either. ⊎_elim
          (λ before. subst (λ (l : List ℕ). Contains l n) (sym items) (Contains-append_left xs (c.args.place ∷ []) n before))
          (λ both. subst (λ (k : ℕ). Contains c.push.new.self.items k) (sym both.0)
          (subst (λ (l : List ℕ). Contains l c.args.place) (sym items) (Contains-push xs c.args.place))) either,
    )
