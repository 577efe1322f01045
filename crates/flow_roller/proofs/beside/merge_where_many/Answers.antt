use Rattle.std.proofs.Common.{◌≡◌, ◌+◌, ◌<◌, ◌≤◌, ⊎_elim, inl, inr, refl, sym, subst, arith, ℕ, Option, Ok}
use Rattle.std.proofs.lemmas.Bool.{cases_lt, false≢true}
use Rattle.flow_manifest.specs.declared.manifest.Kind.TheVariants.{Rolled}
use Rattle.flow_manifest.specs.Following.{count_of}
use Rattle.flow_roller.specs.Rolling.{MergesWhereMany}
use Rattle.flow_roller.proofs.beside.merge_where_many.Goals as goal

-- no more than a count that isn't reached
fewer : (rolled count worth : ℕ) → rolled ≡ count → (worth ≤ rolled → ⊥) → count < worth
fewer rolled count worth is not_reached =
    ⊎_elim (λ lt. omega (arith, lt, is)) (λ le. absurd (not_reached le)) (cases_lt rolled worth)

pub returns-then-not-is_worth-clause-merged : goal.returns-then-not-is_worth-clause-merged
returns-then-not-is_worth-clause-merged g c =
    let seen = c.rolled_count-rolled.ensures.calls in
    let few : count_of Rolled (seen.0).core.state.manifest.entries < c.in-Some.keep + 1024 =
    fewer c.rolled_count-rolled.result (count_of Rolled (seen.0).core.state.manifest.entries)
    (c.in-Some.keep + 1024) seen.2 (λ le. false≢true (c.if-not-is_worth.ensures.1 le)) in
    subst (λ (keep : Option ℕ). MergesWhereMany g.D.Disk g.J.Naming.opening keep (Ok tt)) (sym c.in-Some.is)
    (inl ((seen.0, seen.1, few), refl))

pub returns-clause-merged : goal.returns-clause-merged
returns-clause-merged g c =
    let seen = c.rolled_count-rolled.ensures.calls in
    let many : c.in-Some.keep + 1024 ≤ count_of Rolled (seen.0).core.state.manifest.entries =
    omega (arith, seen.2, c.if-not-is_worth.ensures.0 refl) in
    subst (λ (keep : Option ℕ). MergesWhereMany g.D.Disk g.J.Naming.opening keep c.merge.result) (sym c.in-Some.is)
    (inr ((seen.0, seen.1, many), c.merge.ensures.turns))
