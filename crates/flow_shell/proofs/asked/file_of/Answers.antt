use Rattle.std.proofs.Common.{◌≡◌, ◌∙◌, ◌-◌, ℕ, Bool, true, false, codes, length, take, ap, sym, subst, arith}
use Rattle.std.specs.Prelude.{if◌then◌else◌}
use Rattle.std.specs.Str.{IsCharBoundary}
use Rattle.std.proofs.lemmas.Str.Pattern.{ends_text}
use Rattle.flow_shell.specs.Asked.{collected_in, fed_in}
use Rattle.flow_shell.proofs.asked.file_of.Goals as goal

pub returns-in-None : goal.returns-in-None
returns-in-None c =
    let words = c.args.words.now in
    c.fed_of.ensures
    ∙ ap (λ (b : Bool). if b then collected_in (take (length words - 10) words) else fed_in words)
    (ends_text false (codes " datagrams") words c.in-None.ensures.cases)

pub returns-in-Some : goal.returns-in-Some
returns-in-Some c =
    let words = c.args.words.now in
    let found = c.in-Some.ensures.cases in
    let before = subst (λ (k : ℕ). IsCharBoundary words (length words - k)) (sym found.1.0) found.1.2 in
    let size = found.3 in
    c.collected_of.ensures
    ∙ ap collected_in (found.2 ∙ ap (λ (k : ℕ). take (length words - k) words) found.1.0)
    ∙ ap (λ (b : Bool). if b then collected_in (take (length words - 10) words) else fed_in words)
    (ends_text true (codes " datagrams") words (found.0, found.1, omega (arith, size), before))
