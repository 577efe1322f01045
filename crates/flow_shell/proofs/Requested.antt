-- What lines ask for.
use Rattle.std.proofs.Common.{◌≡◌, ℕ, zero, suc, List, [], ◌++◌, Option, Some, None, ap, sym, subst, ◌∙◌}
use Rattle.std.specs.Prelude.{IfSome}
use Rattle.std.specs.Io.BufRead.{drop_through, strip_last, take_through, DropsThrough}
use Rattle.flow_commands.specs.declared.plan.InputKind.{InputKind}
use Rattle.flow_roller.specs.Asked.{Asked}
use Rattle.flow_shell.specs.Asked.{feed_in, rolling_in, HasLine}

-- a line of no octets asks for nothing
pub no_line : (asked : Asked → Type 0) (line : List ℕ) (any : Asked) → line ≡ [] → rolling_in line ≡ Some any
    → ∥ asked any ∥₁
no_line asked line any none is =
    let no : rolling_in [] ≡ Some any = ap rolling_in (sym none) ∙ is in absurd cc

pub no_feed : (to_feed : List ℕ → InputKind → Type 0) (line path : List ℕ) (kind : InputKind) → line ≡ []
    → feed_in line ≡ Some (path, kind) → ∥ to_feed path kind ∥₁
no_feed to_feed line path kind none is =
    let no : feed_in [] ≡ Some (path, kind) = ap feed_in (sym none) ∙ is in absurd cc

-- what follows of a line of the input follows of one of those that are left
pub lines_left : (holds : Type 0) (is : List ℕ → Type 0) (old new : Option (List ℕ)) → DropsThrough old new 10
    → (HasLine is old → holds) → HasLine is new → holds
lines_left holds is None new drops h has = h tt
lines_left holds is (Some octets) new drops h has =
    let now : HasLine is (Some (drop_through 10 octets)) =
    subst (λ (o : Option (List ℕ)). HasLine is o) drops has in
    h (suc now.0, now.1)

-- and of the line that was read
pub line_here : (holds : Type 0) (is : List ℕ → Type 0) (old : Option (List ℕ)) (before line : List ℕ) → before ≡ []
    → IfSome old (λ octets. line ≡ before ++ take_through 10 octets) → (HasLine is old → holds)
    → is (strip_last 10 line) → holds
line_here holds is None before line none read h this = h tt
line_here holds is (Some octets) before line none read h this =
    let all : line ≡ take_through 10 octets = read ∙ ap (λ (l : List ℕ). l ++ take_through 10 octets) none in
    h (zero, subst (λ (l : List ℕ). is (strip_last 10 l)) all this)
