-- What a line asks for that isn't one of some words.
use Rattle.std.proofs.Common.{◌≡◌, Bool, true, false, List, ℕ, Option, Some, codes, refl, sym, ◌∙◌, ap}
use Rattle.std.specs.Prelude.{if◌then◌else◌}
use Rattle.std.specs.Str.{bytes_eq}
use Rattle.std.proofs.lemmas.Slice.Eq.{bytes_eq-Decides}
use Rattle.flow_shell.specs.declared.asked.Query.TheVariants.{Check}
use Rattle.flow_shell.specs.declared.asked.ShellRequest.{ShellRequest}
use Rattle.flow_shell.specs.declared.asked.ShellRequest.TheVariants.{Ask, Losses, Wait, Quit}
use Rattle.flow_shell.specs.Asked.{by_name, name_of, request_in, rest_of}

pub differs : (word name : List ℕ) → (name ≡ word → ⊥) → bytes_eq word name ≡ false
differs word name not_it = by (bytes_eq word name) refl
  where
    by : (b : Bool) → bytes_eq word name ≡ b → bytes_eq word name ≡ false
    by true e = absurd (not_it (sym ((bytes_eq-Decides word name).0 e)))
    by false e = e

pub passed_over : {Z : Type 0} (b : Bool) (this others : Z) → b ≡ false → others ≡ (if b then this else others)
passed_over b this others e = ap (λ (b : Bool). if b then this else others) (sym e)

-- a line that is none of the requests of one word
pub other_line : (line : List ℕ) → (line ≡ codes "check" → ⊥) → (line ≡ codes "losses" → ⊥)
    → (line ≡ codes "wait" → ⊥) → (line ≡ codes "quit" → ⊥)
    → by_name (name_of line) (rest_of line) ≡ request_in line
other_line line no_check no_losses no_wait no_quit =
    let named : Option ShellRequest = by_name (name_of line) (rest_of line) in
    let ended : Option ShellRequest = if bytes_eq (codes "quit") line then Some Quit else named in
    let waited : Option ShellRequest = if bytes_eq (codes "wait") line then Some Wait else ended in
    let counted : Option ShellRequest = if bytes_eq (codes "losses") line then Some Losses else waited in
    passed_over (bytes_eq (codes "quit") line) (Some Quit) named (differs (codes "quit") line no_quit)
    ∙ passed_over (bytes_eq (codes "wait") line) (Some Wait) ended (differs (codes "wait") line no_wait)
    ∙ passed_over (bytes_eq (codes "losses") line) (Some Losses) waited (differs (codes "losses") line no_losses)
    ∙ passed_over (bytes_eq (codes "check") line) (Some (Ask Check)) counted (differs (codes "check") line no_check)
