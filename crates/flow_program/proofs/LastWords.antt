-- The words before a span.
use Rattle.std.proofs.Common.{◌≡◌, ◌∙◌, ◌-◌, ℕ, List, Bool, true, false, length, map, take, sym, ap}
use Rattle.std.specs.Prelude.{if◌then◌else◌}
use Rattle.std.specs.Borrow.{Bor}
use Rattle.std.proofs.Math.Seq.{take-length}
use Rattle.std.proofs.lemmas.List.{length-map, take-map}
use Rattle.clap.specs.Walk.{Text}

abbrev texts_of : List (Bor Text) → List Text
texts_of words = map (λ word. word.now) words

pub words_before : (all : Bool) (words items : List (Bor Text)) (count : ℕ) → items ≡ take count words
    → count ≡ (if all then length words else length words - 2)
    → texts_of items ≡ (if all then texts_of words else take (length (texts_of words) - 2) (texts_of words))
words_before true words items count are is = ap texts_of (are ∙ ap (λ (k : ℕ). take k words) is ∙ take-length words)
words_before false words items count are is =
    ap texts_of (are ∙ ap (λ (k : ℕ). take k words) is)
    ∙ sym (take-map (λ (word : Bor Text). word.now) (length words - 2) words)
    ∙ ap (λ (k : ℕ). take (k - 2) (texts_of words)) (sym (length-map words (λ (word : Bor Text). word.now)))
