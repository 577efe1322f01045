-- The whole record that octets begin with.
use Rattle.std.proofs.Common.{◌≡◌, ℕ, ◌+◌, ◌-◌, ◌≤◌, List, [], ◌∷◌, length, take, drop, get_or, Result, Ok, Err, Bor}
use Rattle.std.proofs.Common.{sym, ap, arith}
use Rattle.std.specs.Prelude.{IfOk}
use Rattle.std.proofs.lemmas.List.{take_all, length-append}
use Rattle.flow_codec.specs.declared.error.MessageError.{MessageError}
use Rattle.flow_codec.specs.Layout.{Layout, smallest}
use Rattle.flow_codec.specs.Raw.{IsWholeRecord}
use Rattle.flow_codec.specs.Reading.{Gives, extent_at}
use Rattle.flow_codec.proofs.NumberLaws.{IsBytes}
use Rattle.flow_codec.proofs.FieldLaws.{extent_takes, extent_long}

abbrev pub seen : Bor (List ℕ) × Bor (List ℕ) → List ℕ × List ℕ
seen x = (x.0.now, x.1.now)

pub whole_of : (at : ℕ) (layout : Layout) (octets : List ℕ) (r : Result (Bor (List ℕ) × Bor (List ℕ)) MessageError)
    → IsBytes octets → Gives seen r (extent_at at layout.fields octets)
    → IfOk r (λ x. IsWholeRecord layout x.0.now × (length x.0.now + length x.1.now ≡ length octets)
    × (smallest layout ≤ length x.0.now))
whole_of at layout octets (Ok x) fits e =
    let t = extent_takes at layout.fields octets (seen x) fits e in
    (t.1, omega (arith, ap length t.0, length-append x.0.now x.1.now), extent_long layout.fields x.0.now t.1.0 t.1.1)
whole_of at layout octets (Err d) fits e = tt

pub first_and_rest : (xs : List ℕ) → 1 ≤ length xs → xs ≡ get_or xs 0 0 ∷ take (length xs - 1) (drop 1 xs)
first_and_rest [] le = absurd (omega arith)
first_and_rest (x ∷ xs) le = ap (λ (t : List ℕ). x ∷ t) (sym (take_all (length (x ∷ xs) - 1) xs (omega arith)))
