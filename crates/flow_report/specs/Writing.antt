-- What a writer holds.
use Rattle.std.specs.Prelude.{ℕ, ◌≤◌, List, Option, length, take}
use Rattle.std.specs.Io.KnownBytes.{Appends, Keeps}
use Rattle.flow_report.specs.declared.text_error.TextError.{TextError}
use Rattle.flow_report.specs.declared.text_error.TextError.TheVariants.{OutOfMemory, Write}

-- known octets grow by a prefix of these
abbrev pub AppendsFront : Option (List ℕ) → Option (List ℕ) → List ℕ → Type 0
AppendsFront old new octets = (n : ℕ) × (n ≤ length octets) × Appends old new (take n octets)

-- Text isn't written whole: nothing of it where memory ran out, a prefix where writing failed.
abbrev pub IsCut : Option (List ℕ) → Option (List ℕ) → List ℕ → TextError → Type 0
IsCut old new text OutOfMemory = Keeps old new
IsCut old new text (Write failed) = AppendsFront old new text
