-- Text on its way to a writer: a part is held for a while.
use Rattle.std.specs.Prelude.{◌≡◌, ◌≤◌, List, ℕ, ◌++◌, drop, length, Option, ⊤}
use Rattle.std.specs.Io.KnownBytes.{Appends}
use Rattle.flow_report.specs.declared.refusal.Refusal.{Refusal}
use Rattle.flow_report.specs.declared.refusal.Refusal.TheVariants.{Message, File, OutOfMemory, SumSpent, NumbersSpent}
use Rattle.flow_report.specs.declared.refusal.Refusal.TheVariants.{Read, Write}

-- More text came after the text held: the writer took a prefix of both, and the rest is held.
pub record Tells (old : Option (List ℕ)) (held : List ℕ) (new : Option (List ℕ)) (left : List ℕ)
    (text : List ℕ) : Type 0 where
  pub written : List ℕ
  pub parts : held ++ text ≡ written ++ left
  pub grown : Appends old new written

-- the writer took a prefix of the text held and of this text after it
abbrev pub TellsFront : Option (List ℕ) → List ℕ → Option (List ℕ) → List ℕ → Type 0
TellsFront old held new text = (left : List ℕ) × Tells old held new left text

-- Writing stopped: memory ran out, or a write failed.
abbrev pub IsCutShort : Refusal → Type 0
IsCutShort (Message fault number) = ⊥
IsCutShort (File fault) = ⊥
IsCutShort OutOfMemory = ⊤
IsCutShort SumSpent = ⊥
IsCutShort NumbersSpent = ⊥
IsCutShort (Read failed) = ⊥
IsCutShort (Write failed) = ⊤

-- a refusal by which writing stopped, once the writer took a prefix of the text held and of this text after it
abbrev pub IsCutIn : Option (List ℕ) → List ℕ → Option (List ℕ) → List ℕ → Refusal → Type 0
IsCutIn old held new text refusal = IsCutShort refusal × TellsFront old held new text

-- text was put right before the octets from `at` on, and begins at `start`
pub record IsPut (old : List ℕ) (at : ℕ) (new : List ℕ) (start : ℕ) (text : List ℕ) : Type 0 where
  pub before : start ≤ at
  pub parts : drop start new ≡ text ++ drop at old

-- a line ends by this text, which begins at `start`
abbrev pub EndsBy : List ℕ → ℕ → List ℕ → Type 0
EndsBy line start text = (start ≤ length line) × (drop start line ≡ text)
