-- The octets of a record by the steps of a plan.
use Rattle.std.specs.Prelude.{ℕ, List, [], ◌∷◌, Result, Ok}
use Rattle.flow_codec.specs.declared.error.MessageError.{MessageError}
use Rattle.flow_codec.specs.declared.plan.FieldStep.{FieldStep}
use Rattle.flow_codec.specs.declared.plan.FieldStep.TheVariants.{Skip, Fixed, Variable}
use Rattle.flow_codec.specs.Reading.{◌>>=◌, behind, octets_at, counted_at}

-- the octets that one step passes over, in the record at `at`, and the octets after them
abbrev pub step_at : ℕ → FieldStep → List ℕ → Result (List ℕ × List ℕ) MessageError
step_at at (Skip count) octets = octets_at at count octets
step_at at (Fixed role count) octets = octets_at at count octets
step_at at (Variable role) octets = counted_at at octets

unfoldable pub extent_by : ℕ → List FieldStep → List ℕ → Result (List ℕ × List ℕ) MessageError
extent_by at [] octets = Ok ([], octets)
extent_by at (step ∷ steps) octets = step_at at step octets >>= λ first. behind first.0 (extent_by at steps first.1)
