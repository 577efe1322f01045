-- Accepted messages are whole ones to the gate.
use Rattle.std.proofs.Common.{◌≡◌, ℕ, ◌+◌, ◌*◌, List, [], ◌∷◌, subst, arith}
use Rattle.std.specs.List.{All}
use Rattle.std.proofs.lemmas.List.Elements.{All-nil, All-cons}
use Rattle.flow_codec.specs.Cutting.{IsCutOff}
use Rattle.flow_codec.specs.Templates.{AllTemplates}
use Rattle.flow_codec.proofs.RestatingAll.{message_cut}
use Rattle.flow_gate.specs.Gate.{IsWhole}
use Rattle.flow_measure.specs.History.{Accepted, AreAcceptedFrom}
use Rattle.flow_segment.specs.Batch.{AreTaken}
use Rattle.flow_segment.specs.Carry.{Carry, octets_of}

two_octets : (a b n : ℕ) → 256 * a + b ≡ 10 → a ≡ 0
two_octets a b n is = omega (arith, is)

pub whole_of : (octets : List ℕ) → IsCutOff octets → IsWhole octets
whole_of [] cut = absurd (omega (arith, cut.long))
whole_of (a ∷ []) cut = absurd (omega (arith, cut.long))
whole_of (a ∷ b ∷ []) cut = absurd (omega (arith, cut.long))
whole_of (a ∷ b ∷ c ∷ []) cut = absurd (omega (arith, cut.long))
whole_of (a ∷ b ∷ c ∷ d ∷ rest) cut = record {
  long = cut.long;
  high = omega (arith, cut.version);
  low = omega (arith, cut.version);
  counted = omega (arith, cut.len);
}

each_whole : (before : AllTemplates) (xs : List Accepted) → AreAcceptedFrom before xs → All IsWhole (octets_of xs)
each_whole before [] h = All-nil IsWhole
each_whole before (x ∷ xs) h =
    All-cons IsWhole x.octets (octets_of xs) (whole_of x.octets (message_cut x.octets before x.message x.after h.0.0))
    (each_whole x.after xs h.1)

pub all_whole : (octets : List (List ℕ)) (old new : Carry) → AreTaken octets old new → All IsWhole octets
all_whole octets old new are =
    subst (λ (l : List (List ℕ)). All IsWhole l) are.1 (each_whole old.templates are.0 are.2)
