-- The values of information elements (RFC 7011, section 6; RFC 7012, section 3.1).
use Rattle.std.specs.Prelude.{ℕ, ◌-◌, ◌==◌, ◌&&◌, Bool, nat_le, List, ◌++◌, length, replicate, if◌then◌else◌}
use Rattle.std.specs.Int.{w64, from_be_bytes}
use Rattle.flow_elements.specs.declared.element.ElementId.{ElementId}
use Rattle.flow_elements.specs.declared.element.Width.{Width}
use Rattle.flow_elements.specs.declared.element.Width.TheVariants.{One, Two, Four, Eight}
use Rattle.flow_elements.specs.declared.element.ElementType.{ElementType}
use Rattle.flow_elements.specs.declared.element.ElementType.TheVariants.{Unsigned as TypeUnsigned}
use Rattle.flow_elements.specs.declared.element.ElementType.TheVariants.{Address4 as TypeAddress4}
use Rattle.flow_elements.specs.declared.element.ElementType.TheVariants.{Address6 as TypeAddress6, Mac as TypeMac}
use Rattle.flow_elements.specs.declared.element.ElementType.TheVariants.{Seconds, Milliseconds, Other}
use Rattle.flow_elements.specs.declared.value.Value.{Value}
use Rattle.flow_elements.specs.declared.value.Value.TheVariants.{Unsigned, Address4, Address6, Mac, Octets}
use Rattle.flow_elements.specs.Elements.{type_of}

abbrev pub width_of : Width → ℕ
width_of One = 1
width_of Two = 2
width_of Four = 4
width_of Eight = 8

-- A number may come in fewer octets, down to one.
abbrev pub is_reduced : Width → ℕ → Bool
is_reduced width len = nat_le 1 len && nat_le len (width_of width)

-- a number in at most 8 octets, the highest first: the octets left out are zeros
abbrev pub number_of : List ℕ → ℕ
number_of octets = from_be_bytes w64 (replicate (8 - length octets) 0 ++ octets)

abbrev pub value_by : ElementType → List ℕ → Value
value_by (TypeUnsigned width) octets =
    if is_reduced width (length octets) then Unsigned (number_of octets) else Octets octets
value_by TypeAddress4 octets = if length octets == 4 then Address4 octets else Octets octets
value_by TypeAddress6 octets = if length octets == 16 then Address6 octets else Octets octets
value_by TypeMac octets = if length octets == 6 then Mac octets else Octets octets
value_by Seconds octets = if length octets == 4 then Unsigned (number_of octets) else Octets octets
value_by Milliseconds octets = if length octets == 8 then Unsigned (number_of octets) else Octets octets
value_by Other octets = Octets octets

-- the value of an element's octets: where their length doesn't fit the type, the octets themselves
abbrev pub value_of : ElementId → List ℕ → Value
value_of id octets = value_by (type_of id) octets
