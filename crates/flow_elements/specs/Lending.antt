-- The name and the type of an element, and values that are lent.
use Rattle.std.specs.Prelude.{ℕ, List, Option, option_map}
use Rattle.flow_elements.specs.declared.element.ElementId.{ElementId}
use Rattle.flow_elements.specs.declared.element.ElementType.{ElementType}
use Rattle.flow_elements.specs.declared.value.Value.{Value}
use Rattle.flow_elements.specs.declared.value.Value.TheVariants.{Unsigned, Address4, Address6, Mac, Octets}
use Rattle.flow_elements.specs.declared.value.LentValue.{LentValue}
use Rattle.flow_elements.specs.declared.value.LentValue.TheVariants as lent
use Rattle.flow_elements.specs.Elements.{find_listed}

-- a listed element's name and type
abbrev pub listed_of : ElementId → Option (List ℕ × ElementType)
listed_of id = option_map (λ e. (e.name, e.kind)) (find_listed id.enterprise id.number)

-- a value that is lent, as a `Value`
abbrev pub owned : LentValue → Value
owned (lent.Unsigned number) = Unsigned number
owned (lent.Address4 octets) = Address4 octets
owned (lent.Address6 octets) = Address6 octets
owned (lent.Mac octets) = Mac octets
owned (lent.Octets octets) = Octets octets.now
