-- Messages as they are written.
use Rattle.std.specs.Prelude.{◌≡◌, ℕ, List, length, take, Option, Some, None}
use Rattle.flow_rolled.specs.declared.row.RolledRow.{RolledRow}
use Rattle.flow_rolled.specs.declared.encoding.Place.{Place}
use Rattle.flow_rolled.specs.Messages.{RolledMessage}

-- the message at a place, with the first of these rows
abbrev pub part_at : ℕ → Place → List RolledRow → RolledMessage
part_at time place rows =
    record { time = time; sequence = place.sequence; domain = place.domain; rows = take place.count rows }

-- what the writer keeps of a message
pub record HasPlace (place : Place) (p : RolledMessage) : Type 0 where
  pub sequence : p.sequence ≡ place.sequence
  pub domain : p.domain ≡ place.domain
  pub count : length p.rows ≡ place.count

abbrev pub IsPlaceOf : Option Place → Option RolledMessage → Type 0
IsPlaceOf None None = Unit {0}
IsPlaceOf None (Some p) = ⊥
IsPlaceOf (Some place) None = ⊥
IsPlaceOf (Some place) (Some p) = HasPlace place p
