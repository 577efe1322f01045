-- What a definition's plan says of each record before it is read.
use Rattle.std.specs.Prelude.{ℕ, ◌+◌, Bool, List, [], ◌∷◌, ◌++◌, length, take, drop, Option, Some, None, ◌&&◌, ◌==◌}
use Rattle.std.specs.Prelude.{nat_le, nat_lt, sum_by, option_map, if◌then◌else◌}
use Rattle.std.specs.List.{flat_map, list_all}
use Rattle.std.specs.Option.{is_none, option_or}
use Rattle.flow_elements.specs.declared.element.ElementId.{ElementId}
use Rattle.flow_codec.specs.declared.plan.Role.{Role}
use Rattle.flow_codec.specs.declared.plan.Role.TheVariants.{Octets, Packets, Protocol, Seconds, Milliseconds}
use Rattle.flow_codec.specs.declared.plan.FieldStep.{FieldStep}
use Rattle.flow_codec.specs.declared.plan.FieldStep.TheVariants.{Skip, Fixed, Variable}
use Rattle.flow_codec.specs.declared.plan.Place.{Place}
use Rattle.flow_codec.specs.declared.plan.Places.{Places}
use Rattle.flow_codec.specs.declared.plan.Plan.{Plan}
use Rattle.flow_codec.specs.declared.plan.Way.TheVariants.{ByPlaces, BySteps}
use Rattle.flow_codec.specs.declared.message.Field.{Field}
use Rattle.flow_codec.specs.Layout.{least_length}
use Rattle.flow_codec.specs.Fields.{value_of}

-- the number of the element of a role, and the lengths in which it counts
abbrev pub element_of : Role → ℕ
element_of Octets = 1
element_of Packets = 2
element_of Protocol = 4
element_of Seconds = 150
element_of Milliseconds = 152

abbrev pub least_of : Role → ℕ
least_of Octets = 1
least_of Packets = 1
least_of Protocol = 1
least_of Seconds = 4
least_of Milliseconds = 8

abbrev pub most_of : Role → ℕ
most_of Octets = 8
most_of Packets = 8
most_of Protocol = 1
most_of Seconds = 4
most_of Milliseconds = 8

-- a length in which an element of a role counts
abbrev pub is_counted : Role → ℕ → Bool
is_counted role len = nat_le (least_of role) len && nat_le len (most_of role)

-- the role of an element, by IANA's numbers alone
abbrev pub role_of : ElementId → Option Role
role_of id = if is_none id.enterprise then (
    if id.number == 1 then Some Octets else if id.number == 2 then Some Packets else if id.number ==
    4 then Some Protocol else
    if id.number == 150 then Some Seconds else if id.number == 152 then Some Milliseconds else None) else None

-- a field's value, where it counts
abbrev pub counting : Option Role → List ℕ → List (Role × List ℕ)
counting None value = []
counting (Some role) value = if is_counted role (length value) then (role, value) ∷ [] else []

-- the values that count among these fields, in their order
abbrev pub values_of : List Field → List (Role × List ℕ)
values_of fields = flat_map (λ x. counting (role_of x.id) x.octets) fields

-- ---- the steps of a plan

-- a skip of octets, where there is one
abbrev pub skip_of : Option ℕ → List FieldStep
skip_of None = []
skip_of (Some count) = Skip count ∷ []

-- a skip of octets before steps
abbrev pub skipped : ℕ → List FieldStep → List FieldStep
skipped count [] = Skip count ∷ []
skipped count (Skip more ∷ steps) = Skip (count + more) ∷ steps
skipped count (Fixed role len ∷ steps) = Skip count ∷ Fixed role len ∷ steps
skipped count (Variable role ∷ steps) = Skip count ∷ Variable role ∷ steps

-- a step before steps: adjacent skips become one
abbrev pub before_steps : FieldStep → List FieldStep → List FieldStep
before_steps (Skip count) steps = skipped count steps
before_steps (Fixed role len) steps = Fixed role len ∷ steps
before_steps (Variable role) steps = Variable role ∷ steps

abbrev pub fixed_step : Option Role → ℕ → FieldStep
fixed_step None len = Skip len
fixed_step (Some role) len = if is_counted role len then Fixed role len else Skip len

-- the step over a field
abbrev pub step_of : ElementId → ℕ → FieldStep
step_of id len = if len == 65535 then Variable (role_of id) else fixed_step (role_of id) len

unfoldable pub steps_of : List (ElementId × ℕ) → List FieldStep
steps_of [] = []
steps_of (f ∷ fs) = before_steps (step_of f.0 f.1) (steps_of fs)

-- ---- the places of the numbers

-- whether a field counts in this role
abbrev pub counts_as : Role → ElementId × ℕ → Bool
counts_as role f = is_none f.0.enterprise && (f.0.number == element_of role && is_counted role f.1)

-- a place with `count` more octets before it
abbrev pub behind : ℕ → Place → Place
behind count place = record { at = count + place.at; len = place.len }

-- the first field that counts in this role, where no field before it is of variable length
unfoldable pub place_of : Role → List (ElementId × ℕ) → Option Place
place_of role [] = None
place_of role (f ∷ fs) =
    if counts_as role f then Some (record { at = 0; len = f.1 }) else option_map (behind f.1) (place_of role fs)

abbrev pub places_of : List (ElementId × ℕ) → Places
places_of fields = record {
  octets = place_of Octets fields;
  packets = place_of Packets fields;
  protocol = place_of Protocol fields;
  seconds = place_of Seconds fields;
  milliseconds = place_of Milliseconds fields;
}

abbrev pub no_places : Places
no_places = record { octets = None; packets = None; protocol = None; seconds = None; milliseconds = None }

-- with a place of this role, unless one of the role came before
abbrev pub with_place : Role → Place → Places → Places
with_place Octets place places = record places { octets = option_or places.octets (Some place) }
with_place Packets place places = record places { packets = option_or places.packets (Some place) }
with_place Protocol place places = record places { protocol = option_or places.protocol (Some place) }
with_place Seconds place places = record places { seconds = option_or places.seconds (Some place) }
with_place Milliseconds place places = record places { milliseconds = option_or places.milliseconds (Some place) }

-- with the place of a field of an element of this role, if the field counts
abbrev pub noted : Option Role → Place → Places → Places
noted None place places = places
noted (Some role) place places = if is_counted role place.len then with_place role place places else places

-- ---- the plan

abbrev pub are_fixed : List (ElementId × ℕ) → Bool
are_fixed fields = list_all (λ f. nat_lt f.1 65535) fields

abbrev pub plan_of : List (ElementId × ℕ) → Plan
plan_of fields = record {
  smallest = sum_by (λ f. least_length f.1) fields;
  way = if are_fixed fields then ByPlaces (places_of fields) else BySteps (steps_of fields);
}

-- ---- the values that the steps find in a record

unfoldable pub values_by : List FieldStep → List ℕ → List (Role × List ℕ)
values_by [] octets = []
values_by (Skip count ∷ steps) octets = values_by steps (drop count octets)
values_by (Fixed role count ∷ steps) octets = (role, take count octets) ∷ values_by steps (drop count octets)
values_by (Variable role ∷ steps) octets =
    counting role (value_of 65535 octets).0 ++ values_by steps (value_of 65535 octets).1
