-- The numbers that count in a record, value by value: of each role the first.
use Rattle.std.specs.Prelude.{◌≡◌, ℕ, ◌+◌, ◌≤◌, List, [], ◌∷◌, length, take, drop, Option, Some, None, option_map}
use Rattle.std.specs.Prelude.{unwrap_or}
use Rattle.std.specs.Option.{option_or}
use Rattle.flow_elements.specs.Values.{number_of}
use Rattle.flow_codec.specs.declared.message.Header.{Header}
use Rattle.flow_codec.specs.declared.plan.Role.{Role}
use Rattle.flow_codec.specs.declared.plan.Role.TheVariants.{Octets, Packets, Protocol, Seconds, Milliseconds}
use Rattle.flow_codec.specs.declared.plan.Place.{Place}
use Rattle.flow_codec.specs.declared.plan.Places.{Places}
use Rattle.flow_codec.specs.declared.plan.FieldStep.{FieldStep}
use Rattle.flow_codec.specs.declared.plan.FieldStep.TheVariants.{Skip, Fixed, Variable}
use Rattle.flow_codec.specs.Fields.{counted_of}
use Rattle.flow_codec.specs.Plan.{counting, least_of, most_of}
use Rattle.flow_measure.specs.declared.flow.Flow.{Flow}
use Rattle.flow_measure.specs.declared.counts.Counts.{Counts}
use Rattle.flow_measure.specs.Flows.{start_of}

abbrev pub no_counts : Counts
no_counts = record { octets = None; packets = None; protocol = None; seconds = None; milliseconds = None }

-- with the number of a value, unless one of its role came before
abbrev pub with_value : Role → List ℕ → Counts → Counts
with_value Octets value counts = record counts { octets = option_or counts.octets (Some (number_of value)) }
with_value Packets value counts = record counts { packets = option_or counts.packets (Some (number_of value)) }
with_value Protocol value counts = record counts { protocol = option_or counts.protocol (Some (number_of value)) }
with_value Seconds value counts = record counts { seconds = option_or counts.seconds (Some (number_of value)) }
with_value Milliseconds value counts =
    record counts { milliseconds = option_or counts.milliseconds (Some (number_of value)) }

unfoldable pub counts_with : Counts → List (Role × List ℕ) → Counts
counts_with counts [] = counts
counts_with counts (v ∷ vs) = counts_with (with_value v.0 v.1 counts) vs

abbrev pub flow_by : Header → Counts → Flow
flow_by header counts = record {
  domain = header.domain;
  start = start_of header.time counts.milliseconds counts.seconds;
  protocol = counts.protocol;
  octets = unwrap_or counts.octets 0;
  packets = unwrap_or counts.packets 0;
}

-- the values that count under one step of a plan, and the octets after it
abbrev pub step_values : FieldStep → List ℕ → List (Role × List ℕ)
step_values (Skip count) octets = []
step_values (Fixed role count) octets = (role, take count octets) ∷ []
step_values (Variable role) octets = counting role (counted_of octets).0

abbrev pub step_rest : FieldStep → List ℕ → List ℕ
step_rest (Skip count) octets = drop count octets
step_rest (Fixed role count) octets = drop count octets
step_rest (Variable role) octets = (counted_of octets).1

-- a step over a field that counts has no more octets than its role may have
abbrev pub IsStep : FieldStep → Type 0
IsStep (Skip count) = Unit {0}
IsStep (Fixed role count) = count ≤ most_of role
IsStep (Variable role) = Unit {0}

-- ---- the numbers of a record of fixed lengths

-- a place within the octets, of a length in which its role counts
abbrev pub IsPlace : Role → List ℕ → Option Place → Type 0
IsPlace role octets None = Unit {0}
IsPlace role octets (Some place) =
    (place.at + place.len ≤ length octets) × (least_of role ≤ place.len) × (place.len ≤ most_of role)

-- a place within the octets, of just this length
abbrev pub IsWide : ℕ → List ℕ → Option Place → Type 0
IsWide width octets None = Unit {0}
IsWide width octets (Some place) = (place.at + width ≤ length octets) × (place.len ≡ width)

abbrev pub ArePlaces : List ℕ → Places → Type 0
ArePlaces octets places = IsPlace Octets octets places.octets × IsPlace Packets octets places.packets
    × IsWide 1 octets places.protocol × IsWide 4 octets places.seconds × IsWide 8 octets places.milliseconds

-- the number at a place
abbrev pub number_at : List ℕ → Option Place → Option ℕ
number_at octets place = option_map (λ p. number_of (take p.len (drop p.at octets))) place

abbrev pub counts_at : List ℕ → Places → Counts
counts_at octets places = record {
  octets = number_at octets places.octets;
  packets = number_at octets places.packets;
  protocol = number_at octets places.protocol;
  seconds = number_at octets places.seconds;
  milliseconds = number_at octets places.milliseconds;
}
