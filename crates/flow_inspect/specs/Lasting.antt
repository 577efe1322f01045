-- How long flows last.
use Rattle.std.specs.Prelude.{ℕ, ◌-◌, ◌/◌, ◌^◌, ◌+◌, min, max, Bool, not, ◌&&◌, ◌==◌, nat_lt, List, length, find}
use Rattle.std.specs.Prelude.{Option, Some, None, option_map, option_and_then, if◌then◌else◌}
use Rattle.std.specs.List.{filter_map}
use Rattle.std.specs.Option.{is_some, option_or}
use Rattle.flow_elements.specs.Values.{number_of}
use Rattle.flow_codec.specs.declared.message.Field.{Field}
use Rattle.flow_codec.specs.Fields.{fields_in}
use Rattle.flow_codec.specs.Raw.{Placed}
use Rattle.flow_inspect.specs.declared.lasting.Ends.{Ends}
use Rattle.flow_inspect.specs.declared.lasting.Lasted.{Lasted}

-- ---- of a record

-- a field of IANA's element of this number, of so many octets
abbrev pub is_moment : ℕ → ℕ → Field → Bool
is_moment number count f = not (is_some f.id.enterprise) && (f.id.number == number) && (length f.octets == count)

-- the number in the first such field
abbrev pub moment_of : ℕ → ℕ → List Field → Option ℕ
moment_of number count fields = option_map (λ f. number_of f.octets) (find (is_moment number count) fields)

-- flowStartSeconds, flowEndSeconds, flowStartMilliseconds and flowEndMilliseconds, where a record has them
abbrev pub ends_of : List Field → Ends
ends_of fields = record {
  start_seconds = moment_of 150 4 fields;
  end_seconds = moment_of 151 4 fields;
  start_milliseconds = moment_of 152 8 fields;
  end_milliseconds = moment_of 153 8 fields;
}

-- what was found in some fields, and in one more
abbrev pub found_in : Option ℕ → ℕ → ℕ → Field → Option ℕ
found_in found number count f = option_or found (if is_moment number count f then Some (number_of f.octets) else None)

abbrev pub with_field : Ends → Field → Ends
with_field e f = record {
  start_seconds = found_in e.start_seconds 150 4 f;
  end_seconds = found_in e.end_seconds 151 4 f;
  start_milliseconds = found_in e.start_milliseconds 152 8 f;
  end_milliseconds = found_in e.end_milliseconds 153 8 f;
}

-- milliseconds in seconds, rounded down; else seconds
abbrev pub second_of : Option ℕ → Option ℕ → Option ℕ
second_of milliseconds seconds = option_or (option_map (λ n. n / 1000) milliseconds) seconds

-- how many seconds a flow lasts, where it has a start and an end; 0 where it ends before it starts
abbrev pub lasting : Ends → Option ℕ
lasting e = option_and_then (λ start. option_map (λ end. end - start) (second_of e.end_milliseconds e.end_seconds))
    (second_of e.start_milliseconds e.start_seconds)

-- ---- of flows

-- the greater of two numbers, where there is one
abbrev pub greater : Option ℕ → Option ℕ → Option ℕ
greater None more = more
greater (Some number) None = Some number
greater (Some number) (Some more) = Some (max number more)

-- what is counted of some flows, and of one more that lasts so long
abbrev pub lasted_after : Lasted → ℕ → Lasted
lasted_after l seconds = record {
  longest = greater l.longest (Some seconds);
  long = if nat_lt 300 seconds then min (l.long + 1) (2 ^ 64 - 1) else l.long;
}

abbrev pub with_lasting : Lasted → Option ℕ → Lasted
with_lasting l None = l
with_lasting l (Some seconds) = lasted_after l seconds

-- of no flow
abbrev pub none_lasted : Lasted
none_lasted = record { longest = None; long = 0 }

-- what is counted of two parts of a File, together
abbrev pub both_lasted : Lasted → Lasted → Lasted
both_lasted a b = record { longest = greater a.longest b.longest; long = min (a.long + b.long) (2 ^ 64 - 1) }

-- a data record of a Template is a flow
abbrev pub lasting_of : Placed → Option ℕ
lasting_of x = if x.1.layout.options then None else lasting (ends_of (fields_in x.1.layout.fields x.1.octets))

-- how long those of these records last that have a start and an end, in their order
abbrev pub lastings_of : List Placed → List ℕ
lastings_of taken = filter_map lasting_of taken
