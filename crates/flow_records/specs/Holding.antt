-- What is held of a message's records.
use Rattle.std.specs.Prelude.{◌≡◌, ℕ, List, [], ◌∷◌, ◌++◌, length, map, sum_by, take, drop}
use Rattle.flow_codec.specs.Raw.{raw, Placed}
use Rattle.flow_report.specs.Records.{Started}
use Rattle.flow_records.specs.declared.chosen.ChosenRecord.{ChosenRecord}
use Rattle.flow_records.specs.declared.chosen.ChosenRecords.{ChosenRecords}
use Rattle.flow_records.specs.Records.{records_within, started}

-- the records that are held; each has its count of octets, after those of the record before
abbrev pub held_in : List ChosenRecord → List ℕ → List Started
held_in [] octets = []
held_in (r ∷ rs) octets =
    (r.start, (r.header, raw r.id r.definition (take r.len octets))) ∷ held_in rs (drop r.len octets)

abbrev pub held : ChosenRecords → List Started
held c = held_in c.records.items c.octets.items

-- the span whose records are held
abbrev pub span_of : ChosenRecords → ℕ × ℕ
span_of c = (c.from, c.to)

-- records that have just the octets that are held
abbrev pub AreWhole : ChosenRecords → Type 0
AreWhole c = sum_by (λ r. r.len) c.records.items ≡ length c.octets.items

-- from the first state to the second, these records were taken: those of flows that start within are held
abbrev pub HasTaken : ChosenRecords → List Placed → ChosenRecords → Type 0
HasTaken old taken new = (new.from ≡ old.from) × (new.to ≡ old.to)
    × (AreWhole old → AreWhole new × (held new ≡ held old ++ map started (records_within old.from old.to taken)))
