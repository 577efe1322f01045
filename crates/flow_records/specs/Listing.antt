-- Lines of records on their way to a writer.
use Rattle.std.specs.Prelude.{◌≡◌, ℕ, ⊤, List, Option}
use Rattle.std.specs.Io.KnownBytes.{Appends}
use Rattle.flow_codec.specs.Raw.{Placed}
use Rattle.flow_columns.specs.declared.names.LineFormat.{LineFormat}
use Rattle.flow_measure.specs.View.{View}
use Rattle.flow_report.specs.Telling.{Tells, TellsFront}
use Rattle.flow_report.specs.Writing.{AppendsFront}
use Rattle.flow_snapshot.specs.Answered.{IsNoDamage}
use Rattle.flow_snapshot.specs.Found.{KeptFile}
use Rattle.flow_records.specs.declared.listing.Listing.{Listing}
use Rattle.flow_records.specs.declared.refusal.RecordsRefusal.{RecordsRefusal}
use Rattle.flow_records.specs.declared.refusal.RecordsRefusal.TheVariants.{Query, Text}
use Rattle.flow_records.specs.Records.{lines_of, records_in_view, records_text, AreChosen, AreOwnRecords}
use Rattle.flow_records.specs.Records.{HaveOwnRecords}

-- ---- refusals

-- no damage is reported
abbrev pub IsBlameless : RecordsRefusal → Type 0
IsBlameless (Query e) = IsNoDamage e
IsBlameless (Text e) = ⊤

-- ---- what goes on its way

-- the span, and how lines are made, stay
pub record StaysSo (old new : Listing) : Type 0 where
  pub format : new.lines.line ≡ old.lines.line
  pub from : new.chosen.from ≡ old.chosen.from
  pub to : new.chosen.to ≡ old.chosen.to

-- the lines of these records came
abbrev pub TellsOf : Listing → Option (List ℕ) → Option (List ℕ) → Listing → List Placed → Type 0
TellsOf old was now new records = Tells was old.lines.held now new.lines.held (lines_of old.lines.line records)

-- or a prefix of them was written
abbrev pub TellsFrontOf : Listing → Option (List ℕ) → Option (List ℕ) → List Placed → Type 0
TellsFrontOf old was now records = TellsFront was old.lines.held now (lines_of old.lines.line records)

-- the lines of some records of flows that start within came
abbrev pub TellsSome : Listing → Option (List ℕ) → Option (List ℕ) → Listing → Type 0
TellsSome old was now new =
    (records : List Placed) × AreChosen old.chosen.from old.chosen.to records × TellsOf old was now new records

-- or a prefix of such lines was written
abbrev pub TellsFrontOfSome : Listing → Option (List ℕ) → Option (List ℕ) → Type 0
TellsFrontOfSome old was now =
    (records : List Placed) × AreChosen old.chosen.from old.chosen.to records × TellsFrontOf old was now records

-- the lines of the records of a file that reads whole
abbrev pub TellsOwn : Listing → Option (List ℕ) → Option (List ℕ) → Listing → KeptFile → Type 0
TellsOwn old was now new file =
    (own : List Placed) × HaveOwnRecords old.chosen.from old.chosen.to file own × TellsOf old was now new own

-- and of several, each of which does
abbrev pub TellsOwnOf : Listing → Option (List ℕ) → Option (List ℕ) → Listing → List KeptFile → Type 0
TellsOwnOf old was now new files =
    (records : List Placed) × AreOwnRecords old.chosen.from old.chosen.to files records
    × TellsOf old was now new records

-- ---- what is written

-- the lines of some records of flows that start within
abbrev pub AreRecordsIn : LineFormat → ℕ → ℕ → List ℕ → Type 0
AreRecordsIn format from to text =
    (records : List Placed) × AreChosen from to records × (text ≡ records_text format records)

abbrev pub WritesRecords : LineFormat → ℕ → ℕ → Option (List ℕ) → Option (List ℕ) → Type 0
WritesRecords format from to old new = (text : List ℕ) × AreRecordsIn format from to text × Appends old new text

abbrev pub WritesSomeRecords : LineFormat → ℕ → ℕ → Option (List ℕ) → Option (List ℕ) → Type 0
WritesSomeRecords format from to old new =
    (text : List ℕ) × AreRecordsIn format from to text × AppendsFront old new text

-- the lines of the records of files, each of which reads whole, after its own prefix
abbrev pub WritesOwnRecords : LineFormat → ℕ → ℕ → List KeptFile → Option (List ℕ) → Option (List ℕ) → Type 0
WritesOwnRecords format from to files old new =
    (records : List Placed) × AreOwnRecords from to files records × Appends old new (records_text format records)

-- the lines of a view's records of flows that start in a span
abbrev pub records_lines : LineFormat → ℕ → ℕ → View → List ℕ
records_lines format from to v = records_text format (records_in_view from to v)
