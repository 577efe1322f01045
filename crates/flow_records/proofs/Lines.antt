-- Lines of the records of an archive that is asked.
use Rattle.std.proofs.Common.{◌≡◌, ◌≢◌, ◌∙◌, ℕ, List, [], Option, refl, sym, ap, arith, inl, inr}
use Rattle.std.specs.Io.KnownBytes.{Appends}
use Rattle.std.proofs.KnownBytes.{Appends-nil, Keeps-refl}
use Rattle.std.specs.Prelude.{true, IfErr, IsErrOf, IsTrue, OnOk, Result, Ok, Err}
use Rattle.std.proofs.lemmas.List.Elements.{All-nil}
use Rattle.flow_codec.specs.Raw.{Placed}
use Rattle.flow_columns.specs.declared.names.LineFormat.{LineFormat}
use Rattle.flow_commands.specs.declared.archive_refusal.ArchiveRefusal.{ArchiveRefusal}
use Rattle.flow_commands.specs.declared.archive_refusal.ArchiveRefusal.TheVariants as refusal
use Rattle.flow_commands.specs.Archives.{of_opening}
use Rattle.flow_commands.specs.Asking.{Always, IsBlameless, IsReadAs, IsUnopened, IsViewRead, IsWhileAsking, TellsLines}
use Rattle.flow_commands.specs.Asking.{TellsUpTo, WritesUpTo}
use Rattle.flow_commands.specs.Plans.{Span}
use Rattle.flow_disk.specs.Cause.{HasCause}
use Rattle.flow_records.specs.declared.refusal.RecordsRefusal.{RecordsRefusal}
use Rattle.flow_records.specs.declared.refusal.RecordsRefusal.TheVariants.{Query, Text}
use Rattle.flow_records.specs.Listing.{records_lines, AreRecordsIn, WritesSomeRecords}
use Rattle.flow_records.specs.Listing.{IsBlameless as IsBlamelessBelow}
use Rattle.flow_records.specs.Records.{is_chosen, records_text, AreChosen}
use Rattle.flow_manifest.specs.declared.error.OpenError.{OpenError}
use Rattle.flow_manifest.specs.declared.error.OpenError.TheVariants as opening
use Rattle.flow_measure.specs.View.{View}
use Rattle.flow_model.specs.Views.{IsViewOf}
use Rattle.flow_records.specs.Refused.{of_records}
use Rattle.flow_refusals.specs.declared.read_refusal.ReadRefusal.TheVariants as query
use Rattle.flow_report.specs.declared.text_error.TextError.TheVariants as text
use Rattle.flow_report.specs.Writing.{AppendsFront}
use Rattle.flow_snapshot.specs.ShelfSeen.{ShelfSeen}

pub no_records_in : (span : Span) → AreChosen span.from span.to []
no_records_in span = All-nil (λ (x : Placed). is_chosen span.from span.to x ≡ true)

pub none_alone : (output : Option (List ℕ)) (text : List ℕ) → AppendsFront output output text
none_alone output text = (0, omega arith, Appends-nil output)

-- ---- refusals

pub up_to : (format : LineFormat) (span : Span) (e : ArchiveRefusal) (old new : Option (List ℕ)) (records : List Placed)
    → AreChosen span.from span.to records → IsWhileAsking e → AppendsFront old new (records_text format records)
    → WritesUpTo (AreRecordsIn format span.from span.to) e old new
up_to format span (refusal.Query e) old new records all asking front =
    (records_text format records, (records, all, refl), front)
up_to format span (refusal.Write failed) old new records all asking front =
    (records_text format records, (records, all, refl), front)
up_to format span refusal.OutOfMemory old new records all asking front =
    (records_text format records, (records, all, refl), front)
up_to format span (refusal.Opening e) old new records all asking front = absurd asking
up_to format span (refusal.Archive e) old new records all asking front = absurd asking
up_to format span (refusal.Folder why) old new records all asking front = absurd asking

told_up_to : (format : LineFormat) (span : Span) (reads : ℕ → List ℕ) (v : View) (e : ArchiveRefusal)
    (old new : Option (List ℕ)) → IsViewRead reads v → IsWhileAsking e
    → IsBlameless e × AppendsFront old new (records_lines format span.from span.to v)
    → TellsUpTo (records_lines format span.from span.to) Always reads old new e
told_up_to format span reads v (refusal.Query (query.Damaged file at)) old new read asking told = absurd told.0
told_up_to format span reads v (refusal.Query query.Fault) old new read asking told =
    (tt, (records_lines format span.from span.to v, (v, read, refl), told.1))
told_up_to format span reads v (refusal.Query query.OutOfMemory) old new read asking told =
    (tt, (records_lines format span.from span.to v, (v, read, refl), told.1))
told_up_to format span reads v (refusal.Write failed) old new read asking told =
    (records_lines format span.from span.to v, (v, read, refl), told.1)
told_up_to format span reads v refusal.OutOfMemory old new read asking told =
    inr (records_lines format span.from span.to v, (v, read, refl), told.1)
told_up_to format span reads v (refusal.Opening e) old new read asking told = absurd asking
told_up_to format span reads v (refusal.Archive e) old new read asking told = absurd asking
told_up_to format span reads v (refusal.Folder why) old new read asking told = absurd asking

asking_is_no_opening : (e : ArchiveRefusal) → IsWhileAsking e → e ≢ refusal.Opening opening.Fault
asking_is_no_opening (refusal.Query e) asking is = absurd (cc)
asking_is_no_opening (refusal.Write failed) asking is = absurd (cc)
asking_is_no_opening refusal.OutOfMemory asking is = absurd (cc)
asking_is_no_opening (refusal.Opening e) asking is = absurd asking
asking_is_no_opening (refusal.Archive e) asking is = absurd asking
asking_is_no_opening (refusal.Folder why) asking is = absurd asking

-- ---- of the records below

pub asks : (e : RecordsRefusal) → IsWhileAsking (of_records e)
asks (Query (query.Damaged file at)) = tt
asks (Query query.Fault) = tt
asks (Query query.OutOfMemory) = tt
asks (Text text.OutOfMemory) = tt
asks (Text (text.Write failed)) = tt

pub blameless : (e : RecordsRefusal) → IsBlamelessBelow e → IsBlameless (of_records e)
blameless (Query (query.Damaged file at)) is = absurd is
blameless (Query query.Fault) is = tt
blameless (Query query.OutOfMemory) is = tt
blameless (Text text.OutOfMemory) is = tt
blameless (Text (text.Write failed)) is = tt

pub some_up_to : (format : LineFormat) (span : Span) (e : RecordsRefusal) (old new : Option (List ℕ))
    → WritesSomeRecords format span.from span.to old new
    → WritesUpTo (AreRecordsIn format span.from span.to) (of_records e) old new
some_up_to format span (Query (query.Damaged file at)) old new some = some
some_up_to format span (Query query.Fault) old new some = some
some_up_to format span (Query query.OutOfMemory) old new some = some
some_up_to format span (Text text.OutOfMemory) old new some = some
some_up_to format span (Text (text.Write failed)) old new some = some

pub records_fault : (e : RecordsRefusal) → of_records e ≡ refusal.Query query.Fault → e ≡ Query query.Fault
records_fault (Query (query.Damaged file at)) is = absurd (cc)
records_fault (Query query.Fault) is = refl
records_fault (Query query.OutOfMemory) is = absurd (cc)
records_fault (Text text.OutOfMemory) is = absurd (cc)
records_fault (Text (text.Write failed)) is = absurd (cc)

pub fault_is_told : (e : RecordsRefusal) → e ≡ Query query.Fault → of_records e ≡ refusal.Query query.Fault
fault_is_told e is = ap of_records is

told_fault : {X : Type 0} (r : ArchiveRefusal)
    → IsErrOf {T = X} {E = ArchiveRefusal} (Err r) (refusal.Query query.Fault) → r ≡ refusal.Query query.Fault
told_fault r told = cc

fault_told : {X : Type 0} (e : RecordsRefusal) → e ≡ Query query.Fault
    → IsErrOf {T = X} {E = RecordsRefusal} (Err e) (Query query.Fault)
fault_told e is = cc

-- it is the refusal of a fault exactly where that below is
pub cause_of : {X Y : Type 0} (before now : ℕ) (e : RecordsRefusal) (r : ArchiveRefusal) → r ≡ of_records e
    → HasCause {T = X} (Query query.Fault) before now (Err e)
    → HasCause {T = Y} (refusal.Query query.Fault) before now (Err r)
cause_of {X} {Y} before now e r is c = record {
  later = c.later;
  done = tt;
  risen = λ told. c.risen (fault_told {X = X} e (records_fault e (sym is ∙ told_fault {X = Y} r told)));
  other = λ differs. c.other (λ fault. differs (is ∙ fault_is_told e fault));
}

-- ---- what a command answers

pub lines_told : {A : Type 0} (format : LineFormat) (span : Span) (reads : ℕ → List ℕ) (sight : ShelfSeen) (width : ℕ)
    (r : Result A ArchiveRefusal) (old new : Option (List ℕ)) → IsReadAs reads sight width
    → (IsTrue sight.honest → (v : View) → IsViewOf sight.shelf v
    → OnOk r (Appends old new (records_lines format span.from span.to v)))
    → OnOk r (TellsLines (records_lines format span.from span.to) reads old new)
lines_told format span reads sight width (Err e) old new is told = tt
lines_told format span reads sight width (Ok x) old new (v, read, (honest, view, wide)) told =
    (records_lines format span.from span.to v, (v, read, refl), told honest v view)

pub up_to_told : {A : Type 0} (format : LineFormat) (span : Span) (reads : ℕ → List ℕ) (sight : ShelfSeen) (width : ℕ)
    (r : Result A ArchiveRefusal) (old new : Option (List ℕ)) → IsReadAs reads sight width
    → IfErr r (λ e. IsWhileAsking e × WritesUpTo (AreRecordsIn format span.from span.to) e old new)
    → (IsTrue sight.honest → (v : View) → IsViewOf sight.shelf v
    → IfErr r (λ e. IsBlameless e × AppendsFront old new (records_lines format span.from span.to v)))
    → IfErr r (TellsUpTo (records_lines format span.from span.to) Always reads old new)
up_to_told format span reads sight width (Ok x) old new is some cut = tt
up_to_told format span reads sight width (Err e) old new (v, read, (honest, view, wide)) some cut =
    told_up_to format span reads v e old new read some.0 (cut honest v view)

pub written_up_to : {A : Type 0} (format : LineFormat) (span : Span) (r : Result A ArchiveRefusal)
    (old new : Option (List ℕ))
    → IfErr r (λ e. IsWhileAsking e × WritesUpTo (AreRecordsIn format span.from span.to) e old new)
    → IfErr r (λ e. WritesUpTo (AreRecordsIn format span.from span.to) e old new)
written_up_to format span (Ok x) old new some = tt
written_up_to format span (Err e) old new some = some.1

pub no_opening : {A : Type 0} (format : LineFormat) (span : Span) (r : Result A ArchiveRefusal)
    (old new : Option (List ℕ))
    → IfErr r (λ e. IsWhileAsking e × WritesUpTo (AreRecordsIn format span.from span.to) e old new)
    → IfErr r (λ e. e ≢ refusal.Opening opening.Fault)
no_opening format span (Ok x) old new some = tt
no_opening format span (Err e) old new some = asking_is_no_opening e some.0

-- nothing was written
pub none_up_to : (format : LineFormat) (span : Span) (output : Option (List ℕ)) (e : ArchiveRefusal)
    → WritesUpTo (AreRecordsIn format span.from span.to) e output output
none_up_to format span output (refusal.Query e) =
    up_to format span (refusal.Query e) output output [] (no_records_in span) tt
    (none_alone output (records_text format []))
none_up_to format span output (refusal.Write failed) =
    up_to format span (refusal.Write failed) output output [] (no_records_in span) tt
    (none_alone output (records_text format []))
none_up_to format span output refusal.OutOfMemory =
    up_to format span refusal.OutOfMemory output output [] (no_records_in span) tt
    (none_alone output (records_text format []))
none_up_to format span output (refusal.Opening e) = Keeps-refl output
none_up_to format span output (refusal.Archive e) = Keeps-refl output
none_up_to format span output (refusal.Folder why) = Keeps-refl output

pub away_up_to : {A : Type 0} (format : LineFormat) (span : Span) (r : Result A ArchiveRefusal)
    (output : Option (List ℕ))
    → IfErr r (λ e. WritesUpTo (AreRecordsIn format span.from span.to) e output output)
away_up_to format span (Ok x) output = tt
away_up_to format span (Err e) output = none_up_to format span output e

-- an archive that isn't opened
pub unopened_up_to : (format : LineFormat) (span : Span) (reads : ℕ → List ℕ) (output : Option (List ℕ)) (e : OpenError)
    → IsUnopened reads e → TellsUpTo (records_lines format span.from span.to) Always reads output output (of_opening e)
unopened_up_to format span reads output (opening.Damaged file at) told = (told, Keeps-refl output)
unopened_up_to format span reads output (opening.Format file) told = (told, Keeps-refl output)
unopened_up_to format span reads output (opening.Entries file) told = (told, Keeps-refl output)
unopened_up_to format span reads output (opening.Cut file) told = (told, Keeps-refl output)
unopened_up_to format span reads output opening.NoArchive told = (told, Keeps-refl output)
unopened_up_to format span reads output opening.Fault told = (told, Keeps-refl output)
unopened_up_to format span reads output opening.OutOfMemory told = inl (Keeps-refl output)
