-- An archive that is asked for the messages of a span of time.
use Rattle.std.proofs.Common.{◌≡◌, ◌∙◌, ℕ, List, Option, subst, sym, ◌⊎◌, inl, inr}
use Rattle.std.specs.Prelude.{false, take, true, Result, IfErr, OnOk}
use Rattle.std.proofs.KnownBytes.{Keeps-refl}
use Rattle.std.specs.Io.KnownBytes.{Keeps}
use Rattle.flow_disk.proofs.Results.{if_err_by, on_ok_by}
use Rattle.flow_export.specs.declared.refusal.ExportRefusal.{ExportRefusal}
use Rattle.flow_export.specs.declared.refusal.ExportRefusal.TheVariants as export
use Rattle.flow_export.specs.declared.starting.TimeSpan.{TimeSpan}
use Rattle.flow_export.specs.Export.{IsBlameless, IsReadAs, Writes, WritesSome, WritesUpTo as WritesOrEnds}
use Rattle.flow_export.specs.Span.{before_first, meets_sums, span_messages, IsSomeSpanExport, IsSpanExportOf}
use Rattle.flow_export.specs.declared.archive_refusal.ArchiveExportRefusal.{ArchiveExportRefusal}
use Rattle.flow_export.specs.declared.archive_refusal.ArchiveExportRefusal.TheVariants as refusal
use Rattle.flow_export.specs.Asked.{of_export}
use Rattle.flow_export.specs.ByTime.{IsStopped, IsTimeExport, IsTimeExportRead, IsTimeRefusal}
use Rattle.flow_export.specs.ByTime.{IsUnexportedByTime, WritesByTime}
use Rattle.flow_export.proofs.AskedFor.{shelf_here, written_as}
use Rattle.flow_export.proofs.Cut.{cut_is}
use Rattle.flow_manifest.specs.declared.error.OpenError.{OpenError}
use Rattle.flow_measure.specs.History.{flows_in, templates_from}
use Rattle.flow_measure.specs.Query.{flows_in_view}
use Rattle.flow_measure.specs.View.{View}
use Rattle.flow_model.specs.Shelf.{Shelf}
use Rattle.flow_model.specs.Shelved.{shelf_of}
use Rattle.flow_model.specs.Standing.{StandsFor}
use Rattle.flow_model.specs.State.{State}
use Rattle.flow_model.specs.Views.{IsViewOf}
use Rattle.flow_recover.specs.Opening.{IsDeviceOrMemory, StandsForNone}
use Rattle.flow_refusals.specs.declared.read_refusal.ReadRefusal.{ReadRefusal}
use Rattle.flow_refusals.specs.declared.read_refusal.ReadRefusal.TheVariants as query
use Rattle.flow_segment.specs.PartFlows.{flows_within}
use Rattle.flow_snapshot.specs.Answered.{IsNoDamage}
use Rattle.flow_snapshot.specs.ShelfSeen.{ShelfSeen}
use Rattle.flow_snapshot.specs.Totals.{first_file, IsTotalsRefusal, SumsFit}

-- ---- refusals, as they are passed on

-- of sums that are read before anything is written
pub stopped_before : (first : ℕ) (fit : Type 0) (are : List ℕ → Type 0) (output : Option (List ℕ)) (e : ReadRefusal)
    → IsTotalsRefusal first fit e → IsStopped first fit are output output e
stopped_before first fit are output (query.Damaged file at) (file_is, at_is, none) =
    (file_is, at_is, none, Keeps-refl output)
stopped_before first fit are output query.Fault told = inl (Keeps-refl output)
stopped_before first fit are output query.OutOfMemory told = inl (Keeps-refl output)

-- of messages
stopped_within : (first : ℕ) (fit : Type 0) (are : List ℕ → Type 0) (old new : Option (List ℕ)) (e : ReadRefusal)
    → IsNoDamage e → Keeps old new ⊎ WritesSome are old new → IsStopped first fit are old new e
stopped_within first fit are old new (query.Damaged file at) none some = absurd none
stopped_within first fit are old new query.Fault none some = some
stopped_within first fit are old new query.OutOfMemory none some = some

stopped_as : (first : ℕ) (fit : Type 0) (are also : List ℕ → Type 0) (old new : Option (List ℕ)) (e : ReadRefusal)
    → ((text : List ℕ) → are text → also text) → IsStopped first fit are old new e
    → IsStopped first fit also old new e
stopped_as first fit are also old new (query.Damaged file at) also_are stopped = stopped
stopped_as first fit are also old new query.Fault also_are (inl kept) = inl kept
stopped_as first fit are also old new query.Fault also_are (inr (text, is, some)) = inr (text, also_are text is, some)
stopped_as first fit are also old new query.OutOfMemory also_are (inl kept) = inl kept
stopped_as first fit are also old new query.OutOfMemory also_are (inr (text, is, some)) =
    inr (text, also_are text is, some)

-- of messages that are written, where no sums meet the span
module _ (s : Shelf) (v : View) (span : TimeSpan) (none : meets_sums span.from span.to v ≡ false) where
  pub time_written : (old new : Option (List ℕ)) → Writes (IsSpanExportOf s v span.from span.to) old new
      → Writes (IsTimeExport s v span) old new
  time_written old new written =
      written_as (IsSpanExportOf s v span.from span.to) (IsTimeExport s v span) old new (λ text is. (none, is)) written

  pub time_refused : (old new : Option (List ℕ)) (e : ExportRefusal) → IsBlameless e
      → WritesOrEnds (IsSpanExportOf s v span.from span.to) old new e → IsTimeRefusal s v span old new (of_export e)
  time_refused old new (export.Query e) blameless (inl kept) =
      stopped_within (first_file s) (SumsFit v) (IsTimeExport s v span) old new e blameless (inl kept)
  time_refused old new (export.Query e) blameless (inr (text, is, some)) =
      stopped_within (first_file s) (SumsFit v) (IsTimeExport s v span) old new e blameless
      (inr (text, (none, is), some))
  time_refused old new (export.Write failed) blameless (text, is, some) = (text, (none, is), some)

pub ended_by_time : (span : TimeSpan) (old new : Option (List ℕ)) (e : ExportRefusal)
    → WritesOrEnds (IsSomeSpanExport span.from span.to) old new e → WritesByTime span old new (of_export e)
ended_by_time span old new (export.Query e) some = some
ended_by_time span old new (export.Write failed) some = some

-- ---- what was read is that of a state

module _ (reads : ℕ → List ℕ) (s : State) (stands : StandsFor reads s) (v : View) (view : IsViewOf (shelf_of s) v)
    (span : TimeSpan)
    (file : (text : List ℕ) → IsSpanExportOf (shelf_of s) v span.from span.to text
    → IsReadAs text (templates_from v.templates (take (before_first span.from span.to v.kept) v.kept))
    (span_messages span.from span.to v.kept))
    (flows : flows_within span.from span.to (flows_in (span_messages span.from span.to v.kept))
    ≡ flows_in_view span.from span.to v)
  where
    exported : (text : List ℕ) → IsTimeExport (shelf_of s) v span text → IsTimeExportRead reads span text
    exported text (kept, octets) = record {
      state = s;
      represents = stands;
      view = v;
      viewed = view;
      kept = kept;
      octets = octets;
      read = file text octets;
      flows = flows;
    }

    unexported : (old new : Option (List ℕ)) (e : ArchiveExportRefusal) → IsTimeRefusal (shelf_of s) v span old new e
        → IsUnexportedByTime reads span old new e
    unexported old new (refusal.Query e) stopped = (
      s,
      v,
      stands,
      view,
      stopped_as (first_file (shelf_of s)) (SumsFit v) (IsTimeExport (shelf_of s) v span)
          (IsTimeExportRead reads span) old new e exported stopped,
    )
    unexported old new (refusal.Write failed) (text, is, some) = (text, exported text is, some)
    unexported old new (refusal.Rolled cut) (meets, is, kept) =
        ((s, v, stands, view, sym (is ∙ cut_is reads s v stands view), meets), kept)
    unexported old new (refusal.Opening e) none = absurd none
    unexported old new (refusal.Folder e) none = absurd none

    -- of a snapshot of what there is of the archive
    module _ (sight directory : ShelfSeen) (is : sight ≡ directory)
        (shown : (directory.shelf ≡ shelf_of s) × (directory.honest ≡ true)) (old new : Option (List ℕ))
        (r : Result (Unit {0}) ArchiveExportRefusal)
      where
        here : sight.shelf ≡ shelf_of s
        here = shelf_here sight directory is s shown

        pub all_by_time : OnOk r (Writes (IsTimeExport sight.shelf v span) old new)
            → OnOk r (Writes (IsTimeExportRead reads span) old new)
        all_by_time given =
            on_ok_by r (Writes (IsTimeExport sight.shelf v span) old new)
            (Writes (IsTimeExportRead reads span) old new)
            (written_as (IsTimeExport sight.shelf v span) (IsTimeExportRead reads span) old new
            (λ text own. exported text (subst (λ (shelf : Shelf). IsTimeExport shelf v span text) here own))) given

        pub none_by_time : IfErr r (IsTimeRefusal sight.shelf v span old new)
            → IfErr r (IsUnexportedByTime reads span old new)
        none_by_time given =
            if_err_by r (IsTimeRefusal sight.shelf v span old new) (IsUnexportedByTime reads span old new)
            (λ e own. unexported old new e (subst (λ (shelf : Shelf). IsTimeRefusal shelf v span old new e) here own))
            given

-- ---- an archive that isn't opened

pub unopened_by_time : (reads : ℕ → List ℕ) (output : Option (List ℕ)) (e : OpenError)
    → (IsDeviceOrMemory e ⊎ StandsForNone reads) → (span : TimeSpan)
    → IsUnexportedByTime reads span output output (refusal.Opening e)
unopened_by_time reads output e why span = (why, Keeps-refl output)
