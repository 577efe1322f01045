-- An archive that is asked what it passes on, and for its messages.
use Rattle.std.proofs.Common.{◌≡◌, ◌≢◌, ◌∙◌, ◌≤◌, ◌+◌, ◌-◌, ℕ, List, Option, Some, ap, subst, sym, ◌⊎◌, inl, inr, arith}
use Rattle.std.proofs.Common.{length}
use Rattle.std.specs.Prelude.{min, true, IsTrue, Result, Ok, Err, IfErr, IsErrAnd, MatchResult, OnOk}
use Rattle.std.proofs.KnownBytes.{Keeps-refl}
use Rattle.flow_disk.specs.Cause.{HasCause}
use Rattle.flow_disk.proofs.Results.{if_err_by, on_ok_by}
use Rattle.flow_folder.specs.declared.system.FolderError.{FolderError}
use Rattle.flow_manifest.specs.declared.error.OpenError.{OpenError}
use Rattle.flow_manifest.specs.declared.error.OpenError.TheVariants as open_error
use Rattle.flow_measure.specs.View.{View}
use Rattle.flow_model.specs.Shelf.{kept_of, Shelf}
use Rattle.flow_model.specs.Shelved.{shelf_of}
use Rattle.flow_model.specs.Standing.{StandsFor}
use Rattle.flow_model.specs.State.{State}
use Rattle.flow_model.specs.Views.{IsViewOf}
use Rattle.flow_recover.specs.Opening.{IsDeviceOrMemory, StandsForNone}
use Rattle.flow_snapshot.specs.ShelfSeen.{ShelfSeen}
use Rattle.flow_export.specs.declared.refusal.ExportRefusal.{ExportRefusal}
use Rattle.flow_export.specs.declared.refusal.ExportRefusal.TheVariants as export
use Rattle.flow_export.specs.Export.{asked_count, AreTemplatesAfter, IsBlameless, IsExport, IsExportOf, Writes}
use Rattle.flow_export.specs.Export.{WritesOrNot as WritesOrKeeps, WritesUpTo as WritesOrEnds}
use Rattle.flow_export.proofs.HandingOn.{handed}
use Rattle.flow_export.proofs.ReadBack.{read_back}
use Rattle.flow_export.specs.declared.archive_refusal.ArchiveExportRefusal.{ArchiveExportRefusal}
use Rattle.flow_export.specs.declared.archive_refusal.ArchiveExportRefusal.TheVariants as refusal
use Rattle.flow_export.specs.declared.span.MessageSpan.{MessageSpan}
use Rattle.flow_export.specs.Asked.{cut_in, last_before, last_in, of_export, AreTemplatesOf, AreUnexported}
use Rattle.flow_export.specs.Asked.{AreUnwritten, IsAway, IsCountedExport, IsCutIn, IsExportOfSome}
use Rattle.flow_export.specs.Asked.{IsExportRead, IsNoFault, IsOfAsking, IsSpanExport, IsUnopened, WritesOrNot}
use Rattle.flow_export.specs.Asked.{WritesUpTo}
use Rattle.flow_export.proofs.Cut.{cut_is}

-- ---- refusals, as they are passed on

pub asked_for : (e : ExportRefusal) → IsOfAsking (of_export e)
asked_for (export.Query e) = tt
asked_for (export.Write failed) = tt

pub no_damage : (e : ExportRefusal) → IsBlameless e → IsNoFault (of_export e)
no_damage (export.Query e) none = none
no_damage (export.Write failed) none = tt

pub no_cut : (s : Shelf) (e : ExportRefusal) → IsCutIn s (of_export e)
no_cut s (export.Query e) = tt
no_cut s (export.Write failed) = tt

pub kept_or_written : (are : List ℕ → Type 0) (old new : Option (List ℕ)) (e : ExportRefusal) → WritesOrKeeps are old new e
    → WritesOrNot are old new (of_export e)
kept_or_written are old new (export.Query e) kept = kept
kept_or_written are old new (export.Write failed) some = some

-- of octets that are asked for by a span
pub ended : (are also : List ℕ → Type 0) (span : MessageSpan) (old new : Option (List ℕ)) (e : ExportRefusal)
    → ((text : List ℕ) → are text → also text) → WritesOrEnds are old new e → WritesUpTo also span old new (of_export e)
ended are also span old new (export.Query e) also_are (inl kept) = inl kept
ended are also span old new (export.Query e) also_are (inr (text, is, some)) = inr (text, also_are text is, some)
ended are also span old new (export.Write failed) also_are (text, is, some) = (text, also_are text is, some)

-- messages after those before them, of a snapshot that shows so many in sums alone
pub span_exported : (s : Shelf) (span : MessageSpan) (cut before most : ℕ) (text : List ℕ) → cut ≡ cut_in s
    → last_before span cut ≡ Some before → most ≡ span.to - before → IsExportOf s (before - cut) most text
    → IsSpanExport s span text
span_exported s span cut before most text is first taken own = (
  before,
  subst (λ (k : ℕ). last_before span k ≡ Some before) is first,
  subst (λ (k : ℕ). IsExportOf s (before - k) (span.to - before) text) is
      (subst (λ (m : ℕ). IsExportOf s (before - cut) m text) taken own),
)

-- by its counts
pub span_counted : (s : Shelf) (span : MessageSpan) (cut before most : ℕ) (text : List ℕ) → cut ≡ cut_in s → cut ≤ before
    → last_before span cut ≡ Some before → most ≡ span.to - before
    → IsExport (asked_count (before - cut) most (length (kept_of s))) text
    → IsCountedExport (cut_in s) (last_in s) span text
span_counted s span cut before most text is least first taken own =
    let many : asked_count (before - cut) most (length (kept_of s)) ≡ min span.to (last_in s) - before =
    omega (arith, is, least, taken) in (
      before,
      subst (λ (k : ℕ). last_before span k ≡ Some before) is first,
      subst (λ (n : ℕ). IsExport n text) many own,
    )

-- whatever is written, and whatever is answered where it isn't
pub ended_as : (are also : List ℕ → Type 0) (span : MessageSpan) (old new : Option (List ℕ)) (e : ArchiveExportRefusal)
    → ((text : List ℕ) → are text → also text) → WritesUpTo are span old new e → WritesUpTo also span old new e
ended_as are also span old new (refusal.Query e) also_are (inl kept) = inl kept
ended_as are also span old new (refusal.Query e) also_are (inr (text, is, some)) = inr (text, also_are text is, some)
ended_as are also span old new (refusal.Write failed) also_are (text, is, some) = (text, also_are text is, some)
ended_as are also span old new (refusal.Opening e) also_are kept = kept
ended_as are also span old new (refusal.Folder e) also_are kept = kept
ended_as are also span old new (refusal.Rolled cut) also_are rolled = rolled

pub written_as : (are also : List ℕ → Type 0) (old new : Option (List ℕ)) → ((text : List ℕ) → are text → also text)
    → Writes are old new → Writes also old new
written_as are also old new also_are (text, is, all) = (text, also_are text is, all)

-- an archive that is open isn't refused as one that isn't
open_asked : (reads : ℕ → List ℕ) (e : ArchiveExportRefusal) → IsOfAsking e → IsUnopened reads e
open_asked reads (refusal.Query e) asking = tt
open_asked reads (refusal.Write failed) asking = tt
open_asked reads (refusal.Rolled cut) asking = tt
open_asked reads (refusal.Opening e) asking = absurd asking
open_asked reads (refusal.Folder e) asking = absurd asking

-- ---- what a fault is of

pub no_opening : (e : ArchiveExportRefusal) → IsOfAsking e → e ≢ refusal.Opening open_error.Fault
no_opening (refusal.Opening e) asking = λ is. asking
no_opening (refusal.Query e) asking = λ is. absurd cc
no_opening (refusal.Write failed) asking = λ is. absurd cc
no_opening (refusal.Rolled cut) asking = λ is. absurd cc
no_opening (refusal.Folder e) asking = λ is. absurd cc

-- an archive that was opened, by which no call of the disk failed
pub asked_alone : {X : Type 0} (before opened after : ℕ) (r : Result X ArchiveExportRefusal) → opened ≡ before
    → after ≡ opened → IfErr r IsOfAsking → HasCause (refusal.Opening open_error.Fault) before after r
asked_alone before opened after (Ok x) still same asking =
    let here : after ≡ before = same ∙ still in
    record { later = omega (arith, here); done = here; risen = λ is. absurd cc; other = tt }
asked_alone before opened after (Err e) still same asking =
    let here : after ≡ before = same ∙ still in
    record {
      later = omega (arith, here);
      done = tt;
      risen = λ is. absurd (no_opening e asking (let this : e ≡ refusal.Opening open_error.Fault = cc in this));
      other = λ _. here;
    }

-- ---- what was read is that of a state

module _ (reads : ℕ → List ℕ) (s : State) (stands : StandsFor reads s) where
  -- templates
  module _ (shelf : Shelf) (prefix : shelf.prefix ≡ s.active.front) (active : shelf.active ≡ s.active.messages) where
    pub passes_on : (text : List ℕ) → AreTemplatesAfter shelf text → AreTemplatesOf reads text
    passes_on text are =
        let chain = stands.files.chained in
        (s, chain.0, stands, chain.1, handed s chain.0 shelf text chain.1 prefix active are)

    pub unwritten : (old new : Option (List ℕ)) (e : ExportRefusal) → IsBlameless e
        → WritesOrKeeps (AreTemplatesAfter shelf) old new e → AreUnwritten reads old new (of_export e)
    unwritten old new (export.Query e) none kept = (tt, none, kept)
    unwritten old new (export.Write failed) none (text, are, some) = (tt, tt, (text, passes_on text are, some))

  -- messages
  module _ (v : View) (view : IsViewOf (shelf_of s) v) (span : MessageSpan) where
    pub exported : (text : List ℕ) → IsSpanExport (shelf_of s) span text → IsExportRead reads span text
    exported text (before, asked, octets) =
        let cut : cut_in (shelf_of s) ≡ v.cut = cut_is reads s v stands view in
        let own : IsExportOf (shelf_of s) (before - v.cut) (span.to - before) text =
        subst (λ (k : ℕ). IsExportOf (shelf_of s) (before - k) (span.to - before) text) cut octets in record {
          state = s;
          represents = stands;
          view = v;
          viewed = view;
          before = before;
          asked = subst (λ (k : ℕ). last_before span k ≡ Some before) cut asked;
          octets = own;
          read = read_back (shelf_of s) v view (before - v.cut) (span.to - before) text own;
        }

    pub unexported : (old new : Option (List ℕ)) (e : ArchiveExportRefusal) → IsOfAsking e → IsNoFault e
        → IsCutIn (shelf_of s) e → WritesUpTo (IsSpanExport (shelf_of s) span) span old new e
        → AreUnexported reads span old new e
    unexported old new (refusal.Query e) asking none cut (inl kept) = (tt, tt, none, inl kept)
    unexported old new (refusal.Query e) asking none cut (inr (text, is, some)) =
        (tt, tt, none, inr (text, exported text is, some))
    unexported old new (refusal.Write failed) asking none cut (text, is, some) =
        (tt, tt, none, (text, exported text is, some))
    unexported old new (refusal.Rolled n) asking none cut (rolled, kept) =
        (tt, (s, v, stands, view, sym (cut ∙ cut_is reads s v stands view), rolled), none, (rolled, kept))
    unexported old new (refusal.Opening e) asking none cut some = absurd asking
    unexported old new (refusal.Folder e) asking none cut some = absurd asking

-- ---- a snapshot of what there is of the archive

module _ (sight directory : ShelfSeen) (is : sight ≡ directory) (s : State)
    (shown : (directory.shelf ≡ shelf_of s) × (directory.honest ≡ true)) where
  pub honest_here : IsTrue sight.honest
  honest_here = ap (λ (d : ShelfSeen). d.honest) is ∙ shown.1

  pub shelf_here : sight.shelf ≡ shelf_of s
  shelf_here = ap (λ (d : ShelfSeen). d.shelf) is ∙ shown.0

  pub viewed_here : (v : View) → IsViewOf (shelf_of s) v → IsViewOf sight.shelf v
  viewed_here v view = subst (λ (shelf : Shelf). IsViewOf shelf v) (sym shelf_here) view

  module _ (reads : ℕ → List ℕ) (stands : StandsFor reads s) (v : View) (view : IsViewOf (shelf_of s) v)
      (span : MessageSpan) (old new : Option (List ℕ)) (r : Result (Unit {0}) ArchiveExportRefusal) where
    pub all_exported : OnOk r (Writes (IsSpanExport sight.shelf span) old new)
        → OnOk r (Writes (IsExportRead reads span) old new)
    all_exported given =
        on_ok_by r (Writes (IsSpanExport sight.shelf span) old new) (Writes (IsExportRead reads span) old new)
        (written_as (IsSpanExport sight.shelf span) (IsExportRead reads span) old new
        (λ text own. exported reads s stands v view span text
        (subst (λ (shelf : Shelf). IsSpanExport shelf span text) shelf_here own))) given

    pub all_unexported : IfErr r IsOfAsking → IfErr r IsNoFault → IfErr r (IsCutIn sight.shelf)
        → IfErr r (WritesUpTo (IsSpanExport sight.shelf span) span old new) → IfErr r (AreUnexported reads span old new)
    all_unexported asking none cut some = by r asking none cut some
      where
        by : (r : Result (Unit {0}) ArchiveExportRefusal) → IfErr r IsOfAsking → IfErr r IsNoFault
            → IfErr r (IsCutIn sight.shelf) → IfErr r (WritesUpTo (IsSpanExport sight.shelf span) span old new)
            → IfErr r (AreUnexported reads span old new)
        by (Ok x) asking none cut some = tt
        by (Err e) asking none cut some =
            unexported reads s stands v view span old new e asking none
            (subst (λ (shelf : Shelf). IsCutIn shelf e) shelf_here cut)
            (subst (λ (shelf : Shelf). WritesUpTo (IsSpanExport shelf span) span old new e) shelf_here some)

-- on every disk
module _ (sight directory : ShelfSeen) (is : sight ≡ directory) (s : State) (shown : directory.shelf ≡ shelf_of s)
    (span : MessageSpan) (old new : Option (List ℕ)) (r : Result (Unit {0}) ArchiveExportRefusal) where
  same_shelf : sight.shelf ≡ shelf_of s
  same_shelf = ap (λ (d : ShelfSeen). d.shelf) is ∙ shown

  pub counted_here : OnOk r (Writes (IsCountedExport (cut_in sight.shelf) (last_in sight.shelf) span) old new)
      → OnOk r (Writes (IsCountedExport (cut_in (shelf_of s)) (last_in (shelf_of s)) span) old new)
  counted_here given =
      subst (λ (shelf : Shelf). OnOk r (Writes (IsCountedExport (cut_in shelf) (last_in shelf) span) old new))
      same_shelf given

  pub ended_here : IfErr r (WritesUpTo (IsCountedExport (cut_in sight.shelf) (last_in sight.shelf) span) span old new)
      → IfErr r (WritesUpTo (IsCountedExport (cut_in (shelf_of s)) (last_in (shelf_of s)) span) span old new)
  ended_here given =
      subst (λ (shelf : Shelf). IfErr r (WritesUpTo (IsCountedExport (cut_in shelf) (last_in shelf) span) span old new))
      same_shelf given

-- of some archive
module _ (cut last : ℕ) (span : MessageSpan) (old new : Option (List ℕ)) (r : Result (Unit {0}) ArchiveExportRefusal)
  where
    counted_of_some : (text : List ℕ) → IsCountedExport cut last span text → IsExportOfSome span text
    counted_of_some text is = (cut, last, is)

    pub some_written : OnOk r (Writes (IsCountedExport cut last span) old new)
        → OnOk r (Writes (IsExportOfSome span) old new)
    some_written given =
        on_ok_by r (Writes (IsCountedExport cut last span) old new) (Writes (IsExportOfSome span) old new)
        (written_as (IsCountedExport cut last span) (IsExportOfSome span) old new counted_of_some) given

    pub some_ended : IfErr r (WritesUpTo (IsCountedExport cut last span) span old new)
        → IfErr r (WritesUpTo (IsExportOfSome span) span old new)
    some_ended given =
        if_err_by r (WritesUpTo (IsCountedExport cut last span) span old new)
        (WritesUpTo (IsExportOfSome span) span old new)
        (λ e. ended_as (IsCountedExport cut last span) (IsExportOfSome span) span old new e counted_of_some) given

-- ---- an archive that isn't opened

module _ (reads : ℕ → List ℕ) (output : Option (List ℕ)) (e : OpenError) (why : IsDeviceOrMemory e ⊎ StandsForNone reads)
  where
    pub unopened_templates : AreUnwritten reads output output (refusal.Opening e)
    unopened_templates = (why, tt, Keeps-refl output)

    pub unopened_messages : (span : MessageSpan) → AreUnexported reads span output output (refusal.Opening e)
    unopened_messages span = (why, tt, tt, Keeps-refl output)

-- ---- an archive in a folder

pub away : (output : Option (List ℕ)) (e : FolderError) (r : Result (Unit {0}) ArchiveExportRefusal)
    → IsErrAnd r (λ x. x ≡ refusal.Folder e) → IsAway output output r
away output e (Ok x) is = absurd is
away output e (Err x) is = (e, ap Err is, Keeps-refl output)

pub answered_both : {X E : Type 0} (r : Result X E) (done : Type 0) (refused : E → Type 0) → OnOk r done → IfErr r refused
    → MatchResult r (λ _. done) refused
answered_both (Ok x) done refused is not = is
answered_both (Err e) done refused is not = not
