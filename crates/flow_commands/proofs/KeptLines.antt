-- Lines of the flows of kept messages, taken from one file after the other.
use Rattle.std.proofs.Common.{◌≡◌, ℕ, ◌+◌, ◌<◌, List, [], ◌++◌, Option, Some, length, take}
use Rattle.std.proofs.Common.{◌≢◌, refl, sym, ap, subst, arith, inl, inr}
use Rattle.std.specs.Io.KnownBytes.{Appends}
use Rattle.std.proofs.KnownBytes.{Appends-nil, Keeps-refl}
use Rattle.std.specs.Prelude.{slice_get, true, IfErr, IsTrue, OnOk, Result, Ok, Err}
use Rattle.std.specs.List.{flat_map}
use Rattle.std.proofs.lemmas.List.Concat.{flat_map-append}
use Rattle.std.proofs.lemmas.List.Elements.{All-append, All-nil}
use Rattle.flow_measure.specs.declared.flow.Flow.{Flow}
use Rattle.flow_snapshot.specs.Found.{AppendsOwnFlows, AreOwnFlows, HaveOwnFlows, KeptFile}
use Rattle.flow_snapshot.proofs.ByFile.{first_flows, flows_at, one_file_more}
use Rattle.flow_report.specs.declared.format.Format.{Format}
use Rattle.flow_report.specs.ArchiveLines.{flow_line, flows_text}
use Rattle.flow_report.specs.Telling.{Tells, TellsFront}
use Rattle.flow_report.specs.Writing.{AppendsFront}
use Rattle.flow_report.proofs.Joining.{ends, ends_cut, stops_more, stops_then, tells_then, with_held}
use Rattle.flow_measure.specs.View.{View}
use Rattle.flow_manifest.specs.declared.error.OpenError.{OpenError}
use Rattle.flow_manifest.specs.declared.error.OpenError.TheVariants as opening
use Rattle.flow_refusals.specs.declared.read_refusal.ReadRefusal.{ReadRefusal}
use Rattle.flow_refusals.specs.declared.read_refusal.ReadRefusal.TheVariants as query
use Rattle.flow_snapshot.specs.ShelfSeen.{ShelfSeen}
use Rattle.flow_snapshot.specs.Answered.{IsNoDamage}
use Rattle.flow_model.specs.Views.{IsViewOf}
use Rattle.flow_commands.specs.declared.archive_refusal.ArchiveRefusal.{ArchiveRefusal}
use Rattle.flow_commands.specs.declared.archive_refusal.ArchiveRefusal.TheVariants as refusal
use Rattle.flow_commands.specs.Archives.{of_opening, of_query}
use Rattle.flow_commands.specs.Asking.{flows_lines, Always, AreFlowsIn, FlowsStartIn, HasFront, HasSome, IsBlameless}
use Rattle.flow_commands.specs.Asking.{IsReadAs}
use Rattle.flow_commands.specs.Asking.{IsUnopened, IsViewRead, IsWhileAsking, TellsLines, TellsUpTo, WritesUpTo}
use Rattle.flow_commands.specs.Plans.{is_in, Span}

abbrev pub lines_of : Format → List Flow → List ℕ
lines_of format flows = flat_map (flow_line format) flows

both_lines : (format : Format) (flows more : List Flow)
    → lines_of format flows ++ lines_of format more ≡ lines_of format (flows ++ more)
both_lines format flows more = sym (flat_map-append (flow_line format) flows more)

-- ---- files, one after the other

-- the lines of the flows of these files that start in a span came
abbrev pub HasTold : Format → ℕ → ℕ → List KeptFile → Option (List ℕ) → List ℕ → Option (List ℕ) → List ℕ → Type 0
HasTold format from to files old held now left =
    (flows : List Flow) × AreOwnFlows from to files flows × Tells old held now left (lines_of format flows)

module _ (format : Format) (from to : ℕ) (files : List KeptFile) (i : ℕ) (all : List Flow)
    (are : AreOwnFlows from to files all) (old now : Option (List ℕ)) (held mid : List ℕ)
    (so_far : HasTold format from to (take i files) old held now mid) where
  -- what came so far is a prefix of all
  pub stopped : TellsFront old held now (lines_of format all)
  stopped =
      let rest = first_flows from to files i so_far.0 all so_far.1 are in
      subst (λ (fs : List Flow). TellsFront old held now (lines_of format fs)) (sym rest.1)
      (subst (TellsFront old held now) (both_lines format so_far.0 rest.0)
      (stops_more old now held (lines_of format so_far.0) (lines_of format rest.0) (mid, so_far.2)))

  module _ (new : Option (List ℕ)) (flows : List Flow) (within : i < length files)
      (given : (file : KeptFile) → slice_get files i ≡ Some file → (own : List Flow) → HaveOwnFlows from to file own
      → flows ≡ own) where
    more_own : AreOwnFlows from to (take (i + 1) files) (so_far.0 ++ flows)
    more_own = one_file_more from to files i so_far.0 (so_far.0 ++ flows) within so_far.1 each
      where
        each : (file : KeptFile) → slice_get files i ≡ Some file
            → AppendsOwnFlows from to file so_far.0 (so_far.0 ++ flows)
        each file there =
            let own = flows_at from to files all i file are there in
            (own.0, own.1, ap (λ (fs : List Flow). so_far.0 ++ fs) (given file there own.0 own.1))

    -- the lines of one file's flows more
    pub one_more : (last : List ℕ) → Tells now mid new last (lines_of format flows)
        → HasTold format from to (take (i + 1) files) old held new last
    one_more last told = (
      so_far.0 ++ flows,
      more_own,
      subst (Tells old held new last) (both_lines format so_far.0 flows)
          (tells_then old now new held mid last (lines_of format so_far.0) (lines_of format flows) so_far.2 told),
    )

    -- a prefix of them
    pub cut_off : TellsFront now mid new (lines_of format flows) → TellsFront old held new (lines_of format all)
    cut_off told =
        let both = so_far.0 ++ flows in
        let rest = first_flows from to files (i + 1) both all more_own are in
        subst (λ (fs : List Flow). TellsFront old held new (lines_of format fs)) (sym rest.1)
        (subst (TellsFront old held new) (both_lines format both rest.0)
        (stops_more old new held (lines_of format both) (lines_of format rest.0)
        (subst (TellsFront old held new) (both_lines format so_far.0 flows)
        (stops_then old now new held mid (lines_of format so_far.0) (lines_of format flows) so_far.2 told))))

-- ---- lines of any flows of a span

pub no_flows_in : (span : Span) → FlowsStartIn span []
no_flows_in span = All-nil (λ (f : Flow). is_in span f.start ≡ true)

both_in : (span : Span) (flows more : List Flow) → FlowsStartIn span flows → FlowsStartIn span more
    → FlowsStartIn span (flows ++ more)
both_in span flows more = All-append (λ (f : Flow). is_in span f.start ≡ true) flows more

pub some_more : (format : Format) (span : Span) (old now new : Option (List ℕ)) (held mid left : List ℕ)
    (more : List Flow) → FlowsStartIn span more → HasSome format span old held now mid
    → Tells now mid new left (lines_of format more) → HasSome format span old held new left
some_more format span old now new held mid left more within (flows, all, told) next = (
  flows ++ more,
  both_in span flows more all within,
  subst (Tells old held new left) (sym (flat_map-append (flow_line format) flows more))
      (tells_then old now new held mid left (lines_of format flows) (lines_of format more) told next),
)

pub some_cut : (format : Format) (span : Span) (old now new : Option (List ℕ)) (held mid : List ℕ) (more : List Flow)
    → FlowsStartIn span more → HasSome format span old held now mid → TellsFront now mid new (lines_of format more)
    → HasFront format span old held new
some_cut format span old now new held mid more within (flows, all, told) next = (
  flows ++ more,
  both_in span flows more all within,
  subst (TellsFront old held new) (sym (flat_map-append (flow_line format) flows more))
      (stops_then old now new held mid (lines_of format flows) (lines_of format more) told next),
)

pub some_stopped : (format : Format) (span : Span) (old now : Option (List ℕ)) (held mid : List ℕ)
    → HasSome format span old held now mid → HasFront format span old held now
some_stopped format span old now held mid (flows, all, told) = (flows, all, (mid, told))

-- ---- with the heading

pub all_ended : (old now new : Option (List ℕ)) (heading left lines : List ℕ) → Tells old heading now left lines
    → Appends now new left → Appends old new (heading ++ lines)
all_ended old now new heading left lines told rest =
    ends old now new left (heading ++ lines) (with_held old now heading left lines told) rest

pub end_cut : (old now new : Option (List ℕ)) (heading left lines : List ℕ) → Tells old heading now left lines
    → AppendsFront now new left → AppendsFront old new (heading ++ lines)
end_cut old now new heading left lines told rest =
    ends_cut old now new left (heading ++ lines) (with_held old now heading left lines told) rest

pub none_alone : (output : Option (List ℕ)) (text : List ℕ) → AppendsFront output output text
none_alone output text = (0, omega arith, Appends-nil output)

-- ---- refusals

pub up_to : (format : Format) (span : Span) (e : ArchiveRefusal) (old new : Option (List ℕ)) (flows : List Flow)
    → FlowsStartIn span flows → IsWhileAsking e → AppendsFront old new (flows_text format flows)
    → WritesUpTo (AreFlowsIn format span) e old new
up_to format span (refusal.Query e) old new flows all asking front = (flows_text format flows, (flows, all, refl), front)
up_to format span (refusal.Write failed) old new flows all asking front =
    (flows_text format flows, (flows, all, refl), front)
up_to format span refusal.OutOfMemory old new flows all asking front =
    (flows_text format flows, (flows, all, refl), front)
up_to format span (refusal.Opening e) old new flows all asking front = absurd asking
up_to format span (refusal.Archive e) old new flows all asking front = absurd asking
up_to format span (refusal.Folder why) old new flows all asking front = absurd asking

told_up_to : (format : Format) (span : Span) (reads : ℕ → List ℕ) (v : View) (e : ArchiveRefusal)
    (old new : Option (List ℕ)) → IsViewRead reads v → IsWhileAsking e
    → IsBlameless e × AppendsFront old new (flows_lines format span v)
    → TellsUpTo (flows_lines format span) Always reads old new e
told_up_to format span reads v (refusal.Query (query.Damaged file at)) old new read asking told = absurd told.0
told_up_to format span reads v (refusal.Query query.Fault) old new read asking told =
    (tt, (flows_lines format span v, (v, read, refl), told.1))
told_up_to format span reads v (refusal.Query query.OutOfMemory) old new read asking told =
    (tt, (flows_lines format span v, (v, read, refl), told.1))
told_up_to format span reads v (refusal.Write failed) old new read asking told =
    (flows_lines format span v, (v, read, refl), told.1)
told_up_to format span reads v refusal.OutOfMemory old new read asking told =
    inr (flows_lines format span v, (v, read, refl), told.1)
told_up_to format span reads v (refusal.Opening e) old new read asking told = absurd asking
told_up_to format span reads v (refusal.Archive e) old new read asking told = absurd asking
told_up_to format span reads v (refusal.Folder why) old new read asking told = absurd asking

asking_is_no_opening : (e : ArchiveRefusal) → IsWhileAsking e → e ≢ refusal.Opening opening.Fault
asking_is_no_opening (refusal.Query e) asking is = absurd (cc)
asking_is_no_opening (refusal.Write failed) asking is = absurd (cc)
asking_is_no_opening refusal.OutOfMemory asking is = absurd (cc)
asking_is_no_opening (refusal.Opening e) asking is = absurd asking
asking_is_no_opening (refusal.Archive e) asking is = absurd asking
asking_is_no_opening (refusal.Folder why) asking is = absurd asking

pub query_asks : (e : ReadRefusal) → IsWhileAsking (of_query e)
query_asks (query.Damaged file at) = tt
query_asks query.Fault = tt
query_asks query.OutOfMemory = tt

pub query_blameless : (e : ReadRefusal) → IsNoDamage e → IsBlameless (of_query e)
query_blameless (query.Damaged file at) is = absurd is
query_blameless query.Fault is = tt
query_blameless query.OutOfMemory is = tt

-- ---- what a command answers

pub lines_told : {A : Type 0} (format : Format) (span : Span) (reads : ℕ → List ℕ) (sight : ShelfSeen) (width : ℕ)
    (r : Result A ArchiveRefusal) (old new : Option (List ℕ)) → IsReadAs reads sight width
    → (IsTrue sight.honest → (v : View) → IsViewOf sight.shelf v
    → OnOk r (Appends old new (flows_lines format span v)))
    → OnOk r (TellsLines (flows_lines format span) reads old new)
lines_told format span reads sight width (Err e) old new is told = tt
lines_told format span reads sight width (Ok x) old new (v, read, (honest, view, wide)) told =
    (flows_lines format span v, (v, read, refl), told honest v view)

pub up_to_told : {A : Type 0} (format : Format) (span : Span) (reads : ℕ → List ℕ) (sight : ShelfSeen) (width : ℕ)
    (r : Result A ArchiveRefusal) (old new : Option (List ℕ)) → IsReadAs reads sight width
    → IfErr r (λ e. IsWhileAsking e × WritesUpTo (AreFlowsIn format span) e old new)
    → (IsTrue sight.honest → (v : View) → IsViewOf sight.shelf v
    → IfErr r (λ e. IsBlameless e × AppendsFront old new (flows_lines format span v)))
    → IfErr r (TellsUpTo (flows_lines format span) Always reads old new)
up_to_told format span reads sight width (Ok x) old new is some cut = tt
up_to_told format span reads sight width (Err e) old new (v, read, (honest, view, wide)) some cut =
    told_up_to format span reads v e old new read some.0 (cut honest v view)

pub written_up_to : {A : Type 0} (format : Format) (span : Span) (r : Result A ArchiveRefusal) (old new : Option (List ℕ))
    → IfErr r (λ e. IsWhileAsking e × WritesUpTo (AreFlowsIn format span) e old new)
    → IfErr r (λ e. WritesUpTo (AreFlowsIn format span) e old new)
written_up_to format span (Ok x) old new some = tt
written_up_to format span (Err e) old new some = some.1

pub no_opening : {A : Type 0} (format : Format) (span : Span) (r : Result A ArchiveRefusal) (old new : Option (List ℕ))
    → IfErr r (λ e. IsWhileAsking e × WritesUpTo (AreFlowsIn format span) e old new)
    → IfErr r (λ e. e ≢ refusal.Opening opening.Fault)
no_opening format span (Ok x) old new some = tt
no_opening format span (Err e) old new some = asking_is_no_opening e some.0

-- nothing was written
pub none_up_to : (format : Format) (span : Span) (output : Option (List ℕ)) (e : ArchiveRefusal)
    → WritesUpTo (AreFlowsIn format span) e output output
none_up_to format span output (refusal.Query e) =
    up_to format span (refusal.Query e) output output [] (no_flows_in span) tt (none_alone output (flows_text format []))
none_up_to format span output (refusal.Write failed) =
    up_to format span (refusal.Write failed) output output [] (no_flows_in span) tt (none_alone output (flows_text format []))
none_up_to format span output refusal.OutOfMemory =
    up_to format span refusal.OutOfMemory output output [] (no_flows_in span) tt (none_alone output (flows_text format []))
none_up_to format span output (refusal.Opening e) = Keeps-refl output
none_up_to format span output (refusal.Archive e) = Keeps-refl output
none_up_to format span output (refusal.Folder why) = Keeps-refl output

pub away_up_to : {A : Type 0} (format : Format) (span : Span) (r : Result A ArchiveRefusal) (output : Option (List ℕ))
    → IfErr r (λ e. WritesUpTo (AreFlowsIn format span) e output output)
away_up_to format span (Ok x) output = tt
away_up_to format span (Err e) output = none_up_to format span output e

-- an archive that isn't opened
pub unopened_up_to : (format : Format) (span : Span) (reads : ℕ → List ℕ) (output : Option (List ℕ)) (e : OpenError)
    → IsUnopened reads e → TellsUpTo (flows_lines format span) Always reads output output (of_opening e)
unopened_up_to format span reads output (opening.Damaged file at) told = (told, Keeps-refl output)
unopened_up_to format span reads output (opening.Format file) told = (told, Keeps-refl output)
unopened_up_to format span reads output (opening.Entries file) told = (told, Keeps-refl output)
unopened_up_to format span reads output (opening.Cut file) told = (told, Keeps-refl output)
unopened_up_to format span reads output opening.NoArchive told = (told, Keeps-refl output)
unopened_up_to format span reads output opening.Fault told = (told, Keeps-refl output)
unopened_up_to format span reads output opening.OutOfMemory told = inl (Keeps-refl output)
