-- What an event makes of a history.
use Rattle.std.proofs.Common.{◌≡◌, ◌≢◌, ℕ, ◌≤◌, Bool, true, List, [], ◌∷◌, ◌++◌, length, take, drop, refl, sym}
use Rattle.std.proofs.Common.{Option, Some, None}
use Rattle.std.proofs.Common.{◌∙◌, ap, subst, arith, append-nil, append_assoc, Result, Ok, Err}
use Rattle.std.proofs.lemmas.List.{map-append, take-append-drop}
use Rattle.flow_codec.specs.Templates.{AllTemplates}
use Rattle.flow_gate.specs.Scan.{texts}
use Rattle.flow_manifest.specs.declared.following.JobKind.{JobKind}
use Rattle.flow_manifest.specs.declared.following.JobKind.TheVariants.{Roll, Merge}
use Rattle.flow_manifest.specs.Following.{front_of, messages_of, sources_of}
use Rattle.flow_manifest.specs.Manifest.{IsValidManifest}
use Rattle.flow_measure.specs.History.{Accepted, AreAcceptedFrom, History, templates_from, templates_of}
use Rattle.flow_measure.specs.Query.{totals_between, totals_in_view}
use Rattle.flow_measure.specs.View.{View, view_of}
use Rattle.flow_measure.proofs.Histories.{read_again}
use Rattle.flow_measure.proofs.ViewLaws.{totals_same}
use Rattle.flow_rolled.specs.Rollup.{IsRollup}
use Rattle.flow_segment.specs.Carry.{Carry, octets_of, prefix_of}
use Rattle.flow_model.specs.Changes.{counts_of}
use Rattle.flow_model.specs.Shelf.{Shelf, cut_of, second_of}
use Rattle.flow_model.specs.Views.{IsViewOf}
use Rattle.flow_model.proofs.Accepting.{templates_then}
use Rattle.flow_model.proofs.Following.{all_counted}
use Rattle.flow_model.specs.Jobs.{history_made, replaced, replaced_parts, table_made, width_made}
use Rattle.flow_model.specs.State.{Job, Part, StagedFile, State, appended, after_seal, reopened}
use Rattle.flow_model.specs.Chain.{HandsOn, IsSegment}
use Rattle.flow_model.specs.Shelved.{HasHistory, shelf_of}
use Rattle.flow_model.specs.Standing.{PartsStand, StandsFor}
use Rattle.flow_model.proofs.History.{append_follows, seal_follows}
use Rattle.flow_model.proofs.ReplacedHistory.{history_replaced, sources_hold}
use Rattle.flow_model.proofs.Viewing.{handed_on, one_view_of}
use Rattle.flow_archive.specs.declared.event.Answer.{Answer}
use Rattle.flow_archive.specs.declared.event.Answer.TheVariants.{Position, Sealed}
use Rattle.flow_archive.specs.declared.event.Event.{Event}
use Rattle.flow_archive.specs.declared.event.Event.TheVariants.{Append, AppendBatch, Seal, RollBegin, MergeBegin}
use Rattle.flow_archive.specs.declared.event.Event.TheVariants.{RollStep, RollWrite, RollInstall, RollDrop, Retire}
use Rattle.flow_archive.specs.declared.refusal.ArchiveError.{ArchiveError}
use Rattle.flow_archive.specs.declared.refusal.ArchiveError.TheVariants.{Message, OutOfMemory, NumbersSpent, NotEmpty}
use Rattle.flow_archive.specs.declared.refusal.ArchiveError.TheVariants.{Fault, NoRoom, ManifestFull, NothingToSeal}
use Rattle.flow_archive.specs.declared.refusal.ArchiveError.TheVariants.{Closed}
use Rattle.flow_archive.specs.declared.refusal.ArchiveError.TheVariants.{Damaged, SourceFault, RollBusy, NoRoll}
use Rattle.flow_archive.specs.declared.refusal.ArchiveError.TheVariants.{RollCount, RollNotDone, Pinned, NothingToRetire}
use Rattle.flow_archive.specs.Answers.{Answers, AnswersAppend, AnswersSeal, AreAccepted, IsSealed, MayAppend, MaySeal}
use Rattle.flow_archive.specs.Answers.{Takes, told_as}
use Rattle.flow_archive.specs.JobAnswers.{begun, dropped, stepped, with_staged, IsInstalled, IsStagedIn}
use Rattle.flow_archive.specs.Runs.{Leads}
use Rattle.flow_headline.specs.Front.{HasMore, added_by, grown, event_messages}

-- ---- histories

-- the history of this state is another with these messages after it
pub record IsGrown (h : History) (messages : List (List ℕ)) (s : State) : Type 0 where
  pub more : List Accepted
  pub octets : octets_of more ≡ messages
  pub history : HasHistory s (grown h more s)

-- with the cuts that the files of a state have
abbrev cut_as : State → History → History
cut_as s g = record g { second = second_of (shelf_of s); cut = cut_of (shelf_of s) }

-- which are those of each history that it has
at_its_cuts : (s : State) (g : History) → HasHistory s g → g ≡ cut_as s g
at_its_cuts s g has = ap (λ (n : ℕ). let x : History = record g { second = n } in x) (has.view).second
    ∙ ap (λ (n : ℕ). let x : History = record g { second = second_of (shelf_of s); cut = n } in x) (has.view).cut

-- messages more, and the cuts as they were
grown_by : (h : History) (more : List Accepted) (messages : List (List ℕ)) (s : State) → octets_of more ≡ messages
    → HasHistory s (record h { all = h.all ++ more }) → IsGrown h messages s
grown_by h more messages s octets has = record {
  more = more;
  octets = octets;
  history = subst (HasHistory s) (at_its_cuts s (record h { all = h.all ++ more }) has) has;
}

-- no messages more, wherever the cuts are now
kept_all : (s : State) (h g : History) → cut_as s g ≡ cut_as s h → HasHistory s g → IsGrown h [] s
kept_all s h g same has =
    let here : HasHistory s (cut_as s h) = subst (HasHistory s) (at_its_cuts s g has ∙ same) has in
    record {
      more = [];
      octets = refl;
      history = subst (λ (xs : List Accepted). HasHistory s (record (cut_as s h) { all = xs }))
          (sym (append-nil h.all)) here;
    }

pub same_history : (s next : State) (h : History) → next ≡ s → HasHistory s h → IsGrown h [] next
same_history s next h is has = kept_all next h h refl (subst (λ (t : State). HasHistory t h) (sym is) has)

pub more_then : (h : History) (xs ys : List (List ℕ)) (s next : State) → IsGrown h xs s
    → ((g : History) → HasHistory s g → IsGrown g ys next) → IsGrown h (xs ++ ys) next
more_then h xs ys s next first then =
    let second = then (grown h first.more s) first.history in
    record {
      more = first.more ++ second.more;
      octets = map-append (λ (a : Accepted). a.octets) first.more second.more
          ∙ ap (λ (os : List (List ℕ)). os ++ octets_of second.more) first.octets
          ∙ ap (λ (os : List (List ℕ)). xs ++ os) second.octets;
      history = subst (λ (all : List Accepted). HasHistory next (record (cut_as next h) { all = all }))
          (append_assoc h.all first.more second.more) second.history;
    }

-- what is left of a state on a disk has the same files
left_has : (s : State) (h : History) → HasHistory s h → HasHistory (reopened s) h
left_has s h has = record { history = has.history; view = has.view }

-- whatever view is read of a state
totals_are : (s : State) (h : History) (v : View) (from to : ℕ) → IsValidManifest s.manifest → HasHistory s h
    → IsViewOf (shelf_of s) v → totals_in_view from to v ≡ totals_between from to h
totals_are s h v from to valid has is =
    ap (totals_in_view from to) (one_view_of s v (view_of h (counts_of (shelf_of s))) valid is has.view)
    ∙ totals_same h (counts_of (shelf_of s)) has.history (all_counted (shelf_of s) h has.history has.view) from to

pub has_more : (h : History) (messages : List (List ℕ)) (s : State) → IsValidManifest s.manifest
    → IsGrown h messages s → HasMore h messages (reopened s)
has_more h messages s valid is_grown =
    let left = left_has s (grown h is_grown.more s) is_grown.history in
    record {
      more = is_grown.more;
      octets = is_grown.octets;
      history = left;
      totals = λ v from to is. totals_are (reopened s) (grown h is_grown.more s) v from to valid left is;
    }

-- ---- a state that an image represents

pub record IsSound (s : State) : Type 0 where
  pub valid : IsValidManifest s.manifest
  pub carry : Carry
  pub hands : HandsOn s carry
  pub image : ℕ → List ℕ
  pub stand : PartsStand image (front_of s.manifest) s.parts

pub sound_of : (image : ℕ → List ℕ) (s : State) → StandsFor image (reopened s) → IsSound s
sound_of image s stands =
    let chained = stands.files.chained in
    record {
      valid = subst IsValidManifest stands.force.1 stands.force.2.current.body.valid;
      carry = chained.0;
      hands = record { sealed = chained.1.sealed; parts = chained.1.parts; active = chained.1.active };
      image = image;
      stand = stands.files.parts;
    }

hands_as : (s : State) (c own : Carry) → HandsOn s c → IsSegment s.active own → HandsOn s own
hands_as s c own hands segment = record {
  sealed = hands.sealed;
  parts = hands.parts;
  active = (own, hands.active.1, segment, refl);
}

-- ---- an append

behind_all : (h : History) → templates_from (templates_of (take h.cut h.all)) (drop h.cut h.all) ≡ templates_of h.all
behind_all h = sym (templates_then [] (take h.cut h.all) (drop h.cut h.all))
    ∙ ap templates_of (take-append-drop h.cut h.all)

append_adds : (s next : State) (os : List (List ℕ)) (h : History) → IsSound s → AreAccepted s os
    → next ≡ appended s os → HasHistory s h → IsGrown h os next
append_adds s next os h sound (own, new, segment, taken) is has =
    let more = taken.0 in
    let hands = hands_as s sound.carry own sound.hands segment in
    let behind : own.templates ≡ templates_of h.all =
    sym (handed_on s own (view_of h (counts_of (shelf_of s))) sound.valid hands has.view) ∙ behind_all h in
    let accepted : AreAcceptedFrom (templates_of h.all) more =
    subst (λ (t : AllTemplates). AreAcceptedFrom t more) behind taken.2 in
    let has_all : HasHistory (appended s (octets_of more)) (record h { all = h.all ++ more }) =
    subst (λ (xs : List Accepted). HasHistory (appended s (octets_of more)) (record h { all = h.all ++ xs }))
    (read_again (templates_of h.all) more accepted)
    (append_follows s own more h sound.valid hands taken.2 has) in
    grown_by h more os next taken.1 (subst (λ (t : State). HasHistory t (record h { all = h.all ++ more }))
    (ap (λ (x : List (List ℕ)). appended s x) taken.1 ∙ sym is) has_all)

-- ---- a seal

some_there : (xs : List (List ℕ)) → xs ≢ [] → 1 ≤ length xs
some_there [] some = absurd (some refl)
some_there (x ∷ xs) some = omega arith

seal_adds : (s next : State) (h : History) → IsSound s → MaySeal s → IsSealed true s next → HasHistory s h
    → IsGrown h [] next
seal_adds s next h sound may (own, sealed, segment, same, is) has =
    let hands = hands_as s sound.carry own sound.hands segment in
    let moved : next ≡ after_seal s (prefix_of own) =
    is ∙ ap (λ (p : Part). record (after_seal s (prefix_of own)) { parts = s.parts ++ p ∷ [] }) (same refl) in
    let followed = seal_follows s own h sound.valid hands (some_there s.active.messages may.some) has in
    same_history next next h refl (subst (λ (t : State). HasHistory t h) (sym moved) followed)

-- ---- an install

-- where the files are the same, whatever is under way
same_files : (s other next : State) (h : History) → shelf_of other ≡ shelf_of s → next ≡ other → HasHistory s h
    → IsGrown h [] next
same_files s other next h same is has =
    same_history next next h refl (record {
      history = has.history;
      view = subst (λ (x : Shelf). IsViewOf x (view_of h (counts_of x))) (sym (ap shelf_of is ∙ same)) has.view;
    })

written_files : (s next : State) (job : Job) (staged : Option StagedFile) (h : History)
    → IsStagedIn true s job staged next → HasHistory s h → IsGrown h [] next
written_files s next job (Some staged) h is has = same_history s next h is has
written_files s next job None h (numbers, (octets, made, is)) has =
    same_files s (with_staged s job octets) next h refl is has

cuts_alone : (kind : JobKind) (n : ℕ) (s : State) (h : History) → cut_as s (history_made kind n h) ≡ cut_as s h
cuts_alone Roll n s h = refl
cuts_alone Merge n s h = refl

install_adds : (s next : State) (h : History) → IsSound s → IsInstalled true s next → HasHistory s h
    → IsGrown h [] next
install_adds s next h sound (job, there, (staged, octets, made, sources, honest, is)) has =
    let means = (honest refl).0 in
    let same : next ≡ replaced s job.kind job.sources staged =
    is ∙ ap (λ (os : List ℕ). record (replaced s job.kind job.sources staged) {
      parts = replaced_parts job.kind job.sources os s.manifest.entries s.parts;
    }) (honest refl).1 in
    let count = messages_of (sources_of job.kind job.sources s.manifest.entries) in
    let table = sources_hold s sound.carry h sound.valid sound.hands sound.image sound.stand has job.kind job.sources
    sources.1 means.0 means.2 in
    let rollup : IsRollup (width_made job.kind s.manifest) staged.octets (table_made job.kind s.manifest count h) =
    subst (IsRollup (width_made job.kind s.manifest) staged.octets) table means.1 in
    let followed = history_replaced s sound.carry h sound.valid sound.hands sound.image sound.stand has job.kind
    job.sources staged sources.1 rollup in
    kept_all next h (history_made job.kind count h) (cuts_alone job.kind count next h)
    (subst (λ (t : State). HasHistory t (history_made job.kind count h)) (sym same) followed)

-- ---- any event

-- an event with this answer counts as taken
abbrev IsTaken : {T : Type 0} → Result T ArchiveError → Type 0
IsTaken (Ok answer) = Unit {0}
IsTaken (Err Fault) = Unit {0}
IsTaken (Err (Message fault)) = ⊥
IsTaken (Err OutOfMemory) = ⊥
IsTaken (Err NumbersSpent) = ⊥
IsTaken (Err NotEmpty) = ⊥
IsTaken (Err (Damaged file at)) = ⊥
IsTaken (Err SourceFault) = ⊥
IsTaken (Err RollBusy) = ⊥
IsTaken (Err NoRoll) = ⊥
IsTaken (Err RollCount) = ⊥
IsTaken (Err RollNotDone) = ⊥
IsTaken (Err Pinned) = ⊥
IsTaken (Err NothingToRetire) = ⊥
IsTaken (Err NoRoom) = ⊥
IsTaken (Err ManifestFull) = ⊥
IsTaken (Err NothingToSeal) = ⊥
IsTaken (Err Closed) = ⊥

told_taken : (f : ℕ → Answer) (number : Result ℕ ArchiveError) → IsTaken (told_as f number) → IsTaken number
told_taken f (Ok n) taken = tt
told_taken f (Err e) taken = taken

may_append : (closed : Bool) (s after : State) (os : List (List ℕ)) (position : Result ℕ ArchiveError)
    → IsTaken position → AnswersAppend closed s os position after → MayAppend s os
may_append closed s after os (Ok position) taken told = told.1
may_append closed s after os (Err Fault) taken told = told.1
may_append closed s after os (Err (Message fault)) taken told = absurd taken
may_append closed s after os (Err OutOfMemory) taken told = absurd taken
may_append closed s after os (Err NumbersSpent) taken told = absurd taken
may_append closed s after os (Err NotEmpty) taken told = absurd taken
may_append closed s after os (Err (Damaged file at)) taken told = absurd taken
may_append closed s after os (Err SourceFault) taken told = absurd taken
may_append closed s after os (Err RollBusy) taken told = absurd taken
may_append closed s after os (Err NoRoll) taken told = absurd taken
may_append closed s after os (Err RollCount) taken told = absurd taken
may_append closed s after os (Err RollNotDone) taken told = absurd taken
may_append closed s after os (Err Pinned) taken told = absurd taken
may_append closed s after os (Err NothingToRetire) taken told = absurd taken
may_append closed s after os (Err NoRoom) taken told = absurd taken
may_append closed s after os (Err ManifestFull) taken told = absurd taken
may_append closed s after os (Err NothingToSeal) taken told = absurd taken
may_append closed s after os (Err Closed) taken told = absurd taken

may_seal : (honest closed : Bool) (s after : State) (file : Result ℕ ArchiveError) → IsTaken file
    → AnswersSeal honest closed s file after → MaySeal s
may_seal honest closed s after (Ok file) taken told = told.1
may_seal honest closed s after (Err Fault) taken told = told.1
may_seal honest closed s after (Err (Message fault)) taken told = absurd taken
may_seal honest closed s after (Err OutOfMemory) taken told = absurd taken
may_seal honest closed s after (Err NumbersSpent) taken told = absurd taken
may_seal honest closed s after (Err NotEmpty) taken told = absurd taken
may_seal honest closed s after (Err (Damaged file at)) taken told = absurd taken
may_seal honest closed s after (Err SourceFault) taken told = absurd taken
may_seal honest closed s after (Err RollBusy) taken told = absurd taken
may_seal honest closed s after (Err NoRoll) taken told = absurd taken
may_seal honest closed s after (Err RollCount) taken told = absurd taken
may_seal honest closed s after (Err RollNotDone) taken told = absurd taken
may_seal honest closed s after (Err Pinned) taken told = absurd taken
may_seal honest closed s after (Err NothingToRetire) taken told = absurd taken
may_seal honest closed s after (Err NoRoom) taken told = absurd taken
may_seal honest closed s after (Err ManifestFull) taken told = absurd taken
may_seal honest closed s after (Err NothingToSeal) taken told = absurd taken
may_seal honest closed s after (Err Closed) taken told = absurd taken

taken_adds : (honest closed : Bool) (s next after : State) (e : Event) (a : Result Answer ArchiveError) (h : History)
    → IsSound s → IsTaken a → Answers honest closed s e a after → Takes true s e next → HasHistory s h
    → IsGrown h (event_messages e) next
taken_adds honest closed s next after (Append message) a h sound taken (position, is, told) takes has =
    let may = may_append closed s after (message.items ∷ []) position
    (told_taken Position position (subst IsTaken is taken)) told in
    append_adds s next (message.items ∷ []) h sound may.accepted takes has
taken_adds honest closed s next after (AppendBatch messages) a h sound taken (position, is, told) takes has =
    let may = may_append closed s after (texts messages.items) position
    (told_taken Position position (subst IsTaken is taken)) told in
    append_adds s next (texts messages.items) h sound may.accepted takes has
taken_adds honest closed s next after Seal a h sound taken (file, is, told) takes has =
    let may = may_seal honest closed s after file (told_taken Sealed file (subst IsTaken is taken)) told in
    seal_adds s next h sound may takes has
taken_adds honest closed s next after (RollBegin count) a h sound taken told is has =
    same_files s (begun s Roll count) next h refl is has
taken_adds honest closed s next after (MergeBegin count) a h sound taken told is has =
    same_files s (begun s Merge count) next h refl is has
taken_adds honest closed s next after RollStep a h sound taken told (job, there, is) has =
    same_files s (record s { job = Some (stepped job) }) next h refl is has
taken_adds honest closed s next after RollWrite a h sound taken told (job, there, (none, is)) has =
    written_files s next job job.staged h is has
taken_adds honest closed s next after RollInstall a h sound taken told takes has = install_adds s next h sound takes has
taken_adds honest closed s next after RollDrop a h sound taken told is has =
    same_files s (dropped s) next h refl is has
taken_adds honest closed s next after Retire a h sound taken told (file, (others, there, is)) has =
    same_files s (record s { waiting = others }) next h refl is has

pub event_adds : (honest closed : Bool) (s next after : State) (e : Event) (a : Result Answer ArchiveError)
    (h : History) → IsSound s → Answers honest closed s e a after → Leads s e a next → HasHistory s h
    → IsGrown h (added_by e a) next
event_adds honest closed s next after e (Ok answer) h sound told leads has =
    taken_adds honest closed s next after e (Ok answer) h sound tt told leads has
event_adds honest closed s next after e (Err Fault) h sound told leads has =
    taken_adds honest closed s next after e (Err Fault) h sound tt told leads has
event_adds honest closed s next after e (Err (Message fault)) h sound told leads has = same_history s next h leads has
event_adds honest closed s next after e (Err OutOfMemory) h sound told leads has = same_history s next h leads has
event_adds honest closed s next after e (Err NumbersSpent) h sound told leads has = same_history s next h leads has
event_adds honest closed s next after e (Err NotEmpty) h sound told leads has = same_history s next h leads has
event_adds honest closed s next after e (Err (Damaged file at)) h sound told leads has = same_history s next h leads has
event_adds honest closed s next after e (Err SourceFault) h sound told leads has = same_history s next h leads has
event_adds honest closed s next after e (Err RollBusy) h sound told leads has = same_history s next h leads has
event_adds honest closed s next after e (Err NoRoll) h sound told leads has = same_history s next h leads has
event_adds honest closed s next after e (Err RollCount) h sound told leads has = same_history s next h leads has
event_adds honest closed s next after e (Err RollNotDone) h sound told leads has = same_history s next h leads has
event_adds honest closed s next after e (Err Pinned) h sound told leads has = same_history s next h leads has
event_adds honest closed s next after e (Err NothingToRetire) h sound told leads has = same_history s next h leads has
event_adds honest closed s next after e (Err NoRoom) h sound told leads has = same_history s next h leads has
event_adds honest closed s next after e (Err ManifestFull) h sound told leads has = same_history s next h leads has
event_adds honest closed s next after e (Err NothingToSeal) h sound told leads has = same_history s next h leads has
event_adds honest closed s next after e (Err Closed) h sound told leads has = same_history s next h leads has
