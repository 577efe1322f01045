-- After a fault of the device nothing happens any more.
use Rattle.std.proofs.Common.{◌≡◌, ℕ, Bool, true, false, List, [], ◌∷◌, Result, Ok, Err, refl, sym, ◌∙◌, ap, subst}
use Rattle.std.proofs.lemmas.Bool.{false≢true}
use Rattle.std.specs.Prelude.{IsErr}
use Rattle.std.specs.List.{AllByRecursion}
use Rattle.flow_disk.specs.declared.disk.Disk.{Ghosts}
use Rattle.flow_gate.specs.Scan.{texts}
use Rattle.flow_manifest.specs.declared.following.JobKind.{JobKind}
use Rattle.flow_manifest.specs.declared.following.JobKind.TheVariants.{Roll, Merge}
use Rattle.flow_model.specs.State.{State}
use Rattle.flow_archive.specs.declared.event.Answer.{Answer}
use Rattle.flow_archive.specs.declared.event.Answer.TheVariants.{Position, Sealed, Began, Left, Written, Dropped, Retired}
use Rattle.flow_archive.specs.declared.event.Event.{Event}
use Rattle.flow_archive.specs.declared.event.Event.TheVariants.{Append, AppendBatch, Seal, RollBegin, MergeBegin}
use Rattle.flow_archive.specs.declared.event.Event.TheVariants.{RollStep, RollWrite, RollInstall, RollDrop, Retire}
use Rattle.flow_archive.specs.declared.refusal.ArchiveError.{ArchiveError}
use Rattle.flow_archive.specs.declared.refusal.ArchiveError.TheVariants.{Message, OutOfMemory, NumbersSpent, NotEmpty}
use Rattle.flow_archive.specs.declared.refusal.ArchiveError.TheVariants.{Fault, NoRoom, ManifestFull, NothingToSeal}
use Rattle.flow_archive.specs.declared.refusal.ArchiveError.TheVariants.{Closed}
use Rattle.flow_archive.specs.declared.refusal.ArchiveError.TheVariants.{Damaged, SourceFault, RollBusy, NoRoll}
use Rattle.flow_archive.specs.declared.refusal.ArchiveError.TheVariants.{RollCount, RollNotDone, Pinned, NothingToRetire}
use Rattle.flow_archive.specs.Answers.{Answers, AnswersAppend, AnswersSeal, told_as}
use Rattle.flow_archive.specs.JobAnswers.{AnswersBegin, AnswersDrop, AnswersInstall, AnswersRetire, AnswersStep}
use Rattle.flow_archive.specs.JobAnswers.{AnswersWrite}
use Rattle.flow_archive.specs.Runs.{IsRun}
use Rattle.flow_archive.specs.Seen.{Seen}
use Rattle.flow_archive.proofs.Running.{closed_run}
use Rattle.flow_headline.specs.Front.{EndsAtFault}

not_open : {A : Type 0} → true ≡ false → A
not_open is = absurd (false≢true (sym is))

closed_append : (s after : State) (os : List (List ℕ)) (position : Result ℕ ArchiveError)
    → AnswersAppend true s os position after → position ≡ Err Closed
closed_append s after os (Ok position) told = not_open told.0
closed_append s after os (Err Closed) told = refl
closed_append s after os (Err (Message fault)) told = not_open told.0
closed_append s after os (Err NoRoom) told = not_open told.0
closed_append s after os (Err NumbersSpent) told = not_open told.0
closed_append s after os (Err OutOfMemory) told = not_open told.0
closed_append s after os (Err Fault) told = not_open told.0
closed_append s after os (Err NotEmpty) told = absurd told
closed_append s after os (Err (Damaged file at)) told = absurd told
closed_append s after os (Err SourceFault) told = absurd told
closed_append s after os (Err RollBusy) told = absurd told
closed_append s after os (Err NoRoll) told = absurd told
closed_append s after os (Err RollCount) told = absurd told
closed_append s after os (Err RollNotDone) told = absurd told
closed_append s after os (Err Pinned) told = absurd told
closed_append s after os (Err NothingToRetire) told = absurd told
closed_append s after os (Err ManifestFull) told = absurd told
closed_append s after os (Err NothingToSeal) told = absurd told

closed_seal : (honest : Bool) (s after : State) (file : Result ℕ ArchiveError) → AnswersSeal honest true s file after
    → file ≡ Err Closed
closed_seal honest s after (Ok file) told = not_open told.0
closed_seal honest s after (Err Closed) told = refl
closed_seal honest s after (Err NothingToSeal) told = not_open told.0
closed_seal honest s after (Err ManifestFull) told = not_open told.0
closed_seal honest s after (Err NumbersSpent) told = not_open told.0
closed_seal honest s after (Err OutOfMemory) told = not_open told.0
closed_seal honest s after (Err Fault) told = not_open told.0
closed_seal honest s after (Err (Message fault)) told = absurd told
closed_seal honest s after (Err NoRoom) told = absurd told
closed_seal honest s after (Err NotEmpty) told = absurd told
closed_seal honest s after (Err (Damaged file at)) told = absurd told
closed_seal honest s after (Err SourceFault) told = absurd told
closed_seal honest s after (Err RollBusy) told = absurd told
closed_seal honest s after (Err NoRoll) told = absurd told
closed_seal honest s after (Err RollCount) told = absurd told
closed_seal honest s after (Err RollNotDone) told = absurd told
closed_seal honest s after (Err Pinned) told = absurd told
closed_seal honest s after (Err NothingToRetire) told = absurd told

closed_begin : (s after : State) (kind : JobKind) (count : ℕ) (done : Result (Unit {0}) ArchiveError)
    → AnswersBegin true s kind count done after → done ≡ Err Closed
closed_begin s after kind count (Ok x) told = not_open told.0
closed_begin s after kind count (Err (Message fault)) told = absurd told
closed_begin s after kind count (Err OutOfMemory) told = absurd told
closed_begin s after kind count (Err NumbersSpent) told = absurd told
closed_begin s after kind count (Err NotEmpty) told = absurd told
closed_begin s after kind count (Err Fault) told = absurd told
closed_begin s after kind count (Err NoRoom) told = absurd told
closed_begin s after kind count (Err ManifestFull) told = absurd told
closed_begin s after kind count (Err NothingToSeal) told = absurd told
closed_begin s after kind count (Err Closed) told = refl
closed_begin s after kind count (Err (Damaged file at)) told = absurd told
closed_begin s after kind count (Err SourceFault) told = absurd told
closed_begin s after kind count (Err RollBusy) told = not_open told.0
closed_begin s after kind count (Err NoRoll) told = absurd told
closed_begin s after kind count (Err RollCount) told = not_open told.0
closed_begin s after kind count (Err RollNotDone) told = absurd told
closed_begin s after kind count (Err Pinned) told = absurd told
closed_begin s after kind count (Err NothingToRetire) told = absurd told

closed_roll_step : (honest : Bool) (s after : State) (left : Result ℕ ArchiveError) → AnswersStep honest true s left after
    → left ≡ Err Closed
closed_roll_step honest s after (Ok left) told = not_open told.0
closed_roll_step honest s after (Err (Message fault)) told = absurd told
closed_roll_step honest s after (Err OutOfMemory) told = not_open told.0
closed_roll_step honest s after (Err NumbersSpent) told = absurd told
closed_roll_step honest s after (Err NotEmpty) told = absurd told
closed_roll_step honest s after (Err Fault) told = absurd told
closed_roll_step honest s after (Err NoRoom) told = absurd told
closed_roll_step honest s after (Err ManifestFull) told = absurd told
closed_roll_step honest s after (Err NothingToSeal) told = absurd told
closed_roll_step honest s after (Err Closed) told = refl
closed_roll_step honest s after (Err (Damaged file at)) told = not_open told.0
closed_roll_step honest s after (Err SourceFault) told = not_open told.0
closed_roll_step honest s after (Err RollBusy) told = absurd told
closed_roll_step honest s after (Err NoRoll) told = not_open told.0
closed_roll_step honest s after (Err RollCount) told = absurd told
closed_roll_step honest s after (Err RollNotDone) told = absurd told
closed_roll_step honest s after (Err Pinned) told = absurd told
closed_roll_step honest s after (Err NothingToRetire) told = absurd told

closed_write : (honest : Bool) (s after : State) (done : Result (Unit {0}) ArchiveError)
    → AnswersWrite honest true s done after → done ≡ Err Closed
closed_write honest s after (Ok x) told = not_open told.0
closed_write honest s after (Err (Message fault)) told = absurd told
closed_write honest s after (Err OutOfMemory) told = not_open told.0
closed_write honest s after (Err NumbersSpent) told = not_open told.0
closed_write honest s after (Err NotEmpty) told = absurd told
closed_write honest s after (Err Fault) told = not_open told.0
closed_write honest s after (Err NoRoom) told = absurd told
closed_write honest s after (Err ManifestFull) told = absurd told
closed_write honest s after (Err NothingToSeal) told = absurd told
closed_write honest s after (Err Closed) told = refl
closed_write honest s after (Err (Damaged file at)) told = absurd told
closed_write honest s after (Err SourceFault) told = absurd told
closed_write honest s after (Err RollBusy) told = absurd told
closed_write honest s after (Err NoRoll) told = not_open told.0
closed_write honest s after (Err RollCount) told = absurd told
closed_write honest s after (Err RollNotDone) told = not_open told.0
closed_write honest s after (Err Pinned) told = absurd told
closed_write honest s after (Err NothingToRetire) told = absurd told

closed_install : (honest : Bool) (s after : State) (a : Result Answer ArchiveError) → AnswersInstall honest true s a after
    → a ≡ Err Closed
closed_install honest s after (Ok answer) told = not_open told.0
closed_install honest s after (Err (Message fault)) told = absurd told
closed_install honest s after (Err OutOfMemory) told = not_open told.0
closed_install honest s after (Err NumbersSpent) told = absurd told
closed_install honest s after (Err NotEmpty) told = absurd told
closed_install honest s after (Err Fault) told = not_open told.0
closed_install honest s after (Err NoRoom) told = absurd told
closed_install honest s after (Err ManifestFull) told = absurd told
closed_install honest s after (Err NothingToSeal) told = absurd told
closed_install honest s after (Err Closed) told = refl
closed_install honest s after (Err (Damaged file at)) told = absurd told
closed_install honest s after (Err SourceFault) told = absurd told
closed_install honest s after (Err RollBusy) told = absurd told
closed_install honest s after (Err NoRoll) told = not_open told.0
closed_install honest s after (Err RollCount) told = absurd told
closed_install honest s after (Err RollNotDone) told = not_open told.0
closed_install honest s after (Err Pinned) told = absurd told
closed_install honest s after (Err NothingToRetire) told = absurd told

closed_drop : (s after : State) (done : Result (Unit {0}) ArchiveError) → AnswersDrop true s done after
    → done ≡ Err Closed
closed_drop s after (Ok x) told = not_open told.0
closed_drop s after (Err (Message fault)) told = absurd told
closed_drop s after (Err OutOfMemory) told = absurd told
closed_drop s after (Err NumbersSpent) told = absurd told
closed_drop s after (Err NotEmpty) told = absurd told
closed_drop s after (Err Fault) told = not_open told.0
closed_drop s after (Err NoRoom) told = absurd told
closed_drop s after (Err ManifestFull) told = absurd told
closed_drop s after (Err NothingToSeal) told = absurd told
closed_drop s after (Err Closed) told = refl
closed_drop s after (Err (Damaged file at)) told = absurd told
closed_drop s after (Err SourceFault) told = absurd told
closed_drop s after (Err RollBusy) told = absurd told
closed_drop s after (Err NoRoll) told = not_open told.0
closed_drop s after (Err RollCount) told = absurd told
closed_drop s after (Err RollNotDone) told = absurd told
closed_drop s after (Err Pinned) told = absurd told
closed_drop s after (Err NothingToRetire) told = absurd told

closed_retire : (s after : State) (file : Result ℕ ArchiveError) → AnswersRetire true s file after
    → file ≡ Err Closed
closed_retire s after (Ok file) told = not_open told.0
closed_retire s after (Err (Message fault)) told = absurd told
closed_retire s after (Err OutOfMemory) told = absurd told
closed_retire s after (Err NumbersSpent) told = absurd told
closed_retire s after (Err NotEmpty) told = absurd told
closed_retire s after (Err Fault) told = not_open told.0
closed_retire s after (Err NoRoom) told = absurd told
closed_retire s after (Err ManifestFull) told = absurd told
closed_retire s after (Err NothingToSeal) told = absurd told
closed_retire s after (Err Closed) told = refl
closed_retire s after (Err (Damaged n at)) told = absurd told
closed_retire s after (Err SourceFault) told = absurd told
closed_retire s after (Err RollBusy) told = absurd told
closed_retire s after (Err NoRoll) told = absurd told
closed_retire s after (Err RollCount) told = absurd told
closed_retire s after (Err RollNotDone) told = absurd told
closed_retire s after (Err Pinned) told = not_open told.0
closed_retire s after (Err NothingToRetire) told = not_open told.0

closed_answer : (honest : Bool) (s after : State) (e : Event) (a : Result Answer ArchiveError)
    → Answers honest true s e a after → a ≡ Err Closed
closed_answer honest s after (Append message) a (position, is, told) =
    is ∙ ap (told_as Position) (closed_append s after (message.items ∷ []) position told)
closed_answer honest s after (AppendBatch messages) a (position, is, told) =
    is ∙ ap (told_as Position) (closed_append s after (texts messages.items) position told)
closed_answer honest s after Seal a (file, is, told) =
    is ∙ ap (told_as Sealed) (closed_seal honest s after file told)
closed_answer honest s after (RollBegin count) a (done, is, told) =
    is ∙ ap (told_as (λ _. Began)) (closed_begin s after Roll count done told)
closed_answer honest s after (MergeBegin count) a (done, is, told) =
    is ∙ ap (told_as (λ _. Began)) (closed_begin s after Merge count done told)
closed_answer honest s after RollStep a (left, is, told) =
    is ∙ ap (told_as Left) (closed_roll_step honest s after left told)
closed_answer honest s after RollWrite a (done, is, told) =
    is ∙ ap (told_as (λ _. Written)) (closed_write honest s after done told)
closed_answer honest s after RollInstall a told = closed_install honest s after a told
closed_answer honest s after RollDrop a (done, is, told) =
    is ∙ ap (told_as (λ _. Dropped)) (closed_drop s after done told)
closed_answer honest s after Retire a (file, is, told) =
    is ∙ ap (told_as Retired) (closed_retire s after file told)

pub all_refused : (answers : List (Result Answer ArchiveError))
    → AllByRecursion (λ (a : Result Answer ArchiveError). a ≡ Err Closed) answers
    → AllByRecursion (λ (a : Result Answer ArchiveError). IsErr a) answers
all_refused [] closed = tt
all_refused (a ∷ answers) closed =
    (subst (λ (r : Result Answer ArchiveError). IsErr r) (sym closed.0) refl, all_refused answers closed.1)

module _ {D S X : Type 0} (g : Ghosts D S X) where
  pub closed_answers : (old : Seen D) (events : List Event) (answers : List (Result Answer ArchiveError)) (new : Seen D)
      → IsRun g old events answers new → old.closed ≡ true
      → AllByRecursion (λ (a : Result Answer ArchiveError). a ≡ Err Closed) answers
  closed_answers old [] [] new run closed = tt
  closed_answers old [] (b ∷ answers) new run closed = absurd run
  closed_answers old (e ∷ events) [] new run closed = absurd run
  closed_answers old (e ∷ events) (a ∷ answers) new run closed =
      let same : run.0 ≡ old =
      closed_run g old (e ∷ []) (a ∷ []) run.0 (run.0, run.1, run.2, refl) closed in (
        closed_answer (g.honest old.disk) old.state run.0.state e a
            (subst (λ (b : Bool). Answers (g.honest old.disk) b old.state e a run.0.state) closed run.1),
        closed_answers run.0 events answers new run.3 (ap (λ (s : Seen D). s.closed) same ∙ closed),
      )

  pub ends_at_fault : (old : Seen D) (events : List Event) (answers : List (Result Answer ArchiveError)) (new : Seen D)
      → IsRun g old events answers new → EndsAtFault answers
  ends_at_fault old [] [] new run = tt
  ends_at_fault old [] (b ∷ answers) new run = absurd run
  ends_at_fault old (e ∷ events) [] new run = absurd run
  ends_at_fault old (e ∷ events) (a ∷ answers) new run = (
    (λ is. closed_answers run.0 events answers new run.3 (run.2.fault is).1),
    ends_at_fault run.0 events answers new run.3,
  )
