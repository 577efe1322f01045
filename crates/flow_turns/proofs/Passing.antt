-- Answers that stop no job: the event was taken, or it is a removal that can't be made now.
use Rattle.std.proofs.Common.{◌≡◌, ◌∙◌, ℕ, Bool, true, false, IsTrue, List, [], ◌∷◌, Some, None, Result, Ok, Err}
use Rattle.std.proofs.Common.{refl, sym, ap, subst}
use Rattle.std.specs.Prelude.{if◌then◌else◌}
use Rattle.std.specs.List.{AllByRecursion}
use Rattle.std.specs.Result.{IsOk}
use Rattle.flow_manifest.specs.declared.following.JobKind.{JobKind}
use Rattle.flow_manifest.specs.declared.following.JobKind.TheVariants.{Roll, Merge}
use Rattle.flow_model.specs.State.{State}
use Rattle.flow_archive.specs.declared.event.Answer.{Answer}
use Rattle.flow_archive.specs.declared.event.Answer.TheVariants.{Began, Left, Written}
use Rattle.flow_archive.specs.declared.event.Event.{Event}
use Rattle.flow_archive.specs.declared.event.Event.TheVariants.{RollStep, RollWrite, RollInstall}
use Rattle.flow_archive.specs.declared.refusal.ArchiveError.{ArchiveError}
use Rattle.flow_archive.specs.declared.refusal.ArchiveError.TheVariants.{Message, OutOfMemory, NumbersSpent, NotEmpty}
use Rattle.flow_archive.specs.declared.refusal.ArchiveError.TheVariants.{Fault, NoRoom, ManifestFull, NothingToSeal}
use Rattle.flow_archive.specs.declared.refusal.ArchiveError.TheVariants.{Closed}
use Rattle.flow_archive.specs.declared.refusal.ArchiveError.TheVariants.{Damaged, SourceFault, RollBusy, NoRoll}
use Rattle.flow_archive.specs.declared.refusal.ArchiveError.TheVariants.{RollCount, RollNotDone, Pinned}
use Rattle.flow_archive.specs.declared.refusal.ArchiveError.TheVariants.{NothingToRetire}
use Rattle.flow_archive.specs.Answers.{Answers, told_as}
use Rattle.flow_archive.specs.JobAnswers.{AnswersBegin, AnswersInstall, AnswersStep, AnswersWrite}
use Rattle.flow_turns.specs.Turns.{begun_by, is_of_removal, job_told, told_or, turn_told}

abbrev pub IsPassed : Result Answer ArchiveError → Type 0
IsPassed (Ok answer) = Unit {0}
IsPassed (Err error) = IsTrue (is_of_removal error)

pub ok_passed : (a : Result Answer ArchiveError) → IsOk a → IsPassed a
ok_passed (Ok answer) ok = tt
ok_passed (Err error) ok = absurd (cc)

-- ---- the answer of a job

refused : (count told : ℕ) (answers : List (Result Answer ArchiveError)) (error : ArchiveError) (b : Bool)
    → is_of_removal error ≡ b
    → told_or (if b then None else Some error) (job_told count answers) ≡ Ok told
    → IsTrue (is_of_removal error) × (job_told count answers ≡ Ok told)
refused count told answers error true is same = (is, same)
refused count told answers error false is same = absurd (cc)

-- where it is Ok, all pass
pub told_passed : (count told : ℕ) (answers : List (Result Answer ArchiveError)) → job_told count answers ≡ Ok told
    → (told ≡ count) × AllByRecursion IsPassed answers
told_passed count told [] same = (cc, tt)
told_passed count told (Ok answer ∷ answers) same =
    let others = told_passed count told answers same in (others.0, (tt, others.1))
told_passed count told (Err error ∷ answers) same =
    let first = refused count told answers error (is_of_removal error) refl same in
    let others = told_passed count told answers first.1 in (others.0, (first.0, others.1))

-- and where all pass, it is
pub passed_told : (count : ℕ) (answers : List (Result Answer ArchiveError)) → AllByRecursion IsPassed answers
    → job_told count answers ≡ Ok count
passed_told count [] passed = refl
passed_told count (Ok answer ∷ answers) passed = passed_told count answers passed.1
passed_told count (Err error ∷ answers) passed =
    ap (λ (b : Bool). told_or (if b then None else Some error) (job_told count answers)) passed.0
    ∙ passed_told count answers passed.1

-- ---- the answer of a turn

pub turn_passed : (event : Event) (a : Result Answer ArchiveError) → IsOk (turn_told event a) → IsPassed a
turn_passed event (Ok answer) ok = tt
turn_passed event (Err Pinned) ok = refl
turn_passed event (Err NothingToRetire) ok = refl
turn_passed event (Err (Message fault)) ok = absurd (cc)
turn_passed event (Err OutOfMemory) ok = absurd (cc)
turn_passed event (Err NumbersSpent) ok = absurd (cc)
turn_passed event (Err NotEmpty) ok = absurd (cc)
turn_passed event (Err Fault) ok = absurd (cc)
turn_passed event (Err NoRoom) ok = absurd (cc)
turn_passed event (Err ManifestFull) ok = absurd (cc)
turn_passed event (Err NothingToSeal) ok = absurd (cc)
turn_passed event (Err Closed) ok = absurd (cc)
turn_passed event (Err (Damaged file at)) ok = absurd (cc)
turn_passed event (Err SourceFault) ok = absurd (cc)
turn_passed event (Err RollBusy) ok = absurd (cc)
turn_passed event (Err NoRoll) ok = absurd (cc)
turn_passed event (Err RollCount) ok = absurd (cc)
turn_passed event (Err RollNotDone) ok = absurd (cc)

-- ---- the events before the removals are never refused as these are

pub no_begin : (closed : Bool) (s after : State) (kind : JobKind) (count : ℕ) (e : ArchiveError)
    → IsTrue (is_of_removal e) → AnswersBegin {X = Unit {0}} closed s kind count (Err e) after → ⊥
no_begin closed s after kind count Pinned removal never = never
no_begin closed s after kind count NothingToRetire removal never = never
no_begin closed s after kind count e removal answers = cc

pub no_step : (honest closed : Bool) (s after : State) (e : ArchiveError) → IsTrue (is_of_removal e)
    → AnswersStep honest closed s (Err e) after → ⊥
no_step honest closed s after Pinned removal never = never
no_step honest closed s after NothingToRetire removal never = never
no_step honest closed s after e removal answers = cc

pub no_write : (honest closed : Bool) (s after : State) (e : ArchiveError) → IsTrue (is_of_removal e)
    → AnswersWrite {X = Unit {0}} honest closed s (Err e) after → ⊥
no_write honest closed s after Pinned removal never = never
no_write honest closed s after NothingToRetire removal never = never
no_write honest closed s after e removal answers = cc

pub no_install : (honest closed : Bool) (s after : State) (e : ArchiveError) → IsTrue (is_of_removal e)
    → AnswersInstall honest closed s (Err e) after → ⊥
no_install honest closed s after Pinned removal never = never
no_install honest closed s after NothingToRetire removal never = never
no_install honest closed s after e removal answers = cc

-- ---- so an answer to one of these that passes is Ok

begin_ok : (closed : Bool) (s after : State) (kind : JobKind) (count : ℕ) (done : Result (Unit {0}) ArchiveError)
    → IsPassed (told_as (λ _. Began) done) → AnswersBegin closed s kind count done after
    → IsOk (told_as (λ _. Began) done)
begin_ok closed s after kind count (Ok x) passed answers = refl
begin_ok closed s after kind count (Err e) passed answers = absurd (no_begin closed s after kind count e passed answers)

step_ok : (honest closed : Bool) (s after : State) (left : Result ℕ ArchiveError) → IsPassed (told_as Left left)
    → AnswersStep honest closed s left after → IsOk (told_as Left left)
step_ok honest closed s after (Ok left) passed answers = refl
step_ok honest closed s after (Err e) passed answers = absurd (no_step honest closed s after e passed answers)

write_ok : (honest closed : Bool) (s after : State) (done : Result (Unit {0}) ArchiveError)
    → IsPassed (told_as (λ _. Written) done) → AnswersWrite honest closed s done after
    → IsOk (told_as (λ _. Written) done)
write_ok honest closed s after (Ok x) passed answers = refl
write_ok honest closed s after (Err e) passed answers = absurd (no_write honest closed s after e passed answers)

abbrev pub IsOkWherePassed : Event → Type 0
IsOkWherePassed e = (honest closed : Bool) (s after : State) (a : Result Answer ArchiveError) → IsPassed a
    → Answers honest closed s e a after → IsOk a

pub ok_begin : (kind : JobKind) (count : ℕ) → IsOkWherePassed (begun_by kind count)
ok_begin Roll count honest closed s after a passed answers = subst IsOk (sym answers.1)
    (begin_ok closed s after Roll count answers.0 (subst IsPassed answers.1 passed) answers.2)
ok_begin Merge count honest closed s after a passed answers = subst IsOk (sym answers.1)
    (begin_ok closed s after Merge count answers.0 (subst IsPassed answers.1 passed) answers.2)

pub ok_step : IsOkWherePassed RollStep
ok_step honest closed s after a passed answers = subst IsOk (sym answers.1)
    (step_ok honest closed s after answers.0 (subst IsPassed answers.1 passed) answers.2)

pub ok_write : IsOkWherePassed RollWrite
ok_write honest closed s after a passed answers = subst IsOk (sym answers.1)
    (write_ok honest closed s after answers.0 (subst IsPassed answers.1 passed) answers.2)

pub ok_install : IsOkWherePassed RollInstall
ok_install honest closed s after (Ok answer) passed answers = refl
ok_install honest closed s after (Err e) passed answers = absurd (no_install honest closed s after e passed answers)
