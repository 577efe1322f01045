-- Texts that are written one after the other.
use Rattle.std.proofs.Common.{◌≡◌, ℕ, ◌+◌, List, ◌++◌, Option, Some, None, inl, inr, refl, sym, ◌∙◌, ap, subst, arith, length, take}
use Rattle.std.proofs.Common.{length-append}
use Rattle.std.proofs.Math.Seq.{take-append-add}
use Rattle.std.specs.Prelude.{Result, Ok, Err, IfErr, OnOk}
use Rattle.std.specs.Io.KnownBytes.{Appends, Keeps}
use Rattle.std.proofs.KnownBytes.{Appends-trans}
use Rattle.flow_report.specs.declared.patient.WriteFailed.{WriteFailed}
use Rattle.flow_report.specs.Writing.{AppendsFront}
use Rattle.flow_commands.specs.declared.archive_refusal.ArchiveRefusal.{ArchiveRefusal}
use Rattle.flow_commands.specs.declared.archive_refusal.ArchiveRefusal.TheVariants as refusal
use Rattle.flow_shell.specs.declared.refusal.ShellRefusal.{ShellRefusal}
use Rattle.flow_shell.specs.declared.refusal.ShellRefusal.TheVariants as shell
use Rattle.flow_shell.specs.Answers.{KeepsBefore}
use Rattle.flow_shell.specs.Written.{done_line, IsAnswer, IsEndedBy, IsFinished, IsRefusalWritten, IsWritten}

-- a prefix of what is written after a text
pub front_after : (a b c : Option (List ℕ)) (one more : List ℕ) → Appends a b one → AppendsFront b c more
    → AppendsFront a c (one ++ more)
front_after a b c one more written (n, most, front) =
    let long = length-append one more in (
      length one + n,
      omega (arith, most, long),
      subst (Appends a c) (sym (take-append-add one more n)) (Appends-trans a b c one (take n more) written front),
    )

-- a text, and what is written after it
pub both_written : (a b c : Option (List ℕ)) (one more : List ℕ) (r : Result (Unit {0}) ArchiveRefusal)
    → Appends a b one → IsWritten more b c r → IsWritten (one ++ more) a c r
both_written a b c one more (Ok done) first second = Appends-trans a b c one more first second
both_written a b c one more (Err (refusal.Write failed)) first second = front_after a b c one more first second
both_written a b c one more (Err (refusal.Folder fault)) first second = absurd second
both_written a b c one more (Err (refusal.Opening e)) first second = absurd second
both_written a b c one more (Err (refusal.Archive e)) first second = absurd second
both_written a b c one more (Err (refusal.Query e)) first second = absurd second
both_written a b c one more (Err refusal.OutOfMemory) first second = absurd second

kept_then : (a b c : Option (List ℕ)) (text : List ℕ) → Keeps a b → Appends b c text → Appends a c text
kept_then None b c text kept written = tt
kept_then (Some xs) None c text kept written = absurd kept
kept_then (Some xs) (Some ys) None text kept written = absurd written
kept_then (Some xs) (Some ys) (Some zs) text kept written = written ∙ ap (λ (l : List ℕ). l ++ text) kept

-- a refusal that is written where nothing was before
refused : (lines : List ℕ) (old mid new : Option (List ℕ)) (e : ShellRefusal) → Keeps old mid
    → IsRefusalWritten e mid new (Ok tt) → IsAnswer lines old new
refused lines old mid new e kept (inl written) = inr (e, inl (kept_then old mid new _ kept written))
refused lines old mid new e kept (inr written) = inr (e, inr (kept_then old mid new _ kept written))

-- what is answered is the lines and their end, or a refusal
pub answered : (lines : List ℕ) (old mid new : Option (List ℕ)) (outcome : Result (Unit {0}) ShellRefusal)
    (r : Result (Unit {0}) ArchiveRefusal) → OnOk outcome (Appends old mid lines)
    → IfErr outcome (λ e. KeepsBefore e old mid) → IsFinished outcome mid new r → OnOk r (IsAnswer lines old new)
answered lines old mid new outcome (Err e) wrote kept finished = tt
answered lines old mid new (Ok done) (Ok all) wrote kept finished =
    inl (Appends-trans old mid new lines (done_line 0) wrote finished)
answered lines old mid new (Err (shell.Reader e)) (Ok tt) wrote kept finished =
    refused lines old mid new (shell.Reader e) kept finished
answered lines old mid new (Err (shell.Archive (refusal.Folder e))) (Ok tt) wrote kept finished =
    refused lines old mid new (shell.Archive (refusal.Folder e)) kept finished
answered lines old mid new (Err (shell.Archive (refusal.Opening e))) (Ok tt) wrote kept finished =
    refused lines old mid new (shell.Archive (refusal.Opening e)) kept finished
answered lines old mid new (Err (shell.Archive (refusal.Archive e))) (Ok tt) wrote kept finished =
    refused lines old mid new (shell.Archive (refusal.Archive e)) kept finished
answered lines old mid new (Err (shell.Archive (refusal.Query e))) (Ok tt) wrote kept finished =
    refused lines old mid new (shell.Archive (refusal.Query e)) kept finished
answered lines old mid new (Err (shell.Archive refusal.OutOfMemory)) (Ok tt) wrote kept finished =
    refused lines old mid new (shell.Archive refusal.OutOfMemory) kept finished
answered lines old mid new (Err (shell.Archive (refusal.Write e))) (Ok tt) wrote kept finished =
    let not : Ok tt ≡ Err (refusal.Write e) = finished.0 in absurd cc

-- what is written after a refusal that isn't one of writing
pub ended : (e : ArchiveRefusal) (old new : Option (List ℕ)) (r : Result (Unit {0}) ArchiveRefusal)
    → ((failed : WriteFailed) → e ≡ refusal.Write failed → ⊥) → IsRefusalWritten (shell.Archive e) old new r
    → IsEndedBy e old new r
ended (refusal.Write failed) old new r not written = absurd (not failed refl)
ended (refusal.Folder fault) old new r not written = written
ended (refusal.Opening e) old new r not written = written
ended (refusal.Archive e) old new r not written = written
ended (refusal.Query e) old new r not written = written
ended refusal.OutOfMemory old new r not written = written
