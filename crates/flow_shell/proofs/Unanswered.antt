-- Why answers end by a refusal: one couldn't be made, or written.
use Rattle.std.proofs.Common.{inl, inr, ℕ, List, ◌++◌, Option, Result, Ok, Err, sym, subst, codes}
use Rattle.std.specs.Prelude.{IfErr}
use Rattle.flow_commands.specs.declared.archive_refusal.ArchiveRefusal.{ArchiveRefusal}
use Rattle.flow_commands.specs.declared.archive_refusal.ArchiveRefusal.TheVariants as refusal
use Rattle.flow_feed.specs.declared.batch.Fed.{Fed}
use Rattle.flow_shell.specs.declared.refusal.ShellRefusal.{ShellRefusal}
use Rattle.flow_shell.specs.declared.refusal.ShellRefusal.TheVariants as shell
use Rattle.flow_shell.specs.Endings.{IsUnanswered}
use Rattle.flow_shell.specs.Refusals.{shell_status}
use Rattle.flow_shell.specs.Written.{done_line, refused_line, IsFinished, IsRefusalWritten, IsWritten, TellsEnded}

pub written : (text : List ℕ) (old new : Option (List ℕ)) (r : Result (Unit {0}) ArchiveRefusal)
    → IsWritten text old new r → IfErr r IsUnanswered
written text old new (Ok done) is = tt
written text old new (Err (refusal.Write failed)) is = tt
written text old new (Err refusal.OutOfMemory) is = tt
written text old new (Err (refusal.Folder why)) is = absurd is
written text old new (Err (refusal.Opening e)) is = absurd is
written text old new (Err (refusal.Archive e)) is = absurd is
written text old new (Err (refusal.Query e)) is = absurd is

pub told : (said : ℕ → Fed → Type 0) (old new : Option (List ℕ)) (r : Result (Unit {0}) ArchiveRefusal)
    → TellsEnded said old new r → IfErr r IsUnanswered
told said old new (Ok done) is = tt
told said old new (Err (refusal.Write failed)) is = tt
told said old new (Err refusal.OutOfMemory) is = tt
told said old new (Err (refusal.Folder why)) is = absurd is
told said old new (Err (refusal.Opening e)) is = absurd is
told said old new (Err (refusal.Archive e)) is = absurd is
told said old new (Err (refusal.Query e)) is = absurd is

refusal_written : (e : ShellRefusal) (old new : Option (List ℕ)) (r : Result (Unit {0}) ArchiveRefusal)
    → IsRefusalWritten e old new r → IfErr r IsUnanswered
refusal_written e old new r (inl is) = written (refused_line e ++ done_line (shell_status e)) old new r is
refusal_written e old new r (inr is) = written (codes "refused 11 OutOfMemory\n" ++ done_line 4) old new r is

pub finished : (outcome : Result (Unit {0}) ShellRefusal) (old new : Option (List ℕ))
    (r : Result (Unit {0}) ArchiveRefusal) → IsFinished outcome old new r → IfErr r IsUnanswered
finished (Ok done) old new r is = written (done_line 0) old new r is
finished (Err (shell.Reader e)) old new r is = refusal_written (shell.Reader e) old new r is
finished (Err (shell.Archive (refusal.Write failed))) old new r is =
    subst (λ (q : Result (Unit {0}) ArchiveRefusal). IfErr q IsUnanswered) (sym is.0) tt
finished (Err (shell.Archive refusal.OutOfMemory)) old new r is =
    refusal_written (shell.Archive refusal.OutOfMemory) old new r is
finished (Err (shell.Archive (refusal.Folder why))) old new r is =
    refusal_written (shell.Archive (refusal.Folder why)) old new r is
finished (Err (shell.Archive (refusal.Opening e))) old new r is =
    refusal_written (shell.Archive (refusal.Opening e)) old new r is
finished (Err (shell.Archive (refusal.Archive e))) old new r is =
    refusal_written (shell.Archive (refusal.Archive e)) old new r is
finished (Err (shell.Archive (refusal.Query e))) old new r is =
    refusal_written (shell.Archive (refusal.Query e)) old new r is
