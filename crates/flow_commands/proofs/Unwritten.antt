-- Refusals before anything is written.
use Rattle.std.proofs.Common.{ℕ, List, Option, arith}
use Rattle.std.proofs.KnownBytes.{Appends-nil, Keeps-refl}
use Rattle.std.specs.Prelude.{Result, Ok, Err, IfErr}
use Rattle.flow_commands.specs.declared.archive_refusal.ArchiveRefusal.{ArchiveRefusal}
use Rattle.flow_commands.specs.declared.archive_refusal.ArchiveRefusal.TheVariants as refusal
use Rattle.flow_commands.specs.Check.{KeepsOrChecks}

pub kept_anyway : (e : ArchiveRefusal) (output : Option (List ℕ)) → KeepsOrChecks e output output
kept_anyway (refusal.Write failed) output =
    (record { position = 0; cut = 0; rolled = 0; sealed = 0 }, (0, omega arith, Appends-nil output))
kept_anyway (refusal.Opening e) output = Keeps-refl output
kept_anyway refusal.OutOfMemory output = Keeps-refl output
kept_anyway (refusal.Archive e) output = Keeps-refl output
kept_anyway (refusal.Query e) output = Keeps-refl output
kept_anyway (refusal.Folder why) output = Keeps-refl output

pub on_any_refusal : {A : Type 0} (r : Result A ArchiveRefusal) (P : ArchiveRefusal → Type 0)
    → ((e : ArchiveRefusal) → P e) → IfErr r P
on_any_refusal (Ok a) P all = tt
on_any_refusal (Err e) P all = all e
