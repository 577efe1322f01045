-- How rolling beside Files ended.
use Rattle.std.proofs.Common.{◌≡◌, ◌≢◌, ◌≤◌, ℕ, Option}
use Rattle.flow_archive.specs.declared.refusal.ArchiveError.{ArchiveError}
use Rattle.flow_archive.specs.declared.refusal.ArchiveError.TheVariants as archive
use Rattle.flow_disk.specs.declared.disk.Disk.{Ghosts}
use Rattle.flow_disk.specs.Cause.{HasRisen}
use Rattle.flow_disk.proofs.Results.{if_err_by, on_ok_by}
use Rattle.flow_model.specs.Shelf.{Shelf}
use Rattle.flow_roller.specs.Asked.{Asked}
use Rattle.flow_commands.specs.Feeding.{answer_by, IsRollEnd}

-- the reads that failed in another thread, added
pub end_added : {D S X : Type 0} (g : Ghosts D S X) (opening : Shelf) (asked : Asked → Type 0) (own before now : ℕ)
    (refused : Option ArchiveError) → (own ≡ 0 → now ≡ before) → (HasRisen 0 own → HasRisen before now)
    → before ≤ now → IsRollEnd g opening asked 0 own refused → IsRollEnd g opening asked before now refused
end_added g opening asked own before now refused none risen later end = record {
  rounds = end.rounds;
  rolled = end.rolled;
  unread = record {
    later = later;
    done = on_ok_by (answer_by refused) (own ≡ 0) (now ≡ before) none end.unread.done;
    risen = λ is. risen (end.unread.risen is);
    other = if_err_by (answer_by refused) (λ e. e ≢ archive.SourceFault → own ≡ 0)
        (λ e. e ≢ archive.SourceFault → now ≡ before) (λ e each other. none (each other)) end.unread.other;
  };
}
