use Rattle.std.proofs.Common.{sym, subst}
use Rattle.std.specs.List.Sorted.{IsStrictlyIncreasing}
use Rattle.std.proofs.lemmas.List.Filters.{dedup_is}
use Rattle.std.proofs.lemmas.Map.Keys.{IsStrictlyIncreasing-dedup}
use Rattle.flow_folder.proofs.files.FolderFiles.list.Goals as goal

pub returns : goal.returns
returns g c = record {
  ascending = subst IsStrictlyIncreasing (sym (dedup_is _ _ _ c.dedup.ensures.filtered))
      (IsStrictlyIncreasing-dedup _ c.sort_unstable.ensures.sorted);
}
