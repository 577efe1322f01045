use Rattle.std.proofs.Common.{◌≡◌, ◌+◌, ◌≤◌, ◌++◌, Bool, drop, length, vec_len, vec_capacity}
use Rattle.std.specs.List.{AllByRecursion}
use Rattle.flow_archive.specs.Frozen.{all_frozen, MayBeFrozen}
use Rattle.flow_recover.specs.Kept.{AreFilesOf}
use Rattle.flow_archive.proofs.frozen.frozen_files.Given as goal

abbrev pub invariant-loop-file : goal.invariant-loop-file
invariant-loop-file g l =
    let S = g.S.SealedFile in record {
      done : l.frozen.items ++ all_frozen S.honest S.octets (drop (vec_len l.frozen) l.entries) l.file-iterator.rest.items
          ≡ all_frozen S.honest S.octets l.entries l.fn.files.items;
      named : (honest : Bool) × AreFilesOf S.number S.size S.honest honest (drop (vec_len l.frozen) l.entries)
          l.file-iterator.rest.items;
      shapes : AllByRecursion (λ e. MayBeFrozen e.kind e) (drop (vec_len l.frozen) l.entries);
      room : vec_len l.frozen + length l.file-iterator.rest.items ≤ vec_capacity l.frozen;
    }
