use Rattle.std.proofs.Common.{refl}
use Rattle.std.specs.Prelude.{◌&&◌}
use Rattle.std.specs.List.{list_all}
use Rattle.flow_snapshot.specs.Files.{is_honest, is_honest_sum, shared}
use Rattle.flow_snapshot.proofs.Sharing.{both, first_of_two, messages_same, second_of_two}
use Rattle.flow_snapshot.proofs.files.Files.within.Goals as goal

pub returns : goal.returns
returns g c = λ honest.
    let own = c.args.self.now in
    let merged = list_all is_honest_sum (shared own.merged.items) in
    let rolled = list_all is_honest_sum (shared own.rolled.items) in
    let sealed = list_all (is_honest {files = g.S.SealedFile}) (shared own.sealed.items) in
    let of_merged = first_of_two merged rolled (first_of_two (merged && rolled) sealed honest) in
    let of_rolled = second_of_two merged rolled (first_of_two (merged && rolled) sealed honest) in
    let of_sealed = second_of_two (merged && rolled) sealed honest in
    let a = c.in_ok-sums_within.ensures in
    let b = c.in_ok-sums_within-2.ensures in
    let d = c.in_ok-segments_within.ensures in (
      both _ _ (both _ _ ((rw c.as_slice.ensures.value at a.honest) of_merged)
          ((rw c.as_slice-2.ensures.value at b.honest) of_rolled))
          ((rw c.as_slice-3.ensures.value at d.honest) of_sealed),
      record {
        width = refl;
        wide = refl;
        merged = (rw c.as_slice.ensures.value at a.left) of_merged;
        rolled = (rw c.as_slice-2.ensures.value at b.left) of_rolled;
        sealed = (rw c.as_slice-3.ensures.value at d.left) of_sealed;
        prefix = c.in_ok-prefix.ensures.cases;
        active = messages_same _ _ (c.in_ok-active.ensures.cases).0;
      },
    )
