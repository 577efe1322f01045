use Rattle.std.proofs.Common.{◌≡◌, ◌<◌, length, get_or, sym, ap, ◌∙◌, subst, List}
use Rattle.flow_archive.specs.Marks.{IsNewestOf}
use Rattle.flow_archive.specs.Frozen.{rollup_of, Frozen}
use Rattle.flow_archive.proofs.Marking.{if_both, newest_part}
use Rattle.flow_archive.proofs.share.newest_sums.Goals as goal

pub sums-requires : goal.sums-requires
sums-requires g c =
    let old = c.args.files.now.items in
    let new = c.share_at.new.files.items in
    let place = c.newest-place.result in
    let slice = c.as_slice.ensures.value in
    let part = newest_part c.args.kind new old place c.index.result.now
    (subst (λ (l : List Frozen). place < length l) slice c.newest-place.ensures.below)
    (subst (λ (l : List Frozen). (f : Frozen) → f ≡ get_or l place f → IsNewestOf c.args.kind l f) slice
    c.newest-place.ensures.newest) c.share_at.ensures.same c.index.ensures in
    λ is. c.requires.sums (sym (ap (λ (f : Frozen). f.entry.kind) part.2 ∙ part.1.kind_is) ∙ is)

pub returns-clause-part : goal.returns-clause-part
returns-clause-part g c =
    let old = c.args.files.now.items in
    let new = c.share_at.new.files.items in
    let place = c.newest-place.result in
    let slice = c.as_slice.ensures.value in
    let part = newest_part c.args.kind new old place c.index.result.now
    (subst (λ (l : List Frozen). place < length l) slice c.newest-place.ensures.below)
    (subst (λ (l : List Frozen). (f : Frozen) → f ≡ get_or l place f → IsNewestOf c.args.kind l f) slice
    c.newest-place.ensures.newest) c.share_at.ensures.same c.index.ensures in
    if_both c.sums.result _ _ _ (λ x is honest. (
      part.0,
      part.1,
      is ∙ ap rollup_of part.2,
      honest ∙ ap (λ (f : Frozen). f.honest) part.2,
    )) c.sums.ensures.part c.sums.ensures.honest
