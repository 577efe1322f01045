use Rattle.std.proofs.Common.{◌≡◌, ◌<◌, length, get_or, ap, ◌∙◌, subst, List}
use Rattle.flow_manifest.specs.declared.manifest.Kind.TheVariants as kinds
use Rattle.flow_archive.specs.Marks.{IsNewestOf}
use Rattle.flow_archive.specs.Frozen.{segment_of, Frozen}
use Rattle.flow_archive.proofs.Marking.{if_both, newest_part}
use Rattle.flow_archive.proofs.share.newest_segment.Goals as goal

pub segment-requires : goal.segment-requires
segment-requires g c =
    let old = c.args.files.now.items in
    let new = c.share_at.new.files.items in
    let place = c.newest-place.result in
    let slice = c.as_slice.ensures.value in
    let part = newest_part kinds.Sealed new old place c.index.result.now
    (subst (λ (l : List Frozen). place < length l) slice c.newest-place.ensures.below)
    (subst (λ (l : List Frozen). (f : Frozen) → f ≡ get_or l place f → IsNewestOf kinds.Sealed l f) slice
    c.newest-place.ensures.newest) c.share_at.ensures.same c.index.ensures in
    ap (λ (f : Frozen). f.entry.kind) part.2 ∙ part.1.kind_is

pub returns-clause-part : goal.returns-clause-part
returns-clause-part g c =
    let old = c.args.files.now.items in
    let new = c.share_at.new.files.items in
    let place = c.newest-place.result in
    let slice = c.as_slice.ensures.value in
    let part = newest_part kinds.Sealed new old place c.index.result.now
    (subst (λ (l : List Frozen). place < length l) slice c.newest-place.ensures.below)
    (subst (λ (l : List Frozen). (f : Frozen) → f ≡ get_or l place f → IsNewestOf kinds.Sealed l f) slice
    c.newest-place.ensures.newest) c.share_at.ensures.same c.index.ensures in
    if_both c.segment.result _ _ _ (λ x is honest. (
      part.0,
      part.1,
      is ∙ ap segment_of part.2,
      honest ∙ ap (λ (f : Frozen). f.honest) part.2,
    )) c.segment.ensures.part c.segment.ensures.honest
