use denote.Enum.Bare.{same_false, same_true}
use Rattle.std.proofs.Common.{◌≡◌, get_or, sym, ap, ◌∙◌, arith}
use Rattle.std.proofs.lemmas.List.{get_or_read}
use Rattle.flow_manifest.specs.contracts.manifest.Kind.{the_type}
use Rattle.flow_archive.specs.Frozen.{Frozen}
use Rattle.flow_archive.proofs.Marking.{here_none, here_one, newest_is}
use Rattle.flow_archive.proofs.share.newest.Goals.{then-eq, else-eq}
use Rattle.flow_archive.proofs.share.newest.Goals as goal

pub loop-place-preserved : goal.loop-place-preserved
loop-place-preserved g c =
    let files = c.args.files.now in
    let was = c.loop-place.invariant in
    let old = c.loop-place.newest in
    let place = c.loop-place.place in
    let new = c.if-eq.newest in
    let file = c.index-files-place.result in
    let here : (x : Frozen) → file ≡ get_or files place x =
    λ x. get_or_read files place file (omega arith) c.index-files-place.is x in
    elim c.if-eq.branch [
      | then-eq w ↦
          let same : c.kind.result ≡ c.args.kind =
          same_true the_type tt c.kind.result c.args.kind (sym c.eq.ensures ∙ w.if-eq.true) in
          let turn = here_one c.args.kind files old new place was.some was.none w.newest-is
          (λ x. ap (λ (f : Frozen). f.entry.kind) (sym (here x)) ∙ sym c.kind.ensures ∙ same) in
          record { some = turn.0; none = turn.1 }
      | else-eq w ↦
          let turn = here_none c.args.kind files old new place was.some was.none w.newest-is
          (λ x is. same_false the_type c.kind.result c.args.kind (sym c.eq.ensures ∙ w.if-eq.false)
          (c.kind.ensures ∙ ap (λ (f : Frozen). f.entry.kind) (here x) ∙ is)) in
          record { some = turn.0; none = turn.1 }
    ]

pub returns-clause-newest : goal.returns-clause-newest
returns-clause-newest g c =
    let was = c.loop-place.invariant in
    (newest_is c.args.kind c.args.files.now c.loop-place.newest c.loop-place.place c.requires (omega arith) (omega arith)
    was.some was.none).1

pub returns-clause-below : goal.returns-clause-below
returns-clause-below g c =
    let was = c.loop-place.invariant in
    (newest_is c.args.kind c.args.files.now c.loop-place.newest c.loop-place.place c.requires (omega arith) (omega arith)
    was.some was.none).0
