use Rattle.std.proofs.Common.{ap, length, map, refl, subst, sym, ◌∙◌}
use Rattle.std.proofs.lemmas.List.{drop_all, take_all}
use Rattle.flow_snapshot.specs.Files.{is_honest, segment_of, shared}
use Rattle.flow_snapshot.specs.Shares.{own, turn_after, HaveSums, IsSegmentSum}
use Rattle.flow_snapshot.specs.Totals.{with_maps}
use Rattle.flow_snapshot.proofs.KeptFlows.{next_item}
use Rattle.flow_snapshot.proofs.Dealt.{none_so_far, part_read}
use Rattle.flow_snapshot.proofs.Dealing.{none_left, own_next, own_refused, turn_step}
use Rattle.flow_snapshot.proofs.shares.add_own_segments.Goals as goal

pub loop-part-init : goal.loop-part-init
loop-part-init g c = record {
  faults = refl;
  within = c.requires;
  turn = refl;
  width = refl;
  found = λ honest. none_so_far (IsSegmentSum c.args.rows.now.width) c.args.workers c.args.worker c.args.turn;
  left = λ honest maps each. record { rest = maps; each = each; is = refl };
}

pub loop-part-preserved : goal.loop-part-preserved
loop-part-preserved g c = record {
  faults = c.in_ok-add_own_segment.ensures.cause.done ∙ c.loop-part.invariant.faults;
  within = c.next_turn-next.ensures.within;
  turn = turn_step c.args.workers c.loop-part.next c.next_turn-next.result c.args.parts.now c.loop-part.part-index
      c.part-item.result _ (next_item c.args.parts.now c.loop-part.part-index c.part-item.result c.part-item.result
      c.loop-part-test.true c.part-item.is refl) c.next_turn-next.ensures.next c.loop-part.invariant.turn;
  width = c.in_ok-add_own_segment.ensures.width ∙ c.loop-part.invariant.width;
  found = λ honest. part_read IsSegmentSum (segment_of {files = g.S.SealedFile}) (is_honest {files = g.S.SealedFile})
      c.args.parts.now c.loop-part.part-index c.part-item.result c.deref.result.now c.loop-part-test.true
      c.part-item.is c.deref.ensures honest c.args.workers c.args.worker c.args.turn c.args.rows.now.width c.loop-part.rows.width c.loop-part.next c.next_turn-next.result
      c.loop-part.invariant.width (c.loop-part.invariant.found honest) c.next_turn-next.ensures.next
      c.in_ok-add_own_segment.ensures.found;
  left = λ honest maps each.
      own_next IsSegmentSum (segment_of {files = g.S.SealedFile}) (is_honest {files = g.S.SealedFile})
      c.args.parts.now c.loop-part.part-index c.part-item.result c.deref.result.now
      c.loop-part-test.true c.part-item.is c.deref.ensures honest c.args.workers c.args.worker c.loop-part.next
      c.loop-part.rows (with_maps (own c.args.workers c.args.worker c.args.turn maps) c.args.rows.now)
      (c.loop-part.invariant.left honest maps each)
      c.next_turn-next.result c.add_own_segment.new.rows c.next_turn-next.ensures.next
      c.in_ok-add_own_segment.ensures.given;
}

pub returns-in_err-add_own_segment-clause-given : goal.returns-in_err-add_own_segment-clause-given
returns-in_err-add_own_segment-clause-given g c = λ honest maps each.
    own_refused IsSegmentSum (segment_of {files = g.S.SealedFile}) (is_honest {files = g.S.SealedFile})
    c.args.parts.now c.loop-part.part-index c.part-item.result c.deref.result.now
    c.loop-part-test.true c.part-item.is c.deref.ensures honest c.args.workers c.args.worker c.loop-part.next
    c.loop-part.rows (with_maps (own c.args.workers c.args.worker c.args.turn maps) c.args.rows.now)
    (c.loop-part.invariant.left honest maps each)
    _ c.args.first c.from_residual.result c.in_err-add_own_segment.field-0.0 c.from_residual.ensures.1
    c.in_err-add_own_segment.ensures.given

pub returns-clause-turn : goal.returns-clause-turn
returns-clause-turn g c = (
  sym (ap (λ ps. turn_after c.args.workers (length ps) c.loop-part.next)
      (drop_all c.loop-part.part-index c.args.parts.now c.loop-part-test.false)) ∙ c.loop-part.invariant.turn,
  c.loop-part.invariant.within,
)

pub returns-clause-found : goal.returns-clause-found
returns-clause-found g c = λ honest.
    let P = IsSegmentSum c.args.rows.now.width in
    subst (λ ps. HaveSums P (own c.args.workers c.args.worker c.args.turn
    (map (segment_of {files = g.S.SealedFile}) (shared ps))))
    (take_all c.loop-part.part-index c.args.parts.now c.loop-part-test.false) (c.loop-part.invariant.found honest).have

pub returns-clause-given : goal.returns-clause-given
returns-clause-given g c = λ honest maps each.
    none_left (IsSegmentSum c.args.rows.now.width) c.args.workers c.args.worker _ c.loop-part.next c.loop-part.rows _
    (ap (λ ps. map (segment_of {files = g.S.SealedFile}) (shared ps))
    (drop_all c.loop-part.part-index c.args.parts.now c.loop-part-test.false))
    (c.loop-part.invariant.left honest maps each)
