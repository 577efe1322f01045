use Rattle.std.proofs.Common.{◌-◌, Some, refl, sym, ap, subst, ◌∙◌, arith}
use Rattle.std.specs.Prelude.{slice_get}
use Rattle.flow_disk.specs.Window.{Window}
use Rattle.flow_segment.specs.Segment.{part_octets}
use Rattle.flow_snapshot.specs.Found.{IsCutBehind}
use Rattle.flow_snapshot.proofs.KeptFlows.{answered_err}
use Rattle.flow_snapshot.proofs.Places.{from_start, held_here, held_other, not_ended, not_stuck}
use Rattle.flow_snapshot.proofs.Standing.{none_passed, one_passed, stands_here}
use Rattle.flow_snapshot.proofs.numbered.message_behind.Goals as goal

pub messages-init : goal.messages-init
messages-init g c =
    let part = c.args.part.now in
    record {
      room = ap (λ (x : Window). x.end) c.new-window.ensures;
      faults = refl;
      found = λ honest. none_passed (g.S.SealedFile.octets part.reader) c.new-window.result part.prefix part.length
          c.args.skipped c.new-window.ensures;
      ahead = λ honest list are within. from_start (g.S.SealedFile.octets part.reader) c.new-window.result part.prefix
          part.length part.messages c.args.skipped list c.new-window.ensures are within;
    }

pub messages-preserved : goal.messages-preserved
messages-preserved g c =
    let part = c.args.part.now in
    let S = g.S.SealedFile in
    record {
      room = c.in_ok-advance.ensures.end ∙ c.messages.invariant.room;
      faults = c.in_ok-advance.ensures.cause.done ∙ c.messages.invariant.faults;
      found = λ honest.
          let p = c.messages.invariant.found honest in
          let s = c.in_ok-advance.ensures.step honest p.on in
          one_passed (part_octets part.prefix part.length (S.octets part.reader)) (S.octets part.reader)
          (S.number part.reader) c.messages.window c.advance.new.window c.args.skipped c.messages.left
          (c.messages.left - 1) c.in_ok-advance.field-0 c.if-not-branch.false (omega (arith, c.if-left-eq0.false)) p
          s.0 s.1;
      ahead = λ honest list are within.
          let a = c.messages.invariant.ahead honest list are within in
          let s = c.in_ok-advance.ensures.step honest a.on in
          held_other (S.octets part.reader) (S.number part.reader) c.messages.window c.advance.new.window
          (slice_get list c.args.skipped) c.messages.left (c.messages.left - 1) c.in_ok-advance.field-0
          c.if-not-branch.false (omega (arith, c.if-left-eq0.false)) a s.0 s.1;
    }

pub returns-in_err-advance-clause-given : goal.returns-in_err-advance-clause-given
returns-in_err-advance-clause-given g c = λ honest list are within.
    let part = c.args.part.now in
    let S = g.S.SealedFile in
    let a = c.messages.invariant.ahead honest list are within in
    let s = c.in_err-advance.ensures.step honest a.on in
    answered_err _ c.from_residual.result c.in_err-advance.field-0.0 c.from_residual.ensures.1
    (not_stuck (S.octets part.reader) (S.number part.reader) c.messages.window c.advance.new.window
    (slice_get list c.args.skipped) c.messages.left c.in_err-advance.field-0.0 a s.1)

pub advance-requires : goal.advance-requires
advance-requires g c = omega (arith, c.messages.invariant.room, c.args.part.now.room)

pub returns-then-not-branch-clause-given : goal.returns-then-not-branch-clause-given
returns-then-not-branch-clause-given g c = λ honest list are within.
    let part = c.args.part.now in
    let S = g.S.SealedFile in
    let a = c.messages.invariant.ahead honest list are within in
    let s = c.in_ok-advance.ensures.step honest a.on in
    absurd (not_ended (S.octets part.reader) (S.number part.reader) c.messages.window c.advance.new.window
    (slice_get list c.args.skipped) c.messages.left c.in_ok-advance.field-0 c.if-not-branch.true a s.1)

pub returns-then-left-eq0-clause-given : goal.returns-then-left-eq0-clause-given
returns-then-left-eq0-clause-given g c = λ honest list are within.
    let part = c.args.part.now in
    let S = g.S.SealedFile in
    let a = c.messages.invariant.ahead honest list are within in
    let s = c.in_ok-advance.ensures.step honest a.on in
    ap Some (c.in_ok-from_slice.ensures.items ∙ c.held.ensures)
    ∙ held_here (S.octets part.reader) (S.number part.reader) c.messages.window c.advance.new.window
    (slice_get list c.args.skipped) c.messages.left c.in_ok-advance.field-0 c.if-not-branch.false c.if-left-eq0.true
    a s.1

pub returns-then-left-eq0-clause-found : goal.returns-then-left-eq0-clause-found
returns-then-left-eq0-clause-found g c = λ honest.
    let part = c.args.part.now in
    let S = g.S.SealedFile in
    let whole = part_octets part.prefix part.length (S.octets part.reader) in
    let p = c.messages.invariant.found honest in
    let s = c.in_ok-advance.ensures.step honest p.on in
    subst (IsCutBehind whole c.args.skipped) (sym (c.in_ok-from_slice.ensures.items ∙ c.held.ensures))
    (stands_here whole (S.octets part.reader) (S.number part.reader) c.messages.window c.advance.new.window
    c.args.skipped c.messages.left c.in_ok-advance.field-0 c.if-not-branch.false c.if-left-eq0.true p s.1)
