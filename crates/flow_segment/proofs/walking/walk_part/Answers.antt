use Rattle.std.proofs.Common.{◌≡◌, ℕ, ◌+◌, subst, sym, ◌∙◌, ◌++◌}
use Rattle.flow_refusals.specs.declared.read_refusal.ReadRefusal.{ReadRefusal}
use Rattle.flow_codec.specs.Raw.{under, Took}
use Rattle.flow_segment.specs.PartFlows.{IsDamage}
use Rattle.flow_segment.specs.Segment.{part_octets}
use Rattle.flow_segment.proofs.Carrying.{err_of}
use Rattle.flow_segment.proofs.Restating.{moves_within}
use Rattle.flow_segment.proofs.Flowing.{behind_kept, behind_more, count_within, max_is, part_more, time_found}
use Rattle.flow_segment.proofs.Flowing.{walked_told, HasTaken, PartSoFar}
use Rattle.flow_segment.proofs.Taking.{took_then}
use Rattle.flow_segment.proofs.walking.walk_part.Goals as goal

pub returns-in_err-hand_over-clause-told : goal.returns-in_err-hand_over-clause-told
returns-in_err-hand_over-clause-told g c = λ h.
    let S = g.S.SealedFile in
    let holds = g.R.RecordSink.holds in
    let part = c.args.part.now in
    let file = part.reader in
    err_of {X = ℕ} {E = ReadRefusal} c.from_residual-in_err-hand_over.result c.in_err-hand_over.field-0.0
    (λ e. IsDamage (part_octets part.prefix part.length (S.octets file)) c.args.templates.now (S.number file)
    part.prefix part.length part.messages e)
    c.from_residual-in_err-hand_over.ensures.1
    (walked_told (HasTaken holds c.args.sink.now c.messages.sink c.messages.count c.messages.time)
    (λ time m. Took holds m.header c.messages.sink m.records c.hand_over.new.sink × (time ≡ m.header.time))
    (S.honest file) (S.octets file) part.prefix part.length (S.number file) c.file-file.result c.place-at.result
    part.messages c.in_ok-advance.field-0 c.args.templates.now c.messages.templates c.hand_over.new.templates
    c.messages.window c.advance.new.window c.held.result.now c.in_err-hand_over.field-0.0
    c.if-not-branch.false c.messages.invariant.0 c.in_ok-advance.ensures.moves c.in_ok-advance.ensures.step
    c.held.ensures c.file-file.ensures c.place-at.ensures.place c.in_err-hand_over.ensures.walked h)

pub messages-preserved : goal.messages-preserved
messages-preserved g c =
    let S = g.S.SealedFile in
    let holds = g.R.RecordSink.holds in
    let part = c.args.part.now in
    let file = part.reader in
    let x = c.in_ok-hand_over.ensures.walked in
    let some = c.messages.invariant.5 in (
      subst (λ (t : ℕ). PartSoFar (HasTaken holds c.args.sink.now c.hand_over.new.sink (c.messages.count + 1) t)
          (S.honest file) (S.octets file) part.prefix part.length c.args.templates.now c.hand_over.new.templates c.advance.new.window)
          (max_is c.messages.time c.in_ok-hand_over.field-0 ∙ sym c.max-time.ensures) (part_more holds c.args.sink.now c.messages.sink c.hand_over.new.sink (S.honest file) (S.octets file) part.prefix
          part.length (S.number file) c.file-file.result c.place-at.result c.messages.count c.messages.time c.in_ok-hand_over.field-0
          c.in_ok-advance.field-0
          c.args.templates.now c.messages.templates c.hand_over.new.templates c.messages.window c.advance.new.window
          c.held.result.now c.if-not-branch.false c.messages.invariant.0 c.in_ok-advance.ensures.moves
          c.in_ok-advance.ensures.step c.held.ensures x),
      c.in_ok-advance.ensures.end ∙ c.messages.invariant.1,
      moves_within c.messages.window c.advance.new.window c.in_ok-advance.field-0 c.if-not-branch.false
          c.in_ok-advance.ensures.moves,
      c.in_ok-advance.ensures.cause.done ∙ c.messages.invariant.3,
      count_within c.messages.window c.advance.new.window c.messages.count c.in_ok-advance.field-0
          c.if-not-branch.false c.in_ok-advance.ensures.moves c.messages.invariant.4,
      (
        some.0 ++ under (x.0).header (x.0).records,
        took_then holds c.args.sink.now c.messages.sink c.hand_over.new.sink some.0 (under (x.0).header (x.0).records)
            some.1 x.2.0,
      ),
      behind_more c.args.templates.now c.messages.templates c.hand_over.new.templates c.held.result.now x.0
          c.messages.invariant.6 x.1,
      c.in_ok-hand_over.ensures.same ∙ c.messages.invariant.7,
    )

pub returns-in_err-hand_over-clause-templates : goal.returns-in_err-hand_over-clause-templates
returns-in_err-hand_over-clause-templates g c =
    behind_kept c.args.templates.now c.messages.templates c.hand_over.new.templates c.messages.invariant.6
    c.in_err-hand_over.ensures.kept

pub returns-then-not-branch-clause-time : goal.returns-then-not-branch-clause-time
returns-then-not-branch-clause-time g c = λ h messages are.
    let S = g.S.SealedFile in
    let holds = g.R.RecordSink.holds in
    let part = c.args.part.now in
    let file = part.reader in
    time_found holds c.args.sink.now c.messages.sink c.in_ok-advance.field-0 (S.honest file) (S.octets file) part.prefix
    part.length (S.number file) c.messages.count c.messages.time part.messages c.args.templates.now c.messages.templates
    c.messages.window c.advance.new.window c.if-not-branch.true c.messages.invariant.0 c.in_ok-advance.ensures.step h
    messages are
