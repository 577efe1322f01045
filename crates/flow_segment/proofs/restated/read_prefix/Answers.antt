use Rattle.std.proofs.Common.{◌∙◌}
use Rattle.flow_refusals.specs.declared.read_refusal.ReadRefusal.{ReadRefusal}
use Rattle.flow_segment.specs.Prefix.{IsPrefixToldOf}
use Rattle.flow_segment.specs.Segment.{part_octets}
use Rattle.flow_segment.proofs.Carrying.{err_of}
use Rattle.flow_segment.proofs.Restating.{moves_within, prefix_more, prefix_told}
use Rattle.flow_segment.proofs.restated.read_prefix.Goals as goal

pub messages-preserved : goal.messages-preserved
messages-preserved g c =
    let S = g.S.SealedFile in
    let file = c.args.part.now.reader in (
      prefix_more (S.honest file) (S.octets file) c.args.part.now.prefix (S.number file) c.file.result
          c.place-at.result
          c.in_ok-advance.field-0
          c.messages.templates c.restate.new.templates c.messages.window c.advance.new.window c.held.result.now
          c.if-not-branch.false c.messages.invariant.0 c.in_ok-advance.ensures.moves c.in_ok-advance.ensures.step
          c.held.ensures c.in_ok-restate.ensures,
      c.in_ok-advance.ensures.end ∙ c.messages.invariant.1,
      moves_within c.messages.window c.advance.new.window c.in_ok-advance.field-0 c.if-not-branch.false
          c.in_ok-advance.ensures.moves,
      c.in_ok-advance.ensures.cause.done ∙ c.messages.invariant.3,
    )

pub returns-in_err-restate-clause-told : goal.returns-in_err-restate-clause-told
returns-in_err-restate-clause-told g c = λ h.
    let S = g.S.SealedFile in
    let file = c.args.part.now.reader in
    err_of {X = Unit {0}} {E = ReadRefusal} c.from_residual-in_err-restate.result c.in_err-restate.field-0.0
    (λ e. IsPrefixToldOf (part_octets 0 c.args.part.now.prefix (S.octets file)) (S.number file) e)
    c.from_residual-in_err-restate.ensures.1
    (prefix_told (S.honest file) (S.octets file) c.args.part.now.prefix (S.number file) c.file.result
    c.place-at.result c.in_ok-advance.field-0
    c.messages.templates c.restate.new.templates c.messages.window c.advance.new.window c.held.result.now
    c.in_err-restate.field-0.0
    c.if-not-branch.false c.messages.invariant.0 c.in_ok-advance.ensures.moves c.in_ok-advance.ensures.step
    c.held.ensures c.file.ensures c.place-at.ensures.place c.in_err-restate.ensures h)
