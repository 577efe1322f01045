use Rattle.std.proofs.Common.{[], ◌∷◌, refl, ap, arith}
use Rattle.std.proofs.Output.{has_written_append, has_written_of_eq, writes_in_calls_nil}
use Rattle.std.proofs.lemmas.List.{take_all}
use Rattle.flow_commands.proofs.WarningParts.{parts_text, separator_more, separator_same, text_more, text_same}
use Rattle.flow_commands.proofs.warning.LacksDisplay.fmt.Goals.{in-Some+in_ok-write, in_default}
use Rattle.flow_commands.proofs.warning.LacksDisplay.fmt.Goals as goal

pub parts-init : goal.parts-init
parts-init g c = (([], (refl, refl)), refl, λ plain. record { wrote = writes_in_calls_nil _ _; plain = plain })

pub parts-preserved : goal.parts-preserved
unfolding lib.Utf8.encode
parts-preserved g c =
    let (text, separated, written) = c.parts.invariant in
    let parts = c.args.self.now.parts in
    let i = c.parts.part-index in
    elim c.match-part.branch [
      | in-Some+in_ok-write w ↦ rw (w.before-is, w.f-is) (
        (59 ∷ 32 ∷ [], (refl, refl)),
        separator_more parts i _ w.in-Some.is,
        λ plain. let so_far = written plain in
            has_written_of_eq _ _ _ _ _ (text_more parts i _ _ w.in-Some.is separated)
            (has_written_append _ _ _ _ _ _ so_far (w.in_ok-write.ensures.writes so_far.plain refl)),
      )
      | in_default w ↦ rw (w.before-is, w.f-is) (
        text,
        separator_same parts i _ w.in_default.is separated,
        λ plain. has_written_of_eq _ _ _ _ _ (text_same parts i w.in_default.is) (written plain),
      )
    ]

pub returns-clause-writes : goal.returns-clause-writes
returns-clause-writes g c plain ok =
    let end = c.parts-test.false in
    has_written_of_eq _ _ _ _ _
    (ap parts_text (take_all c.parts.part-index c.args.self.now.parts (omega (arith, end))))
    (c.parts.invariant.2 plain)
