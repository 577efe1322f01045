use Rattle.std.proofs.Common.{◌∙◌, refl, sym}
use Rattle.flow_recover.proofs.Accepting.{misplaced_none}
use Rattle.flow_recover.proofs.segments.take_message.Goals as goal

pub returns-then-is_misplaced-clause-refused : goal.returns-then-is_misplaced-clause-refused
returns-then-is_misplaced-clause-refused c a is kind =
    absurd (misplaced_none c.args.section c.in-Ok.bare c.args.octets.now c.args.carry.now c.restate.new.self
    (sym c.is_misplaced.ensures ∙ c.if-is_misplaced.true) c.in-Ok.ensures.taken
    a is kind)

pub returns-in-Err-clause-refused : goal.returns-in-Err-clause-refused
returns-in-Err-clause-refused c a is kind =
    c.told.ensures.memory (c.in-Err.ensures.only
    (record { octets = c.args.octets.now; message = a.message; after = a.after }) refl is)
