use Rattle.flow_segment.proofs.Parts.{held_next}
use Rattle.flow_segment.proofs.part.step.Goals as goal

pub returns-in-Ok-clause-held : goal.returns-in-Ok-clause-held
returns-in-Ok-clause-held c =
    held_next c.args.window.now c.pass.new.self c.pass-in-Ok.new.self c.ahead-2.result.now c.in-Ok.length c.args.file
    c.pass.ensures c.pass-in-Ok.ensures c.ahead-2.ensures.value c.in-Ok.ensures.found
