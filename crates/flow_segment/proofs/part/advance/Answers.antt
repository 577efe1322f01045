use Rattle.flow_segment.proofs.Parts.{filled_step, held_holds}
use Rattle.flow_segment.proofs.part.advance.Goals as goal

pub returns-clause-step : goal.returns-clause-step
returns-clause-step g c = λ honest on.
    let F = g.F.SealedFile in
    let fill = c.in_ok-fill.ensures in
    let e = c.step.ensures in
    filled_step (F.octets c.args.file.now) (F.number c.args.file.now) c.file.result c.args.window.now c.fill.new.self
    c.step.new.window c.step.result fill.filled.place fill.filled.end (fill.on honest on) c.file.ensures e.ready
    e.within e.field e.held

pub returns-clause-holds : goal.returns-clause-holds
returns-clause-holds g c =
    held_holds c.file.result c.args.window.now c.fill.new.self c.step.new.window c.step.result c.step.ensures.held
