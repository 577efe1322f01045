use Rattle.flow_measure.proofs.Noting.{noted_at}
use Rattle.flow_measure.proofs.entries.is_noted.Goals as goal

pub returns-in-Some-Added : goal.returns-in-Some-Added
returns-in-Some-Added c = λ same.
    let at = c.in-Some-Added.ensures.lookup in
    noted_at c.args.changes.now c.in-Some.at.now c.in-Some-Added.here c.args.place c.in-Some-Added.field-0-1
    c.in-Some-Added.field-0.now at.3.0 at.1 c.in-Some-Added.field-0-is same
