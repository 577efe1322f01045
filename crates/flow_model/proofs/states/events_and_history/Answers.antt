use Rattle.flow_model.proofs.Following.{starts}
use Rattle.flow_model.proofs.History.{append_follows, seal_follows}
use Rattle.flow_model.proofs.states.events_and_history.Goals as goal

pub returns-clause-added : goal.returns-clause-added
returns-clause-added c = λ s carry more h valid hands accepted has.
    append_follows s carry more h valid hands accepted has

pub returns-clause-sealed : goal.returns-clause-sealed
returns-clause-sealed c = λ s carry h valid hands some has. seal_follows s carry h valid hands some has

pub returns-clause-start : goal.returns-clause-start
returns-clause-start c = λ width wide limit positive also multiple.
    let new = starts width wide positive also multiple in
    record { history = new.0; view = new.1 }
