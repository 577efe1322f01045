use Rattle.std.proofs.Common.{refl, sym, ◌∙◌}
use Rattle.flow_memory_disk.proofs.Turns.{refused_cause, passed_cause, failing, passing, no_time}
use Rattle.flow_memory_disk.proofs.failing.FailingDiskDisk.read_into.Goals as goal

pub returns-then-fails-clause-time : goal.returns-then-fails-clause-time
returns-then-fails-clause-time g c = λ is. no_time _ _ _

pub returns-then-fails-clause-cause : goal.returns-then-fails-clause-cause
returns-then-fails-clause-cause g c = refused_cause _ _ _ c.fails.ensures.later (c.fails.ensures.risen c.if-fails.true)

pub returns-then-fails-clause-turn : goal.returns-then-fails-clause-turn
returns-then-fails-clause-turn g c =
    failing _ _ _ _ _ c.fails.ensures.once refl refl (c.fails.ensures.failing c.if-fails.true)
    (sym c.if-fails.true ∙ c.fails.ensures.fails)

pub returns-clause-cause : goal.returns-clause-cause
returns-clause-cause g c = passed_cause _ _ _ _ _ (c.fails.ensures.passing c.if-fails.false) c.read_into.ensures.cause

pub returns-clause-turn : goal.returns-clause-turn
returns-clause-turn g c =
    passing _ _ _ _ _ _ c.fails.ensures.once refl (c.fails.ensures.passing c.if-fails.false)
    (sym c.if-fails.false ∙ c.fails.ensures.fails) c.read_into.ensures.cause
