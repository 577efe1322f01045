use Rattle.std.proofs.Common.{refl, sym, ◌∙◌}
use Rattle.flow_memory_disk.proofs.Turns.{refused, passed, any_cause, failing, passing, no_time, ok_too, err_too}
use Rattle.flow_memory_disk.proofs.failing.FailingDiskDisk.freeze.Goals as goal

pub returns-then-fails-clause-time : goal.returns-then-fails-clause-time
returns-then-fails-clause-time g c = λ is. no_time _ _ _

pub returns-then-fails-clause-cause : goal.returns-then-fails-clause-cause
returns-then-fails-clause-cause g c = refused _ _ _ c.fails.ensures.later (c.fails.ensures.risen c.if-fails.true)

pub returns-then-fails-clause-turn : goal.returns-then-fails-clause-turn
returns-then-fails-clause-turn g c =
    failing _ _ _ _ _ c.fails.ensures.once refl refl (c.fails.ensures.failing c.if-fails.true)
    (sym c.if-fails.true ∙ c.fails.ensures.fails)

pub returns-in-Ok-clause-cause : goal.returns-in-Ok-clause-cause
returns-in-Ok-clause-cause g c =
    passed _ _ _ _ _ (c.fails.ensures.passing c.if-fails.false) (ok_too _ _ _ _ c.in-Ok.ensures.cause)

pub returns-in-Ok-clause-turn : goal.returns-in-Ok-clause-turn
returns-in-Ok-clause-turn g c =
    passing _ _ _ _ _ _ c.fails.ensures.once refl (c.fails.ensures.passing c.if-fails.false)
    (sym c.if-fails.false ∙ c.fails.ensures.fails) (any_cause _ _ _ (ok_too _ _ _ _ c.in-Ok.ensures.cause))

pub returns-in-Err-clause-cause : goal.returns-in-Err-clause-cause
returns-in-Err-clause-cause g c =
    passed _ _ _ _ _ (c.fails.ensures.passing c.if-fails.false) (err_too _ _ _ c.in-Err.ensures.cause)

pub returns-in-Err-clause-turn : goal.returns-in-Err-clause-turn
returns-in-Err-clause-turn g c =
    passing _ _ _ _ _ _ c.fails.ensures.once refl (c.fails.ensures.passing c.if-fails.false)
    (sym c.if-fails.false ∙ c.fails.ensures.fails) (any_cause _ _ _ (err_too _ _ _ c.in-Err.ensures.cause))
