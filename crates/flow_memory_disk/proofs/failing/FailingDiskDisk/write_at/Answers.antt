use Rattle.std.proofs.Common.{refl, sym, ◌∙◌}
use Rattle.std.proofs.lemmas.Bool.{false≢true}
use Rattle.flow_memory_disk.proofs.Halves.{fewer, marked, written, elapsed}
use Rattle.flow_memory_disk.proofs.Turns.{passed, refused_too}
use Rattle.flow_memory_disk.proofs.failing.FailingDiskDisk.write_at.Goals as goal

pub returns-then-fails-clause-marks : goal.returns-then-fails-clause-marks
returns-then-fails-clause-marks g c = marked _ _ _ _ _ _ _ c.write_at.ensures.marks

pub returns-then-fails-clause-held : goal.returns-then-fails-clause-held
returns-then-fails-clause-held g c = λ is.
    written _ _ _ _ _ c.args.octets.now _ _ (fewer _ c.args.octets.now) (c.write_at.ensures.held is)

pub returns-then-fails-clause-time : goal.returns-then-fails-clause-time
returns-then-fails-clause-time g c = λ is.
    elapsed _ _ _ _ (g.D.Disk.held c.args.self.now.disk) c.args.file c.args.at _ c.args.octets.now
    (fewer _ c.args.octets.now) (c.write_at.ensures.time is)

pub returns-then-fails-clause-cause : goal.returns-then-fails-clause-cause
returns-then-fails-clause-cause g c =
    refused_too _ _ _ _ _ c.fails.ensures.later (c.fails.ensures.risen c.if-fails.true) c.write_at.ensures.cause

pub returns-then-fails-clause-half : goal.returns-then-fails-clause-half
returns-then-fails-clause-half g c = λ fail. (
  c.write_at.result,
  record {
    kept = c.write_at.ensures.marks;
    written = c.write_at.ensures.held;
    cause = c.write_at.ensures.cause;
  },
)

pub returns-then-fails-clause-failing : goal.returns-then-fails-clause-failing
returns-then-fails-clause-failing g c = λ fail. (refl, c.fails.ensures.failing c.if-fails.true)

pub returns-then-fails-clause-passing : goal.returns-then-fails-clause-passing
returns-then-fails-clause-passing g c =
    λ pass. absurd (false≢true (sym pass ∙ sym c.fails.ensures.fails ∙ c.if-fails.true))

pub returns-clause-cause : goal.returns-clause-cause
returns-clause-cause g c = passed _ _ _ _ _ (c.fails.ensures.passing c.if-fails.false) c.write_at-2.ensures.cause

pub returns-clause-half : goal.returns-clause-half
returns-clause-half g c =
    λ fail. absurd (false≢true (sym c.if-fails.false ∙ c.fails.ensures.fails ∙ fail))

pub returns-clause-failing : goal.returns-clause-failing
returns-clause-failing g c =
    λ fail. absurd (false≢true (sym c.if-fails.false ∙ c.fails.ensures.fails ∙ fail))

pub returns-clause-passing : goal.returns-clause-passing
returns-clause-passing g c = λ pass. (
  c.fails.ensures.passing c.if-fails.false,
  record {
    kept = c.write_at-2.ensures.marks;
    written = c.write_at-2.ensures.held;
    cause = c.write_at-2.ensures.cause;
  },
)
