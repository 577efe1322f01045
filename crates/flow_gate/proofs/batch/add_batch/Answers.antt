use Rattle.std.proofs.Common.{ℕ, List, IsTrue, sym, subst, ◌∙◌}
use Rattle.flow_disk.specs.Disk.{InFile, ComesOf}
use Rattle.flow_disk.proofs.Moments.{Reached, by, stopped, arrive}
use Rattle.flow_disk.specs.Calls.{LeavesOnly}
use Rattle.flow_gate.specs.Steps.{KeepsLists, Places, MayAdd, Adds, slices}
use Rattle.flow_gate.proofs.Adding.{kept_may_add, kept_then_may_add, kept_then_adds}
use Rattle.flow_gate.proofs.batch.add_batch.Given.{Over}
use Rattle.flow_gate.proofs.batch.add_batch.Goals.{After-place_batch, In_ok-place_batch}
use Rattle.flow_gate.proofs.batch.add_batch.Goals as goal

-- a stop inside the first call
placing : (g : Over) (c : After-place_batch g) → IsTrue (g.D.Disk.honest c.args.disk.now)
    → LeavesOnly g.D.Disk c.args.disk.now c.place_batch.new.disk (ComesOf (g.D.Disk.held c.args.disk.now)
    (InFile c.args.file (MayAdd c.args.end (slices c.args.messages.now))))
placing g c h = by g.D.Disk _ _ _ _ (c.place_batch.ensures.any_moment h) (λ image came. (
  came.0,
  came.1,
  let step = came.2 in
      record { others = step.others; here = kept_may_add _ _ (came.0 c.args.file) (image c.args.file) step.here },
))

-- after it
placed : (g : Over) (c : In_ok-place_batch g) → IsTrue (g.D.Disk.honest c.args.disk.now)
    → LeavesOnly g.D.Disk c.args.disk.now c.place_batch.new.disk (ComesOf (g.D.Disk.held c.args.disk.now)
    (InFile c.args.file (MayAdd c.args.end (slices c.args.messages.now))))
    → Reached g.D.Disk c.args.disk.now c.place_batch.new.disk (ComesOf (g.D.Disk.held c.args.disk.now)
    (InFile c.args.file (MayAdd c.args.end (slices c.args.messages.now))))
    (ComesOf (g.D.Disk.held c.args.disk.now) (InFile c.args.file (Places c.args.end (slices c.args.messages.now))))
placed g c h run = record {
  honest = subst IsTrue (sym c.place_batch.ensures.call.honest) h;
  run = run;
  here = c.in_ok-place_batch.ensures.after h;
}

-- one more file of the batch: the second call after the first
may_add : (f end : ℕ) (ms : List (List ℕ)) (x a b : ℕ → List ℕ) → InFile f (Places end ms) x a
    → InFile f (MayAdd end ms) a b → InFile f (MayAdd end ms) x b
may_add f end ms x a b one two = record {
  others = λ n differs. two.others n differs ∙ one.others n differs;
  here = let here = one.here in kept_then_may_add end ms (x f) (a f) (b f) here.kept two.here;
}

pub returns-in_err-place_batch-clause-any_moment : goal.returns-in_err-place_batch-clause-any_moment
returns-in_err-place_batch-clause-any_moment g c h =
    placing g (goal.at.returns-in_err-place_batch-clause-any_moment g c).After-place_batch h

pub returns-in_err-open_gate-clause-any_moment : goal.returns-in_err-open_gate-clause-any_moment
returns-in_err-open_gate-clause-any_moment g c h =
    let at = goal.at.returns-in_err-open_gate-clause-any_moment g c in
    stopped (placed g at.In_ok-place_batch h (placing g at.After-place_batch h))
    (λ h1. c.open_gate.ensures.any_moment h1 (slices c.args.messages.now) (c.in_ok-place_batch.ensures.placed h))
    (λ a b came step. (came.0, came.1, may_add _ _ _ came.0 a b came.2 step))

pub returns-clause-any_moment : goal.returns-clause-any_moment
returns-clause-any_moment g c h =
    let at = goal.at.returns-clause-any_moment g c in
    stopped (placed g at.In_ok-place_batch h (placing g at.After-place_batch h))
    (λ h1. c.open_gate.ensures.any_moment h1 (slices c.args.messages.now) (c.in_ok-place_batch.ensures.placed h))
    (λ a b came step. (came.0, came.1, may_add _ _ _ came.0 a b came.2 step))

pub returns-clause-after : goal.returns-clause-after
returns-clause-after g c h image is =
    let D = g.D.Disk in
    let d0 = c.args.disk.now in
    let f = c.args.file in
    let end = c.args.end in
    let ms = slices c.args.messages.now in
    let h1 = subst IsTrue (sym c.place_batch.ensures.call.honest) h in
    let opened = c.in_ok-open_gate.ensures.after h1 ms (c.in_ok-place_batch.ensures.placed h) image is in
    let placed = c.in_ok-place_batch.ensures.after h opened.0 opened.1 in
    let two = opened.2 in
    let one = placed.2 in
    let keeps = (one.here).kept in (
      placed.0,
      placed.1,
      record {
        others = λ n differs. two.others n differs ∙ one.others n differs;
        here =
            kept_then_adds end ms (placed.0 f) (opened.0 f) (image f) keeps two.here;
      },
    )
