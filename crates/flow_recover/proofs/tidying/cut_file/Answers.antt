use Rattle.std.proofs.Common.{IsTrue, refl, sym, ◌∙◌, subst}
use Rattle.flow_disk.specs.Disk.{InFile}
use Rattle.flow_disk.proofs.Calls.{starts, stays}
use Rattle.flow_disk.proofs.Moments.{both}
use Rattle.flow_segment.specs.Steps.{KeepsFront}
use Rattle.flow_recover.proofs.Recovering.{keeps_same, keeps_then}
use Rattle.flow_recover.proofs.tidying.cut_file.Goals as goal

pub returns-in_err-size-clause-any_moment : goal.returns-in_err-size-clause-any_moment
returns-in_err-size-clause-any_moment g c h =
    let D = g.D.Disk in
    let d0 = c.args.disk.now in
    let f = c.args.file in
    let Q = KeepsFront c.args.length in
    let d1 = c.length.new.self in
    let run0 = starts D d0 f Q (λ image left. g.met.D.Disk.only_now d0 image h left)
    (λ b is. keeps_same c.args.length b) in
    let run1 = stays D d0 d0 d1 f Q run0 (λ n differs. refl) (c.length.ensures.time h)
    (λ b is. (b, is, keeps_same c.args.length b)) in
    run1

pub returns-then-length-size-clause-any_moment : goal.returns-then-length-size-clause-any_moment
returns-then-length-size-clause-any_moment g c h =
    let D = g.D.Disk in
    let d0 = c.args.disk.now in
    let f = c.args.file in
    let Q = KeepsFront c.args.length in
    let d1 = c.length.new.self in
    let run0 = starts D d0 f Q (λ image left. g.met.D.Disk.only_now d0 image h left)
    (λ b is. keeps_same c.args.length b) in
    let run1 = stays D d0 d0 d1 f Q run0 (λ n differs. refl) (c.length.ensures.time h)
    (λ b is. (b, is, keeps_same c.args.length b)) in
    run1

pub returns-else-length-size-2-clause-any_moment : goal.returns-else-length-size-2-clause-any_moment
returns-else-length-size-2-clause-any_moment g c h =
    let D = g.D.Disk in
    let d0 = c.args.disk.now in
    let f = c.args.file in
    let Q = KeepsFront c.args.length in
    let d1 = c.length.new.self in
    let run0 = starts D d0 f Q (λ image left. g.met.D.Disk.only_now d0 image h left)
    (λ b is. keeps_same c.args.length b) in
    let run1 = stays D d0 d0 d1 f Q run0 (λ n differs. refl) (c.length.ensures.time h)
    (λ b is. (b, is, keeps_same c.args.length b)) in
    run1

pub returns-in_err-seal_tail-clause-any_moment : goal.returns-in_err-seal_tail-clause-any_moment
returns-in_err-seal_tail-clause-any_moment g c h =
    let D = g.D.Disk in
    let d0 = c.args.disk.now in
    let f = c.args.file in
    let Q = KeepsFront c.args.length in
    let d1 = c.length.new.self in
    let run0 = starts D d0 f Q (λ image left. g.met.D.Disk.only_now d0 image h left)
    (λ b is. keeps_same c.args.length b) in
    let run1 = stays D d0 d0 d1 f Q run0 (λ n differs. refl) (c.length.ensures.time h)
    (λ b is. (b, is, keeps_same c.args.length b)) in
    let h1 = subst IsTrue (sym c.length.ensures.honest) h in
    both D d0 d1 c.seal_tail.new.disk (InFile f Q) (InFile f Q) (InFile f Q) run1
    (c.seal_tail.ensures.any_moment h1)
    (λ image is. g.met.D.Disk.counts_now d1 (D.moment d0) image h1 run1.later is) (λ a b step. step)
    (λ a b x one two. record {
      others = λ n differs. two.others n differs
          ∙ one.others n differs;
      here = keeps_then c.args.length (a f) (b f) (x f) one.here two.here;
    })

pub returns-in_ok-seal_tail-clause-any_moment : goal.returns-in_ok-seal_tail-clause-any_moment
returns-in_ok-seal_tail-clause-any_moment g c h =
    let D = g.D.Disk in
    let d0 = c.args.disk.now in
    let f = c.args.file in
    let Q = KeepsFront c.args.length in
    let d1 = c.length.new.self in
    let run0 = starts D d0 f Q (λ image left. g.met.D.Disk.only_now d0 image h left)
    (λ b is. keeps_same c.args.length b) in
    let run1 = stays D d0 d0 d1 f Q run0 (λ n differs. refl) (c.length.ensures.time h)
    (λ b is. (b, is, keeps_same c.args.length b)) in
    let h1 = subst IsTrue (sym c.length.ensures.honest) h in
    both D d0 d1 c.seal_tail.new.disk (InFile f Q) (InFile f Q) (InFile f Q) run1
    (c.seal_tail.ensures.any_moment h1)
    (λ image is. g.met.D.Disk.counts_now d1 (D.moment d0) image h1 run1.later is) (λ a b step. step)
    (λ a b x one two. record {
      others = λ n differs. two.others n differs
          ∙ one.others n differs;
      here = keeps_then c.args.length (a f) (b f) (x f) one.here two.here;
    })

pub returns-in_err-size-clause-other_files : goal.returns-in_err-size-clause-other_files
returns-in_err-size-clause-other_files g c h n differs = c.length.ensures.held h n

pub returns-then-length-size-clause-other_files : goal.returns-then-length-size-clause-other_files
returns-then-length-size-clause-other_files g c h n differs = c.length.ensures.held h n

pub returns-in_err-seal_tail-clause-other_files : goal.returns-in_err-seal_tail-clause-other_files
returns-in_err-seal_tail-clause-other_files g c h n differs = c.seal_tail.ensures.call.other_files
    (subst IsTrue (sym c.length.ensures.honest)
    h) n differs ∙ c.length.ensures.held h n
