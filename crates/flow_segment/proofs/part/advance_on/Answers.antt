use Rattle.std.proofs.Common.{◌≡◌, ◌∙◌, ap, refl, subst, sym}
use Rattle.flow_disk.proofs.Moments.{started, goes_on}
use Rattle.flow_disk.specs.Disk.{IsDiskImage}
use Rattle.flow_disk.specs.Window.{Window, IsOn}
use Rattle.flow_segment.specs.Part.{IsPartStep}
use Rattle.flow_segment.proofs.Parts.{fed_on, filled_step, held_holds}
use Rattle.flow_segment.proofs.part.advance_on.Goals.{in-Some+in_ok-piece, in_default}
use Rattle.flow_segment.proofs.part.advance_on.Goals as goal

pub returns-in_err-piece-clause-any_moment : goal.returns-in_err-piece-clause-any_moment
returns-in_err-piece-clause-any_moment g c h =
    let D = g.D.Disk in
    let d0 = c.args.disk.now in
    let P = IsDiskImage (D.held d0) in
    goes_on D d0 d0 c.read.new.self P (D.held d0)
    (started D d0 P (λ image left. g.met.D.Disk.only_now d0 image h left))
    (c.read.ensures.time h) (λ image is. is)

pub returns-clause-any_moment : goal.returns-clause-any_moment
returns-clause-any_moment g c h =
    let D = g.D.Disk in
    let d0 = c.args.disk.now in
    let P = IsDiskImage (D.held d0) in
    let start = started D d0 P (λ image left. g.met.D.Disk.only_now d0 image h left) in
    elim c.match-missing.branch [
      | in-Some+in_ok-piece w ↦ rw w.disk-is
          (goes_on D d0 d0 w.read.new.self P (D.held d0) start (w.read.ensures.time h)
          (λ image is. is))
      | in_default w ↦ rw w.disk-is start
    ]

pub returns-clause-step : goal.returns-clause-step
returns-clause-step g c = λ honest on.
    let octets = (g.D.Disk.held c.args.disk.now c.args.file).reads in
    let file = c.args.file in
    let old = c.args.window.now in
    let mid = c.match-missing.window in
    let e = c.step.ensures in
    let stepped : mid.place ≡ old.place → mid.end ≡ old.end → IsOn octets mid
    → IsOn octets c.step.new.window × IsPartStep octets file old c.step.result c.step.new.window =
    λ place end on. filled_step octets file file old mid c.step.new.window c.step.result place end on refl e.ready
    e.within e.field e.held in
    elim c.match-missing.branch [
      | in-Some+in_ok-piece w ↦
          let is = w.window-is ∙ w.feed.ensures.fed in
          stepped (ap (λ (x : Window). x.place) is) (ap (λ (x : Window). x.end) is) (subst (IsOn octets) (sym is)
          (fed_on octets w.in_ok-piece.piece.items w.in-Some.count w.place.result old.place
          (w.in_ok-piece.ensures.octets honest) w.place.ensures.place))
      | in_default w ↦
          stepped (ap (λ (x : Window). x.place) w.window-is) (ap (λ (x : Window). x.end) w.window-is)
          (subst (IsOn octets) (sym w.window-is) on)
    ]

pub returns-clause-holds : goal.returns-clause-holds
returns-clause-holds g c =
    held_holds c.args.file c.args.window.now c.match-missing.window c.step.new.window c.step.result c.step.ensures.held
