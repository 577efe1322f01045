use Rattle.std.proofs.Common.{◌≤◌, length, subst, sym, arith, refl, inl, Bool}
use Rattle.flow_manifest.specs.Slots.{HasSomeGate, SetsGate, MayClose, Closes, HasGate, IsOpen}
use Rattle.flow_disk.specs.Disk.{AllImages, ComesOf, InFile}
use Rattle.flow_disk.proofs.Calls.{comes, starts}
use Rattle.flow_disk.proofs.Results.{on_ok_by}
use Rattle.flow_manifest.proofs.Gates.{may_close, run_in_words, after_in_words}
use Rattle.flow_manifest.proofs.swap.close_slot.Goals as goal

pub returns-clause-any_moment : goal.returns-clause-any_moment
returns-clause-any_moment g c h =
    let D = g.D.Disk in
    let d = c.args.disk.now in
    let file = c.args.file in
    let some : 1 ≤ length (D.held d file).reads = omega (arith, c.requires.room, g.met.D.Disk.has_size d file h) in
    let was : IsOpen (D.held d file).reads =
    subst (λ (o : Bool). HasGate o (D.held d file).reads) c.if-not-was_open.false (c.requires.gate h) in
    run_in_words D d c.write_gate.new.disk file HasSomeGate MayClose
    (λ a b is. may_close (D.held d file).reads a b
    (g.met.D.Disk.settled_alone d file a h c.requires.settled is) some was) (c.write_gate.ensures.any_moment h)

pub returns-clause-after : goal.returns-clause-after
returns-clause-after g c h =
    let D = g.D.Disk in
    let d = c.args.disk.now in
    let file = c.args.file in
    let new = c.write_gate.new.disk in
    on_ok_by c.write_gate.result (AllImages (D.held new) (ComesOf (D.held d) (InFile file (SetsGate 0))))
    (AllImages (D.held new) (ComesOf (D.held d) (InFile file (Closes c.args.was_open))))
    (after_in_words D d new file (SetsGate 0) (Closes c.args.was_open)
    (λ a b is sets. subst (λ (o : Bool). Closes o a b) (sym c.if-not-was_open.false) sets))
    (c.write_gate.ensures.after h)

pub returns-then-not-was_open-clause-any_moment : goal.returns-then-not-was_open-clause-any_moment
returns-then-not-was_open-clause-any_moment g c h =
    let D = g.D.Disk in
    starts D c.args.disk.now c.args.file MayClose
    (λ image. g.met.D.Disk.only_now c.args.disk.now image h) (λ a is. inl refl)

pub returns-then-not-was_open-clause-after : goal.returns-then-not-was_open-clause-after
returns-then-not-was_open-clause-after g c h =
    let D = g.D.Disk in
    comes (D.held c.args.disk.now) (D.held c.args.disk.now) c.args.file (Closes c.args.was_open) (λ n differs. refl)
    (λ b is. (b, is, subst (λ (o : Bool). Closes o b b) (sym c.if-not-was_open.true) refl))
