use Rattle.flow_manifest.specs.Slots.{HasSomeGate, MayOpen}
use Rattle.flow_manifest.proofs.Gates.{may_open, run_in_words}
use Rattle.flow_manifest.proofs.swap.open_slot.Goals as goal

pub returns-clause-any_moment : goal.returns-clause-any_moment
returns-clause-any_moment g c h = let D = g.D.Disk in
    run_in_words D c.args.disk.now c.write_gate.new.disk c.args.file HasSomeGate MayOpen
    (λ a b is. may_open a b) (c.write_gate.ensures.any_moment h)
