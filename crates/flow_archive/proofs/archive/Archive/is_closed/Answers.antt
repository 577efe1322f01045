use Rattle.std.proofs.Common.{refl}
use Rattle.flow_manifest.specs.Following.{front_of}
use Rattle.flow_archive.specs.Frozen.{octets_in}
use Rattle.flow_archive.proofs.Changed.{position_is}
use Rattle.flow_archive.proofs.Inside.{state_of}
use Rattle.flow_archive.proofs.Owning.{as_many}
use Rattle.flow_archive.proofs.Parting.{parts_many}
use Rattle.flow_archive.proofs.archive.Archive.is_closed.Goals as goal

pub returns-clause-parts : goal.returns-clause-parts
returns-clause-parts g c =
    let D = g.D.Disk in
    let inside = c.self.inside in
    let front = front_of inside.slots.current in
    rw (← c.self.view_is) (parts_many octets_in front inside.files.items
    (as_many (D.honest inside.disk) front inside.files.items (c.self.invariant.0).files_are))

pub returns-clause-counted : goal.returns-clause-counted
returns-clause-counted g c =
    let D = g.D.Disk in
    let inside = c.self.inside in
    let front = front_of inside.slots.current in
    rw (← c.self.view_is) (position_is (state_of inside) inside.files.items (c.self.invariant.0).counted.valid
    (as_many (D.honest inside.disk) front inside.files.items (c.self.invariant.0).files_are) refl)
