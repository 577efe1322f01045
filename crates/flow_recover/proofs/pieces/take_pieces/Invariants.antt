use Rattle.std.proofs.Common.{◌≡◌, ◌-◌, ◌≤◌, ◌+◌, IsTrue, take, drop}
use Rattle.std.specs.Prelude.{is_some}
use Rattle.flow_codec.specs.Fault.{IsOctets}
use Rattle.flow_codec.specs.Message.{joined}
use Rattle.flow_disk.specs.Disk.{Stays}
use Rattle.flow_segment.specs.Carry.{octets_of}
use Rattle.flow_segment.proofs.Restating.{Behind}
use Rattle.flow_recover.specs.declared.segments.Section.TheVariants.{Messages}
use Rattle.flow_recover.specs.Reading.{IsOnlyRead}
use Rattle.flow_recover.proofs.Accepting.{IsSoFar}
use Rattle.flow_recover.proofs.pieces.take_pieces.Given as goal

abbrev pub invariant-pieces : goal.invariant-pieces
invariant-pieces g l = let D = g.D.Disk in
    let octets = take l.entry.length (D.held l.fn.disk l.entry.file).reads in record {
      keeps : IsOnlyRead D l.fn.disk l.disk;
      marks : Stays (D.marks l.fn.disk) (D.marks l.disk);
      faults : D.faults l.disk ≡ D.faults l.fn.disk;
      from : l.entry.prefix ≤ l.at;
      within : l.at ≤ l.entry.length;
      few : l.entry.prefix + l.count ≤ l.at;
      noting : is_some l.span ≡ is_some l.fn.span;
      so_far : IsTrue (D.honest l.fn.disk)
          → (read : Behind (IsSoFar Messages l.fn.carry l.carry l.count l.fn.span l.span) (drop l.entry.prefix octets)
          l.entry.prefix l.fn.carry.templates l.carry.templates l.at (drop l.at octets))
          × IsOctets (joined (octets_of read.messages));
    }

abbrev pub decreases-pieces : goal.decreases-pieces
decreases-pieces g l = l.entry.length - l.at
