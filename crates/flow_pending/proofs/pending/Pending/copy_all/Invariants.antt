use Rattle.std.proofs.Common.{◌≡◌, ℕ, ◌<◌, false, IsTrue, get_or}
use Rattle.flow_directory.specs.File.{octet}
use Rattle.flow_pending.specs.declared.ranges.Range.{Range}
use Rattle.flow_pending.specs.Written.{IsWithin}
use Rattle.flow_pending.specs.Tracked.{Repairs, IsRemembered}
use Rattle.flow_pending.proofs.pending.Pending.copy_all.Given as goal

abbrev pub invariant-all : goal.invariant-all
invariant-all g l = record {
  honest : g.D.Directory.honest l.dir ≡ g.D.Directory.honest l.fn.dir;
  repairs : IsTrue (g.D.Directory.honest l.fn.dir)
      → Repairs g.D.Directory.files g.D.Directory.moment g.D.Directory.left_since l.fn.dir l.dir l.self.file;
  remembered : IsTrue (g.D.Directory.honest l.fn.dir) → IsRemembered (g.D.Directory.files l.dir l.self.file) l.self;
  mended : IsTrue (g.D.Directory.honest l.fn.dir) → (k : ℕ) (other : Range) (place : ℕ) → k < l.range-index
      → get_or l.range-items k other ≡ other → IsWithin other place
      → (g.D.Directory.files l.dir l.self.file).lost (octet place) ≡ false;
}
