-- What a directory promises whose calls aren't known to keep their rules: nothing.
use Rattle.std.specs.Prelude.{false, [], IsTrue}
use Rattle.std.proofs.lemmas.Bool.{false≢true}
use Rattle.flow_disk.specs.Disk.{settled_at}
use Rattle.flow_directory.specs.File.{File}

pub never : {A : Type 0} → IsTrue false → A
never is = absurd (false≢true is)

-- a file of which nothing is known
abbrev pub nothing : File
nothing = record {
  held = settled_at [];
  linked = false;
  read_only = false;
  lent = false;
  dirty = λ part. false;
  lost = λ part. false;
}
