-- A directory after the power was cut.
use Rattle.std.specs.Prelude.{◌≡◌, ℕ, ◌<◌, ◌≤◌, ◌++◌, ◌∷◌, [], false, List, length, reverse}
use Rattle.flow_disk.specs.Disk.{Held, settled_at}
use Rattle.flow_directory.specs.File.{Part, File}
use Rattle.flow_memory_directory.specs.declared.deed.Deed.{Deed}
use Rattle.flow_memory_directory.specs.Bound.{file_of, made, bound}
use Rattle.flow_memory_directory.specs.declared.node.Node.{Node}
use Rattle.flow_memory_directory.specs.Nodes.{looked, octets_in, device_in, file_in, no_file, NodeRestores}

-- all of it is on the device, and it isn't lent
pub record IsRestored (file : File) : Type 0 where
  pub held : file.held ≡ settled_at file.held.reads
  pub clean : (part : Part) → (file.dirty part ≡ false) × (file.lost part ≡ false)
  pub lent : file.lent ≡ false

-- a node was added, as the power cut leaves this one, and the call that settles it
pub record Appends (old : Node) (file : ℕ) (nodes now_nodes : List Node) (log now_log : List Deed) : Type 0 where
  pub node : Node
  pub deed : Deed
  pub nodes_are : now_nodes ≡ nodes ++ node ∷ []
  pub log_is : now_log ≡ log ++ deed ∷ []
  pub restores : NodeRestores old node
  pub file_is : file_of deed ≡ file
  pub made_is : (held : Held) → made held deed ≡ settled_at (octets_in node)

-- nothing of it waits or is lost, and it isn't lent
pub record IsQuietFile (file : File) : Type 0 where
  pub clean : (part : Part) → (file.dirty part ≡ false) × (file.lost part ≡ false)
  pub lent : file.lent ≡ false

-- the first k of these files, as the power cut leaves them, and the calls that settle them
pub record RestoredSoFar (old : List Node) (deeds : List Deed) (k : ℕ) (nodes : List Node) (log : List Deed) : Type 0
  where
    pub long : length nodes ≡ k
    pub within : k ≤ length old
    pub octets : (n : ℕ) → n < k → looked octets_in [] nodes n ≡ looked device_in [] old n
    pub device : (n : ℕ) → n < k → looked device_in [] nodes n ≡ looked device_in [] old n
    pub settled : (n : ℕ) → n < k → bound (reverse log) n ≡ settled_at (looked octets_in [] nodes n)
    pub rest : (n : ℕ) → k ≤ n → bound (reverse log) n ≡ bound deeds n
    pub quiet : (h : Held) (n : ℕ) → n < k → IsQuietFile (looked (file_in h) (no_file h) nodes n)
