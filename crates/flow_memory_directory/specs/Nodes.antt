-- What the fields of a node say of its file.
use Rattle.std.specs.Prelude.{◌≡◌, ◌≢◌, ℕ, zero, suc, ◌<◌, ◌≤◌, max, true, false, List, [], ◌∷◌}
use Rattle.std.specs.Prelude.{length, take, get_or, if◌then◌else◌}
use Rattle.flow_disk.specs.Disk.{Held, put_at}
use Rattle.flow_directory.specs.File.{Part, octet, size, entry, File}
use Rattle.flow_memory_directory.specs.declared.mark.Mark.{Mark}
use Rattle.flow_memory_directory.specs.declared.mark.Mark.TheVariants.{Clean, Dirty}
use Rattle.flow_memory_directory.specs.declared.node.Node.{Node}
use Rattle.flow_memory_directory.specs.Marks.{is_dirty, is_lost, after_sync, after_failure, mark_at, IsMarked}
use Rattle.flow_memory_directory.specs.Marks.{block_at}
use Rattle.flow_memory_directory.specs.Bound.{reading, IsBetween}

-- the mark of a part
abbrev pub mark_of : Node → Part → Mark
mark_of node (octet place) = mark_at node.marks.items place
mark_of node size = node.size
mark_of node entry = node.entry

-- what it reads as, and what the device has under its name
abbrev pub octets_in : Node → List ℕ
octets_in node = node.octets.items

abbrev pub device_in : Node → List ℕ
device_in node = take node.end node.blocks.items

-- the file, where a stop may leave this of it
abbrev pub file_in : Held → Node → File
file_in held node = record {
  held = reading held node.octets.items;
  linked = node.linked;
  read_only = node.read_only;
  lent = node.lent;
  dirty = λ part. is_dirty (mark_of node part);
  lost = λ part. is_lost (mark_of node part);
}

-- a file that the directory has no room for
abbrev pub no_file : Held → File
no_file held = record {
  held = reading held [];
  linked = false;
  read_only = false;
  lent = false;
  dirty = λ part. false;
  lost = λ part. false;
}

-- what a view gives of the node of this number, where there is one
abbrev pub looked : {A : Type 0} → (Node → A) → A → List Node → ℕ → A
looked view none [] n = none
looked view none (node ∷ nodes) zero = view node
looked view none (node ∷ nodes) (suc n) = looked view none nodes n

-- name, mode and lending, and what the device has, are as they were
pub record KeepsRest (was now : Node) : Type 0 where
  pub entry_is : now.entry ≡ was.entry
  pub on_device_is : now.on_device ≡ was.on_device
  pub linked_is : now.linked ≡ was.linked
  pub read_only_is : now.read_only ≡ was.read_only
  pub lent_is : now.lent ≡ was.lent

-- after a write
pub record NodeWrites (was now : Node) (at : ℕ) (octets : List ℕ) : Type 0 where
  pub octets_are : now.octets.items ≡ put_at was.octets.items at octets
  pub marks_are : IsMarked was.marks.items at (length octets) now.marks.items
  pub size_is : is_lost now.size ≡ is_lost was.size
  pub device_is : device_in now ≡ device_in was
  pub rest : KeepsRest was now

-- after a cut
pub record NodeCuts (was now : Node) (count : ℕ) : Type 0 where
  pub octets_are : now.octets.items ≡ take count was.octets.items
  pub marks_are : now.marks.items ≡ take count was.marks.items
  pub size_is : now.size ≡ Dirty
  pub device_is : device_in now ≡ device_in was
  pub rest : KeepsRest was now

-- after a good sync
pub record NodeSyncs (was now : Node) : Type 0 where
  pub octets_are : now.octets.items ≡ was.octets.items
  pub marks_are : (place : ℕ) → mark_at now.marks.items place ≡ after_sync (mark_at was.marks.items place)
  pub size_is : now.size ≡ after_sync was.size
  pub unnamed : was.entry ≢ Clean → device_in now ≡ device_in was
  pub long : was.entry ≡ Clean → now.end ≡ (if is_lost was.size then was.end else length was.octets.items)
  pub blocks_long : was.entry ≡ Clean
      → length now.blocks.items ≡ max (length was.octets.items) (length was.blocks.items)
  pub each : was.entry ≡ Clean → (place : ℕ) → place < length now.blocks.items → get_or now.blocks.items place 0
      ≡ block_at was.octets.items was.marks.items was.blocks.items place
  pub rest : KeepsRest was now

-- after a failed one
pub record NodeFails (was now : Node) : Type 0 where
  pub octets_are : now.octets.items ≡ was.octets.items
  pub marks_are : (place : ℕ) → mark_at now.marks.items place ≡ after_failure (mark_at was.marks.items place)
  pub size_is : now.size ≡ after_failure was.size
  pub device_is : device_in now ≡ device_in was
  pub rest : KeepsRest was now

-- after its lost octets read as the device has them
pub record NodeReverts (was now : Node) : Type 0 where
  pub long : length now.octets.items ≡ length was.octets.items
  pub each : (place : ℕ) → place < length was.octets.items → get_or now.octets.items place 0
      ≡ block_at was.octets.items was.marks.items (device_in was) place
  pub marks_are : now.marks.items ≡ was.marks.items
  pub size_is : now.size ≡ was.size
  pub device_is : device_in now ≡ device_in was
  pub rest : KeepsRest was now

-- after its name was made
pub record NodeCreates (was now : Node) : Type 0 where
  pub octets_are : now.octets.items ≡ []
  pub marks_are : now.marks.items ≡ []
  pub size_is : now.size ≡ Clean
  pub entry_is : now.entry ≡ Dirty
  pub linked_is : now.linked ≡ true
  pub read_only_is : now.read_only ≡ false
  pub lent_is : now.lent ≡ was.lent
  pub device_is : device_in now ≡ device_in was

-- after its name was taken away
pub record NodeUnlinks (was now : Node) : Type 0 where
  pub octets_are : now.octets.items ≡ []
  pub marks_are : now.marks.items ≡ []
  pub size_is : now.size ≡ Clean
  pub entry_is : now.entry ≡ Dirty
  pub linked_is : now.linked ≡ false
  pub lent_is : now.lent ≡ was.lent
  pub device_is : device_in now ≡ device_in was

-- after a good sync of the directory
pub record NodeEnters (was now : Node) : Type 0 where
  pub octets_are : now.octets.items ≡ was.octets.items
  pub marks_are : now.marks.items ≡ was.marks.items
  pub size_is : now.size ≡ was.size
  pub entry_is : now.entry ≡ after_sync was.entry
  pub linked_is : now.linked ≡ was.linked
  pub read_only_is : now.read_only ≡ was.read_only
  pub lent_is : now.lent ≡ was.lent
  pub device_is : was.entry ≢ Dirty → device_in now ≡ device_in was
  pub entered : was.entry ≡ Dirty → device_in now ≡ []

-- after a failed one
pub record NodeMisses (was now : Node) : Type 0 where
  pub octets_are : now.octets.items ≡ was.octets.items
  pub marks_are : now.marks.items ≡ was.marks.items
  pub size_is : now.size ≡ was.size
  pub entry_is : now.entry ≡ after_failure was.entry
  pub linked_is : now.linked ≡ was.linked
  pub read_only_is : now.read_only ≡ was.read_only
  pub lent_is : now.lent ≡ was.lent
  pub device_is : device_in now ≡ device_in was

-- after its mode was changed, or it was lent or taken back
pub record NodeKeeps (was now : Node) : Type 0 where
  pub octets_are : now.octets.items ≡ was.octets.items
  pub marks_are : now.marks.items ≡ was.marks.items
  pub size_is : now.size ≡ was.size
  pub entry_is : now.entry ≡ was.entry
  pub linked_is : now.linked ≡ was.linked
  pub device_is : device_in now ≡ device_in was

-- nothing of it is dirty or lost
pub record IsNodeClean (node : Node) : Type 0 where
  pub octets : (place : ℕ) → mark_at node.marks.items place ≡ Clean
  pub size_is : node.size ≡ Clean

-- nothing of it is lost, and its name is durable
pub record IsNodeWhole (node : Node) : Type 0 where
  pub octets : (place : ℕ) → is_lost (mark_at node.marks.items place) ≡ false
  pub size_is : is_lost node.size ≡ false
  pub entry_is : node.entry ≡ Clean

-- each of these became one of those
pub record AllNodes (became : Node → Node → Type 0) (old new : List Node) : Type 0 where
  pub long : length new ≡ length old
  pub each : (k : ℕ) (d : Node) → k < length old → became (get_or old k d) (get_or new k d)

-- as the power cut leaves it
pub record NodeRestores (was now : Node) : Type 0 where
  pub octets_are : now.octets.items ≡ device_in was
  pub device_is : device_in now ≡ device_in was
  pub marks_are : (place : ℕ) → mark_at now.marks.items place ≡ Clean
  pub size_is : now.size ≡ Clean
  pub entry_is : now.entry ≡ Clean
  pub lent_is : now.lent ≡ false

-- the same, of the first ones
pub record AllSoFar (became : Node → Node → Type 0) (old now : List Node) (place : ℕ) : Type 0 where
  pub long : length now ≡ length old
  pub done : (k : ℕ) (d : Node) → k < place → became (get_or old k d) (get_or now k d)
  pub rest : (k : ℕ) (d : Node) → place ≤ k → get_or now k d ≡ get_or old k d

-- After a failed sync whose pages were dropped, or kept: what was lost reads as the device has it, or as it did.
pub record NodeFalls (was now : Node) : Type 0 where
  pub between : IsBetween was.octets.items (device_in was) now.octets.items
  pub clean : IsNodeClean was → now.octets.items ≡ was.octets.items
  pub marks_are : (place : ℕ) → mark_at now.marks.items place ≡ after_failure (mark_at was.marks.items place)
  pub size_is : now.size ≡ after_failure was.size
  pub device_is : device_in now ≡ device_in was
  pub rest : KeepsRest was now
