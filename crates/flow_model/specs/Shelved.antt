-- What a state means: the shelf of its files.
use Rattle.std.specs.Prelude.{List, [], ◌∷◌}
use Rattle.flow_manifest.specs.declared.manifest.Kind.{Kind}
use Rattle.flow_manifest.specs.declared.manifest.Kind.TheVariants.{Wide, Rolled, Sealed, Active}
use Rattle.flow_manifest.specs.declared.manifest.Entry.{Entry}
use Rattle.flow_manifest.specs.Following.{front_of}
use Rattle.flow_measure.specs.History.{History, IsHistory}
use Rattle.flow_measure.specs.View.{view_of}
use Rattle.flow_model.specs.Shelf.{Rollup, Segment, Shelf}
use Rattle.flow_model.specs.Changes.{counts_of}
use Rattle.flow_model.specs.Views.{IsViewOf}
use Rattle.flow_model.specs.State.{Part, State}

-- a wide or rolled file
abbrev pub rollup_of : Entry → Part → Rollup
rollup_of entry part = record { file = entry.file; messages = entry.messages; octets = part.front }

-- a sealed segment
abbrev pub segment_of : Entry → Part → Segment
segment_of entry part = record { file = entry.file; prefix = part.front; messages = part.messages }

-- a file put before those of its kind
abbrev pub shelved_first : Kind → Entry → Part → Shelf → Shelf
shelved_first Wide entry part s = record s { merged = rollup_of entry part ∷ s.merged }
shelved_first Rolled entry part s = record s { rolled = rollup_of entry part ∷ s.rolled }
shelved_first Sealed entry part s = record s { sealed = segment_of entry part ∷ s.sealed }
shelved_first Active entry part s = s

-- these files put before others
abbrev pub shelved : List Entry → List Part → Shelf → Shelf
shelved [] parts s = s
shelved (entry ∷ entries) [] s = s
shelved (entry ∷ entries) (part ∷ parts) s = shelved_first entry.kind entry part (shelved entries parts s)

-- the active segment alone
abbrev pub active_shelf : State → Shelf
active_shelf s = record {
  width = s.manifest.width;
  wide = s.manifest.wide;
  merged = [];
  rolled = [];
  sealed = [];
  prefix = s.active.front;
  active = s.active.messages;
}

-- the files that the manifest names, in its order
abbrev pub shelf_of : State → Shelf
shelf_of s = shelved (front_of s.manifest) s.parts (active_shelf s)

-- The archive in this state is one with this history: its files have the view of it.
pub record HasHistory (s : State) (h : History) : Type 0 where
  pub history : IsHistory h
  pub view : IsViewOf (shelf_of s) (view_of h (counts_of (shelf_of s)))
