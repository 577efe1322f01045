-- A list of entries under numbers that is kept in slots: an entry that is taken out leaves its slot empty.
use Rattle.std.specs.Prelude.{◌≡◌, ℕ, suc, ◌+◌, ◌≤◌, Bool, List, [], ◌∷◌, Option, Some, None, nat_eq, vec_len}
use Rattle.std.specs.Prelude.{vec_capacity, if◌then◌else◌}
use Rattle.std.specs.Box.{box_value}
use Rattle.std.specs.Global.{Box}
use Rattle.std.specs.HashMap.{get, spare}
use Rattle.std.specs.Option.{option_map}
use Rattle.indexmap.specs.IndexMap.{insert_entry, shift_remove_entry}
use Rattle.flow_codec.specs.declared.slot_table.SlotTable.{SlotTable}
use Rattle.flow_codec.specs.Layout.{Layout}
use Rattle.flow_codec.specs.Entries.{IsOnce}

-- the entries, in the order of their slots
abbrev pub standing : {V : Type 0} → List (Option (ℕ × V)) → List (ℕ × V)
standing [] = []
standing (None ∷ slots) = standing slots
standing (Some entry ∷ slots) = entry ∷ standing slots

-- the slot of the entry under a number
abbrev pub place_of : {V : Type 0} → ℕ → List (Option (ℕ × V)) → Option ℕ
place_of id [] = None
place_of id (None ∷ slots) = option_map suc (place_of id slots)
place_of id (Some entry ∷ slots) = if nat_eq id entry.0 then Some 0 else option_map suc (place_of id slots)

-- Slots of entries under numbers, each once, and where each of them is.
pub record AreSlots {V : Type 0} (slots : List (Option (ℕ × V))) (place : ℕ → Option ℕ) : Type 0 where
  pub once : IsOnce (standing slots)
  pub places : (id : ℕ) → place id ≡ place_of id slots

-- ---- tables of definitions

abbrev pub entries_of : SlotTable → List (ℕ × Layout)
entries_of table = standing table.slots.items

abbrev pub IsTable : SlotTable → Type 0
IsTable table = AreSlots table.slots.items (get nat_eq table.places)

-- n definitions more need no memory
pub record HasRoom (n : ℕ) (table : SlotTable) : Type 0 where
  pub slots : vec_len table.slots + n ≤ vec_capacity table.slots
  pub places : n ≤ spare table.places

-- the table that changes begin with: `fresh`, where there is one
abbrev pub begun : Option (Box SlotTable) → SlotTable → SlotTable
begun None table = table
begun (Some fresh) table = box_value fresh

-- a table of these entries with room for n more
pub record IsReady (entries : List (ℕ × Layout)) (n : ℕ) (table : SlotTable) : Type 0 where
  pub slots : IsTable table
  pub same : entries_of table ≡ entries
  pub room : HasRoom n table

-- ---- changes of entries

-- a definition put under an ID, or the one there taken out
abbrev pub change_by : List (ℕ × Layout) → ℕ → Option Layout → List (ℕ × Layout)
change_by entries id None = shift_remove_entry (nat_eq id) entries
change_by entries id (Some layout) = insert_entry nat_eq entries id layout

-- one change after the other
abbrev pub made : List (ℕ × Layout) → List (ℕ × Option Layout) → List (ℕ × Layout)
made entries [] = entries
made entries (change ∷ changes) = made (change_by entries change.0 change.1) changes

-- what changes begin with
abbrev pub started : Bool → List (ℕ × Layout) → List (ℕ × Layout)
started cleared entries = if cleared then [] else entries
