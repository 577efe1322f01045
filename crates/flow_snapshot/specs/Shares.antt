-- The sums of an archive's parts, shared among workers.
use Rattle.std.specs.Prelude.{◌≡◌, ℕ, zero, suc, ◌+◌, ◌%◌, ◌==◌, Bool, List, [], ◌∷◌, ◌++◌, length, Result, IsTrue}
use Rattle.std.specs.Prelude.{if◌then◌else◌, ◌<◌, ◌≢◌, Ok, Err, IfErr, IsErr, IsErrOf, OnOk, slice_index_or}
use Rattle.std.specs.List.{AllZip}
use Rattle.std.specs.FinMap.{FinMap}
use Rattle.flow_codec.specs.Templates.{AllTemplates}
use Rattle.flow_measure.specs.declared.rows.Sums.{Sums}
use Rattle.flow_measure.specs.History.{Accepted, AreAcceptedFrom, flows_in}
use Rattle.flow_measure.specs.Sums.{key_cmp, merged, sums_by, AllFit, Table}
use Rattle.flow_measure.specs.View.{gathered_all}
use Rattle.flow_rolled.specs.Rollup.{IsRollup}
use Rattle.flow_segment.specs.Carry.{octets_of}
use Rattle.flow_segment.specs.Prefix.{IsRestated}
use Rattle.flow_refusals.specs.declared.read_refusal.ReadRefusal.{ReadRefusal}
use Rattle.flow_disk.specs.Cause.{HasCause}
use Rattle.flow_refusals.specs.declared.read_refusal.ReadRefusal.TheVariants.{Fault}
use Rattle.flow_snapshot.specs.declared.shares.PartSums.{PartSums}
use Rattle.flow_snapshot.specs.declared.shares.Share.{Share}
use Rattle.flow_model.specs.Shelf.{Rollup, Segment, Shelf}
use Rattle.flow_snapshot.specs.ShelfSeen.{ShelfSeen}
use Rattle.flow_snapshot.specs.Totals.{IsMade}

-- ---- turns

-- Workers have numbers from 0 on, and take parts in turn: whose turn the next part is.
abbrev pub next_turn : ℕ → ℕ → ℕ
next_turn workers turn = (turn + 1) % workers

-- whose turn it is after so many parts
abbrev pub turn_after : ℕ → ℕ → ℕ → ℕ
turn_after workers zero turn = turn
turn_after workers (suc n) turn = turn_after workers n (next_turn workers turn)

-- those of a list that fall to the workers that pass a test, where the first one is for the worker whose turn it is
abbrev pub chosen : {A : Type 0} → (ℕ → Bool) → ℕ → ℕ → List A → List A
chosen test workers turn [] = []
chosen test workers turn (x ∷ xs) =
    if test turn then x ∷ chosen test workers (next_turn workers turn) xs
    else chosen test workers (next_turn workers turn) xs

-- those that fall to one worker
abbrev pub own : {A : Type 0} → ℕ → ℕ → ℕ → List A → List A
own workers worker turn xs = chosen (λ t. t == worker) workers turn xs

-- ---- parts

-- the sums of a file of sums by this width
abbrev pub IsFileSum : ℕ → Rollup → FinMap key_cmp Sums → Type 0
IsFileSum width r sums = IsRollup width r.octets (record { width = width; sums = sums })

-- The sums by a width of a segment's flows. Its messages are read after the templates that its own prefix restates,
-- and with nothing else.
abbrev pub IsOwnSum : ℕ → List ℕ → List (List ℕ) → FinMap key_cmp Sums → Type 0
IsOwnSum width prefix messages sums =
    (before : AllTemplates) × (list : List Accepted) × IsRestated prefix before × AreAcceptedFrom before list
    × (octets_of list ≡ messages) × (sums ≡ sums_by width (flows_in list))

abbrev pub IsSegmentSum : ℕ → Segment → FinMap key_cmp Sums → Type 0
IsSegmentSum width g sums = IsOwnSum width g.prefix g.messages sums

-- the sums over wide intervals, part by part
abbrev pub AreWide : Shelf → List (FinMap key_cmp Sums) → Type 0
AreWide s maps = AllZip (IsFileSum s.wide) s.merged maps

-- the sums by the width, part by part: of each rolled file, of each sealed segment, and of the active one
pub record AreNarrow (s : Shelf) (maps : List (FinMap key_cmp Sums)) : Type 0 where
  pub rolled : List (FinMap key_cmp Sums)
  pub sealed : List (FinMap key_cmp Sums)
  pub active : FinMap key_cmp Sums
  pub of_rolled : AllZip (IsFileSum s.width) s.rolled rolled
  pub of_sealed : AllZip (IsSegmentSum s.width) s.sealed sealed
  pub of_active : IsOwnSum s.width s.prefix s.active active
  pub all : maps ≡ rolled ++ (sealed ++ active ∷ [])

-- sums of parts, added
abbrev pub summed : ℕ → List (FinMap key_cmp Sums) → Table
summed width maps = record { width = width; sums = gathered_all maps }

-- the sums of all parts fit their types
abbrev pub AllPartsFit : Shelf → List (FinMap key_cmp Sums) → List (FinMap key_cmp Sums) → Type 0
AllPartsFit s wide narrow = AllFit (summed s.wide wide) × AllFit (summed s.width narrow)

-- a part's sums, added where it is the worker's own
abbrev pub added_if : Bool → FinMap key_cmp Sums → Table → Table
added_if mine sums t = if mine then merged t (record { width = t.width; sums = sums }) else t

-- ---- what was read

-- each of these parts has sums
abbrev pub HaveSums : {A : Type 0} → (A → FinMap key_cmp Sums → Type 0) → List A → Type 0
HaveSums P parts = (maps : List (FinMap key_cmp Sums)) × AllZip P parts maps

-- Of the parts that aren't wide, those that fall to a worker were read whole. The first part is for the worker whose
-- turn it is.
pub record IsNarrowRead (s : Shelf) (workers worker turn : ℕ) : Type 0 where
  pub rolled : HaveSums (IsFileSum s.width) (own workers worker turn s.rolled)
  pub sealed : HaveSums (IsSegmentSum s.width) (own workers worker (turn_after workers (length s.rolled) turn) s.sealed)
  pub active : HaveSums (IsOwnSum s.width s.prefix)
      (own workers worker (turn_after workers (length s.sealed) (turn_after workers (length s.rolled) turn))
      (s.active ∷ []))

-- ---- a worker's share

-- The first part is for the worker whose number is 0: the wide ones come first, then the others.
abbrev pub narrow_turn : Shelf → ℕ → ℕ
narrow_turn s workers = turn_after workers (length s.merged) 0

-- The parts that fall to a worker were read whole.
pub record IsOwnRead (s : Shelf) (workers worker : ℕ) : Type 0 where
  pub wide : HaveSums (IsFileSum s.wide) (own workers worker 0 s.merged)
  pub narrow : IsNarrowRead s workers worker (narrow_turn s workers)

-- What a worker answers on honest disks: where it isn't refused, each part that falls to it was read whole, whatever
-- damage others have. Where all parts have sums it is those of its own, unless a read fails, memory runs out or the
-- sums of all parts don't fit their types, which is reported of the file `first`.
pub record IsShare (first : ℕ) (sight : ShelfSeen) (workers worker : ℕ) (result : Result PartSums ReadRefusal) : Type 0
  where
    pub found : IsTrue sight.honest → OnOk result (IsOwnRead sight.shelf workers worker)
    pub given : IsTrue sight.honest → (wide narrow : List (FinMap key_cmp Sums)) → AreWide sight.shelf wide
        → AreNarrow sight.shelf narrow
        → IsMade first (AllPartsFit sight.shelf wide narrow)
        (λ sums. (sums.wide ≡ summed sight.shelf.wide (own workers worker 0 wide))
        × (sums.narrow ≡ summed sight.shelf.width (own workers worker (narrow_turn sight.shelf workers) narrow))) result

-- ---- shares, joined

-- what is made of sums and of a worker's answer
abbrev pub IsJoined : {X : Type 0} → ℕ → PartSums → Result PartSums ReadRefusal → PartSums → Result X ReadRefusal
    → Type 0
IsJoined first old (Ok mine) new result =
    (old.narrow.width ≡ mine.narrow.width → old.wide.width ≡ mine.wide.width
    → IsMade first (AllFit (merged old.narrow mine.narrow) × AllFit (merged old.wide mine.wide))
    (λ _. (new.narrow ≡ merged old.narrow mine.narrow) × (new.wide ≡ merged old.wide mine.wide)) result)
    × IfErr result (λ e. e ≢ Fault)
IsJoined first old (Err e) new result = IsErrOf result e

-- the answers of all workers, by their numbers, with what their reads have raised
abbrev pub AreShares : {F X : Type 0} → ℕ → ShelfSeen → List (Share F X) → Type 0
AreShares {F} {X} first sight shares = (n : ℕ) (d : Share F X) → n < length shares
    → HasCause Fault 0 (slice_index_or shares n d).faults (slice_index_or shares n d).sums
    × IsShare first sight (length shares) n (slice_index_or shares n d).sums

-- the worker with this number was refused
abbrev pub IsRefusedAt : {F X : Type 0} → List (Share F X) → ℕ → Type 0
IsRefusedAt {F} {X} shares n =
    (n < length shares) × ((d : Share F X) → IsErr (slice_index_or shares n d).sums)
