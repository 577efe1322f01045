-- The sums that totals are of, and what is answered of them.
use Rattle.std.specs.Prelude.{◌≡◌, ⊤, ℕ, ◌<◌, ◌^◌, List, [], ◌∷◌, ◌++◌, length, map, Result, Ok, Err}
use Rattle.std.specs.List.{flat_map, AllByRecursion}
use Rattle.std.specs.FinMap.{FinMap, entries}
use Rattle.flow_codec.specs.Fault.{IsOctets}
use Rattle.flow_measure.specs.declared.rows.Sums.{Sums}
use Rattle.flow_measure.specs.declared.error.SumError.{SumError}
use Rattle.flow_measure.specs.declared.error.SumError.TheVariants as measure
use Rattle.flow_measure.specs.History.{History}
use Rattle.flow_measure.specs.Query.{narrow_table_in}
use Rattle.flow_measure.specs.Sums.{key_cmp, gathered, merged, AllFit, Table}
use Rattle.flow_measure.specs.View.{View}
use Rattle.flow_refusals.specs.declared.sum_refusal.SumRefusal.{SumRefusal}
use Rattle.flow_refusals.specs.declared.sum_refusal.SumRefusal.TheVariants as sum
use Rattle.flow_refusals.specs.declared.read_refusal.ReadRefusal.{ReadRefusal}
use Rattle.flow_refusals.specs.declared.read_refusal.ReadRefusal.TheVariants.{Damaged, Fault, OutOfMemory}
use Rattle.flow_model.specs.Shelf.{Shelf}

-- a table, with the sums of these maps added
abbrev pub with_maps : List (FinMap key_cmp Sums) → Table → Table
with_maps maps t = record { width = t.width; sums = gathered (entries t.sums ++ flat_map entries maps) }

abbrev pub wide_table_in : View → Table
wide_table_in v = record { width = v.wide; sums = v.merged }

-- The sums of a view fit their types; where both widths are one, those of all flows together too.
pub record SumsFit (v : View) : Type 0 where
  pub narrow : AllFit (narrow_table_in v)
  pub wide : AllFit (wide_table_in v)
  pub both : v.width ≡ v.wide → AllFit (merged (narrow_table_in v) (wide_table_in v))

-- A history within the limits of an archive: its messages are fewer than 2^48, and consist of octets, numbers below
-- 256.
pub record IsWithinHistoryLimits (h : History) : Type 0 where
  pub few : length h.all < 2 ^ 48
  pub octets : AllByRecursion (λ a. IsOctets a.octets) h.all

-- ---- the first part

abbrev pub first_of : List ℕ → ℕ
first_of [] = 0
first_of (file ∷ files) = file

-- the file of the first part: of a wide one, else of a rolled one, else of a sealed segment; 0 where there is none
abbrev pub first_file : Shelf → ℕ
first_file s = first_of (map (λ r. r.file) s.merged ++ map (λ r. r.file) s.rolled ++ map (λ g. g.file) s.sealed)

-- Damage is reported of this file at its start alone, and only where sums don't fit their types.
abbrev pub IsTotalsRefusal : ℕ → Type 0 → ReadRefusal → Type 0
IsTotalsRefusal first fit (Damaged file at) = (file ≡ first) × (at ≡ 0) × (fit → ⊥)
IsTotalsRefusal first fit Fault = ⊤
IsTotalsRefusal first fit OutOfMemory = ⊤

-- What is made is right, unless a read fails or memory runs out, or sums don't fit their types.
abbrev pub IsMade : {X : Type 0} → ℕ → Type 0 → (X → Type 0) → Result X ReadRefusal → Type 0
IsMade first fit right (Ok x) = right x
IsMade first fit right (Err e) = IsTotalsRefusal first fit e

-- ---- refusals as those of totals

abbrev pub told_of_file : ℕ → SumRefusal → ReadRefusal
told_of_file first (sum.Damaged file at) = Damaged file at
told_of_file first sum.SumSpent = Damaged first 0
told_of_file first sum.Fault = Fault
told_of_file first sum.OutOfMemory = OutOfMemory

abbrev pub told_of_sums : ℕ → SumError → ReadRefusal
told_of_sums first measure.SumSpent = Damaged first 0
told_of_sums first measure.OutOfMemory = OutOfMemory
