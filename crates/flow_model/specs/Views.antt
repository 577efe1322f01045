-- What a shelf means.
use Rattle.std.specs.Prelude.{◌≡◌, ℕ, List, [], ◌∷◌}
use Rattle.std.specs.FinMap.{FinMap}
use Rattle.flow_codec.specs.Templates.{AllTemplates}
use Rattle.flow_measure.specs.declared.rows.Sums.{Sums}
use Rattle.flow_measure.specs.Sums.{key_cmp}
use Rattle.flow_measure.specs.History.{Accepted, AreAcceptedFrom, read_from, templates_from}
use Rattle.flow_measure.specs.View.{View, gathered_all}
use Rattle.flow_rolled.specs.Rollup.{IsRollup}
use Rattle.flow_segment.specs.Carry.{octets_of}
use Rattle.flow_segment.specs.Prefix.{IsRestated}
use Rattle.flow_model.specs.Shelf.{Rollup, Segment, Shelf, second_of, cut_of, kept_of, position_of}

-- rolled files by this width: one for each of these maps of sums, in order
abbrev pub AreRolled : ℕ → List Rollup → List (FinMap key_cmp Sums) → Type 0
AreRolled width [] [] = Unit {0}
AreRolled width [] (m ∷ ms) = ⊥
AreRolled width (r ∷ rs) [] = ⊥
AreRolled width (r ∷ rs) (m ∷ ms) =
    IsRollup width r.octets (record { width = width; sums = m }) × AreRolled width rs ms

-- the sums of rolled files by this width, key by key
abbrev pub AreRolledInto : ℕ → List Rollup → FinMap key_cmp Sums → Type 0
AreRolledInto width files sums =
    (maps : List (FinMap key_cmp Sums)) × AreRolled width files maps × (sums ≡ gathered_all maps)

-- Each segment's prefix restates the templates in force before its messages, that of the active segment those after all
-- sealed ones.
abbrev pub AreRestated : AllTemplates → List Segment → List ℕ → Type 0
AreRestated before [] active = IsRestated active before
AreRestated before (g ∷ gs) active =
    IsRestated g.prefix before × AreRestated (templates_from before (read_from before g.messages)) gs active

-- The view of a shelf: the sums are those of the rolled files; the kept messages are those of the segments, each
-- accepted after those before it, and the first one after the templates that the first prefix restates. A shelf whose
-- files are damaged has none.
pub record IsViewOf (s : Shelf) (v : View) : Type 0 where
  pub merged : AreRolledInto s.wide s.merged v.merged
  pub rolled : AreRolled s.width s.rolled v.rolled
  pub prefixes : AreRestated v.templates s.sealed s.prefix
  pub accepted : AreAcceptedFrom v.templates v.kept
  pub kept : octets_of v.kept ≡ kept_of s
  pub second : v.second ≡ second_of s
  pub cut : v.cut ≡ cut_of s
  pub position : v.position ≡ position_of s
  pub width : v.width ≡ s.width
  pub wide : v.wide ≡ s.wide

-- ---- as it is read in files that may be damaged

-- the prefix of the first segment: of the active one, where there is no sealed one
abbrev pub first_prefix : List Segment → List ℕ → List ℕ
first_prefix [] active = active
first_prefix (g ∷ gs) active = g.prefix

-- The kept messages are accepted, each after those before it, the first one after the templates that the first prefix
-- restates.
pub record AreKept (s : Shelf) (before : AllTemplates) (kept : List Accepted) : Type 0 where
  pub prefix : IsRestated (first_prefix s.sealed s.prefix) before
  pub accepted : AreAcceptedFrom before kept
  pub octets : octets_of kept ≡ kept_of s

-- The view of a shelf, as it is read from all its files: from each rolled file, each kept message, and the first
-- prefix. Later prefixes are not read, since they restate templates that are known by then.
pub record IsReadIn (s : Shelf) (v : View) : Type 0 where
  pub merged : AreRolledInto s.wide s.merged v.merged
  pub rolled : AreRolled s.width s.rolled v.rolled
  pub kept : AreKept s v.templates v.kept
  pub second : v.second ≡ second_of s
  pub cut : v.cut ≡ cut_of s
  pub position : v.position ≡ position_of s
  pub width : v.width ≡ s.width
  pub wide : v.wide ≡ s.wide
