-- What was read of all files, put together.
use Rattle.std.proofs.Common.{◌≡◌, ℕ, Bool, List, [], ◌∷◌, ◌++◌, map, refl, sym, ap, subst, ◌∙◌}
use Rattle.std.specs.Prelude.{IsTrue, ◌&&◌, Result, Ok, Err, IfOk, OnOk}
use Rattle.std.specs.List.{list_all}
use Rattle.std.specs.FinMap.{FinMap}
use Rattle.std.specs.Arc.{arc_value}
use Rattle.std.specs.declared.sync.Arc.{Arc}
use Rattle.std.proofs.lemmas.List.{map-append}
use Rattle.flow_codec.specs.Templates.{AllTemplates}
use Rattle.flow_disk.specs.declared.sealed.SealedFile.{Ghosts}
use Rattle.flow_measure.specs.declared.rows.Row.{Row}
use Rattle.flow_measure.specs.declared.rows.Sums.{Sums}
use Rattle.flow_measure.specs.History.{Accepted, AreAcceptedFrom, flows_in, templates_from}
use Rattle.flow_measure.specs.Query.{narrow_table_in, rows_of_both, totals_in_view}
use Rattle.flow_measure.specs.Sums.{key_cmp, empty_table, Table}
use Rattle.flow_measure.specs.View.{gathered_all, View}
use Rattle.flow_segment.specs.declared.sealed.SealedPart.{SealedPart}
use Rattle.flow_segment.specs.Carry.{octets_of}
use Rattle.flow_segment.specs.PartFlows.{with_flows}
use Rattle.flow_segment.specs.Prefix.{IsRestated}
use Rattle.flow_segment.specs.Segment.{part_octets}
use Rattle.flow_refusals.specs.declared.read_refusal.ReadRefusal.{ReadRefusal}
use Rattle.flow_snapshot.specs.Files.{is_honest, segment_of, shared}
use Rattle.flow_snapshot.specs.Found.{AreAccepted}
use Rattle.flow_model.specs.Views.{first_prefix, AreKept, IsReadIn}
use Rattle.flow_model.specs.Shelf.{cut_of, messages_in, position_of, second_of, Shelf}
use Rattle.flow_snapshot.specs.Totals.{with_maps, IsMade}
use Rattle.flow_model.specs.Views.{AreRolled, AreRolledInto}
use Rattle.flow_model.proofs.Accepting.{accepted_then}
use Rattle.flow_snapshot.proofs.Adding.{more_sums, only_maps}
use Rattle.flow_snapshot.proofs.Sharing.{first_of_two, second_of_two}

-- ---- the first prefix

pub first_found : {F X Z : Type 0} {files : Ghosts F X} (items rest : List (Arc (SealedPart F X files) Z))
    (item : Arc (SealedPart F X files) Z) (part : SealedPart F X files) (m : Bool) (prefix : List ℕ)
    (templates : AllTemplates) → items ≡ item ∷ rest → part ≡ arc_value item
    → IsTrue (m && list_all is_honest (shared items))
    → (IsTrue (is_honest part) → IsRestated (part_octets 0 part.prefix (files.octets part.reader)) templates)
    → IsRestated (first_prefix (map segment_of (shared items)) prefix) templates
first_found {F} {X} {Z} {files} items rest item part m prefix templates is same honest found =
    let parts : shared items ≡ part ∷ shared rest =
    ap shared is ∙ ap (λ (p : SealedPart F X files). p ∷ shared rest) (sym same) in
    let all = second_of_two m (list_all is_honest (shared items)) honest in
    subst (λ (ps : List (SealedPart F X files)). IsRestated (first_prefix (map segment_of ps) prefix) templates)
    (sym parts) (found (first_of_two (is_honest part) (list_all is_honest (shared rest))
    (subst (λ (ps : List (SealedPart F X files)). IsTrue (list_all is_honest ps)) parts all)))

pub active_found : {F X Z : Type 0} {files : Ghosts F X} (items : List (Arc (SealedPart F X files) Z))
    (prefix : List ℕ) (r : Result AllTemplates ReadRefusal) → items ≡ [] → IfOk r (λ t. IsRestated prefix t)
    → IfOk r (λ t. IsRestated (first_prefix (map segment_of (shared items)) prefix) t)
active_found {F} {X} {Z} {files} items prefix r none found =
    subst (λ (ps : List (Arc (SealedPart F X files) Z)).
    IfOk r (λ t. IsRestated (first_prefix (map segment_of (shared ps)) prefix) t)) (sym none) found

-- ---- kept messages

module _ (s : Shelf) (before middle : AllTemplates) (restated : IsRestated (first_prefix s.sealed s.prefix) before)
    (sealed : AreAccepted before (messages_in s.sealed)) where
  pub kept_all : middle ≡ templates_from before sealed.0 → (active : AreAccepted middle s.active)
      → AreKept s before (sealed.0 ++ active.0)
  kept_all moved active = record {
    prefix = restated;
    accepted = accepted_then before sealed.0 active.0 sealed.1
        (subst (λ (t : AllTemplates). AreAcceptedFrom t active.0) moved active.1);
    octets = map-append (λ (a : Accepted). a.octets) sealed.0 active.0
        ∙ ap (λ (os : List (List ℕ)). os ++ octets_of active.0) sealed.2
        ∙ ap (λ (os : List (List ℕ)). messages_in s.sealed ++ os) active.2;
  }

  -- their flows, added
  pub kept_summed : {X : Type 0} (last : AllTemplates) (old rows new : Table) (first : ℕ) (fit : List Accepted → Type 0)
      (r : Result X ReadRefusal) → (middle ≡ templates_from before sealed.0)
      × (rows ≡ with_flows (flows_in sealed.0) old) → OnOk r (AreAccepted middle s.active)
      → ((list : List Accepted) → AreAcceptedFrom middle list → octets_of list ≡ s.active
      → IsMade first (fit list) (λ _. (last ≡ templates_from middle list) × (new ≡ with_flows (flows_in list) rows)) r)
      → OnOk r ((t : AllTemplates) × (kept : List Accepted) × AreKept s t kept
      × (new ≡ with_flows (flows_in kept) old))
  kept_summed last old rows new first fit (Ok x) was found given =
      let right = given found.0 found.1 found.2 in (
        before,
        sealed.0 ++ found.0,
        kept_all was.0 found,
        right.1 ∙ more_sums old rows sealed.0 found.0 was.1,
      )
  kept_summed last old rows new first fit (Err e) was found given = tt

-- ---- tables

pub narrow_read : (s : Shelf) (sums : FinMap key_cmp Sums) (start middle new : Table)
    → AreRolledInto s.wide s.merged sums → start ≡ empty_table s.width
    → (rolled : (maps : List (FinMap key_cmp Sums)) × AreRolled s.width s.rolled maps)
    → middle ≡ with_maps rolled.0 start
    → (t : AllTemplates) × (kept : List Accepted) × AreKept s t kept × (new ≡ with_flows (flows_in kept) middle)
    → (v : View) × IsReadIn s v × (v.merged ≡ sums) × (new ≡ narrow_table_in v)
narrow_read s sums start middle new merged none (maps, are) was (t, kept, is, added) =
    let v : View = record {
      merged = sums;
      rolled = maps;
      kept = kept;
      templates = t;
      second = second_of s;
      cut = cut_of s;
      position = position_of s;
      width = s.width;
      wide = s.wide;
    } in (
      v,
      record {
        merged = merged;
        rolled = are;
        kept = is;
        second = refl;
        cut = refl;
        position = refl;
        width = refl;
        wide = refl;
      },
      refl,
      added ∙ ap (with_flows (flows_in kept))
          (was ∙ ap (with_maps maps) none ∙ only_maps s.width maps),
    )

pub wide_read : (s : Shelf) (start new : Table) → start ≡ empty_table s.wide
    → (merged : (maps : List (FinMap key_cmp Sums)) × AreRolled s.wide s.merged maps) → new ≡ with_maps merged.0 start
    → (sums : FinMap key_cmp Sums) × AreRolledInto s.wide s.merged sums
    × (new ≡ record { width = s.wide; sums = sums })
wide_read s start new none (maps, are) was =
    (gathered_all maps, (maps, are, refl), was ∙ ap (with_maps maps) none ∙ only_maps s.wide maps)

pub both_read : {X : Type 0} (items : X → List Row) (s : Shelf) (narrow wide : Table) (from to first : ℕ) (fit : Type 0)
    (r : Result X ReadRefusal)
    → (merged : (sums : FinMap key_cmp Sums) × AreRolledInto s.wide s.merged sums
    × (wide ≡ record { width = s.wide; sums = sums }))
    → ((sums : FinMap key_cmp Sums) → AreRolledInto s.wide s.merged sums
    → (v : View) × IsReadIn s v × (v.merged ≡ sums) × (narrow ≡ narrow_table_in v))
    → IsMade first fit (λ x. items x ≡ rows_of_both from to narrow wide) r
    → IfOk r (λ x. (v : View) × IsReadIn s v × (items x ≡ totals_in_view from to v))
both_read items s narrow wide from to first fit (Ok x) (sums, into, left) found made = by (found sums into)
  where
    by : (v : View) × IsReadIn s v × (v.merged ≡ sums) × (narrow ≡ narrow_table_in v)
        → (v : View) × IsReadIn s v × (items x ≡ totals_in_view from to v)
    by (v, is, own, right) =
        let there : wide ≡ record { width = v.wide; sums = v.merged } =
        left ∙ (λ i. record { width = sym is.wide i; sums = sym own i }) in (
          v,
          is,
          made ∙ ap (λ (t : Table). rows_of_both from to t wide) right
              ∙ ap (λ (t : Table). rows_of_both from to (narrow_table_in v) t) there,
        )
both_read items s narrow wide from to first fit (Err e) merged found made = tt
