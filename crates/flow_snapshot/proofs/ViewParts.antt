-- The parts of a view, each with its sums.
use Rattle.std.proofs.Common.{◌≡◌, ℕ, List, [], ◌∷◌, ◌++◌, length, take, drop, refl, sym, ap, subst, ◌∙◌, append-nil}
use Rattle.std.specs.List.{flat_map, AllZip}
use Rattle.std.specs.FinMap.{FinMap, entries}
use Rattle.std.proofs.lemmas.List.{take-append-drop}
use Rattle.std.proofs.lemmas.List.Concat.{flat_map-append}
use Rattle.flow_codec.specs.Templates.{AllTemplates}
use Rattle.flow_measure.specs.declared.rows.Sums.{Sums}
use Rattle.flow_measure.specs.History.{Accepted, AreAcceptedFrom, flows_in, templates_from}
use Rattle.flow_measure.specs.Query.{narrow_table_in}
use Rattle.flow_measure.specs.Sums.{key_cmp, gathered, sums_by, AllFit}
use Rattle.flow_measure.specs.View.{gathered_all, View}
use Rattle.flow_measure.proofs.Gathering.{gathered-both, gathered-entries}
use Rattle.flow_measure.proofs.ViewLaws.{both_sums, flows-append}
use Rattle.flow_segment.specs.Carry.{octets_of}
use Rattle.flow_snapshot.specs.Shares.{summed, AllPartsFit, AreNarrow, AreWide, IsFileSum, IsOwnSum, IsSegmentSum}
use Rattle.flow_model.specs.Shelf.{Rollup, Segment, Shelf, messages_in}
use Rattle.flow_snapshot.specs.Totals.{wide_table_in, SumsFit}
use Rattle.flow_model.specs.Views.{AreRestated, AreRolled, IsViewOf}
use Rattle.flow_model.proofs.Accepting.{accepted_first, accepted_rest, behind_own, own_first}
use Rattle.flow_snapshot.proofs.Adding.{gathered-behind}

pub file_sums : (width : ℕ) (rs : List Rollup) (ms : List (FinMap key_cmp Sums)) → AreRolled width rs ms
    → AllZip (IsFileSum width) rs ms
file_sums width [] [] h = tt
file_sums width [] (m ∷ ms) h = absurd h
file_sums width (r ∷ rs) [] h = absurd h
file_sums width (r ∷ rs) (m ∷ ms) h = (h.0, file_sums width rs ms h.1)

-- the sums of segments, each read with its own prefix alone
pub record OwnSums (width : ℕ) (gs : List Segment) (prefix : List ℕ) (active : List (List ℕ))
    (kept : List Accepted) : Type 0 where
  pub sealed : List (FinMap key_cmp Sums)
  pub last : FinMap key_cmp Sums
  pub of_sealed : AllZip (IsSegmentSum width) gs sealed
  pub of_last : IsOwnSum width prefix active last
  pub all : gathered_all (sealed ++ last ∷ []) ≡ sums_by width (flows_in kept)

pub own_sums : (width : ℕ) (before : AllTemplates) (gs : List Segment) (prefix : List ℕ) (active : List (List ℕ))
    (kept : List Accepted) → AreAcceptedFrom before kept → octets_of kept ≡ messages_in gs ++ active
    → AreRestated before gs prefix → OwnSums width gs prefix active kept
own_sums width before [] prefix active kept accepted octets restated = record {
  sealed = [];
  last = sums_by width (flows_in kept);
  of_sealed = tt;
  of_last = (before, kept, restated, accepted, octets, refl);
  all = ap gathered (append-nil (entries (sums_by width (flows_in kept))))
      ∙ gathered-entries (sums_by width (flows_in kept));
}
own_sums width before (g ∷ gs) prefix active kept accepted octets restated =
    let n = length g.messages in
    let list = take n kept in
    let more = drop n kept in
    let parted = own_first g gs active kept octets in
    let here = behind_own before g gs active kept accepted octets in
    let rest = own_sums width (templates_from before list) gs prefix active more (accepted_rest before n kept accepted)
    parted.1 (subst (λ (t : AllTemplates). AreRestated t gs prefix) here restated.1) in
    record {
      sealed = sums_by width (flows_in list) ∷ rest.sealed;
      last = rest.last;
      of_sealed = (
        (before, list, restated.0, accepted_first before n kept accepted, parted.0, refl),
        rest.of_sealed,
      );
      of_last = rest.of_last;
      all = gathered-behind (sums_by width (flows_in list)) (flat_map entries (rest.sealed ++ rest.last ∷ []))
          ∙ ap (λ (m : FinMap key_cmp Sums). gathered (entries (sums_by width (flows_in list)) ++ entries m)) rest.all
          ∙ both_sums width (flows_in list) (flows_in more)
          ∙ ap (sums_by width) (sym (flows-append list more) ∙ ap flows_in (take-append-drop n kept));
    }

pub record PartsOf (s : Shelf) (v : View) : Type 0 where
  pub wide : List (FinMap key_cmp Sums)
  pub narrow : List (FinMap key_cmp Sums)
  pub are_wide : AreWide s wide
  pub are_narrow : AreNarrow s narrow
  pub wide_is : summed s.wide wide ≡ wide_table_in v
  pub narrow_is : summed s.width narrow ≡ narrow_table_in v

-- those of rolled files are the view's own
abbrev pub parts_of : (s : Shelf) (v : View) → IsViewOf s v → PartsOf s v
parts_of s v is =
    let kept = own_sums s.width v.templates s.sealed s.prefix s.active v.kept is.accepted is.kept is.prefixes in
    let others = kept.sealed ++ kept.last ∷ [] in
    record {
      wide = is.merged.0;
      narrow = v.rolled ++ others;
      are_wide = file_sums s.wide s.merged is.merged.0 is.merged.1;
      are_narrow = record {
        rolled = v.rolled;
        sealed = kept.sealed;
        active = kept.last;
        of_rolled = file_sums s.width s.rolled v.rolled is.rolled;
        of_sealed = kept.of_sealed;
        of_active = kept.of_last;
        all = refl;
      };
      wide_is = λ i. record { width = sym is.wide i; sums = sym is.merged.2 i };
      narrow_is = λ i. record {
        width = sym is.width i;
        sums = (ap gathered (flat_map-append entries v.rolled others)
            ∙ sym (gathered-both (flat_map entries v.rolled) (flat_map entries others))
            ∙ ap (λ (m : FinMap key_cmp Sums). gathered (entries (gathered_all v.rolled) ++ entries m)) kept.all
            ∙ ap (λ (w : ℕ). gathered (entries (gathered_all v.rolled) ++ entries (sums_by w (flows_in v.kept))))
            (sym is.width)) i;
      };
    }

pub parts_fit : (s : Shelf) (v : View) (p : PartsOf s v) → SumsFit v → AllPartsFit s p.wide p.narrow
parts_fit s v p fit = (subst AllFit (sym p.wide_is) fit.wide, subst AllFit (sym p.narrow_is) fit.narrow)
