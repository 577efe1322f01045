-- Parts that are passed over, and what is left of their sums.
use Rattle.std.proofs.Common.{◌≡◌, ◌⊎◌, inl, inr, ℕ, Bool, true, ◌+◌, ◌<◌, ◌^◌, List, [], ◌∷◌, ◌++◌, map, take, refl, sym, ap}
use Rattle.std.proofs.Common.{subst, ◌∙◌, get_or, length, Option}
use Rattle.std.specs.Prelude.{IsTrue, Result, Ok, Err, IfOk}
use Rattle.std.specs.List.{flat_map, list_all, AllZip}
use Rattle.std.specs.FinMap.{FinMap, entries, get}
use Rattle.std.specs.Arc.{arc_value}
use Rattle.std.specs.declared.sync.Arc.{Arc}
use Rattle.std.proofs.lemmas.List.{map-append}
use Rattle.flow_codec.specs.Templates.{AllTemplates}
use Rattle.flow_disk.specs.declared.sealed.SealedFile.{Ghosts}
use Rattle.flow_measure.specs.declared.rows.Key.{Key}
use Rattle.flow_measure.specs.declared.rows.Row.{Row}
use Rattle.flow_measure.specs.declared.rows.Sums.{Sums}
use Rattle.flow_measure.specs.declared.span.PartSpan.{PartSpan}
use Rattle.flow_measure.specs.History.{flows_in, read_from, Accepted}
use Rattle.flow_measure.specs.Query.{narrow_table_in, rows_of_both, totals_in_view}
use Rattle.flow_measure.specs.Span.{is_outside, AreSameWithin, HasNoneWithin}
use Rattle.flow_measure.specs.Sums.{gathered, is_within, key_cmp, merged, sums_by, AllFit, Table}
use Rattle.flow_measure.specs.View.{gathered_all, View}
use Rattle.flow_measure.proofs.Fitting.{front_fits}
use Rattle.flow_measure.proofs.Gathering.{gathered-both, gathered-same, get-gathered, joined, sum_at, sum_at-append}
use Rattle.flow_measure.proofs.Gathering.{sum_at-entries}
use Rattle.flow_measure.proofs.Spanning.{none_within, same_both}
use Rattle.flow_measure.proofs.Widening.{joined-comm}
use Rattle.flow_model.specs.Shelf.{Rollup, Segment, Shelf}
use Rattle.flow_model.proofs.Accepting.{one_restated, read_as}
use Rattle.flow_refusals.specs.declared.read_refusal.ReadRefusal.{ReadRefusal}
use Rattle.flow_rolled.specs.Spans as rolled
use Rattle.flow_rolled.specs.Stored as stored
use Rattle.flow_rolled.proofs.Breaking.{one_table}
use Rattle.flow_segment.specs.declared.sealed.SealedPart.{SealedPart}
use Rattle.flow_segment.specs.Segment.{part_octets}
use Rattle.flow_segment.specs.Spans as segment
use Rattle.flow_snapshot.specs.declared.shares.PartSums.{PartSums}
use Rattle.flow_snapshot.specs.Files.{rollup_of, segment_of, shared}
use Rattle.flow_snapshot.specs.Shares.{summed, AllPartsFit, AreNarrow, AreWide, IsFileSum, IsOwnSum, IsSegmentSum}
use Rattle.flow_snapshot.specs.Spans.{IsPassedOver, IsWithin, LeavesOut}
use Rattle.flow_snapshot.specs.Totals.{wide_table_in, IsMade, SumsFit}
use Rattle.flow_snapshot.proofs.Choosing.{joined-assoc, maps_at, maps_more}
use Rattle.flow_snapshot.proofs.Dealing.{made_as}
use Rattle.flow_snapshot.proofs.Finding.{honest_one, own_cut, own_sums, shared_more}
use Rattle.flow_snapshot.proofs.Sharing.{all_then}
use Rattle.flow_snapshot.proofs.ViewParts.{parts_fit, PartsOf}

-- ---- one part more

module _ {A : Type 0} (Has : A → FinMap key_cmp Sums → Type 0) (from to : ℕ) where
  pub leaves_more : (ps ks : List A) (p : A) → LeavesOut Has from to ps ks → IsPassedOver Has from to p
      → LeavesOut Has from to (ps ++ p ∷ []) ks
  leaves_more [] [] p h out = inl (out, tt)
  leaves_more [] (k ∷ ks) p h out = absurd h
  leaves_more (x ∷ ps) ks p (inl (own, rest)) out = inl (own, leaves_more ps ks p rest out)
  leaves_more (x ∷ ps) ks p (inr (more, is, rest)) out = inr (more, is, leaves_more ps more p rest out)

  pub keeps_more : (ps ks : List A) (p : A) → LeavesOut Has from to ps ks
      → LeavesOut Has from to (ps ++ p ∷ []) (ks ++ p ∷ [])
  keeps_more [] [] p h = inr ([], refl, tt)
  keeps_more [] (k ∷ ks) p h = absurd h
  keeps_more (x ∷ ps) ks p (inl (own, rest)) = inl (own, keeps_more ps ks p rest)
  keeps_more (x ∷ ps) ks p (inr (more, is, rest)) =
      inr (more ++ p ∷ [], ap (λ (l : List A). l ++ p ∷ []) is, keeps_more ps more p rest)

-- ---- the sums of all parts, and of those that are left

-- the same sums in their order, but for some that have none in the span
abbrev pub Drops : ℕ → ℕ → List (FinMap key_cmp Sums) → List (FinMap key_cmp Sums) → Type 0
Drops from to [] [] = Unit {0}
Drops from to [] (k ∷ kept) = ⊥
Drops from to (m ∷ maps) kept =
    (HasNoneWithin from to m × Drops from to maps kept)
    ⊎ ((more : List (FinMap key_cmp Sums)) × (kept ≡ m ∷ more) × Drops from to maps more)

module _ {A : Type 0} (Has : A → FinMap key_cmp Sums → Type 0) (from to : ℕ) where
  -- where those that are left have sums, all have
  pub filled : (ps ks : List A) (ms : List (FinMap key_cmp Sums)) → LeavesOut Has from to ps ks → AllZip Has ks ms
      → (all : List (FinMap key_cmp Sums)) × AllZip Has ps all × Drops from to all ms
  filled [] [] [] h z = ([], tt, tt)
  filled [] [] (m ∷ ms) h z = absurd z
  filled [] (k ∷ ks) ms h z = absurd h
  filled (p ∷ ps) ks ms (inl (own, rest)) z =
      let more = filled ps ks ms rest z in
      (own.0.0 ∷ more.0, (own.0.1, more.1), inl (own.1 own.0.0 own.0.1, more.2))
  filled (p ∷ ps) ks ms (inr (others, is, rest)) z =
      by ms (λ ns. filled ps others ns rest) (subst (λ (l : List A). AllZip Has l ms) is z)
    where
      by : (ns : List (FinMap key_cmp Sums))
          → ((more : List (FinMap key_cmp Sums)) → AllZip Has others more
          → (all : List (FinMap key_cmp Sums)) × AllZip Has ps all × Drops from to all more)
          → AllZip Has (p ∷ others) ns
          → (all : List (FinMap key_cmp Sums)) × AllZip Has (p ∷ ps) all × Drops from to all ns
      by [] go w = absurd w
      by (n ∷ ns) go w = let more = go ns w.1 in (n ∷ more.0, (w.0, more.1), inr (ns, refl, more.2))

  -- where all have sums, those that are left have
  pub emptied : (ps ks : List A) (all : List (FinMap key_cmp Sums)) → LeavesOut Has from to ps ks → AllZip Has ps all
      → (ms : List (FinMap key_cmp Sums)) × AllZip Has ks ms × Drops from to all ms
  emptied [] [] [] h z = ([], tt, tt)
  emptied [] [] (m ∷ all) h z = absurd z
  emptied [] (k ∷ ks) all h z = absurd h
  emptied (p ∷ ps) ks [] h z = absurd z
  emptied (p ∷ ps) ks (m ∷ all) (inl (own, rest)) z =
      let more = emptied ps ks all rest z.1 in (more.0, more.1, inl (own.1 m z.0, more.2))
  emptied (p ∷ ps) ks (m ∷ all) (inr (others, is, rest)) z =
      let more = emptied ps others all rest z.1 in (
        m ∷ more.0,
        subst (λ (l : List A). AllZip Has l (m ∷ more.0)) (sym is) (z.0, more.1),
        inr (more.0, refl, more.2),
      )

pub drops_then : (from to : ℕ) (xs ys ms ns : List (FinMap key_cmp Sums)) → Drops from to xs ms → Drops from to ys ns
    → Drops from to (xs ++ ys) (ms ++ ns)
drops_then from to [] ys [] ns h k = k
drops_then from to [] ys (m ∷ ms) ns h k = absurd h
drops_then from to (x ∷ xs) ys ms ns (inl (none, rest)) k = inl (none, drops_then from to xs ys ms ns rest k)
drops_then from to (x ∷ xs) ys ms ns (inr (more, is, rest)) k =
    inr (more ++ ns, ap (λ (l : List (FinMap key_cmp Sums)). l ++ ns) is, drops_then from to xs ys more ns rest k)

one_kept : (from to : ℕ) (m : FinMap key_cmp Sums) → Drops from to (m ∷ []) (m ∷ [])
one_kept from to m = inr ([], refl, tt)

same_at : (from to : ℕ) (all ms : List (FinMap key_cmp Sums)) → Drops from to all ms → (q : Key)
    → is_within from to q ≡ true → maps_at q all ≡ maps_at q ms
same_at from to [] [] h q w = refl
same_at from to [] (m ∷ ms) h q w = absurd h
same_at from to (m ∷ all) ms (inl (none, rest)) q w =
    maps_more q m all ∙ ap (λ a. joined a (maps_at q all)) (sum_at-entries m q ∙ none q w)
    ∙ same_at from to all ms rest q w
same_at from to (m ∷ all) ms (inr (more, is, rest)) q w =
    maps_more q m all ∙ ap (joined (sum_at q (entries m))) (same_at from to all more rest q w)
    ∙ sym (maps_more q m more) ∙ ap (λ (l : List (FinMap key_cmp Sums)). maps_at q l) (sym is)

pub same_summed : (from to width : ℕ) (all ms : List (FinMap key_cmp Sums)) → Drops from to all ms
    → AreSameWithin from to (summed width all).sums (summed width ms).sums
same_summed from to width all ms h = λ q w.
    get-gathered (flat_map entries all) q ∙ same_at from to all ms h q w ∙ sym (get-gathered (flat_map entries ms) q)

-- what is left, and the rest, are all
record Rest (all ms : List (FinMap key_cmp Sums)) : Type 0 where
  others : List (FinMap key_cmp Sums)
  is : (q : Key) → maps_at q all ≡ joined (maps_at q ms) (maps_at q others)

rest_of : (from to : ℕ) (all ms : List (FinMap key_cmp Sums)) → Drops from to all ms → Rest all ms
rest_of from to [] [] h = record { others = []; is = λ q. refl }
rest_of from to [] (m ∷ ms) h = absurd h
rest_of from to (m ∷ all) ms (inl (none, rest)) =
    let r = rest_of from to all ms rest in
    record {
      others = m ∷ r.others;
      is = λ q.
          let here = sum_at q (entries m) in
          let a = maps_at q ms in
          let b = maps_at q r.others in
          maps_more q m all ∙ ap (joined here) (r.is q) ∙ joined-assoc here a b
          ∙ ap (λ x. joined x b) (joined-comm here a) ∙ sym (joined-assoc a here b)
          ∙ ap (joined a) (sym (maps_more q m r.others));
    }
rest_of from to (m ∷ all) ms (inr (more, is, rest)) =
    let r = rest_of from to all more rest in
    record {
      others = r.others;
      is = λ q.
          let here = sum_at q (entries m) in
          let b = maps_at q r.others in
          maps_more q m all ∙ ap (joined here) (r.is q) ∙ joined-assoc here (maps_at q more) b
          ∙ ap (λ x. joined x b)
          (sym (maps_more q m more) ∙ ap (λ (l : List (FinMap key_cmp Sums)). maps_at q l) (sym is));
    }

-- sums of fewer parts fit
pub fewer_fit : (from to width : ℕ) (all ms : List (FinMap key_cmp Sums)) → Drops from to all ms
    → AllFit (summed width all) → AllFit (summed width ms)
fewer_fit from to width all ms h fit =
    let r = rest_of from to all ms h in
    let same : gathered_all all ≡ gathered (flat_map entries ms ++ flat_map entries r.others) =
    gathered-same (flat_map entries all) (flat_map entries ms ++ flat_map entries r.others)
    (λ q. r.is q ∙ sym (sum_at-append q (flat_map entries ms) (flat_map entries r.others))) in
    front_fits width width (flat_map entries ms) (flat_map entries r.others)
    (subst (λ (m : FinMap key_cmp Sums). AllFit (record { width = width; sums = m })) same fit)

four : (a b c d : Option Sums) → joined (joined a b) (joined c d) ≡ joined (joined a c) (joined b d)
four a b c d =
    sym (joined-assoc a b (joined c d))
    ∙ ap (joined a) (joined-assoc b c d ∙ ap (λ x. joined x d) (joined-comm b c) ∙ sym (joined-assoc c b d))
    ∙ joined-assoc a c (joined b d)

pub both_fit : (from to width wide : ℕ) (xs ms ys ns : List (FinMap key_cmp Sums)) → Drops from to xs ms
    → Drops from to ys ns → AllFit (merged (summed width xs) (summed wide ys))
    → AllFit (merged (summed width ms) (summed wide ns))
both_fit from to width wide xs ms ys ns h k fit =
    let r = rest_of from to xs ms h in
    let s = rest_of from to ys ns k in
    let es = flat_map entries xs in
    let fs = flat_map entries ys in
    let ks = flat_map entries ms in
    let bs = flat_map entries r.others in
    let cs = flat_map entries ns in
    let ds = flat_map entries s.others in
    let same : gathered (entries (gathered es) ++ entries (gathered fs)) ≡ gathered ((ks ++ cs) ++ (bs ++ ds)) =
    gathered-both es fs ∙ gathered-same (es ++ fs) ((ks ++ cs) ++ (bs ++ ds)) (λ q.
    sum_at-append q es fs ∙ (λ i. joined (r.is q i) (s.is q i))
    ∙ four (sum_at q ks) (sum_at q bs) (sum_at q cs) (sum_at q ds)
    ∙ (λ i. joined (sym (sum_at-append q ks cs) i) (sym (sum_at-append q bs ds) i))
    ∙ sym (sum_at-append q (ks ++ cs) (bs ++ ds))) in
    subst (λ (m : FinMap key_cmp Sums). AllFit (record { width = width; sums = m })) (sym (gathered-both ks cs))
    (front_fits width width (ks ++ cs) (bs ++ ds)
    (subst (λ (m : FinMap key_cmp Sums). AllFit (record { width = width; sums = m })) same fit))

-- ---- a shelf within

module _ (from to : ℕ) (whole within : Shelf) (w : IsWithin from to whole within) where
  pub filled_wide : (ms : List (FinMap key_cmp Sums)) → AreWide within ms
      → (all : List (FinMap key_cmp Sums)) × AreWide whole all × Drops from to all ms
  filled_wide ms are =
      filled (IsFileSum whole.wide) from to whole.merged within.merged ms w.merged
      (subst (λ (n : ℕ). AllZip (IsFileSum n) within.merged ms) w.wide are)

  pub emptied_wide : (all : List (FinMap key_cmp Sums)) → AreWide whole all
      → (ms : List (FinMap key_cmp Sums)) × AreWide within ms × Drops from to all ms
  emptied_wide all are =
      let left = emptied (IsFileSum whole.wide) from to whole.merged within.merged all w.merged are in (
        left.0,
        subst (λ (n : ℕ). AllZip (IsFileSum n) within.merged left.0) (sym w.wide) left.1,
        left.2,
      )

  active_along : (m : FinMap key_cmp Sums) → IsOwnSum within.width within.prefix within.active m
      → IsOwnSum whole.width whole.prefix whole.active m
  active_along m is =
      subst (λ (n : ℕ). IsOwnSum n whole.prefix whole.active m) w.width
      (subst (λ (p : List ℕ). IsOwnSum within.width p whole.active m) w.prefix
      (subst (λ (a : List (List ℕ)). IsOwnSum within.width within.prefix a m) w.active is))

  active_back : (m : FinMap key_cmp Sums) → IsOwnSum whole.width whole.prefix whole.active m
      → IsOwnSum within.width within.prefix within.active m
  active_back m is =
      subst (λ (n : ℕ). IsOwnSum n within.prefix within.active m) (sym w.width)
      (subst (λ (p : List ℕ). IsOwnSum whole.width p within.active m) (sym w.prefix)
      (subst (λ (a : List (List ℕ)). IsOwnSum whole.width whole.prefix a m) (sym w.active) is))

  pub filled_narrow : (ms : List (FinMap key_cmp Sums)) → AreNarrow within ms
      → (all : List (FinMap key_cmp Sums)) × AreNarrow whole all × Drops from to all ms
  filled_narrow ms are =
      let rolled = filled (IsFileSum whole.width) from to whole.rolled within.rolled are.rolled w.rolled
      (subst (λ (n : ℕ). AllZip (IsFileSum n) within.rolled are.rolled) w.width are.of_rolled) in
      let sealed = filled (IsSegmentSum whole.width) from to whole.sealed within.sealed are.sealed w.sealed
      (subst (λ (n : ℕ). AllZip (IsSegmentSum n) within.sealed are.sealed) w.width are.of_sealed) in (
        rolled.0 ++ (sealed.0 ++ are.active ∷ []),
        record {
          rolled = rolled.0;
          sealed = sealed.0;
          active = are.active;
          of_rolled = rolled.1;
          of_sealed = sealed.1;
          of_active = active_along are.active are.of_active;
          all = refl;
        },
        subst (Drops from to (rolled.0 ++ (sealed.0 ++ are.active ∷ []))) (sym are.all)
            (drops_then from to rolled.0 (sealed.0 ++ are.active ∷ []) are.rolled (are.sealed ++ are.active ∷ [])
            rolled.2 (drops_then from to sealed.0 (are.active ∷ []) are.sealed (are.active ∷ []) sealed.2
            (one_kept from to are.active))),
      )

  pub emptied_narrow : (all : List (FinMap key_cmp Sums)) → AreNarrow whole all
      → (ms : List (FinMap key_cmp Sums)) × AreNarrow within ms × Drops from to all ms
  emptied_narrow all are =
      let rolled = emptied (IsFileSum whole.width) from to whole.rolled within.rolled are.rolled w.rolled
      are.of_rolled in
      let sealed = emptied (IsSegmentSum whole.width) from to whole.sealed within.sealed are.sealed w.sealed
      are.of_sealed in (
        rolled.0 ++ (sealed.0 ++ are.active ∷ []),
        record {
          rolled = rolled.0;
          sealed = sealed.0;
          active = are.active;
          of_rolled = subst (λ (n : ℕ). AllZip (IsFileSum n) within.rolled rolled.0) (sym w.width) rolled.1;
          of_sealed = subst (λ (n : ℕ). AllZip (IsSegmentSum n) within.sealed sealed.0) (sym w.width) sealed.1;
          of_active = active_back are.active are.of_active;
          all = refl;
        },
        subst (λ (l : List (FinMap key_cmp Sums)). Drops from to l (rolled.0 ++ (sealed.0 ++ are.active ∷ [])))
            (sym are.all)
            (drops_then from to are.rolled (are.sealed ++ are.active ∷ []) rolled.0 (sealed.0 ++ are.active ∷ [])
            rolled.2 (drops_then from to are.sealed (are.active ∷ []) sealed.0 (are.active ∷ []) sealed.2
            (one_kept from to are.active))),
      )

  -- the rows of all parts are those of the parts within
  pub same_rows : (narrow ns wide ms : List (FinMap key_cmp Sums)) → Drops from to narrow ns → Drops from to wide ms
      → rows_of_both from to (summed whole.width narrow) (summed whole.wide wide)
      ≡ rows_of_both from to (summed within.width ns) (summed within.wide ms)
  same_rows narrow ns wide ms h k =
      same_both from to (summed whole.width narrow) (summed whole.wide wide) (summed within.width ns)
      (summed within.wide ms) (sym w.width) (sym w.wide) (same_summed from to whole.width narrow ns h)
      (same_summed from to whole.wide wide ms k)

  -- ---- what is answered

  -- the totals of all parts
  pub within_read : {X : Type 0} (items : X → List Row) (sums : PartSums) (first : ℕ) (fit : Type 0)
      (r : Result X ReadRefusal)
      → (found : (ms : List (FinMap key_cmp Sums)) × (ns : List (FinMap key_cmp Sums)) × AreWide within ms
      × AreNarrow within ns)
      → (sums.wide ≡ summed within.wide found.0) × (sums.narrow ≡ summed within.width found.1)
      → IsMade first fit (λ x. items x ≡ rows_of_both from to sums.narrow sums.wide) r
      → IfOk r (λ x. (wide : List (FinMap key_cmp Sums)) × (narrow : List (FinMap key_cmp Sums)) × AreWide whole wide
      × AreNarrow whole narrow
      × (items x ≡ rows_of_both from to (summed whole.width narrow) (summed whole.wide wide)))
  within_read items sums first fit (Ok x) (ms, ns, are_wide, are_narrow) right made =
      let wide = filled_wide ms are_wide in
      let narrow = filled_narrow ns are_narrow in (
        wide.0,
        narrow.0,
        wide.1,
        narrow.1,
        made ∙ (λ i. rows_of_both from to (right.1 i) (right.0 i))
            ∙ sym (same_rows narrow.0 ns wide.0 ms narrow.2 wide.2),
      )
  within_read items sums first fit (Err e) found right made = tt

  -- of a view
  module _ (v : View) (p : PartsOf whole v) where
    abbrev pub ms : List (FinMap key_cmp Sums)
    ms = (emptied_wide p.wide p.are_wide).0

    abbrev pub ns : List (FinMap key_cmp Sums)
    ns = (emptied_narrow p.narrow p.are_narrow).0

    pub are_ms : AreWide within ms
    are_ms = (emptied_wide p.wide p.are_wide).1

    pub are_ns : AreNarrow within ns
    are_ns = (emptied_narrow p.narrow p.are_narrow).1

    drop_ms : Drops from to p.wide ms
    drop_ms = (emptied_wide p.wide p.are_wide).2

    drop_ns : Drops from to p.narrow ns
    drop_ns = (emptied_narrow p.narrow p.are_narrow).2

    pub within_fit : SumsFit v → AllPartsFit within ms ns
    within_fit fit =
        let fits = parts_fit whole v p fit in (
          subst (λ (n : ℕ). AllFit (summed n ms)) (sym w.wide) (fewer_fit from to whole.wide p.wide ms drop_ms fits.0),
          subst (λ (n : ℕ). AllFit (summed n ns)) (sym w.width)
              (fewer_fit from to whole.width p.narrow ns drop_ns fits.1),
        )

    rows_are : rows_of_both from to (summed within.width ns) (summed within.wide ms) ≡ totals_in_view from to v
    rows_are =
        sym (same_rows p.narrow ns p.wide ms drop_ns drop_ms)
        ∙ (λ i. rows_of_both from to (p.narrow_is i) (p.wide_is i))

    merged_fit : SumsFit v → within.width ≡ within.wide → AllFit (merged (summed within.width ns) (summed within.wide ms))
    merged_fit fit same =
        let widths : v.width ≡ v.wide =
        sym (ap (λ (t : Table). t.width) p.narrow_is) ∙ sym w.width ∙ same ∙ w.wide
        ∙ ap (λ (t : Table). t.width) p.wide_is in
        subst (λ (t : Table). AllFit (merged t (summed within.wide ms)))
        (λ i. summed (sym w.width i) ns)
        (subst (λ (t : Table). AllFit (merged (summed whole.width ns) t)) (λ i. summed (sym w.wide i) ms)
        (both_fit from to whole.width whole.wide p.narrow ns p.wide ms drop_ns drop_ms
        (subst AllFit (λ i. merged (sym p.narrow_is i) (sym p.wide_is i)) (fit.both widths))))

    pub within_made : {X : Type 0} (narrow wide : Table) → narrow ≡ summed within.width ns → wide ≡ summed within.wide ms
        → (items : X → List Row) (first : ℕ) (r : Result X ReadRefusal)
        → IsMade first (narrow.width ≡ wide.width → AllFit (merged narrow wide))
        (λ x. items x ≡ rows_of_both from to narrow wide) r
        → IsMade first (SumsFit v) (λ x. items x ≡ totals_in_view from to v) r
    within_made {X} narrow wide n m items first r made =
        made_as first (narrow.width ≡ wide.width → AllFit (merged narrow wide)) (SumsFit v)
        (λ (x : X). items x ≡ rows_of_both from to narrow wide) (λ (x : X). items x ≡ totals_in_view from to v) r
        (λ fit same. subst AllFit (λ i. merged (sym n i) (sym m i))
        (merged_fit fit (sym (ap (λ (t : Table). t.width) n) ∙ same ∙ ap (λ (t : Table). t.width) m)))
        (λ x h. h ∙ (λ i. rows_of_both from to (n i) (m i)) ∙ rows_are) made

-- ---- parts that are known to be outside

-- a segment has one table of sums
one_own : (width : ℕ) (prefix : List ℕ) (messages : List (List ℕ)) (a b : FinMap key_cmp Sums)
    → IsOwnSum width prefix messages a → IsOwnSum width prefix messages b → a ≡ b
one_own width prefix messages a b (before, list, restated, accepted, octets, is)
    (other, more, again, also, same, has) =
    let one : before ≡ other = one_restated prefix before other restated again in
    let lists : list ≡ more =
    sym (read_as before list messages accepted octets)
    ∙ ap (λ (t : AllTemplates). read_from t messages) one ∙ read_as other more messages also same in
    is ∙ ap (λ (l : List Accepted). sums_by width (flows_in l)) lists ∙ sym has

pub segment_passed : {F X : Type 0} {files : Ghosts F X} (part : SealedPart F X files) (width from to : ℕ)
    → 0 < width → segment.IsPassedOver width from to (part_octets 0 part.prefix (files.octets part.reader))
    (part_octets part.prefix part.length (files.octets part.reader)) part.messages
    → IsPassedOver (IsSegmentSum width) from to (segment_of part)
segment_passed {F} {X} {files} part width from to some (span, has, out) =
    let octets = part_octets part.prefix part.length (files.octets part.reader) in
    let prefix = part_octets 0 part.prefix (files.octets part.reader) in
    let sums = sums_by width (flows_in has.messages) in
    let own : IsSegmentSum width (segment_of part) sums = (
      has.before,
      has.messages,
      has.restated,
      has.read.read.accepted,
      own_cut octets has.before part.messages has.messages has.read,
      refl,
    ) in
    let none : HasNoneWithin from to sums =
    none_within width from to some (flows_in has.messages)
    (subst (λ (s : PartSpan). is_outside width from to s ≡ true) has.is out) in (
      (sums, own),
      λ other is. subst (HasNoneWithin from to)
          (one_own width prefix (segment_of part).messages sums other own is) none,
    )

pub file_passed : (part : stored.Rollup) (width from to : ℕ) → width < 2 ^ 32
    → rolled.IsPassedOver width from to part.octets → IsPassedOver (IsFileSum width) from to (rollup_of part)
file_passed part width from to small (table, rollup, none) = (
  (table.sums, own_sums width part.octets table rollup),
  λ other is. subst (HasNoneWithin from to)
      (ap (λ (t : Table). t.sums) (one_table width small part.octets table (record { width = width; sums = other }) rollup
      is)) none,
)

-- ---- a list of parts

-- what is kept of the parts so far
pub record Kept {B Z A : Type 0} (Has : A → FinMap key_cmp Sums → Type 0) (from to : ℕ) (f : B → A) (test : B → Bool)
    (parts kept : List (Arc B Z)) : Type 0 where
  pub honest : IsTrue (list_all test (shared kept))
  pub left : LeavesOut Has from to (map f (shared parts)) (map f (shared kept))

pub none_yet : {B Z A : Type 0} (Has : A → FinMap key_cmp Sums → Type 0) (from to : ℕ) (f : B → A) (test : B → Bool)
    (kept : List (Arc B Z)) → kept ≡ [] → Kept Has from to f test [] kept
none_yet {B} {Z} Has from to f test kept none =
    subst (λ (l : List (Arc B Z)). Kept Has from to f test [] l) (sym none) (record { honest = refl; left = tt })

module _ {B Z A : Type 0} (Has : A → FinMap key_cmp Sums → Type 0) (from to : ℕ) (f : B → A) (test : B → Bool)
    (parts kept : List (Arc B Z)) (i : ℕ) (item : Arc B Z) (part : B) (within : i < length parts)
    (is : item ≡ get_or parts i item) (same : part ≡ arc_value item) (honest : IsTrue (list_all test (shared parts)))
    (so_far : Kept Has from to f test (take i parts) kept) where
  more : map f (shared (take (i + 1) parts)) ≡ map f (shared (take i parts)) ++ f part ∷ []
  more =
      ap (λ (ps : List B). map f ps) (shared_more parts i item part within is same)
      ∙ map-append f (shared (take i parts)) (part ∷ [])

  pub one_left : (IsTrue (test part) → IsPassedOver Has from to (f part))
      → Kept Has from to f test (take (i + 1) parts) kept
  one_left out = record {
    honest = so_far.honest;
    left = subst (λ (l : List A). LeavesOut Has from to l (map f (shared kept))) (sym more)
        (leaves_more Has from to (map f (shared (take i parts))) (map f (shared kept)) (f part) so_far.left
        (out (honest_one parts i item part within is same test honest)));
  }

  pub one_kept_too : (new : List (Arc B Z)) (copy : Arc B Z) → new ≡ kept ++ copy ∷ [] → arc_value copy ≡ arc_value item
      → Kept Has from to f test (take (i + 1) parts) new
  one_kept_too new copy pushed alike =
      let here : shared new ≡ shared kept ++ part ∷ [] =
      ap shared pushed ∙ map-append arc_value kept (copy ∷ [])
      ∙ ap (λ (p : B). shared kept ++ p ∷ []) (alike ∙ sym same) in
      let list : map f (shared new) ≡ map f (shared kept) ++ f part ∷ [] =
      ap (λ (ps : List B). map f ps) here ∙ map-append f (shared kept) (part ∷ []) in
      record {
        honest = subst (λ (ps : List B). IsTrue (list_all test ps)) (sym here)
            (all_then test (shared kept) part so_far.honest
            (honest_one parts i item part within is same test honest));
        left = subst (λ (l : List A). LeavesOut Has from to l (map f (shared new))) (sym more)
            (subst (LeavesOut Has from to (map f (shared (take i parts)) ++ f part ∷ [])) (sym list)
            (keeps_more Has from to (map f (shared (take i parts))) (map f (shared kept)) (f part) so_far.left));
      }
