-- When the flows of an archive's files start.
use Rattle.std.proofs.Common.{◌≡◌, ℕ, zero, suc, ◌+◌, ◌-◌, ◌<◌, Bool, List, [], ◌∷◌, ◌++◌, length, take, drop, get_or}
use Rattle.std.proofs.Common.{Option, Some, None, append-nil, replicate, refl, sym, ap, subst, ◌∙◌, arith}
use Rattle.std.specs.Prelude.{IsTrue, IfSome}
use Rattle.std.proofs.lemmas.List.{drop-take, length-map, length-take, length-take-le, take_all}
use Rattle.std.proofs.Math.Seq.{take-append_seam}
use Rattle.flow_codec.specs.Fault.{IsOctets}
use Rattle.flow_codec.specs.Message.{joined}
use Rattle.flow_codec.specs.Templates.{AllTemplates}
use Rattle.flow_manifest.specs.declared.following.JobKind.{JobKind}
use Rattle.flow_manifest.specs.declared.following.JobKind.TheVariants.{Roll, Merge}
use Rattle.flow_manifest.specs.declared.manifest.Kind.{Kind}
use Rattle.flow_manifest.specs.declared.manifest.Kind.TheVariants.{Wide, Rolled, Sealed, Active}
use Rattle.flow_manifest.specs.declared.manifest.Entry.{Entry}
use Rattle.flow_manifest.specs.declared.manifest.Manifest.{Manifest}
use Rattle.flow_manifest.specs.Following.{made_of}
use Rattle.flow_measure.specs.declared.span.PartSpan.{PartSpan}
use Rattle.flow_measure.specs.History.{Accepted, AreAcceptedFrom}
use Rattle.flow_measure.specs.Span.{span_of, starts_in}
use Rattle.flow_measure.specs.Sums.{Table}
use Rattle.flow_rolled.specs.Rollup.{IsRollup}
use Rattle.flow_rolled.specs.Spans as rows
use Rattle.flow_segment.specs.Carry.{octets_of}
use Rattle.flow_segment.specs.Prefix.{AreRead, IsRestated}
use Rattle.flow_segment.specs.Segment.{part_octets}
use Rattle.flow_segment.specs.Spans as segment
use Rattle.flow_model.specs.State.{Part}
use Rattle.flow_model.specs.Standing.{IsSealedAt, PartsStand, StandsAs}
use Rattle.flow_recover.specs.Kept.{AreFilesOf}
use Rattle.flow_recover.specs.Opening.{FrozenStand}
use Rattle.flow_recover.specs.Spans.{AreSpansOf, IsSpanOf}
use Rattle.flow_recover.proofs.Behind.{sealed_read}
use Rattle.flow_archive.specs.Frozen.{all_frozen, counted_of, frozen_as, width_of, Frozen, HasSpan, HasSpanAs}
use Rattle.flow_archive.specs.Frozen.{HaveSpans, IsAlone, IsHeldAs}
use Rattle.flow_archive.specs.UnderWay.{sized}
use Rattle.flow_archive.proofs.SourceSums.{cut_whole, ordered}

-- ---- a sealed segment

own_messages : (octets : List ℕ) (e : Entry) (p : Part) (before : AllTemplates) (list : List Accepted)
    → IsSealedAt octets e p → octets_of list ≡ p.messages → AreAcceptedFrom before list
    → AreRead (part_octets e.prefix e.length octets) before list []
own_messages octets e p before list at own accepted =
    let le = ordered octets e p at in
    let same : drop e.prefix (take e.length octets) ≡ part_octets e.prefix e.length octets =
    ap (λ (n : ℕ). drop e.prefix (take n octets)) (omega (arith, le)) ∙ drop-take e.prefix (e.length - e.prefix) octets
    in
    subst (λ (l : List ℕ). AreRead l before list []) same
    (sealed_read (take e.length octets) e p before list (length-take-le e.length octets at.long)
    (cut_whole octets e p at) own accepted)

pub own_there : (octets : List ℕ) (e : Entry) (p : Part) (span : PartSpan) → IsSealedAt octets e p
    → segment.IsOwnSpan p.front p.messages span
    → segment.HasSpan span (part_octets 0 e.prefix octets) (part_octets e.prefix e.length octets) e.messages
own_there octets e p span at (first, bytes, before, list, restated, accepted, own, is) =
    let front : part_octets 0 e.prefix octets ≡ p.front =
    ap (λ (n : ℕ). take n octets) (omega arith) ∙ at.front in
    let read = own_messages octets e p before list at own accepted in
    let joins : part_octets e.prefix e.length octets ≡ joined p.messages =
    read.divided.whole ∙ append-nil (joined (octets_of list)) ∙ ap joined own in record {
      front = subst IsOctets (sym front) first;
      own = subst IsOctets (sym joins) bytes;
      before = before;
      messages = list;
      restated = subst (λ (l : List ℕ). IsRestated l before) (sym front) restated;
      read = record {
        read = read;
        all = sym (length-map list (λ (a : Accepted). a.octets)) ∙ ap (λ (l : List (List ℕ)). length l) own
            ∙ at.messages;
      };
      is = is;
    }

-- one that was sealed
pub sealed_there : (honest : Bool) (octets : List ℕ) (e : Entry) (p : Part) (width : ℕ) (span : Option PartSpan)
    → e.kind ≡ Sealed → (IsTrue honest → IsSealedAt octets e p) → IfSome span (segment.IsOwnSpan p.front p.messages)
    → IfSome span (HasSpan (frozen_as e honest octets) width)
sealed_there honest octets e p width None kind at own = tt
sealed_there honest octets e p width (Some span) kind at own =
    subst (λ (k : Kind). IsTrue honest → HasSpanAs k e width (counted_of k e.length octets) span) (sym kind)
    (λ h. own_there octets e p span (at h) own)

-- ---- files that were found

there : (m : Manifest) (kind : Kind) (octets : List ℕ) (e : Entry) (p : Part) (span : PartSpan)
    → StandsAs kind octets e p → IsSpanOf m kind p span
    → HasSpanAs kind e (width_of kind m) (counted_of kind e.length octets) span
there m Wide octets e p span at is = subst (rows.HasSpan (record { width = m.wide; span = span })) (sym at.front) is
there m Rolled octets e p span at is =
    subst (rows.HasSpan (record { width = m.width; span = span })) (sym at.front) is
there m Sealed octets e p span at is = own_there octets e p span at is
there m Active octets e p span at is = tt

module _ {S : Type 0} (number size : S → ℕ) (is_honest : S → Bool) (octets : S → List ℕ) (honest : Bool)
    (image : ℕ → List ℕ) (m : Manifest) where
  pub all_spans : (es : List Entry) (ps : List Part) (fs : List S) (spans : List PartSpan)
      → AreFilesOf number size is_honest honest es fs → (IsTrue honest → PartsStand image es ps)
      → (IsTrue honest → FrozenStand octets es ps fs) → (IsTrue honest → AreSpansOf image m es spans)
      → HaveSpans m (all_frozen is_honest octets es fs) spans
  all_spans [] ps fs spans are stand frozen have = tt
  all_spans (e ∷ es) ps [] spans are stand frozen have = tt
  all_spans (e ∷ es) ps (f ∷ fs) [] are stand frozen have = tt
  all_spans (e ∷ es) [] (f ∷ fs) (s ∷ spans) are stand frozen have = (
    λ h. absurd (stand (subst IsTrue are.0.honest_is h)),
    all_spans es [] fs spans are.1 (λ h. absurd (stand h)) (λ h. absurd (stand h)) (λ h. (have h).1),
  )
  all_spans (e ∷ es) (p ∷ ps) (f ∷ fs) (s ∷ spans) are stand frozen have = (
    λ own. let h = subst IsTrue are.0.honest_is own in
        there m e.kind (octets f) e p s (frozen h).0 ((have h).0 p (stand h).0),
    all_spans es ps fs spans are.1 (λ h. (stand h).1) (λ h. (frozen h).1) (λ h. (have h).1),
  )

-- ---- files that are gone through

none_known : (m : Manifest) (files : List Frozen) → HaveSpans m files []
none_known m [] = tt
none_known m (f ∷ files) = tt

pub next_known : (m : Manifest) (f : Frozen) (files : List Frozen) (spans : List PartSpan) (n : ℕ) (d : PartSpan)
    → n < length spans → HaveSpans m (f ∷ files) (drop n spans) → HasSpan f (width_of f.entry.kind m) (get_or spans n d)
next_known m f files [] n d lt have = absurd (omega (arith, lt))
next_known m f files (s ∷ spans) zero d lt have = have.0
next_known m f files (s ∷ spans) (suc n) d lt have = next_known m f files spans n d (omega (arith, lt)) have

after_known : (m : Manifest) (f : Frozen) (files : List Frozen) (spans : List PartSpan) (n : ℕ)
    → HaveSpans m (f ∷ files) (drop n spans) → HaveSpans m files (drop (suc n) spans)
after_known m f files [] n have = none_known m files
after_known m f files (s ∷ spans) zero have = have.1
after_known m f files (s ∷ spans) (suc n) have = after_known m f files spans n have

pub later_known : (m : Manifest) (f : Frozen) (files : List Frozen) (spans : List PartSpan) (n k : ℕ) → k ≡ n + 1
    → HaveSpans m (f ∷ files) (drop n spans) → HaveSpans m files (drop k spans)
later_known m f files spans n k is have =
    let next : suc n ≡ k = omega (arith, is) in
    subst (λ (i : ℕ). HaveSpans m files (drop i spans)) next (after_known m f files spans n have)

-- ---- a file that a job has made

sized_whole : (n : ℕ) (octets : List ℕ) → length octets ≡ n → sized n octets ≡ octets
sized_whole n octets is =
    subst (λ (k : ℕ). take k (octets ++ replicate n 0) ≡ octets) is (take-append_seam octets (replicate n 0))

pub made_there : (honest : Bool) (size : ℕ) (octets : List ℕ) (e : Entry) (kind : JobKind) (table : Table)
    → (IsTrue honest → length octets ≡ size) → length (sized size octets) ≡ e.length → e.kind ≡ made_of kind
    → (IsTrue honest → IsRollup table.width (sized size octets) table)
    → HasSpan (frozen_as e honest octets) table.width (span_of (starts_in table.sums))
made_there honest size octets e kind table whole long is made =
    subst (λ (k : Kind). IsTrue honest → HasSpanAs k e table.width (counted_of k e.length octets) span) (sym is)
    (by kind)
  where
    span : PartSpan
    span = span_of (starts_in table.sums)

    own : IsTrue honest → rows.HasSpan (record { width = table.width; span = span }) (take e.length octets)
    own h =
        let same = sized_whole size octets (whole h) in
        let all : take e.length octets ≡ octets = take_all e.length octets (omega (arith, long, ap length same)) in (
          table,
          subst (λ (l : List ℕ). IsRollup table.width l table) (same ∙ sym all) (made h),
          refl,
        )

    by : (j : JobKind) → IsTrue honest
        → HasSpanAs (made_of j) e table.width (counted_of (made_of j) e.length octets) span
    by Roll = own
    by Merge = own

twice : (kind : Kind) (n : ℕ) (octets : List ℕ)
    → counted_of kind n (counted_of kind n octets) ≡ counted_of kind n octets
twice Wide n octets = take_all n (take n octets) (omega (arith, length-take n octets))
twice Rolled n octets = take_all n (take n octets) (omega (arith, length-take n octets))
twice Sealed n octets = refl
twice Active n octets = refl

pub held_there : (honest : Bool) (size : ℕ) (octets : List ℕ) (e : Entry) (kind : JobKind)
    → (IsTrue honest → length octets ≡ size) → length (sized size octets) ≡ e.length → e.kind ≡ made_of kind
    → IsHeldAs honest e (frozen_as e honest octets) × IsAlone (frozen_as e honest octets)
    × (IsTrue honest → counted_of e.kind e.length octets ≡ sized size octets)
held_there honest size octets e kind whole long is = (
  record { entry_is = refl; honest_is = refl; counted = twice e.kind e.length octets },
  refl,
  subst (λ (k : Kind). IsTrue honest → counted_of k e.length octets ≡ sized size octets) (sym is) (by kind),
)
  where
    own : IsTrue honest → take e.length octets ≡ sized size octets
    own h =
        let same = sized_whole size octets (whole h) in
        take_all e.length octets (omega (arith, long, ap length same)) ∙ sym same

    by : (j : JobKind) → IsTrue honest → counted_of (made_of j) e.length octets ≡ sized size octets
    by Roll = own
    by Merge = own
