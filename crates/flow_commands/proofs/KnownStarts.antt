-- Of a segment whose span is known, its span's ends are what its sums show.
use Rattle.std.proofs.Common.{◌≡◌, ◌∙◌, ℕ, zero, suc, ◌+◌, ◌-◌, ◌<◌, ◌≤◌, ◌^◌, List, [], ◌∷◌, ◌++◌, map, length, take, drop}
use Rattle.std.proofs.Common.{false, refl, sym, ap, subst, arith, append-nil, length-append}
use Rattle.std.specs.Prelude.{slice_get, nat_lt, Some, Option}
use Rattle.std.specs.List.{AllZip}
use Rattle.std.specs.FinMap.{FinMap, entries}
use Rattle.std.proofs.lemmas.Bool.{le-ltb}
use Rattle.std.proofs.lemmas.Slice.Zip.{AllZip-long}
use Rattle.std.proofs.Math.Seq.{drop-append-add}
use Rattle.flow_codec.specs.Templates.{AllTemplates}
use Rattle.flow_disk.specs.declared.sealed.SealedFile.{Ghosts}
use Rattle.flow_measure.specs.declared.flow.Flow.{Flow}
use Rattle.flow_measure.specs.declared.rows.Sums.{Sums}
use Rattle.flow_measure.specs.declared.span.PartSpan.{PartSpan}
use Rattle.flow_measure.specs.History.{flows_in, read_from, Accepted}
use Rattle.flow_measure.specs.Sums.{gathered, key_cmp, sums_by, Table}
use Rattle.flow_measure.proofs.Gathering.{gathered-entries}
use Rattle.flow_model.specs.Shelf.{Segment, Shelf}
use Rattle.flow_model.proofs.Accepting.{one_restated, read_as}
use Rattle.flow_segment.specs.declared.sealed.SealedPart.{SealedPart}
use Rattle.flow_segment.specs.Segment.{part_octets}
use Rattle.flow_segment.specs.Spans.{HasSpan}
use Rattle.flow_snapshot.specs.Files.{segment_of}
use Rattle.flow_snapshot.specs.Found.{kept_by_file, kept_file, KeptFile}
use Rattle.flow_snapshot.specs.Shares.{summed, AreNarrow, AreWide, IsFileSum, IsOwnSum, IsSegmentSum}
use Rattle.flow_snapshot.proofs.Finding.{own_cut}
use Rattle.flow_commands.specs.declared.archive_files.Starts.{Starts}
use Rattle.flow_commands.specs.ArchiveFiles.{alone, rows_in, starts_of, starts_of_file, starts_of_span}
use Rattle.flow_commands.proofs.OneEach.{file_alone}
use Rattle.flow_commands.proofs.SpanStarts.{starts_by_span}

-- ---- the sums of the file at a place

abbrev IsSumOf : ℕ → KeptFile → FinMap key_cmp Sums → Type 0
IsSumOf width file sums = IsOwnSum width file.prefix file.messages sums

zipped : (width : ℕ) (gs : List Segment) (active : KeptFile) (maps : List (FinMap key_cmp Sums))
    (own : FinMap key_cmp Sums) → AllZip (IsSegmentSum width) gs maps → IsSumOf width active own
    → AllZip (IsSumOf width) (map kept_file gs ++ active ∷ []) (maps ++ own ∷ [])
zipped width [] active [] own zip has = (has, tt)
zipped width [] active (m ∷ ms) own zip has = absurd zip
zipped width (g ∷ gs) active [] own zip has = absurd zip
zipped width (g ∷ gs) active (m ∷ ms) own zip has = (zip.0, zipped width gs active ms own zip.1 has)

sum_there : (width : ℕ) (files : List KeptFile) (maps : List (FinMap key_cmp Sums)) (at : ℕ) (file : KeptFile)
    → AllZip (IsSumOf width) files maps → slice_get files at ≡ Some file
    → (sums : FinMap key_cmp Sums) × IsSumOf width file sums × (take 1 (drop at maps) ≡ sums ∷ [])
sum_there width [] maps at file zip is = absurd cc
sum_there width (f ∷ fs) [] at file zip is = absurd zip
sum_there width (f ∷ fs) (m ∷ ms) zero file zip is =
    let same : f ≡ file = cc in (m, subst (λ (k : KeptFile). IsSumOf width k m) same zip.0, refl)
sum_there width (f ∷ fs) (m ∷ ms) (suc at) file zip is = sum_there width fs ms at file zip.1 is

-- it has one table of sums
one_sum : (width : ℕ) (file : KeptFile) (a b : FinMap key_cmp Sums) → IsSumOf width file a → IsSumOf width file b
    → a ≡ b
one_sum width file a b (before, list, restated, accepted, octets, is) (other, more, again, also, same, has) =
    let one : before ≡ other = one_restated file.prefix before other restated again in
    let lists : list ≡ more =
    sym (read_as before list file.messages accepted octets)
    ∙ ap (λ (t : AllTemplates). read_from t file.messages) one ∙ read_as other more file.messages also same in
    is ∙ ap (λ (l : List Accepted). sums_by width (flows_in l)) lists ∙ sym has

one_summed : (width : ℕ) (sums : FinMap key_cmp Sums)
    → summed width (sums ∷ []) ≡ record { width = width; sums = sums }
one_summed width sums =
    ap (λ (m : FinMap key_cmp Sums). record { width = width; sums = m })
    (ap gathered (append-nil (entries sums)) ∙ gathered-entries sums)

-- the sums of the kept file at a place
alone_kept : (s : Shelf) (wide narrow : List (FinMap key_cmp Sums)) (at n : ℕ) (file : KeptFile)
    (own : FinMap key_cmp Sums) → AreWide s wide → AreNarrow s narrow → slice_get (kept_by_file s) at ≡ Some file
    → IsSumOf s.width file own → n ≡ length s.merged + length s.rolled + at
    → alone s wide narrow n ≡ record { width = s.width; sums = own }
alone_kept s wide narrow at n file own are_wide are_narrow there has is =
    let wides = AllZip-long (IsFileSum s.wide) s.merged wide are_wide in
    let files = AllZip-long (IsFileSum s.width) s.rolled are_narrow.rolled are_narrow.of_rolled in
    let rest = are_narrow.sealed ++ are_narrow.active ∷ [] in
    let one = sum_there s.width (kept_by_file s) rest at file
    (zipped s.width s.sealed (record { prefix = s.prefix; messages = s.active }) are_narrow.sealed are_narrow.active
    are_narrow.of_sealed are_narrow.of_active) there in
    let later : nat_lt n (length wide) ≡ false = le-ltb n (length wide) (omega (arith, is, wides)) in
    let place : n - length wide ≡ length are_narrow.rolled + at = omega (arith, is, wides, files) in
    let found : take 1 (drop (n - length wide) narrow) ≡ one.0 ∷ [] =
    (λ i. take 1 (drop (place i) (are_narrow.all i)))
    ∙ ap (take 1) (drop-append-add are_narrow.rolled rest at) ∙ one.2 in
    rw later
    (ap (summed s.width) found ∙ one_summed s.width one.0
    ∙ ap (λ (m : FinMap key_cmp Sums). record { width = s.width; sums = m })
    (one_sum s.width file one.0 own one.1 has))

-- ---- a segment whose span is known

pub starts_known : {F X : Type 0} {files : Ghosts F X} (part : SealedPart F X files) (s : Shelf)
    (wide narrow : List (FinMap key_cmp Sums)) (at count n : ℕ) (span : PartSpan) → 0 < s.width → span.last < 2 ^ 32
    → HasSpan span (part_octets 0 part.prefix (files.octets part.reader))
    (part_octets part.prefix part.length (files.octets part.reader)) part.messages
    → slice_get (kept_by_file s) at ≡ Some (kept_file (segment_of part)) → AreWide s wide → AreNarrow s narrow
    → n ≡ length s.merged + length s.rolled + at
    → count ≡ length s.merged + length s.rolled + (length s.sealed + 1) → n < count
    → starts_of_span s.width span ≡ starts_of_file s count wide narrow n
starts_known {F} {X} {files} part s wide narrow at count n span some small has there are_wide are_narrow is all below =
    let octets = part_octets part.prefix part.length (files.octets part.reader) in
    let flows = flows_in has.messages in
    let own : IsSumOf s.width (kept_file (segment_of part)) (sums_by s.width flows) = (
      has.before,
      has.messages,
      has.restated,
      has.read.read.accepted,
      own_cut octets has.before part.messages has.messages has.read,
      refl,
    ) in
    let these : length narrow ≡ length s.rolled + (length s.sealed + 1) = omega (
      arith,
      ap length are_narrow.all,
      length-append are_narrow.rolled (are_narrow.sealed ++ are_narrow.active ∷ []),
      length-append are_narrow.sealed (are_narrow.active ∷ []),
      AllZip-long (IsFileSum s.width) s.rolled are_narrow.rolled are_narrow.of_rolled,
      AllZip-long (IsSegmentSum s.width) s.sealed are_narrow.sealed are_narrow.of_sealed,
    ) in
    let wides = AllZip-long (IsFileSum s.wide) s.merged wide are_wide in
    ap (starts_of_span s.width) has.is
    ∙ sym (starts_by_span s.width flows some
    (subst (λ (x : PartSpan). x.last < 2 ^ 32) has.is small))
    ∙ ap (λ (t : Table). starts_of (rows_in t))
    (sym (alone_kept s wide narrow at n (kept_file (segment_of part)) (sums_by s.width flows) are_wide are_narrow there
    own is))
    ∙ sym (file_alone s wide narrow n count are_wide (omega (arith, these)) (omega (arith, these, wides, all)) below)
