-- The records of files, each read after its own prefix.
use Rattle.std.proofs.Common.{◌≡◌, ◌∙◌, ℕ, zero, suc, ◌+◌, ◌<◌, true, List, [], ◌∷◌, ◌++◌, Some, length, map, take, drop}
use Rattle.std.proofs.Common.{refl, sym, ap, subst, get_or, append-nil, append_assoc}
use Rattle.std.specs.Prelude.{slice_get, Option, Result, Ok, Err, OnOk}
use Rattle.std.specs.List.{flat_map, AllZip}
use Rattle.std.proofs.lemmas.List.{take-append-drop, take_more}
use Rattle.std.proofs.lemmas.List.Concat.{flat_map-append}
use Rattle.std.proofs.lemmas.Option.{slice_get-get_or}
use Rattle.flow_codec.specs.Raw.{Placed}
use Rattle.flow_codec.specs.Templates.{AllTemplates}
use Rattle.flow_disk.specs.declared.sealed.SealedFile.{Ghosts}
use Rattle.flow_refusals.specs.declared.read_refusal.ReadRefusal.{ReadRefusal}
use Rattle.flow_measure.specs.declared.span.PartSpan.{PartSpan}
use Rattle.flow_measure.specs.History.{flows_in, read_from, templates_from, Accepted, AreAcceptedFrom}
use Rattle.flow_measure.specs.Span.{is_outside}
use Rattle.flow_measure.specs.View.{View}
use Rattle.flow_measure.proofs.Spanning.{no_flow}
use Rattle.flow_segment.specs.declared.sealed.SealedPart.{SealedPart}
use Rattle.flow_segment.specs.Carry.{octets_of}
use Rattle.flow_segment.specs.PartFlows.{records_in, ArePartMessages, HasMessages}
use Rattle.flow_segment.specs.Prefix.{IsRestated}
use Rattle.flow_segment.specs.Segment.{part_octets}
use Rattle.flow_segment.specs.Spans as segment
use Rattle.flow_model.specs.Shelf.{messages_in, Segment, Shelf}
use Rattle.flow_model.specs.Views.{AreRestated, IsViewOf}
use Rattle.flow_model.proofs.Accepting.{accepted_first, accepted_rest, behind_own, one_restated, own_first, read_as}
use Rattle.flow_snapshot.specs.Files.{cut_into, segment_of}
use Rattle.flow_snapshot.specs.Found.{kept_by_file, kept_file, KeptFile}
use Rattle.flow_snapshot.specs.Answered.{IsNoDamage}
use Rattle.flow_snapshot.proofs.ByFile.{active_file}
use Rattle.flow_snapshot.proofs.Finding.{own_cut}
use Rattle.flow_snapshot.proofs.KeptFlows.{of_part}
use Rattle.flow_records.specs.declared.listing.Listing.{Listing}
use Rattle.flow_records.specs.declared.refusal.RecordsRefusal.{RecordsRefusal}
use Rattle.flow_records.specs.Listing.{TellsOf, TellsOwn}
use Rattle.flow_records.specs.Records.{records_in_view, records_within, AreOwnRecords, HaveOwnRecords}
use Rattle.flow_records.proofs.Within.{none_chosen, messages_within}

-- the records of one file more
abbrev pub AppendsOwnRecords : ℕ → ℕ → KeptFile → List Placed → List Placed → Type 0
AppendsOwnRecords from to file old new =
    (own : List Placed) × HaveOwnRecords from to file own × (new ≡ old ++ own)

-- ---- one file

-- a file has one list of records
pub one_list : (from to : ℕ) (file : KeptFile) (a b : List Placed) → HaveOwnRecords from to file a
    → HaveOwnRecords from to file b → a ≡ b
one_list from to file a b (before, list, restated, accepted, octets, is) (other, more, again, also, same, has) =
    let one : before ≡ other = one_restated file.prefix before other restated again in
    let lists : list ≡ more =
    sym (read_as before list file.messages accepted octets)
    ∙ ap (λ (t : AllTemplates). read_from t file.messages) one ∙ read_as other more file.messages also same in
    is ∙ ap (λ (l : List Accepted). records_within from to (records_in l)) lists ∙ sym has

-- ---- a sealed segment

module _ {F X : Type 0} {files : Ghosts F X} (part : SealedPart F X files) where
  abbrev octets : List ℕ
  octets = part_octets part.prefix part.length (files.octets part.reader)

  abbrev front : List ℕ
  front = part_octets 0 part.prefix (files.octets part.reader)

  -- a part that is said to have no messages
  pub empty_part : (from to : ℕ) (before : AllTemplates) → part.messages ≡ 0 → IsRestated front before
      → HaveOwnRecords from to (kept_file (segment_of part)) []
  empty_part from to before none restated =
      (before, [], restated, tt, sym (ap (λ (k : ℕ). cut_into k octets) none), refl)

  -- a part that is known to have no flow in the span
  pub outside_part : (from to : ℕ) → segment.IsPassedOver 1 from to front octets part.messages
      → HaveOwnRecords from to (kept_file (segment_of part)) []
  outside_part from to (span, has, out) = (
    has.before,
    has.messages,
    has.restated,
    has.read.read.accepted,
    own_cut octets has.before part.messages has.messages has.read,
    sym (none_chosen from to has.messages (no_flow from to (flows_in has.messages)
        (subst (λ (s : PartSpan). is_outside 1 from to s ≡ true) has.is out))),
  )

  -- the messages of a part that has some, as they are read after these templates
  pub own_messages : (from to : ℕ) (before : AllTemplates) (own : List Placed) → 0 < part.messages
      → (has : HaveOwnRecords from to (kept_file (segment_of part)) own) → before ≡ has.0
      → (messages : List Accepted) × ArePartMessages octets before part.messages messages
      × (own ≡ records_within from to (records_in messages))
  own_messages from to before own some (start, list, restated, accepted, same, is) first = (
    list,
    of_part octets part.messages before list some
        (subst (λ (t : AllTemplates). AreAcceptedFrom t list) (sym first) accepted) same,
    is,
  )

  -- messages that fill a part, and the lines of their records
  pub part_own : {Y : Type 0} (old new : Listing) (was now : Option (List ℕ)) (before : AllTemplates)
      (r : Result Y RecordsRefusal) → IsRestated front before → OnOk r (HasMessages octets before part.messages)
      → ((messages : List Accepted) → ArePartMessages octets before part.messages messages
      → OnOk r (TellsOf old was now new (records_within old.chosen.from old.chosen.to (records_in messages))))
      → OnOk r (TellsOwn old was now new (kept_file (segment_of part)))
  part_own old new was now before (Ok x) restated (messages, are) told = (
    records_within old.chosen.from old.chosen.to (records_in messages),
    (before, messages, restated, are.read.accepted, own_cut octets before part.messages messages are, refl),
    told messages are,
  )
  part_own old new was now before (Err e) restated found told = tt

-- ---- all files

abbrev pub none_at : KeptFile
none_at = record { prefix = []; messages = [] }

module _ (from to : ℕ) where
  pub no_files : AreOwnRecords from to [] []
  no_files = ([], tt, refl)

  zip_more : (files : List KeptFile) (lists : List (List Placed)) (file : KeptFile) (own : List Placed)
      → AllZip (HaveOwnRecords from to) files lists → HaveOwnRecords from to file own
      → AllZip (HaveOwnRecords from to) (files ++ file ∷ []) (lists ++ own ∷ [])
  zip_more [] [] file own zip has = (has, tt)
  zip_more [] (x ∷ xs) file own zip has = absurd zip
  zip_more (f ∷ fs) [] file own zip has = absurd zip
  zip_more (f ∷ fs) (x ∷ xs) file own zip has = (zip.0, zip_more fs xs file own zip.1 has)

  -- the records of one file more
  pub one_file_more : (files : List KeptFile) (i : ℕ) (old new : List Placed) → i < length files
      → AreOwnRecords from to (take i files) old
      → ((file : KeptFile) → slice_get files i ≡ Some file → AppendsOwnRecords from to file old new)
      → AreOwnRecords from to (take (i + 1) files) new
  one_file_more files i old new within (lists, zip, all) more =
      let file = get_or files i none_at in
      let one = more file (slice_get-get_or files i none_at within) in
      subst (λ (fs : List KeptFile). AreOwnRecords from to fs new) (sym (take_more files i none_at within)) (
        lists ++ one.0 ∷ [],
        zip_more (take i files) lists file one.0 zip one.1,
        one.2 ∙ ap (λ (fs : List Placed). fs ++ one.0) all
            ∙ ap (λ (fs : List Placed). flat_map (λ (own : List Placed). own) lists ++ fs) (sym (append-nil one.0))
            ∙ sym (flat_map-append (λ (own : List Placed). own) lists (one.0 ∷ [])),
      )

  same_zip : (files : List KeptFile) (xs ys : List (List Placed)) → AllZip (HaveOwnRecords from to) files xs
      → AllZip (HaveOwnRecords from to) files ys → xs ≡ ys
  same_zip [] [] [] a b = refl
  same_zip [] [] (y ∷ ys) a b = absurd b
  same_zip [] (x ∷ xs) ys a b = absurd a
  same_zip (f ∷ fs) [] ys a b = absurd a
  same_zip (f ∷ fs) (x ∷ xs) [] a b = absurd b
  same_zip (f ∷ fs) (x ∷ xs) (y ∷ ys) a b =
      λ i. one_list from to f x y a.0 b.0 i ∷ same_zip fs xs ys a.1 b.1 i

  -- files have one list of records
  pub same_records : (files : List KeptFile) (records others : List Placed) → AreOwnRecords from to files records
      → AreOwnRecords from to files others → records ≡ others
  same_records files records others (xs, zip, is) (ys, also, same) =
      is ∙ ap (flat_map (λ (own : List Placed). own)) (same_zip files xs ys zip also) ∙ sym same

  -- where all have records, each has
  pub records_at : (files : List KeptFile) (all : List Placed) (i : ℕ) (file : KeptFile) → AreOwnRecords from to files all
      → slice_get files i ≡ Some file → (own : List Placed) × HaveOwnRecords from to file own
  records_at files all i file (lists, zip, is) = there files lists i zip
    where
      there : (files : List KeptFile) (lists : List (List Placed)) (i : ℕ) → AllZip (HaveOwnRecords from to) files lists
          → slice_get files i ≡ Some file → (own : List Placed) × HaveOwnRecords from to file own
      there [] lists i zip is = absurd cc
      there (f ∷ fs) [] i zip is = absurd zip
      there (f ∷ fs) (x ∷ xs) zero zip is =
          let same : f ≡ file = cc in (x, subst (λ (k : KeptFile). HaveOwnRecords from to k x) same zip.0)
      there (f ∷ fs) (x ∷ xs) (suc i) zip is = there fs xs i zip.1 is

  -- those of the first files are a prefix of all
  pub first_records : (files : List KeptFile) (i : ℕ) (records all : List Placed) → AreOwnRecords from to (take i files) records
      → AreOwnRecords from to files all → (more : List Placed) × (all ≡ records ++ more)
  first_records files i records all (xs, zip, is) (ys, also, same) =
      let rest = by files i xs ys zip also in
      (rest.0, same ∙ rest.1 ∙ ap (λ (fs : List Placed). fs ++ rest.0) (sym is))
    where
      by : (files : List KeptFile) (i : ℕ) (xs ys : List (List Placed))
          → AllZip (HaveOwnRecords from to) (take i files) xs → AllZip (HaveOwnRecords from to) files ys
          → (more : List Placed)
          × (flat_map (λ (own : List Placed). own) ys ≡ flat_map (λ (own : List Placed). own) xs ++ more)
      by files zero [] ys zip also = (flat_map (λ (own : List Placed). own) ys, refl)
      by files zero (x ∷ xs) ys zip also = absurd zip
      by [] (suc i) [] ys zip also = (flat_map (λ (own : List Placed). own) ys, refl)
      by [] (suc i) (x ∷ xs) ys zip also = absurd zip
      by (f ∷ fs) (suc i) [] ys zip also = absurd zip
      by (f ∷ fs) (suc i) (x ∷ xs) [] zip also = absurd also
      by (f ∷ fs) (suc i) (x ∷ xs) (y ∷ ys) zip also =
          let rest = by fs i xs ys zip.1 also.1 in (
            rest.0,
            ap (λ (own : List Placed). own ++ flat_map (λ (own : List Placed). own) ys)
                (one_list from to f y x also.0 zip.0)
                ∙ ap (λ (fs : List Placed). x ++ fs) rest.1
                ∙ sym (append_assoc x (flat_map (λ (own : List Placed). own) xs) rest.0),
          )

  -- ---- of a view

  kept_records : (before : AllTemplates) (gs : List Segment) (prefix : List ℕ) (active : List (List ℕ))
      (kept : List Accepted) → AreAcceptedFrom before kept → octets_of kept ≡ messages_in gs ++ active
      → AreRestated before gs prefix
      → AreOwnRecords from to (map kept_file gs ++ active_file prefix active ∷ []) (records_within from to (records_in kept))
  kept_records before [] prefix active kept accepted octets restated = (
    records_within from to (records_in kept) ∷ [],
    ((before, kept, restated, accepted, octets, refl), tt),
    sym (append-nil (records_within from to (records_in kept))),
  )
  kept_records before (g ∷ gs) prefix active kept accepted octets restated =
      let n = length g.messages in
      let list = take n kept in
      let more = drop n kept in
      let parted = own_first g gs active kept octets in
      let here = behind_own before g gs active kept accepted octets in
      let rest = kept_records (templates_from before list) gs prefix active more
      (accepted_rest before n kept accepted) parted.1
      (subst (λ (t : AllTemplates). AreRestated t gs prefix) here restated.1) in
      let own = records_within from to (records_in list) in (
        own ∷ rest.0,
        ((before, list, restated.0, accepted_first before n kept accepted, parted.0, refl), rest.1),
        ap (λ (ms : List Accepted). records_within from to (records_in ms)) (sym (take-append-drop n kept))
            ∙ messages_within from to list more
            ∙ ap (λ (fs : List Placed). own ++ fs) rest.2,
      )

  -- the records of a view are those of its files
  pub view_records : (s : Shelf) (v : View) → IsViewOf s v → AreOwnRecords from to (kept_by_file s) (records_in_view from to v)
  view_records s v is = kept_records v.templates s.sealed s.prefix s.active v.kept is.accepted is.kept is.prefixes

-- ---- what is answered

-- what is reported of a file that has records is no damage
pub file_blameless : (from to : ℕ) (files : List KeptFile) (all : List Placed) (i : ℕ) (e : ReadRefusal)
    → AreOwnRecords from to files all → i < length files
    → ((file : KeptFile) → slice_get files i ≡ Some file → (own : List Placed) → HaveOwnRecords from to file own
    → IsNoDamage e)
    → IsNoDamage e
file_blameless from to files all i e are within given =
    let file = get_or files i none_at in
    let there = slice_get-get_or files i none_at within in
    let own = records_at from to files all i file are there in
    given file there own.0 own.1
