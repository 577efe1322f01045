-- The flows of files, each read after its own prefix.
use Rattle.std.proofs.Common.{◌≡◌, ◌∙◌, ℕ, zero, suc, ◌+◌, ◌<◌, true, List, [], ◌∷◌, ◌++◌, Some, length, map, take, drop}
use Rattle.std.proofs.Common.{◌≤◌, refl, sym, ap, subst, get_or, append-nil, append_assoc, arith}
use Rattle.std.specs.Prelude.{slice_get, IsTrue, Result, Ok, Err, OnOk}
use Rattle.std.specs.List.{flat_map, list_all, AllZip}
use Rattle.std.specs.Arc.{arc_value}
use Rattle.std.specs.declared.sync.Arc.{Arc}
use Rattle.std.proofs.lemmas.List.{length-append, length-map, take-append-drop, take_more}
use Rattle.std.proofs.lemmas.List.Concat.{flat_map-append}
use Rattle.std.proofs.lemmas.Option.{slice_get-get_or, slice_get-map, slice_get_read}
use Rattle.std.specs.Option.{option_map}
use Rattle.flow_codec.specs.Templates.{AllTemplates}
use Rattle.flow_disk.specs.declared.sealed.SealedFile.{Ghosts}
use Rattle.flow_refusals.specs.declared.read_refusal.ReadRefusal.{ReadRefusal}
use Rattle.flow_refusals.specs.declared.read_refusal.ReadRefusal.TheVariants as read
use Rattle.flow_measure.specs.declared.flow.Flow.{Flow}
use Rattle.flow_measure.specs.declared.span.PartSpan.{PartSpan}
use Rattle.flow_measure.specs.History.{flows_in, read_from, templates_from, Accepted, AreAcceptedFrom}
use Rattle.flow_measure.specs.Query.{flows_in_view}
use Rattle.flow_measure.specs.Span.{is_outside}
use Rattle.flow_measure.specs.View.{View}
use Rattle.flow_measure.proofs.Spanning.{no_flow}
use Rattle.flow_segment.specs.declared.sealed.SealedPart.{SealedPart}
use Rattle.flow_segment.specs.Carry.{octets_of}
use Rattle.flow_segment.specs.PartFlows.{flows_within, AreCollected, ArePartMessages, HasMessages}
use Rattle.flow_segment.specs.Prefix.{IsRestated}
use Rattle.flow_segment.specs.Segment.{part_octets}
use Rattle.flow_segment.specs.Spans as segment
use Rattle.flow_model.specs.Shelf.{messages_in, Segment, Shelf}
use Rattle.flow_model.specs.Views.{AreRestated, IsViewOf}
use Rattle.flow_model.proofs.Accepting.{accepted_first, accepted_rest, behind_own, one_restated, own_first, read_as}
use Rattle.flow_snapshot.specs.Files.{cut_into, is_honest, segment_of, shared}
use Rattle.flow_snapshot.specs.Found.{kept_by_file, kept_file, AppendsOwnFlows, AreAccepted, AreOwnFlows, HaveOwnFlows}
use Rattle.flow_snapshot.specs.Found.{KeptFile}
use Rattle.flow_snapshot.specs.Answered.{IsAnswered, IsNoDamage}
use Rattle.flow_snapshot.proofs.Finding.{honest_one, own_cut}
use Rattle.flow_snapshot.proofs.KeptFlows.{more_flows, of_part}

-- ---- one file

-- a file has one list of flows
pub one_list : (from to : ℕ) (file : KeptFile) (a b : List Flow) → HaveOwnFlows from to file a
    → HaveOwnFlows from to file b → a ≡ b
one_list from to file a b (before, list, restated, accepted, octets, is) (other, more, again, also, same, has) =
    let one : before ≡ other = one_restated file.prefix before other restated again in
    let lists : list ≡ more =
    sym (read_as before list file.messages accepted octets)
    ∙ ap (λ (t : AllTemplates). read_from t file.messages) one ∙ read_as other more file.messages also same in
    is ∙ ap (λ (l : List Accepted). flows_within from to (flows_in l)) lists ∙ sym has

-- where its flows are none, nothing is appended
pub none_appended : (from to : ℕ) (file : KeptFile) (old new : List Flow) → HaveOwnFlows from to file [] → new ≡ old
    → AppendsOwnFlows from to file old new
none_appended from to file old new none stays = ([], none, stays ∙ sym (append-nil old))

pub none_given : (from to : ℕ) (file : KeptFile) (old new own : List Flow) → HaveOwnFlows from to file [] → new ≡ old
    → HaveOwnFlows from to file own → new ≡ old ++ own
none_given from to file old new own none stays has =
    stays ∙ sym (append-nil old) ∙ ap (λ (fs : List Flow). old ++ fs) (one_list from to file [] own none has)

-- messages that were accepted, and their flows
pub appended : {X : Type 0} (from to : ℕ) (file : KeptFile) (before after : AllTemplates) (old new : List Flow)
    (r : Result X ReadRefusal) → IsRestated file.prefix before → OnOk r (AreAccepted before file.messages)
    → ((list : List Accepted) → AreAcceptedFrom before list → octets_of list ≡ file.messages
    → IsAnswered (λ _. (after ≡ templates_from before list) × (new ≡ old ++ flows_within from to (flows_in list))) r)
    → OnOk r (AppendsOwnFlows from to file old new)
appended from to file before after old new (Ok x) restated (list, accepted, is) given = (
  flows_within from to (flows_in list),
  (before, list, restated, accepted, is, refl),
  (given list accepted is).1,
)
appended from to file before after old new (Err e) restated found given = tt

pub right_of : {X : Type 0} (from to : ℕ) (after : AllTemplates) (before : AllTemplates) (list : List Accepted)
    (old new own : List Flow) (r : Result X ReadRefusal) → own ≡ flows_within from to (flows_in list)
    → IsAnswered (λ _. (after ≡ templates_from before list) × (new ≡ old ++ flows_within from to (flows_in list))) r
    → IsAnswered (λ _. new ≡ old ++ own) r
right_of from to after before list old new own (Ok x) is right =
    right.1 ∙ ap (λ (fs : List Flow). old ++ fs) (sym is)
right_of from to after before list old new own (Err e) is right = right

-- ---- a sealed segment

module _ {F X : Type 0} {files : Ghosts F X} (part : SealedPart F X files) where
  abbrev octets : List ℕ
  octets = part_octets part.prefix part.length (files.octets part.reader)

  abbrev front : List ℕ
  front = part_octets 0 part.prefix (files.octets part.reader)

  -- a part that is said to have no messages
  pub empty_part : (from to : ℕ) (before : AllTemplates) → part.messages ≡ 0 → IsRestated front before
      → HaveOwnFlows from to (kept_file (segment_of part)) []
  empty_part from to before none restated =
      (before, [], restated, tt, sym (ap (λ (k : ℕ). cut_into k octets) none), refl)

  -- a part that is known to have no flow in the span
  pub outside_part : (from to : ℕ) → segment.IsPassedOver 1 from to front octets part.messages
      → HaveOwnFlows from to (kept_file (segment_of part)) []
  outside_part from to (span, has, out) = (
    has.before,
    has.messages,
    has.restated,
    has.read.read.accepted,
    own_cut octets has.before part.messages has.messages has.read,
    sym (no_flow from to (flows_in has.messages)
        (subst (λ (s : PartSpan). is_outside 1 from to s ≡ true) has.is out)),
  )

  pub part_appended : {Y : Type 0} (from to : ℕ) (before after : AllTemplates) (old new : List Flow)
      (r : Result Y ReadRefusal) → IsRestated front before → OnOk r (HasMessages octets before part.messages)
      → ((own : List Accepted) → ArePartMessages octets before part.messages own
      → AreCollected before from to old own r after new)
      → OnOk r (AppendsOwnFlows from to (kept_file (segment_of part)) old new)
  part_appended from to before after old new (Ok x) restated (own, are) given = (
    flows_within from to (flows_in own),
    (before, own, restated, are.read.accepted, own_cut octets before part.messages own are, refl),
    (given own are).1,
  )
  part_appended from to before after old new (Err e) restated found given = tt

  pub part_right : {Y : Type 0} (from to : ℕ) (before after : AllTemplates) (old new own : List Flow)
      (r : Result Y ReadRefusal) → 0 < part.messages → (has : HaveOwnFlows from to (kept_file (segment_of part)) own)
      → before ≡ has.0
      → ((own : List Accepted) → ArePartMessages octets before part.messages own
      → AreCollected before from to old own r after new)
      → IsAnswered (λ _. new ≡ old ++ own) r
  part_right {Y} from to before after old new own r some (start, list, restated, accepted, same, is) first given =
      by r (given list (of_part octets part.messages before list some
      (subst (λ (t : AllTemplates). AreAcceptedFrom t list) (sym first) accepted) same))
    where
      by : (r : Result Y ReadRefusal) → AreCollected before from to old list r after new
          → IsAnswered (λ _. new ≡ old ++ own) r
      by (Ok x) h = h.1 ∙ ap (λ (fs : List Flow). old ++ fs) (sym is)
      by (Err (read.Damaged file at)) h = h
      by (Err read.Fault) h = tt
      by (Err read.OutOfMemory) h = tt

-- ---- the file at a place

abbrev pub active_file : List ℕ → List (List ℕ) → KeptFile
active_file prefix active = record { prefix = prefix; messages = active }

pub at_segment : (gs : List Segment) (active : KeptFile) (i : ℕ) (file : KeptFile) (g : Segment)
    → slice_get (map kept_file gs ++ active ∷ []) i ≡ Some file → slice_get gs i ≡ Some g → file ≡ kept_file g
at_segment [] active i file g is there = absurd cc
at_segment (x ∷ xs) active zero file g is there =
    let same : x ≡ g = cc in
    let own : kept_file x ≡ file = cc in
    sym own ∙ ap kept_file same
at_segment (x ∷ xs) active (suc i) file g is there = at_segment xs active i file g is there

pub at_active : (gs : List Segment) (active file : KeptFile)
    → slice_get (map kept_file gs ++ active ∷ []) (length gs) ≡ Some file → file ≡ active
at_active [] active file is = let same : active ≡ file = cc in sym same
at_active (x ∷ xs) active file is = at_active xs active file is

abbrev first_at : List Segment → KeptFile → List KeptFile
first_at gs active = map kept_file gs ++ active ∷ []

there_at : (gs : List Segment) (active : KeptFile) → slice_get (first_at gs active) (length gs) ≡ Some active
there_at [] active = refl
there_at (x ∷ xs) active = there_at xs active

pub active_there : (gs : List Segment) (active : KeptFile) (i : ℕ) → length gs ≤ i → i ≤ length gs
    → slice_get (map kept_file gs ++ active ∷ []) i ≡ Some active
active_there gs active i least most =
    let here : length gs ≡ i = omega (arith, least, most) in
    subst (λ (k : ℕ). slice_get (first_at gs active) k ≡ Some active) here (there_at gs active)

pub segment_at : (gs : List Segment) (active : KeptFile) (i : ℕ) (g : Segment) → slice_get gs i ≡ Some g
    → slice_get (map kept_file gs ++ active ∷ []) i ≡ Some (kept_file g)
segment_at [] active i g there = absurd cc
segment_at (x ∷ xs) active zero g there =
    let same : x ≡ g = cc in ap (λ (y : Segment). Some (kept_file y)) same
segment_at (x ∷ xs) active (suc i) g there = segment_at xs active i g there

pub at_the_end : (gs : List Segment) (active : KeptFile) (i : ℕ) (file : KeptFile) → length gs ≤ i
    → i ≤ length gs → slice_get (map kept_file gs ++ active ∷ []) i ≡ Some file → file ≡ active
at_the_end gs active i file least most is =
    let here : i ≡ length gs = omega (arith, least, most) in
    at_active gs active file
    (subst (λ (k : ℕ). slice_get (map kept_file gs ++ active ∷ []) k ≡ Some file) here is)

module _ {F X Z : Type 0} {files : Ghosts F X} (parts : List (Arc (SealedPart F X files) Z)) (i : ℕ)
    (item : Arc (SealedPart F X files) Z) (part : SealedPart F X files) (within : i < length parts)
    (is : item ≡ get_or parts i item) (same : part ≡ arc_value item) where
  segment_there : slice_get (map segment_of (shared parts)) i ≡ Some (segment_of part)
  segment_there =
      slice_get-map segment_of (shared parts) i ∙ ap (option_map segment_of) (slice_get-map arc_value parts i)
      ∙ ap (λ o. option_map segment_of (option_map arc_value o)) (slice_get_read parts (length parts) i item refl within is)
      ∙ ap (λ (p : SealedPart F X files). Some (segment_of p)) (sym same)

  pub own_file : (active file : KeptFile)
      → slice_get (map kept_file (map segment_of (shared parts)) ++ active ∷ []) i ≡ Some file
      → file ≡ kept_file (segment_of part)
  own_file active file there =
      at_segment (map segment_of (shared parts)) active i file (segment_of part) there segment_there

  pub segment_found : (active : KeptFile)
      → slice_get (map kept_file (map segment_of (shared parts)) ++ active ∷ []) i
      ≡ Some (kept_file (segment_of part))
  segment_found active = segment_at (map segment_of (shared parts)) active i (segment_of part) segment_there

  pub honest_there : IsTrue (list_all is_honest (shared parts)) → IsTrue (is_honest part)
  honest_there honest = honest_one parts i item part within is same is_honest honest

-- ---- all files

pub files_count : (s : Shelf) → length (kept_by_file s) ≡ length s.sealed + 1
files_count s =
    length-append (map kept_file s.sealed) (active_file s.prefix s.active ∷ [])
    ∙ ap (λ (n : ℕ). n + 1) (length-map s.sealed kept_file)

abbrev none_at : KeptFile
none_at = record { prefix = []; messages = [] }

module _ (from to : ℕ) where
  pub no_files : AreOwnFlows from to [] []
  no_files = ([], tt, refl)

  zip_more : (files : List KeptFile) (lists : List (List Flow)) (file : KeptFile) (own : List Flow)
      → AllZip (HaveOwnFlows from to) files lists → HaveOwnFlows from to file own
      → AllZip (HaveOwnFlows from to) (files ++ file ∷ []) (lists ++ own ∷ [])
  zip_more [] [] file own zip has = (has, tt)
  zip_more [] (x ∷ xs) file own zip has = absurd zip
  zip_more (f ∷ fs) [] file own zip has = absurd zip
  zip_more (f ∷ fs) (x ∷ xs) file own zip has = (zip.0, zip_more fs xs file own zip.1 has)

  -- the flows of one file more
  pub one_file_more : (files : List KeptFile) (i : ℕ) (old new : List Flow) → i < length files
      → AreOwnFlows from to (take i files) old
      → ((file : KeptFile) → slice_get files i ≡ Some file → AppendsOwnFlows from to file old new)
      → AreOwnFlows from to (take (i + 1) files) new
  one_file_more files i old new within (lists, zip, all) more =
      let file = get_or files i none_at in
      let one = more file (slice_get-get_or files i none_at within) in
      subst (λ (fs : List KeptFile). AreOwnFlows from to fs new) (sym (take_more files i none_at within)) (
        lists ++ one.0 ∷ [],
        zip_more (take i files) lists file one.0 zip one.1,
        one.2 ∙ ap (λ (fs : List Flow). fs ++ one.0) all
            ∙ ap (λ (fs : List Flow). flat_map (λ (own : List Flow). own) lists ++ fs) (sym (append-nil one.0))
            ∙ sym (flat_map-append (λ (own : List Flow). own) lists (one.0 ∷ [])),
      )

  same_zip : (files : List KeptFile) (xs ys : List (List Flow)) → AllZip (HaveOwnFlows from to) files xs
      → AllZip (HaveOwnFlows from to) files ys → xs ≡ ys
  same_zip [] [] [] a b = refl
  same_zip [] [] (y ∷ ys) a b = absurd b
  same_zip [] (x ∷ xs) ys a b = absurd a
  same_zip (f ∷ fs) [] ys a b = absurd a
  same_zip (f ∷ fs) (x ∷ xs) [] a b = absurd b
  same_zip (f ∷ fs) (x ∷ xs) (y ∷ ys) a b =
      λ i. one_list from to f x y a.0 b.0 i ∷ same_zip fs xs ys a.1 b.1 i

  -- files have one list of flows
  pub same_flows : (files : List KeptFile) (flows others : List Flow) → AreOwnFlows from to files flows
      → AreOwnFlows from to files others → flows ≡ others
  same_flows files flows others (xs, zip, is) (ys, also, same) =
      is ∙ ap (flat_map (λ (own : List Flow). own)) (same_zip files xs ys zip also) ∙ sym same

  -- where all have flows, each has
  pub flows_at : (files : List KeptFile) (all : List Flow) (i : ℕ) (file : KeptFile) → AreOwnFlows from to files all
      → slice_get files i ≡ Some file → (own : List Flow) × HaveOwnFlows from to file own
  flows_at files all i file (lists, zip, is) = there files lists i zip
    where
      there : (files : List KeptFile) (lists : List (List Flow)) (i : ℕ) → AllZip (HaveOwnFlows from to) files lists
          → slice_get files i ≡ Some file → (own : List Flow) × HaveOwnFlows from to file own
      there [] lists i zip is = absurd cc
      there (f ∷ fs) [] i zip is = absurd zip
      there (f ∷ fs) (x ∷ xs) zero zip is =
          let same : f ≡ file = cc in (x, subst (λ (k : KeptFile). HaveOwnFlows from to k x) same zip.0)
      there (f ∷ fs) (x ∷ xs) (suc i) zip is = there fs xs i zip.1 is

  -- those of the first files are a prefix of all
  pub first_flows : (files : List KeptFile) (i : ℕ) (flows all : List Flow) → AreOwnFlows from to (take i files) flows
      → AreOwnFlows from to files all → (more : List Flow) × (all ≡ flows ++ more)
  first_flows files i flows all (xs, zip, is) (ys, also, same) =
      let rest = by files i xs ys zip also in
      (rest.0, same ∙ rest.1 ∙ ap (λ (fs : List Flow). fs ++ rest.0) (sym is))
    where
      by : (files : List KeptFile) (i : ℕ) (xs ys : List (List Flow))
          → AllZip (HaveOwnFlows from to) (take i files) xs → AllZip (HaveOwnFlows from to) files ys
          → (more : List Flow)
          × (flat_map (λ (own : List Flow). own) ys ≡ flat_map (λ (own : List Flow). own) xs ++ more)
      by files zero [] ys zip also = (flat_map (λ (own : List Flow). own) ys, refl)
      by files zero (x ∷ xs) ys zip also = absurd zip
      by [] (suc i) [] ys zip also = (flat_map (λ (own : List Flow). own) ys, refl)
      by [] (suc i) (x ∷ xs) ys zip also = absurd zip
      by (f ∷ fs) (suc i) [] ys zip also = absurd zip
      by (f ∷ fs) (suc i) (x ∷ xs) [] zip also = absurd also
      by (f ∷ fs) (suc i) (x ∷ xs) (y ∷ ys) zip also =
          let rest = by fs i xs ys zip.1 also.1 in (
            rest.0,
            ap (λ (own : List Flow). own ++ flat_map (λ (own : List Flow). own) ys)
                (one_list from to f y x also.0 zip.0)
                ∙ ap (λ (fs : List Flow). x ++ fs) rest.1
                ∙ sym (append_assoc x (flat_map (λ (own : List Flow). own) xs) rest.0),
          )

  -- ---- of a view

  kept_flows : (before : AllTemplates) (gs : List Segment) (prefix : List ℕ) (active : List (List ℕ))
      (kept : List Accepted) → AreAcceptedFrom before kept → octets_of kept ≡ messages_in gs ++ active
      → AreRestated before gs prefix
      → AreOwnFlows from to (map kept_file gs ++ active_file prefix active ∷ []) (flows_within from to (flows_in kept))
  kept_flows before [] prefix active kept accepted octets restated = (
    flows_within from to (flows_in kept) ∷ [],
    ((before, kept, restated, accepted, octets, refl), tt),
    sym (append-nil (flows_within from to (flows_in kept))),
  )
  kept_flows before (g ∷ gs) prefix active kept accepted octets restated =
      let n = length g.messages in
      let list = take n kept in
      let more = drop n kept in
      let parted = own_first g gs active kept octets in
      let here = behind_own before g gs active kept accepted octets in
      let rest = kept_flows (templates_from before list) gs prefix active more
      (accepted_rest before n kept accepted) parted.1
      (subst (λ (t : AllTemplates). AreRestated t gs prefix) here restated.1) in
      let own = flows_within from to (flows_in list) in (
        own ∷ rest.0,
        ((before, list, restated.0, accepted_first before n kept accepted, parted.0, refl), rest.1),
        ap (λ (ms : List Accepted). flows_within from to (flows_in ms)) (sym (take-append-drop n kept))
            ∙ sym (more_flows from to [] own (own ++ flows_within from to (flows_in more)) list more refl refl)
            ∙ ap (λ (fs : List Flow). own ++ fs) rest.2,
      )

  -- the flows of a view are those of its files
  pub view_flows : (s : Shelf) (v : View) → IsViewOf s v → AreOwnFlows from to (kept_by_file s) (flows_in_view from to v)
  view_flows s v is = kept_flows v.templates s.sealed s.prefix s.active v.kept is.accepted is.kept is.prefixes

-- ---- what is answered

-- what is reported of a file that has flows is no damage
pub file_blameless : (from to : ℕ) (files : List KeptFile) (all : List Flow) (i : ℕ) (e : ReadRefusal)
    → AreOwnFlows from to files all → i < length files
    → ((file : KeptFile) → slice_get files i ≡ Some file → (own : List Flow) → HaveOwnFlows from to file own
    → IsNoDamage e)
    → IsNoDamage e
file_blameless from to files all i e are within given =
    let file = get_or files i none_at in
    let there = slice_get-get_or files i none_at within in
    let own = flows_at from to files all i file are there in
    given file there own.0 own.1
