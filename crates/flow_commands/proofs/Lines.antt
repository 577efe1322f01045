-- Files, one after the other, and their lines.
use Rattle.std.proofs.Common.{◌≡◌, ◌≤◌, ◌∙◌, inl, inr, ℕ, zero, suc, ◌+◌, List, [], ◌∷◌, ◌++◌, Option, Some, None}
use Rattle.std.proofs.Common.{refl, sym, ap, subst, append-nil, append_assoc, arith, length, length-append, take}
use Rattle.std.specs.Prelude.{Result, Ok, Err, IfOk, IfErr, IsErr, IsErrAnd}
use Rattle.std.specs.Io.KnownBytes.{Appends, Keeps}
use Rattle.std.specs.Option.{option_or}
use Rattle.std.proofs.KnownBytes.{Appends-nil, Appends-trans, Keeps-refl}
use Rattle.flow_archive.specs.declared.refusal.ArchiveError.{ArchiveError}
use Rattle.flow_archive.specs.declared.refusal.ArchiveError.TheVariants as archive
use Rattle.flow_folder.specs.declared.system.FolderError.{FolderError}
use Rattle.flow_folder.specs.declared.system.FolderError.TheVariants as folder
use Rattle.flow_manifest.specs.declared.error.OpenError.{OpenError}
use Rattle.flow_manifest.specs.declared.error.OpenError.TheVariants as opening
use Rattle.flow_feed.specs.declared.batch.Fed.{Fed}
use Rattle.flow_feed.specs.declared.batch.FeedStop.{FeedStop}
use Rattle.flow_report.specs.Writing.{AppendsFront}
use Rattle.flow_commands.specs.declared.archive_refusal.ArchiveRefusal.{ArchiveRefusal}
use Rattle.flow_commands.specs.declared.archive_refusal.ArchiveRefusal.TheVariants as refusal
use Rattle.flow_commands.specs.Archives.{of_archive, of_folder, of_opening}
use Rattle.flow_commands.specs.Feeding.{FeedsLines, IsUnwritten, KeepsOrFeeds, TellsFed, TellsFile, TellsFiles}
use Rattle.flow_commands.specs.Feeding.{IsNotFed, fed_line, fed_lines, feed_ended, first_status, first_stop}
use Rattle.flow_commands.specs.Asking.{IsUnopened}

-- ---- lines

lines_then : (before n : ℕ) (feds : List Fed) (fed : Fed) → n ≡ suc (before + length feds)
    → fed_lines before (feds ++ fed ∷ []) ≡ fed_lines before feds ++ fed_line n fed
lines_then before n [] fed is =
    let same : suc before ≡ n = omega (arith, is) in
    append-nil (fed_line (suc before) fed) ∙ ap (λ (k : ℕ). fed_line k fed) same
lines_then before n (x ∷ xs) fed is =
    ap (λ (l : List ℕ). fed_line (suc before) x ++ l) (lines_then (suc before) n xs fed (omega (arith, is)))
    ∙ sym (append_assoc (fed_line (suc before) x) (fed_lines (suc before) xs) (fed_line n fed))

first_or_none : (s : Option FeedStop) → option_or s None ≡ s
first_or_none None = refl
first_or_none (Some s) = refl

first_or : (a b c : Option FeedStop) → option_or a (option_or b c) ≡ option_or (option_or a b) c
first_or None b c = refl
first_or (Some s) b c = refl

stop_then : (feds : List Fed) (fed : Fed) → first_stop (feds ++ fed ∷ []) ≡ option_or (first_stop feds) fed.stop
stop_then [] fed = first_or_none fed.stop
stop_then (x ∷ xs) fed = ap (option_or x.stop) (stop_then xs fed) ∙ first_or x.stop (first_stop xs) fed.stop

take_behind : (a b : List ℕ) (n k : ℕ) → n ≡ length a + k → take n (a ++ b) ≡ a ++ take k b
take_behind [] b n k is =
    let same : n ≡ k = omega (arith, is) in
    ap (λ (m : ℕ). take m b) same
take_behind (x ∷ xs) b zero k is = absurd (omega (arith, is))
take_behind (x ∷ xs) b (suc n) k is = ap (λ (l : List ℕ). x ∷ l) (take_behind xs b n k (omega (arith, is)))

take_within : (a b : List ℕ) (n : ℕ) → n ≤ length a → take n (a ++ b) ≡ take n a
take_within a b zero most = refl
take_within [] b (suc n) most = absurd (omega (arith, most))
take_within (x ∷ xs) b (suc n) most = ap (λ (l : List ℕ). x ∷ l) (take_within xs b n (omega (arith, most)))

-- a prefix of what comes after what was written
pub front_behind : (a b c : Option (List ℕ)) (text more : List ℕ) → Appends a b text → AppendsFront b c more
    → AppendsFront a c (text ++ more)
front_behind a b c text more written (n, most, front) =
    let long = length-append text more in (
      length text + n,
      omega (arith, most, long),
      subst (Appends a c) (sym (take_behind text more (length text + n) n refl)) (Appends-trans a b c text (take n more) written front),
    )

kept_front : (a b : Option (List ℕ)) (text : List ℕ) → Keeps a b → AppendsFront a b text
kept_front None b text kept = (0, omega arith, tt)
kept_front (Some xs) None text kept = absurd kept
kept_front (Some xs) (Some ys) text kept = (0, omega arith, kept ∙ sym (append-nil xs))

-- a prefix of a text is one of what goes on from it
pub front_on : (a b : Option (List ℕ)) (text more : List ℕ) → AppendsFront a b text → AppendsFront a b (text ++ more)
front_on a b text more (n, most, front) =
    let long = length-append text more in (
      n,
      omega (arith, most, long),
      subst (Appends a b) (sym (take_within text more n most)) front,
    )

-- ---- Files

-- a File of which nothing is taken in
abbrev pub no_fed : Fed
no_fed = record { messages = 0; stop = None }

-- the lines of these Files are written
pub record IsUnderWay (before after : Option (List ℕ)) (feds : List Fed) (count : ℕ) (first : Option FeedStop) : Type 0
  where
    pub lines : Appends before after (fed_lines 0 feds)
    pub count_is : count ≡ length feds
    pub first_is : first ≡ first_stop feds

pub none_told : (output : Option (List ℕ)) → IsUnderWay output output [] 0 None
none_told output = record {
  lines = Appends-nil output;
  count_is = refl;
  first_is = refl;
}

lines_both : (before : ℕ) (feds more : List Fed)
    → fed_lines before (feds ++ more) ≡ fed_lines before feds ++ fed_lines (before + length feds) more
lines_both before [] more = ap (λ (k : ℕ). fed_lines k more) (let same : before ≡ before + 0 = omega arith in same)
lines_both before (x ∷ xs) more =
    let same : suc before + length xs ≡ before + suc (length xs) = omega arith in
    ap (λ (l : List ℕ). fed_line (suc before) x ++ l)
    (lines_both (suc before) xs more
    ∙ ap (λ (k : ℕ). fed_lines (suc before) xs ++ fed_lines k more) same)
    ∙ sym (append_assoc (fed_line (suc before) x) (fed_lines (suc before) xs)
    (fed_lines (before + suc (length xs)) more))

module _ (before mid after : Option (List ℕ)) (feds : List Fed) (count : ℕ) (first : Option FeedStop)
    (so_far : IsUnderWay before mid feds count first) (fed : Fed) where
  lines_are : fed_lines 0 (feds ++ fed ∷ []) ≡ fed_lines 0 feds ++ fed_line (count + 1) fed
  lines_are = let counted = so_far.count_is in lines_then 0 (count + 1) feds fed (omega (arith, counted))

  -- one File more
  pub one_more : TellsFile (count + 1) fed mid after (Ok tt)
      → IsUnderWay before after (feds ++ fed ∷ []) (count + 1) (option_or first fed.stop)
  one_more written = record {
    lines = subst (Appends before after) (sym lines_are)
        (Appends-trans before mid after (fed_lines 0 feds) (fed_line (count + 1) fed) so_far.lines written);
    count_is = let counted = so_far.count_is in let long = length-append feds (fed ∷ []) in
        omega (arith, counted, long);
    first_is = ap (λ (s : Option FeedStop). option_or s fed.stop) so_far.first_is ∙ sym (stop_then feds fed);
  }

  unwritten : (e : ArchiveRefusal) → TellsFile (count + 1) fed mid after (Err e)
      → IsUnwritten (Err e) × AppendsFront mid after (fed_line (count + 1) fed)
  unwritten (refusal.Write failed) front = (tt, front)
  unwritten refusal.OutOfMemory kept = (tt, kept_front mid after (fed_line (count + 1) fed) kept)
  unwritten (refusal.Opening e) told = absurd told
  unwritten (refusal.Archive e) told = absurd told
  unwritten (refusal.Query e) told = absurd told
  unwritten (refusal.Folder why) told = absurd told

  -- a File whose line isn't written, where that is passed on
  pub line_refused : (e : ArchiveRefusal) (more all : List Fed) (refused : Option ArchiveError)
      (r : Result ℕ ArchiveRefusal) → IsErrAnd r (λ x. x ≡ e) → all ≡ (feds ++ fed ∷ []) ++ more
      → TellsFile (count + 1) fed mid after (Err e) → TellsFiles all refused before after r
  line_refused e more all refused (Ok status) is whole told = absurd is
  line_refused e more all refused (Err x) is whole told =
      let why = unwritten x (subst (λ (y : ArchiveRefusal). TellsFile (count + 1) fed mid after (Err y)) (sym is) told)
      in
      let here : AppendsFront before after (fed_lines 0 (feds ++ fed ∷ [])) =
      subst (AppendsFront before after) (sym lines_are)
      (front_behind before mid after (fed_lines 0 feds) (fed_line (count + 1) fed) so_far.lines why.1) in
      inr (
        why.0,
        subst (AppendsFront before after)
            (sym (ap (fed_lines 0) whole ∙ lines_both 0 (feds ++ fed ∷ []) more))
            (front_on before after (fed_lines 0 (feds ++ fed ∷ []))
            (fed_lines (0 + length (feds ++ fed ∷ [])) more) here),
      )

-- all Files
pub all_told : (before after : Option (List ℕ)) (feds all : List Fed) (count : ℕ) (first : Option FeedStop)
    (refused : Option ArchiveError) (result : Result ℕ ArchiveRefusal) → feds ≡ all
    → IsUnderWay before after feds count first → result ≡ feed_ended first refused
    → TellsFiles all refused before after result
all_told before after feds all count first refused result whole so_far is =
    subst (λ (l : List Fed). TellsFiles l refused before after result) whole
    (inl (so_far.lines, is ∙ ap (λ (s : Option FeedStop). feed_ended s refused) so_far.first_is))

-- a refusal that is passed on is one
pub passed_err : {T E : Type 0} (r : Result T E) (error : E) → IsErrAnd r (λ e. e ≡ error) → IsErr r
passed_err (Ok x) error is = absurd is
passed_err (Err e) error is = refl

-- a start that finds no memory
pub start_refused : (output : Option (List ℕ)) (feds : List Fed) (count : ℕ) → length feds ≡ count
    → TellsFed count output output (Err refusal.OutOfMemory)
start_refused output feds count all =
    (feds, None, all, inr (tt, kept_front output output (fed_lines 0 feds) (Keeps-refl output)))

-- ---- of an archive that is opened, and of a folder

ended_ok : (first : Option FeedStop) (refused : Option ArchiveError) (status : ℕ)
    → Ok status ≡ feed_ended first refused → status ≡ first_status first
ended_ok (Some s) refused status is = cc
ended_ok None (Some e) status is = absurd cc
ended_ok None None status is = cc

fed_ok : (count : ℕ) (feds : List Fed) (refused : Option ArchiveError) (old new : Option (List ℕ)) (status : ℕ)
    → length feds ≡ count → TellsFiles feds refused old new (Ok status) → FeedsLines count status old new
fed_ok count feds refused old new status all (inl (lines, is)) =
    (feds, all, lines, ended_ok (first_stop feds) refused status is)
fed_ok count feds refused old new status all (inr (un, front)) = absurd un

whole_text : (l : List ℕ) → take (length l) l ≡ l
whole_text [] = refl
whole_text (x ∷ xs) = ap (λ (m : List ℕ). x ∷ m) (whole_text xs)

-- the refusal of a rolling
rolling_told : (count : ℕ) (feds : List Fed) (old new : Option (List ℕ)) → length feds ≡ count
    → Appends old new (fed_lines 0 feds) → first_stop feds ≡ None → (error : ArchiveError)
    → KeepsOrFeeds count (of_archive error) old new
rolling_told count feds old new all lines none (archive.Message fault) = (feds, all, lines, none)
rolling_told count feds old new all lines none archive.OutOfMemory =
    let whole = subst (Appends old new) (sym (whole_text (fed_lines 0 feds))) lines in
    (feds, (length (fed_lines 0 feds), omega arith, whole))
rolling_told count feds old new all lines none (archive.Damaged file at) = (feds, all, lines, none)
rolling_told count feds old new all lines none archive.NumbersSpent = (feds, all, lines, none)
rolling_told count feds old new all lines none archive.NotEmpty = (feds, all, lines, none)
rolling_told count feds old new all lines none archive.Fault = (feds, all, lines, none)
rolling_told count feds old new all lines none archive.SourceFault = (feds, all, lines, none)
rolling_told count feds old new all lines none archive.NoRoom = (feds, all, lines, none)
rolling_told count feds old new all lines none archive.ManifestFull = (feds, all, lines, none)
rolling_told count feds old new all lines none archive.NothingToSeal = (feds, all, lines, none)
rolling_told count feds old new all lines none archive.RollBusy = (feds, all, lines, none)
rolling_told count feds old new all lines none archive.NoRoll = (feds, all, lines, none)
rolling_told count feds old new all lines none archive.RollCount = (feds, all, lines, none)
rolling_told count feds old new all lines none archive.RollNotDone = (feds, all, lines, none)
rolling_told count feds old new all lines none archive.Pinned = (feds, all, lines, none)
rolling_told count feds old new all lines none archive.NothingToRetire = (feds, all, lines, none)
rolling_told count feds old new all lines none archive.Closed = (feds, all, lines, none)

fed_err : (count : ℕ) (feds : List Fed) (refused : Option ArchiveError) (old new : Option (List ℕ)) (e : ArchiveRefusal)
    → length feds ≡ count → TellsFiles feds refused old new (Err e) → KeepsOrFeeds count e old new
fed_err count feds refused old new e all (inl (lines, is)) = by (first_stop feds) refl refused is
  where
    by : (first : Option FeedStop) → first_stop feds ≡ first → (r : Option ArchiveError)
        → Err e ≡ feed_ended first r → KeepsOrFeeds count e old new
    by (Some s) f r ends = absurd cc
    by None f (Some error) ends =
        let same : e ≡ of_archive error = cc in
        subst (λ (x : ArchiveRefusal). KeepsOrFeeds count x old new) (sym same)
        (rolling_told count feds old new all lines f error)
    by None f None ends = absurd cc
fed_err count feds refused old new e all (inr (un, front)) = by e un
  where
    by : (e : ArchiveRefusal) → IsUnwritten (Err e) → KeepsOrFeeds count e old new
    by (refusal.Write failed) un = (feds, front)
    by refusal.OutOfMemory un = (feds, front)
    by (refusal.Opening e) un = absurd un
    by (refusal.Archive e) un = absurd un
    by (refusal.Query e) un = absurd un
    by (refusal.Folder why) un = absurd un

-- why feeding is refused, once the archive is opened
rolling_not_fed : (reads : ℕ → List ℕ) (e : ArchiveError) → IsNotFed reads (of_archive e)
rolling_not_fed reads (archive.Message fault) = tt
rolling_not_fed reads archive.OutOfMemory = tt
rolling_not_fed reads (archive.Damaged file at) = tt
rolling_not_fed reads archive.NumbersSpent = tt
rolling_not_fed reads archive.NotEmpty = tt
rolling_not_fed reads archive.Fault = tt
rolling_not_fed reads archive.SourceFault = tt
rolling_not_fed reads archive.NoRoom = tt
rolling_not_fed reads archive.ManifestFull = tt
rolling_not_fed reads archive.NothingToSeal = tt
rolling_not_fed reads archive.RollBusy = tt
rolling_not_fed reads archive.NoRoll = tt
rolling_not_fed reads archive.RollCount = tt
rolling_not_fed reads archive.RollNotDone = tt
rolling_not_fed reads archive.Pinned = tt
rolling_not_fed reads archive.NothingToRetire = tt
rolling_not_fed reads archive.Closed = tt

not_fed : (reads : ℕ → List ℕ) (feds : List Fed) (refused : Option ArchiveError) (old new : Option (List ℕ))
    (e : ArchiveRefusal) → TellsFiles feds refused old new (Err e) → IsNotFed reads e
not_fed reads feds refused old new e (inl (lines, is)) = by (first_stop feds) refused is
  where
    by : (first : Option FeedStop) (r : Option ArchiveError) → Err e ≡ feed_ended first r → IsNotFed reads e
    by (Some s) r ends = absurd cc
    by None (Some error) ends =
        let same : e ≡ of_archive error = cc in
        subst (λ (x : ArchiveRefusal). IsNotFed reads x) (sym same) (rolling_not_fed reads error)
    by None None ends = absurd cc
not_fed reads feds refused old new e (inr (un, front)) = by e un
  where
    by : (e : ArchiveRefusal) → IsUnwritten (Err e) → IsNotFed reads e
    by (refusal.Write failed) un = tt
    by refusal.OutOfMemory un = tt
    by (refusal.Opening e) un = absurd un
    by (refusal.Archive e) un = absurd un
    by (refusal.Query e) un = absurd un
    by (refusal.Folder why) un = absurd un

module _ (count : ℕ) (before after : Option (List ℕ)) where
  pub result_ok : (r : Result ℕ ArchiveRefusal) → TellsFed count before after r
      → IfOk r (λ status. FeedsLines count status before after)
  result_ok (Ok status) (feds, refused, all, told) = fed_ok count feds refused before after status all told
  result_ok (Err e) told = tt

  pub result_err : (r : Result ℕ ArchiveRefusal) → TellsFed count before after r
      → IfErr r (λ e. KeepsOrFeeds count e before after)
  result_err (Ok status) told = tt
  result_err (Err e) (feds, refused, all, told) = fed_err count feds refused before after e all told

  pub result_not_fed : (reads : ℕ → List ℕ) (r : Result ℕ ArchiveRefusal) → TellsFed count before after r
      → IfErr r (λ e. IsNotFed reads e)
  result_not_fed reads (Ok status) told = tt
  result_not_fed reads (Err e) (feds, refused, all, told) = not_fed reads feds refused before after e told

-- an archive that isn't opened
pub opening_kept : (count : ℕ) (output : Option (List ℕ)) (e : OpenError)
    → KeepsOrFeeds count (of_opening e) output output
opening_kept count output (opening.Damaged file at) = Keeps-refl output
opening_kept count output (opening.Format file) = Keeps-refl output
opening_kept count output (opening.Entries file) = Keeps-refl output
opening_kept count output (opening.Cut file) = Keeps-refl output
opening_kept count output opening.NoArchive = Keeps-refl output
opening_kept count output opening.Fault = Keeps-refl output
opening_kept count output opening.OutOfMemory = ([], (0, omega arith, Appends-nil output))

pub opening_not_fed : (reads : ℕ → List ℕ) (e : OpenError) → IsUnopened reads e → IsNotFed reads (of_opening e)
opening_not_fed reads (opening.Damaged file at) why = why
opening_not_fed reads (opening.Format file) why = why
opening_not_fed reads (opening.Entries file) why = why
opening_not_fed reads (opening.Cut file) why = why
opening_not_fed reads opening.NoArchive why = why
opening_not_fed reads opening.Fault why = why
opening_not_fed reads opening.OutOfMemory why = tt

-- a folder that can't be opened
pub folder_kept : (count : ℕ) (output : Option (List ℕ)) (e : FolderError)
    → KeepsOrFeeds count (of_folder e) output output
folder_kept count output folder.NotThere = Keeps-refl output
folder_kept count output folder.NotAFolder = Keeps-refl output
folder_kept count output folder.InUse = Keeps-refl output
folder_kept count output (folder.NotAFile file) = Keeps-refl output
folder_kept count output (folder.NoLock error) = Keeps-refl output
folder_kept count output folder.NoHandles = Keeps-refl output
folder_kept count output folder.OutOfMemory = ([], (0, omega arith, Appends-nil output))
folder_kept count output (folder.Refused error) = Keeps-refl output
