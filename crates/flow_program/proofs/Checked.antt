-- Archives that are checked one after the other.
use Rattle.std.proofs.Common.{◌≡◌, ◌∙◌, ℕ, suc, ◌+◌, ◌<◌, ◌≤◌, ◌==◌, max, Bool, true, false, List, [], ◌∷◌, ◌++◌}
use Rattle.std.proofs.Common.{length, get_or, take, drop, Option, Some, None, append_assoc, append-nil, refl, sym, ap}
use Rattle.std.proofs.Common.{arith, inl, inr, subst}
use Rattle.std.specs.Prelude.{Ok, Err}
use Rattle.std.specs.Borrow.{Bor}
use Rattle.std.specs.Io.KnownBytes.{Appends, Keeps}
use Rattle.std.specs.List.{AllZip}
use Rattle.std.proofs.KnownBytes.{Appends-nil, Appends-trans, Keeps-refl, Keeps-trans}
use Rattle.std.proofs.Math.Seq.{take-length}
use Rattle.std.proofs.lemmas.List.{length-map, length-take-le, take-append-drop}
use Rattle.flow_commands.specs.declared.archive_refusal.ArchiveRefusal.{ArchiveRefusal}
use Rattle.flow_commands.specs.declared.archive_refusal.ArchiveRefusal.TheVariants as refused
use Rattle.flow_commands.specs.ArchiveFiles.{ListsNoFiles}
use Rattle.flow_commands.specs.Asking.{Writes}
use Rattle.flow_commands.specs.Check.{standing_line, standing_of, IsChecked, IsCheckRefused, TellsState}
use Rattle.flow_disk.specs.declared.disk.Disk.{Ghosts}
use Rattle.flow_disk.specs.Cause.{HasCause}
use Rattle.flow_folder.specs.declared.system.FolderError.{FolderError}
use Rattle.flow_manifest.specs.declared.error.OpenError.TheVariants as open_error
use Rattle.flow_manifest.specs.Slots.{reads_of}
use Rattle.flow_report.specs.declared.patient.WriteFailed.{WriteFailed}
use Rattle.flow_report.specs.declared.refusal.Refusal.TheVariants as refusal
use Rattle.flow_report.specs.Printed.{printed}
use Rattle.flow_report.specs.Refusals.{status_of}
use Rattle.flow_report.specs.Writing.{AppendsFront}
use Rattle.flow_several.proofs.EachLines.{front_then}
use Rattle.flow_several.proofs.EachFlows.{zip_count}
use Rattle.flow_several.proofs.Opened.{no_path, opened_more, paths_of}
use Rattle.flow_several.specs.Folders.{Path}
use Rattle.flow_program.specs.Checks.{greatest_from, number_before, numbered_lines, status_in, text_of, texts_of}
use Rattle.flow_program.specs.Checks.{without_room, AreChecked, AreCheckLines, AreReported, ChecksEnd}
use Rattle.flow_program.specs.Checks.{IsNotChecked, IsOutcome, IsReported}
use Rattle.flow_program.specs.Checks.{MayBeOutcome, Outcome}
use Rattle.flow_program.specs.Printed.{told_lines}
use Rattle.flow_program.specs.SideBySide.{IsReportedAs}

-- ---- lines with a number

-- one octet more
pub one_octet : (number : ℕ) (begins : Bool) (text : List ℕ) (i octet : ℕ) (lines new all : List ℕ)
    → drop i text ≡ octet ∷ drop (i + 1) text → new ≡ lines ++ number_before number begins ++ octet ∷ []
    → lines ++ numbered_lines number begins (drop i text) ≡ all
    → new ++ numbered_lines number (octet == 10) (drop (i + 1) text) ≡ all
one_octet number begins text i octet lines new all here grown so_far =
    let rest = numbered_lines number (octet == 10) (drop (i + 1) text) in
    let before = number_before number begins in
    ap (λ (t : List ℕ). t ++ rest) grown
    ∙ append_assoc (lines ++ before) (octet ∷ []) rest
    ∙ append_assoc lines before (octet ∷ rest)
    ∙ ap (λ (t : List ℕ). lines ++ numbered_lines number begins t) (sym here) ∙ so_far

-- ---- refusals

pub line_refused : (reads : ℕ → List ℕ) (old new : Option (List ℕ)) (e : ArchiveRefusal)
    → IsCheckRefused reads old new e → IsNotChecked false reads (without_room e)
line_refused reads old new (refused.Write failed) h = tt
line_refused reads old new (refused.Opening e) h = h.0
line_refused reads old new refused.OutOfMemory h = tt
line_refused reads old new (refused.Archive e) h = absurd h
line_refused reads old new (refused.Query e) h = absurd h
line_refused reads old new (refused.Folder why) h = absurd h

pub listing_refused : (reads : ℕ → List ℕ) (old new : Option (List ℕ)) (e : ArchiveRefusal)
    → ListsNoFiles reads old new e → IsNotChecked true reads (without_room e)
listing_refused reads old new (refused.Write failed) h = tt
listing_refused reads old new (refused.Opening e) h = h.0
listing_refused reads old new (refused.Query e) h = h.0
listing_refused reads old new refused.OutOfMemory h = tt
listing_refused reads old new (refused.Archive e) h = absurd h
listing_refused reads old new (refused.Folder why) h = absurd h

-- what was written into a text that was empty
module _ (made old : List ℕ) (empty : old ≡ []) where
  made_is : (text : List ℕ) → Appends (Some old) (Some made) text → made ≡ text
  made_is text grown = grown ∙ ap (λ (t : List ℕ). t ++ text) empty

  pub line_told : (reads : ℕ → List ℕ) → TellsState reads (Some old) (Some made) → AreChecked false reads made
  line_told reads (s, stands, grown) = (s, stands, made_is (standing_line (standing_of s)) grown)

  pub line_written : IsChecked (Some old) (Some made) → AreCheckLines false made
  line_written (t, grown) = (t, made_is (standing_line t) grown)

  pub lines_written : (are : List ℕ → Type 0) → Writes are (Some old) (Some made) → are made
  lines_written are (text, is, grown) = subst are (sym (made_is text grown)) is

pub no_memory : (files : Bool) (reads : ℕ → List ℕ) → IsNotChecked files reads refused.OutOfMemory
no_memory true reads = tt
no_memory false reads = tt

-- ---- what a fault of opening is of

abbrev opening_fault : ArchiveRefusal
opening_fault = refused.Opening open_error.Fault

-- lines were made, or others
pub cause_of_lines : {X Y : Type 0} (before after : ℕ) (x : X) (y : Y)
    → HasCause {T = X} opening_fault before after (Ok x) → HasCause {T = Y} opening_fault before after (Ok y)
cause_of_lines before after x y is =
    record { later = is.later; done = is.done; risen = λ never. absurd cc; other = tt }

-- no memory was left for them
pub cause_of_no_memory : {X Y : Type 0} (before after : ℕ) (x : X) → HasCause {T = X} opening_fault before after (Ok x)
    → HasCause {T = Y} opening_fault before after (Err refused.OutOfMemory)
cause_of_no_memory before after x is =
    record { later = is.later; done = tt; risen = λ never. absurd cc; other = λ _. is.done }

-- a refusal, as it is
pub cause_of_refusal : {X Y : Type 0} (before after : ℕ) (e : ArchiveRefusal)
    → HasCause {T = X} opening_fault before after (Err e) → HasCause {T = Y} opening_fault before after (Err e)
cause_of_refusal before after e is = record {
  later = is.later;
  done = tt;
  risen = λ told. let same : e ≡ opening_fault = cc in is.risen (ap Err same);
  other = is.other;
}

no_room_either : (e : ArchiveRefusal) → (without_room e ≡ opening_fault → e ≡ opening_fault)
    × (e ≡ opening_fault → without_room e ≡ opening_fault)
no_room_either (refused.Write failed) = (λ is. absurd cc, λ is. absurd cc)
no_room_either (refused.Opening e) = (λ is. is, λ is. is)
no_room_either (refused.Query e) = (λ is. is, λ is. is)
no_room_either (refused.Archive e) = (λ is. is, λ is. is)
no_room_either (refused.Folder why) = (λ is. is, λ is. is)
no_room_either refused.OutOfMemory = (λ is. is, λ is. is)

-- a refusal of what writes a text into memory
pub cause_without_room : {X Y : Type 0} (before after : ℕ) (e made : ArchiveRefusal) → made ≡ without_room e
    → HasCause {T = X} opening_fault before after (Err e) → HasCause {T = Y} opening_fault before after (Err made)
cause_without_room before after e made this is = record {
  later = is.later;
  done = tt;
  risen = λ told. let same : made ≡ opening_fault = cc in
      is.risen (ap Err ((no_room_either e).0 (sym this ∙ same)));
  other = λ differs. is.other (λ same. differs (this ∙ (no_room_either e).1 same));
}

-- its outcome, as it is reported
pub reported_is : {D S X : Type 0} (g : Ghosts D S X) (opens : Path → D → Type 0)
    (refuses : Path → FolderError → Type 0) (files : Bool) (path : Path) (outcome o : Outcome) → IsReportedAs outcome o
    → IsOutcome g opens refuses files path outcome → IsOutcome g opens refuses files path o
reported_is g opens refuses files path (Ok text) o (inl same) is =
    subst (IsOutcome g opens refuses files path) (sym same) is
reported_is g opens refuses files path (Ok text) o (inr none) (lines, (d, opened, (after, cause), told)) =
    subst (IsOutcome g opens refuses files path) (sym none)
    (inr (d, opened, (after, cause_of_no_memory _ _ _ cause), λ honest. no_memory files (reads_of (g.held d))))
reported_is g opens refuses files path (Err e) o same is =
    subst (IsOutcome g opens refuses files path) (sym same) is

-- ---- one archive after the other

texts_then : (all : List Outcome) (number : ℕ) (o : Outcome)
    → texts_of number (all ++ o ∷ []) ≡ texts_of number all ++ text_of (number + length all) o
texts_then [] number o =
    let here : number + 0 ≡ number = omega arith in
    append-nil (text_of number o) ∙ ap (λ (n : ℕ). text_of n o) (sym here)
texts_then (x ∷ all) number o =
    let here : (number + 1) + length all ≡ number + suc (length all) = omega arith in
    let own = text_of number x in
    ap (λ (t : List ℕ). own ++ t) (texts_then all (number + 1) o
    ∙ ap (λ (n : ℕ). texts_of (number + 1) all ++ text_of n o) here)
    ∙ sym (append_assoc own (texts_of (number + 1) all) (text_of (number + suc (length all)) o))

kept_first : (a b c : Option (List ℕ)) (text : List ℕ) → Keeps a b → Appends b c text → Appends a c text
kept_first None b c text kept grown = tt
kept_first (Some xs) None c text kept grown = absurd kept
kept_first (Some xs) (Some ys) None text kept grown = absurd grown
kept_first (Some xs) (Some ys) (Some zs) text kept grown = grown ∙ ap (λ (t : List ℕ). t ++ text) kept

reported_after : (number : ℕ) (o : Outcome) (a b c : Option (List ℕ)) → Keeps a b → IsReported number o b c
    → IsReported number o a c
reported_after number (Ok text) a b c kept own = Keeps-trans a b c kept own
reported_after number (Err e) a b c kept (n, within, grown) = (n, within, kept_first a b c _ kept grown)

reported_then : (all : List Outcome) (number : ℕ) (o : Outcome) (a b c : Option (List ℕ)) → AreReported number all a b
    → IsReported (number + length all) o b c → AreReported number (all ++ o ∷ []) a c
reported_then [] number o a b c kept own =
    let here : number + 0 ≡ number = omega arith in
    (c, reported_after number o a b c kept (subst (λ (n : ℕ). IsReported n o b c) here own), Keeps-refl c)
reported_then (x ∷ all) number o a b c (mid, first, rest) own =
    let here : number + suc (length all) ≡ (number + 1) + length all = omega arith in
    (mid, first, reported_then all (number + 1) o mid b c rest (subst (λ (n : ℕ). IsReported n o b c) here own))

greatest_then : (all : List Outcome) (status : ℕ) (o : Outcome)
    → greatest_from status (all ++ o ∷ []) ≡ max (greatest_from status all) (status_in o)
greatest_then [] status o = refl
greatest_then (x ∷ all) status o = greatest_then all (max status (status_in x)) o

-- So many folders are checked.
pub record HaveChecked (is : Path → Outcome → Type 0) (folders : List Path) (n : ℕ)
    (old now before after : Option (List ℕ)) (status : ℕ) : Type 0 where
  pub all : List Outcome
  pub each : AllZip is (take n folders) all
  pub written : Appends old now (texts_of 1 all)
  pub reported : AreReported 1 all before after
  pub greatest : status ≡ greatest_from 0 all

pub none_checked : (is : Path → Outcome → Type 0) (folders : List Path) (output errors : Option (List ℕ))
    → HaveChecked is folders 0 output output errors errors 0
none_checked is folders output errors = record {
  all = [];
  each = tt;
  written = Appends-nil output;
  reported = Keeps-refl errors;
  greatest = refl;
}

module _ (is : Path → Outcome → Type 0) (words : List (Bor Path)) (n number : ℕ) (within : n < length words)
    (place : number ≡ n + 1) (old now before mid : Option (List ℕ)) (status : ℕ)
    (so_far : HaveChecked is (paths_of words) n old now before mid status) where
  at_place : 1 + length so_far.all ≡ number
  at_place =
      let most : n ≤ length (paths_of words) =
      omega (arith, within, length-map words (λ (w : Bor Path). w.now)) in
      let few : length (take n (paths_of words)) ≡ n = length-take-le n (paths_of words) most in
      omega (arith, place, few, zip_count is (take n (paths_of words)) so_far.all so_far.each)

  more_each : (o : Outcome) → is (get_or words n no_path).now o
      → AllZip is (take (n + 1) (paths_of words)) (so_far.all ++ o ∷ [])
  more_each o holds = opened_more is words n within (n + 1) so_far.all o refl so_far.each holds

  more_texts : (o : Outcome) → texts_of 1 (so_far.all ++ o ∷ []) ≡ texts_of 1 so_far.all ++ text_of number o
  more_texts o =
      texts_then so_far.all 1 o ∙ ap (λ (k : ℕ). texts_of 1 so_far.all ++ text_of k o) at_place

  more_reported : (o : Outcome) (after : Option (List ℕ)) → IsReported number o mid after
      → AreReported 1 (so_far.all ++ o ∷ []) before after
  more_reported o after told =
      reported_then so_far.all 1 o before mid after so_far.reported
      (subst (λ (k : ℕ). IsReported k o mid after) (sym at_place) told)

  pub one_checked : (o : Outcome) (new after : Option (List ℕ)) (own : ℕ) → is (get_or words n no_path).now o
      → own ≡ status_in o → Appends now new (text_of number o) → IsReported number o mid after
      → HaveChecked is (paths_of words) (n + 1) old new before after (max status own)
  one_checked o new after own holds by grown told = record {
    all = so_far.all ++ o ∷ [];
    each = more_each o holds;
    written = subst (Appends old new) (sym (more_texts o))
        (Appends-trans old now new (texts_of 1 so_far.all) (text_of number o) so_far.written grown);
    reported = more_reported o after told;
    greatest = ap (λ (k : ℕ). max k own) so_far.greatest ∙ ap (max (greatest_from 0 so_far.all)) by
        ∙ sym (greatest_then so_far.all 0 o);
  }

  -- writing failed in its lines
  pub one_cut : (text : List ℕ) (failed : WriteFailed) (new after : Option (List ℕ)) (own : ℕ)
      → is (get_or words n no_path).now (Ok text) → AppendsFront now new (numbered_lines number true text)
      → AppendsFront mid after (told_lines (printed (refusal.Write failed))) → own ≡ status_of (refusal.Write failed)
      → ChecksEnd is (paths_of words) old new before after own
  one_cut text failed new after own holds cut told by = inr (
    take (n + 1) (paths_of words),
    drop (n + 1) (paths_of words),
    so_far.all ++ Ok text ∷ [],
    mid,
    failed,
    sym (take-append-drop (n + 1) (paths_of words)),
    more_each (Ok text) holds,
    subst (AppendsFront old new) (sym (more_texts (Ok text)))
        (front_then old now new (texts_of 1 so_far.all) (numbered_lines number true text) so_far.written cut),
    more_reported (Ok text) mid (Keeps-refl mid),
    told,
    by,
  )

pub all_checked : (is : Path → Outcome → Type 0) (words : List (Bor Path)) (n : ℕ)
    (old now before after : Option (List ℕ)) (status : ℕ) → n ≡ length words
    → HaveChecked is (paths_of words) n old now before after status
    → ChecksEnd is (paths_of words) old now before after status
all_checked is words n old now before after status all so_far =
    let whole : take n (paths_of words) ≡ paths_of words =
    ap (λ (k : ℕ). take k (paths_of words)) (all ∙ sym (length-map words (λ (w : Bor Path). w.now)))
    ∙ take-length (paths_of words) in
    inl (
      so_far.all,
      subst (λ (ps : List Path). AllZip is ps so_far.all) whole so_far.each,
      so_far.written,
      so_far.reported,
      so_far.greatest,
    )

-- ---- whatever the disks

zip_weaker : {A B : Type 0} (P Q : A → B → Type 0) → ((x : A) (y : B) → P x y → Q x y) → (xs : List A) (ys : List B)
    → AllZip P xs ys → AllZip Q xs ys
zip_weaker P Q each [] [] h = tt
zip_weaker P Q each [] (y ∷ ys) h = absurd h
zip_weaker P Q each (x ∷ xs) [] h = absurd h
zip_weaker P Q each (x ∷ xs) (y ∷ ys) h = (each x y h.0, zip_weaker P Q each xs ys h.1)

may_be : {D S X : Type 0} (g : Ghosts D S X) (opens : Path → D → Type 0) (refuses : Path → FolderError → Type 0)
    (files : Bool) (path : Path) (o : Outcome) → IsOutcome g opens refuses files path o → MayBeOutcome files path o
may_be g opens refuses files path (Ok text) h = h.0
may_be g opens refuses files path (Err e) h = tt

pub ends_so : {D S X : Type 0} (g : Ghosts D S X) (opens : Path → D → Type 0) (refuses : Path → FolderError → Type 0)
    (files : Bool) (folders : List Path) (old new before after : Option (List ℕ)) (status : ℕ)
    → ChecksEnd (IsOutcome g opens refuses files) folders old new before after status
    → ChecksEnd (MayBeOutcome files) folders old new before after status
ends_so g opens refuses files folders old new before after status (inl (all, each, written, reported, greatest)) = inl (
  all,
  zip_weaker (IsOutcome g opens refuses files) (MayBeOutcome files) (may_be g opens refuses files) folders all each,
  written,
  reported,
  greatest,
)
ends_so g opens refuses files folders old new before after status
    (inr (first, more, some, mid, failed, parts, each, written, reported, cut, is)) = inr (
      first,
      more,
      some,
      mid,
      failed,
      parts,
      zip_weaker (IsOutcome g opens refuses files) (MayBeOutcome files) (may_be g opens refuses files) first some each,
      written,
      reported,
      cut,
      is,
    )
