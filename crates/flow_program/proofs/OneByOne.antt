-- Files that are inspected one after the other, and what is said of one that is refused.
use Rattle.std.proofs.Common.{◌≡◌, ◌≤◌, ◌<◌, ◌∙◌, ℕ, suc, ◌+◌, Bool, true, false, List, [], ◌∷◌, ◌++◌, Option, Some, None}
use Rattle.std.proofs.Common.{refl, sym, ap, subst, append_assoc, arith, codes, eqb-true, length, length-append, get_or}
use Rattle.std.specs.Prelude.{◌||◌, IfSome, if◌then◌else◌, cond, nat_eq, not, take, Result, Ok, Err, OnErr, OnOk}
use Rattle.std.specs.Fmt.{decimal, digits}
use Rattle.std.specs.Io.KnownBytes.{Appends, Keeps}
use Rattle.std.specs.List.{position_or_len}
use Rattle.std.proofs.KnownBytes.{Appends-nil, Appends-trans, Keeps-refl, Keeps-trans}
use Rattle.std.proofs.Math.Seq.{take-append-add, take-length}
use Rattle.std.proofs.lemmas.List.{take-append-le}
use Rattle.std.proofs.lemmas.List.Sums.{prefix_len_passes, prefix_len_stops}
use Rattle.clap.specs.Walk.{Text}
use Rattle.flow_refusals.specs.Table.{code_text}
use Rattle.flow_report.specs.declared.format.Format.{Format}
use Rattle.flow_report.specs.declared.refusal.Refusal.{Refusal}
use Rattle.flow_report.specs.declared.refusal.Refusal.TheVariants.{Message, File, OutOfMemory, SumSpent, NumbersSpent}
use Rattle.flow_report.specs.declared.refusal.Refusal.TheVariants.{Read, Write}
use Rattle.flow_report.specs.Measure.{IsRefusedBy}
use Rattle.flow_report.specs.Writing.{AppendsFront}
use Rattle.flow_inspect.specs.Inspect.{HasFileLines, KeepsOrFrontOfFile, WritesFile}
use Rattle.flow_program.specs.Arguments.{has_input}
use Rattle.flow_program.specs.Inspecting.{IsFileTold, StopsAfter, WritesFiles, file_printed, is_input, known_at, known_of}
use Rattle.flow_program.specs.Printed.{told_lines}

-- ---- what is known of a File's octets

-- as much is known of other octets
abbrev pub IsKnownAs : Option (List ℕ) → Option (List ℕ) → Type 1
IsKnownAs known other = (P : List ℕ → Type 0) → IfSome known P → IfSome other P

pub written_as : (format : Format) (file : Option ℕ) (known other old new : Option (List ℕ)) → IsKnownAs known other
    → WritesFile format file known old new → WritesFile format file other old new
written_as format file known other old new same (octets, lines, are, has, written) = (
  octets,
  lines,
  same (λ o. octets ≡ o) are,
  has,
  written,
)

pub kept_as : (format : Format) (file : Option ℕ) (known other old new : Option (List ℕ)) (e : Refusal)
    → IsKnownAs known other → KeepsOrFrontOfFile format file known old new e
    → KeepsOrFrontOfFile format file other old new e
kept_as format file known other old new (Write failed) same (octets, lines, are, has, front) = (
  octets,
  lines,
  same (λ o. octets ≡ o) are,
  has,
  front,
)
kept_as format file known other old new (Message fault number) same h = h
kept_as format file known other old new (File fault) same h = h
kept_as format file known other old new OutOfMemory same h = h
kept_as format file known other old new SumSpent same h = h
kept_as format file known other old new NumbersSpent same h = h
kept_as format file known other old new (Read failed) same h = h

pub nothing_known : (known : Option (List ℕ)) → IsKnownAs known None
nothing_known known P h = tt

pub known_here : (input : Option (List ℕ)) (path : Text) → is_input path ≡ true → IsKnownAs input (known_at input path)
known_here input path is P h = subst (λ (b : Bool). IfSome (if b then input else None) P) (sym is) h

pub known_nowhere : (input : Option (List ℕ)) (path : Text) → is_input path ≡ false
    → IsKnownAs None (known_at input path)
known_nowhere input path is P h = subst (λ (b : Bool). IfSome (if b then input else None) P) (sym is) tt

known_kept : (input left : Option (List ℕ)) → Keeps input left → IsKnownAs left input
known_kept None left kept P h = tt
known_kept (Some xs) None kept P h = absurd kept
known_kept (Some xs) (Some ys) kept P h = subst P kept h

-- ---- the first of Files that is standard input

passes : (b : Bool) → not b ≡ true → b ≡ false
passes true e = absurd cc
passes false e = refl

stops : (b : Bool) → not b ≡ false → b ≡ true
stops true e = refl
stops false e = absurd cc

before_input : (files : List Text) (i : ℕ) (d : Text) → i < position_or_len is_input files
    → is_input (get_or files i d) ≡ false
before_input files i d before =
    passes (is_input (get_or files i d)) (prefix_len_passes (λ (x : Text). not (is_input x)) files i d before)

at_input : (files : List Text) (i : ℕ) (d : Text) → i < length files → i ≡ position_or_len is_input files
    → is_input (get_or files i d) ≡ true
at_input files i d within is =
    let place = position_or_len is_input files in
    let inside : place < length files = subst (λ (n : ℕ). n < length files) is within in
    subst (λ (n : ℕ). is_input (get_or files n d) ≡ true) (sym is)
    (stops (is_input (get_or files place d)) (prefix_len_stops (λ (x : Text). not (is_input x)) files d inside))

none_input : (files : List Text) → has_input files ≡ false → position_or_len is_input files ≡ length files
none_input [] none = refl
none_input (x ∷ xs) none = by (is_input x) refl (none_input xs)
  where
    by : (b : Bool) → is_input x ≡ b → (has_input xs ≡ false → position_or_len is_input xs ≡ length xs)
        → position_or_len is_input (x ∷ xs) ≡ length (x ∷ xs)
    by true e others = let wrong : true ≡ false = sym (ap (λ (b : Bool). b || has_input xs) e) ∙ none in absurd cc
    by false e others =
        let rest : position_or_len is_input xs ≡ length xs =
        others (sym (ap (λ (b : Bool). b || has_input xs) e) ∙ none) in
        let more : 1 + position_or_len is_input xs ≡ suc (length xs) = omega (arith, rest) in
        ap (λ (b : Bool). cond (not b) (1 + position_or_len is_input xs) 0) e ∙ more

-- ---- one File after the other

-- The lines of so many Files are written, and standard input isn't read up to the first File that is its own.
pub record IsUnderWay (format : Format) (files : List Text) (count : ℕ) (input left old new : Option (List ℕ)) : Type 0
  where
    pub lines : WritesFiles format input files count old new
    pub unread : count ≤ position_or_len is_input files → Keeps input left

pub none_inspected : (format : Format) (files : List Text) (input output : Option (List ℕ))
    → IsUnderWay format files 0 input input output output
none_inspected format files input output = record {
  lines = ([], refl, Appends-nil output);
  unread = λ first. Keeps-refl input;
}

-- what is known of the next File
known_next : (files : List Text) (count : ℕ) (d : Text) (input left : Option (List ℕ)) → count < length files
    → (count ≤ position_or_len is_input files → Keeps input left)
    → IsKnownAs (known_at left (get_or files count d)) (known_of input files count)
known_next files count d input left within unread P h = by (nat_eq count (position_or_len is_input files)) refl
  where
    by : (b : Bool) → nat_eq count (position_or_len is_input files) ≡ b → IfSome (known_of input files count) P
    by false e = subst (λ (b : Bool). IfSome (if b then input else None) P) (sym e) tt
    by true e =
        let is : count ≡ position_or_len is_input files = eqb-true count (position_or_len is_input files) e in
        let here : IfSome left P = subst (λ (b : Bool). IfSome (if b then left else None) P)
        (at_input files count d within is) h in
        subst (λ (b : Bool). IfSome (if b then input else None) P) (sym e)
        (known_kept input left (unread (omega (arith, is))) P here)

still_unread : (files : List Text) (count : ℕ) (d : Text) (input left after : Option (List ℕ))
    → (count ≤ position_or_len is_input files → Keeps input left)
    → (is_input (get_or files count d) ≡ false → Keeps left after)
    → count < position_or_len is_input files → Keeps input after
still_unread files count d input left after unread kept before =
    Keeps-trans input left after (unread (omega (arith, before))) (kept (before_input files count d before))

pub one_more : (format : Format) (files : List Text) (count n : ℕ) (d : Text)
    (input left after old now new : Option (List ℕ)) → n ≡ suc count → count < length files
    → IsUnderWay format files count input left old now
    → WritesFile format (Some n) (known_at left (get_or files count d)) now new
    → (is_input (get_or files count d) ≡ false → Keeps left after)
    → IsUnderWay format files (suc count) input after old new
one_more format files count n d input left after old now new is within so_far file kept =
    let text = so_far.lines in
    let more = written_as format (Some n) (known_at left (get_or files count d)) (known_of input files count) now new
    (known_next files count d input left within so_far.unread) file in
    record {
      lines = (
        text.0 ++ more.1,
        (
          text.0,
          more.0,
          more.1,
          text.1,
          more.2,
          subst (λ (k : ℕ). HasFileLines format (Some k) more.0 more.1) is more.3,
          refl,
        ),
        Appends-trans old now new text.0 more.1 text.2 more.4,
      );
      unread = λ first. still_unread files count d input left after so_far.unread kept (omega (arith, first));
    }

pub stops_at : (format : Format) (files : List Text) (count n : ℕ) (d : Text)
    (input left after old now new : Option (List ℕ)) (e : Refusal) → n ≡ suc count → count < length files
    → IsUnderWay format files count input left old now
    → IfSome (known_at left (get_or files count d)) (λ octets. IsRefusedBy octets after e)
    → KeepsOrFrontOfFile format (Some n) (known_at left (get_or files count d)) now new e
    → StopsAfter format files count input after old new e
stops_at format files count n d input left after old now new e is within so_far refused kept =
    let same = known_next files count d input left within so_far.unread in (
      within,
      same (λ octets. IsRefusedBy octets after e) refused,
      (
        now,
        so_far.lines,
        subst (λ (k : ℕ). KeepsOrFrontOfFile format (Some k) (known_of input files count) now new e) is
            (kept_as format (Some n) (known_at left (get_or files count d)) (known_of input files count) now new e same kept),
      ),
    )

-- standard input is none of the Files
pub unread_to_end : (format : Format) (files : List Text) (count : ℕ) (input left old new : Option (List ℕ))
    → IsUnderWay format files count input left old new → count ≤ length files → has_input files ≡ false
    → Keeps input left
unread_to_end format files count input left old new so_far most none =
    let all = none_input files none in
    so_far.unread (omega (arith, all, most))

pub unread_at : (format : Format) (files : List Text) (count : ℕ) (d : Text)
    (input left after old now : Option (List ℕ)) → count < length files
    → IsUnderWay format files count input left old now
    → (is_input (get_or files count d) ≡ false → Keeps left after)
    → has_input files ≡ false → Keeps input after
unread_at format files count d input left after old now within so_far kept none =
    let all = none_input files none in
    still_unread files count d input left after so_far.unread kept (omega (arith, all, within))

-- ---- what is said of one that is refused

pub nothing_told : (e : Refusal) (number : ℕ) (errors : Option (List ℕ)) → IsFileTold e number errors errors
nothing_told e number errors = (0, omega arith, Appends-nil errors)

pub line_told : (e : Refusal) (number : ℕ) (line : List ℕ) (before after : Option (List ℕ))
    → line ≡ told_lines (file_printed e number) → AppendsFront before after line → IsFileTold e number before after
line_told e number line before after is told = subst (AppendsFront before after) is told

-- a text was written whole, or a prefix of it
pub written_or_front : {X : Type 0} (r : Result X Refusal) (text : List ℕ) (a b : Option (List ℕ))
    → OnOk r (Appends a b text) → OnErr r (AppendsFront a b text) → AppendsFront a b text
written_or_front (Ok x) text a b all front =
    (length text, omega arith, subst (Appends a b) (sym (take-length text)) all)
written_or_front (Err e) text a b all front = front

pub on_error : {X : Type 0} {P : Type 0} (r : Result X Refusal) → P → OnErr r P
on_error (Ok x) h = tt
on_error (Err e) h = h

-- a prefix of a text is one of what goes on from it
front_on : (a b : Option (List ℕ)) (text more : List ℕ) → AppendsFront a b text → AppendsFront a b (text ++ more)
front_on a b text more (n, most, front) =
    let long = length-append text more in (
      n,
      omega (arith, most, long),
      subst (Appends a b) (sym (take-append-le n text more most)) front,
    )

-- a prefix of what comes after what was written
front_behind : (a b c : Option (List ℕ)) (text more : List ℕ) → Appends a b text → AppendsFront b c more
    → AppendsFront a c (text ++ more)
front_behind a b c text more written (n, most, front) =
    let long = length-append text more in (
      length text + n,
      omega (arith, most, long),
      subst (Appends a c) (sym (take-append-add text more n)) (Appends-trans a b c text (take n more) written front),
    )

-- that memory ran out at the File of this number, in three pieces
abbrev pub before_number : List ℕ
before_number = codes "flowvault: 11 OutOfMemory file "

abbrev pub after_number : List ℕ
after_number = codes "\nflowvault: see: flowvault explain 11\n"

pieces : (number : ℕ)
    → told_lines (file_printed OutOfMemory number) ≡ before_number ++ decimal number ++ after_number
unfolding code_text digits
pieces number = ap (λ (l : List ℕ). before_number ++ l) (append_assoc (decimal number) (codes "\n") (codes "flowvault: see: flowvault explain 11\n"))
    ∙ sym (append_assoc before_number (decimal number) after_number)

pub all_pieces : (number : ℕ) (a b c d : Option (List ℕ)) → Appends a b before_number → Appends b c (decimal number)
    → Appends c d after_number → Appends a d (told_lines (file_printed OutOfMemory number))
all_pieces number a b c d first second third =
    subst (Appends a d) (sym (pieces number))
    (Appends-trans a c d (before_number ++ decimal number) after_number
    (Appends-trans a b c before_number (decimal number) first second) third)

pub first_front : (number : ℕ) (a b : Option (List ℕ)) → AppendsFront a b before_number
    → AppendsFront a b (told_lines (file_printed OutOfMemory number))
first_front number a b first =
    subst (AppendsFront a b) (sym (pieces number))
    (front_on a b (before_number ++ decimal number) after_number (front_on a b before_number (decimal number) first))

pub second_front : (number : ℕ) (a b c : Option (List ℕ)) → Appends a b before_number
    → AppendsFront b c (decimal number) → AppendsFront a c (told_lines (file_printed OutOfMemory number))
second_front number a b c first second =
    subst (AppendsFront a c) (sym (pieces number))
    (front_on a c (before_number ++ decimal number) after_number
    (front_behind a b c before_number (decimal number) first second))

pub third_front : (number : ℕ) (a b c d : Option (List ℕ)) → Appends a b before_number → Appends b c (decimal number)
    → AppendsFront c d after_number → AppendsFront a d (told_lines (file_printed OutOfMemory number))
third_front number a b c d first second third =
    subst (AppendsFront a d) (sym (pieces number))
    (front_behind a c d (before_number ++ decimal number) after_number
    (Appends-trans a b c before_number (decimal number) first second) third)
