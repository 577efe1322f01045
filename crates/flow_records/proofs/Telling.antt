-- Lines of records on their way to a writer, message by message.
use Rattle.std.proofs.Common.{◌≡◌, ◌≢◌, ◌∙◌, ℕ, ◌+◌, Bool, true, false, List, [], ◌∷◌, ◌++◌, length, refl, sym}
use Rattle.std.proofs.Common.{ap, subst, arith, append-nil, append_assoc}
use Rattle.std.specs.Prelude.{IsTrue, Option, Result, Ok, Err, IsErrAnd, IsErrOf, OnErr, map}
use Rattle.std.specs.List.{flat_map, AllByRecursion}
use Rattle.std.proofs.lemmas.List.{length-append}
use Rattle.std.proofs.lemmas.List.Concat.{flat_map-append}
use Rattle.std.proofs.lemmas.List.Elements.{All-append, All-nil}
use Rattle.flow_codec.specs.Cutting.{IsCutOff}
use Rattle.flow_codec.specs.Message.{joined, IsAccepted}
use Rattle.flow_codec.specs.Raw.{under, Placed, RawMessage}
use Rattle.flow_codec.specs.Templates.{AllTemplates}
use Rattle.flow_codec.proofs.Dividing.{one_message}
use Rattle.flow_codec.proofs.FaultLaws.{never_both}
use Rattle.flow_codec.proofs.FaultLaws.{one_message as same_message}
use Rattle.flow_disk.specs.Cause.{HasCause, HasRisen}
use Rattle.flow_disk.specs.Window.{Window, IsOn}
use Rattle.flow_measure.specs.History.{templates_from, Accepted, AreAcceptedFrom}
use Rattle.flow_refusals.specs.declared.read_refusal.ReadRefusal.{ReadRefusal}
use Rattle.flow_refusals.specs.declared.read_refusal.ReadRefusal.TheVariants as read
use Rattle.flow_columns.specs.Lines.{line_text, Line}
use Rattle.flow_report.specs.Records.{Started}
use Rattle.flow_report.specs.Telling.{Tells, TellsFront}
use Rattle.flow_report.proofs.Joining.{holds_more, none_told, stops_more, stops_then, tells_then}
use Rattle.flow_segment.specs.Carry.{octets_of}
use Rattle.flow_segment.specs.Part.{rest_of, IsPartStep, Moves}
use Rattle.flow_segment.specs.PartFlows.{records_in, ArePartMessages, HasMessages, IsDamage, IsWalkedInto}
use Rattle.flow_segment.specs.Prefix.{AreRead}
use Rattle.flow_segment.specs.Segment.{part_octets}
use Rattle.flow_segment.proofs.Flowing.{advance_told, PartSoFar}
use Rattle.flow_segment.proofs.Restating.{step_more, Behind}
use Rattle.flow_segment.proofs.Uniqueness.{not_stopped, read_behind, same_read, StandBehind}
use Rattle.flow_snapshot.specs.Answered.{IsNoDamage}
use Rattle.flow_records.specs.declared.listing.Listing.{Listing}
use Rattle.flow_records.specs.declared.refusal.RecordsRefusal.{RecordsRefusal}
use Rattle.flow_records.specs.declared.refusal.RecordsRefusal.TheVariants.{Query}
use Rattle.flow_records.specs.Listing.{IsBlameless, StaysSo, TellsFrontOf, TellsFrontOfSome, TellsOf, TellsSome}
use Rattle.flow_records.specs.Records.{is_chosen, line_of, lines_of, records_within, started, AreChosen}
use Rattle.flow_records.proofs.Within.{all_chosen, messages_within, one_within}
use Rattle.flow_records.proofs.Choosing.{lines_held}

-- ---- lines after lines

pub stays_then : (old mid new : Listing) → StaysSo old mid → StaysSo mid new → StaysSo old new
stays_then old mid new a b =
    record { format = b.format ∙ a.format; from = b.from ∙ a.from; to = b.to ∙ a.to }

pub stays_here : (old : Listing) → StaysSo old old
stays_here old = record { format = refl; from = refl; to = refl }

both_lines : (format : Line) (xs ys : List Placed)
    → lines_of format xs ++ lines_of format ys ≡ lines_of format (xs ++ ys)
both_lines format xs ys = sym (flat_map-append (line_of format) xs ys)

-- the records of a span that stays
pub same_within : (old mid : Listing) (zs : List Placed) → StaysSo old mid
    → records_within mid.chosen.from mid.chosen.to zs ≡ records_within old.chosen.from old.chosen.to zs
same_within old mid zs same = λ i. records_within (same.from i) (same.to i) zs

module _ (old mid new : Listing) (was now next : Option (List ℕ)) (xs ys : List Placed) (same : StaysSo old mid) where
  pub told_more : TellsOf old was now mid xs → TellsOf mid now next new ys → TellsOf old was next new (xs ++ ys)
  told_more first more =
      subst (Tells was old.lines.held next new.lines.held) (both_lines old.lines.line xs ys)
      (tells_then was now next old.lines.held mid.lines.held new.lines.held (lines_of old.lines.line xs)
      (lines_of old.lines.line ys) first
      (subst (λ (f : Line). Tells now mid.lines.held next new.lines.held (lines_of f ys)) same.format more))

  pub told_cut : TellsOf old was now mid xs → TellsFrontOf mid now next ys → TellsFrontOf old was next (xs ++ ys)
  told_cut first more =
      subst (TellsFront was old.lines.held next) (both_lines old.lines.line xs ys)
      (stops_then was now next old.lines.held mid.lines.held (lines_of old.lines.line xs)
      (lines_of old.lines.line ys) first
      (subst (λ (f : Line). TellsFront now mid.lines.held next (lines_of f ys)) same.format more))

pub cut_longer : (old : Listing) (was now : Option (List ℕ)) (xs ys : List Placed) → TellsFrontOf old was now xs
    → TellsFrontOf old was now (xs ++ ys)
cut_longer old was now xs ys front =
    subst (TellsFront was old.lines.held now) (both_lines old.lines.line xs ys)
    (stops_more was now old.lines.held (lines_of old.lines.line xs) (lines_of old.lines.line ys) front)

pub told_none : (old : Listing) (was : Option (List ℕ)) → TellsOf old was was old []
told_none old was = holds_more was old.lines.held [] old.lines.held (sym (append-nil old.lines.held))

pub cut_none : (old : Listing) (was : Option (List ℕ)) (xs : List Placed) → TellsFrontOf old was was xs
cut_none old was xs = none_told was old.lines.held (lines_of old.lines.line xs)

-- ---- of some records

chosen_none : (from to : ℕ) → AreChosen from to []
chosen_none from to = All-nil (λ (x : Placed). is_chosen from to x ≡ true)

chosen_both : (from to : ℕ) (xs ys : List Placed) → AreChosen from to xs → AreChosen from to ys
    → AreChosen from to (xs ++ ys)
chosen_both from to xs ys = All-append (λ (x : Placed). is_chosen from to x ≡ true) xs ys

chosen_same : (old mid : Listing) (ys : List Placed) → StaysSo old mid → AreChosen mid.chosen.from mid.chosen.to ys
    → AreChosen old.chosen.from old.chosen.to ys
chosen_same old mid ys same are =
    subst (λ (n : ℕ). AreChosen n old.chosen.to ys) same.from
    (subst (λ (n : ℕ). AreChosen mid.chosen.from n ys) same.to are)

pub some_none : (old : Listing) (was : Option (List ℕ)) → TellsSome old was was old
some_none old was = ([], chosen_none old.chosen.from old.chosen.to, told_none old was)

pub some_cut_none : (old : Listing) (was : Option (List ℕ)) → TellsFrontOfSome old was was
some_cut_none old was = ([], chosen_none old.chosen.from old.chosen.to, cut_none old was [])

pub some_within : (old new : Listing) (was now : Option (List ℕ)) (zs : List Placed)
    → TellsOf old was now new (records_within old.chosen.from old.chosen.to zs) → TellsSome old was now new
some_within old new was now zs told = (
  records_within old.chosen.from old.chosen.to zs,
  all_chosen old.chosen.from old.chosen.to zs,
  told,
)

pub some_cut_within : (old : Listing) (was now : Option (List ℕ)) (zs : List Placed)
    → TellsFrontOf old was now (records_within old.chosen.from old.chosen.to zs) → TellsFrontOfSome old was now
some_cut_within old was now zs front = (
  records_within old.chosen.from old.chosen.to zs,
  all_chosen old.chosen.from old.chosen.to zs,
  front,
)

pub some_more : (old mid new : Listing) (was now next : Option (List ℕ)) → StaysSo old mid
    → TellsSome old was now mid → TellsSome mid now next new → TellsSome old was next new
some_more old mid new was now next same (xs, all, told) (ys, each, more) = (
  xs ++ ys,
  chosen_both old.chosen.from old.chosen.to xs ys all (chosen_same old mid ys same each),
  told_more old mid new was now next xs ys same told more,
)

pub some_cut : (old mid : Listing) (was now next : Option (List ℕ)) → StaysSo old mid → TellsSome old was now mid
    → TellsFrontOfSome mid now next → TellsFrontOfSome old was next
some_cut old mid was now next same (xs, all, told) (ys, each, more) = (
  xs ++ ys,
  chosen_both old.chosen.from old.chosen.to xs ys all (chosen_same old mid ys same each),
  told_cut old mid mid was now next xs ys same told more,
)

pub some_stopped : (old mid : Listing) (was now : Option (List ℕ)) → TellsSome old was now mid
    → TellsFrontOfSome old was now
some_stopped old mid was now (xs, all, told) = (xs, all, (mid.lines.held, told))

-- ---- refusals

pub on_err : {X E : Type 0} (r : Result X E) (e : E) (P : Type 0) → IsErrAnd r (λ x. x ≡ e) → P → OnErr r P
on_err (Ok x) e P is p = absurd is
on_err (Err x) e P is p = p

fault_of : {X Y : Type 0} (e : ReadRefusal) (x : RecordsRefusal) → x ≡ Query e
    → IsErrOf {T = X} {E = RecordsRefusal} (Err x) (Query read.Fault) → IsErrOf {T = Y} {E = ReadRefusal} (Err e) read.Fault
fault_of e x is told = cc

pub query_cause : {X Y : Type 0} (first before now : ℕ) (e : ReadRefusal) (r : Result X RecordsRefusal) → before ≡ first
    → HasCause {T = Y} read.Fault before now (Err e) → IsErrAnd r (λ x. x ≡ Query e)
    → HasCause (Query read.Fault) first now r
query_cause first before now e (Ok x) same c is = absurd is
query_cause {X} {Y} first before now e (Err x) same c is = record {
  later = omega (arith, c.later, same);
  done = tt;
  risen = λ told. subst (λ (n : ℕ). HasRisen n now) same (c.risen (fault_of {X = X} {Y = Y} e x is told));
  other = λ differs. c.other (λ fault. differs (is ∙ ap Query fault)) ∙ same;
}

pub other_cause : {X : Type 0} (first now : ℕ) (e : RecordsRefusal) (r : Result X RecordsRefusal)
    → IsErrAnd r (λ x. x ≡ e) → e ≢ Query read.Fault → now ≡ first → HasCause (Query read.Fault) first now r
other_cause first now e (Ok x) is differs same = absurd is
other_cause first now e (Err x) is differs same = record {
  later = omega (arith, same);
  done = tt;
  risen = λ told. absurd (differs (let this : x ≡ Query read.Fault = cc in sym is ∙ this));
  other = λ _. same;
}

-- ---- one message

pub lines_taken : (format : Line) (held : List Started) (xs : List Placed) → held ≡ map started xs
    → flat_map (line_text format) held ≡ lines_of format xs
lines_taken format held xs is = ap (flat_map (line_text format)) is ∙ lines_held format xs

-- of an accepted message no damage is reported
pub walk_blameless : {X : Type 0} (takes : X → RawMessage → Type 0) (file at : ℕ) (octets : List ℕ)
    (before now after : AllTemplates) (m : RawMessage) (e : ReadRefusal) → IsAccepted octets before m after
    → IsWalkedInto takes file at octets before now (Err e) → IsNoDamage e
walk_blameless takes file at octets before now after m (read.Damaged f place) is (x, y, (all, (fault, bad))) =
    absurd (never_both before octets m after fault all is bad)
walk_blameless takes file at octets before now after m read.Fault is w = absurd w
walk_blameless takes file at octets before now after m read.OutOfMemory is w = tt

pub walk_quiet : {X : Type 0} (takes : X → RawMessage → Type 0) (file at : ℕ) (octets : List ℕ)
    (before now : AllTemplates) (e : ReadRefusal) → IsWalkedInto takes file at octets before now (Err e)
    → Query e ≢ Query read.Fault
walk_quiet takes file at octets before now (read.Damaged f place) w is = cc
walk_quiet takes file at octets before now read.Fault w is = absurd w
walk_quiet takes file at octets before now read.OutOfMemory w is = cc

-- the records of a message are one list
pub same_records : (from to : ℕ) (octets : List ℕ) (before after other : AllTemplates) (m n : RawMessage)
    → IsAccepted octets before m after → IsAccepted octets before n other
    → records_within from to (under m.header m.records) ≡ records_within from to (under n.header n.records)
same_records from to octets before after other m n one two =
    ap (λ (x : RawMessage). records_within from to (under x.header x.records))
    (same_message before octets m n after other one two)

append_one : {A : Type 0} (xs : List A) (a : A) (ys : List A) → (xs ++ a ∷ []) ++ ys ≡ xs ++ a ∷ ys
append_one xs a ys = append_assoc xs (a ∷ []) ys

-- ---- the messages of a part

-- so many messages, and the lines of their records
abbrev pub HasTold : Listing → Option (List ℕ) → Option (List ℕ) → Listing → ℕ → List Accepted → Type 0
HasTold old was now new count messages = (count ≡ length messages)
    × TellsOf old was now new (records_within old.chosen.from old.chosen.to (records_in messages))

-- what was found of a message
abbrev pub IsFound : Listing → Option (List ℕ) → Option (List ℕ) → Listing → List ℕ → AllTemplates → AllTemplates
    → Type 0
IsFound mid now next new octets before after = (m : RawMessage) × IsAccepted octets before m after
    × TellsOf mid now next new (records_within mid.chosen.from mid.chosen.to (under m.header m.records))

-- before the first message
pub part_begins : (old : Listing) (was : Option (List ℕ)) (honest : Bool) (octets : List ℕ) (start end : ℕ)
    (before : AllTemplates) (c : Window) → c ≡ record { held = []; ahead = []; place = start; end = end }
    → PartSoFar (HasTold old was was old 0) honest octets start end before before c
part_begins old was honest octets start end before c new = λ h. (
  record {
    messages = [];
    read = record { divided = record { whole = sym (ap (rest_of octets) new); each = tt }; accepted = tt };
    kind = (refl, told_none old was);
    same = refl;
    at = omega (arith, ap (λ (w : Window). w.place) new);
  },
  subst (IsOn octets) (sym new) refl,
)

one_told : (old mid new : Listing) (was now next : Option (List ℕ)) (count : ℕ) (messages : List Accepted)
    (a : Accepted) → StaysSo old mid → HasTold old was now mid count messages
    → TellsOf mid now next new
    (records_within mid.chosen.from mid.chosen.to (under a.message.header a.message.records))
    → HasTold old was next new (count + 1) (messages ++ a ∷ [])
one_told old mid new was now next count messages a same so more =
    let from = old.chosen.from in
    let to = old.chosen.to in
    let own = under a.message.header a.message.records in (
      omega (arith, so.0, length-append messages (a ∷ [])),
      subst (TellsOf old was next new) (sym (one_within from to messages a))
          (told_more old mid new was now next (records_within from to (records_in messages)) (records_within from to own)
          same so.1 (subst (TellsOf mid now next new) (same_within old mid own same) more)),
    )

module _ (old mid : Listing) (was now : Option (List ℕ)) (honest : Bool) (octets : List ℕ) (start end file count : ℕ)
    (before here : AllTemplates) (window : Window)
    (sofar : PartSoFar (HasTold old was now mid count) honest octets start end before here window) where
  abbrev part : List ℕ
  part = part_octets start end octets

  abbrev within : List Accepted → List Placed
  within messages = records_within old.chosen.from old.chosen.to (records_in messages)

  -- the next message more
  pub part_more : (new : Listing) (next : Option (List ℕ)) (more : Bool) (after : AllTemplates) (moved : Window)
      (message : List ℕ) → more ≡ true → Moves window (Ok more) moved
      → (IsTrue honest → IsOn octets window → IsOn octets moved × IsPartStep octets file window (Ok more) moved)
      → message ≡ moved.held → StaysSo old mid → IsFound mid now next new message here after
      → PartSoFar (HasTold old was next new (count + 1)) honest octets start end before after moved
  part_more new next false after moved message go moves step is same x = absurd cc
  part_more new next true after moved message go moves step is same x = λ h.
      let was_so = sofar h in
      let s = step h was_so.1 in
      let b = was_so.0 in
      let a : Accepted = record { octets = message; message = x.0; after = after } in (
        step_more (HasTold old was now mid count) (HasTold old was next new (count + 1)) octets part start file before
            here after window moved message x.0 b s.1 moves.2 is x.1
            (one_told old mid new was now next count b.messages a same b.kind x.2),
        s.0,
      )

  -- all messages of the part were read
  pub part_found : (all : ℕ) (more : Bool) (moved : Window) → IsTrue honest
      → (IsTrue honest → IsOn octets window → IsOn octets moved × IsPartStep octets file window (Ok more) moved)
      → more ≡ false → count ≡ all → HasMessages part before all
  part_found all true moved h step go counted = absurd cc
  part_found all false moved h step go counted =
      let was_so = sofar h in
      let b = was_so.0 in (
        b.messages,
        record {
          read = subst (λ (rest : List ℕ). AreRead part before b.messages rest) ((step h was_so.1).1).0 b.read;
          all = sym b.kind.0 ∙ counted;
        },
      )

  module _ (all : ℕ) (messages : List Accepted) (are : ArePartMessages part before all messages)
      (h : IsTrue honest) where
    abbrev so : Behind (HasTold old was now mid count) part start before here window.place (rest_of octets window)
    so = (sofar h).0

    behind : StandBehind before so.messages messages (rest_of octets window)
    behind = read_behind part before so.messages messages (rest_of octets window) so.read are.read

    -- what came so far is a prefix of all
    pub part_stopped : TellsFrontOf old was now (within messages)
    part_stopped =
        let b = behind in
        subst (TellsFrontOf old was now)
        (sym (ap within b.whole ∙ messages_within old.chosen.from old.chosen.to so.messages b.more))
        (cut_longer old was now (within so.messages) (within b.more) (mid.lines.held, so.kind.1))

    -- where nothing stops the reading, no damage is reported
    pub advance_blameless : (moved : Window) (e : ReadRefusal)
        → (IsTrue honest → IsOn octets window → IsOn octets moved × IsPartStep octets file window (Err e) moved)
        → IsNoDamage e
    advance_blameless moved e step =
        no_damage e (advance_told (HasTold old was now mid count) honest octets start end file all before here window
        moved e sofar step h)
      where
        no_damage : (e : ReadRefusal) → IsDamage part before file start end all e → IsNoDamage e
        no_damage (read.Damaged f at) told = absurd (not_stopped part before start end all at messages are told.1)
        no_damage read.Fault told = tt
        no_damage read.OutOfMemory told = tt

    module _ (more : Bool) (moved : Window)
        (step : IsTrue honest → IsOn octets window → IsOn octets moved × IsPartStep octets file window (Ok more) moved)
      where
        -- all were read
        pub part_all : more ≡ false → messages ≡ so.messages
        part_all go = by more go step
          where
            by : (more : Bool) → more ≡ false
                → (IsTrue honest → IsOn octets window → IsOn octets moved × IsPartStep octets file window (Ok more) moved)
                → messages ≡ so.messages
            by true go step = absurd cc
            by false go step =
                same_read part before so.messages messages
                (subst (λ (rest : List ℕ). AreRead part before so.messages rest) ((step h (sofar h).1).1).0 so.read) are.read

        pub part_told : more ≡ false → TellsOf old was now mid (within messages)
        part_told go = subst (λ (ms : List Accepted). TellsOf old was now mid (within ms)) (sym (part_all go)) so.kind.1

        pub part_counted : more ≡ false → count ≡ all
        part_counted go = so.kind.0 ∙ ap length (sym (part_all go)) ∙ are.all

        -- a prefix of the next message's lines
        pub next_cut : (message : List ℕ) (next : Option (List ℕ)) (e : RecordsRefusal) → more ≡ true
            → message ≡ moved.held → StaysSo old mid
            → ((m : RawMessage) (after : AllTemplates) → IsAccepted message here m after → IsBlameless e
            × TellsFrontOf mid now next
            (records_within mid.chosen.from mid.chosen.to (under m.header m.records)))
            → IsBlameless e × TellsFrontOf old was next (within messages)
        next_cut message next e go is same told = by more go step
          where
            on : (left : List Accepted) → messages ≡ so.messages ++ left
                → rest_of octets window ≡ joined (octets_of left) → AllByRecursion IsCutOff (octets_of left)
                → AreAcceptedFrom (templates_from before so.messages) left → IsCutOff moved.held
                → rest_of octets window ≡ moved.held ++ rest_of octets moved
                → IsBlameless e × TellsFrontOf old was next (within messages)
            on [] whole own each are cut split =
                absurd (omega (arith, ap length (sym split ∙ own), length-append moved.held (rest_of octets moved), cut.long))
            on (a ∷ xs) whole own each are cut split =
                let from = old.chosen.from in
                let to = old.chosen.to in
                let one = one_message a.octets moved.held (joined (octets_of xs)) (rest_of octets moved) each.0 cut
                (sym own ∙ split) in
                let here_is : IsAccepted message here a.message a.after =
                subst (λ (t : AllTemplates). IsAccepted message t a.message a.after) (sym so.same)
                (subst (λ (o : List ℕ). IsAccepted o (templates_from before so.messages) a.message a.after)
                (one.0 ∙ sym is) are.0) in
                let own_records = under a.message.header a.message.records in
                let x = told a.message a.after here_is in
                let parted : within messages
                ≡ (within so.messages ++ records_within from to own_records) ++ within xs =
                ap within (whole ∙ sym (append_one so.messages a xs))
                ∙ messages_within from to (so.messages ++ a ∷ []) xs
                ∙ ap (λ (l : List Placed). l ++ within xs) (one_within from to so.messages a) in (
                  x.0,
                  subst (TellsFrontOf old was next) (sym parted)
                      (cut_longer old was next (within so.messages ++ records_within from to own_records) (within xs)
                      (told_cut old mid mid was now next (within so.messages) (records_within from to own_records) same
                      so.kind.1 (subst (TellsFrontOf mid now next) (same_within old mid own_records same) x.1))),
                )

            by : (more : Bool) → more ≡ true
                → (IsTrue honest → IsOn octets window → IsOn octets moved × IsPartStep octets file window (Ok more) moved)
                → IsBlameless e × TellsFrontOf old was next (within messages)
            by false go step = absurd cc
            by true go step =
                let s = (step h (sofar h).1).1 in
                on behind.more behind.whole behind.octets behind.each behind.accepted s.0 s.1
