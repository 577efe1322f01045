-- A File, batch by batch.
use Rattle.std.proofs.Common.{◌≡◌, ℕ, ◌+◌, ◌<◌, Bool, true, false, Bor, List, [], ◌∷◌, ◌++◌, length, take, drop, get_or}
use Rattle.std.proofs.Common.{◌≤◌, Option, Some, None, Result, refl, sym, ◌∙◌, ap, ap₂, subst, append-nil, append_assoc}
use Rattle.std.proofs.Common.{zero-add, arith, length-append, length-drop, take-append-drop}
use Rattle.std.proofs.lemmas.List.{length-map, length-take-le, map_more, take_all, take-map}
use Rattle.std.specs.Prelude.{All}
use Rattle.std.specs.Io.KnownBytes.{Consumes, prepend_known}
use Rattle.std.proofs.lemmas.List.Elements.{All-append, All-cons, All-head, All-nil, All-tail}
use Rattle.flow_codec.specs.Cutting.{IsCutOff}
use Rattle.flow_codec.specs.Message.{joined}
use Rattle.flow_codec.specs.Stream.{ReaderState, Progress, progress, IsMessageNext}
use Rattle.flow_codec.proofs.Streaming.{message_next}
use Rattle.flow_gate.specs.Steps.{slices}
use Rattle.flow_archive.specs.declared.refusal.ArchiveError.{ArchiveError}
use Rattle.flow_feed.specs.declared.batch.Fed.{Fed}
use Rattle.flow_feed.specs.declared.batch.FeedStop.{FeedStop}
use Rattle.flow_feed.specs.declared.batch.FeedStop.TheVariants.{Archive, OutOfMemory}
use Rattle.flow_feed.specs.Feed.{batch_of, in_order, ArePassed, AreRead, IsEnd, IsFed}
use Rattle.flow_feed.specs.Given.{AreGivenInTurn, HasTaken, IsGivenTogether}
use Rattle.flow_feed.proofs.Readings.{consumes_none, consumes_then, joined_then, read_none, IsReading}
use Rattle.flow_feed.proofs.Taking.{in_order_one, in_order_then, turns_none, turns_one, turns_then}

-- the next of some messages
pub slices_more : (messages : List (Bor (List ℕ))) (i : ℕ) (none : Bor (List ℕ)) → i < length messages
    → take (i + 1) (slices messages) ≡ take i (slices messages) ++ (get_or messages i none).now ∷ []
slices_more messages i none lt =
    let octets = λ (message : Bor (List ℕ)). message.now in
    take-map octets (i + 1) messages ∙ map_more octets messages i none lt
    ∙ ap (λ (l : List (List ℕ)). l ++ (get_or messages i none).now ∷ []) (sym (take-map octets i messages))

-- how many messages there are
pub slices_long : (messages : List (Bor (List ℕ))) → length (slices messages) ≡ length messages
slices_long messages = length-map messages (λ (message : Bor (List ℕ)). message.now)

-- messages that are given as one batch, which may be none
module _ {S : Type 0} (appends : S → S → List (List ℕ) → Result ℕ ArchiveError → Type 0) (old new : S) where
  pub gives_none : (messages : List (List ℕ)) → length messages ≡ 0
      → HasTaken appends (AreGivenInTurn (batch_of messages)) old old (take 0 messages) None
  gives_none [] none = turns_none appends old
  gives_none (m ∷ ms) none = absurd (omega (arith, none))

  pub gives_some : (messages octets : List (List ℕ)) (n : ℕ) (stop : Option ArchiveError)
      → 1 ≤ length messages → octets ≡ messages
      → HasTaken appends (IsGivenTogether octets) old new (take n octets) stop
      → HasTaken appends (AreGivenInTurn (batch_of messages)) old new (take n messages) stop
  gives_some messages octets n stop some are p =
      turns_one appends old new messages (take n messages) stop some
      (subst (λ (l : List (List ℕ)). HasTaken appends (IsGivenTogether l) old new (take n l) stop) are p)

All-left : (xs ys : List (List ℕ)) → All IsCutOff (xs ++ ys) → All IsCutOff xs
All-left [] ys all = All-nil IsCutOff
All-left (x ∷ xs) ys all =
    All-cons IsCutOff x xs (All-head IsCutOff x (xs ++ ys) all) (All-left xs ys (All-tail IsCutOff x (xs ++ ys) all))

All-right : (xs ys : List (List ℕ)) → All IsCutOff (xs ++ ys) → All IsCutOff ys
All-right [] ys all = all
All-right (x ∷ xs) ys all = All-right xs ys (All-tail IsCutOff x (xs ++ ys) all)

-- a batch that may be given
abbrev pub IsFew : List (List ℕ) → Type 0
IsFew batch = (1 ≤ length batch) × (length batch ≤ 64)

few_of : (messages : List (List ℕ)) → length messages ≤ 64 → All IsFew (batch_of messages)
few_of [] most = All-nil IsFew
few_of (m ∷ ms) most = All-cons IsFew (m ∷ ms) [] (omega arith, most) (All-nil IsFew)

-- all of the File that was passed, and taken in, so far
pub record IsFeeding {S : Type 0} (appends : S → S → List (List ℕ) → Result ℕ ArchiveError → Type 0) (first : ℕ)
    (old now : S) (start reader : Progress) (count : ℕ) : Type 0 where
  pub passed : List (List ℕ)
  pub passed_are : length passed ≡ first
  pub batches : List (List (List ℕ))
  pub few : All IsFew batches
  pub messages : List (List ℕ)
  pub taken : HasTaken appends (AreGivenInTurn batches) old now messages None
  pub batches_are : in_order batches ≡ messages
  pub reading : IsReading start (passed ++ messages) reader
  pub count_is : count ≡ length passed + length messages

-- a File of these octets, of which nothing was read
abbrev pub start_of : Option (List ℕ) → Progress
start_of octets = record { rest = octets; message = []; count = 0; at = 0; stopped = None }

-- a reader that was made now
pub opened : (reader : ReaderState) (input : Option (List ℕ))
    → reader ≡ record { ahead = []; message = []; count = 0; at = 0; stopped = None }
    → progress reader input ≡ start_of input
opened reader None is = ap (λ (r : ReaderState). progress r None) is
opened reader (Some octets) is = ap (λ (r : ReaderState). progress r (Some octets)) is

-- octets that are read, and those after them, where the last of those that are read are given back
given_back : (old rest : Option (List ℕ)) (a b : List ℕ) → Consumes old rest (a ++ b)
    → Consumes old (prepend_known b rest) a
given_back None rest a b read = tt
given_back (Some xs) None a b read = absurd read
given_back (Some xs) (Some ys) a b read = read ∙ append_assoc a b ys

begins : (rest : Option (List ℕ)) (m : List ℕ) (more : List (List ℕ))
    → Consumes (prepend_known (joined (m ∷ more)) rest) (prepend_known (joined more) rest) m
begins None m more = tt
begins (Some xs) m more = append_assoc m (joined more) xs

next_message : (rest : Option (List ℕ)) (messages : List (List ℕ)) → All IsCutOff messages → 0 < length messages
    → IsMessageNext (prepend_known (joined messages) rest)
next_message rest [] all some = absurd (omega (arith, some))
next_message rest (m ∷ more) all some =
    message_next (prepend_known (joined (m ∷ more)) rest) (prepend_known (joined more) rest) m
    (All-head IsCutOff m more all) (begins rest m more)

-- what was read after other messages
all_read : (start mid : Progress) (messages more : List (List ℕ)) (rest : Option (List ℕ)) → IsReading start messages mid
    → Consumes mid.rest rest (joined more) → Consumes start.rest rest (joined (messages ++ more))
all_read start mid messages more rest so_far read =
    subst (λ (l : List ℕ). Consumes start.rest rest l) (sym (joined_then messages more))
    (consumes_then start.rest mid.rest rest (joined messages) (joined more) so_far.front read)

all_long : (messages more : List (List ℕ))
    → length (joined (messages ++ more)) ≡ length (joined messages) + length (joined more)
all_long messages more = ap length (joined_then messages more) ∙ length-append (joined messages) (joined more)

-- a batch more
pub reads_on : (start mid reader : Progress) (messages more : List (List ℕ)) (stop : Option FeedStop)
    → IsReading start messages mid → AreRead mid more false stop reader → IsReading start (messages ++ more) reader
reads_on start mid reader messages more stop so_far read =
    let on = read.more refl in
    let long = all_long messages more in
    let counted : length (messages ++ more) ≡ length messages + length more = length-append messages more in
    record {
      all = All-append IsCutOff messages more so_far.all read.all;
      front = subst (λ (o : Option (List ℕ)). Consumes start.rest o (joined (messages ++ more))) on.0
          (all_read start mid messages more read.rest so_far read.front);
      still = on.1;
      at = let before = so_far.at in let after = on.2 in omega (arith, long);
      count = let before = so_far.count in let after = on.3 in omega (arith, counted);
    }

-- messages that were read, and reading goes on
read_on : (start reader : Progress) (passed : List (List ℕ)) → start.stopped ≡ None
    → AreRead start passed false None reader → IsReading start passed reader
read_on start reader passed still read = reads_on start start reader [] passed None (read_none start still) read

module _ {S : Type 0} (appends : S → S → List (List ℕ) → Result ℕ ArchiveError → Type 0) (first : ℕ) (old : S)
    (octets : Option (List ℕ)) where
  -- nothing is read
  pub fed_nothing : IsFed appends first old old octets (record { messages = 0; stop = Some OutOfMemory })
  fed_nothing = record {
    passed = [];
    most_passed = omega arith;
    batches = [];
    all_passed = λ some. absurd (omega (arith, some));
    few = All-nil IsFew;
    messages = [];
    taken = turns_none appends old;
    left = [];
    batches_are = refl;
    count = refl;
    all = All-nil IsCutOff;
    rest = octets;
    front = consumes_none octets;
    read = (octets, consumes_none octets);
    ended = tt;
  }

  -- the File ends before more than what is passed
  pub fed_passed : (start reader : Progress) (fed : Fed) → start ≡ start_of octets
      → ArePassed first start reader (Some fed) → IsFed appends first old old octets fed
  fed_passed start reader fed is (passed, most, read, counted) =
      let same = sym (append-nil passed) in
      let none_before : start.count ≡ 0 = ap (λ (p : Progress). p.count) is in
      let at_none : start.at ≡ 0 = ap (λ (p : Progress). p.at) is in
      record {
        passed = passed;
        most_passed = most;
        batches = [];
        all_passed = λ some. absurd (omega (arith, some));
        few = All-nil IsFew;
        messages = [];
        taken = subst (λ (o : Option ArchiveError). HasTaken appends (AreGivenInTurn []) old old [] o)
            (sym read.refused) (turns_none appends old);
        left = [];
        batches_are = refl;
        count = omega (arith, counted, none_before);
        all = subst (λ (l : List (List ℕ)). All IsCutOff l) (same ∙ sym (append-nil (passed ++ []))) read.all;
        rest = read.rest;
        front = subst (λ (l : List (List ℕ)). Consumes octets read.rest (joined l)) same
            (subst (λ (p : Progress). Consumes p.rest read.rest (joined passed)) is read.front);
        read = (read.rest, consumes_none read.rest);
        ended = subst (λ (l : List (List ℕ)). IsEnd (length (joined l)) fed.stop read.rest) same
            (subst (λ (k : ℕ). IsEnd k fed.stop read.rest)
            (ap (λ (k : ℕ). k + length (joined passed)) at_none ∙ zero-add (length (joined passed)))
            (read.ended refl));
      }

  -- all that was to be passed is
  pub started : (start reader : Progress) → start ≡ start_of octets → ArePassed first start reader None
      → IsFeeding appends first old old (start_of octets) reader reader.count
  started start reader is (passed, passed_are, read) =
      let still : start.stopped ≡ None = ap (λ (p : Progress). p.stopped) is in
      let reading : IsReading start passed reader = read_on start reader passed still read in
      let none_before : start.count ≡ 0 = ap (λ (p : Progress). p.count) is in
      record {
        passed = passed;
        passed_are = passed_are;
        batches = [];
        few = All-nil IsFew;
        messages = [];
        taken = turns_none appends old;
        batches_are = refl;
        reading = subst (λ (p : Progress). IsReading p (passed ++ []) reader) is
            (subst (λ (l : List (List ℕ)). IsReading start l reader) (sym (append-nil passed)) reading);
        count_is = let counted = reading.count in omega (arith, counted, none_before);
      }

-- what is known of octets that come back before others, after these
given_next : (rest : Option (List ℕ)) (a : List ℕ) → Consumes (prepend_known a rest) rest a
given_next None a = tt
given_next (Some xs) a = refl

module _ {S : Type 0} (appends : S → S → List (List ℕ) → Result ℕ ArchiveError → Type 0) (first : ℕ)
    (old now new : S) (octets : Option (List ℕ)) (mid reader : Progress) (count : ℕ)
    (so_far : IsFeeding appends first old now (start_of octets) mid count) where
  abbrev passed : List (List ℕ)
  passed = so_far.passed

  most_passed : length passed ≤ first
  most_passed = let are = so_far.passed_are in omega (arith, are)

  -- what was passed and taken in, and more
  behind_passed : (messages more : List (List ℕ)) → passed ++ (messages ++ more) ≡ (passed ++ messages) ++ more
  behind_passed messages more = sym (append_assoc passed messages more)

  -- no memory to give what was read
  pub ends_early : new ≡ now → IsFed appends first old new octets (record { messages = count; stop = Some OutOfMemory })
  ends_early same = record {
    passed = passed;
    most_passed = most_passed;
    batches = so_far.batches;
    all_passed = λ some. so_far.passed_are;
    few = so_far.few;
    messages = so_far.messages;
    taken = subst (λ (s : S). HasTaken appends (AreGivenInTurn so_far.batches) old s so_far.messages None) (sym same)
        so_far.taken;
    left = [];
    batches_are = so_far.batches_are ∙ sym (append-nil so_far.messages);
    count = so_far.count_is;
    all = subst (λ (l : List (List ℕ)). All IsCutOff l) (sym (append-nil (passed ++ so_far.messages)))
        so_far.reading.all;
    rest = mid.rest;
    front = so_far.reading.front;
    read = (mid.rest, consumes_none mid.rest);
    ended = tt;
  }

  module _ (more : List (List ℕ)) (n : ℕ) (most : length more ≤ 64) where
    abbrev batches : List (List (List ℕ))
    batches = so_far.batches ++ batch_of more

    all_few : All IsFew batches
    all_few = All-append IsFew so_far.batches (batch_of more) so_far.few (few_of more most)

    in_order_are : in_order batches ≡ so_far.messages ++ more
    in_order_are =
        in_order_then so_far.batches (batch_of more)
        ∙ ap₂ (λ (x : List (List ℕ)) (y : List (List ℕ)). x ++ y) so_far.batches_are (in_order_one more)

    -- a message that the archive refuses
    pub ends_refused : (is_last : Bool) (stop : Option FeedStop) (error : ArchiveError)
        → AreRead mid more is_last stop reader → n < length more
        → HasTaken appends (AreGivenInTurn (batch_of more)) now new (take n more) (Some error)
        → IsFed appends first old new octets (record { messages = count + n; stop = Some (Archive error) })
    ends_refused is_last stop error read fewer taken =
        let messages = so_far.messages in
        let left = drop n more in
        let whole : take n more ++ left ≡ more = take-append-drop n more in
        let short : length (take n more) ≡ n = length-take-le n more (omega (arith, fewer)) in
        let counted : length (messages ++ take n more) ≡ length messages + n =
        length-append messages (take n more) ∙ ap (λ (k : ℕ). length messages + k) short in
        let rest = prepend_known (joined left) read.rest in
        let all : All IsCutOff (take n more ++ left) =
        subst (λ (l : List (List ℕ)). All IsCutOff l) (sym whole) read.all in
        let both : (messages ++ take n more) ++ left ≡ messages ++ more =
        append_assoc messages (take n more) left ∙ ap (λ (l : List (List ℕ)). messages ++ l) whole in
        let before = passed ++ messages in
        let given : passed ++ (messages ++ take n more) ≡ before ++ take n more = behind_passed messages (take n more) in
        let together : (passed ++ (messages ++ take n more)) ++ left ≡ before ++ more =
        ap (λ (l : List (List ℕ)). l ++ left) given ∙ append_assoc before (take n more) left
        ∙ ap (λ (l : List (List ℕ)). before ++ l) whole in
        record {
          passed = passed;
          most_passed = most_passed;
          all_passed = λ some. so_far.passed_are;
          batches = batches;
          few = all_few;
          messages = messages ++ take n more;
          taken = turns_then appends so_far.batches (batch_of more) old now new messages (take n more) (Some error)
              so_far.taken taken;
          left = left;
          batches_are = in_order_are ∙ sym both;
          count = let were = so_far.count_is in omega (arith, counted);
          all = subst (λ (l : List (List ℕ)). All IsCutOff l) (sym together)
              (All-append IsCutOff before more so_far.reading.all read.all);
          rest = rest;
          front = subst (λ (l : List (List ℕ)). Consumes octets rest (joined l)) (sym given)
              (all_read (start_of octets) mid before (take n more) rest so_far.reading
              (given_back mid.rest read.rest (joined (take n more)) (joined left)
              (subst (λ (l : List ℕ). Consumes mid.rest read.rest l)
              (ap joined (sym whole) ∙ joined_then (take n more) left) read.front)));
          read = (read.rest, given_next read.rest (joined left));
          ended = next_message read.rest left (All-right (take n more) left all)
              (let gone = length-drop n more in omega (arith, fewer, gone));
        }

    module _ (all : n ≡ length more)
        (taken : HasTaken appends (AreGivenInTurn (batch_of more)) now new (take n more) None) where
      taken_all : HasTaken appends (AreGivenInTurn batches) old new (so_far.messages ++ more) None
      taken_all =
          turns_then appends so_far.batches (batch_of more) old now new so_far.messages more None so_far.taken
          (subst (λ (l : List (List ℕ)). HasTaken appends (AreGivenInTurn (batch_of more)) now new l None)
          (take_all n more (omega (arith, all))) taken)

      -- a batch more
      pub feeds_on : (stop : Option FeedStop) → AreRead mid more false stop reader
          → IsFeeding appends first old new (start_of octets) reader reader.count
      feeds_on stop read =
          let before = passed ++ so_far.messages in
          let reads = reads_on (start_of octets) mid reader before more stop so_far.reading read in
          let counted : length (before ++ more) ≡ length passed + length so_far.messages + length more =
          length-append before more ∙ ap (λ (k : ℕ). k + length more) (length-append passed so_far.messages) in
          let long : length (so_far.messages ++ more) ≡ length so_far.messages + length more =
          length-append so_far.messages more in
          record {
            passed = passed;
            passed_are = so_far.passed_are;
            batches = batches;
            few = all_few;
            messages = so_far.messages ++ more;
            taken = taken_all;
            batches_are = in_order_are;
            reading = subst (λ (l : List (List ℕ)). IsReading (start_of octets) l reader)
                (sym (behind_passed so_far.messages more)) reads;
            count_is = let were = reads.count in omega (arith, were, counted, long);
          }

      -- the last batch
      pub ends_last : (stop : Option FeedStop) → AreRead mid more true stop reader
          → IsFed appends first old new octets (record { messages = count + n; stop = stop })
      ends_last stop read =
          let messages = so_far.messages in
          let before = passed ++ messages in
          let given : before ++ more ≡ passed ++ (messages ++ more) = sym (behind_passed messages more) in
          let long = all_long before more in
          let counted : length (messages ++ more) ≡ length messages + length more = length-append messages more in
          let place : mid.at + length (joined more) ≡ length (joined (before ++ more)) =
          let so = so_far.reading.at in omega (arith, long, so) in
          let same = sym (append-nil (messages ++ more)) in
          record {
            passed = passed;
            most_passed = most_passed;
            all_passed = λ some. so_far.passed_are;
            batches = batches;
            few = all_few;
            messages = messages ++ more;
            taken = subst (λ (o : Option ArchiveError). HasTaken appends (AreGivenInTurn batches) old new
                (messages ++ more) o) (sym read.refused) taken_all;
            left = [];
            batches_are = in_order_are ∙ same;
            count = let were = so_far.count_is in omega (arith, counted, all);
            all = subst (λ (l : List (List ℕ)). All IsCutOff l)
                (given ∙ sym (append-nil (passed ++ (messages ++ more))))
                (All-append IsCutOff before more so_far.reading.all read.all);
            rest = read.rest;
            front = subst (λ (l : List (List ℕ)). Consumes octets read.rest (joined l)) given
                (all_read (start_of octets) mid before more read.rest so_far.reading read.front);
            read = (read.rest, consumes_none read.rest);
            ended = subst (λ (l : List (List ℕ)). IsEnd (length (joined l)) stop read.rest) given
                (subst (λ (k : ℕ). IsEnd k stop read.rest) place (read.ended refl));
          }
