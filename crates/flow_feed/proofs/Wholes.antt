-- An input that is read message by message.
use Rattle.std.proofs.Common.{◌≡◌, inl, inr, ℕ, ◌+◌, ◌<◌, ◌≤◌, true, List, [], ◌∷◌, ◌++◌, length, take, drop, Option, Some, None, IfSome}
use Rattle.std.proofs.Common.{Result, refl, sym, ◌∙◌, ap, subst, append-nil, length-append, arith}
use Rattle.std.proofs.lemmas.List.{length-drop, length-take-le, with_items_is}
use Rattle.std.specs.Vec.{with_items}
use borrow.Rule.Slice.PartMut.{put_mid, post_of}
use Rattle.std.specs.Prelude.{All}
use Rattle.std.specs.Io.KnownBytes.{Consumes, IsAtEnd, Keeps, prepend_known}
use Rattle.std.proofs.lemmas.List.Elements.{All-append, All-cons, All-nil}
use Rattle.flow_codec.specs.Cutting.{IsCutOff}
use Rattle.flow_codec.specs.Message.{joined}
use Rattle.flow_codec.specs.declared.file.FileError.TheVariants.{Cut}
use Rattle.flow_codec.specs.Stream.{IsFaultNext, IsUnfinished, Progress}
use Rattle.flow_codec.proofs.Streaming.{held_next, prepend_none, taken_next}
use Rattle.flow_archive.specs.declared.refusal.ArchiveError.{ArchiveError}
use Rattle.flow_feed.specs.declared.batch.FeedStop.{FeedStop}
use Rattle.flow_feed.specs.declared.whole.WholeReader.{WholeReader}
use Rattle.flow_feed.specs.Feed.{refusal_in, AreRead, IsEnd}
use Rattle.flow_feed.specs.Until.{IsFedSoFar}
use Rattle.flow_feed.specs.Whole.{ahead, reached, IsSamePlace}
use Rattle.flow_feed.proofs.Batches.{start_of, IsFeeding}
use Rattle.flow_feed.proofs.Readings.{consumes_none, consumes_then, joined_then, IsReading}

-- ---- the memory

-- octets that are read into a part of the memory fill just this part
pub put_part : (xs ys : List ℕ) (end k : ℕ) → end + k ≤ length xs → length ys ≡ k
    → length (put_mid end k xs ys) ≡ length xs
put_part xs ys end k within fits =
    let front = length-take-le end xs (omega (arith, within)) in
    omega (
      arith,
      length-append (take end xs) (ys ++ post_of end k xs),
      length-append ys (post_of end k xs),
      front,
      length-drop k (drop end xs),
      length-drop end xs,
      fits,
      within,
    )

-- a part of a reader's memory, read anew
pub part_long : (w : WholeReader) (room read : List ℕ) (k : ℕ) → room ≡ w.octets.items
    → length w.octets.items ≡ 131072 → w.end + k ≤ 131072 → length read ≡ length (take k (drop w.end room))
    → length read ≡ k
part_long w room read k same all within size =
    let gone = length-drop w.end w.octets.items in
    let long : length read ≡ length (take k (drop w.end w.octets.items)) = rw same at size in
    long ∙ length-take-le k (drop w.end w.octets.items) (omega (arith, gone, all, within))

-- the octets of a reader's memory after a read into the part of it after its octets
pub read_in : (w : WholeReader) (room read : List ℕ) (k : ℕ) → room ≡ w.octets.items
    → length w.octets.items ≡ 131072 → w.end + k ≤ 131072 → length read ≡ k
    → (with_items w.octets (take w.end room ++ (read ++ post_of w.end k room))).items
    ≡ put_mid w.end k w.octets.items read
read_in w room read k same all within fits =
    rw same (with_items_is w.octets (put_mid w.end k w.octets.items read)
    (put_part w.octets.items read w.end k (omega (arith, all, within)) fits ∙ all ∙ sym w.size))

-- ---- the end of an input

-- all that was known, where nothing is left
all_known : (old new : Option (List ℕ)) (held : List ℕ) → Consumes old new held → IsAtEnd new
    → IfSome old (λ xs. xs ≡ held)
all_known None new held took end = tt
all_known (Some xs) None held took end = absurd took
all_known (Some xs) (Some ys) held took end = took ∙ ap (λ (l : List ℕ). held ++ l) end ∙ append-nil held

-- octets that no others follow, and that hold a part of a message
pub cut_next : (at : ℕ) (old left : Option (List ℕ)) (held : List ℕ) → 0 < length held → IsUnfinished at held
    → Keeps old (prepend_known held left) → IsAtEnd left → IsFaultNext at old (Cut at)
cut_next at old left held some (inl none) kept end = absurd (omega (arith, some, ap (λ (l : List ℕ). length l) none))
cut_next at old left held some (inr fault) kept end =
    (held, fault, all_known old left held (held_next old left held kept) end)

-- ---- the messages

-- a message more
pub read_one : (old mid new : Progress) (messages : List (List ℕ)) (message : List ℕ) → IsReading old messages mid
    → IsCutOff message → Consumes mid.rest new.rest message → new.stopped ≡ None → new.at ≡ mid.at + length message
    → new.count ≡ mid.count + 1 → IsReading old (messages ++ message ∷ []) new
read_one old mid new messages message so_far cut took still place counts =
    let one : joined (messages ++ message ∷ []) ≡ joined messages ++ message =
    joined_then messages (message ∷ []) ∙ ap (λ (l : List ℕ). joined messages ++ l) (append-nil message) in
    let long : length (joined (messages ++ message ∷ [])) ≡ length (joined messages) + length message =
    ap length one ∙ length-append (joined messages) message in
    let counted : length (messages ++ message ∷ []) ≡ length messages + 1 = length-append messages (message ∷ []) in
    record {
      all = All-append IsCutOff messages (message ∷ []) so_far.all (All-cons IsCutOff message [] cut (All-nil IsCutOff));
      front = subst (λ (l : List ℕ). Consumes old.rest new.rest l) (sym one)
          (consumes_then old.rest mid.rest new.rest (joined messages) message so_far.front took);
      still = still;
      at = let before = so_far.at in omega (arith, long, before, place);
      count = let before = so_far.count in omega (arith, counted, before, counts);
    }

-- the message that was found is taken
pub taken_one : (start : Progress) (messages : List (List ℕ)) (before found after : WholeReader)
    (left now : Option (List ℕ)) (n : ℕ) → IsReading start messages (reached before left)
    → (n ≤ length (ahead found)) × IsCutOff (take n (ahead found))
    × Keeps (prepend_known (ahead before) left) (prepend_known (ahead found) now)
    → IsSamePlace before found → ahead after ≡ drop n (ahead found) → after.count ≡ found.count + 1
    → after.at ≡ found.at + n → IsReading start (messages ++ take n (ahead found) ∷ []) (reached after now)
taken_one start messages before found after left now n so_far (within, cut, kept) same rest counts place =
    let size = length-take-le n (ahead found) within in
    let counted = same.0 in
    let placed = same.1 in
    read_one start (reached before left) (reached after now) messages (take n (ahead found)) so_far cut
    (subst (λ (l : List ℕ). Consumes (prepend_known (ahead before) left) (prepend_known l now) (take n (ahead found)))
    (sym rest) (taken_next (prepend_known (ahead before) left) now (ahead found) n kept)) refl
    (omega (arith, size, placed, place)) (omega (arith, counted, counts))

-- and a copy of it is held
pub held_one : (start : Progress) (messages : List (List ℕ)) (before found after : WholeReader)
    (left now : Option (List ℕ)) (n : ℕ) (message : List ℕ) (held : List (List ℕ))
    → IsReading start messages (reached before left)
    → (n ≤ length (ahead found)) × IsCutOff (take n (ahead found))
    × Keeps (prepend_known (ahead before) left) (prepend_known (ahead found) now)
    → IsSamePlace before found → message ≡ take n (ahead found) → held ≡ messages ++ message ∷ []
    → ahead after ≡ drop n (ahead found) → after.count ≡ found.count + 1 → after.at ≡ found.at + n
    → IsReading start held (reached after now)
held_one start messages before found after left now n message held so_far next same is are rest counts place =
    subst (λ (l : List (List ℕ)). IsReading start l (reached after now))
    (sym (are ∙ ap (λ (m : List ℕ). messages ++ m ∷ []) is))
    (taken_one start messages before found after left now n so_far next same rest counts place)

-- why no message more is read
pub read_stopped : (old mid new : Progress) (messages : List (List ℕ)) (stop : FeedStop) → IsReading old messages mid
    → IsEnd mid.at (Some stop) mid.rest × (refusal_in (Some stop) ≡ None) → AreRead old messages true (Some stop) new
read_stopped old mid new messages stop so_far (end, none) = record {
  all = so_far.all;
  rest = mid.rest;
  front = so_far.front;
  refused = none;
  more = λ is. absurd (cc);
  ended = λ is. subst (λ (k : ℕ). IsEnd k (Some stop) mid.rest) so_far.at end;
}

-- no octet follows
pub read_over : (old mid new : Progress) (messages : List (List ℕ)) → IsReading old messages mid → IsAtEnd mid.rest
    → AreRead old messages true None new
read_over old mid new messages so_far end = record {
  all = so_far.all;
  rest = mid.rest;
  front = so_far.front;
  refused = refl;
  more = λ is. absurd (cc);
  ended = λ is. end;
}

-- a reader that was made now
pub whole_opened : (reader : WholeReader) (left : Option (List ℕ))
    → (ahead reader ≡ []) × (reader.count ≡ 0) × (reader.at ≡ 0) → reached reader left ≡ start_of left
whole_opened reader left (none, count, at) =
    rw (none, count, at) (ap (λ (o : Option (List ℕ)). start_of o) (prepend_none left))

-- nothing is held: what is left is left in the input
pub none_held : (reader : WholeReader) (left : Option (List ℕ)) → ahead reader ≡ [] → (reached reader left).rest ≡ left
none_held reader left none = ap (λ (l : List ℕ). prepend_known l left) none ∙ prepend_none left

-- feeding ends between two messages
pub ends_asked : {S : Type 0} (appends : S → S → List (List ℕ) → Result ℕ ArchiveError → Type 0) (first : ℕ)
    (old now : S) (octets : Option (List ℕ)) (mid : Progress) (count : ℕ) (after : Option (List ℕ))
    → IsFeeding appends first old now (start_of octets) mid count → mid.rest ≡ after
    → IsFedSoFar appends first old now octets after (record { messages = count; stop = None })
ends_asked appends first old now octets mid count after so_far left =
    let passed = so_far.passed in
    let messages = so_far.messages in
    let given = joined (passed ++ messages) in
    record {
      given = given;
      read = subst (λ (o : Option (List ℕ)). Consumes octets o given) left so_far.reading.front;
      fed_given = record {
        passed = passed;
        most_passed = let are = so_far.passed_are in omega (arith, are);
        batches = so_far.batches;
        all_passed = λ some. so_far.passed_are;
        few = so_far.few;
        messages = messages;
        taken = so_far.taken;
        left = [];
        batches_are = so_far.batches_are ∙ sym (append-nil messages);
        count = so_far.count_is;
        all = subst (λ (l : List (List ℕ)). All IsCutOff l) (sym (append-nil (passed ++ messages))) so_far.reading.all;
        rest = Some [];
        front = sym (append-nil given);
        read = (Some [], consumes_none (Some []));
        ended = refl;
      };
      whole = refl;
    }
