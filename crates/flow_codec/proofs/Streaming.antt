-- What the octets that were read say of the octets that came next.
use Rattle.std.proofs.Common.{◌≡◌, inl, inr, ℕ, ◌+◌, ◌-◌, ◌<◌, ◌≤◌, List, [], ◌++◌, length, take, drop, slice_range}
use Rattle.std.proofs.Common.{Option}
use Rattle.std.proofs.Common.{None, Some, IfSome, Err, refl, sym, ap, subst, ◌∙◌, append_assoc, take-append-drop, arith}
use Rattle.std.specs.Io.KnownBytes.{Keeps, Consumes, IsAtEnd, prepend_known}
use Rattle.std.proofs.lemmas.List.{append-nil, length-append, length-take-le, length-drop, take_at, drop_at}
use Rattle.std.proofs.lemmas.List.{take-append-le, drop-append-le, drop-take, drop-drop}
use Rattle.std.proofs.Math.Seq.{take-add}
use borrow.Rule.Slice.PartMut.{put_mid, post_of}
use Rattle.flow_codec.specs.declared.file.FileError.{FileError}
use Rattle.flow_codec.specs.declared.stream.StreamError.{StreamError}
use Rattle.flow_codec.specs.declared.stream.StreamError.TheVariants.{File, Read, NumbersSpent}
use Rattle.flow_codec.specs.Cutting.{IsCutOff, IsHeaderRefused, IsFileFault}
use Rattle.flow_codec.specs.Stream.{IsFaultNext, IsMessageNext, IsStop, IsFound}
use Rattle.flow_codec.proofs.Dividing.{version_of-append, length_of-append}

pub prepend_none : (known : Option (List ℕ)) → prepend_known [] known ≡ known
prepend_none None = refl
prepend_none (Some xs) = refl

-- all that was known, where nothing is left
all_known : (old new : Option (List ℕ)) (bs : List ℕ) → Consumes old new bs → IsAtEnd new → IfSome old (λ xs. xs ≡ bs)
all_known None new bs p q = tt
all_known (Some xs) None bs p q = absurd p
all_known (Some xs) (Some ys) bs p q = p ∙ ap (λ (l : List ℕ). bs ++ l) q ∙ append-nil bs

refused_more : (at : ℕ) (header more : List ℕ) (fault : FileError) → 16 ≤ length header
    → IsHeaderRefused at header fault → IsFileFault at (header ++ more) fault
refused_more at header more fault long bad = inr (inl (omega (arith, length-append header more), by bad))
  where
    by : IsHeaderRefused at header fault → IsHeaderRefused at (header ++ more) fault
    by (inl other) = inl (λ same. other.0 (sym (version_of-append header more long) ∙ same), other.1)
    by (inr low) = inr (
      version_of-append header more long
          ∙ low.0,
      subst (λ (n : ℕ). n < 16) (sym (length_of-append header more long)) low.1,
      low.2,
    )

-- a header that is refused, whatever follows it
pub refused_next : (at : ℕ) (old new : Option (List ℕ)) (header : List ℕ) (fault : FileError) → 16 ≤ length header
    → Consumes old new header → IsHeaderRefused at header fault → IsFaultNext at old fault
refused_next at None new header fault long took bad = (header, inr (inl (long, bad)), tt)
refused_next at (Some xs) None header fault long took bad = absurd took
refused_next at (Some xs) (Some ys) header fault long took bad =
    (header ++ ys, refused_more at header ys fault long bad, took)

pub message_next : (old new : Option (List ℕ)) (message : List ℕ) → IsCutOff message → Consumes old new message
    → IsMessageNext old
message_next None new message cut took = (message, [], cut, tt)
message_next (Some xs) None message cut took = absurd took
message_next (Some xs) (Some ys) message cut took = (message, ys, cut, took)

-- ---- the next octets, before those left in the input

-- the held octets are the next ones, where those are known
pub held_next : (old left : Option (List ℕ)) (held : List ℕ) → Keeps old (prepend_known held left)
    → Consumes old left held
held_next None left held kept = tt
held_next (Some xs) None held kept = kept
held_next (Some xs) (Some ys) held kept = sym kept

-- a step gives the first of the held octets
pub taken_next : (old left : Option (List ℕ)) (held : List ℕ) (n : ℕ) → Keeps old (prepend_known held left)
    → Consumes old (prepend_known (drop n held) left) (take n held)
taken_next None left held n kept = tt
taken_next (Some xs) None held n kept = kept
taken_next (Some xs) (Some ys) held n kept =
    sym kept ∙ ap (λ (l : List ℕ). l ++ ys) (sym (take-append-drop n held))
    ∙ append_assoc (take n held) (drop n held) ys

-- the error that ends the search for a message is the one that reading stops by
pub stops_at : (count at : ℕ) (ahead front : List ℕ) (left new : Option (List ℕ)) (held : List ℕ) (e : StreamError)
    → front ≡ ahead → IsFound at (prepend_known front left) (Err e) held new
    → IsStop count at (prepend_known ahead left) e
stops_at count at ahead front left new held (File fault) same found =
    subst (λ (l : List ℕ). IsFaultNext at (prepend_known l left) fault) same found
stops_at count at ahead front left new held (Read failed) same found = tt
stops_at count at ahead front left new held NumbersSpent same found = absurd found

-- ---- the window

-- octets that are read from a place on fill the room from there on
pub put_size : (xs ys : List ℕ) (end : ℕ) → end ≤ length xs → length ys ≡ length xs - end
    → length (put_mid end (length xs - end) xs ys) ≡ length xs
put_size xs ys end within fits =
    let k = length xs - end in
    let front = length-take-le end xs within in
    let gone : length (post_of end k xs) ≡ 0 =
    omega (arith, length-drop k (drop end xs), length-drop end xs) in
    omega (
      arith,
      length-append (take end xs) (ys ++ post_of end k xs),
      length-append ys (post_of end k xs),
      front,
      gone,
      fits,
    )

-- a read of no octets at the end: nothing was left before it either
pub nothing_read : (left after : Option (List ℕ)) (n : ℕ) (buffer : List ℕ) → n ≡ 0
    → Consumes left after (take n buffer) → IsAtEnd after → IsAtEnd left
nothing_read None after n buffer none took end = tt
nothing_read (Some xs) None n buffer none took end = absurd took
nothing_read (Some xs) (Some ys) n buffer none took end =
    took ∙ ap (λ (k : ℕ). take k buffer ++ ys) none ∙ end

pub grown : (xs ys : List ℕ) (start end k n : ℕ) → start ≤ end → end ≤ length xs → n ≤ length ys
    → slice_range (put_mid end k xs ys) start (end + n) ≡ slice_range xs start end ++ take n ys
grown xs ys start end k n ordered within fits =
    let front = length-take-le end xs within in
    let held = drop start (take end xs) in
    let len : length held ≡ end - start = omega (arith, length-drop start (take end xs)) in
    let sum : end + n - start ≡ (end - start) + n = omega arith in
    let parts : end ≡ start + (end - start) = omega arith in
    let same : held ≡ take (end - start) (drop start xs) = ap (λ j. drop start (take j xs)) parts
    ∙ drop-take start (end - start) xs in
    let after = ys ++ post_of end k xs in
    ap (take (end + n - start)) (drop-append-le start (take end xs) after (omega arith))
    ∙ ap (λ j. take j (held ++ after)) sum ∙ take-add (end - start) n (held ++ after)
    ∙ (rw (take_at held after _ len, drop_at held after _ len, take-append-le n ys (post_of end k xs) fits, same) refl)

pub unread : (xs ys : List ℕ) (start end k : ℕ) → start ≤ end → end ≤ length xs
    → slice_range (put_mid end k xs ys) start end ≡ slice_range xs start end
unread xs ys start end k ordered within =
    let none : end ≡ end + 0 = omega arith in
    ap (slice_range (put_mid end k xs ys) start) none ∙ grown xs ys start end k 0 ordered within (omega arith)
    ∙ append-nil _

pub consumed : (xs : List ℕ) (start end count : ℕ) → start + count ≤ end
    → slice_range xs (start + count) end ≡ drop count (slice_range xs start end)
consumed xs start end count inside =
    let parts : end - start ≡ count + (end - (start + count)) = omega arith in
    sym (ap (λ j. drop count (take j (drop start xs))) parts ∙ drop-take count _ (drop start xs)
    ∙ ap (take (end - (start + count))) (drop-drop count start xs))

pub none_of : {X : Type 0} (o : Option X) → ((x : X) → o ≡ Some x → ⊥) → o ≡ None
none_of None h = refl
none_of (Some x) h = absurd (h x refl)
