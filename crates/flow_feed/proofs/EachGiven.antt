-- Datagrams, one after the other.
use Rattle.std.proofs.Common.{◌≡◌, ◌∙◌, ℕ, ◌+◌, ◌<◌, ◌≤◌, Bool, true, false, List, [], ◌∷◌, ◌++◌, length, Option, Some}
use Rattle.std.proofs.Common.{None, Result, Ok, Err, refl, sym, ap, ap₂, subst, append-nil, append_assoc, arith}
use Rattle.std.proofs.Common.{length-append, get_or}
use Rattle.std.specs.Prelude.{cond, filter, nat_eq}
use Rattle.std.proofs.lemmas.List.Elements.{filter-append}
use Rattle.flow_codec.specs.declared.error.MessageError.{MessageError}
use Rattle.flow_archive.specs.declared.refusal.ArchiveError.{ArchiveError}
use Rattle.flow_feed.specs.Datagrams.{count_with, fault_in, fault_of, faults_of, listed, number_of, times}
use Rattle.flow_feed.specs.Datagrams.{AfterDatagram, AfterFault, AreCounts, AreGivenEach, AreNone, AreReceived, IsOneMore}
use Rattle.flow_feed.specs.Datagrams.{IsNoted, IsTaken}
use Rattle.flow_feed.specs.declared.batch.FeedStop.{FeedStop}
use Rattle.flow_feed.specs.declared.batch.FeedStop.TheVariants.{File, Archive, OutOfMemory, Unopened, Unreceived}
use Rattle.flow_feed.specs.declared.collecting.Collected.{Collected}
use Rattle.flow_feed.specs.declared.collecting.Tally.{Tally}
use Rattle.flow_feed.specs.declared.refused.RefusedDatagrams.{RefusedDatagrams}
use Rattle.flow_codec.specs.declared.stream.StreamError.TheVariants as stream
use Rattle.flow_feed.specs.Datagrams.{unread, AreCollected, AreReadFrom, IsLast, IsOver, IsRead, IsUnread, Reading}
use Rattle.flow_feed.specs.Feed.{refusal_in}
use Rattle.flow_feed.specs.Given.{acknowledged_in, Given, HasTaken}
use Rattle.flow_feed.proofs.Taking.{acknowledged_then, given_then}

-- ---- what is received

-- a datagram more
pub received_more : {T : Type 0} (gives : T → T → List ℕ → Type 0) (old mid new : T) (datagrams : List (List ℕ))
    (datagram : List ℕ) → AreReceived gives old mid datagrams → gives mid new datagram
    → AreReceived gives old new (datagrams ++ datagram ∷ [])
received_more {T} gives old mid new [] datagram so_far one =
    (new, subst (λ (t : T). gives t new datagram) so_far one, refl)
received_more gives old mid new (first ∷ datagrams) datagram so_far one =
    (so_far.0, so_far.1, received_more gives so_far.0 mid new datagrams datagram so_far.2 one)

module _ {T : Type 0} (seen : T → Reading) where
  -- what was received of an input, by what is left of it
  all_read : (old new : T) (datagrams : List (List ℕ))
      → AreReceived (λ (a : T) (b : T) (datagram : List ℕ). IsRead (seen a) (seen b) datagram) old new datagrams
      → AreReceived IsRead (seen old) (seen new) datagrams
  all_read old new [] same = ap seen same
  all_read old new (datagram ∷ datagrams) (mid, one, more) = (seen mid, one, all_read mid new datagrams more)

  last_read : (old new : T) (count : ℕ) (stop : Option FeedStop)
      → IsLast (λ (a : T) (b : T). IsOver (seen a) (seen b)) (λ (a : T) (b : T). IsUnread (seen a) (seen b)) old new
      count stop
      → IsLast IsOver IsUnread (seen old) (seen new) count stop
  last_read old new count None is = is
  last_read old new count (Some (Unreceived failed)) is = is
  last_read old new count (Some (Archive error)) is = ap seen is
  last_read old new count (Some OutOfMemory) is = (is.0, ap seen is.1)
  last_read old new count (Some (File (stream.File fault))) is = absurd is
  last_read old new count (Some (File (stream.Read failed))) is = absurd is
  last_read old new count (Some (File stream.NumbersSpent)) is = (is.0, ap seen is.1)
  last_read old new count (Some Unopened) is = absurd is

  pub read_from : {S : Type 0} (appends : S → S → List (List ℕ) → Result ℕ ArchiveError → Type 0) (is_socket : Bool)
      (old new : S) (before after : T) (octets : Option (List ℕ)) (collected : Collected)
      → seen before ≡ unread is_socket octets
      → AreCollected appends (λ (a : T) (b : T) (datagram : List ℕ). IsRead (seen a) (seen b) datagram)
      (λ (a : T) (b : T). IsOver (seen a) (seen b)) (λ (a : T) (b : T). IsUnread (seen a) (seen b)) old new before after
      collected
      → AreReadFrom appends is_socket old new octets collected
  read_from appends is_socket old new before after octets collected are is = (
    seen after,
    record {
      datagrams = is.datagrams;
      last = seen is.last;
      received = subst (λ (r : Reading). AreReceived IsRead r (seen is.last) is.datagrams) are
          (all_read before is.last is.datagrams is.received);
      messages = is.messages;
      taken = is.taken;
      count = is.count;
      refused = is.refused;
      ended = last_read is.last after (length is.datagrams) collected.fed.stop is.ended;
    },
  )

-- ---- how many have a fault

times_then : (number : ℕ) (xs ys : List MessageError) → times number (xs ++ ys) ≡ times number xs + times number ys
times_then number xs ys =
    let is = λ (fault : MessageError). nat_eq (number_of fault) number in
    ap (λ (l : List MessageError). length l) (filter-append is xs ys)
    ∙ length-append (filter is xs) (filter is ys)

faults_then : (xs ys : List Given) → faults_of (xs ++ ys) ≡ faults_of xs ++ faults_of ys
faults_then [] ys = refl
faults_then (x ∷ xs) ys =
    ap (λ (l : List MessageError). fault_of x.answer ++ l) (faults_then xs ys)
    ∙ sym (append_assoc (fault_of x.answer) (faults_of xs) (faults_of ys))

one_more : (fault : MessageError) (number n : ℕ) → n < 18446744073709551615
    → count_with (nat_eq (number_of fault) number) n ≡ n + times number (fault ∷ [])
one_more fault number n room = by (nat_eq (number_of fault) number)
  where
    by : (b : Bool) → count_with b n ≡ n + length (cond b (fault ∷ []) [])
    by true = omega (arith, room)
    by false = omega arith

-- all counts are no more than this
abbrev pub AreAtMost : List ℕ → ℕ → Type 0
AreAtMost counts most = (number : ℕ) → number ≤ 10 → get_or counts number 0 ≤ most

pub none_counted : (counts : List ℕ) → AreNone counts → AreCounts counts []
none_counted counts none = λ number few. none number

pub none_at_most : (counts : List ℕ) → AreNone counts → AreAtMost counts 0
none_at_most counts none = λ number few. let is = none number in omega (arith, is)

pub at_most_more : (fault : MessageError) (old new : List ℕ) (most : ℕ) → AreAtMost old most → IsOneMore fault old new
    → AreAtMost new (most + 1)
at_most_more fault old new most are one = λ number few.
    let before = are number few in
    let is = one number few in
    let after = with_at_most (nat_eq (number_of fault) number) (get_or old number 0) in
    omega (arith, before, is, after)
  where
    with_at_most : (b : Bool) (n : ℕ) → count_with b n ≤ n + 1
    with_at_most true n = omega arith
    with_at_most false n = omega arith

pub at_most_still : (counts : List ℕ) (most : ℕ) → AreAtMost counts most → AreAtMost counts (most + 1)
at_most_still counts most are = λ number few. let before = are number few in omega (arith, before)

counts_more : (fault : MessageError) (old new : List ℕ) (faults : List MessageError) (most : ℕ)
    → most < 18446744073709551615 → AreAtMost old most → AreCounts old faults → IsOneMore fault old new
    → AreCounts new (faults ++ fault ∷ [])
counts_more fault old new faults most room few counts one = λ number low.
    let n = get_or old number 0 in
    let least : n < 18446744073709551615 = let before = few number low in omega (arith, before, room) in
    one number low ∙ one_more fault number n least ∙ ap (λ (k : ℕ). k + times number (fault ∷ [])) (counts number low)
    ∙ sym (times_then number faults (fault ∷ []))

-- ---- how they are given

each_then : (datagrams : List (List ℕ)) (given : List Given) (others : List (List ℕ)) (more : List Given)
    (stop : Option ArchiveError) → AreGivenEach datagrams given None → AreGivenEach others more stop
    → AreGivenEach (datagrams ++ others) (given ++ more) stop
each_then [] given others more stop first second =
    subst (λ (l : List Given). AreGivenEach others (l ++ more) stop) (sym first.0) second
each_then (d ∷ ds) [] others more stop first second = absurd first
each_then (d ∷ ds) (one ∷ given) others more stop first second =
    (first.0, by one.answer (λ after. each_then ds given others more stop after second) first.1)
  where
    after_fault : (fault : Option MessageError) (error : ArchiveError)
        → (AreGivenEach ds given None → AreGivenEach (ds ++ others) (given ++ more) stop)
        → AfterFault fault error (AreGivenEach ds given None) given None
        → AfterFault fault error (AreGivenEach (ds ++ others) (given ++ more) stop) (given ++ more) stop
    after_fault (Some fault) error onwards after = onwards after
    after_fault None error onwards after = let none = after.1 in absurd cc

    by : (answer : Result ℕ ArchiveError)
        → (AreGivenEach ds given None → AreGivenEach (ds ++ others) (given ++ more) stop)
        → AfterDatagram answer (AreGivenEach ds given None) given None
        → AfterDatagram answer (AreGivenEach (ds ++ others) (given ++ more) stop) (given ++ more) stop
    by (Ok position) onwards after = onwards after
    by (Err error) onwards after = after_fault (fault_in error) error onwards after

-- what is so far: these datagrams were received and given, each by itself
pub record IsCollecting {S T : Type 0} (appends : S → S → List (List ℕ) → Result ℕ ArchiveError → Type 0)
    (gives : T → T → List ℕ → Type 0) (old now : S) (before mid : T) (messages : ℕ) (refused : List ℕ) (count : ℕ)
    : Type 0 where
  pub datagrams : List (List ℕ)
  pub counted : length datagrams ≡ count
  pub received : AreReceived gives before mid datagrams
  pub taken_in : List (List ℕ)
  pub taken : HasTaken appends (AreGivenEach datagrams) old now taken_in None
  pub messages_are : messages ≡ length taken_in
  pub few : messages ≤ count
  pub refused_are : AreCounts refused (faults_of taken.given)
  pub few_refused : AreAtMost refused count

module _ {S T : Type 0} (appends : S → S → List (List ℕ) → Result ℕ ArchiveError → Type 0)
    (gives : T → T → List ℕ → Type 0) where
  pub none_collected : (old : S) (before : T) (refused : List ℕ) → AreNone refused
      → IsCollecting appends gives old old before before 0 refused 0
  none_collected old before refused none = record {
    datagrams = [];
    counted = refl;
    received = refl;
    taken_in = [];
    taken = record { given = []; run = refl; planned = (refl, refl); messages_are = refl };
    messages_are = refl;
    few = omega arith;
    refused_are = none_counted refused none;
    few_refused = none_at_most refused none;
  }

  after_one : (fault : Option MessageError) (error : ArchiveError) (f : MessageError) → fault ≡ Some f
      → AfterFault fault error (AreGivenEach [] [] None) [] None
  after_one (Some fault) error f is = (refl, refl)
  after_one None error f is = absurd cc

  after_last : (fault : Option MessageError) (error : ArchiveError) → fault ≡ None
      → AfterFault fault error (AreGivenEach [] [] (Some error)) [] (Some error)
  after_last (Some fault) error is = absurd cc
  after_last None error is = (refl, refl)

  -- datagrams, and one more that was answered so
  given_one_more : (datagrams : List (List ℕ)) (datagram : List ℕ) (old mid new : S) (a : List (List ℕ))
      (answer : Result ℕ ArchiveError) (stop : Option ArchiveError)
      (p : HasTaken appends (AreGivenEach datagrams) old mid a None) → appends mid new (datagram ∷ []) answer
      → AfterDatagram answer (AreGivenEach [] [] stop) [] stop
      → (t : HasTaken appends (AreGivenEach (datagrams ++ datagram ∷ [])) old new
      (a ++ acknowledged_in (datagram ∷ []) answer) stop)
      × (faults_of t.given ≡ faults_of p.given ++ fault_of answer)
  given_one_more datagrams datagram old mid new a answer stop p is after =
      let one : Given = record { messages = datagram ∷ []; answer = answer } in (
        record {
          given = p.given ++ one ∷ [];
          run = given_then appends old mid new p.given (one ∷ []) p.run (new, is, refl);
          planned = each_then datagrams p.given (datagram ∷ []) (one ∷ []) stop p.planned (refl, after);
          messages_are = acknowledged_then p.given (one ∷ [])
              ∙ ap₂ (λ (x : List (List ℕ)) (y : List (List ℕ)). x ++ y) p.messages_are
              (append-nil (acknowledged_in (datagram ∷ []) answer));
        },
        faults_then p.given (one ∷ [])
            ∙ ap (λ (l : List MessageError). faults_of p.given ++ l) (append-nil (fault_of answer)),
      )

  module _ (old now new : S) (before mid after : T) (tally : Tally) (count : ℕ)
      (so_far : IsCollecting appends gives old now before mid tally.messages tally.refused.counts count)
      (datagram : List ℕ) (came : gives mid after datagram) where
    abbrev all : List (List ℕ)
    all = so_far.datagrams ++ datagram ∷ []

    all_long : length all ≡ count + 1
    all_long =
        length-append so_far.datagrams (datagram ∷ []) ∙ ap (λ (n : ℕ). n + 1) so_far.counted

    all_received : AreReceived gives before after all
    all_received = received_more gives before mid after so_far.datagrams datagram so_far.received came

    one_counted : (messages : ℕ) → count < 18446744073709551615 → messages ≡ count_with true tally.messages
        → messages ≡ tally.messages + 1
    one_counted messages room is = let few = so_far.few in omega (arith, room, is, few)

    -- it is taken in, or it isn't accepted, and is counted
    pub collects : (fault : Option MessageError) (with : Tally) → count < 18446744073709551615
        → IsTaken appends now new datagram (Ok fault) → IsNoted fault tally with
        → IsCollecting appends gives old new before after with.messages with.refused.counts (count + 1)
    collects None with room (position, is) (more, same) =
        let made = given_one_more so_far.datagrams datagram old now new so_far.taken_in (Ok position) None so_far.taken is
        (refl, refl) in
        let counted = one_counted with.messages room more in
        let so_few = so_far.few in
        record {
          datagrams = all;
          counted = all_long;
          received = all_received;
          taken_in = so_far.taken_in ++ datagram ∷ [];
          taken = made.0;
          messages_are = counted ∙ ap (λ (n : ℕ). n + 1) so_far.messages_are
              ∙ sym (length-append so_far.taken_in (datagram ∷ []));
          few = omega (arith, counted, so_few);
          refused_are = subst (λ (r : RefusedDatagrams). AreCounts r.counts (faults_of made.0.given)) (sym same)
              (subst (λ (l : List MessageError). AreCounts tally.refused.counts l)
              (sym (made.1 ∙ append-nil (faults_of so_far.taken.given))) so_far.refused_are);
          few_refused = subst (λ (r : RefusedDatagrams). AreAtMost r.counts (count + 1)) (sym same)
              (at_most_still tally.refused.counts count so_far.few_refused);
        }
    collects (Some fault) with room (error, of_it, is) (same, more) =
        let made = given_one_more so_far.datagrams datagram old now new so_far.taken_in (Err error) None so_far.taken is
        (after_one (fault_in error) error fault of_it) in
        let so_few = so_far.few in
        record {
          datagrams = all;
          counted = all_long;
          received = all_received;
          taken_in = so_far.taken_in ++ [];
          taken = made.0;
          messages_are = same ∙ so_far.messages_are
              ∙ ap (λ (l : List (List ℕ)). length l) (sym (append-nil so_far.taken_in));
          few = omega (arith, same, so_few);
          refused_are = subst (λ (l : List MessageError). AreCounts with.refused.counts l)
              (sym (made.1
              ∙ ap (λ (o : Option MessageError). faults_of so_far.taken.given ++ listed o) of_it))
              (counts_more fault tally.refused.counts with.refused.counts (faults_of so_far.taken.given) count room
              so_far.few_refused so_far.refused_are more);
          few_refused = at_most_more fault tally.refused.counts with.refused.counts count so_far.few_refused more;
        }

    -- it is refused for another reason
    pub ends_at_one : (ends fails : T → T → Type 0) (error : ArchiveError) → IsTaken appends now new datagram (Err error)
        → AreCollected appends gives ends fails old new before after (record {
          fed = record { messages = tally.messages; stop = Some (Archive error) };
          refused = tally.refused;
        })
    ends_at_one ends fails error (other, is) =
        let made = given_one_more so_far.datagrams datagram old now new so_far.taken_in (Err error) (Some error)
        so_far.taken is (after_last (fault_in error) error other) in
        record {
          datagrams = all;
          last = after;
          received = all_received;
          messages = so_far.taken_in ++ [];
          taken = made.0;
          count = so_far.messages_are ∙ ap (λ (l : List (List ℕ)). length l) (sym (append-nil so_far.taken_in));
          refused = subst (λ (l : List MessageError). AreCounts tally.refused.counts l)
              (sym (made.1
              ∙ ap (λ (o : Option MessageError). faults_of so_far.taken.given ++ listed o) other
              ∙ append-nil (faults_of so_far.taken.given)))
              so_far.refused_are;
          ended = refl;
        }

  module _ (old now : S) (before mid after : T) (tally : Tally) (count : ℕ)
      (so_far : IsCollecting appends gives old now before mid tally.messages tally.refused.counts count) where
    -- no more are received
    pub ends_here : (ends fails : T → T → Type 0) (stop : Option FeedStop) → refusal_in stop ≡ None
        → IsLast ends fails mid after count stop
        → AreCollected appends gives ends fails old now before after (record {
          fed = record { messages = tally.messages; stop = stop };
          refused = tally.refused;
        })
    ends_here ends fails stop none last = record {
      datagrams = so_far.datagrams;
      last = mid;
      received = so_far.received;
      messages = so_far.taken_in;
      taken = record {
        given = so_far.taken.given;
        run = so_far.taken.run;
        planned = subst (λ (o : Option ArchiveError). AreGivenEach so_far.datagrams so_far.taken.given o) (sym none)
            so_far.taken.planned;
        messages_are = so_far.taken.messages_are;
      };
      count = so_far.messages_are;
      refused = so_far.refused_are;
      ended = subst (λ (n : ℕ). IsLast ends fails mid after n stop) (sym so_far.counted) last;
    }
