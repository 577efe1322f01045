-- Messages by their places.
use Rattle.std.proofs.Common.{◌≡◌, ℕ, zero, suc, Bool, true, false, ◌+◌, ◌-◌, ◌<◌, ◌≤◌, List, [], ◌∷◌, ◌++◌, length}
use Rattle.std.proofs.Common.{map, drop, Option, Some, None, refl, sym, ap, subst, ◌∙◌, arith, inr, get_or}
use Rattle.std.proofs.Common.{append-nil}
use Rattle.std.specs.Prelude.{IsTrue, slice_get, nat_lt, Ok, Err}
use Rattle.std.specs.List.{AllByRecursion, list_all}
use Rattle.std.specs.Arc.{arc_value}
use Rattle.std.specs.declared.sync.Arc.{Arc}
use Rattle.std.proofs.lemmas.Bool.{lt-ltb, le-ltb}
use Rattle.std.proofs.lemmas.List.{drop-map, length-append}
use Rattle.std.proofs.lemmas.Option.{slice_get-map}
use Rattle.flow_disk.specs.Window.{Window, IsOn}
use Rattle.flow_codec.specs.Cutting.{IsCutOff}
use Rattle.flow_codec.specs.Message.{joined}
use Rattle.flow_codec.proofs.Dividing.{no_more, one_message}
use Rattle.flow_disk.specs.declared.sealed.SealedFile.{Ghosts}
use Rattle.flow_refusals.specs.declared.read_refusal.ReadRefusal.{ReadRefusal}
use Rattle.flow_refusals.specs.declared.read_refusal.ReadRefusal.TheVariants.{Damaged, Fault, OutOfMemory}
use Rattle.flow_measure.specs.History.{Accepted}
use Rattle.flow_measure.specs.Query.{message_in_view}
use Rattle.flow_measure.specs.View.{View}
use Rattle.flow_segment.specs.Part.{rest_of, IsPartStep}
use Rattle.flow_segment.specs.Segment.{part_octets, AreMessagesOf}
use Rattle.flow_segment.specs.declared.sealed.SealedPart.{SealedPart}
use Rattle.flow_snapshot.specs.Files.{cut_into, is_honest, segment_of, shared}
use Rattle.flow_model.specs.Shelf.{cut_of, kept_of, messages_in, Shelf}
use Rattle.flow_snapshot.specs.Answered.{IsNoDamage}
use Rattle.flow_model.specs.Views.{IsViewOf}
use Rattle.flow_model.proofs.Accepting.{all_cut}
use Rattle.flow_snapshot.proofs.KeptFlows.{next_item}
use Rattle.flow_snapshot.proofs.PartMessages.{cut_count, cut_whole}
use Rattle.flow_snapshot.proofs.Sharing.{all_rest, first_of_two}

-- ---- within a part

-- After so many messages that are left of a part comes this one.
pub record IsAhead (octets : List ℕ) (c : Window) (message : Option (List ℕ)) (left : ℕ) : Type 0 where
  pub rest : List (List ℕ)
  pub is : rest_of octets c ≡ joined rest
  pub each : AllByRecursion IsCutOff rest
  pub there : slice_get rest left ≡ message
  pub some : left < length rest
  pub on : IsOn octets c

pub from_start : (octets : List ℕ) (c : Window) (prefix end count place : ℕ) (list : List (List ℕ))
    → c ≡ record { held = []; ahead = []; place = prefix; end = end }
    → AreMessagesOf (part_octets prefix end octets) count list → place < count
    → IsAhead octets c (slice_get list place) place
from_start octets c prefix end count place list new are within = record {
  rest = list;
  is = ap (rest_of octets) new ∙ (are.divided).whole ∙ append-nil (joined list);
  each = (are.divided).each;
  there = refl;
  some = omega (arith, within, are.all);
  on = subst (IsOn octets) (sym new) refl;
}

first_rest : (octets : List ℕ) (c : Window) (message : Option (List ℕ)) (left : ℕ) → IsAhead octets c message left
    → (m : List ℕ) × (more : List (List ℕ)) × (rest_of octets c ≡ m ++ joined more) × IsCutOff m
    × AllByRecursion IsCutOff more × (slice_get (m ∷ more) left ≡ message) × (left < suc (length more))
first_rest octets c message left a = by a.rest a.is a.each a.there a.some
  where
    by : (rest : List (List ℕ)) → rest_of octets c ≡ joined rest → AllByRecursion IsCutOff rest
        → slice_get rest left ≡ message → left < length rest
        → (m : List ℕ) × (more : List (List ℕ)) × (rest_of octets c ≡ m ++ joined more) × IsCutOff m
        × AllByRecursion IsCutOff more × (slice_get (m ∷ more) left ≡ message) × (left < suc (length more))
    by [] is each there some = absurd (omega (arith, some))
    by (m ∷ more) is each there some = (m, more, is, each.0, each.1, there, some)

-- the message that is held is the first of those that were left
held_first : (octets : List ℕ) (file : ℕ) (old new : Window) (message : Option (List ℕ)) (left : ℕ) (b : Bool)
    → b ≡ true → IsAhead octets old message left → IsPartStep octets file old (Ok b) new
    → (more : List (List ℕ)) × (rest_of octets new ≡ joined more) × AllByRecursion IsCutOff more
    × (slice_get (new.held ∷ more) left ≡ message) × (left < suc (length more))
held_first octets file old new message left false is a step = absurd cc
held_first octets file old new message left true is a step = by (first_rest octets old message left a)
  where
    by : (m : List ℕ) × (more : List (List ℕ)) × (rest_of octets old ≡ m ++ joined more) × IsCutOff m
        × AllByRecursion IsCutOff more × (slice_get (m ∷ more) left ≡ message) × (left < suc (length more))
        → (more : List (List ℕ)) × (rest_of octets new ≡ joined more) × AllByRecursion IsCutOff more
        × (slice_get (new.held ∷ more) left ≡ message) × (left < suc (length more))
    by (m, more, whole, cut, each, there, some) =
        let same = one_message m new.held (joined more) (rest_of octets new) cut step.0 (sym whole ∙ step.1) in (
          more,
          sym same.1,
          each,
          ap (λ (o : List ℕ). slice_get (o ∷ more) left) (sym same.0) ∙ there,
          some,
        )

pub held_here : (octets : List ℕ) (file : ℕ) (old new : Window) (message : Option (List ℕ)) (left : ℕ) (b : Bool)
    → b ≡ true → left ≡ 0 → IsAhead octets old message left → IsPartStep octets file old (Ok b) new
    → Some new.held ≡ message
held_here octets file old new message left b is none a step =
    let h = held_first octets file old new message left b is a step in
    ap (λ (k : ℕ). slice_get (new.held ∷ h.0) k) (sym none) ∙ h.3

pub held_other : (octets : List ℕ) (file : ℕ) (old new : Window) (message : Option (List ℕ)) (left less : ℕ) (b : Bool)
    → b ≡ true → left ≡ suc less → IsAhead octets old message left → IsOn octets new
    → IsPartStep octets file old (Ok b) new → IsAhead octets new message less
held_other octets file old new message left less b is some a on step =
    let h = held_first octets file old new message left b is a step in
    record {
      rest = h.0;
      is = h.1;
      each = h.2;
      there = ap (λ (k : ℕ). slice_get (new.held ∷ h.0) k) (sym some) ∙ h.3;
      some = omega (arith, h.4, some);
      on = on;
    }

pub not_ended : (octets : List ℕ) (file : ℕ) (old new : Window) (message : Option (List ℕ)) (left : ℕ) (b : Bool)
    → b ≡ false → IsAhead octets old message left → IsPartStep octets file old (Ok b) new → ⊥
not_ended octets file old new message left true is a step = absurd cc
not_ended octets file old new message left false is a step = by (first_rest octets old message left a)
  where
    by : (m : List ℕ) × (more : List (List ℕ)) × (rest_of octets old ≡ m ++ joined more) × IsCutOff m
        × AllByRecursion IsCutOff more × (slice_get (m ∷ more) left ≡ message) × (left < suc (length more)) → ⊥
    by (m, more, whole, cut, each, there, some) =
        let none : rest_of octets old ≡ [] = step.0 in
        let long : 16 ≤ length m = cut.long in
        let empty : length (m ++ joined more) ≡ 0 = ap length (sym whole ∙ none) in
        omega (arith, empty, long, length-append m (joined more))

pub not_stuck : (octets : List ℕ) (file : ℕ) (old new : Window) (message : Option (List ℕ)) (left : ℕ)
    (e : ReadRefusal) → IsAhead octets old message left → IsPartStep octets file old (Err e) new
    → IsNoDamage e
not_stuck octets file old new message left (Damaged f at) a step = by (first_rest octets old message left a)
  where
    by : (m : List ℕ) × (more : List (List ℕ)) × (rest_of octets old ≡ m ++ joined more) × IsCutOff m
        × AllByRecursion IsCutOff more × (slice_get (m ∷ more) left ≡ message) × (left < suc (length more)) → ⊥
    by (m, more, whole, cut, each, there, some) =
        no_more old.place (rest_of octets old) m (joined more) (inr step.2) cut whole
not_stuck octets file old new message left Fault a step = tt
not_stuck octets file old new message left OutOfMemory a step = tt

-- ---- among parts

get_behind : {A : Type 0} (xs ys : List A) (i : ℕ) → length xs ≤ i
    → slice_get (xs ++ ys) i ≡ slice_get ys (i - length xs)
get_behind [] ys i h = ap (slice_get ys) (omega arith)
get_behind (x ∷ xs) ys zero h = absurd (omega (arith, h))
get_behind (x ∷ xs) ys (suc i) h = get_behind xs ys i (omega (arith, h)) ∙ ap (slice_get ys) (omega arith)

get_front : {A : Type 0} (xs ys : List A) (i : ℕ) → i < length xs → slice_get (xs ++ ys) i ≡ slice_get xs i
get_front [] ys i h = absurd (omega (arith, h))
get_front (x ∷ xs) ys zero h = refl
get_front (x ∷ xs) ys (suc i) h = get_front xs ys i (omega (arith, h))

cut_front : (xs ys : List (List ℕ)) → AllByRecursion IsCutOff (xs ++ ys)
    → AllByRecursion IsCutOff xs × AllByRecursion IsCutOff ys
cut_front [] ys h = (tt, h)
cut_front (x ∷ xs) ys h = let more = cut_front xs ys h.1 in ((h.0, more.0), more.1)

honest_first : {P : Type 0} (test : P → Bool) (x : P) (xs : List P) → IsTrue (list_all test (x ∷ xs)) → IsTrue (test x)
honest_first test x xs h = first_of_two (test x) (list_all test xs) h

module _ {F X Z : Type 0} {files : Ghosts F X} (parts : List (Arc (SealedPart F X files) Z)) (i : ℕ)
    (item : Arc (SealedPart F X files) Z) (part : SealedPart F X files) (within : i < length parts)
    (is : item ≡ get_or parts i item) (same : part ≡ arc_value item) where
  abbrev left_behind : List (List ℕ)
  left_behind = messages_in (map segment_of (shared (drop (i + 1) parts)))

  abbrev own : List (List ℕ)
  own = cut_into part.messages (part_octets part.prefix part.length (files.octets part.reader))

  parted : shared (drop i parts) ≡ part ∷ shared (drop (i + 1) parts)
  parted = ap shared (next_item parts i item item within is refl)
      ∙ ap (λ (p : SealedPart F X files). p ∷ shared (drop (i + 1) parts)) (sym same)

  in_two : messages_in (map segment_of (shared (drop i parts))) ≡ own ++ left_behind
  in_two = ap (λ (ps : List (SealedPart F X files)). messages_in (map segment_of ps)) parted

  -- this part's messages are passed by
  pub passed_by : (place : ℕ) → part.messages ≤ place
      → slice_get left_behind (place - part.messages) ≡ slice_get (messages_in (map segment_of (shared (drop i parts))))
      place
  passed_by place past =
      let count = cut_count part.messages (part_octets part.prefix part.length (files.octets part.reader)) in
      sym (ap (λ (ms : List (List ℕ)). slice_get ms place) in_two
      ∙ get_behind own left_behind place (omega (arith, count, past))
      ∙ ap (λ (k : ℕ). slice_get left_behind (place - k)) count)

  -- the message is one of this part's
  pub own_place : (place : ℕ) → place < part.messages
      → slice_get own place ≡ slice_get (messages_in (map segment_of (shared (drop i parts)))) place
  own_place place within_own =
      let count = cut_count part.messages (part_octets part.prefix part.length (files.octets part.reader)) in
      sym (ap (λ (ms : List (List ℕ)). slice_get ms place) in_two
      ∙ get_front own left_behind place (omega (arith, count, within_own)))

  pub is_own_honest : IsTrue (list_all is_honest (shared parts)) → IsTrue (is_honest part)
  is_own_honest honest = honest_first is_honest part (shared (drop (i + 1) parts))
      (subst (λ (ps : List (SealedPart F X files)). IsTrue (list_all is_honest ps))
      (drop-map arc_value i parts ∙ parted) (all_rest is_honest i (shared parts) honest))

  -- its messages fill it
  pub own_fill : AllByRecursion IsCutOff (messages_in (map segment_of (shared parts))) → 0 < part.messages
      → AreMessagesOf (part_octets part.prefix part.length (files.octets part.reader)) part.messages own
  own_fill each some = cut_whole part.messages (part_octets part.prefix part.length (files.octets part.reader)) some
      (cut_front own left_behind (subst (AllByRecursion IsCutOff) in_two
      (rest_cut (shared parts) i (shared (drop i parts)) (sym (drop-map arc_value i parts)) each))).0
    where
      rest_cut : (ps : List (SealedPart F X files)) (k : ℕ) (qs : List (SealedPart F X files)) → qs ≡ drop k ps
          → AllByRecursion IsCutOff (messages_in (map segment_of ps))
          → AllByRecursion IsCutOff (messages_in (map segment_of qs))
      rest_cut ps zero qs are h = subst (λ (xs : List (SealedPart F X files)).
          AllByRecursion IsCutOff (messages_in (map segment_of xs))) (sym are) h
      rest_cut [] (suc k) qs are h = subst (λ (xs : List (SealedPart F X files)).
          AllByRecursion IsCutOff (messages_in (map segment_of xs))) (sym are) h
      rest_cut (p ∷ ps) (suc k) qs are h =
          rest_cut ps k qs are (cut_front (segment_of p).messages (messages_in (map segment_of ps)) h).1

-- ---- of a view

module _ (s : Shelf) (v : View) (is : IsViewOf s v) (n : ℕ) where
  -- a message that isn't kept
  pub none_before : n ≤ cut_of s → None ≡ message_in_view n v
  none_before before =
      let test : nat_lt v.cut n ≡ false = le-ltb v.cut n (omega (arith, before, is.cut)) in
      rw test refl

  kept_at : cut_of s < n → message_in_view n v ≡ slice_get (kept_of s) (n - cut_of s - 1)
  kept_at behind =
      let test : nat_lt v.cut n ≡ true = lt-ltb v.cut n (omega (arith, behind, is.cut)) in
      let place : n - v.cut - 1 ≡ n - cut_of s - 1 = ap (λ (k : ℕ). n - k - 1) is.cut in
      rw test (sym (slice_get-map (λ (a : Accepted). a.octets) v.kept (n - v.cut - 1))
      ∙ ap (λ (ms : List (List ℕ)). slice_get ms (n - v.cut - 1)) is.kept ∙ ap (slice_get (kept_of s)) place)

  module _ (place : ℕ) (behind : cut_of s < n) (at : place ≡ n - cut_of s - 1) where
    pub in_sealed : place < length (messages_in s.sealed)
        → slice_get (messages_in s.sealed) place ≡ message_in_view n v
    in_sealed within = sym (kept_at behind ∙ ap (slice_get (kept_of s)) (sym at)
        ∙ get_front (messages_in s.sealed) s.active place within)

    pub in_active : length (messages_in s.sealed) ≤ place
        → slice_get s.active (place - length (messages_in s.sealed)) ≡ message_in_view n v
    in_active past = sym (kept_at behind ∙ ap (slice_get (kept_of s)) (sym at)
        ∙ get_behind (messages_in s.sealed) s.active place past)

  pub sealed_cut : AllByRecursion IsCutOff (messages_in s.sealed)
  sealed_cut = (cut_front (messages_in s.sealed) s.active
      (subst (AllByRecursion IsCutOff) is.kept (all_cut v.templates v.kept is.accepted))).0
