-- Messages that are taken in one after the other.
use Rattle.std.proofs.Common.{◌≡◌, ◌≢◌, ◌⊎◌, inl, inr, ℕ, ◌+◌, ◌<◌, ◌≤◌, ◌^◌, Bor, List, [], ◌∷◌, ◌++◌, length}
use Rattle.std.proofs.Common.{take, drop, get_or, refl, sym, ◌∙◌, ap, subst, arith, append_assoc, length-append, Option}
use Rattle.std.specs.Prelude.{Some, None, is_some, not, unwrap_or, Bool, true, false, Result, Ok, Err, IfErr, OnErr}
use Rattle.std.specs.Int.{w16, from_be_bytes, to_be_bytes}
use Rattle.std.specs.List.{flat_map}
use Rattle.std.proofs.lemmas.Bool.{cases_lt}
use Rattle.std.proofs.lemmas.List.{append-nil, map-append, map_more, take_at, drop_at, take-append-drop}
use Rattle.std.proofs.lemmas.List.Concat.{flat_map-cons}
use Rattle.flow_codec.specs.declared.error.MessageError.{MessageError}
use Rattle.flow_codec.specs.declared.error.MessageError.TheVariants.{OutOfMemory}
use Rattle.flow_codec.specs.Cutting.{length_of}
use Rattle.flow_codec.specs.Fault.{IsFault}
use Rattle.flow_codec.specs.Message.{content, header_octets, set_octets, AreSets, Division, IsAccepted, IsSet}
use Rattle.flow_codec.specs.Raw.{RawRecord}
use Rattle.flow_codec.specs.Templates.{AllTemplates}
use Rattle.flow_codec.proofs.NumberLaws.{wide16}
use Rattle.flow_gate.specs.Steps.{slices}
use Rattle.flow_measure.specs.History.{Accepted, templates_from}
use Rattle.flow_measure.proofs.Histories.{accepted_then}
use Rattle.flow_segment.specs.declared.batch.Undo.{Undo}
use Rattle.flow_segment.specs.Batch.{id_of, restored, AreTaken, IsAfterSet, IsFirstFault, IsReady, LeavesTemplates}
use Rattle.flow_segment.specs.Carry.{Carry, carry_from, carry_with, kept_as, octets_of, IsTaken}

-- ---- messages after others

pub templates_carried : (c : Carry) (xs : List Accepted) → (carry_from c xs).templates ≡ templates_from c.templates xs
templates_carried c [] = refl
templates_carried c (x ∷ xs) = templates_carried (carry_with c x) xs

pub carried_then : (c : Carry) (xs ys : List Accepted) → carry_from c (xs ++ ys) ≡ carry_from (carry_from c xs) ys
carried_then c [] ys = refl
carried_then c (x ∷ xs) ys = carried_then (carry_with c x) xs ys

pub none_taken : (c : Carry) → AreTaken [] c c
none_taken c = ([], refl, tt, refl)

pub taken_more : (done : List (List ℕ)) (octets : List ℕ) (old mid new : Carry) → AreTaken done old mid
    → IsTaken octets mid new → AreTaken (done ++ octets ∷ []) old new
taken_more done octets old mid new are one =
    let xs = are.0 in
    let a = one.0 in
    let here : mid.templates ≡ templates_from old.templates xs =
    ap (λ (c : Carry). c.templates) are.3 ∙ templates_carried old xs in (
      xs ++ a ∷ [],
      map-append (λ (x : Accepted). x.octets) xs (a ∷ []) ∙ ap (λ (l : List (List ℕ)). l ++ a.octets ∷ []) are.1
          ∙ ap (λ (o : List ℕ). done ++ o ∷ []) one.1,
      accepted_then old.templates xs a are.2
          (subst (λ (o : List ℕ). IsAccepted o (templates_from old.templates xs) a.message a.after) (sym one.1)
          (subst (λ (t : AllTemplates). IsAccepted octets t a.message a.after) here one.2)),
      one.3 ∙ ap (λ (c : Carry). carry_with c a) are.3 ∙ sym (carried_then old xs (a ∷ [])),
    )

pub first_fault : (octets done rest : List (List ℕ)) (message : List ℕ) (old mid : Carry) (e : MessageError)
    → octets ≡ done ++ message ∷ rest → AreTaken done old mid
    → (e ≡ OutOfMemory) ⊎ IsFault message mid.templates e → (e ≡ OutOfMemory) ⊎ IsFirstFault octets old.templates e
first_fault octets done rest message old mid e is are (inl memory) = inl memory
first_fault octets done rest message old mid e is are (inr fault) = inr (
  are.0,
  message,
  rest,
  is ∙ ap (λ (l : List (List ℕ)). l ++ message ∷ rest) (sym are.1),
  are.2,
  subst (λ (t : AllTemplates). IsFault message t e)
      (ap (λ (c : Carry). c.templates) are.3 ∙ templates_carried old are.0) fault,
)

-- a fault among the first of them
pub fault_before : (octets done rest : List (List ℕ)) (before : AllTemplates) (e : MessageError)
    → octets ≡ done ++ rest → (e ≡ OutOfMemory) ⊎ IsFirstFault done before e
    → (e ≡ OutOfMemory) ⊎ IsFirstFault octets before e
fault_before octets done rest before e is (inl memory) = inl memory
fault_before octets done rest before e is (inr f) = inr (
  f.0,
  f.1,
  f.2 ++ rest,
  is ∙ ap (λ (l : List (List ℕ)). l ++ rest) f.3 ∙ append_assoc (octets_of f.0) (f.1 ∷ f.2) rest,
  f.4,
  f.5,
)

-- ---- the messages of a slice

-- the messages so far, one more, and the others
pub one_of : (messages : List (Bor (List ℕ))) (i : ℕ) (none : Bor (List ℕ)) → i < length messages
    → slices messages ≡ slices (take i messages) ++ (get_or messages i none).now ∷ slices (drop (i + 1) messages)
one_of messages i none lt =
    ap slices (sym (take-append-drop (i + 1) messages))
    ∙ map-append (λ (m : Bor (List ℕ)). m.now) (take (i + 1) messages) (drop (i + 1) messages)
    ∙ ap (λ (l : List (List ℕ)). l ++ slices (drop (i + 1) messages))
    (map_more (λ (m : Bor (List ℕ)). m.now) messages i none lt)
    ∙ append_assoc (slices (take i messages)) ((get_or messages i none).now ∷ []) (slices (drop (i + 1) messages))

pub alone_of : (messages : List (Bor (List ℕ))) (none : Bor (List ℕ)) → 1 ≤ length messages → length messages < 2
    → slices messages ≡ (get_or messages 0 none).now ∷ []
alone_of [] none some few = absurd (omega (arith, some))
alone_of (m ∷ []) none some few = refl
alone_of (m ∷ n ∷ messages) none some few = absurd (omega (arith, few))

-- the last one after the others
pub last_of : (messages front : List (Bor (List ℕ))) (last : Bor (List ℕ)) → messages ≡ front ++ last ∷ []
    → slices messages ≡ slices front ++ last.now ∷ []
last_of messages front last is =
    ap slices is ∙ map-append (λ (m : Bor (List ℕ)). m.now) front (last ∷ [])

-- ---- octets that define nothing

-- Whatever Sets these octets are, they leave the templates as they are.
abbrev pub SetsLeave : List ℕ → Type 0
SetsLeave octets = (domain : ℕ) → (before : AllTemplates) → (sets : List Division) → (records : List RawRecord)
    → (after : AllTemplates) → AreSets domain before sets records after → octets ≡ flat_map set_octets sets
    → after ≡ before

-- the header of a Set, as it is read
pub record IsHead (set : Division) (octets rest : List ℕ) : Type 0 where
  pub id : id_of octets ≡ set.id
  pub len : length_of octets ≡ 4 + length (content set)
  pub after : drop (4 + length (content set)) octets ≡ rest

pub head_of : (set : Division) (octets rest : List ℕ) → set.id < 2 ^ 16 → 4 + length (content set) < 2 ^ 16
    → octets ≡ set_octets set ++ rest → IsHead set octets rest
head_of set octets rest id_below len_below is =
    let n = 4 + length (content set) in
    let tail = to_be_bytes w16 n ++ (content set ++ rest) in
    let flat : octets ≡ to_be_bytes w16 set.id ++ tail = is ∙ simp append_assoc in
    record {
      id = ap id_of flat ∙ ap (from_be_bytes w16) (take_at (to_be_bytes w16 set.id) tail 2 refl)
          ∙ wide16.again set.id id_below;
      len = ap length_of flat ∙ ap (λ (t : List ℕ). from_be_bytes w16 (take 2 t))
          (drop_at (to_be_bytes w16 set.id) tail 2 refl)
          ∙ ap (from_be_bytes w16) (take_at (to_be_bytes w16 n) (content set ++ rest) 2 refl)
          ∙ wide16.again n len_below;
      after = ap (drop n) is ∙ drop_at (set_octets set) rest n (omega arith);
    }

-- a Set that isn't of template records
pub set_leaves : (domain : ℕ) (before : AllTemplates) (set : Division) (records : List RawRecord) (after : AllTemplates)
    → IsSet domain before set records after → set.id ≢ 2 → set.id ≢ 3 → after ≡ before
set_leaves domain before set records after is plain options = elim (cases_lt set.id 256) [
  | inl small ↦ (is.other plain options small).2
  | inr large ↦ (is.«data» large).1
]

-- one Set more before others
pub sets_leave : (octets rest : List ℕ) → IsAfterSet octets rest → SetsLeave rest → SetsLeave octets
sets_leave octets rest set_after leave domain before [] records after are is = are.1
sets_leave octets rest set_after leave domain before (s ∷ ss) records after are is =
    let head = head_of s octets (flat_map set_octets ss) (are.3).id (are.3).fits
    (is ∙ flat_map-cons set_octets s ss) in
    let others : rest ≡ flat_map set_octets ss = set_after.after ∙ ap (λ (n : ℕ). drop n octets) head.len ∙ head.after in
    leave domain are.2 ss are.1 after are.4 others
    ∙ set_leaves domain before s are.0 are.2 are.3 (λ e. set_after.plain (head.id ∙ e)) (λ e. set_after.options (head.id ∙ e))

pub no_sets_leave : (octets : List ℕ) → length octets ≡ 0 → SetsLeave octets
no_sets_leave octets none domain before [] records after are is = are.1
no_sets_leave octets none domain before (s ∷ ss) records after are is =
    absurd (omega (
      arith,
      none,
      ap length (is ∙ flat_map-cons set_octets s ss),
      length-append (set_octets s) (flat_map set_octets ss),
    ))

-- after the header
pub message_leaves : (octets : List ℕ) → SetsLeave (drop 16 octets) → LeavesTemplates octets
message_leaves octets leave before message after accepted =
    let front = accepted.0 in
    leave message.header.domain before front.sets message.records after front.hold
    (ap (drop 16) front.parts ∙ drop_at (header_octets message.header) (flat_map set_octets front.sets ++ []) 16 refl
    ∙ append-nil (flat_map set_octets front.sets))

-- ---- what is kept

-- what is kept is kept after a message more
pub kept_on : (undo : Undo) (octets : List ℕ) (old mid new : Carry) → restored mid.templates undo ≡ old
    → IsReady undo octets → IsTaken octets mid new → restored new.templates undo ≡ old
kept_on undo octets old mid new was (inl copy) taken =
    ap (λ (o : Option AllTemplates). kept_as (unwrap_or o new.templates) undo.due.entries undo.time) copy.1
    ∙ sym (ap (λ (o : Option AllTemplates). kept_as (unwrap_or o mid.templates) undo.due.entries undo.time) copy.1)
    ∙ was
kept_on undo octets old mid new was (inr leaves) taken =
    ap (λ (t : AllTemplates). restored t undo)
    (ap (λ (c : Carry). c.templates) taken.3 ∙ leaves mid.templates (taken.0).message (taken.0).after taken.2) ∙ was

-- of a refused message nothing is put back
pub kept_by : {X E : Type 0} (r : Result X E) (undo : Undo) (old mid new : Carry) → OnErr r (new ≡ mid)
    → restored mid.templates undo ≡ old → OnErr r (restored new.templates undo ≡ old)
kept_by (Ok x) undo old mid new same was = tt
kept_by (Err e) undo old mid new same was = ap (λ (c : Carry). restored c.templates undo) same ∙ was

pub some_of : (o : Option AllTemplates) (none : Bool) → is_some o ≡ not none → none ≡ false
    → (templates : AllTemplates) × (o ≡ Some templates)
some_of (Some templates) none is some = (templates, refl)
some_of None true is some = absurd cc
some_of None false is some = absurd cc
