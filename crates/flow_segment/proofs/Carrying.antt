-- What a segment passes on.
use Rattle.std.proofs.Common.{◌≡◌, ◌≢◌, ℕ, ◌+◌, ◌%◌, ◌^◌, ◌<◌, ◌≤◌, Bool, true, false, cond, List, [], ◌∷◌, ◌++◌}
use Rattle.std.proofs.Common.{length, map, Option, Some, None, refl, sym, ap, subst, ◌∙◌, append_assoc, arith, inl, inr}
use Rattle.std.specs.Prelude.{nat_eq, unwrap_or, Ok, Err, Result, IfOk, IfErr, IsErrAnd}
use Rattle.std.specs.List.{AllByRecursion}
use Rattle.std.proofs.lemmas.Bool.{eqb-true, eqb-false}
use Rattle.std.proofs.lemmas.Bool.Decides.{nat_tests}
use Rattle.std.proofs.lemmas.List.{append-nil, length-append, map-append, length-map}
use Rattle.std.proofs.lemmas.List.Concat.{flat_map-append}
use Rattle.flow_codec.specs.declared.templates.DomainTemplates.{DomainTemplates}
use Rattle.flow_codec.specs.Templates.{AllTemplates, no_definitions, definitions_of, is_empty, IsOnce, IsDomain}
use Rattle.flow_codec.specs.Templates.{AreTemplatesInForce}
use Rattle.flow_codec.specs.declared.message.Header.{Header}
use Rattle.flow_codec.specs.Raw.{RawMessage, RawRecord, under}
use Rattle.flow_codec.specs.Message.{joined, IsMessage, IsAccepted}
use Rattle.flow_codec.specs.File.{AreMessages, IsFile}
use Rattle.flow_codec.specs.Prefix.{due_in, prefix_message, prefix_read, prefix_messages, prefix_octets, AreDomains}
use Rattle.flow_codec.specs.Prefix.{AreNumbers}
use Rattle.flow_codec.proofs.Steps.{by_bool}
use Rattle.flow_codec.proofs.Entries.{same, found, without, with_entry, lookup-insert, found-insert-other}
use Rattle.flow_codec.proofs.Entries.{found-remove-other, holds-found}
use Rattle.flow_codec.proofs.KeyLaws.{first_once}
use Rattle.flow_codec.proofs.Kept.{in_force}
use Rattle.flow_codec.proofs.Sizes.{few_records, others_left, short_enough}
use Rattle.flow_codec.proofs.SlotLaws.{front-lacks}
use Rattle.flow_codec.proofs.FaultLaws.{one_message, one_state}
use Rattle.flow_codec.proofs.Restating.{restated as is_restated}
use Rattle.flow_codec.proofs.RestatingAll.{message_cut, due_fits}
use Rattle.flow_measure.specs.History.{Accepted, AreAcceptedFrom, templates_from}
use Rattle.flow_segment.specs.Carry.{Carry, numbered, kept_as, AreNext, IsCounted, IsTaken, IsTakenAs, no_carry}
use Rattle.flow_segment.specs.Carry.{due_after}
use Rattle.flow_segment.specs.Carry.{carry_with, carry_from, IsCarry, restated_from, restated, IsReadBack}
use Rattle.flow_segment.specs.Carry.{octets_of, segment_octets}

-- ---- each entry of a list

pub all_imp : {X : Type 0} (P Q : X → Type 0) (xs : List X) → ((x : X) → P x → Q x) → AllByRecursion P xs
    → AllByRecursion Q xs
all_imp P Q [] f h = tt
all_imp P Q (x ∷ xs) f h = (f x h.0, all_imp P Q xs f h.1)

all_then : {X : Type 0} (P : X → Type 0) (xs : List X) (x : X) → AllByRecursion P xs → P x
    → AllByRecursion P (xs ++ x ∷ [])
all_then P [] x h p = (p, tt)
all_then P (y ∷ ys) x h p = (h.0, all_then P ys x h.1 p)

pub numbered_same : (f g : ℕ → ℕ) (all : AllTemplates) → AllByRecursion (λ e. f e.0 ≡ g e.0) all
    → numbered f all ≡ numbered g all
numbered_same f g [] h = refl
numbered_same f g (e ∷ es) h = rw h.0 (ap (λ (t : List (ℕ × ℕ)). (e.0, g e.0) ∷ t) (numbered_same f g es h.1))

pub numbered_here : (f : ℕ → ℕ) (all : AllTemplates) → AllByRecursion (λ e. due_in (numbered f all) e.0 ≡ f e.0) all
numbered_here f [] = tt
numbered_here f (x ∷ xs) = (
  rw (same x.0) refl,
  all_imp (λ e. due_in (numbered f xs) e.0 ≡ f e.0)
      (λ e. due_in (numbered f (x ∷ xs)) e.0 ≡ f e.0) xs more (numbered_here f xs),
)
  where
    more : (e : ℕ × DomainTemplates) → due_in (numbered f xs) e.0 ≡ f e.0 → due_in (numbered f (x ∷ xs)) e.0 ≡ f e.0
    more e h = elim (by_bool (nat_eq e.0 x.0)) [
      | inl w ↦ rw w (ap f (sym (eqb-true _ _ w)))
      | inr w ↦ rw w h
    ]

numbered_keys : (f : ℕ → ℕ) (all : AllTemplates) → map (λ e. e.0) (numbered f all) ≡ map (λ e. e.0) all
numbered_keys f [] = refl
numbered_keys f (e ∷ es) = ap (λ (t : List ℕ). e.0 ∷ t) (numbered_keys f es)

numbered_fit : (f : ℕ → ℕ) (all : AllTemplates) → ((d : ℕ) → f d < 2 ^ 32) → AreNumbers (numbered f all)
numbered_fit f [] h = tt
numbered_fit f (e ∷ es) h = (h e.0, numbered_fit f es h)

numbered_then : (f : ℕ → ℕ) (all : AllTemplates) (e : ℕ × DomainTemplates)
    → numbered f (all ++ e ∷ []) ≡ numbered f all ++ (e.0, f e.0) ∷ []
numbered_then f [] e = refl
numbered_then f (x ∷ xs) e = ap (λ (t : List (ℕ × ℕ)). (x.0, f x.0) ∷ t) (numbered_then f xs e)

-- a list of numbers under the same domains is one of this form
key_of : (due : List (ℕ × ℕ)) (all : AllTemplates) → IsOnce all → map (λ e. e.0) due ≡ map (λ e. e.0) all
    → due ≡ numbered (due_in due) all
key_of [] [] once e = refl
key_of [] (x ∷ xs) once e = absurd cc
key_of (d ∷ ds) [] once e = absurd cc
key_of (d ∷ ds) (x ∷ xs) once e =
    let key : d.0 ≡ x.0 = cc in
    let keys : map (λ e. e.0) ds ≡ map (λ e. e.0) xs = cc in
    let more = key_of ds xs once.1 keys in
    let here : due_in (d ∷ ds) x.0 ≡ d.1 = let w : nat_eq x.0 d.0 ≡ true = ap (nat_eq x.0) key ∙ same x.0 in
    rw w refl in
    let others : numbered (due_in ds) xs ≡ numbered (due_in (d ∷ ds)) xs =
    numbered_same (due_in ds) (due_in (d ∷ ds)) xs (apart xs once.0) in
    first d x.0 (due_in (d ∷ ds) x.0) key (sym here) ∙ ap (λ (t : List (ℕ × ℕ)). (x.0, due_in (d ∷ ds) x.0) ∷ t)
    (more ∙ others)
  where
    first : (d : ℕ × ℕ) (k n : ℕ) → d.0 ≡ k → d.1 ≡ n → d ∷ ds ≡ (k, n) ∷ ds
    first d k n a b = rw (← a, ← b) refl

    apart : (ys : AllTemplates) → found x.0 ys ≡ None → AllByRecursion (λ y. due_in ds y.0 ≡ due_in (d ∷ ds) y.0) ys
    apart [] none = tt
    apart (y ∷ ys) none = elim (by_bool (nat_eq x.0 y.0)) [
      | inl w ↦ let h = rw w at none in absurd cc
      | inr w ↦
          let h = rw w at none in
          let key : d.0 ≡ x.0 = cc in
          let other : nat_eq y.0 d.0 ≡ false = ap (nat_eq y.0) key ∙ turned x.0 y.0 w in
          (rw other refl, apart ys h)
    ]
      where
        turned : (a b : ℕ) → nat_eq a b ≡ false → nat_eq b a ≡ false
        turned a b w = grind (arith, nat_tests)

-- ---- which domains there are

-- each entry is found under its number
found_own : (all : AllTemplates) → IsOnce all → AllByRecursion (λ e. found e.0 all ≡ Some e.1) all
found_own [] once = tt
found_own (x ∷ xs) once = (
  rw (same x.0) refl,
  all_imp (λ e. found e.0 xs ≡ Some e.1) (λ e. found e.0 (x ∷ xs) ≡ Some e.1) xs more
      (found_own xs once.1),
)
  where
    more : (e : ℕ × DomainTemplates) → found e.0 xs ≡ Some e.1 → found e.0 (x ∷ xs) ≡ Some e.1
    more e h = elim (by_bool (nat_eq e.0 x.0)) [
      | inl w ↦
          let none : found e.0 xs ≡ None = subst (λ (k : ℕ). found k xs ≡ None) (sym (eqb-true _ _ w)) once.0 in
          absurd (cc)
      | inr w ↦ rw w h
    ]

both : {X : Type 0} (P Q : X → Type 0) (xs : List X) → AllByRecursion P xs → AllByRecursion Q xs
    → AllByRecursion (λ x. P x × Q x) xs
both P Q [] p q = tt
both P Q (x ∷ xs) p q = ((p.0, q.0), both P Q xs p.1 q.1)

-- A domain in force after a message is its own, or was there before.
pub stayed : (octets : List ℕ) (before after : AllTemplates) (m : RawMessage) → AreTemplatesInForce after
    → IsMessage octets before m after
    → AllByRecursion (λ e. e.0 ≢ m.header.domain → found e.0 before ≡ Some e.1) after
stayed octets before after m h is =
    all_imp (λ e. (found e.0 after ≡ Some e.1) × IsDomain e) (λ e. e.0 ≢ m.header.domain
    → found e.0 before ≡ Some e.1) after one
    (both (λ e. found e.0 after ≡ Some e.1) IsDomain after (found_own after h.once) h.domains)
  where
    one : (e : ℕ × DomainTemplates) → (found e.0 after ≡ Some e.1) × IsDomain e → e.0 ≢ m.header.domain
        → found e.0 before ≡ Some e.1
    one e t differ =
        let there : definitions_of e.0 after ≡ e.1 =
        ap (λ (o : Option DomainTemplates). unwrap_or o no_definitions) t.0 in
        let was : definitions_of e.0 before ≡ e.1 = sym (others_left octets before m after e.0 differ is) ∙ there in
        by (found e.0 before) refl was
      where
        by : (o : Option DomainTemplates) → found e.0 before ≡ o → unwrap_or o no_definitions ≡ e.1
            → found e.0 before ≡ Some e.1
        by None f w = let some : is_empty no_definitions ≡ false = ap is_empty w ∙ (t.1).some in absurd cc
        by (Some here) f w = f ∙ ap Some w

-- ---- a carry stays one

pub carries : (c : Carry) (a : Accepted) → IsCarry c → IsAccepted a.octets c.templates a.message a.after
    → IsCarry (carry_with c a)
carries c a h is =
    let fits = is.0.fits in
    let force = in_force c.templates a.octets a.message a.after h.templates is in
    let d = a.message.header.domain in
    record {
      templates = force;
      domains = all_imp (λ e. e.0 ≢ d → found e.0 c.templates ≡ Some e.1) (λ e. e.0 < 2 ^ 32) a.after
          (λ e stays. elim (by_bool (nat_eq e.0 d)) [
            | inl w ↦ subst (λ (k : ℕ). k < 2 ^ 32) (sym (eqb-true _ _ w)) fits.domain
            | inr w ↦ holds-found e.0 (λ x. x.0 < 2 ^ 32) c.templates e.1 h.domains (stays (eqb-false _ _ w))
          ]) (stayed a.octets c.templates a.after a.message force is.0);
      due = numbered_keys (λ k. cond (nat_eq k d) (due_after a.message) (due_in c.due k)) a.after;
      numbers = numbered_fit (λ k. cond (nat_eq k d) (due_after a.message) (due_in c.due k)) a.after
          (λ k. elim (by_bool (nat_eq k d)) [
            | inl w ↦ rw w (omega arith)
            | inr w ↦ rw w (due_fits c.due k h.numbers)
          ]);
      time = fits.time;
    }

-- ---- numbers in another order

-- Numbers in whatever order, with or without others beside them, are as good as those in the order of the templates.
pub same_prefix : (time : ℕ) (due : List (ℕ × ℕ)) (all : AllTemplates)
    → prefix_octets time (numbered (due_in due) all) all ≡ prefix_octets time due all
same_prefix time due all = ap joined (by all (numbered_here (due_in due) all))
  where
    by : (es : AllTemplates) → AllByRecursion (λ e. due_in (numbered (due_in due) all) e.0 ≡ due_in due e.0) es
        → prefix_messages time (numbered (due_in due) all) es ≡ prefix_messages time due es
    by [] h = refl
    by (e ∷ es) h = rw h.0 (ap (λ (t : List (List ℕ)). prefix_message time (due_in due e.0) e ∷ t) (by es h.1))

-- ---- reading back

module _ (time : ℕ) (due : List (ℕ × ℕ)) (t : time < 2 ^ 32) (n : AreNumbers due) where
  restated_octets : (front es : AllTemplates)
      → octets_of (restated_from time due front es) ≡ prefix_messages time due es
  restated_octets front [] = refl
  restated_octets front (e ∷ es) =
      ap (λ (x : List (List ℕ)). prefix_message time (due_in due e.0) e ∷ x) (restated_octets (front ++ e ∷ []) es)

  restated_none : (front es : AllTemplates)
      → AllByRecursion (λ a. a.message.records ≡ []) (restated_from time due front es)
  restated_none front [] = tt
  restated_none front (e ∷ es) = (refl, restated_none (front ++ e ∷ []) es)

  restated_templates : (front es : AllTemplates) → templates_from front (restated_from time due front es) ≡ front ++ es
  restated_templates front [] = sym (append-nil front)
  restated_templates front (e ∷ es) = restated_templates (front ++ e ∷ []) es ∙ append_assoc front (e ∷ []) es

  restated_accepted : (front es : AllTemplates) → IsOnce front → IsOnce (front ++ es) → AllByRecursion IsDomain es
      → AreDomains es → length (front ++ es) ≤ 64 → AreAcceptedFrom front (restated_from time due front es)
  restated_accepted front [] o all is domains count = tt
  restated_accepted front (e ∷ es) o all is domains count =
      let flat : (front ++ e ∷ []) ++ es ≡ front ++ e ∷ es = append_assoc front (e ∷ []) es in
      let room : length front < 64 = omega (arith, count, length-append front (e ∷ es)) in
      let one = is_restated time (due_in due e.0) e.0 e.1 front o (front-lacks front e es all) is.0 t
      (due_fits due e.0 n) domains.0 room in
      let all_next : IsOnce ((front ++ e ∷ []) ++ es) = subst IsOnce (sym flat) all in (
        one,
        restated_accepted (front ++ e ∷ []) es (first_once (front ++ e ∷ []) es all_next) all_next is.1 domains.1
            (subst (λ (x : AllTemplates). length x ≤ 64) (sym flat) count),
      )

  abbrev handed : AllTemplates → Carry
  handed front = record { templates = front; due = numbered (due_in due) front; time = time }

  handed_more : (front : AllTemplates) (e : ℕ × DomainTemplates)
      → carry_with (handed front) (record {
        octets = prefix_message time (due_in due e.0) e;
        message =
            prefix_read time (due_in due e.0) e;
        after = front ++ e ∷ [];
      }) ≡ handed (front ++ e ∷ [])
  handed_more front e =
      let f : ℕ → ℕ = λ k. cond (nat_eq k e.0) ((due_in due e.0 + 0) % 2 ^ 32)
      (due_in (numbered (due_in due) front) k) in
      let fits = due_fits due e.0 n in
      let small : (due_in due e.0 + 0) % 2 ^ 32 ≡ due_in due e.0 = omega (arith, fits) in
      let last : f e.0 ≡ due_in due e.0 = rw (same e.0) small in
      let each = all_imp (λ x. due_in (numbered (due_in due) front) x.0 ≡ due_in due x.0)
      (λ x. f x.0 ≡ due_in due x.0) front (λ x h. elim (by_bool (nat_eq x.0 e.0)) [
        | inl w ↦ rw w (small ∙ ap (due_in due) (sym (eqb-true _ _ w)))
        | inr w ↦ rw w h
      ]) (numbered_here (due_in due) front) in
      let numbers : numbered f (front ++ e ∷ []) ≡ numbered (due_in due) (front ++ e ∷ []) =
      numbered_same f (due_in due) (front ++ e ∷ []) (all_then (λ x. f x.0 ≡ due_in due x.0) front e each last) in
      ap (λ (ns : List (ℕ × ℕ)). made (front ++ e ∷ []) ns) numbers
    where
      made : AllTemplates → List (ℕ × ℕ) → Carry
      made all ns = record { templates = all; due = ns; time = time }

  handed_all : (front es : AllTemplates)
      → carry_from (handed front) (restated_from time due front es) ≡ handed (front ++ es)
  handed_all front [] = ap handed (sym (append-nil front))
  handed_all front (e ∷ es) =
      ap (λ (c : Carry). carry_from c (restated_from time due (front ++ e ∷ []) es)) (handed_more front e)
      ∙ handed_all (front ++ e ∷ []) es ∙ ap handed (append_assoc front (e ∷ []) es)

pub is_read_back : (c : Carry) → IsCarry c → IsReadBack c (restated c)
is_read_back c h = record {
  octets = restated_octets c.time c.due h.time h.numbers [] c.templates;
  accepted = restated_accepted c.time c.due h.time h.numbers [] c.templates tt (h.templates).once
      (h.templates).domains h.domains (h.templates).count;
  none = restated_none c.time c.due h.time h.numbers [] c.templates;
  templates = restated_templates c.time c.due h.time h.numbers [] c.templates;
  again = handed_all c.time c.due h.time h.numbers [] c.templates
      ∙ ap (λ (ns : List (ℕ × ℕ)). made ns) (sym (key_of c.due c.templates (h.templates).once h.due));
}
  where
    made : List (ℕ × ℕ) → Carry
    made ns = record { templates = c.templates; due = ns; time = c.time }

-- ---- a segment alone

carry_then : (c : Carry) (xs ys : List Accepted) → carry_from c (xs ++ ys) ≡ carry_from (carry_from c xs) ys
carry_then c [] ys = refl
carry_then c (x ∷ xs) ys = carry_then (carry_with c x) xs ys

any_time : (s t : ℕ) (xs : List Accepted) (a : Accepted) (more : List Accepted)
    → carry_from (no_carry s) (xs ++ a ∷ more) ≡ carry_from (no_carry t) (xs ++ a ∷ more)
any_time s t [] a more = refl
any_time s t (x ∷ xs) a more = refl

pub known_alone : (c : Carry) (time : ℕ) (a : Accepted) (more : List Accepted) → IsCarry c
    → carry_from (no_carry time) (restated c ++ a ∷ more) ≡ carry_from c (a ∷ more)
known_alone c time a more h =
    any_time time c.time (restated c) a more ∙ carry_then (no_carry c.time) (restated c) (a ∷ more)
    ∙ ap (λ (x : Carry). carry_from x (a ∷ more)) (is_read_back c h).again

-- ---- a File of accepted messages

are_messages : (before : AllTemplates) (xs : List Accepted) → AreAcceptedFrom before xs
    → AreMessages before (octets_of xs) (map (λ a. a.message) xs) (templates_from before xs)
are_messages before [] h = refl
are_messages before (x ∷ xs) h =
    (x.after, message_cut x.octets before x.message x.after h.0.0, h.0.0, are_messages x.after xs h.1)

pub is_file : (xs : List Accepted) → AreAcceptedFrom [] xs
    → IsFile (joined (octets_of xs)) (map (λ a. a.message) xs) (templates_from [] xs)
is_file xs h = record { parts = octets_of xs; whole = refl; each = are_messages [] xs h }

accepted_then : (before : AllTemplates) (xs ys : List Accepted) → AreAcceptedFrom before xs
    → AreAcceptedFrom (templates_from before xs) ys → AreAcceptedFrom before (xs ++ ys)
accepted_then before [] ys h k = k
accepted_then before (x ∷ xs) ys h k = (h.0, accepted_then x.after xs ys h.1 k)

templates_then : (before : AllTemplates) (xs ys : List Accepted)
    → templates_from before (xs ++ ys) ≡ templates_from (templates_from before xs) ys
templates_then before [] ys = refl
templates_then before (x ∷ xs) ys = templates_then x.after xs ys

pub segment_file : (c : Carry) (messages : List Accepted) → IsCarry c → AreAcceptedFrom c.templates messages
    → IsFile (segment_octets c messages) (map (λ a. a.message) (restated c ++ messages))
    (templates_from c.templates messages)
segment_file c messages h is =
    let back = is_read_back c h in
    let here : templates_from [] (restated c) ≡ c.templates = back.templates in
    let all = accepted_then [] (restated c) messages back.accepted
    (subst (λ (t : AllTemplates). AreAcceptedFrom t messages) (sym here) is) in
    let after : templates_from [] (restated c ++ messages) ≡ templates_from c.templates messages =
    templates_then [] (restated c) messages ∙ ap (λ (t : AllTemplates). templates_from t messages) here in
    let whole : joined (octets_of (restated c ++ messages)) ≡ segment_octets c messages =
    ap joined (map-append (λ (a : Accepted). a.octets) (restated c) messages)
    ∙ flat_map-append (λ (r : List ℕ). r) (octets_of (restated c)) (octets_of messages)
    ∙ ap (λ (rs : List (List ℕ)). joined rs ++ joined (octets_of messages)) back.octets in
    record {
      parts = octets_of (restated c ++ messages);
      whole = sym whole;
      each =
          subst (AreMessages [] (octets_of (restated c ++ messages)) (map (λ a. a.message) (restated c ++ messages)))
          after (are_messages [] (restated c ++ messages) all);
    }

-- ---- one message more, as it is kept

numbered_found : (f : ℕ → ℕ) (all : AllTemplates) (k : ℕ) (v : DomainTemplates) → found k all ≡ Some v
    → due_in (numbered f all) k ≡ f k
numbered_found f [] k v e = absurd cc
numbered_found f (x ∷ xs) k v e = elim (by_bool (nat_eq k x.0)) [
  | inl w ↦ rw w (ap f (sym (eqb-true _ _ w)))
  | inr w ↦ let h = rw w at e in rw w (numbered_found f xs k v h)
]

pub put_next : (domain number : ℕ) (after : AllTemplates) (old new : List (ℕ × ℕ))
    → new ≡ with_entry old domain number → AreNext domain number after old new
put_next domain number after old new e = record {
  own = λ v there. ap (λ (t : List (ℕ × ℕ)). due_in t domain) e ∙ rw (lookup-insert domain old number) refl;
  others = λ q apart. ap (λ (t : List (ℕ × ℕ)). due_in t q) e ∙ rw (found-insert-other domain q old number apart) refl;
}

pub drop_next : (domain number : ℕ) (after : AllTemplates) (old new : List (ℕ × ℕ)) → found domain after ≡ None
    → new ≡ without domain old → AreNext domain number after old new
drop_next domain number after old new none e = record {
  own = λ v there. absurd (gone v (sym none ∙ there));
  others = λ q apart. ap (λ (t : List (ℕ × ℕ)). due_in t q) e ∙ rw (found-remove-other domain q old apart) refl;
}
  where
    gone : (v : DomainTemplates) → None ≡ Some v → ⊥
    gone v e = cc

pub taken : (octets : List ℕ) (before after : AllTemplates) (m : RawMessage) (old new : List (ℕ × ℕ)) (time : ℕ)
    → AreTemplatesInForce before → IsAccepted octets before m after
    → AreNext m.header.domain (due_after m) after old new
    → kept_as after new m.header.time ≡ carry_with (kept_as before old time) (record {
      octets = octets;
      message =
          m;
      after = after;
    })
taken octets before after m old new time force is next =
    ap (λ (ns : List (ℕ × ℕ)). made ns)
    (numbered_same (due_in new) f after
    (all_imp Both (λ e. due_in new e.0 ≡ f e.0) after one (both (λ e. found e.0 after ≡ Some e.1) (λ e. e.0 ≢ d
    → found e.0 before ≡ Some e.1) after (found_own after there.once) (stayed octets before after m there is.0))))
  where
    made : List (ℕ × ℕ) → Carry
    made ns = record { templates = after; due = ns; time = m.header.time }

    d : ℕ
    d = m.header.domain

    there : AreTemplatesInForce after
    there = in_force before octets m after force is

    f : ℕ → ℕ
    f k = cond (nat_eq k d) (due_after m) (due_in (numbered (due_in old) before) k)

    Both : ℕ × DomainTemplates → Type 0
    Both e = (found e.0 after ≡ Some e.1) × (e.0 ≢ d → found e.0 before ≡ Some e.1)

    one : (e : ℕ × DomainTemplates) → Both e → due_in new e.0 ≡ f e.0
    one e t = elim (by_bool (nat_eq e.0 d)) [
      | inl w ↦
          let key : e.0 ≡ d = eqb-true _ _ w in
          rw w (ap (due_in new) key ∙ next.own e.1 (subst (λ (k : ℕ). found k after ≡ Some e.1) key t.0))
      | inr w ↦ rw w (next.others e.0 w ∙ sym (numbered_found (due_in old) before e.0 e.1 (t.1 (eqb-false _ _ w))))
    ]

-- ---- the number after a message

pub counted : (sequence records : ℕ) (header : Header) (raws : List RawRecord)
    → records % 2 ^ 32 ≡ (0 + length (under header raws)) % 2 ^ 32
    → (sequence + records) % 2 ^ 32 ≡ (sequence + length raws) % 2 ^ 32
counted sequence records header raws e =
    let same_length : length (under header raws) ≡ length raws = length-map raws (λ (r : RawRecord). (header, r)) in
    added sequence records (length raws) (e ∙ ap (λ (n : ℕ). (0 + n) % 2 ^ 32) same_length)
  where
    added : (s a b : ℕ) → a % 2 ^ 32 ≡ (0 + b) % 2 ^ 32 → (s + a) % 2 ^ 32 ≡ (s + b) % 2 ^ 32
    added s a b e = omega (arith, e)

pub if_ok : {X E : Type 0} (r : Result X E) (P Q : X → Type 0) → ((x : X) → P x → Q x) → IfOk r P → IfOk r Q
if_ok (Ok x) P Q f h = f x h
if_ok (Err e) P Q f h = tt

pub err_of : {X E : Type 0} (r : Result X E) (e : E) (P : E → Type 0) → IsErrAnd r (λ x. x ≡ e) → P e → IfErr r P
err_of (Ok x) e P h p = tt
err_of (Err x) e P h p = subst P (sym h) p

-- what a call that takes a message in has made of a carry
pub taken_in : (octets : List ℕ) (old : Carry) (before after : AllTemplates) (due ready new : List (ℕ × ℕ)) (time : ℕ)
    (header : Header) (count : ℕ) → IsCarry (kept_as before due time) → kept_as before due time ≡ old → ready ≡ due
    → IsCounted octets before after header count
    → AreNext header.domain ((header.sequence + count) % 2 ^ 32) after ready new
    → IsCarry (kept_as after new header.time) × IsTaken octets old (kept_as after new header.time)
taken_in octets old before after due ready new time header count is view same_due found next =
    let m : RawMessage = record { header = header; records = found.0 } in
    let a : Accepted = record { octets = octets; message = m; after = after } in
    let number : (header.sequence + count) % 2 ^ 32 ≡ due_after m = found.2 header.sequence in
    let own : AreNext header.domain (due_after m) after due new =
    subst (λ (n : ℕ). AreNext header.domain n after due new) number
    (subst (λ (d : List (ℕ × ℕ)). AreNext header.domain ((header.sequence + count) % 2 ^ 32) after d new) same_due
    next) in
    let step : kept_as after new header.time ≡ carry_with (kept_as before due time) a =
    taken octets before after m due new time (is.templates) found.1 own in
    let accepted : IsAccepted octets old.templates m after =
    subst (λ (x : Carry). IsAccepted octets x.templates m after) view found.1 in (
      subst IsCarry (sym step) (carries (kept_as before due time) a is found.1),
      (a, refl, accepted, step ∙ ap (λ (x : Carry). carry_with x a) view),
    )

-- An accepted message is the one that was taken in.
pub taken_only : (octets : List ℕ) (old new : Carry) (a : Accepted) → IsTaken octets old new
    → IsAccepted octets old.templates a.message a.after → a.octets ≡ octets → new ≡ carry_with old a
taken_only octets old new a taken is own =
    let b = taken.0 in
    let message : b.message ≡ a.message =
    one_message old.templates octets b.message a.message b.after a.after taken.2 is in
    let after : b.after ≡ a.after = one_state old.templates octets b.message a.message b.after a.after taken.2 is in
    taken.3 ∙ rw (message, after) refl

-- and whether it has data records
pub taken_as : (octets : List ℕ) (old : Carry) (before after : AllTemplates) (due ready new : List (ℕ × ℕ)) (time : ℕ)
    (header : Header) (count : ℕ) (bare : Bool) → IsCarry (kept_as before due time) → kept_as before due time ≡ old
    → ready ≡ due → IsCounted octets before after header count
    → AreNext header.domain ((header.sequence + count) % 2 ^ 32) after ready new
    → count < 2 ^ 32 → bare ≡ nat_eq count 0
    → IsTakenAs bare octets old (kept_as after new header.time)
taken_as octets old before after due ready new time header count bare is view same_due found next small flag =
    let taken = (taken_in octets old before after due ready new time header count is view same_due found next).1 in
    let a = taken.0 in
    let m : RawMessage = record { header = header; records = found.0 } in
    let accepted : IsAccepted octets old.templates m after =
    subst (λ (x : Carry). IsAccepted octets x.templates m after) view found.1 in
    let same : a.message ≡ m = one_message old.templates octets a.message m a.after after taken.2 accepted in
    let few = few_records octets before m after found.1.0 in
    let short = (short_enough octets before m after found.1.0).1 in
    let number : count ≡ length a.message.records =
    omega (arith, found.2 0, few, short, ap (λ (x : RawMessage). length x.records) same) in
    as_counted bare count a taken.1 taken.2 taken.3 number flag
  where
    none_left : (xs : List RawRecord) → 0 ≡ length xs → xs ≡ []
    none_left [] is = refl
    none_left (x ∷ xs) is = absurd (omega (arith, is))

    as_counted : (bare : Bool) (count : ℕ) (a : Accepted) → a.octets ≡ octets
        → IsAccepted octets old.templates a.message a.after → kept_as after new header.time ≡ carry_with old a
        → count ≡ length a.message.records → bare ≡ nat_eq count 0
        → IsTakenAs bare octets old (kept_as after new header.time)
    as_counted true count a own accepted with number flag =
        (a, own, accepted, with, none_left a.message.records (sym (eqb-true _ _ (sym flag)) ∙ number))
    as_counted false count a own accepted with number flag = (
      a,
      own,
      accepted,
      with,
      λ none. eqb-false _ _ (sym flag) (number
          ∙ ap (λ (xs : List RawRecord). length xs) none),
    )

pub was_taken : (bare : Bool) (octets : List ℕ) (old new : Carry) → IsTakenAs bare octets old new
    → IsTaken octets old new
was_taken true octets old new taken = (taken.0, taken.1, taken.2, taken.3)
was_taken false octets old new taken = (taken.0, taken.1, taken.2, taken.3)
