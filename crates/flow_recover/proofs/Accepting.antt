-- Messages that are read one after the other.
use Rattle.std.proofs.Common.{◌≡◌, ◌⊎◌, inl, inr, ⊎_elim, ℕ, ◌+◌, ◌<◌, ◌≤◌, Bool, true, false, List}
use Rattle.std.proofs.Common.{[], ◌∷◌, ◌++◌, length, take, drop, refl, sym, ◌∙◌, ap, subst, arith, append_assoc}
use Rattle.std.proofs.Common.{Vec, get_or, zero, suc, Option}
use Rattle.std.specs.declared.alloc.Global.{Global}
use Rattle.std.proofs.lemmas.List.{drop-drop, length-append, length-drop, length-take-le}
use Rattle.std.proofs.lemmas.List.{take-append-drop}
use Rattle.flow_codec.specs.Cutting.{IsCutOff}
use Rattle.flow_codec.specs.Message.{joined, IsAccepted}
use Rattle.flow_codec.specs.Raw.{RawMessage}
use Rattle.flow_codec.specs.Templates.{AllTemplates}
use Rattle.flow_codec.proofs.Dividing.{one_message}
use Rattle.flow_codec.proofs.FaultLaws as accepted
use Rattle.flow_measure.specs.declared.span.PartSpan.{PartSpan}
use Rattle.flow_measure.specs.History.{Accepted, AreAcceptedFrom, templates_from}
use Rattle.flow_segment.specs.Carry.{Carry, carry_from, carry_with, octets_of}
use Rattle.flow_segment.specs.Prefix.{AreRead}
use Rattle.flow_segment.specs.Carry.{IsTakenAs, no_carry}
use Rattle.flow_segment.specs.Spans.{all_noted, noted}
use Rattle.flow_segment.proofs.NotingStarts.{all_then}
use Rattle.flow_segment.proofs.Restating.{one_more, Behind}
use Rattle.flow_gate.specs.Scan.{texts}
use Rattle.flow_recover.specs.declared.segments.Section.{Section}
use Rattle.flow_recover.specs.declared.segments.Section.TheVariants.{Prefix, Messages}
use Rattle.flow_recover.specs.Reading.{is_misplaced, AreOf, IsOf, IsRestatement}

-- the next message of other messages that fill the same octets
pub record IsNextOf (section : Section) (now : AllTemplates) (rest : List ℕ) : Type 0 where
  pub message : Accepted
  pub more : List ℕ
  pub cut : IsCutOff message.octets
  pub parts : rest ≡ message.octets ++ more
  pub accepted : IsAccepted message.octets now message.message message.after
  pub kind : IsOf section message

-- Messages that fill octets go on where others of them end.
pub next_of : (section : Section) (octets rest : List ℕ) (before : AllTemplates) (ms others : List Accepted)
    → AreRead octets before ms rest → AreRead octets before others [] → AreOf section others
    → (rest ≡ []) ⊎ IsNextOf section (templates_from before ms) rest
next_of section octets rest before [] [] read other kind = inl (sym read.divided.whole ∙ other.divided.whole)
next_of section octets rest before [] (a ∷ others) read other kind = inr (record {
  message = a;
  more = joined (octets_of others) ++ [];
  cut = other.divided.each.0;
  parts = sym read.divided.whole ∙ other.divided.whole ∙ append_assoc a.octets (joined (octets_of others)) [];
  accepted = other.accepted.0;
  kind = kind.0;
})
next_of section octets rest before (m ∷ ms) [] read other kind =
    let cut : IsCutOff m.octets = read.divided.each.0 in
    let none : length (m.octets ++ (joined (octets_of ms) ++ rest)) ≡ 0 = ap (λ (l : List ℕ). length l) (sym
    (append_assoc m.octets (joined (octets_of ms)) rest) ∙ sym read.divided.whole ∙ other.divided.whole) in
    absurd (omega (arith, none, cut.long, length-append m.octets (joined (octets_of ms) ++ rest)))
next_of section octets rest before (m ∷ ms) (a ∷ others) read other kind =
    let whole : m.octets ++ (joined (octets_of ms) ++ rest) ≡ a.octets ++ (joined (octets_of others) ++ []) =
    sym (append_assoc m.octets (joined (octets_of ms)) rest) ∙ sym read.divided.whole ∙ other.divided.whole
    ∙ append_assoc a.octets (joined (octets_of others)) [] in
    let heads = one_message m.octets a.octets (joined (octets_of ms) ++ rest) (joined
    (octets_of others) ++ []) read.divided.each.0 other.divided.each.0 whole in
    let there : IsAccepted m.octets before a.message a.after = subst (λ
    (l : List ℕ). IsAccepted l before a.message a.after) (sym heads.0) other.accepted.0 in
    let after : m.after ≡ a.after = accepted.one_state before m.octets m.message a.message m.after a.after
    read.accepted.0 there in
    next_of section (joined (octets_of ms) ++ rest) rest m.after ms others
    (record { divided = record { whole = refl; each = read.divided.each.1 }; accepted = read.accepted.1 })
    (record {
      divided = record { whole = heads.1; each = other.divided.each.1 };
      accepted = subst (λ
          (ts : AllTemplates). AreAcceptedFrom ts others) (sym after) other.accepted.1;
    })
    kind.1

-- ---- one message more

pub carry_push : (c : Carry) (ms : List Accepted) (a : Accepted) → carry_from c (ms ++ a ∷ []) ≡ carry_with
    (carry_from c ms) a
carry_push c [] a = refl
carry_push c (m ∷ ms) a = carry_push (carry_with c m) ms a

pub carry_join : (c : Carry) (ms more : List Accepted) → carry_from c (ms ++ more) ≡ carry_from (carry_from c ms) more
carry_join c [] more = refl
carry_join c (m ∷ ms) more = carry_join (carry_with c m) ms more

pub carry_templates : (c : Carry) (ms : List Accepted) → (carry_from c ms).templates ≡ templates_from c.templates ms
carry_templates c [] = refl
carry_templates c (m ∷ ms) = carry_templates (carry_with c m) ms

pub of_push : (section : Section) (ms : List Accepted) (a : Accepted) → AreOf section ms → IsOf section a
    → AreOf section (ms ++ a ∷ [])
of_push section [] a all is = (is, tt)
of_push section (m ∷ ms) a all is = (all.0, of_push section ms a all.1 is)

pub misplaced_none : (section : Section) (bare : Bool) (octets : List ℕ) (old new : Carry)
    → is_misplaced section bare ≡ true → IsTakenAs bare octets old new
    → (a : Accepted) → IsAccepted octets old.templates a.message a.after → IsOf section a → ⊥
misplaced_none Prefix true octets old new placed taken a is kind = absurd (cc)
misplaced_none Prefix false octets old new placed taken a is kind =
    let b = taken.0 in
    let same : b.message ≡ a.message = accepted.one_message old.templates octets b.message a.message b.after a.after
    taken.2 is in
    taken.4 (ap (λ (m : RawMessage). m.records) same ∙ kind)
misplaced_none Messages bare octets old new placed taken a is kind = absurd (cc)

-- ---- messages that are read so far

pub record IsSoFar (section : Section) (old now : Carry) (count : ℕ) (start span : Option PartSpan)
    (messages : List Accepted) : Type 0 where
  pub kind : AreOf section messages
  pub carry : now ≡ carry_from old messages
  pub count_is : length messages ≡ count
  pub noted : span ≡ all_noted messages start

of_same : (section : Section) (a x : Accepted) → a.message ≡ x.message → IsOf section a → IsOf section x
of_same Prefix a x is kind = ap (λ (m : RawMessage). m.records) (sym is) ∙ kind
of_same Messages a x is kind = tt

pub restated_all : (count : ℕ) (octets : List ℕ) (start carry : Carry) → start ≡ no_carry 0
    → (ms : List Accepted) × AreRead octets start.templates ms [] × AreOf Prefix ms ×
    (carry ≡ carry_from start ms) × (length ms ≡ count)
    → IsRestatement octets carry
restated_all count octets start carry is found = (
  found.0,
  subst (λ (k : Carry). AreRead octets k.templates found.0 []) is found.1,
  found.2,
  found.3 ∙ ap (λ (k : Carry). carry_from k found.0) is,
)

pub any_messages : (ms : List Accepted) → AreOf Messages ms
any_messages [] = tt
any_messages (m ∷ ms) = (tt, any_messages ms)

-- ---- octets in memory that are read as far as a place

abbrev pub AreOctetsRead : Section → List ℕ → Carry → Carry → Option PartSpan → Option PartSpan → ℕ → ℕ → Type 0
AreOctetsRead section octets old now start span count at =
    Behind (IsSoFar section old now count start span) octets 0 old.templates now.templates at (drop at octets)

-- the message at the place is one more
pub octets_more : (section : Section) (octets : List ℕ) (old now new : Carry) (start span noted_span : Option PartSpan)
    (count at n : ℕ)
    → AreOctetsRead section octets old now start span count at → n ≤ length (drop at octets)
    → IsCutOff (take n (drop at octets))
    → (a : Accepted) × (a.octets ≡ take n (drop at octets))
    × IsAccepted (take n (drop at octets)) now.templates a.message a.after × IsOf section a × (new ≡ carry_with now a)
    × (noted_span ≡ noted a.message span)
    → AreOctetsRead section octets old new start noted_span (count + 1) (at + n)
octets_more section octets old now new start span noted_span count at n was fits cut taken =
    let a = taken.0 in
    let one = take n (drop at octets) in
    let x : Accepted = record { octets = one; message = a.message; after = a.after } in
    let carried : new ≡ carry_from old (was.messages ++ x ∷ []) = taken.4 ∙ ap (λ
    (k : Carry). carry_with k a) was.kind.carry ∙ sym (carry_push old was.messages x) in
    let next_kind : IsSoFar section old new (count + 1) start noted_span (was.messages ++ x ∷ []) = record {
      kind = of_push section was.messages x was.kind.kind (of_same section a x refl taken.3);
      carry = carried;
      count_is = omega (arith, length-append was.messages (x ∷ []), was.kind.count_is);
      noted = taken.5 ∙ ap (noted x.message) was.kind.noted ∙ all_then was.messages x start;
    } in
    let there : new.templates ≡ a.after = ap (λ (k : Carry). k.templates) taken.4 in
    let long : length one ≡ n = length-take-le n (drop at octets) fits in
    let split : drop at octets ≡ one ++ drop (at + n) octets =
    sym (take-append-drop n (drop at octets)) ∙ ap (λ (l : List ℕ). one ++ l) (drop-drop n at octets) in
    subst (λ (ts : AllTemplates). Behind (IsSoFar section old new (count + 1) start noted_span)
    octets 0 old.templates ts (at + n) (drop (at + n) octets)) (sym there)
    (one_more (IsSoFar section old now count start span) (IsSoFar section old new (count + 1) start noted_span) octets 0
    old.templates now.templates a.after at (at + n) (drop at octets) (drop (at + n) octets) one a.message was cut split
    (omega (arith, long)) taken.2 next_kind)

-- what is read so far of octets, said of these and those that come after them
pub read_more : (octets later rest : List ℕ) (before : AllTemplates) (ms : List Accepted)
    → AreRead octets before ms rest → AreRead (octets ++ later) before ms (rest ++ later)
read_more octets later rest before ms read = record {
  divided = record {
    whole = ap (λ (l : List ℕ). l ++ later) read.divided.whole ∙ append_assoc (joined (octets_of ms)) rest later;
    each = read.divided.each;
  };
  accepted = read.accepted;
}

-- where other messages fill these octets and those after them, the one that is cut off there is the next of them
pub octets_refused : (section : Section) (octets later : List ℕ) (old now : Carry) (start span : Option PartSpan)
    (count at n : ℕ)
    (others : List Accepted) (P : Type 0) → AreOctetsRead section octets old now start span count at
    → at < length octets → n ≤ length (drop at octets) → IsCutOff (take n (drop at octets))
    → AreRead (octets ++ later) old.templates others [] → AreOf section others
    → ((a : Accepted) → IsAccepted (take n (drop at octets)) now.templates a.message a.after → IsOf section a → P) → P
octets_refused section octets later old now start span count at n others P was below fits cut other kind refused =
    ⊎_elim (λ none. absurd (omega (
      arith,
      below,
      length-drop at octets,
      ap (λ (l : List ℕ). length l) none,
      length-append (drop at octets) later,
    )))
    (λ there.
    let one = take n (drop at octets) in
    let heads = one_message one there.message.octets (drop n (drop at octets) ++ later) there.more cut there.cut
    (sym (append_assoc one (drop n (drop at octets)) later)
    ∙ ap (λ (l : List ℕ). l ++ later) (take-append-drop n (drop at octets)) ∙ there.parts) in
    refused there.message (subst (λ (ts : AllTemplates). IsAccepted one ts there.message.message there.message.after)
    (sym was.same) (subst (λ (l : List ℕ). IsAccepted l (templates_from old.templates was.messages)
    there.message.message there.message.after) (sym heads.0) there.accepted)) there.kind)
    (next_of section (octets ++ later) (drop at octets ++ later) old.templates was.messages others
    (read_more octets later (drop at octets) old.templates was.messages was.read) other kind)

-- ---- a list of messages

-- these octets are taken in
abbrev pub AreTakenIn : List (List ℕ) → Carry → Carry → Type 0
AreTakenIn octets old new = (all : List Accepted) × (octets_of all ≡ octets) × AreAcceptedFrom old.templates all
    × (new ≡ carry_from old all)

pub taken_more : (octets : List (List ℕ)) (one : List ℕ) (old now new : Carry) → AreTakenIn octets old now
    → (a : Accepted) × (a.octets ≡ one) × IsAccepted one now.templates a.message a.after × IsOf Messages a ×
    (new ≡ carry_with now a)
    → AreTakenIn (octets ++ one ∷ []) old new
taken_more octets one old now new was taken =
    let a = taken.0 in
    let before : now.templates ≡ templates_from old.templates was.0 =
    ap (λ (k : Carry). k.templates) was.3 ∙ carry_templates old was.0 in (
      was.0 ++ a ∷ [],
      octets_push was.0 a ∙ ap (λ (l : List (List ℕ)). l ++ a.octets ∷ []) was.1
          ∙ ap (λ (o : List ℕ). octets ++ o ∷ []) taken.1,
      accepted_push old.templates was.0 a was.2 (subst (λ (o : List ℕ). IsAccepted o
          (templates_from old.templates was.0) a.message a.after) (sym taken.1) (subst (λ
          (ts : AllTemplates). IsAccepted one ts a.message a.after) before taken.2)),
      taken.4 ∙ ap (λ (k : Carry). carry_with k a) was.3 ∙ sym (carry_push old was.0 a),
    )
  where
    octets_push : (xs : List Accepted) (a : Accepted) → octets_of (xs ++ a ∷ []) ≡ octets_of xs ++ a.octets ∷ []
    octets_push [] a = refl
    octets_push (x ∷ xs) a = ap (λ (l : List (List ℕ)). x.octets ∷ l) (octets_push xs a)

    accepted_push : (before : AllTemplates) (xs : List Accepted) (a : Accepted) → AreAcceptedFrom before xs
        → IsAccepted a.octets (templates_from before xs) a.message a.after → AreAcceptedFrom before (xs ++ a ∷ [])
    accepted_push before [] a all is = (is, tt)
    accepted_push before (x ∷ xs) a all is = (all.0, accepted_push x.after xs a all.1 is)

-- the next one of accepted messages
next_accepted : (before : AllTemplates) (ms others : List Accepted) (one : List ℕ) (rest : List (List ℕ))
    → AreAcceptedFrom before ms → AreAcceptedFrom before others → octets_of others ≡ octets_of ms ++ one ∷ rest
    → (a : Accepted) × IsAccepted one (templates_from before ms) a.message a.after
next_accepted before [] [] one rest all also is = absurd (cc)
next_accepted before [] (a ∷ others) one rest all also is =
    let same : a.octets ≡ one = cc in (a, subst (λ (o : List ℕ). IsAccepted o before a.message a.after) same also.0)
next_accepted before (m ∷ ms) [] one rest all also is = absurd (cc)
next_accepted before (m ∷ ms) (a ∷ others) one rest all also is =
    let same : a.octets ≡ m.octets = cc in
    let more : octets_of others ≡ octets_of ms ++ one ∷ rest = cc in
    let there : IsAccepted m.octets before a.message a.after = subst (λ
    (o : List ℕ). IsAccepted o before a.message a.after) same also.0 in
    let after : m.after ≡ a.after =
    accepted.one_state before m.octets m.message a.message m.after a.after all.0 there in
    next_accepted m.after ms others one rest all.1
    (subst (λ (ts : AllTemplates). AreAcceptedFrom ts others) (sym after) also.1) more

pub next_taken : (octets rest : List (List ℕ)) (one : List ℕ) (old now : Carry) (others : List Accepted)
    → AreTakenIn octets old now → octets_of others ≡ octets ++ one ∷ rest → AreAcceptedFrom old.templates others
    → (a : Accepted) × IsAccepted one now.templates a.message a.after
next_taken octets rest one old now others was is also =
    let next = next_accepted old.templates was.0 others one rest was.2 also (is ∙ ap (λ (l : List (List ℕ)).
    l ++ one ∷ rest) (sym was.1)) in
    let before : now.templates ≡ templates_from old.templates was.0 =
    ap (λ (k : Carry). k.templates) was.3 ∙ carry_templates old was.0 in (
      next.0,
      subst (λ (ts : AllTemplates). IsAccepted one ts next.0.message next.0.after) (sym before) next.1,
    )

-- a list by one of its messages
pub texts_at : (ms : List (Vec ℕ Global)) (i : ℕ) (v : Vec ℕ Global) → i < length ms → v ≡ get_or ms i v
    → texts ms ≡ texts (take i ms) ++ v.items ∷ texts (drop (suc i) ms)
texts_at [] i v lt is = absurd (omega (arith, lt))
texts_at (m ∷ ms) zero v lt is = ap (λ (x : Vec ℕ Global). x.items ∷ texts ms) (sym is)
texts_at (m ∷ ms) (suc i) v lt is = ap (λ (l : List (List ℕ)). m.items ∷ l) (texts_at ms i v (omega (arith, lt)) is)

pub texts_more : (ms : List (Vec ℕ Global)) (i : ℕ) (v : Vec ℕ Global) → i < length ms → v ≡ get_or ms i v
    → texts (take (suc i) ms) ≡ texts (take i ms) ++ v.items ∷ []
texts_more [] i v lt is = absurd (omega (arith, lt))
texts_more (m ∷ ms) zero v lt is = ap (λ (x : Vec ℕ Global). x.items ∷ []) (sym is)
texts_more (m ∷ ms) (suc i) v lt is = ap (λ (l : List (List ℕ)). m.items ∷ l) (texts_more ms i v (omega (arith, lt)) is)
