-- What reading gives is found again from the octets, where it can't be that there is nothing.
use Rattle.std.proofs.Common.{◌≡◌, ◌⊎◌, ℕ, zero, suc, ◌+◌, ◌<◌, Bool, true, false, List, [], ◌∷◌, ◌++◌, length, refl}
use Rattle.std.proofs.Common.{sym, ap, subst, ◌∙◌, inl, inr, append-nil, nat_eq, nat_lt, take, drop}
use Rattle.std.specs.Prelude.{slice_index_or}
use Rattle.std.specs.List.{AllByRecursion}
use Rattle.std.proofs.lemmas.List.{take-append-drop}
use Rattle.std.proofs.lemmas.Bool.{eqb-true, ltb-true, lt-ltb, eq-eqb}
use Rattle.flow_codec.specs.Cutting.{IsDivided, HasOneDivision}
use Rattle.flow_codec.specs.Fault.{IsAnswered, IsOctets}
use Rattle.flow_codec.specs.Message.{joined, IsAccepted}
use Rattle.flow_codec.specs.Raw.{RawMessage, RawRecord}
use Rattle.flow_codec.specs.Templates.{AllTemplates}
use Rattle.flow_codec.proofs.Dividing.{has_one_division}
use Rattle.flow_codec.proofs.FaultLaws.{answered, never_both, one_message, one_state}
use Rattle.flow_measure.specs.declared.span.PartSpan.{PartSpan}
use Rattle.flow_measure.specs.History.{Accepted, AreAcceptedFrom, flows_in, read_from, templates_from}
use Rattle.flow_measure.specs.Span.{span_of, starts_of}
use Rattle.flow_measure.proofs.Histories.{read_again}
use Rattle.flow_segment.specs.Carry.{octets_of}
use Rattle.flow_segment.specs.PartFlows.{ArePartMessages}
use Rattle.flow_segment.specs.Prefix.{AreRead, HaveNoRecords, IsRestated}
use Rattle.flow_segment.specs.Spans.{HasSpan, IsSure}
use Rattle.flow_segment.proofs.FlowsFit.{AreBytes, by_index, of_index, parted}

-- ---- numbers

less : (b : Bool) (n m : ℕ) → nat_lt n m ≡ b → IsSure (n < m) → n < m
less true n m is sure = ltb-true n m is
less false n m is sure = absurd (sure (λ lt. differ (sym is ∙ lt-ltb n m lt)))
  where
    differ : (let f : Bool = false in f ≡ true) → ⊥
    differ e = absurd cc

same : (b : Bool) (n m : ℕ) → nat_eq n m ≡ b → IsSure (n ≡ m) → n ≡ m
same true n m is sure = eqb-true n m is
same false n m is sure = absurd (sure (λ eq. differ (sym is ∙ eq-eqb n m eq)))
  where
    differ : (let f : Bool = false in f ≡ true) → ⊥
    differ e = absurd cc

are_octets : (octets : List ℕ) → IsSure (IsOctets octets) → IsOctets octets
are_octets octets sure i =
    less (nat_lt (slice_index_or octets i 0) 256) (slice_index_or octets i 0) 256 refl (λ no. sure (λ all. no (all i)))

-- ---- octets, numbers below 256

bytes_then : (xs ys : List ℕ) → AreBytes xs → AreBytes ys → AreBytes (xs ++ ys)
bytes_then [] ys h k = k
bytes_then (x ∷ xs) ys h k = (h.0, bytes_then xs ys h.1 k)

joined_bytes : (xs : List (List ℕ)) (x : List ℕ) → AreBytes (joined xs) → AreBytes x → AreBytes (joined (xs ++ x ∷ []))
joined_bytes [] x h k = bytes_then x [] k tt
joined_bytes (y ∷ ys) x h k =
    let parts = parted y (joined ys) h in
    bytes_then y (joined (ys ++ x ∷ [])) parts.0 (joined_bytes ys x parts.1 k)

-- those of one message more
pub joined_octets : (xs : List (List ℕ)) (x : List ℕ) → IsOctets (joined xs) → IsOctets x
    → IsOctets (joined (xs ++ x ∷ []))
joined_octets xs x h k =
    by_index (joined (xs ++ x ∷ [])) (joined_bytes xs x (of_index (joined xs) h) (of_index x k))

all_joined_bytes : (xs ys : List (List ℕ)) → AreBytes (joined xs) → AreBytes (joined ys)
    → AreBytes (joined (xs ++ ys))
all_joined_bytes [] ys h k = k
all_joined_bytes (x ∷ xs) ys h k =
    let parts = parted x (joined xs) h in
    bytes_then x (joined (xs ++ ys)) parts.0 (all_joined_bytes xs ys parts.1 k)

-- those of several messages more
pub all_joined_octets : (xs ys : List (List ℕ)) → IsOctets (joined xs) → IsOctets (joined ys)
    → IsOctets (joined (xs ++ ys))
all_joined_octets xs ys h k =
    by_index (joined (xs ++ ys)) (all_joined_bytes xs ys (of_index (joined xs) h) (of_index (joined ys) k))

pub no_octets : IsOctets (joined [])
no_octets = by_index [] tt

-- those before a place and from it on
pub both_octets : (n : ℕ) (xs : List ℕ) → IsOctets xs → IsOctets (take n xs) × IsOctets (drop n xs)
both_octets n xs h =
    let parts = parted (take n xs) (drop n xs) (subst AreBytes (sym (take-append-drop n xs)) (of_index xs h)) in
    (by_index (take n xs) parts.0, by_index (drop n xs) parts.1)

-- ---- octets that messages fill

abbrev Fills : List ℕ → Type 0
Fills octets = (parts : List (List ℕ)) × IsDivided octets parts []

filled : (octets : List ℕ) → IsSure (Fills octets) → Fills octets
filled octets sure =
    let one = has_one_division octets in
    elim one.last [
      | inl none ↦ (one.parts, subst (λ (rest : List ℕ). IsDivided octets one.parts rest) none one.divided)
      | inr f ↦ absurd (sure (λ whole. one.no_fault f.0 (sym (one.alone whole.0 [] whole.1 (inl refl)).1) f.1))
    ]

-- those that fill them are no others
one_filling : (octets : List ℕ) (parts others : List (List ℕ)) → IsDivided octets parts [] → IsDivided octets others []
    → others ≡ parts
one_filling octets parts others h k =
    let one = has_one_division octets in
    (one.alone others [] k (inl refl)).0 ∙ sym (one.alone parts [] h (inl refl)).0

-- ---- messages that are accepted

abbrev Reads : AllTemplates → List (List ℕ) → Type 0
Reads before parts = (list : List Accepted) × (octets_of list ≡ parts) × AreAcceptedFrom before list

-- Where the first of them is this one, the others are read after it.
others_read : (before after : AllTemplates) (o : List ℕ) (m : RawMessage) (parts : List (List ℕ))
    → IsAccepted o before m after → Reads before (o ∷ parts) → Reads after parts
others_read before after o m parts is ([], same, all) = absurd cc
others_read before after o m parts is (a ∷ list, same, all) =
    let head : a.octets ≡ o = cc in
    let tail : octets_of list ≡ parts = cc in
    let own = subst (λ (l : List ℕ). IsAccepted l before a.message a.after) head all.0 in (
      list,
      tail,
      subst (λ (t : AllTemplates). AreAcceptedFrom t list)
          (one_state before o a.message m a.after after own is) all.1,
    )

first_read : (before : AllTemplates) (o : List ℕ) (parts : List (List ℕ)) → Reads before (o ∷ parts)
    → (m : RawMessage) × (after : AllTemplates) × IsAccepted o before m after
first_read before o parts ([], same, all) = absurd cc
first_read before o parts (a ∷ list, same, all) =
    let head : a.octets ≡ o = cc in
    (a.message, a.after, subst (λ (l : List ℕ). IsAccepted l before a.message a.after) head all.0)

read_all : (before : AllTemplates) (parts : List (List ℕ)) → AreBytes (joined parts)
    → IsSure (Reads before parts) → Reads before parts
read_all before [] bytes sure = ([], refl, tt)
read_all before (o ∷ parts) bytes sure =
    let own = by_index o (parted o (joined parts) bytes).0 in
    elim (answered before o own) [
      | inl a ↦
          (let more = read_all a.1 parts (parted o (joined parts) bytes).1
          (λ no. sure (λ read. no (others_read before a.1 o a.0 parts a.2 read))) in (
            record { octets = o; message = a.0; after = a.1 } ∷ more.0,
            ap (λ (l : List (List ℕ)). o ∷ l) more.1,
            (a.2, more.2),
          ))
      | inr f ↦ absurd (sure (λ read. let x = first_read before o parts read in
          never_both before o x.0 x.1 f.0 own x.2 f.1))
    ]

one_reading : (before : AllTemplates) (list others : List Accepted) → octets_of list ≡ octets_of others
    → AreAcceptedFrom before list → AreAcceptedFrom before others → list ≡ others
one_reading before list others is h k =
    sym (read_again before list h) ∙ ap (read_from before) is ∙ read_again before others k

-- ---- messages that fill octets

abbrev IsWhole : List ℕ → AllTemplates → Type 0
IsWhole octets before = (list : List Accepted) × AreRead octets before list []

whole : (octets : List ℕ) (before : AllTemplates) → IsOctets octets → IsSure (IsWhole octets before)
    → IsWhole octets before
whole octets before own sure =
    let parts = filled octets (λ no. sure (λ w. no (octets_of w.0, w.1.divided))) in
    let joins : octets ≡ joined parts.0 = parts.1.whole ∙ append-nil (joined parts.0) in
    let bytes = of_index (joined parts.0) (subst IsOctets joins own) in
    let list = read_all before parts.0 bytes (λ no. sure (λ w. no (
      w.0,
      one_filling octets parts.0 (octets_of w.0) parts.1 w.1.divided,
      w.1.accepted,
    ))) in (
      list.0,
      record {
        divided = subst (λ (l : List (List ℕ)). IsDivided octets l []) (sym list.1) parts.1;
        accepted = list.2;
      },
    )

one_whole : (octets : List ℕ) (before : AllTemplates) (list others : List Accepted) → AreRead octets before list []
    → AreRead octets before others [] → others ≡ list
one_whole octets before list others h k =
    one_reading before others list (one_filling octets (octets_of list) (octets_of others) h.divided k.divided)
    k.accepted h.accepted

-- ---- a prefix

without : (list : List Accepted) → IsSure (HaveNoRecords list) → HaveNoRecords list
without [] sure = tt
without (a ∷ list) sure = (
  none a.message.records (λ no. sure (λ all. no all.0)),
  without list (λ no. sure (λ all. no all.1)),
)
  where
    none : (records : List RawRecord) → IsSure (records ≡ []) → records ≡ []
    none [] s = refl
    none (r ∷ records) s = absurd (s (λ is. absurd cc))

abbrev HasPrefix : List ℕ → Type 0
HasPrefix octets = (list : List Accepted) × AreRead octets [] list [] × HaveNoRecords list

prefix : (octets : List ℕ) → IsOctets octets → IsSure ((before : AllTemplates) × IsRestated octets before)
    → HasPrefix octets
prefix octets own sure =
    let list = whole octets [] own (λ no. sure (λ p. no (p.1.0, p.1.1))) in (
      list.0,
      list.1,
      without list.0 (λ no. sure (λ p. no
          (subst HaveNoRecords (one_whole octets [] list.0 p.1.0 list.1 p.1.1) p.1.2))),
    )

-- ---- a segment

module _ (span : PartSpan) (front octets : List ℕ) (count : ℕ) (sure : IsSure (HasSpan span front octets count)) where
  pub found_again : HasSpan span front octets count
  found_again =
      let own = are_octets octets (λ no. sure (λ h. no h.own)) in
      let first = are_octets front (λ no. sure (λ h. no h.front)) in
      let list = prefix front first (λ no. sure (λ h. no (h.before, h.restated))) in
      let before = templates_from [] list.0 in
      let there : (h : HasSpan span front octets count) → h.before ≡ before = λ h.
      h.restated.3 ∙ ap (templates_from []) (one_whole front [] list.0 h.restated.0 list.1 h.restated.1) in
      let messages = whole octets before own (λ no. sure (λ h. no (
        h.messages,
        subst (λ (t : AllTemplates). AreRead octets t h.messages []) (there h) h.read.read,
      ))) in
      let these : (h : HasSpan span front octets count) → h.messages ≡ messages.0 = λ h.
      one_whole octets before messages.0 h.messages messages.1
      (subst (λ (t : AllTemplates). AreRead octets t h.messages []) (there h) h.read.read) in
      let has = span_of (starts_of (flows_in messages.0)) in
      let is : (h : HasSpan span front octets count) → span ≡ has = λ h.
      h.is ∙ ap (λ (l : List Accepted). span_of (starts_of (flows_in l))) (these h) in
      let begins = same (nat_eq span.first has.first) span.first has.first refl
      (λ no. sure (λ h. no (ap (λ (s : PartSpan). s.first) (is h)))) in
      let ends = same (nat_eq span.last has.last) span.last has.last refl
      (λ no. sure (λ h. no (ap (λ (s : PartSpan). s.last) (is h)))) in
      let all = same (nat_eq (length messages.0) count) (length messages.0) count refl
      (λ no. sure (λ h. no (ap length (sym (these h)) ∙ h.read.all))) in record {
        front = first;
        own = own;
        before = before;
        messages = messages.0;
        restated = (list.0, list.1, list.2, refl);
        read = record { read = messages.1; all = all };
        is = λ i. record { first = begins i; last = ends i };
      }
