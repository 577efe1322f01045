-- Any octets have one accepted prefix: the messages that are accepted in turn, and what ends them.
use Rattle.std.proofs.Common.{◌≡◌, inl, inr, ℕ, ◌+◌, List, [], ◌∷◌, ◌++◌, length, refl, sym, ap, subst, ◌∙◌}
use Rattle.std.proofs.Common.{append_assoc, arith}
use Rattle.std.specs.List.{AllByRecursion}
use Rattle.std.proofs.lemmas.List.{length-append, take_at, drop_at}
use Rattle.flow_codec.specs.declared.error.MessageError.{MessageError}
use Rattle.flow_codec.specs.declared.file.FileError.{FileError}
use Rattle.flow_codec.specs.Raw.{RawMessage}
use Rattle.flow_codec.specs.Templates.{AllTemplates}
use Rattle.flow_codec.specs.Message.{joined, IsAccepted}
use Rattle.flow_codec.specs.Fault.{IsFault, IsAnswered}
use Rattle.flow_codec.specs.Cutting.{IsCutOff, IsFileFault, IsLast}
use Rattle.flow_codec.specs.File.{AreAccepted, Ending, whole, broken, refused, EndsIn, AcceptedFrom, HasOneFront}
use Rattle.flow_codec.proofs.NumberLaws.{IsBytes, IsBytes-take, IsBytes-drop}
use Rattle.flow_codec.proofs.FaultLaws.{answered, one_message as one_reading, one_state, one_fault as one_refusal}
use Rattle.flow_codec.proofs.FaultLaws.{never_both}
use Rattle.flow_codec.proofs.Dividing.{no_more, one_message, one_fault, none_has_no_fault, last_anywhere}
use Rattle.flow_codec.proofs.Dividing.{has_one_division}

-- a prefix of octets is octets, and so is the rest
front_bytes : (a b : List ℕ) → IsBytes (a ++ b) → IsBytes a
front_bytes a b fits =
    subst (λ (xs : List ℕ). IsBytes xs) (take_at a b (length a) refl) (IsBytes-take (length a) (a ++ b) fits)

rest_bytes : (a b : List ℕ) → IsBytes (a ++ b) → IsBytes b
rest_bytes a b fits =
    subst (λ (xs : List ℕ). IsBytes xs) (drop_at a b (length a) refl) (IsBytes-drop (length a) (a ++ b) fits)

-- ---- there is one

record Accepts (before : AllTemplates) (at : ℕ) (octets : List ℕ) : Type 0 where
  messages : List RawMessage
  after : AllTemplates
  ending : Ending
  found : AcceptedFrom before at octets messages after ending

accepts_none : (before : AllTemplates) (at : ℕ) (octets : List ℕ) (ending : Ending) → EndsIn before at octets ending
    → Accepts before at octets
accepts_none before at octets ending end = record {
  messages = [];
  after = before;
  ending = ending;
  found = record {
    parts = [];
    rest = octets;
    divided = refl;
    accepted = refl;
    end =
        subst (λ (n : ℕ). EndsIn before n octets ending) (omega arith) end;
  };
}

accepts_more : (before next : AllTemplates) (at : ℕ) (part more : List ℕ) (m : RawMessage) → IsCutOff part
    → IsAccepted part before m next → Accepts next (at + length part) more → Accepts before at (part ++ more)
accepts_more before next at part more m cut accepted others =
    let found = others.found in
    let size : length (part ++ joined found.parts) ≡ length part + length (joined found.parts) =
    length-append part (joined found.parts) in
    let place : (at + length part) + length (joined found.parts) ≡ at + length (part ++ joined found.parts) =
    omega arith in
    record {
      messages = m ∷ others.messages;
      after = others.after;
      ending = others.ending;
      found = record {
        parts = part ∷ found.parts;
        rest = found.rest;
        divided = ap (λ (xs : List ℕ). part ++ xs) found.divided
            ∙ sym (append_assoc part (joined found.parts) found.rest);
        accepted = (next, cut, accepted, found.accepted);
        end = subst (λ (n : ℕ). EndsIn others.after n found.rest others.ending) place found.end;
      };
    }

accepts : (before : AllTemplates) (at : ℕ) (parts : List (List ℕ)) (rest : List ℕ) → AllByRecursion IsCutOff parts
    → IsBytes (joined parts ++ rest) → IsLast (at + length (joined parts)) rest
    → Accepts before at (joined parts ++ rest)
accepts before at [] rest each fits (inl none) = accepts_none before at rest whole none
accepts before at [] rest each fits (inr (fault, bad)) =
    accepts_none before at rest (broken fault) (subst (λ (n : ℕ). IsFileFault n rest fault) (omega arith) bad)
accepts before at (p ∷ ps) rest each fits last =
    let same : (p ++ joined ps) ++ rest ≡ p ++ (joined ps ++ rest) = append_assoc p (joined ps) rest in
    let all : IsBytes (p ++ (joined ps ++ rest)) = subst (λ (xs : List ℕ). IsBytes xs) same fits in
    let size : length (p ++ joined ps) ≡ length p + length (joined ps) = length-append p (joined ps) in
    let place : at + length (p ++ joined ps) ≡ (at + length p) + length (joined ps) = omega arith in
    let left : IsLast ((at + length p) + length (joined ps)) rest = subst (λ (n : ℕ). IsLast n rest) place last in
    let again : (next : AllTemplates) → Accepts next (at + length p) (joined ps ++ rest) =
    λ next. accepts next (at + length p) ps rest each.1 (rest_bytes p (joined ps ++ rest) all) left in
    subst (λ (xs : List ℕ). Accepts before at xs) (sym same)
    (by again each.0 (answered before p (front_bytes p (joined ps ++ rest) all)))
  where
    by : ((next : AllTemplates) → Accepts next (at + length p) (joined ps ++ rest)) → IsCutOff p → IsAnswered p before
        → Accepts before at (p ++ (joined ps ++ rest))
    by again cut (inl (m, next, accepted)) =
        accepts_more before next at p (joined ps ++ rest) m cut accepted (again next)
    by again cut (inr (fault, bad)) =
        accepts_none before at (p ++ (joined ps ++ rest)) (refused fault) (p, joined ps ++ rest, refl, cut, bad)

-- ---- and only one

one_ending : (here : AllTemplates) (at : ℕ) (rest : List ℕ) (a b : Ending) → IsBytes rest → EndsIn here at rest a
    → EndsIn here at rest b → a ≡ b
one_ending here at rest whole whole fits p q = refl
one_ending here at rest whole (broken e) fits p q = absurd (none_has_no_fault at rest e p q)
one_ending here at rest whole (refused e) fits p (message, more, parts, cut, bad) =
    absurd (no_more at rest message more (inl p) cut parts)
one_ending here at rest (broken d) whole fits p q = absurd (none_has_no_fault at rest d q p)
one_ending here at rest (broken d) (broken e) fits p q = ap (λ (f : FileError). broken f) (one_fault at rest d e p q)
one_ending here at rest (broken d) (refused e) fits p (message, more, parts, cut, bad) =
    absurd (no_more at rest message more (inr (d, p)) cut parts)
one_ending here at rest (refused d) whole fits (message, more, parts, cut, bad) q =
    absurd (no_more at rest message more (inl q) cut parts)
one_ending here at rest (refused d) (broken e) fits (message, more, parts, cut, bad) q =
    absurd (no_more at rest message more (inr (e, q)) cut parts)
one_ending here at rest (refused d) (refused e) fits (message, more, parts, cut, bad) (
  other,
  back,
  others,
  out,
  worse,
) =
    let heads = one_message message other more back cut out (sym parts ∙ others) in
    let same : IsFault message here e = subst (λ (xs : List ℕ). IsFault xs here e) (sym heads.0) worse in
    let whole_fits : IsBytes (message ++ more) = subst (λ (xs : List ℕ). IsBytes xs) parts fits in
    ap (λ (f : MessageError). refused f) (one_refusal here message d e (front_bytes message more whole_fits) bad same)

-- an accepted prefix doesn't end where a message is accepted
goes_further : (here next : AllTemplates) (at : ℕ) (rest message more : List ℕ) (m : RawMessage) (ending : Ending)
    → IsBytes rest → EndsIn here at rest ending → IsCutOff message → IsAccepted message here m next
    → rest ≡ message ++ more → ⊥
goes_further here next at rest message more m whole fits end cut accepted parts =
    no_more at rest message more (inl end) cut parts
goes_further here next at rest message more m (broken e) fits end cut accepted parts =
    no_more at rest message more (inr (e, end)) cut parts
goes_further here next at rest message more m (refused e) fits (other, back, others, out, bad) cut accepted parts =
    let heads = one_message other message back more out cut (sym others ∙ parts) in
    let same : IsFault message here e = subst (λ (xs : List ℕ). IsFault xs here e) heads.0 bad in
    let whole_fits : IsBytes (message ++ more) = subst (λ (xs : List ℕ). IsBytes xs) parts fits in
    never_both here message m next e (front_bytes message more whole_fits) accepted same

record Same (ms others : List RawMessage) (after then : AllTemplates) (ending other : Ending) : Type 0 where
  all : others ≡ ms
  state : then ≡ after
  end : other ≡ ending

one_front : (before : AllTemplates) (at : ℕ) (octets : List ℕ) (parts others : List (List ℕ)) (rest left : List ℕ)
    (ms ns : List RawMessage) (after then : AllTemplates) (ending other : Ending)
    → IsBytes octets → octets ≡ joined parts ++ rest → octets ≡ joined others ++ left
    → AreAccepted before parts ms after → AreAccepted before others ns then
    → EndsIn after (at + length (joined parts)) rest ending → EndsIn then (at + length (joined others)) left other
    → Same ms ns after then ending other
one_front before at octets [] [] rest left [] [] after then ending other fits p q a b e f =
    let state : then ≡ after = b ∙ sym a in
    let mine : EndsIn then (at + 0) octets ending =
    subst (λ (t : AllTemplates). EndsIn t (at + 0) octets ending) (sym state)
    (subst (λ (xs : List ℕ). EndsIn after (at + 0) xs ending) (sym p) e) in
    let yours : EndsIn then (at + 0) octets other = subst (λ (xs : List ℕ). EndsIn then (at + 0) xs other) (sym q) f in
    record { all = refl; state = state; end = one_ending then (at + 0) octets other ending fits yours mine }
one_front before at octets [] [] rest left [] (n ∷ ns) after then ending other fits p q a b e f = absurd b
one_front before at octets [] [] rest left (m ∷ ms) ns after then ending other fits p q a b e f = absurd a
one_front before at octets [] (o ∷ os) rest left (m ∷ ms) ns after then ending other fits p q a b e f = absurd a
one_front before at octets [] (o ∷ os) rest left [] [] after then ending other fits p q a b e f = absurd b
one_front before at octets [] (o ∷ os) rest left [] (n ∷ ns) after then ending other fits p q a (
  next,
  cut,
  accepted,
  more,
) e f =
    let mine : EndsIn before (at + 0) octets ending =
    subst (λ (t : AllTemplates). EndsIn t (at + 0) octets ending) a
    (subst (λ (xs : List ℕ). EndsIn after (at + 0) xs ending) (sym p) e) in
    absurd (goes_further before next (at + 0) octets o (joined os ++ left) n ending fits mine cut accepted (q
    ∙ append_assoc o (joined os) left))
one_front before at octets (p' ∷ ps) others rest left [] ns after then ending other fits p q a b e f = absurd a
one_front before at octets (p' ∷ ps) [] rest left (m ∷ ms) (n ∷ ns) after then ending other fits p q a b e f = absurd b
one_front before at octets (p' ∷ ps) [] rest left (m ∷ ms) [] after then ending other fits p q (
  next,
  cut,
  accepted,
  more,
) b e f =
    let yours : EndsIn before (at + 0) octets other =
    subst (λ (t : AllTemplates). EndsIn t (at + 0) octets other) b
    (subst (λ (xs : List ℕ). EndsIn then (at + 0) xs other) (sym q) f) in
    absurd (goes_further before next (at + 0) octets p' (joined ps ++ rest) m other fits yours cut accepted (p
    ∙ append_assoc p' (joined ps) rest))
one_front before at octets (p' ∷ ps) (o ∷ os) rest left (m ∷ ms) [] after then ending other fits p q a b e f = absurd b
one_front before at octets (p' ∷ ps) (o ∷ os) rest left (m ∷ ms) (n ∷ ns) after then ending other fits p q (
  next,
  cut,
  accepted,
  more,
) (state, out, taken, others) e f =
    let first = p ∙ append_assoc p' (joined ps) rest in
    let heads = one_message p' o (joined ps ++ rest) (joined os ++ left) cut out (sym first ∙ q
    ∙ append_assoc o (joined os) left) in
    let same : IsAccepted p' before n state =
    subst (λ (xs : List ℕ). IsAccepted xs before n state) (sym heads.0) taken in
    let one : m ≡ n = one_reading before p' m n next state accepted same in
    let after_it : next ≡ state = one_state before p' m n next state accepted same in
    let tail = joined ps ++ rest in
    let fits_tail : IsBytes tail = rest_bytes p' tail (subst (λ (xs : List ℕ). IsBytes xs) first fits) in
    let place : (k : List ℕ) (ks : List (List ℕ))
    → at + length (k ++ joined ks) ≡ (at + length k) + length (joined ks) =
    λ k ks. omega (arith, length-append k (joined ks)) in
    let mine : EndsIn after ((at + length p') + length (joined ps)) rest ending =
    subst (λ (x : ℕ). EndsIn after x rest ending) (place p' ps) e in
    let theirs : EndsIn then ((at + length o) + length (joined os)) left other =
    subst (λ (x : ℕ). EndsIn then x left other) (place o os) f in
    let yours : EndsIn then ((at + length p') + length (joined os)) left other =
    subst (λ (x : List ℕ). EndsIn then ((at + length x) + length (joined os)) left other) (sym heads.0) theirs in
    let again : AreAccepted next os ns then =
    subst (λ (t : AllTemplates). AreAccepted t os ns then) (sym after_it) others in
    let more_same = one_front next
    (at + length p') tail ps os rest left ms ns after then ending other fits_tail refl heads.1 more again mine
    yours in
    let heads_same : n ≡ m = sym one in
    let tails_same : ns ≡ ms = more_same.all in
    record { all = cc; state = more_same.state; end = more_same.end }

pub has_one_front : (before : AllTemplates) (at : ℕ) (octets : List ℕ) → IsBytes octets → HasOneFront before at octets
has_one_front before at octets fits =
    let one = has_one_division octets in
    let last = last_anywhere (length (joined one.parts)) (at + length (joined one.parts)) one.rest one.last in
    let whole_fits : IsBytes (joined one.parts ++ one.rest) =
    subst (λ (xs : List ℕ). IsBytes xs) one.divided.whole fits in
    let found = subst (λ (xs : List ℕ). Accepts before at xs) (sym one.divided.whole)
    (accepts before at one.parts one.rest one.divided.each whole_fits last) in
    record {
      messages = found.messages;
      after = found.after;
      ending = found.ending;
      found = found.found;
      alone = λ others then other theirs.
          let mine = found.found in
          let same = one_front before at octets mine.parts theirs.parts mine.rest theirs.rest found.messages others
          found.after then found.ending other fits mine.divided theirs.divided mine.accepted theirs.accepted
          mine.end theirs.end in
          (same.all, same.state, same.end);
    }
