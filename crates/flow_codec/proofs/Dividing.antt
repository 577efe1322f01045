-- Any octets divide in one way into messages, each cut off by its own header, and a rest that is empty or has one
-- fault.
use Rattle.std.proofs.Common.{◌≡◌, ◌≢◌, ◌⊎◌, inl, inr, ℕ, zero, suc, ◌+◌, ◌<◌, ◌≤◌, Bool, true, false, cond, ltb, eqb}
use Rattle.std.proofs.Common.{List, [], ◌∷◌, ◌++◌, length, take, drop, refl, sym, ap, subst, ◌∙◌, append_assoc, arith}
use Rattle.std.proofs.Common.{Result, Ok, Err, IfErr}
use Rattle.std.specs.Result.{IsErrAnd}
use Rattle.std.specs.List.{AllByRecursion}
use Rattle.std.specs.Int.{w16, from_be_bytes}
use Rattle.std.proofs.lemmas.Bool.{cases_lt, ne_eqb, eq-eqb, lt-ltb, le-ltb, eqb-true, eqb-false}
use Rattle.std.proofs.lemmas.List.{append-nil, append_cancel_left, length-append, length-drop, length-take-le}
use Rattle.std.proofs.lemmas.List.{take-append-le, drop-append-le, take-append-drop, take_at, nil_from_length}
use Rattle.std.proofs.Math.Seq.{take-add}
use Rattle.std.proofs.lemmas.List.Concat.{flat_map-append}
use Rattle.flow_codec.specs.declared.file.FileError.{FileError}
use Rattle.flow_codec.specs.declared.file.FileError.TheVariants.{Cut, Version, Length, OutOfMemory}
use Rattle.flow_codec.specs.declared.file.Span.{Span}
use Rattle.flow_codec.specs.Message.{joined}
use Rattle.flow_codec.specs.Cutting.{version_of, length_of, IsCutOff, IsFileFault, IsDivided, IsLast, HasOneDivision}
use Rattle.flow_codec.specs.Cutting.{spans_from}

-- ---- the header of the first message

pub version_of-append : (a b : List ℕ) → 16 ≤ length a → version_of (a ++ b) ≡ version_of a
version_of-append a b long = ap (λ (xs : List ℕ). from_be_bytes w16 xs) (take-append-le 2 a b (omega arith))

pub length_of-append : (a b : List ℕ) → 16 ≤ length a → length_of (a ++ b) ≡ length_of a
length_of-append a b long =
    let two : 2 ≤ length (drop 2 a) = omega (arith, length-drop 2 a) in
    ap (λ (xs : List ℕ). from_be_bytes w16 xs) (ap (λ (xs : List ℕ). take 2 xs) (drop-append-le 2 a b (omega arith))
    ∙ take-append-le 2 (drop 2 a) b two)

pub cut_off : (n : ℕ) (octets : List ℕ) → 16 ≤ n → n ≤ length octets → version_of octets ≡ 10 → n ≡ length_of octets
    → IsCutOff (take n octets)
cut_off n octets long within version len =
    let front = take n octets in
    let count : length front ≡ n = length-take-le n octets within in
    let whole : front ++ drop n octets ≡ octets = take-append-drop n octets in
    let same_version : version_of front ≡ version_of octets =
    sym (version_of-append front (drop n octets) (omega arith)) ∙ ap (λ (xs : List ℕ). version_of xs) whole in
    let same_length : length_of front ≡ length_of octets = sym (length_of-append front (drop n octets) (omega arith))
    ∙ ap (λ (xs : List ℕ). length_of xs) whole in
    record { long = omega arith; version = same_version ∙ version; len = same_length ∙ sym len ∙ sym count }

-- ---- a fault leaves no message, and is one

pub no_message : (at : ℕ) (message more : List ℕ) (fault : FileError) → IsCutOff message
    → IsFileFault at (message ++ more) fault → ⊥
no_message at message more fault cut bad = by bad
  where
    size : length (message ++ more) ≡ length message + length more
    size = length-append message more

    version : version_of (message ++ more) ≡ 10
    version = version_of-append message more cut.long ∙ cut.version

    len : length_of (message ++ more) ≡ length message
    len = length_of-append message more cut.long ∙ cut.len

    by : IsFileFault at (message ++ more) fault → ⊥
    by (inl short) = let few : length (message ++ more) < 16 = short.1 in let long : 16 ≤ length message = cut.long in
        omega (arith, size)
    by (inr (inl (long, inl other))) = absurd (other.0 version)
    by (inr (inl (long, inr low))) = let low_length : length_of (message ++ more) < 16 = low.1 in
        let long : 16 ≤ length message = cut.long in omega (arith, len)
    by (inr (inr late)) = let past : length (message ++ more) < length_of (message ++ more) = late.3 in
        omega (arith, len, size)

-- the fault of octets that have one
fault_at : ℕ → List ℕ → FileError
fault_at at rest = cond (ltb (length rest) 16) (Cut at)
    (cond (eqb (version_of rest) 10) (cond (ltb (length_of rest) 16) (Length at) (Cut at)) (Version at))

is_fault_at : (at : ℕ) (rest : List ℕ) (fault : FileError) → IsFileFault at rest fault → fault ≡ fault_at at rest
unfolding fault_at
is_fault_at at rest fault (inl short) = let h : ltb (length rest) 16 ≡ true = lt-ltb _ _ short.1 in rw h short.2
is_fault_at at rest fault (inr (inl (long, inl other))) =
    let h : ltb (length rest) 16 ≡ false = le-ltb _ _ long in
    let v : eqb (version_of rest) 10 ≡ false = ne_eqb _ _ other.0 in
    rw (h, v) other.1
is_fault_at at rest fault (inr (inl (long, inr low))) =
    let h : ltb (length rest) 16 ≡ false = le-ltb _ _ long in
    let v : eqb (version_of rest) 10 ≡ true = eq-eqb _ _ low.0 in
    let l : ltb (length_of rest) 16 ≡ true = lt-ltb _ _ low.1 in
    rw (h, v, l) low.2
is_fault_at at rest fault (inr (inr late)) =
    let h : ltb (length rest) 16 ≡ false = le-ltb _ _ late.0 in
    let v : eqb (version_of rest) 10 ≡ true = eq-eqb _ _ late.1 in
    let l : ltb (length_of rest) 16 ≡ false = le-ltb _ _ late.2 in
    rw (h, v, l) late.4

pub one_fault : (at : ℕ) (rest : List ℕ) (a b : FileError) → IsFileFault at rest a → IsFileFault at rest b → a ≡ b
one_fault at rest a b p q = is_fault_at at rest a p ∙ sym (is_fault_at at rest b q)

pub fault_has_octets : (at : ℕ) (rest : List ℕ) (fault : FileError) → IsFileFault at rest fault → 0 < length rest
fault_has_octets at rest fault (inl short) = short.0
fault_has_octets at rest fault (inr (inl refused)) = let long : 16 ≤ length rest = refused.0 in omega arith
fault_has_octets at rest fault (inr (inr late)) = let long : 16 ≤ length rest = late.0 in omega arith

pub none_has_no_fault : (at : ℕ) (rest : List ℕ) (fault : FileError) → rest ≡ [] → IsFileFault at rest fault → ⊥
none_has_no_fault at rest fault empty bad =
    let some : 0 < length rest = fault_has_octets at rest fault bad in
    let none : length rest ≡ 0 = ap (λ (xs : List ℕ). length xs) empty in
    omega arith

-- whether the octets after the messages are a rest doesn't depend on their place
pub last_anywhere : (at to : ℕ) (rest : List ℕ) → IsLast at rest → IsLast to rest
last_anywhere at to rest (inl none) = inl none
last_anywhere at to rest (inr (fault, bad)) = inr (by bad)
  where
    by : IsFileFault at rest fault → (f : FileError) × IsFileFault to rest f
    by (inl short) = (Cut to, inl (short.0, short.1, refl))
    by (inr (inl (long, inl other))) = (Version to, inr (inl (long, inl (other.0, refl))))
    by (inr (inl (long, inr low))) = (Length to, inr (inl (long, inr (low.0, low.1, refl))))
    by (inr (inr late)) = (Cut to, inr (inr (late.0, late.1, late.2, late.3, refl)))

-- ---- one division

-- the octets after the last message don't begin with one
pub no_more : (at : ℕ) (rest message more : List ℕ) → IsLast at rest → IsCutOff message → rest ≡ message ++ more → ⊥
no_more at rest message more (inl empty) cut parts =
    let none : length (message ++ more) ≡ 0 = ap (λ (xs : List ℕ). length xs) (sym parts ∙ empty) in
    let long : 16 ≤ length message = cut.long in
    omega (arith, length-append message more)
no_more at rest message more (inr (fault, bad)) cut parts =
    no_message at message more fault cut (subst (λ (xs : List ℕ). IsFileFault at xs fault) parts bad)

-- the same octets begin with one message at most
pub one_message : (a b more others : List ℕ) → IsCutOff a → IsCutOff b → a ++ more ≡ b ++ others
    → (a ≡ b) × (more ≡ others)
one_message a b more others p q same =
    let len : length a ≡ length b = sym p.len ∙ sym (length_of-append a more p.long)
    ∙ ap (λ (xs : List ℕ). length_of xs) same ∙ length_of-append b others q.long ∙ q.len in
    let first : a ≡ b = sym (take_at a more (length a) refl) ∙ ap (λ (xs : List ℕ). take (length a) xs) same
    ∙ take_at b others (length a) (sym len) in
    (first, append_cancel_left b more others (ap (λ (xs : List ℕ). xs ++ more) (sym first) ∙ same))

pub one_division : (at to : ℕ) (parts others : List (List ℕ)) (rest left : List ℕ) → AllByRecursion IsCutOff parts
    → AllByRecursion IsCutOff others
    → joined parts ++ rest ≡ joined others ++ left → IsLast at rest → IsLast to left → (others ≡ parts) × (left ≡ rest)
one_division at to [] [] rest left each all same last end = (refl, sym same)
one_division at to [] (o ∷ os) rest left each all same last end =
    absurd (no_more at rest o (joined os ++ left) last all.0 (same ∙ append_assoc o (joined os) left))
one_division at to (p ∷ ps) [] rest left each all same last end =
    absurd (no_more to left p (joined ps ++ rest) end each.0 (sym same ∙ append_assoc p (joined ps) rest))
one_division at to (p ∷ ps) (o ∷ os) rest left each all same last end =
    let heads = one_message p o (joined ps ++ rest) (joined os ++ left) each.0 all.0
    (sym (append_assoc p (joined ps) rest) ∙ same ∙ append_assoc o (joined os) left) in
    let more = one_division at to ps os rest left each.1 all.1 heads.1 last end in
    let first : o ≡ p = sym heads.0 in
    let others : os ≡ ps = more.0 in
    (cc, more.1)

-- ---- any octets divide

record Divides (at : ℕ) (octets : List ℕ) : Type 0 where
  parts : List (List ℕ)
  rest : List ℕ
  divided : IsDivided octets parts rest
  last : IsLast (at + length (joined parts)) rest

-- octets that begin with no message
ends : (at : ℕ) (octets : List ℕ) → IsLast at octets → Divides at octets
ends at octets last = record {
  parts = [];
  rest = octets;
  divided = record { whole = refl; each = tt };
  last = subst (λ (n : ℕ). IsLast n octets) (omega arith) last;
}

-- a message before octets that divide
goes_on : (at n : ℕ) (octets : List ℕ) → n ≤ length octets → IsCutOff (take n octets)
    → Divides (at + n) (drop n octets) → Divides at octets
goes_on at n octets within cut more =
    let front = take n octets in
    let count : length front ≡ n = length-take-le n octets within in
    let size : length (front ++ joined more.parts) ≡ length front + length (joined more.parts) =
    length-append front (joined more.parts) in
    let place : (at + n) + length (joined more.parts) ≡ at + length (front ++ joined more.parts) = omega arith in
    record {
      parts = front ∷ more.parts;
      rest = more.rest;
      divided = record {
        whole = sym (take-append-drop n octets) ∙ ap (λ (xs : List ℕ). front ++ xs) more.divided.whole
            ∙ sym (append_assoc front (joined more.parts) more.rest);
        each = (cut, more.divided.each);
      };
      last = subst (λ (m : ℕ). IsLast m more.rest) place more.last;
    }

divide_by : (most at : ℕ) (octets : List ℕ) → ((to : ℕ) → (more : List ℕ) → length more ≤ most → Divides to more)
    → length octets ≤ most + 1 → Divides at octets
divide_by most at octets again few = by_count (cases_lt (length octets) 16)
  where
    by_end : 16 ≤ length octets → version_of octets ≡ 10 → 16 ≤ length_of octets → (length octets < length_of octets)
        ⊎ (length_of octets ≤ length octets) → Divides at octets
    by_end long version high (inl past) = ends at octets (inr (Cut at, inr (inr (long, version, high, past, refl))))
    by_end long version high (inr within) =
        let left : length (drop (length_of octets) octets) ≤ most =
        omega (arith, length-drop (length_of octets) octets) in
        goes_on at (length_of octets) octets within (cut_off (length_of octets) octets high within version refl)
        (again (at + length_of octets) (drop (length_of octets) octets) left)

    by_length : 16 ≤ length octets → version_of octets ≡ 10 → (length_of octets < 16) ⊎ (16 ≤ length_of octets)
        → Divides at octets
    by_length long version (inl low) = ends at octets (inr (Length at, inr (inl (long, inr (version, low, refl)))))
    by_length long version (inr high) = by_end long version high (cases_lt (length octets) (length_of octets))

    by_version : 16 ≤ length octets → (b : Bool) → eqb (version_of octets) 10 ≡ b → Divides at octets
    by_version long true v = by_length long (eqb-true _ _ v) (cases_lt (length_of octets) 16)
    by_version long false v = ends at octets (inr (Version at, inr (inl (long, inl (eqb-false _ _ v, refl)))))

    by_octets : (length octets < 16) → (b : Bool) → eqb (length octets) 0 ≡ b → Divides at octets
    by_octets short true none = ends at octets (inl (nil_from_length octets (eqb-true _ _ none)))
    by_octets short false some = let some_left : length octets ≢ 0 = eqb-false _ _ some in
        ends at octets (inr (Cut at, inl (omega arith, short, refl)))

    by_count : (length octets < 16) ⊎ (16 ≤ length octets) → Divides at octets
    by_count (inl short) = by_octets short (eqb (length octets) 0) refl
    by_count (inr long) = by_version long (eqb (version_of octets) 10) refl

divide : (most at : ℕ) (octets : List ℕ) → length octets ≤ most → Divides at octets
divide zero at octets few = ends at octets (inl (nil_from_length octets (omega arith)))
divide (suc most) at octets few = divide_by most at octets (λ to more left. divide most to more left) (omega arith)

pub has_one_division : (octets : List ℕ) → HasOneDivision octets
has_one_division octets =
    let found = divide (length octets) 0 octets (omega arith) in
    let place : 0 + length (joined found.parts) ≡ length (joined found.parts) = omega arith in
    let last : IsLast (length (joined found.parts)) found.rest =
    subst (λ (n : ℕ). IsLast n found.rest) place found.last in
    record {
      parts = found.parts;
      rest = found.rest;
      divided = found.divided;
      last = last;
      alone = λ others left divided end.
          one_division (length (joined found.parts))
          (length (joined others)) found.parts others found.rest left found.divided.each divided.each
          (sym found.divided.whole ∙ divided.whole) last end;
      one_fault = λ a b p q. one_fault (length (joined found.parts)) found.rest a b p q;
      no_fault = λ a empty bad. none_has_no_fault (length (joined found.parts)) found.rest a empty bad;
    }

-- ---- the loop that takes one message after the other

-- messages so far, their spans, and the place after them
pub record Walked (octets : List ℕ) (at : ℕ) (spans : List Span) : Type 0 where
  pub parts : List (List ℕ)
  pub each : AllByRecursion IsCutOff parts
  pub front : joined parts ≡ take at octets
  pub places : spans ≡ spans_from 0 parts
  pub within : at ≤ length octets

pub walked_none : (octets : List ℕ) → Walked octets 0 []
walked_none octets = record { parts = []; each = tt; front = refl; places = refl; within = omega arith }

each_more : (parts : List (List ℕ)) (message : List ℕ) → AllByRecursion IsCutOff parts → IsCutOff message
    → AllByRecursion IsCutOff (parts ++ message ∷ [])
each_more [] message each cut = (cut, tt)
each_more (p ∷ ps) message each cut = (each.0, each_more ps message each.1 cut)

span : ℕ → List ℕ → Span
span at message = record { at = at; length = length message }

spans_more : (at : ℕ) (parts : List (List ℕ)) (message : List ℕ)
    → spans_from at (parts ++ message ∷ []) ≡ spans_from at parts ++ record {
      at = at + length (joined parts);
      length =
          length message;
    } ∷ []
spans_more at [] message = let place : at ≡ at + 0 = omega arith in let one : ℕ → List Span =
    λ n. record { at = n; length = length message } ∷ [] in ap one place
spans_more at (p ∷ ps) message =
    let size : length (p ++ joined ps) ≡ length p + length (joined ps) = length-append p (joined ps) in
    let place : (at + length p) + length (joined ps) ≡ at + length (p ++ joined ps) = omega arith in
    let first : List Span → List Span = λ xs. record { at = at; length = length p } ∷ xs in
    let more : ℕ → List Span =
    λ n. record {
      at = at;
      length =
          length p;
    } ∷ (spans_from (at + length p) ps ++ record { at = n; length = length message } ∷ []) in
    ap first (spans_more (at + length p) ps message) ∙ ap more place

pub walked_more : (octets : List ℕ) (at n : ℕ) (spans : List Span) → Walked octets at spans
    → n ≤ length (drop at octets) → IsCutOff (take n (drop at octets))
    → Walked octets (at + n) (spans ++ record { at = at; length = n } ∷ [])
walked_more octets at n spans here fits cut =
    let message = take n (drop at octets) in
    let count : length message ≡ n = length-take-le n (drop at octets) fits in
    let before : length (joined here.parts) ≡ at = ap (λ (xs : List ℕ). length xs) here.front
    ∙ length-take-le at octets here.within in
    let last : List Span → ℕ → ℕ → List Span = λ xs m k. xs ++ record { at = m; length = k } ∷ [] in
    let within : at + n ≤ length octets = omega (arith, length-drop at octets, here.within) in
    record {
      parts = here.parts ++ message ∷ [];
      each = each_more here.parts message here.each cut;
      front = flat_map-append (λ (r : List ℕ). r) here.parts (message ∷ [])
          ∙ ap (λ (xs : List ℕ). xs ++ (message ++ [])) here.front
          ∙ ap (λ (xs : List ℕ). take at octets ++ xs) (append-nil message) ∙ sym (take-add at n octets);
      places = ap (λ (xs : List Span). last xs at n) here.places
          ∙ ap (λ (k : ℕ). last (spans_from 0 here.parts) at k) (sym count)
          ∙ ap (λ (m : ℕ). last (spans_from 0 here.parts) m (length message)) (sym before ∙ omega arith)
          ∙ sym (spans_more 0 here.parts message);
      within = within;
    }

-- the messages so far, and what is left
pub walked_divided : (octets : List ℕ) (at : ℕ) (spans : List Span) → (here : Walked octets at spans)
    → IsDivided octets here.parts (drop at octets)
walked_divided octets at spans here =
    record {
      whole = sym (take-append-drop at octets) ∙ ap (λ (xs : List ℕ). xs ++ drop at octets) (sym here.front);
      each = here.each;
    }

pub walked_place : (octets : List ℕ) (at : ℕ) (spans : List Span) → (here : Walked octets at spans)
    → length (joined here.parts) ≡ at
walked_place octets at spans here = ap (λ (xs : List ℕ). length xs) here.front ∙ length-take-le at octets here.within

-- where the octets after the messages so far have a fault, the messages end there
pub walked_fault : (octets : List ℕ) (at : ℕ) (spans : List Span) (fault : FileError) → Walked octets at spans
    → IsFileFault at (drop at octets) fault
    → (parts : List (List ℕ)) × (rest : List ℕ) × IsDivided octets parts rest
    × IsFileFault (length (joined parts)) rest fault
walked_fault octets at spans fault here bad = (
  here.parts,
  drop at octets,
  walked_divided octets at spans here,
  subst (λ (n : ℕ). IsFileFault n (drop at octets) fault) (sym (walked_place octets at spans here)) bad,
)

-- what a call answers where the octets after the messages so far have a fault
pub refused_by : {T : Type 0} (octets : List ℕ) (at : ℕ) (spans : List Span) (fault : FileError)
    (answer : Result T FileError) → Walked octets at spans → IsFileFault at (drop at octets) fault
    → IsErrAnd answer (λ e. e ≡ fault)
    → IfErr answer (λ e. (e ≡ OutOfMemory)
    ⊎ ((parts : List (List ℕ)) × (rest : List ℕ) × IsDivided octets parts rest
    × IsFileFault (length (joined parts)) rest e))
refused_by octets at spans fault (Ok x) here bad same = tt
refused_by octets at spans fault (Err e) here bad same =
    inr (walked_fault octets at spans e here
    (subst (λ (f : FileError). IsFileFault at (drop at octets) f) (sym same) bad))

-- and no messages fill these octets
pub walked_not_whole : (octets : List ℕ) (at : ℕ) (spans : List Span) (fault : FileError) → Walked octets at spans
    → IsFileFault at (drop at octets) fault
    → (parts : List (List ℕ)) → IsDivided octets parts [] → ⊥
walked_not_whole octets at spans fault here bad parts whole =
    let mine = walked_divided octets at spans here in
    let one = one_division at 0 here.parts parts (drop at octets) [] mine.each whole.each (sym mine.whole
    ∙ whole.whole) (inr (fault, bad)) (inl refl) in
    none_has_no_fault at (drop at octets) fault (sym one.1) bad

-- the spans of messages that fill the octets are those of all messages that do
pub walked_whole : (octets : List ℕ) (at : ℕ) (spans : List Span) → Walked octets at spans → length octets ≤ at
    → (parts : List (List ℕ)) → IsDivided octets parts [] → spans ≡ spans_from 0 parts
walked_whole octets at spans here end parts whole =
    let mine = walked_divided octets at spans here in
    let none : drop at octets ≡ [] = nil_from_length (drop at octets) (omega (arith, length-drop at octets)) in
    let one = one_division at 0 here.parts parts (drop at octets) [] mine.each whole.each (sym mine.whole
    ∙ whole.whole) (inl none) (inl refl) in
    here.places ∙ ap (λ (xs : List (List ℕ)). spans_from 0 xs) (sym one.0)
