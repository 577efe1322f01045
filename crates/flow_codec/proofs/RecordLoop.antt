-- The data records of a Set, one after the other.
use Rattle.std.proofs.Common.{◌≡◌, ℕ, zero, suc, ◌+◌, ◌-◌, ◌<◌, ◌≤◌, true, false, ltb, eqb, List, [], ◌∷◌, ◌++◌, length}
use Rattle.std.proofs.Common.{Result, Ok, Err, refl, sym, ap, ◌∙◌, append_assoc, arith}
use Rattle.std.proofs.lemmas.Bool.{le-ltb, lt-ltb, ne_eqb}
use Rattle.std.proofs.lemmas.List.{append-nil, length-append}
use Rattle.flow_codec.specs.declared.error.MessageError.{MessageError}
use Rattle.flow_codec.specs.declared.message.Header.{Header}
use Rattle.flow_codec.specs.Raw.{RawRecord, Placed, raw, Took}
use Rattle.flow_codec.specs.Layout.{Layout, smallest}
use Rattle.flow_codec.specs.Reading.{◌>>=◌, Fails, IsRefused, extent_at, records_at, records_of}
use Rattle.flow_codec.proofs.Steps.{Fails-of}
use Rattle.flow_codec.proofs.Taking.{takes_none, takes_then, refused_then, refused_here}

abbrev pub with_records : List RawRecord → Result (List RawRecord) MessageError → Result (List RawRecord) MessageError
with_records front read = read >>= λ x. Ok (front ++ x)

regroup : (front : List RawRecord) (a : RawRecord) (read : Result (List RawRecord) MessageError)
    → with_records front (read >>= λ x. Ok (a ∷ x)) ≡ with_records (front ++ a ∷ []) read
regroup front a (Ok x) = ap (λ (rs : List RawRecord). Ok rs) (simp append_assoc)
regroup front a (Err f) = refl

is_zero : (n : ℕ) → n ≡ 0 → eqb n 0 ≡ true
is_zero n e = rw e refl

is_positive : (n : ℕ) → 0 < n → eqb n 0 ≡ false
is_positive n h = ne_eqb n 0 (λ e. omega arith)

no_records : (read : Result (List RawRecord) MessageError) → with_records [] read ≡ read
no_records (Ok x) = refl
no_records (Err f) = refl

module _ {S E : Type 0} (holds : S → List Placed → S → Type 0) (refuses : S → List Placed → Placed → E
    → Type 0) (header : Header) (old : S) (end id : ℕ) (definition : Layout) (octets : List ℕ) where
  -- what the sink took of these octets
  abbrev pub Taken : S → List RawRecord → Type 0
  Taken now records = Took holds header old records now × (length records ≤ length octets)

  -- the sink took the records so far, which are the first of all, and reading goes on at `rest`, with enough steps left
  pub record GoesOn (now : S) (rest : List ℕ) : Type 0 where
    pub front : List RawRecord
    pub took : Took holds header old front now
    pub few : length front + length rest ≤ length octets
    pub steps : ℕ
    pub enough : length rest ≤ steps
    pub within : length rest ≤ end
    pub some : 0 < smallest definition
    pub same : with_records front (records_at steps end id definition rest) ≡ records_of end id definition octets

  abbrev pub Answers : S → Result (List RawRecord) MessageError → Type 0
  Answers now read = (records : List RawRecord) × (read ≡ Ok records) × Taken now records

  pub none : smallest definition ≡ 0 → Answers old (records_of end id definition octets)
  unfolding records_of
  none e = ([], rw (is_zero (smallest definition) e) refl, (takes_none holds header old, omega arith))

  pub starts : 0 < smallest definition → length octets ≤ end → GoesOn old octets
  unfolding records_of
  starts some within = record {
    front = [];
    took = takes_none holds header old;
    few = omega arith;
    steps =
        length octets;
    enough = omega arith;
    within = within;
    some = some;
    same =
        rw (is_positive (smallest definition) some) (no_records (records_at (length octets) end id definition octets));
  }

  module _ (now : S) (rest : List ℕ) (h : GoesOn now rest) where
    pub goes_on : (new : S) → smallest definition ≤ length rest → (whole after : List ℕ)
        → extent_at (end - length rest) definition.fields rest ≡ Ok (whole, after)
        → length whole + length after ≡ length rest → smallest definition ≤ length whole
        → ((start : S) (taken : List Placed) → holds start taken now
        → holds start (taken ++ (header, raw id definition whole) ∷ []) new) → GoesOn new after
    unfolding records_at
    goes_on new le whole after is parts long one =
        let more : 0 < h.steps = omega (arith, h.some, h.enough) in
        record {
          front = h.front ++ raw id definition whole ∷ [];
          took = takes_then holds header old now new h.front (raw id definition whole ∷ []) h.took one;
          few = omega (arith, h.few, h.some, length-append h.front (raw id definition whole ∷ []));
          steps = h.steps - 1;
          enough = omega (arith, h.some, h.enough);
          within = omega (arith, h.within);
          some = h.some;
          same = sym (step h.steps more) ∙ h.same;
        }
      where
        step : (n : ℕ) → 0 < n
            → with_records h.front (records_at n end id definition rest) ≡ with_records
            (h.front ++ raw id definition whole ∷ []) (records_at (n - 1) end id definition after)
        step zero lt = absurd (omega arith)
        step (suc n) lt =
            let fits : ltb (length rest) (smallest definition) ≡ false = le-ltb _ _ le in
            let k : suc n - 1 ≡ n = omega arith in
            rw (fits, is, k) (regroup h.front (raw id definition whole) (records_at n end id definition after))

    pub ends : smallest definition ≤ length rest → (e : MessageError)
        → Fails e (extent_at (end - length rest) definition.fields rest) → Fails e (records_of end id definition octets)
    unfolding records_at
    ends le e fails = Fails-of e (extent_at (end - length rest) definition.fields rest)
        (records_of end id definition octets) (λ fault is. sym h.same
        ∙ step h.steps (omega (arith, h.some, h.enough)) fault is) fails
      where
        step : (n : ℕ) → 0 < n → (fault : MessageError)
            → extent_at (end - length rest) definition.fields rest ≡ Err fault
            → with_records h.front (records_at n end id definition rest) ≡ Err fault
        step zero lt fault is = absurd (omega arith)
        step (suc n) lt fault is =
            let fits : ltb (length rest) (smallest definition) ≡ false = le-ltb _ _ le in
            rw (fits, is) refl

    pub is_refused : smallest definition ≤ length rest → (whole : List ℕ) (e : E)
        → ((start : S) (taken : List Placed) → holds start taken now
        → refuses start taken (header, raw id definition whole) e)
        → IsRefused holds refuses header old (length octets) e
    is_refused le whole e why =
        refused_then holds header refuses old now h.front (length octets) 1 e h.took
        (refused_here holds header refuses now (raw id definition whole) 1 e (omega arith) why)
        (omega (arith, h.few, h.some))

    pub is_done : length rest < smallest definition → Answers now (records_of end id definition octets)
    unfolding records_at
    is_done lt = (h.front, sym h.same ∙ last h.steps, (h.took, omega (arith, h.few)))
      where
        last : (n : ℕ) → with_records h.front (records_at n end id definition rest) ≡ Ok h.front
        last zero = ap (λ (rs : List RawRecord). Ok rs) (append-nil h.front)
        last (suc n) =
            let short : ltb (length rest) (smallest definition) ≡ true = lt-ltb _ _ lt in
            rw short (ap (λ (rs : List RawRecord). Ok rs) (append-nil h.front))
