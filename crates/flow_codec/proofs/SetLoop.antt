-- The Sets of a message, one after the other.
use Rattle.std.proofs.Common.{◌≡◌, ℕ, zero, suc, ◌+◌, ◌-◌, ◌<◌, ◌≤◌, Bool, true, false, eqb, List, [], ◌∷◌, ◌++◌}
use Rattle.std.proofs.Common.{length, Result, Ok, Err, refl, sym, ap, ◌∙◌, append_assoc, arith}
use Rattle.std.proofs.lemmas.Bool.{ne_eqb, eqb-true}
use Rattle.std.proofs.lemmas.List.{append-nil, length-append}
use Rattle.flow_codec.specs.declared.error.MessageError.{MessageError}
use Rattle.flow_codec.specs.declared.sink.WalkError.{WalkError}
use Rattle.flow_codec.specs.declared.sink.WalkError.TheVariants.{Message, Sink}
use Rattle.flow_codec.specs.declared.message.Header.{Header}
use Rattle.flow_codec.specs.Raw.{RawRecord, Placed, Took}
use Rattle.flow_codec.specs.Templates.{AllTemplates}
use Rattle.flow_codec.specs.Reading.{◌>>=◌, Fails, Feeds, IsRefused, set_at, content_at, sets_at}
use Rattle.flow_codec.proofs.Steps.{with_front, Fails-of}
use Rattle.flow_codec.proofs.Taking.{takes_none, takes_then, refused_then}

joined : {B : Type 0} (front more : List RawRecord) (read : Result (List RawRecord × B) MessageError)
    → with_front front (read >>= λ x. Ok (more ++ x.0, x.1)) ≡ with_front (front ++ more) read
joined {B} front more (Ok x) = let f : List RawRecord → Result (List RawRecord × B) MessageError =
    λ rs. Ok (rs, x.1) in ap f (sym (append_assoc front more x.0))
joined front more (Err f) = refl

nothing : (read : Result (List RawRecord × AllTemplates) MessageError) → with_front [] read ≡ read
nothing (Ok x) = refl
nothing (Err f) = refl

pub some_left : (octets : List ℕ) (b : Bool) → b ≡ eqb (length octets) 0 → b ≡ false → 0 < length octets
some_left [] b e f = absurd cc
some_left (x ∷ xs) b e f = omega arith

pub none_left : (octets : List ℕ) (b : Bool) → b ≡ eqb (length octets) 0 → b ≡ true → length octets ≡ 0
none_left octets b e f = eqb-true _ _ (sym e ∙ f)

module _ {S E : Type 0} (holds : S → List Placed → S → Type 0) (refuses : S → List Placed → Placed → E
    → Type 0) (header : Header) (old : S) (end domain : ℕ) (octets : List ℕ)
    (total : Result (List RawRecord × AllTemplates) MessageError) where
  -- the sink took the records so far, which are the first of all, and reading goes on at `rest`, with enough steps left
  pub record GoesOn (now : S) (all : AllTemplates) (rest : List ℕ) : Type 0 where
    pub front : List RawRecord
    pub took : Took holds header old front now
    pub few : length front + length rest ≤ length octets
    pub steps : ℕ
    pub enough : length rest ≤ steps
    pub within : length rest ≤ end
    pub same : with_front front (sets_at steps end domain all rest) ≡ total

  pub starts : (all : AllTemplates) → length octets ≤ end → sets_at (length octets) end domain all octets ≡ total
      → GoesOn old all octets
  starts all within is = record {
    front = [];
    took = takes_none holds header old;
    few = omega arith;
    steps =
        length octets;
    enough = omega arith;
    within = within;
    same =
        nothing (sets_at (length octets) end domain all octets) ∙ is;
  }

  module _ (now : S) (all : AllTemplates) (rest : List ℕ) (h : GoesOn now all rest) where
    module _ (some : 0 < length rest) where
      module _ (id : ℕ) (content after : List ℕ) (is : set_at (end - length rest) rest ≡ Ok (id, content, after))
          (parts : length content + length after + 4 ≡ length rest) where
        pub goes_on : (new : S) (next : AllTemplates)
            → (given : (more : List RawRecord)
            × (content_at (end - length after) domain id all content ≡ Ok (more, next))
            × (Took holds header now more new × (length more ≤ length content))) → GoesOn new next after
        unfolding sets_at
        goes_on new next given =
            record {
              front = h.front ++ given.0;
              took = takes_then holds header old now new h.front given.0 h.took given.2.0;
              few = omega (arith, h.few, given.2.1, length-append h.front given.0);
              steps = h.steps - 1;
              enough = omega (arith, h.enough);
              within = omega (arith, h.within);
              same = sym (step h.steps (omega (arith, h.enough))) ∙ h.same;
            }
          where
            step : (n : ℕ) → 0 < n
                → with_front h.front (sets_at n end domain all rest) ≡ with_front (h.front ++ given.0)
                (sets_at (n - 1) end domain next after)
            step zero lt = absurd (omega arith)
            step (suc n) lt =
                let k : suc n - 1 ≡ n = omega arith in
                let left : eqb (length rest) 0 ≡ false = ne_eqb (length rest) 0 (λ e. omega arith) in
                rw (left, is, given.1, k) (joined h.front given.0 (sets_at n end domain next after))

        pub ends_within : (e : MessageError) → Fails e (content_at (end - length after) domain id all content)
            → Fails e total
        unfolding sets_at
        ends_within e fails =
            Fails-of e (content_at (end - length after) domain id all content) total (λ fault holds. sym h.same
            ∙ step h.steps (omega (arith, h.enough)) fault holds) fails
          where
            step : (n : ℕ) → 0 < n → (fault : MessageError)
                → content_at (end - length after) domain id all content ≡ Err fault
                → with_front h.front (sets_at n end domain all rest) ≡ Err fault
            step zero lt fault holds = absurd (omega arith)
            step (suc n) lt fault holds =
                let left : eqb (length rest) 0 ≡ false = ne_eqb (length rest) 0 (λ e. omega arith) in
                rw (left, is, holds) refl

        pub is_refused : (e : E) → IsRefused holds refuses header now (length content) e
            → IsRefused holds refuses header old (length octets) e
        is_refused e why = refused_then holds header refuses old now h.front (length octets)
            (length content) e h.took why (omega (arith, h.few))

        -- a fault or a refusal in the Set's content is one of the whole
        pub stops : (e : WalkError E)
            → Feeds {X = Unit {0}} (λ _. Unit {0}) (IsRefused holds refuses header now (length content)) (λ _. all)
            (Err e) (content_at (end - length after) domain id all content)
            → Feeds {X = Unit {0}} (λ _. Unit {0}) (IsRefused holds refuses header old (length octets)) (λ _. all)
            (Err e) total
        stops (Message e) h = ends_within e h
        stops (Sink e) h = is_refused e h

      pub ends : (e : MessageError) → Fails e (set_at (end - length rest) rest) → Fails e total
      unfolding sets_at
      ends e fails =
          Fails-of e (set_at (end - length rest) rest) total (λ fault holds. sym h.same
          ∙ step h.steps (omega (arith, h.enough)) fault holds) fails
        where
          step : (n : ℕ) → 0 < n → (fault : MessageError) → set_at (end - length rest) rest ≡ Err fault
              → with_front h.front (sets_at n end domain all rest) ≡ Err fault
          step zero lt fault holds = absurd (omega arith)
          step (suc n) lt fault holds =
              let left : eqb (length rest) 0 ≡ false = ne_eqb (length rest) 0 (λ e. omega arith) in
              rw (left, holds) refl

    pub is_done : length rest ≡ 0 → (records : List RawRecord) × (total ≡ Ok (records, all))
        × (Took holds header old records now × (length records ≤ length octets))
    unfolding sets_at
    is_done none = (h.front, sym h.same ∙ last h.steps, (h.took, omega (arith, h.few)))
      where
        last : (n : ℕ) → with_front h.front (sets_at n end domain all rest) ≡ Ok (h.front, all)
        last zero = ap (λ (rs : List RawRecord). let r : Result (List RawRecord × AllTemplates) MessageError =
            Ok (rs, all) in r) (append-nil h.front)
        last (suc n) = rw none
            (ap (λ (rs : List RawRecord). let r : Result (List RawRecord × AllTemplates) MessageError = Ok (rs, all) in
            r) (append-nil h.front))
