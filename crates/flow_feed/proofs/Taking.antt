-- What an appender has taken, one thing after the other.
use Rattle.std.proofs.Common.{◌≡◌, ◌∙◌, ℕ, Bool, true, false, List, [], ◌∷◌, ◌++◌, Option, Some, None, Result, Ok, Err}
use Rattle.std.proofs.Common.{◌≤◌, ◌<◌, refl, sym, ap, ap₂, subst, append-nil, append_assoc, length, arith}
use Rattle.std.specs.Prelude.{nat_lt, ◌&&◌, IsErrAnd}
use Rattle.flow_disk.specs.Cause.{HasCause}
use Rattle.std.proofs.lemmas.Bool.{le-ltb, lt-ltb}
use Rattle.std.proofs.lemmas.List.Concat.{flat_map-append}
use Rattle.flow_archive.specs.declared.refusal.ArchiveError.{ArchiveError}
use Rattle.flow_feed.specs.Given.{acknowledged, acknowledged_in, is_of_messages, AfterOne, AfterRefused, AreGiven}
use Rattle.flow_feed.specs.Feed.{batch_of, in_order}
use Rattle.flow_feed.specs.Given.{AfterEnd, AreGivenInTurn, AreGivenSingly, Given, HasTaken, IsGivenTogether}

-- an answer that is this refusal
pub refused_as : (answer : Result ℕ ArchiveError) (e : ArchiveError) (P : Result ℕ ArchiveError → Type 0)
    → IsErrAnd answer (λ x. x ≡ e) → P (Err e) → P answer
refused_as (Ok position) e P is holds = absurd is
refused_as (Err x) e P is holds = subst (λ (y : ArchiveError). P (Err y)) (sym is) holds

-- why a call is refused, of whatever it would answer
pub refused_cause : {X : Type 0} (fault e : ArchiveError) (before now : ℕ) → HasCause {T = X} fault before now (Err e)
    → HasCause {T = ℕ} fault before now (Err e)
refused_cause fault e before now was = record {
  later = was.later;
  done = tt;
  risen = λ same. was.risen (ap (λ (y : ArchiveError). Err y) (let this : e ≡ fault = cc in this));
  other = was.other;
}

pub append_one : (a : List (List ℕ)) (m : List ℕ) (b : List (List ℕ)) → (a ++ m ∷ []) ++ b ≡ a ++ m ∷ b
append_one a m b = append_assoc a (m ∷ []) b

-- whether a batch is given once more, one by one
pub several : (n : ℕ) (error : ArchiveError) → 1 < n → is_of_messages error ≡ true
    → (nat_lt 1 n && is_of_messages error) ≡ true
several n error more is = rw (lt-ltb 1 n more, is) refl

pub not_several : (n : ℕ) (error : ArchiveError) → n ≤ 1 → (nat_lt 1 n && is_of_messages error) ≡ false
not_several n error few = rw (le-ltb 1 n few) refl

pub not_of_messages : (n : ℕ) (error : ArchiveError) → is_of_messages error ≡ false
    → (nat_lt 1 n && is_of_messages error) ≡ false
not_of_messages n error is = rw is (by (nat_lt 1 n))
  where
    by : (b : Bool) → (b && false) ≡ false
    by true = refl
    by false = refl

pub acknowledged_then : (xs ys : List Given) → acknowledged (xs ++ ys) ≡ acknowledged xs ++ acknowledged ys
acknowledged_then [] ys = refl
acknowledged_then (x ∷ xs) ys =
    let own = acknowledged_in x.messages x.answer in
    ap (λ (l : List (List ℕ)). own ++ l) (acknowledged_then xs ys)
    ∙ sym (append_assoc own (acknowledged xs) (acknowledged ys))

-- messages that are given one by one, and then others
singly_then : (messages : List (List ℕ)) (given : List Given) (others : List (List ℕ)) (more : List Given)
    (stop : Option ArchiveError) → AreGivenSingly messages given None → AreGivenSingly others more stop
    → AreGivenSingly (messages ++ others) (given ++ more) stop
singly_then [] given others more stop first second =
    subst (λ (l : List Given). AreGivenSingly others (l ++ more) stop) (sym first.0) second
singly_then (m ∷ ms) [] others more stop first second = absurd first
singly_then (m ∷ ms) (one ∷ given) others more stop first second =
    (first.0, by one.answer (λ after. singly_then ms given others more stop after second) first.1)
  where
    by : (answer : Result ℕ ArchiveError)
        → (AreGivenSingly ms given None → AreGivenSingly (ms ++ others) (given ++ more) stop)
        → AfterOne answer (AreGivenSingly ms given None) given None
        → AfterOne answer (AreGivenSingly (ms ++ others) (given ++ more) stop) (given ++ more) stop
    by (Ok position) onwards after = onwards after
    by (Err error) onwards after = let none = after.1 in absurd cc

-- a batch by itself
turn_one : (batch : List (List ℕ)) (given : List Given) (stop : Option ArchiveError) → IsGivenTogether batch given stop
    → AreGivenInTurn (batch ∷ []) given stop
turn_one batch given None is = (given, [], None, sym (append-nil given), is, (refl, refl))
turn_one batch given (Some error) is = (given, [], Some error, sym (append-nil given), is, ((refl, refl), refl))

-- batches, and then others
turn_then : (batches : List (List (List ℕ))) (given : List Given) (others : List (List (List ℕ))) (more : List Given)
    (stop : Option ArchiveError) → AreGivenInTurn batches given None → AreGivenInTurn others more stop
    → AreGivenInTurn (batches ++ others) (given ++ more) stop
turn_then [] given others more stop first second =
    subst (λ (l : List Given). AreGivenInTurn others (l ++ more) stop) (sym first.0) second
turn_then (batch ∷ batches) given others more stop (own, rest, ended, are, is, after) second =
    by ended is (λ next. turn_then batches rest others more stop next second) after
  where
    by : (ended : Option ArchiveError) → IsGivenTogether batch own ended
        → (AreGivenInTurn batches rest None → AreGivenInTurn (batches ++ others) (rest ++ more) stop)
        → AfterEnd ended (AreGivenInTurn batches rest None) ((batches ≡ []) × (rest ≡ [])) None
        → AreGivenInTurn (batch ∷ (batches ++ others)) (given ++ more) stop
    by None is onwards after = (
      own,
      rest ++ more,
      None,
      ap (λ (l : List Given). l ++ more) are ∙ append_assoc own rest more,
      is,
      onwards after,
    )
    by (Some error) is onwards after = let none = after.1 in absurd cc

module _ {S : Type 0} (appends : S → S → List (List ℕ) → Result ℕ ArchiveError → Type 0) where
  pub given_then : (old mid new : S) (xs ys : List Given) → AreGiven appends old mid xs → AreGiven appends mid new ys
      → AreGiven appends old new (xs ++ ys)
  given_then old mid new [] ys first second = subst (λ (s : S). AreGiven appends s new ys) first second
  given_then old mid new (x ∷ xs) ys first second =
      (first.0, first.1, given_then first.0 mid new xs ys first.2 second)

  -- by one plan, and then by another
  taken_then : (plan next both : List Given → Option ArchiveError → Type 0) (old mid new : S) (a b : List (List ℕ))
      (first second : Option ArchiveError)
      → ((xs ys : List Given) → plan xs first → next ys second → both (xs ++ ys) second)
      → HasTaken appends plan old mid a first → HasTaken appends next mid new b second
      → HasTaken appends both old new (a ++ b) second
  taken_then plan next both old mid new a b first second joins p q = record {
    given = p.given ++ q.given;
    run = given_then old mid new p.given q.given p.run q.run;
    planned = joins p.given q.given p.planned q.planned;
    messages_are = acknowledged_then p.given q.given
        ∙ ap₂ (λ (x : List (List ℕ)) (y : List (List ℕ)). x ++ y) p.messages_are q.messages_are;
  }

  -- ---- one by one

  pub singly_none : (s : S) → HasTaken appends (AreGivenSingly []) s s [] None
  singly_none s = record { given = []; run = refl; planned = (refl, refl); messages_are = refl }

  singly_one : (old new : S) (message : List ℕ) (position : ℕ) → appends old new (message ∷ []) (Ok position)
      → HasTaken appends (AreGivenSingly (message ∷ [])) old new (message ∷ []) None
  singly_one old new message position is = record {
    given = record { messages = message ∷ []; answer = Ok position } ∷ [];
    run = (new, is, refl);
    planned = (refl, (refl, refl));
    messages_are = refl;
  }

  singly_refused : (old new : S) (message : List ℕ) (others : List (List ℕ)) (error : ArchiveError)
      → appends old new (message ∷ []) (Err error)
      → HasTaken appends (AreGivenSingly (message ∷ others)) old new [] (Some error)
  singly_refused old new message others error is = record {
    given = record { messages = message ∷ []; answer = Err error } ∷ [];
    run = (new, is, refl);
    planned = (refl, (refl, refl));
    messages_are = refl;
  }

  module _ (old mid new : S) (a : List (List ℕ)) (message : List ℕ)
      (so_far : HasTaken appends (AreGivenSingly a) old mid a None) where
    -- messages that are taken, and one more
    pub singly_more : (position : ℕ) → appends mid new (message ∷ []) (Ok position)
        → HasTaken appends (AreGivenSingly (a ++ message ∷ [])) old new (a ++ message ∷ []) None
    singly_more position is =
        taken_then (AreGivenSingly a) (AreGivenSingly (message ∷ [])) (AreGivenSingly (a ++ message ∷ [])) old mid new a
        (message ∷ []) None None (λ xs ys. singly_then a xs (message ∷ []) ys None) so_far
        (singly_one mid new message position is)

    -- messages that are taken, and one that is refused
    pub singly_ended : (others : List (List ℕ)) (error : ArchiveError) → appends mid new (message ∷ []) (Err error)
        → HasTaken appends (AreGivenSingly (a ++ message ∷ others)) old new a (Some error)
    singly_ended others error is =
        subst (λ (l : List (List ℕ)). HasTaken appends (AreGivenSingly (a ++ message ∷ others)) old new l (Some error))
        (append-nil a)
        (taken_then (AreGivenSingly a) (AreGivenSingly (message ∷ others)) (AreGivenSingly (a ++ message ∷ others)) old
        mid new a [] None (Some error) (λ xs ys. singly_then a xs (message ∷ others) ys (Some error)) so_far
        (singly_refused mid new message others error is))

  -- ---- a batch

  module _ (old new : S) (messages : List (List ℕ)) where
    pub batch_taken : (position : ℕ) → appends old new messages (Ok position)
        → HasTaken appends (IsGivenTogether messages) old new messages None
    batch_taken position is = record {
      given = record { messages = messages; answer = Ok position } ∷ [];
      run = (new, is, refl);
      planned = (refl, (refl, refl));
      messages_are = append-nil messages;
    }

    module _ (error : ArchiveError) where
      pub batch_refused : (nat_lt 1 (length messages) && is_of_messages error) ≡ false
          → appends old new messages (Err error)
          → HasTaken appends (IsGivenTogether messages) old new [] (Some error)
      batch_refused never is = record {
        given = record { messages = messages; answer = Err error } ∷ [];
        run = (new, is, refl);
        planned = (
          refl,
          subst (λ (b : Bool). AfterRefused b messages error [] (Some error)) (sym never) (refl, refl),
        );
        messages_are = refl;
      }

      pub batch_singly : (mid : S) (taken : List (List ℕ)) (stop : Option ArchiveError)
          → (nat_lt 1 (length messages) && is_of_messages error) ≡ true → appends old mid messages (Err error)
          → HasTaken appends (AreGivenSingly messages) mid new taken stop
          → HasTaken appends (IsGivenTogether messages) old new taken stop
      batch_singly mid taken stop again is q = record {
        given = record { messages = messages; answer = Err error } ∷ q.given;
        run = (mid, is, q.run);
        planned = (
          refl,
          subst (λ (b : Bool). AfterRefused b messages error q.given stop) (sym again) q.planned,
        );
        messages_are = q.messages_are;
      }

  -- ---- batches in turn

  pub turns_none : (s : S) → HasTaken appends (AreGivenInTurn []) s s [] None
  turns_none s = record { given = []; run = refl; planned = (refl, refl); messages_are = refl }

  -- a batch of some messages
  pub turns_one : (old new : S) (messages taken : List (List ℕ)) (stop : Option ArchiveError) → 1 ≤ length messages
      → HasTaken appends (IsGivenTogether messages) old new taken stop
      → HasTaken appends (AreGivenInTurn (batch_of messages)) old new taken stop
  turns_one old new [] taken stop some p = absurd (omega (arith, some))
  turns_one old new (m ∷ ms) taken stop some p = record {
    given = p.given;
    run = p.run;
    planned = turn_one (m ∷ ms) p.given stop p.planned;
    messages_are = p.messages_are;
  }

  -- batches that are taken, and others
  pub turns_then : (batches others : List (List (List ℕ))) (old mid new : S) (a b : List (List ℕ))
      (stop : Option ArchiveError) → HasTaken appends (AreGivenInTurn batches) old mid a None
      → HasTaken appends (AreGivenInTurn others) mid new b stop
      → HasTaken appends (AreGivenInTurn (batches ++ others)) old new (a ++ b) stop
  turns_then batches others old mid new a b stop p q =
      taken_then (AreGivenInTurn batches) (AreGivenInTurn others) (AreGivenInTurn (batches ++ others)) old mid new a b
      None stop (λ xs ys. turn_then batches xs others ys stop) p q

-- the messages of a batch
pub in_order_then : (a b : List (List (List ℕ))) → in_order (a ++ b) ≡ in_order a ++ in_order b
in_order_then a b = flat_map-append (λ (batch : List (List ℕ)). batch) a b

pub in_order_one : (messages : List (List ℕ)) → in_order (batch_of messages) ≡ messages
in_order_one [] = refl
in_order_one (m ∷ ms) = append-nil (m ∷ ms)
