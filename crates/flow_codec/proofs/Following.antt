-- A reader of a File beside the templates that its messages leave: for those who read one message after the other.
use Rattle.std.proofs.Common.{◌≡◌, ◌⊎◌, inl, inr, ℕ, ◌+◌, true, false, List, [], ◌∷◌, ◌++◌, length, Option, None, Some}
use Rattle.std.proofs.Common.{IfSome, Ok, Err, refl, sym, ap, subst, ◌∙◌, append_assoc, arith}
use Rattle.std.specs.Io.KnownBytes.{Consumes, IsAtEnd}
use Rattle.std.proofs.lemmas.List.{append-nil, length-append}
use Rattle.std.proofs.lemmas.List.Concat.{flat_map-append}
use Rattle.flow_codec.specs.declared.error.MessageError.{MessageError}
use Rattle.flow_codec.specs.declared.file.FileError.{FileError}
use Rattle.flow_codec.specs.declared.stream.StreamError.{StreamError}
use Rattle.flow_codec.specs.declared.stream.StreamError.TheVariants.{File}
use Rattle.flow_codec.specs.Raw.{RawMessage}
use Rattle.flow_codec.specs.Templates.{AllTemplates}
use Rattle.flow_codec.specs.Message.{joined, IsAccepted}
use Rattle.flow_codec.specs.Fault.{IsFault}
use Rattle.flow_codec.specs.Cutting.{IsCutOff, IsFileFault}
use Rattle.flow_codec.specs.File.{AreAccepted, Ending, whole, broken, refused, EndsIn, AcceptedFront}
use Rattle.flow_codec.specs.Stream.{Progress, IsStop, IsStep}

-- these octets begin with these messages, accepted in turn, and `rest` follows them, at the place `at`
pub record Followed (octets : List ℕ) (at : ℕ) (rest : List ℕ) (messages : List RawMessage)
    (after : AllTemplates) : Type 0 where
  pub parts : List (List ℕ)
  pub divided : octets ≡ joined parts ++ rest
  pub accepted : AreAccepted [] parts messages after
  pub place : at ≡ length (joined parts)

-- the same of a reader whose octets may be known: it began with `start`, and has `left` now
abbrev pub Follows : Option (List ℕ) → Option (List ℕ) → ℕ → List RawMessage → AllTemplates → Type 0
Follows start left at messages after =
    IfSome start (λ octets. (rest : List ℕ) × (left ≡ Some rest) × Followed octets at rest messages after)

accepted_more : (before here next : AllTemplates) (parts : List (List ℕ)) (part : List ℕ) (ms : List RawMessage)
    (m : RawMessage) → AreAccepted before parts ms here → IsCutOff part → IsAccepted part here m next
    → AreAccepted before (parts ++ part ∷ []) (ms ++ m ∷ []) next
accepted_more before here next [] part [] m same cut accepted =
    (next, cut, subst (λ (t : AllTemplates). IsAccepted part t m next) same accepted, refl)
accepted_more before here next [] part (n ∷ ns) m none cut accepted = absurd none
accepted_more before here next (p ∷ ps) part [] m none cut accepted = absurd none
accepted_more before here next (p ∷ ps) part (n ∷ ns) m (mid, out, first, others) cut accepted =
    (mid, out, first, accepted_more mid here next ps part ns m others cut accepted)

followed_more : (octets : List ℕ) (at : ℕ) (part rest : List ℕ) (messages : List RawMessage) (here next : AllTemplates)
    (m : RawMessage) → Followed octets at (part ++ rest) messages here → IsCutOff part → IsAccepted part here m next
    → Followed octets (at + length part) rest (messages ++ m ∷ []) next
followed_more octets at part rest messages here next m so_far cut accepted =
    let parts = so_far.parts in
    let joint : joined (parts ++ part ∷ []) ≡ joined parts ++ part =
    flat_map-append (λ (r : List ℕ). r) parts (part ∷ [])
    ∙ ap (λ (xs : List ℕ). joined parts ++ xs) (append-nil part) in
    let size : length (joined parts ++ part) ≡ length (joined parts) + length part =
    length-append (joined parts) part in
    let old : at ≡ length (joined parts) = so_far.place in
    let sum : at + length part ≡ length (joined parts ++ part) = omega arith in
    record {
      parts = parts ++ part ∷ [];
      divided = so_far.divided ∙ sym (append_assoc (joined parts) part rest)
          ∙ ap (λ (xs : List ℕ). xs ++ rest) (sym joint);
      accepted = accepted_more [] here next parts part messages m so_far.accepted cut accepted;
      place = sum ∙ ap (λ (xs : List ℕ). length xs) (sym joint);
    }

-- at the start
pub follows_none : (start : Option (List ℕ)) → Follows start start 0 [] []
follows_none None = tt
follows_none (Some octets) = (octets, refl, record { parts = []; divided = refl; accepted = refl; place = refl })

-- a message was read, and accepted
pub follows_more : (start : Option (List ℕ)) (old new : Progress) (messages : List RawMessage)
    (here next : AllTemplates) (m : RawMessage) → Follows start old.rest old.at messages here
    → IsStep old (Ok true) new → IsAccepted new.message here m next
    → Follows start new.rest new.at (messages ++ m ∷ []) next
follows_more None old new messages here next m so_far step accepted = tt
follows_more (Some octets) old new messages here next m so_far step accepted = by new.rest refl
  where
    by : (left : Option (List ℕ)) → new.rest ≡ left → (rest : List ℕ) × (new.rest ≡ Some rest)
        × Followed octets new.at rest (messages ++ m ∷ []) next
    by None e = absurd (subst (λ (o : Option (List ℕ)). Consumes (Some so_far.0) o new.message) e
        (subst (λ (o : Option (List ℕ)). Consumes o new.rest new.message) so_far.1 step.3))
    by (Some left) e =
        let parts : so_far.0 ≡ new.message ++ left =
        subst (λ (o : Option (List ℕ)). Consumes (Some so_far.0) o new.message) e
        (subst (λ (o : Option (List ℕ)). Consumes o new.rest new.message) so_far.1 step.3) in
        let so : Followed octets old.at (new.message ++ left) messages here =
        subst (λ (xs : List ℕ). Followed octets old.at xs messages here) parts so_far.2 in (
          left,
          e,
          subst (λ (n : ℕ). Followed octets n left (messages ++ m ∷ []) next) (sym step.6)
              (followed_more octets old.at new.message left messages here next m so step.2 accepted),
        )

followed_front : (octets : List ℕ) (at : ℕ) (rest : List ℕ) (messages : List RawMessage) (after : AllTemplates)
    (ending : Ending) → Followed octets at rest messages after → EndsIn after at rest ending
    → AcceptedFront octets messages after ending
followed_front octets at rest messages after ending so_far end =
    record {
      parts = so_far.parts;
      rest = rest;
      divided = so_far.divided;
      accepted = so_far.accepted;
      end =
          subst (λ (n : ℕ). EndsIn after n rest ending) (so_far.place ∙ omega arith) end;
    }

-- the reader is at the end
pub follows_end : (start : Option (List ℕ)) (old new : Progress) (messages : List RawMessage) (after : AllTemplates)
    → Follows start old.rest old.at messages after → IsStep old (Ok false) new
    → IfSome start (λ octets. AcceptedFront octets messages after whole)
follows_end None old new messages after so_far step = tt
follows_end (Some octets) old new messages after so_far step =
    followed_front octets old.at so_far.0 messages after whole so_far.2
    (subst (λ (o : Option (List ℕ)). IsAtEnd o) so_far.1 step.3)

-- the reader stopped by a fault of the File
pub follows_broken : (start : Option (List ℕ)) (old new : Progress) (messages : List RawMessage) (after : AllTemplates)
    (fault : FileError) → old.stopped ≡ None → Follows start old.rest old.at messages after
    → IsStep old (Err (File fault)) new
    → IfSome start (λ octets. AcceptedFront octets messages after (broken fault))
follows_broken None old new messages after fault goes so_far step = tt
follows_broken (Some octets) old new messages after fault goes so_far step = by step.0
  where
    by : ((old.stopped ≡ Some (File fault)) ⊎ ((old.stopped ≡ None) × IsStop old.count old.at old.rest (File fault)))
        → AcceptedFront octets messages after (broken fault)
    by (inl stopped) = absurd (differs (sym goes ∙ stopped))
      where
        differs : (let none : Option StreamError = None in none ≡ Some (File fault)) → ⊥
        differs e = cc
    by (inr stop) =
        let bad = stop.1 in
        let same : so_far.0 ≡ bad.0 = subst (λ (o : Option (List ℕ)). IfSome o (λ xs. xs ≡ bad.0)) so_far.1 bad.2 in
        followed_front octets old.at so_far.0 messages after (broken fault) so_far.2
        (subst (λ (xs : List ℕ). IsFileFault old.at xs fault) (sym same) bad.1)

-- a message was read, and refused
pub follows_refused : (start : Option (List ℕ)) (old new : Progress) (messages : List RawMessage)
    (after : AllTemplates) (fault : MessageError) → Follows start old.rest old.at messages after
    → IsStep old (Ok true) new → IsFault new.message after fault
    → IfSome start (λ octets. AcceptedFront octets messages after (refused fault))
follows_refused None old new messages after fault so_far step bad = tt
follows_refused (Some octets) old new messages after fault so_far step bad = by new.rest refl
  where
    by : (left : Option (List ℕ)) → new.rest ≡ left → AcceptedFront octets messages after (refused fault)
    by None e = absurd (subst (λ (o : Option (List ℕ)). Consumes (Some so_far.0) o new.message) e
        (subst (λ (o : Option (List ℕ)). Consumes o new.rest new.message) so_far.1 step.3))
    by (Some left) e =
        let parts : so_far.0 ≡ new.message ++ left =
        subst (λ (o : Option (List ℕ)). Consumes (Some so_far.0) o new.message) e
        (subst (λ (o : Option (List ℕ)). Consumes o new.rest new.message) so_far.1 step.3) in
        followed_front octets old.at so_far.0 messages after (refused fault) so_far.2 (
          new.message,
          left,
          parts,
          step.2,
          bad,
        )
