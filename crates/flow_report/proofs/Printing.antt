-- How `dump` goes on, message by message.
use Rattle.std.proofs.Common.{◌≡◌, ℕ, ◌+◌, ◌<◌, ◌^◌, List, [], ◌∷◌, ◌++◌, length, Option, Some, None, IfSome, Ok, Err}
use Rattle.std.proofs.Common.{refl, sym, ap, ◌∙◌, subst, append-nil, arith, inr, length-append}
use Rattle.std.proofs.lemmas.List.Concat.{flat_map-append}
use Rattle.std.proofs.lemmas.List.{take_all}
use Rattle.std.specs.Io.KnownBytes.{Appends}
use Rattle.std.proofs.KnownBytes.{Appends-nil}
use Rattle.flow_codec.specs.Raw.{RawMessage}
use Rattle.flow_codec.specs.Templates.{AllTemplates}
use Rattle.flow_codec.specs.declared.patient.ReadFailed.{ReadFailed}
use Rattle.flow_codec.specs.Stream.{ReaderState, Progress, progress}
use Rattle.flow_codec.specs.File.{AcceptedFront, whole}
use Rattle.flow_report.specs.declared.dumping.HeldMessage.{HeldMessage}
use Rattle.flow_report.specs.declared.refusal.Refusal.{Refusal}
use Rattle.flow_report.specs.declared.refusal.Refusal.TheVariants.{Message, File, OutOfMemory, SumSpent, NumbersSpent}
use Rattle.flow_report.specs.declared.refusal.Refusal.TheVariants.{Read, Write}
use Rattle.flow_report.specs.Lines.{message_text, dump_text}
use Rattle.flow_report.specs.Writing.{AppendsFront}
use Rattle.flow_report.specs.Telling.{Tells, TellsFront, IsCutShort, IsCutIn}
use Rattle.flow_report.specs.Dump.{message_of, IsNext, ReadsWithin, IsDumped, IsDumpedUntil}
use Rattle.flow_codec.specs.declared.stream.StreamError.TheVariants.{File as FileStopped}
use Rattle.flow_codec.proofs.Following.{Follows, follows_none, follows_more, follows_end, follows_broken}
use Rattle.flow_codec.proofs.Following.{follows_refused}
use Rattle.flow_report.specs.Fronts.{IsFront}
use Rattle.flow_report.proofs.Reached.{IsShort, reached, spent_at, read_up}
use Rattle.flow_report.proofs.Joining.{tells_then, stops_then, holds_more, all_written, front_written}

-- a reader that was not stopped
abbrev going : List ℕ → Option (List ℕ) → ℕ → ℕ → Progress
going octets left count at = record { rest = left; message = octets; count = count; at = at; stopped = None }

-- the messages that were accepted so far, and their lines, some of them held
pub record IsDumping (input old : Option (List ℕ)) (reader : Progress) (here : AllTemplates) (now : Option (List ℕ))
    (held : List ℕ) : Type 0 where
  pub messages : List RawMessage
  pub run : Follows input reader.rest reader.at messages here
  pub counted : reader.count ≡ length messages
  pub told : Tells old [] now held (dump_text messages)
  pub fresh : reader.stopped ≡ None
  pub few : reader.count < 2 ^ 48

-- where the next message is refused since a read failed
pub short_by : (old new : ReaderState) (left unread : Option (List ℕ)) (e : Refusal) → old.stopped ≡ None
    → ReadsWithin old left e new unread → (failed : ReadFailed) → e ≡ Read failed
    → IsShort (progress old left) new.ahead unread
short_by old new left unread e fresh within failed is =
    (subst (λ (r : Refusal). ReadsWithin old left r new unread) is within) fresh

implied : (o : Option (List ℕ)) (P Q : List ℕ → Type 0) → ((x : List ℕ) → P x → Q x) → IfSome o P → IfSome o Q
implied None P Q f p = tt
implied (Some x) P Q f p = f x p

text_then : (messages : List RawMessage) (m : RawMessage)
    → dump_text (messages ++ m ∷ []) ≡ dump_text messages ++ message_text m
text_then messages m = flat_map-append message_text messages (m ∷ [])
    ∙ ap (λ (t : List ℕ). dump_text messages ++ t) (append-nil (message_text m))

pub begins : (input old : Option (List ℕ)) (reader : Progress) (here : AllTemplates) (held : List ℕ)
    → reader ≡ record { rest = input; message = []; count = 0; at = 0; stopped = None } → here ≡ [] → held ≡ []
    → IsDumping input old reader here old held
begins input old reader here held is none nothing =
    let P : Progress → AllTemplates → List ℕ → Type 0 = λ r t h. IsDumping input old r t old h in
    let fresh : Progress = record { rest = input; message = []; count = 0; at = 0; stopped = None } in
    let first : P fresh [] [] =
    record {
      messages = [];
      run = follows_none input;
      counted = refl;
      told = holds_more old [] [] [] refl;
      fresh =
          refl;
      few = omega arith;
    } in
    subst (λ (r : Progress). P r here held) (sym is)
    (subst (λ (t : AllTemplates). P fresh t held) (sym none)
    (subst (λ (h : List ℕ). P fresh [] h) (sym nothing) first))

module _ (input old : Option (List ℕ)) (reader : Progress) (here : AllTemplates) (now : Option (List ℕ))
    (held : List ℕ) (is : IsDumping input old reader here now held) where
  more : (m : HeldMessage) (next : Progress) (after : AllTemplates) → IsNext reader here (Ok (Some m)) next after
      → Follows input next.rest next.at (is.messages ++ message_of m ∷ []) after
  more m next after step =
      follows_more input reader (going step.0 next.rest next.count next.at) is.messages here after
      (message_of m) is.run (is.fresh, refl, step.1, step.3, step.4, step.5, step.6) step.2

  -- an accepted message, with all its lines
  pub dumps_next : (m : HeldMessage) (next : Progress) (after : AllTemplates) (then : Option (List ℕ)) (left : List ℕ)
      → IsNext reader here (Ok (Some m)) next after → Tells now held then left (message_text (message_of m))
      → IsDumping input old next after then left
  dumps_next m next after then left step told =
      record {
        messages = is.messages ++ message_of m ∷ [];
        run = more m next after step;
        counted = omega (arith, is.counted, step.4, length-append is.messages (message_of m ∷ []));
        told =
            subst (λ (t : List ℕ). Tells old [] then left t) (sym (text_then is.messages (message_of m)))
            (tells_then old now then [] held left (dump_text is.messages)
            (message_text (message_of m)) is.told told);
        fresh = step.7;
        few = step.5;
      }

  -- an accepted message, with a prefix of its lines
  pub cuts_next : (unread : Option (List ℕ)) (m : HeldMessage) (next : Progress) (after : AllTemplates)
      (then : Option (List ℕ)) (e : Refusal)
      → IsNext reader here (Ok (Some m)) next after → IsCutIn now held then (message_text (message_of m)) e
      → IfSome input (λ octets. IsDumpedUntil octets unread old then e)
  cuts_next unread m next after then e step cut =
      let ms : List RawMessage = is.messages ++ message_of m ∷ [] in
      let front = stops_then old now then [] held (dump_text is.messages) (message_text (message_of m)) is.told cut.1 in
      let written : AppendsFront old then (dump_text ms) =
      front_written old then (dump_text ms)
      (subst (λ (t : List ℕ). TellsFront old [] then t) (sym (text_then is.messages (message_of m))) front) in
      implied input (λ octets. IsFront octets ms) (λ octets. IsDumpedUntil octets unread old then e)
      (λ octets f. cut_is octets ms then e f written cut.0)
      (reached input next.rest next.at ms after (more m next after step))
    where
      cut_is : (octets : List ℕ) (ms : List RawMessage) (then : Option (List ℕ)) (e : Refusal) → IsFront octets ms
          → AppendsFront old then (dump_text ms) → IsCutShort e → IsDumpedUntil octets unread old then e
      cut_is octets ms then OutOfMemory f w short = (ms, f, w)
      cut_is octets ms then (Write failed) f w short = (ms, f, w)
      cut_is octets ms then (Message fault number) f w short = absurd short
      cut_is octets ms then (File fault) f w short = absurd short
      cut_is octets ms then SumSpent f w short = absurd short
      cut_is octets ms then NumbersSpent f w short = absurd short
      cut_is octets ms then (Read failed) f w short = absurd short

  -- the text held can't be written
  pub cuts_held : (unread then : Option (List ℕ)) (e : Refusal) → (failed : _) × (e ≡ Write failed)
      → TellsFront now held then [] → IfSome input (λ octets. IsDumpedUntil octets unread old then e)
  cuts_held unread then e write front =
      let all = stops_then old now then [] held (dump_text is.messages) [] is.told front in
      let written : AppendsFront old then (dump_text is.messages) =
      front_written old then (dump_text is.messages)
      (subst (λ (t : List ℕ). TellsFront old [] then t) (append-nil (dump_text is.messages)) all) in
      subst (λ (r : Refusal). IfSome input (λ octets. IsDumpedUntil octets unread old then r)) (sym write.1)
      (implied input (λ octets. IsFront octets is.messages)
      (λ octets. IsDumpedUntil octets unread old then (Write write.0))
      (λ octets f. (is.messages, f, written)) (reached input reader.rest reader.at is.messages here is.run))

  all_told : (then : Option (List ℕ)) (left : List ℕ) → Tells now held then left [] → left ≡ []
      → Appends old then (dump_text is.messages)
  all_told then left told none =
      let all = tells_then old now then [] held left (dump_text is.messages) [] is.told told in
      all_written old then left (dump_text is.messages)
      (subst (λ (t : List ℕ). Tells old [] then left t) (append-nil (dump_text is.messages)) all) none

  -- at the File's end
  pub ends_whole : (next : Progress) (after : AllTemplates) (then : Option (List ℕ)) (left : List ℕ)
      → IsNext reader here (Ok None) next after → Tells now held then left [] → left ≡ []
      → IfSome input (λ octets. IsDumped octets old then)
  ends_whole next after then left step told none =
      let written = all_told then left told none in
      implied input (λ octets. AcceptedFront octets is.messages here whole) (λ octets. IsDumped octets old then)
      (λ octets f. (is.messages, here, f, written))
      (follows_end input reader (going [] reader.rest reader.count reader.at) is.messages here is.run (
        is.fresh,
        refl,
        refl,
        step,
        step,
        refl,
        refl,
      ))

  -- where the next message is refused, or can't be read
  pub ends_refused : (unread : Option (List ℕ)) (ahead : List ℕ) (e : Refusal) (next : Progress) (after : AllTemplates)
      (then : Option (List ℕ)) (left : List ℕ) → IsNext reader here (Err e) next after
      → ((failed : ReadFailed) → e ≡ Read failed → IsShort reader ahead unread) → Tells now held then left []
      → left ≡ [] → IfSome input (λ octets. IsDumpedUntil octets unread old then e)
  ends_refused unread ahead e next after then left step short told none = by_cause e step short
    where
      written : Appends old then (dump_text is.messages)
      written = all_told then left told none

      front : IfSome input (λ octets. IsFront octets is.messages)
      front = reached input reader.rest reader.at is.messages here is.run

      some : AppendsFront old then (dump_text is.messages)
      some = (
        length (dump_text is.messages),
        omega arith,
        subst (λ (t : List ℕ). Appends old then t)
            (sym (take_all (length (dump_text is.messages)) (dump_text is.messages) (omega arith))) written,
      )

      by_cause : (e : Refusal) → IsNext reader here (Err e) next after
          → ((failed : ReadFailed) → e ≡ Read failed → IsShort reader ahead unread)
          → IfSome input (λ octets. IsDumpedUntil octets unread old then e)
      by_cause (Message fault number) step short =
          implied input _ _ (λ octets f. (is.messages, here, f, step.4 ∙ ap (λ (n : ℕ). n + 1) is.counted, written))
          (follows_refused input reader
          (going step.0 next.rest number (reader.at + length step.0)) is.messages here fault is.run (
            is.fresh,
            refl,
            step.1,
            step.3,
            step.4,
            step.5,
            refl,
          ) step.2)
      by_cause (File fault) step short =
          implied input _ _ (λ octets f. (is.messages, here, f, written))
          (follows_broken input reader (record {
            rest = reader.rest;
            message = [];
            count = reader.count;
            at =
                reader.at;
            stopped = Some (FileStopped fault);
          }) is.messages here fault is.fresh is.run
          (inr (is.fresh, step), refl, refl, refl, refl))
      by_cause OutOfMemory step short = implied input _ _ (λ octets f. (is.messages, f, some)) front
      by_cause SumSpent step short = absurd step
      by_cause NumbersSpent step short =
          implied input _ _ (λ octets f. (is.messages, f, written))
          (spent_at input reader.rest reader.at is.messages here is.run (sym is.counted ∙ step.0) step.1)
      by_cause (Read failed) step short =
          let ahead_is = short failed refl in
          implied input _ _ (λ octets f. (is.messages, f, written))
          (read_up input reader.rest unread reader.at is.messages here ahead is.run ahead_is.0 ahead_is.1)
      by_cause (Write failed) step short = implied input _ _ (λ octets f. (is.messages, f, some)) front

-- before anything is read
pub ends_at_once : (input unread old : Option (List ℕ))
    → IfSome input (λ octets. IsDumpedUntil octets unread old old OutOfMemory)
ends_at_once None unread old = tt
ends_at_once (Some octets) unread old = (
  [],
  ([], octets, refl, [], record { parts = []; rest = []; divided = refl; accepted = refl; end = refl }),
  (0, omega arith, Appends-nil old),
)
