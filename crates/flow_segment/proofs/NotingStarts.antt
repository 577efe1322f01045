-- Data records that are counted, and whose flows' starts are noted.
use Rattle.std.proofs.Common.{◌≡◌, ℕ, ◌+◌, ◌%◌, ◌^◌, List, [], ◌∷◌, ◌++◌, length, Option, Some, None, refl, sym, ap}
use Rattle.std.proofs.Common.{◌∙◌, arith, length-append}
use Rattle.std.specs.Prelude.{option_map}
use Rattle.std.proofs.lemmas.List.{append-nil, map-append}
use Rattle.std.proofs.lemmas.List.Concat.{flat_map-append}
use Rattle.flow_codec.specs.declared.message.Header.{Header}
use Rattle.flow_codec.specs.Message.{in_fields}
use Rattle.flow_codec.specs.Raw.{under, Placed, RawMessage}
use Rattle.flow_measure.specs.declared.flow.Flow.{Flow}
use Rattle.flow_measure.specs.declared.span.PartSpan.{PartSpan}
use Rattle.flow_measure.specs.Flows.{flows_of, flows_of_records}
use Rattle.flow_measure.specs.History.{flows_in, Accepted}
use Rattle.flow_measure.specs.Span.{starts_of, with_start, with_starts}
use Rattle.flow_measure.proofs.SinkSteps.{flows-in_fields}
use Rattle.flow_segment.specs.Spans.{all_noted, noted, HasNoted}

-- starts after others
pub starts_then : (s : PartSpan) (xs ys : List ℕ) → with_starts s (xs ++ ys) ≡ with_starts (with_starts s xs) ys
starts_then s [] ys = refl
starts_then s (x ∷ xs) ys = starts_then (with_start x s) xs ys

pub flows_then : (s : PartSpan) (fs gs : List Flow)
    → with_starts s (starts_of (fs ++ gs)) ≡ with_starts (with_starts s (starts_of fs)) (starts_of gs)
flows_then s fs gs =
    ap (with_starts s) (map-append (λ (f : Flow). f.start) fs gs) ∙ starts_then s (starts_of fs) (starts_of gs)

one_more : (records count number : ℕ) (taken : List Placed) (x : Placed) → count ≡ (number + 1) % 2 ^ 32
    → number % 2 ^ 32 ≡ (records + length taken) % 2 ^ 32
    → count % 2 ^ 32 ≡ (records + length (taken ++ x ∷ [])) % 2 ^ 32
one_more records count number taken x is h = omega (arith, is, h, length-append taken (x ∷ []))

module _ (start_records : ℕ) (start_span : Option PartSpan) (taken : List Placed) (x : Placed) (old count : ℕ)
    (is : count ≡ (old + 1) % 2 ^ 32) where
  abbrev all : List Flow
  all = flows_of_records (taken ++ x ∷ [])

  -- a record without a flow
  pub same_more : (span : Option PartSpan) → all ≡ flows_of_records taken
      → HasNoted start_records start_span taken old span
      → HasNoted start_records start_span (taken ++ x ∷ []) count span
  same_more span same h = (
    one_more start_records count old taken x is h.0,
    h.1 ∙ ap (λ (fs : List Flow). option_map (λ p. with_starts p (starts_of fs)) start_span) (sym same),
  )

  -- a flow
  pub start_more : (f : Flow) (old_span span : Option PartSpan) → all ≡ flows_of_records taken ++ f ∷ []
      → span ≡ option_map (λ s. with_start f.start s) old_span → HasNoted start_records start_span taken old old_span
      → HasNoted start_records start_span (taken ++ x ∷ []) count span
  start_more f old_span span more now h = (
    one_more start_records count old taken x is h.0,
    now ∙ ap (option_map (λ s. with_start f.start s)) h.1 ∙ by start_span,
  )
    where
      by : (o : Option PartSpan)
          → option_map (λ s. with_start f.start s)
          (option_map (λ p. with_starts p (starts_of (flows_of_records taken))) o)
          ≡ option_map (λ p. with_starts p (starts_of all)) o
      by None = refl
      by (Some p) =
          ap Some (sym (flows_then p (flows_of_records taken) (f ∷ []))
          ∙ ap (λ (fs : List Flow). with_starts p (starts_of fs)) (sym more))

same_option : (o : Option PartSpan) → o ≡ option_map (λ p. with_starts p (starts_of (flows_of_records []))) o
same_option None = refl
same_option (Some p) = refl

-- before any record
pub none_noted : (records : ℕ) (span : Option PartSpan) → HasNoted records span [] records span
none_noted records span = (ap (λ (n : ℕ). n % 2 ^ 32) (omega arith), same_option span)

-- all records of a message
pub message_noted : (m : RawMessage) (header : Header) (start records : ℕ) (old new : Option PartSpan)
    → header ≡ m.header → HasNoted start old ([] ++ under header m.records) records new → new ≡ noted m old
message_noted m header start records old new is h =
    h.1
    ∙ ap (λ (x : Header). option_map (λ p. with_starts p (starts_of (flows_of_records (under x m.records)))) old) is
    ∙ ap (λ (fs : List Flow). option_map (λ p. with_starts p (starts_of fs)) old) (sym (flows-in_fields m))

flows_more : (ms : List Accepted) (x : Accepted)
    → flows_in (ms ++ x ∷ []) ≡ flows_in ms ++ flows_of (in_fields x.message)
flows_more ms x =
    flat_map-append (λ (a : Accepted). flows_of (in_fields a.message)) ms (x ∷ [])
    ∙ ap (λ (fs : List Flow). flows_in ms ++ fs) (append-nil (flows_of (in_fields x.message)))

-- one message more
pub all_then : (ms : List Accepted) (x : Accepted) (start : Option PartSpan)
    → noted x.message (all_noted ms start) ≡ all_noted (ms ++ x ∷ []) start
all_then ms x None = refl
all_then ms x (Some s) =
    ap Some (sym (flows_then s (flows_in ms) (flows_of (in_fields x.message)))
    ∙ ap (λ (fs : List Flow). with_starts s (starts_of fs)) (sym (flows_more ms x)))

-- those of several messages after others
pub all_after : (xs ys : List Accepted) (start : Option PartSpan)
    → all_noted ys (all_noted xs start) ≡ all_noted (xs ++ ys) start
all_after xs ys None = refl
all_after xs ys (Some s) =
    ap Some (sym (flows_then s (flows_in xs) (flows_in ys))
    ∙ ap (λ (fs : List Flow). with_starts s (starts_of fs))
    (sym (flat_map-append (λ (a : Accepted). flows_of (in_fields a.message)) xs ys)))

-- those of no message
pub none_after : (start : Option PartSpan) → start ≡ all_noted [] start
none_after None = refl
none_after (Some s) = refl
