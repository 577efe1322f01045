-- A sink takes records one after the other, or refuses one.
use Rattle.std.proofs.Common.{◌≡◌, ℕ, ◌+◌, ◌<◌, ◌≤◌, List, [], ◌++◌, length, sym, ap, subst, ◌∙◌, append_assoc, arith}
use Rattle.std.proofs.lemmas.List.{append-nil, map-append, length-append}
use Rattle.flow_codec.specs.declared.message.Header.{Header}
use Rattle.flow_codec.specs.Raw.{RawRecord, Placed, under, Took}
use Rattle.flow_codec.specs.Reading.{IsRefused}

under_then : (header : Header) (before : List Placed) (a b : List RawRecord)
    → (before ++ under header a) ++ under header b ≡ before ++ under header (a ++ b)
under_then header before a b =
    append_assoc before (under header a) (under header b)
    ∙ ap (λ (xs : List Placed). before ++ xs) (sym (map-append (λ r. (header, r)) a b))

module _ {S : Type 0} (holds : S → List Placed → S → Type 0) (header : Header) where
  pub takes_none : (s : S) → Took holds header s [] s
  takes_none s = λ start before h. subst (λ (xs : List Placed). holds start xs s) (sym (append-nil before)) h

  pub takes_then : (s m t : S) (a b : List RawRecord) → Took holds header s a m → Took holds header m b t
      → Took holds header s (a ++ b) t
  takes_then s m t a b first second = λ start before h.
      subst (λ (xs : List Placed). holds start xs t) (under_then header before a b)
      (second start (before ++ under header a) (first start before h))

  module _ {E : Type 0} (refuses : S → List Placed → Placed → E → Type 0) where
    -- a refusal after records that were taken
    pub refused_then : (s m : S) (a : List RawRecord) (most more : ℕ) (e : E) → Took holds header s a m
        → IsRefused holds refuses header m more e → length a + more ≤ most → IsRefused holds refuses header s most e
    refused_then s m a most more e first h le = (
      a ++ h.0,
      h.1,
      omega (arith, h.2, le, length-append a h.0),
      λ start before given.
          subst (λ (xs : List Placed). refuses start xs (header, h.1) e) (under_then header before a h.0)
          (h.3 start (before ++ under header a) (first start before given)),
    )

    -- a refusal at once
    pub refused_here : (s : S) (r : RawRecord) (most : ℕ) (e : E) → 0 < most
        → ((start : S) (taken : List Placed) → holds start taken s → refuses start taken (header, r) e)
        → IsRefused holds refuses header s most e
    refused_here s r most e some h = (
      [],
      r,
      some,
      λ start before given. subst (λ (xs : List Placed). refuses start xs (header, r) e)
          (sym (append-nil before)) (h start before given),
    )
