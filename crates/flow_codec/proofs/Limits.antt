-- The limits on templates, after a domain's changed definitions are put back.
use Rattle.std.proofs.Common.{◌≡◌, ℕ, ◌<◌, ◌≤◌, Bool, true, false, not, List, length, Option, Some, None, Ok, Err, refl}
use Rattle.std.proofs.Common.{sym, ap, subst, ◌∙◌, arith}
use Rattle.std.specs.Prelude.{nat_lt, unwrap_or}
use Rattle.std.specs.Option.{is_some, option_map}
use Rattle.std.proofs.lemmas.Bool.{lt-ltb, le-ltb}
use Rattle.flow_codec.specs.declared.error.MessageError.TheVariants.{TemplatesFull, DomainsFull}
use Rattle.flow_codec.specs.declared.templates.DomainTemplates.{DomainTemplates}
use Rattle.flow_codec.specs.Raw.{RawMessage}
use Rattle.flow_codec.specs.Templates.{AllTemplates, no_definitions, definitions_of, domain_size, is_empty, IsOnce}
use Rattle.flow_codec.specs.Templates.{IsDomain, AreTemplatesInForce}
use Rattle.flow_codec.specs.Working.{put_back}
use Rattle.flow_codec.specs.Reading.{limited}
use Rattle.flow_codec.proofs.Entries.{found, with_entry, holds-found, length-insert, length-replace}
use Rattle.flow_codec.proofs.PuttingBack.{put_found, put_length, put_none_length}

pub is_some_map : {T U : Type 0} (f : T → U) (o : Option T) → is_some (option_map f o) ≡ is_some o
is_some_map f None = refl
is_some_map f (Some x) = refl

-- a full list has room for an entry under a key that it has, and for no other
pub no_room_left : {V : Type 0} (k : ℕ) (es : List (ℕ × V)) (v : V) (lacks : Bool) → 64 ≤ length es → length es ≤ 64
    → is_some (found k es) ≡ not lacks → lacks ≡ nat_lt 64 (length (with_entry es k v))
no_room_left {V} k es v lacks least most is = by lacks (found k es) refl is
  where
    by : (b : Bool) (o : Option V) → found k es ≡ o → is_some o ≡ not b → b ≡ nat_lt 64 (length (with_entry es k v))
    by true None e is = sym (lt-ltb _ _ (omega (arith, length-insert k es v e)))
    by false None e is = absurd cc
    by true (Some u) e is = absurd cc
    by false (Some u) e is = sym (le-ltb _ _ (omega (arith, length-replace k es u v e)))

pub room_left : {V : Type 0} (k : ℕ) (es : List (ℕ × V)) (v : V) → length es < 64
    → false ≡ nat_lt 64 (length (with_entry es k v))
room_left {V} k es v less = by (found k es) refl
  where
    by : (o : Option V) → found k es ≡ o → false ≡ nat_lt 64 (length (with_entry es k v))
    by None e = sym (le-ltb _ _ (omega (arith, length-insert k es v e)))
    by (Some u) e = sym (le-ltb _ _ (omega (arith, length-replace k es u v e)))

-- what is in force in a domain keeps to its limit
pub keeps-size : (d : ℕ) (all : AllTemplates) → AreTemplatesInForce all → domain_size (definitions_of d all) ≤ 60000
keeps-size d all h = by (found d all) refl
  where
    by : (o : Option DomainTemplates) → found d all ≡ o → domain_size (unwrap_or o no_definitions) ≤ 60000
    by None e = omega arith
    by (Some here) e = (holds-found d IsDomain all here h.domains e).size

-- so do definitions that are put back in templates in force
pub put-size : (d : ℕ) (all : AllTemplates) → IsOnce all → (left : Bool) (here : DomainTemplates)
    → AreTemplatesInForce (put_back d left here all) → domain_size here ≤ 60000
put-size d all once left here h =
    subst (λ (g : DomainTemplates). domain_size g ≤ 60000) (put_found d all once left here)
    (keeps-size d (put_back d left here all) h)

module _ (m : RawMessage) (all : AllTemplates) (h : AreTemplatesInForce all) where
  -- templates that no template record changed
  pub limited-same : limited m all ≡ Ok (m, all)
  limited-same =
      let size : nat_lt 60000 (domain_size (definitions_of m.header.domain all)) ≡ false =
      le-ltb _ _ (keeps-size m.header.domain all h) in
      let count : nat_lt 64 (length all) ≡ false = le-ltb _ _ h.count in
      rw (size, count) refl

  module _ (left : Bool) (here : DomainTemplates) where
    found-there : definitions_of m.header.domain (put_back m.header.domain left here all) ≡ here
    found-there = put_found m.header.domain all h.once left here

    size-is : (b : Bool) → nat_lt 60000 (domain_size here) ≡ b
        → nat_lt 60000 (domain_size (definitions_of m.header.domain (put_back m.header.domain left here all))) ≡ b
    size-is b e = ap (λ (x : DomainTemplates). nat_lt 60000 (domain_size x)) found-there ∙ e

    pub limited-large : nat_lt 60000 (domain_size here) ≡ true
        → limited m (put_back m.header.domain left here all) ≡ Err (TemplatesFull m.header.domain)
    limited-large e = rw (size-is true e) refl

    pub limited-none : nat_lt 60000 (domain_size here) ≡ false → is_empty here ≡ true
        → limited m (put_back m.header.domain left here all) ≡ Ok (m, put_back m.header.domain left here all)
    limited-none e empty =
        let count : nat_lt 64 (length (put_back m.header.domain left here all)) ≡ false =
        le-ltb _ _ (omega (arith, put_none_length m.header.domain all h.once left here empty, h.count)) in
        rw (size-is false e, count) refl

    count-is : (b : Bool) → is_empty here ≡ false → nat_lt 64 (length (with_entry all m.header.domain here)) ≡ b
        → nat_lt 64 (length (put_back m.header.domain left here all)) ≡ b
    count-is b some e = ap (nat_lt 64) (put_length m.header.domain all h.once left here some) ∙ e

    pub limited-full : nat_lt 60000 (domain_size here) ≡ false → is_empty here ≡ false
        → nat_lt 64 (length (with_entry all m.header.domain here)) ≡ true
        → limited m (put_back m.header.domain left here all) ≡ Err DomainsFull
    limited-full e some full = rw (size-is false e, count-is true some full) refl

    pub limited-room : nat_lt 60000 (domain_size here) ≡ false → is_empty here ≡ false
        → nat_lt 64 (length (with_entry all m.header.domain here)) ≡ false
        → limited m (put_back m.header.domain left here all) ≡ Ok (m, put_back m.header.domain left here all)
    limited-room e some room = rw (size-is false e, count-is false some room) refl
