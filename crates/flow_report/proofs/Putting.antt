-- How a line grows towards its start.
use Rattle.std.proofs.Common.{◌≡◌, ℕ, ◌+◌, ◌<◌, ◌≤◌, ◌/◌, ◌%◌, List, [], ◌∷◌, ◌++◌, Option, Some, None, IfSome, drop}
use Rattle.std.proofs.Common.{◌≢◌, false, get_or, length, take, suc, refl, sym, ap, ◌∙◌, subst, append-nil}
use Rattle.std.proofs.Common.{append_assoc, length-append, arith, zero, eqb, drop-cons}
use Rattle.std.proofs.lemmas.Bool.{ne_eqb}
use Rattle.std.proofs.lemmas.List.{take_at, take_all, drop_at, drop_all}
use Rattle.std.specs.Prelude.{slice_index}
use Rattle.std.specs.List.{flat_map}
use Rattle.flow_elements.specs.declared.element.ElementId.{ElementId}
use Rattle.flow_codec.specs.declared.message.Field.{Field}
use Rattle.flow_codec.specs.Fields.{value_of, fields_in}
use Rattle.hex.specs.Hex.{lower_digits, encode_with, encode_lower}
use Rattle.flow_report.specs.Lines.{hex, hex_digit, octets_text, field_text}
use Rattle.flow_report.specs.Telling.{IsPut, EndsBy}

pub put_both : (a b d : List ℕ) (at s t : ℕ) (x y : List ℕ) → IsPut a at b s x → IsPut b s d t y
    → IsPut a at d t (y ++ x)
put_both a b d at s t x y p q = record {
  before = omega (arith, p.before, q.before);
  parts = q.parts ∙ ap (λ (z : List ℕ). y ++ z) p.parts ∙ sym (append_assoc y x (drop at a));
}

-- a line ends by the text that was put at its end
pub put_last : (old new : List ℕ) (at start : ℕ) (text : List ℕ) → IsPut old at new start text → at ≡ length old
    → length new ≡ length old → EndsBy new start text
put_last old new at start text p end same = (
  omega (arith, p.before),
  p.parts ∙ ap (λ (l : List ℕ). text ++ l) (drop_all at old (omega arith)) ∙ append-nil text,
)

pub put_last_of : (old new : List ℕ) (at : ℕ) (r : Option ℕ) (text : List ℕ)
    → IfSome r (λ start. IsPut old at new start text) → at ≡ length old → length new ≡ length old
    → IfSome r (λ start. EndsBy new start text)
put_last_of old new at None text p end same = tt
put_last_of old new at (Some start) text p end same = put_last old new at start text p end same

-- ---- hexadecimal

digit : (n : ℕ) → n < 16 → slice_index lower_digits n ≡ hex_digit n
unfolding hex_digit
digit zero h = refl
digit (suc zero) h = refl
digit (suc (suc zero)) h = refl
digit (suc (suc (suc zero))) h = refl
digit (suc (suc (suc (suc zero)))) h = refl
digit (suc (suc (suc (suc (suc zero))))) h = refl
digit (suc (suc (suc (suc (suc (suc zero)))))) h = refl
digit (suc (suc (suc (suc (suc (suc (suc zero))))))) h = refl
digit (suc (suc (suc (suc (suc (suc (suc (suc zero)))))))) h = refl
digit (suc (suc (suc (suc (suc (suc (suc (suc (suc zero))))))))) h = refl
digit (suc (suc (suc (suc (suc (suc (suc (suc (suc (suc zero)))))))))) h = refl
digit (suc (suc (suc (suc (suc (suc (suc (suc (suc (suc (suc zero))))))))))) h = refl
digit (suc (suc (suc (suc (suc (suc (suc (suc (suc (suc (suc (suc zero)))))))))))) h = refl
digit (suc (suc (suc (suc (suc (suc (suc (suc (suc (suc (suc (suc (suc zero))))))))))))) h = refl
digit (suc (suc (suc (suc (suc (suc (suc (suc (suc (suc (suc (suc (suc (suc zero)))))))))))))) h = refl
digit (suc (suc (suc (suc (suc (suc (suc (suc (suc (suc (suc (suc (suc (suc (suc zero))))))))))))))) h = refl
digit (suc (suc (suc (suc (suc (suc (suc (suc (suc (suc (suc (suc (suc (suc (suc (suc n)))))))))))))))) h = absurd (omega arith)

-- what the crate writes for octets
pub encoded : (octets : List ℕ) → ((i : ℕ) → get_or octets i 0 < 256) → encode_lower octets ≡ octets_text octets
unfolding encode_with hex
encoded [] small = refl
encoded (b ∷ rest) small =
    let first : b < 256 = small 0 in
    let high : slice_index lower_digits (b / 16) ≡ hex_digit (b / 16) = digit (b / 16) (omega (arith, first)) in
    let low : slice_index lower_digits (b % 16) ≡ hex_digit (b % 16) = digit (b % 16) (omega arith) in
    rw (high, low, encoded rest (λ i. small (suc i))) refl

-- ---- a known count of items

-- so many items from a place on
abbrev pub items_from : ℕ → ℕ → List ℕ → List ℕ
items_from zero at xs = []
items_from (suc n) at xs = get_or xs at 0 ∷ items_from n (suc at) xs

pub items_are : (n at : ℕ) (xs : List ℕ) → at + n ≡ length xs → drop at xs ≡ items_from n at xs
items_are zero at xs h = drop_all at xs (omega arith)
items_are (suc n) at xs h = drop-cons xs at 0 (omega arith)
    ∙ ap (λ (l : List ℕ). get_or xs at 0 ∷ l) (items_are n (suc at) xs (omega arith))

-- ---- the fields of a record

-- the last fields of a record were put, and those of `left` are still to come
pub record IsPutting (old : List ℕ) (at : ℕ) (new : List ℕ) (start : ℕ) (fs left : List (ElementId × ℕ))
    (octets rest : List ℕ) : Type 0 where
  pub done : List (ElementId × ℕ)
  pub behind : List ℕ
  pub fields : fs ≡ left ++ done
  pub values : octets ≡ rest ++ behind
  pub text : IsPut old at new start (flat_map field_text (fields_in done behind))

pub nothing_put : (line : List ℕ) (at : ℕ) (fs : List (ElementId × ℕ)) (octets : List ℕ)
    → IsPutting line at line at fs fs octets octets
unfolding fields_in
nothing_put line at fs octets = record {
  done = [];
  behind = [];
  fields = sym (append-nil fs);
  values = sym (append-nil octets);
  text = record { before = omega arith; parts = refl };
}

-- one field more, of fixed length
pub field_put : (old new next : List ℕ) (at start then : ℕ) (fs left front : List (ElementId × ℕ))
    (octets rest before value : List ℕ) (id : ElementId) (len : ℕ)
    → IsPutting old at new start fs left octets rest → left ≡ front ++ (id, len) ∷ [] → len ≢ 65535
    → rest ≡ before ++ value → length value ≡ len
    → IsPut new start next then (field_text (record { id = id; octets = value }))
    → IsPutting old at next then fs front octets before
unfolding fields_in
field_put old new next at start then fs left front octets rest before value id len p last fixed split size put =
    let f : ElementId × ℕ = (id, len) in
    let known : value_of len (value ++ p.behind) ≡ (value, p.behind) = value_here value p.behind len fixed size in
    let one : fields_in (f ∷ p.done) (value ++ p.behind) ≡ record { id = id; octets = value } ∷ fields_in p.done p.behind =
    ap (λ (x : List ℕ × List ℕ). record { id = id; octets = x.0 } ∷ fields_in p.done x.1) known in
    record {
      done = f ∷ p.done;
      behind = value ++ p.behind;
      fields = p.fields ∙ ap (λ (l : List (ElementId × ℕ)). l ++ p.done) last ∙ append_assoc front (f ∷ []) p.done;
      values = p.values ∙ ap (λ (l : List ℕ). l ++ p.behind) split ∙ append_assoc before value p.behind;
      text = subst (λ (l : List Field). IsPut old at next then (flat_map field_text l)) (sym one)
          (put_both old new next at start then (flat_map field_text (fields_in p.done p.behind))
          (field_text (record { id = id; octets = value })) p.text put);
    }
  where
    value_here : (value behind : List ℕ) (len : ℕ) → len ≢ 65535 → length value ≡ len
        → value_of len (value ++ behind) ≡ (value, behind)
    value_here value behind len fixed size =
        let other : eqb len 65535 ≡ false = ne_eqb len 65535 fixed in
        let front : take len (value ++ behind) ≡ value = take_at value behind len size in
        let back : drop len (value ++ behind) ≡ behind = drop_at value behind len size in
        rw (other, front, back) refl

-- a length that the octets left have room for isn't the one that means variable length
pub rest_fixed : (old : List ℕ) (at : ℕ) (new : List ℕ) (start : ℕ) (fs left : List (ElementId × ℕ))
    (octets rest : List ℕ) (len : ℕ) → IsPutting old at new start fs left octets rest → length octets < 65535
    → len ≤ length rest → len ≢ 65535
rest_fixed old at new start fs left octets rest len p short fits e =
    omega (arith, ap (λ (l : List ℕ). length l) p.values ∙ length-append rest p.behind, short, fits, e)

-- no field is left, and no octet
pub all_put : (old new : List ℕ) (at start : ℕ) (fs left : List (ElementId × ℕ)) (octets rest : List ℕ)
    → IsPutting old at new start fs left octets rest → left ≡ [] → rest ≡ []
    → IsPut old at new start (flat_map field_text (fields_in fs octets))
all_put old new at start fs left octets rest p none empty =
    let fields : fs ≡ p.done = p.fields ∙ ap (λ (l : List (ElementId × ℕ)). l ++ p.done) none in
    let values : octets ≡ p.behind = p.values ∙ ap (λ (l : List ℕ). l ++ p.behind) empty in
    subst (λ (l : List (ElementId × ℕ)). IsPut old at new start (flat_map field_text (fields_in l octets))) (sym fields)
    (subst (λ (o : List ℕ). IsPut old at new start (flat_map field_text (fields_in p.done o))) (sym values) p.text)

pub none_of : {X : Type 0} (xs : List X) → length xs ≡ 0 → xs ≡ []
none_of [] h = refl
none_of (x ∷ xs) h = absurd (omega arith)

-- one field alone
pub one_field : (id : ElementId) (octets : List ℕ) → length octets < 65535
    → flat_map field_text (fields_in ((id, length octets) ∷ []) octets)
    ≡ field_text (record { id = id; octets = octets })
unfolding fields_in
one_field id octets small =
    let other : eqb (length octets) 65535 ≡ false = ne_eqb (length octets) 65535 (λ e. omega (arith, e, small)) in
    let front : take (length octets) octets ≡ octets = take_all (length octets) octets (omega arith) in
    let back : drop (length octets) octets ≡ [] = drop_all (length octets) octets (omega arith) in
    let known : value_of (length octets) octets ≡ (octets, []) = rw (other, front, back) refl in
    ap (λ (x : List ℕ × List ℕ). flat_map field_text (record { id = id; octets = x.0 } ∷ fields_in [] x.1)) known
    ∙ append-nil (field_text (record { id = id; octets = octets }))
