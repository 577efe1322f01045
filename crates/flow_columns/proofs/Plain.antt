-- No value has a comma, a quote or the end of a line.
use Rattle.std.proofs.Common.{◌≡◌, ℕ, zero, suc, ◌+◌, ◌/◌, ◌%◌, ◌<◌, ◌≢◌, Bool, true, false, List, [], ◌∷◌}
use Rattle.std.proofs.Common.{Option, Some, None, map, refl, sym, subst, arith, ap, ◌∙◌, ◌==◌, nat_lt}
use Rattle.std.proofs.Common.{if◌then◌else◌, All, decimal}
use Rattle.std.specs.Fmt.{digits, digit_glyph, digits_onto}
use Rattle.std.specs.List.{join_with_byte, slice_split}
use Rattle.std.proofs.lemmas.List.Elements.{All-append, All-cons, All-from_recursion, All-nil, All-weaker}
use Rattle.std.proofs.lemmas.List.Splits.{slice_split_at, slice_split_none}
use Rattle.flow_dates.specs.Dates.{time_text}
use Rattle.flow_elements.specs.declared.element.ElementId.{ElementId}
use Rattle.flow_elements.specs.declared.value.Value.{Value}
use Rattle.flow_elements.specs.declared.value.Value.TheVariants.{Unsigned, Address4, Address6, Mac, Octets}
use Rattle.flow_elements.specs.Values.{value_of}
use Rattle.flow_codec.specs.Fields.{fields_in}
use Rattle.flow_report.specs.declared.format.Times.{Times}
use Rattle.flow_report.specs.declared.format.Times.TheVariants.{Dates, Seconds}
use Rattle.flow_report.specs.Formats.{second_text}
use Rattle.flow_report.specs.Lines.{hex, hex_digit, octets_text, pairs, value_text}
use Rattle.flow_report.specs.Records.{Started}
use Rattle.flow_columns.specs.declared.column.Column.{Column}
use Rattle.flow_columns.specs.declared.column.Column.TheVariants.{Start, Domain, Template, Element}
use Rattle.flow_columns.specs.Columns.{is_comma}
use Rattle.flow_columns.specs.Lines.{cell, cell_or_none, field_of, value_or_none}
use Rattle.flow_columns.specs.Reading.{IsPlain}

-- every octet of a value is above that of a comma
IsAbove : ℕ → Type 0
IsAbove octet = 44 < octet

AreAbove : List ℕ → Type 0
AreAbove text = All IsAbove text

-- ---- digits

glyph_above : (d : ℕ) (b : Bool) → nat_lt d 10 ≡ b → IsAbove (digit_glyph false d)
unfolding IsAbove
glyph_above d true e = subst (λ (b : Bool). 44 < (if b then 48 + d else 87 + d)) (sym e) (omega arith)
glyph_above d false e = subst (λ (b : Bool). 44 < (if b then 48 + d else 87 + d)) (sym e) (omega arith)

digits_above : (k n : ℕ) (acc : List ℕ) → AreAbove acc → AreAbove (digits_onto k 10 false n acc)
unfolding AreAbove
digits_above zero n acc are = are
digits_above (suc k) n acc are =
    let more = All-cons IsAbove (digit_glyph false (n % 10)) acc (glyph_above (n % 10) (nat_lt (n % 10) 10) refl) are in
    by (n / 10 == 0) more (digits_above k (n / 10) (digit_glyph false (n % 10) ∷ acc) more)
  where
    by : (b : Bool) → All IsAbove (digit_glyph false (n % 10) ∷ acc)
        → All IsAbove (digits_onto k 10 false (n / 10) (digit_glyph false (n % 10) ∷ acc))
        → All IsAbove (if b then digit_glyph false (n % 10) ∷ acc
        else digits_onto k 10 false (n / 10) (digit_glyph false (n % 10) ∷ acc))
    by true here more = here
    by false here more = more

decimal_above : (n : ℕ) → AreAbove (decimal n)
unfolding AreAbove digits
decimal_above n = digits_above 64 n [] (All-nil IsAbove)

hex_above : (n : ℕ) (b : Bool) → nat_lt n 10 ≡ b → IsAbove (hex_digit n)
unfolding IsAbove hex_digit
hex_above n true e = subst (λ (b : Bool). 44 < (if b then 48 + n else 87 + n)) (sym e) (omega arith)
hex_above n false e = subst (λ (b : Bool). 44 < (if b then 48 + n else 87 + n)) (sym e) (omega arith)

octet_above : (octet : ℕ) → AreAbove (hex octet)
unfolding AreAbove hex
octet_above octet =
    All-from_recursion IsAbove (hex octet)
    (hex_above (octet / 16) _ refl, (hex_above (octet % 16) _ refl, tt))

-- ---- values

octets_above : (octets : List ℕ) → AreAbove (octets_text octets)
unfolding AreAbove
octets_above [] = All-nil IsAbove
octets_above (o ∷ os) = All-append IsAbove (hex o) (octets_text os) (octet_above o) (octets_above os)

module _ {X : Type 0} (c : ℕ) (f : X → List ℕ) (sign : IsAbove c) (each : (x : X) → AreAbove (f x)) where
  joined_above : (xs : List X) → AreAbove (join_with_byte c (map f xs))
  unfolding AreAbove
  joined_above [] = All-nil IsAbove
  joined_above (x ∷ []) = each x
  joined_above (x ∷ y ∷ xs) =
      All-append IsAbove (f x) (c ∷ join_with_byte c (map f (y ∷ xs))) (each x)
      (All-cons IsAbove c (join_with_byte c (map f (y ∷ xs))) sign (joined_above (y ∷ xs)))

value_above : (v : Value) → AreAbove (value_text v)
unfolding IsAbove
value_above (Unsigned number) = decimal_above number
value_above (Address4 octets) = joined_above 46 decimal (omega arith) decimal_above octets
value_above (Address6 octets) = joined_above 58 octets_text (omega arith) octets_above (pairs octets)
value_above (Mac octets) = joined_above 58 hex (omega arith) octet_above octets
value_above (Octets octets) = octets_above octets

second_above : (times : Times) (second : ℕ) → AreAbove (second_text times second)
unfolding AreAbove IsAbove
second_above Seconds second = decimal_above second
second_above Dates second =
    All-from_recursion IsAbove (time_text second) (
      omega arith,
      (
        omega arith,
        (
          omega arith,
          (
            omega arith,
            (
              omega arith,
              (
                omega arith,
                (
                  omega arith,
                  (
                    omega arith,
                    (
                      omega arith,
                      (
                        omega arith,
                        (
                          omega arith,
                          (
                            omega arith,
                            (
                              omega arith,
                              (
                                omega arith,
                                (
                                  omega arith,
                                  (
                                    omega arith,
                                    (
                                      omega arith,
                                      (omega arith, (omega arith, (omega arith, tt))),
                                    ),
                                  ),
                                ),
                              ),
                            ),
                          ),
                        ),
                      ),
                    ),
                  ),
                ),
              ),
            ),
          ),
        ),
      ),
    )

found_above : (id : ElementId) (octets : Option (List ℕ)) → AreAbove (value_or_none id octets)
unfolding AreAbove
found_above id None = All-nil IsAbove
found_above id (Some octets) = value_above (value_of id octets)

column_above : (times : Times) (s : Started) (column : Column) → AreAbove (cell times s column)
column_above times s Start = second_above times s.0
column_above times s Domain = decimal_above s.1.0.domain
column_above times s Template = decimal_above s.1.1.id
column_above times s (Element id) = found_above id (field_of id (fields_in s.1.1.layout.fields s.1.1.octets))

cell_above : (times : Times) (s : Started) (column : Option Column) → AreAbove (cell_or_none times s column)
unfolding AreAbove
cell_above times s None = All-nil IsAbove
cell_above times s (Some column) = column_above times s column

pub values_plain : (times : Times) (s : Started) (column : Option Column) → IsPlain (cell_or_none times s column)
unfolding AreAbove IsAbove
values_plain times s column =
    All-weaker IsAbove (λ octet. (octet ≢ 44) × (octet ≢ 34) × (octet ≢ 10) × (octet ≢ 13))
    (λ octet above. (
      λ e. absurd (omega (arith, above, e)),
      λ e. absurd (omega (arith, above, e)),
      λ e. absurd (omega (arith, above, e)),
      λ e. absurd (omega (arith, above, e)),
    ))
    (cell_or_none times s column) (cell_above times s column)

-- ---- parts

no_comma : (octet : ℕ) (b : Bool) → (octet == 44) ≡ b → IsAbove octet → b ≡ false
unfolding IsAbove
no_comma octet b e above = grind (arith, e, above)

module _ (times : Times) (s : Started) where
  apart : (column : Option Column) → All (λ octet. is_comma octet ≡ false) (cell_or_none times s column)
  unfolding AreAbove
  apart column =
      All-weaker IsAbove (λ octet. is_comma octet ≡ false) (λ octet above. no_comma octet (is_comma octet) refl above)
      (cell_or_none times s column) (cell_above times s column)

  pub parts_are : (column : Option Column) (columns : List (Option Column))
      → slice_split is_comma (join_with_byte 44 (map (cell_or_none times s) (column ∷ columns)))
      ≡ map (cell_or_none times s) (column ∷ columns)
  parts_are column [] = slice_split_none is_comma (cell_or_none times s column) (apart column)
  parts_are column (next ∷ columns) =
      slice_split_at is_comma (cell_or_none times s column) 44
      (join_with_byte 44 (map (cell_or_none times s) (next ∷ columns))) (apart column) refl
      ∙ ap (λ (l : List (List ℕ)). cell_or_none times s column ∷ l) (parts_are next columns)
