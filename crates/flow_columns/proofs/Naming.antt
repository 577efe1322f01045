-- The names of a text, one after the other.
use Rattle.std.proofs.Common.{◌≡◌, ◌∙◌, ℕ, ◌<◌, Bool, true, false, List, [], ◌∷◌, Option, Some, None, codes, length}
use Rattle.std.proofs.Common.{◌++◌, append_assoc, refl, sym, ap, arith}
use Rattle.std.specs.Prelude.{find, is_some, map, not, option_map, if◌then◌else◌}
use Rattle.std.specs.List.{after_first, before_first, position_or_len, AllByRecursion}
use Rattle.std.specs.Str.{bytes_eq}
use Rattle.std.proofs.lemmas.Slice.Eq.{bytes_eq-Decides}
use Rattle.std.proofs.lemmas.List.Splits.{slice_split_first, slice_split_none}
use Rattle.std.proofs.lemmas.List.Sums.{fails_before_first}
use Rattle.flow_elements.specs.Elements.{Listed}
use Rattle.flow_columns.specs.declared.column.Column.{Column}
use Rattle.flow_columns.specs.declared.column.Column.TheVariants.{Start, Domain, Template, Element}
use Rattle.flow_columns.specs.Columns.{column_of, columns_of, element_of, first_unknown, is_comma, is_unknown, names_in}

pub next_name : (text : List ℕ) → position_or_len is_comma text < length text
    → names_in text ≡ before_first is_comma text ∷ names_in (after_first is_comma text)
next_name text within = slice_split_first is_comma text 0 within

pub last_name : (text : List ℕ) → position_or_len is_comma text ≡ length text → names_in text ≡ text ∷ []
last_name text none =
    slice_split_none is_comma text (λ k d below. fails_before_first is_comma text k d (omega (arith, below, none)))

-- ---- a name is none of these

pub differs : (word name : List ℕ) → (name ≡ word → ⊥) → bytes_eq word name ≡ false
differs word name not_it = by (bytes_eq word name) refl
  where
    by : (b : Bool) → bytes_eq word name ≡ b → bytes_eq word name ≡ false
    by true e = absurd (not_it (sym ((bytes_eq-Decides word name).0 e)))
    by false e = e

passed_over : {Z : Type 0} (b : Bool) (this others : Z) → b ≡ false → others ≡ (if b then this else others)
passed_over b this others e = ap (λ (b : Bool). if b then this else others) (sym e)

abbrev number_of : Option Listed → Option ℕ
number_of found = option_map (λ e. e.number) found

-- no listed element has the name
pub none_listed : (name : List ℕ) (es : List Listed) → AllByRecursion (λ e. name ≡ e.name → ⊥) es
    → None ≡ option_map (λ e. e.number) (find (λ e. bytes_eq e.name name) es)
none_listed name [] none = refl
none_listed name (e ∷ es) none =
    none_listed name es none.1
    ∙ ap number_of
    (passed_over (bytes_eq e.name name) (Some e) (find (λ e. bytes_eq e.name name) es) (differs e.name name none.0))

pub other_column : (name : List ℕ) → (name ≡ codes "start" → ⊥) → (name ≡ codes "domain" → ⊥)
    → (name ≡ codes "template" → ⊥) → option_map Element (element_of name) ≡ column_of name
other_column name no_start no_domain no_template =
    let own : Option Column = option_map Element (element_of name) in
    let third : Option Column = if bytes_eq (codes "template") name then Some Template else own in
    let second : Option Column = if bytes_eq (codes "domain") name then Some Domain else third in
    passed_over (bytes_eq (codes "template") name) (Some Template) own (differs (codes "template") name no_template)
    ∙ passed_over (bytes_eq (codes "domain") name) (Some Domain) third (differs (codes "domain") name no_domain)
    ∙ passed_over (bytes_eq (codes "start") name) (Some Start) second (differs (codes "start") name no_start)

-- ---- the names of a text in turn

module _ (rest name more : List ℕ) (first : name ≡ before_first is_comma rest)
    (others : more ≡ after_first is_comma rest) (within : position_or_len is_comma rest < length rest) where
  first_and_more : names_in rest ≡ name ∷ names_in more
  first_and_more =
      next_name rest within ∙ ap (λ (n : List ℕ). n ∷ names_in (after_first is_comma rest)) (sym first)
      ∙ ap (λ (m : List ℕ). name ∷ names_in m) (sym others)

  first_is : (known : Bool) → is_some (column_of name) ≡ known
      → first_unknown rest ≡ (if not known then Some name else first_unknown more)
  first_is known is =
      ap (λ (names : List (List ℕ)). find is_unknown names) first_and_more
      ∙ ap (λ (b : Bool). if not b then Some name else first_unknown more) is

  pub known_passed : (known : Bool) → known ≡ is_some (column_of name) → known ≡ true
      → first_unknown more ≡ first_unknown rest
  known_passed known is so = sym (first_is true (sym is ∙ so))

  pub unknown_found : (known : Bool) → known ≡ is_some (column_of name) → known ≡ false
      → Some name ≡ first_unknown rest
  unknown_found known is other = sym (first_is false (sym is ∙ other))

  pub column_taken : (items target : List (Option Column)) → items ++ columns_of rest ≡ target
      → (items ++ column_of name ∷ []) ++ columns_of more ≡ target
  column_taken items target same =
      append_assoc items (column_of name ∷ []) (columns_of more)
      ∙ ap (λ (names : List (List ℕ)). items ++ map column_of names) (sym first_and_more) ∙ same

module _ (rest : List ℕ) (none : position_or_len is_comma rest ≡ length rest) where
  last_is : (known : Bool) → is_some (column_of rest) ≡ known
      → first_unknown rest ≡ (if not known then Some rest else None)
  last_is known is =
      ap (λ (names : List (List ℕ)). find is_unknown names) (last_name rest none)
      ∙ ap (λ (b : Bool). if not b then Some rest else None) is

  pub last_known : (known : Bool) → known ≡ is_some (column_of rest) → known ≡ true → None ≡ first_unknown rest
  last_known known is so = sym (last_is true (sym is ∙ so))

  pub last_unknown : (known : Bool) → known ≡ is_some (column_of rest) → known ≡ false
      → Some rest ≡ first_unknown rest
  last_unknown known is other = sym (last_is false (sym is ∙ other))

  pub last_column : (items target : List (Option Column)) → items ++ columns_of rest ≡ target
      → items ++ column_of rest ∷ [] ≡ target
  last_column items target same =
      ap (λ (names : List (List ℕ)). items ++ map column_of names) (sym (last_name rest none)) ∙ same
