-- Each field is asked for by the name that `dump` writes.
use Rattle.std.proofs.Common.{◌≡◌, ℕ, suc, ◌+◌, ◌*◌, ◌-◌, ◌/◌, ◌%◌, ◌<◌, ◌≤◌, ◌^◌, Bool, true, false, not}
use Rattle.std.proofs.Common.{List, [], ◌∷◌, ◌++◌, Option, Some, None, length, get_or, take, drop, refl, sym, subst}
use Rattle.std.proofs.Common.{arith, ap, ◌∙◌, ◌==◌, ◌&&◌, ◌||◌, nat_lt, nat_le, decimal, find, IfSome}
use Rattle.std.proofs.Common.{if◌then◌else◌, option_map, option_and_then, length-append, append-nil, true≢false}
use Rattle.std.specs.Prelude.{unwrap_or}
use Rattle.std.specs.List.{after_first, before_first, list_all, position_or_len, AllByRecursion}
use Rattle.std.proofs.lemmas.Bool.{and_from, and_parts, eqb-true, le-leb, leb-true, lt-leb}
use Rattle.std.proofs.lemmas.Fmt.{decimal_by_steps}
use Rattle.std.proofs.lemmas.List.Folds.{list_all-append}
use Rattle.std.proofs.lemmas.List.Sums.{fold-append}
use lib.Seq.{take-append_seam, drop-append-add}
use Rattle.flow_elements.specs.declared.element.ElementId.{ElementId}
use Rattle.flow_elements.specs.Elements.{find_listed, listed, Listed}
use Rattle.flow_report.specs.Lines.{name_text}
use Rattle.flow_report.specs.Numbers.{is_digit, is_number, number_between, number_of}
use Rattle.flow_columns.specs.declared.column.Column.TheVariants.{Element}
use Rattle.flow_columns.specs.Columns.{by_number, column_of, has_dot, is_dot, listed_number, number_after_e}
use Rattle.flow_columns.specs.Columns.{numbered}
use Rattle.flow_columns.specs.Reading.{IsElement, IsEnterprise}
use Rattle.flow_columns.proofs.Naming.{none_listed}

-- ---- listed elements

-- the name of a listed element asks for it
IsOwn : Listed → Type 0
IsOwn e = column_of e.name ≡ Some (Element (record { enterprise = None; number = e.number }))

all_own : AllByRecursion IsOwn listed
unfolding IsOwn
all_own = (
  refl,
  (
    refl,
    (
      refl,
      (
        refl,
        (
          refl,
          (
            refl,
            (
              refl,
              (
                refl,
                (
                  refl,
                  (
                    refl,
                    (
                      refl,
                      (
                        refl,
                        (
                          refl,
                          (
                            refl,
                            (
                              refl,
                              (
                                refl,
                                (
                                  refl,
                                  (
                                    refl,
                                    (
                                      refl,
                                      (
                                        refl,
                                        (
                                          refl,
                                          (
                                            refl,
                                            (
                                              refl,
                                              (
                                                refl,
                                                (
                                                  refl,
                                                  (
                                                    refl,
                                                    (
                                                      refl,
                                                      (
                                                        refl,
                                                        (
                                                          refl,
                                                          (
                                                            refl,
                                                            (
                                                              refl,
                                                              (
                                                                refl,
                                                                tt,
                                                              ),
                                                            ),
                                                          ),
                                                        ),
                                                      ),
                                                    ),
                                                  ),
                                                ),
                                              ),
                                            ),
                                          ),
                                        ),
                                      ),
                                    ),
                                  ),
                                ),
                              ),
                            ),
                          ),
                        ),
                      ),
                    ),
                  ),
                ),
              ),
            ),
          ),
        ),
      ),
    ),
  ),
)

found_own : (number : ℕ) (es : List Listed) → AllByRecursion IsOwn es
    → IfSome (find (λ e. e.number == number) es) (λ e. IsOwn e × ((e.number == number) ≡ true))
found_own number [] all = tt
found_own number (e ∷ es) all = by (e.number == number) refl (found_own number es all.1)
  where
    by : (b : Bool) → (e.number == number) ≡ b
        → IfSome (find (λ e. e.number == number) es) (λ e. IsOwn e × ((e.number == number) ≡ true))
        → IfSome (if b then Some e else find (λ e. e.number == number) es)
        (λ e. IsOwn e × ((e.number == number) ≡ true))
    by true is later = (all.0, is)
    by false is later = later

-- ---- digits

-- the digits of a number, read back
record Reads (number : ℕ) (digits : List ℕ) : Type 0 where
  all : list_all is_digit digits ≡ true
  value : number_of digits ≡ number
  some : 0 < length digits

digit_is : (d : ℕ) → d < 10 → is_digit (48 + d) ≡ true
digit_is d lt = and_from _ _ (le-leb 48 (48 + d) (omega arith)) (le-leb (48 + d) 57 (omega arith))

one_digit : (n : ℕ) → n < 10 → Reads n ((48 + n) ∷ [])
one_digit n lt = record { all = and_from _ _ (digit_is n lt) refl; value = omega arith; some = omega arith }

more_digits : (n : ℕ) (ds : List ℕ) → 10 ≤ n → Reads (n / 10) ds → Reads n (ds ++ (48 + n % 10) ∷ [])
more_digits n ds le before = record {
  all =
      list_all-append is_digit ds ((48 + n % 10) ∷ [])
      ∙ and_from _ _ before.all (and_from _ _ (digit_is (n % 10) (omega arith)) refl);
  value =
      fold-append (λ n octet. n * 10 + (octet - 48)) 0 ds ((48 + n % 10) ∷ [])
      ∙ ap (λ v. v * 10 + (48 + n % 10 - 48)) before.value ∙ omega arith;
  some = omega (arith, length-append ds ((48 + n % 10) ∷ []));
}

reads : (n : ℕ) → n < 2 ^ 64 → Reads n (decimal n)
reads n small = decimal_by_steps Reads one_digit more_digits n small

within : (most n : ℕ) (ds : List ℕ) → n ≤ most → Reads n ds → number_between 0 most ds ≡ Some n
within most n ds le is =
    let all : (is_number ds && nat_le 0 (number_of ds) && nat_le (number_of ds) most) ≡ true =
    and_from _ _ (and_from _ _ (and_from _ _ (le-leb 1 (length ds) is.some) is.all)
    (le-leb 0 (number_of ds) (omega arith))) (le-leb (number_of ds) most (omega (arith, is.value, le))) in
    ap (λ b. if b then Some (number_of ds) else None) all ∙ ap (λ v. Some v) is.value

-- ---- dots

HasNoDot : List ℕ → Type 0
HasNoDot text = AllByRecursion (λ octet. is_dot octet ≡ false) text

not_a_dot : (d : ℕ) (b : Bool) → 48 ≤ d → is_dot d ≡ b → b ≡ false
not_a_dot d true least is = absurd (omega (arith, least, eqb-true d 46 is))
not_a_dot d false least is = refl

digits_only : (ds : List ℕ) → list_all is_digit ds ≡ true → HasNoDot ds
unfolding HasNoDot
digits_only [] all = tt
digits_only (d ∷ ds) all =
    let least : 48 ≤ d = leb-true 48 d (and_parts _ _ (and_parts _ _ all).0).0 in
    (not_a_dot d (is_dot d) least refl, digits_only ds (and_parts _ _ all).1)

dot_after : (text rest : List ℕ) → HasNoDot text → position_or_len is_dot (text ++ 46 ∷ rest) ≡ length text
unfolding HasNoDot
dot_after [] rest all = refl
dot_after (x ∷ xs) rest all =
    ap (λ (b : Bool). if not b then 1 + position_or_len is_dot (xs ++ 46 ∷ rest) else 0) all.0
    ∙ omega (arith, dot_after xs rest all.1)

no_dots : (text : List ℕ) → HasNoDot text → position_or_len is_dot text ≡ length text
unfolding HasNoDot
no_dots [] all = refl
no_dots (x ∷ xs) all =
    ap (λ (b : Bool). if not b then 1 + position_or_len is_dot xs else 0) all.0 ∙ omega (arith, no_dots xs all.1)

-- ---- an `e`, and a number

-- a name that doesn't begin with an `e` and a digit
is_other : List ℕ → Bool
is_other name = not (get_or name 0 0 == 101) || nat_lt 57 (get_or name 1 0)

others : (es : List Listed) → list_all (λ e. is_other e.name) es ≡ true → (name : List ℕ) → is_other name ≡ false
    → AllByRecursion (λ e. name ≡ e.name → ⊥) es
others [] all name it = tt
others (e ∷ es) all name it = (
  λ same. true≢false (sym (and_parts _ _ all).0 ∙ ap is_other (sym same) ∙ it),
  others es (and_parts _ _ all).1 name it,
)

-- none of a listed element begins so, and so it asks for the element of its number
asks_by_number : (text : List ℕ) (id : ElementId) → is_digit (get_or text 0 0) ≡ true
    → numbered (101 ∷ text) ≡ Some id → column_of (101 ∷ text) ≡ Some (Element id)
unfolding is_other
asks_by_number text id digit found =
    let it : is_other (101 ∷ text) ≡ false =
    lt-leb 58 (get_or text 0 0) (omega (arith, leb-true (get_or text 0 0) 57 (and_parts _ _ digit).1)) in
    let none : None ≡ listed_number (101 ∷ text) =
    none_listed (101 ∷ text) listed (others listed refl (101 ∷ text) it) in
    ap (λ (o : Option ℕ). option_map Element (by_number o (101 ∷ text))) (sym none) ∙ ap (option_map Element) found

first_digit : (ds rest : List ℕ) → list_all is_digit ds ≡ true → 0 < length ds
    → is_digit (get_or (ds ++ rest) 0 0) ≡ true
first_digit [] rest all some = absurd (omega (arith, some))
first_digit (d ∷ ds) rest all some = (and_parts _ _ all).0

module _ {Z : Type 0} (b : Bool) (this others : Z) where
  then_this : b ≡ true → (if b then this else others) ≡ this
  then_this is = ap (λ (b : Bool). if b then this else others) is

  else_others : b ≡ false → (if b then this else others) ≡ others
  else_others is = ap (λ (b : Bool). if b then this else others) is

abbrev of_none : ℕ → ElementId
of_none number = record { enterprise = None; number = number }

abbrev of_some : ℕ → ℕ → ElementId
of_some enterprise number = record { enterprise = Some enterprise; number = number }

-- an element of IANA's
plain_number : (n : ℕ) → n ≤ 32767 → column_of (101 ∷ decimal n) ≡ Some (Element (of_none n))
unfolding HasNoDot
plain_number n le =
    let ds = decimal n in
    let is = reads n (omega (arith, le)) in
    let dotless : has_dot (101 ∷ ds) ≡ false =
    lt-leb (suc (position_or_len is_dot (101 ∷ ds))) (length (101 ∷ ds))
    (omega (arith, no_dots (101 ∷ ds) (refl, digits_only ds is.all))) in
    asks_by_number ds (of_none n)
    (subst (λ l. is_digit (get_or l 0 0) ≡ true) (append-nil ds) (first_digit ds [] is.all is.some))
    (else_others (has_dot (101 ∷ ds)) _ _ dotless ∙ ap (option_map of_none) (within 32767 n ds le is))

-- an element of an enterprise
enterprise_number : (e n : ℕ) → e ≤ 4294967295 → n ≤ 32767
    → column_of (101 ∷ decimal e ++ 46 ∷ decimal n) ≡ Some (Element (of_some e n))
unfolding HasNoDot
enterprise_number e n few le =
    let es = decimal e in
    let ds = decimal n in
    let word = 101 ∷ es in
    let name = word ++ 46 ∷ ds in
    let is_e = reads e (omega (arith, few)) in
    let is_n = reads n (omega (arith, le)) in
    let at : position_or_len is_dot name ≡ length word = dot_after word ds (refl, digits_only es is_e.all) in
    let dotted : has_dot name ≡ true =
    le-leb (suc (position_or_len is_dot name)) (length name) (omega (arith, at, length-append word (46 ∷ ds))) in
    let before : before_first is_dot name ≡ word =
    ap (λ k. take k name) at ∙ take-append_seam word (46 ∷ ds) in
    let after : after_first is_dot name ≡ ds =
    ap (λ k. drop (k + 1) name) at ∙ drop-append-add word (46 ∷ ds) 1 in
    asks_by_number (es ++ 46 ∷ ds) (of_some e n) (first_digit es (46 ∷ ds) is_e.all is_e.some)
    (then_this (has_dot name) _ _ dotted
    ∙ ap (λ w. option_and_then (λ enterprise. option_map (of_some enterprise)
    (number_between 0 32767 (after_first is_dot name))) (number_after_e 4294967295 w)) before
    ∙ ap (λ o. option_and_then (λ enterprise. option_map (of_some enterprise)
    (number_between 0 32767 (after_first is_dot name))) o) (within 4294967295 e es few is_e)
    ∙ ap (λ w. option_map (of_some e) (number_between 0 32767 w)) after
    ∙ ap (option_map (of_some e)) (within 32767 n ds le is_n))

-- ---- all

named : (number : ℕ) → number ≤ 32767 → (found : Option Listed)
    → IfSome found (λ e. IsOwn e × ((e.number == number) ≡ true))
    → column_of (unwrap_or (option_map (λ e. e.name) found) (101 ∷ decimal number)) ≡ Some (Element (of_none number))
unfolding IsOwn
named number le (Some e) (own, same) = own ∙ ap (λ n. Some (Element (of_none n))) (eqb-true e.number number same)
named number le None own = plain_number number le

by_enterprise : (enterprise : Option ℕ) (number : ℕ) → number ≤ 32767 → IsEnterprise enterprise
    → column_of (name_text (record { enterprise = enterprise; number = number }))
    ≡ Some (Element (record { enterprise = enterprise; number = number }))
unfolding name_text
by_enterprise None number le few =
    named number le (find_listed None number) (found_own number listed all_own)
by_enterprise (Some e) number le few = enterprise_number e number few le

pub asked_by_name : (id : ElementId) → IsElement id → column_of (name_text id) ≡ Some (Element id)
asked_by_name id is = by_enterprise id.enterprise id.number is.0 is.1
