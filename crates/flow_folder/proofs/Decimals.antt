-- Numbers in decimal, written and read.
use Rattle.std.proofs.Common.{◌≡◌, ℕ, ◌<◌, ◌^◌, List, length, decimal, Result, Ok, Err, Some}
use Rattle.std.proofs.Common.{IfSome, refl, sym, ◌∙◌, ap, subst, arith, ⊎_elim}
use Rattle.std.proofs.lemmas.Bool.{cases_eq}
use Rattle.std.specs.Result.{OkIff, result_ok}
use Rattle.std.specs.Str.Parse.{ParsesUnsigned, AllDigits, digits_value}
use Rattle.std.proofs.lemmas.Str.Parse.{IsNumeralModel, numerals_by_value, tells_digits, parse_plain}
use Rattle.std.proofs.lemmas.Fmt.{decimal-digits_value, parse-decimal, decimal_nonempty, first_decimal, decimal_digit}
use Rattle.flow_folder.specs.Naming.{IsPlain}

own : IsNumeralModel (AllDigits 10) (digits_value 10)
own = numerals_by_value (AllDigits 10) tells_digits

-- octets that were read as a number are its decimal digits
pub written_back : {E : Type 0} (bs : List ℕ) (r : Result ℕ E) → ParsesUnsigned 64 10 bs r → IsPlain bs
    → (n : ℕ) → r ≡ Ok n → bs ≡ decimal n
written_back bs r parsed plain n is =
    let read = subst
    (λ o. OkIff o (AllDigits 10 bs × (0 < length bs) × (digits_value 10 bs < 2 ^ 64)) (digits_value 10 bs)) is
    (parse_plain own 64 bs r parsed plain.unsigned) in
    sym (decimal-digits_value own bs read.0.0 plain.some plain.no_zero read.0.2) ∙ ap decimal (sym read.1)

pub reads_back : {E : Type 0} (bs : List ℕ) (r : Result ℕ E) → ParsesUnsigned 64 10 bs r → IsPlain bs
    → IfSome (result_ok r) (λ n. bs ≡ decimal n)
reads_back {E} bs (Ok n) parsed plain = written_back {E = E} bs (Ok n) parsed plain n refl
reads_back bs (Err e) parsed plain = tt

pub reads_every : {E : Type 0} (bs : List ℕ) (r : Result ℕ E) → ParsesUnsigned 64 10 bs r
    → (n : ℕ) → n < 2 ^ 64 → bs ≡ decimal n → result_ok r ≡ Some n
reads_every bs r parsed n small is = ap result_ok (parse-decimal 64 n bs r small small is parsed)

-- a number in decimal is plain
pub plain_decimal : (n : ℕ) → n < 2 ^ 64 → IsPlain (decimal n)
plain_decimal n small = ⊎_elim (λ zero. subst (λ k. IsPlain (decimal k)) (sym zero) plain_zero)
    (λ other. record {
      some = decimal_nonempty n small;
      unsigned = λ plus. omega (arith, plus, first_decimal n (omega (arith, other)) small);
      no_zero = λ zero. absurd (omega (arith, zero, first_decimal n (omega (arith, other)) small));
    })
    (cases_eq n 0)
  where
    plain_zero : IsPlain (decimal 0)
    plain_zero = subst IsPlain (sym (decimal_digit 0 (omega arith)))
        (record { some = omega arith; unsigned = λ e. omega (arith, e); no_zero = λ e. refl })
