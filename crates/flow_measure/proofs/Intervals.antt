-- Intervals of one width within those of another.
use Rattle.std.proofs.Common.{◌≡◌, ℕ, ◌*◌, ◌/◌, ◌%◌, ◌<◌}
use Rattle.std.proofs.Common.{sym, ap, subst, ◌∙◌, arith}
use Rattle.std.proofs.Math.Nat.{div-mul-le_self, mod-eq-sub-div-mul, div-div-eq-div-mul, mul-div_cancel}
use Rattle.flow_measure.specs.Sums.{interval_of}

pub interval_by : (t w : ℕ) → interval_of t w ≡ t / w * w
interval_by t w = omega (arith, mod-eq-sub-div-mul t w, div-mul-le_self t w)

pub aligned : (t w : ℕ) → 0 < w → interval_of t w % w ≡ 0
aligned t w h =
    let e : interval_of t w ≡ t / w * w = interval_by t w in
    let back : t / w * w / w ≡ t / w = mul-div_cancel (t / w) h in
    rw e (rw (mod-eq-sub-div-mul (t / w * w) w, back) (omega arith))

-- an interval of a width lies in the wide interval that holds its start
pub within_wide : (t w c : ℕ) → 0 < w → interval_of (interval_of t w) (w * c) ≡ interval_of t (w * c)
within_wide t w c h =
    let back : t / w * w / w ≡ t / w = mul-div_cancel (t / w) h in
    let same : t / w * w / (w * c) ≡ t / (w * c) =
    sym (div-div-eq-div-mul (t / w * w) w c) ∙ ap (λ n. n / c) back ∙ div-div-eq-div-mul t w c in
    ap (λ i. interval_of i (w * c)) (interval_by t w) ∙ interval_by (t / w * w) (w * c) ∙ ap (λ n. n * (w * c)) same
    ∙ sym (interval_by t (w * c))

pub within_multiple : (t width wide : ℕ) → 0 < width → wide % width ≡ 0
    → interval_of (interval_of t width) wide ≡ interval_of t wide
within_multiple t width wide h multiple =
    let whole : width * (wide / width) ≡ wide = omega arith in
    subst (λ w. interval_of (interval_of t width) w ≡ interval_of t w) whole (within_wide t width (wide / width) h)
