use Rattle.std.proofs.Common.{◌≡◌, ℕ, ◌+◌, ◌%◌, ◌<◌, ◌^◌, List, ◌∷◌, ◌++◌, length, take, drop, get_or, None}
use Rattle.std.proofs.Common.{refl, sym, ap, subst, ◌∙◌, arith, length-append, length-drop}
use Rattle.std.specs.Prelude.{IfErr, IsErrAnd, Result, Ok, Err}
use Rattle.std.specs.FinMap.{get}
use Rattle.std.proofs.lemmas.List.{take-append-drop}
use Rattle.flow_measure.specs.declared.rows.Sums.{Sums}
use Rattle.flow_measure.specs.declared.error.SumError.{SumError}
use Rattle.flow_measure.specs.declared.error.SumError.TheVariants.{SumSpent, OutOfMemory}
use Rattle.flow_measure.specs.Sums.{Table, AllFit, IsRefused, with_sums}
use Rattle.flow_rolled.specs.declared.row.RolledRow.{RolledRow}
use Rattle.flow_rolled.specs.Rows.{sums_of, sums_in, AreRows}
use Rattle.flow_rolled.proofs.Adding.{at_row, row_at, first_counted, fits_next, one_row_more, rows_next}
use Rattle.flow_rolled.proofs.decoding.add_rows.Goals as goal

abbrev none : RolledRow
none = record { key = record { start = 0; domain = 0; protocol = None }; flows = 0; octets = 0; packets = 0 }

abbrev table : ℕ → List RolledRow → Table
table w rows = record { width = w; sums = sums_of rows }

few_front : (e list : List RolledRow) (i : ℕ) → i < length list → length e + length list < 2 ^ 64
    → length (e ++ take i list) + 1 < 2 ^ 64
few_front e list i lt few =
    let a = length-append e (take i list) in
    let b = length-append (take i list) (drop i list) in
    let d = ap (λ (l : List RolledRow). length l) (take-append-drop i list) in
    let n = length-drop i list in
    omega (arith, a, b, d, n, few, lt)

-- the sums with the next row fit
fit_with : (t : Table) (s : Sums) (w : ℕ) (xs ys : List RolledRow) (r : RolledRow) → t ≡ table w xs → s ≡ sums_in r
    → AreRows w None (xs ++ r ∷ ys) → length xs + 1 < 2 ^ 64 → AllFit (with_sums r.key s t)
fit_with t s w xs ys r t_is s_is h lt =
    subst (λ x. AllFit (with_sums r.key s x)) (sym t_is)
    (subst (λ x. AllFit (with_sums r.key x (table w xs))) (sym s_is) (fits_next w xs ys r h lt))

only_memory : (e : SumError) (t : Table) → AllFit t → IsRefused e t → e ≡ OutOfMemory
only_memory SumSpent t fit h = absurd (h fit)
only_memory OutOfMemory t fit h = refl

passed : {X : Type 0} (r : Result X SumError) (e : SumError) → IsErrAnd r (λ x. x ≡ e) → e ≡ OutOfMemory
    → IfErr r (λ x. x ≡ OutOfMemory)
passed (Ok x) e h is = tt
passed (Err x) e h is = h ∙ is

becomes : (new t : Table) (s : Sums) (w : ℕ) (earlier list : List RolledRow) (i : ℕ) → i < length list
    → t ≡ table w (earlier ++ take i list) → s ≡ sums_in (get_or list i none)
    → new ≡ with_sums (get_or list i none).key s t → new ≡ table w (earlier ++ take (i + 1) list)
becomes new t s w earlier list i lt t_is s_is is =
    is ∙ ap (λ x. with_sums (get_or list i none).key s x) t_is
    ∙ ap (λ x. with_sums (get_or list i none).key x (table w (earlier ++ take i list))) s_is
    ∙ one_row_more w (earlier ++ take i list) (get_or list i none) ∙ ap (table w) (rows_next earlier list i none lt)

pub put-requires-clause-counted : goal.put-requires-clause-counted
put-requires-clause-counted c =
    let list = c.args.list.now in let i = c.loop-row.row-index in let e = c.requires.0 in let w =
    c.args.rows.now.width in
    let row = row_at w (e ++ take i list) (get_or list i none) (drop (i + 1) list)
    (at_row w e list i none c.loop-row-test.true c.requires.2) in
    λ none_there. subst (λ (s : Sums). 0 < s.flows) (sym c.sums_in.ensures)
    (first_counted (e ++ take i list) (get_or list i none) row.1
    (sym (ap (λ (t : Table). get t.sums (get_or list i none).key) (c.loop-row.invariant e c.requires.1))
    ∙ none_there))

pub put-requires-clause-aligned : goal.put-requires-clause-aligned
put-requires-clause-aligned c =
    let list = c.args.list.now in let i = c.loop-row.row-index in let e = c.requires.0 in let w =
    c.args.rows.now.width in
    let row = row_at w (e ++ take i list) (get_or list i none) (drop (i + 1) list)
    (at_row w e list i none c.loop-row-test.true c.requires.2) in
    subst (λ (t : Table). (get_or list i none).key.start % t.width ≡ 0) (sym (c.loop-row.invariant e c.requires.1))
    (row.0).aligned

pub returns-in_err-put-clause-err : goal.returns-in_err-put-clause-err
returns-in_err-put-clause-err c =
    let list = c.args.list.now in let i = c.loop-row.row-index in let e = c.requires.0 in let w =
    c.args.rows.now.width in
    let r = get_or list i none in
    let s = c.sums_in.ensures in
    let fit = fit_with c.loop-row.rows c.sums_in.result w (e ++ take i list) (drop (i + 1) list) r
    (c.loop-row.invariant e c.requires.1) s
    (at_row w e list i none c.loop-row-test.true c.requires.2)
    (few_front e list i c.loop-row-test.true c.requires.3) in
    passed c.from_residual.result c.in_err-put.field-0.0 c.from_residual.ensures.1
    (only_memory c.in_err-put.field-0.0 _ fit c.in_err-put.ensures.becomes.0)

pub loop-row-preserved : goal.loop-row-preserved
loop-row-preserved c = λ earlier h.
    let list = c.args.list.now in let i = c.loop-row.row-index in let w = c.args.rows.now.width in
    let r = get_or list i none in
    let sums = c.sums_in.result in
    let s = c.sums_in.ensures in
    let t = c.loop-row.invariant earlier h in
    becomes _ c.loop-row.rows sums w earlier list i c.loop-row-test.true t s c.in_ok-put.ensures.becomes.1
