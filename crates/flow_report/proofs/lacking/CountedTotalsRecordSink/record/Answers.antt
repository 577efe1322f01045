use Rattle.std.proofs.Common.{◌≡◌, ◌∙◌, ℕ, ◌+◌, ◌%◌, ◌^◌, [], ◌∷◌, ◌++◌, List, length, ap, arith, Result, Ok, Err, IfErr}
use Rattle.std.proofs.Common.{length-append}
use Rattle.std.proofs.Math.Nat.{mod-add-mod}
use Rattle.std.proofs.lemmas.Result.{on_ok_weaker}
use Rattle.flow_codec.specs.Raw.{Placed}
use Rattle.flow_report.proofs.lacking.CountedTotalsRecordSink.record.Goals as goal

if_err_weaker : {X Y : Type 0} (r : Result X Y) (P Q : Y → Type 0) → ((e : Y) → P e → Q e) → IfErr r P → IfErr r Q
if_err_weaker (Ok x) P Q f h = tt
if_err_weaker (Err e) P Q f h = f e h

-- one record more is counted
one_more : (start now : ℕ) (taken : List Placed) (x : Placed) → now ≡ (start + length taken) % 2 ^ 32
    → (now + 1) % 2 ^ 32 ≡ (start + length (taken ++ x ∷ [])) % 2 ^ 32
one_more start now taken x is =
    ap (λ (k : ℕ). (k + 1) % 2 ^ 32) is ∙ mod-add-mod (start + length taken) (2 ^ 32) 1
    ∙ ap (λ (k : ℕ). k % 2 ^ 32) (omega (arith, length-append taken (x ∷ [])))

pub returns-clause-taken : goal.returns-clause-taken
returns-clause-taken c =
    on_ok_weaker c.record.result
    (λ took start taken h. (took start.totals taken h.0, one_more start.records c.args.self.now.records taken _ h.1))
    c.record.ensures.taken

pub returns-clause-refused : goal.returns-clause-refused
returns-clause-refused c =
    if_err_weaker c.record.result _ _ (λ e refused start taken h. refused start.totals taken h.0) c.record.ensures.refused
