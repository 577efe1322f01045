use Rattle.std.proofs.Common.{◌≡◌, ◌∙◌, ◌+◌, ◌++◌, ◌∷◌, ℕ, Bor, List, [], None, Some, get_or, take, drop, sym, ap, subst}
use Rattle.std.proofs.Common.{arith, refl}
use Rattle.std.proofs.lemmas.List.{take_all, take-append-drop}
use Rattle.flow_gate.specs.Steps.{slices}
use Rattle.flow_feed.specs.Given.{AreGivenSingly, HasTaken}
use Rattle.flow_feed.proofs.Batches.{slices_long, slices_more}
use Rattle.flow_feed.proofs.Taking.{append_one, singly_ended, singly_more, singly_none}
use Rattle.flow_feed.proofs.giving.take_singly.Goals as goal

pub loop-message-init : goal.loop-message-init
loop-message-init g c = record {
  taken = singly_none g.A.Appender.appends c.args.appender.now;
  count = refl;
}

pub returns-in-Err-clause-taken : goal.returns-in-Err-clause-taken
returns-in-Err-clause-taken g c =
    let ms = c.args.messages.now in
    let all = slices ms in
    let n = c.loop-message.count in
    let i = c.loop-message.message-index in
    let none : Bor (List ℕ) = record { ref_ptr = (0, 0); now = [] } in
    let m = (get_or ms i none).now in
    let at : n ≡ i = c.loop-message.invariant.count in
    let whole : take n all ++ m ∷ drop (n + 1) all ≡ all =
    subst (λ (k : ℕ). take k all ++ m ∷ drop (k + 1) all ≡ all) (sym at)
    (sym (append_one (take i all) m (drop (i + 1) all))
    ∙ ap (λ (l : List (List ℕ)). l ++ drop (i + 1) all) (sym (slices_more ms i none c.loop-message-test.true))
    ∙ take-append-drop (i + 1) all) in
    subst (λ (l : List (List ℕ)). HasTaken g.A.Appender.appends (AreGivenSingly l) c.args.appender.now
    c.append_batch.new.self (take n all) (Some c.in-Err.error)) whole
    (singly_ended g.A.Appender.appends c.args.appender.now c.loop-message.appender c.append_batch.new.self (take n all) m
    c.loop-message.invariant.taken (drop (n + 1) all) c.in-Err.error c.in-Err.ensures)

pub returns-clause-taken : goal.returns-clause-taken
returns-clause-taken g c =
    let all = slices c.args.messages.now in
    let n = c.loop-message.count in
    let at = c.loop-message.invariant.count in
    let long = slices_long c.args.messages.now in
    let ended = c.loop-message-test.false in
    subst (λ (l : List (List ℕ)). HasTaken g.A.Appender.appends (AreGivenSingly l) c.args.appender.now
    c.loop-message.appender (take n all) None) (take_all n all (omega (arith, at, long, ended)))
    c.loop-message.invariant.taken

pub loop-message-preserved : goal.loop-message-preserved
loop-message-preserved g c =
    let ms = c.args.messages.now in
    let n = c.loop-message.count in
    let i = c.loop-message.message-index in
    let none : Bor (List ℕ) = record { ref_ptr = (0, 0); now = [] } in
    let appends = g.A.Appender.appends in
    let old = c.args.appender.now in
    let new = c.append_batch.new.self in
    let m = (get_or ms i none).now in
    let at : n ≡ i = c.loop-message.invariant.count in
    let more : take (n + 1) (slices ms) ≡ take n (slices ms) ++ m ∷ [] =
    subst (λ (k : ℕ). take (k + 1) (slices ms) ≡ take k (slices ms) ++ m ∷ []) (sym at)
    (slices_more ms i none c.loop-message-test.true) in
    record {
      taken = subst (λ (l : List (List ℕ)). HasTaken appends (AreGivenSingly l) old new l None) (sym more)
          (singly_more appends old c.loop-message.appender new (take n (slices ms)) m c.loop-message.invariant.taken
          c.in-Ok.field-0 c.in-Ok.ensures);
      count = ap (λ (k : ℕ). k + 1) at;
    }
