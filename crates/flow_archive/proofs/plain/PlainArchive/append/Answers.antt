use Rattle.std.proofs.Common.{ℕ, ◌+◌, length, ◌≡◌, refl, sym, ◌∙◌, subst, ap, arith, List, ◌∷◌, [], ◌++◌, take}
use Rattle.std.proofs.lemmas.List.{take-append-le, take_all}
use Rattle.flow_measure.specs.History.{History, IsHistory}
use Rattle.flow_codec.specs.Templates.{AllTemplates}
use Rattle.flow_codec.proofs.Sizes.{short_enough}
use Rattle.flow_archive.specs.Plain.{history_of, IsKept, IsAppended, IsRefusal, fault_refusal}
use Rattle.flow_archive.specs.declared.error.PlainError.TheVariants.{NumbersSpent}
use Rattle.flow_measure.specs.Sums.{Table}
use Rattle.flow_codec.specs.Walk.{IsStopped}
use Rattle.flow_codec.specs.declared.sink.WalkError.{WalkError}
use Rattle.flow_codec.specs.declared.sink.WalkError.TheVariants as walk
use Rattle.flow_measure.specs.declared.error.SumError.{SumError}
use Rattle.flow_archive.proofs.Appending.{Holds, Refuses, appended, copied, err_of, faulty, goes_on, is_history}
use Rattle.flow_archive.proofs.Appending.{kept_then, never_spent, spent}
use Rattle.flow_archive.proofs.plain.PlainArchive.append.Goals as goal

pub returns-in_err-judge_message-clause-refused : goal.returns-in_err-judge_message-clause-refused
returns-in_err-judge_message-clause-refused c =
    let refused =
    faulty c.self.inside.messages.items c.self.inside.templates (record { rows = c.self.inside.rows })
    c.self.invariant c.args.octets.now c.self.inside.rows.width c.in_err-judge_message.field-0.0
    c.in_err-judge_message.ensures.fault in
    err_of c.from_residual.result _ (λ e. IsRefusal e c.args.octets.now c.args.self.now) c.from_residual.ensures.1
    (subst (IsRefusal (fault_refusal c.in_err-judge_message.field-0.0) c.args.octets.now) c.self.view_is refused)

pub returns-then-count-ge-MOST_MESSAGES-clause-refused : goal.returns-then-count-ge-MOST_MESSAGES-clause-refused
returns-then-count-ge-MOST_MESSAGES-clause-refused c =
    let found = c.in_ok-judge_message.ensures.found in
    let all = spent c.self.inside.messages.items c.self.inside.templates (record { rows = c.self.inside.rows })
    c.self.invariant c.args.octets.now (record { header = c.in_ok-judge_message.field-0; records = found.0 })
    found.1 found.2
    (omega (
      arith,
      c.self.invariant.numbers,
      c.len-count.ensures,
      c.self.inside.messages.ok,
      c.if-count-ge-MOST_MESSAGES.true,
    )) in
    subst (λ (h : History). IsRefusal NumbersSpent c.args.octets.now h) c.self.view_is all

pub unreachable-requires : goal.unreachable-requires
unreachable-requires c =
    let found = c.in_ok-judge_message.ensures.found in
    let size = short_enough c.args.octets.now c.self.inside.templates (record {
      header = c.in_ok-judge_message.field-0;
      records = found.0;
    }) found.1 (found.2).0 in
    let kept = copied c.self.inside.messages.items c.self.inside.templates c.self.inside.templates
    c.self.inside.rows c.in_ok-try_copy.field-0 c.self.invariant refl c.in_ok-try_copy.ensures.copy in
    let is = c.in-Err-Sink-SumSpent.field-0-is ∙ ap walk.Sink c.in-Err-Sink-SumSpent.field-0-0-is in
    let stopped =
    subst (λ (stop : WalkError SumError). IsStopped Holds Refuses c.args.octets.now c.self.inside.templates
    (record { rows = c.in_ok-try_copy.field-0 }) stop) is c.in-Err-Sink-SumSpent.ensures.fault in
    never_spent c.self.inside.messages.items c.self.inside.templates (record { rows = c.in_ok-try_copy.field-0 })
    kept c.args.octets.now stopped.0 (omega (arith, size.1)) stopped.1

pub invariant_of-self-2 : goal.invariant_of-self-2
invariant_of-self-2 c =
    let kept = copied c.self.inside.messages.items c.self.inside.templates c.self.inside.templates
    c.self.inside.rows c.in_ok-try_copy.field-0 c.self.invariant refl c.in_ok-try_copy.ensures.copy in
    let pushed = c.in_ok-push.ensures.items
    ∙ ap (λ (o : List ℕ). c.self.inside.messages.items ++ o ∷ []) (c.from_vec-message.ensures
    ∙ c.in_ok-from_slice.ensures.items) in
    subst (λ (r : Table). IsKept c.push.new.self.items c.walk_message.new.templates r) (sym c.replace.ensures.after)
    (subst (λ (ms : List (List ℕ)). IsKept ms c.walk_message.new.templates c.walk_message.new.sink.rows) (sym pushed)
    (kept_then c.self.inside.messages.items c.self.inside.templates (record { rows = c.in_ok-try_copy.field-0 })
    kept c.args.octets.now c.walk_message.new.templates c.walk_message.new.sink c.in-Ok.field-0
    (omega (arith, c.len-count.ensures, c.self.inside.messages.ok, c.if-count-ge-MOST_MESSAGES.false))
    c.in-Ok.ensures.found))

pub returns-clause-appended : goal.returns-clause-appended
returns-clause-appended c =
    let kept = copied c.self.inside.messages.items c.self.inside.templates c.self.inside.templates
    c.self.inside.rows c.in_ok-try_copy.field-0 c.self.invariant refl c.in_ok-try_copy.ensures.copy in
    let pushed = c.in_ok-push.ensures.items
    ∙ ap (λ (o : List ℕ). c.self.inside.messages.items ++ o ∷ []) (c.from_vec-message.ensures
    ∙ c.in_ok-from_slice.ensures.items) in
    let same : history_of c.in_ok-try_copy.field-0.width c.self.inside.messages.items ≡ c.args.self.now =
    ap (λ (t : Table). history_of t.width c.self.inside.messages.items) c.in_ok-try_copy.ensures.copy
    ∙ c.self.view_is in
    let count : length c.self.inside.messages.items + 1 ≡ c.len-count.result + 1 =
    omega (arith, c.len-count.ensures, c.self.inside.messages.ok) in
    let one = appended c.self.inside.messages.items c.self.inside.templates
    (record { rows = c.in_ok-try_copy.field-0 }) kept c.args.octets.now c.walk_message.new.templates
    c.walk_message.new.sink c.in-Ok.field-0 c.in-Ok.ensures.found in
    let told = subst
    (λ (n : ℕ). IsAppended n c.args.octets.now
    (history_of c.in_ok-try_copy.field-0.width c.self.inside.messages.items)
    (history_of c.walk_message.new.sink.rows.width (c.self.inside.messages.items ++ c.args.octets.now ∷ []))) count
    one in
    let there = subst
    (λ (ms : List (List ℕ)). IsAppended (c.len-count.result + 1) c.args.octets.now
    (history_of c.in_ok-try_copy.field-0.width c.self.inside.messages.items)
    (history_of c.walk_message.new.sink.rows.width ms)) (sym pushed) told in
    subst (λ (r : Table). IsAppended (c.len-count.result + 1) c.args.octets.now c.args.self.now
    (history_of r.width c.push.new.self.items)) (sym c.replace.ensures.after)
    (subst (λ (h : History). IsAppended (c.len-count.result + 1) c.args.octets.now h
    (history_of c.walk_message.new.sink.rows.width c.push.new.self.items)) same there)

pub returns-in_err-try_copy-clause-history : goal.returns-in_err-try_copy-clause-history
returns-in_err-try_copy-clause-history c = subst IsHistory c.self.view_is (is_history _ _ _ c.self.invariant)

-- what was pushed is taken away again
as_before : (messages pushed left : List (List ℕ)) (one : List ℕ) (count : ℕ) → count ≡ length messages
    → pushed ≡ messages ++ one ∷ [] → left ≡ take count pushed → left ≡ messages
as_before messages pushed left one count is put cut =
    cut ∙ ap (take count) put ∙ take-append-le count messages (one ∷ []) (omega (arith, is))
    ∙ take_all count messages (omega (arith, is))

pub returns-in-Err-clause-kept : goal.returns-in-Err-clause-kept
returns-in-Err-clause-kept c =
    let back = as_before c.self.inside.messages.items c.push.new.self.items c.truncate.new.self.items _ c.len-count.result
    (omega (arith, c.len-count.ensures, c.self.inside.messages.ok)) c.in_ok-push.ensures.items c.truncate.ensures.items in
    ap (history_of c.self.inside.rows.width) back ∙ c.self.view_is

pub returns-in-Err-clause-history : goal.returns-in-Err-clause-history
returns-in-Err-clause-history c =
    subst IsHistory (sym (returns-in-Err-clause-kept c))
    (subst IsHistory c.self.view_is (is_history _ _ _ c.self.invariant))

pub invariant_of-self-in-Err : goal.invariant_of-self-in-Err
invariant_of-self-in-Err c =
    let back = as_before c.self.inside.messages.items c.push.new.self.items c.truncate.new.self.items _ c.len-count.result
    (omega (arith, c.len-count.ensures, c.self.inside.messages.ok)) c.in_ok-push.ensures.items c.truncate.ensures.items in
    subst (λ (ms : List (List ℕ)). IsKept ms c.walk_message.new.templates c.self.inside.rows) (sym back)
    (subst (λ (here : AllTemplates). IsKept c.self.inside.messages.items here c.self.inside.rows)
    (sym c.in-Err.ensures.err) c.self.invariant)

pub returns-in_err-push-clause-history : goal.returns-in_err-push-clause-history
returns-in_err-push-clause-history c =
    subst (λ (ms : List (List ℕ)). IsHistory (history_of c.self.inside.rows.width ms)) (sym c.in_err-push.ensures.items)
    (is_history _ _ _ c.self.invariant)

pub returns-clause-history : goal.returns-clause-history
returns-clause-history c =
    goes_on _ _ _ _ (returns-clause-appended c) (subst IsHistory c.self.view_is (is_history _ _ _ c.self.invariant))
