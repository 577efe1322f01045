use Rattle.std.proofs.Common.{◌≡◌, ◌∙◌, ℕ, List, ap, drop, length, take, subst, sym}
use Rattle.std.specs.List.{AllByRecursion}
use Rattle.std.specs.Prelude.{IfOk, OnErr, OnOk}
use Rattle.std.specs.Io.KnownBytes.{Appends}
use Rattle.flow_codec.specs.Cutting.{IsCutOff}
use Rattle.flow_codec.specs.Message.{joined}
use Rattle.flow_disk.proofs.Results.{passed_on}
use Rattle.flow_report.specs.Writing.{AppendsFront}
use Rattle.flow_export.specs.declared.refusal.ExportRefusal.TheVariants as refusal
use Rattle.flow_export.specs.Export.{asked_count, AreMessages, IsBlameless, Writes, WritesSome}
use Rattle.flow_export.proofs.Choosing.{none_is_prefix}
use Rattle.flow_export.proofs.WholeMessages.{none_of_them}
use Rattle.flow_export.proofs.Written.{on_err_always}
use Rattle.flow_export.proofs.exporting.write_part.Goals as goal

pub returns-in_err-messages-in-Sealed-clause-part : goal.returns-in_err-messages-in-Sealed-clause-part
returns-in_err-messages-in-Sealed-clause-part g c =
    on_err_always c.from_residual.result _ (none_of_them _ (g.W.Write.contents c.args.output.now))

pub returns-in_err-messages-in-Sealed-clause-some : goal.returns-in_err-messages-in-Sealed-clause-some
returns-in_err-messages-in-Sealed-clause-some g c = λ honest.
    let output = g.W.Write.contents c.args.output.now in
    on_err_always c.from_residual.result _ (none_is_prefix output _)

pub returns-in_err-messages-in-Sealed-clause-given : goal.returns-in_err-messages-in-Sealed-clause-given
returns-in_err-messages-in-Sealed-clause-given g c = rw c.in-Sealed.is (λ honest each.
    passed_on c.from_residual.result (refusal.Query (c.in_err-messages-in-Sealed.field-0).0) IsBlameless c.from_residual.ensures.1
    (c.in_err-messages-in-Sealed.ensures.given honest each))

pub returns-in_ok-messages-in-Sealed-clause-count : goal.returns-in_ok-messages-in-Sealed-clause-count
returns-in_ok-messages-in-Sealed-clause-count g c = rw c.in-Sealed.is
    (subst (λ (k : ℕ). IfOk c.write_some.result (λ n. n ≡ asked_count c.args.skip c.args.most k))
    (ap length c.as_slice.ensures.value ∙ c.in_ok-messages-in-Sealed.ensures.count) c.write_some.ensures.count)

pub returns-in_ok-messages-in-Sealed-clause-whole : goal.returns-in_ok-messages-in-Sealed-clause-whole
returns-in_ok-messages-in-Sealed-clause-whole g c = rw c.in-Sealed.is
    (subst (λ (k : ℕ). OnOk c.write_some.result (Writes (AreMessages (asked_count c.args.skip c.args.most k))
    (g.W.Write.contents c.args.output.now) (g.W.Write.contents c.write_some.new.output)))
    (ap length c.as_slice.ensures.value ∙ c.in_ok-messages-in-Sealed.ensures.count) c.write_some.ensures.whole)

pub returns-in_ok-messages-in-Sealed-clause-part : goal.returns-in_ok-messages-in-Sealed-clause-part
returns-in_ok-messages-in-Sealed-clause-part g c = rw c.in-Sealed.is
    (subst (λ (k : ℕ). OnErr c.write_some.result (WritesSome (AreMessages (asked_count c.args.skip c.args.most k))
    (g.W.Write.contents c.args.output.now) (g.W.Write.contents c.write_some.new.output)))
    (ap length c.as_slice.ensures.value ∙ c.in_ok-messages-in-Sealed.ensures.count) c.write_some.ensures.part)

pub returns-in_ok-messages-in-Sealed-clause-given : goal.returns-in_ok-messages-in-Sealed-clause-given
returns-in_ok-messages-in-Sealed-clause-given g c = rw c.in-Sealed.is (λ honest each.
    c.write_some.ensures.blameless
    (subst (AllByRecursion IsCutOff)
    (sym (c.as_slice.ensures.value ∙ c.in_ok-messages-in-Sealed.ensures.found honest)) each))

pub returns-in_ok-messages-in-Sealed-clause-all : goal.returns-in_ok-messages-in-Sealed-clause-all
returns-in_ok-messages-in-Sealed-clause-all g c = rw c.in-Sealed.is (λ honest.
    subst (λ (ms : List (List ℕ)). OnOk c.write_some.result (Appends (g.W.Write.contents c.args.output.now)
    (g.W.Write.contents c.write_some.new.output) (joined (take c.args.most (drop c.args.skip ms)))))
    (c.as_slice.ensures.value ∙ c.in_ok-messages-in-Sealed.ensures.found honest) c.write_some.ensures.all)

pub returns-in_ok-messages-in-Sealed-clause-some : goal.returns-in_ok-messages-in-Sealed-clause-some
returns-in_ok-messages-in-Sealed-clause-some g c = rw c.in-Sealed.is (λ honest.
    subst (λ (ms : List (List ℕ)). OnErr c.write_some.result (AppendsFront (g.W.Write.contents c.args.output.now)
    (g.W.Write.contents c.write_some.new.output) (joined (take c.args.most (drop c.args.skip ms)))))
    (c.as_slice.ensures.value ∙ c.in_ok-messages-in-Sealed.ensures.found honest) c.write_some.ensures.some)

pub returns-in-Active-clause-count : goal.returns-in-Active-clause-count
returns-in-Active-clause-count g c = rw c.in-Active.is c.write_some-in-Active.ensures.count

pub returns-in-Active-clause-whole : goal.returns-in-Active-clause-whole
returns-in-Active-clause-whole g c = rw c.in-Active.is c.write_some-in-Active.ensures.whole

pub returns-in-Active-clause-part : goal.returns-in-Active-clause-part
returns-in-Active-clause-part g c = rw c.in-Active.is c.write_some-in-Active.ensures.part

pub returns-in-Active-clause-given : goal.returns-in-Active-clause-given
returns-in-Active-clause-given g c = rw c.in-Active.is (λ honest each. c.write_some-in-Active.ensures.blameless each)

pub returns-in-Active-clause-all : goal.returns-in-Active-clause-all
returns-in-Active-clause-all g c = rw c.in-Active.is (λ honest. c.write_some-in-Active.ensures.all)

pub returns-in-Active-clause-some : goal.returns-in-Active-clause-some
returns-in-Active-clause-some g c = rw c.in-Active.is (λ honest. c.write_some-in-Active.ensures.some)
