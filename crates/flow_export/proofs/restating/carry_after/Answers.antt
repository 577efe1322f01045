use Rattle.std.proofs.Common.{◌∙◌, ℕ, List, ap, ap₂, subst, sym}
use Rattle.std.specs.Prelude.{IfOk}
use Rattle.std.specs.List.{AllByRecursion}
use Rattle.flow_codec.specs.Cutting.{IsCutOff}
use Rattle.flow_model.proofs.Accepting.{all_cut}
use Rattle.flow_segment.specs.Prefix.{IsRestated}
use Rattle.flow_snapshot.specs.Found.{KeptFile}
use Rattle.flow_snapshot.proofs.ByFile.{active_file}
use Rattle.flow_snapshot.proofs.KeptFlows.{answered_err}
use Rattle.flow_export.specs.Export.{PassesOn}
use Rattle.flow_export.proofs.restating.carry_after.Goals as goal

pub returns-in_ok-read-in-Sealed-clause-found : goal.returns-in_ok-read-in-Sealed-clause-found
returns-in_ok-read-in-Sealed-clause-found g c = rw c.in-Sealed.is (λ honest.
    subst (λ (f : KeptFile). IfOk c.passed_on.result (PassesOn f c.args.count))
    (ap₂ active_file c.as_slice.ensures.value c.as_slice-in-Sealed.ensures.value ∙ c.in_ok-read-in-Sealed.ensures.found honest)
    c.passed_on.ensures.found)

pub returns-in_ok-read-in-Sealed-clause-given : goal.returns-in_ok-read-in-Sealed-clause-given
returns-in_ok-read-in-Sealed-clause-given g c = rw c.in-Sealed.is (λ honest before list restated accepted octets.
    let is = c.in_ok-read-in-Sealed.ensures.found honest in
    let prefix = c.as_slice.ensures.value ∙ ap (λ (f : KeptFile). f.prefix) is in
    let messages = c.as_slice-in-Sealed.ensures.value ∙ ap (λ (f : KeptFile). f.messages) is in
    c.passed_on.ensures.given before list (subst (λ (o : List ℕ). IsRestated o before) (sym prefix) restated) accepted
    (octets ∙ sym messages))

pub returns-in_err-read-in-Sealed-clause-given : goal.returns-in_err-read-in-Sealed-clause-given
returns-in_err-read-in-Sealed-clause-given g c = rw c.in-Sealed.is (λ honest before list restated accepted octets.
    answered_err _ c.from_residual.result (c.in_err-read-in-Sealed.field-0).0 c.from_residual.ensures.1
    (c.in_err-read-in-Sealed.ensures.given honest (subst (AllByRecursion IsCutOff) octets (all_cut before list accepted))))

pub returns-in-Active-clause-found : goal.returns-in-Active-clause-found
returns-in-Active-clause-found g c = rw c.in-Active.is (λ honest. c.passed_on-in-Active.ensures.found)

pub returns-in-Active-clause-given : goal.returns-in-Active-clause-given
returns-in-Active-clause-given g c = rw c.in-Active.is (λ honest. c.passed_on-in-Active.ensures.given)
