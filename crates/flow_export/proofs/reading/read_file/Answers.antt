use Rattle.std.proofs.Common.{◌≡◌, ◌∙◌, ◌-◌, ℕ, ap, ap₂, arith, drop, take}
use Rattle.flow_disk.specs.Printed.{read_refusal}
use Rattle.flow_snapshot.proofs.ByFile.{active_file}
use Rattle.flow_snapshot.proofs.KeptFlows.{answered_err}
use Rattle.flow_export.proofs.ReadWhole.{read_failed}
use Rattle.flow_export.proofs.reading.read_file.Goals as goal

pub returns-clause-found : goal.returns-clause-found
returns-clause-found g c = λ honest.
    let part = c.args.part.now in
    let octets = g.S.SealedFile.octets part.reader in
    let same : part.prefix ≡ part.prefix - 0 = omega arith in
    ap₂ active_file
    (c.in_ok-prefix.ensures.octets honest ∙ ap (λ (k : ℕ). take k (drop 0 octets)) same)
    (c.in_ok-messages.ensures.found honest)

pub returns-in_err-prefix-clause-given : goal.returns-in_err-prefix-clause-given
returns-in_err-prefix-clause-given g c = λ honest each.
    let e = (c.in_err-prefix.field-0).0 in
    answered_err _ c.from_residual.result (read_refusal e) c.from_residual.ensures.1 (read_failed e)

pub returns-in_err-messages-clause-given : goal.returns-in_err-messages-clause-given
returns-in_err-messages-clause-given g c = λ honest each.
    answered_err _ c.from_residual-in_err-messages.result (c.in_err-messages.field-0).0
    c.from_residual-in_err-messages.ensures.1 (c.in_err-messages.ensures.given honest each)
