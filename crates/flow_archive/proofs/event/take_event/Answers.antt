use Rattle.std.proofs.Common.{◌≡◌, ℕ, true, List, [], ◌∷◌, Result, Err, refl, sym, ◌∙◌, ap, subst}
use Rattle.flow_gate.specs.Scan.{texts}
use Rattle.flow_gate.specs.Steps.{slices}
use Rattle.flow_model.specs.State.{appended}
use Rattle.flow_archive.specs.Answers.{Answers, IsSealed, Takes}
use Rattle.flow_archive.specs.declared.event.Answer.{Answer}
use Rattle.flow_archive.specs.declared.event.Answer.TheVariants.{Position, Sealed}
use Rattle.flow_archive.specs.declared.event.Event.{Event}
use Rattle.flow_archive.specs.declared.refusal.ArchiveError.{ArchiveError}
use Rattle.flow_archive.specs.declared.refusal.ArchiveError.TheVariants.{Closed, OutOfMemory}
use Rattle.flow_archive.proofs.Answering.{err_is}
use Rattle.flow_archive.specs.JobAnswers.{IsInstalled}
use Rattle.flow_archive.proofs.Stepping.{refused_by, told, told_as_it_is, told_refused}
use Rattle.flow_archive.proofs.event.take_event.Goals as goal

pub returns-in_err-octets-in-AppendBatch-clause-answers : goal.returns-in_err-octets-in-AppendBatch-clause-answers
returns-in_err-octets-in-AppendBatch-clause-answers g c =
    let D = g.D.Disk in
    let archive = c.args.archive.now in
    err_is c.from_residual-in_err-octets-in-AppendBatch.result OutOfMemory
    (λ (r : Result Answer ArchiveError). Answers (D.honest archive.disk) archive.closed archive.state c.args.event.now r
    archive.state) c.from_residual-in_err-octets-in-AppendBatch.ensures.1
    (subst (λ (e : Event). Answers (D.honest archive.disk) archive.closed archive.state e (Err OutOfMemory)
    archive.state) (sym c.in-AppendBatch.is)
    (Err OutOfMemory, refl, (sym c.is_closed.ensures.closed ∙ c.if-is_closed.false, refl)))

pub returns-in_err-octets-in-AppendBatch-clause-step : goal.returns-in_err-octets-in-AppendBatch-clause-step
returns-in_err-octets-in-AppendBatch-clause-step g c =
    let D = g.D.Disk in
    let archive = c.args.archive.now in
    refused_by D archive archive _ OutOfMemory _
    c.from_residual-in_err-octets-in-AppendBatch.ensures.1 refl (λ is. cc)
    (λ h image left. g.met.D.Disk.only_now archive.disk image h left)
    (λ h still. c.is_closed.ensures.stands h still)

pub returns-in_ok-position-in-Append-clause-step : goal.returns-in_ok-position-in-Append-clause-step
returns-in_ok-position-in-Append-clause-step g c =
    let D = g.D.Disk in
    let archive = c.args.archive.now in
    let message = c.in-Append.message in
    told D archive c.append_batch.new.self
    (λ s. s ≡ appended archive.state (slices (c.as_slice.result ∷ []))) (Takes true archive.state c.args.event.now)
    c.in_ok-position-in-Append.position (Position c.in_ok-position-in-Append.position)
    (λ s is. subst (λ (e : Event). Takes true archive.state e s) (sym c.in-Append.is)
    (is ∙ ap (λ (l : List ℕ). appended archive.state (l ∷ [])) c.as_slice.ensures.value))
    c.in_ok-position-in-Append.ensures.step

pub returns-in_ok-position-in-AppendBatch-clause-step : goal.returns-in_ok-position-in-AppendBatch-clause-step
returns-in_ok-position-in-AppendBatch-clause-step g c =
    let D = g.D.Disk in
    let archive = c.args.archive.now in
    let messages = c.in-AppendBatch.messages in
    told D archive c.append_batch-in-AppendBatch.new.self
    (λ s. s ≡ appended archive.state (slices c.as_slice-in-AppendBatch-2.result.now))
    (Takes true archive.state c.args.event.now)
    c.in_ok-position-in-AppendBatch.position (Position c.in_ok-position-in-AppendBatch.position)
    (λ s is. subst (λ (e : Event). Takes true archive.state e s) (sym c.in-AppendBatch.is)
    (is ∙ ap (λ (l : List (List ℕ)). appended archive.state l)
    (ap slices c.as_slice-in-AppendBatch-2.ensures.value ∙ c.in_ok-octets-in-AppendBatch.ensures
    ∙ ap texts c.as_slice-in-AppendBatch.ensures.value)))
    c.in_ok-position-in-AppendBatch.ensures.step

pub returns-in_ok-file-in-Seal-clause-step : goal.returns-in_ok-file-in-Seal-clause-step
returns-in_ok-file-in-Seal-clause-step g c =
    let D = g.D.Disk in
    let archive = c.args.archive.now in
    told D archive c.seal.new.self (λ s. IsSealed true archive.state s)
    (Takes true archive.state c.args.event.now) c.in_ok-file-in-Seal.file (Sealed c.in_ok-file-in-Seal.file)
    (λ s is. subst (λ (e : Event). Takes true archive.state e s) (sym c.in-Seal.is) is)
    c.in_ok-file-in-Seal.ensures.step

pub returns-then-is_closed-clause-answers : goal.returns-then-is_closed-clause-answers
returns-then-is_closed-clause-answers g c =
    let D = g.D.Disk in
    let archive = c.args.archive.now in
    subst (λ (e : Event). Answers (D.honest archive.disk) archive.closed archive.state e (Err Closed) archive.state)
    (sym c.in-AppendBatch.is) (Err Closed, refl, (sym c.is_closed.ensures.closed ∙ c.if-is_closed.true, refl))

pub returns-in_err-position-in-AppendBatch-clause-step : goal.returns-in_err-position-in-AppendBatch-clause-step
returns-in_err-position-in-AppendBatch-clause-step g c =
    let D = g.D.Disk in
    let archive = c.args.archive.now in
    told_refused {T = ℕ} D archive c.append_batch-in-AppendBatch.new.self
    (λ s. s ≡ appended archive.state (slices c.as_slice-in-AppendBatch-2.result.now))
    (Takes true archive.state c.args.event.now) c.in_err-position-in-AppendBatch.field-0.0
    c.from_residual-in_err-position-in-AppendBatch.result
    c.from_residual-in_err-position-in-AppendBatch.ensures.1
    (λ s is. subst (λ (e : Event). Takes true archive.state e s) (sym c.in-AppendBatch.is)
    (is ∙ ap (λ (l : List (List ℕ)). appended archive.state l)
    (ap slices c.as_slice-in-AppendBatch-2.ensures.value ∙ c.in_ok-octets-in-AppendBatch.ensures
    ∙ ap texts c.as_slice-in-AppendBatch.ensures.value)))
    c.in_err-position-in-AppendBatch.ensures.step

pub returns-in-RollInstall-clause-step : goal.returns-in-RollInstall-clause-step
returns-in-RollInstall-clause-step g c =
    let D = g.D.Disk in
    let archive = c.args.archive.now in
    told_as_it_is D archive c.roll_install.new.self (λ s. IsInstalled true archive.state s)
    (Takes true archive.state c.args.event.now) c.roll_install.result
    (λ s is. subst (λ (e : Event). Takes true archive.state e s) (sym c.in-RollInstall.is) is)
    c.roll_install.ensures.step
