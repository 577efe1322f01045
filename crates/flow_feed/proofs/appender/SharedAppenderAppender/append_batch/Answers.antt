use Rattle.std.proofs.Common.{◌≡◌, ◌∙◌, ℕ, List, Result, Err, refl, ap, sym, subst, inl, inr}
use mathlib.Core.List.{IsPrefix}
use Rattle.flow_gate.specs.Steps.{slices}
use Rattle.flow_model.specs.Changes.{Change}
use Rattle.flow_archive.specs.declared.refusal.ArchiveError.{ArchiveError}
use Rattle.flow_archive.specs.declared.refusal.ArchiveError.TheVariants.{OutOfMemory}
use Rattle.flow_shared.specs.Told.{HasAdded}
use Rattle.flow_feed.specs.Shared.{IsGivenShared, IsLate, IsRefusedShared, known, Known}
use Rattle.flow_feed.proofs.Sharing.{holds_then, late_then, refused_then}
use Rattle.flow_feed.proofs.Taking.{refused_as}
use Rattle.flow_feed.proofs.appender.SharedAppenderAppender.append_batch.Goals.{then-not-receipt, else-not-receipt}
use Rattle.flow_feed.proofs.appender.SharedAppenderAppender.append_batch.Goals as goal

pub returns : goal.returns
returns g c =
    let D = g.D.Disk in
    let opening = g.J.Naming.opening in
    let old : Known = c.args.self.now in
    let now : List Change = c.append_batch.new.known in
    let receipt = c.in_ok-receipt.receipt in
    let given = c.in_ok-receipt.ensures in
    let messages = slices c.args.messages.now in
    let knew : c.self.inside.steps ≡ old.steps = ap (λ (k : Known). k.steps) c.self.view_is in
    elim c.if-not-receipt.branch [
      | then-not-receipt w ↦ inr (
        ap (λ (k : Known). k.whole) w.self-is,
        subst (λ (k : Known). IsLate D opening old.steps k.steps messages receipt.position) (sym w.self-is)
            (subst (λ (l : List Change). IsLate D opening l now messages receipt.position) knew
            (late_then D opening c.self.inside.steps now messages receipt.position OutOfMemory receipt.made receipt.shown receipt.told given.calls
            w.if-not-receipt.true)),
      )
      | else-not-receipt w ↦ inl (
        ap (λ (k : Known). k.whole) w.self-is ∙ ap (λ (k : Known). k.whole) c.self.view_is,
        subst (λ (k : Known). HasAdded opening old.steps k.steps messages receipt.position) (sym w.self-is)
            (subst (λ (l : List Change). HasAdded opening l now messages receipt.position) knew
            (given.added (holds_then receipt.made w.if-not-receipt.false))),
      )
    ]

pub returns-in_err-receipt : goal.returns-in_err-receipt
returns-in_err-receipt g c =
    let D = g.D.Disk in
    let opening = g.J.Naming.opening in
    let old : Known = c.args.self.now in
    let now : List Change = c.append_batch.new.known in
    let given = c.in_err-receipt.ensures in
    let messages = slices c.args.messages.now in
    let error = c.in_err-receipt.field-0.0 in
    let answer : Result ℕ ArchiveError = Err error in
    let knew : c.self.inside.steps ≡ old.steps = ap (λ (k : Known). k.steps) c.self.view_is in
    refused_as c.from_residual.result error
    (λ r. IsGivenShared D opening old (known now c.self.inside.is_whole) messages r)
    c.from_residual.ensures.1 (
      ap (λ (k : Known). k.whole) c.self.view_is,
      subst (λ (l : List Change). IsPrefix l now) knew given.known,
      subst (λ (l : List Change). IsRefusedShared D opening l now messages error) knew
          (refused_then D opening c.self.inside.steps now messages answer error refl given.calls),
    )
