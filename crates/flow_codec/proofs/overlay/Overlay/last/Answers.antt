use Rattle.std.proofs.Common.{ℕ, Option, Some, None, sym, ap, ◌∙◌}
use Rattle.flow_codec.specs.Layout.{Layout}
use Rattle.flow_codec.proofs.OverlayLaws.{last_none, last_some}
use Rattle.flow_codec.proofs.overlay.Overlay.last.Goals as goal

pub returns-in_err-place-in-Some : goal.returns-in_err-place-in-Some
returns-in_err-place-in-Some c =
    let knows = rw c.in-Some.is at c.requires in
    let none = rw c.deref.ensures at c.in_err-place-in-Some.ensures.value in
    rw c.from_residual.ensures (sym (last_none c.args.id c.args.self.now.log (sym (knows c.args.id) ∙ sym none)))

pub returns-in_err-change-in-Some : goal.returns-in_err-change-in-Some
returns-in_err-change-in-Some c =
    let knows = rw c.in-Some.is at c.requires in
    let some = rw c.deref.ensures at c.in_ok-place-in-Some.ensures.value in
    let stands = last_some c.args.id c.args.self.now.log c.in_ok-place-in-Some.field-0.now (0, None)
    (sym (knows c.args.id) ∙ sym some) in
    let look = rw c.as_slice.ensures at c.in_err-change-in-Some.ensures.lookup in
    absurd (cc (look.2 stands.0))

pub returns-in_ok-change-in-Some : goal.returns-in_ok-change-in-Some
returns-in_ok-change-in-Some c =
    let knows = rw c.in-Some.is at c.requires in
    let some = rw c.deref.ensures at c.in_ok-place-in-Some.ensures.value in
    let stands = last_some c.args.id c.args.self.now.log c.in_ok-place-in-Some.field-0.now c.in_ok-change-in-Some.field-0.now
    (sym (knows c.args.id) ∙ sym some) in
    let look = rw c.as_slice.ensures at c.in_ok-change-in-Some.ensures.lookup in
    ap (λ (change : ℕ × Option Layout). Some change.1) look.1 ∙ stands.1
