use Rattle.std.proofs.Common.{◌≡◌, ◌+◌, ◌-◌, ◌++◌, ◌∷◌, [], refl, sym, ap, ◌∙◌, arith}
use Rattle.flow_codec.specs.Entries.{size_in}
use Rattle.flow_codec.specs.Working.{overlaid}
use Rattle.flow_codec.proofs.Entries.{found}
use Rattle.flow_codec.proofs.OverlayLaws.{over_entries, over_change, size_found, nothing_changed}
use Rattle.flow_codec.proofs.overlay.Overlay.change.Goals as goal

pub overflow_sub-self : goal.overflow_sub-self
overflow_sub-self c =
    let before : c.size_in-before.result ≡ size_in (found c.args.id (overlaid c.args.base.now c.args.self.now)) =
    c.size_in-before.ensures.exact ∙ ap size_in c.get-here.ensures in
    omega (arith, before, c.requires.size, size_found (overlaid c.args.base.now c.args.self.now) c.args.id)

pub returns-then-is_so-clause-entries : goal.returns-then-is_so-clause-entries
returns-then-is_so-clause-entries c = nothing_changed (overlaid c.args.base.now c.args.self.now) c.args.id c.args.change
    (sym c.get-here.ensures ∙ c.if-is_so.ensures refl ∙ c.as_ref.ensures.value)

pub returns-clause-over : goal.returns-clause-over
returns-clause-over c =
    let o = c.args.self.now in
    let before : c.size_in-before.result ≡ size_in (found c.args.id (overlaid c.args.base.now o)) =
    c.size_in-before.ensures.exact ∙ ap size_in c.get-here.ensures in
    let after : c.size_in-after.result ≡ size_in c.args.change = c.size_in-after.ensures.exact
    ∙ ap size_in c.as_ref-2.ensures.value in
    let log : c.push.new.self ≡ o.log ++ (c.args.id, c.args.change) ∷ [] = c.in_ok-push.ensures in
    over_change c.args.base.now o _ c.requires c.args.id c.args.change refl log
    (rw c.as_slice.ensures at (c.in_ok-note.ensures c.args.change))
    (omega (arith, before, after, c.requires.size, size_found (overlaid c.args.base.now o) c.args.id))
    (omega (arith, after, c.size_in-after.ensures.bound))

pub returns-clause-entries : goal.returns-clause-entries
returns-clause-entries c =
    let o = c.args.self.now in
    let log : c.push.new.self ≡ o.log ++ (c.args.id, c.args.change) ∷ [] = c.in_ok-push.ensures in
    over_entries c.args.base.now o (record {
      cleared = o.cleared;
      log = c.push.new.self;
      own =
          c.note.new.own;
      size = o.size - c.size_in-before.result + c.size_in-after.result;
    }) c.requires c.args.id
    c.args.change refl log
