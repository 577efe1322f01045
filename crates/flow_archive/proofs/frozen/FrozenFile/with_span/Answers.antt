use Rattle.std.proofs.Common.{◌≡◌, sym, ◌∙◌, ap, subst}
use Rattle.flow_manifest.specs.declared.manifest.Kind.TheVariants as kind
use Rattle.flow_archive.specs.Frozen.{frozen_of, is_shared, segment_file, sums_file, value_of, Frozen, HasSpan}
use Rattle.flow_archive.proofs.frozen.FrozenFile.with_span.Goals as goal
use Rattle.flow_archive.proofs.frozen.FrozenFile.with_span.Goals.{in-Sealed, in-Rolled, in-Wide}

pub spanned_sums-requires : goal.spanned_sums-requires
spanned_sums-requires g c =
    rw c.in-Rolled.part-is (subst (λ (x : Frozen). HasSpan x c.args.width c.args.span)
    (sym c.self.view_is ∙ ap frozen_of c.in-Rolled.is) c.requires)

pub spanned_sums-requires-in-Wide : goal.spanned_sums-requires-in-Wide
spanned_sums-requires-in-Wide g c =
    rw c.in-Wide.part-is (subst (λ (x : Frozen). HasSpan x c.args.width c.args.span)
    (sym c.self.view_is ∙ ap frozen_of c.in-Wide.is) c.requires)

pub returns : goal.returns
returns g c =
    elim c.match-self.branch [
      | in-Sealed w ↦ rw w.held-is (w.spanned_segment.ensures
          ∙ ap (λ o. segment_file (is_shared o) (value_of o)) w.in-Sealed.part-is
          ∙ ap frozen_of (sym w.in-Sealed.is) ∙ c.self.view_is)
      | in-Rolled w ↦ rw w.held-is (w.spanned_sums.ensures kind.Rolled
          ∙ ap (λ o. sums_file kind.Rolled (is_shared o) (value_of o)) w.in-Rolled.part-is
          ∙ ap frozen_of (sym w.in-Rolled.is) ∙ c.self.view_is)
      | in-Wide w ↦ rw w.held-is (w.spanned_sums-in-Wide.ensures kind.Wide
          ∙ ap (λ o. sums_file kind.Wide (is_shared o) (value_of o)) w.in-Wide.part-is
          ∙ ap frozen_of (sym w.in-Wide.is) ∙ c.self.view_is)
    ]
