use Rattle.std.proofs.Common.{◌≡◌, IsTrue, refl, sym, ◌∙◌, ap, subst}
use Rattle.std.specs.Prelude.{MatchResult}
use Rattle.flow_manifest.specs.declared.following.JobKind.{JobKind}
use Rattle.flow_manifest.specs.declared.manifest.Kind.TheVariants as kind
use Rattle.flow_manifest.specs.declared.manifest.Manifest.{Manifest}
use Rattle.flow_model.specs.Jobs.{width_made}
use Rattle.flow_model.specs.State.{Part}
use Rattle.flow_archive.specs.Advancing.{IsNotTaken}
use Rattle.flow_archive.specs.Frozen.{frozen_of, is_shared, segment_file, sums_file, Frozen}
use Rattle.flow_archive.specs.Sources.{IsRead, IsReadWhole, IsSource, IsTakenUp}
use Rattle.flow_archive.proofs.Advance.{rolled_read, sealed_read}
use Rattle.flow_archive.proofs.frozen.FrozenFile.add_to.Goals as goal

pub returns-in-Sealed-clause-read : goal.returns-in-Sealed-clause-read
returns-in-Sealed-clause-read g c =
    let f : Frozen = segment_file (is_shared c.in-Sealed.part) c.value.result.now in
    let old = c.args.rows.now in
    let new = c.add_segment.new.rows in
    let same : c.args.self.now ≡ f = sym c.self.view_is ∙ ap frozen_of c.in-Sealed.is
    ∙ ap (segment_file (is_shared c.in-Sealed.part)) (sym c.value.ensures) in
    subst (λ (x : Frozen). IsTrue x.honest → (kind : JobKind) (m : Manifest) (p : Part) → c.args.width ≡ m.width
    → old.width ≡ width_made kind m → IsSource kind m x p → IsRead kind m p old new c.add_segment.result) (sym same)
    (λ h kind m p narrow made source. sealed_read f old new c.add_segment.result refl
    (λ q carry at segment. c.add_segment.ensures.given h f.entry q carry refl refl refl at segment)
    kind m p made source)

pub returns-in-Rolled-clause-read : goal.returns-in-Rolled-clause-read
returns-in-Rolled-clause-read g c =
    let f : Frozen = sums_file kind.Rolled (is_shared c.in-Rolled.part) c.value-in-Rolled.result.now in
    let old = c.args.rows.now in
    let new = c.add_file.new.rows in
    let same : c.args.self.now ≡ f = sym c.self.view_is ∙ ap frozen_of c.in-Rolled.is
    ∙ ap (sums_file kind.Rolled (is_shared c.in-Rolled.part)) (sym c.value-in-Rolled.ensures) in
    subst (λ (x : Frozen). IsTrue x.honest → (kind : JobKind) (m : Manifest) (p : Part) → c.args.width ≡ m.width
    → old.width ≡ width_made kind m → IsSource kind m x p → IsRead kind m p old new c.add_file.result) (sym same)
    (λ h kind m p narrow made source. rolled_read f c.args.width old new c.add_file.result refl
    (λ table rollup. c.add_file.ensures.given h table rollup) kind m p narrow made source)

pub returns-in-Sealed-clause-found : goal.returns-in-Sealed-clause-found
returns-in-Sealed-clause-found g c =
    let f : Frozen = segment_file (is_shared c.in-Sealed.part) c.value.result.now in
    let old = c.args.rows.now in
    let same : c.args.self.now ≡ f = sym c.self.view_is ∙ ap frozen_of c.in-Sealed.is
    ∙ ap (segment_file (is_shared c.in-Sealed.part)) (sym c.value.ensures) in
    subst (λ (x : Frozen). IsTrue x.honest → MatchResult c.add_segment.result
    (IsTakenUp (IsReadWhole x.entry.kind c.args.width old.width x) old c.add_segment.new.rows)
    (IsNotTaken c.args.width x old)) (sym same)
    c.add_segment.ensures.found

pub returns-in-Rolled-clause-found : goal.returns-in-Rolled-clause-found
returns-in-Rolled-clause-found g c =
    let f : Frozen = sums_file kind.Rolled (is_shared c.in-Rolled.part) c.value-in-Rolled.result.now in
    let old = c.args.rows.now in
    let same : c.args.self.now ≡ f = sym c.self.view_is ∙ ap frozen_of c.in-Rolled.is
    ∙ ap (sums_file kind.Rolled (is_shared c.in-Rolled.part)) (sym c.value-in-Rolled.ensures) in
    subst (λ (x : Frozen). IsTrue x.honest → MatchResult c.add_file.result
    (IsTakenUp (IsReadWhole x.entry.kind c.args.width old.width x) old c.add_file.new.rows)
    (IsNotTaken c.args.width x old)) (sym same)
    c.add_file.ensures.found

pub returns-in-Wide-clause-found : goal.returns-in-Wide-clause-found
returns-in-Wide-clause-found g c =
    let f : Frozen = sums_file kind.Wide (is_shared c.in-Wide.part) c.value-in-Wide.result.now in
    let old = c.args.rows.now in
    let same : c.args.self.now ≡ f = sym c.self.view_is ∙ ap frozen_of c.in-Wide.is
    ∙ ap (sums_file kind.Wide (is_shared c.in-Wide.part)) (sym c.value-in-Wide.ensures) in
    subst (λ (x : Frozen). IsTrue x.honest → MatchResult c.add_file-in-Wide.result
    (IsTakenUp (IsReadWhole x.entry.kind c.args.width old.width x) old c.add_file-in-Wide.new.rows)
    (IsNotTaken c.args.width x old)) (sym same)
    c.add_file-in-Wide.ensures.found
