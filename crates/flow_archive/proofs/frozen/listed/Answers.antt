use Rattle.std.proofs.Common.{◌≡◌, IsTrue, take, sym, ◌∙◌, ap, subst}
use Rattle.std.specs.List.{flat_map}
use Rattle.std.proofs.lemmas.List.{take_all}
use Rattle.flow_archive.specs.Frozen.{rolled_in, segment_in, wide_in, Frozen}
use Rattle.flow_archive.proofs.Owning.{honest_at, one_more}
use Rattle.flow_archive.proofs.frozen.listed.Goals as goal

pub loop-file-preserved : goal.loop-file-preserved
loop-file-preserved g c =
    let was = c.loop-file.invariant in
    let files = c.args.files.now in
    let i = c.loop-file.file-index in
    let x = c.file-item.result in
    let lt = c.loop-file-test.true in
    let told = c.in_ok-list.ensures in
    record {
      merged = one_more (λ (f : Frozen). wide_in f.entry.kind f) _ _ files i x lt c.file-item.is told.merged was.merged;
      rolled = one_more (λ (f : Frozen). rolled_in f.entry.kind f) _ _ files i x lt c.file-item.is told.rolled
          was.rolled;
      sealed = one_more (λ (f : Frozen). segment_in f.entry.kind f) _ _ files i x lt c.file-item.is told.sealed
          was.sealed;
      prefix = told.kept.0 ∙ was.prefix;
      active = told.kept.1 ∙ was.active;
      honest = λ all. told.honest (subst (λ (f : Frozen). IsTrue f.honest) (sym c.file-item.is)
          (honest_at files i x lt all)) (was.honest all);
    }

pub returns-clause-shelf : goal.returns-clause-shelf
returns-clause-shelf g c = λ width wide.
    let was = c.loop-file.invariant in
    let all : take c.loop-file.file-index c.args.files.now ≡ c.args.files.now =
    take_all c.loop-file.file-index c.args.files.now c.loop-file-test.false in
    let merged = was.merged ∙ ap (flat_map (λ (f : Frozen). wide_in f.entry.kind f)) all in
    let rolled = was.rolled ∙ ap (flat_map (λ (f : Frozen). rolled_in f.entry.kind f)) all in
    let sealed = was.sealed ∙ ap (flat_map (λ (f : Frozen). segment_in f.entry.kind f)) all in
    λ i. record {
      width = width;
      wide = wide;
      merged = merged i;
      rolled = rolled i;
      sealed = sealed i;
      prefix = was.prefix i;
      active = was.active i;
    }
