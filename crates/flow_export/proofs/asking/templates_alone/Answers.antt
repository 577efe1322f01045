use Rattle.std.proofs.Common.{inl}
use Rattle.flow_manifest.specs.Slots.{reads_of}
use Rattle.flow_export.specs.Export.{Writes}
use Rattle.flow_export.specs.Asked.{AreTemplatesOf, AreUnwritten}
use Rattle.flow_export.proofs.AskedFor.{answered_both}
use Rattle.flow_export.proofs.asking.templates_alone.Goals as goal

pub returns-clause-asked : goal.returns-clause-asked
returns-clause-asked g c =
    let old = g.W.Write.contents c.args.output.now in
    let new = g.W.Write.contents c.templates-disk.new.output in
    let reads = reads_of (g.D.Disk.held c.args.disk) in
    inl (
      c.args.disk,
      λ honest.
          answered_both c.templates-disk.result.1 (Writes (AreTemplatesOf reads) old new) (AreUnwritten reads old new) (c.templates-disk.ensures.exact honest)
          (c.templates-disk.ensures.refused honest),
    )
