use Rattle.std.proofs.Common.{inl}
use Rattle.flow_manifest.specs.Slots.{reads_of}
use Rattle.flow_export.specs.Export.{Writes}
use Rattle.flow_export.specs.ByTime.{IsTimeExportRead, IsUnexportedByTime}
use Rattle.flow_export.proofs.AskedFor.{answered_both}
use Rattle.flow_export.proofs.by_time.by_time_alone.Goals as goal

pub returns-clause-asked : goal.returns-clause-asked
returns-clause-asked g c =
    let old = g.W.Write.contents c.args.output.now in
    let new = g.W.Write.contents c.export_by_time-disk.new.output in
    let reads = reads_of (g.D.Disk.held c.args.disk) in
    inl (
      c.args.disk,
      λ honest.
          answered_both c.export_by_time-disk.result.1 (Writes (IsTimeExportRead reads c.args.span) old new)
          (IsUnexportedByTime reads c.args.span old new) (c.export_by_time-disk.ensures.exact honest)
          (c.export_by_time-disk.ensures.refused honest),
    )
