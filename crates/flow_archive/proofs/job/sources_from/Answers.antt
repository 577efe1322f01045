use Rattle.std.proofs.Common.{ap, arith}
use Rattle.flow_manifest.specs.declared.following.JobKind.{JobKind}
use Rattle.flow_manifest.specs.Following.{count_before, source_of}
use Rattle.flow_archive.proofs.Leaving.{before_sealed}
use Rattle.flow_archive.proofs.job.sources_from.Goals as goal

pub returns-in-Roll : goal.returns-in-Roll
returns-in-Roll c =
    let entries = c.args.entries.now in
    let kind = ap (λ (k : JobKind). count_before (source_of k) entries) c.in-Roll.is in
    omega (arith, c.count_of-merged.ensures, c.count_of.ensures, before_sealed entries, kind)
