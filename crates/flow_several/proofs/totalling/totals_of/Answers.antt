use Rattle.flow_disk.proofs.Results.{passed_on}
use Rattle.flow_several.specs.Several.{readings, IsRefusedOf, WritesNoRows}
use Rattle.flow_several.proofs.Faults.{nothing_failed, passed}
use Rattle.flow_several.proofs.LinesWritten.{first_named, matched, nothing_written, refused_so}
use Rattle.flow_several.proofs.totalling.totals_of.Goals as goal

pub returns-in_err-all-clause-refused : goal.returns-in_err-all-clause-refused
returns-in_err-all-clause-refused g c = λ honest.
    let known = g.W.Write.contents c.args.output.now in
    let reads = readings g.D.Disk c.args.disks.items in
    let e = (c.in_err-all.field-0).0 in
    passed_on c.from_residual.result e (IsRefusedOf c.args.format c.args.from c.args.to reads known known)
    c.from_residual.ensures.1
    (first_named c.args.format c.args.from c.args.to known reads e (c.in_err-all.ensures.refused honest))

pub returns-in_err-all-clause-kept : goal.returns-in_err-all-clause-kept
returns-in_err-all-clause-kept g c =
    let known = g.W.Write.contents c.args.output.now in
    let e = (c.in_err-all.field-0).0 in
    passed_on c.from_residual.result e (WritesNoRows c.args.format c.args.from c.args.to known known)
    c.from_residual.ensures.1
    (nothing_written c.args.format c.args.from c.args.to known e c.in_err-all.ensures.named)

pub returns-in_err-all-clause-cause : goal.returns-in_err-all-clause-cause
returns-in_err-all-clause-cause g c =
    passed (c.in_err-all.field-0).0 _ _ c.from_residual.result c.in_err-all.ensures.cause c.from_residual.ensures.1

pub returns-clause-totals : goal.returns-clause-totals
returns-clause-totals g c = λ honest.
    let reads = readings g.D.Disk c.args.disks.items in
    matched c.write_sums.result _ _ (c.write_sums.ensures.totals reads (c.in_ok-all.ensures.summed honest))

pub returns-clause-refused : goal.returns-clause-refused
returns-clause-refused g c = λ honest.
    let reads = readings g.D.Disk c.args.disks.items in
    refused_so c.args.format c.args.from c.args.to _ reads _ c.write_sums.result _
    (c.write_sums.ensures.totals reads (c.in_ok-all.ensures.summed honest))

pub returns-clause-cause : goal.returns-clause-cause
returns-clause-cause g c =
    nothing_failed _ _ c.write_sums.result c.in_ok-all.ensures.cause.done c.write_sums.ensures.unnamed
