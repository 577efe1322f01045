use Rattle.std.proofs.Common.{refl, arith}
use Rattle.flow_rolled.specs.Stored.{export_time}
use Rattle.flow_disk.specs.Printed.{read_refusal}
use Rattle.flow_refusals.specs.Printed.{sum_of_read}
use Rattle.flow_measure.specs.Sums.{empty_table}
use Rattle.flow_archive.proofs.SourceSums.{err_is, file_not_summed, file_refused, file_summed, file_sums, file_unread}
use Rattle.flow_archive.proofs.SourceSums.{not_read}
use Rattle.flow_archive.proofs.sources.sum_file.Goals as goal

pub returns-in_err-time-clause-given : goal.returns-in_err-time-clause-given
returns-in_err-time-clause-given g c = λ honest table is.
    not_read _ _ c.in_err-time.field-0.0 c.from_residual.result
    (err_is c.from_residual.result (sum_of_read (read_refusal c.in_err-time.field-0.0)) c.from_residual.ensures.1)

pub returns-in_err-sum_rows-clause-given : goal.returns-in_err-sum_rows-clause-given
returns-in_err-sum_rows-clause-given g c = λ honest table is.
    file_refused c.args.width c.args.wide (omega (arith, c.ranges.width.fits)) c.args.part.now.octets table is
    c.new-rows.result
    c.new-rows.ensures (export_time c.args.part.now.octets) c.args.part.now c.in_err-sum_rows.field-0.0
    c.from_residual-in_err-sum_rows.result refl (c.in_err-sum_rows.ensures.refused honest)
    (err_is c.from_residual-in_err-sum_rows.result c.in_err-sum_rows.field-0.0
    c.from_residual-in_err-sum_rows.ensures.1)

pub returns-clause-given : goal.returns-clause-given
returns-clause-given g c = λ honest table is. (
  file_sums c.args.width c.args.wide (omega (arith, c.ranges.width.fits)) c.args.part.now.octets table is
      c.new-rows.result
      c.new-rows.ensures (export_time c.args.part.now.octets) c.sum_rows.new.rows
      (c.in_ok-sum_rows.ensures.added honest),
  c.in_ok-time.ensures.time honest,
)

pub returns-in_err-time-clause-found : goal.returns-in_err-time-clause-found
returns-in_err-time-clause-found g c = λ honest.
    file_unread c.args.width c.args.wide c.args.part.now.octets (empty_table c.args.wide) refl _
    c.in_err-time.field-0.0 c.from_residual.result
    (err_is c.from_residual.result (sum_of_read (read_refusal c.in_err-time.field-0.0)) c.from_residual.ensures.1)

pub returns-in_err-sum_rows-clause-found : goal.returns-in_err-sum_rows-clause-found
returns-in_err-sum_rows-clause-found g c = λ honest.
    file_not_summed c.args.width c.args.wide c.args.part.now.octets c.new-rows.result c.new-rows.ensures _
    c.args.part.now c.in_err-sum_rows.field-0.0 c.from_residual-in_err-sum_rows.result refl
    (c.in_err-sum_rows.ensures.refused honest)
    (err_is c.from_residual-in_err-sum_rows.result c.in_err-sum_rows.field-0.0
    c.from_residual-in_err-sum_rows.ensures.1)

pub returns-clause-found : goal.returns-clause-found
returns-clause-found g c = λ honest.
    file_summed c.args.width c.args.wide c.args.part.now.octets c.new-rows.result c.new-rows.ensures
    c.sum_rows.new.rows c.in_ok-time.time (c.in_ok-sum_rows.ensures.added honest) (c.in_ok-time.ensures.time honest)
