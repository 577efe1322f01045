use Rattle.flow_disk.proofs.Results.{passed_on}
use Rattle.flow_report.specs.declared.text_error.TextError.TheVariants as text
use Rattle.flow_report.specs.Writing.{AppendsFront}
use Rattle.flow_segment.specs.PartFlows.{records_in}
use Rattle.flow_snapshot.specs.Found.{kept_by_file}
use Rattle.flow_records.specs.declared.listing.Listing.{Listing}
use Rattle.flow_records.specs.declared.refusal.RecordsRefusal.TheVariants.{Text}
use Rattle.flow_records.specs.Listing.{records_lines, IsBlameless}
use Rattle.flow_records.proofs.Ended.{all_cut, all_written, end_cut, no_records, none_written, some_cut_off}
use Rattle.flow_records.proofs.Ended.{own_written, some_end_cut, some_written}
use Rattle.flow_records.proofs.Telling.{on_err}
use Rattle.flow_records.proofs.listing.write_records.Goals as goal

pub returns-in_err-lines-clause-some : goal.returns-in_err-lines-clause-some
returns-in_err-lines-clause-some g c =
    on_err c.from_residual.result _ _ c.from_residual.ensures.1
    (no_records c.args.format.now c.args.from c.args.to (g.W.Write.contents c.args.output.now))

pub returns-in_err-lines-clause-cut : goal.returns-in_err-lines-clause-cut
returns-in_err-lines-clause-cut g c = λ honest v is.
    let was = g.W.Write.contents c.args.output.now in
    let lines = records_lines c.args.format.now c.args.from c.args.to v in
    passed_on c.from_residual.result (Text text.OutOfMemory) (λ e. IsBlameless e × AppendsFront was was lines)
    c.from_residual.ensures.1 (tt, none_written was lines)

pub returns-in_err-tell_files-clause-some : goal.returns-in_err-tell_files-clause-some
returns-in_err-tell_files-clause-some g c =
    let first : Listing = record { chosen = c.new-chosen.result; lines = c.in_ok-lines.lines } in
    let was = g.W.Write.contents c.args.output.now in
    let now = g.W.Write.contents c.tell_files.new.output in
    on_err c.from_residual-in_err-tell_files.result _ _ c.from_residual-in_err-tell_files.ensures.1
    (some_cut_off first first c.args.format.now c.args.from c.args.to c.in_ok-lines.ensures c.new-chosen.ensures.from
    c.new-chosen.ensures.to was now now c.in_err-tell_files.ensures.some)

pub returns-in_err-tell_files-clause-cut : goal.returns-in_err-tell_files-clause-cut
returns-in_err-tell_files-clause-cut g c = λ honest v is.
    let first : Listing = record { chosen = c.new-chosen.result; lines = c.in_ok-lines.lines } in
    let was = g.W.Write.contents c.args.output.now in
    let now = g.W.Write.contents c.tell_files.new.output in
    let e = c.in_err-tell_files.field-0.0 in
    let x = c.in_err-tell_files.ensures.cut honest v is in
    passed_on c.from_residual-in_err-tell_files.result e
    (λ e. IsBlameless e × AppendsFront was now (records_lines c.args.format.now c.args.from c.args.to v))
    c.from_residual-in_err-tell_files.ensures.1 (
      x.0,
      all_cut first first c.args.format.now c.args.from c.args.to c.in_ok-lines.ensures c.new-chosen.ensures.from
          c.new-chosen.ensures.to was now now (records_in v.kept) x.1,
    )

pub returns-in_err-end-clause-some : goal.returns-in_err-end-clause-some
returns-in_err-end-clause-some g c =
    let first : Listing = record { chosen = c.new-chosen.result; lines = c.in_ok-lines.lines } in
    let was = g.W.Write.contents c.args.output.now in
    let now = g.W.Write.contents c.tell_files.new.output in
    let next = g.W.Write.contents c.end.new.output in
    on_err c.from_residual-in_err-end.result _ _ c.from_residual-in_err-end.ensures.1
    (some_end_cut first c.tell_files.new.listing c.args.format.now c.args.from c.args.to c.in_ok-lines.ensures
    c.new-chosen.ensures.from c.new-chosen.ensures.to was now next c.in_ok-tell_files.ensures.all
    c.in_err-end.ensures.front)

pub returns-in_err-end-clause-cut : goal.returns-in_err-end-clause-cut
returns-in_err-end-clause-cut g c = λ honest v is.
    let first : Listing = record { chosen = c.new-chosen.result; lines = c.in_ok-lines.lines } in
    let was = g.W.Write.contents c.args.output.now in
    let now = g.W.Write.contents c.tell_files.new.output in
    let next = g.W.Write.contents c.end.new.output in
    passed_on c.from_residual-in_err-end.result (Text (text.Write (c.in_err-end.field-0).0))
    (λ e. IsBlameless e × AppendsFront was next (records_lines c.args.format.now c.args.from c.args.to v))
    c.from_residual-in_err-end.ensures.1 (
      tt,
      end_cut first c.tell_files.new.listing c.args.format.now c.args.from c.args.to c.in_ok-lines.ensures
          c.new-chosen.ensures.from c.new-chosen.ensures.to was now next (records_in v.kept)
          (c.in_ok-tell_files.ensures.told honest v is) c.in_err-end.ensures.front,
    )

pub returns-clause-all : goal.returns-clause-all
returns-clause-all g c =
    let first : Listing = record { chosen = c.new-chosen.result; lines = c.in_ok-lines.lines } in
    let was = g.W.Write.contents c.args.output.now in
    let now = g.W.Write.contents c.tell_files.new.output in
    let next = g.W.Write.contents c.end.new.output in
    some_written first c.tell_files.new.listing c.args.format.now c.args.from c.args.to c.in_ok-lines.ensures
    c.new-chosen.ensures.from c.new-chosen.ensures.to was now next c.in_ok-tell_files.ensures.all
    c.in_ok-end.ensures.all

pub returns-clause-found : goal.returns-clause-found
returns-clause-found g c = λ honest.
    let first : Listing = record { chosen = c.new-chosen.result; lines = c.in_ok-lines.lines } in
    let was = g.W.Write.contents c.args.output.now in
    let now = g.W.Write.contents c.tell_files.new.output in
    let next = g.W.Write.contents c.end.new.output in
    own_written first c.tell_files.new.listing c.args.format.now c.args.from c.args.to c.in_ok-lines.ensures
    c.new-chosen.ensures.from c.new-chosen.ensures.to was now next (kept_by_file c.args.snapshot.now.shelf)
    (c.in_ok-tell_files.ensures.found honest) c.in_ok-end.ensures.all

pub returns-clause-told : goal.returns-clause-told
returns-clause-told g c = λ honest v is.
    let first : Listing = record { chosen = c.new-chosen.result; lines = c.in_ok-lines.lines } in
    let was = g.W.Write.contents c.args.output.now in
    let now = g.W.Write.contents c.tell_files.new.output in
    let next = g.W.Write.contents c.end.new.output in
    all_written first c.tell_files.new.listing c.args.format.now c.args.from c.args.to c.in_ok-lines.ensures
    c.new-chosen.ensures.from c.new-chosen.ensures.to was now next (records_in v.kept)
    (c.in_ok-tell_files.ensures.told honest v is) c.in_ok-end.ensures.all
