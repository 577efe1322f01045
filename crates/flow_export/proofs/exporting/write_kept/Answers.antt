use Rattle.std.proofs.Common.{◌∙◌, ◌<◌, List, [], refl, subst, arith, length, take, drop}
use Rattle.std.proofs.lemmas.List.{take_all}
use Rattle.std.specs.Io.KnownBytes.{Appends}
use Rattle.flow_codec.specs.Message.{joined}
use Rattle.flow_disk.proofs.Results.{passed_on}
use Rattle.flow_snapshot.specs.Found.{kept_by_file, KeptFile}
use Rattle.flow_snapshot.proofs.ByFile.{files_count}
use Rattle.flow_export.specs.Export.{asked_count, messages_of, AreMessages, IsBlameless, Writes}
use Rattle.flow_export.proofs.Choosing.{cut_file, left_file, none_after, none_left, none_written, skip_file}
use Rattle.flow_export.proofs.Choosing.{written_file}
use Rattle.flow_export.proofs.WholeMessages.{none_whole, part_file, whole_file}
use Rattle.flow_export.proofs.Written.{on_err_always}
use Rattle.flow_export.proofs.exporting.write_kept.Goals as goal

pub loop-at-init : goal.loop-at-init
loop-at-init g c =
    let old = g.W.Write.contents c.args.output.now in
    record {
      faults = refl;
      skip = omega arith;
      left = none_left c.args.most c.args.skip;
      whole = none_whole _ old (omega arith);
      written = λ honest. none_written old (take c.args.most (drop c.args.skip []))
          (none_after c.args.most c.args.skip [] (omega arith));
    }

pub loop-at-preserved : goal.loop-at-preserved
loop-at-preserved g c =
    let old = g.W.Write.contents c.args.output.now in
    let now = g.W.Write.contents c.loop-at.output in
    let new = g.W.Write.contents c.write_file.new.output in
    let s = c.args.snapshot.now.shelf in
    let files = kept_by_file s in
    let at = c.loop-at.at in
    let there = c.kept_part.ensures.file in
    let within : at < length files = omega (arith, c.loop-at-test.true, c.kept_files-files.ensures, files_count s) in
    let skipped = c.loop-at.invariant.skip in
    record {
      faults = c.in_ok-written.ensures.cause.done ∙ c.loop-at.invariant.faults;
      skip = skip_file files at _ within there c.args.skip c.loop-at.skip c.saturating_sub-skip.result
          c.message_count-count.result skipped c.message_count-count.ensures c.saturating_sub-skip.ensures;
      left = left_file files at _ within there c.args.most c.args.skip c.loop-at.skip c.loop-at.left
          c.in_ok-written.written skipped c.loop-at.invariant.left (c.in_ok-written.ensures.count _ there);
      whole = whole_file files at _ within there c.args.most c.args.skip c.loop-at.skip c.loop-at.left old now new skipped
          c.loop-at.invariant.left c.loop-at.invariant.whole (c.in_ok-written.ensures.whole _ there);
      written = λ honest.
          written_file files at _ within there c.args.most c.args.skip c.loop-at.skip c.loop-at.left old now new skipped
          c.loop-at.invariant.left (c.loop-at.invariant.written honest)
          (c.in_ok-written.ensures.all honest _ there);
    }

pub returns-in_err-written-clause-part : goal.returns-in_err-written-clause-part
returns-in_err-written-clause-part g c =
    let s = c.args.snapshot.now.shelf in
    let files = kept_by_file s in
    let within : c.loop-at.at < length files =
    omega (arith, c.loop-at-test.true, c.kept_files-files.ensures, files_count s) in
    on_err_always c.from_residual.result _
    (part_file files c.loop-at.at _ within c.kept_part.ensures.file c.args.most c.args.skip c.loop-at.skip c.loop-at.left
    (g.W.Write.contents c.args.output.now) (g.W.Write.contents c.loop-at.output)
    (g.W.Write.contents c.write_file.new.output) c.loop-at.invariant.skip c.loop-at.invariant.left
    c.loop-at.invariant.whole (c.in_err-written.ensures.part _ c.kept_part.ensures.file))

pub returns-in_err-written-clause-some : goal.returns-in_err-written-clause-some
returns-in_err-written-clause-some g c = λ honest.
    let s = c.args.snapshot.now.shelf in
    let files = kept_by_file s in
    let within : c.loop-at.at < length files =
    omega (arith, c.loop-at-test.true, c.kept_files-files.ensures, files_count s) in
    on_err_always c.from_residual.result _
    (cut_file files c.loop-at.at _ within c.kept_part.ensures.file c.args.most c.args.skip c.loop-at.skip c.loop-at.left
    (g.W.Write.contents c.args.output.now) (g.W.Write.contents c.loop-at.output)
    (g.W.Write.contents c.write_file.new.output) c.loop-at.invariant.skip c.loop-at.invariant.left
    (c.loop-at.invariant.written honest) (c.in_err-written.ensures.some honest _ c.kept_part.ensures.file))

pub returns-in_err-written-clause-given : goal.returns-in_err-written-clause-given
returns-in_err-written-clause-given g c = λ honest v view.
    passed_on c.from_residual.result (c.in_err-written.field-0).0 IsBlameless c.from_residual.ensures.1
    (c.in_err-written.ensures.given honest v view)

pub returns-clause-whole : goal.returns-clause-whole
returns-clause-whole g c =
    let s = c.args.snapshot.now.shelf in
    let files = kept_by_file s in
    subst (λ (fs : List KeptFile). Writes (AreMessages (asked_count c.args.skip c.args.most (length (messages_of fs))))
    (g.W.Write.contents c.args.output.now) (g.W.Write.contents c.loop-at.output))
    (take_all c.loop-at.at files (omega (arith, c.loop-at-test.false, c.kept_files-files.ensures, files_count s)))
    c.loop-at.invariant.whole

pub returns-clause-all : goal.returns-clause-all
returns-clause-all g c = λ honest.
    let s = c.args.snapshot.now.shelf in
    let files = kept_by_file s in
    subst (λ (fs : List KeptFile). Appends (g.W.Write.contents c.args.output.now) (g.W.Write.contents c.loop-at.output)
    (joined (take c.args.most (drop c.args.skip (messages_of fs)))))
    (take_all c.loop-at.at files (omega (arith, c.loop-at-test.false, c.kept_files-files.ensures, files_count s)))
    (c.loop-at.invariant.written honest)
