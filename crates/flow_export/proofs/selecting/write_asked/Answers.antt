use Rattle.std.proofs.Common.{◌∙◌, ◌<◌, ◌+◌, ◌++◌, List, ap, arith, drop, length, refl, subst, sym}
use Rattle.std.specs.Io.KnownBytes.{Appends}
use Rattle.flow_disk.proofs.Results.{passed_on}
use Rattle.flow_measure.specs.History.{Accepted}
use Rattle.flow_report.specs.Writing.{AppendsFront}
use Rattle.flow_snapshot.specs.Found.{kept_by_file}
use Rattle.flow_snapshot.specs.Parts.{file_of}
use Rattle.flow_snapshot.proofs.ByFile.{files_count}
use Rattle.flow_export.specs.declared.starting.TimeSpan.{TimeSpan}
use Rattle.flow_export.specs.Export.{IsBlameless, Writes, WritesSome}
use Rattle.flow_export.specs.Span.{text_between, AreSpanMessages}
use Rattle.flow_export.proofs.ChosenText.{between_cut, between_more, nothing_before}
use Rattle.flow_export.proofs.SpanWritten.{none_of_some, part_then, some_then}
use Rattle.flow_export.proofs.ViewFiles.{all_before, count_before, length_before, list_before, next_before, next_left}
use Rattle.flow_export.proofs.ViewFiles.{own_accepted, own_list, own_octets, own_prefix, rest_after}
use Rattle.flow_export.proofs.Written.{on_err_always}
use Rattle.flow_export.proofs.selecting.write_asked.Goals as goal

pub loop-at-init : goal.loop-at-init
loop-at-init g c =
    let old = g.W.Write.contents c.args.output.now in
    let asked = c.args.asked in
    record {
      faults = refl;
      skip = omega arith;
      end = omega arith;
      span = refl;
      whole = none_of_some asked.span.from asked.span.to old;
      written = λ honest v view. nothing_before asked.span.from asked.span.to asked.skip asked.end old;
    }

pub loop-at-preserved : goal.loop-at-preserved
loop-at-preserved g c =
    let old = g.W.Write.contents c.args.output.now in
    let now = g.W.Write.contents c.loop-at.output in
    let new = g.W.Write.contents c.write_chosen_file.new.output in
    let s = c.args.snapshot.now.shelf in
    let asked = c.args.asked in
    let left = c.loop-at.left in
    let at = c.loop-at.at in
    let file = file_of c.kept_part.result in
    let there = c.kept_part.ensures.file in
    let within : at < length (kept_by_file s) =
    omega (arith, c.loop-at-test.true, c.kept_files-files.ensures, files_count s) in
    let before = c.loop-at.invariant in
    record {
      faults = c.in_ok-write_chosen_file.ensures.cause.done ∙ before.faults;
      skip = next_left s at file within there asked.skip left.skip c.asked_after-left.result.skip
          c.message_count-count.result before.skip c.asked_after-left.ensures.skip c.message_count-count.ensures;
      end = next_left s at file within there asked.end left.end c.asked_after-left.result.end
          c.message_count-count.result before.end c.asked_after-left.ensures.end c.message_count-count.ensures;
      span = c.asked_after-left.ensures.span ∙ before.span;
      whole = some_then asked.span.from asked.span.to old now new before.whole
          (subst (λ (t : TimeSpan). Writes (AreSpanMessages t.from t.to) now new) before.span
          c.in_ok-write_chosen_file.ensures.whole);
      written = λ honest v view.
          let xs = list_before s v at in
          let ys = own_list s v at file in
          subst (λ (l : List Accepted).
          Appends old new (text_between asked.span.from asked.span.to asked.skip asked.end l))
          (sym (next_before s v view at file within there))
          (between_more asked.span.from asked.span.to asked.skip asked.end (count_before s at) left.skip left.end xs ys
          old now new (length_before s v view at) before.skip before.end (before.written honest v view)
          (subst (λ (t : TimeSpan). Appends now new (text_between t.from t.to left.skip left.end ys)) before.span
          (c.in_ok-write_chosen_file.ensures.all honest _ there _ ys (own_prefix s v view at file within there)
          (own_accepted s v view at file within there) (own_octets s v view at file within there))));
    }

pub returns-in_err-write_chosen_file-clause-part : goal.returns-in_err-write_chosen_file-clause-part
returns-in_err-write_chosen_file-clause-part g c =
    let span = c.args.asked.span in
    let now = g.W.Write.contents c.loop-at.output in
    let new = g.W.Write.contents c.write_chosen_file.new.output in
    on_err_always c.from_residual.result _
    (part_then span.from span.to (g.W.Write.contents c.args.output.now) now new c.loop-at.invariant.whole
    (subst (λ (t : TimeSpan). WritesSome (AreSpanMessages t.from t.to) now new) c.loop-at.invariant.span
    c.in_err-write_chosen_file.ensures.part))

pub returns-in_err-write_chosen_file-clause-some : goal.returns-in_err-write_chosen_file-clause-some
returns-in_err-write_chosen_file-clause-some g c = λ honest v view.
    let old = g.W.Write.contents c.args.output.now in
    let now = g.W.Write.contents c.loop-at.output in
    let new = g.W.Write.contents c.write_chosen_file.new.output in
    let s = c.args.snapshot.now.shelf in
    let asked = c.args.asked in
    let left = c.loop-at.left in
    let at = c.loop-at.at in
    let file = file_of c.kept_part.result in
    let there = c.kept_part.ensures.file in
    let within : at < length (kept_by_file s) =
    omega (arith, c.loop-at-test.true, c.kept_files-files.ensures, files_count s) in
    let before = c.loop-at.invariant in
    let xs = list_before s v at in
    let ys = own_list s v at file in
    let rest = drop (count_before s (at + 1)) v.kept in
    on_err_always c.from_residual.result _
    (between_cut asked.span.from asked.span.to asked.skip asked.end (count_before s at) left.skip left.end xs ys rest
    v.kept old now new (length_before s v view at) before.skip before.end
    (ap (λ (l : List Accepted). l ++ rest) (sym (next_before s v view at file within there)) ∙ rest_after s v view (at + 1))
    (before.written honest v view)
    (subst (λ (t : TimeSpan). AppendsFront now new (text_between t.from t.to left.skip left.end ys)) before.span
    (c.in_err-write_chosen_file.ensures.some honest _ there _ ys (own_prefix s v view at file within there)
    (own_accepted s v view at file within there) (own_octets s v view at file within there))))

pub returns-in_err-write_chosen_file-clause-given : goal.returns-in_err-write_chosen_file-clause-given
returns-in_err-write_chosen_file-clause-given g c = λ honest v view.
    let s = c.args.snapshot.now.shelf in
    let at = c.loop-at.at in
    let file = file_of c.kept_part.result in
    let there = c.kept_part.ensures.file in
    let within : at < length (kept_by_file s) =
    omega (arith, c.loop-at-test.true, c.kept_files-files.ensures, files_count s) in
    passed_on c.from_residual.result (c.in_err-write_chosen_file.field-0).0 IsBlameless c.from_residual.ensures.1
    (c.in_err-write_chosen_file.ensures.given honest _ there _ (own_list s v at file)
    (own_prefix s v view at file within there) (own_accepted s v view at file within there)
    (own_octets s v view at file within there))

pub returns-clause-all : goal.returns-clause-all
returns-clause-all g c = λ honest v view.
    let s = c.args.snapshot.now.shelf in
    let asked = c.args.asked in
    subst (λ (l : List Accepted). Appends (g.W.Write.contents c.args.output.now) (g.W.Write.contents c.loop-at.output)
    (text_between asked.span.from asked.span.to asked.skip asked.end l))
    (all_before s v view c.loop-at.at (omega (arith, c.loop-at-test.false, c.kept_files-files.ensures, files_count s)))
    (c.loop-at.invariant.written honest v view)
