use Rattle.std.proofs.Common.{◌≡◌, ◌∙◌, ◌<◌, ◌+◌, List, arith, length, refl, subst, sym}
use Rattle.flow_measure.specs.History.{Accepted}
use Rattle.flow_snapshot.specs.Found.{kept_by_file}
use Rattle.flow_snapshot.specs.Parts.{file_of}
use Rattle.flow_snapshot.proofs.ByFile.{files_count}
use Rattle.flow_snapshot.proofs.KeptFlows.{answered_err}
use Rattle.flow_export.specs.Span.{IsFound}
use Rattle.flow_export.proofs.Choosing.{same_count}
use Rattle.flow_export.proofs.ViewFiles.{all_before, length_before, list_before, next_before, next_count, own_accepted}
use Rattle.flow_export.proofs.ViewFiles.{own_count, own_list, own_octets, own_prefix}
use Rattle.flow_export.proofs.places.find_span.Goals as goal

pub loop-at-init : goal.loop-at-init
loop-at-init g c = record { faults = refl; count = refl; found = λ honest v view. refl }

pub loop-at-preserved : goal.loop-at-preserved
loop-at-preserved g c =
    let s = c.args.snapshot.now.shelf in
    let span = c.args.span in
    let at = c.loop-at.at in
    let within : at < length (kept_by_file s) =
    omega (arith, c.loop-at-test.true, c.kept_files-files.ensures, files_count s) in
    let file = file_of c.kept_part-in-loop-at.result in
    let there = c.kept_part-in-loop-at.ensures.file in
    let same = same_count (kept_by_file s) at (file_of c.kept_part.result) file c.kept_part.ensures.file there in
    let all : c.in-Some.all ≡ c.loop-at.count + length file.messages =
    omega (arith, c.in-Some.ensures, c.message_count-own.ensures, same) in
    record {
      faults = c.in_ok-more.ensures.cause.done ∙ c.loop-at.invariant.faults;
      count = next_count s at file within there c.loop-at.count c.in-Some.all c.loop-at.invariant.count all;
      found = λ honest v view.
          let before = c.loop-at.invariant.count ∙ sym (length_before s v view at) in
          let own = own_count s v view at file within there in
          subst (λ (l : List Accepted). IsFound span.from span.to l c.found_in_both-found.result)
          (sym (next_before s v view at file within there))
          (c.found_in_both-found.ensures (list_before s v at) (own_list s v at file) span.from span.to before
          (omega (arith, before, own, all))
          (c.loop-at.invariant.found honest v view)
          (c.in_ok-more.ensures.given (c.kept_part-in-loop-at.ensures.honest honest) _ (own_list s v at file)
          (own_prefix s v view at file within there) (own_accepted s v view at file within there)
          (own_octets s v view at file within there)));
    }

pub returns-in_err-more-clause-given : goal.returns-in_err-more-clause-given
returns-in_err-more-clause-given g c = λ honest v view.
    let s = c.args.snapshot.now.shelf in
    let at = c.loop-at.at in
    let within : at < length (kept_by_file s) =
    omega (arith, c.loop-at-test.true, c.kept_files-files.ensures, files_count s) in
    let file = file_of c.kept_part-in-loop-at.result in
    let there = c.kept_part-in-loop-at.ensures.file in
    answered_err _ c.from_residual.result (c.in_err-more.field-0).0 c.from_residual.ensures.1
    (c.in_err-more.ensures.given (c.kept_part-in-loop-at.ensures.honest honest) _ (own_list s v at file)
    (own_prefix s v view at file within there) (own_accepted s v view at file within there)
    (own_octets s v view at file within there))

pub returns-clause-given : goal.returns-clause-given
returns-clause-given g c = λ honest v view.
    let s = c.args.snapshot.now.shelf in
    let span = c.args.span in
    subst (λ (l : List Accepted). IsFound span.from span.to l c.loop-at.found)
    (all_before s v view c.loop-at.at (omega (arith, c.loop-at-test.false, c.kept_files-files.ensures, files_count s)))
    (c.loop-at.invariant.found honest v view)
