use Rattle.std.proofs.Common.{◌∙◌, ◌<◌, List, length, refl, subst, arith}
use Rattle.std.proofs.lemmas.List.{take_all}
use Rattle.flow_codec.specs.Raw.{Placed}
use Rattle.flow_disk.proofs.Results.{passed_on}
use Rattle.flow_snapshot.specs.Found.{kept_by_file, KeptFile}
use Rattle.flow_snapshot.proofs.ByFile.{files_count}
use Rattle.flow_records.specs.Listing.{IsBlameless, TellsFrontOf, TellsOf, TellsOwnOf}
use Rattle.flow_records.specs.Records.{records_in_view, AreOwnRecords}
use Rattle.flow_records.proofs.ByFile.{same_records, view_records}
use Rattle.flow_records.proofs.Files.{files_cut, files_more, none_told_yet}
use Rattle.flow_records.proofs.Telling.{on_err, some_cut, some_more, some_none, stays_here, stays_then}
use Rattle.flow_records.proofs.listing.tell_files.Goals as goal

pub loop-at-init : goal.loop-at-init
loop-at-init g c =
    let was = g.W.Write.contents c.args.output.now in
    record {
      faults = refl;
      same = stays_here c.args.listing.now;
      some = some_none c.args.listing.now was;
      found = λ honest. none_told_yet c.args.listing.now was;
    }

pub loop-at-preserved : goal.loop-at-preserved
loop-at-preserved g c =
    let was = g.W.Write.contents c.args.output.now in
    let now = g.W.Write.contents c.loop-at.output in
    let next = g.W.Write.contents c.tell_file.new.output in
    let old = c.args.listing.now in
    let mid = c.loop-at.listing in
    let new = c.tell_file.new.listing in
    let s = c.args.snapshot.now.shelf in
    let i = c.loop-at.invariant in
    let within : c.loop-at.at < length (kept_by_file s) =
    omega (arith, c.loop-at-test.true, c.kept_files-files.ensures, files_count s) in
    record {
      faults = c.in_ok-tell_file.ensures.cause.done ∙ i.faults;
      same = stays_then old mid new i.same c.tell_file.ensures.same;
      some = some_more old mid new was now next i.same i.some c.in_ok-tell_file.ensures.all;
      found = λ honest.
          files_more old mid was now (kept_by_file s) c.loop-at.at (i.found honest) next i.same within new
          (c.in_ok-tell_file.ensures.found honest);
    }

pub returns-in_err-tell_file-clause-some : goal.returns-in_err-tell_file-clause-some
returns-in_err-tell_file-clause-some g c =
    on_err c.from_residual.result _ _ c.from_residual.ensures.1
    (some_cut c.args.listing.now c.loop-at.listing (g.W.Write.contents c.args.output.now)
    (g.W.Write.contents c.loop-at.output) (g.W.Write.contents c.tell_file.new.output) c.loop-at.invariant.same
    c.loop-at.invariant.some c.in_err-tell_file.ensures.some)

pub returns-in_err-tell_file-clause-cut : goal.returns-in_err-tell_file-clause-cut
returns-in_err-tell_file-clause-cut g c = λ honest v is.
    let was = g.W.Write.contents c.args.output.now in
    let now = g.W.Write.contents c.loop-at.output in
    let next = g.W.Write.contents c.tell_file.new.output in
    let old = c.args.listing.now in
    let mid = c.loop-at.listing in
    let s = c.args.snapshot.now.shelf in
    let i = c.loop-at.invariant in
    let e = c.in_err-tell_file.field-0.0 in
    let all = records_in_view old.chosen.from old.chosen.to v in
    let within : c.loop-at.at < length (kept_by_file s) =
    omega (arith, c.loop-at-test.true, c.kept_files-files.ensures, files_count s) in
    passed_on c.from_residual.result e (λ e. IsBlameless e × TellsFrontOf old was next all) c.from_residual.ensures.1
    (files_cut old mid was now (kept_by_file s) c.loop-at.at all (view_records old.chosen.from old.chosen.to s v is)
    (i.found honest) next i.same within e (c.in_err-tell_file.ensures.cut honest))

pub returns-clause-found : goal.returns-clause-found
returns-clause-found g c = λ honest.
    let s = c.args.snapshot.now.shelf in
    subst (TellsOwnOf c.args.listing.now (g.W.Write.contents c.args.output.now) (g.W.Write.contents c.loop-at.output)
    c.loop-at.listing)
    (take_all c.loop-at.at (kept_by_file s)
    (omega (arith, c.loop-at-test.false, c.kept_files-files.ensures, files_count s))) (c.loop-at.invariant.found honest)

pub returns-clause-told : goal.returns-clause-told
returns-clause-told g c = λ honest v is.
    let was = g.W.Write.contents c.args.output.now in
    let now = g.W.Write.contents c.loop-at.output in
    let old = c.args.listing.now in
    let s = c.args.snapshot.now.shelf in
    let told = c.loop-at.invariant.found honest in
    let all = subst (λ (fs : List KeptFile). AreOwnRecords old.chosen.from old.chosen.to fs told.0)
    (take_all c.loop-at.at (kept_by_file s)
    (omega (arith, c.loop-at-test.false, c.kept_files-files.ensures, files_count s))) told.1 in
    subst (λ (rs : List Placed). TellsOf old was now c.loop-at.listing rs)
    (same_records old.chosen.from old.chosen.to (kept_by_file s) told.0
    (records_in_view old.chosen.from old.chosen.to v) all (view_records old.chosen.from old.chosen.to s v is)) told.2
