use Rattle.std.proofs.Common.{◌≡◌, ◌+◌, ◌<◌, ℕ, arith, length, subst, take}
use Rattle.flow_snapshot.specs.Found.{kept_by_file}
use Rattle.flow_snapshot.proofs.ByFile.{files_count}
use Rattle.flow_export.specs.Export.{messages_of}
use Rattle.flow_export.proofs.Viewed.{file_there, last_file, passed_file}
use Rattle.flow_export.proofs.exporting.file_of_message.Goals as goal

pub loop-at-init : goal.loop-at-init
loop-at-init g c = record { place = omega arith }

pub loop-at-preserved : goal.loop-at-preserved
loop-at-preserved g c =
    let s = c.args.snapshot.now.shelf in
    let files = kept_by_file s in
    let within : c.loop-at.at < length files =
    omega (arith, c.loop-at-test.true, c.sealed_files-sealed.ensures, files_count s) in
    record {
      place = passed_file files c.args.skip c.loop-at.left c.message_count-count.result c.loop-at.at
          _ within c.kept_part.ensures.file c.message_count-count.ensures
          c.if-left-count.false c.loop-at.invariant.place;
    }

pub returns-then-left-count-clause-own : goal.returns-then-left-count-clause-own
returns-then-left-count-clause-own g c =
    let s = c.args.snapshot.now.shelf in
    let within : c.loop-at.at < length s.sealed = omega (arith, c.loop-at-test.true, c.sealed_files-sealed.ensures) in
    file_there s c.args.skip c.loop-at.left c.message_count-count.result c.loop-at.at _ within
    c.kept_part.ensures.file c.message_count-count.ensures c.if-left-count.true c.loop-at.invariant.place

pub returns-clause-own : goal.returns-clause-own
returns-clause-own g c =
    let s = c.args.snapshot.now.shelf in
    let files = kept_by_file s in
    let last : c.loop-at.at ≡ c.sealed_files-sealed.result = omega (arith, c.loop-at-test.false, c.loop-at.auto.at-end) in
    last_file s c.args.skip c.loop-at.left c.sealed_files-sealed.result c.sealed_files-sealed.ensures
    (subst (λ (n : ℕ). c.args.skip ≡ length (messages_of (take n files)) + c.loop-at.left) last
    c.loop-at.invariant.place)
