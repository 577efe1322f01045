use Rattle.std.proofs.Common.{◌≡◌, arith, drop, length, sym, subst, take}
use Rattle.std.specs.Prelude.{IfOk, OnErr, OnOk}
use Rattle.std.specs.Io.KnownBytes.{Appends}
use Rattle.flow_codec.specs.Message.{joined}
use Rattle.flow_report.specs.Writing.{AppendsFront}
use Rattle.flow_snapshot.specs.Found.{kept_by_file, KeptFile}
use Rattle.flow_export.proofs.Choosing.{found_there, none_asked, none_written}
use Rattle.flow_export.specs.Export.{asked_count, AreMessages, Writes, WritesSome}
use Rattle.flow_export.proofs.Viewed.{no_more, none_asked_for, own_cut_off, own_file}
use Rattle.flow_export.proofs.WholeMessages.{none_whole}
use Rattle.flow_export.proofs.exporting.write_file.Goals as goal

pub returns-then-count-skip-clause-count : goal.returns-then-count-skip-clause-count
returns-then-count-skip-clause-count g c = λ file there.
    sym (none_asked_for c.args.snapshot.now.shelf c.args.at _ file c.args.most c.args.skip c.message_count-count.result
    c.kept_part.ensures.file there c.message_count-count.ensures c.if-count-skip.true)

pub returns-then-count-skip-clause-whole : goal.returns-then-count-skip-clause-whole
returns-then-count-skip-clause-whole g c = λ file there.
    none_whole _ (g.W.Write.contents c.args.output.now)
    (none_asked_for c.args.snapshot.now.shelf c.args.at _ file c.args.most c.args.skip c.message_count-count.result
    c.kept_part.ensures.file there c.message_count-count.ensures c.if-count-skip.true)

pub returns-then-count-skip-clause-all : goal.returns-then-count-skip-clause-all
returns-then-count-skip-clause-all g c = λ honest file there.
    none_written (g.W.Write.contents c.args.output.now) (take c.args.most (drop c.args.skip file.messages))
    (no_more c.args.snapshot.now.shelf c.args.at _ file c.args.most c.args.skip
    c.message_count-count.result c.kept_part.ensures.file there c.message_count-count.ensures c.if-count-skip.true)

pub returns-then-most-eq0-clause-count : goal.returns-then-most-eq0-clause-count
returns-then-most-eq0-clause-count g c = λ file there. omega (arith, c.if-most-eq0.true)

pub returns-then-most-eq0-clause-whole : goal.returns-then-most-eq0-clause-whole
returns-then-most-eq0-clause-whole g c = λ file there.
    none_whole _ (g.W.Write.contents c.args.output.now) (omega (arith, c.if-most-eq0.true))

pub returns-then-most-eq0-clause-all : goal.returns-then-most-eq0-clause-all
returns-then-most-eq0-clause-all g c = λ honest file there.
    none_written (g.W.Write.contents c.args.output.now) (take c.args.most (drop c.args.skip file.messages))
    (none_asked c.args.most c.args.skip file.messages c.if-most-eq0.true)

pub returns-clause-count : goal.returns-clause-count
returns-clause-count g c = λ file there.
    let files = kept_by_file c.args.snapshot.now.shelf in
    subst (λ (f : KeptFile). IfOk c.write_part.result (λ n. n ≡ asked_count c.args.skip c.args.most (length f.messages)))
    (found_there files c.args.at file _ c.kept_part-part.ensures.file there) c.write_part.ensures.count

pub returns-clause-whole : goal.returns-clause-whole
returns-clause-whole g c = λ file there.
    let files = kept_by_file c.args.snapshot.now.shelf in
    subst (λ (f : KeptFile). OnOk c.write_part.result
    (Writes (AreMessages (asked_count c.args.skip c.args.most (length f.messages)))
    (g.W.Write.contents c.args.output.now) (g.W.Write.contents c.write_part.new.output)))
    (found_there files c.args.at file _ c.kept_part-part.ensures.file there) c.write_part.ensures.whole

pub returns-clause-part : goal.returns-clause-part
returns-clause-part g c = λ file there.
    let files = kept_by_file c.args.snapshot.now.shelf in
    subst (λ (f : KeptFile). OnErr c.write_part.result
    (WritesSome (AreMessages (asked_count c.args.skip c.args.most (length f.messages)))
    (g.W.Write.contents c.args.output.now) (g.W.Write.contents c.write_part.new.output)))
    (found_there files c.args.at file _ c.kept_part-part.ensures.file there) c.write_part.ensures.part

pub returns-clause-all : goal.returns-clause-all
returns-clause-all g c = λ honest file there.
    let files = kept_by_file c.args.snapshot.now.shelf in
    subst (λ (f : KeptFile). OnOk c.write_part.result (Appends (g.W.Write.contents c.args.output.now)
    (g.W.Write.contents c.write_part.new.output) (joined (take c.args.most (drop c.args.skip f.messages)))))
    (found_there files c.args.at file _ c.kept_part-part.ensures.file there)
    (c.write_part.ensures.all (c.kept_part-part.ensures.honest honest))

pub returns-clause-some : goal.returns-clause-some
returns-clause-some g c = λ honest file there.
    let files = kept_by_file c.args.snapshot.now.shelf in
    subst (λ (f : KeptFile). OnErr c.write_part.result (AppendsFront (g.W.Write.contents c.args.output.now)
    (g.W.Write.contents c.write_part.new.output) (joined (take c.args.most (drop c.args.skip f.messages)))))
    (found_there files c.args.at file _ c.kept_part-part.ensures.file there)
    (c.write_part.ensures.some (c.kept_part-part.ensures.honest honest))

pub returns-clause-given : goal.returns-clause-given
returns-clause-given g c = λ honest v view.
    c.write_part.ensures.given (c.kept_part-part.ensures.honest honest)
    (own_cut_off _ (own_file c.args.snapshot.now.shelf v c.args.at _ view c.kept_part-part.ensures.file))
