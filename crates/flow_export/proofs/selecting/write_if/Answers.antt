use Rattle.std.proofs.Common.{List, ℕ, subst}
use Rattle.std.proofs.KnownBytes.{Appends-nil}
use Rattle.std.specs.Prelude.{OnErr, OnOk}
use Rattle.std.specs.Io.KnownBytes.{Appends}
use Rattle.flow_report.specs.Writing.{AppendsFront}
use Rattle.flow_export.proofs.SpanWritten.{no_text, none_of_some, one_part, one_whole, text_if}
use Rattle.flow_export.proofs.selecting.write_if.Goals as goal

pub returns-then-not-chosen-clause-whole : goal.returns-then-not-chosen-clause-whole
returns-then-not-chosen-clause-whole g c = λ from to of_span.
    none_of_some from to (g.W.Write.contents c.args.output.now)

pub returns-then-not-chosen-clause-all : goal.returns-then-not-chosen-clause-all
returns-then-not-chosen-clause-all g c =
    let output = g.W.Write.contents c.args.output.now in
    subst (Appends output output) (no_text c.args.chosen c.args.octets.now c.if-not-chosen.true) (Appends-nil output)

pub returns-clause-whole : goal.returns-clause-whole
returns-clause-whole g c = λ from to of_span.
    one_whole from to c.write_whole.result c.args.octets.now (g.W.Write.contents c.args.output.now)
    (g.W.Write.contents c.write_whole.new.output) (of_span c.if-not-chosen.false) c.write_whole.ensures.whole
    c.write_whole.ensures.all

pub returns-clause-part : goal.returns-clause-part
returns-clause-part g c = λ from to of_span.
    one_part from to c.write_whole.result c.args.octets.now (g.W.Write.contents c.args.output.now)
    (g.W.Write.contents c.write_whole.new.output) (of_span c.if-not-chosen.false) c.write_whole.ensures.part
    c.write_whole.ensures.some

pub returns-clause-all : goal.returns-clause-all
returns-clause-all g c =
    subst (λ (o : List ℕ). OnOk c.write_whole.result
    (Appends (g.W.Write.contents c.args.output.now) (g.W.Write.contents c.write_whole.new.output) o))
    (text_if c.args.chosen c.args.octets.now c.if-not-chosen.false) c.write_whole.ensures.all

pub returns-clause-some : goal.returns-clause-some
returns-clause-some g c =
    subst (λ (o : List ℕ). OnErr c.write_whole.result
    (AppendsFront (g.W.Write.contents c.args.output.now) (g.W.Write.contents c.write_whole.new.output) o))
    (text_if c.args.chosen c.args.octets.now c.if-not-chosen.false) c.write_whole.ensures.some
