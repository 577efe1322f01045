use Rattle.std.proofs.Common.{◌≡◌, ◌-◌}
use Rattle.std.specs.Prelude.{IsTrue}
use Rattle.std.specs.Io.KnownBytes.{Appends}
use Rattle.flow_measure.specs.View.{View}
use Rattle.flow_model.specs.Views.{IsViewOf}
use Rattle.flow_export.specs.Export.{Writes}
use Rattle.flow_export.specs.Span.{text_between, AreSpanMessages}
use Rattle.flow_export.proofs.ViewFiles.{count_before, list_before}
use Rattle.flow_export.proofs.selecting.write_asked.Given as goal

-- of the files so far the messages that are asked for are written
abbrev pub invariant-loop-at : goal.invariant-loop-at
invariant-loop-at g l =
    let old = g.W.Write.contents l.fn.output in
    let now = g.W.Write.contents l.output in
    let s = l.fn.snapshot.shelf in
    let asked = l.fn.asked in
    record {
      faults : l.faults ≡ l.fn.faults;
      skip : l.left.skip ≡ asked.skip - count_before s l.at;
      end : l.left.end ≡ asked.end - count_before s l.at;
      span : l.left.span ≡ asked.span;
      whole : Writes (AreSpanMessages asked.span.from asked.span.to) old now;
      written : IsTrue l.fn.snapshot.honest → (v : View) → IsViewOf s v
          → Appends old now (text_between asked.span.from asked.span.to asked.skip asked.end (list_before s v l.at));
    }
