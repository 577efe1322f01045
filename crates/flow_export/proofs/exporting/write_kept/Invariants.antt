use Rattle.std.proofs.Common.{◌≡◌, ◌-◌, drop, length, take}
use Rattle.std.specs.Prelude.{IsTrue}
use Rattle.std.specs.Io.KnownBytes.{Appends}
use Rattle.flow_codec.specs.Message.{joined}
use Rattle.flow_snapshot.specs.Found.{kept_by_file}
use Rattle.flow_export.specs.Export.{asked_count, messages_of, AreMessages, Writes}
use Rattle.flow_export.proofs.exporting.write_kept.Given as goal

-- of the files so far the messages are written
abbrev pub invariant-loop-at : goal.invariant-loop-at
invariant-loop-at g l =
    let old = g.W.Write.contents l.fn.output in
    let now = g.W.Write.contents l.output in
    let ms = messages_of (take l.at (kept_by_file l.fn.snapshot.shelf)) in
    record {
      faults : l.faults ≡ l.fn.faults;
      skip : l.skip ≡ l.fn.skip - length ms;
      left : l.left ≡ l.fn.most - length (drop l.fn.skip ms);
      whole : Writes (AreMessages (asked_count l.fn.skip l.fn.most (length ms))) old now;
      written : IsTrue l.fn.snapshot.honest → Appends old now (joined (take l.fn.most (drop l.fn.skip ms)));
    }
