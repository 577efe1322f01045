use Rattle.std.proofs.Common.{subst, sym}
use Rattle.flow_commands.specs.declared.archive_refusal.ArchiveRefusal.{ArchiveRefusal}
use Rattle.flow_commands.specs.Asking.{IsBlameless, IsWhileAsking, WritesUpTo}
use Rattle.flow_records.specs.Listing.{records_lines, AreRecordsIn}
use Rattle.flow_report.specs.Writing.{AppendsFront}
use Rattle.flow_records.proofs.Lines.{asks, blameless, cause_of, some_up_to}
use Rattle.flow_records.proofs.asking.write_asked.Goals as goal

pub returns-in-Ok-clause-written : goal.returns-in-Ok-clause-written
returns-in-Ok-clause-written g c = rw (c.from.ensures, c.to.ensures) at c.in-Ok.ensures.all

pub returns-in-Ok-clause-told : goal.returns-in-Ok-clause-told
returns-in-Ok-clause-told g c = λ honest v is.
    (rw (c.from.ensures, c.to.ensures) at c.in-Ok.ensures.told) honest v is

pub returns-in-Err-clause-some : goal.returns-in-Err-clause-some
returns-in-Err-clause-some g c =
    let span = c.args.span.now in
    let old = g.W.Write.contents c.args.output.now in
    let new = g.W.Write.contents c.write_records.new.output in
    let e = c.in-Err.refusal in
    let some = rw (c.from.ensures, c.to.ensures) at c.in-Err.ensures.some in
    subst (λ (r : ArchiveRefusal). IsWhileAsking r
    × WritesUpTo (AreRecordsIn c.args.format.now span.from span.to) r old new)
    (sym c.refusal_of.ensures) (asks e, some_up_to c.args.format.now span e old new some)

pub returns-in-Err-clause-cut : goal.returns-in-Err-clause-cut
returns-in-Err-clause-cut g c = λ honest v is.
    let span = c.args.span.now in
    let old = g.W.Write.contents c.args.output.now in
    let new = g.W.Write.contents c.write_records.new.output in
    let e = c.in-Err.refusal in
    let x = (rw (c.from.ensures, c.to.ensures) at c.in-Err.ensures.cut) honest v is in
    subst (λ (r : ArchiveRefusal). IsBlameless r
    × AppendsFront old new (records_lines c.args.format.now span.from span.to v)) (sym c.refusal_of.ensures)
    (blameless e x.0, x.1)

pub returns-in-Err-clause-cause : goal.returns-in-Err-clause-cause
returns-in-Err-clause-cause g c =
    cause_of c.args.faults.now c.write_records.new.faults c.in-Err.refusal c.refusal_of.result c.refusal_of.ensures
    c.in-Err.ensures.cause
