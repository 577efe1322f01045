use Rattle.std.proofs.Common.{◌∙◌, ap, subst, sym}
use Rattle.std.proofs.KnownBytes.{Keeps-refl}
use Rattle.flow_manifest.specs.Slots.{reads_of}
use Rattle.flow_several.specs.Flows.{ListsFront, StartIn}
use Rattle.flow_several.specs.Several.{KeepsArchive}
use Rattle.flow_several.specs.Turns.{IsOpened}
use Rattle.flow_several.proofs.Listed.{asks_alone, opened_alone, some_of}
use Rattle.flow_several.proofs.listing.list_opened.Goals as goal

pub returns-in-Ok-clause-listed : goal.returns-in-Ok-clause-listed
returns-in-Ok-clause-listed g c = λ disk opened honest.
    let is = subst (IsOpened g.D.Disk disk) c.in-Ok.is opened in
    c.list_archive-listed.ensures.listed (is.honest ∙ honest) (reads_of (g.D.Disk.held disk)) (is.read honest)

pub returns-in-Ok-clause-some : goal.returns-in-Ok-clause-some
returns-in-Ok-clause-some g c =
    let l = c.args.listing.now in
    some_of l.format l.number l.from l.to (g.W.Write.contents c.args.output.now)
    (g.W.Write.contents c.list_archive-listed.new.output) c.list_archive-listed.result
    c.list_archive-listed.ensures.some

pub returns-in-Ok-clause-honest : goal.returns-in-Ok-clause-honest
returns-in-Ok-clause-honest g c = λ disk opened.
    let is = subst (IsOpened g.D.Disk disk) c.in-Ok.is opened in
    ap g.D.Disk.honest (c.into_disk.ensures ∙ c.list_archive-listed.ensures.disk) ∙ is.honest

pub returns-in-Ok-clause-any_moment : goal.returns-in-Ok-clause-any_moment
returns-in-Ok-clause-any_moment g c = λ disk opened.
    let is = subst (IsOpened g.D.Disk disk) c.in-Ok.is opened in
    subst (λ d. KeepsArchive g.D.Disk disk d)
    (sym (c.into_disk.ensures ∙ c.list_archive-listed.ensures.disk)) is.any_moment

pub returns-in-Ok-clause-opening : goal.returns-in-Ok-clause-opening
returns-in-Ok-clause-opening g c = λ disk opened.
    let is = subst (IsOpened g.D.Disk disk) c.in-Ok.is opened in
    let l = c.args.listing.now in
    opened_alone (g.D.Disk.faults disk) (g.D.Disk.faults c.in-Ok.archive.disk)
    (g.D.Disk.faults c.into_disk.result) c.list_archive-listed.result is.cause.done
    (ap g.D.Disk.faults (c.into_disk.ensures ∙ c.list_archive-listed.ensures.disk))
    (asks_alone (ListsFront l.format l.number (StartIn l.from l.to) (g.W.Write.contents c.args.output.now)
    (g.W.Write.contents c.list_archive-listed.new.output)) c.list_archive-listed.result
    c.list_archive-listed.ensures.some)

pub returns-in-Err-clause-listed : goal.returns-in-Err-clause-listed
returns-in-Err-clause-listed g c = λ disk opened honest.
    let is = subst (IsOpened g.D.Disk disk) c.in-Err.is opened in
    (is.told honest, Keeps-refl (g.W.Write.contents c.args.output.now))
