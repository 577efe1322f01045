use Rattle.std.proofs.Common.{subst}
use Rattle.std.specs.Prelude.{OnOk}
use Rattle.flow_snapshot.specs.Found.{KeptFile}
use Rattle.flow_records.specs.Listing.{TellsOwn}
use Rattle.flow_records.specs.Records.{HaveOwnRecords}
use Rattle.flow_records.proofs.Files.{one_file}
use Rattle.flow_records.proofs.listing.tell_file.Goals as goal

pub returns-in-Sealed-clause-found : goal.returns-in-Sealed-clause-found
returns-in-Sealed-clause-found g c = λ honest file there.
    subst (λ (f : KeptFile). OnOk c.tell_segment.result (TellsOwn c.args.listing.now (g.W.Write.contents c.args.output.now)
    (g.W.Write.contents c.tell_segment.new.output) c.tell_segment.new.listing f))
    (one_file _ c.args.at _ file c.in-Sealed.ensures.file there) (c.tell_segment.ensures.found (c.in-Sealed.ensures.honest honest))

pub returns-in-Sealed-clause-cut : goal.returns-in-Sealed-clause-cut
returns-in-Sealed-clause-cut g c = λ honest file there own has.
    c.tell_segment.ensures.cut (c.in-Sealed.ensures.honest honest) own
    (subst (λ (f : KeptFile). HaveOwnRecords c.args.listing.now.chosen.from c.args.listing.now.chosen.to f own)
    (one_file _ c.args.at file _ there c.in-Sealed.ensures.file) has)

pub returns-in-Active-clause-found : goal.returns-in-Active-clause-found
returns-in-Active-clause-found g c = λ honest file there.
    subst (λ (f : KeptFile). OnOk c.tell_active.result (TellsOwn c.args.listing.now (g.W.Write.contents c.args.output.now)
    (g.W.Write.contents c.tell_active.new.output) c.tell_active.new.listing f))
    (one_file _ c.args.at _ file c.in-Active.ensures.file there) c.tell_active.ensures.found

pub returns-in-Active-clause-cut : goal.returns-in-Active-clause-cut
returns-in-Active-clause-cut g c = λ honest file there own has.
    c.tell_active.ensures.cut own
    (subst (λ (f : KeptFile). HaveOwnRecords c.args.listing.now.chosen.from c.args.listing.now.chosen.to f own)
    (one_file _ c.args.at file _ there c.in-Active.ensures.file) has)
