use Rattle.flow_archive.proofs.Appending.{begun}
use Rattle.flow_archive.proofs.plain.PlainArchive.new.Goals as goal

pub invariant_of-result : goal.invariant_of-result
invariant_of-result c = begun _ _ _ c.args.width c.new.ensures.items c.new-2.ensures c.new-3.ensures c.requires.positive
