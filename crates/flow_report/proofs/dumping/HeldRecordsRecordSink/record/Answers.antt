use Rattle.std.proofs.Common.{length, refl}
use Rattle.flow_report.proofs.Holding.{taken_more}
use Rattle.flow_report.proofs.dumping.HeldRecordsRecordSink.record.Goals as goal

pub returns-clause-taken : goal.returns-clause-taken
returns-clause-taken c = λ start taken before.
    rw (← c.in_ok-clone.ensures.cases) (taken_more start c.args.self.now (record {
      records = c.push.new.self;
      octets = c.extend_from_slice.new.self;
    }) taken c.args._header.now (record {
      id = c.args.id;
      definition = c.in_ok-clone.field-0;
      len = length c.args.octets.now;
    }) c.args.octets.now refl c.in_ok-push.ensures.items c.in_ok-extend_from_slice.ensures.items before)
