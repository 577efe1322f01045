use Rattle.flow_program.proofs.Ahead.{next_ahead}
use Rattle.flow_program.proofs.side_by_side.Checks.next.Goals as goal

pub returns-in-Some-Ok-clause-answer : goal.returns-in-Some-Ok-clause-answer
returns-in-Some-Ok-clause-answer g c = λ later ahead.
    (next_ahead g.D.Disk g.O.Opener.opens g.O.Opener.refuses c.args.checking.now.files c.next.new.self.answers.items
    c.next.new.self.left.items c.args.self.now.archives.answers.items c.args.self.now.archives.left.items
    c.in-Some-Ok.field-0 c.in-Some-Ok.answer c.in-Some-Ok.field-0-is c.in-Some-Ok.ensures.answer c.args.folder.now later
    ahead).0

pub returns-in-Some-Ok-clause-ahead : goal.returns-in-Some-Ok-clause-ahead
returns-in-Some-Ok-clause-ahead g c = λ later ahead.
    (next_ahead g.D.Disk g.O.Opener.opens g.O.Opener.refuses c.args.checking.now.files c.next.new.self.answers.items
    c.next.new.self.left.items c.args.self.now.archives.answers.items c.args.self.now.archives.left.items
    c.in-Some-Ok.field-0 c.in-Some-Ok.answer c.in-Some-Ok.field-0-is c.in-Some-Ok.ensures.answer c.args.folder.now later
    ahead).1
