use Rattle.std.proofs.Common.{◌∙◌, refl}
use Rattle.flow_snapshot.specs.Files.{segment_of}
use Rattle.flow_snapshot.specs.Found.{kept_file}
use Rattle.flow_snapshot.proofs.ByFile.{none_appended, none_given, outside_part}
use Rattle.flow_snapshot.proofs.Finding.{seen_twice}
use Rattle.flow_snapshot.proofs.kept.collect_segment.Goals as goal

pub returns-then-is_outside-clause-found : goal.returns-then-is_outside-clause-found
returns-then-is_outside-clause-found g c = λ honest.
    let part = c.args.part.now in
    let old = c.args.flows.now.items in
    none_appended c.args.from c.args.to (kept_file (segment_of part)) old old
    (outside_part part c.args.from c.args.to (c.is_outside.ensures.whole c.if-is_outside.true honest)) refl

pub returns-then-is_outside-clause-given : goal.returns-then-is_outside-clause-given
returns-then-is_outside-clause-given g c = λ honest own has.
    let part = c.args.part.now in
    let old = c.args.flows.now.items in
    none_given c.args.from c.args.to (kept_file (segment_of part)) old old own
    (outside_part part c.args.from c.args.to (c.is_outside.ensures.whole c.if-is_outside.true honest)) refl has

pub returns-clause-unread : goal.returns-clause-unread
returns-clause-unread g c = λ known.
    absurd (seen_twice c.is_outside.result (c.is_outside.ensures.known ∙ known) c.if-is_outside.false)
