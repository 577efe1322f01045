use Rattle.std.proofs.Common.{sym, ◌∙◌}
use Rattle.flow_codec.specs.Templates.{definitions_of}
use Rattle.flow_codec.specs.Working.{changed_in}
use Rattle.flow_codec.proofs.Limits.{limited-same, limited-large, limited-none, limited-full, limited-room}
use Rattle.flow_codec.proofs.working.keep_limits.Goals as goal

pub returns-in_default : goal.returns-in_default
returns-in_default c records =
    rw c.in_default.is (limited-same (record {
      header = c.args.header.now;
      records =
          records;
    }) c.args.before.now c.are_in_force.ensures)

pub returns-then-is_too_large : goal.returns-then-is_too_large
returns-then-is_too_large c records =
    rw c.in-Some.is (limited-large (record {
      header = c.args.header.now;
      records =
          records;
    }) c.args.before.now c.are_in_force.ensures c.in-Some.changed.left
    (changed_in (definitions_of c.args.header.now.domain c.args.before.now) c.in-Some.changed)
    (sym (c.is_too_large.ensures (definitions_of c.args.header.now.domain c.args.before.now)
    (rw c.in-Some.is at c.requires)) ∙ c.if-is_too_large.true))

pub returns-then-is_empty : goal.returns-then-is_empty
returns-then-is_empty c records =
    rw c.in-Some.is (limited-none (record {
      header = c.args.header.now;
      records =
          records;
    }) c.args.before.now c.are_in_force.ensures c.in-Some.changed.left
    (changed_in (definitions_of c.args.header.now.domain c.args.before.now) c.in-Some.changed)
    (sym (c.is_too_large.ensures (definitions_of c.args.header.now.domain c.args.before.now)
    (rw c.in-Some.is at c.requires)) ∙ c.if-is_too_large.false)
    (sym (c.is_empty.ensures (definitions_of c.args.header.now.domain c.args.before.now)
    (rw c.in-Some.is at c.requires)) ∙ c.if-is_empty.true))

pub returns-then-lacks_room_for : goal.returns-then-lacks_room_for
returns-then-lacks_room_for c records =
    rw c.in-Some.is (limited-full (record {
      header = c.args.header.now;
      records =
          records;
    }) c.args.before.now c.are_in_force.ensures c.in-Some.changed.left
    (changed_in (definitions_of c.args.header.now.domain c.args.before.now) c.in-Some.changed)
    (sym (c.is_too_large.ensures (definitions_of c.args.header.now.domain c.args.before.now)
    (rw c.in-Some.is at c.requires)) ∙ c.if-is_too_large.false)
    (sym (c.is_empty.ensures (definitions_of c.args.header.now.domain c.args.before.now)
    (rw c.in-Some.is at c.requires)) ∙ c.if-is_empty.false)
    (sym (c.lacks_room_for.ensures
    (changed_in (definitions_of c.args.header.now.domain c.args.before.now) c.in-Some.changed))
    ∙ c.if-lacks_room_for.true))

pub returns : goal.returns
returns c records =
    rw c.in-Some.is (limited-room (record {
      header = c.args.header.now;
      records =
          records;
    }) c.args.before.now c.are_in_force.ensures c.in-Some.changed.left
    (changed_in (definitions_of c.args.header.now.domain c.args.before.now) c.in-Some.changed)
    (sym (c.is_too_large.ensures (definitions_of c.args.header.now.domain c.args.before.now)
    (rw c.in-Some.is at c.requires)) ∙ c.if-is_too_large.false)
    (sym (c.is_empty.ensures (definitions_of c.args.header.now.domain c.args.before.now)
    (rw c.in-Some.is at c.requires)) ∙ c.if-is_empty.false)
    (sym (c.lacks_room_for.ensures
    (changed_in (definitions_of c.args.header.now.domain c.args.before.now) c.in-Some.changed))
    ∙ c.if-lacks_room_for.false))
