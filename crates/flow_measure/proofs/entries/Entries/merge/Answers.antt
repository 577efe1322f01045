use Rattle.std.proofs.Common.{◌++◌, refl, ap, ◌∙◌}
use Rattle.std.specs.FinMap.{entries}
use Rattle.flow_measure.specs.Sums.{gathered}
use Rattle.flow_measure.specs.Entries.{map_of, table_at, all_undone}
use Rattle.flow_measure.proofs.Merging.{step_same, refused_on, done}
use Rattle.flow_measure.proofs.Putting.{grew}
use Rattle.flow_measure.proofs.entries.Entries.merge.Goals as goal

pub loop-key-init : goal.loop-key-init
unfolding all_undone
loop-key-init c = record {
  fit = c.requires;
  same = ap (λ es. gathered (entries (map_of c.args.self.now) ++ es)) c.walk-walk.ensures;
  back = ap (λ cs. all_undone cs c.args.self.now) c.new-changes.ensures.items;
}

pub loop-key-preserved : goal.loop-key-preserved
loop-key-preserved c =
    let old = c.loop-key.self in
    let new = c.add_noted.new.self in
    let same = rw c.in-Some.ensures at c.loop-key.invariant.same in
    let more = grew 0 (map_of old) (map_of new) c.in-Some.key c.in-Some.sums c.in_default-add_noted.ensures.adds
    c.loop-key.invariant.fit in
    record {
      fit = more.0;
      same = step_same (table_at 0 old) (table_at 0 new) c.in-Some.key c.in-Some.sums c.next.new.self
          (entries (map_of c.args.self.now) ++ entries (map_of c.args.other.now)) more.1 same;
      back = c.in_default-add_noted.ensures.back ∙ c.loop-key.invariant.back;
    }

pub returns-in-Err : goal.returns-in-Err
returns-in-Err c = λ width.
    let same = rw c.in-Some.ensures at c.loop-key.invariant.same in (
      refused_on c.in-Err.refusal width (table_at 0 c.loop-key.self) c.in-Some.key c.in-Some.sums c.next.new.self
          (entries (map_of c.args.self.now) ++ entries (map_of c.args.other.now)) same c.in-Err.ensures.adds,
      ap (table_at width) (c.undo_all.ensures ∙ c.in-Err.ensures.back ∙ c.loop-key.invariant.back),
    )

pub returns : goal.returns
returns c = λ width.
    let same = rw c.in_default.ensures.0 at c.loop-key.invariant.same in
    done width (table_at width c.loop-key.self)
    (entries (map_of c.args.self.now) ++ entries (map_of c.args.other.now)) refl c.loop-key.invariant.fit same
