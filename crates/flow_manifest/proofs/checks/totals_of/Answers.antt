use Rattle.std.proofs.Common.{◌≡◌, ℕ, ◌+◌, ◌<◌, List, length, get_or, take, arith}
use Rattle.std.specs.List.{sum_by}
use Rattle.std.proofs.lemmas.List.Sums.{sum_by_more}
use Rattle.flow_manifest.specs.declared.manifest.Entry.{Entry}
use Rattle.flow_manifest.specs.Manifest.{wide_messages, rolled_messages}
use Rattle.flow_manifest.proofs.checks.totals_of.Goals as goal

one_more : (f : Entry → ℕ) (entries : List Entry) (i : ℕ) (d : Entry) (before value : ℕ) → i < length entries
    → before ≡ sum_by f (take i entries) → value ≡ f (get_or entries i d)
    → before + value ≡ sum_by f (take (i + 1) entries)
one_more f entries i d before value lt e v = omega (arith, sum_by_more f entries i d lt)

pub loop-entry-preserved : goal.loop-entry-preserved
loop-entry-preserved c = record {
  wide = one_more (λ e. wide_messages e.kind e.messages) c.args.entries.now c.loop-entry.entry-index _ _ _
      c.loop-entry-test.true c.loop-entry.invariant.wide c.wide_messages-wide.ensures.is;
  rolled = one_more (λ e. rolled_messages e.kind e.messages) c.args.entries.now c.loop-entry.entry-index _ _ _
      c.loop-entry-test.true c.loop-entry.invariant.rolled c.rolled_messages-rolled.ensures.is;
  all = one_more (λ e. e.messages) c.args.entries.now c.loop-entry.entry-index _ _ _ c.loop-entry-test.true
      c.loop-entry.invariant.all c.messages_of-all.ensures.is;
  wide_below = omega arith;
  rolled_below = omega arith;
  all_below = omega arith;
}
