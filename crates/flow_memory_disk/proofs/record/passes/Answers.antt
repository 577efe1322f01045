use Rattle.std.proofs.Common.{◌≡◌, ℕ, ◌+◌, ◌≤◌, ◌-◌, arith}
use Rattle.std.specs.Prelude.{nat_lt}
use Rattle.std.proofs.lemmas.Bool.Decides.{nat_tests}
use Rattle.flow_memory_disk.proofs.record.passes.Goals as goal

more_left : (had more limit : ℕ) → more ≤ limit → nat_lt (limit - more) had ≡ nat_lt limit (had + more)
more_left had more limit fits = grind (arith, nat_tests)

pub returns-else-more-limit : goal.returns-else-more-limit
returns-else-more-limit c = more_left c.args.had c.args.more c.args.limit c.if-more-limit.false
