use Rattle.std.proofs.Common.{IsTrue, subst}
use Rattle.flow_rolled.specs.Spans as rows
use Rattle.flow_rolled.specs.Stored.{Rollup}
use Rattle.flow_archive.specs.declared.frozen.Owned.{Owned}
use Rattle.flow_archive.specs.Frozen.{value_of}
use Rattle.flow_archive.proofs.frozen.spanned_sums.Goals as goal

pub with_span-requires : goal.with_span-requires
with_span-requires g c =
    subst (λ (o : Owned Rollup). IsTrue (value_of o).honest → rows.HasSpan c.args.span (value_of o).octets)
    c.in-Plain.is c.requires
