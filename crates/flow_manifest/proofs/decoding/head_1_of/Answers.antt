use Rattle.std.proofs.Common.{refl}
use Rattle.flow_manifest.specs.Manifest.{head_octets}
use Rattle.flow_manifest.proofs.decoding.head_1_of.Goals as goal

pub returns-clause-is : goal.returns-clause-is
unfolding head_octets
returns-clause-is c =
    rw (
      c.u64_of-generation.ensures.is,
      c.u32_of-width.ensures.is,
      c.u32_of-limit.ensures.is,
      c.u64_of-next.ensures.is,
      c.u64_of-rolled.ensures.is,
      c.u32_of-count.ensures.is,
    ) refl
