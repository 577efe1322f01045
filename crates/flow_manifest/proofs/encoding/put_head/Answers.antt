use Rattle.std.proofs.Common.{append_assoc}
use Rattle.flow_manifest.specs.Manifest.{head_octets}
use Rattle.flow_manifest.proofs.encoding.put_head.Goals as goal

pub returns : goal.returns
unfolding head_octets
returns c =
    rw (
      c.in_ok-put_u32-4.ensures,
      c.in_ok-put_u64-4.ensures,
      c.in_ok-put_u64-3.ensures,
      c.in_ok-put_u64-2.ensures,
      c.in_ok-put_u32-3.ensures,
      c.in_ok-put_u32-2.ensures,
      c.in_ok-put_u32.ensures,
      c.in_ok-put_u64.ensures,
      c.len.ensures,
    )
    (simp append_assoc)
