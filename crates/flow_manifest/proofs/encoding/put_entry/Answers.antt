use Rattle.std.proofs.Common.{append_assoc}
use Rattle.flow_manifest.proofs.encoding.put_entry.Goals as goal

pub returns : goal.returns
returns c = rw (
  c.in_ok-put_u64-3.ensures,
  c.in_ok-put_u64-2.ensures,
  c.in_ok-put_u64.ensures,
  c.in_ok-put_u32-2.ensures,
  c.in_ok-put_u32.ensures,
  c.number_of.ensures,
) (simp append_assoc)
