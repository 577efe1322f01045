use Rattle.std.proofs.Common.{append_assoc, codes}
use Rattle.flow_inspect.proofs.reporting.push_numbered_names.Goals as goal

pub returns : goal.returns
returns c =
    rw (
      c.in_ok-extend_from_slice-2.ensures.items,
      c.as_bytes-2.ensures.value,
      c.in_ok-extend_from_slice.ensures.items,
      c.as_bytes.ensures.value,
    )
    (append_assoc c.args.text.now.items (codes "file,") _)
