use Rattle.std.proofs.Common.{refl}
use Rattle.std.proofs.KnownBytes.{Keeps-refl}
use Rattle.flow_program.proofs.refusing.refuse.Goals as goal

pub returns-in-Width-clause-told : goal.returns-in-Width-clause-told
returns-in-Width-clause-told g c =
    rw c.in-Width.is (refl, Keeps-refl _, rw c.as_bytes.ensures.value at c.tell_line.ensures)

pub returns-in-Plan-clause-told : goal.returns-in-Plan-clause-told
returns-in-Plan-clause-told g c =
    rw c.in-Plan.is (refl, Keeps-refl _, rw c.as_bytes-in-Plan.ensures.value at c.tell_line-in-Plan.ensures)

pub returns-in-Span-clause-told : goal.returns-in-Span-clause-told
returns-in-Span-clause-told g c =
    rw c.in-Span.is (refl, Keeps-refl _, rw c.as_bytes-in-Span.ensures.value at c.tell_line-in-Span.ensures)

pub returns-in-Folders-clause-told : goal.returns-in-Folders-clause-told
returns-in-Folders-clause-told g c =
    rw c.in-Folders.is (refl, Keeps-refl _, rw c.as_bytes-in-Folders.ensures.value at c.tell_line-in-Folders.ensures)

pub returns-in-Flows-clause-told : goal.returns-in-Flows-clause-told
returns-in-Flows-clause-told g c =
    rw c.in-Flows.is (refl, Keeps-refl _, rw c.as_bytes-in-Flows.ensures.value at c.tell_line-in-Flows.ensures)

pub returns-in-Totals-clause-told : goal.returns-in-Totals-clause-told
returns-in-Totals-clause-told g c =
    rw c.in-Totals.is (refl, Keeps-refl _, rw c.as_bytes-in-Totals.ensures.value at c.tell_line-in-Totals.ensures)

pub returns-in-Number-clause-told : goal.returns-in-Number-clause-told
returns-in-Number-clause-told g c =
    rw c.in-Number.is (refl, Keeps-refl _, rw c.as_bytes-in-Number.ensures.value at c.tell_line-in-Number.ensures)

pub returns-in-Keep-clause-told : goal.returns-in-Keep-clause-told
returns-in-Keep-clause-told g c =
    rw c.in-Keep.is (refl, Keeps-refl _, rw c.as_bytes-in-Keep.ensures.value at c.tell_line-in-Keep.ensures)

pub returns-in-Files-clause-told : goal.returns-in-Files-clause-told
returns-in-Files-clause-told g c =
    rw c.in-Files.is (refl, Keeps-refl _, rw c.as_bytes-in-Files.ensures.value at c.tell_line-in-Files.ensures)

pub returns-in-Messages-clause-told : goal.returns-in-Messages-clause-told
returns-in-Messages-clause-told g c =
    rw c.in-Messages.is (refl, Keeps-refl _, rw c.as_bytes-in-Messages.ensures.value at c.tell_line-in-Messages.ensures)

pub returns-in-Formats-clause-told : goal.returns-in-Formats-clause-told
returns-in-Formats-clause-told g c =
    rw c.in-Formats.is (refl, Keeps-refl _, rw c.as_bytes-in-Formats.ensures.value at c.tell_line-in-Formats.ensures)

pub returns-in-Swapped-clause-told : goal.returns-in-Swapped-clause-told
returns-in-Swapped-clause-told g c =
    rw c.in-Swapped.is (refl, Keeps-refl _, rw c.as_bytes-in-Swapped.ensures.value at c.tell_line-in-Swapped.ensures)

pub returns-in-Field-clause-told : goal.returns-in-Field-clause-told
returns-in-Field-clause-told g c = rw c.in-Field.is (refl, Keeps-refl _, c.tell_field.ensures)
