-- What holds of an archive that is given back holds of the end of its command.
use Rattle.std.proofs.Common.{◌≡◌, ◌∙◌, Result, Ok, Err, refl, sym, ap, subst}
use Rattle.std.specs.Prelude.{IfErr, IsErrAnd, OnOk}
use Rattle.flow_archive.specs.Seen.{Seen}
use Rattle.flow_archive.specs.declared.refusal.Refused.{Refused}
use Rattle.flow_archive.specs.declared.refusal.ArchiveError.{ArchiveError}
use Rattle.flow_commands.specs.declared.archive_refusal.ArchiveRefusal.{ArchiveRefusal}
use Rattle.flow_commands.specs.Archives.{of_archive}
use Rattle.flow_commands.specs.Made.{created}
use Rattle.flow_commands.specs.Rolling.{done_of}

on_done : {D E : Type 0} (given : Result (Seen D) (Refused D E)) (P : Type 0) → OnOk given P → OnOk (done_of given) P
on_done (Ok archive) P is = is
on_done (Err refused) P is = is

if_not_done : {D E : Type 0} (given : Result (Seen D) (Refused D E)) (P : E → Type 0)
    → IfErr given (λ r. P r.error) → IfErr (done_of given) P
if_not_done (Ok archive) P is = is
if_not_done (Err refused) P is = is

pub on_ended : {D E : Type 0} (given : Result (Seen D) (Refused D E)) (result : Result (Unit {0}) E) (P : Type 0)
    → result ≡ done_of given → OnOk given P → OnOk result P
on_ended given result P same is = subst (λ r. OnOk r P) (sym same) (on_done given P is)

pub if_refused : {D E : Type 0} (given : Result (Seen D) (Refused D E)) (result : Result (Unit {0}) E)
    (P : E → Type 0) → result ≡ done_of given → IfErr given (λ r. P r.error) → IfErr result P
if_refused given result P same is = subst (λ r. IfErr r P) (sym same) (if_not_done given P is)

-- ---- what a refusal becomes

pub error_is : {T E : Type 0} (result : Result T E) (e : E) → IsErrAnd result (λ x. x ≡ e) → result ≡ Err e
error_is (Ok x) e is = absurd is
error_is (Err x) e is = ap Err is

pub done_created : {D : Type 0} (given : Result (Seen D) (Refused D ArchiveError)) → Ok tt ≡ done_of given
    → Ok tt ≡ created given
done_created (Ok archive) is = refl
done_created (Err refused) is = absurd cc

pub refused_created : {D : Type 0} (given : Result (Seen D) (Refused D ArchiveError)) (e : ArchiveError)
    (result : Result (Unit {0}) ArchiveRefusal) → Err e ≡ done_of given → IsErrAnd result (λ x. x ≡ of_archive e)
    → result ≡ created given
refused_created (Ok archive) e result is told = absurd cc
refused_created (Err refused) e result is told =
    let same : e ≡ refused.error = cc in
    error_is result (of_archive e) told
    ∙ ap (λ (x : ArchiveError). Err (of_archive x)) same
