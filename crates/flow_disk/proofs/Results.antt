-- Facts on what a call answered, carried on.
use Rattle.std.proofs.Common.{◌≡◌, Result, Ok, Err, OnOk, IfOk, IfErr, IsErrAnd, sym, subst}

pub on_ok_by : {T E : Type 0} (result : Result T E) (P Q : Type 0) → (P → Q) → OnOk result P → OnOk result Q
on_ok_by (Ok x) P Q each is = each is
on_ok_by (Err e) P Q each is = is

pub if_ok_by : {T E : Type 0} (result : Result T E) (P Q : T → Type 0) → ((x : T) → P x → Q x) → IfOk result P
    → IfOk result Q
if_ok_by (Ok x) P Q each is = each x is
if_ok_by (Err e) P Q each is = is

pub if_err_by : {T E : Type 0} (result : Result T E) (P Q : E → Type 0) → ((e : E) → P e → Q e) → IfErr result P
    → IfErr result Q
if_err_by (Ok x) P Q each is = is
if_err_by (Err e) P Q each is = each e is

-- an error that `?` passes on
pub passed_on : {T E : Type 0} (result : Result T E) (error : E) (P : E → Type 0) → IsErrAnd result (λ e. e ≡ error)
    → P error → IfErr result P
passed_on (Ok x) error P is holds = tt
passed_on (Err e) error P is holds = subst P (sym is) holds
