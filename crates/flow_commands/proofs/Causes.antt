-- Which refusals are faults of the device, and where they come from.
use Rattle.std.proofs.Common.{◌≡◌, ◌≢◌, ◌∙◌, ℕ, Result, Ok, Err, IsErrAnd, refl, sym, ap, arith}
use Rattle.flow_disk.specs.Cause.{HasCause}
use Rattle.flow_manifest.specs.declared.error.OpenError.{OpenError}
use Rattle.flow_manifest.specs.declared.error.OpenError.TheVariants as opening
use Rattle.flow_refusals.specs.declared.read_refusal.ReadRefusal.{ReadRefusal}
use Rattle.flow_refusals.specs.declared.read_refusal.ReadRefusal.TheVariants as query
use Rattle.flow_report.specs.declared.text_error.TextError.{TextError}
use Rattle.flow_report.specs.declared.text_error.TextError.TheVariants as text
use Rattle.flow_commands.specs.declared.archive_refusal.ArchiveRefusal.TheVariants as refusal
use Rattle.flow_commands.specs.Archives.{of_opening, of_query, of_text}

-- another refusal, while no fault was counted
pub other_than : {E T : Type 0} (fault e : E) (before now : ℕ) (answer : Result T E)
    → IsErrAnd answer (λ x. x ≡ e) → e ≢ fault → now ≡ before → HasCause fault before now answer
other_than {E} {T} fault e before now (Ok x) never differs same = absurd never
other_than {E} {T} fault e before now (Err x) is differs same = record {
  later = omega (arith, same);
  done = tt;
  risen = λ told. absurd (differs (let this : x ≡ fault = cc in sym is ∙ this));
  other = λ _. same;
}

-- ---- faults of opening

pub opening_fault : (e : OpenError) → of_opening e ≡ refusal.Opening opening.Fault → e ≡ opening.Fault
opening_fault (opening.Damaged file at) is = absurd (cc)
opening_fault (opening.Format file) is = absurd (cc)
opening_fault (opening.Entries file) is = absurd (cc)
opening_fault (opening.Cut file) is = absurd (cc)
opening_fault opening.NoArchive is = absurd (cc)
opening_fault opening.Fault is = refl
opening_fault opening.OutOfMemory is = absurd (cc)

pub opening_is_told : (e : OpenError) → e ≡ opening.Fault → of_opening e ≡ refusal.Opening opening.Fault
opening_is_told e is = ap of_opening is

pub opening_is_no_query : (e : OpenError) → of_opening e ≢ refusal.Query query.Fault
opening_is_no_query (opening.Damaged file at) is = absurd (cc)
opening_is_no_query (opening.Format file) is = absurd (cc)
opening_is_no_query (opening.Entries file) is = absurd (cc)
opening_is_no_query (opening.Cut file) is = absurd (cc)
opening_is_no_query opening.NoArchive is = absurd (cc)
opening_is_no_query opening.Fault is = absurd (cc)
opening_is_no_query opening.OutOfMemory is = absurd (cc)

-- ---- faults of asking

pub query_fault : (e : ReadRefusal) → of_query e ≡ refusal.Query query.Fault → e ≡ query.Fault
query_fault (query.Damaged file at) is = absurd (cc)
query_fault query.Fault is = refl
query_fault query.OutOfMemory is = absurd (cc)

pub query_is_told : (e : ReadRefusal) → e ≡ query.Fault → of_query e ≡ refusal.Query query.Fault
query_is_told e is = ap of_query is

pub query_is_no_opening : (e : ReadRefusal) → of_query e ≢ refusal.Opening opening.Fault
query_is_no_opening (query.Damaged file at) is = absurd (cc)
query_is_no_opening query.Fault is = absurd (cc)
query_is_no_opening query.OutOfMemory is = absurd (cc)

-- ---- out of memory, and writing

pub memory_is_no_opening : refusal.OutOfMemory ≢ refusal.Opening opening.Fault
memory_is_no_opening is = absurd (cc)

pub memory_is_no_query : refusal.OutOfMemory ≢ refusal.Query query.Fault
memory_is_no_query is = absurd (cc)

pub text_is_no_opening : (e : TextError) → of_text e ≢ refusal.Opening opening.Fault
text_is_no_opening text.OutOfMemory is = absurd (cc)
text_is_no_opening (text.Write failed) is = absurd (cc)

pub text_is_no_query : (e : TextError) → of_text e ≢ refusal.Query query.Fault
text_is_no_query text.OutOfMemory is = absurd (cc)
text_is_no_query (text.Write failed) is = absurd (cc)
