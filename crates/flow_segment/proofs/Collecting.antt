-- The messages of a part, collected one after the other.
use Rattle.std.proofs.Common.{◌≡◌, ◌≢◌, ◌⊎◌, ℕ, ◌+◌, ◌≤◌, Bool, IsTrue, List, [], ◌++◌, length, refl, sym, ap, ◌∙◌, inl}
use Rattle.std.proofs.Common.{inr}
use Rattle.std.specs.Prelude.{Vec, Result, Ok, Err, IfOk, IfErr}
use Rattle.std.specs.List.{AllByRecursion}
use Rattle.std.specs.declared.alloc.Global.{Global}
use Rattle.flow_refusals.specs.declared.read_refusal.ReadRefusal.{ReadRefusal}
use Rattle.flow_refusals.specs.declared.read_refusal.ReadRefusal.TheVariants.{Damaged, Fault, OutOfMemory}
use Rattle.flow_gate.specs.Scan.{texts}
use Rattle.flow_codec.specs.declared.file.FileError.{FileError}
use Rattle.flow_codec.specs.Message.{joined}
use Rattle.flow_codec.specs.Cutting.{IsCutOff, IsDivided, IsFileFault}
use Rattle.flow_codec.proofs.Dividing.{none_has_no_fault, one_division}
use Rattle.flow_segment.specs.Segment.{AreGiven, AreMessagesOf, IsToldOf, Reading}

-- what was read so far of a part with these octets
pub record Collected (number prefix end : ℕ) (honest : Bool) (octets : List ℕ) (reader : Reading)
    (messages : List (Vec ℕ Global)) : Type 0 where
  pub file : reader.file ≡ number
  pub same : reader.honest ≡ honest
  pub last : reader.end ≡ end
  pub within : reader.place ≤ reader.end
  pub each : IsTrue honest → AllByRecursion IsCutOff (texts messages)
  pub whole : IsTrue honest → octets ≡ joined (texts messages) ++ reader.rest
  pub place : IsTrue honest → reader.place ≡ prefix + length (joined (texts messages))

-- messages that fill octets are those that are given
pub given_from : (octets : List ℕ) (number prefix end count : ℕ) (list : List (List ℕ))
    (result : Result (Vec (Vec ℕ Global) Global) ReadRefusal) → AreMessagesOf octets count list
    → IfOk result (λ messages. AreMessagesOf octets count (texts messages.items))
    → IfErr result (λ e. IsToldOf octets number prefix end count e) → AreGiven list result
given_from octets number prefix end count list (Ok messages) are found told =
    (one_division 0 0 list (texts messages.items) [] [] (are.divided).each (found.divided).each
    (sym (are.divided).whole ∙ (found.divided).whole) (inl refl) (inl refl)).0
given_from octets number prefix end count list (Err (Damaged file at)) are found told =
    by told.1 told.2 told.3 told.4
  where
    by : (messages : List (List ℕ)) (rest : List ℕ) → IsDivided octets messages rest
        → ((at ≡ prefix + length (joined messages)) × ((fault : FileError) × IsFileFault at rest fault))
        ⊎ ((at ≡ end) × (rest ≡ []) × (length messages ≢ count)) → ⊥
    by messages rest divided (inl (place, (fault, bad))) =
        let one = one_division 0 at list messages [] rest (are.divided).each divided.each
        (sym (are.divided).whole ∙ divided.whole) (inl refl) (inr (fault, bad)) in
        none_has_no_fault at rest fault one.1 bad
    by messages rest divided (inr (place, none, differ)) =
        let one = one_division 0 at list messages [] rest (are.divided).each divided.each
        (sym (are.divided).whole ∙ divided.whole) (inl refl) (inl none) in
        differ (ap length one.0 ∙ are.all)
given_from octets number prefix end count list (Err Fault) are found told = tt
given_from octets number prefix end count list (Err OutOfMemory) are found told = tt
