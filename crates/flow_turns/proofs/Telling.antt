-- A job's answer, answer by answer.
use Rattle.std.proofs.Common.{◌≡◌, ◌∙◌, inl, inr, ℕ, Bool, true, false, List, [], ◌∷◌, ◌++◌, Option, Some, None}
use Rattle.std.proofs.Common.{Result, Ok, Err}
use Rattle.std.proofs.Common.{refl, sym, ap, subst, arith}
use Rattle.std.specs.Prelude.{if◌then◌else◌, IsErrAnd, ◌≤◌}
use Rattle.flow_disk.specs.Cause.{HasCause, HasRisen}
use Rattle.flow_archive.specs.declared.event.Answer.{Answer}
use Rattle.flow_archive.specs.declared.refusal.ArchiveError.{ArchiveError}
use Rattle.flow_turns.specs.Turns.{is_of_removal, job_told, refusal_but_removal, told_behind, told_or, IsCaused}

told_next : (refused : Option ArchiveError) (more told : Result ℕ ArchiveError) (answer : Result Answer ArchiveError)
    → more ≡ told_behind told answer → told_or refused more ≡ told_behind (told_or refused told) answer
told_next None more told answer is = is
told_next (Some error) more told answer is = refl

pub job_told_then : (count : ℕ) (answers : List (Result Answer ArchiveError)) (answer : Result Answer ArchiveError)
    → job_told count (answers ++ answer ∷ []) ≡ told_behind (job_told count answers) answer
job_told_then count [] (Ok x) = refl
job_told_then count [] (Err error) = refl
job_told_then count (Ok x ∷ answers) answer = job_told_then count answers answer
job_told_then count (Err error ∷ answers) answer =
    told_next (refusal_but_removal error) (job_told count (answers ++ answer ∷ [])) (job_told count answers) answer
    (job_told_then count answers answer)

-- ---- what fails

risen_on : (before mid now : ℕ) → HasRisen before mid → mid ≤ now → HasRisen before now
risen_on before mid now (inl more) on = inl (omega (arith, more, on))
risen_on before mid now (inr last) on = inr (omega (arith, last, on))

pub caused_none : (failed : ArchiveError) (count n : ℕ) → IsCaused failed n n (Ok count)
caused_none failed count n = record {
  later = omega arith;
  done = refl;
  risen = λ is. absurd (cc);
}

-- a refusal that `?` passes on, before anything was done
pub caused_before : (failed e : ArchiveError) (n : ℕ) (result : Result ℕ ArchiveError) → (e ≡ failed → ⊥)
    → IsErrAnd result (λ x. x ≡ e) → IsCaused failed n n result
caused_before failed e n (Ok count) other is = absurd is
caused_before failed e n (Err x) other is = record {
  later = omega arith;
  done = tt;
  risen = λ this. absurd (other (let same : x ≡ failed = cc in sym is ∙ same));
}

module _ (failed : ArchiveError) (kept : is_of_removal failed ≡ false) (before mid now : ℕ) where
  first_refused : (count : ℕ) (error : ArchiveError) → HasCause {T = Answer} failed mid now (Err error)
      → mid ≡ before → (b : Bool) → is_of_removal error ≡ b
      → IsCaused failed before now (told_or (if b then None else Some error) (Ok count))
  first_refused count error cause same true removal = record {
    later = let later = cause.later in omega (arith, same, later);
    done = cause.other (λ is. absurd (cc)) ∙ same;
    risen = λ is. absurd (cc);
  }
  first_refused count error cause same false removal = record {
    later = let later = cause.later in omega (arith, same, later);
    done = tt;
    risen = λ is. let this : error ≡ failed = cc in
        subst (λ (n : ℕ). HasRisen n now) same (cause.risen (ap Err this));
  }

  pub caused_then : (told : Result ℕ ArchiveError) (answer : Result Answer ArchiveError)
      → IsCaused failed before mid told → HasCause failed mid now answer
      → IsCaused failed before now (told_behind told answer)
  caused_then (Err refused) answer so_far cause = record {
    later = let was = so_far.later in let later = cause.later in omega (arith, was, later);
    done = tt;
    risen = λ is. risen_on before mid now (so_far.risen is) cause.later;
  }
  caused_then (Ok count) (Ok x) so_far cause = record {
    later = let was = so_far.later in let later = cause.later in omega (arith, was, later);
    done = cause.done ∙ so_far.done;
    risen = λ is. absurd (cc);
  }
  caused_then (Ok count) (Err error) so_far cause =
      first_refused count error cause so_far.done (is_of_removal error) refl
