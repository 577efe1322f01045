-- The template records of a Set, one after the other.
use Rattle.std.proofs.Common.{◌≡◌, ℕ, zero, suc, ◌+◌, ◌-◌, ◌<◌, ◌≤◌, true, false, List, length, Result, Ok, Err, refl}
use Rattle.std.proofs.Common.{sym, ◌∙◌, arith}
use Rattle.std.proofs.lemmas.Bool.Decides.{nat_tests}
use Rattle.flow_codec.specs.declared.error.MessageError.{MessageError}
use Rattle.flow_codec.specs.declared.kind.TemplateKind.{TemplateKind}
use Rattle.flow_codec.specs.declared.templates.TemplateRecord.{TemplateRecord}
use Rattle.flow_codec.specs.Templates.{AllTemplates, applied}
use Rattle.flow_codec.specs.Reading.{Fails, template_at, is_ended, templates_at}
use Rattle.flow_codec.proofs.Steps.{Fails-of}

-- reading goes on at `rest`, with enough steps left
pub record GoesOn (end domain : ℕ) (kind : TemplateKind) (all : AllTemplates) (rest : List ℕ)
    (total : Result AllTemplates MessageError) : Type 0 where
  pub steps : ℕ
  pub enough : length rest ≤ steps
  pub within : length rest ≤ end
  pub same : templates_at steps end domain kind all rest ≡ total

pub starts : (end domain : ℕ) (kind : TemplateKind) (all : AllTemplates) (octets : List ℕ) → length octets ≤ end
    → GoesOn end domain kind all octets (templates_at (length octets) end domain kind all octets)
starts end domain kind all octets within =
    record { steps = length octets; enough = omega arith; within = within; same = refl }

-- where there is another record, there are octets
some_left : (octets : List ℕ) → is_ended octets ≡ false → 4 ≤ length octets
some_left octets e = grind (arith, nat_tests)

module _ (end domain : ℕ) (kind : TemplateKind) (all : AllTemplates) (rest : List ℕ)
    (total : Result AllTemplates MessageError) (h : GoesOn end domain kind all rest total) where
  pub goes_on : is_ended rest ≡ false → (change : TemplateRecord) (after : List ℕ)
      → template_at kind (end - length rest) rest ≡ Ok (change, after) → length after + 4 ≤ length rest
      → GoesOn end domain kind (applied domain kind change all) after total
  unfolding templates_at
  goes_on open_ change after is shorter =
      record {
        steps = h.steps - 1;
        enough = omega (arith, h.enough);
        within = omega (arith, h.within);
        same = sym (step h.steps (omega (arith, h.enough))) ∙ h.same;
      }
    where
      step : (n : ℕ) → 0 < n
          → templates_at n end domain kind all rest ≡ templates_at (n - 1) end domain kind
          (applied domain kind change all) after
      step zero lt = absurd (omega arith)
      step (suc n) lt = let k : suc n - 1 ≡ n = omega arith in rw (open_, is, k) refl

  pub ends : is_ended rest ≡ false → (e : MessageError) → Fails e (template_at kind (end - length rest) rest)
      → Fails e total
  unfolding templates_at
  ends open_ e fails =
      Fails-of e (template_at kind (end - length rest) rest) total (λ fault is. sym h.same
      ∙ step h.steps (omega (arith, h.enough, some_left rest open_)) fault is) fails
    where
      step : (n : ℕ) → 0 < n → (fault : MessageError) → template_at kind (end - length rest) rest ≡ Err fault
          → templates_at n end domain kind all rest ≡ Err fault
      step zero lt fault is = absurd (omega arith)
      step (suc n) lt fault is = rw (open_, is) refl

  pub is_done : is_ended rest ≡ true → total ≡ Ok all
  unfolding templates_at
  is_done closed = sym h.same ∙ last h.steps
    where
      last : (n : ℕ) → templates_at n end domain kind all rest ≡ Ok all
      last zero = refl
      last (suc n) = rw closed refl
