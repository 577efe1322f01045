-- A domain's definitions that are changed in their place among all.
use Rattle.std.proofs.Common.{◌≡◌, ℕ, Bool, false, position, Some, Result, Ok, Err, refl, sym}
use Rattle.std.proofs.Common.{ap, subst, ◌∙◌, slice_get}
use Rattle.std.specs.Prelude.{nat_eq, OnOk, OnErr}
use Rattle.std.specs.Map.{keys_of, values_of}
use Rattle.indexmap.specs.IndexMap.{set_value_at}
use Rattle.indexmap.proofs.MapLemmas.{insert_entry-first, Found-position}
use Rattle.flow_codec.specs.declared.templates.DomainTemplates.{DomainTemplates}
use Rattle.flow_codec.specs.Templates.{AllTemplates, definitions_of, is_empty}
use Rattle.flow_codec.specs.Working.{put_back}
use Rattle.flow_codec.proofs.Entries.{found, with_entry, insert-present}

-- the definitions at a domain's place
module _ (d : ℕ) (entries all : AllTemplates) (same : entries ≡ all) (place : ℕ) (here : DomainTemplates)
    (at : Some place ≡ position (nat_eq d) (keys_of entries))
    (seen : slice_get (values_of entries) place ≡ found d entries)
    (is : slice_get (values_of entries) place ≡ Some here) where
  is_found : found d all ≡ Some here
  is_found = subst (λ (t : AllTemplates). found d t ≡ Some here) same (sym seen ∙ is)

  pub is_here : here ≡ definitions_of d all
  is_here = rw is_found refl

  set_at : (new : DomainTemplates) → set_value_at entries place new ≡ with_entry all d new
  set_at new =
      let first = (Found-position (nat_eq d) entries place (sym at)).first in
      sym (insert_entry-first nat_eq d new entries place first)
      ∙ ap (λ (t : AllTemplates). with_entry t d new) same

  -- the same definitions once more
  pub set_same : (new : DomainTemplates) → new ≡ here → set_value_at entries place new ≡ all
  set_same new e = set_at new ∙ ap (with_entry all d) e ∙ insert-present d all here is_found

  -- definitions of a domain that was never without any, and has some
  pub set_changed : (left : Bool) (new next : DomainTemplates) → left ≡ false → false ≡ is_empty next → new ≡ next
      → set_value_at entries place new ≡ put_back d left next all
  set_changed left new next stays some e =
      set_at new ∙ ap (with_entry all d) e ∙ sym (rw (stays, ← some) refl)

-- what holds whether a change was made or not
pub made_or_not : {A E : Type 0} (result : Result A E) (P : Type 0) → OnOk result P → OnErr result P → P
made_or_not (Ok x) P p q = p
made_or_not (Err e) P p q = q
