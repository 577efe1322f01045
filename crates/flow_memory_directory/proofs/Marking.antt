-- Marks that are put over others.
use Rattle.std.proofs.Common.{◌≡◌, ⊎_elim, ℕ, ◌+◌, ◌-◌, ◌<◌, ◌≤◌, List, ◌++◌, length, take, drop, get_or}
use Rattle.std.proofs.Common.{sym, ◌∙◌, ap, arith, length-append, length-take, length-drop, replicate}
use Rattle.std.proofs.lemmas.List.{get_or-take, get_or-drop, get_or_append_left, get_or-append_right, length-replicate}
use Rattle.std.proofs.lemmas.List.{get_or-replicate, get_or_past}
use Rattle.std.proofs.lemmas.Bool.{cases_lt}
use Rattle.flow_memory_directory.specs.declared.mark.Mark.{Mark}
use Rattle.flow_memory_directory.specs.declared.mark.Mark.TheVariants.{Clean, Dirty}
use Rattle.flow_memory_directory.specs.Marks.{mark_at, IsMarked}

module _ (old : List Mark) (at count : ℕ) (place_is : at ≤ length old) where
  put : List Mark
  put = take at old ++ replicate count Dirty ++ drop (at + count) old

  first : length (take at old) ≡ at
  first = omega (arith, length-take at old, place_is)

  second : length (take at old ++ replicate count Dirty) ≡ at + count
  second = omega (arith, length-append (take at old) (replicate count Dirty), first, length-replicate count Dirty)

  pub put_marked : IsMarked old at count (take at old ++ replicate count Dirty ++ drop (at + count) old)
  put_marked = record {
    long = omega (
      arith,
      length-append (take at old ++ replicate count Dirty) (drop (at + count) old),
      second,
      length-drop (at + count) old,
      place_is,
    );
    inside = λ place le lt.
        get_or_append_left (take at old ++ replicate count Dirty) (drop (at + count) old) Clean place
        (omega (arith, second, lt))
        ∙ get_or-append_right (take at old) (replicate count Dirty) at place Clean first le
        ∙ get_or-replicate count (place - at) Dirty Clean (omega (arith, le, lt));
    before = λ place lt.
        get_or_append_left (take at old ++ replicate count Dirty) (drop (at + count) old) Clean place
        (omega (arith, second, lt))
        ∙ get_or_append_left (take at old) (replicate count Dirty) Clean place (omega (arith, first, lt))
        ∙ get_or-take at old place Clean lt;
    behind = λ place le.
        get_or-append_right (take at old ++ replicate count Dirty) (drop (at + count) old) (at + count) place Clean
        second le
        ∙ get_or-drop (at + count) old (place - (at + count)) Clean
        ∙ ap (λ (n : ℕ). get_or old n Clean) (omega (arith, le));
  }

-- each mark changed by a function that leaves the clean ones
pub all_changed : (f : Mark → Mark) → f Clean ≡ Clean → (old now : List Mark) → length now ≡ length old
    → ((place : ℕ) → place < length old → mark_at now place ≡ f (mark_at old place))
    → (place : ℕ) → mark_at now place ≡ f (mark_at old place)
all_changed f clean old now long each place = ⊎_elim (λ within. each place within)
    (λ past. get_or_past now place Clean (omega (arith, past, long))
    ∙ sym (ap f (get_or_past old place Clean (omega (arith, past))) ∙ clean))
    (cases_lt place (length old))
