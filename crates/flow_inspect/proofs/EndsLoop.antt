-- The fields of a record, one after the other, for what looks for moments among them.
use Rattle.std.proofs.Common.{◌≡◌, ℕ, ◌+◌, ◌<◌, ◌≤◌, Bool, true, false, cond, List, [], ◌∷◌, length, drop, get_or, refl}
use Rattle.std.proofs.Common.{Option, Some, None, sym, ap, ◌∙◌, drop-cons, add-one}
use Rattle.std.specs.Prelude.{find, option_map}
use Rattle.std.specs.Option.{option_or}
use Rattle.std.proofs.lemmas.List.{drop_all}
use Rattle.flow_elements.specs.Values.{number_of}
use Rattle.flow_elements.specs.declared.element.ElementId.{ElementId}
use Rattle.flow_codec.specs.declared.message.Field.{Field}
use Rattle.flow_codec.specs.Fields.{value_of, fields_in}
use Rattle.flow_inspect.specs.declared.lasting.Ends.{Ends}
use Rattle.flow_inspect.specs.Lasting.{ends_of, found_in, is_moment, moment_of, with_field}

-- what was found, and else what is among other fields
abbrev pub joined : Ends → Ends → Ends
joined a b = record {
  start_seconds = option_or a.start_seconds b.start_seconds;
  end_seconds = option_or a.end_seconds b.end_seconds;
  start_milliseconds = option_or a.start_milliseconds b.start_milliseconds;
  end_milliseconds = option_or a.end_milliseconds b.end_milliseconds;
}

abbrev pub nothing : Ends
nothing = record { start_seconds = None; end_seconds = None; start_milliseconds = None; end_milliseconds = None }

-- one field more, of one element
one_more : (found : Option ℕ) (number count : ℕ) (f : Field) (fs : List Field)
    → option_or (found_in found number count f) (moment_of number count fs)
    ≡ option_or found (moment_of number count (f ∷ fs))
one_more (Some n) number count f fs = refl
one_more None number count f fs = by (is_moment number count f)
  where
    by : (b : Bool) → option_or (option_or None (cond b (Some (number_of f.octets)) None)) (moment_of number count fs)
        ≡ option_or None (option_map (λ (x : Field). number_of x.octets) (cond b (Some f) (find (is_moment number count) fs)))
    by true = refl
    by false = refl

all_more : (e : Ends) (f : Field) (fs : List Field) → joined (with_field e f) (ends_of fs) ≡ joined e (ends_of (f ∷ fs))
all_more e f fs = rw (
  one_more e.start_seconds 150 4 f fs,
  one_more e.end_seconds 151 4 f fs,
  one_more e.start_milliseconds 152 8 f fs,
  one_more e.end_milliseconds 153 8 f fs,
) refl

pub starts : (fs : List Field) → joined nothing (ends_of fs) ≡ ends_of fs
starts fs = refl

module _ (fs : List (ElementId × ℕ)) (i : ℕ) (d : ElementId × ℕ) (ends : Ends) (octets : List ℕ) (total : Ends)
    (so_far : joined ends (ends_of (fields_in (drop i fs) octets)) ≡ total) where
  pub goes_on : i < length fs
      → joined (with_field ends (record { id = (get_or fs i d).0; octets = (value_of (get_or fs i d).1 octets).0 }))
      (ends_of (fields_in (drop (i + 1) fs) (value_of (get_or fs i d).1 octets).1)) ≡ total
  unfolding fields_in
  goes_on lt =
      let f = get_or fs i d in
      let split : drop i fs ≡ f ∷ drop (i + 1) fs = rw add-one (drop-cons fs i d lt) in
      let field : Field = record { id = f.0; octets = (value_of f.1 octets).0 } in
      all_more ends field (fields_in (drop (i + 1) fs) (value_of f.1 octets).1)
      ∙ ap (λ (rest : List (ElementId × ℕ)). joined ends (ends_of (fields_in rest octets))) (sym split) ∙ so_far

  pub is_done : length fs ≤ i → ends ≡ total
  unfolding fields_in
  is_done le =
      let none : drop i fs ≡ [] = drop_all i fs le in
      sym (or_none ends) ∙ ap (λ (rest : List (ElementId × ℕ)). joined ends (ends_of (fields_in rest octets))) (sym none)
      ∙ so_far
    where
      none_after : (a : Option ℕ) → option_or a None ≡ a
      none_after None = refl
      none_after (Some n) = refl

      or_none : (e : Ends) → joined e nothing ≡ e
      or_none e = rw (
        none_after e.start_seconds,
        none_after e.end_seconds,
        none_after e.start_milliseconds,
        none_after e.end_milliseconds,
      ) refl
