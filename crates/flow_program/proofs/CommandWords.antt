-- The words of `measure` and of `dump` are taken exactly where they ask for something.
use Rattle.std.proofs.Common.{◌≡◌, ◌∙◌, inl, inr, refl, sym, ap, subst, ℕ, Bool, true, false, ◌&&◌, List, [], ◌∷◌}
use Rattle.std.proofs.Common.{Option, Some, None, codes, get_or, length, arith, ◌+◌, suc, take}
use Rattle.std.specs.Prelude.{◌==◌, ◌||◌, nat_le, not, is_some, option_map, if◌then◌else◌}
use Rattle.std.specs.List.{after_first, before_first, position_or_len}
use Rattle.std.specs.Option.{option_map_or}
use Rattle.std.specs.Str.{bytes_eq}
use Rattle.std.proofs.lemmas.Slice.Eq.{bytes_eq-Decides}
use Rattle.clap.specs.Lexer.{has_byte, name_and_value}
use Rattle.flow_report.specs.declared.format.TheConstants.Format.{PLAIN}
use Rattle.flow_program.specs.CommandLine.{asks_option, is_option, dump_of, dump_shape, flowvault, measure_of}
use Rattle.flow_program.specs.CommandLine.{measure_shape, width_rule, without_dashes}
use Rattle.clap.specs.Walk.{Held, Rule, Text, Walk, after_step, arg_by_long, arg_by_short, has_long, has_short}
use Rattle.clap.specs.Walk.{takes_values, value}
use Rattle.clap.specs.Faults.{long_fault, step_fault, stray_fault}
use Rattle.clap.specs.Simple.{Shape, built}
use Rattle.clap.proofs.OnLiterals.{clap_on_literals}
use Rattle.flow_program.specs.declared.request.Request.{Request}
use Rattle.flow_program.specs.declared.request.Request.TheVariants.{Measure, Dump}
use Rattle.flow_report.specs.Numbers.{number_of}
use Rattle.flow_program.specs.Arguments.{requested}
use Rattle.flow_program.proofs.Walking.{Asks, Fails, IsWord, Reads, RefusesWord, asks_first, dashes, fails_first}
use Rattle.flow_program.proofs.Walking.{fails_here, from_here, goes_on, held, idle_at, kept, long_fails, moved}
use Rattle.flow_program.proofs.Walking.{refuses_all, rows_from, value_turn, value_walked, word_is}

-- ---- `measure`

abbrev pub measure_built : Shape
measure_built = get_or (built flowvault).subs 0 measure_shape

abbrev help_built : Rule
help_built = get_or measure_built.rules 5 width_rule

or_first : (a b : Bool) → (a || b) ≡ false → a ≡ false
or_first true b e = e
or_first false b e = refl

or_second : (a b : Bool) → (a || b) ≡ false → b ≡ false
or_second true b e = absurd cc
or_second false b e = e

-- a text in which no value is attached is the name that is asked for
no_value : (text : Text) → has_byte 61 text ≡ false → before_first (λ x. x == 61) text ≡ text
no_value [] none = refl
no_value (x ∷ xs) none = by (x == 61) refl (no_value xs)
  where
    by : (b : Bool) → (x == 61) ≡ b
        → (has_byte 61 xs ≡ false → before_first (λ x. x == 61) xs ≡ xs)
        → before_first (λ x. x == 61) (x ∷ xs) ≡ x ∷ xs
    by true e rest = let wrong : true ≡ false = sym (ap (λ (b : Bool). b || has_byte 61 xs) e) ∙ none in absurd cc
    by false e rest =
        let one : 1 + position_or_len (λ x. x == 61) xs ≡ suc (position_or_len (λ x. x == 61) xs) = omega arith in
        ap (λ (b : Bool). take (if not b then 1 + position_or_len (λ x. x == 61) xs else 0) (x ∷ xs)) e
        ∙ ap (λ (n : ℕ). take n (x ∷ xs)) one
        ∙ ap (λ (l : Text). x ∷ l) (rest (sym (ap (λ (b : Bool). b || has_byte 61 xs) e) ∙ none))

-- an option with a value that takes none
with_value : (c : List Rule) (again : Bool) (found : Option Rule) (v : Text) (h : Held)
    → option_map_or takes_values found false ≡ false → Fails (long_fault c again found (Some v) h)
with_value c again None v h none = tt
with_value c again (Some a) v h none = rw none tt

measure_takes_none : (name : Text) → option_map_or takes_values (arg_by_long measure_built.rules name) false ≡ false
measure_takes_none name =
    by (bytes_eq (codes "csv") name) (bytes_eq (codes "json") name) (bytes_eq (codes "utc") name)
    (bytes_eq (codes "warn") name) (bytes_eq (codes "help") name) refl refl refl refl refl
  where
    by : (a b u w d : Bool) → bytes_eq (codes "csv") name ≡ a → bytes_eq (codes "json") name ≡ b
        → bytes_eq (codes "utc") name ≡ u → bytes_eq (codes "warn") name ≡ w → bytes_eq (codes "help") name ≡ d
        → option_map_or takes_values (arg_by_long measure_built.rules name) false ≡ false
    by true b u w d ea eb eu ew ed = rw ea refl
    by false true u w d ea eb eu ew ed = rw (ea, eb) refl
    by false false true w d ea eb eu ew ed = rw (ea, eb, eu) refl
    by false false false true d ea eb eu ew ed = rw (ea, eb, eu, ew) refl
    by false false false false true ea eb eu ew ed = rw (ea, eb, eu, ew, ed) refl
    by false false false false false ea eb eu ew ed = rw (ea, eb, eu, ew, ed) refl

-- another option
measure_long : (name : Text) → bytes_eq (codes "csv") name ≡ false → bytes_eq (codes "json") name ≡ false
    → bytes_eq (codes "utc") name ≡ false → bytes_eq (codes "warn") name ≡ false
    → Asks (arg_by_long measure_built.rules name)
measure_long name no_csv no_json no_utc no_warn =
    rw (no_csv, no_json, no_utc, no_warn) (asks_first help_built [] (λ a. not (is_some a.index) && has_long a name)
    (refl, λ again rows. tt) tt)

measure_refuses : (word : Text) → is_option word ≡ false → RefusesWord measure_built word
measure_refuses word none x xs is h = by (has_byte 61 (x ∷ xs)) refl
  where
    csv : Bool
    csv = bytes_eq (codes "csv") (x ∷ xs)

    json : Bool
    json = bytes_eq (codes "json") (x ∷ xs)

    utc : Bool
    utc = bytes_eq (codes "utc") (x ∷ xs)

    warn : Bool
    warn = bytes_eq (codes "warn") (x ∷ xs)

    here : is_option (45 ∷ 45 ∷ x ∷ xs) ≡ false
    here = subst (λ (w : Text). is_option w ≡ false) is none

    three : (csv || json || utc) ≡ false
    three = or_first (csv || json || utc) warn here

    two : (csv || json) ≡ false
    two = or_first (csv || json) utc three

    by : (b : Bool) → has_byte 61 (x ∷ xs) ≡ b
        → Fails (long_fault measure_built.rules measure_built.args_override_self
        (arg_by_long measure_built.rules (name_and_value (x ∷ xs)).0) (name_and_value (x ∷ xs)).1 h)
    by true e = rw e (with_value measure_built.rules measure_built.args_override_self
        (arg_by_long measure_built.rules (name_and_value (x ∷ xs)).0)
        (after_first (λ x. x == 61) (x ∷ xs)) h (measure_takes_none (name_and_value (x ∷ xs)).0))
    by false e =
        let name_is = no_value (x ∷ xs) e in
        rw (name_is, e) (long_fails measure_built.rules measure_built.args_override_self
        (arg_by_long measure_built.rules (x ∷ xs)) None h (measure_long (x ∷ xs) (or_first csv json two)
        (or_second csv json two) (or_second (csv || json) utc three) (or_second (csv || json || utc) warn here)))

measure_short : (x : ℕ) → Asks (arg_by_short measure_built.rules x)
measure_short x = asks_first help_built [] (λ a. not (is_some a.index) && has_short a x) (refl, λ again rows. tt) tt

and_false : (b : Bool) → (b && false) ≡ false
and_false true = refl
and_false false = refl

no_option : (r : Text) (tail : List Text) → measure_of ((45 ∷ r) ∷ tail) ≡ None
no_option r [] =
    let n = number_of (45 ∷ r) in
    ap (λ (b : Bool). option_map (λ width. Measure width PLAIN false)
    (if b && nat_le 1 n && nat_le n 86400 then Some n else None))
    (and_false (nat_le 1 (length (45 ∷ r))))
no_option r (y ∷ tail) = refl

-- a first word that asks for no format, and the words after it
no_option_word : (x : Text) (rest : List Text) → asks_option (x ∷ rest) ≡ false → is_option x ≡ false
no_option_word x rest none = by (bytes_eq x dashes) refl
  where
    by : (b : Bool) → bytes_eq x dashes ≡ b → is_option x ≡ false
    by true e = subst (λ (w : Text). is_option w ≡ false) (sym ((bytes_eq-Decides x dashes).0 e)) refl
    by false e = or_first (is_option x) (asks_option rest)
        (sym (ap (λ (b : Bool). if b then false else is_option x || asks_option rest) e) ∙ none)

no_later_option : (x : Text) (rest : List Text) → bytes_eq x dashes ≡ false → asks_option (x ∷ rest) ≡ false
    → asks_option rest ≡ false
no_later_option x rest e none = or_second (is_option x) (asks_option rest)
    (sym (ap (λ (b : Bool). if b then false else is_option x || asks_option rest) e) ∙ none)

no_two : (x y : Text) (tail : List Text) → measure_of (x ∷ y ∷ tail) ≡ None
no_two x y tail = refl

abbrev measured : Walk → List Text → Option Request
measured w rest = requested (codes "measure") (rows_from measure_built w rest)

-- after `--`
measure_ended : (rest : List Text)
    → Reads (from_here measure_built (idle_at [] None 1) (dashes ∷ rest))
    (measured (idle_at [] None 1) (dashes ∷ rest)) (measure_of rest)
unfolding clap_on_literals
measure_ended [] = inr (tt, refl)
measure_ended (x ∷ []) = inl (refl, refl)
measure_ended (x ∷ y ∷ rest) = inr (tt, refl)

-- after the width
abbrev behind : Text → Walk
behind x = idle_at [] (Some (codes "WIDTH", x ∷ [])) 2

module _ (x : Text) where
  nothing_more : (from_here measure_built (behind x) [] ≡ []) × (measured (behind x) [] ≡ measure_of (x ∷ []))
  unfolding clap_on_literals
  nothing_more = (refl, refl)

  dashes_more : (rest : List Text)
      → Reads (from_here measure_built (behind x) (dashes ∷ rest)) (measured (behind x) (dashes ∷ rest))
      (measure_of (x ∷ rest))
  unfolding clap_on_literals
  dashes_more [] = inl (refl, refl)
  dashes_more (y ∷ rest) = inr (tt, refl)

  stray : step_fault measure_built 2 (held [] (Some (codes "WIDTH", x ∷ []))) value ≡ stray_fault measure_built
  stray = refl

  measure_behind : (rest : List Text) → asks_option rest ≡ false
      → Reads (from_here measure_built (behind x) rest) (measured (behind x) rest)
      (measure_of (x ∷ without_dashes rest))
  measure_behind [] none = inl nothing_more
  measure_behind (y ∷ rest) none =
      by (word_is measure_built measure_short [] (Some (codes "WIDTH", x ∷ [])) y
      (measure_refuses y (no_option_word y rest none)))
    where
      by : IsWord measure_built [] (Some (codes "WIDTH", x ∷ [])) y
          → Reads (from_here measure_built (behind x) (y ∷ rest)) (measured (behind x) (y ∷ rest))
          (measure_of (x ∷ without_dashes (y ∷ rest)))
      by (inl e) = subst (λ (w : Text). Reads (from_here measure_built (behind x) (w ∷ rest))
          (measured (behind x) (w ∷ rest)) (measure_of (x ∷ without_dashes (w ∷ rest))))
          (sym ((bytes_eq-Decides y dashes).0 e)) (dashes_more rest)
      by (inr (inl p)) = inr (
        fails_here measure_built (behind x) y rest (fails_first _ _ p.2),
        ap (λ (t : List Text). measure_of (x ∷ t)) (kept y rest p.1),
      )
      by (inr (inr p)) = inr (
        fails_here measure_built (behind x) y rest
            (subst Fails (sym (value_turn measure_built [] (Some (codes "WIDTH", x ∷ [])) 2 y p.1 p.2 ∙ stray)) tt),
        ap (λ (t : List Text). measure_of (x ∷ t)) (kept y rest p.0),
      )

to_width : (x : Text) → after_step measure_built.rules x (idle_at [] None 1) (held [] None) value ≡ behind x
to_width x = refl

first_passes : step_fault measure_built 1 (held [] None) value ≡ []
first_passes = refl

pub measure_reads : (words : List Text) → asks_option words ≡ false
    → Reads (from_here measure_built (idle_at [] None 1) words) (measured (idle_at [] None 1) words)
    (measure_of (without_dashes words))
unfolding clap_on_literals
measure_reads [] none = inr (tt, refl)
measure_reads (x ∷ rest) none =
    by (word_is measure_built measure_short [] None x (measure_refuses x (no_option_word x rest none)))
  where
    by : IsWord measure_built [] None x
        → Reads (from_here measure_built (idle_at [] None 1) (x ∷ rest)) (measured (idle_at [] None 1) (x ∷ rest))
        (measure_of (without_dashes (x ∷ rest)))
    by (inl e) = subst (λ (w : Text). Reads (from_here measure_built (idle_at [] None 1) (w ∷ rest))
        (measured (idle_at [] None 1) (w ∷ rest)) (measure_of (without_dashes (w ∷ rest))))
        (sym ((bytes_eq-Decides x dashes).0 e)) (measure_ended rest)
    by (inr (inl p)) = inr (
      fails_here measure_built (idle_at [] None 1) x rest (fails_first _ _ p.2),
      ap measure_of (kept x rest p.1)
          ∙ subst (λ (w : Text). measure_of (w ∷ without_dashes rest) ≡ None) (sym p.0.1)
          (no_option p.0.0 (without_dashes rest)),
    )
    by (inr (inr p)) =
        let walks = value_walked measure_built [] None 1 x p.1 p.2 ∙ to_width x in
        let goes = goes_on measure_built (idle_at [] None 1) (behind x) x rest
        (value_turn measure_built [] None 1 x p.1 p.2 ∙ first_passes) walks in
        let made = ap (λ (w : Walk). measured w rest) walks in
        let wanted = ap measure_of (kept x rest p.0) in
        moved (measure_behind x rest (no_later_option x rest p.0 none)) goes made wanted

-- ---- `dump`

abbrev pub dump_built : Shape
dump_built = get_or (built flowvault).subs 1 dump_shape

abbrev dump_help : Rule
dump_help = get_or dump_built.rules 0 width_rule

dump_long : (name : Text) → Asks (arg_by_long dump_built.rules name)
dump_long name = asks_first dump_help [] (λ a. not (is_some a.index) && has_long a name) (refl, λ again rows. tt) tt

dump_short : (x : ℕ) → Asks (arg_by_short dump_built.rules x)
dump_short x = asks_first dump_help [] (λ a. not (is_some a.index) && has_short a x) (refl, λ again rows. tt) tt

dump_ended : (rest : List Text)
    → Reads (from_here dump_built (idle_at [] None 1) (dashes ∷ rest)) (Some Dump) (dump_of rest)
unfolding clap_on_literals
dump_ended [] = inl (refl, refl)
dump_ended (x ∷ rest) = inr (tt, refl)

dump_stray : step_fault dump_built 1 (held [] None) value ≡ stray_fault dump_built
dump_stray = refl

dump_whole : from_here dump_built (idle_at [] None 1) [] ≡ []
unfolding clap_on_literals
dump_whole = refl

pub dump_reads : (words : List Text)
    → Reads (from_here dump_built (idle_at [] None 1) words) (Some Dump) (dump_of (without_dashes words))
dump_reads [] = inl (dump_whole, refl)
dump_reads (x ∷ rest) = by (word_is dump_built dump_short [] None x
    (λ y ys _. refuses_all dump_built dump_long (y ∷ ys)))
  where
    by : IsWord dump_built [] None x
        → Reads (from_here dump_built (idle_at [] None 1) (x ∷ rest)) (Some Dump) (dump_of (without_dashes (x ∷ rest)))
    by (inl e) = subst (λ (w : Text). Reads (from_here dump_built (idle_at [] None 1) (w ∷ rest)) (Some Dump)
        (dump_of (without_dashes (w ∷ rest))))
        (sym ((bytes_eq-Decides x dashes).0 e)) (dump_ended rest)
    by (inr (inl p)) = inr (
      fails_here dump_built (idle_at [] None 1) x rest (fails_first _ _ p.2),
      ap dump_of (kept x rest p.1),
    )
    by (inr (inr p)) = inr (
      fails_here dump_built (idle_at [] None 1) x rest
          (subst Fails (sym (value_turn dump_built [] None 1 x p.1 p.2 ∙ dump_stray)) tt),
      ap dump_of (kept x rest p.0),
    )
