-- How the parser walks the words at a level of the command line, and which of them it refuses.
use Rattle.std.proofs.Common.{◌≡◌, ◌∙◌, ◌⊎◌, inl, inr, refl, sym, ap, ap₂, subst, ℕ, Bool, true, false, eqb-true, ◌&&◌}
use Rattle.std.proofs.Common.{List, [], ◌∷◌, Option, Some, None}
use Rattle.std.specs.Prelude.{◌==◌, ⊤, slice_get, fold, find}
use Rattle.std.specs.Prelude.{option_and_then, if◌then◌else◌}
use Rattle.std.specs.Option.{option_map_or}
use Rattle.std.specs.Str.{bytes_eq, chars}
use Rattle.clap.specs.Lexer.{long_of, long_of_rest, name_and_value, short_of, short_of_rest, strip_byte}
use Rattle.clap.specs.Walk.{Held, Outcome, Row, Rule, Step, Text, Walk, after_flag, after_step, arg_by_long}
use Rattle.clap.specs.Walk.{arg_by_short, bundle, bundle_met, finished, idle}
use Rattle.clap.specs.Walk.{long_or_other, plain, settled, short_or_plain, subcommand_or_other}
use Rattle.clap.specs.Walk.{takes_values, trailing, value, walked}
use Rattle.clap.specs.Kinds.{Kinds, or_else}
use Rattle.clap.specs.Faults.{bundle_fault, check_fault, defaults_fault, flag_word_fault}
use Rattle.clap.specs.Faults.{flags_fault, long_fault, other_fault, settle_fault, short_fault}
use Rattle.clap.specs.Faults.{step_fault, turn_fault, use_fault, walk_fault}
use Rattle.clap.specs.Simple.{Shape}
use Rattle.flow_program.specs.declared.request.Request.{Request}
use Rattle.flow_program.specs.CommandLine.{without_dashes}

abbrev pub Fails : Kinds → Type 0
Fails [] = ⊥
Fails (k ∷ ks) = ⊤

pub fails_first : (a b : Kinds) → Fails a → Fails (or_else a b)
fails_first [] b f = absurd f
fails_first (k ∷ ks) b f = tt

pub fails_then : (a b : Kinds) → Fails b → Fails (or_else a b)
fails_then [] b f = f
fails_then (k ∷ ks) b f = tt

-- ---- options

-- an option that is known asks for help or the version
abbrev pub Asks : Option Rule → Type 0
Asks None = ⊤
Asks (Some a) = (takes_values a ≡ false) × ((again : Bool) (rows : List Row) → Fails (use_fault again a [] rows))

pub asks_first : (a : Rule) (rest : List Rule) (p : Rule → Bool) → Asks (Some a) → Asks (find p rest)
    → Asks (find p (a ∷ rest))
asks_first a rest p here later = go (p a) refl
  where
    go : (b : Bool) → p a ≡ b → Asks (find p (a ∷ rest))
    go true e = rw e here
    go false e = rw e later

pub long_fails : (c : List Rule) (again : Bool) (found : Option Rule) (v : Option Text) (h : Held) → Asks found
    → Fails (long_fault c again found v h)
long_fails c again None v h asks = tt
long_fails c again (Some a) (Some v) h asks = rw asks.0 tt
long_fails c again (Some a) None h asks =
    rw asks.0 (fails_then (settle_fault c again h) _ (asks.1 again (settled c h).rows))

short_fails : (c : List Rule) (again : Bool) (found : Option Rule) (rest : Text) (h : Held) (next : Held → Kinds)
    → Asks found → Fails (short_fault c again found rest h next)
short_fails c again None rest h next asks = tt
short_fails c again (Some a) rest h next asks =
    rw asks.0 (fails_first _ _ (fails_then (settle_fault c again h) _ (asks.1 again (settled c h).rows)))

-- before any word of a bundle is passed over
abbrev pub held : List Row → Option (Text × List Text) → Held
held rows pending = record { rows = rows; pending = pending; skip = 0 }

bundle_fails : (c : List Rule) (again : Bool) (y : ℕ) (ys : Text) (rows : List Row)
    (pending : Option (Text × List Text)) → ((x : ℕ) → Asks (arg_by_short c x))
    → Fails (bundle_fault c again (y ∷ ys) (held rows pending))
    ⊎ ((bundle_fault c again (y ∷ ys) (held rows pending) ≡ [])
    × (bundle c (y ∷ ys) (held rows pending) ≡ (held rows pending, plain)))
unfolding flags_fault bundle_met
bundle_fails c again y ys rows pending asks = go (slice_get (chars (y ∷ ys)) 0) refl
  where
    go : (o : Option ℕ) → slice_get (chars (y ∷ ys)) 0 ≡ o
        → Fails (bundle_fault c again (y ∷ ys) (held rows pending))
        ⊎ ((bundle_fault c again (y ∷ ys) (held rows pending) ≡ [])
        × (bundle c (y ∷ ys) (held rows pending) ≡ (held rows pending, plain)))
    go None e = rw e (inr (refl, refl))
    go (Some x) e = rw e (inl (short_fails c again (arg_by_short c x) _ (held rows pending) _ (asks x)))

-- ---- words

abbrev pub dashes : Text
dashes = 45 ∷ 45 ∷ []

-- a word that names no command: `--`, or an option that is refused or asks for help, or a value
abbrev pub IsWord : Shape → List Row → Option (Text × List Text) → Text → Type 0
IsWord s rows pending word =
    (bytes_eq word dashes ≡ true)
    ⊎ (((rest : Text) × (word ≡ 45 ∷ rest)) × (bytes_eq word dashes ≡ false)
    × Fails (other_fault s None word (held rows pending)))
    ⊎ ((bytes_eq word dashes ≡ false) × (other_fault s None word (held rows pending) ≡ [])
    × ((position : ℕ) → subcommand_or_other s.rules None idle position word (held rows pending) ≡ (
      held rows pending,
      value,
    )))

module _ (s : Shape) (rows : List Row) (pending : Option (Text × List Text)) (word : Text)
    (is : bytes_eq word dashes ≡ false) where
  fault_of_flags : (o : Option (Text × Option Text)) → long_of word ≡ o
      → other_fault s None word (held rows pending) ≡ flag_word_fault s.rules s.args_override_self o word
      (held rows pending)
  fault_of_flags o e =
      ap (λ (b : Bool). if b then [] else flag_word_fault s.rules s.args_override_self (long_of word) word
      (held rows pending)) is
      ∙ ap (λ (x : Option (Text × Option Text)). flag_word_fault s.rules s.args_override_self x word
      (held rows pending)) e

  fault_of_short : (o : Option Text) → long_of word ≡ None → short_of word ≡ o
      → other_fault s None word (held rows pending) ≡ option_map_or
      (λ flags. bundle_fault s.rules s.args_override_self flags (held rows pending)) o []
  fault_of_short o e f = fault_of_flags None e
      ∙ ap (λ (x : Option Text). option_map_or
      (λ flags. bundle_fault s.rules s.args_override_self flags (held rows pending)) x []) f

  met_short : (position : ℕ) (o : Option Text) → long_of word ≡ None → short_of word ≡ o
      → subcommand_or_other s.rules None idle position word (held rows pending) ≡ short_or_plain s.rules idle word o
      (held rows pending)
  met_short position o e f =
      ap (λ (b : Bool). if b then (held rows pending, trailing position) else long_or_other s.rules idle word
      (long_of word) (held rows pending)) is
      ∙ ap (λ (x : Option (Text × Option Text)). long_or_other s.rules idle word x (held rows pending)) e
      ∙ ap (λ (x : Option Text). short_or_plain s.rules idle word x (held rows pending)) f

  plain_is : long_of word ≡ None → short_of word ≡ None → IsWord s rows pending word
  plain_is e f = inr (inr (is, fault_of_short None e f, λ position. met_short position None e f))

  option_is : (rest name : Text) (v : Option Text) → word ≡ 45 ∷ rest → long_of word ≡ Some (name, v)
      → Fails (long_fault s.rules s.args_override_self (arg_by_long s.rules name) v (held rows pending))
      → IsWord s rows pending word
  option_is rest name v starts e fails =
      inr (inl ((rest, starts), is, subst Fails (sym (fault_of_flags (Some (name, v)) e)) fails))

  flags_are : (d : ℕ) (ds : Text) → word ≡ 45 ∷ d ∷ ds → long_of word ≡ None → short_of word ≡ Some (d ∷ ds)
      → ((x : ℕ) → Asks (arg_by_short s.rules x)) → IsWord s rows pending word
  flags_are d ds starts e f asks = by (bundle_fails s.rules s.args_override_self d ds rows pending asks)
    where
      by : Fails (bundle_fault s.rules s.args_override_self (d ∷ ds) (held rows pending))
          ⊎ ((bundle_fault s.rules s.args_override_self (d ∷ ds) (held rows pending) ≡ [])
          × (bundle s.rules (d ∷ ds) (held rows pending) ≡ (held rows pending, plain)))
          → IsWord s rows pending word
      by (inl g) = inr (inl ((d ∷ ds, starts), is, subst Fails (sym (fault_of_short (Some (d ∷ ds)) e f)) g))
      by (inr p) =
          let met : (position : ℕ)
          → subcommand_or_other s.rules None idle position word (held rows pending) ≡ (held rows pending, value) =
          λ position. met_short position (Some (d ∷ ds)) e f
          ∙ ap (λ (q : Held × Outcome). after_flag s.rules idle word q.0 q.1) p.1 in
          inr (inr (is, fault_of_short (Some (d ∷ ds)) e f ∙ p.0, met))

-- The long option of this text is refused, or asks for help, whatever is held.
abbrev pub Refuses : Shape → Text → Type 0
Refuses s text = (h : Held) → Fails (long_fault s.rules s.args_override_self
    (arg_by_long s.rules (name_and_value text).0) (name_and_value text).1 h)

-- where no option is known but help and the version
pub refuses_all : (s : Shape) → ((name : Text) → Asks (arg_by_long s.rules name)) → (text : Text) → Refuses s text
refuses_all s asks text h = long_fails s.rules s.args_override_self
    (arg_by_long s.rules (name_and_value text).0) (name_and_value text).1 h (asks (name_and_value text).0)

-- the long option of a word, if it is one, is refused
abbrev pub RefusesWord : Shape → Text → Type 0
RefusesWord s word = (x : ℕ) (xs : Text) → word ≡ 45 ∷ 45 ∷ x ∷ xs → Refuses s (x ∷ xs)

module _ (s : Shape) (short : (x : ℕ) → Asks (arg_by_short s.rules x)) (rows : List Row)
    (pending : Option (Text × List Text)) where
  second_no_dash : (d : ℕ) (ds : Text) → (d == 45) ≡ false → IsWord s rows pending (45 ∷ d ∷ ds)
  second_no_dash d ds e =
      let none : strip_byte 45 (d ∷ ds) ≡ None = ap (λ (b : Bool). if b then Some ds else None) e in
      flags_are s rows pending (45 ∷ d ∷ ds) (ap (λ (b : Bool). b && bytes_eq ds []) e) d ds refl
      (ap (option_and_then long_of_rest) none)
      (ap (λ (b : Bool). if b then None else Some (d ∷ ds)) e) short

  two_dashes : (xs : Text) → RefusesWord s (45 ∷ 45 ∷ xs) → IsWord s rows pending (45 ∷ 45 ∷ xs)
  two_dashes [] long = inl refl
  two_dashes (x ∷ xs) long =
      let parts = name_and_value (x ∷ xs) in
      option_is s rows pending (45 ∷ 45 ∷ x ∷ xs) refl (45 ∷ x ∷ xs) parts.0 parts.1 refl refl
      (long x xs refl (held rows pending))

  dashed : (bs : Text) → RefusesWord s (45 ∷ bs) → IsWord s rows pending (45 ∷ bs)
  dashed [] long = plain_is s rows pending (45 ∷ []) refl refl refl
  dashed (d ∷ ds) long = second (d == 45) refl
    where
      second : (t : Bool) → (d == 45) ≡ t → IsWord s rows pending (45 ∷ d ∷ ds)
      second true e =
          let is : d ≡ 45 = eqb-true d 45 e in
          subst (λ (x : ℕ). IsWord s rows pending (45 ∷ x ∷ ds)) (sym is)
          (two_dashes ds (subst (λ (x : ℕ). RefusesWord s (45 ∷ x ∷ ds)) is long))
      second false e = second_no_dash d ds e

  no_dash : (b : ℕ) (bs : Text) → (b == 45) ≡ false → IsWord s rows pending (b ∷ bs)
  no_dash b bs e =
      let none : strip_byte 45 (b ∷ bs) ≡ None = ap (λ (t : Bool). if t then Some bs else None) e in
      plain_is s rows pending (b ∷ bs) (ap (λ (t : Bool). t && bytes_eq bs (45 ∷ [])) e)
      (ap (λ (o : Option Text). option_and_then long_of_rest (option_and_then (strip_byte 45) o)) none)
      (ap (option_and_then short_of_rest) none)

  pub word_is : (word : Text) → RefusesWord s word → IsWord s rows pending word
  word_is [] long = plain_is s rows pending [] refl refl refl
  word_is (b ∷ bs) long = first (b == 45) refl
    where
      first : (t : Bool) → (b == 45) ≡ t → IsWord s rows pending (b ∷ bs)
      first true e =
          let is : b ≡ 45 = eqb-true b 45 e in
          subst (λ (x : ℕ). IsWord s rows pending (x ∷ bs)) (sym is)
          (dashed bs (subst (λ (x : ℕ). RefusesWord s (x ∷ bs)) is long))
      first false e = no_dash b bs e

-- ---- a command's level

-- what is reported of the words at a level once they are walked
abbrev pub later : Shape → Walk → List Text → Kinds
later s w rest =
    let end = (fold (walked s.rules []) w rest).held in
    or_else [] (or_else (settle_fault s.rules s.args_override_self end)
    (or_else (defaults_fault (settled s.rules end).rows s.rules) (check_fault s (finished s.rules end) false)))

-- what is reported of the words from a place of the walk on
abbrev pub from_here : Shape → Walk → List Text → Kinds
from_here s w rest = or_else (walk_fault s [] w rest) (later s w rest)

abbrev pub rows_from : Shape → Walk → List Text → List Row
rows_from s w rest = finished s.rules (fold (walked s.rules []) w rest).held

-- between two words, where no option waits for a value
abbrev pub idle_at : List Row → Option (Text × List Text) → ℕ → Walk
idle_at rows pending position = record {
  held = held rows pending;
  waiting = idle;
  position = position;
  is_trailing =
      false;
  stopped = None;
}

pub goes_on : (s : Shape) (w next : Walk) (word : Text) (rest : List Text) → turn_fault s [] w word ≡ []
    → walked s.rules [] w word ≡ next
    → from_here s w (word ∷ rest) ≡ from_here s next rest
unfolding walk_fault
goes_on s w next word rest none is =
    ap₂ (λ (t : Kinds) (v : Walk). or_else (or_else t (walk_fault s [] v rest)) (later s v rest)) none is

pub fails_here : (s : Shape) (w : Walk) (word : Text) (rest : List Text) → Fails (turn_fault s [] w word)
    → Fails (from_here s w (word ∷ rest))
unfolding walk_fault
fails_here s w word rest f = fails_first _ (later s w (word ∷ rest)) (fails_first _ _ f)

-- a word that is a value
module _ (s : Shape) (rows : List Row) (pending : Option (Text × List Text)) (position : ℕ) (word : Text)
    (passed : other_fault s None word (held rows pending) ≡ [])
    (met : (position : ℕ)
    → subcommand_or_other s.rules None idle position word (held rows pending) ≡ (held rows pending, value)) where
  pub value_turn : turn_fault s [] (idle_at rows pending position) word ≡ step_fault s position (held rows pending) value
  value_turn = ap₂ (λ (k : Kinds) (q : Held × Step). or_else k (step_fault s position q.0 q.1)) passed (met position)

  pub value_walked : walked s.rules [] (idle_at rows pending position) word ≡ after_step s.rules word
      (idle_at rows pending position) (held rows pending) value
  unfolding walked
  value_walked = ap (λ (q : Held × Step). after_step s.rules word (idle_at rows pending position) q.0 q.1)
      (met position)

abbrev pub Reads : Kinds → Option Request → Option Request → Type 0
Reads faults made wanted = ((faults ≡ []) × (made ≡ wanted)) ⊎ (Fails faults × (wanted ≡ None))

pub moved : {before faults : Kinds} {found made sought wanted : Option Request} → Reads before found sought
    → faults ≡ before → made ≡ found → wanted ≡ sought → Reads faults made wanted
moved (inl p) a b c = inl (a ∙ p.0, b ∙ p.1 ∙ sym c)
moved (inr p) a b c = inr (subst Fails (sym a) p.0, c ∙ p.1)

pub kept : (word : Text) (rest : List Text) → bytes_eq word dashes ≡ false
    → without_dashes (word ∷ rest) ≡ word ∷ without_dashes rest
kept word rest e = rw e refl
