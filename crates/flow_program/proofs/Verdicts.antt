-- Words are taken exactly where they ask for something.
use Rattle.std.proofs.Common.{◌≡◌, ◌∙◌, inl, inr, refl, sym, ap, ap₂, subst, ℕ, Bool, true, false, ◌&&◌, List, [], ◌∷◌}
use Rattle.std.proofs.Common.{Option, Some, None, codes, get_or}
use Rattle.std.specs.Prelude.{◌||◌, ◌++◌, map, not, is_some, fold, find, option_map, if◌then◌else◌}
use Rattle.std.specs.List.{list_any}
use Rattle.std.specs.Str.{bytes_eq}
use Rattle.std.proofs.lemmas.Slice.Eq.{bytes_eq-Decides}
use Rattle.flow_program.specs.CommandLine.{asks_option, parsed_names, asked, dump_of, flowvault, is_parsed, measure_of}
use Rattle.flow_program.specs.CommandLine.{parsed, unless, width_rule, without_dashes}
use Rattle.clap.specs.Walk.{Held, Row, Rule, Step, Text, Walk, after_step, answers_to, arg_by_long, arg_by_short}
use Rattle.clap.specs.Walk.{finished, has_long, has_short, idle, settled, subcommand_met, subcommand_or_other, value}
use Rattle.clap.specs.Walk.{walked, Names}
use Rattle.clap.specs.Kinds.{Kinds, or_else}
use Rattle.clap.specs.Faults.{check_fault, defaults_fault, entered_fault, fault_of, other_fault, settle_fault}
use Rattle.clap.specs.Faults.{step_fault, stray_fault, turn_fault, walk_fault}
use Rattle.clap.specs.Simple.{Shape, built, entered, names_of, subcommand_of}
use Rattle.clap.proofs.OnLiterals.{clap_on_literals}
use Rattle.clap.proofs.WalkLemmas.{walk_stopped}
use Rattle.clap.proofs.FaultLemmas.{stopped_fault}
use Rattle.flow_program.specs.declared.request.Request.{Request}
use Rattle.flow_program.specs.Arguments.{request_in}
use Rattle.flow_program.proofs.Walking.{Asks, Fails, IsWord, Reads, asks_first, dashes, fails_first, from_here, held}
use Rattle.flow_program.proofs.Walking.{idle_at, moved, refuses_all, word_is}
use Rattle.flow_program.proofs.CommandWords.{measure_built, measure_reads, dump_built, dump_reads}

abbrev top_built : Shape
top_built = (built flowvault).top

abbrev commands : Names
commands = names_of (built flowvault)

abbrev start : Walk
start = idle_at [] None 1

-- what is reported of a walk's end
abbrev ended_at : Walk → Kinds
ended_at end =
    or_else (entered_fault (built flowvault) end.stopped)
    (or_else (settle_fault top_built.rules false end.held)
    (or_else (defaults_fault (settled top_built.rules end.held).rows top_built.rules)
    (check_fault top_built (finished top_built.rules end.held) (is_some (entered (built flowvault) end.stopped)))))

-- what is reported of the words from a place of the walk on
abbrev told : Walk → List Text → Kinds
told w rest = or_else (walk_fault top_built commands w rest) (ended_at (fold (walked top_built.rules commands) w rest))

abbrev entered_by : Walk → List Text → Option (Text × List Row)
entered_by w rest = entered (built flowvault) (fold (walked top_built.rules commands) w rest).stopped

nothing_then : (a : Kinds) → or_else a [] ≡ a
nothing_then [] = refl
nothing_then (k ∷ ks) = refl

-- what is reported of a first word, by the command that it names
abbrev turned_by : Option Text → Text → Kinds
turned_by named command =
    let met = subcommand_or_other top_built.rules named idle 1 command (held [] None) in
    or_else (other_fault top_built named command (held [] None)) (step_fault top_built 1 met.0 met.1)

-- a command's name
module _ (command : Text) (arguments : List Text) (name : Text)
    (found : subcommand_met commands idle command ≡ Some name) where
  met_fault : turn_fault top_built commands start command ≡ other_fault top_built (Some name) command (held [] None)
  met_fault =
      ap (λ (o : Option Text). turned_by o command) found
      ∙ nothing_then (other_fault top_built (Some name) command (held [] None))

  met_walked : walked top_built.rules commands start command ≡ record start { stopped = Some (name, []) }
  unfolding walked
  met_walked =
      ap (λ (o : Option Text). let met = subcommand_or_other top_built.rules o idle 1 command (held [] None) in
      after_step top_built.rules command start met.0 met.1) found

  left_to_it : fold (walked top_built.rules commands)
      (walked top_built.rules commands start command) arguments ≡ record start { stopped = Some (name, arguments) }
  left_to_it =
      ap (λ (w : Walk). fold (walked top_built.rules commands) w arguments) met_walked
      ∙ sym (walk_stopped top_built.rules commands start name [] arguments)

  told_is : other_fault top_built (Some name) command (held [] None) ≡ []
      → told start (command ∷ arguments) ≡ ended_at (record start { stopped = Some (name, arguments) })
  unfolding walk_fault
  told_is passed =
      ap₂ (λ (t : Kinds) (e : Walk). or_else
      (or_else t (walk_fault top_built commands (walked top_built.rules commands start command) arguments))
      (ended_at e)) (met_fault ∙ passed) left_to_it
      ∙ ap (λ (w : Walk). or_else (walk_fault top_built commands w arguments)
      (ended_at (record start { stopped = Some (name, arguments) }))) met_walked
      ∙ ap (λ (k : Kinds). or_else k (ended_at (record start { stopped = Some (name, arguments) })))
      (stopped_fault top_built commands start (name, []) arguments)

  told_fails : Fails (other_fault top_built (Some name) command (held [] None))
      → Fails (told start (command ∷ arguments))
  unfolding walk_fault
  told_fails f = fails_first _ (ended_at (fold (walked top_built.rules commands) start (command ∷ arguments)))
      (fails_first _ _ (subst Fails (sym met_fault) f))

  entered_is : entered_by start (command ∷ arguments) ≡ entered (built flowvault) (Some (name, arguments))
  entered_is = ap (λ (w : Walk). entered (built flowvault) w.stopped) left_to_it

abbrev pub Verdict : List Text → Type 0
Verdict words = Reads (fault_of flowvault words) (request_in (subcommand_of flowvault words)) (asked words)

measure_ends : (arguments : List Text)
    → ended_at (record start { stopped = Some (codes "measure", arguments) }) ≡ from_here measure_built start arguments
unfolding walked defaults_fault
measure_ends arguments = nothing_then (from_here measure_built start arguments)

dump_ends : (arguments : List Text)
    → ended_at (record start { stopped = Some (codes "dump", arguments) }) ≡ from_here dump_built start arguments
unfolding walked defaults_fault
dump_ends arguments = nothing_then (from_here dump_built start arguments)

abbrev top_help : Rule
top_help = get_or top_built.rules 0 width_rule

abbrev top_version : Rule
top_version = get_or top_built.rules 1 width_rule

top_long : (name : Text) → Asks (arg_by_long top_built.rules name)
top_long name =
    asks_first top_help (top_version ∷ []) (λ a. not (is_some a.index) && has_long a name) (refl, λ again rows. tt)
    (asks_first top_version [] (λ a. not (is_some a.index) && has_long a name) (refl, λ again rows. tt) tt)

top_short : (x : ℕ) → Asks (arg_by_short top_built.rules x)
top_short x =
    asks_first top_help (top_version ∷ []) (λ a. not (is_some a.index) && has_short a x) (refl, λ again rows. tt)
    (asks_first top_version [] (λ a. not (is_some a.index) && has_short a x) (refl, λ again rows. tt) tt)

top_ended : (program : Text) (arguments : List Text) → Verdict (program ∷ dashes ∷ arguments)
unfolding clap_on_literals
top_ended program [] = inr (tt, refl)
top_ended program (x ∷ rest) = inr (tt, refl)

top_stray : step_fault top_built 1 (held [] None) value ≡ stray_fault top_built
top_stray = refl

abbrev names_from : Text → Names → Option Text
names_from command names = option_map (λ s. s.0) (find (answers_to command) names)

abbrev named_only : Text → Text × List Text
named_only name = (name, [])

abbrev help_alone : Names
help_alone = named_only (codes "help") ∷ []

-- after `dump`
abbrev later_names : Names
later_names = map named_only parsed_names ++ help_alone

-- what the parser reads, against that it reads it so
reads_parsed : (faults : Kinds) (made : Option Request) → Reads faults made (unless faults made)
reads_parsed [] made = inl (refl, refl)
reads_parsed (k ∷ ks) made = inr (tt, refl)

module _ (program command : Text) (arguments : List Text) where
  met_one : (name : Text) (rest : Names) (b : Bool) → bytes_eq name command ≡ b
      → names_from command (named_only name ∷ rest) ≡ (if b then Some name else names_from command rest)
  met_one name rest true e = ap (λ (b : Bool). option_map (λ s. s.0)
      (if b || false then Some (named_only name) else find (answers_to command) rest)) e
  met_one name rest false e = ap (λ (b : Bool). option_map (λ s. s.0)
      (if b || false then Some (named_only name) else find (answers_to command) rest)) e

  met_none : (names : List Text) (rest : Names) → list_any (λ name. bytes_eq name command) names ≡ false
      → names_from command (map named_only names ++ rest) ≡ names_from command rest
  met_none [] rest none = refl
  met_none (name ∷ names) rest none = by (bytes_eq name command) refl (met_none names rest)
    where
      later : (b : Bool) → bytes_eq name command ≡ b → (b || list_any (λ name. bytes_eq name command) names) ≡ false
      later b e = sym (ap (λ (b : Bool). b || list_any (λ name. bytes_eq name command) names) e) ∙ none

      by : (b : Bool) → bytes_eq name command ≡ b
          → (list_any (λ name. bytes_eq name command) names ≡ false
          → names_from command (map named_only names ++ rest) ≡ names_from command rest)
          → names_from command (map named_only (name ∷ names) ++ rest) ≡ names_from command rest
      by true e next = let wrong : true ≡ false = later true e in absurd cc
      by false e next = met_one name (map named_only names ++ rest) false e ∙ next (later false e)

  abbrev words : List Text
  words = program ∷ command ∷ arguments

  abbrev after_dump : Option Request
  after_dump = if is_parsed command then parsed words else None

  abbrev after_measure : Option Request
  after_measure = if bytes_eq (codes "dump") command then dump_of (without_dashes arguments) else after_dump

  abbrev measure_asked : Option Request
  measure_asked = if asks_option arguments then parsed words else measure_of (without_dashes arguments)

  asked_first : (b : Bool) → bytes_eq (codes "measure") command ≡ b
      → asked words ≡ (if b then measure_asked else after_measure)
  asked_first b e = ap (λ (b : Bool). if b then measure_asked else after_measure) e

  asked_measure : (b : Bool) → asks_option arguments ≡ b
      → measure_asked ≡ (if b then parsed words else measure_of (without_dashes arguments))
  asked_measure b e = ap (λ (b : Bool). if b then parsed words else measure_of (without_dashes arguments)) e

  asked_second : (b : Bool) → bytes_eq (codes "dump") command ≡ b
      → after_measure ≡ (if b then dump_of (without_dashes arguments) else after_dump)
  asked_second b e = ap (λ (b : Bool). if b then dump_of (without_dashes arguments) else after_dump) e

  asked_third : (b : Bool) → is_parsed command ≡ b → after_dump ≡ (if b then parsed words else None)
  asked_third b e = ap (λ (b : Bool). if b then parsed words else None) e

  unnamed : subcommand_met commands idle command ≡ None → asked (program ∷ command ∷ arguments) ≡ None
      → Verdict (program ∷ command ∷ arguments)
  unfolding walk_fault
  unnamed none nothing = by (word_is top_built top_short [] None command
      (λ y ys _. refuses_all top_built top_long (y ∷ ys)))
    where
      turned : turn_fault top_built commands start command ≡ turned_by None command
      turned = ap (λ (o : Option Text). turned_by o command) none

      fails : Fails (turn_fault top_built commands start command) → Verdict (program ∷ command ∷ arguments)
      fails f = inr (
        fails_first _ (ended_at (fold (walked top_built.rules commands) start (command ∷ arguments)))
            (fails_first _ _ f),
        nothing,
      )

      by : IsWord top_built [] None command → Verdict (program ∷ command ∷ arguments)
      by (inl e) = subst (λ (w : Text). Verdict (program ∷ w ∷ arguments))
          (sym ((bytes_eq-Decides command dashes).0 e)) (top_ended program arguments)
      by (inr (inl p)) = fails (subst Fails (sym turned) (fails_first _ _ p.2))
      by (inr (inr p)) =
          let strays = ap₂ (λ (k : Kinds) (q : Held × Step). or_else k (step_fault top_built 1 q.0 q.1)) p.1 (p.2 1) in
          fails (subst Fails (sym (turned ∙ strays ∙ top_stray)) tt)

  named : (a b o h : Bool) → bytes_eq (codes "measure") command ≡ a → bytes_eq (codes "dump") command ≡ b
      → is_parsed command ≡ o → bytes_eq (codes "help") command ≡ h → Verdict words
  named true b o h ea eb eo eh = by (asks_option arguments) refl
    where
      by : (f : Bool) → asks_option arguments ≡ f → Verdict words
      by true ef =
          moved (reads_parsed (fault_of flowvault words) (request_in (subcommand_of flowvault words))) refl refl
          (asked_first true ea ∙ asked_measure true ef)
      by false ef =
          let found = met_one (codes "measure") (named_only (codes "dump") ∷ later_names) true ea in
          moved (measure_reads arguments ef)
          (told_is command arguments (codes "measure") found refl ∙ measure_ends arguments)
          (ap request_in (entered_is command arguments (codes "measure") found))
          (asked_first true ea ∙ asked_measure false ef)
  named false true o h ea eb eo eh =
      let found = met_one (codes "measure") (named_only (codes "dump") ∷ later_names) false ea
      ∙ met_one (codes "dump") later_names true eb in
      moved (dump_reads arguments) (told_is command arguments (codes "dump") found refl ∙ dump_ends arguments)
      (ap request_in (entered_is command arguments (codes "dump") found)) (asked_first false ea ∙ asked_second true eb)
  named false false true h ea eb eo eh =
      moved (reads_parsed (fault_of flowvault words) (request_in (subcommand_of flowvault words))) refl refl
      (asked_first false ea ∙ asked_second false eb ∙ asked_third true eo)
  named false false false true ea eb eo eh =
      let found = met_one (codes "measure") (named_only (codes "dump") ∷ later_names) false ea
      ∙ met_one (codes "dump") later_names false eb ∙ met_none parsed_names help_alone eo
      ∙ met_one (codes "help") [] true eh in
      inr (
        told_fails command arguments (codes "help") found tt,
        asked_first false ea ∙ asked_second false eb ∙ asked_third false eo,
      )
  named false false false false ea eb eo eh =
      unnamed (met_one (codes "measure") (named_only (codes "dump") ∷ later_names) false ea
      ∙ met_one (codes "dump") later_names false eb ∙ met_none parsed_names help_alone eo
      ∙ met_one (codes "help") [] false eh)
      (asked_first false ea ∙ asked_second false eb ∙ asked_third false eo)

-- Words are taken exactly where they ask for something, and then for that.
pub verdict : (words : List Text) → Verdict words
unfolding clap_on_literals
verdict [] = inr (tt, refl)
verdict (program ∷ []) = inr (tt, refl)
verdict (program ∷ command ∷ arguments) = named program command arguments _ _ _ _ refl refl refl refl
