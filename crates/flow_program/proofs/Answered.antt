-- What is made of what the parser answers.
use Rattle.std.proofs.Common.{◌≡◌, ◌∙◌, ◌⊎◌, inl, inr, refl, sym, ap, ap₂, subst, Bool, true, false}
use Rattle.std.proofs.Common.{List, [], Option, Some, None, codes}
use Rattle.std.specs.Prelude.{⊤, IfErr, IfOk, ok_or, is_some}
use Rattle.std.specs.Prelude.{option_map, if◌then◌else◌}
use Rattle.std.specs.Option.{option_map_or}
use Rattle.std.specs.Str.{bytes_eq}
use Rattle.clap.specs.Walk.{Row, Text}
use Rattle.clap.specs.Walk.{rows_of}
use Rattle.clap.specs.Kinds.{HasKind, IsAmong, Kinds}
use Rattle.clap.specs.Values.{kind_of}
use Rattle.clap.specs.declared.error.Error.{Error}
use Rattle.clap.specs.declared.error.kind.ErrorKind.TheVariants as ErrorKind
use Rattle.clap.specs.declared.parser.matches.ArgMatches.{ArgMatches}
use Rattle.clap.specs.Faults.{fault_of}
use Rattle.clap.specs.Faults.{is_simple_and_free}
use Rattle.clap.specs.Simple.{App, HasMatchesOf, is_simple, subcommand_of}
use Rattle.clap.specs.Simple.{subcommand_rows, subcommand_rows_of}
use Rattle.clap.specs.Matches.{found_of, subcommand_name_of}
use Rattle.std.specs.Prelude.{Box}
use Rattle.std.specs.Box.{box_value}
use Rattle.clap.specs.declared.parser.matches.ArgMatches.TheViews.{out-ArgMatches, out-SubCommand}
use Rattle.clap.specs.declared.parser.matches.SubCommand.{SubCommand}
use Rattle.clap.proofs.OnLiterals.{clap_on_literals}
use Rattle.clap.proofs.WalkLemmas.{both}
use Rattle.flow_program.specs.declared.request.Request.{Request}
use Rattle.flow_program.specs.declared.request.LineError.{LineError}
use Rattle.flow_program.specs.declared.request.LineError.TheVariants as line
use Rattle.flow_program.specs.Arguments.{requested, request_in}
use Rattle.flow_program.specs.CommandLine.{asked, flowvault}
use Rattle.flow_columns.specs.Columns.{first_unknown}
use Rattle.flow_program.specs.Arguments.{are_swapped, fields_in, format_in, is_set}
use Rattle.flow_program.specs.Requested.{formatted_values, wrong_names, wrong_others, wrong_records, wrong_values}
use Rattle.flow_program.specs.Requested.{wrong_values_in, wrong_values_of, IsLineError}
use Rattle.flow_program.proofs.Walking.{Fails}
use Rattle.flow_program.proofs.Verdicts.{Verdict, verdict}

-- ---- from what the parser answers

pub is_read : is_simple_and_free flowvault ≡ true
unfolding clap_on_literals
is_read = refl

-- the name and the rows of the subcommand that is found in words that were taken
pub rows_taken : (app : App) (words : List Text) (m : ArgMatches) → app ≡ flowvault → HasMatchesOf app words m
    → subcommand_rows_of m ≡ subcommand_of flowvault words
rows_taken app words m is matches =
    let simple : is_simple_and_free app ≡ true = ap is_simple_and_free is ∙ is_read in
    (matches (both (is_simple app) _ simple).0).1 ∙ ap (λ (a : App). subcommand_of a words) is

-- the matches of words that were taken
pub takes : (app : App) (words : List Text) (m : ArgMatches) (made : Option Request) → app ≡ flowvault
    → (is_simple_and_free app ≡ true → fault_of app words ≡ []) → HasMatchesOf app words m
    → made ≡ request_in (subcommand_rows_of m) → made ≡ asked words
takes app words m made is none matches found =
    let simple : is_simple_and_free app ≡ true = ap is_simple_and_free is ∙ is_read in
    let free : fault_of flowvault words ≡ [] = ap (λ (a : App). fault_of a words) (sym is) ∙ none simple in
    by free (rows_taken app words m is matches) (verdict words)
  where
    by : fault_of flowvault words ≡ [] → subcommand_rows_of m ≡ subcommand_of flowvault words → Verdict words
        → made ≡ asked words
    by free rows (inl p) = found ∙ ap request_in rows ∙ p.1
    by free rows (inr p) = absurd (subst Fails free p.0)

-- an error of the parser
pub is_told : (app : App) (words : List Text) (e : Error) (r : LineError) → app ≡ flowvault
    → (is_simple_and_free app ≡ true → HasKind (fault_of app words) e)
    → (kind_of e ≡ ErrorKind.OutOfMemory → r ≡ line.OutOfMemory) → (r ≡ line.OutOfMemory) ⊎ (r ≡ line.Parser e)
    → IsLineError words r
is_told app words e r is kinds memory (inl m) = subst (IsLineError words) (sym m) tt
is_told app words e r is kinds memory (inr p) = subst (IsLineError words) (sym p) (by has (verdict words), has)
  where
    has : HasKind (fault_of flowvault words) e
    has = subst (λ (a : App). HasKind (fault_of a words) e) is (kinds (ap is_simple_and_free is ∙ is_read))

    by : HasKind (fault_of flowvault words) e → Verdict words → asked words ≡ None
    by h (inr v) = v.1
    by (inl m) (inl v) = let same = sym (memory m) ∙ p in absurd cc
    by (inr a) (inl v) = absurd (subst (λ (k : Kinds). IsAmong (kind_of e) k) v.0 a)

-- the name and the rows of a subcommand ask for what the parser's answer asks for
pub asked_by : (m : ArgMatches) (name : Text) (rows : List Row) → Some name ≡ subcommand_name_of m
    → Some rows ≡ option_map (λ p. p.1) (subcommand_rows_of m) → requested name rows ≡ request_in (subcommand_rows_of m)
asked_by m name rows named found = by (out-ArgMatches m).subcommand named found
  where
    by : {Z : Type 0} (sub : Option (Box SubCommand Z))
        → Some name ≡ option_map (λ b. (out-SubCommand (box_value b)).name.now) sub
        → Some rows ≡ option_map (λ p. p.1) (subcommand_rows sub) → requested name rows ≡ request_in (subcommand_rows sub)
    by None n r = absurd cc
    by (Some b) n r =
        let name_is : name ≡ (out-SubCommand (box_value b)).name.now = cc in
        let rows_are : rows ≡ rows_of (found_of (out-SubCommand (box_value b)).matches) = cc in
        ap₂ requested name_is rows_are

-- said by no parser
abbrev IsOurs : LineError → Type 0
IsOurs line.Width = ⊤
IsOurs line.Plan = ⊤
IsOurs line.Span = ⊤
IsOurs line.Folders = ⊤
IsOurs line.Flows = ⊤
IsOurs line.Totals = ⊤
IsOurs line.Swapped = ⊤
IsOurs line.Keep = ⊤
IsOurs line.Files = ⊤
IsOurs line.Number = ⊤
IsOurs line.Messages = ⊤
IsOurs line.Formats = ⊤
IsOurs (line.Field name) = ⊤
IsOurs line.OutOfMemory = ⊤
IsOurs (line.Parser e) = ⊥

either_ours : (b : Bool) (this other : LineError) → IsOurs this → IsOurs other → IsOurs (if b then this else other)
either_ours true this other is_this is_other = is_this
either_ours false this other is_this is_other = is_other

named_ours : (name : Text) → IsOurs (wrong_values_of name)
named_ours name =
    let exported : LineError = if bytes_eq (codes "export") name then line.Messages else line.Width in
    let numbered : LineError = if bytes_eq (codes "explain") name then line.Number else exported in
    let shelled : LineError = if bytes_eq (codes "shell") name then line.Keep else numbered in
    let merged : LineError = if bytes_eq (codes "merge") name then line.Keep else shelled in
    let rolled : LineError = if bytes_eq (codes "roll") name then line.Keep else merged in
    let fed : LineError = if bytes_eq (codes "feed") name then line.Files else rolled in
    let recorded : LineError = if bytes_eq (codes "records") name then line.Span else fed in
    let listed : LineError = if bytes_eq (codes "flows") name then line.Flows else recorded in
    let totalled : LineError = if bytes_eq (codes "totals") name then line.Totals else listed in
    let checked : LineError = if bytes_eq (codes "check") name then line.Folders else totalled in
    either_ours (bytes_eq (codes "create") name) line.Plan checked tt
    (either_ours (bytes_eq (codes "check") name) line.Folders totalled tt
    (either_ours (bytes_eq (codes "totals") name) line.Totals listed tt
    (either_ours (bytes_eq (codes "flows") name) line.Flows recorded tt
    (either_ours (bytes_eq (codes "records") name) line.Span fed tt
    (either_ours (bytes_eq (codes "feed") name) line.Files rolled tt
    (either_ours (bytes_eq (codes "roll") name) line.Keep merged tt
    (either_ours (bytes_eq (codes "merge") name) line.Keep shelled tt
    (either_ours (bytes_eq (codes "shell") name) line.Keep numbered tt
    (either_ours (bytes_eq (codes "explain") name) line.Number exported tt
    (either_ours (bytes_eq (codes "export") name) line.Messages line.Width tt tt))))))))))

formatted_ours : (name : Text) (rows : List Row) → IsOurs (formatted_values name rows)
formatted_ours name rows =
    either_ours (are_swapped rows) line.Swapped (wrong_values_of name) tt (named_ours name)

field_ours : (unknown : Option Text) (other : LineError) → IsOurs other
    → IsOurs (option_map_or line.Field unknown other)
field_ours None other is = is
field_ours (Some name) other is = tt

records_ours : (rows : List Row) (names : Option Text)
    → IsOurs (option_map_or (wrong_names rows) names (formatted_values (codes "records") rows))
records_ours rows None = formatted_ours (codes "records") rows
records_ours rows (Some names) =
    let other = formatted_values (codes "records") rows in
    either_ours (is_set (codes "json") rows) line.Formats (option_map_or line.Field (first_unknown names) other) tt
    (field_ours (first_unknown names) other (formatted_ours (codes "records") rows))

values_ours : (command : Option (Text × List Row)) → IsOurs (wrong_values command)
values_ours None = tt
values_ours (Some c) =
    either_ours (bytes_eq (codes "records") c.0) (wrong_records c.1) (wrong_others c.0 c.1)
    (records_ours c.1 (fields_in c.1))
    (either_ours (is_some (format_in c.1)) (formatted_values c.0 c.1) line.Formats (formatted_ours c.0 c.1) tt)

-- what is said of the values of the command that the parser finds, by its name and its rows
pub values_named : (m : ArgMatches) (name : Text) (rows : List Row) → Some name ≡ subcommand_name_of m
    → Some rows ≡ option_map (λ p. p.1) (subcommand_rows_of m)
    → wrong_values_in name rows ≡ wrong_values (subcommand_rows_of m)
values_named m name rows named found = by (out-ArgMatches m).subcommand named found
  where
    by : {Z : Type 0} (sub : Option (Box SubCommand Z))
        → Some name ≡ option_map (λ b. (out-SubCommand (box_value b)).name.now) sub
        → Some rows ≡ option_map (λ p. p.1) (subcommand_rows sub)
        → wrong_values_in name rows ≡ wrong_values (subcommand_rows sub)
    by None n r = absurd cc
    by (Some b) n r =
        let name_is : name ≡ (out-SubCommand (box_value b)).name.now = cc in
        let rows_are : rows ≡ rows_of (found_of (out-SubCommand (box_value b)).matches) = cc in
        ap₂ wrong_values_in name_is rows_are

wrong_words : (asking : List Text) (e : LineError) → e ≡ wrong_values (subcommand_of flowvault asking)
    → asked asking ≡ None → IsLineError asking e
wrong_words asking line.Width is none = (none, is)
wrong_words asking line.Plan is none = (none, is)
wrong_words asking line.Span is none = (none, is)
wrong_words asking line.Folders is none = (none, is)
wrong_words asking line.Flows is none = (none, is)
wrong_words asking line.Totals is none = (none, is)
wrong_words asking line.Swapped is none = (none, is)
wrong_words asking line.Keep is none = (none, is)
wrong_words asking line.Files is none = (none, is)
wrong_words asking line.Number is none = (none, is)
wrong_words asking line.Messages is none = (none, is)
wrong_words asking line.Formats is none = (none, is)
wrong_words asking (line.Field name) is none = (none, is)
wrong_words asking line.OutOfMemory is none = tt
wrong_words asking (line.Parser e) is none =
    absurd (subst IsOurs (sym is) (values_ours (subcommand_of flowvault asking)))

pub ok_made : (o : Option Request) (asking : List Text) (e : LineError) → o ≡ asked asking
    → IfOk (ok_or o e) (λ request. asked asking ≡ Some request)
ok_made None asking e is = tt
ok_made (Some request) asking e is = sym is

pub err_made : (o : Option Request) (asking : List Text) (e : LineError)
    → e ≡ wrong_values (subcommand_of flowvault asking) → o ≡ asked asking
    → IfErr (ok_or o e) (λ e. IsLineError asking e)
err_made None asking e wrong is = wrong_words asking e wrong (sym is)
err_made (Some request) asking e wrong is = tt
