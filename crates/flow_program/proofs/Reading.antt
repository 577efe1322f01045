-- What is read of values, and by the name of a command.
use Rattle.std.proofs.Common.{◌≡◌, ◌∙◌, refl, sym, ap, Bool, true, false}
use Rattle.std.proofs.Common.{List, Option, Some, codes}
use Rattle.std.specs.Prelude.{option_map, if◌then◌else◌}
use Rattle.std.specs.Str.{bytes_eq}
use Rattle.std.proofs.lemmas.Slice.Eq.{bytes_eq-Decides}
use Rattle.clap.specs.Walk.{Row, Text}
use Rattle.clap.specs.Walk.{all_of, first_of}
use Rattle.clap.specs.Walk.{rows_of}
use Rattle.clap.specs.Matches.{first_value, matched_of, raw_values}
use Rattle.clap.specs.declared.parser.matches.Found.{Found}
use Rattle.clap.proofs.WalkLemmas.{first_value-rows, raw_values-rows}
use Rattle.flow_program.specs.declared.request.Request.{Request}
use Rattle.flow_program.specs.declared.request.Request.TheVariants.{Dump, Explain, Merge, Roll}
use Rattle.flow_program.specs.Arguments.{changing, checked_in, create_in, explained_in, fed_in, inspected_in}
use Rattle.flow_program.specs.Arguments.{exporting, listed_in, measured_in, queried, recorded_in, requested, rolled_in}
use Rattle.flow_program.specs.Arguments.{shelled_in, totalled_in, without_list}

pub first_value_is : (f : Found) (id : Text) → first_value f id ≡ first_of id (rows_of f)
first_value_is f id = first_value-rows f id

pub all_values_are : (f : Found) (id : Text) → option_map raw_values (matched_of f id) ≡ all_of id (rows_of f)
all_values_are f id = raw_values-rows f id

-- ---- a command by its name

pub differs : (word name : Text) → (name ≡ word → ⊥) → bytes_eq word name ≡ false
differs word name not_it = by (bytes_eq word name) refl
  where
    by : (b : Bool) → bytes_eq word name ≡ b → bytes_eq word name ≡ false
    by true e = absurd (not_it (sym ((bytes_eq-Decides word name).0 e)))
    by false e = e

pub passed_over : {Z : Type 0} (b : Bool) (this others : Z) → b ≡ false → others ≡ (if b then this else others)
passed_over b this others e = ap (λ (b : Bool). if b then this else others) (sym e)

-- the name of none of the first commands
pub other_name : (name : Text) (rows : List Row) → (name ≡ codes "measure" → ⊥) → (name ≡ codes "dump" → ⊥)
    → (name ≡ codes "create" → ⊥)
    → queried name rows ≡ without_list name rows
other_name name rows no_measure no_dump no_create =
    let created : Option Request = if bytes_eq (codes "create") name then create_in rows else queried name rows in
    let dumped : Option Request = if bytes_eq (codes "dump") name then Some Dump else created in
    passed_over (bytes_eq (codes "create") name) (create_in rows) (queried name rows)
    (differs (codes "create") name no_create)
    ∙ passed_over (bytes_eq (codes "dump") name) (Some Dump) created (differs (codes "dump") name no_dump)
    ∙ passed_over (bytes_eq (codes "measure") name) (measured_in rows) dumped
    (differs (codes "measure") name no_measure)

-- a name other than `feed`, `inspect`, `totals`, `flows` and `check`
pub without_list_name : (name : Text) (rows : List Row) → (name ≡ codes "feed" → ⊥) → (name ≡ codes "inspect" → ⊥)
    → (name ≡ codes "totals" → ⊥) → (name ≡ codes "flows" → ⊥) → (name ≡ codes "check" → ⊥)
    → without_list name rows ≡ requested name rows
without_list_name name rows no_feed no_inspect no_totals no_flows no_check =
    let checked : Option Request = if bytes_eq (codes "check") name then checked_in rows
    else without_list name rows in
    let listed : Option Request = if bytes_eq (codes "flows") name then listed_in rows else checked in
    let totalled : Option Request = if bytes_eq (codes "totals") name then totalled_in rows else listed in
    let inspected : Option Request = if bytes_eq (codes "inspect") name then inspected_in rows else totalled in
    passed_over (bytes_eq (codes "check") name) (checked_in rows) (without_list name rows)
    (differs (codes "check") name no_check)
    ∙ passed_over (bytes_eq (codes "flows") name) (listed_in rows) checked
    (differs (codes "flows") name no_flows)
    ∙ passed_over (bytes_eq (codes "totals") name) (totalled_in rows) listed
    (differs (codes "totals") name no_totals)
    ∙ passed_over (bytes_eq (codes "inspect") name) (inspected_in rows) totalled
    (differs (codes "inspect") name no_inspect)
    ∙ passed_over (bytes_eq (codes "feed") name) (fed_in rows) inspected (differs (codes "feed") name no_feed)

-- the name of no command that is met before those that change an archive
pub changing_name : (name : Text) (rows : List Row) → (name ≡ codes "records" → ⊥)
    → (name ≡ codes "explain" → ⊥) → changing name rows ≡ queried name rows
changing_name name rows no_records no_explain =
    let explained : Option Request = if bytes_eq (codes "explain") name then option_map Explain (explained_in rows)
    else changing name rows in
    passed_over (bytes_eq (codes "explain") name) (option_map Explain (explained_in rows)) (changing name rows)
    (differs (codes "explain") name no_explain)
    ∙ passed_over (bytes_eq (codes "records") name) (recorded_in rows) explained
    (differs (codes "records") name no_records)

-- the name of none of the commands that change an archive
pub exporting_name : (name : Text) (rows : List Row) → (name ≡ codes "roll" → ⊥) → (name ≡ codes "merge" → ⊥)
    → (name ≡ codes "shell" → ⊥) → exporting name rows ≡ changing name rows
exporting_name name rows no_roll no_merge no_shell =
    let shelled : Option Request = if bytes_eq (codes "shell") name then shelled_in rows else exporting name rows in
    let merged : Option Request = if bytes_eq (codes "merge") name then rolled_in Merge rows else shelled in
    passed_over (bytes_eq (codes "shell") name) (shelled_in rows) (exporting name rows)
    (differs (codes "shell") name no_shell)
    ∙ passed_over (bytes_eq (codes "merge") name) (rolled_in Merge rows) shelled
    (differs (codes "merge") name no_merge)
    ∙ passed_over (bytes_eq (codes "roll") name) (rolled_in Roll rows) merged (differs (codes "roll") name no_roll)
