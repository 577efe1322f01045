use Rattle.std.proofs.Common.{◌≡◌, ◌∙◌, codes}
use Rattle.std.specs.Prelude.{if◌then◌else◌}
use Rattle.std.specs.Str.{bytes_eq}
use Rattle.clap.specs.Walk.{Text}
use Rattle.flow_program.specs.declared.request.LineError.{LineError}
use Rattle.flow_program.specs.declared.request.LineError.TheVariants.{Width, Plan, Flows, Folders, Keep, Files, Span}
use Rattle.flow_program.specs.declared.request.LineError.TheVariants.{Messages, Number, Totals}
use Rattle.flow_program.specs.Requested.{wrong_values_of}
use Rattle.flow_program.proofs.Reading.{differs, passed_over}
use Rattle.flow_program.proofs.request.wrong_values_of.Goals as goal

-- the name of none of the commands of whose values more is said
other_values : (name : Text) → (name ≡ codes "create" → ⊥) → (name ≡ codes "check" → ⊥) → (name ≡ codes "totals" → ⊥)
    → (name ≡ codes "flows" → ⊥) → (name ≡ codes "records" → ⊥) → (name ≡ codes "feed" → ⊥) → (name ≡ codes "roll" → ⊥)
    → (name ≡ codes "merge" → ⊥) → (name ≡ codes "shell" → ⊥) → (name ≡ codes "explain" → ⊥)
    → (name ≡ codes "export" → ⊥) → Width ≡ wrong_values_of name
other_values name no_create no_check no_totals no_flows no_records no_feed no_roll no_merge no_shell no_explain
    no_export =
    let exported : LineError = if bytes_eq (codes "export") name then Messages else Width in
    let numbered : LineError = if bytes_eq (codes "explain") name then Number else exported in
    let shelled : LineError = if bytes_eq (codes "shell") name then Keep else numbered in
    let merged : LineError = if bytes_eq (codes "merge") name then Keep else shelled in
    let rolled : LineError = if bytes_eq (codes "roll") name then Keep else merged in
    let fed : LineError = if bytes_eq (codes "feed") name then Files else rolled in
    let recorded : LineError = if bytes_eq (codes "records") name then Span else fed in
    let listed : LineError = if bytes_eq (codes "flows") name then Flows else recorded in
    let totalled : LineError = if bytes_eq (codes "totals") name then Totals else listed in
    let checked : LineError = if bytes_eq (codes "check") name then Folders else totalled in
    passed_over (bytes_eq (codes "export") name) Messages Width (differs (codes "export") name no_export)
    ∙ passed_over (bytes_eq (codes "explain") name) Number exported (differs (codes "explain") name no_explain)
    ∙ passed_over (bytes_eq (codes "shell") name) Keep numbered (differs (codes "shell") name no_shell)
    ∙ passed_over (bytes_eq (codes "merge") name) Keep shelled (differs (codes "merge") name no_merge)
    ∙ passed_over (bytes_eq (codes "roll") name) Keep merged (differs (codes "roll") name no_roll)
    ∙ passed_over (bytes_eq (codes "feed") name) Files rolled (differs (codes "feed") name no_feed)
    ∙ passed_over (bytes_eq (codes "records") name) Span fed (differs (codes "records") name no_records)
    ∙ passed_over (bytes_eq (codes "flows") name) Flows recorded (differs (codes "flows") name no_flows)
    ∙ passed_over (bytes_eq (codes "totals") name) Totals listed (differs (codes "totals") name no_totals)
    ∙ passed_over (bytes_eq (codes "check") name) Folders totalled (differs (codes "check") name no_check)
    ∙ passed_over (bytes_eq (codes "create") name) Plan checked (differs (codes "create") name no_create)

pub returns-in_default : goal.returns-in_default
returns-in_default c =
    other_values c.args.name.now c.in_default.not-create c.in_default.not-check c.in_default.not-totals
    c.in_default.not-flows c.in_default.not-records
    c.in_default.not-feed c.in_default.not-roll c.in_default.not-merge c.in_default.not-shell c.in_default.not-explain
    c.in_default.not-export
