use Rattle.std.proofs.Common.{◌≡◌, ◌∙◌, ap, inr, subst, ℕ, List}
use Rattle.std.specs.Borrow.{Bor}
use Rattle.std.specs.Prelude.{map}
use Rattle.clap.specs.Walk.{Text}
use Rattle.flow_program.specs.Inspecting.{IsFileTold, StopsAfter}
use Rattle.flow_program.proofs.inspecting.run_inspect_files.Goals as goal

pub returns-in-Err-clause-runs : goal.returns-in-Err-clause-runs
returns-in-Err-clause-runs g c =
    let has = g.R.Read.remaining in
    let holds = g.W.Write.contents in
    let tells = g.E.Write.contents in
    let refused = c.in-Err.refused in
    let stops = c.in-Err.ensures.refused in
    let files_are : map (λ (path : Bor (List ℕ)). path.now) c.as_slice.result.now ≡ c.args.files.now =
    ap (λ (paths : List (Bor (List ℕ))). map (λ (path : Bor (List ℕ)). path.now) paths) c.as_slice.ensures.value
    ∙ c.files.view_is in
    inr (
      refused.refusal,
      stops.0,
      c.tell_file.ensures.status,
      subst (λ (n : ℕ). IsFileTold refused.refusal n (tells c.args.errors.now) (tells c.tell_file.new.errors)) stops.1
          c.tell_file.ensures.told,
      subst (λ (files : List Text). StopsAfter c.args.format files stops.0 (has c.args.input.now)
          (has c.inspect_files.new.input) (holds c.args.output.now) (holds c.inspect_files.new.output) refused.refusal)
          files_are stops.2,
    )
