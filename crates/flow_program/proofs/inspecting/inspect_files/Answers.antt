use Rattle.std.proofs.Common.{◌≡◌, ◌<◌, ◌≤◌, ◌∙◌, ◌+◌, ℕ, suc, List, [], Some, false, add-one, ap, get_or, length, subst, sym}
use Rattle.std.specs.Prelude.{IfSome, map}
use Rattle.std.specs.Borrow.{Bor}
use Rattle.std.specs.Io.KnownBytes.{Keeps}
use Rattle.std.proofs.Math.ListN.{get_or-map}
use Rattle.std.proofs.lemmas.List.{length-map}
use Rattle.clap.specs.Walk.{Text}
use Rattle.flow_report.specs.Measure.{IsRefusedBy}
use Rattle.flow_inspect.specs.Inspect.{KeepsOrFrontOfFile, WritesFile}
use Rattle.flow_program.specs.Inspecting.{is_input, known_at}
use Rattle.flow_program.proofs.OneByOne.{IsUnderWay, one_more, stops_at, unread_at, unread_to_end}
use Rattle.flow_program.proofs.inspecting.inspect_files.Goals as goal

abbrev no_path : Bor (List ℕ)
no_path = record { ref_ptr = (0, 0); now = [] }

abbrev paths_of : List (Bor (List ℕ)) → List Text
paths_of paths = map (λ path. path.now) paths

path_at : (paths : List (Bor (List ℕ))) (i : ℕ) → (get_or paths i no_path).now ≡ get_or (paths_of paths) i []
path_at paths i = sym (get_or-map (λ (path : Bor (List ℕ)). path.now) paths i no_path)

is_within : (paths : List (Bor (List ℕ))) (i : ℕ) → i < length paths → i < length (paths_of paths)
is_within paths i within =
    subst (λ (n : ℕ). i < n) (sym (length-map paths (λ (path : Bor (List ℕ)). path.now))) within

is_most : (paths : List (Bor (List ℕ))) (i : ℕ) → i ≤ length paths → i ≤ length (paths_of paths)
is_most paths i most = subst (λ (n : ℕ). i ≤ n) (sym (length-map paths (λ (path : Bor (List ℕ)). path.now))) most

pub returns-in-Err-clause-input : goal.returns-in-Err-clause-input
returns-in-Err-clause-input g c =
    let has = g.R.Read.remaining in
    let holds = g.W.Write.contents in
    let at = c.loop-path in
    let paths = c.args.paths.now in
    λ none.
    unread_at c.args.format (paths_of paths) at.path-index [] (has c.args.input.now) (has at.input)
    (has c.inspect_path.new.input) (holds c.args.output.now) (holds at.output)
    (is_within paths at.path-index c.loop-path-test.true) at.invariant.0
    (subst (λ (path : Text). is_input path ≡ false → Keeps (has at.input) (has c.inspect_path.new.input))
    (path_at paths at.path-index) c.in-Err.ensures.input) none

pub returns-in-Err-clause-refused : goal.returns-in-Err-clause-refused
returns-in-Err-clause-refused g c =
    let has = g.R.Read.remaining in
    let holds = g.W.Write.contents in
    let at = c.loop-path in
    let paths = c.args.paths.now in
    let number_is : at.number + 1 ≡ suc at.path-index = ap (λ (n : ℕ). n + 1) at.invariant.1 ∙ add-one at.path-index in (
      at.path-index,
      number_is,
      stops_at c.args.format (paths_of paths) at.path-index (at.number + 1) [] (has c.args.input.now) (has at.input)
          (has c.inspect_path.new.input) (holds c.args.output.now) (holds at.output)
          (holds c.inspect_path.new.output) c.in-Err.refusal number_is
          (is_within paths at.path-index c.loop-path-test.true) at.invariant.0
          (subst (λ (path : Text). IfSome (known_at (has at.input) path)
          (λ octets. IsRefusedBy octets (has c.inspect_path.new.input) c.in-Err.refusal))
          (path_at paths at.path-index) c.in-Err.ensures.refused)
          (subst (λ (path : Text). KeepsOrFrontOfFile c.args.format (Some (at.number + 1)) (known_at (has at.input) path)
          (holds at.output) (holds c.inspect_path.new.output) c.in-Err.refusal)
          (path_at paths at.path-index) c.in-Err.ensures.kept),
    )

pub loop-path-preserved : goal.loop-path-preserved
loop-path-preserved g c =
    let has = g.R.Read.remaining in
    let holds = g.W.Write.contents in
    let at = c.loop-path in
    let paths = c.args.paths.now in
    let number_is : at.number + 1 ≡ suc at.path-index = ap (λ (n : ℕ). n + 1) at.invariant.1 ∙ add-one at.path-index in
    let more = one_more c.args.format (paths_of paths) at.path-index (at.number + 1) [] (has c.args.input.now)
    (has at.input) (has c.inspect_path.new.input) (holds c.args.output.now) (holds at.output)
    (holds c.inspect_path.new.output) number_is
    (is_within paths at.path-index c.loop-path-test.true) at.invariant.0
    (subst (λ (path : Text). WritesFile c.args.format (Some (at.number + 1)) (known_at (has at.input) path)
    (holds at.output) (holds c.inspect_path.new.output)) (path_at paths at.path-index) c.in_default.ensures.lines)
    (subst (λ (path : Text). is_input path ≡ false → Keeps (has at.input) (has c.inspect_path.new.input))
    (path_at paths at.path-index) c.in_default.ensures.input) in (
      subst (λ (n : ℕ). IsUnderWay c.args.format (paths_of paths) n (has c.args.input.now)
          (has c.inspect_path.new.input) (holds c.args.output.now) (holds c.inspect_path.new.output))
          (sym (add-one at.path-index)) more,
      ap (λ (n : ℕ). n + 1) at.invariant.1,
    )

pub returns-clause-input : goal.returns-clause-input
returns-clause-input g c =
    let has = g.R.Read.remaining in
    let holds = g.W.Write.contents in
    let at = c.loop-path in
    let paths = c.args.paths.now in
    λ none.
    unread_to_end c.args.format (paths_of paths) at.path-index (has c.args.input.now) (has at.input)
    (holds c.args.output.now) (holds at.output) at.invariant.0
    (is_most paths at.path-index at.auto.path-index-end) none
