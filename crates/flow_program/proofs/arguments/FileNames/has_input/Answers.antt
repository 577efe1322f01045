use Rattle.std.proofs.Common.{◌∙◌, Bor, List, ap, codes}
use Rattle.std.specs.List.{list_any}
use Rattle.std.specs.Str.{bytes_eq}
use Rattle.clap.proofs.WalkLemmas.{list_any-map}
use Rattle.clap.specs.Walk.{Text}
use Rattle.flow_program.specs.Arguments.{has_input}
use Rattle.flow_program.proofs.arguments.FileNames.has_input.Goals as goal

pub returns : goal.returns
returns c =
    c.are_with_input.ensures
    ∙ ap (λ (l : List (Bor Text)). list_any (λ path. bytes_eq path.now (codes "-")) l) c.as_slice.ensures.value
    ∙ list_any-map (λ (file : Text). bytes_eq file (codes "-")) (λ (s : Bor Text). s.now) c.self.inside.paths.items
    ∙ ap has_input c.self.view_is
