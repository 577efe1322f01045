use Rattle.std.proofs.Common.{◌∙◌, ◌++◌, ap, List, ℕ}
use Rattle.std.proofs.lemmas.Result.{on_ok_weaker}
use Rattle.flow_report.proofs.Recording.{name_listed, name_numbered}
use Rattle.flow_report.proofs.objects.push_name.Goals as goal

pub returns-in_ok-extend_from_slice-in-Some : goal.returns-in_ok-extend_from_slice-in-Some
returns-in_ok-extend_from_slice-in-Some c =
    c.in_ok-extend_from_slice-in-Some.ensures.items
    ∙ ap (λ (l : List ℕ). c.args.text.now.items ++ l)
    (c.as_bytes.ensures.value ∙ name_listed c.args.id c.in-Some.name.now c.in-Some.ensures)

pub returns-in-None : goal.returns-in-None
returns-in-None c =
    on_ok_weaker c.push_element_number.result
    (λ e. e ∙ ap (λ (l : List ℕ). c.args.text.now.items ++ l) (name_numbered c.args.id c.in-None.ensures))
    c.push_element_number.ensures
