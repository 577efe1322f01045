use Rattle.std.proofs.lemmas.Result.{on_ok_weaker}
use Rattle.flow_report.proofs.Recording.{field_pushed}
use Rattle.flow_report.proofs.output.HeldText.push_json_field.Goals as goal

pub returns : goal.returns
returns c =
    on_ok_weaker c.push_json_value.result
    (λ e. field_pushed c.args.self.now.text.items c.push_json_name.new.text.items c.push_json_value.new.self.text.items
    c.args.id c.args.octets.now c.in_ok-push_json_name.ensures e) c.push_json_value.ensures
