use Rattle.std.proofs.Common.{◌≡◌, rules}
use Rattle.flow_codec.proofs.Alike.{same_layout}
use Rattle.flow_codec.proofs.templates.Definition.is_same.Goals as goal

pub returns : goal.returns
returns c =
    let one = c.args.self.now in
    let other = c.args.other.now in
    let options : one.options ≡ other.options = search rules in
    let scope : one.scope ≡ other.scope = search rules in
    same_layout one other c.eq.result options scope (rw (c.fields.ensures, c.fields-2.ensures) at c.eq.ensures)
