use Rattle.std.proofs.Common.{◌≡◌, ◌∙◌, ◌+◌, ◌++◌, ap, sym, eqb, length, false}
use Rattle.std.specs.Int.{w16, to_be_bytes}
use Rattle.std.specs.List.{flat_map}
use Rattle.flow_codec.specs.Layout.{set_id}
use Rattle.flow_codec.specs.Message.{joined, set_octets}
use Rattle.flow_codec.specs.Prefix.{defining_records, template_set}
use Rattle.flow_codec.proofs.Writing.{set_text, set_put}
use Rattle.flow_codec.proofs.prefix.put_set.Goals as goal

pub returns : goal.returns
returns c =
    let kind = c.args.kind in
    let es = c.args.definitions.now in
    let n = c.size.result in
    let some : eqb (length es) 0 ≡ false = sym c.is_empty.ensures ∙ c.if-is_empty.false in
    let id = c.in_ok-put_u16.ensures ∙ ap (λ m. c.args.octets.now.items ++ to_be_bytes w16 m) c.set_id.ensures in
    set_put c.args.octets.now.items c.put_u16.new.octets.items c.put_u16-2.new.octets.items
    c.put_records.new.octets.items (flat_map set_octets (template_set kind es)) (joined (defining_records kind es))
    (set_id kind) (4 + n) id c.in_ok-put_u16-2.ensures c.in_ok-put_records.ensures
    (set_text kind es n c.requires.entries some c.size.ensures.size)
