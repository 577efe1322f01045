use Rattle.std.proofs.Common.{refl}
use Rattle.flow_codec.proofs.Entries.{lookup_append}
use Rattle.flow_codec.proofs.templates.DomainTemplates.find.Goals as goal

pub returns-in-Some : goal.returns-in-Some
returns-in-Some c = rw (
  lookup_append c.args.id c.args.self.now.templates c.args.self.now.options,
  ← c.get.ensures,
  c.in-Some.is,
) refl

pub returns-in-None : goal.returns-in-None
returns-in-None c = rw (
  lookup_append c.args.id c.args.self.now.templates c.args.self.now.options,
  ← c.get.ensures,
  c.in-None.is,
  c.get-in-None.ensures,
) refl
