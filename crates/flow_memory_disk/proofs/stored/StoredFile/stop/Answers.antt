use Rattle.std.proofs.Common.{◌≡◌, sym, ◌∙◌, ap, arith}
use Rattle.std.proofs.lemmas.Grind.{common_steps}
use Rattle.flow_disk.specs.Disk.{settled_at}
use Rattle.flow_memory_disk.specs.declared.choice.Choice.{Choice}
use Rattle.flow_memory_disk.specs.declared.stored.StoredFile.{StoredFile}
use Rattle.flow_memory_disk.specs.Stored.{held_in}
use Rattle.flow_memory_disk.specs.Stopped.{image_of}
use Rattle.flow_memory_disk.proofs.stored.StoredFile.stop.Goals as goal
use Rattle.flow_memory_disk.proofs.stored.StoredFile.stop.Goals.{After-settle, in-Kept, in-Settled, in-Filled}
use Rattle.flow_memory_disk.proofs.stored.StoredFile.stop.Goals.{in-Longer+then-self, in-Longer+else-self}

left : (c : After-settle)
    → c.match-choice.self.octets.items ≡ image_of c.args.choice (held_in c.args.self.now)
left c =
    let file = held_in c.args.self.now in
    let octets = λ (f : StoredFile). f.octets.items in
    let image = λ (k : Choice). image_of k file in
    elim c.match-choice.branch [
      | in-Kept w ↦ ap octets w.self-is ∙ sym (ap image w.in-Kept.is)
      | in-Settled w ↦ cc (ap octets w.self-is, ap image w.in-Settled.is)
      | in-Filled w ↦ grind (arith, common_steps)
      | in-Longer+then-self w ↦ grind (arith, common_steps)
      | in-Longer+else-self w ↦ grind (arith, common_steps)
    ]

pub returns-clause-first : goal.returns-clause-first
returns-clause-first c = c.settle.ensures.first ∙ left (goal.at.returns-clause-first c).After-settle

pub returns-clause-held : goal.returns-clause-held
returns-clause-held c = c.settle.ensures.held ∙ ap settled_at (left (goal.at.returns-clause-held c).After-settle)
