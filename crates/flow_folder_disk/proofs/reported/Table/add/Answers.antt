use Rattle.std.proofs.Common.{Bool, ◌||◌, ◌∙◌, sym, ap}
use Rattle.std.specs.Ordering.{nat_cmp}
use Rattle.std.specs.BTreeSet.{contains}
use Rattle.flow_disk.specs.Disk.{Marks}
use Rattle.flow_folder_disk.specs.Table.{marks_in}
use Rattle.flow_folder_disk.proofs.Listed.{inserted_is, and_here, and_not, added_none}
use Rattle.flow_folder_disk.proofs.reported.Table.add.Goals as goal

pub returns-in_ok-insert : goal.returns-in_ok-insert
returns-in_ok-insert c n =
    inserted_is c.args.numbers.now c.insert.new.self c.args.file n c.in_ok-insert.ensures.updates
    ∙ ap (λ (b : Bool). contains nat_cmp c.args.numbers.now n || b) (and_here (marks_in c.args.self.now) n c.args.file
    (ap (λ (m : Marks). m.listed) (sym c.of.ensures) ∙ c.if-of.true))

pub returns-else-of : goal.returns-else-of
returns-else-of c n =
    added_none (contains nat_cmp c.args.numbers.now n) _ (and_not (marks_in c.args.self.now) n c.args.file
    (ap (λ (m : Marks). m.listed) (sym c.of.ensures) ∙ c.if-of.false))
