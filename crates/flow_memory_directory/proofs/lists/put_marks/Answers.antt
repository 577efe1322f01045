use Rattle.std.proofs.Common.{ℕ, ◌+◌, ◌++◌, List, length, take, drop, sym, ◌∙◌, ap, subst, replicate}
use Rattle.std.proofs.lemmas.List.{length-replicate}
use Rattle.flow_memory_directory.specs.declared.mark.Mark.{Mark}
use Rattle.flow_memory_directory.specs.declared.mark.Mark.TheVariants.{Dirty}
use Rattle.flow_memory_directory.specs.Marks.{IsMarked}
use Rattle.flow_memory_directory.proofs.Marking.{put_marked}
use Rattle.flow_memory_directory.proofs.lists.put_marks.Goals as goal

pub returns : goal.returns
returns c =
    let old = c.args.old.now in
    subst (λ (l : List Mark). IsMarked old c.args.at c.args.count l)
    (sym (c.in_ok-made.ensures
    ∙ ap (λ (l : List Mark). take c.args.at old ++ l ++ drop (c.args.at + length l) old)
    (c.deref.ensures.value ∙ c.in_ok-marks.ensures)
    ∙ ap (λ (n : ℕ). take c.args.at old ++ replicate c.args.count Dirty ++ drop (c.args.at + n) old)
    (length-replicate c.args.count Dirty)))
    (put_marked old c.args.at c.args.count c.requires.place)
