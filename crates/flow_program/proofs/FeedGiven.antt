-- What `feed` is given: the Files that were asked for, and standard input where it is one of them.
use Rattle.std.proofs.Common.{◌≡◌, ℕ, Bool, true, false, List, Option, Some, None, Result, ap, sym, subst}
use Rattle.std.specs.Prelude.{if◌then◌else◌}
use Rattle.clap.specs.Walk.{Text}
use Rattle.flow_disk.specs.declared.disk.Disk.{Ghosts}
use Rattle.flow_commands.specs.declared.archive_refusal.ArchiveRefusal.{ArchiveRefusal}
use Rattle.flow_commands.specs.declared.plan.FeedPlan.{FeedPlan}
use Rattle.flow_commands.specs.Feeding.{FeedsIn}
use Rattle.flow_program.specs.Arguments.{has_input}
use Rattle.flow_program.specs.Run.{input_given}

pub given : (files : List Text) (input : Option (List ℕ)) → has_input files ≡ true
    → input_given files input ≡ Some input
given files input has = ap (λ (b : Bool). if b then Some input else None) has

pub not_given : (files : List Text) (input : Option (List ℕ)) → has_input files ≡ false
    → input_given files input ≡ None
not_given files input has = ap (λ (b : Bool). if b then Some input else None) has

pub feeds : {D S X F : Type 0} {g : Ghosts D S X} {octets : F → Option (List ℕ)} (plan : FeedPlan)
    (input : Option (List ℕ)) (is : Option (Option (List ℕ))) (paths files : List Text) (old new : Option (List ℕ))
    (result : Result ℕ ArchiveRefusal) → input_given files input ≡ is → paths ≡ files
    → FeedsIn g octets plan is paths old new result
    → FeedsIn g octets plan (input_given files input) files old new result
feeds {g = g} {octets = octets} plan input is paths files old new result given same fed =
    subst (λ (i : Option (Option (List ℕ))). FeedsIn g octets plan i files old new result) (sym given)
    (subst (λ (p : List Text). FeedsIn g octets plan is p old new result) same fed)
