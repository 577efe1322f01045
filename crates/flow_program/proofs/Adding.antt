-- Commands that take more arguments.
use Rattle.std.proofs.Common.{◌≡◌, ◌∙◌, refl, false, List, [], ◌∷◌, ◌++◌, Result, Ok, Err, append_assoc, ap, ap₂}
use Rattle.std.specs.Prelude.{IfOk, ◌||◌}
use Rattle.std.proofs.Math.Bool.{or-false}
use Rattle.std.specs.declared.alloc.AllocError.{AllocError}
use Rattle.clap.specs.Built.{AddsArg}
use Rattle.clap.specs.Walk.{Rule, rule_of}
use Rattle.clap.specs.Simple.{App, Shape, shape_of}
use Rattle.clap.specs.declared.builder.arg.Arg.{Arg}
use Rattle.clap.specs.declared.builder.command.Command.{Command}
use Rattle.clap.specs.declared.builder.command.Command.TheViews.{out-Command as fields_of}

-- one more
pub with_one : (old new : Command) (a : Arg) (rule : Rule) → a.global ≡ false → rule_of a ≡ rule → AddsArg old a new
    → shape_of new ≡ record (shape_of old) { rules = (shape_of old).rules ++ rule ∷ [] }
with_one old new a rule own is adds =
    ap (λ (x : App). x.top) (adds.shape own)
    ∙ ap (λ (r : Rule). record (shape_of old) { rules = (shape_of old).rules ++ r ∷ [] }) is

pub none_more : (old new : Command) (a : Arg) → a.global ≡ false → AddsArg old a new
    → (fields_of new).has_globals ≡ (fields_of old).has_globals
none_more old new a own adds =
    adds.globals ∙ ap (λ b. (fields_of old).has_globals || b) own ∙ or-false (fields_of old).has_globals

pub one_more : (old : Command) (a : Arg) (rule : Rule) (shape : Shape) (result : Result Command AllocError)
    → shape_of old ≡ shape → a.global ≡ false → rule_of a ≡ rule → IfOk result (AddsArg old a)
    → IfOk result (λ new. shape_of new ≡ record shape { rules = shape.rules ++ rule ∷ [] })
one_more old a rule shape (Err e) old_is own is adds = tt
one_more old a rule shape (Ok new) old_is own is adds =
    with_one old new a rule own is adds ∙ ap (λ (s : Shape). record s { rules = s.rules ++ rule ∷ [] }) old_is

pub one_not_global : (old : Command) (a : Arg) (result : Result Command AllocError)
    → (fields_of old).has_globals ≡ false → a.global ≡ false → IfOk result (AddsArg old a)
    → IfOk result (λ new. (fields_of new).has_globals ≡ false)
one_not_global old a (Err e) none own adds = tt
one_not_global old a (Ok new) none own adds = none_more old new a own adds ∙ none

-- three more
pub with_three : (old one two : Command) (a b d : Arg) (result : Result Command AllocError)
    → AddsArg old a one → AddsArg one b two → IfOk result (AddsArg two d)
    → (a.global ≡ false) × (b.global ≡ false) × (d.global ≡ false)
    → IfOk result (λ new. shape_of new
    ≡ record (shape_of old) { rules = (shape_of old).rules ++ rule_of a ∷ rule_of b ∷ rule_of d ∷ [] })
with_three old one two a b d (Err e) first second third own = tt
with_three old one two a b d (Ok new) first second third own =
    let x = rule_of a in
    let y = rule_of b in
    let z = rule_of d in
    let rules = (shape_of old).rules in
    with_one two new d z own.2 refl third
    ∙ ap (λ (s : Shape). record s { rules = s.rules ++ z ∷ [] }) (with_one one two b y own.1 refl second
    ∙ ap (λ (s : Shape). record s { rules = s.rules ++ y ∷ [] }) (with_one old one a x own.0 refl first))
    ∙ ap (λ (l : List Rule). record (shape_of old) { rules = l })
    (ap (λ (l : List Rule). l ++ z ∷ []) (append_assoc rules (x ∷ []) (y ∷ []))
    ∙ append_assoc rules (x ∷ y ∷ []) (z ∷ []))

pub same_globals : (old one two : Command) (a b d : Arg) (result : Result Command AllocError)
    → AddsArg old a one → AddsArg one b two → IfOk result (AddsArg two d)
    → (a.global ≡ false) × (b.global ≡ false) × (d.global ≡ false)
    → IfOk result (λ new. (fields_of new).has_globals ≡ (fields_of old).has_globals)
same_globals old one two a b d (Err e) first second third own = tt
same_globals old one two a b d (Ok new) first second third own =
    none_more two new d own.2 third ∙ none_more one two b own.1 second ∙ none_more old one a own.0 first

-- three rules more than a shape has, where they are said otherwise
pub three_more : (u v w x y z : Rule) (old shape : Shape) (result : Result Command AllocError) → old ≡ shape
    → u ≡ x → v ≡ y → w ≡ z
    → IfOk result (λ new. shape_of new ≡ record old { rules = old.rules ++ u ∷ v ∷ w ∷ [] })
    → IfOk result (λ new. shape_of new ≡ record shape { rules = shape.rules ++ x ∷ y ∷ z ∷ [] })
three_more u v w x y z old shape (Err e) is one two three more = tt
three_more u v w x y z old shape (Ok new) is one two three more =
    more ∙ ap₂ (λ (s : Shape) (l : List Rule). record s { rules = s.rules ++ l }) is
    (ap₂ (λ (r : Rule) (l : List Rule). r ∷ l) one (ap₂ (λ (r : Rule) (l : List Rule). r ∷ l) two
    (ap (λ (r : Rule). r ∷ []) three)))

pub none_global : (old : Command) (result : Result Command AllocError) → (fields_of old).has_globals ≡ false
    → IfOk result (λ new. (fields_of new).has_globals ≡ (fields_of old).has_globals)
    → IfOk result (λ new. (fields_of new).has_globals ≡ false)
none_global old (Err e) none same = tt
none_global old (Ok new) none same = same ∙ none
