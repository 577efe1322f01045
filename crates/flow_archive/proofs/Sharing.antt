-- Files that are the same, whoever has them too.
use Rattle.std.proofs.Common.{◌≡◌, ℕ, ◌+◌, Bool, true, IsTrue, List, [], ◌∷◌, ◌++◌, map, refl, sym, ◌∙◌, ap}
use Rattle.std.proofs.Common.{subst, Option}
use Rattle.std.specs.Prelude.{◌&&◌}
use Rattle.std.specs.List.{flat_map, list_all, AllByRecursion}
use Rattle.flow_manifest.specs.declared.manifest.Entry.{Entry}
use Rattle.flow_manifest.specs.declared.manifest.Kind.{Kind}
use Rattle.flow_manifest.specs.declared.manifest.Kind.TheVariants.{Wide, Rolled, Sealed, Active}
use Rattle.flow_model.specs.State.{Part}
use Rattle.flow_recover.specs.Opening.{FrozenStand}
use Rattle.flow_archive.specs.Frozen.{all_frozen, octets_in, rolled_in, segment_in, shelf_with, unshared, wide_in}
use Rattle.flow_archive.specs.Frozen.{AreHeldAs, Frozen, IsAlone}
use Rattle.flow_archive.specs.Parts.{part_at, parts_at}
use Rattle.flow_archive.specs.UnderWay.{job_in, job_numbers, none_under_way, numbers_of, under_way_in, AllDiffer, HasOwnFiles, RunningJob, UnderWay}

-- ---- what they are

parts_unshared : (entries : List Entry) (files : List Frozen)
    → parts_at octets_in entries (map unshared files) ≡ parts_at octets_in entries files
parts_unshared [] files = refl
parts_unshared (e ∷ entries) [] = refl
parts_unshared (e ∷ entries) (f ∷ files) =
    ap (λ (l : List Part). part_at e.kind e f.octets ∷ l) (parts_unshared entries files)

pub same_parts : (entries : List Entry) (new old : List Frozen) → map unshared new ≡ map unshared old
    → parts_at octets_in entries new ≡ parts_at octets_in entries old
same_parts entries new old same =
    sym (parts_unshared entries new) ∙ ap (parts_at octets_in entries) same ∙ parts_unshared entries old

held_unshared : (honest : Bool) (entries : List Entry) (files : List Frozen) → AreHeldAs honest entries files
    → AreHeldAs honest entries (map unshared files)
held_unshared honest [] [] are = tt
held_unshared honest [] (f ∷ files) are = absurd are
held_unshared honest (e ∷ entries) [] are = absurd are
held_unshared honest (e ∷ entries) (f ∷ files) are = (
  record { entry_is = are.0.entry_is; honest_is = are.0.honest_is; counted = are.0.counted },
  held_unshared honest entries files are.1,
)

unshared_held : (honest : Bool) (entries : List Entry) (files : List Frozen)
    → AreHeldAs honest entries (map unshared files) → AreHeldAs honest entries files
unshared_held honest [] [] are = tt
unshared_held honest [] (f ∷ files) are = absurd are
unshared_held honest (e ∷ entries) [] are = absurd are
unshared_held honest (e ∷ entries) (f ∷ files) are = (
  record { entry_is = are.0.entry_is; honest_is = are.0.honest_is; counted = are.0.counted },
  unshared_held honest entries files are.1,
)

pub same_held : (honest : Bool) (entries : List Entry) (new old : List Frozen) → map unshared new ≡ map unshared old
    → AreHeldAs honest entries old → AreHeldAs honest entries new
same_held honest entries new old same are = unshared_held honest entries new
    (subst (AreHeldAs honest entries) (sym same) (held_unshared honest entries old are))

stand_unshared : (entries : List Entry) (parts : List Part) (files : List Frozen)
    → FrozenStand octets_in entries parts files → FrozenStand octets_in entries parts (map unshared files)
stand_unshared [] [] [] is = is
stand_unshared [] [] (f ∷ files) is = absurd is
stand_unshared [] (p ∷ parts) files is = absurd is
stand_unshared (e ∷ entries) [] files is = absurd is
stand_unshared (e ∷ entries) (p ∷ parts) [] is = absurd is
stand_unshared (e ∷ entries) (p ∷ parts) (f ∷ files) is = (is.0, stand_unshared entries parts files is.1)

unshared_stand : (entries : List Entry) (parts : List Part) (files : List Frozen)
    → FrozenStand octets_in entries parts (map unshared files) → FrozenStand octets_in entries parts files
unshared_stand [] [] [] is = is
unshared_stand [] [] (f ∷ files) is = absurd is
unshared_stand [] (p ∷ parts) files is = absurd is
unshared_stand (e ∷ entries) [] files is = absurd is
unshared_stand (e ∷ entries) (p ∷ parts) [] is = absurd is
unshared_stand (e ∷ entries) (p ∷ parts) (f ∷ files) is = (is.0, unshared_stand entries parts files is.1)

pub same_stand : (entries : List Entry) (parts : List Part) (new old : List Frozen)
    → map unshared new ≡ map unshared old → FrozenStand octets_in entries parts old
    → FrozenStand octets_in entries parts new
same_stand entries parts new old same is = unshared_stand entries parts new
    (subst (FrozenStand octets_in entries parts) (sym same) (stand_unshared entries parts old is))

-- ---- what a directory has of them

each_unshared : {X : Type 0} (in_kind : Frozen → List X) → ((f : Frozen) → in_kind (unshared f) ≡ in_kind f)
    → (files : List Frozen) → flat_map in_kind (map unshared files) ≡ flat_map in_kind files
each_unshared in_kind each [] = refl
each_unshared {X} in_kind each (f ∷ files) =
    ap (λ (l : List X). l ++ flat_map in_kind (map unshared files)) (each f)
    ∙ ap (λ (l : List X). in_kind f ++ l) (each_unshared in_kind each files)

wide_unshared : (kind : Kind) (f : Frozen) → wide_in kind (unshared f) ≡ wide_in kind f
wide_unshared Wide f = refl
wide_unshared Rolled f = refl
wide_unshared Sealed f = refl
wide_unshared Active f = refl

rolled_unshared : (kind : Kind) (f : Frozen) → rolled_in kind (unshared f) ≡ rolled_in kind f
rolled_unshared Wide f = refl
rolled_unshared Rolled f = refl
rolled_unshared Sealed f = refl
rolled_unshared Active f = refl

segment_unshared : (kind : Kind) (f : Frozen) → segment_in kind (unshared f) ≡ segment_in kind f
segment_unshared Wide f = refl
segment_unshared Rolled f = refl
segment_unshared Sealed f = refl
segment_unshared Active f = refl

shelf_unshared : (width wide : ℕ) (files : List Frozen) (prefix : List ℕ) (active : List (List ℕ))
    → shelf_with width wide (map unshared files) prefix active ≡ shelf_with width wide files prefix active
shelf_unshared width wide files prefix active =
    let merged = each_unshared (λ (f : Frozen). wide_in f.entry.kind f) (λ f. wide_unshared f.entry.kind f) files in
    let rolled = each_unshared (λ (f : Frozen). rolled_in f.entry.kind f) (λ f. rolled_unshared f.entry.kind f) files in
    let sealed = each_unshared (λ (f : Frozen). segment_in f.entry.kind f) (λ f. segment_unshared f.entry.kind f)
    files in
    λ i. record {
      width = width;
      wide = wide;
      merged = merged i;
      rolled = rolled i;
      sealed = sealed i;
      prefix = prefix;
      active = active;
    }

pub same_shelf : (width wide : ℕ) (new old : List Frozen) (prefix : List ℕ) (active : List (List ℕ))
    → map unshared new ≡ map unshared old
    → shelf_with width wide new prefix active ≡ shelf_with width wide old prefix active
same_shelf width wide new old prefix active same =
    sym (shelf_unshared width wide new prefix active)
    ∙ ap (λ (l : List Frozen). shelf_with width wide l prefix active) same
    ∙ shelf_unshared width wide old prefix active

honest_unshared : (files : List Frozen)
    → list_all (λ (f : Frozen). f.honest) (map unshared files) ≡ list_all (λ (f : Frozen). f.honest) files
honest_unshared [] = refl
honest_unshared (f ∷ files) = ap (λ (b : Bool). f.honest && b) (honest_unshared files)

pub same_honest : (new old : List Frozen) → map unshared new ≡ map unshared old
    → IsTrue (list_all (λ (f : Frozen). f.honest) old) → IsTrue (list_all (λ (f : Frozen). f.honest) new)
same_honest new old same all = subst IsTrue
    (sym (sym (honest_unshared new) ∙ ap (list_all (λ (f : Frozen). f.honest)) same ∙ honest_unshared old)) all

-- ---- which of them the archive alone has

pub own_nothing : (shared : Bool) (next : ℕ) → HasOwnFiles shared [] (none_under_way next)
own_nothing shared next = record { alone = λ _. tt; waiting = λ _. tt; differ = tt }

alone_push : (f : Frozen) → IsAlone f → (files : List Frozen) → AllByRecursion IsAlone files
    → AllByRecursion IsAlone (files ++ f ∷ [])
alone_push f is [] all = (is, tt)
alone_push f is (x ∷ files) all = (all.0, alone_push f is files all.1)

pub own_push : (shared : Bool) (files : List Frozen) (work : UnderWay) (f : Frozen) → IsAlone f
    → HasOwnFiles shared files work
    → HasOwnFiles shared (files ++ f ∷ []) (under_way_in (work.next + 1) work.job work.waiting)
own_push shared files work f is own = record {
  alone = λ not. alone_push f is files (own.alone not);
  waiting = own.waiting;
  differ = own.differ;
}

-- whatever a directory has of them
pub own_shared : (shared : Bool) (new old : List Frozen) (work : UnderWay) → HasOwnFiles shared old work
    → HasOwnFiles true new work
own_shared shared new old work own =
    record { alone = λ is. absurd (cc); waiting = λ is. absurd (cc); differ = own.differ }

-- as their disk gives them
frozen_alone : {S : Type 0} (honest : S → Bool) (octets : S → List ℕ) (entries : List Entry) (files : List S)
    → AllByRecursion IsAlone (all_frozen honest octets entries files)
frozen_alone honest octets [] files = tt
frozen_alone honest octets (e ∷ entries) [] = tt
frozen_alone honest octets (e ∷ entries) (f ∷ files) = (refl, frozen_alone honest octets entries files)

pub own_found : {S : Type 0} (honest : S → Bool) (octets : S → List ℕ) (entries : List Entry) (files : List S)
    (shared : Bool) (next : ℕ) → HasOwnFiles shared (all_frozen honest octets entries files) (none_under_way next)
own_found honest octets entries files shared next =
    record { alone = λ _. frozen_alone honest octets entries files; waiting = λ _. tt; differ = tt }

-- with another job whose file has the same number, if any
pub own_numbers : (shared : Bool) (files : List Frozen) (old : UnderWay) (next : ℕ) (job : Option RunningJob)
    → job_numbers (job_in job) ≡ job_numbers (job_in old.job) → HasOwnFiles shared files old
    → HasOwnFiles shared files (under_way_in next job old.waiting)
own_numbers shared files old next job same own = record {
  alone = own.alone;
  waiting = own.waiting;
  differ = subst (λ (ns : List ℕ). AllDiffer (ns ++ numbers_of old.waiting)) (sym same) own.differ;
}
