-- What changes of an image do to what it represents.
use Rattle.std.proofs.Common.{◌≡◌, ◌≢◌, ◌⊎◌, inl, inr, ⊎_elim, ℕ, ◌<◌, ◌≤◌, List, [], ◌∷◌, ◌++◌, take, refl, sym, ◌∙◌}
use Rattle.std.proofs.Common.{subst, arith}
use Rattle.std.specs.List.{AllByRecursion}
use Rattle.std.proofs.lemmas.Bool.{cases_eq}
use Rattle.flow_disk.specs.Disk.{InFile}
use Rattle.flow_gate.proofs.Rows.{row_front, shorter}
use Rattle.flow_manifest.specs.declared.manifest.Kind.{Kind}
use Rattle.flow_manifest.specs.declared.manifest.Kind.TheVariants.{Wide, Rolled, Sealed, Active}
use Rattle.flow_manifest.specs.declared.manifest.Entry.{Entry}
use Rattle.flow_manifest.specs.declared.slots.Slot.{Slot}
use Rattle.flow_manifest.specs.declared.slots.Slot.TheVariants.{First, Second}
use Rattle.flow_manifest.specs.declared.slots.Slots.{Slots}
use Rattle.flow_manifest.specs.Manifest.{IsValidManifest, HaveOwnFiles}
use Rattle.flow_manifest.specs.Slots.{file_of, other}
use Rattle.flow_manifest.proofs.Swaps.{same_slots}
use Rattle.flow_segment.specs.Steps.{KeepsFront}
use Rattle.flow_model.specs.State.{Part, State, reopened}
use Rattle.flow_manifest.specs.Following.{active_of, front_of}
use Rattle.flow_model.specs.Standing.{IsActiveAt, StandsAs, PartsStand, HoldsFiles, StandsFor}
use Rattle.flow_model.specs.Standing.{IsKnown}
use Rattle.flow_manifest.proofs.EntryLists.{all_left, all_right, own_left}

-- of entries with one after them
pub all_first : (P : Entry → Type 0) (xs : List Entry) (x : Entry) → AllByRecursion P (xs ++ x ∷ [])
    → AllByRecursion P xs
all_first P xs x all = all_left P xs (x ∷ []) all

pub all_last : (P : Entry → Type 0) (xs : List Entry) (x : Entry) → AllByRecursion P (xs ++ x ∷ []) → P x
all_last P xs x all = (all_right P xs (x ∷ []) all).0

pub own_first : (xs : List Entry) (x : Entry) → HaveOwnFiles (xs ++ x ∷ []) → HaveOwnFiles xs
own_first xs x own = own_left xs (x ∷ []) own

pub slot_below : (slot : Slot) → file_of slot < 3
slot_below First = omega arith
slot_below Second = omega arith

pub parts_along : (a b : ℕ → List ℕ) (P : Entry → Type 0) → ((e : Entry) (p : Part) → P e → StandsAs e.kind
    (a e.file) e p → StandsAs e.kind (b e.file) e p)
    → (entries : List Entry) (parts : List Part) → AllByRecursion P entries → PartsStand a entries parts
    → PartsStand b entries parts
parts_along a b P along [] [] all is = tt
parts_along a b P along [] (p ∷ parts) all is = is
parts_along a b P along (e ∷ entries) [] all is = is
parts_along a b P along (e ∷ entries) (p ∷ parts) all is =
    (along e p all.0 is.0, parts_along a b P along entries parts all.1 is.1)

pub parts_push : (image : ℕ → List ℕ) (e : Entry) (p : Part) → StandsAs e.kind (image e.file) e p →
    (entries : List Entry) (parts : List Part) → PartsStand image entries parts → PartsStand image (entries ++ e ∷ [])
    (parts ++ p ∷ [])
parts_push image e p at [] [] is = (at, tt)
parts_push image e p at [] (q ∷ parts) is = absurd is
parts_push image e p at (x ∷ entries) [] is = absurd is
parts_push image e p at (x ∷ entries) (q ∷ parts) is = (is.0, parts_push image e p at entries parts is.1)

-- the files that are named are as they were
pub files_same : (s : State) (a b : ℕ → List ℕ) → HoldsFiles a s → b (active_of s.manifest).file ≡ a
    (active_of s.manifest).file
    → AllByRecursion (λ e. b e.file ≡ a e.file) (front_of s.manifest) → HoldsFiles b s
files_same s a b files active front = record {
  parts = parts_along a b (λ e. b e.file ≡ a e.file) (λ e p same is. subst (λ (l : List ℕ). StandsAs e.kind l e p)
      (sym same) is) (front_of s.manifest) s.parts front files.parts;
  active = subst (λ (l : List ℕ). IsActiveAt l (active_of s.manifest) s.active) (sym active) files.active;
  within = files.within;
  chained = files.chained;
}

pub valid_of : (slots : Slots) (s : State) (image : ℕ → List ℕ) → IsKnown slots s image → IsValidManifest s.manifest
valid_of slots s image known = let holds = known.slots_are.current in subst IsValidManifest known.current
    holds.body.valid

pub stands_for : (slots : Slots) (s : State) (image : ℕ → List ℕ) → IsKnown slots s image → StandsFor image (reopened s)
stands_for slots s image known = record {
  force = (slots, known.current, known.slots_are);
  files = record {
    parts = known.files.parts;
    active = known.files.active;
    within = record {
      limit =
          known.files.within.limit;
      all = known.files.within.all;
    };
    chained = (
      known.files.chained.0,
      record {
        sealed =
            (known.files.chained.1).sealed;
        parts = (known.files.chained.1).parts;
        active =
            (known.files.chained.1).active;
      },
    );
  };
  at_rest = refl;
}

-- ---- files that are cut

pub keeps_shorter : (few many : ℕ) (a b : List ℕ) → few ≤ many → KeepsFront many a b → take few b ≡ take few a
keeps_shorter few many a b le keeps = shorter few many b a le keeps.front

pub part_cut : (kind : Kind) (count : ℕ) (a b : List ℕ) (e : Entry) (p : Part) → e.length ≤ count
    → KeepsFront count a b → StandsAs kind a e p → StandsAs kind b e p
part_cut Wide count a b e p le keeps is = record {
  long = omega
      (arith, keeps.long, le, is.long);
  front = keeps_shorter e.length count a b le keeps
      ∙ is.front;
  messages = is.messages;
}
part_cut Rolled count a b e p le keeps is = record {
  long = omega
      (arith, keeps.long, le, is.long);
  front = keeps_shorter e.length count a b le keeps
      ∙ is.front;
  messages = is.messages;
}
part_cut Sealed count a b e p le keeps is = record {
  long = omega (arith, keeps.long, le, is.long);
  front = keeps_shorter e.prefix count a b (omega (arith, is.count, le)) keeps ∙ is.front;
  row = row_front count e.prefix a b p.messages (omega (arith, is.count, le)) (sym keeps.front) is.row;
  count = is.count;
  messages = is.messages;
}
part_cut Active count a b e p le keeps is = is

-- one file is cut after what counts of it, wherever it is named
pub cutting : (slots : Slots) (s : State) (file count : ℕ) (a b : ℕ → List ℕ) → 3 ≤ file → file ≢
    (active_of s.manifest).file
    → AllByRecursion (λ e. (e.file ≢ file) ⊎ (e.length ≤ count)) (front_of s.manifest) → IsKnown slots s a
    → InFile file (KeepsFront count) a b → IsKnown slots s b
cutting slots s file count a b above apart front known step = record {
  slots_are = same_slots slots a b known.slots_are (step.others (file_of slots.current_slot) (λ is. omega
      (arith, is, above, slot_below slots.current_slot)))
      (step.others (file_of (other slots.current_slot)) (λ is. omega (
        arith,
        is,
        above,
        slot_below
            (other slots.current_slot),
      )));
  current = known.current;
  files = record {
    parts = parts_along a b (λ e. (e.file ≢ file) ⊎ (e.length ≤ count)) along
        (front_of s.manifest) s.parts front known.files.parts;
    active = subst (λ (l : List ℕ). IsActiveAt l (active_of s.manifest) s.active) (sym (step.others
        (active_of s.manifest).file (λ is. apart (sym is)))) known.files.active;
    within = known.files.within;
    chained = known.files.chained;
  };
}
  where
    elsewhere_same : (e : Entry) (p : Part) → e.file ≢ file → StandsAs e.kind (a e.file) e p → StandsAs e.kind
        (b e.file) e p
    elsewhere_same e p differs is = subst (λ (l : List ℕ). StandsAs e.kind l e p) (sym (step.others e.file differs)) is

    along : (e : Entry) (p : Part) → (e.file ≢ file) ⊎ (e.length ≤ count) → StandsAs e.kind (a e.file) e p
        → StandsAs e.kind (b e.file) e p
    along e p (inl differs) is = elsewhere_same e p differs is
    along e p (inr le) is = ⊎_elim
        (λ same. subst (λ (n : ℕ). StandsAs e.kind (b n) e p) (sym same)
        (part_cut e.kind count (a file) (b file) e p le step.here (subst (λ (n : ℕ). StandsAs e.kind
        (a n) e p) same is)))
        (λ differs. elsewhere_same e p differs is)
        (cases_eq e.file file)
