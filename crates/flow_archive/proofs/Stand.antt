-- What changes of an image do to what it represents.
use Rattle.std.proofs.Common.{◌≡◌, ◌≢◌, ◌⊎◌, inl, inr, ⊎_elim, ℕ, ◌<◌, ◌≤◌, true, List, [], ◌∷◌, ◌++◌, take}
use Rattle.std.proofs.Common.{refl, sym, ◌∙◌, ap, subst, arith}
use Rattle.std.specs.List.{AllByRecursion}
use Rattle.std.proofs.lemmas.Bool.{cases_eq}
use Rattle.flow_disk.specs.Disk.{InFile, Marks}
use Rattle.flow_gate.specs.Gate.{IsGated}
use Rattle.flow_gate.specs.Steps.{MayAdd, Adds}
use Rattle.flow_gate.proofs.Rows.{row_front, shorter}
use Rattle.flow_manifest.specs.declared.manifest.Kind.{Kind}
use Rattle.flow_manifest.specs.declared.manifest.Kind.TheVariants.{Wide, Rolled, Sealed, Active}
use Rattle.flow_manifest.specs.declared.manifest.Entry.{Entry}
use Rattle.flow_manifest.specs.declared.manifest.Manifest.{Manifest}
use Rattle.flow_manifest.specs.declared.slots.Slot.{Slot}
use Rattle.flow_manifest.specs.declared.slots.Slot.TheVariants.{First, Second}
use Rattle.flow_manifest.specs.declared.slots.Slots.{Slots}
use Rattle.flow_manifest.specs.Manifest.{IsValidManifest}
use Rattle.flow_manifest.specs.Following.{active_of, front_of}
use Rattle.flow_manifest.specs.Slots.{file_of, other, AreSlots}
use Rattle.flow_manifest.proofs.EntryLists.{all_both, all_by}
use Rattle.flow_manifest.proofs.ValidEntries.{IsOther, AreEntries, are_entries}
use Rattle.flow_manifest.proofs.Swaps.{same_slots}
use Rattle.flow_segment.specs.Steps.{KeepsFront}
use Rattle.flow_model.specs.State.{Part, State, appended, end_of, reopened}
use Rattle.flow_model.specs.Chain.{IsChained}
use Rattle.flow_model.specs.Standing.{IsActiveAt, StandsAs, PartsStand, IsWithinLimits}
use Rattle.flow_model.specs.Standing.{HoldsFiles, StandsFor, StandsForEither, IsKnown}
use Rattle.flow_archive.specs.Seen.{AreFrozen}

pub slot_below : (slot : Slot) → file_of slot < 3
slot_below First = omega arith
slot_below Second = omega arith

pub parts_along : (a b : ℕ → List ℕ) (P : Entry → Type 0)
    → ((e : Entry) (p : Part) → P e → StandsAs e.kind (a e.file) e p → StandsAs e.kind (b e.file) e p)
    → (entries : List Entry) (parts : List Part) → AllByRecursion P entries → PartsStand a entries parts
    → PartsStand b entries parts
parts_along a b P along [] [] all is = tt
parts_along a b P along [] (p ∷ parts) all is = is
parts_along a b P along (e ∷ entries) [] all is = is
parts_along a b P along (e ∷ entries) (p ∷ parts) all is =
    (along e p all.0 is.0, parts_along a b P along entries parts all.1 is.1)

pub parts_push : (image : ℕ → List ℕ) (e : Entry) (p : Part) → StandsAs e.kind (image e.file) e p
    → (entries : List Entry) (parts : List Part) → PartsStand image entries parts
    → PartsStand image (entries ++ e ∷ []) (parts ++ p ∷ [])
parts_push image e p at [] [] is = (at, tt)
parts_push image e p at [] (q ∷ parts) is = absurd is
parts_push image e p at (x ∷ entries) [] is = absurd is
parts_push image e p at (x ∷ entries) (q ∷ parts) is = (is.0, parts_push image e p at entries parts is.1)

pub parts_last : (image : ℕ → List ℕ) (e : Entry) (p : Part) (entries : List Entry) (parts : List Part)
    → PartsStand image (entries ++ e ∷ []) (parts ++ p ∷ []) → StandsAs e.kind (image e.file) e p
parts_last image e p [] [] is = is.0
parts_last image e p [] (q ∷ []) is = absurd is.1
parts_last image e p [] (q ∷ r ∷ parts) is = absurd is.1
parts_last image e p (x ∷ []) [] is = absurd is.1
parts_last image e p (x ∷ y ∷ entries) [] is = absurd is.1
parts_last image e p (x ∷ entries) (q ∷ parts) is = parts_last image e p entries parts is.1

-- the files that are named are as they were
pub files_same : (s : State) (a b : ℕ → List ℕ) → HoldsFiles a s
    → b (active_of s.manifest).file ≡ a (active_of s.manifest).file
    → AllByRecursion (λ e. b e.file ≡ a e.file) (front_of s.manifest) → HoldsFiles b s
files_same s a b files active front = record {
  parts = parts_along a b (λ e. b e.file ≡ a e.file)
      (λ e p same is. subst (λ (l : List ℕ). StandsAs e.kind l e p) (sym same) is)
      (front_of s.manifest) s.parts front files.parts;
  active = subst (λ (l : List ℕ). IsActiveAt l (active_of s.manifest) s.active) (sym active) files.active;
  within = files.within;
  chained = files.chained;
}

-- of a valid manifest
pub files_below : (s : State) (a b : ℕ → List ℕ) → AreEntries s.manifest → HoldsFiles a s
    → ((n : ℕ) → 3 ≤ n → n < s.manifest.next → b n ≡ a n) → HoldsFiles b s
files_below s a b are files same =
    files_same s a b files (same (active_of s.manifest).file are.active.file_from are.active.file_below)
    (all_by (IsOther s.manifest) (λ e. b e.file ≡ a e.file)
    (λ e one. same e.file one.entry.file_from one.entry.file_below) (front_of s.manifest) are.front)

pub valid_of : (slots : Slots) (s : State) (image : ℕ → List ℕ) → IsKnown slots s image → IsValidManifest s.manifest
valid_of slots s image known =
    let holds = known.slots_are.current in subst IsValidManifest known.current holds.body.valid

pub files_at_rest : (s : State) (image : ℕ → List ℕ) → HoldsFiles image s → HoldsFiles image (reopened s)
files_at_rest s image files = record {
  parts = files.parts;
  active = files.active;
  within = record { limit = files.within.limit; all = files.within.all };
  chained = (
    files.chained.0,
    record {
      sealed = (files.chained.1).sealed;
      parts = (files.chained.1).parts;
      active = (files.chained.1).active;
    },
  );
}

pub stands_for : (slots : Slots) (s : State) (image : ℕ → List ℕ) → IsKnown slots s image → StandsFor image (reopened s)
stands_for slots s image known = record {
  force = (slots, known.current, known.slots_are);
  files = files_at_rest s image known.files;
  at_rest = refl;
}

-- another file differs
pub elsewhere : (slots : Slots) (s : State) (file : ℕ) (Q : List ℕ → List ℕ → Type 0) (a b : ℕ → List ℕ)
    → s.manifest.next ≤ file → IsKnown slots s a → InFile file Q a b → IsKnown slots s b
elsewhere slots s file Q a b far known step =
    let are = are_entries s.manifest (valid_of slots s a known) in
    let above : 3 ≤ file = omega (arith, far, are.active.file_from, are.active.file_below) in
    record {
      slots_are = same_slots slots a b known.slots_are
          (step.others (file_of slots.current_slot) (λ is. omega (arith, is, above, slot_below slots.current_slot)))
          (step.others (file_of (other slots.current_slot))
          (λ is. omega (arith, is, above, slot_below (other slots.current_slot))));
      current = known.current;
      files = files_below s a b are known.files (λ n from below. step.others n (λ is. omega (arith, is, far, below)));
    }

-- the files before the active one stay frozen
pub frozen_too : (m : Manifest) (old new : ℕ → Marks) → IsValidManifest m
    → ((n : ℕ) → 3 ≤ n → n < m.next → n ≢ (active_of m).file → new n ≡ old n) → AreFrozen old (front_of m)
    → AreFrozen new (front_of m)
frozen_too m old new valid same was =
    let are = are_entries m valid in
    all_both (IsOther m) (λ e. (old e.file).frozen ≡ true) (λ e. (new e.file).frozen ≡ true)
    (λ e one is. ap (λ (k : Marks). k.frozen) (same e.file one.entry.file_from one.entry.file_below one.apart) ∙ is)
    (front_of m) are.front was

-- messages more in the active file, or none
module _ (slots : Slots) (s : State) (file end : ℕ) (more : List (List ℕ))
    (file_is : (active_of s.manifest).file ≡ file) (end_is : end_of s ≡ end) (within : IsWithinLimits (appended s more))
    (chained : IsChained (appended s more)) where
  module _ (Q : List ℕ → List ℕ → Type 0) (a b : ℕ → List ℕ) (known : IsKnown slots s a) (step : InFile file Q a b)
      (front : take end (b file) ≡ take end (a file)) where
    are : AreEntries s.manifest
    are = are_entries s.manifest (valid_of slots s a known)

    above : 3 ≤ file
    above = omega (arith, are.active.file_from, file_is)

    slots_too : AreSlots slots b
    slots_too = same_slots slots a b known.slots_are
        (step.others (file_of slots.current_slot) (λ is. omega (arith, is, above, slot_below slots.current_slot)))
        (step.others (file_of (other slots.current_slot))
        (λ is. omega (arith, is, above, slot_below (other slots.current_slot))))

    parts_too : PartsStand b (front_of s.manifest) s.parts
    parts_too = parts_along a b (IsOther s.manifest)
        (λ e p one is. subst (λ (l : List ℕ). StandsAs e.kind l e p)
        (sym (step.others e.file (λ same. one.apart (same ∙ sym file_is)))) is)
        (front_of s.manifest) s.parts are.front known.files.parts

    front_too : take (active_of s.manifest).prefix (b file) ≡ s.active.front
    front_too =
        shorter (active_of s.manifest).prefix end (b file) (a file) (omega (arith, end_is)) front
        ∙ ap (λ (n : ℕ). take (active_of s.manifest).prefix (a n)) (sym file_is) ∙ known.files.active.front

    gated_was : IsGated (a file) (active_of s.manifest).prefix s.active.messages
    gated_was = subst (λ (n : ℕ). IsGated (a n) (active_of s.manifest).prefix s.active.messages) file_is
        known.files.active.gated

    pub with_none : IsGated (b file) (active_of s.manifest).prefix s.active.messages → IsKnown slots s b
    with_none gated = record {
      slots_are = slots_too;
      current = known.current;
      files = record {
        parts = parts_too;
        active = subst (λ (n : ℕ). IsActiveAt (b n) (active_of s.manifest) s.active) (sym file_is)
            (record { front = front_too; gated = gated });
        within = known.files.within;
        chained = known.files.chained;
      };
    }

    pub with_all : IsGated (b file) (active_of s.manifest).prefix (s.active.messages ++ more)
        → IsKnown slots (appended s more) b
    with_all gated = record {
      slots_are = slots_too;
      current = known.current;
      files = record {
        parts = parts_too;
        active = subst (λ (n : ℕ). IsActiveAt (b n) (active_of s.manifest)
            (record { front = s.active.front; messages = s.active.messages ++ more })) (sym file_is)
            (record { front = front_too; gated = gated });
        within = within;
        chained = chained;
      };
    }

  pub adding : (a b : ℕ → List ℕ) → IsKnown slots s a → InFile file (MayAdd end more) a b
      → StandsForEither (reopened s) (reopened (appended s more)) b
  adding a b known step = ⊎_elim
      (λ none. inl (stands_for slots s b (with_none (MayAdd end more) a b known step step.here.front none)))
      (λ all. inr (stands_for slots (appended s more) b
      (with_all (MayAdd end more) a b known step step.here.front all)))
      (step.here.lists (active_of s.manifest).prefix s.active.messages
      (gated_was (MayAdd end more) a b known step step.here.front) end_is)

  pub added : (a b : ℕ → List ℕ) → IsKnown slots s a → InFile file (Adds end more) a b
      → IsKnown slots (appended s more) b
  added a b known step = with_all (Adds end more) a b known step step.here.front
      (step.here.lists (active_of s.manifest).prefix s.active.messages
      (gated_was (Adds end more) a b known step step.here.front) end_is)

-- ---- a file that is cut

keeps_shorter : (few many : ℕ) (a b : List ℕ) → few ≤ many → KeepsFront many a b → take few b ≡ take few a
keeps_shorter few many a b le keeps = shorter few many b a le keeps.front

part_cut : (kind : Kind) (count : ℕ) (a b : List ℕ) (e : Entry) (p : Part) → e.length ≤ count → KeepsFront count a b
    → StandsAs kind a e p → StandsAs kind b e p
part_cut Wide count a b e p le keeps is = record {
  long = omega (arith, keeps.long, le, is.long);
  front = keeps_shorter e.length count a b le keeps ∙ is.front;
  messages = is.messages;
}
part_cut Rolled count a b e p le keeps is = record {
  long = omega (arith, keeps.long, le, is.long);
  front = keeps_shorter e.length count a b le keeps ∙ is.front;
  messages = is.messages;
}
part_cut Sealed count a b e p le keeps is = record {
  long = omega (arith, keeps.long, le, is.long);
  front = keeps_shorter e.prefix count a b (omega (arith, is.count, le)) keeps ∙ is.front;
  row = row_front count e.prefix a b p.messages (omega (arith, is.count, le)) (sym keeps.front) is.row;
  count = is.count;
  messages = is.messages;
}
part_cut Active count a b e p le keeps is = is

-- one file is cut after what counts of it, wherever it is named
pub cutting : (slots : Slots) (s : State) (file count : ℕ) (a b : ℕ → List ℕ) → 3 ≤ file
    → file ≢ (active_of s.manifest).file
    → AllByRecursion (λ e. (e.file ≢ file) ⊎ (e.length ≤ count)) (front_of s.manifest) → IsKnown slots s a
    → InFile file (KeepsFront count) a b → IsKnown slots s b
cutting slots s file count a b above apart front known step = record {
  slots_are = same_slots slots a b known.slots_are
      (step.others (file_of slots.current_slot) (λ is. omega (arith, is, above, slot_below slots.current_slot)))
      (step.others (file_of (other slots.current_slot))
      (λ is. omega (arith, is, above, slot_below (other slots.current_slot))));
  current = known.current;
  files = record {
    parts = parts_along a b (λ e. (e.file ≢ file) ⊎ (e.length ≤ count)) along (front_of s.manifest) s.parts front
        known.files.parts;
    active = subst (λ (l : List ℕ). IsActiveAt l (active_of s.manifest) s.active)
        (sym (step.others (active_of s.manifest).file (λ is. apart (sym is)))) known.files.active;
    within = known.files.within;
    chained = known.files.chained;
  };
}
  where
    elsewhere_same : (e : Entry) (p : Part) → e.file ≢ file → StandsAs e.kind (a e.file) e p
        → StandsAs e.kind (b e.file) e p
    elsewhere_same e p differs is = subst (λ (l : List ℕ). StandsAs e.kind l e p) (sym (step.others e.file differs)) is

    along : (e : Entry) (p : Part) → (e.file ≢ file) ⊎ (e.length ≤ count) → StandsAs e.kind (a e.file) e p
        → StandsAs e.kind (b e.file) e p
    along e p (inl differs) is = elsewhere_same e p differs is
    along e p (inr le) is = ⊎_elim
        (λ same. subst (λ (n : ℕ). StandsAs e.kind (b n) e p) (sym same)
        (part_cut e.kind count (a file) (b file) e p le step.here
        (subst (λ (n : ℕ). StandsAs e.kind (a n) e p) same is)))
        (λ differs. elsewhere_same e p differs is)
        (cases_eq e.file file)
