-- The stored files after a stop, seen by number.
use Rattle.std.proofs.Common.{◌≡◌, ℕ, suc, ◌<◌, Bool, true, false, List, [], ◌∷◌, ◌++◌, length, take, drop, get_or}
use Rattle.std.proofs.Common.{refl, sym, ◌∙◌, ap, arith, if◌then◌else◌, ◌==◌}
use Rattle.std.proofs.lemmas.Grind.{common_steps}
use Rattle.flow_disk.specs.Disk.{Held, Marks, settled_at}
use Rattle.flow_memory_disk.specs.declared.choice.Choice.{Choice}
use Rattle.flow_memory_disk.specs.declared.choice.Choice.TheVariants.{Kept, Settled, Filled, Longer}
use Rattle.flow_memory_disk.specs.declared.record.Record.{Record}
use Rattle.flow_memory_disk.specs.declared.stored.StoredFile.{StoredFile}
use Rattle.flow_memory_disk.specs.Record.{calls_of}
use Rattle.flow_memory_disk.specs.Stored.{looked, held_in, first_in, marks_in, room_in, unwritten, AreNamedAlike}
use Rattle.flow_memory_disk.specs.Stopped.{image_of, stopped}
use Rattle.flow_memory_disk.specs.Stopping.{AllStopped}
use Rattle.flow_memory_disk.specs.Memory.{story_in}
use Rattle.flow_memory_disk.proofs.Noted.{Replays}
use Rattle.flow_memory_disk.proofs.Stories.{same_story}

-- all of a list written over another of its length
pub all_of : (old new : List StoredFile) (n : ℕ) → length new ≡ length old → n ≡ length old
    → take n (new ++ drop (length new) old) ≡ new
all_of old new n long is = grind (arith, common_steps, long, is)

-- two lists of files of the same numbers, where one view of one shows what another shows of the other
looked_same : {A : Type 0} (view other : StoredFile → A) (none : A) (files new : List StoredFile)
    → length new ≡ length files
    → ((k : ℕ) (d : StoredFile) → k < length files → ((get_or new k d).number ≡ (get_or files k d).number)
    × (view (get_or new k d) ≡ other (get_or files k d)))
    → (n : ℕ) → looked view none new n ≡ looked other none files n
looked_same view other none [] [] long each n = refl
looked_same view other none [] (file ∷ new) long each n = absurd (omega (arith, long))
looked_same view other none (file ∷ files) [] long each n = absurd (omega (arith, long))
looked_same view other none (file ∷ files) (to ∷ new) long each n =
    ap (λ (m : ℕ). if m == n then view to else looked view none new n) (each 0 file (omega arith)).0
    ∙ ap (λ x. if file.number == n then x else looked view none new n) (each 0 file (omega arith)).1
    ∙ ap (λ x. if file.number ==
    n then other file else x)
    (looked_same view other none files new (omega (arith, long)) (λ k d lt. each (suc k) d (omega (arith, lt))) n)

-- a view that is a function of what the file holds and of whether it is listed
looked_by : {A : Type 0} (f : Held → Bool → A) (files : List StoredFile) (n : ℕ)
    → looked (λ file. f (held_in file) file.listed) (f (settled_at []) false) files n ≡ f
    (looked held_in (settled_at []) files n) (looked marks_in unwritten files n).listed
looked_by f [] n = refl
looked_by f (file ∷ files) n =
    elim (file.number == n) as
    (λ (b : Bool). (if b then f (held_in file) file.listed else looked (λ g. f (held_in g) g.listed)
    (f (settled_at []) false) files n)
    ≡ f (if b then held_in file else looked held_in (settled_at []) files n)
    (if b then marks_in file else looked marks_in unwritten files n).listed) [
      | true ↦ refl
      | false ↦ looked_by f files n
    ]

nothing : (choice : Choice) → image_of choice (settled_at []) ≡ []
nothing Kept = refl
nothing Settled = refl
nothing (Filled octets) = refl
nothing (Longer octets) = refl

module _ (choice : Choice) (files new : List StoredFile) (is : AllStopped choice files new) where
  first_after : (n : ℕ) → looked first_in [] new n ≡ image_of choice (looked held_in (settled_at []) files n)
  first_after n = ap (λ (l : List ℕ). looked first_in l new n) (sym (nothing choice))
      ∙ looked_same first_in (λ file. image_of choice (held_in file))
      (image_of choice (settled_at [])) files new is.long
      (λ k d lt. ((is.each k d lt).number, (is.each k d lt).first)) n
      ∙ looked_by (λ h b. image_of choice h) files n

  held_after : (n : ℕ) → looked held_in (settled_at []) new n ≡ settled_at
      (image_of choice (looked held_in (settled_at []) files n))
  held_after n = ap (λ (l : List ℕ). looked held_in (settled_at l) new n) (sym (nothing choice))
      ∙ looked_same held_in (λ file. settled_at (image_of choice (held_in file)))
      (settled_at (image_of choice (settled_at []))) files new is.long
      (λ k d lt. ((is.each k d lt).number, (is.each k d lt).held)) n
      ∙ looked_by (λ h b. settled_at (image_of choice h)) files n

  marks_after : (n : ℕ)
      → looked marks_in unwritten new n ≡ record {
        size =
            length (image_of choice (looked held_in (settled_at []) files n));
        settled = true;
        frozen = false;
        listed =
            (looked marks_in unwritten files n).listed;
      }
  marks_after n =
      let after : Held → Bool → Marks =
      λ h listed. record { size = length (image_of choice h); settled = true; frozen = false; listed = listed } in
      ap (λ (l : List ℕ). looked marks_in (record {
        size = length l;
        settled = true;
        frozen = false;
        listed =
            false;
      }) new n) (sym (nothing choice))
      ∙ looked_same marks_in (λ file. after (held_in file) file.listed) (after (settled_at []) false) files new is.long
      (λ k d lt. ((is.each k d lt).number, (is.each k d lt).marks)) n ∙ looked_by after files n

  pub fits_after : (fit : ℕ × ℕ) → ((n : ℕ) → looked room_in fit files n ≡ fit)
      → (n : ℕ) → looked room_in fit new n ≡ fit
  fits_after fit fits n = looked_same room_in room_in fit files new is.long
      (λ k d lt. ((is.each k d lt).number, (is.each k d lt).room)) n ∙ fits n

  pub named_after : AreNamedAlike files new
  named_after = record {
    each = looked_same (λ f. true) (λ f. true) false files new is.long (λ k d lt. ((is.each k d lt).number, refl));
    count = is.long;
  }

  pub replays_after : Replays new []
  replays_after n = held_after n ∙ sym (ap settled_at (first_after n))

  pub story_after : (log cleared : Record) → Replays files (calls_of log.deeds.items log.octets.items)
      → calls_of cleared.deeds.items cleared.octets.items ≡ []
      → story_in new cleared ≡ stopped (story_in files log) choice
  unfolding story_in
  story_after log cleared replays none = same_story _ _ (λ n. first_after n ∙ ap (image_of choice) (replays n)) none
      (λ n. marks_after n ∙ ap (λ (h : Held). record {
        size = length (image_of choice h);
        settled = true;
        frozen =
            false;
        listed = (looked marks_in unwritten files n).listed;
      }) (replays n))
