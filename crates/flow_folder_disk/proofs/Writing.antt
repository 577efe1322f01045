-- A change of a file, after calls that left it as it was.
use Rattle.std.proofs.Common.{◌≡◌, ◌≢◌, ℕ, List, length, take, ◌∙◌, subst, Result, Ok, Err, OnOk}
use Rattle.std.proofs.Common.{OnErr}
use Rattle.std.specs.Prelude.{IsErr}
use Rattle.std.proofs.lemmas.Bool.{false≢true}
use Rattle.flow_disk.specs.Disk.{Held, IsImage, IsWithin, touched_at, loosened_at, given_up, put_at}
use Rattle.flow_disk.specs.Files.{Writes, Cuts, while_writing, while_cutting, while_removing}
use Rattle.flow_disk.specs.Moments.{Passes, Covers}
use Rattle.flow_directory.specs.File.{File, held_of}
use Rattle.flow_folder_disk.specs.Known.{IsSeen, Leaves}
use Rattle.flow_folder_disk.proofs.Leaving.{leaves_one, leaves_change, leaves_wider, covers_change, touched_more}
use Rattle.flow_folder_disk.proofs.Leaving.{loosened_more, given_all}

-- the other files, by what is held of them
held_others : (old mid new : ℕ → File) (file : ℕ) → ((n : ℕ) → n ≢ file → IsSeen (old n) (mid n))
    → ((n : ℕ) → n ≢ file → (new n).held ≡ (mid n).held) → (n : ℕ) → n ≢ file → (new n).held ≡ (old n).held
held_others old mid new file seen others n differs = others n differs ∙ (seen n differs).held

module _ (old mid new : ℕ → File) (file number : ℕ) (is : number ≡ file) (same : (mid file).held ≡ (old file).held)
    (seen : (n : ℕ) → n ≢ file → IsSeen (old n) (mid n)) where
  pub writes_after : {T E : Type 0} (at : ℕ) (octets : List ℕ) (r : Result T E)
      → Writes (held_of mid) (held_of new) number at octets r → Writes (held_of old) (held_of new) file at octets r
  writes_after at octets r writes =
      let there : Writes (held_of mid) (held_of new) file at octets r
      = subst (λ (k : ℕ). Writes (held_of mid) (held_of new) k at octets r) is writes in
      record {
        done = subst (λ (h : Held). OnOk r ((new file).held ≡ touched_at h at (length octets)
            (put_at h.reads at octets))) same
            there.done;
        failed = subst (λ (h : Held). OnErr r (IsWithin (new file).held (touched_at h at (length octets) h.reads))) same
            there.failed;
        others = held_others old mid new file seen there.others;
      }

  pub cuts_after : {T E : Type 0} (count : ℕ) (r : Result T E)
      → Cuts (held_of mid) (held_of new) number count r → Cuts (held_of old) (held_of new) file count r
  cuts_after count r cuts =
      let there : Cuts (held_of mid) (held_of new) file count r
      = subst (λ (k : ℕ). Cuts (held_of mid) (held_of new) k count r) is cuts in
      record {
        done = subst (λ (h : Held). OnOk r ((new file).held ≡ loosened_at h count (take count h.reads))) same
            there.done;
        failed = subst (λ (h : Held). OnErr r (IsWithin (new file).held (loosened_at h count h.reads))) same
            there.failed;
        others = held_others old mid new file seen there.others;
      }

-- it failed before it was begun
module _ (old new : ℕ → File) (file : ℕ) (same : (new file).held ≡ (old file).held)
    (seen : (n : ℕ) → n ≢ file → IsSeen (old n) (new n)) where
  pub writes_not : {T E : Type 0} (at : ℕ) (octets : List ℕ) (r : Result T E) → IsErr r
      → Writes (held_of old) (held_of new) file at octets r
  writes_not at octets (Ok x) is = absurd (false≢true is)
  writes_not at octets (Err e) is = record {
    done = tt;
    failed = λ image among. touched_more (old file).held at (length octets) (old file).held.reads image
        (subst (λ (h : Held). IsImage h image) same among);
    others = λ n differs. (seen n differs).held;
  }

  pub cuts_not : {T E : Type 0} (count : ℕ) (r : Result T E) → IsErr r
      → Cuts (held_of old) (held_of new) file count r
  cuts_not count (Ok x) is = absurd (false≢true is)
  cuts_not count (Err e) is = record {
    done = tt;
    failed = λ image among. loosened_more (old file).held count (old file).held.reads image
        (subst (λ (h : Held). IsImage h image) same among);
    others = λ n differs. (seen n differs).held;
  }

module _ {D : Type 0} (files : D → ℕ → File) (moment : D → ℕ) (left : D → ℕ → (ℕ → List ℕ) → Type 0) where
  module _ (a b c : D) (file : ℕ) (first : Leaves files moment left a b file (held_of (files a)))
      (same : (files b file).held ≡ (files a file).held) where
    pub leaves_write : (at : ℕ) (octets : List ℕ)
        → Leaves files moment left b c file (while_writing (held_of (files b)) file at octets)
        → Leaves files moment left a c file (while_writing (held_of (files a)) file at octets)
    leaves_write at octets second = leaves_change files moment left a b c file first same
        (λ h. touched_at h at (length octets) h.reads) second
        (λ image is. touched_more (files a file).held at (length octets) (files a file).held.reads image is)

    pub leaves_cut : (count : ℕ) → Leaves files moment left b c file (while_cutting (held_of (files b)) file count)
        → Leaves files moment left a c file (while_cutting (held_of (files a)) file count)
    leaves_cut count second = leaves_change files moment left a b c file first same
        (λ h. loosened_at h count h.reads) second
        (λ image is. loosened_more (files a file).held count (files a file).held.reads image is)

    pub leaves_remove : Leaves files moment left b c file (while_removing (held_of (files b)) file)
        → Leaves files moment left a c file (while_removing (held_of (files a)) file)
    leaves_remove second = leaves_change files moment left a b c file first same (λ h. given_up h h.reads) second
        (λ image is. given_all (files a file).held (files a file).held.reads image)

    pub covers_write : (at : ℕ) (octets : List ℕ)
        → Covers (moment b) (left c) (while_writing (held_of (files b)) file at octets)
        → Covers (moment a) (left c) (while_writing (held_of (files a)) file at octets)
    covers_write at octets covers = covers_change files moment left a b c file first same
        (λ h. touched_at h at (length octets) h.reads) covers

    pub covers_cut : (count : ℕ) → Covers (moment b) (left c) (while_cutting (held_of (files b)) file count)
        → Covers (moment a) (left c) (while_cutting (held_of (files a)) file count)
    covers_cut count covers = covers_change files moment left a b c file first same (λ h. loosened_at h count h.reads)
        covers

  -- it wasn't begun
  module _ (a b : D) (file : ℕ) (first : Leaves files moment left a b file (held_of (files a))) where
    pub leaves_no_write : (at : ℕ) (octets : List ℕ)
        → Leaves files moment left a b file (while_writing (held_of (files a)) file at octets)
    leaves_no_write at octets = leaves_wider files moment left a b file
        (touched_at (files a file).held at (length octets) (files a file).held.reads)
        (λ image is. touched_more (files a file).held at (length octets) (files a file).held.reads image is) first

    pub leaves_no_cut : (count : ℕ) → Leaves files moment left a b file (while_cutting (held_of (files a)) file count)
    leaves_no_cut count = leaves_wider files moment left a b file
        (loosened_at (files a file).held count (files a file).held.reads)
        (λ image is. loosened_more (files a file).held count (files a file).held.reads image is) first

    pub leaves_no_removal : Leaves files moment left a b file (while_removing (held_of (files a)) file)
    leaves_no_removal = leaves_wider files moment left a b file
        (given_up (files a file).held (files a file).held.reads)
        (λ image is. given_all (files a file).held (files a file).held.reads image) first

-- a change of a file that is named by its number in what is pending
module _ {D : Type 0} (files : D → ℕ → File) (moment : D → ℕ) (left : D → ℕ → (ℕ → List ℕ) → Type 0) (a b : D)
    (number file : ℕ) (is : number ≡ file) (others : (n : ℕ) → n ≢ number → files b n ≡ files a n) where
  pub leaves_written : (at : ℕ) (octets : List ℕ)
      → Passes moment left a b (while_writing (held_of (files a)) number at octets)
      → Leaves files moment left a b file (while_writing (held_of (files a)) file at octets)
  leaves_written at octets time =
      subst (λ (k : ℕ). Leaves files moment left a b k (while_writing (held_of (files a)) k at octets)) is
      (leaves_one files moment left a b number (while_writing (held_of (files a)) number at octets) others time)

  pub leaves_truncated : (count : ℕ) → Passes moment left a b (while_cutting (held_of (files a)) number count)
      → Leaves files moment left a b file (while_cutting (held_of (files a)) file count)
  leaves_truncated count time =
      subst (λ (k : ℕ). Leaves files moment left a b k (while_cutting (held_of (files a)) k count)) is
      (leaves_one files moment left a b number (while_cutting (held_of (files a)) number count) others time)

  pub leaves_settled : Passes moment left a b (held_of (files a))
      → Leaves files moment left a b file (held_of (files a))
  leaves_settled time = subst (λ (k : ℕ). Leaves files moment left a b k (held_of (files a))) is
      (leaves_one files moment left a b number (held_of (files a)) others time)
