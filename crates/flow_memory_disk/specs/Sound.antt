-- Whatever the calls were, a file reads as one of its images, and a fast end is where it was last settled.
use Rattle.std.specs.Prelude.{◌≡◌, ℕ, ◌+◌, ◌-◌, ◌<◌, ◌≤◌, min, Bool, true, false, ◌||◌, nat_lt, List, [], ◌∷◌, ◌++◌}
use Rattle.std.specs.Prelude.{length, take, drop, get_or, if◌then◌else◌, ◌==◌}
use Rattle.std.proofs.Common.{refl, sym, ◌∙◌, ap, subst, arith, ⊎_elim, length-append, length-take, length-drop}
use Rattle.std.proofs.lemmas.List.{get_or-take, get_or-drop, get_or_append_left, get_or-append_right, ext_get_or}
use Rattle.std.proofs.lemmas.List.{take_all}
use Rattle.std.proofs.lemmas.Bool.{false≢true}
use Rattle.std.proofs.lemmas.Bool.Decides.{nat_tests}
use Rattle.flow_disk.specs.Disk.{Held, IsImage, IsDiskImage, settled_at, touched_at, loosened_at, given_up, put_at}
use Rattle.flow_memory_disk.specs.Calls.{Call, written, shortened, settled, abandoned, removed, made, after}
use Rattle.flow_memory_disk.specs.Calls.{file_of_call}
use Rattle.flow_memory_disk.specs.Calls.{replayed, Story, held_of, LeftSince}

pub record IsSound (file : Held) : Type 0 where
  pub image : IsImage file file.reads
  pub within : file.fast ≤ length file.last
  pub whole : file.loose ≡ false → length file.last ≡ file.fast

pub settled_image : (octets : List ℕ) → IsImage (settled_at octets) octets
settled_image octets = record { long = omega arith; end = λ shut. refl; same = λ place lt outside. refl }

pub settled_one : (octets image : List ℕ) → IsImage (settled_at octets) image → image ≡ octets
settled_one octets image is =
    ext_get_or 0 image octets (is.end refl) (λ place lt. is.same place (omega (arith, lt, is.end refl)) tt)

pub settled_sound : (octets : List ℕ) → IsSound (settled_at octets)
settled_sound octets = record { image = settled_image octets; within = omega arith; whole = λ shut. refl }

pub length-put_at : (old : List ℕ) (at : ℕ) (octets : List ℕ)
    → length (put_at old at octets) ≡ min at (length old) + length octets + (length old - (at + length octets))
length-put_at old at octets =
    omega (
      arith,
      length-append (take at old ++ octets) (drop (at + length octets) old),
      length-append (take at old) octets,
      length-take at old,
      length-drop (at + length octets) old,
    )

put_before : (old : List ℕ) (at : ℕ) (octets : List ℕ) (place : ℕ) → place < at → place < length old
    → get_or (put_at old at octets) place 0 ≡ get_or old place 0
put_before old at octets place lt within =
    get_or_append_left (take at old ++ octets) (drop (at + length octets) old) 0 place
    (omega (arith, length-append (take at old) octets, length-take at old, lt, within))
    ∙ get_or_append_left (take at old) octets 0 place (omega (arith, length-take at old, lt, within))
    ∙ get_or-take at old place 0 lt

put_behind : (old : List ℕ) (at : ℕ) (octets : List ℕ) (place : ℕ) → at + length octets ≤ place → place < length old
    → get_or (put_at old at octets) place 0 ≡ get_or old place 0
put_behind old at octets place le within =
    get_or-append_right (take at old ++ octets) (drop (at + length octets) old) (at + length octets) place 0
    (omega (arith, length-append (take at old) octets, length-take at old, le, within)) le
    ∙ get_or-drop (at + length octets) old (place - (at + length octets)) 0
    ∙ ap (λ (n : ℕ). get_or old n 0) (omega (arith, le))

-- a write
written_image : (h : Held) (at : ℕ) (octets : List ℕ) → IsImage h h.reads
    → IsImage (touched_at h at (length octets) (put_at h.reads at octets)) (put_at h.reads at octets)
written_image h at octets is = record {
  long = omega (arith, length-put_at h.reads at octets, is.long);
  end = tight;
  same = λ place lt outside. ⊎_elim
      (λ before. put_before h.reads at octets place before (omega (arith, lt, is.long)) ∙ is.same place lt outside.1)
      (λ behind. put_behind h.reads at octets place behind (omega (arith, lt, is.long))
      ∙ is.same place lt outside.1) outside.0;
}
  where
    not_loose : (a b : Bool) → (a || b) ≡ false → (a ≡ false) × (b ≡ false)
    not_loose false false is = (refl, refl)
    not_loose false true is = absurd (false≢true (sym is))
    not_loose true b is = absurd (false≢true (sym is))

    not_less : (a b : ℕ) → nat_lt a b ≡ false → b ≤ a
    not_less a b is = grind (arith, nat_tests)

    tight : (h.loose || nat_lt h.fast (at + length octets)) ≡ false → length (put_at h.reads at octets) ≡ h.fast
    tight shut = let both = not_loose h.loose (nat_lt h.fast (at + length octets)) shut in
        omega (arith, length-put_at h.reads at octets, is.end both.0, not_less h.fast (at + length octets) both.1)

-- a cut
cut_image : (h : Held) (count : ℕ) → IsImage h h.reads
    → IsImage (loosened_at h count (take count h.reads)) (take count h.reads)
cut_image h count is = record {
  long = omega (arith, length-take count h.reads, is.long);
  end = λ shut. absurd (false≢true (sym shut));
  same = λ place lt outside. get_or-take count h.reads place 0 (omega (arith, lt))
      ∙ is.same place (omega (arith, lt)) outside;
}

-- a removal that has begun
given_image : (h : Held) (reads : List ℕ) → IsImage (given_up h reads) reads
given_image h reads = record {
  long = omega arith;
  end = λ shut. absurd (false≢true (sym shut));
  same =
      λ place lt outside. absurd (omega (arith, lt));
}

not_loose : (a b : Bool) → (a || b) ≡ false → a ≡ false
not_loose false b is = refl
not_loose true b is = is

made_sound : (h : Held) (call : Call) → IsSound h → IsSound (made h call)
made_sound h (written n at octets) sound =
    record {
      image = written_image h at octets sound.image;
      within = sound.within;
      whole =
          λ shut. sound.whole (not_loose h.loose (nat_lt h.fast (at + length octets)) shut);
    }
made_sound h (shortened n count) sound =
    record {
      image = cut_image h count sound.image;
      within = omega (arith, sound.within);
      whole =
          λ shut. absurd (false≢true (sym shut));
    }
made_sound h (settled n) sound = settled_sound h.reads
made_sound h (abandoned n) sound =
    record { image = given_image h h.reads; within = omega arith; whole = λ shut. absurd (false≢true (sym shut)) }
made_sound h (removed n) sound = settled_sound []

sound_if : (b : Bool) (g h : Held) → IsSound g → IsSound h → IsSound (if b then g else h)
sound_if true g h first second = first
sound_if false g h first second = second

pub sound_replayed : (n : ℕ) (h : Held) (calls : List Call) → IsSound h → IsSound (replayed n h calls)
sound_replayed n h [] sound = sound
sound_replayed n h (call ∷ calls) sound =
    sound_replayed n (after n h call) calls
    (sound_if (n == file_of_call call) (made h call) h (made_sound h call sound) sound)

pub sound : (story : Story) (n : ℕ) → IsSound (held_of story n)
sound story n = sound_replayed n (settled_at (story.base n)) story.calls (settled_sound (story.base n))

-- the laws on moments
pub now_counts : (story : Story) (t : ℕ) (image : ℕ → List ℕ) → t ≤ length story.calls
    → IsDiskImage (held_of story) image → LeftSince story t image
now_counts story t image le is = (
  length story.calls,
  le,
  omega arith,
  λ n. subst (λ (l : List Call). IsImage (replayed n (settled_at (story.base n)) l) (image n))
      (sym (take_all (length story.calls) story.calls (omega arith))) (is n),
)

pub now_alone : (story : Story) (image : ℕ → List ℕ) → LeftSince story (length story.calls) image
    → IsDiskImage (held_of story) image
now_alone story image left n =
    subst (λ (l : List Call). IsImage (replayed n (settled_at (story.base n)) l) (image n))
    (take_all left.0 story.calls left.1) (left.3 n)
