-- What one recorded call makes of files, images and moments.
use Rattle.std.proofs.Common.{◌≡◌, ◌≢◌, inl, inr, ⊎_elim, ℕ, ◌+◌, ◌≤◌, Bool, true, false, List, [], ◌∷◌, length, refl}
use Rattle.std.proofs.Common.{sym, ◌∙◌, ap, subst, arith, OnOk, OnErr}
use Rattle.std.specs.Prelude.{Result, Ok, Err, ◌||◌, nat_lt}
use Rattle.std.proofs.lemmas.Bool.{cases_eq, cases_lt, false≢true}
use Rattle.std.proofs.lemmas.List.{take-append-le, take_all, length_push}
use Rattle.flow_disk.specs.Disk.{Held, IsImage, IsDiskImage, IsWithin, changed, settled_at, touched_at, loosened_at}
use Rattle.flow_disk.specs.Disk.{given_up}
use Rattle.flow_disk.specs.Moments.{Elapses, Covers}
use Rattle.flow_disk.specs.Files.{Makes}
use Rattle.flow_disk.proofs.Images.{changed_here, changed_there}
use Rattle.flow_memory_disk.specs.Calls.{Call, Story, abandoned, removed, made, file_of_call, replayed, held_of}
use Rattle.flow_memory_disk.specs.Calls.{held_at}
use Rattle.flow_memory_disk.specs.Calls.{LeftSince, told, frozen_in}
use Rattle.flow_memory_disk.specs.Sound.{sound, settled_one}
use Rattle.flow_memory_disk.proofs.Noted.{replayed_push, after_here, after_there}

pub held_here : (old : Story) (call : Call)
    → held_of (told old call) (file_of_call call) ≡ made (held_of old (file_of_call call)) call
held_here old call = replayed_push (file_of_call call) (settled_at (old.base (file_of_call call))) old.calls call
    ∙ after_here (file_of_call call) (held_of old (file_of_call call)) call refl

pub held_there : (old : Story) (call : Call) (n : ℕ) → n ≢ file_of_call call → held_of (told old call) n ≡ held_of old n
held_there old call n differs = replayed_push n (settled_at (old.base n)) old.calls call
    ∙ after_there n (held_of old n) call differs

pub makes : {T E : Type 0} (old new : Story) (call : Call) (left : Held) (result : Result T E)
    → OnOk result (new ≡ told old call) → OnErr result (new ≡ old) → IsWithin (held_of old (file_of_call call)) left
    → Makes (held_of old) (held_of new) (file_of_call call) (made (held_of old (file_of_call call)) call) left result
makes old new call left (Ok v) ok err within = record {
  done = ap (λ (s : Story). held_of s (file_of_call call)) ok ∙ held_here old call;
  failed = tt;
  others = λ n differs. ap (λ (s : Story). held_of s n) ok ∙ held_there old call n differs;
}
makes old new call left (Err e) ok err within = record {
  done = tt;
  failed = λ octets is. within octets (subst (λ (s : Story). IsImage (held_of s (file_of_call call)) octets) err is);
  others = λ n differs. ap (λ (s : Story). held_of s n) err;
}

-- an image of files of which one was changed, by whether it is that one
inside : (files new : ℕ → Held) (file : ℕ) (left : Held) → IsWithin (new file) left
    → ((n : ℕ) → n ≢ file → new n ≡ files n) → (image : ℕ → List ℕ) → IsDiskImage new image
    → IsDiskImage (changed files file left) image
inside files new file left within others image is n = ⊎_elim
    (λ same. subst (λ (k : ℕ). IsImage (changed files file left k) (image k)) (sym same)
    (subst (λ (h : Held). IsImage h (image file)) (sym (changed_here files file left))
    (within (image file) (is file))))
    (λ differs. subst (λ (h : Held). IsImage h (image n)) (others n differs
    ∙ sym (changed_there files file left n differs)) (is n))
    (cases_eq n file)

outside : (files new : ℕ → Held) (file : ℕ) (left : Held) → IsWithin left (new file)
    → ((n : ℕ) → n ≢ file → new n ≡ files n) → (image : ℕ → List ℕ) → IsDiskImage (changed files file left) image
    → IsDiskImage new image
outside files new file left within others image is n = ⊎_elim
    (λ same. subst (λ (k : ℕ). IsImage (new k) (image k)) (sym same)
    (within (image file) (subst (λ (h : Held). IsImage h (image file)) (changed_here files file left) (is file))))
    (λ differs. subst (λ (h : Held). IsImage h (image n)) (changed_there files file left n differs
    ∙ sym (others n differs)) (is n))
    (cases_eq n file)

-- moments
earlier : (old : Story) (call : Call) (k : ℕ) (image : ℕ → List ℕ) → k ≤ length old.calls
    → IsDiskImage (held_at (told old call) k) image → IsDiskImage (held_at old k) image
earlier old call k image le is n =
    subst (λ (l : List Call). IsImage (replayed n (settled_at (old.base n)) l) (image n))
    (take-append-le k old.calls (call ∷ []) le) (is n)

still : (old : Story) (call : Call) (k : ℕ) (image : ℕ → List ℕ) → k ≤ length old.calls
    → IsDiskImage (held_at old k) image → IsDiskImage (held_at (told old call) k) image
still old call k image le is n =
    subst (λ (l : List Call). IsImage (replayed n (settled_at (old.base n)) l) (image n))
    (sym (take-append-le k old.calls (call ∷ []) le)) (is n)

latest : (story : Story) (k : ℕ) (image : ℕ → List ℕ) → length story.calls ≤ k → IsDiskImage (held_at story k) image
    → IsDiskImage (held_of story) image
latest story k image le is n =
    subst (λ (l : List Call). IsImage (replayed n (settled_at (story.base n)) l) (image n)) (take_all k story.calls le)
    (is n)

pub now_is : (story : Story) (t : ℕ) (image : ℕ → List ℕ) → t ≤ length story.calls → IsDiskImage (held_of story) image
    → LeftSince story t image
now_is story t image le is = (
  length story.calls,
  le,
  omega arith,
  λ n. subst (λ (l : List Call). IsImage (replayed n (settled_at (story.base n)) l) (image n))
      (sym (take_all (length story.calls) story.calls (omega arith))) (is n),
)

pub keeps_told : (old : Story) (call : Call) (t : ℕ) (image : ℕ → List ℕ) → LeftSince old t image
    → LeftSince (told old call) t image
keeps_told old call t image left =
    (left.0, left.1, omega (arith, left.2, length_push old.calls call), still old call left.0 image left.2 left.3)

pub elapses_told : (old : Story) (call : Call) (left : Held)
    → IsWithin (made (held_of old (file_of_call call)) call) left
    → Elapses (length old.calls) (length (told old call).calls) (LeftSince old) (LeftSince (told old call))
    (changed (held_of old) (file_of_call call) left)
elapses_told old call left within = record {
  later = omega (arith, length_push old.calls call);
  nothing_else = λ t image le since. ⊎_elim
      (λ early. inl (
        since.0,
        since.1,
        omega (arith, early),
        earlier old call since.0 image (omega (arith, early)) since.3,
      ))
      (λ late. inr (inside (held_of old) (held_of (told old call)) (file_of_call call) left
      (λ octets is. within octets (subst (λ (h : Held). IsImage h octets) (held_here old call) is))
      (held_there old call) image
      (latest (told old call) since.0 image (omega (arith, late, length_push old.calls call)) since.3)))
      (cases_lt since.0 (length old.calls + 1));
  keeps = λ t image le past. keeps_told old call t image past;
}

pub elapses_idle : (old : Story) (during : ℕ → Held)
    → Elapses (length old.calls) (length old.calls) (LeftSince old) (LeftSince old) during
elapses_idle old during = record {
  later = omega arith;
  nothing_else = λ t image le left. inl left;
  keeps =
      λ t image le left. left;
}

pub elapses : {T E : Type 0} (old new : Story) (call : Call) (left : Held) (result : Result T E)
    → OnOk result (new ≡ told old call) → OnErr result (new ≡ old)
    → IsWithin (made (held_of old (file_of_call call)) call) left
    → Elapses (length old.calls) (length new.calls) (LeftSince old) (LeftSince new)
    (changed (held_of old) (file_of_call call) left)
elapses old new call left (Ok v) ok err within =
    subst (λ (s : Story). Elapses (length old.calls) (length s.calls) (LeftSince old) (LeftSince s)
    (changed (held_of old) (file_of_call call) left)) (sym ok) (elapses_told old call left within)
elapses old new call left (Err e) ok err within =
    subst (λ (s : Story). Elapses (length old.calls) (length s.calls) (LeftSince old) (LeftSince s)
    (changed (held_of old) (file_of_call call) left)) (sym err)
    (elapses_idle old (changed (held_of old) (file_of_call call) left))

covers_told : (old : Story) (call : Call) (left : Held) → IsWithin left (made (held_of old (file_of_call call)) call)
    → Covers (length old.calls) (LeftSince (told old call)) (changed (held_of old) (file_of_call call) left)
covers_told old call left within t image le is =
    now_is (told old call) t image (omega (arith, le, length_push old.calls call))
    (outside (held_of old) (held_of (told old call)) (file_of_call call) left
    (λ octets of. subst (λ (h : Held). IsImage h octets) (sym (held_here old call)) (within octets of))
    (held_there old call) image is)

pub covers : {T E : Type 0} (old new : Story) (call : Call) (left : Held) (result : Result T E)
    → OnOk result (new ≡ told old call) → IsWithin left (made (held_of old (file_of_call call)) call)
    → OnOk result (Covers (length old.calls) (LeftSince new) (changed (held_of old) (file_of_call call) left))
covers old new call left (Ok v) ok within =
    subst (λ (s : Story). Covers (length old.calls) (LeftSince s) (changed (held_of old) (file_of_call call) left))
    (sym ok)
    (covers_told old call left within)
covers old new call left (Err e) ok within = tt

-- the images of a write, a cut and a removal
pub write_within : (h : Held) (at count : ℕ) (reads : List ℕ) → IsWithin h (touched_at h at count reads)
write_within h at count reads octets is = record {
  long = is.long;
  end = λ shut. is.end (tight h.loose (nat_lt h.fast (at + count)) shut);
  same = λ place lt outside. is.same place lt outside.1;
}
  where
    tight : (a b : Bool) → (a || b) ≡ false → a ≡ false
    tight false b shut = refl
    tight true b shut = shut

pub write_same : (h : Held) (at count : ℕ) (one other : List ℕ)
    → IsWithin (touched_at h at count one) (touched_at h at count other)
write_same h at count one other octets is = record { long = is.long; end = is.end; same = is.same }

pub cut_within : (h : Held) (count : ℕ) (reads : List ℕ) → IsWithin h (loosened_at h count reads)
cut_within h count reads octets is =
    record {
      long = omega (arith, is.long);
      end = λ shut. absurd (false≢true (sym shut));
      same =
          λ place lt outside. is.same place (omega (arith, lt)) outside;
    }

pub cut_same : (h : Held) (count : ℕ) (one other : List ℕ)
    → IsWithin (loosened_at h count one) (loosened_at h count other)
cut_same h count one other octets is = record { long = is.long; end = is.end; same = is.same }

pub anything_within : (h g : Held) (reads : List ℕ) → IsWithin g (given_up h reads)
anything_within h g reads octets is = record {
  long = omega arith;
  end = λ shut. absurd (false≢true (sym shut));
  same =
      λ place lt outside. absurd (omega (arith, lt));
}

pub sync_within : (story : Story) (n : ℕ) → IsWithin (settled_at (held_of story n).reads) (held_of story n)
sync_within story n octets is =
    subst (IsImage (held_of story n)) (sym (settled_one (held_of story n).reads octets is)) (sound story n).image

-- a call after which a stop leaves nothing new
unchanged : (files : ℕ → Held) (file n : ℕ) → changed files file (files file) n ≡ files n
unchanged files file n = ⊎_elim
    (λ same. ap (λ (k : ℕ). changed files file (files file) k) same ∙ changed_here files file (files file)
    ∙ ap files (sym same))
    (λ differs. changed_there files file (files file) n differs)
    (cases_eq n file)

pub elapses_quiet : {T E : Type 0} (old new : Story) (call : Call) (result : Result T E)
    → OnOk result (new ≡ told old call) → OnErr result (new ≡ old)
    → IsWithin (made (held_of old (file_of_call call)) call) (held_of old (file_of_call call))
    → Elapses (length old.calls) (length new.calls) (LeftSince old) (LeftSince new) (held_of old)
elapses_quiet old new call result ok err within =
    let time = elapses old new call (held_of old (file_of_call call)) result ok err within in
    record {
      later = time.later;
      nothing_else = λ t image le left. ⊎_elim (λ early. inl early)
          (λ now. inr (λ n. subst (λ (h : Held). IsImage h (image n)) (unchanged (held_of old) (file_of_call call) n)
          (now n))) (time.nothing_else t image le left);
      keeps = time.keeps;
    }

-- a removal: its begin and its end
abbrev gone : Story → ℕ → Story
gone old file = told (told old (abandoned file)) (removed file)

abbrev left_of : Story → ℕ → Held
left_of old file = given_up (held_of old file) (held_of old file).reads

pub removes : {T E : Type 0} (old new : Story) (file : ℕ) (result : Result T E) → OnOk result (new ≡ gone old file)
    → OnErr result (new ≡ old)
    → Makes (held_of old) (held_of new) file (settled_at []) (left_of old file) result
removes old new file (Ok v) ok err = record {
  done = ap (λ (s : Story). held_of s file) ok ∙ held_here (told old (abandoned file)) (removed file);
  failed = tt;
  others = λ n differs. ap (λ (s : Story). held_of s n) ok
      ∙ held_there (told old (abandoned file)) (removed file) n differs ∙ held_there old (abandoned file) n differs;
}
removes old new file (Err e) ok err = record {
  done = tt;
  failed = λ octets is. anything_within (held_of old file) (held_of new file) (held_of old file).reads octets is;
  others = λ n differs. ap (λ (s : Story). held_of s n) err;
}

elapses_gone : (old : Story) (file : ℕ)
    → Elapses (length old.calls) (length (gone old file).calls) (LeftSince old) (LeftSince (gone old file))
    (changed (held_of old) file (left_of old file))
elapses_gone old file = record {
  later = omega (arith, first.later, second.later);
  nothing_else = λ t image le since. ⊎_elim (λ early. first.nothing_else t image le early)
      (λ late. inr (both image late)) (second.nothing_else t image (omega (arith, le, first.later)) since);
  keeps = λ t image le past. second.keeps t image (omega (arith, le, first.later)) (first.keeps t image le past);
}
  where
    first : Elapses (length old.calls) (length (told old (abandoned file)).calls) (LeftSince old)
        (LeftSince (told old (abandoned file))) (changed (held_of old) file (left_of old file))
    first = elapses_told old (abandoned file) (left_of old file) (λ octets is. is)

    second : Elapses (length (told old (abandoned file)).calls) (length (gone old file).calls)
        (LeftSince (told old (abandoned file))) (LeftSince (gone old file))
        (changed (held_of (told old (abandoned file))) file (left_of old file))
    second = elapses_told (told old (abandoned file)) (removed file) (left_of old file)
        (anything_within (held_of old file) (settled_at []) (held_of old file).reads)

    both : (image : ℕ → List ℕ)
        → IsDiskImage (changed (held_of (told old (abandoned file))) file (left_of old file)) image
        → IsDiskImage (changed (held_of old) file (left_of old file)) image
    both image is = inside (held_of old) (changed (held_of (told old (abandoned file))) file (left_of old file)) file
        (left_of old file)
        (λ octets of. anything_within (held_of old file) _ (held_of old file).reads octets of)
        (λ n differs. changed_there (held_of (told old (abandoned file))) file (left_of old file) n differs
        ∙ held_there old (abandoned file) n differs) image is

pub elapses_removal : {T E : Type 0} (old new : Story) (file : ℕ) (result : Result T E)
    → OnOk result (new ≡ gone old file) → OnErr result (new ≡ old)
    → Elapses (length old.calls) (length new.calls) (LeftSince old) (LeftSince new)
    (changed (held_of old) file (left_of old file))
elapses_removal old new file (Ok v) ok err =
    subst (λ (s : Story). Elapses (length old.calls) (length s.calls) (LeftSince old) (LeftSince s)
    (changed (held_of old) file (left_of old file))) (sym ok) (elapses_gone old file)
elapses_removal old new file (Err e) ok err =
    subst (λ (s : Story). Elapses (length old.calls) (length s.calls) (LeftSince old) (LeftSince s)
    (changed (held_of old) file (left_of old file))) (sym err)
    (elapses_idle old (changed (held_of old) file (left_of old file)))

pub covers_removal : {T E : Type 0} (old new : Story) (file : ℕ) (result : Result T E)
    → OnOk result (new ≡ gone old file)
    → OnOk result (Covers (length old.calls) (LeftSince new) (changed (held_of old) file (left_of old file)))
covers_removal old new file (Ok v) ok =
    subst (λ (s : Story). Covers (length old.calls) (LeftSince s) (changed (held_of old) file (left_of old file)))
    (sym ok)
    (λ t image le is. keeps_told (told old (abandoned file)) (removed file) t image
    (covers_told old (abandoned file) (left_of old file) (λ octets of. of) t image le is))
covers_removal old new file (Err e) ok = tt

-- a call that changes no file
pub elapses_same : (old new : Story) → new ≡ old
    → Elapses (length old.calls) (length new.calls) (LeftSince old) (LeftSince new) (held_of old)
elapses_same old new same =
    subst (λ (s : Story). Elapses (length old.calls) (length s.calls) (LeftSince old) (LeftSince s) (held_of old))
    (sym same) (elapses_idle old (held_of old))

pub elapses_frozen : (old new : Story) (file : ℕ) → new ≡ frozen_in old file
    → Elapses (length old.calls) (length new.calls) (LeftSince old) (LeftSince new) (held_of old)
elapses_frozen old new file same =
    subst (λ (s : Story). Elapses (length old.calls) (length s.calls) (LeftSince old) (LeftSince s) (held_of old))
    (sym same) (elapses_idle old (held_of old))
