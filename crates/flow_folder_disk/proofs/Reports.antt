-- What a call on a disk does, by what the call on its folder did, and what was reported before and after it.
use Rattle.std.proofs.Common.{◌≡◌, ◌≢◌, inl, ℕ, max, Bool, List}
use Rattle.std.proofs.Common.{sym}
use Rattle.std.proofs.Common.{◌∙◌, ap, subst, arith, Result, Ok, Err, OnOk, OnErr}
use Rattle.std.specs.Prelude.{IsErr}
use Rattle.std.proofs.lemmas.Bool.{false≢true}
use Rattle.flow_disk.specs.Disk.{Held, Marks, IsImage, IsWithin, Changes, Stays, settled_at, touched_at, loosened_at}
use Rattle.flow_disk.proofs.Images.{settled_one}
use Rattle.flow_disk.specs.Files.{Makes, Marked, Syncs, Removes}
use Rattle.flow_disk.specs.Moments.{Elapses, Passes, Covers}
use Rattle.flow_directory.specs.File.{File, held_of}
use Rattle.flow_folder_disk.specs.Known.{IsSeen, IsSynced, IsRemoved, Leaves}
use Rattle.flow_folder_disk.specs.Table.{doubted}
use Rattle.flow_folder_disk.proofs.Leaving.{seen_same, given_all, elapses_then}

-- no answer Ok, no claim
pub not_ok : {T E : Type 0} (A : Type 0) (r : Result T E) → IsErr r → OnOk r A
not_ok A (Ok x) is = absurd (false≢true is)
not_ok A (Err e) is = tt

-- no time passes where nothing is called
pub elapses_still : (now : ℕ) (past : ℕ → (ℕ → List ℕ) → Type 0) (during : ℕ → Held) → Elapses now now past past during
elapses_still now past during = record {
  later = omega arith;
  nothing_else = λ t image le left. inl left;
  keeps = λ t image le left. left;
}

-- what may be left of a file doesn't depend on what it reads as
pub touched_within : (h : Held) (at count : ℕ) (these those : List ℕ)
    → IsWithin (touched_at h at count these) (touched_at h at count those)
touched_within h at count these those image is = record { long = is.long; end = is.end; same = is.same }

pub loosened_within : (h : Held) (count : ℕ) (these those : List ℕ)
    → IsWithin (loosened_at h count these) (loosened_at h count those)
loosened_within h count these those image is = record { long = is.long; end = is.end; same = is.same }

pub settled_within : (h : Held) → IsImage h h.reads → IsWithin (settled_at h.reads) h
settled_within h is image among = subst (λ (l : List ℕ). IsImage h l) (sym (settled_one h.reads image among)) is

-- the greater of two numbers
pub sized_max : (was now more size : ℕ) → size ≡ max was more → was ≡ now → size ≡ max now more
sized_max was now more size is same = is ∙ ap (λ (k : ℕ). max k more) same

-- a sync and a removal of a folder
pub syncs_done : {T E U F : Type 0} (files now : ℕ → File) (file : ℕ) {x : T} (y : U)
    → IsSynced {T = T} {E = E} (files file) (now file) (Ok x) → ((n : ℕ) → n ≢ file → IsSeen (files n) (now n))
    → Syncs {T = U} {E = F} (held_of files) (held_of now) file (Ok y)
syncs_done files now file y is others = record {
  done = is.done;
  failed = tt;
  others = λ n differs. (others n differs).held;
}

pub syncs_failed : {T E U F : Type 0} (files now : ℕ → File) (file : ℕ) {x : E} (y : F)
    → IsSynced {T = T} {E = E} (files file) (now file) (Err x) → ((n : ℕ) → n ≢ file → IsSeen (files n) (now n))
    → Syncs {T = U} {E = F} (held_of files) (held_of now) file (Err y)
syncs_failed files now file y is others = record {
  done = tt;
  failed = is.within;
  others = λ n differs. (others n differs).held;
}

pub removes_done : {T E U F : Type 0} (files now : ℕ → File) (file : ℕ) {x : T} (y : U)
    → IsRemoved {T = T} {E = E} (now file) (Ok x) → ((n : ℕ) → n ≢ file → IsSeen (files n) (now n))
    → Removes {T = U} {E = F} (held_of files) (held_of now) file (Ok y)
removes_done files now file y is others = record {
  done = is.done;
  failed = tt;
  others = λ n differs. (others n differs).held;
}

pub removes_failed : {U F : Type 0} (files now : ℕ → File) (file : ℕ) (y : F)
    → ((n : ℕ) → n ≢ file → IsSeen (files n) (now n))
    → Removes {T = U} {E = F} (held_of files) (held_of now) file (Err y)
removes_failed files now file y others = record {
  done = tt;
  failed = λ image among. given_all (files file).held (files file).held.reads image;
  others = λ n differs. (others n differs).held;
}

module _ {D : Type 0} (files : D → ℕ → File) (moment : D → ℕ) (left : D → ℕ → (ℕ → List ℕ) → Type 0) where
  -- nothing was called
  pub leaves_stay : (a b : D) → b ≡ a → (file : ℕ) → Leaves files moment left a b file (held_of (files a))
  leaves_stay a b same file = record {
    others = λ n differs. seen_same (files a n) (files b n) (ap (λ (x : D). files x n) same);
    time = subst (λ (x : D). Passes moment left a x (held_of (files a))) (sym same)
        (elapses_still (moment a) (left a) (held_of (files a)));
  }

  pub makes_none : {T E : Type 0} (a b : D) → b ≡ a → (file : ℕ) (made may : Held) (r : Result T E) → IsErr r
      → IsWithin (files a file).held may → Makes (held_of (files a)) (held_of (files b)) file made may r
  makes_none a b same file made may (Ok x) is within = absurd (false≢true is)
  makes_none a b same file made may (Err e) is within = record {
    done = tt;
    failed = λ image among. within image
        (subst (λ (h : Held). IsImage h image) (ap (λ (x : D). (files x file).held) same) among);
    others = λ n differs. ap (λ (x : D). (files x n).held) same;
  }

  -- a call on the folder, after and before reports
  pub makes_failed : {T E U F : Type 0} (a b c : D) → b ≡ a → (file : ℕ) (made may : Held → Held) {e : E}
      (s : Result U F) → IsErr s
      → Makes {T = T} {E = E} (held_of (files b)) (held_of (files c)) file (made (files b file).held)
      (may (files b file).held) (Err e)
      → Makes (held_of (files a)) (held_of (files c)) file (made (files a file).held) (may (files a file).held) s
  makes_failed a b c same file made may (Ok y) is_s is = absurd (false≢true is_s)
  makes_failed a b c same file made may (Err f) is_s is = record {
    done = tt;
    failed = subst (λ (x : D). IsWithin (files c file).held (may (files x file).held)) same is.failed;
    others = λ n differs. is.others n differs ∙ ap (λ (x : D). (files x n).held) same;
  }

  pub makes_done : {T E U F : Type 0} (a b c d : D) → b ≡ a → d ≡ c → (file : ℕ) (made may : Held → Held) {x : T}
      (s : Result U F) → IsWithin (made (files a file).held) (may (files a file).held)
      → Makes {T = T} {E = E} (held_of (files b)) (held_of (files c)) file (made (files b file).held)
      (may (files b file).held) (Ok x)
      → Makes (held_of (files a)) (held_of (files d)) file (made (files a file).held) (may (files a file).held) s
  makes_done a b c d same end file made may (Ok y) within is = record {
    done = ap (λ (y : D). (files y file).held) end ∙ is.done ∙ ap (λ (y : D). made (files y file).held) same;
    failed = tt;
    others = λ n differs. ap (λ (y : D). (files y n).held) end ∙ is.others n differs
        ∙ ap (λ (y : D). (files y n).held) same;
  }
  makes_done a b c d same end file made may (Err f) within is = record {
    done = tt;
    failed = λ image among. within image (subst (λ (h : Held). IsImage h image)
        (ap (λ (y : D). (files y file).held) end ∙ is.done ∙ ap (λ (y : D). made (files y file).held) same) among);
    others = λ n differs. ap (λ (y : D). (files y n).held) end ∙ is.others n differs
        ∙ ap (λ (y : D). (files y n).held) same;
  }

  pub passes_then : (a b c : D) → Passes moment left a b (held_of (files a))
      → ((n : ℕ) → (files b n).held ≡ (files a n).held) → Passes moment left b c (held_of (files b))
      → Passes moment left a c (held_of (files a))
  passes_then a b c first same second = elapses_then (moment a) (moment b) (moment c) (left a) (left b) (left c)
      (held_of (files a)) (held_of (files b)) first second
      (λ image is n. subst (λ (h : Held). IsImage h (image n)) (same n) (is n))

  pub leaves_between : (a b c d : D) → b ≡ a → d ≡ c → (file : ℕ) (during : (ℕ → Held) → ℕ → Held)
      → Leaves files moment left b c file (during (held_of (files b)))
      → Leaves files moment left a d file (during (held_of (files a)))
  leaves_between a b c d same end file during is =
      subst (λ (x : D). Leaves files moment left x d file (during (held_of (files x)))) same
      (subst (λ (y : D). Leaves files moment left b y file (during (held_of (files b)))) (sym end) is)

  pub covers_between : (a b c d : D) → b ≡ a → d ≡ c → (during : (ℕ → Held) → ℕ → Held)
      → Covers (moment b) (left c) (during (held_of (files b))) → Covers (moment a) (left d) (during (held_of (files
      a)))
  covers_between a b c d same end during is =
      subst (λ (x : D). Covers (moment x) (left d) (during (held_of (files x)))) same
      (subst (λ (y : D). Covers (moment b) (left y) (during (held_of (files b)))) (sym end) is)

-- what is reported where a call fails, before anything is reported, and after the file isn't reported as settled
pub marked_not : {T E : Type 0} (m n : ℕ → Marks) (file : ℕ) (made : Marks) (still : Bool) (r : Result T E) → IsErr r
    → (m file).frozen ≡ still → Stays m n → Marked m n file made still r
marked_not m n file made still (Ok x) is frozen same = absurd (false≢true is)
marked_not m n file made still (Err e) is frozen same = record {
  done = tt;
  frozen = ap (λ (x : Marks). x.frozen) (same file) ∙ frozen;
  others = λ i differs. same i;
}

pub marked_doubted : {T E : Type 0} (m n p : ℕ → Marks) (file : ℕ) (made : Marks) (still : Bool) (r : Result T E)
    → IsErr r → (m file).frozen ≡ still → Changes m n file (doubted (m file)) → Stays n p → Marked m p file made still r
marked_doubted m n p file made still (Ok x) is frozen first same = absurd (false≢true is)
marked_doubted m n p file made still (Err e) is frozen first same = record {
  done = tt;
  frozen = ap (λ (x : Marks). x.frozen) (same file ∙ first.here) ∙ frozen;
  others = λ i differs. same i ∙ first.others i differs;
}

-- and where it was made
pub marked_done : {T E : Type 0} (m n p q : ℕ → Marks) (file : ℕ) (made reported : Marks) (still : Bool) (r : Result T
    E)
    → (m file).frozen ≡ still → Changes m n file (doubted (m file)) → Stays n p → reported ≡ made
    → OnOk r (Changes p q file reported) → OnErr r (Stays p q) → Marked m q file made still r
marked_done m n p q file made reported still (Ok x) frozen first same is done failed = record {
  done = done.here ∙ is;
  frozen = tt;
  others = λ i differs. done.others i differs ∙ same i ∙ first.others i differs;
}
marked_done m n p q file made reported still (Err e) frozen first same is done failed = record {
  done = tt;
  frozen = ap (λ (x : Marks). x.frozen) (failed file ∙ same file ∙ first.here) ∙ frozen;
  others = λ i differs. failed i ∙ same i ∙ first.others i differs;
}

-- the same where the file stays reported as it was until then
pub marked_at_once : {T E : Type 0} (m p q : ℕ → Marks) (file : ℕ) (made reported : Marks) (still : Bool)
    (r : Result T E) → (m file).frozen ≡ still → Stays m p → reported ≡ made
    → OnOk r (Changes p q file reported) → OnErr r (Stays p q) → Marked m q file made still r
marked_at_once m p q file made reported still (Ok x) frozen same is done failed = record {
  done = done.here ∙ is;
  frozen = tt;
  others = λ i differs. done.others i differs ∙ same i;
}
marked_at_once m p q file made reported still (Err e) frozen same is done failed = record {
  done = tt;
  frozen = ap (λ (x : Marks). x.frozen) (failed file ∙ same file) ∙ frozen;
  others = λ i differs. failed i ∙ same i;
}
