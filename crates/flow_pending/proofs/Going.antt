-- How calls follow one another.
use Rattle.std.proofs.Common.{◌≡◌, ◌≢◌, ◌⊎◌, inl, inr, ⊎_elim, ℕ, ◌+◌, ◌<◌, ◌≤◌, Bool, true, false, List, length, take, drop}
use Rattle.std.proofs.Common.{refl, sym, ◌∙◌, ap, subst, arith, Result, Ok, Err, OnOk, OnErr}
use Rattle.std.proofs.lemmas.Bool.{cases_eq, false≢true}
use Rattle.flow_disk.specs.Disk.{Held, IsImage, IsDiskImage, IsWithin, settled_at}
use Rattle.flow_disk.specs.Moments.{Elapses, Passes}
use Rattle.flow_directory.specs.File.{Part, octet, size, entry, IsContent, File, held_of, IsUnsure, IsWhole}
use Rattle.flow_directory.specs.Calls.{IsBetween, IsPut, IsSize, Dirties, KeepsStatus, Loses, Rewriting, Retruncating, Syncing}
use Rattle.flow_pending.specs.declared.pending.Pending.{Pending}
use Rattle.flow_pending.specs.declared.pending.Stage.TheVariants.{Doubtful}
use Rattle.flow_pending.specs.Tracked.{IsChangeable, IsRemembered, IsTracked, Repairs, Copies, Settles}
use Rattle.flow_pending.specs.Written.{IsWritten}
use Rattle.flow_pending.proofs.Tracking.{not_true}

-- two stretches of time
pub elapses_then : (a b c : ℕ) (past since later : ℕ → (ℕ → List ℕ) → Type 0) (during after : ℕ → Held)
    → Elapses a b past since during → Elapses b c since later after
    → ((image : ℕ → List ℕ) → IsDiskImage after image → IsDiskImage during image)
    → Elapses a c past later during
elapses_then a b c past since later during after first second within = record {
  later = omega (arith, first.later, second.later);
  nothing_else = λ t image le left. ⊎_elim (λ early. first.nothing_else t image le early)
      (λ late. inr (within image late)) (second.nothing_else t image (omega (arith, le, first.later)) left);
  keeps = λ t image le left. second.keeps t image (omega (arith, le, first.later)) (first.keeps t image le left);
}

pub status_then : (a b c : File) → KeepsStatus a b → KeepsStatus b c → KeepsStatus a c
status_then a b c first second = record {
  linked = second.linked ∙ first.linked;
  read_only = second.read_only ∙ first.read_only;
  lent = second.lent ∙ first.lent;
}

-- A file may be doubtful after a call that dirties nothing. What was dirty or lost, and is remembered, still is.
pub doubtful_after : (was now : File) → Loses was now → (pending : Pending) → IsRemembered was pending
    → IsTracked now (record pending { stage = Doubtful })
doubtful_after was now loses pending remembered = record {
  remembered = λ place none unsure. remembered place none (loses.each (octet place) unsure);
  sure = λ other. absurd (other refl);
}

module _ {D : Type 0} (files : D → ℕ → File) (moment : D → ℕ) (left : D → ℕ → (ℕ → List ℕ) → Type 0) where
  -- the same images where one file's are no more
  pub fewer : (a b : D) (file : ℕ) → IsWithin (files b file).held (files a file).held
      → ((n : ℕ) → n ≢ file → files b n ≡ files a n)
      → (image : ℕ → List ℕ) → IsDiskImage (held_of (files b)) image → IsDiskImage (held_of (files a)) image
  fewer a b file within others image is n = ⊎_elim
      (λ same. subst (λ (k : ℕ). IsImage (files a k).held (image k)) (sym same) (within (image file) (is file)))
      (λ differs. subst (λ (f : File). IsImage f.held (image n)) (others n differs) (is n))
      (cases_eq n file)

  pub same_held : (a b : D) (file : ℕ) → (files b file).held ≡ (files a file).held
      → IsWithin (files b file).held (files a file).held
  same_held a b file same image is = subst (λ (h : Held). IsImage h image) same is

  pub repairs_then : (a b c : D) (file : ℕ) → Repairs files moment left a b file → Repairs files moment left b c file
      → Repairs files moment left a c file
  repairs_then a b c file first second = record {
    held = second.held ∙ first.held;
    status = status_then (files a file) (files b file) (files c file) first.status second.status;
    lost = λ part l. first.lost part (second.lost part l);
    name = λ d. first.name (second.name d);
    others = λ n differs. second.others n differs ∙ first.others n differs;
    time = elapses_then (moment a) (moment b) (moment c) (left a) (left b) (left c) (held_of (files a))
        (held_of (files b)) first.time second.time (fewer a b file (same_held a b file first.held) first.others);
  }

  -- nothing happened to any file
  pub repairs_stays : (a b : D) (file : ℕ) → ((n : ℕ) → files b n ≡ files a n)
      → Passes moment left a b (held_of (files a)) → Repairs files moment left a b file
  repairs_stays a b file same time = record {
    held = ap (λ (f : File). f.held) (same file);
    status = record {
      linked = ap (λ (f : File). f.linked) (same file);
      read_only = ap (λ (f : File). f.read_only) (same file);
      lent = ap (λ (f : File). f.lent) (same file);
    };
    lost = λ part l. subst (λ (f : File). f.lost part ≡ true) (same file) l;
    name = λ d. subst (λ (f : File). f.dirty entry ≡ true) (same file) d;
    others = λ n differs. same n;
    time = time;
  }

  pub repairs_rewriting : {T E : Type 0} (a b : D) (file at count : ℕ) (r : Result T E)
      → Rewriting (files a file) (files b file) at count r → ((n : ℕ) → n ≢ file → files b n ≡ files a n)
      → Passes moment left a b (held_of (files a)) → Repairs files moment left a b file
  repairs_rewriting a b file at count r rule others time = record {
    held = rule.held;
    status = rule.status;
    lost = rule.parts.lost;
    name = λ d. ⊎_elim (λ old. old) (λ none. absurd none) (rule.parts.dirty entry d);
    others = others;
    time = time;
  }

  pub repairs_retruncating : {T E : Type 0} (a b : D) (file : ℕ) (r : Result T E)
      → Retruncating (files a file) (files b file) r → ((n : ℕ) → n ≢ file → files b n ≡ files a n)
      → Passes moment left a b (held_of (files a)) → Repairs files moment left a b file
  repairs_retruncating a b file r rule others time = record {
    held = rule.held;
    status = rule.status;
    lost = rule.parts.lost;
    name = λ d. ⊎_elim (λ old. old) (λ none. absurd none) (rule.parts.dirty entry d);
    others = others;
    time = time;
  }

  -- a file that was repaired may be changed as before
  pub repaired_changeable : (a b : D) (file : ℕ) → Repairs files moment left a b file → IsChangeable (files a file)
      → IsChangeable (files b file)
  repaired_changeable a b file repairs is = record {
    name = (
      not_true ((files b file).dirty entry) (λ d. false≢true (sym is.name.0 ∙ repairs.name d)),
      not_true ((files b file).lost entry) (λ l. false≢true (sym is.name.1 ∙ repairs.lost entry l)),
    );
    writable = repairs.status.read_only ∙ is.writable;
    free = repairs.status.lent ∙ is.free;
  }

  -- and so may one that was synced
  pub synced_changeable : {T E : Type 0} (a b : D) (file : ℕ) (r : Result T E) → Syncing (files a file) (files b file) r
      → IsChangeable (files a file) → IsChangeable (files b file)
  synced_changeable a b file r rule is = record {
    name = (
      not_true ((files b file).dirty entry) (λ d. false≢true (sym is.name.0 ∙ rule.parts.dirty_entry d)),
      not_true ((files b file).lost entry) (λ l. false≢true (sym is.name.1 ∙ rule.parts.lost_entry l)),
    );
    writable = rule.status.read_only ∙ is.writable;
    free = rule.status.lent ∙ is.free;
  }

  -- what was repaired, and synced then
  module _ (a b c : D) (file : ℕ) (repairs : Repairs files moment left a b file)
      (others : (n : ℕ) → n ≢ file → files c n ≡ files b n) (time : Passes moment left b c (held_of (files b))) where
    pub then_others : (n : ℕ) → n ≢ file → files c n ≡ files a n
    then_others n differs = others n differs ∙ repairs.others n differs

    pub then_time : Passes moment left a c (held_of (files a))
    then_time = elapses_then (moment a) (moment b) (moment c) (left a) (left b) (left c) (held_of (files a))
        (held_of (files b)) repairs.time time (fewer a b file (same_held a b file repairs.held) repairs.others)

    pub then_failed : {T E S F : Type 0} (e : E) (r : Result S F) → Syncing {T = T} {E = E} (files b file) (files c file) (Err e)
        → (f : F) → Settles {T = S} {E = F} (files a file) (files c file) (Err f)
    then_failed e r rule f = record {
      settled = tt;
      clean = tt;
      within = λ image is. subst (λ (h : Held). IsImage h image) repairs.held (rule.within image is);
      status = status_then (files a file) (files b file) (files c file) repairs.status rule.status;
    }

    pub then_synced : {T E S F : Type 0} (x : T) (y : S) → Syncing {T = T} {E = E} (files b file) (files c file) (Ok x)
        → IsWhole (files b file) → IsChangeable (files b file)
        → Settles {T = S} {E = F} (files a file) (files c file) (Ok y)
    then_synced x y rule whole is = record {
      settled = rule.settled whole is.name.0 ∙ ap (λ (h : Held). settled_at h.reads) repairs.held;
      clean = λ part unsure. ⊎_elim (λ d. dirty part d)
          (λ l. false≢true (sym (whole part) ∙ rule.lost part l)) unsure;
      within = λ image is. subst (λ (h : Held). IsImage h image) repairs.held (rule.within image is);
      status = status_then (files a file) (files b file) (files c file) repairs.status rule.status;
    }
      where
        dirty : (part : Part) → (files c file).dirty part ≡ true → ⊥
        dirty (octet place) d = false≢true (sym (rule.clean (octet place) tt) ∙ d)
        dirty size d = false≢true (sym (rule.clean size tt) ∙ d)
        dirty entry d = false≢true (sym is.name.0 ∙ rule.parts.dirty_entry d)
