-- Octets that are written over themselves.
use Rattle.std.proofs.Common.{◌≡◌, ◌≢◌, ◌⊎◌, inl, inr, ⊎_elim, ℕ, ◌+◌, ◌<◌, ◌≤◌, max, Bool, true, false, List, length, get_or}
use Rattle.std.proofs.Common.{refl, sym, ◌∙◌, ap, subst, arith, Result, Ok, Err, OnOk, IsTrue}
use Rattle.std.proofs.lemmas.Bool.{false≢true, cases_lt}
use Rattle.std.proofs.lemmas.List.{get_or_default}
use Rattle.flow_disk.specs.Disk.{Held}
use Rattle.flow_disk.specs.Moments.{Elapses, Passes}
use Rattle.flow_directory.specs.File.{Part, octet, size, entry, File, held_of, IsUnsure, IsWhole, IsNamed}
use Rattle.flow_directory.specs.Calls.{IsBetween, IsPut, Rewriting, Retruncating}
use Rattle.flow_pending.specs.declared.pending.Pending.{Pending}
use Rattle.flow_pending.specs.declared.ranges.Range.{Range}
use Rattle.flow_pending.specs.Tracked.{IsChangeable, IsRemembered, IsMended, Repairs, Copies}
use Rattle.flow_pending.specs.Written.{IsWithin, IsWritten}
use Rattle.flow_pending.proofs.Tracking.{not_true}
use Rattle.flow_pending.proofs.Going.{repairs_then, repairs_stays, repairs_rewriting}

-- octets from one place on up to another were written over themselves so far
pub record Copied {D : Type 0} (files : D → ℕ → File) (moment : D → ℕ) (left : D → ℕ → (ℕ → List ℕ) → Type 0)
    (old new : D) (file from at : ℕ) : Type 0 where
  pub repairs : Repairs files moment left old new file
  pub dirty : (part : Part) → (files new file).dirty part ≡ true
      → ((files old file).dirty part ≡ true) ⊎ IsPut from at part
  pub mended : (place : ℕ) → IsBetween from at place → (files new file).lost (octet place) ≡ false

-- time that stays where it is
pub no_time : (t : ℕ) (past : ℕ → (ℕ → List ℕ) → Type 0) (during : ℕ → Held) → Elapses t t past past during
no_time t past during = record {
  later = omega arith;
  nothing_else = λ s image le left. inl left;
  keeps = λ s image le left. left;
}

put_wider : (from at to : ℕ) → at ≤ max from to → (part : Part) → IsPut from at part → IsPut from to part
put_wider from at to le (octet place) put = (put.0, omega (arith, le, put.0, put.1))
put_wider from at to le size put = tt
put_wider from at to le entry put = absurd put

put_joined : (from at to : ℕ) → from ≤ at → at ≤ to → (part : Part) → IsPut at to part → IsPut from to part
put_joined from at to le above (octet place) put = (omega (arith, le, put.0), put.1)
put_joined from at to le above size put = tt
put_joined from at to le above entry put = absurd put

module _ {D : Type 0} (files : D → ℕ → File) (moment : D → ℕ) (left : D → ℕ → (ℕ → List ℕ) → Type 0) where
  pub repairs_none : (a : D) (file : ℕ) → Repairs files moment left a a file
  repairs_none a file = repairs_stays files moment left a a file (λ n. refl)
      (no_time (moment a) (left a) (held_of (files a)))

  pub copied_none : (a : D) (file from : ℕ) → Copied files moment left a a file from from
  copied_none a file from = record {
    repairs = repairs_none a file;
    dirty = λ part is. inl is;
    mended = λ place between. absurd (omega (arith, between.0, between.1));
  }

  -- octets were read
  pub copied_stays : (a b c : D) (file from at : ℕ) → Copied files moment left a b file from at
      → ((n : ℕ) → files c n ≡ files b n) → Passes moment left b c (held_of (files b))
      → Copied files moment left a c file from at
  copied_stays a b c file from at so_far same time = record {
    repairs = repairs_then files moment left a b c file so_far.repairs
        (repairs_stays files moment left b c file same time);
    dirty = λ part is. so_far.dirty part (subst (λ (f : File). f.dirty part ≡ true) (same file) is);
    mended = λ place between. subst (λ (f : File). f.lost (octet place) ≡ false) (sym (same file))
        (so_far.mended place between);
  }

  -- and written over themselves
  module _ (a b c : D) (file from at count : ℕ) (so_far : Copied files moment left a b file from at)
      (others : (n : ℕ) → n ≢ file → files c n ≡ files b n) (time : Passes moment left b c (held_of (files b)))
      (le : from ≤ at) where
    rewritten : {T E : Type 0} (r : Result T E) → Rewriting (files b file) (files c file) at count r
        → Repairs files moment left a c file
    rewritten r rule = repairs_then files moment left a b c file so_far.repairs
        (repairs_rewriting files moment left b c file at count r rule others time)

    dirtied : {T E : Type 0} (r : Result T E) → Rewriting (files b file) (files c file) at count r
        → (part : Part) → (files c file).dirty part ≡ true
        → ((files a file).dirty part ≡ true) ⊎ IsPut from (at + count) part
    dirtied r rule part is = ⊎_elim
        (λ old. ⊎_elim (λ older. inl older) (λ put. inr (put_wider from at (at + count) (omega (arith, le)) part put))
        (so_far.dirty part old))
        (λ new. inr (put_joined from at (at + count) le (omega arith) part new)) (rule.parts.dirty part is)

    pub copied_more : {T E : Type 0} (x : T) → Rewriting {T = T} {E = E} (files b file) (files c file) at count (Ok x)
        → Copied files moment left a c file from (at + count)
    copied_more x rule = record {
      repairs = rewritten (Ok x) rule;
      dirty = dirtied (Ok x) rule;
      mended = λ place between. ⊎_elim
          (λ before. not_true ((files c file).lost (octet place))
          (λ l. false≢true (sym (so_far.mended place (between.0, before)) ∙ rule.parts.lost (octet place) l)))
          (λ from_here. rule.mended place (from_here, between.1)) (cases_lt place at);
    }

    pub copied_less : {T E S F : Type 0} (to : ℕ) (e : E) (f : F) → at + count ≤ to
        → Rewriting {T = T} {E = E} (files b file) (files c file) at count (Err e)
        → Copies {T = S} {X = F} files moment left a c file from to (Err f)
    copied_less to e f within rule = record {
      repairs = rewritten (Err e) rule;
      dirty = λ part is. ⊎_elim (λ old. inl old)
          (λ put. inr (put_wider from (at + count) to (omega (arith, within)) part put)) (dirtied (Err e) rule part is);
      mended = tt;
    }

  pub copies_not : {S F : Type 0} (a b : D) (file from at to : ℕ) (f : F) → Copied files moment left a b file from at
      → at ≤ max from to → Copies {T = S} {X = F} files moment left a b file from to (Err f)
  copies_not a b file from at to f so_far le = record {
    repairs = so_far.repairs;
    dirty = λ part is. ⊎_elim (λ old. inl old) (λ put. inr (put_wider from at to le part put)) (so_far.dirty part is);
    mended = tt;
  }

  pub copies_all : {S F : Type 0} (a b : D) (file from at to : ℕ) (y : S) → Copied files moment left a b file from at
      → at ≤ max from to → to ≤ at → Copies {T = S} {X = F} files moment left a b file from to (Ok y)
  copies_all a b file from at to y so_far le above = record {
    repairs = so_far.repairs;
    dirty = λ part is. ⊎_elim (λ old. inl old) (λ put. inr (put_wider from at to le part put)) (so_far.dirty part is);
    mended = λ place between. so_far.mended place (between.0, omega (arith, above, between.1));
  }

  -- what is remembered of a file that was written over itself
  pub still_remembered : {S F : Type 0} (a b : D) (p : Pending) (from to : ℕ) (r : Result S F)
      → Copies files moment left a b p.file from to r
      → ((place : ℕ) → IsBetween from to place → IsWritten p.written.ranges.items place)
      → IsRemembered (files a p.file) p → IsRemembered (files b p.file) p
  still_remembered a b p from to r copies written is place none unsure = ⊎_elim
      (λ d. ⊎_elim (λ old. is place none (inl old)) (λ put. none (written place put)) (copies.dirty (octet place) d))
      (λ l. is place none (inr (copies.repairs.lost (octet place) l))) unsure

  -- nothing of it is lost where each octet that was remembered is mended
  pub all_mended : (a b : D) (p : Pending) → Repairs files moment left a b p.file → IsChangeable (files a p.file)
      → IsMended (files a p.file) → IsRemembered (files b p.file) p
      → ((place : ℕ) → IsWritten p.written.ranges.items place → (files b p.file).lost (octet place) ≡ false)
      → IsWhole (files b p.file)
  all_mended a b p repairs changeable sized remembered mended (octet place) =
      not_true ((files b p.file).lost (octet place))
      (λ l. remembered place (λ w. false≢true (sym (mended place w) ∙ l)) (inr l))
  all_mended a b p repairs changeable sized remembered mended size =
      not_true ((files b p.file).lost size) (λ l. false≢true (sym sized ∙ repairs.lost size l))
  all_mended a b p repairs changeable sized remembered mended entry =
      not_true ((files b p.file).lost entry) (λ l. false≢true (sym changeable.name.1 ∙ repairs.lost entry l))
