-- The marks of a disk after a call, whether its system keeps the rules or not.
use Rattle.std.proofs.Common.{◌≡◌, ◌≢◌, ℕ, ◌+◌, ◌≤◌, max, min, Bool, true, false, ◌||◌}
use Rattle.std.proofs.Common.{IsTrue, List, [], length, take}
use Rattle.std.proofs.Common.{refl, sym, ◌∙◌, ap, subst, arith, Result, Ok, Err, OnOk, OnErr, IfOk, ◌-◌, ◌++◌, drop}
use Rattle.std.proofs.Common.{length-append, length-take, length-drop, Contains, ◌↔◌}
use Rattle.std.proofs.lemmas.Bool.{false≢true}
use Rattle.flow_disk.specs.Disk.{Held, Marks, Changes, Stays, settled_at, touched_at, loosened_at, put_at}
use Rattle.flow_disk.specs.Files.{Marked, frozen_as}
use Rattle.flow_disk.specs.Moments.{Elapses, Covers}
use Rattle.flow_directory.specs.File.{File}
use Rattle.flow_folder_disk.specs.Table.{marks_with, marks_by, sized_as}
use Rattle.flow_folder_disk.specs.Marking.{moment_by}

pub frozen_of : (honest : Bool) (m : Marks) (f : File) → (marks_by honest m f).frozen ≡ m.frozen
frozen_of true m f = refl
frozen_of false m f = refl

-- what is known of a system that keeps the rules
with_true : (b : Bool) (P : Bool → Type 0) → b ≡ true → P true → P b
with_true b P is p = subst P (sym is) p

-- a file with the same octets and name has the marks that it had
pub marks_same : (m : Marks) (f g : File) → g.held.reads ≡ f.held.reads → g.linked ≡ f.linked
    → marks_with m g ≡ marks_with m f
marks_same m f g reads linked =
    ap (λ (l : List ℕ). record {
      size = length l;
      settled = m.settled;
      frozen = m.frozen;
      listed = g.linked || m.listed;
    }) reads
    ∙ ap (λ (b : Bool). record {
      size = length f.held.reads;
      settled = m.settled;
      frozen = m.frozen;
      listed = b || m.listed;
    }) linked

-- the same of the marks of a disk
pub marks_by_same : (h k : Bool) (m n : Marks) (f g : File) → k ≡ h → n ≡ m
    → (IsTrue h → (g.held.reads ≡ f.held.reads) × (g.linked ≡ f.linked)) → marks_by k n g ≡ marks_by h m f
marks_by_same true true m n f g same marks file =
    ap (λ (x : Marks). marks_with x g) marks ∙ marks_same m f g (file refl).0 (file refl).1
marks_by_same false false m n f g same marks file = marks
marks_by_same true false m n f g same marks file = absurd (false≢true same)
marks_by_same false true m n f g same marks file = absurd (false≢true (sym same))

-- what every disk keeps of a file after a call on it
pub marked_by : {T E : Type 0} (h k : Bool) (m n : ℕ → Marks) (f g : ℕ → File) (file : ℕ) (made : Marks → Marks)
    (still now_still : Bool) → now_still ≡ still → (r : Result T E) → k ≡ h → Marked m n file (made (m file)) still r
    → (IsTrue h → (i : ℕ) → i ≢ file → ((g i).held.reads ≡ (f i).held.reads) × ((g i).linked ≡ (f i).linked))
    → (IsTrue h → OnOk r (marks_with (made (m file)) (g file) ≡ made (marks_with (m file) (f file))))
    → Marked (λ i. marks_by h (m i) (f i)) (λ i. marks_by k (n i) (g i)) file (made (marks_by h (m file) (f file)))
    now_still r
marked_by true true m n f g file made still now_still kept (Ok x) same is others ok = record {
  done = ap (λ (y : Marks). marks_with y (g file)) is.done ∙ ok refl;
  frozen = tt;
  others = λ i differs. ap (λ (y : Marks). marks_with y (g i)) (is.others i differs)
      ∙ marks_same (m i) (f i) (g i) (others refl i differs).0 (others refl i differs).1;
}
marked_by true true m n f g file made still now_still kept (Err e) same is others ok = record {
  done = tt;
  frozen = is.frozen ∙ sym kept;
  others = λ i differs. ap (λ (y : Marks). marks_with y (g i)) (is.others i differs)
      ∙ marks_same (m i) (f i) (g i) (others refl i differs).0 (others refl i differs).1;
}
marked_by {T} {E} false false m n f g file made still now_still kept r same is others ok =
    subst (λ (b : Bool). Marked {T = T} {E = E} m n file (made (m file)) b r) (sym kept) is
marked_by true false m n f g file made still now_still kept r same is others ok = absurd (false≢true same)
marked_by false true m n f g file made still now_still kept r same is others ok = absurd (false≢true (sym same))

-- the marks that a write, a cut, a sync and a removal leave
length-put_at : (old : List ℕ) (at : ℕ) (octets : List ℕ)
    → length (put_at old at octets) ≡ min at (length old) + length octets + (length old - (at + length octets))
length-put_at old at octets =
    omega (
      arith,
      length-append (take at old ++ octets) (drop (at + length octets) old),
      length-append (take at old) octets,
      length-take at old,
      length-drop (at + length octets) old,
    )

or_true : (b : Bool) → (b || true) ≡ true
or_true true = refl
or_true false = refl

listed_as : (size : ℕ) (settled frozen linked : Bool)
    → ◌≡◌ {A = Marks} (record { size = size; settled = settled; frozen = frozen; listed = linked || true })
    (record { size = size; settled = settled; frozen = frozen; listed = true })
listed_as size settled frozen linked =
    ap (λ (b : Bool). record { size = size; settled = settled; frozen = frozen; listed = b }) (or_true linked)

pub written_marks : (m : Marks) (f g : File) (at : ℕ) (octets : List ℕ) → at ≤ length f.held.reads
    → g.held ≡ touched_at f.held at (length octets) (put_at f.held.reads at octets)
    → ◌≡◌ {A = Marks} (record {
      size = length g.held.reads;
      settled = false;
      frozen = false;
      listed = g.linked || true;
    })
    (record { size = max (length f.held.reads) (at + length octets); settled = false; frozen = false; listed = true })
written_marks m f g at octets within held =
    ap (λ (k : ℕ). record { size = k; settled = false; frozen = false; listed = g.linked || true })
    (ap (λ (h : Held). length h.reads) held ∙ long)
    ∙ listed_as (max (length f.held.reads) (at + length octets)) false false g.linked
  where
    long : length (put_at f.held.reads at octets) ≡ max (length f.held.reads) (at + length octets)
    long = omega (arith, length-put_at f.held.reads at octets, within)

pub cut_marks : (f g : File) (count : ℕ) → count ≤ length f.held.reads
    → g.held ≡ loosened_at f.held count (take count f.held.reads)
    → ◌≡◌ {A = Marks} (record {
      size = length g.held.reads;
      settled = false;
      frozen = false;
      listed = g.linked || true;
    })
    (record { size = count; settled = false; frozen = false; listed = true })
cut_marks f g count within held =
    ap (λ (k : ℕ). record { size = k; settled = false; frozen = false; listed = g.linked || true })
    (ap (λ (h : Held). length h.reads) held ∙ long)
    ∙ listed_as count false false g.linked
  where
    long : length (take count f.held.reads) ≡ count
    long = omega (arith, length-take count f.held.reads, within)

pub synced_marks : (m : Marks) (f g : File) → g.held ≡ settled_at f.held.reads
    → ◌≡◌ {A = Marks} (record {
      size = length g.held.reads;
      settled = true;
      frozen = m.frozen;
      listed = g.linked ||
          true;
    })
    (record { size = length f.held.reads; settled = true; frozen = m.frozen; listed = true })
synced_marks m f g held =
    ap (λ (k : ℕ). record { size = k; settled = true; frozen = m.frozen; listed = g.linked || true })
    (ap (λ (h : Held). length h.reads) held)
    ∙ listed_as (length f.held.reads) true m.frozen g.linked

pub removed_marks : {T E : Type 0} (g : File) (r : Result T E) → OnOk r (g.held ≡ settled_at []) → OnOk r (g.linked ≡
    false)
    → OnOk r (◌≡◌ {A = Marks} (record {
      size = length g.held.reads;
      settled = true;
      frozen = false;
      listed = g.linked
          || false;
    })
    (record { size = 0; settled = true; frozen = false; listed = false }))
removed_marks g (Ok x) held gone =
    ap (λ (k : ℕ). record { size = k; settled = true; frozen = false; listed = g.linked || false })
    (ap (λ (h : Held). length h.reads) held)
    ∙ ap (λ (b : Bool). record { size = 0; settled = true; frozen = false; listed = b || false }) gone
removed_marks g (Err e) held gone = tt

pub le_then : (a b c : ℕ) → a ≤ b → b ≤ c → a ≤ c
le_then a b c first second = omega (arith, first, second)

-- one file's marks changed
pub changes_by : (h k : Bool) (m n : ℕ → Marks) (f g : ℕ → File) (file : ℕ) (made : Marks → Marks)
    → k ≡ h → Changes m n file (made (m file))
    → (IsTrue h → (i : ℕ) → ((g i).held.reads ≡ (f i).held.reads) × ((g i).linked ≡ (f i).linked))
    → (IsTrue h → marks_with (made (m file)) (g file) ≡ made (marks_with (m file) (f file)))
    → Changes (λ i. marks_by h (m i) (f i)) (λ i. marks_by k (n i) (g i)) file (made (marks_by h (m file) (f file)))
changes_by true true m n f g file made same is others here = record {
  here = ap (λ (y : Marks). marks_with y (g file)) is.here ∙ here refl;
  others = λ i differs. ap (λ (y : Marks). marks_with y (g i)) (is.others i differs)
      ∙ marks_same (m i) (f i) (g i) (others refl i).0 (others refl i).1;
}
changes_by false false m n f g file made same is others here = is
changes_by true false m n f g file made same is others here = absurd (false≢true same)
changes_by false true m n f g file made same is others here = absurd (false≢true (sym same))

-- the clock, and what a stop may have left
pub later_by : (h k : Bool) (a b : ℕ) → k ≡ h → (IsTrue h → a ≤ b) → moment_by h a ≤ moment_by k b
later_by true true a b same later = later refl
later_by false false a b same later = omega arith
later_by true false a b same later = absurd (false≢true same)
later_by false true a b same later = absurd (false≢true (sym same))

pub elapses_by : (h k : Bool) (a b : ℕ) (past since : ℕ → (ℕ → List ℕ) → Type 0) (during : ℕ → Held) → k ≡ h → IsTrue h
    → Elapses a b past since during → Elapses (moment_by h a) (moment_by k b) past since during
elapses_by true true a b past since during same is time = time
elapses_by false k a b past since during same is time = absurd (false≢true is)
elapses_by true false a b past since during same is time = absurd (false≢true same)

pub covers_by : (h : Bool) (a : ℕ) (since : ℕ → (ℕ → List ℕ) → Type 0) (during : ℕ → Held) → IsTrue h
    → Covers a since during → Covers (moment_by h a) since during
covers_by true a since during is covers = covers
covers_by false a since during is covers = absurd (false≢true is)

-- a file's length is reported
pub measured : {E : Type 0} (h k : Bool) (m n : ℕ → Marks) (f g : ℕ → File) (file : ℕ) (r : Result ℕ E) → k ≡ h
    → IfOk r (λ size. Changes m n file (sized_as (m file) size))
    → (IsTrue h → IfOk r (λ size. size ≡ length (f file).held.reads)) → (IsTrue h → g file ≡ f file)
    → IfOk r (λ size. (marks_by k (n file) (g file)).size ≡ size)
measured true true m n f g file (Ok size) same done count stays =
    ap (λ (x : File). length x.held.reads) (stays refl) ∙ sym (count refl)
measured false false m n f g file (Ok size) same done count stays = ap (λ (x : Marks). x.size) done.here
measured true false m n f g file (Ok size) same done count stays = absurd (false≢true same)
measured false true m n f g file (Ok size) same done count stays = absurd (false≢true (sym same))
measured h k m n f g file (Err e) same done count stays = tt

pub measured_others : {E : Type 0} (m n : ℕ → Marks) (file : ℕ) (r : Result ℕ E)
    → IfOk r (λ size. Changes m n file (sized_as (m file) size)) → OnErr r (Stays m n)
    → (i : ℕ) → i ≢ file → n i ≡ m i
measured_others m n file (Ok size) done failed i differs = done.others i differs
measured_others m n file (Err e) done failed i differs = failed i

-- nothing but its size differs
pub record IsSized (was now : Marks) : Type 0 where
  pub settled : now.settled ≡ was.settled
  pub frozen : now.frozen ≡ was.frozen
  pub listed : now.listed ≡ was.listed

sized_reported : {E : Type 0} (m n : ℕ → Marks) (file : ℕ) (r : Result ℕ E)
    → IfOk r (λ size. Changes m n file (sized_as (m file) size)) → OnErr r (Stays m n) → IsSized (m file) (n file)
sized_reported m n file (Ok size) done failed = record {
  settled = ap (λ (x : Marks). x.settled) done.here;
  frozen = ap (λ (x : Marks). x.frozen) done.here;
  listed = ap (λ (x : Marks). x.listed) done.here;
}
sized_reported m n file (Err e) done failed = record {
  settled = ap (λ (x : Marks). x.settled) (failed file);
  frozen = ap (λ (x : Marks). x.frozen) (failed file);
  listed = ap (λ (x : Marks). x.listed) (failed file);
}

sized_with : (h k : Bool) (m n : Marks) (f g : File) → k ≡ h → IsSized m n → (IsTrue h → g ≡ f)
    → IsSized (marks_by h m f) (marks_by k n g)
sized_with true true m n f g same is stays = record {
  settled = is.settled;
  frozen = is.frozen;
  listed = ap (λ (x : File). x.linked || n.listed) (stays refl) ∙ ap (λ (b : Bool). f.linked || b) is.listed;
}
sized_with false false m n f g same is stays = is
sized_with true false m n f g same is stays = absurd (false≢true same)
sized_with false true m n f g same is stays = absurd (false≢true (sym same))

pub sized_by : {E : Type 0} (h k : Bool) (m n : ℕ → Marks) (f g : ℕ → File) (file : ℕ) (r : Result ℕ E) → k ≡ h
    → IfOk r (λ size. Changes m n file (sized_as (m file) size)) → OnErr r (Stays m n) → (IsTrue h → g file ≡ f file)
    → IsSized (marks_by h (m file) (f file)) (marks_by k (n file) (g file))
sized_by h k m n f g file r same done failed stays =
    sized_with h k (m file) (n file) (f file) (g file) same (sized_reported m n file r done failed) stays

-- a file is frozen
pub frozen_marks : (m : Marks) (f g : File) → g.held ≡ f.held → g.linked ≡ f.linked
    → marks_with (frozen_as m) g ≡ frozen_as (marks_with m f)
frozen_marks m f g held linked =
    ap (λ (h : Held). record { size = length h.reads; settled = true; frozen = true; listed = g.linked || m.listed })
    held
    ∙ ap (λ (b : Bool). record { size = length f.held.reads; settled = true; frozen = true; listed = b || m.listed })
    linked

pub sealed_by : {T E : Type 0} (h : Bool) (m : Marks) (f : File) (r : Result T E) (size : T → ℕ) (P Q : T → Type 0)
    → (IsTrue h → IfOk r (λ s. size s ≡ length f.held.reads)) → IfOk r (λ s. size s ≡ m.size)
    → IfOk r (λ s. P s × Q s) → IfOk r (λ s. P s × (size s ≡ (marks_by h m f).size) × Q s)
sealed_by true m f (Ok s) size P Q known reported is = (is.0, known refl, is.1)
sealed_by false m f (Ok s) size P Q known reported is = (is.0, reported, is.1)
sealed_by h m f (Err e) size P Q known reported is = tt

pub on_err : {T E : Type 0} {A B : Type 0} (r : Result T E) → (A → B) → OnErr r A → OnErr r B
on_err (Ok x) f is = tt
on_err (Err e) f is = f is

-- which files are listed
pub listed_by : (h k : Bool) (m n : Marks) (f g : File) → IsTrue h → k ≡ h → n ≡ m → g ≡ f
    → (f.linked || m.listed) ≡ (marks_by k n g).listed
listed_by true true m n f g is same marks file = ap (λ (x : Marks). f.linked || x.listed) (sym marks)
    ∙ ap (λ (x : File). x.linked || n.listed) (sym file)
listed_by true false m n f g is same marks file = absurd (false≢true same)
listed_by false k m n f g is same marks file = absurd (false≢true is)

pub listed_in : {T E : Type 0} (r : Result T E) (items : T → List ℕ) (is_listed listed : ℕ → Bool)
    → ((n : ℕ) → is_listed n ≡ listed n)
    → IfOk r (λ files. (n : ℕ) → Contains (items files) n ↔ (is_listed n ≡ true))
    → IfOk r (λ files. (n : ℕ) → Contains (items files) n ↔ (listed n ≡ true))
listed_in (Ok files) items is_listed listed same is =
    λ n. subst (λ (b : Bool). Contains (items files) n ↔ (b ≡ true)) (same n) (is n)
listed_in (Err e) items is_listed listed same is = tt
