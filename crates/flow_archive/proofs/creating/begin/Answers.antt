use Rattle.std.proofs.Common.{◌≡◌, ◌≤◌, ◌↔◌, ℕ, Bool, true, false, IsTrue, List, [], ◌∷◌, length, refl, sym, ◌∙◌, ap}
use Rattle.std.proofs.Common.{subst, arith, rules, vec_len}
use Rattle.std.specs.Prelude.{Contains, eqb}
use Rattle.std.proofs.lemmas.Bool.{eqb-false}
use Rattle.flow_disk.specs.declared.disk.Disk.{Ghosts}
use Rattle.flow_disk.specs.Disk.{Marks, IsDiskImage, Stays}
use Rattle.flow_disk.specs.Moments.{Passes}
use Rattle.flow_disk.specs.declared.error.DiskError.{DiskError}
use Rattle.flow_disk.specs.declared.error.DiskError.TheVariants as disk
use Rattle.flow_disk.proofs.Moments.{started, goes_on}
use Rattle.flow_disk.proofs.Results.{passed_on}
use Rattle.flow_archive.specs.Beginning.{HasFiles, IsNotMade, IsUntouched}
use Rattle.flow_archive.specs.Refusals.{of_disk}
use Rattle.flow_archive.specs.declared.refusal.ArchiveError.TheVariants as refusal
use Rattle.flow_archive.proofs.creating.begin.Goals as goal

-- a call in which nothing changes
untouched : {D S X : Type 0} (g : Ghosts D S X) (old new : D) → Stays (g.marks old) (g.marks new)
    → (IsTrue (g.honest old) → Stays (g.held old) (g.held new))
    → (IsTrue (g.honest old) → Passes g.moment g.left_since old new (g.held old))
    → (IsTrue (g.honest old) → (image : ℕ → List ℕ) → g.left_since old (g.moment old) image
    → IsDiskImage (g.held old) image)
    → IsUntouched g old new
untouched g old new marks_same held_same time only = record {
  marks_stay = marks_same;
  held_stays = held_same;
  any_moment = λ h. goes_on g old old new (IsDiskImage (g.held old)) (g.held old)
      (started g old (IsDiskImage (g.held old)) (only h)) (time h) (λ image is. is);
}

-- a refusal of the disk, before anything changed
told : {D S X : Type 0} (g : Ghosts D S X) (old new : D) (e : DiskError)
    → IsUntouched g old new
    → IsNotMade g old new (of_disk e)
told g old new disk.Fault same = tt
told g old new disk.OutOfMemory same = same

some_file : (files : List ℕ) (marks : ℕ → Marks) → ((n : ℕ) → Contains files n ↔ ((marks n).listed ≡ true))
    → 1 ≤ length files → HasFiles marks
some_file [] marks listed some = absurd (omega (arith, some))
some_file (n ∷ files) marks listed some = (n, (listed n).0 (0, omega arith, refl))

at_least_one : (files : List ℕ) (count : ℕ) (b : Bool) → count ≡ length files → b ≡ eqb count 0 → b ≡ false
    → 1 ≤ length files
at_least_one [] count b len is differs = absurd (eqb-false _ _ (sym is ∙ differs) len)
at_least_one (x ∷ files) count b len is differs = omega arith

pub returns-in_err-files-clause-refused : goal.returns-in_err-files-clause-refused
returns-in_err-files-clause-refused g c =
    let D = g.D.Disk in
    let d0 = c.args.disk.now in
    let d1 = c.files.new.self in
    passed_on c.from_residual.result (of_disk (c.in_err-files.field-0).0)
    (IsNotMade D d0 d1) c.from_residual.ensures.1
    (told D d0 d1 (c.in_err-files.field-0).0
    (untouched D d0 d1 c.files.ensures.marks c.files.ensures.held
    c.files.ensures.time (λ h image left. g.met.D.Disk.only_now d0 image h left)))

pub returns-then-not-is_empty-clause-refused : goal.returns-then-not-is_empty-clause-refused
returns-then-not-is_empty-clause-refused g c =
    let D = g.D.Disk in
    let d0 = c.args.disk.now in
    let d1 = c.files.new.self in
    let files = c.in_ok-files.files in
    let len : vec_len files ≡ length files.items = search rules in
    let some : 1 ≤ length files.items = at_least_one files.items (vec_len files) c.is_empty.result len
    c.is_empty.ensures c.if-not-is_empty.true in (
      (λ h. let has = some_file files.items (D.marks d1) (c.in_ok-files.ensures.listed h) some in
          (has.0, sym (ap (λ (k : Marks). k.listed) (c.files.ensures.marks has.0)) ∙ has.1)),
      untouched D d0 d1 c.files.ensures.marks c.files.ensures.held
          c.files.ensures.time (λ h image left. g.met.D.Disk.only_now d0 image h left),
    )

pub returns-in_err-first-clause-refused : goal.returns-in_err-first-clause-refused
returns-in_err-first-clause-refused g c =
    let D = g.D.Disk in
    let d0 = c.args.disk.now in
    let d1 = c.files.new.self in
    passed_on c.from_residual-in_err-first.result refusal.OutOfMemory
    (IsNotMade D d0 d1) c.from_residual-in_err-first.ensures.1
    (untouched D d0 d1 c.files.ensures.marks c.files.ensures.held
    c.files.ensures.time (λ h image left. g.met.D.Disk.only_now d0 image h left))

pub returns-clause-known : goal.returns-clause-known
returns-clause-known g c h =
    let h1 = subst IsTrue (sym c.files.ensures.honest) h in
    c.in_ok-make_files.ensures.known h1 c.args.width c.args.wide c.args.limit c.slots_of.ensures.valid
    c.slots_of.ensures.valid_older (c.as_slice.ensures.value ∙ c.in_ok-first.ensures.body)
    (c.as_slice-2.ensures.value ∙ c.in_ok-first.ensures.older)
