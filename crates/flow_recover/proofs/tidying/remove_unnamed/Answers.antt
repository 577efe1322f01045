use Rattle.std.proofs.Common.{◌≡◌, ◌≢◌, ⊎_elim, ◌↔◌, ℕ, Bool, true, false, IsTrue, List, [], ◌∷◌, get_or}
use Rattle.std.proofs.Common.{refl, sym, ◌∙◌, ap, subst, arith}
use Rattle.std.specs.List.{AllByRecursion, Contains}
use Rattle.std.proofs.lemmas.Bool.{cases_eq}
use Rattle.std.proofs.lemmas.List.{drop_all, drop_more}
use Rattle.std.proofs.lemmas.Map.Made.{Contains-tail}
use Rattle.flow_disk.specs.Disk.{Marks, ComesOf}
use Rattle.flow_disk.proofs.Moments.{started, goes_on, both}
use Rattle.flow_model.specs.Standing.{is_file_of, SameNamed}
use Rattle.flow_recover.proofs.tidying.remove_unnamed.Goals as goal

absent : (n : ℕ) (files : List ℕ) → AllByRecursion (λ file. file ≢ n) files → Contains files n → ⊥
absent n [] apart there = omega (arith, there.1)
absent n (file ∷ files) apart there = absent n files apart.1 (Contains-tail file files n apart.0 there)

not_listed : (n : ℕ) (files : List ℕ) (listed : Bool) → AllByRecursion (λ file. file ≢ n) files
    → Contains files n ↔ (listed ≡ true) → listed ≡ false
not_listed n files false apart lists = refl
not_listed n files true apart lists = absurd (absent n files apart (lists.1 refl))

pub returns-in_err-files-clause-any_moment : goal.returns-in_err-files-clause-any_moment
returns-in_err-files-clause-any_moment g c h =
    let D = g.D.Disk in
    let d0 = c.args.disk.now in
    let P = ComesOf (D.held d0) (SameNamed c.args.manifest.now) in
    let run0 = started D d0 P (λ image left.
    (image, g.met.D.Disk.only_now d0 image h left, λ n named. refl)) in
    goes_on D d0 d0 c.files-2.new.self P (D.held d0) run0 (c.files-2.ensures.time h) (λ image is.
    (image, is, λ n named. refl))

pub files-init : goal.files-init
files-init g c =
    let D = g.D.Disk in
    let d0 = c.args.disk.now in
    let P = ComesOf (D.held d0) (SameNamed c.args.manifest.now) in
    record {
      honest = c.files-2.ensures.honest;
      marks = λ n named. c.files-2.ensures.marks n;
      named = λ h n named. c.files-2.ensures.held h n;
      removed = λ h n unnamed apart. not_listed n c.in_ok-files.files.items (D.marks c.files-2.new.self n).listed
          (subst (AllByRecursion (λ (f : ℕ). f ≢ n)) c.deref-file-items.ensures.value apart)
          (c.in_ok-files.ensures.listed h n);
      thawed = λ n named. ap (λ (m : Marks). m.frozen) (c.files-2.ensures.marks n) ∙ c.requires n named;
      run = λ h. goes_on D d0 d0 c.files-2.new.self P (D.held d0)
          (started D d0 P (λ image left.
          (image, g.met.D.Disk.only_now d0 image h left, λ n named. refl))) (c.files-2.ensures.time h)
          (λ image is. (image, is, λ n named. refl));
      faults = c.in_ok-files.ensures.cause.done;
    }

pub returns-in_err-remove_one-clause-any_moment : goal.returns-in_err-remove_one-clause-any_moment
returns-in_err-remove_one-clause-any_moment g c h =
    let D = g.D.Disk in
    let d0 = c.args.disk.now in
    let d1 = c.files.disk in
    let R = SameNamed c.args.manifest.now in
    let h1 = subst IsTrue (sym c.files.invariant.honest) h in
    let run = c.files.invariant.run h in
    both D d0 d1 c.remove_one.new.disk R R R run (c.remove_one.ensures.any_moment h1)
    (λ image is. g.met.D.Disk.counts_now d1 (D.moment d0) image h1 run.later is) (λ a b same. same)
    (λ a b x first second n named. second n named ∙ first n named)

pub files-preserved : goal.files-preserved
files-preserved g c =
    let D = g.D.Disk in
    let d0 = c.args.disk.now in
    let d1 = c.files.disk in
    let R = SameNamed c.args.manifest.now in
    let m = c.args.manifest.now in
    let d2 = c.remove_one.new.disk in
    let i = c.files.file-index in
    let files = c.deref-file-items.result.now in
    let file = get_or files i 0 in
    record {
      honest = c.remove_one.ensures.honest ∙ c.files.invariant.honest;
      marks = λ n named. c.remove_one.ensures.marks n named ∙ c.files.invariant.marks n named;
      thawed = c.remove_one.ensures.thawed;
      named = λ h n named. c.remove_one.ensures.named (subst IsTrue (sym c.files.invariant.honest) h) n named
          ∙ c.files.invariant.named h n named;
      removed = λ h n unnamed apart.
          ⊎_elim (λ (same : n ≡ file). ap (λ (k : ℕ). (D.marks d2 k).listed) same
          ∙ c.in_ok-remove_one.ensures.removed (sym (ap (is_file_of m) same) ∙ unnamed))
          (λ differs. ap (λ (k : Marks). k.listed) (c.remove_one.ensures.other_marks n differs)
          ∙ c.files.invariant.removed h n unnamed (subst (AllByRecursion (λ (f : ℕ). f ≢ n)) (sym (drop_more files i 0
          c.files-test.true)) (λ is. differs (sym is), apart))) (cases_eq n file);
      run = λ h. let h1 = subst IsTrue (sym c.files.invariant.honest) h in
          let run = c.files.invariant.run h in
          both D d0 d1 c.remove_one.new.disk R R R run (c.remove_one.ensures.any_moment h1)
          (λ image is. g.met.D.Disk.counts_now d1 (D.moment d0) image h1 run.later is) (λ a b same. same)
          (λ a b x first second n named. second n named ∙ first n named);
      faults = c.in_ok-remove_one.ensures.cause.done ∙ c.files.invariant.faults;
    }

pub returns-in_err-files-clause-named : goal.returns-in_err-files-clause-named
returns-in_err-files-clause-named g c h n named = c.files-2.ensures.held h n

pub returns-in_err-remove_one-clause-named : goal.returns-in_err-remove_one-clause-named
returns-in_err-remove_one-clause-named g c h n named = c.remove_one.ensures.named (subst IsTrue
    (sym c.files.invariant.honest) h) n named ∙ c.files.invariant.named h n named

pub returns-clause-removed : goal.returns-clause-removed
returns-clause-removed g c h n unnamed = c.files.invariant.removed h n unnamed (subst (AllByRecursion (λ (f : ℕ). f ≢
    n)) (sym (drop_all c.files.file-index c.deref-file-items.result.now (omega arith))) tt)
