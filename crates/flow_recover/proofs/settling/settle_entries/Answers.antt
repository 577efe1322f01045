use Rattle.std.proofs.Common.{◌≡◌, ◌+◌, IsTrue, [], ◌∷◌, ◌++◌, get_or, take, refl, sym, ◌∙◌, subst, arith, true}
use Rattle.std.specs.List.{AllByRecursion}
use Rattle.std.proofs.lemmas.List.{take_more, take_all}
use Rattle.flow_disk.specs.Disk.{IsDiskImage}
use Rattle.flow_disk.proofs.Moments.{started, by, one_run}
use Rattle.flow_manifest.specs.declared.manifest.Entry.{Entry}
use Rattle.flow_manifest.proofs.Bodies.{all_more}
use Rattle.flow_manifest.specs.Following.{no_entry}
use Rattle.flow_manifest.proofs.EntryLists.{all_by}
use Rattle.flow_recover.proofs.settling.settle_entries.Goals as goal

pub entries-init : goal.entries-init
entries-init g c =
    let D = g.D.Disk in
    let d0 = c.args.disk.now in
    record {
      honest = refl;
      frozen = λ n. refl;
      marks = record { size = λ n. refl; settled = λ n was. was };
      settled = tt;
      listed = tt;
      still = λ n was. was;
      narrows = λ h image is. is;
      run = λ h. started D d0 (IsDiskImage (D.held d0))
          (λ image left. g.met.D.Disk.only_now d0 image h left);
      reads = λ h n. refl;
      faults = refl;
    }

pub entries-preserved : goal.entries-preserved
entries-preserved g c =
    let D = g.D.Disk in
    let d0 = c.args.disk.now in
    let d1 = c.entries.disk in
    let d2 = c.settle.new.disk in
    let was = c.entries.invariant in
    let P = IsDiskImage (D.held d0) in
    let i = c.entries.entry-index in
    let e = get_or c.args.entries.now i no_entry in
    let marks = c.in_ok-settle.ensures.marks in
    let taken : take
    (i + 1) c.args.entries.now ≡ take i c.args.entries.now ++ e ∷ [] = take_more c.args.entries.now i no_entry
    c.entries-test.true in
    record {
      honest = c.settle.ensures.honest ∙ was.honest;
      frozen = λ n. c.settle.ensures.frozen n ∙ was.frozen n;
      marks = record {
        size = λ n. marks.size n ∙ was.marks.size n;
        settled = λ n old. marks.settled n
            (was.marks.settled n old);
      };
      settled = subst (AllByRecursion (λ (x : Entry). (D.marks d2 x.file).settled ≡ true)) (sym taken)
          (all_more (λ (x : Entry). (D.marks d2 x.file).settled ≡ true) (take i c.args.entries.now) e
          (all_by (λ (x : Entry). (D.marks d1 x.file).settled ≡ true) (λ (x : Entry).
          (D.marks d2 x.file).settled ≡ true) (λ x old. marks.settled x.file old)
          (take i c.args.entries.now) was.settled)
          c.in_ok-settle.ensures.settled);
      listed = subst (AllByRecursion (λ (x : Entry). (D.marks d2 x.file).listed ≡ true)) (sym taken)
          (all_more (λ (x : Entry). (D.marks d2 x.file).listed ≡ true) (take i c.args.entries.now) e
          (all_by (λ (x : Entry). (D.marks d1 x.file).listed ≡ true) (λ (x : Entry).
          (D.marks d2 x.file).listed ≡ true) (λ x old. c.in_ok-settle.ensures.still x.file old)
          (take i c.args.entries.now) was.listed)
          c.in_ok-settle.ensures.listed);
      still = λ n old. c.in_ok-settle.ensures.still n (was.still n old);
      narrows = λ h image is. let h1 = subst IsTrue (sym was.honest) h in was.narrows h image
          (c.settle.ensures.narrows h1 image is);
      run = λ h. let h1 = subst IsTrue (sym was.honest) h in
          one_run D d0 d1 d2 P (was.run h) (by D d1 d2 (IsDiskImage
          (D.held d1)) P (c.settle.ensures.any_moment h1) (was.narrows h));
      reads = λ h n. let h1 = subst IsTrue (sym was.honest) h in c.in_ok-settle.ensures.reads h1 n ∙ was.reads h n;
      faults = c.in_ok-settle.ensures.cause.done ∙ was.faults;
    }

pub returns-in_err-settle-clause-any_moment : goal.returns-in_err-settle-clause-any_moment
returns-in_err-settle-clause-any_moment g c h =
    let D = g.D.Disk in
    let d0 = c.args.disk.now in
    let d1 = c.entries.disk in
    let d2 = c.settle.new.disk in
    let was = c.entries.invariant in
    let P = IsDiskImage (D.held d0) in
    let h1 = subst IsTrue (sym was.honest) h in
    one_run D d0 d1 d2 P (was.run h) (by D d1 d2 (IsDiskImage (D.held d1)) P
    (c.settle.ensures.any_moment h1) (was.narrows h))

pub returns-in_err-settle-clause-narrows : goal.returns-in_err-settle-clause-narrows
returns-in_err-settle-clause-narrows g c h image is =
    let was = c.entries.invariant in
    let h1 = subst IsTrue (sym was.honest) h in was.narrows h image (c.settle.ensures.narrows h1 image is)

pub returns-clause-settled : goal.returns-clause-settled
returns-clause-settled g c =
    let D = g.D.Disk in
    subst (AllByRecursion (λ (x : Entry). (D.marks c.entries.disk x.file).settled ≡ true))
    (take_all c.entries.entry-index c.args.entries.now (omega arith)) c.entries.invariant.settled

pub returns-clause-reads : goal.returns-clause-reads
returns-clause-reads g c h n = c.entries.invariant.reads h n

pub returns-clause-listed : goal.returns-clause-listed
returns-clause-listed g c =
    let D = g.D.Disk in
    subst (AllByRecursion (λ (x : Entry). (D.marks c.entries.disk x.file).listed ≡ true))
    (take_all c.entries.entry-index c.args.entries.now (omega arith)) c.entries.invariant.listed

pub returns-clause-still : goal.returns-clause-still
returns-clause-still g c n was = c.entries.invariant.still n was
