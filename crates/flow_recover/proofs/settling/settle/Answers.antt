use Rattle.std.proofs.Common.{◌≡◌, ⊎_elim, ℕ, sym, ◌∙◌, ap, subst}
use Rattle.std.proofs.lemmas.Bool.{cases_eq}
use Rattle.flow_disk.specs.Disk.{Held, Marks, IsImage, IsDiskImage}
use Rattle.flow_disk.proofs.Images.{synced_images}
use Rattle.flow_disk.proofs.Moments.{started, goes_on}
use Rattle.flow_recover.proofs.settling.settle.Goals as goal

pub returns-in_err-sync-clause-any_moment : goal.returns-in_err-sync-clause-any_moment
returns-in_err-sync-clause-any_moment g c h =
    let D = g.D.Disk in
    let d = c.args.disk.now in
    let P = IsDiskImage (D.held d) in
    goes_on D d d c.sync.new.self P (D.held d) (started D d P
    (λ image left. g.met.D.Disk.only_now d image h left)) (c.sync.ensures.time h) (λ image is. is)

pub returns-clause-any_moment : goal.returns-clause-any_moment
returns-clause-any_moment g c h =
    let D = g.D.Disk in
    let d = c.args.disk.now in
    let P = IsDiskImage (D.held d) in
    goes_on D d d c.sync.new.self P (D.held d) (started D d P
    (λ image left. g.met.D.Disk.only_now d image h left)) (c.sync.ensures.time h) (λ image is. is)

pub returns-clause-narrows : goal.returns-clause-narrows
returns-clause-narrows g c h image is =
    let D = g.D.Disk in
    let d = c.args.disk.now in
    let made = c.in_ok-sync.ensures.held h in
    synced_images (D.held d) (D.held c.sync.new.self) c.args.file made.done made.others
    (g.met.D.Disk.reads_image d c.args.file h) image is

pub returns-in_err-sync-clause-narrows : goal.returns-in_err-sync-clause-narrows
returns-in_err-sync-clause-narrows g c h image is n =
    let D = g.D.Disk in
    let made = c.in_err-sync.ensures.held h in
    ⊎_elim (λ same. subst (λ (k : ℕ). IsImage (D.held c.args.disk.now k) (image k)) (sym same) (made.failed
    (image c.args.file) (is c.args.file)))
    (λ other. subst (λ (f : Held). IsImage f (image n)) (made.others n other) (is n)) (cases_eq n c.args.file)

pub returns-clause-marks : goal.returns-clause-marks
returns-clause-marks g c =
    let D = g.D.Disk in
    let made = c.in_ok-sync.ensures.marks in
    let f = c.args.file in
    let old = D.marks c.args.disk.now in
    let new = D.marks c.sync.new.self in
    record {
      size = λ n. ⊎_elim (λ (same : n ≡ f). ap (λ (k : ℕ). (new k).size) same ∙ ap (λ (m : Marks). m.size) made.done
          ∙ ap (λ (k : ℕ). (old k).size) (sym same)) (λ other. ap (λ (m : Marks). m.size) (made.others n other))
          (cases_eq n f);
      settled = λ n was. ⊎_elim (λ (same : n ≡ f). ap (λ (k : ℕ). (new k).settled) same ∙ ap (λ
          (m : Marks). m.settled) made.done) (λ other. ap (λ (m : Marks). m.settled) (made.others n other) ∙ was)
          (cases_eq n f);
    }

pub returns-clause-frozen : goal.returns-clause-frozen
returns-clause-frozen g c n =
    let D = g.D.Disk in
    let made = c.in_ok-sync.ensures.marks in
    let f = c.args.file in
    let old = D.marks c.args.disk.now in
    let new = D.marks c.sync.new.self in
    ⊎_elim (λ (same : n ≡ f). ap (λ (k : ℕ). (new k).frozen) same ∙ ap (λ (m : Marks). m.frozen) made.done ∙ ap (λ
    (k : ℕ). (old k).frozen) (sym same)) (λ other. ap (λ (m : Marks). m.frozen) (made.others n other))
    (cases_eq n f)

pub returns-in_err-sync-clause-frozen : goal.returns-in_err-sync-clause-frozen
returns-in_err-sync-clause-frozen g c n =
    let D = g.D.Disk in
    let made = c.in_err-sync.ensures.marks in
    let f = c.args.file in
    let old = D.marks c.args.disk.now in
    let new = D.marks c.sync.new.self in
    ⊎_elim (λ (same : n ≡ f). ap (λ (k : ℕ). (new k).frozen) same ∙ made.frozen ∙ ap (λ (k : ℕ). (old k).frozen)
    (sym same)) (λ other. ap (λ (m : Marks). m.frozen) (made.others n other)) (cases_eq n f)

pub returns-clause-listed : goal.returns-clause-listed
returns-clause-listed g c = ap (λ (m : Marks). m.listed) c.in_ok-sync.ensures.marks.done

pub returns-clause-still : goal.returns-clause-still
returns-clause-still g c n was =
    let made = c.in_ok-sync.ensures.marks in
    let new = g.D.Disk.marks c.sync.new.self in
    ⊎_elim (λ (same : n ≡ c.args.file). ap (λ (k : ℕ). (new k).listed) same ∙ ap (λ (m : Marks). m.listed) made.done)
    (λ other. ap (λ (m : Marks). m.listed) (made.others n other) ∙ was) (cases_eq n c.args.file)
