use Rattle.std.proofs.Common.{◌≡◌, true, false, refl, ap, rules}
use Rattle.flow_disk.specs.Disk.{InFile, ComesOf, Marks}
use Rattle.flow_disk.proofs.Moments.{started, by}
use Rattle.flow_disk.proofs.Calls.{starts, changes}
use Rattle.flow_segment.specs.Steps.{IsAnything}
use Rattle.flow_model.specs.Standing.{is_file_of, SameNamed}
use Rattle.flow_recover.proofs.tidying.remove_one.Goals as goal

pub returns-then-is_named-clause-any_moment : goal.returns-then-is_named-clause-any_moment
returns-then-is_named-clause-any_moment g c h =
    let D = g.D.Disk in
    let d0 = c.args.disk.now in
    started D d0 (ComesOf (D.held d0) (SameNamed c.args.manifest.now)) (λ image left.
    (image, g.met.D.Disk.only_now d0 image h left, λ n named. refl))

pub returns-in_err-remove-clause-any_moment : goal.returns-in_err-remove-clause-any_moment
returns-in_err-remove-clause-any_moment g c h =
    let D = g.D.Disk in
    let d0 = c.args.disk.now in
    let d1 = c.remove.new.self in
    let f = c.args.file in
    let m = c.args.manifest.now in
    let run0 = starts D d0 f IsAnything
    (λ image left. g.met.D.Disk.only_now d0 image h left) (λ octets is. tt) in
    let run1 = changes D d0 d0 d1 f IsAnything _ run0 (λ k differs. refl)
    (c.remove.ensures.time h) (λ octets is. ((D.held d0 f).reads, g.met.D.Disk.reads_image d0 f h, tt)) in
    let unnamed : is_file_of m f ≡ false = search rules in
    by D d0 d1 (ComesOf (D.held d0) (InFile f IsAnything)) (ComesOf (D.held d0) (SameNamed m)) run1
    (λ image came. (came.0, came.1, λ n named. came.2.others n (λ is. let same = ap (is_file_of m) is in absurd (cc))))

pub returns-clause-any_moment : goal.returns-clause-any_moment
returns-clause-any_moment g c h =
    let D = g.D.Disk in
    let d0 = c.args.disk.now in
    let d1 = c.remove.new.self in
    let f = c.args.file in
    let m = c.args.manifest.now in
    let run0 = starts D d0 f IsAnything
    (λ image left. g.met.D.Disk.only_now d0 image h left) (λ octets is. tt) in
    let run1 = changes D d0 d0 d1 f IsAnything _ run0 (λ k differs. refl)
    (c.remove.ensures.time h) (λ octets is. ((D.held d0 f).reads, g.met.D.Disk.reads_image d0 f h, tt)) in
    let unnamed : is_file_of m f ≡ false = search rules in
    by D d0 d1 (ComesOf (D.held d0) (InFile f IsAnything)) (ComesOf (D.held d0) (SameNamed m)) run1
    (λ image came. (came.0, came.1, λ n named. came.2.others n (λ is. let same = ap (is_file_of m) is in absurd (cc))))

pub returns-then-is_named-clause-removed : goal.returns-then-is_named-clause-removed
returns-then-is_named-clause-removed g c unnamed =
    let named : is_file_of c.args.manifest.now c.args.file ≡ true = search rules in
    absurd (cc)

pub returns-clause-removed : goal.returns-clause-removed
returns-clause-removed g c unnamed = ap (λ (m : Marks). m.listed) c.in_ok-remove.ensures.marks.done

pub returns-in_err-remove-clause-other_marks : goal.returns-in_err-remove-clause-other_marks
returns-in_err-remove-clause-other_marks g c n differs = c.remove.ensures.marks.others n differs

pub returns-clause-other_marks : goal.returns-clause-other_marks
returns-clause-other_marks g c n differs = c.remove.ensures.marks.others n differs

pub returns-in_err-remove-clause-named : goal.returns-in_err-remove-clause-named
returns-in_err-remove-clause-named g c h n named =
    let m = c.args.manifest.now in
    let unnamed : is_file_of m c.args.file ≡ false = search rules in
    (c.remove.ensures.held h).others n (λ is. let same = ap (is_file_of m) is in absurd (cc))

pub returns-clause-named : goal.returns-clause-named
returns-clause-named g c h n named =
    let m = c.args.manifest.now in
    let unnamed : is_file_of m c.args.file ≡ false = search rules in
    (c.remove.ensures.held h).others n (λ is. let same = ap (is_file_of m) is in absurd (cc))
