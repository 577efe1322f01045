use Rattle.std.proofs.Common.{◌≡◌, ℕ, ◌+◌, ◌≤◌, min, take, Ok, IsTrue, subst, sym, ◌∙◌, ap, arith}
use Rattle.flow_disk.specs.Disk.{Held}
use Rattle.flow_manifest.specs.Opening.{enough}
use Rattle.flow_manifest.proofs.Enough.{read_front}
use Rattle.flow_manifest.proofs.Looks.{looked, looked_again}
use Rattle.flow_manifest.proofs.Openings.{quiet}
use Rattle.flow_manifest.proofs.reading.slot_octets.Goals as goal

-- as many octets as are there, or fewer
within : (count size least : ℕ) → least ≡ min count 131124 → size ≡ count → 0 + least ≤ size
within count size least is there = omega arith

pub read-requires : goal.read-requires
read-requires g c = within c.in_ok-count.count _ c.min.result c.min.ensures c.in_ok-count.ensures.count

pub returns-in_err-count-clause-any_moment : goal.returns-in_err-count-clause-any_moment
returns-in_err-count-clause-any_moment g c h =
    let D = g.D.Disk in
    looked D c.args.disk.now c.length.new.self
    (λ image. g.met.D.Disk.only_now c.args.disk.now image h) (c.length.ensures.time h)

pub returns-in_err-octets-clause-any_moment : goal.returns-in_err-octets-clause-any_moment
returns-in_err-octets-clause-any_moment g c h =
    let D = g.D.Disk in
    let d = c.args.disk.now in
    let mid = c.length.new.self in
    looked_again D d mid c.read.new.self
    (looked D d mid (λ image. g.met.D.Disk.only_now d image h) (c.length.ensures.time h))
    (c.length.ensures.held h) (c.read.ensures.time (subst IsTrue (sym c.length.ensures.honest) h))

pub returns-clause-any_moment : goal.returns-clause-any_moment
returns-clause-any_moment g c h =
    let D = g.D.Disk in
    let d = c.args.disk.now in
    let mid = c.length.new.self in
    looked_again D d mid c.read.new.self
    (looked D d mid (λ image. g.met.D.Disk.only_now d image h) (c.length.ensures.time h))
    (c.length.ensures.held h) (c.read.ensures.time (subst IsTrue (sym c.length.ensures.honest) h))

pub returns-clause-cause : goal.returns-clause-cause
returns-clause-cause g c =
    let D = g.D.Disk in
    quiet (D.faults c.args.disk.now) (D.faults c.read.new.self) (Ok c.in_ok-octets.octets)
    (c.in_ok-octets.ensures.cause.done ∙ c.in_ok-count.ensures.cause.done) tt

pub returns-clause-octets : goal.returns-clause-octets
returns-clause-octets g c h =
    let D = g.D.Disk in
    let mid = c.length.new.self in
    let h1 = subst IsTrue (sym c.length.ensures.honest) h in
    let size = g.met.D.Disk.has_size mid c.args.file h1 in
    let read = c.in_ok-octets.ensures.octets h1 in
    let reads = (D.held mid c.args.file).reads in
    read ∙ ap (λ (n : ℕ). take n reads) c.min.ensures
    ∙ read_front reads c.in_ok-count.count (sym c.in_ok-count.ensures.count ∙ size)
    ∙ ap (λ (f : Held). take enough f.reads) (c.length.ensures.held h c.args.file)
