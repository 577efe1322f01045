use Rattle.std.proofs.Common.{◌≡◌, ℕ, ◌+◌, List, [], ◌∷◌, length, take, IsTrue, refl, sym, subst, ap, ◌∙◌, arith}
use Rattle.flow_disk.specs.Disk.{Held, IsImage, put_at, touched_at, loosened_at, settled_at}
use Rattle.flow_disk.proofs.Images.{settled_one}
use Rattle.flow_disk.proofs.Results.{on_ok_by}
use Rattle.flow_manifest.specs.Slots.{open_gate}
use Rattle.flow_manifest.proofs.Gates.{body_read}
use Rattle.flow_manifest.proofs.creating.write_slot.Goals as goal

-- a gate written, a body after it, the rest cut off, and all settled
written : (start gated filled short new : Held) (body : List ℕ) (count : ℕ) → count ≡ 1 + length body
    → gated ≡ touched_at start 0 1 (put_at start.reads 0 (open_gate ∷ []))
    → filled ≡ touched_at gated 1 (length body) (put_at gated.reads 1 body)
    → short ≡ loosened_at filled count (take count filled.reads) → new ≡ settled_at short.reads
    → (octets : List ℕ) → IsImage new octets → octets ≡ open_gate ∷ body
written start gated filled short new body count count_is gate fill cut settled octets is =
    settled_one short.reads octets (subst (λ (f : Held). IsImage f octets) settled is)
    ∙ ap (λ (f : Held). f.reads) cut ∙ ap (λ (f : Held). take count f.reads) fill
    ∙ ap (λ (f : Held). take count (put_at f.reads 1 body)) gate
    ∙ body_read (put_at start.reads 0 (open_gate ∷ [])) body count (omega arith) count_is

pub returns-clause-after : goal.returns-clause-after
returns-clause-after g c h =
    let D = g.D.Disk in
    let file = c.args.file in
    let body = c.args.body.now in
    let start = D.held c.args.disk.now file in
    let gated = D.held c.write_at.new.self file in
    let filled = D.held c.write_at-2.new.self file in
    let short = D.held c.cut.new.self file in
    let new = D.held c.sync.new.self file in
    let h1 = subst IsTrue (sym c.write_at.ensures.honest) h in
    let h2 = subst IsTrue (sym c.write_at-2.ensures.honest) h1 in
    let h3 = subst IsTrue (sym c.cut.ensures.honest) h2 in
    let gate = (c.in_ok-write_at.ensures.held h).done in
    let fill = (c.in_ok-write_at-2.ensures.held h1).done in
    let cut = (c.in_ok-cut.ensures.held h2).done in
    on_ok_by c.sync.result (new ≡ settled_at short.reads)
    ((octets : List ℕ) → IsImage new octets → octets ≡ open_gate ∷ body)
    (written start gated filled short new body _ refl gate fill cut) (c.sync.ensures.held h3).done
