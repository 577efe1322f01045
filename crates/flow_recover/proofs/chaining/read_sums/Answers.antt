use Rattle.std.proofs.Common.{◌≡◌, ◌∙◌, ℕ, List, length, take, sym, ap, subst, arith, inr, length-take, IfOk}
use Rattle.flow_disk.proofs.Results.{if_err_by}
use Rattle.flow_measure.specs.declared.span.PartSpan.{PartSpan}
use Rattle.flow_rolled.specs.Rollup.{IsRollup}
use Rattle.flow_rolled.specs.Spans.{HasSpan}
use Rattle.flow_recover.specs.Opening.{IsDeviceOrMemory}
use Rattle.flow_recover.proofs.OnlyReading.{read, unread}
use Rattle.flow_recover.proofs.chaining.read_sums.Goals as goal

pub returns-in_err-lengthen-clause-keeps : goal.returns-in_err-lengthen-clause-keeps
returns-in_err-lengthen-clause-keeps g c =
    let d0 = c.args.disk.now in
    unread g.D.Disk d0 (λ h image left. g.met.D.Disk.only_now d0 image h left)

pub returns-in_err-read_into-clause-keeps : goal.returns-in_err-read_into-clause-keeps
returns-in_err-read_into-clause-keeps g c =
    let d0 = c.args.disk.now in
    let call = c.read_into.ensures in
    read g.D.Disk d0 c.read_into.new.self (λ h image left. g.met.D.Disk.only_now d0 image h left)
    call.honest call.marks call.held call.time

pub returns-clause-keeps : goal.returns-clause-keeps
returns-clause-keeps g c =
    let d0 = c.args.disk.now in
    let call = c.read_into.ensures in
    read g.D.Disk d0 c.read_into.new.self (λ h image left. g.met.D.Disk.only_now d0 image h left)
    call.honest call.marks call.held call.time

pub returns-clause-found : goal.returns-clause-found
returns-clause-found g c h =
    let n = c.args.entry.length in
    let reads = (g.D.Disk.held c.args.disk.now c.args.entry.file).reads in
    let size : length (take n c.deref_mut.result.now) ≡ n =
    omega (arith, length-take n c.deref_mut.result.now, c.deref_mut.ensures.len, c.in_ok-lengthen.ensures) in
    let same : c.read_into.new.octets ≡ take n reads =
    c.in_ok-read_into.ensures.octets h ∙ ap (λ (k : ℕ). take k reads) size in
    subst (λ (l : List ℕ). IfOk c.read_rolled.result
    (λ (span : PartSpan). HasSpan (record { width = c.args.width; span = span }) l)) same c.read_rolled.ensures.found

pub returns-clause-refused : goal.returns-clause-refused
returns-clause-refused g c h table is =
    let n = c.args.entry.length in
    let reads = (g.D.Disk.held c.args.disk.now c.args.entry.file).reads in
    let size : length (take n c.deref_mut.result.now) ≡ n =
    omega (arith, length-take n c.deref_mut.result.now, c.deref_mut.ensures.len, c.in_ok-lengthen.ensures) in
    let same : c.read_into.new.octets ≡ take n reads =
    c.in_ok-read_into.ensures.octets h ∙ ap (λ (k : ℕ). take k reads) size in
    if_err_by c.read_rolled.result _ IsDeviceOrMemory (λ x is. inr is)
    (c.read_rolled.ensures.refused table (subst (λ (l : List ℕ). IsRollup c.args.width l table) (sym same) is))
