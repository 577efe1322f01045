use Rattle.std.proofs.Common.{◌≡◌, ◌∙◌, ℕ, List, [], length, take, sym, ap, subst, arith, inr, length-take, OnOk}
use Rattle.flow_codec.specs.Fault.{IsOctets}
use Rattle.flow_disk.proofs.Results.{if_err_by, on_ok_by}
use Rattle.flow_segment.specs.Prefix.{AreRead}
use Rattle.flow_recover.specs.Opening.{IsDeviceOrMemory}
use Rattle.flow_recover.specs.Reading.{IsCalled, IsRestatement}
use Rattle.flow_recover.proofs.OnlyReading.{read, unread}
use Rattle.flow_recover.proofs.pieces.take_prefix.Goals as goal

pub returns-in_err-lengthen-clause-keeps : goal.returns-in_err-lengthen-clause-keeps
returns-in_err-lengthen-clause-keeps g c =
    let d0 = c.args.disk.now in
    unread g.D.Disk d0 (λ h image left. g.met.D.Disk.only_now d0 image h left)

pub returns-in_err-read_into-clause-keeps : goal.returns-in_err-read_into-clause-keeps
returns-in_err-read_into-clause-keeps g c =
    let d0 = c.args.disk.now in
    let call = c.read_into.ensures in
    read g.D.Disk d0 c.read_into.new.self (λ h image left. g.met.D.Disk.only_now d0 image h left)
    call.honest call.marks call.held call.time

pub returns-clause-keeps : goal.returns-clause-keeps
returns-clause-keeps g c =
    let d0 = c.args.disk.now in
    let call = c.read_into.ensures in
    read g.D.Disk d0 c.read_into.new.self (λ h image left. g.met.D.Disk.only_now d0 image h left)
    call.honest call.marks call.held call.time

pub returns-clause-found : goal.returns-clause-found
returns-clause-found g c h =
    let n = c.args.entry.prefix in
    let reads = (g.D.Disk.held c.args.disk.now c.args.entry.file).reads in
    let size : length (take n c.deref_mut.result.now) ≡ n =
    omega (arith, length-take n c.deref_mut.result.now, c.deref_mut.ensures.len, c.in_ok-lengthen.ensures) in
    let same : c.read_into.new.octets ≡ take n reads =
    c.in_ok-read_into.ensures.octets h ∙ ap (λ (k : ℕ). take k reads) size in
    subst (λ (l : List ℕ). OnOk c.read_prefix.result
    (IsRestatement l c.read_prefix.new.carry × IsCalled c.args.called.now l × IsOctets l)) same
    (on_ok_by c.read_prefix.result
    (IsRestatement c.read_into.new.octets c.read_prefix.new.carry × IsCalled c.args.called.now c.read_into.new.octets)
    (IsRestatement c.read_into.new.octets c.read_prefix.new.carry × IsCalled c.args.called.now c.read_into.new.octets
    × IsOctets c.read_into.new.octets)
    (λ is. (is.0, is.1, c.read_prefix.ensures.octets)) c.read_prefix.ensures.found)

pub returns-clause-refused : goal.returns-clause-refused
returns-clause-refused g c h messages was kind called =
    let n = c.args.entry.prefix in
    let reads = (g.D.Disk.held c.args.disk.now c.args.entry.file).reads in
    let size : length (take n c.deref_mut.result.now) ≡ n =
    omega (arith, length-take n c.deref_mut.result.now, c.deref_mut.ensures.len, c.in_ok-lengthen.ensures) in
    let same : c.read_into.new.octets ≡ take n reads =
    c.in_ok-read_into.ensures.octets h ∙ ap (λ (k : ℕ). take k reads) size in
    if_err_by c.read_prefix.result _ IsDeviceOrMemory (λ x is. inr is)
    (c.read_prefix.ensures.refused messages (subst (λ (l : List ℕ). AreRead l [] messages []) (sym same) was) kind
    (subst (IsCalled c.args.called.now) (sym same) called))
