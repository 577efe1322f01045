use Rattle.std.proofs.Common.{arith}
use Rattle.flow_manifest.specs.Slots.{reads_of}
use Rattle.flow_stops.proofs.Chaining.{append_is_call, call_is_one, joined, represented, seen_is_represented}
use Rattle.flow_stops.proofs.Chaining.{start_represented}
use Rattle.flow_stops.proofs.laws.calls_under_the_lock.Goals as goal

pub returns-clause-started : goal.returns-clause-started
returns-clause-started g c = start_represented g.D.Disk

pub returns-clause-seen : goal.returns-clause-seen
returns-clause-seen g c = seen_is_represented g.D.Disk

pub returns-clause-represented : goal.returns-clause-represented
returns-clause-represented g c =
    let met = g.met.D.Disk in
    let D = g.D.Disk in
    represented D
    (λ d honest. (
      reads_of (D.held d),
      met.counts_now d (D.moment d) (reads_of (D.held d)) honest (omega arith) (λ n. met.reads_image d n honest),
    ))
    (λ d t image honest le left. met.counts_now d t image honest le (met.only_now d image honest left))
    met.only_now

pub returns-clause-joined : goal.returns-clause-joined
returns-clause-joined g c = joined g.D.Disk

pub returns-clause-one : goal.returns-clause-one
returns-clause-one g c = call_is_one g.D.Disk

pub returns-clause-append : goal.returns-clause-append
returns-clause-append g c = append_is_call g.D.Disk
