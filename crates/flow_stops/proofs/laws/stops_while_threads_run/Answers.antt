use Rattle.std.proofs.Common.{arith}
use Rattle.flow_manifest.specs.Slots.{reads_of}
use Rattle.flow_stops.proofs.Chaining.{acknowledged, between_calls, fed_stays, one_call, opening_finds}
use Rattle.flow_stops.proofs.Chaining.{reported_is_found}
use Rattle.flow_stops.proofs.laws.stops_while_threads_run.Goals as goal

pub returns-clause-call : goal.returns-clause-call
returns-clause-call g c =
    let met = g.met.D.Disk in
    let D = g.D.Disk in
    one_call D
    (λ d honest. (
      reads_of (D.held d),
      met.counts_now d (D.moment d) (reads_of (D.held d)) honest (omega arith) (λ n. met.reads_image d n honest),
    ))
    (λ d t image honest le left. met.counts_now d t image honest le (met.only_now d image honest left))
    met.only_now

pub returns-clause-calls : goal.returns-clause-calls
returns-clause-calls g c =
    let met = g.met.D.Disk in
    let D = g.D.Disk in
    between_calls D
    (λ d honest. (
      reads_of (D.held d),
      met.counts_now d (D.moment d) (reads_of (D.held d)) honest (omega arith) (λ n. met.reads_image d n honest),
    ))
    (λ d t image honest le left. met.counts_now d t image honest le (met.only_now d image honest left))
    met.only_now

pub returns-clause-acknowledged : goal.returns-clause-acknowledged
returns-clause-acknowledged g c =
    let met = g.met.D.Disk in
    let D = g.D.Disk in
    acknowledged D
    (λ d honest. (
      reads_of (D.held d),
      met.counts_now d (D.moment d) (reads_of (D.held d)) honest (omega arith) (λ n. met.reads_image d n honest),
    ))
    (λ d t image honest le left. met.counts_now d t image honest le (met.only_now d image honest left))
    met.only_now

pub returns-clause-fed : goal.returns-clause-fed
returns-clause-fed g c =
    let met = g.met.D.Disk in
    let D = g.D.Disk in
    fed_stays D
    (λ d honest. (
      reads_of (D.held d),
      met.counts_now d (D.moment d) (reads_of (D.held d)) honest (omega arith) (λ n. met.reads_image d n honest),
    ))
    (λ d t image honest le left. met.counts_now d t image honest le (met.only_now d image honest left))
    met.only_now

pub returns-clause-opening : goal.returns-clause-opening
returns-clause-opening g c = opening_finds g.D.Disk

pub returns-clause-reported : goal.returns-clause-reported
returns-clause-reported g c =
    let met = g.met.D.Disk in
    let D = g.D.Disk in
    reported_is_found D
    (λ d honest. (
      reads_of (D.held d),
      met.counts_now d (D.moment d) (reads_of (D.held d)) honest (omega arith) (λ n. met.reads_image d n honest),
    ))
    (λ d t image honest le left. met.counts_now d t image honest le (met.only_now d image honest left))
    met.only_now
