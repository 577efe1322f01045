use Rattle.std.proofs.Common.{◌≡◌, ℕ, ◌+◌, ◌-◌, ◌≤◌, List, length, take, drop, subst, sym, arith}
use Rattle.std.proofs.lemmas.List.{length-drop, length-take-le, take_all}
use Rattle.flow_codec.specs.Cutting.{IsCutOff, IsFileFault}
use Rattle.flow_codec.specs.Message.{IsAccepted}
use Rattle.flow_disk.proofs.Results.{passed_on}
use Rattle.flow_measure.specs.History.{Accepted}
use Rattle.flow_segment.specs.Carry.{carry_with}
use Rattle.flow_segment.specs.Spans.{noted}
use Rattle.flow_recover.specs.Reading.{IsOf}
use Rattle.flow_manifest.specs.declared.error.OpenError.TheVariants.{OutOfMemory}
use Rattle.flow_recover.proofs.Accepting.{octets_more, octets_refused}
use Rattle.flow_recover.proofs.Joining.{filled_octets}
use Rattle.flow_recover.proofs.segments.take_whole.Goals as goal

-- a slice up to the end
to_end : (octets : List ℕ) (at : ℕ) → take (length octets - at) (drop at octets) ≡ drop at octets
to_end octets at = take_all (length octets - at) (drop at octets) (omega (arith, length-drop at octets))

pub returns-in_default-clause-found : goal.returns-in_default-clause-found
returns-in_default-clause-found c =
    let was = c.messages.invariant.so_far in
    let octets = c.args.octets.now in (
      c.messages.invariant.within,
      was.messages,
      was.read,
      was.kind.kind,
      was.kind.carry,
      was.kind.count_is,
      was.kind.noted,
      filled_octets octets (drop c.messages.at octets) c.args.carry.now.templates was.messages was.read
          (λ i. omega (arith, c.type_inv.octets i)),
    )

pub returns-in_default-clause-stopped : goal.returns-in_default-clause-stopped
returns-in_default-clause-stopped c below =
    let octets = c.args.octets.now in
    let at = c.messages.at in (
      c.in_default.field-0,
      subst (λ (l : List ℕ). IsFileFault (c.args.from + at) l c.in_default.field-0)
          (to_end octets at) c.in_default.ensures.fault,
    )

pub returns-clause-found : goal.returns-clause-found
returns-clause-found c =
    let was = c.messages.invariant.so_far in
    let octets = c.args.octets.now in (
      c.messages.invariant.within,
      was.messages,
      was.read,
      was.kind.kind,
      was.kind.carry,
      was.kind.count_is,
      was.kind.noted,
      filled_octets octets (drop c.messages.at octets) c.args.carry.now.templates was.messages was.read
          (λ i. omega (arith, c.type_inv.octets i)),
    )

pub returns-in_err-take_message-clause-refused : goal.returns-in_err-take_message-clause-refused
returns-in_err-take_message-clause-refused c messages later read kind =
    let octets = c.args.octets.now in
    let at = c.messages.at in
    let n = c.in-Ok.length in
    let e = (c.in_err-take_message.field-0).0 in
    let now = c.messages.carry in
    let rest = to_end octets at in
    let fits = subst (λ (l : List ℕ). n ≤ length l) rest c.in-Ok.ensures.found.0 in
    let cut = subst (λ (l : List ℕ). IsCutOff (take n l)) rest c.in-Ok.ensures.found.1 in
    passed_on c.from_residual.result e (λ x. x ≡ OutOfMemory) c.from_residual.ensures.1
    (octets_refused c.args.section octets later c.args.carry.now now c.args.span.now c.messages.span c.messages.count at
    n messages (e ≡ OutOfMemory) c.messages.invariant.so_far c.messages-test.true fits cut read kind
    (λ a is of. c.in_err-take_message.ensures.refused a
    (subst (λ (l : List ℕ). IsAccepted (take n l) now.templates a.message a.after) (sym rest) is) of))

pub messages-preserved : goal.messages-preserved
messages-preserved c =
    let octets = c.args.octets.now in
    let at = c.messages.at in
    let n = c.in-Ok.length in
    let was = c.messages.invariant in
    let now = c.messages.carry in
    let new = c.take_message.new.carry in
    let rest = to_end octets at in
    let fits = subst (λ (l : List ℕ). n ≤ length l) rest c.in-Ok.ensures.found.0 in
    let cut = subst (λ (l : List ℕ). IsCutOff (take n l)) rest c.in-Ok.ensures.found.1 in
    let span = c.messages.span in
    let noting = c.take_message.new.span in
    let one = c.in_ok-take_message.ensures.taken in
    let taken = subst (λ (l : List ℕ). (a : Accepted) × (a.octets ≡ take n l)
    × IsAccepted (take n l) now.templates a.message a.after × IsOf c.args.section a × (new ≡ carry_with now a)
    × (noting ≡ noted a.message span))
    rest (one.0, one.1, one.2, one.3, one.4, c.in_ok-take_message.ensures.noted one.0 one.1 one.2) in
    record {
      within = omega (arith, fits, length-drop at octets, was.within);
      few = omega (arith, cut.long, length-take-le n (drop at octets) fits, was.few);
      so_far = octets_more c.args.section octets c.args.carry.now now new c.args.span.now span noting
          c.messages.count at n was.so_far fits cut taken;
    }

pub returns-in_default-clause-octets : goal.returns-in_default-clause-octets
returns-in_default-clause-octets c i = omega (arith, c.type_inv.octets i)

pub returns-clause-octets : goal.returns-clause-octets
returns-clause-octets c i = omega (arith, c.type_inv.octets i)

pub returns-in_err-take_message-clause-octets : goal.returns-in_err-take_message-clause-octets
returns-in_err-take_message-clause-octets c i = omega (arith, c.type_inv.octets i)
