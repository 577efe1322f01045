use Rattle.std.proofs.Common.{◌≡◌, ℕ, ap, subst}
use Rattle.std.specs.Prelude.{map}
use Rattle.flow_codec.specs.Raw.{under}
use Rattle.flow_records.specs.Holding.{held}
use Rattle.flow_records.specs.Records.{records_within, started}
use Rattle.flow_records.proofs.Choosing.{held_are}
use Rattle.flow_records.proofs.message.choose.Goals as goal

pub returns-in-Ok-clause-walked : goal.returns-in-Ok-clause-walked
returns-in-Ok-clause-walked c =
    let w = c.in-Ok.ensures.found in
    let header = c.in-Ok.field-0 in
    let empty = c.clear.new.self in
    let new = c.walk_message.new.sink in
    let taken = held_are header w.0 empty new c.clear.ensures.records c.clear.ensures.octets w.2 in (
      record { header = header; records = w.0 },
      w.1,
      subst (λ (n : ℕ). held new ≡ map started (records_within n c.args.chosen.now.to (under header w.0)))
          (ap (λ (p : ℕ × ℕ). p.0) c.clear.ensures.span)
          (subst (λ (n : ℕ). held new ≡ map started (records_within empty.from n (under header w.0)))
          (ap (λ (p : ℕ × ℕ). p.1) c.clear.ensures.span) taken),
    )
