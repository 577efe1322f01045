use Rattle.std.proofs.Common.{◌≡◌, ◌++◌, ◌∷◌, [], List, ℕ, length, ap, ◌∙◌, arith, length-append}
use Rattle.flow_memory_disk.specs.declared.deed.Deed.{Deed}
use Rattle.flow_memory_disk.specs.Record.{count_all, calls_of}
use Rattle.flow_memory_disk.proofs.Recorded.{calls_push, octets_push}
use Rattle.flow_memory_disk.proofs.record.Record.push.Goals as goal

pub invariant_of-self : goal.invariant_of-self
invariant_of-self c =
    let deeds = c.args.self.now.deeds.items in
    let octets = c.args.self.now.octets.items in
    let whole : count_all deeds ≡ length octets = c.args.self.now.whole in
    record {
      whole = omega (
        arith,
        ap count_all c.push_reserved.ensures.items,
        octets_push deeds c.args.deed,
        ap (λ (l : List ℕ). length l) c.append.ensures.items,
        length-append octets c.args.octets.now,
        whole,
        c.requires.count,
      );
    }

pub returns-clause-calls : goal.returns-clause-calls
returns-clause-calls c =
    let deeds = c.args.self.now.deeds.items in
    let octets = c.args.self.now.octets.items in
    let whole : count_all deeds ≡ length octets = c.args.self.now.whole in
    ap (λ (l : List Deed). calls_of l c.append.new.list.items) c.push_reserved.ensures.items
    ∙ ap (λ (l : List ℕ). calls_of (deeds ++ c.args.deed ∷ []) l) c.append.ensures.items
    ∙ calls_push deeds c.args.deed octets c.args.octets.now whole
