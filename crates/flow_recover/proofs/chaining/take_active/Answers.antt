use Rattle.std.proofs.Common.{◌≡◌, ℕ, List, [], ◌∙◌, ap, subst, sym, Vec}
use Rattle.std.specs.declared.alloc.Global.{Global}
use Rattle.flow_codec.specs.Templates.{AllTemplates}
use Rattle.flow_disk.proofs.Results.{passed_on}
use Rattle.flow_gate.specs.Scan.{texts}
use Rattle.flow_measure.specs.History.{AreAcceptedFrom}
use Rattle.flow_segment.specs.Prefix.{AreRead}
use Rattle.flow_recover.specs.Reading.{part_of}
use Rattle.flow_recover.specs.Reading.{IsCalled, IsRestatement}
use Rattle.flow_manifest.specs.declared.error.OpenError.TheVariants.{OutOfMemory}
use Rattle.flow_recover.proofs.Behind.{restated_templates, segment_read}
use Rattle.flow_recover.proofs.chaining.take_active.Goals as goal

pub returns-clause-found : goal.returns-clause-found
returns-clause-found c =
    let p = part_of c.args.segment.now in
    let front = c.read_prefix.new.carry in
    let own = c.in_ok-read_prefix.ensures.found in
    let restated : IsRestatement p.front front =
    subst (λ (l : List ℕ). IsRestatement l front) c.as_slice.ensures.value own.0 in
    let taken = c.in_ok-take_list.ensures.taken in (
      subst (λ (l : List ℕ). IsCalled c.args.called.now l) c.as_slice.ensures.value own.1,
      segment_read p front c.take_list.new.carry taken.0 restated
          (taken.1 ∙ ap (λ (ms : List (Vec ℕ Global)). texts ms) c.as_slice-2.ensures.value) taken.2 taken.3,
    )

pub returns-in_err-read_prefix-clause-refused : goal.returns-in_err-read_prefix-clause-refused
returns-in_err-read_prefix-clause-refused c whole called g =
    passed_on c.from_residual.result (c.in_err-read_prefix.field-0).0 (λ e. e ≡ OutOfMemory) c.from_residual.ensures.1
    (c.in_err-read_prefix.ensures.refused g.prefix
    (subst (λ (l : List ℕ). AreRead l [] g.prefix []) (sym c.as_slice.ensures.value) g.front) g.restated
    (subst (λ (l : List ℕ). IsCalled c.args.called.now l) (sym c.as_slice.ensures.value) called))

pub returns-in_err-take_list-clause-refused : goal.returns-in_err-take_list-clause-refused
returns-in_err-take_list-clause-refused c whole called g =
    let p = part_of c.args.segment.now in
    let front = c.read_prefix.new.carry in
    let restated : IsRestatement p.front front =
    subst (λ (l : List ℕ). IsRestatement l front) c.as_slice.ensures.value c.in_ok-read_prefix.ensures.found.0 in
    let same = restated_templates p.front front g.prefix restated g.front in
    passed_on c.from_residual-in_err-take_list.result (c.in_err-take_list.field-0).0 (λ e. e ≡ OutOfMemory)
    c.from_residual-in_err-take_list.ensures.1
    (c.in_err-take_list.ensures.refused g.messages
    (g.octets ∙ sym (ap (λ (ms : List (Vec ℕ Global)). texts ms) c.as_slice-2.ensures.value))
    (subst (λ (t : AllTemplates). AreAcceptedFrom t g.messages) (sym same) g.accepted))
