use Rattle.std.proofs.Common.{◌≡◌, [], refl, sym, ap, ◌∙◌, ◌++◌, List}
use Rattle.std.specs.Prelude.{map}
use Rattle.std.proofs.lemmas.List.{append-nil}
use Rattle.std.proofs.lemmas.Result.{err_from_is_err_and}
use Rattle.flow_codec.specs.declared.message.DataRecord.{DataRecord}
use Rattle.flow_codec.specs.declared.fields.Records.{Records}
use Rattle.flow_codec.specs.Raw.{Placed}
use Rattle.flow_codec.specs.Message.{interpreted}
use Rattle.flow_codec.proofs.Interpreting.{records_are, has_fault_of}
use Rattle.flow_codec.proofs.fields.read_message.Goals as goal

abbrev holds : Records → List Placed → Records → Type 0
holds s taken t = t.records.items ≡ s.records.items ++ map (λ x. interpreted x.1) taken

pub returns-in_err-header-clause-fault : goal.returns-in_err-header-clause-fault
returns-in_err-header-clause-fault c =
    let p = err_from_is_err_and c.from_residual.result c.from_residual.ensures.1 in
    rw p.1 (has_fault_of holds (λ _ _ _ _. Unit {0}) c.args.octets.now c.args.templates.now
    (record {
      alloc = c.args.alloc;
      records =
          c.new.result;
    }) c.in_err-header.field-0.0 p.0 p.2 c.in_err-header.ensures.fault)

pub returns-clause-found : goal.returns-clause-found
returns-clause-found c =
    let h = c.in_ok-header.ensures.found in
    let records = c.from_vec.ensures
    ∙ records_are c.in_ok-header.header h.0 c.new.result.items c.walk_message.new.sink.records.items
    c.new.ensures.items (h.2 (record { alloc = c.args.alloc; records = c.new.result }) []
    (sym (append-nil c.new.result.items))) in (
      record { header = c.in_ok-header.header; records = h.0 },
      h.1,
      ap (λ (rs : List DataRecord). record { header = c.in_ok-header.header; records = rs }) records,
    )

pub returns-clause-only : goal.returns-clause-only
returns-clause-only c = λ m after is.
    let h = c.in_ok-header.ensures.only m after is in
    let records = c.from_vec.ensures
    ∙ records_are c.in_ok-header.header m.records c.new.result.items c.walk_message.new.sink.records.items
    c.new.ensures.items (h.2 (record { alloc = c.args.alloc; records = c.new.result }) []
    (sym (append-nil c.new.result.items))) in
    (ap (λ (rs : List DataRecord). record { header = c.in_ok-header.header; records = rs }) records ∙ rw h.0 refl, h.1)
