use Rattle.std.proofs.Common.{◌∙◌, ◌+◌, ◌-◌, ℕ, List, ap, drop, length, refl, subst, take}
use Rattle.std.proofs.KnownBytes.{Appends-nil}
use Rattle.std.proofs.lemmas.List.{take_all}
use Rattle.std.specs.List.{AllByRecursion}
use Rattle.std.specs.Io.KnownBytes.{Appends}
use Rattle.flow_codec.specs.Cutting.{IsCutOff}
use Rattle.flow_codec.specs.Message.{joined}
use Rattle.flow_report.specs.Writing.{AppendsFront}
use Rattle.flow_disk.proofs.Results.{passed_on}
use Rattle.flow_export.specs.Export.{asked_count, IsBlameless}
use Rattle.flow_export.proofs.Choosing.{chosen_count, chosen_is, joined_cut, joined_more}
use Rattle.flow_export.proofs.WholeMessages.{all_written, chosen_whole, first_written, next_within, one_cut, part_after}
use Rattle.flow_export.proofs.WholeMessages.{whole_more}
use Rattle.flow_export.proofs.Written.{on_err_always}
use Rattle.flow_export.proofs.exporting.write_some.Goals as goal

pub loop-message-init : goal.loop-message-init
loop-message-init g c = record { written = Appends-nil (g.W.Write.contents c.args.output.now); whole = tt }

pub loop-message-preserved : goal.loop-message-preserved
loop-message-preserved g c =
    let from = c.min-from.result in
    let end = from + c.min.result in
    let chosen = take (end - from) (drop from c.args.messages.now) in
    record {
      written = joined_more chosen c.loop-message.message-index
          c.message-item.result c.as_slice.result.now (g.W.Write.contents c.args.output.now)
          (g.W.Write.contents c.loop-message.output) (g.W.Write.contents c.write_whole.new.output)
          c.loop-message-test.true c.message-item.is c.as_slice.ensures c.loop-message.invariant.written
          c.in_ok-write_whole.ensures.all;
      whole = whole_more chosen c.loop-message.message-index c.message-item.result c.as_slice.result.now
          c.loop-message-test.true c.message-item.is c.as_slice.ensures c.loop-message.invariant.whole
          c.in_ok-write_whole.ensures.whole;
    }

pub returns-in_err-write_whole-clause-some : goal.returns-in_err-write_whole-clause-some
returns-in_err-write_whole-clause-some g c =
    let from = c.min-from.result in
    let end = from + c.min.result in
    let old = g.W.Write.contents c.args.output.now in
    let new = g.W.Write.contents c.write_whole.new.output in
    on_err_always c.from_residual.result _
    (subst (λ (ms : List (List ℕ)). AppendsFront old new (joined ms))
    (chosen_is c.args.most c.args.skip from end (length c.args.messages.now) c.args.messages.now refl c.min-from.ensures
    (ap (λ (k : ℕ). from + k) c.min.ensures))
    (joined_cut (take (end - from) (drop from c.args.messages.now)) c.loop-message.message-index c.message-item.result
    c.as_slice.result.now old (g.W.Write.contents c.loop-message.output) new c.loop-message-test.true c.message-item.is
    c.as_slice.ensures c.loop-message.invariant.written c.in_err-write_whole.ensures.some))

pub returns-in_err-write_whole-clause-part : goal.returns-in_err-write_whole-clause-part
returns-in_err-write_whole-clause-part g c =
    let from = c.min-from.result in
    let end = from + c.min.result in
    let xs = c.args.messages.now in
    let chosen = take (end - from) (drop from xs) in
    let at = c.loop-message.message-index in
    let old = g.W.Write.contents c.args.output.now in
    let now = g.W.Write.contents c.loop-message.output in
    on_err_always c.from_residual.result _
    (part_after at 1 (asked_count c.args.skip c.args.most (length xs)) old now (g.W.Write.contents c.write_whole.new.output)
    (next_within c.args.most c.args.skip from end (length xs) at xs refl c.min-from.ensures
    (ap (λ (k : ℕ). from + k) c.min.ensures) c.loop-message-test.true)
    (first_written chosen at old now c.loop-message-test.true c.loop-message.invariant.whole
    c.loop-message.invariant.written)
    (one_cut c.as_slice.result.now now (g.W.Write.contents c.write_whole.new.output) c.in_err-write_whole.ensures.part
    c.in_err-write_whole.ensures.some))

pub returns-in_err-write_whole-clause-blameless : goal.returns-in_err-write_whole-clause-blameless
returns-in_err-write_whole-clause-blameless g c = λ all.
    let from = c.min-from.result in
    let end = from + c.min.result in
    passed_on c.from_residual.result (c.in_err-write_whole.field-0).0 IsBlameless c.from_residual.ensures.1
    (c.in_err-write_whole.ensures.blameless
    (chosen_whole from (end - from) c.loop-message.message-index c.args.messages.now c.message-item.result
    c.as_slice.result.now c.loop-message-test.true c.message-item.is c.as_slice.ensures all))

pub returns-clause-count : goal.returns-clause-count
returns-clause-count g c =
    let from = c.min-from.result in
    chosen_count c.args.most c.args.skip from (from + c.min.result) (length c.args.messages.now) c.args.messages.now refl
    c.min-from.ensures (ap (λ (k : ℕ). from + k) c.min.ensures)

pub returns-clause-all : goal.returns-clause-all
returns-clause-all g c =
    let from = c.min-from.result in
    let end = from + c.min.result in
    subst (λ (ms : List (List ℕ)). Appends (g.W.Write.contents c.args.output.now)
    (g.W.Write.contents c.loop-message.output) (joined ms))
    (take_all c.loop-message.message-index (take (end - from) (drop from c.args.messages.now)) c.loop-message-test.false
    ∙ chosen_is c.args.most c.args.skip from end (length c.args.messages.now) c.args.messages.now refl c.min-from.ensures
    (ap (λ (k : ℕ). from + k) c.min.ensures)) c.loop-message.invariant.written

pub returns-clause-whole : goal.returns-clause-whole
returns-clause-whole g c =
    let from = c.min-from.result in
    let end = from + c.min.result in
    let xs = c.args.messages.now in
    let chosen = take (end - from) (drop from xs) in
    let all = take_all c.loop-message.message-index chosen c.loop-message-test.false in
    all_written c.args.most c.args.skip from end (length xs) xs (g.W.Write.contents c.args.output.now)
    (g.W.Write.contents c.loop-message.output) refl c.min-from.ensures (ap (λ (k : ℕ). from + k) c.min.ensures)
    (subst (AllByRecursion IsCutOff) all c.loop-message.invariant.whole)
    (subst (λ (ms : List (List ℕ)). Appends (g.W.Write.contents c.args.output.now)
    (g.W.Write.contents c.loop-message.output) (joined ms)) all c.loop-message.invariant.written)
