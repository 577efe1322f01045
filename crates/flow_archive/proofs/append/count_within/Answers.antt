use Rattle.std.proofs.Common.{◌≡◌, ℕ, ◌+◌, Bor, List, [], ◌∷◌, ◌++◌, length, get_or, take, drop, ◌∙◌, ap, arith}
use Rattle.std.proofs.lemmas.List.{map_more}
use Rattle.flow_gate.specs.Gate.{octet_sum}
use Rattle.flow_gate.specs.Steps.{slices}
use Rattle.flow_gate.proofs.Rows.{octet_sum-append, octet_sum-push}
use Rattle.flow_segment.proofs.Batches.{one_of}
use Rattle.flow_archive.proofs.append.count_within.Goals as goal

pub loop-message-preserved : goal.loop-message-preserved
loop-message-preserved c =
    let ms = c.args.messages.now in
    let i = c.loop-message.message-index in
    let none : Bor (List ℕ) = record { ref_ptr = (0, 0); now = [] } in
    let m = (get_or ms i none).now in
    let more : slices (take (i + 1) ms) ≡ slices (take i ms) ++ m ∷ [] =
    map_more (λ (message : Bor (List ℕ)). message.now) ms i none c.loop-message-test.true in
    let count : octet_sum (slices (take (i + 1) ms)) ≡ octet_sum (slices (take i ms)) + length m =
    ap octet_sum more ∙ octet_sum-push (slices (take i ms)) m in
    let was = c.loop-message.invariant in
    record { count = omega (arith, was.count, count); within = omega (arith, was.within) }

pub returns-then-more-room-clause-none : goal.returns-then-more-room-clause-none
returns-then-more-room-clause-none c =
    let ms = c.args.messages.now in
    let i = c.loop-message.message-index in
    let none : Bor (List ℕ) = record { ref_ptr = (0, 0); now = [] } in
    let m = (get_or ms i none).now in
    let all : octet_sum (slices ms) ≡ octet_sum (slices (take i ms)) + octet_sum (m ∷ slices (drop (i + 1) ms)) =
    ap octet_sum (one_of ms i none c.loop-message-test.true)
    ∙ octet_sum-append (slices (take i ms)) (m ∷ slices (drop (i + 1) ms)) in
    omega (arith, all, c.loop-message.invariant.count, c.loop-message.invariant.within, c.if-more-room.true)
