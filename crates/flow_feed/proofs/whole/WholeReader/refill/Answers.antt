use Rattle.std.proofs.Common.{◌≡◌, ℕ, ◌≤◌, ◌<◌, ◌+◌, ◌-◌, List, ◌++◌, length, take, slice_range, arith, ap, ◌∙◌}
use Rattle.std.proofs.lemmas.List.{length-take-le}
use Rattle.std.proofs.lemmas.Result.{err_from_is_err_and}
use borrow.Rule.Slice.PartMut.{put_mid}
use Rattle.flow_codec.proofs.Streaming.{grown, nothing_read, unread}
use Rattle.flow_feed.proofs.Wholes.{part_long, read_in}
use Rattle.flow_feed.proofs.whole.WholeReader.refill.Goals as goal

pub returns-in_err-count-clause-read : goal.returns-in_err-count-clause-read
returns-in_err-count-clause-read g c =
    let w = c.make_room.new.self in
    let read = c.read.new.buffer in
    let k = (w.end + c.lacking-most.result) - w.end in
    let fits : w.end + k ≤ 131072 = omega (arith, c.make_room.ensures.room, c.lacking-most.ensures.most) in
    let all : length w.octets.items ≡ 131072 = omega arith in
    let within : w.end ≤ length w.octets.items = omega (arith, fits, all) in
    let long = part_long w c.deref_mut.result.now read k c.deref_mut.ensures.value all fits c.read.auto.buffer in
    let same = read_in w c.deref_mut.result.now read k c.deref_mut.ensures.value all fits long in
    let p = err_from_is_err_and c.from_residual.result c.from_residual.ensures.1 in
    rw p.1 (
      ap (λ (l : List ℕ). slice_range l w.start w.end) same
          ∙ unread w.octets.items read w.start w.end k w.ordered within ∙ c.make_room.ensures.kept,
      c.in_err-count.ensures.bytes,
    )

pub returns-then-count-eq0-clause-read : goal.returns-then-count-eq0-clause-read
returns-then-count-eq0-clause-read g c =
    let w = c.make_room.new.self in
    let read = c.read.new.buffer in
    let k = (w.end + c.lacking-most.result) - w.end in
    let fits : w.end + k ≤ 131072 = omega (arith, c.make_room.ensures.room, c.lacking-most.ensures.most) in
    let all : length w.octets.items ≡ 131072 = omega arith in
    let within : w.end ≤ length w.octets.items = omega (arith, fits, all) in
    let long = part_long w c.deref_mut.result.now read k c.deref_mut.ensures.value all fits c.read.auto.buffer in
    let same = read_in w c.deref_mut.result.now read k c.deref_mut.ensures.value all fits long in
    let bytes = c.in_ok-count.ensures.bytes in
    let some : 0 < length read = omega (arith, long, c.lacking-most.ensures.some) in
    let end = bytes.1 c.if-count-eq0.true some in
    let none : w.end + 0 ≡ w.end = omega arith in
    rw c.if-count-eq0.true (
      ap (λ (l : List ℕ). slice_range l w.start (w.end + 0)) same
          ∙ ap (λ (n : ℕ). slice_range (put_mid w.end k w.octets.items read) w.start n) none
          ∙ unread w.octets.items read w.start w.end k w.ordered within ∙ c.make_room.ensures.kept,
      nothing_read _ _ _ read c.if-count-eq0.true bytes.0 end,
      end,
    )

pub returns-clause-read : goal.returns-clause-read
returns-clause-read g c =
    let w = c.make_room.new.self in
    let read = c.read.new.buffer in
    let k = (w.end + c.lacking-most.result) - w.end in
    let fits : w.end + k ≤ 131072 = omega (arith, c.make_room.ensures.room, c.lacking-most.ensures.most) in
    let all : length w.octets.items ≡ 131072 = omega arith in
    let within : w.end ≤ length w.octets.items = omega (arith, fits, all) in
    let long = part_long w c.deref_mut.result.now read k c.deref_mut.ensures.value all fits c.read.auto.buffer in
    let same = read_in w c.deref_mut.result.now read k c.deref_mut.ensures.value all fits long in
    let n = c.in_ok-count.count in
    let bound = c.in_ok-count.ensures.bound in
    let size = length-take-le n read bound in (
      take n read,
      omega arith,
      ap (λ (l : List ℕ). slice_range l w.start (w.end + n)) same
          ∙ grown w.octets.items read w.start w.end k n w.ordered within bound
          ∙ ap (λ (l : List ℕ). l ++ take n read) c.make_room.ensures.kept,
      c.in_ok-count.ensures.bytes.0,
    )
