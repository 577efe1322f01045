use Rattle.std.proofs.Common.{◌≡◌, ℕ, ◌≤◌, ◌+◌, ◌-◌, List, ◌++◌, length, take, drop, slice_range, arith, sym, ap, ◌∙◌}
use Rattle.std.proofs.lemmas.List.{length-take, length-drop, length-take-le, with_items_is}
use Rattle.std.proofs.lemmas.Result.{err_from_is_err_and}
use Rattle.std.specs.Vec.{with_items}
use borrow.Rule.Slice.PartMut.{put_mid, post_of}
use Rattle.flow_codec.specs.declared.window.Window.{Window}
use Rattle.flow_codec.proofs.Streaming.{grown, unread, put_size, nothing_read}
use Rattle.flow_codec.proofs.window.Window.refill.Goals as goal

-- the octets of a window's memory after a read into the part after its octets
read_in : (w : Window) (room read : List ℕ) → room ≡ w.octets.items → length w.octets.items ≡ 262144
    → length read ≡ length (take (length room - w.end) (drop w.end room))
    → (with_items w.octets (take w.end room ++ (read ++ post_of w.end (length room - w.end) room))).items
    ≡ put_mid w.end (length w.octets.items - w.end) w.octets.items read
read_in w room read same all size =
    let within : w.end ≤ length w.octets.items = omega arith in
    let fits : length read ≡ length w.octets.items - w.end =
    omega (arith, rw same at size, length-take {A = ℕ}, length-drop {A = ℕ}) in
    rw same (with_items_is w.octets (put_mid w.end (length w.octets.items - w.end) w.octets.items read)
    (put_size w.octets.items read w.end within fits ∙ all ∙ sym w.size))

pub returns-in_err-count : goal.returns-in_err-count
returns-in_err-count g c =
    let w = c.make_room.new.self in
    let read = c.read.new.buffer in
    let within : w.end ≤ length w.octets.items = omega arith in
    let p = err_from_is_err_and c.from_residual.result c.from_residual.ensures.1 in
    let same = read_in w c.deref_mut.result.now read c.deref_mut.ensures.value (omega arith) c.read.auto.buffer in
    rw p.1 (
      ap (λ (l : List ℕ). slice_range l w.start w.end) same
          ∙ unread w.octets.items read w.start w.end _ w.ordered within ∙ c.make_room.ensures.kept,
      c.in_err-count.ensures.bytes,
    )

pub returns-then-count-eq0 : goal.returns-then-count-eq0
returns-then-count-eq0 g c =
    let w = c.make_room.new.self in
    let read = c.read.new.buffer in
    let within : w.end ≤ length w.octets.items = omega arith in
    let same = read_in w c.deref_mut.result.now read c.deref_mut.ensures.value (omega arith) c.read.auto.buffer in
    let bytes = c.in_ok-count.ensures.bytes in
    let end = bytes.1 c.if-count-eq0.true
    (omega (arith, c.read.auto.buffer, length-take {A = ℕ}, length-drop {A = ℕ}, c.deref_mut.ensures.len)) in
    let none : w.end + 0 ≡ w.end = omega arith in
    let room = length w.octets.items - w.end in
    rw c.if-count-eq0.true (
      ap (λ (l : List ℕ). slice_range l w.start (w.end + 0)) same
          ∙ ap (λ (n : ℕ). slice_range (put_mid w.end room w.octets.items read) w.start n) none
          ∙ unread w.octets.items read w.start w.end room w.ordered within ∙ c.make_room.ensures.kept,
      nothing_read _ _ _ read c.if-count-eq0.true bytes.0 end,
      end,
    )

pub returns : goal.returns
returns g c =
    let w = c.make_room.new.self in
    let read = c.read.new.buffer in
    let within : w.end ≤ length w.octets.items = omega arith in
    let n = c.in_ok-count.count in
    let bound = c.in_ok-count.ensures.bound in
    let size = length-take-le n read bound in
    let same = read_in w c.deref_mut.result.now read c.deref_mut.ensures.value (omega arith) c.read.auto.buffer in (
      take n read,
      omega arith,
      ap (λ (l : List ℕ). slice_range l w.start (w.end + n)) same
          ∙ grown w.octets.items read w.start w.end _ n w.ordered within bound
          ∙ ap (λ (l : List ℕ). l ++ take n read) c.make_room.ensures.kept,
      c.in_ok-count.ensures.bytes.0,
    )
