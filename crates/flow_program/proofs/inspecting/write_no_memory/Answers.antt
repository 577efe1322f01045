use Rattle.std.proofs.lemmas.Result.{on_err_weaker, on_ok_weaker}
use Rattle.flow_program.proofs.OneByOne.{all_pieces, first_front, on_error, second_front, third_front}
use Rattle.flow_program.proofs.inspecting.write_no_memory.Goals as goal

pub returns-in_err-write_octets-clause-front : goal.returns-in_err-write_octets-clause-front
returns-in_err-write_octets-clause-front g c =
    let known = g.E.Write.contents in
    let first = rw c.as_bytes.ensures.value at c.in_err-write_octets.ensures.front in
    on_error c.from_residual.result
    (first_front c.args.number (known c.args.errors.now) (known c.write_octets.new.to) first)

pub returns-in_err-write_octets-2-clause-front : goal.returns-in_err-write_octets-2-clause-front
returns-in_err-write_octets-2-clause-front g c =
    let known = g.E.Write.contents in
    let first = rw c.as_bytes.ensures.value at c.in_ok-write_octets.ensures.all in
    let second = rw (c.as_bytes-2.ensures.value, c.format.ensures.text) at c.in_err-write_octets-2.ensures.front in
    on_error c.from_residual-in_err-write_octets-2.result
    (second_front c.args.number (known c.args.errors.now) (known c.write_octets.new.to) (known c.write_octets-2.new.to)
    first second)

pub returns-clause-all : goal.returns-clause-all
returns-clause-all g c =
    let known = g.E.Write.contents in
    let first = rw c.as_bytes.ensures.value at c.in_ok-write_octets.ensures.all in
    let second = rw (c.as_bytes-2.ensures.value, c.format.ensures.text) at c.in_ok-write_octets-2.ensures.all in
    on_ok_weaker c.write_octets-3.result
    (all_pieces c.args.number (known c.args.errors.now) (known c.write_octets.new.to) (known c.write_octets-2.new.to)
    (known c.write_octets-3.new.to) first second) (rw c.as_bytes-3.ensures.value at c.write_octets-3.ensures.all)

pub returns-clause-front : goal.returns-clause-front
returns-clause-front g c =
    let known = g.E.Write.contents in
    let first = rw c.as_bytes.ensures.value at c.in_ok-write_octets.ensures.all in
    let second = rw (c.as_bytes-2.ensures.value, c.format.ensures.text) at c.in_ok-write_octets-2.ensures.all in
    on_err_weaker c.write_octets-3.result
    (third_front c.args.number (known c.args.errors.now) (known c.write_octets.new.to) (known c.write_octets-2.new.to)
    (known c.write_octets-3.new.to) first second) (rw c.as_bytes-3.ensures.value at c.write_octets-3.ensures.front)
