use Rattle.std.proofs.Common.{ℕ, ◌<◌, List, length, refl, subst, sym}
use Rattle.std.specs.Io.KnownBytes.{prepend_known}
use Rattle.flow_codec.proofs.Streaming.{held_next, message_next, refused_next, taken_next}
use Rattle.flow_codec.specs.declared.file.FileError.TheVariants.{Cut}
use Rattle.flow_codec.specs.Stream.{IsFaultNext}
use Rattle.flow_feed.specs.Whole.{ahead}
use Rattle.flow_feed.proofs.Wholes.{cut_next}
use Rattle.flow_feed.proofs.whole.WholeReader.find.Goals as goal

pub returns-in-Ok-Some-2-clause-found : goal.returns-in-Ok-Some-2-clause-found
returns-in-Ok-Some-2-clause-found g c =
    let known = g.R.Read.remaining in
    let old = prepend_known (ahead c.args.self.now) (known c.args.input.now) in
    let h = rw (c.in-Ok-Some.field-0-is, c.ahead.ensures.value) at c.in-Ok-Some.ensures.front in
    (message_next old _ _ h.1 (taken_next old (known c.reads.input) (ahead c.reads.self) _ c.reads.invariant.0), refl)

pub returns-in-Err-clause-found : goal.returns-in-Err-clause-found
returns-in-Err-clause-found g c =
    let known = g.R.Read.remaining in
    let old = prepend_known (ahead c.args.self.now) (known c.args.input.now) in
    let bad = rw c.ahead.ensures.value at c.in-Err.ensures.front in (
      subst (λ (n : ℕ). IsFaultNext n old c.in-Err.fault) c.reads.invariant.1.1
          (refused_next c.reads.self.at old (known c.reads.input) (ahead c.reads.self) c.in-Err.fault bad.0
          (held_next old (known c.reads.input) (ahead c.reads.self) c.reads.invariant.0) bad.1),
      refl,
    )

pub returns-in-Ok-false-2-clause-found : goal.returns-in-Ok-false-2-clause-found
returns-in-Ok-false-2-clause-found g c =
    let known = g.R.Read.remaining in
    let old = prepend_known (ahead c.args.self.now) (known c.args.input.now) in
    let unfinished = rw (c.in-Ok-None.field-0-is, c.ahead.ensures.value) at c.in-Ok-None.ensures.front in
    let read = rw c.in-Ok-false.field-0-test at c.in-Ok-false.ensures.read in
    let some = subst (λ (l : List ℕ). 0 < length l) read.0 (c.holds_none.ensures.some c.if-holds_none.false) in
    let fault = cut_next c.reads.self.at old (known c.reads.input) (ahead c.reads.self) some unfinished
    c.reads.invariant.0 read.1 in (
      subst (λ (n : ℕ). IsFaultNext n old (Cut c.refill.new.self.at)) c.reads.invariant.1.1
          (subst (λ (n : ℕ). IsFaultNext c.reads.self.at old (Cut n)) (sym c.in-Ok-false.ensures.same.1) fault),
      refl,
    )
