use Rattle.std.proofs.Common.{◌≡◌, ◌∙◌, ◌+◌, ◌-◌, ◌<◌, ◌≤◌, ◌++◌, ℕ, List, [], length, take, drop, sym, ap, subst}
use Rattle.std.proofs.Common.{arith, inr, length-take}
use Rattle.std.proofs.lemmas.List.{length-drop, length-take-le, take-append-drop}
use Rattle.flow_codec.proofs.NumberLaws.{IsBytes-drop, IsBytes-take, wide16}
use Rattle.flow_codec.specs.Cutting.{length_of, IsFileFault}
use Rattle.flow_codec.specs.Fault.{IsOctets}
use Rattle.flow_disk.proofs.Results.{passed_on}
use Rattle.flow_segment.specs.Prefix.{AreRead}
use Rattle.flow_recover.specs.Opening.{IsDeviceOrMemory}
use Rattle.flow_recover.specs.Reading.{AreTaken}
use Rattle.flow_recover.specs.declared.segments.Section.TheVariants.{Messages}
use Rattle.flow_recover.proofs.Accepting.{any_messages}
use Rattle.flow_recover.proofs.OnlyReading.{read, unread}
use Rattle.flow_recover.proofs.Joining.{piece_of, some_taken, still_noting, taken_more}
use Rattle.flow_recover.proofs.pieces.take_piece.Goals as goal

pub returns-in_err-lengthen-clause-keeps : goal.returns-in_err-lengthen-clause-keeps
returns-in_err-lengthen-clause-keeps g c =
    let d0 = c.args.disk.now in
    unread g.D.Disk d0 (λ h image left. g.met.D.Disk.only_now d0 image h left)

pub returns-in_err-read_into-clause-keeps : goal.returns-in_err-read_into-clause-keeps
returns-in_err-read_into-clause-keeps g c =
    let d0 = c.args.disk.now in
    let call = c.read_into.ensures in
    read g.D.Disk d0 c.read_into.new.self (λ h image left. g.met.D.Disk.only_now d0 image h left)
    call.honest call.marks call.held call.time

pub returns-in_err-taken-clause-keeps : goal.returns-in_err-taken-clause-keeps
returns-in_err-taken-clause-keeps g c =
    let d0 = c.args.disk.now in
    let call = c.read_into.ensures in
    read g.D.Disk d0 c.read_into.new.self (λ h image left. g.met.D.Disk.only_now d0 image h left)
    call.honest call.marks call.held call.time

pub returns-then-taken-eq0-clause-keeps : goal.returns-then-taken-eq0-clause-keeps
returns-then-taken-eq0-clause-keeps g c =
    let d0 = c.args.disk.now in
    let call = c.read_into.ensures in
    read g.D.Disk d0 c.read_into.new.self (λ h image left. g.met.D.Disk.only_now d0 image h left)
    call.honest call.marks call.held call.time

pub returns-clause-keeps : goal.returns-clause-keeps
returns-clause-keeps g c =
    let d0 = c.args.disk.now in
    let call = c.read_into.ensures in
    read g.D.Disk d0 c.read_into.new.self (λ h image left. g.met.D.Disk.only_now d0 image h left)
    call.honest call.marks call.held call.time

pub returns-clause-noting : goal.returns-clause-noting
returns-clause-noting g c =
    let own = c.in_ok-taken.ensures.found in
    still_noting own.1 c.args.span.now c.take_whole.new.span own.6

pub returns-clause-found : goal.returns-clause-found
returns-clause-found g c h =
    let e = c.args.entry in
    let at = c.args.at in
    let n = c.min-count.result in
    let reads = (g.D.Disk.held c.args.disk.now e.file).reads in
    let rest = drop at (take e.length reads) in
    let size : length (take n c.deref_mut.result.now) ≡ n =
    omega (arith, length-take n c.deref_mut.result.now, c.deref_mut.ensures.len, c.in_ok-lengthen.ensures) in
    let same : c.read_into.new.octets ≡ take n rest =
    c.in_ok-read_into.ensures.octets h ∙ ap (λ (k : ℕ). take k (drop at reads)) size
    ∙ piece_of reads e.length at n (omega (arith, c.requires.more)) (omega (arith, c.min-count.ensures)) in
    let taken = c.in_ok-taken.taken in
    let k = c.take_whole.new.carry in
    let span = c.take_whole.new.span in
    let own : AreTaken Messages (take n rest) c.args.carry.now k c.args.span.now span taken =
    subst (λ (l : List ℕ). AreTaken Messages l c.args.carry.now k c.args.span.now span taken) same
    c.in_ok-taken.ensures.found in
    subst (λ (l : List ℕ). AreTaken Messages l c.args.carry.now k c.args.span.now span taken)
    (take-append-drop n rest)
    (taken_more Messages (take n rest) (drop n rest) c.args.carry.now k c.args.span.now span taken own)

pub returns-in_err-taken-clause-refused : goal.returns-in_err-taken-clause-refused
returns-in_err-taken-clause-refused g c h messages read_as =
    let e = c.args.entry in
    let at = c.args.at in
    let n = c.min-count.result in
    let reads = (g.D.Disk.held c.args.disk.now e.file).reads in
    let rest = drop at (take e.length reads) in
    let size : length (take n c.deref_mut.result.now) ≡ n =
    omega (arith, length-take n c.deref_mut.result.now, c.deref_mut.ensures.len, c.in_ok-lengthen.ensures) in
    let same : c.read_into.new.octets ≡ take n rest =
    c.in_ok-read_into.ensures.octets h ∙ ap (λ (k : ℕ). take k (drop at reads)) size
    ∙ piece_of reads e.length at n (omega (arith, c.requires.more)) (omega (arith, c.min-count.ensures)) in
    let whole : c.read_into.new.octets ++ drop n rest ≡ rest =
    ap (λ (l : List ℕ). l ++ drop n rest) same ∙ take-append-drop n rest in
    passed_on c.from_residual-in_err-taken.result (c.in_err-taken.field-0).0 IsDeviceOrMemory
    c.from_residual-in_err-taken.ensures.1
    (inr (c.in_err-taken.ensures.refused messages (drop n rest)
    (subst (λ (l : List ℕ). AreRead l c.args.carry.now.templates messages []) (sym whole) read_as)
    (any_messages messages)))

pub returns-then-taken-eq0-clause-refused : goal.returns-then-taken-eq0-clause-refused
returns-then-taken-eq0-clause-refused g c h messages read_as =
    let e = c.args.entry in
    let at = c.args.at in
    let n = c.min-count.result in
    let reads = (g.D.Disk.held c.args.disk.now e.file).reads in
    let rest = drop at (take e.length reads) in
    let size : length (take n c.deref_mut.result.now) ≡ n =
    omega (arith, length-take n c.deref_mut.result.now, c.deref_mut.ensures.len, c.in_ok-lengthen.ensures) in
    let same : c.read_into.new.octets ≡ take n rest =
    c.in_ok-read_into.ensures.octets h ∙ ap (λ (k : ℕ). take k (drop at reads)) size
    ∙ piece_of reads e.length at n (omega (arith, c.requires.more)) (omega (arith, c.min-count.ensures)) in
    let piece = take n rest in
    let k = c.in_ok-taken.taken.octets in
    let zero : k ≡ 0 = c.if-taken-eq0.true in
    let long : length rest ≡ e.length - at = omega (
      arith,
      length-drop at (take e.length reads),
      length-take e.length reads,
      g.met.D.Disk.has_size c.args.disk.now e.file h,
      c.requires.room,
    ) in
    let few : n ≤ length rest = omega (arith, long, c.min-count.ensures) in
    let count : length piece ≡ n = length-take-le n rest few in
    let some : 0 < n = omega (arith, c.min-count.ensures, c.requires.more) in
    let stopped = c.in_ok-taken.ensures.stopped
    (omega (arith, zero, ap (λ (l : List ℕ). length l) same, count, some)) in
    let bad : IsFileFault (at + k) piece stopped.0 = subst (λ (l : List ℕ). IsFileFault (at + k) l stopped.0)
    (ap (λ (j : ℕ). drop j c.read_into.new.octets) zero ∙ same) stopped.1 in
    let field : length_of piece < 65536 = wide16.below (take 2 (drop 2 piece))
    (IsBytes-take 2 (drop 2 piece) (IsBytes-drop 2 piece (subst IsOctets same c.take_whole.ensures.octets))) in
    absurd (some_taken (at + k) n rest c.args.carry.now.templates messages stopped.0 some few
    (λ lt. omega (arith, lt, long, c.min-count.ensures)) field read_as bad)
