use Rattle.std.proofs.Common.{◌≡◌, ◌∙◌, ◌+◌, ◌≤◌, IsTrue, ℕ, List, [], length, take, drop, refl, sym, ap, subst, arith}
use Rattle.std.proofs.lemmas.List.{drop-drop, length-drop, length-take, nil_from_length}
use Rattle.flow_disk.specs.Disk.{Held, Marks}
use Rattle.flow_disk.proofs.Results.{passed_on}
use Rattle.flow_codec.specs.Fault.{IsOctets}
use Rattle.flow_codec.specs.Message.{joined}
use Rattle.flow_codec.specs.Templates.{AllTemplates}
use Rattle.flow_segment.specs.Carry.{octets_of}
use Rattle.flow_segment.proofs.Sure.{no_octets}
use Rattle.flow_segment.specs.Prefix.{AreRead}
use Rattle.flow_segment.proofs.NotingStarts.{none_after}
use Rattle.flow_segment.proofs.Restating.{Behind}
use Rattle.flow_recover.specs.Opening.{IsDeviceOrMemory}
use Rattle.flow_recover.specs.Reading.{AreTaken}
use Rattle.flow_recover.specs.declared.segments.Section.TheVariants.{Messages}
use Rattle.flow_recover.proofs.Accepting.{IsSoFar}
use Rattle.flow_recover.proofs.OnlyReading.{then, unread}
use Rattle.flow_recover.proofs.Joining.{others_left, so_far_then}
use Rattle.flow_recover.proofs.pieces.take_pieces.Goals as goal

pub pieces-init : goal.pieces-init
pieces-init g c =
    let D = g.D.Disk in
    let d0 = c.args.disk.now in
    let e = c.args.entry in
    record {
      keeps = unread D d0 (λ h image left. g.met.D.Disk.only_now d0 image h left);
      marks = λ n. refl;
      faults = refl;
      from = omega (arith, c.from-at.ensures);
      within = omega (arith, c.from-at.ensures, c.requires.after);
      few = omega (arith, c.from-at.ensures);
      noting = refl;
      so_far = λ h. let octets = take e.length (D.held d0 e.file).reads in (
        record {
          messages = [];
          read = record {
            divided = record { whole = ap (λ (k : ℕ). drop k octets) (sym c.from-at.ensures); each = tt };
            accepted = tt;
          };
          kind = record { kind = tt; carry = refl; count_is = refl; noted = none_after c.args.span.now };
          same = refl;
          at = omega (arith, c.from-at.ensures);
        },
        no_octets,
      );
    }

pub take_piece-requires-clause-room : goal.take_piece-requires-clause-room
take_piece-requires-clause-room g c =
    let e = c.args.entry in
    subst (λ (m : Marks). e.length ≤ m.size) (sym (c.pieces.invariant.marks e.file)) c.requires.room

pub pieces-preserved : goal.pieces-preserved
pieces-preserved g c =
    let D = g.D.Disk in
    let d0 = c.args.disk.now in
    let d1 = c.pieces.disk in
    let d2 = c.take_piece.new.disk in
    let e = c.args.entry in
    let at = c.pieces.at in
    let was = c.pieces.invariant in
    let taken = c.in_ok-taken.taken in
    let one = c.in_ok-taken.ensures in
    let now = c.pieces.carry in
    let new = c.take_piece.new.carry in
    let span = c.pieces.span in
    let noted = c.take_piece.new.span in
    record {
      keeps = then D d0 d1 d2 was.keeps c.take_piece.ensures.keeps;
      marks = λ n. c.take_piece.ensures.marks n ∙ was.marks n;
      faults = one.cause.done ∙ was.faults;
      from = omega (arith, was.from);
      within = one.within;
      few = omega (arith, was.few, one.few);
      noting = one.noting ∙ was.noting;
      so_far = λ h.
          let octets = take e.length (D.held d0 e.file).reads in
          let own : AreTaken Messages (drop at octets) now new span noted taken =
          subst (λ (f : Held). AreTaken Messages (drop at (take e.length f.reads)) now new span noted taken)
          (was.keeps.held h e.file) (one.found (subst IsTrue (sym was.keeps.honest) h)) in
          let so_far = was.so_far h in
          subst (λ (l : List ℕ). (read : Behind (IsSoFar Messages c.args.carry.now new
          (c.pieces.count + taken.messages) c.args.span.now noted) (drop e.prefix octets) e.prefix
          c.args.carry.now.templates new.templates (at + taken.octets) l) × IsOctets (joined (octets_of read.messages)))
          (drop-drop taken.octets at octets)
          (so_far_then Messages (drop e.prefix octets) (drop at octets) c.args.carry.now now new c.args.span.now span
          noted c.pieces.count e.prefix at taken so_far.0 so_far.1 own);
    }

pub returns-clause-found : goal.returns-clause-found
returns-clause-found g c h =
    let e = c.args.entry in
    let read = c.pieces.invariant.so_far h in
    let was = read.0 in
    let octets = take e.length (g.D.Disk.held c.args.disk.now e.file).reads in
    let none : drop c.pieces.at octets ≡ [] = nil_from_length (drop c.pieces.at octets)
    (omega (
      arith,
      length-drop c.pieces.at octets,
      length-take e.length (g.D.Disk.held c.args.disk.now e.file).reads,
    )) in (
      was.messages,
      subst (λ (l : List ℕ). AreRead (drop e.prefix octets) c.args.carry.now.templates was.messages l) none was.read,
      was.kind.carry,
      was.kind.count_is,
      was.kind.noted,
      read.1,
    )

pub returns-in_err-taken-clause-keeps : goal.returns-in_err-taken-clause-keeps
returns-in_err-taken-clause-keeps g c =
    then g.D.Disk c.args.disk.now c.pieces.disk c.take_piece.new.disk c.pieces.invariant.keeps
    c.take_piece.ensures.keeps

pub returns-in_err-taken-clause-refused : goal.returns-in_err-taken-clause-refused
returns-in_err-taken-clause-refused g c h messages read =
    let D = g.D.Disk in
    let e = c.args.entry in
    let at = c.pieces.at in
    let was = c.pieces.invariant in
    let so_far = (was.so_far h).0 in
    let octets = take e.length (D.held c.args.disk.now e.file).reads in
    let more = others_left (drop e.prefix octets) (drop at octets) c.args.carry.now.templates so_far.messages messages
    so_far.read read in
    passed_on c.from_residual.result (c.in_err-taken.field-0).0 IsDeviceOrMemory c.from_residual.ensures.1
    (c.in_err-taken.ensures.refused (subst IsTrue (sym was.keeps.honest) h) more.0
    (subst (λ (f : Held). AreRead (drop at (take e.length f.reads)) c.pieces.carry.templates more.0 [])
    (sym (was.keeps.held h e.file))
    (subst (λ (t : AllTemplates). AreRead (drop at octets) t more.0 []) (sym so_far.same) more.1)))
