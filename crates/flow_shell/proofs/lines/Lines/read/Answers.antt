use Rattle.std.proofs.Common.{◌≡◌, ◌∙◌, ℕ, List, ap, sym}
use Rattle.std.specs.Prelude.{Some}
use Rattle.flow_commands.specs.declared.plan.InputKind.{InputKind}
use Rattle.flow_roller.specs.Asked.{Asked}
use Rattle.flow_shell.specs.Asked.{feed_in, rolling_in}
use Rattle.flow_shell.proofs.Requested.{line_here, lines_left}
use Rattle.flow_shell.proofs.lines.Lines.read.Goals as goal

pub invariant_of-self-in-Ok : goal.invariant_of-self-in-Ok
invariant_of-self-in-Ok g c =
    let old = g.I.Read.remaining c.args.self.now.input in
    let new = g.I.Read.remaining c.read_until.new.self in
    let before = c.clear.new.self.items in
    let read = c.read_until.new.buf.items in
    let line = sym {A = List ℕ} c.strip_feed.ensures in
    let asks = λ (any : Asked) (line : List ℕ). rolling_in line ≡ Some any in
    let feeds = λ (path : List ℕ) (kind : InputKind) (line : List ℕ). feed_in line ≡ Some (path, kind) in
    record {
      left = λ is any. lines_left (∥ g.K.Keeping.asked any ∥₁) (asks any) old new c.in-Ok.ensures.rest
          (c.args.self.now.left is any);
      here = λ any has. line_here (∥ g.K.Keeping.asked any ∥₁) (asks any) old before read c.clear.ensures.items
          c.in-Ok.ensures.bytes (c.args.self.now.left c.if-not-self.false any) (ap rolling_in line ∙ has);
      feeds_left = λ is path kind. lines_left (∥ g.B.Ends.to_feed path kind ∥₁) (feeds path kind) old new
          c.in-Ok.ensures.rest (c.args.self.now.feeds_left is path kind);
      feed_here = λ path kind asks. line_here (∥ g.B.Ends.to_feed path kind ∥₁) (feeds path kind) old before read
          c.clear.ensures.items c.in-Ok.ensures.bytes (c.args.self.now.feeds_left c.if-not-self.false path kind)
          (ap feed_in line ∙ asks);
    }
