use Rattle.std.proofs.Common.{◌+◌, ◌-◌, ℕ, List, ◌++◌, length, drop, refl, sym, ap, ◌∙◌}
use Rattle.flow_disk.specs.Window.{Window}
use Rattle.flow_rolled.specs.Reading.{data_of}
use Rattle.flow_rolled.specs.Octets.{message_octets}
use Rattle.flow_rolled.proofs.Pieces.{passed}
use Rattle.flow_rolled.proofs.cursor.Cursor.step.Goals as goal

pub returns-clause-steps : goal.returns-clause-steps
returns-clause-steps c =
    let old = c.args.self.now in
    let p = data_of c.in-Some-2.message in
    let front = message_octets old.width p in
    let rest = c.in-Some-2.rest.now in
    let ahead = c.ahead-ahead.result.now in
    let count = length ahead - length rest in
    let found = rw c.in-Some-2.is at c.in_ok-message.ensures.found in
    let whole = rw c.in-Some-2.is at c.in_ok-message.ensures.part in
    let cut = passed ahead front rest count found refl in
    record {
      message = p;
      is = sym c.ahead-ahead.ensures.value ∙ found ∙ ap (λ (l : List ℕ). front ++ l) (cut.0
          ∙ ap (drop count) c.ahead-ahead.ensures.value ∙ sym (ap (λ (w : Window). w.ahead) c.pass.ensures));
      whole = whole;
      follows = rw c.in-Some-2.is at c.in_ok-message.ensures.follows;
      rows_are = refl;
      known = c.behind.ensures old.width whole;
      place = ap (λ (w : Window). w.place) c.pass.ensures ∙ ap (λ (n : ℕ). old.window.place + n) cut.1;
      width = refl;
      end = ap (λ (w : Window). w.end) c.pass.ensures;
    }
