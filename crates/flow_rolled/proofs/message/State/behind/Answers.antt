use Rattle.std.proofs.Common.{◌≡◌, ◌-◌, List, [], ◌∷◌, length, Option, Some, None, refl, sym}
use Rattle.std.proofs.Common.{ap, ◌∙◌, arith}
use Rattle.std.specs.Prelude.{slice_get}
use Rattle.flow_rolled.specs.declared.row.RolledRow.{RolledRow}
use Rattle.flow_rolled.specs.Messages.{last_from}
use Rattle.flow_rolled.specs.Reading.{data_of}
use Rattle.flow_rolled.proofs.message.State.behind.Goals as goal

last_at : (r : RolledRow) (rs : List RolledRow) (o : Option RolledRow)
    → slice_get (r ∷ rs) (length rs) ≡ last_from o (r ∷ rs)
last_at r [] o = refl
last_at r (q ∷ qs) o = last_at q qs (Some r)

last_is : (rows : List RolledRow) → slice_get rows (length rows - 1) ≡ last_from None rows
last_is [] = refl
last_is (r ∷ rs) = let e : length (r ∷ rs) - 1 ≡ length rs = omega arith in ap (slice_get (r ∷ rs)) e
    ∙ last_at r rs None

pub returns : goal.returns
returns c = λ w part.
    let rows = c.args.message.now.rows.items in
    let len : length rows ≡ c.len-count.result = sym (ap (λ (l : List RolledRow). length l) c.deref.ensures.value)
    ∙ c.deref.ensures.len ∙ sym c.len-count.ensures in
    record {
      time = refl;
      domain = refl;
      small_time = part.time;
      small_domain = part.domain;
      due_is = c.due_behind.ensures (data_of c.args.message.now) refl len;
      count = sym len;
      last = c.copied.ensures ∙ c.last.ensures.value
          ∙ ap (λ (l : List RolledRow). slice_get l (length l - 1)) c.deref.ensures.value ∙ last_is rows;
    }
