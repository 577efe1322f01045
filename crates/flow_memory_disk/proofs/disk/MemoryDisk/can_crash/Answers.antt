use Rattle.std.proofs.Common.{arith, ◌≡◌, ℕ, ◌<◌, ◌≤◌, List, length, get_or, below_more, refl, sym, ◌∙◌, ap, subst}
use Rattle.std.proofs.lemmas.Bool.{false≢true}
use Rattle.std.proofs.lemmas.List.{get_or_read_under}
use Rattle.flow_memory_disk.specs.declared.stored.StoredFile.{StoredFile}
use Rattle.flow_memory_disk.specs.Stopping.{CanStop}
use Rattle.flow_memory_disk.proofs.disk.MemoryDisk.can_crash.Goals as goal

pub returns-then-not-can_stop : goal.returns-then-not-can_stop
returns-then-not-can_stop c =
    let i = c.loop-stored.stored-index in
    let item = c.stored-item.result in
    let files = c.args.self.now.files.items in
    let is : item ≡ get_or files i item = c.stored-item.is
    ∙ ap (λ (l : List StoredFile). get_or l i item) c.deref-stored-items.ensures.value in
    let lt : i < length files =
    subst (λ (l : List StoredFile). i < length l) c.deref-stored-items.ensures.value c.loop-stored-test.true in (
      λ never. absurd (false≢true never),
      λ all. c.if-not-can_stop.ensures.1
          (subst (λ (f : StoredFile). CanStop f c.args.choice) (sym is) (all.each i item lt)),
    )

pub loop-stored-preserved : goal.loop-stored-preserved
loop-stored-preserved c =
    let i = c.loop-stored.stored-index in
    let item = c.stored-item.result in
    let files = c.args.self.now.files.items in
    let is : item ≡ get_or files i item = c.stored-item.is
    ∙ ap (λ (l : List StoredFile). get_or l i item) c.deref-stored-items.ensures.value in
    let lt : i < length files =
    subst (λ (l : List StoredFile). i < length l) c.deref-stored-items.ensures.value c.loop-stored-test.true in
    let can : CanStop item c.args.choice = c.if-not-can_stop.ensures.0 refl in
    λ k d less. below_more (λ (m : ℕ). CanStop (get_or files m d) c.args.choice) i
    (λ m under. c.loop-stored.invariant m d under)
    (subst (λ (f : StoredFile). CanStop f c.args.choice)
    (get_or_read_under files i (length files) item d is lt refl) can) k less

pub returns : goal.returns
returns c =
    let files = c.args.self.now.files.items in
    let all : length files ≤ c.loop-stored.stored-index =
    subst (λ (l : List StoredFile). length l ≤ c.loop-stored.stored-index) c.deref-stored-items.ensures.value
    c.loop-stored-test.false in
    (λ is. record { each = λ k d less. c.loop-stored.invariant k d (omega (arith, less, all)) }, λ can. refl)
