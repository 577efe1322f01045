-- Totals after a stop.
use Rattle.std.proofs.Common.{◌≡◌, ℕ, Bool, true, IsTrue, List, ◌∙◌, Result, sym, subst}
use Rattle.flow_memory_disk.specs.declared.choice.Choice.{Choice}
use Rattle.flow_archive.specs.declared.event.Answer.{Answer}
use Rattle.flow_archive.specs.declared.event.Event.{Event}
use Rattle.flow_archive.specs.declared.refusal.ArchiveError.{ArchiveError}
use Rattle.flow_archive.specs.Seen.{Seen}
use Rattle.flow_measure.specs.declared.rows.Row.{Row}
use Rattle.flow_measure.specs.History.{History, IsHistory}
use Rattle.flow_measure.specs.Query.{totals_in_view}
use Rattle.flow_measure.specs.View.{View, view_of, AreCountsOf}
use Rattle.flow_refusals.specs.declared.read_refusal.ReadRefusal.{ReadRefusal}
use Rattle.flow_refusals.specs.declared.read_refusal.ReadRefusal.TheVariants as query
use Rattle.flow_model.specs.Changes.{counts_of}
use Rattle.flow_model.specs.Shelf.{Shelf}
use Rattle.flow_snapshot.specs.Answered.{IsNoDamage}
use Rattle.flow_snapshot.specs.Totals.{first_file, IsTotalsRefusal, IsWithinHistoryLimits, SumsFit}
use Rattle.flow_model.specs.Views.{IsViewOf}
use Rattle.flow_model.proofs.Following.{all_counted}
use Rattle.flow_model.specs.State.{State}
use Rattle.flow_model.specs.Shelved.{shelf_of}
use Rattle.flow_headline.specs.declared.error.NotOpened.TheVariants.{OutOfMemory, NoSuchStop}
use Rattle.flow_headline.specs.declared.error.TotalsRefusal.{TotalsRefusal}
use Rattle.flow_headline.specs.declared.error.TotalsRefusal.TheVariants.{NotOpened, NotAnswered}
use Rattle.flow_headline.specs.Front.{IsFront, grown}
use Rattle.flow_headline.specs.Machine.{AreTotals, Fused, IsRefusal, IsStoppedRun, IsUnanswered}

-- damage that is reported of an archive in memory
pub unanswered : (s : State) (honest : Bool) (shelf : Shelf) (e : ReadRefusal) (file at : ℕ)
    → e ≡ query.Damaged file at → honest ≡ true → shelf ≡ shelf_of s
    → (IsTrue honest → (v : View) → IsViewOf shelf v → IsTotalsRefusal (first_file shelf) (SumsFit v) e)
    → (IsTrue honest → (h : History) (counts : List ℕ) → IsHistory h → AreCountsOf h counts → IsWithinHistoryLimits h
    → IsViewOf shelf (view_of h counts) → IsNoDamage e)
    → IsUnanswered s (NotAnswered (query.Damaged file at))
unanswered s honest shelf e file at damaged reads same given answered = (
  λ v is. subst (λ (r : ReadRefusal). IsTotalsRefusal (first_file (shelf_of s)) (SumsFit v) r) damaged
      (subst (λ (x : Shelf). IsTotalsRefusal (first_file x) (SumsFit v) e) same
      (given reads v (subst (λ (x : Shelf). IsViewOf x v) (sym same) is))),
  λ h has within. subst (λ (r : ReadRefusal). IsNoDamage r) damaged
      (answered reads h (counts_of (shelf_of s)) has.history (all_counted (shelf_of s) h has.history has.view) within
      (subst (λ (x : Shelf). IsViewOf x (view_of h (counts_of (shelf_of s)))) (sym same) has.view)),
)

module _ (archive : Seen Fused) (events : List Event) (answers : List (Result Answer ArchiveError)) (choice : Choice)
    (left : State) (stopped : IsStoppedRun archive events answers choice left)
    (front : IsFront archive.state events answers left) where
  -- what is answered by each view of the files is the totals of the history
  pub told : (from to : ℕ) (rows : List Row)
      → ((v : View) → IsViewOf (shelf_of left) v → rows ≡ totals_in_view from to v)
      → AreTotals archive events answers choice from to rows
  told from to rows given = record {
    left = left;
    stopped = stopped;
    front = front;
    totals = λ h has.
        let more = front.history h has in
        let v = view_of (grown h more.more left) (counts_of (shelf_of left)) in
        given v (more.history).view ∙ more.totals v from to (more.history).view;
  }

  -- the query of what was opened was refused
  pub refusal : (e : TotalsRefusal) → IsUnanswered left e → IsRefusal archive events choice e
  refusal (NotOpened OutOfMemory) refused = tt
  refusal (NotOpened NoSuchStop) refused = absurd refused
  refusal (NotAnswered (query.Damaged file at)) refused = record {
    answers = answers;
    left = left;
    stopped = stopped;
    front = front;
    spent = refused.0;
    beyond = λ h has. let more = front.history h has in refused.1 (grown h more.more left) more.history;
  }
  refusal (NotAnswered query.Fault) refused = absurd refused
  refusal (NotAnswered query.OutOfMemory) refused = tt
