-- How a run of disk calls goes on.
use Rattle.std.proofs.Common.{◌≡◌, inl, inr, ⊎_elim, ℕ, IsTrue, List, sym, subst, arith}
use Rattle.flow_disk.specs.Disk.{Held, IsDiskImage, AllImages, ComesOf}
use Rattle.flow_disk.specs.declared.disk.Disk.{Ghosts}
use Rattle.flow_disk.specs.Calls.{LeavesOnly, StopsBy}
use Rattle.flow_disk.specs.Moments.{Elapses}

module _ {D S X : Type 0} (g : Ghosts D S X) where
  -- before the first call
  pub started : (old : D) (P : (ℕ → List ℕ) → Type 0)
      → ((image : ℕ → List ℕ) → g.left_since old (g.moment old) image → P image) → LeavesOnly g old old P
  started old P here = record { later = omega arith; each = here; before = λ t image le left. inl left }

  -- one call more, inside which a stop leaves only images that have P
  pub goes_on : (old mid new : D) (P : (ℕ → List ℕ) → Type 0) (during : ℕ → Held)
      → LeavesOnly g old mid P
      → Elapses (g.moment mid) (g.moment new) (g.left_since mid) (g.left_since new) during
      → AllImages during P → LeavesOnly g old new P
  goes_on old mid new P during so_far time here = record {
    later = omega (arith, so_far.later, time.later);
    each = λ image left. ⊎_elim (so_far.each image) (here image)
        (time.nothing_else (g.moment old) image so_far.later left);
    before = λ t image le left. ⊎_elim (so_far.before t image le) (λ now. inr (here image now))
        (time.nothing_else t image (omega (arith, le, so_far.later)) left);
  }

  -- two runs, where a stop in either leaves only images that have P
  pub one_run : (old mid new : D) (P : (ℕ → List ℕ) → Type 0) → LeavesOnly g old mid P
      → LeavesOnly g mid new P → LeavesOnly g old new P
  one_run old mid new P first second = record {
    later = omega (arith, first.later, second.later);
    each = λ image left. ⊎_elim (first.each image) (λ late. late) (second.before (g.moment old) image first.later left);
    before = λ t image le left. ⊎_elim (first.before t image le) (λ late. inr late)
        (second.before t image (omega (arith, le, first.later)) left);
  }

  -- images that have P have T
  pub by : (old new : D) (P T : (ℕ → List ℕ) → Type 0) → LeavesOnly g old new P
      → ((image : ℕ → List ℕ) → P image → T image) → LeavesOnly g old new T
  by old new P T run weaker = record {
    later = run.later;
    each = λ image left. weaker image (run.each image left);
    before = λ t image le left. ⊎_elim (λ early. inl early) (λ late. inr (weaker image late))
        (run.before t image le left);
  }

-- one run after another
module _ {D S X : Type 0} (g : Ghosts D S X) where
  -- A run after which each image has S, and a second one in which a stop leaves what a step makes of an image.
  pub advance : (old mid new : D) (P S : (ℕ → List ℕ) → Type 0) (step : (ℕ → List ℕ) → (ℕ → List ℕ) → Type 0)
      → LeavesOnly g old mid P → AllImages (g.held mid) S
      → LeavesOnly g mid new (ComesOf (g.held mid) step)
      → ((a b : ℕ → List ℕ) → S a → step a b → P b) → LeavesOnly g old new P
  advance old mid new P S step first here second then = record {
    later = omega (arith, first.later, second.later);
    each = λ image left. ⊎_elim (first.each image) (late image) (second.before (g.moment old) image first.later left);
    before = λ t image le left. ⊎_elim (first.before t image le) (λ now. inr (late image now))
        (second.before t image (omega (arith, le, first.later)) left);
  }
    where
      late : (image : ℕ → List ℕ) → ComesOf (g.held mid) step image → P image
      late image comes = then comes.0 image (here comes.0 comes.1) comes.2

  -- each image has T after the second one
  pub arrive : (mid new : D) (S T : (ℕ → List ℕ) → Type 0) (step : (ℕ → List ℕ) → (ℕ → List ℕ) → Type 0)
      → AllImages (g.held mid) S → AllImages (g.held new) (ComesOf (g.held mid) step)
      → ((a b : ℕ → List ℕ) → S a → step a b → T b) → AllImages (g.held new) T
  arrive mid new S T step here after then image is = let comes = after image is in
      then comes.0 image (here comes.0 comes.1) comes.2

  -- two runs one after the other, of which no more is known than what a stop leaves
  pub both : (old mid new : D) (R S T : (ℕ → List ℕ) → (ℕ → List ℕ) → Type 0)
      → LeavesOnly g old mid (ComesOf (g.held old) R)
      → LeavesOnly g mid new (ComesOf (g.held mid) S)
      → ((image : ℕ → List ℕ) → IsDiskImage (g.held mid) image → g.left_since mid (g.moment old) image)
      → ((a b : ℕ → List ℕ) → R a b → T a b) → ((a b c : ℕ → List ℕ) → R a b → S b c → T a c)
      → LeavesOnly g old new (ComesOf (g.held old) T)
  both old mid new R S T first second now weaker then =
      advance old mid new (ComesOf (g.held old) T) (ComesOf (g.held old) R) S
      (by g old mid (ComesOf (g.held old) R) (ComesOf (g.held old) T) first weak)
      (λ image is. first.each image (now image is)) second chain
    where
      weak : (image : ℕ → List ℕ) → ComesOf (g.held old) R image → ComesOf (g.held old) T image
      weak image c = (c.0, c.1, weaker c.0 image c.2)

      chain : (a b : ℕ → List ℕ) → ComesOf (g.held old) R a → S a b → ComesOf (g.held old) T b
      chain a b c step = (c.0, c.1, then c.0 a b c.2 step)

  -- a run from images that have S, in which a stop leaves what a step makes of one
  pub comes_by : (old new : D) (S T : (ℕ → List ℕ) → Type 0) (step : (ℕ → List ℕ) → (ℕ → List ℕ) → Type 0)
      → AllImages (g.held old) S → LeavesOnly g old new (ComesOf (g.held old) step)
      → ((a b : ℕ → List ℕ) → S a → step a b → T b) → LeavesOnly g old new T
  comes_by old new S T step here run then = by g old new (ComesOf (g.held old) step) T run
      (λ image came. then came.0 image (here came.0 came.1) came.2)

  -- the images of this moment are among those of the run
  pub now_all : (old new : D) (P : (ℕ → List ℕ) → Type 0) → LeavesOnly g old new P
      → ((image : ℕ → List ℕ) → IsDiskImage (g.held new) image → g.left_since new (g.moment old) image)
      → AllImages (g.held new) P
  now_all old new P run counts image is = run.each image (counts image is)

-- ---- how far a run of calls on an honest disk came

-- A stop so far leaves only images that have P, and each image now has Q.
pub record Reached {D S X : Type 0} (g : Ghosts D S X) (old now : D) (P Q : (ℕ → List ℕ) → Type 0) : Type 0 where
  pub honest : IsTrue (g.honest now)
  pub run : LeavesOnly g old now P
  pub here : AllImages (g.held now) Q

module _ {D S X : Type 0} {g : Ghosts D S X} {old mid new : D} {P Q : (ℕ → List ℕ) → Type 0}
    {during : (ℕ → List ℕ) → (ℕ → List ℕ) → Type 0} (so_far : Reached g old mid P Q)
    (run : StopsBy g mid new during) (stop : (a b : ℕ → List ℕ) → Q a → during a b → P b) where
  -- a stop in the next call
  pub stopped : LeavesOnly g old new P
  stopped = advance g old mid new P Q during so_far.run so_far.here (run so_far.honest) stop

  -- and its Ok
  pub reached : {done : (ℕ → List ℕ) → (ℕ → List ℕ) → Type 0} {T : (ℕ → List ℕ) → Type 0}
      → g.honest new ≡ g.honest mid → (IsTrue (g.honest mid) → AllImages (g.held new) (ComesOf (g.held mid) done))
      → ((a b : ℕ → List ℕ) → Q a → done a b → T b) → Reached g old new P T
  reached {done} {T} same after then = record {
    honest = subst IsTrue (sym same) so_far.honest;
    run = stopped;
    here = arrive g mid new Q T done so_far.here (after so_far.honest) then;
  }
