-- What calls make of an archive, and what a stop leaves of them, by the steps from the state before.
use Rattle.std.proofs.Common.{◌≡◌, ◌⊎◌, inl, inr, ⊎_elim, ℕ, Bool, true, false, IsTrue, List, [], ◌∷◌, ◌++◌, refl}
use Rattle.std.proofs.Common.{sym, ◌∙◌, ap, subst, append_assoc}
use mathlib.Core.List.{IsPrefix}
use Rattle.flow_disk.specs.declared.disk.Disk.{Ghosts}
use Rattle.flow_disk.specs.Calls.{LeavesOnly}
use Rattle.flow_disk.proofs.Moments.{by, one_run, started}
use Rattle.flow_measure.specs.History.{History}
use Rattle.flow_measure.specs.View.{view_of}
use Rattle.flow_model.specs.Changes.{counts_of, Change}
use Rattle.flow_model.specs.Shelf.{Shelf}
use Rattle.flow_model.specs.Shelved.{shelf_of, HasHistory}
use Rattle.flow_model.specs.State.{reopened, State}
use Rattle.flow_model.specs.Standing.{StandsFor}
use Rattle.flow_model.specs.Views.{IsViewOf}
use Rattle.flow_archive.specs.Seen.{Seen}
use Rattle.flow_shared.specs.Meaning.{history_behind, HasView, Means}
use Rattle.flow_shared.specs.Told.{after}
use Rattle.flow_shared.proofs.Stepping.{after_more, history_more}
use Rattle.flow_stops.specs.Stops.{IsLeft}

pub never : {X : Type 0} (b : Bool) → b ≡ true → b ≡ false → X
never b closed still = absurd (cc)

-- ---- steps from state to state

-- from one state to another by these steps: of its files, and of each history that they have
pub record Goes (s next : State) (xs : List Change) : Type 0 where
  pub files : shelf_of next ≡ after (shelf_of s) xs
  pub history : (h : History) → HasHistory s h → HasHistory next (history_behind h xs)

-- the same files
pub goes_same : (s next : State) → shelf_of next ≡ shelf_of s → Goes s next []
goes_same s next same = record {
  files = same;
  history = λ h has. record {
    history = has.history;
    view = subst (λ (x : Shelf). IsViewOf x (view_of h (counts_of x))) (sym same) has.view;
  };
}

pub goes_nowhere : (s next : State) → next ≡ s → Goes s next []
goes_nowhere s next is = goes_same s next (ap shelf_of is)

pub goes_then : (s mid next : State) (xs ys : List Change) → Goes s mid xs → Goes mid next ys → Goes s next (xs ++ ys)
goes_then s mid next xs ys one two = record {
  files = two.files ∙ ap (λ (x : Shelf). after x ys) one.files ∙ sym (after_more (shelf_of s) xs ys);
  history = λ h has. subst (HasHistory next) (sym (history_more h xs ys))
      (two.history (history_behind h xs) (one.history h has));
}

-- ---- prefixes

pub prefix_none : (xs : List Change) → IsPrefix [] xs
prefix_none xs = (xs, refl)

pub prefix_more : (xs ys zs : List Change) → IsPrefix xs ys → IsPrefix xs (ys ++ zs)
prefix_more xs ys zs is = (is.0 ++ zs, sym (append_assoc xs is.0 zs) ∙ ap (λ (l : List Change). l ++ zs) is.1)

pub prefix_later : (xs ys zs : List Change) → IsPrefix ys zs → IsPrefix (xs ++ ys) (xs ++ zs)
prefix_later xs ys zs is = (is.0, append_assoc xs ys is.0 ∙ ap (λ (l : List Change). xs ++ l) is.1)

-- ---- images

-- This image represents what some steps made of this state: all of `first`, and then some more of `last`; or all of
-- `last`, and one that may be there.
pub record IsOne (s : State) (first last : List Change) (MayBe : Change → Type 0) (image : ℕ → List ℕ) : Type 0 where
  pub next : State
  pub represents : StandsFor image (reopened next)
  pub xs : List Change
  pub goes : Goes s next xs
  pub begins : IsPrefix first xs
  pub ends : IsPrefix xs last ⊎ ((step : Change) × MayBe step × (xs ≡ last ++ step ∷ []))

pub one_weaker : (s : State) (first last : List Change) (M N : Change → Type 0) (image : ℕ → List ℕ)
    → ((step : Change) → M step → N step) → IsOne s first last M image → IsOne s first last N image
one_weaker s first last M N image weaker one = record {
  next = one.next;
  represents = one.represents;
  xs = one.xs;
  goes = one.goes;
  begins = one.begins;
  ends = ⊎_elim (λ is. inl is) (λ more. inr (more.0, weaker more.0 more.1, more.2)) one.ends;
}

-- where no step may be there, more steps may follow
one_early : (s : State) (first last more : List Change) (M N : Change → Type 0) (image : ℕ → List ℕ)
    → ((step : Change) → M step → ⊥) → IsOne s first last M image → IsOne s first (last ++ more) N image
one_early s first last more M N image none one = record {
  next = one.next;
  represents = one.represents;
  xs = one.xs;
  goes = one.goes;
  begins = one.begins;
  ends = ⊎_elim (λ is. inl (prefix_more one.xs last more is)) (λ late. absurd (none late.0 late.1)) one.ends;
}

-- steps before them
one_later : (s mid : State) (xs first last : List Change) (M : Change → Type 0) (image : ℕ → List ℕ) → Goes s mid xs
    → IsOne mid first last M image → IsOne s (xs ++ first) (xs ++ last) M image
one_later s mid xs first last M image goes one = record {
  next = one.next;
  represents = one.represents;
  xs = xs ++ one.xs;
  goes = goes_then s mid one.next xs one.xs goes one.goes;
  begins = prefix_later xs first one.xs one.begins;
  ends = ⊎_elim (λ is. inl (prefix_later xs one.xs last is))
      (λ late. inr (
        late.0,
        late.1,
        ap (λ (l : List Change). xs ++ l) late.2
            ∙ sym (append_assoc xs last (late.0 ∷ [])),
      )) one.ends;
}

one_from_none : (s : State) (first last : List Change) (M : Change → Type 0) (image : ℕ → List ℕ)
    → IsOne s first last M image → IsOne s [] last M image
one_from_none s first last M image one = record {
  next = one.next;
  represents = one.represents;
  xs = one.xs;
  goes = one.goes;
  begins = prefix_none one.xs;
  ends = one.ends;
}

-- the files that a start began with, after these steps and those of an image
pub means_more : (opening : Shelf) (s next : State) (told xs : List Change) → after opening told ≡ shelf_of s
    → Means opening told → Goes s next xs → Means opening (told ++ xs)
means_more opening s next told xs files means goes h has =
    let was : HasView (shelf_of s) (history_behind h told) =
    subst (λ (x : Shelf). HasView x (history_behind h told)) files (means h has) in
    let then = goes.history (history_behind h told) (record { history = was.0; view = was.1 }) in
    let all : after opening (told ++ xs) ≡ shelf_of next =
    after_more opening told xs ∙ ap (λ (x : Shelf). after x xs) files ∙ sym goes.files in
    subst (λ (x : Shelf). HasView x (history_behind h (told ++ xs))) (sym all)
    (subst (HasView (shelf_of next)) (sym (history_more h told xs)) (then.history, then.view))

pub files_more : (opening : Shelf) (s next : State) (told xs : List Change) → after opening told ≡ shelf_of s
    → Goes s next xs → after opening (told ++ xs) ≡ shelf_of next
files_more opening s next told xs files goes =
    after_more opening told xs ∙ ap (λ (x : Shelf). after x xs) files ∙ sym goes.files

pub left_of : (opening : Shelf) (s : State) (told first last : List Change) (M : Change → Type 0) (image : ℕ → List ℕ)
    → after opening told ≡ shelf_of s → Means opening told → IsOne s first last M image
    → IsLeft opening (told ++ first) (told ++ last) M image
left_of opening s told first last M image files means one =
    let all : after opening (told ++ one.xs) ≡ shelf_of one.next =
    files_more opening s one.next told one.xs files one.goes in
    let then = means_more opening s one.next told one.xs files means one.goes in
    record {
      left = reopened one.next;
      represents = one.represents;
      steps = told ++ one.xs;
      files = sym all;
      history = λ h has.
          let is : HasView (shelf_of one.next) (history_behind h (told ++ one.xs)) =
          subst (λ (x : Shelf). HasView x (history_behind h (told ++ one.xs))) all (then h has) in
          record { history = is.0; view = is.1 };
      begins = prefix_later told first one.xs one.begins;
      ends = ⊎_elim (λ is. inl (prefix_later told one.xs last is))
          (λ late. inr (
            late.0,
            late.1,
            ap (λ (l : List Change). told ++ l) late.2
                ∙ sym (append_assoc told last (late.0 ∷ [])),
          )) one.ends;
    }

-- ---- calls

module _ {D S X : Type 0} (g : Ghosts D S X) where
  abbrev pub Images : Seen D → Type 0
  Images now = (image : ℕ → List ℕ) → g.left_since now.disk (g.moment now.disk) image
      → StandsFor image (reopened now.state)

  -- an open archive on an honest disk, that each image of now represents
  pub record IsHere (now : Seen D) : Type 0 where
    pub honest : IsTrue (g.honest now.disk)
    pub still_open : now.closed ≡ false
    pub images : Images now

  abbrev pub MayBeClosed : Seen D → (Change → Type 0) → Change → Type 0
  MayBeClosed now MayBe step = (now.closed ≡ true) × MayBe step

  -- These steps were made, and what a stop leaves of them. Where the archive is closed now one more may be there.
  pub record IsMade (old new : Seen D) (steps : List Change) (MayBe : Change → Type 0) : Type 0 where
    pub goes : Goes old.state new.state steps
    pub honest_too : g.honest new.disk ≡ g.honest old.disk
    pub leaves : LeavesOnly g old.disk new.disk (IsOne old.state [] steps (MayBeClosed new MayBe))
    pub here : new.closed ≡ false → Images new
    pub gone : new.closed ≡ true → (image : ℕ → List ℕ) → g.left_since new.disk (g.moment new.disk) image
        → IsOne old.state steps steps MayBe image

  pub here_then : (old new : Seen D) (steps : List Change) (M : Change → Type 0) → IsHere old → IsMade old new steps M
      → new.closed ≡ false → IsHere new
  here_then old new steps M here made still = record {
    honest = subst IsTrue (sym made.honest_too) here.honest;
    still_open = still;
    images = made.here still;
  }

  as_it_was : (now : Seen D) (steps : List Change) (M : Change → Type 0) (image : ℕ → List ℕ)
      → StandsFor image (reopened now.state) → IsOne now.state [] steps M image
  as_it_was now steps M image represents = record {
    next = now.state;
    represents = represents;
    xs = [];
    goes = goes_nowhere now.state now.state refl;
    begins = prefix_none [];
    ends = inl (prefix_none steps);
  }

  nothing_made : (now : Seen D) (M : Change → Type 0) → IsHere now → IsMade now now [] M
  nothing_made now M here = record {
    goes = goes_nowhere now.state now.state refl;
    honest_too = refl;
    leaves = started g now.disk (IsOne now.state [] [] (MayBeClosed now M))
        (λ image left. as_it_was now [] (MayBeClosed now M) image (here.images image left));
    here = λ still. here.images;
    gone = λ closed. never now.closed closed here.still_open;
  }

  pub same_made : (old new : Seen D) (steps : List Change) (M : Change → Type 0) → new ≡ old → steps ≡ [] → IsHere old
      → IsMade old new steps M
  same_made old new steps M same none here =
      subst (λ (xs : List Change). IsMade old new xs M) (sym none)
      (subst (λ (n : Seen D). IsMade old n [] M) (sym same) (nothing_made old M here))

  pub made_weaker : (old new : Seen D) (steps : List Change) (M N : Change → Type 0)
      → ((step : Change) → M step → N step) → IsMade old new steps M → IsMade old new steps N
  made_weaker old new steps M N weaker made = record {
    goes = made.goes;
    honest_too = made.honest_too;
    leaves = by g old.disk new.disk (IsOne old.state [] steps (MayBeClosed new M))
        (IsOne old.state [] steps (MayBeClosed new N)) made.leaves
        (λ image one. one_weaker old.state [] steps (MayBeClosed new M) (MayBeClosed new N) image
        (λ step is. (is.0, weaker step is.1)) one);
    here = made.here;
    gone = λ closed image left. one_weaker old.state steps steps M N image weaker (made.gone closed image left);
  }

  pub made_then : (old mid new : Seen D) (xs ys : List Change) (M N : Change → Type 0) → mid.closed ≡ false
      → IsMade old mid xs M → IsMade mid new ys N → IsMade old new (xs ++ ys) N
  made_then old mid new xs ys M N still one two = record {
    goes = goes_then old.state mid.state new.state xs ys one.goes two.goes;
    honest_too = two.honest_too ∙ one.honest_too;
    leaves = one_run g old.disk mid.disk new.disk (IsOne old.state [] (xs ++ ys) (MayBeClosed new N))
        (by g old.disk mid.disk (IsOne old.state [] xs (MayBeClosed mid M))
        (IsOne old.state [] (xs ++ ys) (MayBeClosed new N)) one.leaves
        (λ image is. one_early old.state [] xs ys (MayBeClosed mid M) (MayBeClosed new N) image
        (λ step may. never mid.closed may.0 still) is))
        (by g mid.disk new.disk (IsOne mid.state [] ys (MayBeClosed new N))
        (IsOne old.state [] (xs ++ ys) (MayBeClosed new N)) two.leaves
        (λ image is. one_from_none old.state (xs ++ []) (xs ++ ys) (MayBeClosed new N) image
        (one_later old.state mid.state xs [] ys (MayBeClosed new N) image one.goes is)));
    here = two.here;
    gone = λ closed image left. one_later old.state mid.state xs ys ys N image one.goes (two.gone closed image left);
  }
