-- Lines of the flows of archives, which are written file by file.
use Rattle.std.proofs.Common.{◌≡◌, ◌≢◌, ◌∙◌, ℕ, ◌+◌, ◌<◌, Bool, true, List, [], ◌∷◌, ◌++◌, length, take, Option}
use Rattle.std.proofs.Common.{Some, append-nil, refl, sym, ap, subst, arith}
use Rattle.std.specs.Prelude.{filter, slice_get, IsErrAnd, IsTrue, IfErr, MatchResult, OnOk, Result, Ok, Err}
use Rattle.std.specs.Io.KnownBytes.{Appends}
use Rattle.std.proofs.KnownBytes.{Appends-nil, Appends-trans}
use Rattle.std.specs.List.{flat_map, All}
use Rattle.std.proofs.lemmas.List.Concat.{flat_map-append}
use Rattle.std.proofs.lemmas.List.Elements.{All-append, All-head, All-nil, All-tail}
use Rattle.flow_disk.specs.Cause.{HasCause}
use Rattle.flow_manifest.specs.declared.error.OpenError.TheVariants as opening
use Rattle.flow_measure.specs.declared.flow.Flow.{Flow}
use Rattle.flow_measure.specs.Query.{flows_in_view}
use Rattle.flow_measure.specs.View.{View}
use Rattle.flow_model.specs.Shelf.{Shelf}
use Rattle.flow_model.specs.Shelved.{shelf_of}
use Rattle.flow_model.specs.Standing.{StandsFor}
use Rattle.flow_model.specs.State.{State}
use Rattle.flow_model.specs.Views.{IsViewOf}
use Rattle.flow_refusals.specs.declared.read_refusal.ReadRefusal.TheVariants as query
use Rattle.flow_report.specs.declared.format.Format.{Format}
use Rattle.flow_report.specs.declared.text_error.TextError.{TextError}
use Rattle.flow_report.specs.declared.text_error.TextError.TheVariants as text
use Rattle.flow_report.specs.Telling.{Tells}
use Rattle.flow_report.specs.Writing.{AppendsFront}
use Rattle.flow_report.proofs.Joining.{front_told, holds_more, stops_more, with_held_cut}
use Rattle.flow_snapshot.specs.Found.{AppendsOwnFlows, AreOwnFlows, HaveOwnFlows, KeptFile}
use Rattle.flow_snapshot.specs.ShelfSeen.{ShelfSeen}
use Rattle.flow_snapshot.proofs.ByFile.{first_flows, flows_at, one_file_more}
use Rattle.flow_several.specs.declared.listing_refusal.ListingRefusal.{ListingRefusal}
use Rattle.flow_several.specs.declared.listing_refusal.ListingRefusal.TheVariants as refusal
use Rattle.flow_several.specs.Flows.{archive_flows, of_text, starts_in, AreFlowsRead, IsListedUpTo, IsNoBlame}
use Rattle.flow_several.specs.Flows.{IsWhileListed, Lists, ListsFront, ListsUpTo, StartIn}
use Rattle.flow_several.specs.Several.{IsViewRead, DiskReading}
use Rattle.flow_several.proofs.EachLines.{front_then}

-- ---- text

-- all of a text is a prefix of it and more
pub whole_front : (a b : Option (List ℕ)) (x y : List ℕ) → Appends a b x → AppendsFront a b (x ++ y)
whole_front a b x y whole = front_then a b b x y whole (0, omega arith, Appends-nil b)

pub front_more : (a b : Option (List ℕ)) (x y : List ℕ) → AppendsFront a b x → AppendsFront a b (x ++ y)
front_more a b x y front = with_held_cut a b x y (stops_more a b x [] y (front_told a b x front))

pub none_of : (a : Option (List ℕ)) (x : List ℕ) → AppendsFront a a x
none_of a x = (0, omega arith, Appends-nil a)

-- what is held is written, or isn't yet
pub held_written : (a b : Option (List ℕ)) (held left : List ℕ) → Appends a b held → left ≡ [] → Tells a held b left []
held_written a b held left grown none = record {
  written = held;
  parts = ap (λ (t : List ℕ). held ++ t) (sym none);
  grown = grown;
}

pub still_held : (a : Option (List ℕ)) (held : List ℕ) → Tells a held a held []
still_held a held = holds_more a held [] held (sym (append-nil held))

-- ---- one file after the other

pub filter_all : {X : Type 0} (p : X → Bool) (xs : List X) → All (λ x. p x ≡ true) xs → filter p xs ≡ xs
filter_all p [] all = refl
filter_all p (x ∷ xs) all =
    rw (All-head (λ y. p y ≡ true) x xs all)
    (ap (λ (ys : List _). x ∷ ys) (filter_all p xs (All-tail (λ y. p y ≡ true) x xs all)))

module _ (line : Flow → List ℕ) where
  abbrev pub lines : List Flow → List ℕ
  lines flows = flat_map line flows

  both : (flows more : List Flow) → lines flows ++ lines more ≡ lines (flows ++ more)
  both flows more = sym (flat_map-append line flows more)

  -- the lines of the flows of these files that start in a span are written
  abbrev pub HasListed : ℕ → ℕ → List KeptFile → Option (List ℕ) → Option (List ℕ) → Type 0
  HasListed from to files old now =
      (flows : List Flow) × AreOwnFlows from to files flows × Appends old now (lines flows)

  module _ (from to : ℕ) (files : List KeptFile) (i : ℕ) (all : List Flow) (are : AreOwnFlows from to files all)
      (old now : Option (List ℕ)) (so_far : HasListed from to (take i files) old now) where
    -- what is written so far is a prefix of all
    pub stopped : AppendsFront old now (lines all)
    stopped =
        let rest = first_flows from to files i so_far.0 all so_far.1 are in
        subst (λ (fs : List Flow). AppendsFront old now (lines fs)) (sym rest.1)
        (subst (AppendsFront old now) (both so_far.0 rest.0)
        (whole_front old now (lines so_far.0) (lines rest.0) so_far.2))

    module _ (new : Option (List ℕ)) (flows : List Flow) (within : i < length files)
        (given : (file : KeptFile) → slice_get files i ≡ Some file → (own : List Flow) → HaveOwnFlows from to file own
        → flows ≡ own) where
      more_own : AreOwnFlows from to (take (i + 1) files) (so_far.0 ++ flows)
      more_own = one_file_more from to files i so_far.0 (so_far.0 ++ flows) within so_far.1 each
        where
          each : (file : KeptFile) → slice_get files i ≡ Some file
              → AppendsOwnFlows from to file so_far.0 (so_far.0 ++ flows)
          each file there =
              let own = flows_at from to files all i file are there in
              (own.0, own.1, ap (λ (fs : List Flow). so_far.0 ++ fs) (given file there own.0 own.1))

      -- the lines of one file's flows more
      pub one_more : Appends now new (lines flows) → HasListed from to (take (i + 1) files) old new
      one_more grown = (
        so_far.0 ++ flows,
        more_own,
        subst (Appends old new) (both so_far.0 flows)
            (Appends-trans old now new (lines so_far.0) (lines flows) so_far.2 grown),
      )

      -- a prefix of them
      pub cut_off : AppendsFront now new (lines flows) → AppendsFront old new (lines all)
      cut_off front =
          let own = so_far.0 ++ flows in
          let rest = first_flows from to files (i + 1) own all more_own are in
          subst (λ (fs : List Flow). AppendsFront old new (lines fs)) (sym rest.1)
          (subst (AppendsFront old new) (both own rest.0)
          (front_more old new (lines own) (lines rest.0)
          (subst (AppendsFront old new) (both so_far.0 flows)
          (front_then old now new (lines so_far.0) (lines flows) so_far.2 front))))

  -- ---- any flows of a span

  -- their lines are written, or a prefix of them
  abbrev pub HasAny : ℕ → ℕ → Option (List ℕ) → Option (List ℕ) → Type 0
  HasAny from to old now = (flows : List Flow) × StartIn from to flows × Appends old now (lines flows)

  abbrev pub HasAnyFront : ℕ → ℕ → Option (List ℕ) → Option (List ℕ) → Type 0
  HasAnyFront from to old now = (flows : List Flow) × StartIn from to flows × AppendsFront old now (lines flows)

  pub any_more : (from to : ℕ) (old now new : Option (List ℕ)) (more : List Flow) → StartIn from to more
      → HasAny from to old now → Appends now new (lines more) → HasAny from to old new
  any_more from to old now new more within (flows, all, grown) next = (
    flows ++ more,
    All-append (λ (f : Flow). starts_in from to f ≡ true) flows more all within,
    subst (Appends old new) (both flows more)
        (Appends-trans old now new (lines flows) (lines more) grown next),
  )

  pub any_cut : (from to : ℕ) (old now new : Option (List ℕ)) (more : List Flow) → StartIn from to more
      → HasAny from to old now → AppendsFront now new (lines more) → HasAnyFront from to old new
  any_cut from to old now new more within (flows, all, grown) next = (
    flows ++ more,
    All-append (λ (f : Flow). starts_in from to f ≡ true) flows more all within,
    subst (AppendsFront old new) (both flows more) (front_then old now new (lines flows) (lines more) grown next),
  )

  pub any_stopped : (from to : ℕ) (old now : Option (List ℕ)) → HasAny from to old now → HasAnyFront from to old now
  any_stopped from to old now (flows, all, grown) = (
    flows,
    all,
    subst (AppendsFront old now) (append-nil (lines flows)) (whole_front old now (lines flows) [] grown),
  )

pub none_in : (from to : ℕ) → StartIn from to []
none_in from to = All-nil (λ (f : Flow). starts_in from to f ≡ true)

-- ---- refusals

-- another refusal, while no fault was counted
pub other_than : {E T : Type 0} (fault e : E) (before now : ℕ) (answer : Result T E)
    → IsErrAnd answer (λ x. x ≡ e) → e ≢ fault → now ≡ before → HasCause fault before now answer
other_than {E} {T} fault e before now (Ok x) never differs same = absurd never
other_than {E} {T} fault e before now (Err x) is differs same = record {
  later = omega (arith, same);
  done = tt;
  risen = λ told. absurd (differs (let this : x ≡ fault = cc in sym is ∙ this));
  other = λ _. same;
}

pub text_asks : (e : TextError) → IsWhileListed (of_text e)
text_asks text.OutOfMemory = tt
text_asks (text.Write failed) = tt

pub text_blameless : (e : TextError) → IsNoBlame (of_text e)
text_blameless text.OutOfMemory = tt
text_blameless (text.Write failed) = tt

pub text_is_no_fault : (e : TextError) → of_text e ≢ refusal.Query query.Fault
text_is_no_fault text.OutOfMemory is = absurd (cc)
text_is_no_fault (text.Write failed) is = absurd (cc)

pub memory_is_no_fault : refusal.Query query.OutOfMemory ≢ refusal.Query query.Fault
memory_is_no_fault is = absurd (cc)

-- ---- one archive

module _ (format : Format) (number from to : ℕ) (reads : DiskReading) (v : View) (read : IsViewRead reads v)
    (old new : Option (List ℕ)) where
  abbrev own : List ℕ
  own = archive_flows format number (flows_in_view from to v)

  up_to : (e : ListingRefusal) → IsWhileListed e → IsNoBlame e → AppendsFront old new own
      → IsListedUpTo format number from to reads old new e
  up_to (refusal.Opening e) asks blameless cut = absurd asks
  up_to (refusal.Query e) asks blameless cut = (blameless, (flows_in_view from to v, (v, read, refl), cut))
  up_to (refusal.Write failed) asks blameless cut = (flows_in_view from to v, (v, read, refl), cut)

  pub listed_so : {A : Type 0} (r : Result A ListingRefusal) → OnOk r (Appends old new own)
      → IfErr r (λ e. IsNoBlame e × AppendsFront old new own) → IfErr r IsWhileListed
      → MatchResult r (λ _. Lists format number (AreFlowsRead from to reads) old new)
      (IsListedUpTo format number from to reads old new)
  listed_so (Ok x) told cut asks = (flows_in_view from to v, (v, read, refl), told)
  listed_so (Err e) told cut asks = up_to e asks cut.0 cut.1

pub asks_alone : {A : Type 0} (P : Type 0) (r : Result A ListingRefusal) → IfErr r (λ e. IsWhileListed e × P)
    → IfErr r IsWhileListed
asks_alone P (Ok x) some = tt
asks_alone P (Err e) some = some.0

-- what a snapshot of what was read lists
pub listed_as : {A : Type 0} (format : Format) (number from to : ℕ) (reads : DiskReading) (s : State)
    → StandsFor reads s → (v : View) → IsViewOf (shelf_of s) v → (sight directory : ShelfSeen) → sight ≡ directory
    → (directory.shelf ≡ shelf_of s) × (directory.honest ≡ true) → (old new : Option (List ℕ))
    → (r : Result A ListingRefusal)
    → (IsTrue sight.honest → (v : View) → IsViewOf sight.shelf v
    → OnOk r (Appends old new (archive_flows format number (flows_in_view from to v))))
    → (IsTrue sight.honest → (v : View) → IsViewOf sight.shelf v
    → IfErr r (λ e. IsNoBlame e × AppendsFront old new (archive_flows format number (flows_in_view from to v))))
    → IfErr r (λ e. IsWhileListed e × ListsFront format number (StartIn from to) old new)
    → MatchResult r (λ _. Lists format number (AreFlowsRead from to reads) old new)
    (IsListedUpTo format number from to reads old new)
listed_as format number from to reads s stands v view sight directory same shown old new r told cut some =
    let shelf_is : sight.shelf ≡ shelf_of s = ap (λ (x : ShelfSeen). x.shelf) same ∙ shown.0 in
    let honest : sight.honest ≡ true = ap (λ (x : ShelfSeen). x.honest) same ∙ shown.1 in
    let seen : IsViewOf sight.shelf v = subst (λ (shelf : Shelf). IsViewOf shelf v) (sym shelf_is) view in
    listed_so format number from to reads v (s, stands, view) old new r (told honest v seen) (cut honest v seen)
    (asks_alone (ListsFront format number (StartIn from to) old new) r some)

pub not_opened : (e : ListingRefusal) → IsWhileListed e → e ≢ refusal.Opening opening.Fault
not_opened (refusal.Opening e) asks is = absurd asks
not_opened (refusal.Query e) asks is = absurd (cc)
not_opened (refusal.Write failed) asks is = absurd (cc)

-- an archive that was opened, by which no call of the disk failed
pub opened_alone : {X : Type 0} (before opened after : ℕ) (r : Result X ListingRefusal) → opened ≡ before
    → after ≡ opened → IfErr r IsWhileListed → HasCause (refusal.Opening opening.Fault) before after r
opened_alone before opened after (Ok x) still same asks =
    let here : after ≡ before = same ∙ still in
    record { later = omega (arith, here); done = here; risen = λ is. absurd cc; other = tt }
opened_alone before opened after (Err e) still same asks =
    let here : after ≡ before = same ∙ still in
    record {
      later = omega (arith, here);
      done = tt;
      risen = λ is. absurd (not_opened e asks (let this : e ≡ refusal.Opening opening.Fault = cc in this));
      other = λ _. here;
    }

pub some_of : {A : Type 0} (format : Format) (number from to : ℕ) (old new : Option (List ℕ))
    (r : Result A ListingRefusal) → IfErr r (λ e. IsWhileListed e × ListsFront format number (StartIn from to) old new)
    → IfErr r (ListsUpTo format number (StartIn from to) old new)
some_of format number from to old new (Ok x) some = tt
some_of format number from to old new (Err (refusal.Opening e)) some = absurd some.0
some_of format number from to old new (Err (refusal.Query e)) some = some.1
some_of format number from to old new (Err (refusal.Write failed)) some = some.1
