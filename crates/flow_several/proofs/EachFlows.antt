-- The flows of archives, which are listed one after the other.
use Rattle.std.proofs.Common.{◌≡◌, ◌≢◌, ◌∙◌, ℕ, suc, ◌+◌, List, [], ◌∷◌, ◌++◌, length, take, Option}
use Rattle.std.proofs.Common.{append_assoc, append-nil, refl, sym, ap, subst, arith}
use Rattle.std.specs.Prelude.{Result, Ok, Err, IfErr, OnOk}
use Rattle.std.specs.Io.KnownBytes.{Appends}
use Rattle.std.proofs.KnownBytes.{Appends-kept, Appends-nil, Appends-trans}
use Rattle.std.specs.List.{All, AllZip}
use Rattle.std.proofs.lemmas.List.Elements.{All-append, All-cons, All-nil}
use Rattle.flow_disk.specs.Cause.{HasCause, HasRisen}
use Rattle.flow_measure.specs.declared.flow.Flow.{Flow}
use Rattle.flow_refusals.specs.declared.read_refusal.ReadRefusal.TheVariants as query
use Rattle.flow_report.specs.declared.format.Format.{Format}
use Rattle.flow_report.specs.Writing.{AppendsFront}
use Rattle.flow_several.specs.declared.listing_refusal.ListingRefusal.{ListingRefusal}
use Rattle.flow_several.specs.declared.listing_refusal.ListingRefusal.TheVariants as refusal
use Rattle.flow_several.specs.Flows.{archive_flows, each_flows, of_listing, AreFlowsRead, AreFlowsRefused}
use Rattle.flow_several.specs.Flows.{IsListedUpTo, Lists, ListsUpTo, StartIn, WritesFlows, WritesFlowsOf}
use Rattle.flow_several.specs.Flows.{WritesSomeFlows}
use Rattle.flow_several.specs.Several.{HasReadCause, IsReadFault, DiskReading}
use Rattle.flow_several.proofs.EachLines.{front_then}
use Rattle.flow_several.proofs.OneByOne.{zip_then}

-- ---- lists at places

pub zip_count : {A B : Type 0} (P : A → B → Type 0) (xs : List A) (ys : List B) → AllZip P xs ys → length ys ≡ length xs
zip_count P [] [] each = refl
zip_count P [] (y ∷ ys) each = absurd each
zip_count P (x ∷ xs) [] each = absurd each
zip_count P (x ∷ xs) (y ∷ ys) each = ap suc (zip_count P xs ys each.1)

zip_all : {A B : Type 0} (P : B → Type 0) (xs : List A) (ys : List B) → AllZip (λ x y. P y) xs ys → All P ys
zip_all P [] [] each = All-nil P
zip_all P [] (y ∷ ys) each = absurd each
zip_all P (x ∷ xs) [] each = absurd each
zip_all P (x ∷ xs) (y ∷ ys) each = All-cons P y ys each.0 (zip_all P xs ys each.1)

-- the lines of one archive more
flows_then : (format : Format) (all : List (List Flow)) (number : ℕ) (flows : List Flow)
    → each_flows format number (all ++ flows ∷ [])
    ≡ each_flows format number all ++ archive_flows format (number + length all) flows
flows_then format [] number flows =
    let here : number + 0 ≡ number = omega arith in
    append-nil (archive_flows format number flows) ∙ ap (λ (n : ℕ). archive_flows format n flows) (sym here)
flows_then format (x ∷ all) number flows =
    let here : (number + 1) + length all ≡ number + suc (length all) = omega arith in
    let own = archive_flows format number x in
    ap (λ (l : List ℕ). own ++ l) (flows_then format all (number + 1) flows
    ∙ ap (λ (n : ℕ). each_flows format (number + 1) all ++ archive_flows format n flows) here)
    ∙ sym (append_assoc own (each_flows format (number + 1) all)
    (archive_flows format (number + suc (length all)) flows))

-- ---- so many archives

-- The lines of so many archives are written, of such flows of each.
pub record AreListed (P : DiskReading → List Flow → Type 0) (format : Format) (reads : List DiskReading) (n : ℕ)
    (old now : Option (List ℕ)) : Type 0 where
  pub all : List (List Flow)
  pub each : AllZip P (take n reads) all
  pub lines : Appends old now (each_flows format 1 all)

abbrev pub Starting : ℕ → ℕ → DiskReading → List Flow → Type 0
Starting from to reads flows = StartIn from to flows

module _ (P : DiskReading → List Flow → Type 0) (format : Format) (reads : List DiskReading) where
  pub none_listed : (known : Option (List ℕ)) → AreListed P format reads 0 known known
  none_listed known = record { all = []; each = tt; lines = Appends-nil known }

  -- one archive more
  module _ (n number : ℕ) (old now : Option (List ℕ)) (so_far : AreListed P format reads n old now)
      (place : number ≡ n + 1) (few : length (take n reads) ≡ n) (own : DiskReading) where
    pub counted : length so_far.all ≡ n
    counted = zip_count P (take n reads) so_far.all so_far.each ∙ few

    more_lines : (flows : List Flow)
        → each_flows format 1 (so_far.all ++ flows ∷ [])
        ≡ each_flows format 1 so_far.all ++ archive_flows format number flows
    more_lines flows =
        let here : 1 + length so_far.all ≡ number = omega (arith, counted, place) in
        flows_then format so_far.all 1 flows
        ∙ ap (λ (k : ℕ). each_flows format 1 so_far.all ++ archive_flows format k flows) here

    more_each : (flows : List Flow) → P own flows → AllZip P (take n reads ++ own ∷ []) (so_far.all ++ flows ∷ [])
    more_each flows is = zip_then P (take n reads) so_far.all own flows so_far.each is

    pub one_listed : (m : ℕ) → take m reads ≡ take n reads ++ own ∷ [] → (new : Option (List ℕ))
        → Lists format number (P own) now new → AreListed P format reads m old new
    one_listed m parts new (flows, is, grown) = record {
      all = so_far.all ++ flows ∷ [];
      each = subst (λ (rs : List DiskReading). AllZip P rs (so_far.all ++ flows ∷ [])) (sym parts) (more_each flows is);
      lines = subst (Appends old new) (sym (more_lines flows))
          (Appends-trans old now new (each_flows format 1 so_far.all) (archive_flows format number flows) so_far.lines
          grown);
    }

    one_cut : (new : Option (List ℕ)) (flows : List Flow) → AppendsFront now new (archive_flows format number flows)
        → AppendsFront old new (each_flows format 1 (so_far.all ++ flows ∷ []))
    one_cut new flows cut = subst (AppendsFront old new) (sym (more_lines flows))
        (front_then old now new (each_flows format 1 so_far.all) (archive_flows format number flows) so_far.lines cut)

  pub all_counted : (n count : ℕ) (old now : Option (List ℕ)) (so_far : AreListed P format reads n old now)
      → take n reads ≡ reads → length reads ≡ count → length so_far.all ≡ count
  all_counted n count old now so_far whole is =
      zip_count P (take n reads) so_far.all so_far.each ∙ ap length whole ∙ is

module _ (format : Format) (from to : ℕ) (reads : List DiskReading) where
  -- whatever the disks
  pub some_refused : (n number : ℕ) (old now : Option (List ℕ))
      → AreListed (Starting from to) format reads n old now → number ≡ n + 1 → length (take n reads) ≡ n
      → (own : DiskReading) (new : Option (List ℕ)) (e : ListingRefusal)
      → ListsUpTo format number (StartIn from to) now new e
      → WritesSomeFlows format from to old new (of_listing number e)
  some_refused n number old now so_far place few own new (refusal.Opening e) kept = (
    so_far.all,
    omega (arith, place, counted (Starting from to) format reads n number old now so_far place few own),
    zip_all (StartIn from to) (take n reads) so_far.all so_far.each,
    Appends-kept old now new (each_flows format 1 so_far.all) so_far.lines kept,
  )
  some_refused n number old now so_far place few own new (refusal.Query e) (flows, is, (k, within, grown)) = (
    so_far.all,
    omega (arith, place, counted (Starting from to) format reads n number old now so_far place few own),
    zip_all (StartIn from to) (take n reads) so_far.all so_far.each,
    (
      flows,
      is,
      k,
      within,
      Appends-trans old now new (each_flows format 1 so_far.all) (take k (archive_flows format number flows))
          so_far.lines grown,
    ),
  )
  some_refused n number old now so_far place few own new (refusal.Write failed) (flows, is, cut) = (
    so_far.all ++ flows ∷ [],
    All-append (StartIn from to) so_far.all (flows ∷ [])
        (zip_all (StartIn from to) (take n reads) so_far.all so_far.each)
        (All-cons (StartIn from to) flows [] is (All-nil (StartIn from to))),
    one_cut (Starting from to) format reads n number old now so_far place few own new flows cut,
  )

  -- where all are honest
  pub own_refused : (n number : ℕ) (old now : Option (List ℕ))
      → AreListed (AreFlowsRead from to) format reads n old now → number ≡ n + 1 → length (take n reads) ≡ n
      → (own : DiskReading) (after : List DiskReading) → reads ≡ take n reads ++ own ∷ after
      → (new : Option (List ℕ)) (e : ListingRefusal) → IsListedUpTo format number from to own now new e
      → AreFlowsRefused format from to reads old new (of_listing number e)
  own_refused n number old now so_far place few own after parts new (refusal.Opening e) (why, kept) = record {
    before = take n reads;
    own = own;
    after = after;
    flows = so_far.all;
    all = parts;
    place = omega (arith, place, few);
    listed = so_far.each;
    refused = why;
    written = Appends-kept old now new (each_flows format 1 so_far.all) so_far.lines kept;
  }
  own_refused n number old now so_far place few own after parts new (refusal.Query e)
      (why, (flows, is, (k, within, grown))) = record {
        before = take n reads;
        own = own;
        after = after;
        flows = so_far.all;
        all = parts;
        place = omega (arith, place, few);
        listed = so_far.each;
        refused = why;
        written = (
          flows,
          is,
          k,
          within,
          Appends-trans old now new (each_flows format 1 so_far.all) (take k (archive_flows format number flows))
              so_far.lines grown,
        );
      }
  own_refused n number old now so_far place few own after parts new (refusal.Write failed) (flows, is, cut) = (
    take n reads ++ own ∷ [],
    after,
    so_far.all ++ flows ∷ [],
    parts ∙ sym (append_assoc (take n reads) (own ∷ []) after),
    more_each (AreFlowsRead from to) format reads n number old now so_far place few own flows is,
    one_cut (AreFlowsRead from to) format reads n number old now so_far place few own new flows cut,
  )

  pub all_written : (n : ℕ) (old now : Option (List ℕ)) → AreListed (AreFlowsRead from to) format reads n old now
      → take n reads ≡ reads → WritesFlows format from to reads old now
  all_written n old now so_far whole = (
    so_far.all,
    subst (λ (rs : List DiskReading). AllZip (AreFlowsRead from to) rs so_far.all) whole so_far.each,
    so_far.lines,
  )

  pub some_written : (n count : ℕ) (old now : Option (List ℕ)) → AreListed (Starting from to) format reads n old now
      → take n reads ≡ reads → length reads ≡ count → WritesFlowsOf format from to count old now
  some_written n count old now so_far whole is = (
    so_far.all,
    all_counted (Starting from to) format reads n count old now so_far whole is,
    zip_all (StartIn from to) (take n reads) so_far.all so_far.each,
    so_far.lines,
  )

-- ---- causes

fault_is : (number : ℕ) (e : ListingRefusal) → IsReadFault (of_listing number e) → e ≡ refusal.Query query.Fault
fault_is number (refusal.Opening e) is = absurd is
fault_is number (refusal.Query (query.Damaged file at)) is = absurd is
fault_is number (refusal.Query query.Fault) is = refl
fault_is number (refusal.Query query.OutOfMemory) is = absurd is
fault_is number (refusal.Write failed) is = absurd is

is_fault : (number : ℕ) (e : ListingRefusal) → e ≡ refusal.Query query.Fault → IsReadFault (of_listing number e)
is_fault number e is = subst (λ (x : ListingRefusal). IsReadFault (of_listing number x)) (sym is) tt

pub refused_so : {X Z : Type 0} (number : ℕ) (e : ListingRefusal) (old before after : ℕ) (r : Result X ListingRefusal)
    → before ≡ old → r ≡ Err e → HasCause (refusal.Query query.Fault) before after r
    → HasReadCause {X = Z} old after (Err (of_listing number e))
refused_so {X} {Z} number e old before after r same is cause = record {
  later = omega (arith, cause.later, same);
  done = tt;
  risen = λ fault. subst (λ (k : ℕ). HasRisen k after) same
      (cause.risen (is ∙ ap (λ (x : ListingRefusal). Err x) (fault_is number e fault)));
  other = λ not. subst
      (λ (r : Result X ListingRefusal). IfErr r (λ x. x ≢ refusal.Query query.Fault → after ≡ before)) is cause.other
      (λ fault. not (is_fault number e fault)) ∙ same;
}

pub none_failed : {X : Type 0} (x : X) (before after : ℕ) (r : Result X ListingRefusal) → r ≡ Ok x
    → HasCause (refusal.Query query.Fault) before after r → after ≡ before
none_failed {X} x before after r is cause =
    subst (λ (r : Result X ListingRefusal). OnOk r (after ≡ before)) is cause.done
