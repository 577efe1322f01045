-- Lines of records, taken from one file after the other.
use Rattle.std.proofs.Common.{◌≡◌, ℕ, ◌+◌, ◌<◌, List, [], ◌++◌, Some, length, take, refl, sym, subst, get_or}
use Rattle.std.specs.Prelude.{slice_get, Option}
use Rattle.std.proofs.lemmas.Option.{slice_get-get_or}
use Rattle.flow_codec.specs.Raw.{Placed}
use Rattle.flow_snapshot.specs.Found.{KeptFile}
use Rattle.flow_records.specs.declared.listing.Listing.{Listing}
use Rattle.flow_records.specs.declared.refusal.RecordsRefusal.{RecordsRefusal}
use Rattle.flow_records.specs.Listing.{IsBlameless, StaysSo, TellsFrontOf, TellsOwn, TellsOwnOf}
use Rattle.flow_records.specs.Records.{AreOwnRecords, HaveOwnRecords}
use Rattle.flow_records.proofs.ByFile.{first_records, no_files, none_at, one_file_more, records_at, AppendsOwnRecords}
use Rattle.flow_records.proofs.Telling.{cut_longer, told_cut, told_more, told_none}

-- the file at a place is one
pub one_file : (files : List KeptFile) (i : ℕ) (a b : KeptFile) → slice_get files i ≡ Some a
    → slice_get files i ≡ Some b → a ≡ b
one_file files i a b one two = cc

pub none_told_yet : (old : Listing) (was : Option (List ℕ)) → TellsOwnOf old was was old []
none_told_yet old was = ([], no_files old.chosen.from old.chosen.to, told_none old was)

-- a file's records, of a span that stays
pub own_so : (old mid : Listing) (file : KeptFile) (own : List Placed) → StaysSo old mid
    → HaveOwnRecords old.chosen.from old.chosen.to file own → HaveOwnRecords mid.chosen.from mid.chosen.to file own
own_so old mid file own same has =
    subst (λ (n : ℕ). HaveOwnRecords n mid.chosen.to file own) (sym same.from)
    (subst (λ (n : ℕ). HaveOwnRecords old.chosen.from n file own) (sym same.to) has)

own_back : (old mid : Listing) (file : KeptFile) (own : List Placed) → StaysSo old mid
    → HaveOwnRecords mid.chosen.from mid.chosen.to file own → HaveOwnRecords old.chosen.from old.chosen.to file own
own_back old mid file own same has =
    subst (λ (n : ℕ). HaveOwnRecords n old.chosen.to file own) same.from
    (subst (λ (n : ℕ). HaveOwnRecords mid.chosen.from n file own) same.to has)

-- one file more, of which these are the records
own_more : (from to : ℕ) (files : List KeptFile) (i : ℕ) (here : KeptFile) (records own : List Placed)
    → i < length files → slice_get files i ≡ Some here → AreOwnRecords from to (take i files) records
    → HaveOwnRecords from to here own → AreOwnRecords from to (take (i + 1) files) (records ++ own)
own_more from to files i here records own within there so_far has =
    one_file_more from to files i records (records ++ own) within so_far each
  where
    each : (file : KeptFile) → slice_get files i ≡ Some file → AppendsOwnRecords from to file records (records ++ own)
    each file is =
        (own, subst (λ (f : KeptFile). HaveOwnRecords from to f own) (one_file files i here file there is) has, refl)

module _ (old mid : Listing) (was now : Option (List ℕ)) (files : List KeptFile) (i : ℕ)
    (so_far : TellsOwnOf old was now mid (take i files)) (next : Option (List ℕ)) (same : StaysSo old mid)
    (within : i < length files) (new : Listing) where
  abbrev here : KeptFile
  here = get_or files i none_at

  -- the lines of one file's records more
  pub files_more : ((file : KeptFile) → slice_get files i ≡ Some file → TellsOwn mid now next new file)
      → TellsOwnOf old was next new (take (i + 1) files)
  files_more given =
      let there = slice_get-get_or files i none_at within in
      let own = given here there in (
        so_far.0 ++ own.0,
        own_more old.chosen.from old.chosen.to files i here so_far.0 own.0 within there so_far.1
            (own_back old mid here own.0 same own.1),
        told_more old mid new was now next so_far.0 own.0 same so_far.2 own.2,
      )

module _ (old mid : Listing) (was now : Option (List ℕ)) (files : List KeptFile) (i : ℕ) (all : List Placed)
    (are : AreOwnRecords old.chosen.from old.chosen.to files all)
    (so_far : TellsOwnOf old was now mid (take i files)) where
  -- what came so far is a prefix of all
  pub files_stopped : TellsFrontOf old was now all
  files_stopped =
      let rest = first_records old.chosen.from old.chosen.to files i so_far.0 all so_far.1 are in
      subst (TellsFrontOf old was now) (sym rest.1)
      (cut_longer old was now so_far.0 rest.0 (mid.lines.held, so_far.2))

  -- a prefix of the lines of one file's records more
  pub files_cut : (next : Option (List ℕ)) → StaysSo old mid → i < length files → (e : RecordsRefusal)
      → ((file : KeptFile) → slice_get files i ≡ Some file → (own : List Placed)
      → HaveOwnRecords mid.chosen.from mid.chosen.to file own → IsBlameless e × TellsFrontOf mid now next own)
      → IsBlameless e × TellsFrontOf old was next all
  files_cut next same within e given =
      let from = old.chosen.from in
      let to = old.chosen.to in
      let file = get_or files i none_at in
      let there = slice_get-get_or files i none_at within in
      let own = records_at from to files all i file are there in
      let x = given file there own.0 (own_so old mid file own.0 same own.1) in
      let both = so_far.0 ++ own.0 in
      let more = own_more from to files i file so_far.0 own.0 within there so_far.1 own.1 in
      let rest = first_records from to files (i + 1) both all more are in (
        x.0,
        subst (TellsFrontOf old was next) (sym rest.1)
            (cut_longer old was next both rest.0
            (told_cut old mid mid was now next so_far.0 own.0 same so_far.2 x.1)),
      )
