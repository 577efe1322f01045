-- All lines of records, once nothing is held any more.
use Rattle.std.proofs.Common.{◌≡◌, ℕ, List, [], refl, subst, arith}
use Rattle.std.specs.Prelude.{Option, true}
use Rattle.std.specs.Io.KnownBytes.{Appends}
use Rattle.std.proofs.KnownBytes.{Appends-nil}
use Rattle.std.proofs.lemmas.List.Elements.{All-nil}
use Rattle.flow_codec.specs.Raw.{Placed}
use Rattle.flow_columns.specs.declared.names.LineFormat.{LineFormat}
use Rattle.flow_columns.specs.Lines.{heading, line_by, LinesText}
use Rattle.flow_report.specs.Telling.{Tells, TellsFront}
use Rattle.flow_report.specs.Writing.{AppendsFront}
use Rattle.flow_report.proofs.Joining.{ends, ends_cut, with_held, with_held_cut}
use Rattle.flow_records.specs.declared.listing.Listing.{Listing}
use Rattle.flow_records.specs.Listing.{TellsFrontOf, TellsFrontOfSome, TellsOf, TellsOwnOf, TellsSome}
use Rattle.flow_records.specs.Listing.{WritesOwnRecords, WritesRecords, WritesSomeRecords}
use Rattle.flow_records.specs.Records.{is_chosen, lines_of, records_text, records_within, AreChosen, AreOwnRecords}
use Rattle.flow_snapshot.specs.Found.{KeptFile}

pub none_written : (was : Option (List ℕ)) (text : List ℕ) → AppendsFront was was text
none_written was text = (0, omega arith, Appends-nil was)

pub no_records : (format : LineFormat) (from to : ℕ) (was : Option (List ℕ)) → WritesSomeRecords format from to was was
no_records format from to was =
    let text = records_text format [] in
    (text, ([], All-nil (λ (x : Placed). is_chosen from to x ≡ true), refl), none_written was text)

module _ (first new : Listing) (format : LineFormat) (from to : ℕ)
    (lines : first.lines ≡ record { line = line_by format; held = heading format }) (f : first.chosen.from ≡ from)
    (t : first.chosen.to ≡ to) (was now next : Option (List ℕ)) where
  told_so : (xs : List Placed) → TellsOf first was now new xs → Tells was [] now new.lines.held (records_text format xs)
  told_so xs told =
      with_held was now (heading format) new.lines.held (lines_of (line_by format) xs)
      (subst (λ (r : LinesText). Tells was r.held now new.lines.held (lines_of r.line xs)) lines told)

  front_so : (xs : List Placed) → TellsFrontOf first was now xs → AppendsFront was now (records_text format xs)
  front_so xs front =
      with_held_cut was now (heading format) (lines_of (line_by format) xs)
      (subst (λ (r : LinesText). TellsFront was r.held now (lines_of r.line xs)) lines front)

  within_so : (P : List Placed → Type 0) (zs : List Placed)
      → P (records_within first.chosen.from first.chosen.to zs) → P (records_within from to zs)
  within_so P zs is =
      subst (λ (n : ℕ). P (records_within from n zs)) t
      (subst (λ (n : ℕ). P (records_within n first.chosen.to zs)) f is)

  chosen_so : (xs : List Placed) → AreChosen first.chosen.from first.chosen.to xs → AreChosen from to xs
  chosen_so xs are =
      subst (λ (n : ℕ). AreChosen from n xs) t (subst (λ (n : ℕ). AreChosen n first.chosen.to xs) f are)

  -- of a view's records
  pub all_written : (zs : List Placed)
      → TellsOf first was now new (records_within first.chosen.from first.chosen.to zs)
      → Appends now next new.lines.held → Appends was next (records_text format (records_within from to zs))
  all_written zs told rest =
      ends was now next new.lines.held (records_text format (records_within from to zs))
      (told_so (records_within from to zs) (within_so (TellsOf first was now new) zs told)) rest

  pub end_cut : (zs : List Placed) → TellsOf first was now new (records_within first.chosen.from first.chosen.to zs)
      → AppendsFront now next new.lines.held → AppendsFront was next (records_text format (records_within from to zs))
  end_cut zs told rest =
      ends_cut was now next new.lines.held (records_text format (records_within from to zs))
      (told_so (records_within from to zs) (within_so (TellsOf first was now new) zs told)) rest

  pub all_cut : (zs : List Placed) → TellsFrontOf first was now (records_within first.chosen.from first.chosen.to zs)
      → AppendsFront was now (records_text format (records_within from to zs))
  all_cut zs front = front_so (records_within from to zs) (within_so (TellsFrontOf first was now) zs front)

  -- of files that each read whole
  pub own_written : (files : List KeptFile) → TellsOwnOf first was now new files → Appends now next new.lines.held
      → WritesOwnRecords format from to files was next
  own_written files (xs, are, told) rest = (
    xs,
    subst (λ (n : ℕ). AreOwnRecords from n files xs) t
        (subst (λ (n : ℕ). AreOwnRecords n first.chosen.to files xs) f are),
    ends was now next new.lines.held (records_text format xs) (told_so xs told) rest,
  )

  -- of some records
  pub some_written : TellsSome first was now new → Appends now next new.lines.held
      → WritesRecords format from to was next
  some_written (xs, are, told) rest = (
    records_text format xs,
    (xs, chosen_so xs are, refl),
    ends was now next new.lines.held (records_text format xs) (told_so xs told) rest,
  )

  pub some_end_cut : TellsSome first was now new → AppendsFront now next new.lines.held
      → WritesSomeRecords format from to was next
  some_end_cut (xs, are, told) rest = (
    records_text format xs,
    (xs, chosen_so xs are, refl),
    ends_cut was now next new.lines.held (records_text format xs) (told_so xs told) rest,
  )

  pub some_cut_off : TellsFrontOfSome first was now → WritesSomeRecords format from to was now
  some_cut_off (xs, are, front) = (records_text format xs, (xs, chosen_so xs are, refl), front_so xs front)
