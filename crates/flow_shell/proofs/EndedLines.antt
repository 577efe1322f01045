-- The lines of Files, one after the other.
use Rattle.std.proofs.Common.{◌≡◌, ℕ, List, [], ◌∷◌, ◌++◌, Option, Some, None, sym, ◌∙◌, ap, subst}
use Rattle.std.proofs.lemmas.List.{append-nil}
use Rattle.std.proofs.lemmas.List.Concat.{flat_map-append}
use Rattle.std.proofs.KnownBytes.{Appends-trans}
use Rattle.std.specs.Prelude.{Result, Ok, Err, IsErrAnd}
use Rattle.std.specs.Io.KnownBytes.{Appends, Keeps}
use Rattle.flow_commands.specs.declared.archive_refusal.ArchiveRefusal.{ArchiveRefusal}
use Rattle.flow_commands.specs.declared.archive_refusal.ArchiveRefusal.TheVariants as refusal
use Rattle.flow_commands.specs.Feeding.{fed_line, TellsFile}
use Rattle.flow_report.specs.Writing.{AppendsFront}
use Rattle.flow_feed.specs.declared.batch.Fed.{Fed}
use Rattle.flow_shell.specs.Written.{AreEnded, ended_lines, HasTold, TellsEnded}
use Rattle.flow_shell.proofs.Writing.{front_after}

-- nothing is written yet
pub none_told : (said : ℕ → Fed → Type 0) (a : Option (List ℕ)) → Appends a a [] → HasTold said a a
none_told said a none = ([], tt, none)

-- one File more
lines_more : (files : List (ℕ × Fed)) (number : ℕ) (fed : Fed)
    → ended_lines (files ++ (number, fed) ∷ []) ≡ ended_lines files ++ fed_line number fed
lines_more files number fed =
    flat_map-append (λ (file : ℕ × Fed). fed_line file.0 file.1) files ((number, fed) ∷ [])
    ∙ ap (λ (l : List ℕ). ended_lines files ++ l) (append-nil (fed_line number fed))

all_more : (said : ℕ → Fed → Type 0) (files : List (ℕ × Fed)) (number : ℕ) (fed : Fed) → AreEnded said files
    → ∥ said number fed ∥₁ → AreEnded said (files ++ (number, fed) ∷ [])
all_more said [] number fed all this = (this, tt)
all_more said (file ∷ files) number fed all this = (all.0, all_more said files number fed all.1 this)

pub one_more : (said : ℕ → Fed → Type 0) (a b c : Option (List ℕ)) (number : ℕ) (fed : Fed) → HasTold said a b
    → ∥ said number fed ∥₁ → Appends b c (fed_line number fed) → HasTold said a c
one_more said a b c number fed (files, all, before) this written = (
  files ++ (number, fed) ∷ [],
  all_more said files number fed all this,
  subst (Appends a c) (sym (lines_more files number fed))
      (Appends-trans a b c (ended_lines files) (fed_line number fed) before written),
)

kept_after : (a b c : Option (List ℕ)) (text : List ℕ) → Appends a b text → Keeps b c → Appends a c text
kept_after None b c text written kept = tt
kept_after (Some xs) None c text written kept = absurd written
kept_after (Some xs) (Some ys) None text written kept = absurd kept
kept_after (Some xs) (Some ys) (Some zs) text written kept = kept ∙ written

-- the line of one couldn't be made, or written
pub refused : (said : ℕ → Fed → Type 0) (a b c : Option (List ℕ)) (number : ℕ) (fed : Fed) (e : ArchiveRefusal)
    → HasTold said a b → ∥ said number fed ∥₁ → TellsFile number fed b c (Err e) → TellsEnded said a c (Err e)
refused said a b c number fed refusal.OutOfMemory (files, all, before) this kept =
    (files, all, kept_after a b c (ended_lines files) before kept)
refused said a b c number fed (refusal.Write failed) (files, all, before) this front = (
  files ++ (number, fed) ∷ [],
  all_more said files number fed all this,
  subst (AppendsFront a c) (sym (lines_more files number fed))
      (front_after a b c (ended_lines files) (fed_line number fed) before front),
)
refused said a b c number fed (refusal.Folder why) told this not = absurd not
refused said a b c number fed (refusal.Opening e) told this not = absurd not
refused said a b c number fed (refusal.Archive e) told this not = absurd not
refused said a b c number fed (refusal.Query e) told this not = absurd not

-- the same, where that is passed on
pub refused_on : (said : ℕ → Fed → Type 0) (a b c : Option (List ℕ)) (number : ℕ) (fed : Fed) (e : ArchiveRefusal)
    (r : Result (Unit {0}) ArchiveRefusal) → IsErrAnd r (λ x. x ≡ e) → HasTold said a b → ∥ said number fed ∥₁
    → TellsFile number fed b c (Err e) → TellsEnded said a c r
refused_on said a b c number fed e (Ok done) is told this wrote = absurd is
refused_on said a b c number fed e (Err x) is told this wrote =
    refused said a b c number fed x told this
    (subst (λ (y : ArchiveRefusal). TellsFile number fed b c (Err y)) (sym is) wrote)
