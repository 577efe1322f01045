-- What requests are answered by the files that a reader is shown.
use Rattle.std.specs.Prelude.{◌≡◌, ⊤, ℕ, ◌+◌, min, List, [], ◌∷◌, ◌++◌, length, Option, Some, None, codes}
use Rattle.std.specs.Io.KnownBytes.{Keeps}
use Rattle.hex.specs.Hex.{encode_lower}
use Rattle.flow_measure.specs.History.{History}
use Rattle.flow_measure.specs.Query.{flows_in_view, message_in_view, totals_in_view}
use Rattle.flow_measure.specs.View.{View, view_of}
use Rattle.flow_model.specs.Changes.{Change, counts_of}
use Rattle.flow_model.specs.Shelf.{Shelf, cut_of, position_of}
use Rattle.flow_shared.specs.Meaning.{history_behind}
use Rattle.flow_shared.specs.Told.{after}
use Rattle.flow_commands.specs.Asking.{IsBeforeWriting as IsArchiveBeforeWriting, WritesOrNot}
use Rattle.flow_commands.specs.Check.{standing_line}
use Rattle.flow_commands.specs.declared.archive_refusal.ArchiveRefusal.TheVariants.{Write}
use Rattle.flow_commands.specs.declared.checking.Standing.{Standing}
use Rattle.flow_report.specs.ArchiveLines.{flows_text, rows_text}
use Rattle.flow_report.specs.declared.format.TheConstants.Format.{PLAIN}
use Rattle.flow_shell.specs.declared.asked.Query.{Query}
use Rattle.flow_shell.specs.declared.asked.Query.TheVariants.{Totals, Flows, Message, Check}
use Rattle.flow_shell.specs.declared.refusal.ShellRefusal.{ShellRefusal}
use Rattle.flow_shell.specs.declared.refusal.ShellRefusal.TheVariants.{Reader, Archive}

-- the view of a history of the opening files, after these steps
abbrev pub view_after : Shelf → History → List Change → View
view_after opening h steps = view_of (history_behind h steps) (counts_of (after opening steps))

-- the octets of a message in hexadecimal digits, or `none`
abbrev pub digits_text : Option (List ℕ) → List ℕ
digits_text None = codes "none"
digits_text (Some octets) = encode_lower octets

abbrev pub message_line : Option (List ℕ) → List ℕ
message_line message = digits_text message ++ 10 ∷ []

-- What `check` writes of these files: how many messages were taken in, how many of them are in sums alone, how many
-- files of sums and sealed segments there are. Counts stop at 2^64 - 1.
abbrev pub standing_in : Shelf → Standing
standing_in s = record {
  position = min (position_of s) 18446744073709551615;
  cut = min (cut_of s) 18446744073709551615;
  rolled = min (length s.merged + length s.rolled) 18446744073709551615;
  sealed = length s.sealed;
}

abbrev pub checked_line : Shelf → List ℕ
checked_line s = standing_line (standing_in s)

-- a prefix of such lines, where writing failed; else nothing
abbrev pub WritesOrRefuses : (List ℕ → Type 0) → ShellRefusal → Option (List ℕ) → Option (List ℕ) → Type 0
WritesOrRefuses are (Reader e) old new = Keeps old new
WritesOrRefuses are (Archive e) old new = WritesOrNot are e old new

-- the line of some message, and of some counts
abbrev pub AreDigits : List ℕ → Type 0
AreDigits text = (message : Option (List ℕ)) × (text ≡ message_line message)

abbrev pub IsCheckLine : List ℕ → Type 0
IsCheckLine text = (t : Standing) × (text ≡ standing_line t)

-- a refusal before anything is written
abbrev pub IsBeforeWriting : ShellRefusal → Type 0
IsBeforeWriting (Reader e) = ⊤
IsBeforeWriting (Archive e) = IsArchiveBeforeWriting e

-- what is written after a refusal: nothing, unless that is one of writing
abbrev pub KeepsBefore : ShellRefusal → Option (List ℕ) → Option (List ℕ) → Type 0
KeepsBefore (Archive (Write failed)) old new = ⊤
KeepsBefore e old new = Keeps old new

-- The lines that a query is answered by, of the opening files of this history after these steps; `width` is that of the
-- archive's intervals.
abbrev pub query_lines : Query → ℕ → Shelf → History → List Change → List ℕ
query_lines (Totals span) width opening h steps =
    rows_text PLAIN width (totals_in_view span.from span.to (view_after opening h steps))
query_lines (Flows span) width opening h steps =
    flows_text PLAIN (flows_in_view span.from span.to (view_after opening h steps))
query_lines (Message number) width opening h steps = message_line (message_in_view number (view_after opening h steps))
query_lines Check width opening h steps = checked_line (after opening steps)
