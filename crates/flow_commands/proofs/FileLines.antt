-- The lines of an archive's files.
use Rattle.std.proofs.Common.{◌≡◌, ◌∙◌, ◌++◌, [], ◌∷◌, sym, ap, ap₂, ℕ, ◌+◌, List, Option, length, subst}
use Rattle.std.proofs.Common.{append_assoc, append-nil}
use Rattle.std.specs.FinMap.{FinMap}
use Rattle.std.specs.List.{flat_map}
use Rattle.std.proofs.lemmas.List.Concat.{flat_map-append}
use Rattle.std.proofs.KnownBytes.{Keeps-refl}
use Rattle.flow_manifest.specs.declared.manifest.Entry.{Entry}
use Rattle.flow_measure.specs.declared.rows.Sums.{Sums}
use Rattle.flow_measure.specs.Sums.{key_cmp}
use Rattle.flow_measure.specs.View.{View}
use Rattle.flow_refusals.specs.declared.read_refusal.ReadRefusal.{ReadRefusal}
use Rattle.flow_refusals.specs.declared.read_refusal.ReadRefusal.TheVariants as query
use Rattle.flow_snapshot.specs.Shares.{AllPartsFit, AreNarrow, AreWide}
use Rattle.flow_model.specs.Shelf.{Shelf}
use Rattle.flow_snapshot.specs.Totals.{IsTotalsRefusal, SumsFit}
use Rattle.flow_model.specs.Views.{IsViewOf}
use Rattle.flow_snapshot.proofs.ViewParts.{parts_fit, parts_of}
use Rattle.flow_model.specs.Chain.{IsChained}
use Rattle.flow_model.specs.Shelved.{shelf_of}
use Rattle.flow_model.specs.Standing.{StandsFor}
use Rattle.flow_model.specs.State.{end_of, State}
use Rattle.flow_commands.specs.declared.archive_files.FileLine.{FileLine}
use Rattle.flow_commands.specs.declared.archive_files.Starts.{Starts}
use Rattle.flow_commands.specs.ArchiveFiles.{file_line, line_of, lines_from, lines_of, AreFileLines}
use Rattle.flow_commands.specs.ArchiveFiles.{ListsNoFiles}
use Rattle.flow_commands.specs.Check.{standing_line, standing_of}
use Rattle.flow_commands.specs.Archives.{of_query}
use Rattle.flow_commands.specs.Asking.{IsNotFound}
use Rattle.flow_commands.proofs.OpenedAnswers.{sums_told}

-- where less fits, a sum is spent for more
pub spent_for : (first : ℕ) (fit other : Type 0) → (other → fit) → (e : ReadRefusal) → IsTotalsRefusal first fit e
    → IsTotalsRefusal first other e
spent_for first fit other by (query.Damaged file at) h = (h.0, h.1, λ o. h.2 (by o))
spent_for first fit other by query.Fault h = tt
spent_for first fit other by query.OutOfMemory h = tt

-- one line more
pub one_line : (old now new : List ℕ) (lines : List FileLine) (l : FileLine) → now ≡ old ++ flat_map file_line lines
    → new ≡ now ++ file_line l → new ≡ old ++ flat_map file_line (lines ++ l ∷ [])
one_line old now new lines l is more =
    more ∙ ap (λ t. t ++ file_line l) is ∙ append_assoc old (flat_map file_line lines) (file_line l)
    ∙ ap (λ t. old ++ t) (ap (λ t. flat_map file_line lines ++ t) (sym (append-nil (file_line l)))
    ∙ sym (flat_map-append file_line lines (l ∷ [])))

-- the line of an entry more
pub one_entry : (starts : ℕ → Option Starts) (end active n m : ℕ) (now new : List ℕ) (x : Entry)
    (left rest : List Entry) (l : FileLine) (all : List ℕ) → left ≡ x ∷ rest → m ≡ n + 1
    → l ≡ line_of end active x (starts n) → new ≡ now ++ file_line l → now ++ lines_from starts end active n left ≡ all
    → new ++ lines_from starts end active m rest ≡ all
one_entry starts end active n m now new x left rest l all is next line more before =
    ap₂ (λ (t : List ℕ) (k : ℕ). t ++ lines_from starts end active k rest) more next
    ∙ append_assoc now (file_line l) (lines_from starts end active (n + 1) rest)
    ∙ ap (λ (k : FileLine). now ++ (file_line k ++ lines_from starts end active (n + 1) rest)) line
    ∙ ap (λ (es : List Entry). now ++ lines_from starts end active n es) (sym is) ∙ before

-- ---- what an archive is asked for

-- The files of a state have sums, of which less is said to fit than of its view.
pub record SumsOf (reads : ℕ → List ℕ) (shelf : Shelf) : Type 0 where
  pub wide : List (FinMap key_cmp Sums)
  pub narrow : List (FinMap key_cmp Sums)
  pub are_wide : AreWide shelf wide
  pub are_narrow : AreNarrow shelf narrow
  pub spent : (first : ℕ) (e : ReadRefusal) → IsTotalsRefusal first (AllPartsFit shelf wide narrow) e
      → IsNotFound SumsFit reads (of_query e)

pub sums_of : (reads : ℕ → List ℕ) (s : State) → StandsFor reads s
    → ((s : State) → IsChained s → (v : View) × IsViewOf (shelf_of s) v) → SumsOf reads (shelf_of s)
sums_of reads s stands there =
    let view = there s stands.files.chained in
    let parts = parts_of (shelf_of s) view.0 view.1 in
    record {
      wide = parts.wide;
      narrow = parts.narrow;
      are_wide = parts.are_wide;
      are_narrow = parts.are_narrow;
      spent = λ first e h. sums_told SumsFit reads first view.0 (s, stands, view.1) e
          (spent_for first _ (SumsFit view.0) (parts_fit (shelf_of s) view.0 parts) e h);
    }

-- nothing is written where a query is refused
pub query_listed : (reads : ℕ → List ℕ) (output : Option (List ℕ)) (e : ReadRefusal)
    → IsNotFound SumsFit reads (of_query e) → ListsNoFiles reads output output (of_query e)
query_listed reads output (query.Damaged file at) told = (told, Keeps-refl output)
query_listed reads output query.Fault told = (told, Keeps-refl output)
query_listed reads output query.OutOfMemory told = Keeps-refl output

-- the lines of an archive whose files are on this shelf
pub listed : (reads : ℕ → List ℕ) (s : State) (here : Shelf) (text old : List ℕ) (end active : ℕ) (entries : List Entry)
    → StandsFor reads s → here ≡ shelf_of s → (sums : SumsOf reads here) → old ≡ standing_line (standing_of s)
    → end ≡ end_of s → active ≡ length s.active.messages → entries ≡ s.manifest.entries
    → text ≡ old ++ lines_of here sums.wide sums.narrow end active entries → AreFileLines reads text
listed reads s here text old end active entries stands is sums start end_is active_is entries_are more = (
  s,
  stands,
  sums.wide,
  sums.narrow,
  subst (λ (x : Shelf). AreWide x sums.wide) is sums.are_wide,
  subst (λ (x : Shelf). AreNarrow x sums.narrow) is sums.are_narrow,
  more ∙ ap (λ (t : List ℕ). t ++ lines_of here sums.wide sums.narrow end active entries) start
      ∙ ap (λ (x : Shelf). line ++ lines_of x sums.wide sums.narrow end active entries) is
      ∙ ap (λ (n : ℕ). line ++ lines_of (shelf_of s) sums.wide sums.narrow n active entries) end_is
      ∙ ap (λ (n : ℕ). line ++ lines_of (shelf_of s) sums.wide sums.narrow (end_of s) n entries) active_is
      ∙ ap (λ (es : List Entry). line
      ++ lines_of (shelf_of s) sums.wide sums.narrow (end_of s) (length s.active.messages) es) entries_are,
)
  where
    line : List ℕ
    line = standing_line (standing_of s)
