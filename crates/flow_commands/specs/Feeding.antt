-- What `feed` does to an archive, what it writes, and its status.
use Rattle.std.specs.Prelude.{◌≡◌, ◌≢◌, ◌<◌, ◌⊎◌, ⊤, ℕ, suc, Bool, false, true, is_some, IsTrue, List, [], ◌∷◌, ◌++◌}
use Rattle.std.specs.Prelude.{length}
use Rattle.std.specs.Prelude.{Option, Some, None, Result, Ok, Err, codes, option_map, slice_get, IfSome, IsErr}
use denote.Ref.{MutBor}
use Rattle.std.specs.Fmt.{decimal}
use Rattle.std.specs.Option.{option_or}
use Rattle.std.specs.Io.KnownBytes.{Appends, Keeps}
use Rattle.flow_archive.specs.declared.refusal.ArchiveError.{ArchiveError}
use Rattle.flow_archive.specs.declared.refusal.ArchiveError.TheVariants as archive
use Rattle.flow_disk.specs.declared.disk.Disk.{Ghosts}
use Rattle.flow_disk.specs.Cause.{HasCause}
use Rattle.flow_manifest.specs.Slots.{reads_of}
use Rattle.flow_model.specs.Shelf.{Shelf}
use Rattle.flow_model.specs.Shelved.{shelf_of}
use Rattle.flow_model.specs.Standing.{StandsFor}
use Rattle.flow_model.specs.State.{State}
use Rattle.flow_feed.specs.Datagrams.{AreInSteps, AreNone, AreReadFrom}
use Rattle.flow_feed.specs.Feed.{IsFed}
use Rattle.flow_feed.specs.Shared.{IsGivenShared, IsInSteps, Known}
use Rattle.flow_feed.specs.Until.{AreReadUntil, AreStepsUntil, IsFedUntil}
use Rattle.flow_feed.specs.declared.batch.Fed.{Fed}
use Rattle.flow_feed.specs.declared.collecting.Collected.{Collected}
use Rattle.flow_feed.specs.declared.refused.RefusedDatagrams.{RefusedDatagrams}
use Rattle.flow_feed.specs.Stopped.{stop_code}
use Rattle.flow_feed.specs.declared.batch.FeedStop.{FeedStop}
use Rattle.flow_roller.specs.Asked.{Asked}
use Rattle.flow_roller.specs.Rolling.{RollsBeside, Round}
use Rattle.flow_refusals.specs.Table.{code_text, row_of}
use Rattle.flow_report.specs.Writing.{AppendsFront}
use Rattle.flow_commands.specs.declared.archive_refusal.ArchiveRefusal.{ArchiveRefusal}
use Rattle.flow_commands.specs.declared.archive_refusal.ArchiveRefusal.TheVariants.{Folder, Opening, Archive}
use Rattle.flow_commands.specs.declared.archive_refusal.ArchiveRefusal.TheVariants.{Query}
use Rattle.flow_commands.specs.declared.archive_refusal.ArchiveRefusal.TheVariants.{OutOfMemory, Write}
use Rattle.flow_commands.specs.declared.plan.FeedPlan.{FeedPlan}
use Rattle.flow_commands.specs.declared.plan.InputKind.{InputKind}
use Rattle.flow_commands.specs.declared.plan.InputKind.TheVariants.{File, Datagrams, Socket}
use Rattle.flow_commands.specs.declared.plan.InputPlan.{InputPlan}
use Rattle.flow_commands.specs.Plans.{input_kind_in, kind_in, planned, IsPlanned}
use Rattle.flow_commands.specs.Archives.{of_archive}
use Rattle.flow_commands.specs.Asking.{IsUnopened as IsNotOpened}

-- ---- the line of a File

-- `fed N MESSAGES` of the File of this number, or `stopped N MESSAGES NUMBER NAME`: of the refusal not what it carries
abbrev pub counts_text : ℕ → ℕ → List ℕ
counts_text number count = 32 ∷ decimal number ++ 32 ∷ decimal count

abbrev pub fed_text : Option FeedStop → ℕ → ℕ → List ℕ
fed_text None number count = codes "fed" ++ counts_text number count
fed_text (Some stopped) number count = codes "stopped" ++ counts_text number count ++ 32 ∷ code_text (stop_code stopped)

unfoldable pub fed_line : ℕ → Fed → List ℕ
fed_line number fed = fed_text fed.stop number fed.messages ++ 10 ∷ []

-- the lines of Files after so many others
abbrev pub fed_lines : ℕ → List Fed → List ℕ
fed_lines before [] = []
fed_lines before (fed ∷ feds) = fed_line (suc before) fed ++ fed_lines (suc before) feds

-- what comes of a File that can't be opened: 11 where memory is refused, else 31
abbrev pub unopened : FeedStop → Fed
unopened why = record { messages = 0; stop = Some why }

-- ---- statuses

abbrev pub stop_status : FeedStop → ℕ
stop_status stopped = (row_of (stop_code stopped)).status

-- why the first File stopped that did
abbrev pub first_stop : List Fed → Option FeedStop
first_stop [] = None
first_stop (fed ∷ feds) = option_or fed.stop (first_stop feds)

-- How feeding ends: with the status of the first File that stopped; where none did, with the refusal of the rolling.
abbrev pub feed_ended : Option FeedStop → Option ArchiveError → Result ℕ ArchiveRefusal
feed_ended (Some stopped) refused = Ok (stop_status stopped)
feed_ended None (Some error) = Err (of_archive error)
feed_ended None None = Ok 0

-- ---- what the threads did

-- What was taken in of an input by datagrams: each is one message. Where the thread knows the steps of its appends to the
-- end, those that it learnt add the messages that were taken in.
abbrev pub AreTaken : {D S X : Type 0} → Ghosts D S X → Shelf → Bool → Known → Known → Option (List ℕ) → Collected
    → Type 0
AreTaken g opening is_socket old new octets collected =
    AreReadFrom (IsGivenShared g opening) is_socket old new octets collected
    × (new.whole ≡ true → AreInSteps g opening is_socket old new octets collected)

-- What was taken in of an input of these octets, by its kind: the messages of a File after its first ones, and no
-- datagram was refused; or those of the datagrams that are accepted. Where the thread knows the steps of its batches to
-- the end, those that it learnt add these messages.
abbrev pub IsInputTaken : {D S X : Type 0} → Ghosts D S X → Shelf → InputKind → Known → Known → Option (List ℕ)
    → Collected → Type 0
IsInputTaken g opening (File passed) old new octets collected =
    IsFed (IsGivenShared g opening) passed old new octets collected.fed × AreNone collected.refused.counts
    × (new.whole ≡ true → IsInSteps passed old.steps new.steps octets collected.fed)
IsInputTaken g opening Datagrams old new octets collected = AreTaken g opening false old new octets collected
IsInputTaken g opening Socket old new octets collected = AreTaken g opening true old new octets collected

-- The input was taken in by a thread that knows the steps of its batches from the beginning on.
pub record IsStreamed {D S X : Type 0} (g : Ghosts D S X) (opening : Shelf) (kind : InputKind)
    (octets : Option (List ℕ)) (collected : Collected) : Type 0 where
  pub old : Known
  pub new : Known
  pub whole : old.whole ≡ true
  pub taken : IsInputTaken g opening kind old new octets collected

-- and so much of it is reported in its line: all but how many datagrams were refused
abbrev pub IsFedFrom : {D S X : Type 0} → Ghosts D S X → Shelf → InputKind → Option (List ℕ) → Fed → Type 0
IsFedFrom g opening kind octets fed =
    (refused : RefusedDatagrams) × IsStreamed g opening kind octets (record { fed = fed; refused = refused })

-- What was taken in by datagrams up to where feeding was asked to end, of an input of these octets, which has these left.
abbrev pub AreTakenUntil : {D S X : Type 0} → Ghosts D S X → Shelf → Type 0 → Bool → Known → Known → Option (List ℕ)
    → Option (List ℕ) → Collected → Type 0
AreTakenUntil g opening asked is_socket old new octets left collected =
    AreReadUntil (IsGivenShared g opening) asked is_socket old new octets left collected
    × (new.whole ≡ true → AreStepsUntil g opening asked is_socket old new octets left collected)

-- What was taken in of an input of these octets, by its kind, up to its end, to where it stopped, or to where feeding was
-- asked to end: then nothing is lost of what it gave, and these octets are left in it.
abbrev pub IsInputTakenUntil : {D S X : Type 0} → Ghosts D S X → Shelf → Type 0 → InputKind → Known → Known
    → Option (List ℕ) → Option (List ℕ) → Collected → Type 0
IsInputTakenUntil g opening asked (File passed) old new octets left collected =
    IsFedUntil (IsGivenShared g opening) asked passed old new octets left collected.fed
    × AreNone collected.refused.counts
    × (new.whole ≡ true → IsInSteps passed old.steps new.steps octets collected.fed)
IsInputTakenUntil g opening asked Datagrams old new octets left collected =
    AreTakenUntil g opening asked false old new octets left collected
IsInputTakenUntil g opening asked Socket old new octets left collected =
    AreTakenUntil g opening asked true old new octets left collected

-- The input was taken in so by a thread that knows the steps of its batches from the beginning on. Whether feeding was
-- asked to end no contract knows.
pub record IsStreamedUntil {D S X : Type 0} (g : Ghosts D S X) (opening : Shelf) (kind : InputKind)
    (octets left : Option (List ℕ)) (collected : Collected) : Type 0 where
  pub old : Known
  pub new : Known
  pub whole : old.whole ≡ true
  pub taken : IsInputTakenUntil g opening ⊤ kind old new octets left collected

-- where feeding may be asked to end; and where it may not
abbrev pub IsStreamedIf : {D S X : Type 0} → Ghosts D S X → Shelf → Bool → InputKind → Option (List ℕ)
    → Option (List ℕ) → Collected → Type 0
IsStreamedIf g opening true kind octets left collected = IsStreamedUntil g opening kind octets left collected
IsStreamedIf g opening false kind octets left collected = IsStreamed g opening kind octets collected

-- An input of these octets was fed as is planned, and so much of it is reported in its line: all but how many datagrams
-- were refused. Where feeding may be asked to end, these are left in it.
abbrev pub IsFedBy : {D S X : Type 0} → Ghosts D S X → Shelf → InputPlan → Option (List ℕ) → Option (List ℕ) → Fed
    → Type 0
IsFedBy g opening plan octets left fed =
    (refused : RefusedDatagrams)
    × IsStreamedIf g opening plan.ends plan.kind octets left (record { fed = fed; refused = refused })

-- A file was opened, and its messages were taken in; or none could be opened.
abbrev pub IsPathFed : {D S X F : Type 0} → Ghosts D S X → (F → Option (List ℕ)) → Shelf → InputPlan → Fed → Type 0
IsPathFed {F = F} g octets opening plan fed =
    ((file : F) × (left : Option (List ℕ)) × IsFedBy g opening plan (octets file) left fed)
    ⊎ ((why : FeedStop) × (fed ≡ unopened why))

-- Standard input, which is a socket or isn't, was taken in as the plan says.
abbrev pub IsInputFed : {D S X : Type 0} → Ghosts D S X → Shelf → FeedPlan → Option (List ℕ) → Fed → Type 0
IsInputFed g opening plan octets fed =
    (is_socket : Bool) × (left : Option (List ℕ))
    × IsFedBy g opening (planned plan (input_kind_in is_socket plan)) octets left fed

-- by a refusal, if any
abbrev pub answer_by : Option ArchiveError → Result (Unit {0}) ArchiveError
answer_by None = Ok tt
answer_by (Some error) = Err error

-- How rolling beside Files ended: after rounds of turns by one who keeps and merges as many as was asked for; and a
-- refusal is that of a source exactly where a read of one failed.
pub record IsRollEnd {D S X : Type 0} (g : Ghosts D S X) (opening : Shelf) (asked : Asked → Type 0) (before now : ℕ)
    (refused : Option ArchiveError) : Type 0 where
  pub rounds : List Round
  pub rolled : RollsBeside g opening asked rounds (answer_by refused)
  pub unread : HasCause archive.SourceFault before now (answer_by refused)

-- ---- what was asked for

-- of a File of which nothing was taken in
abbrev pub unfed : Fed
unfed = record { messages = 0; stop = None }

-- the octets of standard input, where it is given
abbrev pub octets_given : {R : Type 0} → (R → Option (List ℕ)) → Option (MutBor R) → Option (Option (List ℕ))
octets_given octets input = option_map (λ read. octets read.now) input

-- Standard input is the first of the Files at the path `-`.
pub record IsInputAt (paths : List (List ℕ)) (k : ℕ) : Type 0 where
  pub here : slice_get paths k ≡ Some (codes "-")
  pub first : (j : ℕ) → j < k → slice_get paths j ≢ Some (codes "-")

-- What came of the File at this path, where that was there before: of one at the path `-` that, and of others what
-- feeding it gives.
pub record IsFedAt {D S X F : Type 0} (g : Ghosts D S X) (octets : F → Option (List ℕ)) (opening : Shelf)
    (how : InputPlan) (path : List ℕ) (old new : Fed) : Type 0 where
  pub input : path ≡ codes "-" → new ≡ old
  pub file : path ≢ codes "-" → IsPathFed g octets opening how new

-- What came of the Files at these paths, of each at its place, before standard input was read.
pub record AreFilesFed {D S X F : Type 0} (g : Ghosts D S X) (octets : F → Option (List ℕ)) (opening : Shelf)
    (how : InputPlan) (paths : List (List ℕ)) (feds : List Fed) : Type 0 where
  pub count : length feds ≡ length paths
  pub each : (k : ℕ) (path : List ℕ) (fed : Fed) → slice_get paths k ≡ Some path → slice_get feds k ≡ Some fed
      → IsFedAt g octets opening how path unfed fed

-- What came of the Files at these paths, of each at its place, as the plan says. Where standard input is given, which has
-- these octets, the first one at `-` is that; nothing is taken in of others at `-`.
pub record AreFed {D S X F : Type 0} (g : Ghosts D S X) (octets : F → Option (List ℕ)) (opening : Shelf)
    (plan : FeedPlan) (input : Option (Option (List ℕ))) (paths : List (List ℕ)) (feds : List Fed) : Type 0 where
  pub count : length feds ≡ length paths
  pub files : (k : ℕ) (path : List ℕ) (fed : Fed) → slice_get paths k ≡ Some path → slice_get feds k ≡ Some fed
      → path ≢ codes "-" → IsPathFed g octets opening (planned plan (kind_in plan)) fed
  pub input_fed : IfSome input (λ known. (k : ℕ) (fed : Fed) → IsInputAt paths k → slice_get feds k ≡ Some fed
      → IsInputFed g opening plan known fed)
  pub others : (k : ℕ) (fed : Fed) → slice_get paths k ≡ Some (codes "-") → slice_get feds k ≡ Some fed
      → (IsTrue (is_some input) → IsInputAt paths k → ⊥) → fed ≡ unfed

-- The Files were fed so, while one rolled who keeps exactly as many as the plan says, and merges where it says so.
pub record IsAskedFeeding {D S X F : Type 0} (g : Ghosts D S X) (octets : F → Option (List ℕ)) (opening : Shelf)
    (plan : FeedPlan) (input : Option (Option (List ℕ))) (paths : List (List ℕ)) (feds : List Fed)
    (refused : Option ArchiveError) : Type 0 where
  pub fed : AreFed g octets opening plan input paths feds
  pub rounds : List Round
  pub rolled : RollsBeside g opening (IsPlanned plan) rounds (answer_by refused)

-- ---- what is written

-- the line of a File was written; or a prefix of it, where writing failed, and nothing where memory ran out
abbrev pub TellsFile : ℕ → Fed → Option (List ℕ) → Option (List ℕ) → Result (Unit {0}) ArchiveRefusal → Type 0
TellsFile number fed old new (Ok done) = Appends old new (fed_line number fed)
TellsFile number fed old new (Err (Write failed)) = AppendsFront old new (fed_line number fed)
TellsFile number fed old new (Err OutOfMemory) = Keeps old new
TellsFile number fed old new (Err (Opening e)) = ⊥
TellsFile number fed old new (Err (Archive e)) = ⊥
TellsFile number fed old new (Err (Query e)) = ⊥
TellsFile number fed old new (Err (Folder why)) = ⊥

-- a line couldn't be made, or written
abbrev pub IsUnwritten : Result ℕ ArchiveRefusal → Type 0
IsUnwritten (Ok status) = ⊥
IsUnwritten (Err (Write failed)) = ⊤
IsUnwritten (Err OutOfMemory) = ⊤
IsUnwritten (Err (Opening e)) = ⊥
IsUnwritten (Err (Archive e)) = ⊥
IsUnwritten (Err (Query e)) = ⊥
IsUnwritten (Err (Folder why)) = ⊥

-- A line was written for each File, in their order, and then feeding ended; or a line couldn't be made or written, and
-- up to it all were.
abbrev pub TellsFiles : List Fed → Option ArchiveError → Option (List ℕ) → Option (List ℕ) → Result ℕ ArchiveRefusal
    → Type 0
TellsFiles feds refused old new result =
    (Appends old new (fed_lines 0 feds) × (result ≡ feed_ended (first_stop feds) refused))
    ⊎ (IsUnwritten result × AppendsFront old new (fed_lines 0 feds))

-- so many Files were fed, while others were rolled, and this was written of them
abbrev pub TellsFed : ℕ → Option (List ℕ) → Option (List ℕ) → Result ℕ ArchiveRefusal → Type 0
TellsFed count old new result =
    (feds : List Fed) × (refused : Option ArchiveError) × (length feds ≡ count)
    × TellsFiles feds refused old new result

-- The Files at these paths were fed as the plan says, and this was written of them.
abbrev pub FeedsAsked : {D S X F : Type 0} → Ghosts D S X → (F → Option (List ℕ)) → Shelf → FeedPlan
    → Option (Option (List ℕ)) → List (List ℕ) → Option (List ℕ) → Option (List ℕ) → Result ℕ ArchiveRefusal → Type 0
FeedsAsked g octets opening plan input paths old new result =
    (feds : List Fed) × (refused : Option ArchiveError)
    × IsAskedFeeding g octets opening plan input paths feds refused × TellsFiles feds refused old new result

-- no File was fed, and nothing was written
abbrev pub IsUnstarted : Option (List ℕ) → Option (List ℕ) → Result ℕ ArchiveRefusal → Type 0
IsUnstarted old new result = IsErr result × Keeps old new

-- ---- of an archive on a disk

-- The archive that was read was opened, and the Files were fed into it; or none was fed.
abbrev pub FeedsOn : {D S X F : Type 0} → Ghosts D S X → (F → Option (List ℕ)) → D → FeedPlan
    → Option (Option (List ℕ)) → List (List ℕ) → Option (List ℕ) → Option (List ℕ) → Result ℕ ArchiveRefusal → Type 0
FeedsOn g octets disk plan input paths old new result =
    ((state : State) × (IsTrue (g.honest disk) → StandsFor (reads_of (g.held disk)) state)
    × FeedsAsked g octets (shelf_of state) plan input paths old new result)
    ⊎ IsUnstarted old new result

-- Why feeding is refused: the archive isn't opened, it refused an event, or a line couldn't be made or written.
abbrev pub IsNotFed : (ℕ → List ℕ) → ArchiveRefusal → Type 0
IsNotFed reads (Opening e) = IsNotOpened reads e
IsNotFed reads (Archive e) = ⊤
IsNotFed reads (Write failed) = ⊤
IsNotFed reads OutOfMemory = ⊤
IsNotFed reads (Query e) = ⊥
IsNotFed reads (Folder why) = ⊥

-- ---- of an archive in a folder

-- The Files at these paths were fed, as the plan says, on some disk of the folder's kind; or none was fed.
abbrev pub FeedsIn : {D S X F : Type 0} → Ghosts D S X → (F → Option (List ℕ)) → FeedPlan → Option (Option (List ℕ))
    → List (List ℕ) → Option (List ℕ) → Option (List ℕ) → Result ℕ ArchiveRefusal → Type 0
FeedsIn {D} g octets plan input paths old new result =
    ((disk : D) × FeedsOn g octets disk plan input paths old new result) ⊎ IsUnstarted old new result

-- the status of the first File that stopped, 0 where none did
abbrev pub first_status : Option FeedStop → ℕ
first_status None = 0
first_status (Some stopped) = stop_status stopped

-- a line for each File, and the status of the first that stopped
abbrev pub FeedsLines : ℕ → ℕ → Option (List ℕ) → Option (List ℕ) → Type 0
FeedsLines count status old new =
    (feds : List Fed) × (length feds ≡ count) × Appends old new (fed_lines 0 feds)
    × (status ≡ first_status (first_stop feds))

-- Nothing is written where the archive isn't opened; all lines of Files of which none stopped, where the rolling was
-- refused; a prefix of lines, where one couldn't be written.
abbrev pub KeepsOrFeeds : ℕ → ArchiveRefusal → Option (List ℕ) → Option (List ℕ) → Type 0
KeepsOrFeeds count (Archive e) old new =
    (feds : List Fed) × (length feds ≡ count) × Appends old new (fed_lines 0 feds) × (first_stop feds ≡ None)
KeepsOrFeeds count (Write failed) old new = (feds : List Fed) × AppendsFront old new (fed_lines 0 feds)
KeepsOrFeeds count OutOfMemory old new = (feds : List Fed) × AppendsFront old new (fed_lines 0 feds)
KeepsOrFeeds count (Opening e) old new = Keeps old new
KeepsOrFeeds count (Query e) old new = Keeps old new
KeepsOrFeeds count (Folder why) old new = Keeps old new
