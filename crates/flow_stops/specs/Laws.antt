-- What holds of all calls under the lock together.
use Rattle.std.specs.Prelude.{◌≡◌, ℕ, false, IsTrue, List, [], ◌∷◌, ◌++◌, Option, Result, Ok}
use mathlib.Core.List.{IsPrefix}
use Rattle.flow_disk.specs.declared.disk.Disk.{Ghosts}
use Rattle.flow_disk.specs.Calls.{LeavesOnly}
use Rattle.flow_disk.specs.Disk.{AllImages}
use Rattle.flow_model.specs.Changes.{Change}
use Rattle.flow_model.specs.Shelf.{Shelf}
use Rattle.flow_model.specs.Shelved.{shelf_of}
use Rattle.flow_model.specs.State.{reopened, State}
use Rattle.flow_model.specs.Standing.{StandsFor}
use Rattle.flow_archive.specs.declared.refusal.ArchiveError.{ArchiveError}
use Rattle.flow_archive.specs.Seen.{Seen}
use Rattle.flow_shared.specs.Known.{GoesOn, IsAppendBy, WasCalled}
use Rattle.flow_shared.specs.Told.{HasAdded}
use Rattle.flow_shared.specs.UnderLock.{all_of, IsUnderLock, LockState}
use Rattle.flow_feed.specs.declared.batch.Fed.{Fed}
use Rattle.flow_feed.specs.Shared.{IsInSteps}
use Rattle.flow_stops.specs.Stops.{append, AreCalls, Call, HasBatch, IsLeft, IsRepresented, Makes, MayBeThere}

-- One call: a stop at any moment of it leaves all steps of before, and then steps of the call in their order; where the
-- archive is open after it, each image represents that.
abbrev pub OneCall : {D S X : Type 0} → Ghosts D S X → Type 0
OneCall {D} g = (opening : Shelf) (old new : LockState D) (steps : List Change) (call : Call)
    → IsRepresented g opening old → GoesOn g opening old new steps → Makes g call old new steps
    → LeavesOnly g old.core.disk new.core.disk (IsLeft opening (all_of old) (all_of new) (MayBeThere (call ∷ []) new))
    × (new.core.closed ≡ false → IsRepresented g opening new)

-- Calls of any threads: a stop at any moment from one value under the lock to a later one leaves all steps of the one,
-- and then steps of the other in their order.
abbrev pub AnyCalls : {D S X : Type 0} → Ghosts D S X → Type 0
AnyCalls {D} g = (opening : Shelf) (first early late : LockState D) (before between : List Call)
    → IsRepresented g opening first → AreCalls g opening first before early → AreCalls g opening early between late
    → LeavesOnly g early.core.disk late.core.disk
    (IsLeft opening (all_of early) (all_of late) (MayBeThere (before ++ between) late))

-- Whatever was made by then is in what any later stop leaves, at the same places: so is what a thread was told of.
abbrev pub Acknowledged : {D S X : Type 0} → Ghosts D S X → Type 0
Acknowledged {D} g = (opening : Shelf) (first early late : LockState D) (before between : List Call)
    (knows : List Change)
    → IsRepresented g opening first → AreCalls g opening first before early → AreCalls g opening early between late
    → IsPrefix knows early.made
    → LeavesOnly g early.core.disk late.core.disk
    (IsLeft opening knows (all_of late) (MayBeThere (before ++ between) late))

-- What was reported of a File that a thread fed (flow_feed, `feed_shared`: IsInSteps) is in the steps of what any later
-- stop leaves, in the File's order, each message once.
abbrev pub FedStays : {D S X : Type 0} → Ghosts D S X → Type 0
FedStays {D} g = (opening : Shelf) (first early late : LockState D) (before between : List Call)
    (old knows : List Change) (passed : ℕ) (octets : Option (List ℕ)) (fed : Fed)
    → IsRepresented g opening first → AreCalls g opening first before early → AreCalls g opening early between late
    → IsPrefix knows early.made → IsInSteps passed old knows octets fed
    → LeavesOnly g early.core.disk late.core.disk (λ image.
    (is : IsLeft opening knows (all_of late) (MayBeThere (before ++ between) late) image)
    × IsInSteps passed old is.steps octets fed)

-- So it is at a start: of an open archive, which each image represents (flow_archive, `is_closed`: `stands`), and with
-- whose files the start begins.
abbrev pub StartIsRepresented : {D S X : Type 0} → Ghosts D S X → Type 0
StartIsRepresented {D} g = (core : Seen D) → IsTrue (g.honest core.disk) → core.closed ≡ false
    → AllImages (g.held core.disk) (λ image. StandsFor image (reopened core.state))
    → IsRepresented g (shelf_of core.state)
    (record { core = core; told = []; made = []; pending = []; backlog = [] })

-- So it is at each value that a thread saw under the lock (WasSeen, WasCalled: `before`, `now`), while the archive is
-- open: of no earlier call anything is asked.
abbrev pub SeenIsRepresented : {D S X : Type 0} → Ghosts D S X → Type 0
SeenIsRepresented {D} g = (opening : Shelf) (now : LockState D) → IsUnderLock g opening now
    → IsTrue (g.honest now.core.disk) → now.core.closed ≡ false → IsRepresented g opening now
    × AllImages (g.held now.core.disk) (λ image. IsLeft opening (all_of now) (all_of now) (λ step. ⊥) image)

-- Where the archive is open after some calls, each image represents it: no more than all steps, and no less.
abbrev pub StaysRepresented : {D S X : Type 0} → Ghosts D S X → Type 0
StaysRepresented {D} g = (opening : Shelf) (first now : LockState D) (calls : List Call)
    → IsRepresented g opening first → AreCalls g opening first calls now → now.core.closed ≡ false
    → IsRepresented g opening now

-- Calls after calls are calls.
abbrev pub CallsJoin : {D S X : Type 0} → Ghosts D S X → Type 0
CallsJoin {D} g = (opening : Shelf) (first early late : LockState D) (before between : List Call)
    → AreCalls g opening first before early → AreCalls g opening early between late
    → AreCalls g opening first (before ++ between) late

-- What a thread that called says of its call (WasCalled) is one such call.
abbrev pub CallIsOne : {D S X : Type 0} → Ghosts D S X → Type 0
CallIsOne {D} g = (opening : Shelf) (call : Call) → WasCalled g opening (Makes g call)
    → (old : LockState D) × (new : LockState D) × AreCalls g opening old (call ∷ []) new

-- What a caller that has a list of steps is told of its append is one such call, and its list is what was made then.
abbrev pub AppendIsCall : {D S X : Type 0} → Ghosts D S X → Type 0
AppendIsCall {D} g = (opening : Shelf) (knew knows : List Change) (messages : List (List ℕ))
    (result : Result ℕ ArchiveError) (new : LockState D) → IsAppendBy g opening knew knows messages result new
    → (old : LockState D) × AreCalls g opening old (append messages result ∷ []) new × IsPrefix knew old.made
    × (knows ≡ new.made)

-- What an opening finds in such an image, which the image represents, is the state of which that is said.
abbrev pub OpeningFinds : {D S X : Type 0} → Ghosts D S X → Type 0
OpeningFinds {D} g = (opening : Shelf) (first : List Change) (late : LockState D) (calls : List Call)
    (image : ℕ → List ℕ) (found : State) (is : IsLeft opening first (all_of late) (MayBeThere calls late) image)
    → StandsFor image found → found ≡ is.left

-- A batch that was reported to a caller as made (IsAppendBy, HasAdded) is in whatever an opening finds after any later
-- stop, whatever calls came before it.
abbrev pub ReportedIsFound : {D S X : Type 0} → Ghosts D S X → Type 0
ReportedIsFound {D} g = (opening : Shelf) (now late : LockState D) (between : List Call)
    (knew knows : List Change) (messages : List (List ℕ)) (position : ℕ) (image : ℕ → List ℕ) (found : State)
    → IsTrue (g.honest now.core.disk) → AreCalls g opening now between late
    → IsAppendBy g opening knew knows messages (Ok position) now → HasAdded opening knew knows messages position
    → g.left_since late.core.disk (g.moment now.core.disk) image → StandsFor image found
    → HasBatch opening found messages position
