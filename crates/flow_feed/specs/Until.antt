-- Feeding that ends where it is asked to.
use Rattle.std.specs.Prelude.{◌≡◌, ◌⊎◌, ℕ, Bool, List, Option, Some, None, Result}
use Rattle.std.specs.Io.KnownBytes.{Consumes, Keeps}
use Rattle.flow_disk.specs.declared.disk.Disk.{Ghosts}
use Rattle.flow_model.specs.Shelf.{Shelf}
use Rattle.flow_archive.specs.declared.refusal.ArchiveError.{ArchiveError}
use Rattle.flow_feed.specs.declared.batch.Fed.{Fed}
use Rattle.flow_feed.specs.declared.collecting.Collected.{Collected}
use Rattle.flow_feed.specs.Datagrams.{unread, AreCollected, IsOver, IsRead, IsUnread, Reading}
use Rattle.flow_feed.specs.Feed.{IsFed}
use Rattle.flow_feed.specs.Shared.{HasSteps, IsGivenShared, Known}

-- Feeding ended between two messages: of the octets that were left, `given` were read and no others, and all of them are
-- taken in, as of a File that consists of them.
pub record IsFedSoFar {S : Type 0} (appends : S → S → List (List ℕ) → Result ℕ ArchiveError → Type 0) (first : ℕ)
    (old new : S) (octets after : Option (List ℕ)) (fed : Fed) : Type 0 where
  pub given : List ℕ
  pub read : Consumes octets after given
  pub fed_given : IsFed appends first old new (Some given) fed
  pub whole : fed.stop ≡ None

-- A File is fed up to its end, or to where it stops; or feeding was asked to end, and ended between two messages.
abbrev pub IsFedUntil : {S : Type 0} → (S → S → List (List ℕ) → Result ℕ ArchiveError → Type 0) → Type 0 → ℕ → S → S
    → Option (List ℕ) → Option (List ℕ) → Fed → Type 0
IsFedUntil appends asked first old new octets after fed =
    IsFed appends first old new octets fed ⊎ (asked × IsFedSoFar appends first old new octets after fed)

-- No more datagrams are received: the input is over; or feeding was asked to end, and no octet is lost by that.
abbrev pub IsOverOr : Type 0 → Reading → Reading → Type 0
IsOverOr asked old new = IsOver old new ⊎ (asked × Keeps old.rest new.rest)

-- The datagrams are those that reads of an input gave, and no octet of it was read but theirs: these are left after
-- them.
pub record AreReadUntil {S : Type 0} (appends : S → S → List (List ℕ) → Result ℕ ArchiveError → Type 0)
    (asked : Type 0) (is_socket : Bool) (old new : S) (octets left : Option (List ℕ)) (collected : Collected)
    : Type 0 where
  pub after : Reading
  pub left_is : after.rest ≡ left
  pub collected_are : AreCollected appends IsRead (IsOverOr asked) IsUnread old new (unread is_socket octets) after
      collected

-- Into an archive that threads share: the messages that are taken in are in the steps.
pub record AreStepsUntil {D S X : Type 0} (g : Ghosts D S X) (opening : Shelf) (asked : Type 0) (is_socket : Bool)
    (old new : Known) (octets left : Option (List ℕ)) (collected : Collected) : Type 0 where
  pub read : AreReadUntil (IsGivenShared g opening) asked is_socket old new octets left collected
  pub steps : HasSteps old.steps new.steps read.collected_are.messages
