-- What a line of the input is answered.
use Rattle.std.specs.Prelude.{◌≡◌, ◌⊎◌, ◌↔◌, ℕ, zero, suc, List, [], ◌++◌, Bool, true, false, IsTrue}
use Rattle.std.specs.Prelude.{Option, Some, None, IfSome, codes}
use mathlib.Core.List.{IsPrefix}
use Rattle.std.specs.Io.BufRead.{first_piece}
use Rattle.std.specs.Io.KnownBytes.{Appends}
use Rattle.std.specs.Str.{IsUtf8}
use Rattle.flow_measure.specs.History.{History}
use Rattle.flow_model.specs.Changes.{Change}
use Rattle.flow_model.specs.Shelf.{Shelf}
use Rattle.flow_shared.specs.Meaning.{HasView}
use Rattle.flow_feed.specs.declared.batch.Fed.{Fed}
use Rattle.flow_shell.specs.declared.asked.Query.{Query}
use Rattle.flow_shell.specs.declared.asked.ShellRequest.{ShellRequest}
use Rattle.flow_shell.specs.declared.asked.ShellRequest.TheVariants.{Ask, Feed, Collect, Keep, Merge, Losses, Wait}
use Rattle.flow_shell.specs.declared.asked.ShellRequest.TheVariants.{Quit}
use Rattle.flow_shell.specs.Answers.{query_lines}
use Rattle.flow_shell.specs.declared.losses.FeedCounts.{FeedCounts}
use Rattle.flow_shell.specs.Asked.{after_lines, request_in}
use Rattle.flow_shell.specs.Losses.{HasLosses}
use Rattle.flow_shell.specs.declared.serving.End.{End}
use Rattle.flow_shell.specs.declared.serving.End.TheVariants as end
use Rattle.flow_shell.specs.Written.{began_line, done_line, HasTold, IsAnswer}

-- what a line that is no request is answered
abbrev pub no_request : List ℕ
no_request =
    codes "refused no request: one of feed FILE [datagrams], totals FROM TO, flows FROM TO, message N, check, "
    ++ codes "losses, keep N, merge N, wait, quit\n"

-- What a query is answered by the steps that are shown: on an honest disk its lines and their end, or a refusal.
abbrev pub IsAnswered : Bool → Shelf → ℕ → List Change → Query → Option (List ℕ) → Option (List ℕ) → Type 0
IsAnswered honest opening width steps query old new =
    IsTrue honest → (h : History) → HasView opening h → IsAnswer (query_lines query width opening h steps) old new

-- What a File that is asked for is answered: `began N`; or that there is no place, or no memory for it.
abbrev pub IsBegun : Option (List ℕ) → Option (List ℕ) → Type 0
IsBegun old new =
    ((number : ℕ) × Appends old new (began_line number ++ done_line 0))
    ⊎ Appends old new (codes "refused 8 Files are fed\n" ++ done_line 1)
    ⊎ Appends old new (codes "refused 11 OutOfMemory\n" ++ done_line 4)

-- What `wait` is answered: the lines of Files that ended so, and done 0.
abbrev pub IsSettled : (ℕ → Fed → Type 0) → Option (List ℕ) → Option (List ℕ) → Type 0
IsSettled said old new = (mid : Option (List ℕ)) × HasTold said old mid × Appends mid new (done_line 0)

-- What a request is answered, or a line that is none; `quit` nothing before all Files have ended.
abbrev pub IsReply : (ℕ → Fed → Type 0) → (FeedCounts → Type 0)
    → (Query → Option (List ℕ) → Option (List ℕ) → Type 0) → Option ShellRequest → Option (List ℕ) → Option (List ℕ)
    → Type 0
IsReply said had answered None old new = Appends old new (no_request ++ done_line 2)
IsReply said had answered (Some (Ask query)) old new = answered query old new
IsReply said had answered (Some (Feed path)) old new = IsBegun old new
IsReply said had answered (Some (Collect path)) old new = IsBegun old new
IsReply said had answered (Some (Keep keep)) old new = Appends old new (done_line 0)
IsReply said had answered (Some (Merge keep)) old new = Appends old new (done_line 0)
IsReply said had answered (Some Losses) old new = HasLosses had old new
IsReply said had answered (Some Wait) old new = IsSettled said old new
IsReply said had answered (Some Quit) old new = new ≡ old

-- A line is taken for what it asks for, where it is text, and else for no request.
abbrev pub IsRequest : List ℕ → Option ShellRequest → Type 0
IsRequest line request = (IsUtf8 line → request ≡ request_in line) × IfSome request (λ _. IsUtf8 line)

-- A line was answered, after the lines of Files that had ended so; and it is `quit`, or isn't.
pub record IsLineReplied (said : ℕ → Fed → Type 0) (had : FeedCounts → Type 0)
    (answered : Query → Option (List ℕ) → Option (List ℕ) → Type 0) (line : List ℕ) (quits : Bool)
    (old new : Option (List ℕ)) : Type 0 where
  pub request : Option ShellRequest
  pub asked : IsRequest line request
  pub mid : Option (List ℕ)
  pub told : HasTold said old mid
  pub replied : IsReply said had answered request mid new
  pub is_quit : IsTrue quits ↔ (request ≡ Some Quit)

-- ---- all lines of an input

-- So many lines of an input were answered, one after the other: each by the steps that were shown then, which begin
-- with those that were shown before.
abbrev pub AreReplied : (ℕ → Fed → Type 0) → (FeedCounts → Type 0)
    → (List Change → Query → Option (List ℕ) → Option (List ℕ) → Type 0) → List ℕ → ℕ → List Change → List Change
    → Option (List ℕ) → Option (List ℕ) → Type 0
AreReplied said had answered octets zero seen shown old new = (shown ≡ seen) × (new ≡ old)
AreReplied said had answered octets (suc n) seen shown old new =
    (before : List Change) × (mid : Option (List ℕ)) × AreReplied said had answered octets n seen before old mid
    × IsPrefix before shown × IsLineReplied said had (answered shown) (first_piece 10 (after_lines n octets)) false mid new

-- How requests end after so many lines: there is none more, or so many were answered as can be; the next one is `quit`;
-- or reading it failed.
abbrev pub IsEndOf : End → (ℕ → Fed → Type 0) → (FeedCounts → Type 0)
    → (Query → Option (List ℕ) → Option (List ℕ) → Type 0) → List ℕ → ℕ → Option (List ℕ) → Option (List ℕ) → Type 0
IsEndOf end.OfInput said had answered octets n old new =
    (new ≡ old) × ((after_lines n octets ≡ []) ⊎ (n ≡ 18446744073709551615))
IsEndOf end.Quit said had answered octets n old new =
    IsLineReplied said had answered (first_piece 10 (after_lines n octets)) true old new
IsEndOf end.Unread said had answered octets n old new = new ≡ old

-- The requests of an input of these octets were answered, up to how they ended.
pub record AreAnswered (said : ℕ → Fed → Type 0) (had : FeedCounts → Type 0)
    (answered : List Change → Query → Option (List ℕ) → Option (List ℕ) → Type 0) (octets : List ℕ) (end : End)
    (seen shown : List Change) (old new : Option (List ℕ)) : Type 0 where
  pub count : ℕ
  pub before : List Change
  pub mid : Option (List ℕ)
  pub replied : AreReplied said had answered octets count seen before old mid
  pub later : IsPrefix before shown
  pub ended : IsEndOf end said had (answered shown) octets count mid new
