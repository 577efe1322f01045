-- Reading a rolled file piece by piece.
use Rattle.std.proofs.Common.{◌≡◌, ℕ, suc, ◌+◌, ◌-◌, ◌<◌, ◌≤◌, ◌^◌, inl, inr, ◌⊎◌, List, [], ◌∷◌, ◌++◌, length, take}
use Rattle.std.proofs.Common.{drop}
use Rattle.std.proofs.Common.{Option, Some, None, refl, sym, ap, subst, ◌∙◌, arith, append_assoc, length-append}
use Rattle.std.proofs.Common.{length-drop}
use Rattle.std.proofs.lemmas.List.{drop-drop, drop_at, drop-take, take-append-drop, take-take, append-nil}
use Rattle.std.specs.Prelude.{Vec, Result, Ok, Err, IfOk, IfNone, IfSome}
use Rattle.std.specs.declared.alloc.Global.{Global}
use Rattle.flow_disk.proofs.WindowLaws.{passed_on}
use Rattle.flow_disk.specs.Window.{Window, IsOn, IsReady}
use Rattle.flow_rolled.specs.declared.cursor.Cursor.{Cursor}
use Rattle.flow_rolled.specs.declared.row.RolledRow.{RolledRow}
use Rattle.flow_rolled.specs.declared.message.State.{State}
use Rattle.flow_refusals.specs.declared.read_refusal.ReadRefusal.{ReadRefusal}
use Rattle.flow_refusals.specs.declared.read_refusal.ReadRefusal.TheVariants.{Damaged, Fault, OutOfMemory}
use Rattle.flow_rolled.specs.Messages.{RolledMessage, IsDone, last_message}
use Rattle.flow_rolled.specs.Octets.{message_octets, messages_octets, IsRolledMessage}
use Rattle.flow_rolled.specs.Rollup.{IsRollup, IsBroken}
use Rattle.flow_rolled.specs.Reading.{Stands, IsStuck}
use Rattle.flow_rolled.specs.Stored.{Rollup, Reader, HasRead, IsBehind, Gives, IsBare, IsBlocked, IsOver}
use Rattle.flow_rolled.specs.Stored.{Steps, table_of}
use Rattle.flow_rolled.proofs.SameParts.{sets_long, part_long}
use Rattle.flow_rolled.proofs.Breaking.{last_more, octets_more, stands_part, rollup_of, broken_at}
use Rattle.flow_rolled.proofs.SoFar.{rows_one_more, one_more_follows, parts_more, done_if, not_done, no_octets}
use Rattle.flow_rolled.proofs.SoFar.{stuck_end}

-- the octets after the first of those ahead
pub passed : (ahead front rest : List ℕ) (n : ℕ) → ahead ≡ front ++ rest → n ≡ length ahead - length rest
    → (rest ≡ drop n ahead) × (n ≡ length front)
passed ahead front rest n parts size =
    let len = ap (λ (l : List ℕ). length l) parts ∙ length-append front rest in
    let same : n ≡ length front = omega (arith, size, len) in
    (sym (drop_at front rest n (sym same)) ∙ ap (drop n) (sym parts), same)

-- a message has so many octets at most
pub part_short : (w : ℕ) (p : RolledMessage) → IsRolledMessage w p → length (message_octets w p) ≤ 41024
unfolding message_octets
part_short w p h = let s = sets_long w p.domain p.rows h.rows in omega (arith, s)

-- ---- a step stays on the file

-- a window over a file is one over its part up to the window's end
pub on_part : (xs : List ℕ) (l : ℕ) (old new : Window) → old.place + length old.ahead ≤ l
    → new.place + length new.ahead ≤ l → (IsOn xs old → IsOn xs new) → IsOn (take l xs) old → IsOn (take l xs) new
on_part xs l old new before within on was = on (was ∙ same old before) ∙ sym (same new within)
  where
    same : (w : Window) → w.place + length w.ahead ≤ l
        → take (length w.ahead) (drop w.place (take l xs)) ≡ take (length w.ahead) (drop w.place xs)
    same w within =
        let n = length w.ahead in
        let p = w.place in
        ap (λ (m : ℕ). take n (drop p (take m xs))) (omega arith) ∙ ap (take n) (drop-take p (l - p) xs)
        ∙ take-take n (l - p) (drop p xs) (omega (arith, within))

-- the first octets ahead are the file's
front_on : (xs ahead front rest : List ℕ) → ahead ≡ take (length ahead) xs → ahead ≡ front ++ rest
    → xs ≡ front ++ drop (length front) xs
front_on xs ahead front rest on is =
    let more = drop (length ahead) xs in
    let whole : xs ≡ front ++ (rest ++ more) =
    sym (take-append-drop (length ahead) xs) ∙ ap (λ (l : List ℕ). l ++ more) (sym on ∙ is)
    ∙ append_assoc front rest more in
    let back : drop (length front) xs ≡ rest ++ more = ap (drop (length front)) whole
    ∙ drop_at front (rest ++ more) (length front) refl in
    whole ∙ ap (λ (l : List ℕ). front ++ l) (sym back)

pub step_on : (octets : List ℕ) (file : ℕ) (old new : Cursor)
    (result : Result (Option (Vec RolledRow Global)) ReadRefusal)
    → IsOn octets old.window → Steps file old result new → IsOn octets new.window
step_on octets file old new (Ok (Some rows)) on h =
    passed_on octets (message_octets old.width h.message) old.window new.window on h.is h.place
step_on octets file old new (Ok None) on h = subst (λ (c : Cursor). IsOn octets c.window) (sym h.2) on
step_on octets file old new (Err (Damaged f at)) on h = subst (λ (c : Cursor). IsOn octets c.window) (sym h.3) on
step_on octets file old new (Err Fault) on h = absurd h
step_on octets file old new (Err OutOfMemory) on h = subst (λ (c : Cursor). IsOn octets c.window) (sym h) on

-- ---- on every file

pub step_end : (file : ℕ) (old new : Cursor) (result : Result (Option (Vec RolledRow Global)) ReadRefusal)
    → Steps file old result new → new.window.end ≡ old.window.end
step_end file old new (Ok (Some rows)) h = h.end
step_end file old new (Ok None) h = ap (λ (c : Cursor). c.window.end) h.2
step_end file old new (Err (Damaged f at)) h = ap (λ (c : Cursor). c.window.end) h.3
step_end file old new (Err Fault) h = absurd h
step_end file old new (Err OutOfMemory) h = ap (λ (c : Cursor). c.window.end) h

pub step_further : (file : ℕ) (old new : Cursor) (result : Result (Option (Vec RolledRow Global)) ReadRefusal)
    → old.window.place + length old.window.ahead ≤ old.window.end → Steps file old result new
    → IfOk result (λ o. IfSome o (λ _. (old.window.place < new.window.place) × (new.window.place ≤ old.window.end)))
step_further file old new (Ok (Some rows)) within h =
    let place = h.place in
    let some = part_long old.width h.message in
    let size = ap (λ (l : List ℕ). length l) h.is ∙ length-append (message_octets old.width h.message) new.window.ahead
    in
    (omega (arith, place, some), omega (arith, place, size, within))
step_further file old new (Ok None) within h = tt
step_further file old new (Err e) within h = tt

pub step_last : (file : ℕ) (old new : Cursor) (result : Result (Option (Vec RolledRow Global)) ReadRefusal)
    → Steps file old result new → IfOk result (λ o. IfNone o (old.window.place ≡ old.window.end))
step_last file old new (Ok (Some rows)) h = tt
step_last file old new (Ok None) h = h.0
step_last file old new (Err e) h = tt

pub step_few : (file : ℕ) (old new : Cursor) (result : Result (Option (Vec RolledRow Global)) ReadRefusal)
    → Steps file old result new → IfOk result (λ o. IfSome o (λ rows. length rows.items ≤ 1000))
step_few file old new (Ok (Some rows)) h =
    let few = (h.whole).rows.few in
    let same = ap (λ (l : List RolledRow). length l) h.rows_are in omega (arith, few, same)
step_few file old new (Ok None) h = tt
step_few file old new (Err e) h = tt

-- ---- after a read, where one was needed

abbrev pub reader_at : Rollup → Cursor → Reader
reader_at part c = record { part = part; width = c.width; place = c.window.place; before = c.before }

pub same_reader : (part : Rollup) (old mid : Cursor) → mid ≡ record old { window = mid.window }
    → mid.window.place ≡ old.window.place → reader_at part mid ≡ reader_at part old
same_reader part old mid same place =
    ap (reader_at part) same
    ∙ ap (λ (n : ℕ). record { part = part; width = old.width; place = n; before = old.before }) place

-- ---- on an honest file

-- a message in the file is in the octets ahead
message_ahead : (xs ahead front more : List ℕ) → ahead ≡ take (length ahead) xs
    → (length ahead ≡ length xs) ⊎ (length front ≤ length ahead) → xs ≡ front ++ more
    → (rest : List ℕ) × (ahead ≡ front ++ rest)
message_ahead xs ahead front more on ready is = (
  take (length ahead - length front) more,
  on ∙ ap (take (length ahead)) is
      ∙ ap (λ (n : ℕ). take n (front ++ more)) count
      ∙ take_past front more (length ahead - length front),
)
  where
    size : length xs ≡ length front + length more
    size = ap (λ (l : List ℕ). length l) is ∙ length-append front more

    fits : (length ahead ≡ length xs) ⊎ (length front ≤ length ahead) → length front ≤ length ahead
    fits (inl all) = omega (arith, all, size)
    fits (inr le) = le

    count : length ahead ≡ length front + (length ahead - length front)
    count = omega (arith, fits ready)

    take_past : (a b : List ℕ) (n : ℕ) → take (length a + n) (a ++ b) ≡ a ++ take n b
    take_past [] b n = let e : 0 + n ≡ n = omega arith in ap (λ (k : ℕ). take k b) e
    take_past (x ∷ a) b n = let e : length (x ∷ a) + n ≡ 1 + (length a + n) = omega arith in
        ap (λ (k : ℕ). take k (x ∷ (a ++ b))) e ∙ take_one (length a + n)
        ∙ ap (λ (l : List ℕ). x ∷ l) (take_past a b n)
      where
        take_one : (k : ℕ) → take (1 + k) (x ∷ (a ++ b)) ≡ x ∷ take k (a ++ b)
        take_one k = let e : 1 + k ≡ suc k = omega arith in ap (λ (j : ℕ). take j (x ∷ (a ++ b))) e

-- what is blocked ahead is stuck in the file
stuck_on : (octets : List ℕ) (width : ℕ) (c : Window) (before : Option State) (b : Option RolledMessage)
    → length octets ≡ c.end → c.place + length c.ahead ≤ c.end → IsOn octets c → IsReady 41024 c → Stands before b
    → ((b : Option RolledMessage) → Stands before b → IsStuck width b c.ahead) → IsStuck width b (drop c.place octets)
stuck_on octets w c before b size within on ready stands stuck p more follows is =
    let long = part_short w p (stands_part w before b p stands follows) in
    let there = message_ahead (drop c.place octets) c.ahead (message_octets w p) more on (all long ready) is in
    stuck b stands p there.0 follows there.1
  where
    all : length (message_octets w p) ≤ 41024 → IsReady 41024 c
        → (length c.ahead ≡ length (drop c.place octets)) ⊎ (length (message_octets w p) ≤ length c.ahead)
    all long (inl whole) = inl (let n = length-drop c.place octets in omega (arith, n, size, whole))
    all long (inr some) = inr (omega (arith, long, some))

bare_not_done : (s : Option State) (b : Option RolledMessage) → Stands s b → IsBare s → IsDone b → ⊥
bare_not_done None b stands bare done = bare
bare_not_done (Some s) b stands bare done = not_done s b stands bare done

none_left : (octets : List ℕ) (place end : ℕ) → length octets ≡ end → place ≡ end → length (drop place octets) ≡ 0
none_left octets place end size at = let n = length-drop place octets in omega (arith, n, size, at)

-- the next message
behind_more : (rows more : List RolledRow) (mid new : Cursor) (front : List RolledMessage) (h : IsOver mid more new)
    → IsBehind mid.width mid.before rows front → IsBehind mid.width new.before (rows ++ more) (front ++ h.message ∷ [])
behind_more rows more mid new front h so = record {
  follow = one_more_follows mid.width front h.message so.follow (h.follows (last_message None front) so.stands);
  stands = subst (Stands new.before) (sym (last_more None front (h.message ∷ []))) h.known;
  rows_are = (λ i. so.rows_are i ++ h.rows_are i) ∙ sym (rows_one_more front h.message);
}

read_more : (part : Rollup) (rows more : List RolledRow) (mid new : Cursor) → IsOn part.octets mid.window
    → IsOver mid more new → HasRead (reader_at part mid) rows → HasRead (reader_at part new) (rows ++ more)
read_more part rows more mid new on h so =
    let w = mid.width in
    let p = h.message in
    let xs = drop mid.window.place part.octets in
    let front = message_octets w p in
    let there : drop (length front) xs ≡ drop new.window.place part.octets =
    drop-drop (length front) mid.window.place part.octets ∙ ap (λ (n : ℕ). drop n part.octets) (sym h.place) in
    let split = front_on xs mid.window.ahead front new.window.ahead on h.is ∙ ap (λ (l : List ℕ). front ++ l) there in
    let all = so.front ++ p ∷ [] in
    let long : length (messages_octets w all) ≡ length (messages_octets w so.front) + length front =
    ap (λ (l : List ℕ). length l) (octets_more w so.front (p ∷ [])
    ∙ ap (λ (l : List ℕ). messages_octets w so.front ++ l) (append-nil front))
    ∙ length-append (messages_octets w so.front) front in
    let at = h.place in
    let before = so.place in
    let Read : ℕ → Type 0 =
    λ v. HasRead (record { part = part; width = v; place = new.window.place; before = new.before }) (rows ++ more) in
    let given : Read w = record {
      front = all;
      behind = behind_more rows more mid new so.front h so.behind;
      is = parts_more w part.octets xs (drop new.window.place part.octets) so.front p so.is split;
      place = omega (arith, long, at, before);
    } in
    subst Read (sym h.width) given

-- on every file, what was given goes on
pub step_given : (rows : List RolledRow) (file : ℕ) (mid new : Cursor)
    (result : Result (Option (Vec RolledRow Global)) ReadRefusal) (front : List RolledMessage)
    → Steps file mid result new
    → IsBehind mid.width mid.before rows front
    → IfOk result (λ o. IfSome o (λ more. (all : List RolledMessage)
    × IsBehind new.width new.before (rows ++ more.items) all))
step_given rows file mid new (Ok (Some more)) front h so = (
  front ++ h.message ∷ [],
  subst (λ v. IsBehind v new.before (rows ++ more.items) (front ++ h.message ∷ [])) (sym h.width)
      (behind_more rows more.items mid new front h so),
)
step_given rows file mid new (Ok None) front h so = tt
step_given rows file mid new (Err e) front h so = tt

-- where octets break off
breaks : (part : Rollup) (rows : List RolledRow) (mid : Cursor) → mid.width < 2 ^ 32
    → length part.octets ≡ mid.window.end → mid.window.place + length mid.window.ahead ≤ mid.window.end
    → IsOn part.octets mid.window → IsReady 41024 mid.window → IsBlocked mid
    → HasRead (reader_at part mid) rows → IsBroken mid.width part.octets mid.window.place
breaks part rows mid wide size within on ready (inl h) so =
    let left = length-drop mid.window.place part.octets in
    let at = h.0 in
    subst (IsBroken mid.width part.octets) (sym so.place)
    (broken_at mid.width wide part.octets so.front (drop mid.window.place part.octets) so.behind.follow so.is
    (stuck_on part.octets mid.width mid.window mid.before (last_message None so.front) size within on ready
    so.behind.stands h.1)
    (λ none. absurd (let l = ap (λ (x : List ℕ). length x) none in omega (arith, l, left, size, at))))
breaks part rows mid wide size within on ready (inr h) so =
    let none = none_left part.octets mid.window.place mid.window.end size h.0 in
    subst (IsBroken mid.width part.octets) (sym so.place)
    (broken_at mid.width wide part.octets so.front (drop mid.window.place part.octets) so.behind.follow so.is
    (stuck_end mid.width (drop mid.window.place part.octets) none (last_message None so.front))
    (λ e done. bare_not_done mid.before (last_message None so.front) so.behind.stands h.1 done))

pub gives : (part : Rollup) (rows : List RolledRow) (file : ℕ) (mid new : Cursor)
    (result : Result (Option (Vec RolledRow Global)) ReadRefusal) → file ≡ part.file → mid.width < 2 ^ 32
    → length part.octets ≡ mid.window.end → mid.window.place + length mid.window.ahead ≤ mid.window.end
    → IsOn part.octets mid.window → IsReady 41024 mid.window
    → Steps file mid result new → HasRead (reader_at part mid) rows
    → Gives (reader_at part mid) rows result (reader_at part new)
gives part rows file mid new (Ok (Some more)) same wide size within on ready h so =
    read_more part rows more.items mid new on h so
gives part rows file mid new (Ok None) same wide size within on ready h so =
    let left = none_left part.octets mid.window.place mid.window.end size h.0 in
    let none = no_octets (drop mid.window.place part.octets) left in
    subst (λ l. IsRollup mid.width part.octets (table_of mid.width l)) (sym so.behind.rows_are)
    (rollup_of mid.width part.octets so.front so.behind.follow
    (done_if mid.before (last_message None so.front) so.behind.stands h.1)
    (so.is ∙ ap (λ (l : List ℕ). messages_octets mid.width so.front ++ l) none
    ∙ append-nil (messages_octets mid.width so.front)))
gives part rows file mid new (Err (Damaged f at)) same wide size within on ready h so = (
  h.0 ∙ same,
  subst (IsBroken mid.width part.octets) (sym h.1) (breaks part rows mid wide size within on ready h.2 so),
)
gives part rows file mid new (Err Fault) same wide size within on ready h so = absurd h
gives part rows file mid new (Err OutOfMemory) same wide size within on ready h so = tt
