-- The rolled files that begin with given octets, and where octets break off.
use Rattle.std.proofs.Common.{◌≡◌, ℕ, ◌^◌, ◌<◌, ◌≤◌, ◌⊎◌, inl, inr, ⊎_elim, List, []}
use Rattle.std.proofs.Common.{◌∷◌, ◌++◌, length, Option, Some, None, refl, sym, ap, subst, ◌∙◌, arith, append_assoc}
use Rattle.std.proofs.Common.{length-append}
use Rattle.std.specs.Prelude.{IfSome}
use Rattle.std.specs.List.{AllByRecursion}
use Rattle.std.proofs.lemmas.List.{append-nil}
use Rattle.std.proofs.Math.Nat.{zero-mod}
use Rattle.flow_measure.specs.Sums.{Table}
use Rattle.flow_rolled.specs.Rows.{rows_in, sums_of, AreRows, IsTable, IsRow}
use Rattle.flow_rolled.specs.Messages.{RolledMessage, due, messages_from, messages_with, last_from, IsHead, RowsFollow}
use Rattle.flow_rolled.specs.Messages.{Follows, AllFollow, IsDone, EndsWell, last_message, rows_within}
use Rattle.flow_rolled.specs.Octets.{message_octets, messages_octets, IsRolledMessage}
use Rattle.flow_rolled.specs.declared.message.State.{State}
use Rattle.flow_rolled.specs.Reading.{IsStuck, Stands}
use Rattle.flow_rolled.specs.Rollup.{table_messages, IsRollup, IsFront, IsBroken}
use Rattle.flow_rolled.proofs.Grouping.{Row, Own}
use Rattle.flow_rolled.proofs.Fronts.{rows_in_order}
use Rattle.flow_rolled.proofs.Complete.{AreRolledMessages, parts_are, whole_parts}
use Rattle.flow_rolled.proofs.RowSums.{same_table}
use Rattle.flow_rolled.proofs.RowOrder.{same_rows}
use Rattle.flow_rolled.proofs.TableRows.{table_rows}
use Rattle.flow_rolled.proofs.SumsTable.{sums_table}
use Rattle.flow_rolled.proofs.SameParts.{are_of, same_part, part_long}

-- ---- what follows is a message by itself

abbrev pub Known : ℕ → Option RolledMessage → Type 0
Known w b = IfSome b (IsRolledMessage w)

head_part : (w : ℕ) (p : RolledMessage) → IsHead p → IsRolledMessage w p
head_part w p h =
    let len = ap (λ (l : List Row). length l) h.rows in
    let s = h.sequence in
    record {
      time = h.time;
      sequence = omega (arith, s);
      domain = h.domain;
      rows =
          are_of w p.domain None p.rows (omega (arith, len)) (subst (Own p.domain) (sym h.rows) tt)
          (subst (AreRows w None) (sym h.rows) tt);
    }

due_small : (p : RolledMessage) → due p < 2 ^ 32
due_small p = omega arith

rows_part : (w : ℕ) (b p : RolledMessage) → b.time < 2 ^ 32 → b.domain < 2 ^ 32 → RowsFollow w b p → IsRolledMessage w p
rows_part w b p time domain h = record {
  time = subst (λ t. t < 2 ^ 32) (sym h.time) time;
  sequence = subst (λ s. s < 2 ^ 32) (sym h.sequence) (due_small b);
  domain = subst (λ d. d < 2 ^ 32) (sym h.domain) domain;
  rows = are_of w p.domain (last_from None b.rows) p.rows h.few h.own h.order;
}

pub follows_part : (w : ℕ) (b : Option RolledMessage) (p : RolledMessage) → Known w b → Follows w b p
    → IsRolledMessage w p
follows_part w None p known h = head_part w p h
follows_part w (Some b) p known (inl h) = head_part w p h.head
follows_part w (Some b) p known (inr h) = rows_part w b p known.time known.domain h

-- the same after the message of which a state is known
pub stands_part : (w : ℕ) (s : Option State) (b : Option RolledMessage) (p : RolledMessage) → Stands s b
    → Follows w b p → IsRolledMessage w p
stands_part w None None p stands h = head_part w p h
stands_part w None (Some b) p stands h = absurd stands
stands_part w (Some s) None p stands h = absurd stands
stands_part w (Some s) (Some b) p stands (inl h) = head_part w p h.head
stands_part w (Some s) (Some b) p stands (inr h) = rows_part w b p stands.small_time stands.small_domain h

pub all_parts : (w : ℕ) (b : Option RolledMessage) (ps : List RolledMessage) → Known w b → AllFollow w b ps
    → AllByRecursion (IsRolledMessage w) ps
all_parts w b [] known h = tt
all_parts w b (p ∷ ps) known h = let now = follows_part w b p known h.0 in (now, all_parts w (Some p) ps now h.1)

-- ---- messages, joined

pub ends_is : (b : Option RolledMessage) (ps : List RolledMessage) → EndsWell b ps ≡ IsDone (last_message b ps)
ends_is b [] = refl
ends_is b (p ∷ ps) = ends_is (Some p) ps

pub follow_front : (w : ℕ) (b : Option RolledMessage) (ps qs : List RolledMessage) → AllFollow w b (ps ++ qs)
    → AllFollow w b ps × AllFollow w (last_message b ps) qs
follow_front w b [] qs h = (tt, h)
follow_front w b (p ∷ ps) qs h = let r = follow_front w (Some p) ps qs h.1 in ((h.0, r.0), r.1)

pub follow_more : (w : ℕ) (b : Option RolledMessage) (ps qs : List RolledMessage) → AllFollow w b ps
    → AllFollow w (last_message b ps) qs
    → AllFollow w b (ps ++ qs)
follow_more w b [] qs h k = k
follow_more w b (p ∷ ps) qs h k = (h.0, follow_more w (Some p) ps qs h.1 k)

pub last_more : (b : Option RolledMessage) (ps qs : List RolledMessage) → last_message b (ps ++ qs)
    ≡ last_message (last_message b ps) qs
last_more b [] qs = refl
last_more b (p ∷ ps) qs = last_more (Some p) ps qs

pub octets_more : (w : ℕ) (ps qs : List RolledMessage) → messages_octets w (ps ++ qs)
    ≡ messages_octets w ps ++ messages_octets w qs
octets_more w [] qs = refl
octets_more w (p ∷ ps) qs = ap (λ (l : List ℕ). message_octets w p ++ l) (octets_more w ps qs)
    ∙ sym (append_assoc (message_octets w p) (messages_octets w ps) (messages_octets w qs))

-- ---- two readings of the same octets

-- the second goes on where the first ends, or ends before it
pub data Compared (w : ℕ) (ps qs : List RolledMessage) (xs ys : List ℕ) : Type 0 where
  longer : (zs : List RolledMessage) → qs ≡ ps ++ zs → xs ≡ messages_octets w zs ++ ys → Compared w ps qs xs ys
  shorter : (z : RolledMessage) (zs : List RolledMessage) → ps ≡ qs ++ z ∷ zs → ys ≡ messages_octets w (z ∷ zs) ++ xs
      → Compared w ps qs xs ys

compared_more : (w : ℕ) (p q : RolledMessage) (ps qs : List RolledMessage) (xs ys : List ℕ) → p ≡ q
    → Compared w ps qs xs ys
    → Compared w (p ∷ ps) (q ∷ qs) xs ys
compared_more w p q ps qs xs ys e (longer zs is left) = longer zs (λ i. sym e i ∷ is i) left
compared_more w p q ps qs xs ys e (shorter z zs is left) = shorter z zs (λ i. e i ∷ is i) left

pub compared : (w : ℕ) → w < 2 ^ 32 → (ps qs : List RolledMessage) (xs ys : List ℕ)
    → AllByRecursion (IsRolledMessage w) ps
    → AllByRecursion (IsRolledMessage w) qs → messages_octets w ps ++ xs ≡ messages_octets w qs ++ ys
    → Compared w ps qs xs ys
compared w wide [] qs xs ys hp hq e = longer qs refl e
compared w wide (p ∷ ps) [] xs ys hp hq e = shorter p ps refl (sym e)
compared w wide (p ∷ ps) (q ∷ qs) xs ys hp hq e =
    let one = same_part w p q (messages_octets w ps ++ xs) (messages_octets w qs ++ ys) wide hp.0 hq.0
    (sym (append_assoc (message_octets w p) (messages_octets w ps) xs) ∙ e
    ∙ append_assoc (message_octets w q) (messages_octets w qs) ys) in
    compared_more w p q ps qs xs ys one.0 (compared w wide ps qs xs ys hp.1 hq.1 one.1)

-- ---- rolled files are messages that follow one another

pub file_parts : (t : Table) (time : ℕ) → time < 2 ^ 32 → IsTable t
    → AreRolledMessages t.width time (rows_in t.sums) (table_messages t time)
file_parts t time small valid = parts_are t.width time (rows_in t.sums) small (table_rows t valid)

-- a rolled file by messages
pub record IsRead (w : ℕ) (octets : List ℕ) (t : Table) : Type 0 where
  pub parts : List RolledMessage
  pub follow : AllFollow w None parts
  pub done : IsDone (last_message None parts)
  pub is : octets ≡ messages_octets w parts
  pub table : t ≡ record { width = w; sums = sums_of (rows_within parts) }

table_is : (t : Table) (w : ℕ) (rows : List Row) → t.width ≡ w → sums_of rows ≡ t.sums
    → t ≡ record { width = w; sums = sums_of rows }
table_is t w rows width sums = λ i. record { width = width i; sums = sym sums i }

pub read_of : (w : ℕ) (octets : List ℕ) (t : Table) → IsRollup w octets t → IsRead w octets t
read_of w octets t h =
    let ps = table_messages t h.time in
    let file = file_parts t h.time h.small h.valid in
    record {
      parts = ps;
      follow = subst (λ v. AllFollow v None ps) h.width_is file.follow;
      done = subst (λ (A : Type 0). A) (ends_is None ps) file.ends;
      is = h.is ∙ ap (λ v. messages_octets v ps) h.width_is;
      table = table_is t w (rows_within ps) h.width_is (ap sums_of file.same ∙ same_table t.sums);
    }

time_of : List RolledMessage → ℕ
time_of [] = 0
time_of (p ∷ ps) = p.time

-- messages to a good end are a table's rolled file
pub whole_file : (w : ℕ) (ps : List RolledMessage) → AllFollow w None ps → IsDone (last_message None ps)
    → (time : ℕ) × (time < 2 ^ 32) × (table_messages (record { width = w; sums = sums_of (rows_within ps) }) time ≡ ps)
unfolding messages_from
whole_file w [] follow done = (0, omega arith, ap (messages_with 0) (same_rows w [] tt))
whole_file w (p ∷ ps) follow done =
    let rows = rows_within (p ∷ ps) in (
      p.time,
      (follow.0).time,
      ap (messages_with p.time) (same_rows w rows (rows_in_order w (p ∷ ps) follow))
          ∙ whole_parts w p ps follow (subst (λ (A : Type 0). A) (sym (ends_is None (p ∷ ps))) done),
    )

pub rollup_of : (w : ℕ) (octets : List ℕ) (ps : List RolledMessage) → AllFollow w None ps
    → IsDone (last_message None ps)
    → octets ≡ messages_octets w ps → IsRollup w octets (record { width = w; sums = sums_of (rows_within ps) })
rollup_of w octets ps follow done is =
    let file = whole_file w ps follow done in
    record {
      valid = sums_table w (rows_within ps) (rows_in_order w ps follow);
      width_is = refl;
      time = file.0;
      small =
          file.1;
      is = is ∙ ap (messages_octets w) (sym file.2);
    }

-- ---- one table at most

same_end : (w : ℕ) (ps qs : List RolledMessage) → Compared w ps qs [] [] → ps ≡ qs
same_end w ps qs (longer [] is left) = sym (is ∙ append-nil ps)
same_end w ps qs (longer (z ∷ zs) is left) =
    absurd (let l = ap (λ (x : List ℕ). length x) left in let n = part_long w z in let m =
    length-append (message_octets w z) (messages_octets w zs) in let k =
    length-append (message_octets w z ++ messages_octets w zs) [] in omega (arith, l, n, m, k))
same_end w ps qs (shorter z zs is left) =
    absurd (let l = ap (λ (x : List ℕ). length x) left in let n = part_long w z in let m =
    length-append (message_octets w z) (messages_octets w zs) in let k =
    length-append (message_octets w z ++ messages_octets w zs) [] in omega (arith, l, n, m, k))

parts_both : (w : ℕ) (ps qs : List RolledMessage) (octets : List ℕ) → octets ≡ messages_octets w ps → octets
    ≡ messages_octets w qs
    → messages_octets w ps ++ [] ≡ messages_octets w qs ++ []
parts_both w ps qs octets e f = ap (λ (l : List ℕ). l ++ []) (sym e ∙ f)

pub one_table : (w : ℕ) → w < 2 ^ 32 → (octets : List ℕ) (s t : Table) → IsRollup w octets s → IsRollup w octets t
    → s ≡ t
one_table w wide octets s t hs ht =
    let a = read_of w octets s hs in
    let b = read_of w octets t ht in
    let same : a.parts ≡ b.parts =
    same_end w a.parts b.parts
    (compared w wide a.parts b.parts [] [] (all_parts w None a.parts tt a.follow)
    (all_parts w None b.parts tt b.follow) (parts_both w a.parts b.parts octets a.is b.is)) in
    a.table ∙ ap (λ ps. record { width = w; sums = sums_of (rows_within ps) }) same ∙ sym b.table

-- ---- each list of messages that follow one another begins a rolled file

pub last_known : (w : ℕ) (b : Option RolledMessage) (ps : List RolledMessage) → Known w b → AllFollow w b ps
    → Known w (last_message b ps)
last_known w b [] known h = known
last_known w b (p ∷ ps) known h = last_known w (Some p) ps (follows_part w b p known h.0) h.1

abbrev IsBare : Option RolledMessage → Type 0
IsBare b = (p : RolledMessage) × (b ≡ Some p) × (p.rows ≡ [])

some_rows : (p : RolledMessage) (rows : List Row) → p.rows ≡ rows → IsDone (Some p) ⊎ IsBare (Some p)
some_rows p [] e = inr (p, refl, e)
some_rows p (r ∷ rs) e = inl (let l = ap (λ (x : List Row). length x) e in omega (arith, l))

done_or : (b : Option RolledMessage) → IsDone b ⊎ IsBare b
done_or None = inl tt
done_or (Some p) = some_rows p p.rows refl

-- any one row
abbrev some_row : ℕ → Row
some_row domain = record {
  key = record { start = 0; domain = domain; protocol = None };
  flows = 1;
  octets =
      0;
  packets = 0;
}

abbrev row_part : RolledMessage → RolledMessage
row_part p = record { time = p.time; sequence = due p; domain = p.domain; rows = some_row p.domain ∷ [] }

row_follows : (w : ℕ) (p : RolledMessage) → IsRolledMessage w p → p.rows ≡ [] → RowsFollow w p (row_part p)
row_follows w p known none =
    let len = ap (λ (x : List Row). length x) none in
    let one : 0 < 1 = omega arith in
    let row : IsRow w (some_row p.domain) =
    record {
      aligned = zero-mod w;
      start = omega arith;
      domain = known.domain;
      protocol = tt;
      flows =
          omega arith;
      octets = omega arith;
      packets = omega arith;
    } in
    record {
      time = refl;
      room = inl len;
      sequence = refl;
      domain = refl;
      some = omega arith;
      few = omega arith;
      own =
          (refl, tt);
      order = subst (λ (l : List Row). AreRows w (last_from None l) (some_row p.domain ∷ [])) (sym none)
          (row, one, tt);
    }

pub front_of : (w : ℕ) (octets : List ℕ) (front : List RolledMessage) (rest : List ℕ) → AllFollow w None front
    → octets ≡ messages_octets w front ++ rest → IsFront w octets (length (messages_octets w front))
front_of w octets front rest follow is = ⊎_elim
    (λ done.
    let file = whole_file w front follow done in
    record {
      table = record { width = w; sums = sums_of (rows_within front) };
      valid = sums_table w (rows_within front) (rows_in_order w front follow);
      width_is = refl;
      time = file.0;
      small = file.1;
      front = front;
      more = [];
      parts = file.2 ∙ sym (append-nil front);
      rest = rest;
      is = is;
      place = refl;
    })
    (λ bare.
    let p = bare.0 in
    let ps = front ++ row_part p ∷ [] in
    let known : IsRolledMessage w p = subst (Known w) bare.1 (last_known w None front tt follow) in
    let all : AllFollow w None ps =
    follow_more w None front (row_part p ∷ []) follow
    (subst (λ b. Follows w b (row_part p)) (sym bare.1) (inr (row_follows w p known bare.2)), tt) in
    let done : IsDone (last_message None ps) = subst IsDone (sym (last_more None front (row_part p ∷ []))) (omega
    arith) in
    let file = whole_file w ps all done in
    record {
      table = record { width = w; sums = sums_of (rows_within ps) };
      valid = sums_table w (rows_within ps) (rows_in_order w ps all);
      width_is = refl;
      time = file.0;
      small = file.1;
      front = front;
      more = row_part p ∷ [];
      parts = file.2;
      rest = rest;
      is = is;
      place = refl;
    })
    (done_or (last_message None front))

-- ---- where octets break off

-- the first messages of a file follow one another
pub front_follows : (w : ℕ) (octets : List ℕ) (at : ℕ) (h : IsFront w octets at) → AllFollow w None h.front
front_follows w octets at h =
    let all = (file_parts h.table h.time h.small h.valid).follow in
    (follow_front w None h.front h.more
    (subst (λ ps. AllFollow w None ps) h.parts
    (subst (λ v. AllFollow v None (table_messages h.table h.time)) h.width_is all))).0

not_further : (w : ℕ) (front zs : List RolledMessage) (rest ys : List ℕ) → IsStuck w (last_message None front) rest
    → AllFollow w None (front ++ zs) → rest ≡ messages_octets w zs ++ ys → zs ≡ []
not_further w front [] rest ys stuck all left = refl
not_further w front (z ∷ zs) rest ys stuck all left =
    absurd (stuck z (messages_octets w zs ++ ys) ((follow_front w None front (z ∷ zs) all).1).0 (left
    ∙ append_assoc (message_octets w z) (messages_octets w zs) ys))

no_rollup : (w : ℕ) (front : List RolledMessage) (rest : List ℕ) (parts : List RolledMessage)
    → IsStuck w (last_message None front) rest
    → (rest ≡ [] → IsDone (last_message None front) → ⊥) → AllFollow w None parts → IsDone (last_message None parts)
    → Compared w front parts rest [] → ⊥
no_rollup w front rest parts stuck unfinished all done (longer zs is left) =
    let none : zs ≡ [] = not_further w front zs rest [] stuck (subst (AllFollow w None) is all) left in
    let same : parts ≡ front = is ∙ ap (λ (l : List RolledMessage). front ++ l) none ∙ append-nil front in
    unfinished (left ∙ ap (λ (l : List RolledMessage). messages_octets w l ++ []) none)
    (subst (λ l. IsDone (last_message None l)) same done)
no_rollup w front rest parts stuck unfinished all done (shorter z zs is left) =
    absurd (let l = ap (λ (x : List ℕ). length x) left in let n = part_long w z in let m =
    length-append (message_octets w z) (messages_octets w zs) in let k =
    length-append (message_octets w z ++ messages_octets w zs) rest in omega (arith, l, n, m, k))

not_greater : (w : ℕ) (front others : List RolledMessage) (rest rest_2 : List ℕ)
    → IsStuck w (last_message None front) rest
    → AllFollow w None others → Compared w front others rest rest_2
    → length (messages_octets w others) ≤ length (messages_octets w front)
not_greater w front others rest rest_2 stuck all (longer zs is left) =
    let none : zs ≡ [] = not_further w front zs rest rest_2 stuck (subst (AllFollow w None) is all) left in
    let same : others ≡ front = is ∙ ap (λ (l : List RolledMessage). front ++ l) none ∙ append-nil front in
    let len = ap (λ (l : List RolledMessage). length (messages_octets w l)) same in omega (arith, len)
not_greater w front others rest rest_2 stuck all (shorter z zs is left) =
    let e = ap (λ (l : List RolledMessage). length (messages_octets w l)) is in
    let j = ap (λ (l : List ℕ). length l) (octets_more w others (z ∷ zs)) in
    let k = length-append (messages_octets w others) (messages_octets w (z ∷ zs)) in omega (arith, e, j, k)

pub broken_at : (w : ℕ) → w < 2 ^ 32 → (octets : List ℕ) (front : List RolledMessage) (rest : List ℕ)
    → AllFollow w None front
    → octets ≡ messages_octets w front ++ rest → IsStuck w (last_message None front) rest
    → (rest ≡ [] → IsDone (last_message None front) → ⊥) → IsBroken w octets (length (messages_octets w front))
broken_at w wide octets front rest follow is stuck unfinished = record {
  none = λ t h.
      let r = read_of w octets t h in
      no_rollup w front rest r.parts stuck unfinished r.follow r.done
      (compared w wide front r.parts rest [] (all_parts w None front tt follow) (all_parts w None r.parts tt r.follow)
      (sym is ∙ r.is ∙ sym (append-nil (messages_octets w r.parts))));
  front = front_of w octets front rest follow is;
  greatest = λ other h.
      let all = front_follows w octets other h in
      let le = not_greater w front h.front rest h.rest stuck all
      (compared w wide front h.front rest h.rest (all_parts w None front tt follow) (all_parts w None h.front tt all)
      (sym is ∙ h.is)) in
      let p = h.place in omega (arith, le, p);
}
