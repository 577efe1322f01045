-- A message's octets are those of no other.
use Rattle.std.proofs.Common.{◌≡◌, ℕ, ◌+◌, ◌*◌, ◌^◌, ◌<◌, ◌≤◌, inl, inr, Bool, true}
use Rattle.std.proofs.Common.{false, cond, not, List, [], ◌∷◌, ◌++◌, length, Option, Some, None, refl, sym, ap, subst}
use Rattle.std.proofs.Common.{◌∙◌, arith, length-append}
use Rattle.std.specs.Prelude.{is_some, filter}
use Rattle.std.specs.List.{AllByRecursion}
use Rattle.std.specs.Int.{w16, w32, to_be_bytes}
use Rattle.std.specs.Ordering.{nat_cmp, ordering_then}
use Rattle.std.specs.declared.cmp.Ordering.{Ordering}
use Rattle.std.specs.declared.cmp.Ordering.TheVariants.{Less, Equal}
use Rattle.std.specs.Cmp.{nat_cmp_is}
use Rattle.flow_measure.specs.declared.rows.Key.{Key}
use Rattle.flow_rolled.specs.declared.row.RolledRow.{RolledRow}
use Rattle.flow_rolled.specs.Rows.{protocol_rank, file_cmp, MayFollow, AreRows}
use Rattle.flow_rolled.specs.Messages.{RolledMessage}
use Rattle.flow_rolled.specs.Octets.{row_set_octets, has_protocol, has_none, head_sets, sets_of, message_octets}
use Rattle.flow_rolled.specs.Octets.{IsOf, AreOf, IsRolledMessage}
use Rattle.flow_rolled.proofs.Grouping.{ordered}
use Rattle.flow_rolled.proofs.PartOctets.{same_front, same_number, same_set, rows_long, wide16, wide32}

-- ---- rows with a protocol, then those without

same_domain : (d e : ℕ) (o : Ordering) → d ≡ e → ordering_then (nat_cmp d e) o ≡ Less → o ≡ Less
same_domain d e o same h = let equal : Equal ≡ nat_cmp d e = nat_cmp_is d e Equal same in
    subst (λ r. ordering_then r o ≡ Less) (sym equal) h

without_rises : (a b : Key) → a.domain ≡ b.domain → file_cmp a b ≡ Less
    → protocol_rank a.protocol ≤ protocol_rank b.protocol
without_rises a b same h =
    ordered (protocol_rank a.protocol) (protocol_rank b.protocol) _ (same_domain a.domain b.domain _ same h)

next_without : (a b : RolledRow) → a.key.domain ≡ b.key.domain → MayFollow (Some a) b
    → protocol_rank a.key.protocol ≤ protocol_rank b.key.protocol
next_without a b same (inl h) = let e = ap (λ (k : Key). protocol_rank k.protocol) h.key in omega (arith, e)
next_without a b same (inr h) = without_rises a.key b.key same h.order

none_is : (p : Option ℕ) → 1 ≤ protocol_rank p → is_some p ≡ false
none_is None h = refl
none_is (Some p) h = absurd (omega (arith, h))

some_is : (p : Option ℕ) → is_some p ≡ false → 1 ≤ protocol_rank p
some_is None h = omega arith
some_is (Some p) h = absurd cc

abbrev Own : ℕ → List RolledRow → Type 0
Own d rows = AllByRecursion (λ r. r.key.domain ≡ d) rows

-- after a row without a protocol all are
only_none : (w d : ℕ) (l : RolledRow) (rows : List RolledRow) → l.key.domain ≡ d → is_some l.key.protocol ≡ false
    → Own d rows → AreRows w (Some l) rows → (filter has_protocol rows ≡ []) × (filter has_none rows ≡ rows)
only_none w d l [] here none own h = (refl, refl)
only_none w d l (r ∷ rs) here none own h =
    let le = next_without l r (here ∙ sym own.0) h.1 in
    let one = some_is l.key.protocol none in
    let now : is_some r.key.protocol ≡ false = none_is r.key.protocol (omega (arith, le, one)) in
    let rest = only_none w d r rs own.0 now own.1 h.2 in (
      ap (λ b. cond b (r ∷ filter has_protocol rs) (filter has_protocol rs)) now
          ∙ rest.0,
      ap (λ b. cond (not b) (r ∷ filter has_none rs) (filter has_none rs)) now
          ∙ ap (λ (l : List RolledRow). r ∷ l) rest.1,
    )

pub parted : (w d : ℕ) (b : Option RolledRow) (rows : List RolledRow) → Own d rows → AreRows w b rows
    → filter has_protocol rows ++ filter has_none rows ≡ rows
parted w d b [] own h = refl
parted w d b (r ∷ rs) own h =
    elim (is_some r.key.protocol) as (λ t. is_some r.key.protocol ≡ t
    → cond t (r ∷ filter has_protocol rs) (filter has_protocol rs) ++ cond (not t) (r ∷ filter has_none rs)
    (filter has_none rs) ≡ r ∷ rs) [
      | true ↦ λ e. ap (λ (l : List RolledRow). r ∷ l) (parted w d (Some r) rs own.1 h.2)
      | false ↦ λ e. let rest = only_none w d r rs own.0 e own.1 h.2 in
          ap (λ (l : List RolledRow). l ++ (r ∷ filter has_none rs)) rest.0 ∙ ap (λ (l : List RolledRow). r ∷ l) rest.1
    ] refl

with_of : (w d : ℕ) (b : Option RolledRow) (rows : List RolledRow) → Own d rows → AreRows w b rows
    → AllByRecursion (IsOf w d true) (filter has_protocol rows)
with_of w d b [] own h = tt
with_of w d b (r ∷ rs) own h =
    elim (is_some r.key.protocol) as (λ t. is_some r.key.protocol ≡ t
    → AllByRecursion (IsOf w d true) (cond t (r ∷ filter has_protocol rs) (filter has_protocol rs))) [
      | true ↦ λ e. (record { row = h.0; own = own.0; kind = e }, with_of w d (Some r) rs own.1 h.2)
      | false ↦ λ e. with_of w d (Some r) rs own.1 h.2
    ] refl

none_of : (w d : ℕ) (b : Option RolledRow) (rows : List RolledRow) → Own d rows → AreRows w b rows
    → AllByRecursion (IsOf w d false) (filter has_none rows)
none_of w d b [] own h = tt
none_of w d b (r ∷ rs) own h =
    elim (is_some r.key.protocol) as (λ t. is_some r.key.protocol ≡ t
    → AllByRecursion (IsOf w d false) (cond (not t) (r ∷ filter has_none rs) (filter has_none rs))) [
      | true ↦ λ e. none_of w d (Some r) rs own.1 h.2
      | false ↦ λ e. (record { row = h.0; own = own.0; kind = e }, none_of w d (Some r) rs own.1 h.2)
    ] refl

-- ---- the Sets of rows

abbrev sets : ℕ → List RolledRow → List RolledRow → List ℕ
sets w a b = row_set_octets w 256 a ++ row_set_octets w 257 b

set_long : (w n : ℕ) (rs : List RolledRow) → length (row_set_octets w n rs) ≤ 4 + 41 * length rs
set_long w n [] = omega arith
set_long w n (r ∷ rs) = let a = rows_long w (r ∷ rs) in omega (arith, a)

first_octet : List ℕ → ℕ
first_octet [] = 0
first_octet (x ∷ xs) = x

not_head : (w : ℕ) (a b : List RolledRow) → 0 < length (a ++ b) → head_sets ≡ sets w a b → ⊥
unfolding first_octet
not_head w [] [] some e = omega (arith, some)
not_head w [] (b ∷ bs) some e = let f = ap first_octet e in omega (arith, f)
not_head w (a ∷ aa) bs some e = let f = ap first_octet e in omega (arith, f)

second_octet : List ℕ → ℕ
second_octet [] = 2
second_octet (x ∷ []) = 2
second_octet (x ∷ y ∷ l) = y

not_turned : (w : ℕ) (b : List RolledRow) (c : RolledRow) (cs d : List RolledRow) → sets w [] b ≡ sets w (c ∷ cs) d → ⊥
unfolding second_octet
not_turned w [] c cs d e = let f = ap second_octet e in omega (arith, f)
not_turned w (b ∷ bs) c cs d e = let f = ap second_octet e in omega (arith, f)

not_empty : (w n : ℕ) (c : RolledRow) (cs : List RolledRow) → [] ≡ row_set_octets w n (c ∷ cs) → ⊥
not_empty w n c cs e = let f = ap (λ (l : List ℕ). length l) e in omega (arith, f)

same_one : (w n d : ℕ) (k : Bool) (a c : List RolledRow) → w < 2 ^ 32 → n < 2 ^ 16 → length a ≤ 1000 → length c ≤ 1000
    → AllByRecursion (IsOf w d k) a → AllByRecursion (IsOf w d k) c → row_set_octets w n a ≡ row_set_octets w n c
    → a ≡ c
same_one w n d k [] [] wide small fa fc ha hc e = refl
same_one w n d k [] (c ∷ cs) wide small fa fc ha hc e = absurd (not_empty w n c cs e)
same_one w n d k (a ∷ aa) [] wide small fa fc ha hc e = absurd (not_empty w n a aa (sym e))
same_one w n d k (a ∷ aa) (c ∷ cs) wide small fa fc ha hc e =
    (same_set w n d k (a ∷ aa) (c ∷ cs) [] [] wide small fa fc ha hc (ap (λ (l : List ℕ). l ++ []) e)).0

same_sets : (w d : ℕ) (a b c e : List RolledRow) → w < 2 ^ 32 → length a + length b ≤ 1000 → length c + length e ≤ 1000
    → AllByRecursion (IsOf w d true) a → AllByRecursion (IsOf w d false) b → AllByRecursion (IsOf w d true) c
    → AllByRecursion (IsOf w d false) e → sets w a b ≡ sets w c e → (a ≡ c) × (b ≡ e)
same_sets w d [] b [] e wide few few_2 ha hb hc he is =
    (refl, same_one w 257 d false b e wide (omega arith) (omega (arith, few)) (omega (arith, few_2)) hb he is)
same_sets w d [] b (c ∷ cs) e wide few few_2 ha hb hc he is = absurd (not_turned w b c cs e is)
same_sets w d (a ∷ aa) b [] e wide few few_2 ha hb hc he is = absurd (not_turned w e a aa b (sym is))
same_sets w d (a ∷ aa) b (c ∷ cs) e wide few few_2 ha hb hc he is =
    let one = same_set w 256 d true (a ∷ aa) (c ∷ cs) (row_set_octets w 257 b) (row_set_octets w 257 e) wide
    (omega arith)
    (omega (arith, few)) (omega (arith, few_2)) ha hc is in
    (one.0, same_one w 257 d false b e wide (omega arith) (omega (arith, few)) (omega (arith, few_2)) hb he one.1)

-- rows in order are those of a message
pub are_of : (w d : ℕ) (b : Option RolledRow) (rows : List RolledRow) → length rows ≤ 1000 → Own d rows
    → AreRows w b rows → AreOf w d rows
are_of w d b rows few own order =
    record {
      few = few;
      with = with_of w d b rows own order;
      without = none_of w d b rows own order;
      parted =
          parted w d b rows own order;
    }

count_both : (w d : ℕ) (rows : List RolledRow) → AreOf w d rows
    → length (filter has_protocol rows) + length (filter has_none rows) ≡ length rows
count_both w d rows h = sym (length-append (filter has_protocol rows) (filter has_none rows))
    ∙ ap (λ (l : List RolledRow). length l) h.parted

pub sets_long : (w d : ℕ) (rows : List RolledRow) → AreOf w d rows → length (sets_of w rows) ≤ 41008
sets_long w d [] h = omega arith
sets_long w d (r ∷ rs) h =
    let a = set_long w 256 (filter has_protocol (r ∷ rs)) in
    let b = set_long w 257 (filter has_none (r ∷ rs)) in
    let c = length-append (row_set_octets w 256 (filter has_protocol (r ∷ rs)))
    (row_set_octets w 257 (filter has_none (r ∷ rs))) in
    let n = count_both w d (r ∷ rs) h in
    let f = h.few in
    omega (arith, a, b, c, n, f)

some_parted : (w d : ℕ) (r : RolledRow) (rs : List RolledRow) → AreOf w d (r ∷ rs)
    → 0 < length (filter has_protocol (r ∷ rs) ++ filter has_none (r ∷ rs))
some_parted w d r rs h = subst (λ (l : List RolledRow). 0 < length l) (sym h.parted) (omega arith)

same_rows_of : (w d : ℕ) (rs qs : List RolledRow) → w < 2 ^ 32 → AreOf w d rs → AreOf w d qs
    → sets_of w rs ≡ sets_of w qs → rs ≡ qs
same_rows_of w d [] [] wide hr hq e = refl
same_rows_of w d [] (q ∷ qs) wide hr hq e =
    absurd (not_head w (filter has_protocol (q ∷ qs)) (filter has_none (q ∷ qs)) (some_parted w d q qs hq) e)
same_rows_of w d (r ∷ rs) [] wide hr hq e =
    absurd (not_head w (filter has_protocol (r ∷ rs)) (filter has_none (r ∷ rs)) (some_parted w d r rs hr) (sym e))
same_rows_of w d (r ∷ rs) (q ∷ qs) wide hr hq e =
    let nr = count_both w d (r ∷ rs) hr in
    let nq = count_both w d (q ∷ qs) hq in
    let fr = hr.few in
    let fq = hq.few in
    let same = same_sets w d (filter has_protocol (r ∷ rs)) (filter has_none (r ∷ rs)) (filter has_protocol (q ∷ qs))
    (filter has_none (q ∷ qs)) wide (omega (arith, nr, fr)) (omega (arith, nq, fq))
    hr.with hr.without hq.with hq.without e in
    sym hr.parted ∙ (λ i. (same.0) i ++ (same.1) i) ∙ hq.parted

-- ---- messages

abbrev pub size : ℕ → RolledMessage → ℕ
size w p = 16 + length (sets_of w p.rows)

abbrev pub from_domain : ℕ → RolledMessage → List ℕ → List ℕ
from_domain w p xs = to_be_bytes w32 p.domain ++ (sets_of w p.rows ++ xs)

abbrev pub from_sequence : ℕ → RolledMessage → List ℕ → List ℕ
from_sequence w p xs = to_be_bytes w32 p.sequence ++ from_domain w p xs

abbrev pub from_time : ℕ → RolledMessage → List ℕ → List ℕ
from_time w p xs = to_be_bytes w32 p.time ++ from_sequence w p xs

abbrev pub from_length : ℕ → RolledMessage → List ℕ → List ℕ
from_length w p xs = to_be_bytes w16 (size w p) ++ from_time w p xs

pub part_is : (w : ℕ) (p : RolledMessage) (xs : List ℕ) → message_octets w p ++ xs
    ≡ to_be_bytes w16 10 ++ from_length w p xs
unfolding message_octets
part_is w p xs = refl

pub part_long : (w : ℕ) (p : RolledMessage) → 0 < length (message_octets w p)
unfolding message_octets
part_long w p = omega arith

pub same_part : (w : ℕ) (p q : RolledMessage) (xs ys : List ℕ) → w < 2 ^ 32 → IsRolledMessage w p → IsRolledMessage w q
    → message_octets w p ++ xs ≡ message_octets w q ++ ys → (p ≡ q) × (xs ≡ ys)
same_part w p q xs ys wide hp hq e =
    let lp = sets_long w p.domain p.rows hp.rows in
    let lq = sets_long w q.domain q.rows hq.rows in
    let version = same_number w16 (2 ^ 16) wide16 10 10 (from_length w p xs) (from_length w q ys) (omega arith)
    (omega arith) (sym (part_is w p xs) ∙ e ∙ part_is w q ys) in
    let len = same_number w16 (2 ^ 16) wide16 (size w p) (size w q) (from_time w p xs) (from_time w q ys)
    (omega (arith, lp)) (omega (arith, lq)) version.1 in
    let time = same_number w32 (2 ^ 32) wide32 p.time q.time (from_sequence w p xs)
    (from_sequence w q ys) hp.time hq.time len.1 in
    let sequence = same_number w32 (2 ^ 32) wide32 p.sequence q.sequence (from_domain w p xs)
    (from_domain w q ys) hp.sequence hq.sequence time.1 in
    let domain = same_number w32 (2 ^ 32) wide32 p.domain q.domain (sets_of w p.rows ++ xs)
    (sets_of w q.rows ++ ys) hp.domain hq.domain sequence.1 in
    let body = same_front (sets_of w p.rows) (sets_of w q.rows) xs ys (let l = len.0 in omega (arith, l)) domain.1 in
    let rows = same_rows_of w q.domain p.rows q.rows wide
    (subst (λ d. AreOf w d p.rows) domain.0 hp.rows) hq.rows body.0 in
    (λ i. record { time = (time.0) i; sequence = (sequence.0) i; domain = (domain.0) i; rows = rows i }, body.1)
