-- A message's octets are those of no other.
use Rattle.std.proofs.Common.{◌≡◌, ◌≢◌, ℕ, ◌+◌, ◌-◌, ◌*◌, ◌%◌, ◌^◌, ◌<◌, ◌≤◌, Bool}
use Rattle.std.proofs.Common.{List, [], ◌∷◌, ◌++◌, length, take, drop, Option, Some, None, refl}
use Rattle.std.proofs.Common.{sym, ap, ◌∙◌, arith, length-append}
use Rattle.std.specs.Prelude.{is_some}
use Rattle.std.specs.List.{AllByRecursion}
use Rattle.std.specs.Int.{Width, w16, w32, w64, byte_len, from_be_bytes, to_be_bytes}
use Rattle.std.proofs.lemmas.List.{take_at, drop_at}
use Rattle.std.proofs.lemmas.Nat.{from_be_bytes-to_be_bytes_2, from_be_bytes-to_be_bytes_4, from_be_bytes-to_be_bytes_8}
use Rattle.flow_rolled.specs.declared.row.RolledRow.{RolledRow}
use Rattle.flow_rolled.specs.Octets.{protocol_octets, row_octets, rows_octets}
use Rattle.flow_rolled.specs.Octets.{IsOf}

-- ---- numbers

pub record IsWide (w : Width) (limit : ℕ) : Type 0 where
  pub len : (n : ℕ) → length (to_be_bytes w n) ≡ byte_len w
  pub again : (n : ℕ) → n < limit → from_be_bytes w (to_be_bytes w n) ≡ n

pub wide16 : IsWide w16 (2 ^ 16)
wide16 = record { len = λ n. refl; again = λ n lt. from_be_bytes-to_be_bytes_2 n lt }

pub wide32 : IsWide w32 (2 ^ 32)
wide32 = record { len = λ n. refl; again = λ n lt. from_be_bytes-to_be_bytes_4 n lt }

wide64 : IsWide w64 (2 ^ 64)
wide64 = record { len = λ n. refl; again = λ n lt. from_be_bytes-to_be_bytes_8 n lt }

-- lists of one length before others
pub same_front : (a b xs ys : List ℕ) → length a ≡ length b → a ++ xs ≡ b ++ ys → (a ≡ b) × (xs ≡ ys)
same_front a b xs ys len e = (
  sym (take_at a xs (length b) len) ∙ ap (take (length b)) e ∙ take_at b ys (length b) refl,
  sym (drop_at a xs (length b) len) ∙ ap (drop (length b)) e ∙ drop_at b ys (length b) refl,
)

pub same_number : (w : Width) (limit : ℕ) → IsWide w limit → (a b : ℕ) (xs ys : List ℕ) → a < limit → b < limit
    → to_be_bytes w a ++ xs ≡ to_be_bytes w b ++ ys → (a ≡ b) × (xs ≡ ys)
same_number w limit wide a b xs ys fits_a fits_b e =
    let f = same_front (to_be_bytes w a) (to_be_bytes w b) xs ys (wide.len a ∙ sym (wide.len b)) e in
    (sym (wide.again a fits_a) ∙ ap (from_be_bytes w) f.0 ∙ wide.again b fits_b, f.1)

-- ---- rows

same_protocol : (a b : Option ℕ) (xs ys : List ℕ) → is_some a ≡ is_some b
    → protocol_octets a ++ xs ≡ protocol_octets b ++ ys → (a ≡ b) × (xs ≡ ys)
same_protocol None None xs ys h e = (refl, e)
same_protocol None (Some q) xs ys h e = absurd cc
same_protocol (Some p) None xs ys h e = absurd cc
same_protocol (Some p) (Some q) xs ys h e = let f = same_front (p ∷ []) (q ∷ []) xs ys refl e in
    (ap (λ (l : List ℕ). Some (first_or l)) f.0, f.1)
  where
    first_or : List ℕ → ℕ
    first_or [] = 0
    first_or (x ∷ l) = x

abbrev counts : RolledRow → List ℕ → List ℕ
counts r xs = to_be_bytes w64 r.flows ++ to_be_bytes w64 r.octets ++ to_be_bytes w64 r.packets ++ xs

abbrev behind_end : RolledRow → List ℕ → List ℕ
behind_end r xs = protocol_octets r.key.protocol ++ counts r xs

abbrev ending : ℕ → RolledRow → ℕ
ending w r = (r.key.start + w) * 1000 - 1

abbrev behind_start : ℕ → RolledRow → List ℕ → List ℕ
behind_start w r xs = to_be_bytes w64 (ending w r) ++ behind_end r xs

-- a protocol's octets, and others after the counts
regrouped : (r : RolledRow) (a : Option ℕ) (xs : List ℕ)
    → protocol_octets a ++ to_be_bytes w64 r.flows ++ to_be_bytes w64 r.octets ++ to_be_bytes w64 r.packets ++ xs
    ≡ protocol_octets a ++ counts r xs
regrouped r None xs = refl
regrouped r (Some p) xs = refl

row_is : (w : ℕ) (r : RolledRow) (xs : List ℕ)
    → row_octets w r ++ xs ≡ to_be_bytes w64 (r.key.start * 1000) ++ behind_start w r xs
row_is w r xs = ap (λ (l : List ℕ). to_be_bytes w64 (r.key.start * 1000) ++ (to_be_bytes w64 (ending w r) ++ l))
    (regrouped r r.key.protocol xs)

pub same_row : (w d : ℕ) (b : Bool) (r q : RolledRow) (xs ys : List ℕ) → w < 2 ^ 32 → IsOf w d b r → IsOf w d b q
    → row_octets w r ++ xs ≡ row_octets w q ++ ys → (r ≡ q) × (xs ≡ ys)
same_row w d b r q xs ys wide hr hq e =
    let fr = hr.row in
    let fq = hq.row in
    let sr = fr.start in
    let sq = fq.start in
    let start = same_number w64 (2 ^ 64) wide64 (r.key.start * 1000) (q.key.start * 1000) (behind_start w r xs)
    (behind_start w q ys) (omega (arith, sr)) (omega (arith, sq)) (sym (row_is w r xs) ∙ e ∙ row_is w q ys) in
    let finish = same_number w64 (2 ^ 64) wide64 (ending w r) (ending w q) (behind_end r xs) (behind_end q ys)
    (omega (arith, sr, wide)) (omega (arith, sq, wide)) start.1 in
    let protocol = same_protocol r.key.protocol q.key.protocol (counts r xs) (counts q ys) (hr.kind
    ∙ sym hq.kind) finish.1 in
    let flows = same_number w64 (2 ^ 64) wide64 r.flows q.flows
    (to_be_bytes w64 r.octets ++ to_be_bytes w64 r.packets ++ xs)
    (to_be_bytes w64 q.octets ++ to_be_bytes w64 q.packets ++ ys) (omega (arith, fr.flows))
    (omega (arith, fq.flows)) protocol.1 in
    let octets = same_number w64 (2 ^ 64) wide64 r.octets q.octets (to_be_bytes w64 r.packets ++ xs)
    (to_be_bytes w64 q.packets ++ ys) (omega (arith, fr.octets)) (omega (arith, fq.octets)) flows.1 in
    let packets = same_number w64 (2 ^ 64) wide64 r.packets q.packets xs ys (omega (arith, fr.packets))
    (omega (arith, fq.packets)) octets.1 in
    let starts : r.key.start ≡ q.key.start = let s = start.0 in omega (arith, s) in
    let domains : r.key.domain ≡ q.key.domain = hr.own ∙ sym hq.own in (
      λ i. record {
        key = record { start = starts i; domain = domains i; protocol = (protocol.0) i };
        flows =
            (flows.0) i;
        octets = (octets.0) i;
        packets = (packets.0) i;
      },
      packets.1,
    )

-- numbers that are those of no interval begin no row
pub no_row : (w d : ℕ) (b : Bool) (octets rest rest_2 : List ℕ) (from to : ℕ) → w < 2 ^ 32 → from < 2 ^ 64
    → to < 2 ^ 64 → octets ≡ to_be_bytes w64 from ++ rest → rest ≡ to_be_bytes w64 to ++ rest_2
    → ((s : ℕ) → s < 2 ^ 32 → s % w ≡ 0 → from ≡ s * 1000 → to ≢ (s + w) * 1000 - 1)
    → (r : RolledRow) (more : List ℕ) → IsOf w d b r → octets ≢ row_octets w r ++ more
no_row w d b octets rest rest_2 from to wide small small_2 is is_2 none r more h e =
    let f = h.row in
    let s = f.start in
    let start = same_number w64 (2 ^ 64) wide64 from (r.key.start * 1000) rest (behind_start w r more) small
    (omega (arith, s)) (sym is ∙ e ∙ row_is w r more) in
    let finish = same_number w64 (2 ^ 64) wide64 to (ending w r) rest_2 (behind_end r more) small_2
    (omega (arith, s, wide)) (sym is_2 ∙ start.1) in
    none r.key.start f.start f.aligned start.0 finish.0

pub row_long : (w : ℕ) (r : RolledRow) → (40 ≤ length (row_octets w r)) × (length (row_octets w r) ≤ 41)
row_long w r = elim r.key.protocol as
    (λ p. (40 ≤ length (to_be_bytes w64 (r.key.start * 1000) ++ to_be_bytes w64
    (ending w r) ++ protocol_octets p ++ to_be_bytes w64 r.flows ++ to_be_bytes w64 r.octets ++ to_be_bytes w64
    r.packets)) × (length
    (to_be_bytes w64 (r.key.start * 1000) ++ to_be_bytes w64
    (ending w r) ++ protocol_octets p ++ to_be_bytes w64 r.flows ++ to_be_bytes w64 r.octets ++ to_be_bytes w64
    r.packets) ≤ 41)) [
      | None ↦ (omega arith, omega arith)
      | Some p ↦ (omega arith, omega arith)
    ]

pub same_rows_octets : (w d : ℕ) (b : Bool) (rs qs : List RolledRow) → w < 2 ^ 32 → AllByRecursion (IsOf w d b) rs
    → AllByRecursion (IsOf w d b) qs → rows_octets w rs ≡ rows_octets w qs → rs ≡ qs
same_rows_octets w d b [] [] wide hr hq e = refl
same_rows_octets w d b [] (q ∷ qs) wide hr hq e =
    absurd (let l = ap (λ (x : List ℕ). length x) e in let m = length-append (row_octets w q) (rows_octets w qs) in
    let n = (row_long w q).0 in omega (arith, l, m, n))
same_rows_octets w d b (r ∷ rs) [] wide hr hq e =
    absurd (let l = ap (λ (x : List ℕ). length x) e in let m = length-append (row_octets w r) (rows_octets w rs) in
    let n = (row_long w r).0 in omega (arith, l, m, n))
same_rows_octets w d b (r ∷ rs) (q ∷ qs) wide hr hq e =
    let one = same_row w d b r q (rows_octets w rs) (rows_octets w qs) wide hr.0 hq.0 e in
    let more = same_rows_octets w d b rs qs wide hr.1 hq.1 one.1 in
    λ i. (one.0) i ∷ more i

pub rows_long : (w : ℕ) (rs : List RolledRow) → length (rows_octets w rs) ≤ 41 * length rs
rows_long w [] = omega arith
rows_long w (r ∷ rs) = let a = length-append (row_octets w r) (rows_octets w rs) in let b = (row_long w r).1 in let c =
    rows_long w rs in omega (arith, a, b, c)

-- ---- Sets

abbrev pub in_set : ℕ → ℕ → List RolledRow → List ℕ → List ℕ
in_set w n rs xs = to_be_bytes w16 n ++ to_be_bytes w16 (4 + length (rows_octets w rs)) ++ rows_octets w rs ++ xs

pub same_set : (w n d : ℕ) (b : Bool) (rs qs : List RolledRow) (xs ys : List ℕ) → w < 2 ^ 32 → n < 2 ^ 16
    → length rs ≤ 1000 → length qs ≤ 1000 → AllByRecursion (IsOf w d b) rs → AllByRecursion (IsOf w d b) qs
    → in_set w n rs xs ≡ in_set w n qs ys → (rs ≡ qs) × (xs ≡ ys)
same_set w n d b rs qs xs ys wide small fr fq hr hq e =
    let lr = rows_long w rs in
    let lq = rows_long w qs in
    let number = same_number w16 (2 ^ 16) wide16 n n
    (to_be_bytes w16 (4 + length (rows_octets w rs)) ++ rows_octets w rs ++ xs)
    (to_be_bytes w16 (4 + length (rows_octets w qs)) ++ rows_octets w qs ++ ys) small small e in
    let len = same_number w16 (2 ^ 16) wide16 (4 + length (rows_octets w rs)) (4 + length (rows_octets w qs))
    (rows_octets w rs ++ xs) (rows_octets w qs ++ ys) (omega (arith, lr, fr)) (omega (arith, lq, fq)) number.1 in
    let body = same_front (rows_octets w rs) (rows_octets w qs) xs ys (let l = len.0 in omega (arith, l)) len.1 in
    (same_rows_octets w d b rs qs wide hr hq body.0, body.1)
