-- The header of a message, and the octets after it.
use Rattle.std.proofs.Common.{◌≡◌, ◌≢◌, ℕ, ◌+◌, ◌^◌, ◌<◌, ◌≤◌, List, ◌++◌, length, sym}
use Rattle.std.proofs.Common.{ap, ◌∙◌, arith, append_assoc, length-append}
use Rattle.std.specs.Int.{w16, w32, to_be_bytes}
use Rattle.flow_rolled.specs.Messages.{RolledMessage}
use Rattle.flow_rolled.specs.Octets.{sets_of, rolled_header_octets, message_octets, IsRolledMessage}
use Rattle.flow_rolled.proofs.PartOctets.{same_number, wide16, wide32}
use Rattle.flow_rolled.proofs.SameParts.{size, from_domain, from_sequence, from_time, from_length, part_is, sets_long}

part_size : (w : ℕ) (p : RolledMessage) → 16 ≤ length (message_octets w p)
unfolding message_octets
part_size w p = omega arith

-- fewer octets than a header has begin no message
pub too_short : (w : ℕ) (p : RolledMessage) (octets more : List ℕ) → length octets < 16
    → octets ≢ message_octets w p ++ more
too_short w p octets more short e =
    let l = ap (λ (x : List ℕ). length x) e in
    let m = length-append (message_octets w p) more in
    let n = part_size w p in
    omega (arith, l, m, n, short)

-- nor do those of another version
pub other_version : (w v : ℕ) (p : RolledMessage) (octets rest more : List ℕ) → v < 2 ^ 16 → v ≢ 10
    → octets ≡ to_be_bytes w16 v ++ rest → octets ≢ message_octets w p ++ more
other_version w v p octets rest more small other is e =
    other (same_number w16 (2 ^ 16) wide16 v 10 rest (from_length w p more) small (omega arith) (sym is ∙ e
    ∙ part_is w p more)).0

-- the numbers of a header that is a message's, and the message's Sets after it
pub record IsHeader (w len time sequence domain : ℕ) (rest : List ℕ) (p : RolledMessage) (more : List ℕ) : Type 0 where
  pub len_is : len ≡ 16 + length (sets_of w p.rows)
  pub time_is : time ≡ p.time
  pub sequence_is : sequence ≡ p.sequence
  pub domain_is : domain ≡ p.domain
  pub rest_is : rest ≡ sets_of w p.rows ++ more

pub header_is : (w len time sequence domain : ℕ) (octets rest : List ℕ) (p : RolledMessage) (more : List ℕ)
    → len < 2 ^ 16
    → time < 2 ^ 32 → sequence < 2 ^ 32 → domain < 2 ^ 32
    → octets ≡ rolled_header_octets len time sequence domain ++ rest → IsRolledMessage w p → octets
    ≡ message_octets w p ++ more
    → IsHeader w len time sequence domain rest p more
header_is w len time sequence domain octets rest p more fl ft fs fd is h e =
    let lp = sets_long w p.domain p.rows h.rows in
    let version = same_number w16 (2 ^ 16) wide16 10 10
    (to_be_bytes w16 len ++
    (to_be_bytes w32 time ++ (to_be_bytes w32 sequence ++ (to_be_bytes w32 domain ++ rest))))
    (from_length w p more) (omega arith) (omega arith) (sym is ∙ e ∙ part_is w p more) in
    let l = same_number w16 (2 ^ 16) wide16 len (size w p)
    (to_be_bytes w32 time ++ (to_be_bytes w32 sequence ++ (to_be_bytes w32 domain ++ rest)))
    (from_time w p more) fl (omega (arith, lp)) version.1 in
    let t = same_number w32 (2 ^ 32) wide32 time p.time (to_be_bytes w32 sequence ++ (to_be_bytes w32 domain ++ rest))
    (from_sequence w p more) ft h.time l.1 in
    let s = same_number w32 (2 ^ 32) wide32 sequence p.sequence (to_be_bytes w32 domain ++ rest)
    (from_domain w p more) fs h.sequence t.1 in
    let d = same_number w32 (2 ^ 32) wide32 domain p.domain rest (sets_of w p.rows ++ more) fd h.domain s.1 in
    record { len_is = l.0; time_is = t.0; sequence_is = s.0; domain_is = d.0; rest_is = d.1 }

-- a header with the Sets after it is a message
pub message_made : (w len time sequence domain : ℕ) (octets rest sets after : List ℕ) (p : RolledMessage)
    → octets ≡ rolled_header_octets len time sequence domain ++ rest → rest ≡ sets ++ after → sets ≡ sets_of w p.rows
    → len ≡ 16 + length sets → p.time ≡ time → p.sequence ≡ sequence → p.domain ≡ domain
    → octets ≡ message_octets w p ++ after
unfolding message_octets
message_made w len time sequence domain octets rest sets after p is is_2 sets_are len_is et es ed =
    is ∙ (λ i. rolled_header_octets ((len_is ∙ ap (λ (l : List ℕ). 16 + length l) sets_are) i) (sym et i) (sym es i)
    (sym ed i) ++ (is_2 ∙ ap (λ (l : List ℕ). l ++ after) sets_are) i)
    ∙ sym (append_assoc (rolled_header_octets (16 + length (sets_of w p.rows)) p.time p.sequence p.domain)
    (sets_of w p.rows) after)
