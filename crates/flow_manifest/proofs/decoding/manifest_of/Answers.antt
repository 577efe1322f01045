use Rattle.std.proofs.Common.{rules, ◌≡◌, ℕ, List, length, inr, refl, ap, sym, subst, ◌∙◌, ◌*◌, arith, IsTrue, false}
use Rattle.std.specs.List.{flat_map, AllByRecursion}
use Rattle.flow_manifest.specs.declared.manifest.Entry.{Entry}
use Rattle.flow_manifest.specs.declared.head.Head.{Head}
use Rattle.flow_manifest.specs.declared.manifest.Manifest.{Manifest}
use Rattle.flow_manifest.specs.Manifest.{FitsHead, FitsEntry, IsInRange, IsValidManifest, head_of, entry_octets}
use Rattle.flow_manifest.proofs.Decoded.{counted}
use Rattle.flow_manifest.proofs.Bodies.{same_valid}
use Rattle.flow_manifest.proofs.decoding.manifest_of.Goals as goal

abbrev of : Head → List Entry → Manifest
of head entries = record {
  generation = head.generation;
  width = head.width;
  wide = head.wide;
  limit =
      head.limit;
  next = head.next;
  rolled = head.rolled;
  second = head.second;
  entries = entries;
}

same_head : (head : Head) (entries : List Entry) → length entries ≡ head.count → head_of (of head entries) ≡ head
same_head head entries is =
    let with_count : ℕ → Head =
    λ n. record {
      generation = head.generation;
      width = head.width;
      wide = head.wide;
      limit = head.limit;
      next =
          head.next;
      rolled = head.rolled;
      second = head.second;
      count = n;
    } in
    ap with_count is

pub is_valid-requires-clause-fits : goal.is_valid-requires-clause-fits
is_valid-requires-clause-fits c =
    let entries : flat_map entry_octets c.from_vec.result ≡ c.args.octets.now =
    ap (flat_map entry_octets) c.from_vec.ensures ∙ c.in_ok-entries.ensures.found in
    subst FitsHead (sym (same_head c.args.head c.from_vec.result
    (counted c.from_vec.result c.args.octets.now c.args.head.count entries
    (omega (arith, c.if-octets-head.false))))) c.requires

pub is_valid-requires-clause-ranges : goal.is_valid-requires-clause-ranges
is_valid-requires-clause-ranges c =
    let entries : flat_map entry_octets c.from_vec.result ≡ c.args.octets.now =
    ap (flat_map entry_octets) c.from_vec.ensures ∙ c.in_ok-entries.ensures.found in
    let ranges : IsInRange c.args.head = search rules in
    subst IsInRange (sym (same_head c.args.head c.from_vec.result
    (counted c.from_vec.result c.args.octets.now c.args.head.count entries
    (omega (arith, c.if-octets-head.false))))) ranges

pub returns-then-not-is_valid-clause-fault : goal.returns-then-not-is_valid-clause-fault
returns-then-not-is_valid-clause-fault c =
    let entries : flat_map entry_octets c.from_vec.result ≡ c.args.octets.now =
    ap (flat_map entry_octets) c.from_vec.ensures ∙ c.in_ok-entries.ensures.found in
    let count : length c.args.octets.now ≡ 32 * c.args.head.count = omega (arith, c.if-octets-head.false) in
    let one : head_of (of c.args.head c.from_vec.result) ≡ c.args.head =
    same_head c.args.head c.from_vec.result
    (counted c.from_vec.result c.args.octets.now c.args.head.count entries count) in
    let ranges : IsInRange c.args.head = search rules in
    let fit : AllByRecursion FitsEntry c.from_vec.result =
    subst (AllByRecursion FitsEntry) (sym c.from_vec.ensures) c.in_ok-entries.ensures.fit in
    inr (inr (inr (
      ranges,
      count,
      (λ m valid head_is octets_is.
          let same = same_valid m (of c.args.head c.from_vec.result) valid fit (head_is ∙ sym one) (octets_is
          ∙ sym entries) in
          let good = c.is_valid.ensures.1 (subst IsValidManifest same valid) in
          let bad : IsTrue false = subst IsTrue c.if-not-is_valid.true good in search rules),
      refl,
    )))

pub returns-clause-found : goal.returns-clause-found
returns-clause-found c =
    let entries : flat_map entry_octets c.from_vec.result ≡ c.args.octets.now =
    ap (flat_map entry_octets) c.from_vec.ensures ∙ c.in_ok-entries.ensures.found in
    let valid : IsValidManifest (of c.args.head c.from_vec.result) = search rules in (
      valid,
      same_head c.args.head c.from_vec.result
          (counted c.from_vec.result c.args.octets.now c.args.head.count entries
          (omega (arith, c.if-octets-head.false))),
      entries,
    )
