-- What the device has after a sync.
use Rattle.std.proofs.Common.{◌≡◌, ◌≢◌, ◌⊎◌, inl, inr, ⊎_elim, ℕ, ◌<◌, ◌≤◌, min, Bool, true, false, List}
use Rattle.std.proofs.Common.{length, take, get_or, refl, sym, ◌∙◌, ap, subst, arith, nat_le, ◌||◌, if◌then◌else◌, length-take}
use Rattle.std.proofs.lemmas.List.{get_or-take, ext_get_or}
use Rattle.std.proofs.lemmas.Bool.{false≢true}
use Rattle.std.proofs.lemmas.Bool.Decides.{nat_tests}
use Rattle.flow_memory_directory.specs.declared.mark.Mark.{Mark}
use Rattle.flow_memory_directory.specs.declared.mark.Mark.TheVariants.{Clean, Dirty, Lost}
use Rattle.flow_memory_directory.specs.declared.node.Node.{Node}
use Rattle.flow_memory_directory.specs.Bound.{IsBetween}
use Rattle.flow_memory_directory.specs.Marks.{is_dirty, is_lost, after_failure, mark_at, block_at}
use Rattle.flow_memory_directory.specs.Nodes.{device_in, NodeSyncs, NodeFails, NodeReverts, IsNodeWhole, IsNodeClean}

not_past : (m n : ℕ) → n < m → nat_le m n ≡ false
not_past m n lt = grind (arith, nat_tests)

-- what is at a place where nothing is lost
pub taken : (octets : List ℕ) (marks : List Mark) (blocks : List ℕ) (place : ℕ) → place < length octets
    → is_lost (mark_at marks place) ≡ false → block_at octets marks blocks place ≡ get_or octets place 0
taken octets marks blocks place lt kept =
    ap (λ (b : Bool). if (b || is_lost (mark_at marks place)) then get_or blocks place 0 else get_or octets place 0)
    (not_past (length octets) place lt)
    ∙ ap (λ (b : Bool). if b then get_or blocks place 0 else get_or octets place 0) kept

-- where both agree it is that
pub agreed : (octets : List ℕ) (marks : List Mark) (blocks : List ℕ) (place : ℕ)
    → get_or octets place 0 ≡ get_or blocks place 0 → block_at octets marks blocks place ≡ get_or blocks place 0
agreed octets marks blocks place same = either (nat_le (length octets) place || is_lost (mark_at marks place))
  where
    either : (b : Bool) → (if b then get_or blocks place 0 else get_or octets place 0) ≡ get_or blocks place 0
    either true = refl
    either false = same

module _ (was to : Node) (syncs : NodeSyncs was to) (within : to.end ≤ length to.blocks.items) where
  pub device_whole : IsNodeWhole was → device_in to ≡ was.octets.items
  device_whole whole = ext_get_or 0 (take to.end to.blocks.items) was.octets.items
      (omega (arith, length-take to.end to.blocks.items, within, end))
      (λ place lt. get_or-take to.end to.blocks.items place 0
      (omega (arith, length-take to.end to.blocks.items, lt))
      ∙ syncs.each whole.entry_is place (omega (arith, length-take to.end to.blocks.items, lt))
      ∙ taken was.octets.items was.marks.items was.blocks.items place
      (omega (arith, length-take to.end to.blocks.items, lt, end)) (whole.octets place))
    where
      end : to.end ≡ length was.octets.items
      end = syncs.long whole.entry_is
          ∙ ap (λ (b : Bool). if b then was.end else length was.octets.items) whole.size_is

  module _ (before : was.end ≤ length was.blocks.items) where
    old_end : length (device_in was) ≡ was.end
    old_end = omega (arith, length-take was.end was.blocks.items, before)

    new_end : length (device_in to) ≡ to.end
    new_end = omega (arith, length-take to.end to.blocks.items, within)

    named : was.entry ≡ Clean → IsBetween was.octets.items (device_in was) (device_in to)
    named entry = record {
      long = omega (arith, old_end, new_end, least);
      end = λ same. new_end ∙ ends same ∙ sym old_end;
      same = λ place low high same.
          get_or-take to.end to.blocks.items place 0 (omega (arith, least, low, high, old_end))
          ∙ syncs.each entry place (omega (arith, syncs.blocks_long entry, low))
          ∙ agreed was.octets.items was.marks.items was.blocks.items place
          (same ∙ get_or-take was.end was.blocks.items place 0 (omega (arith, high, old_end)))
          ∙ sym (get_or-take was.end was.blocks.items place 0 (omega (arith, high, old_end)));
    }
      where
        either : (b : Bool) → to.end ≡ (if b then was.end else length was.octets.items)
            → (to.end ≡ was.end) ⊎ (to.end ≡ length was.octets.items)
        either true is = inl is
        either false is = inr is

        choice : (to.end ≡ was.end) ⊎ (to.end ≡ length was.octets.items)
        choice = either (is_lost was.size) (syncs.long entry)

        least : min (length was.octets.items) was.end ≤ to.end
        least = ⊎_elim (λ old. omega (arith, old)) (λ new. omega (arith, new)) choice

        ends : length was.octets.items ≡ length (device_in was) → to.end ≡ was.end
        ends same = ⊎_elim (λ old. old) (λ new. omega (arith, new, same, old_end)) choice

    unnamed : was.entry ≢ Clean → IsBetween was.octets.items (device_in was) (device_in to)
    unnamed differs = subst (λ (l : List ℕ). IsBetween was.octets.items (device_in was) l)
        (sym (syncs.unnamed differs)) (record {
          long = omega arith;
          end = λ same. refl;
          same = λ place low high same. refl;
        })

    pub device_some : IsBetween was.octets.items (device_in was) (device_in to)
    device_some = by_entry was.entry refl
      where
        by_entry : (m : Mark) → was.entry ≡ m → IsBetween was.octets.items (device_in was) (device_in to)
        by_entry Clean is = named is
        by_entry Dirty is = unnamed (λ other. false≢true (ap is_dirty (sym other ∙ is)))
        by_entry Lost is = unnamed (λ other. false≢true (ap is_lost (sym other ∙ is)))

-- a file that is clean, under a durable name
pub device_clean : (node : Node) → node.entry ≡ Clean → IsNodeClean node → device_in node ≡ node.octets.items
device_clean node named clean = ext_get_or 0 (take node.end node.blocks.items) node.octets.items
    (omega (arith, long, end))
    (λ place lt. get_or-take node.end node.blocks.items place 0 (omega (arith, long, lt))
    ∙ (node.kept named).same place (omega (arith, long, lt, end)) (clean.octets place))
  where
    long : length (take node.end node.blocks.items) ≡ node.end
    long = omega (arith, length-take node.end node.blocks.items, node.end_within, node.blocks.ok.0)

    end : node.end ≡ length node.octets.items
    end = (node.kept named).end_is clean.size_is

-- after a failed sync: what was kept, and what was dropped
pub kept_between : (octets device : List ℕ) → IsBetween octets device octets
kept_between octets device = record {
  long = omega arith;
  end = λ same. same;
  same = λ place low high same. same;
}

module _ (was mid to : Node) (fails : NodeFails was mid) (reverts : NodeReverts mid to) where
  reads : (place : ℕ) → place < length was.octets.items → get_or to.octets.items place 0
      ≡ block_at was.octets.items mid.marks.items (device_in was) place
  reads place lt = reverts.each place (subst (λ (l : List ℕ). place < length l) (sym fails.octets_are) lt)
      ∙ ap (λ (l : List ℕ). block_at l mid.marks.items (device_in mid) place) fails.octets_are
      ∙ ap (λ (l : List ℕ). block_at was.octets.items mid.marks.items l place) fails.device_is

  long : length to.octets.items ≡ length was.octets.items
  long = reverts.long ∙ ap (λ (l : List ℕ). length l) fails.octets_are

  pub dropped_between : IsBetween was.octets.items (device_in was) to.octets.items
  dropped_between = record {
    long = omega (arith, long);
    end = λ same. long ∙ same;
    same = λ place low high same. reads place low
        ∙ agreed was.octets.items mid.marks.items (device_in was) place same;
  }

  pub dropped_clean : IsNodeClean was → to.octets.items ≡ was.octets.items
  dropped_clean clean = ext_get_or 0 to.octets.items was.octets.items long
      (λ place lt. let low : place < length was.octets.items = omega (arith, lt, long) in
      reads place low
      ∙ taken was.octets.items mid.marks.items (device_in was) place low
      (ap is_lost (fails.marks_are place ∙ ap after_failure (clean.octets place))))
