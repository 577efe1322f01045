-- The manifest after a seal is valid.
use Rattle.std.proofs.Common.{◌≡◌, ◌≢◌, ℕ, ◌+◌, ◌-◌, ◌<◌, ◌≤◌, ◌^◌, List, [], ◌∷◌, ◌++◌, length, take, get_or, refl}
use Rattle.std.proofs.Common.{sym, ◌∙◌, ap, arith, append_assoc, length-append}
use Rattle.std.specs.List.{AllByRecursion, sum_by}
use Rattle.std.proofs.lemmas.List.Sums.{sum_by-cons, sum_by-append}
use Rattle.flow_manifest.specs.declared.manifest.Kind.{Kind}
use Rattle.flow_manifest.specs.declared.manifest.Entry.{Entry}
use Rattle.flow_manifest.specs.declared.manifest.Manifest.{Manifest}
use Rattle.flow_manifest.specs.Manifest.{IsValidManifest, IsEntry, rank, wide_messages, rolled_messages}
use Rattle.flow_manifest.specs.Following.{messages_of, no_entry, active_of, front_of, sealed_entry, active_entry}
use Rattle.flow_manifest.specs.Following.{next_manifest}
use Rattle.flow_manifest.proofs.EntryLists.{all_by, order_front}
use Rattle.flow_manifest.proofs.ValidEntries.{split, first_push, last_push, IsOther, changed_valid, order_too, is_kind}
use Rattle.flow_manifest.proofs.ValidEntries.{is_entry, has_none, are_entries, front_long, front_sum}

module _ (m : Manifest) (valid : IsValidManifest m) where
  module _ (end count file prefix : ℕ) where
    abbrev s : Entry
    s = sealed_entry (active_of m) end count

    abbrev a : Entry
    a = active_entry file prefix

    sum_two : (f : Entry → ℕ) → f (active_of m) ≡ 0 → f a ≡ 0
        → sum_by f (front_of m ++ s ∷ a ∷ []) ≡ sum_by f m.entries + f s
    sum_two f zero none =
        omega (
          arith,
          sum_by-append f (front_of m) (s ∷ a ∷ []),
          sum_by-cons f s (a ∷ []),
          sum_by-cons f a [],
          front_sum m valid f zero,
          none,
        )

    pub next_active : active_of (next_manifest m end count file prefix) ≡ a
    next_active = ap (λ (l : List Entry). get_or l (length l - 1) no_entry)
        (sym (append_assoc (front_of m) (s ∷ []) (a ∷ []))) ∙ last_push (front_of m ++ s ∷ []) a

    pub next_front : front_of (next_manifest m end count file prefix) ≡ front_of m ++ s ∷ []
    next_front = ap (λ (l : List Entry). take (length l - 1) l) (sym (append_assoc (front_of m) (s ∷ []) (a ∷ [])))
        ∙ first_push (front_of m ++ s ∷ []) a

    pub next_valid : m.generation + 1 < 2 ^ 64 → length m.entries < 4096 → m.next ≤ file → file + 1 < 2 ^ 64
        → prefix < 2 ^ 32 → 1 ≤ count → (active_of m).prefix + 16 ≤ end → end ≤ (active_of m).prefix + m.limit
        → messages_of m.entries + count < 2 ^ 48 → IsValidManifest (next_manifest m end count file prefix)
    next_valid generation few file_from next short some long within all =
        changed_valid m valid (front_of m) (active_of m ∷ []) (split m valid) (m.generation + 1) (file + 1) m.rolled m.second s
        (a ∷ []) generation next (omega (arith, file_from))
        (omega (arith, length-append (front_of m) (s ∷ a ∷ []), front_long m valid, few)) (omega arith)
        (all_by (λ e. rank e.kind < 3) (λ e. rank e.kind ≤ 2) (λ e lt. omega (arith, lt)) (front_of m)
        (order_front (front_of m) (active_of m) (order_too m valid)))
        (omega arith, omega arith, refl)
        (((λ same. omega (arith, same, (is_entry m valid).file_below, file_from)), tt), (tt, tt))
        (all_by (IsOther m) (λ e. AllByRecursion (λ o. o.file ≢ e.file) (s ∷ a ∷ []))
        (λ e other. (
          (λ same. other.apart (sym same)),
          ((λ same. omega (arith, same, other.entry.file_below, file_from)), tt),
        )) (front_of m) (are_entries m valid).front)
        (sealed_is, (active_is, tt))
        (sum_two (λ e. wide_messages e.kind e.messages)
        (ap (λ (k : Kind). wide_messages k (active_of m).messages) (is_kind m valid)) refl ∙ omega (arith, valid.wide))
        (sum_two (λ e. rolled_messages e.kind e.messages)
        (ap (λ (k : Kind). rolled_messages k (active_of m).messages) (is_kind m valid)) refl ∙ omega (arith, valid.cut))
        (omega (arith, sum_two (λ e. e.messages) (has_none m valid) refl, all))
      where
        sealed_is : IsEntry m.limit (file + 1) s
        sealed_is = record {
          fits = record {
            prefix = (is_entry m valid).fits.prefix;
            file = (is_entry m valid).fits.file;
            octets =
                omega (arith, within, (is_entry m valid).fits.prefix, valid.ranges.limit_to);
            messages = omega (arith, all);
          };
          file_from = (is_entry m valid).file_from;
          file_below = omega (arith, (is_entry m valid).file_below, file_from);
          shape = (some, long, within);
        }

        active_is : IsEntry m.limit (file + 1) a
        active_is = record {
          fits = record { prefix = short; file = omega (arith, next); octets = omega arith; messages = omega arith };
          file_from = omega (arith, (is_entry m valid).file_from, (is_entry m valid).file_below, file_from);
          file_below = omega arith;
          shape = (refl, refl);
        }
