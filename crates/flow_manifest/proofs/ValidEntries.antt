-- The entries of a valid manifest, and when other ones make a valid one.
use Rattle.std.proofs.Common.{◌≡◌, ◌≢◌, ℕ, ◌+◌, ◌-◌, ◌<◌, ◌≤◌, ◌^◌, List, [], ◌∷◌, ◌++◌, length, take, get_or, refl}
use Rattle.std.proofs.Common.{sym, ◌∙◌, ap, subst, arith, length-append}
use Rattle.std.specs.List.{AllByRecursion, sum_by}
use Rattle.std.proofs.lemmas.List.{take_more, take_all, take_at, get_or_push}
use Rattle.std.proofs.lemmas.List.Sums.{sum_by-cons, sum_by-append, sum_by-le-sum_by}
use Rattle.flow_manifest.specs.declared.manifest.Kind.{Kind}
use Rattle.flow_manifest.specs.declared.manifest.Kind.TheVariants.{Wide, Rolled, Sealed, Active}
use Rattle.flow_manifest.specs.declared.manifest.Entry.{Entry}
use Rattle.flow_manifest.specs.declared.manifest.Manifest.{Manifest}
use Rattle.flow_manifest.specs.Manifest.{IsValidManifest, IsInOrder, HaveOwnFiles, IsEntry, HasShape, rank}
use Rattle.flow_manifest.specs.Manifest.{wide_messages, rolled_messages}
use Rattle.flow_manifest.specs.Following.{messages_of, no_entry, active_of, front_of}
use Rattle.flow_manifest.proofs.EntryLists.{all_left, all_right, all_join, all_by, all_both, AreApart, own_left}
use Rattle.flow_manifest.proofs.EntryLists.{own_apart, own_join, order_last, order_front, order_join}

-- ---- the entries of a valid manifest

-- the active entry comes after the others
pub split : (m : Manifest) → IsValidManifest m → m.entries ≡ front_of m ++ active_of m ∷ []
split m valid =
    let some : 1 ≤ length m.entries = valid.ranges.count_from in
    sym (take_all (length m.entries - 1 + 1) m.entries (omega (arith, some)))
    ∙ take_more m.entries (length m.entries - 1) no_entry (omega (arith, some))

-- an entry that is appended to others is the last one
pub first_push : (xs : List Entry) (x : Entry) → take (length (xs ++ x ∷ []) - 1) (xs ++ x ∷ []) ≡ xs
first_push xs x = ap (λ (n : ℕ). take n (xs ++ x ∷ [])) (omega (arith, length-append xs (x ∷ [])))
    ∙ take_at xs (x ∷ []) (length xs) refl

pub last_push : (xs : List Entry) (x : Entry) → get_or (xs ++ x ∷ []) (length (xs ++ x ∷ []) - 1) no_entry ≡ x
last_push xs x = get_or_push xs x no_entry (length (xs ++ x ∷ []) - 1) (omega (arith, length-append xs (x ∷ [])))

active_kind : (kind : Kind) → rank kind ≡ 3 → kind ≡ Active
active_kind Wide is = absurd (omega (arith, is))
active_kind Rolled is = absurd (omega (arith, is))
active_kind Sealed is = absurd (omega (arith, is))
active_kind Active is = refl

-- a file that isn't the active one
pub record IsOther (m : Manifest) (e : Entry) : Type 0 where
  pub entry : IsEntry m.limit m.next e
  pub apart : e.file ≢ (active_of m).file
  pub kind : rank e.kind < 3

-- what the entries of a valid manifest are
pub record AreEntries (m : Manifest) : Type 0 where
  pub kind : (active_of m).kind ≡ Active
  pub active : IsEntry m.limit m.next (active_of m)
  pub none : (active_of m).messages ≡ 0
  pub front : AllByRecursion (IsOther m) (front_of m)

-- no more messages are rolled than there are
rolled_most : (kind : Kind) (messages : ℕ) → rolled_messages kind messages ≤ messages
rolled_most Wide messages = omega arith
rolled_most Rolled messages = omega arith
rolled_most Sealed messages = omega arith
rolled_most Active messages = omega arith

wide_most : (kind : Kind) (messages : ℕ) → wide_messages kind messages ≤ messages
wide_most Wide messages = omega arith
wide_most Rolled messages = omega arith
wide_most Sealed messages = omega arith
wide_most Active messages = omega arith

pub rolled_within : (xs : List Entry) → sum_by (λ e. rolled_messages e.kind e.messages) xs ≤ messages_of xs
rolled_within xs = sum_by-le-sum_by (λ (e : Entry). rolled_messages e.kind e.messages) (λ (e : Entry). e.messages) xs
    (λ e. rolled_most e.kind e.messages)

pub wide_within : (xs : List Entry) → sum_by (λ e. wide_messages e.kind e.messages) xs ≤ messages_of xs
wide_within xs = sum_by-le-sum_by (λ (e : Entry). wide_messages e.kind e.messages) (λ (e : Entry). e.messages) xs
    (λ e. wide_most e.kind e.messages)

-- ---- a valid manifest

module _ (m : Manifest) (valid : IsValidManifest m) where
  pub later : (next : ℕ) → m.next ≤ next → (xs : List Entry) → AllByRecursion (IsEntry m.limit m.next) xs
      → AllByRecursion (IsEntry m.limit next) xs
  later next le xs all = all_by (IsEntry m.limit m.next) (IsEntry m.limit next)
      (λ e one. record {
        fits = one.fits;
        file_from = one.file_from;
        file_below =
            omega (arith, one.file_below, le);
        shape = one.shape;
      }) xs all

  -- other entries after its own first ones
  module _ (xs zs : List Entry) (is : m.entries ≡ xs ++ zs) where
    pub changed_valid : (generation next rolled second : ℕ) (n : Entry) (ys : List Entry) → generation < 2 ^ 64
        → next < 2 ^ 64 → m.next ≤ next → length (xs ++ n ∷ ys) ≤ 4096
        → rank n.kind < 3 → AllByRecursion (λ e. rank e.kind ≤ rank n.kind) xs → IsInOrder (n ∷ ys)
        → HaveOwnFiles (n ∷ ys) → AreApart xs (n ∷ ys) → AllByRecursion (IsEntry m.limit next) (n ∷ ys)
        → sum_by (λ e. wide_messages e.kind e.messages) (xs ++ n ∷ ys) ≡ second
        → sum_by (λ e. rolled_messages e.kind e.messages) (xs ++ n ∷ ys) ≡ rolled
        → messages_of (xs ++ n ∷ ys) < 2 ^ 48
        → IsValidManifest (record m {
          generation = generation;
          next = next;
          rolled = rolled;
          second = second;
          entries =
              xs ++ n ∷ ys;
        })
    changed_valid generation next rolled second n ys generation_fits next_fits le few before low order own apart each
        wide cut all = record {
          fits = record {
            generation = generation_fits;
            width = valid.fits.width;
            wide = valid.fits.wide;
            limit = valid.fits.limit;
            next = next_fits;
            rolled = omega (arith, cut, rolled_within (xs ++ n ∷ ys), all);
            second = omega (arith, wide, wide_within (xs ++ n ∷ ys), all);
            count = omega (arith, few);
          };
          ranges = record {
            width_from = valid.ranges.width_from;
            wide_from = valid.ranges.wide_from;
            wide_to = valid.ranges.wide_to;
            wide_multiple = valid.ranges.wide_multiple;
            limit_from = valid.ranges.limit_from;
            limit_to = valid.ranges.limit_to;
            count_from = omega (arith, length-append xs (n ∷ ys));
            count_to = few;
          };
          order = order_join xs zs n ys before (subst IsInOrder is valid.order) low order;
          files = own_join xs (n ∷ ys) (own_left xs zs (subst HaveOwnFiles is valid.files)) own apart;
          each = all_join_entries;
          wide = wide;
          cut = cut;
          all = all;
        }
      where
        all_join_entries : AllByRecursion (IsEntry m.limit next) (xs ++ n ∷ ys)
        all_join_entries = all_join (IsEntry m.limit next) xs (n ∷ ys)
            (later next le xs (all_left (IsEntry m.limit m.next) xs zs
            (subst (AllByRecursion (IsEntry m.limit m.next)) is valid.each))) each

  pub order_too : IsInOrder (front_of m ++ active_of m ∷ [])
  order_too = subst IsInOrder (split m valid) valid.order

  own_too : HaveOwnFiles (front_of m ++ active_of m ∷ [])
  own_too = subst HaveOwnFiles (split m valid) valid.files

  each_too : AllByRecursion (IsEntry m.limit m.next) (front_of m ++ active_of m ∷ [])
  each_too = subst (AllByRecursion (IsEntry m.limit m.next)) (split m valid) valid.each

  pub is_kind : (active_of m).kind ≡ Active
  is_kind = active_kind (active_of m).kind (order_last (front_of m) (active_of m) order_too)

  pub is_entry : IsEntry m.limit m.next (active_of m)
  is_entry = (all_right (IsEntry m.limit m.next) (front_of m) (active_of m ∷ []) each_too).0

  pub has_none : (active_of m).messages ≡ 0
  has_none = let shape = subst (λ (k : Kind). HasShape m.limit k (active_of m)) is_kind is_entry.shape in shape.1

  front_apart : AllByRecursion (λ e. e.file ≢ (active_of m).file) (front_of m)
  front_apart = all_by (λ e. AllByRecursion (λ o. o.file ≢ e.file) (active_of m ∷ []))
      (λ e. e.file ≢ (active_of m).file)
      (λ e apart same. apart.0 (sym same)) (front_of m) (own_apart (front_of m) (active_of m ∷ []) own_too)

  pub are_entries : AreEntries m
  are_entries = record {
    kind = is_kind;
    active = is_entry;
    none = has_none;
    front = all_both (λ e. IsEntry m.limit m.next e × (e.file ≢ (active_of m).file)) (λ e. rank e.kind < 3) (IsOther m)
        (λ e one kind. record { entry = one.0; apart = one.1; kind = kind }) (front_of m)
        (all_both (IsEntry m.limit m.next) (λ e. e.file ≢ (active_of m).file) (λ e. IsEntry m.limit m.next e
        × (e.file ≢ (active_of m).file)) (λ e one apart. (one, apart)) (front_of m)
        (all_left (IsEntry m.limit m.next) (front_of m) (active_of m ∷ []) each_too) front_apart)
        (order_front (front_of m) (active_of m) order_too);
  }

  pub front_long : length (front_of m) + 1 ≡ length m.entries
  front_long = sym (length-append (front_of m) (active_of m ∷ []))
      ∙ ap (λ (l : List Entry). length l) (sym (split m valid))

  -- what the active entry doesn't count, the others count
  pub front_sum : (f : Entry → ℕ) → f (active_of m) ≡ 0 → sum_by f (front_of m) ≡ sum_by f m.entries
  front_sum f zero = omega (
    arith,
    sum_by-append f (front_of m) (active_of m ∷ []),
    sum_by-cons f (active_of m) [],
    ap (λ (l : List Entry). sum_by f l) (split m valid),
    zero,
  )

  pub all_sum : messages_of (front_of m) ≡ messages_of m.entries
  all_sum = front_sum (λ e. e.messages) has_none
