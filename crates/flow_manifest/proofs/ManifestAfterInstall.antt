-- The manifest after an install is valid.
use Rattle.std.proofs.Common.{◌≡◌, ◌≢◌, ℕ, ◌+◌, ◌-◌, ◌<◌, ◌≤◌, ◌^◌, List, [], ◌∷◌, ◌++◌, length, take, drop, get_or}
use Rattle.std.proofs.Common.{refl, sym, ◌∙◌, ap, subst, arith, append_assoc, length-append, length-drop}
use Rattle.std.specs.List.{AllByRecursion, sum_by}
use Rattle.std.proofs.lemmas.List.{take-append-drop, take-append-le, drop-append-le, drop-drop, drop-take}
use Rattle.std.proofs.lemmas.List.{length-take-le}
use Rattle.std.proofs.lemmas.List.Sums.{sum_by-cons, sum_by-append}
use Rattle.flow_manifest.specs.declared.manifest.Kind.{Kind}
use Rattle.flow_manifest.specs.declared.manifest.Kind.TheVariants.{Wide, Rolled, Sealed, Active}
use Rattle.flow_manifest.specs.declared.manifest.Entry.{Entry}
use Rattle.flow_manifest.specs.declared.manifest.Manifest.{Manifest}
use Rattle.flow_manifest.specs.declared.following.JobKind.{JobKind}
use Rattle.flow_manifest.specs.declared.following.JobKind.TheVariants.{Roll, Merge}
use Rattle.flow_manifest.specs.declared.following.Staged.{Staged}
use Rattle.flow_manifest.specs.Manifest.{IsValidManifest, IsInOrder, HaveOwnFiles, IsEntry, HasShape, rank}
use Rattle.flow_manifest.specs.Manifest.{wide_messages, rolled_messages}
use Rattle.flow_manifest.specs.Following.{messages_of, no_entry, active_of, front_of, source_of, made_of, count_of}
use Rattle.flow_manifest.specs.Following.{count_before, sources_of, made_entry, cut_by, second_cut_by}
use Rattle.flow_manifest.specs.Following.{installed_manifest}
use Rattle.flow_manifest.proofs.EntryLists.{all_by, all_both, all_take, all_drop, own_right, own_apart, sorted}
use Rattle.flow_manifest.proofs.EntryLists.{order_right, order_cons, below, front_low, rest_high, below_short}
use Rattle.flow_manifest.proofs.EntryLists.{below_next, sum_same, sum_none, sum_some}
use Rattle.flow_manifest.proofs.ValidEntries.{split, first_push, last_push, rolled_within, wide_within, changed_valid}
use Rattle.flow_manifest.proofs.ValidEntries.{later, front_long}

-- ---- the kinds of a job

source_rank : (job : JobKind) → rank (source_of job) ≡ rank (made_of job) + 1
source_rank Roll = refl
source_rank Merge = refl

source_low : (job : JobKind) → rank (source_of job) < 3
source_low Roll = omega arith
source_low Merge = omega arith

made_shape : (job : JobKind) (limit : ℕ) (e : Entry) → e.prefix ≡ 0 → 1 ≤ e.messages → HasShape limit (made_of job) e
made_shape Roll limit e none some = (none, some)
made_shape Merge limit e none some = (none, some)

made_rolled : (job : JobKind) (messages : ℕ) → rolled_messages (made_of job) messages ≡ messages
made_rolled Roll messages = refl
made_rolled Merge messages = refl

made_wide : (job : JobKind) (messages : ℕ) → wide_messages (made_of job) messages ≡ second_cut_by job messages
made_wide Roll messages = refl
made_wide Merge messages = refl

-- an entry that isn't the active one has messages
some_messages : (limit : ℕ) (e : Entry) (kind : Kind) → rank kind < 3 → HasShape limit kind e → 1 ≤ e.messages
some_messages limit e Wide low shape = shape.1
some_messages limit e Rolled low shape = shape.1
some_messages limit e Sealed low shape = shape.0
some_messages limit e Active low shape = absurd (omega (arith, low))

sealed_counts : (kind : Kind) (messages : ℕ) → rank kind ≡ 2 → rolled_messages kind messages ≡ 0
sealed_counts Wide messages is = absurd (omega (arith, is))
sealed_counts Rolled messages is = absurd (omega (arith, is))
sealed_counts Sealed messages is = refl
sealed_counts Active messages is = absurd (omega (arith, is))

rolled_counts : (kind : Kind) (messages : ℕ) → rank kind ≡ 1 → rolled_messages kind messages ≡ messages
rolled_counts Wide messages is = absurd (omega (arith, is))
rolled_counts Rolled messages is = refl
rolled_counts Sealed messages is = absurd (omega (arith, is))
rolled_counts Active messages is = absurd (omega (arith, is))

none_wide : (kind : Kind) (messages : ℕ) → 1 ≤ rank kind → wide_messages kind messages ≡ 0
none_wide Wide messages some = absurd (omega (arith, some))
none_wide Rolled messages some = refl
none_wide Sealed messages some = refl
none_wide Active messages some = refl

-- what the sources add to the cut is what they didn't count before
sources_rolled : (job : JobKind) (xs : List Entry) → AllByRecursion (λ e. rank e.kind ≡ rank (source_of job)) xs
    → sum_by (λ e. rolled_messages e.kind e.messages) xs + cut_by job (messages_of xs) ≡ messages_of xs
sources_rolled Roll xs all =
    omega (
      arith,
      sum_none (λ e. rolled_messages e.kind e.messages) (λ e. rank e.kind ≡ 2)
          (λ e is. sealed_counts e.kind e.messages is) xs all,
    )
sources_rolled Merge xs all =
    omega (
      arith,
      sum_same (λ e. rolled_messages e.kind e.messages) (λ e. e.messages) (λ e. rank e.kind ≡ 1)
          (λ e is. rolled_counts e.kind e.messages is) xs all,
    )

sources_wide : (job : JobKind) (xs : List Entry) → AllByRecursion (λ e. rank e.kind ≡ rank (source_of job)) xs
    → sum_by (λ e. wide_messages e.kind e.messages) xs ≡ 0
sources_wide job xs all =
    sum_none (λ e. wide_messages e.kind e.messages) (λ e. rank e.kind ≡ rank (source_of job))
    (λ e is. none_wide e.kind e.messages (omega (arith, is, source_rank job))) xs all

-- what a call reads of the entries from the sources on
pub rest_read : (m : Manifest) (job : JobKind) (kind : Kind) (old rest : List Entry) → kind ≡ source_of job
    → old ≡ m.entries → rest ≡ drop (count_before kind old) old
    → rest ≡ drop (count_before (source_of job) m.entries) m.entries
rest_read m job kind old rest kind_is old_is is = is ∙ rw (kind_is, old_is) refl

pub front_read : (m : Manifest) (job : JobKind) (kind : Kind) (old front : List Entry) → kind ≡ source_of job
    → old ≡ m.entries → front ≡ take (count_before kind old) old
    → front ≡ take (count_before (source_of job) m.entries) m.entries
front_read m job kind old front kind_is old_is is = is ∙ rw (kind_is, old_is) refl

-- the entries that it joins
pub joined_read : (m : Manifest) (job : JobKind) (count : ℕ) (staged : Staged) (kind : Kind) (messages : ℕ)
    (front behind : List Entry) → front ≡ take (count_before (source_of job) m.entries) m.entries
    → behind ≡ drop count (drop (count_before (source_of job) m.entries) m.entries) → kind ≡ made_of job
    → messages ≡ messages_of (sources_of job count m.entries)
    → front ++ record {
      kind = kind;
      prefix = 0;
      file = staged.file;
      length = staged.length;
      messages =
          messages;
    } ∷ [] ++ behind
    ≡ take (count_before (source_of job) m.entries) m.entries ++ made_entry job staged
    (sources_of job count m.entries) ∷ drop count (drop (count_before (source_of job) m.entries) m.entries)
joined_read m job count staged kind messages front behind front_is behind_is kind_is messages_is =
    rw (front_is, behind_is, kind_is, messages_is)
    (append_assoc (take (count_before (source_of job) m.entries) m.entries)
    (made_entry job staged (sources_of job count m.entries) ∷ [])
    (drop count (drop (count_before (source_of job) m.entries) m.entries)))

pub cut_most : (job : JobKind) (messages : ℕ) → cut_by job messages ≤ messages
cut_most Roll messages = omega arith
cut_most Merge messages = omega arith

pub second_cut_most : (job : JobKind) (messages : ℕ) → second_cut_by job messages ≤ messages
second_cut_most Roll messages = omega arith
second_cut_most Merge messages = omega arith

module _ (m : Manifest) (valid : IsValidManifest m) where
  module _ (job : JobKind) (count : ℕ) (few : count ≤ count_of (source_of job) m.entries) where
    abbrev place : ℕ
    place = count_before (source_of job) m.entries

    abbrev front : List Entry
    front = take place m.entries

    abbrev rest : List Entry
    rest = drop place m.entries

    abbrev sources : List Entry
    sources = sources_of job count m.entries

    abbrev behind : List Entry
    behind = drop (place + count) m.entries

    within : place + count ≤ below (rank (source_of job) + 1) m.entries
    within = omega (arith, few, below_next (source_of job) m.entries)

    -- the active entry comes after the sources
    pub behind_short : place + count < length m.entries
    behind_short = omega (
      arith,
      within,
      below_short (rank (source_of job) + 1) m.entries (omega (arith, source_low job)) valid.order,
    )

    parted : m.entries ≡ front ++ rest
    parted = sym (take-append-drop place m.entries)

    behind_is : drop count rest ≡ behind
    behind_is = drop-drop count place m.entries

    rest_is : rest ≡ sources ++ behind
    rest_is = sym (take-append-drop count rest) ∙ ap (λ (l : List Entry). sources ++ l) behind_is

    sum_split : (f : Entry → ℕ) → sum_by f m.entries ≡ sum_by f front + (sum_by f sources + sum_by f behind)
    sum_split f = ap (λ (l : List Entry). sum_by f l) parted ∙ sum_by-append f front rest
        ∙ ap (λ (n : ℕ). sum_by f front + n) (ap (λ (l : List Entry). sum_by f l) rest_is
        ∙ sum_by-append f sources behind)

    pub sources_most : messages_of sources < 2 ^ 48
    sources_most = omega (arith, sum_split (λ e. e.messages), valid.all)

    -- the cuts stay within their type
    pub cuts_fit : (m.rolled + messages_of sources < 2 ^ 64) × (m.second + messages_of sources < 2 ^ 64)
    cuts_fit = (
      omega (arith, sources_most, valid.cut, rolled_within m.entries, valid.all),
      omega (arith, sources_most, valid.wide, wide_within m.entries, valid.all),
    )

    high : AllByRecursion (λ e. rank (source_of job) ≤ rank e.kind) rest
    high = rest_high (rank (source_of job)) m.entries (sorted m.entries valid.order)

    are_sources : AllByRecursion (λ e. rank e.kind ≡ rank (source_of job)) sources
    are_sources = all_both (λ e. rank (source_of job) ≤ rank e.kind) (λ e. rank e.kind < rank (source_of job) + 1)
        (λ e. rank e.kind ≡ rank (source_of job))
        (λ e more less. omega (arith, more, less)) sources
        (all_take (λ e. rank (source_of job) ≤ rank e.kind) count rest high)
        (subst (AllByRecursion (λ e. rank e.kind < rank (source_of job) + 1)) (drop-take place count m.entries)
        (all_drop (λ e. rank e.kind < rank (source_of job) + 1) place (take (place + count) m.entries)
        (front_low (rank (source_of job) + 1) (place + count) m.entries (sorted m.entries valid.order) within)))

    sources_some : 1 ≤ count → 1 ≤ messages_of sources
    sources_some some = omega (arith, some, long, sum_some sources each_some)
      where
        long : length sources ≡ count
        long = length-take-le count rest (omega (arith, behind_short, length-drop place m.entries))

        each_some : AllByRecursion (λ e. 1 ≤ e.messages) sources
        each_some = all_both (IsEntry m.limit m.next) (λ e. rank e.kind ≡ rank (source_of job)) (λ e. 1 ≤ e.messages)
            (λ e one kind. some_messages m.limit e e.kind (omega (arith, kind, source_low job)) one.shape) sources
            (all_take (IsEntry m.limit m.next) count rest
            (all_drop (IsEntry m.limit m.next) place m.entries valid.each)) are_sources

    module _ (staged : Staged) (next : ℕ) where
      abbrev n : Entry
      n = made_entry job staged sources

      sum_new : (f : Entry → ℕ) → sum_by f (front ++ n ∷ behind) ≡ sum_by f front + (f n + sum_by f behind)
      sum_new f = sum_by-append f front (n ∷ behind) ∙ ap (λ (k : ℕ). sum_by f front + k) (sum_by-cons f n behind)

      pub installed_valid : m.generation + 1 < 2 ^ 64 → 1 ≤ count → 3 ≤ staged.file
          → AllByRecursion (λ e. e.file ≢ staged.file) m.entries → staged.file < next → m.next ≤ next → next < 2 ^ 64
          → staged.length < 2 ^ 64
          → IsValidManifest (installed_manifest m job count staged next)
      installed_valid generation some file unnamed file_below le fits short =
          changed_valid m valid front rest parted (m.generation + 1) next (m.rolled + cut_by job (messages_of sources))
          (m.second + second_cut_by job (messages_of sources)) n behind generation fits le
          (omega (
            arith,
            length-append front (n ∷ behind),
            length-take-le place m.entries (omega (arith, behind_short)),
            length-drop (place + count) m.entries,
            behind_short,
            some,
            valid.ranges.count_to,
          ))
          made_low
          (all_by (λ e. rank e.kind < rank (source_of job)) (λ e. rank e.kind ≤ rank (made_of job))
          (λ e lt. omega (arith, lt, source_rank job)) front
          (front_low (rank (source_of job)) place m.entries (sorted m.entries valid.order) (omega arith)))
          (order_cons n behind made_low some_behind
          (all_by (λ e. rank (source_of job) ≤ rank e.kind) (λ e. rank (made_of job) ≤ rank e.kind)
          (λ e more. omega (arith, more, source_rank job)) behind
          (subst (AllByRecursion (λ e. rank (source_of job) ≤ rank e.kind)) behind_is
          (all_drop (λ e. rank (source_of job) ≤ rank e.kind) count rest high)))
          (order_right (take (place + count) m.entries) behind some_behind
          (subst IsInOrder (sym (take-append-drop (place + count) m.entries)) valid.order))) (
            all_drop (λ e. e.file ≢ staged.file) (place + count) m.entries unnamed,
            own_right (take (place + count) m.entries) behind
                (subst HaveOwnFiles (sym (take-append-drop (place + count) m.entries)) valid.files),
          )
          (all_both (λ e. e.file ≢ staged.file) (λ e. AllByRecursion (λ o. o.file ≢ e.file) rest)
          (λ e. AllByRecursion (λ o. o.file ≢ e.file) (n ∷ behind))
          (λ e differs apart. (
            (λ same. differs (sym same)),
            subst (AllByRecursion (λ o. o.file ≢ e.file)) behind_is
                (all_drop (λ o. o.file ≢ e.file) count rest apart),
          )) front
          (all_take (λ e. e.file ≢ staged.file) place m.entries unnamed)
          (own_apart front rest (subst HaveOwnFiles parted valid.files)))
          (made_is, later m valid next le behind (all_drop (IsEntry m.limit m.next) (place + count) m.entries valid.each))
          (omega (
            arith,
            sum_new (λ e. wide_messages e.kind e.messages),
            sum_split (λ e. wide_messages e.kind e.messages),
            sources_wide job sources are_sources,
            made_wide job (messages_of sources),
            valid.wide,
          ))
          (omega (
            arith,
            sum_new (λ e. rolled_messages e.kind e.messages),
            sum_split (λ e. rolled_messages e.kind e.messages),
            sources_rolled job sources are_sources,
            made_rolled job (messages_of sources),
            valid.cut,
          ))
          (omega (arith, sum_new (λ e. e.messages), sum_split (λ e. e.messages), valid.all))
        where
          made_low : rank (made_of job) < 3
          made_low = omega (arith, source_low job, source_rank job)

          some_behind : 1 ≤ length behind
          some_behind = omega (arith, behind_short, length-drop (place + count) m.entries)

          made_is : IsEntry m.limit next n
          made_is = record {
            fits = record {
              prefix = omega arith;
              file = omega (arith, file_below, fits);
              octets = short;
              messages =
                  omega (arith, sources_most);
            };
            file_from = file;
            file_below = file_below;
            shape = made_shape job m.limit n refl (sources_some some);
          }

      pub same_installed : (rolled second : ℕ) (entries : List Entry)
          → rolled ≡ m.rolled + cut_by job (messages_of sources)
          → second ≡ m.second + second_cut_by job (messages_of sources)
          → entries ≡ front ++ n ∷ drop count rest
          → ◌≡◌ {A = Manifest} (record m {
            generation = m.generation + 1;
            next = next;
            rolled = rolled;
            second =
                second;
            entries = entries;
          }) (installed_manifest m job count staged next)
      same_installed rolled second entries cut second_cut are = rw (cut, second_cut, are, behind_is) refl

      -- the active entry still comes after the others
      front_now : front ++ n ∷ behind ≡ (take place (front_of m) ++ n ∷ drop (place + count)
          (front_of m)) ++ active_of m ∷ []
      front_now = rw (first, others)
          (sym (append_assoc (take place (front_of m)) (n ∷ drop (place + count) (front_of m)) (active_of m ∷ [])))
        where
          first : front ≡ take place (front_of m)
          first = ap (λ (l : List Entry). take place l) (split m valid)
              ∙ take-append-le place (front_of m) (active_of m ∷ []) (omega (arith, behind_short, front_long m valid))

          others : behind ≡ drop (place + count) (front_of m) ++ active_of m ∷ []
          others = ap (λ (l : List Entry). drop (place + count) l) (split m valid)
              ∙ drop-append-le (place + count) (front_of m) (active_of m ∷ []) (omega (arith, behind_short, front_long m valid))

      pub installed_active : active_of (installed_manifest m job count staged next) ≡ active_of m
      installed_active = ap (λ (l : List Entry). get_or l (length l - 1) no_entry) front_now
          ∙ last_push (take place (front_of m) ++ n ∷ drop (place + count) (front_of m)) (active_of m)

      pub installed_front : front_of (installed_manifest m job count staged next) ≡ take place (front_of m) ++ n ∷ drop
          (place + count) (front_of m)
      installed_front = ap (λ (l : List Entry). take (length l - 1) l) front_now
          ∙ first_push (take place (front_of m) ++ n ∷ drop (place + count) (front_of m)) (active_of m)
