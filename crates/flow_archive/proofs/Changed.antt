-- A step is the change of its mark.
use Rattle.std.proofs.Common.{◌≡◌, ◌≢◌, ℕ, zero, suc, ◌+◌, ◌-◌, ◌<◌, List, [], ◌∷◌, ◌++◌}
use Rattle.std.proofs.Common.{length, take, drop, get_or, append_assoc, refl, sym, ap, ◌∙◌, subst, arith}
use Rattle.std.specs.List.{flat_map, AllByRecursion}
use Rattle.std.proofs.lemmas.Grind.{flat_map-append}
use Rattle.std.proofs.lemmas.List.{append-nil, drop_at, drop_more, get_or-drop, length-append, length-drop}
use Rattle.std.proofs.lemmas.List.{same_from_push, take-append-drop, take_at}
use Rattle.std.proofs.lemmas.List.Sums.{sum_by-cons}
use Rattle.flow_manifest.specs.declared.manifest.Entry.{Entry}
use Rattle.flow_manifest.specs.declared.manifest.Kind.{Kind}
use Rattle.flow_manifest.specs.declared.manifest.Kind.TheVariants as kinds
use Rattle.flow_manifest.specs.Following.{front_of, messages_of}
use Rattle.flow_codec.specs.Cutting.{length_of}
use Rattle.flow_manifest.specs.Manifest.{IsValidManifest, rank}
use Rattle.flow_manifest.proofs.EntryLists.{all_by}
use Rattle.flow_manifest.proofs.ValidEntries.{all_sum, are_entries, IsOther}
use Rattle.flow_segment.specs.Segment.{part_octets}
use Rattle.flow_snapshot.specs.declared.step.Mark.{Mark}
use Rattle.flow_model.specs.Changes.{applied, Change}
use Rattle.flow_model.specs.Changes.Change.{added, sealed, installed, merged}
use Rattle.flow_model.specs.Shelf.{cut_of, messages_in, position_of, Rollup, Segment, Shelf}
use Rattle.flow_snapshot.specs.Files.{cut_into}
use Rattle.flow_model.specs.Shelved as shelved
use Rattle.flow_model.specs.State.{Part, State}
use Rattle.flow_archive.specs.Marks.{mark_of, numbered, IsMarkedAmong, IsNewestOf}
use Rattle.flow_archive.specs.Frozen.{octets_in, rolled_in, rollup_of, segment_in, segment_of, shelf_with, wide_in}
use Rattle.flow_archive.specs.Frozen.{Frozen}
use Rattle.flow_archive.specs.Parts.{part_at, parts_at}

-- ---- the last one of a kind

none_in : {Y : Type 0} (of : Frozen → List Y) (kind : Kind) → ((x : Frozen) → x.entry.kind ≢ kind → of x ≡ [])
    → (files : List Frozen) → ((k : ℕ) (x : Frozen) → k < length files → (get_or files k x).entry.kind ≢ kind)
    → flat_map of files ≡ []
none_in of kind none [] others = refl
none_in of kind none (f ∷ files) others =
    ap (λ (l : List _). l ++ flat_map of files) (none f (others 0 f (omega arith)))
    ∙ none_in of kind none files (λ k x lt. others (suc k) x (omega (arith, lt)))

last_of : {Y : Type 0} (of : Frozen → List Y) (kind : Kind) → ((x : Frozen) → x.entry.kind ≢ kind → of x ≡ [])
    → (files : List Frozen) (f : Frozen) → (newest : IsNewestOf kind files f)
    → flat_map of files ≡ flat_map of (take newest.place files) ++ of f
last_of {Y} of kind none files f newest =
    let n = newest.place in
    let rest : flat_map of (drop (n + 1) files) ≡ [] =
    none_in of kind none (drop (n + 1) files) (λ k x lt is. newest.newest (n + 1 + k) x (omega arith)
    (omega (arith, lt, length-drop (n + 1) files)) (ap (λ (y : Frozen). y.entry.kind) (sym (get_or-drop (n + 1) files k x)) ∙ is)) in
    ap (flat_map of) (sym (take-append-drop n files) ∙ ap (λ (l : List Frozen). take n files ++ l)
    (drop_more files n f newest.below ∙ ap (λ (x : Frozen). x ∷ drop (n + 1) files) (sym newest.is)))
    ∙ flat_map-append of (take n files) (f ∷ drop (n + 1) files)
    ∙ ap (λ (l : List Y). flat_map of (take n files) ++ (of f ++ l)) rest
    ∙ ap (λ (l : List Y). flat_map of (take n files) ++ l) (append-nil (of f))

no_segment : (k : Kind) (f : Frozen) → k ≢ kinds.Sealed → segment_in k f ≡ []
no_segment kinds.Wide f not = refl
no_segment kinds.Rolled f not = refl
no_segment kinds.Sealed f not = absurd (not refl)
no_segment kinds.Active f not = refl

no_rolled : (k : Kind) (f : Frozen) → k ≢ kinds.Rolled → rolled_in k f ≡ []
no_rolled kinds.Wide f not = refl
no_rolled kinds.Rolled f not = absurd (not refl)
no_rolled kinds.Sealed f not = refl
no_rolled kinds.Active f not = refl

no_wide : (k : Kind) (f : Frozen) → k ≢ kinds.Wide → wide_in k f ≡ []
no_wide kinds.Wide f not = absurd (not refl)
no_wide kinds.Rolled f not = refl
no_wide kinds.Sealed f not = refl
no_wide kinds.Active f not = refl

newest_segment : (files : List Frozen) (f : Frozen) (gs : List Segment) (g : Segment) → IsNewestOf kinds.Sealed files f
    → flat_map (λ (x : Frozen). segment_in x.entry.kind x) files ≡ gs ++ g ∷ [] → segment_of f ≡ g
newest_segment files f gs g newest is =
    let of : Frozen → List Segment = λ x. segment_in x.entry.kind x in
    (same_from_push (flat_map of (take newest.place files)) gs (segment_of f) g
    (ap (λ (k : Kind). flat_map of (take newest.place files) ++ segment_in k f) (sym newest.kind_is)
    ∙ sym (last_of of kinds.Sealed (λ x. no_segment x.entry.kind x) files f newest) ∙ is)).1

newest_rolled : (files : List Frozen) (f : Frozen) (rs : List Rollup) (r : Rollup) → IsNewestOf kinds.Rolled files f
    → flat_map (λ (x : Frozen). rolled_in x.entry.kind x) files ≡ rs ++ r ∷ [] → rollup_of f ≡ r
newest_rolled files f rs r newest is =
    let of : Frozen → List Rollup = λ x. rolled_in x.entry.kind x in
    (same_from_push (flat_map of (take newest.place files)) rs (rollup_of f) r
    (ap (λ (k : Kind). flat_map of (take newest.place files) ++ rolled_in k f) (sym newest.kind_is)
    ∙ sym (last_of of kinds.Rolled (λ x. no_rolled x.entry.kind x) files f newest) ∙ is)).1

newest_wide : (files : List Frozen) (f : Frozen) (rs : List Rollup) (r : Rollup) → IsNewestOf kinds.Wide files f
    → flat_map (λ (x : Frozen). wide_in x.entry.kind x) files ≡ rs ++ r ∷ [] → rollup_of f ≡ r
newest_wide files f rs r newest is =
    let of : Frozen → List Rollup = λ x. wide_in x.entry.kind x in
    (same_from_push (flat_map of (take newest.place files)) rs (rollup_of f) r
    (ap (λ (k : Kind). flat_map of (take newest.place files) ++ wide_in k f) (sym newest.kind_is)
    ∙ sym (last_of of kinds.Wide (λ x. no_wide x.entry.kind x) files f newest) ∙ is)).1

-- ---- the messages before the active segment's

abbrev pub before_active : Shelf → ℕ
before_active s = cut_of s + length (messages_in s.sealed)

cut_long : (n : ℕ) (octets : List ℕ) → length (cut_into n octets) ≡ n
cut_long zero octets = refl
cut_long (suc zero) octets = refl
cut_long (suc (suc n)) octets = omega (arith, cut_long (suc n) (drop (length_of octets) octets))

more_in_front : (kind : Kind) (e : Entry) (octets : List ℕ) (s : Shelf) → rank kind < 3
    → before_active (shelved.shelved_first kind e (part_at kind e octets) s) ≡ e.messages + before_active s
more_in_front kinds.Wide e octets s low =
    omega (arith, sum_by-cons (λ (r : Rollup). r.messages) (shelved.rollup_of e (part_at kinds.Wide e octets)) s.merged)
more_in_front kinds.Rolled e octets s low =
    omega (arith, sum_by-cons (λ (r : Rollup). r.messages) (shelved.rollup_of e (part_at kinds.Rolled e octets)) s.rolled)
more_in_front kinds.Sealed e octets s low =
    omega (
      arith,
      length-append (cut_into e.messages (part_octets e.prefix e.length octets)) (messages_in s.sealed),
      cut_long e.messages (part_octets e.prefix e.length octets),
    )
more_in_front kinds.Active e octets s low = absurd (omega (arith, low))

all_in_front : (es : List Entry) (fs : List Frozen) (s : Shelf) → AllByRecursion (λ e. rank e.kind < 3) es
    → length fs ≡ length es
    → before_active (shelved.shelved es (parts_at octets_in es fs) s) ≡ messages_of es + before_active s
all_in_front [] [] s low long = omega arith
all_in_front [] (f ∷ fs) s low long = absurd (omega (arith, long))
all_in_front (e ∷ es) [] s low long = absurd (omega (arith, long))
all_in_front (e ∷ es) (f ∷ fs) s low long =
    omega (
      arith,
      more_in_front e.kind e f.octets (shelved.shelved es (parts_at octets_in es fs) s) low.0,
      all_in_front es fs s low.1 (omega (arith, long)),
      sum_by-cons (λ (x : Entry). x.messages) e es,
    )

pub counted_in_front : (s : State) (files : List Frozen) → IsValidManifest s.manifest
    → length files ≡ length (front_of s.manifest) → s.parts ≡ parts_at octets_in (front_of s.manifest) files
    → messages_of s.manifest.entries ≡ before_active (shelved.shelf_of s)
counted_in_front s files valid long is =
    let low : AllByRecursion (λ e. rank e.kind < 3) (front_of s.manifest) =
    all_by (IsOther s.manifest) (λ e. rank e.kind < 3) (λ e other. other.kind) (front_of s.manifest)
    (are_entries s.manifest valid).front in
    omega (
      arith,
      all_sum s.manifest valid,
      ap (λ (ps : List Part). before_active (shelved.shelved (front_of s.manifest) ps (shelved.active_shelf s))) is,
      all_in_front (front_of s.manifest) files (shelved.active_shelf s) low long,
    )

-- ---- the number of the last message

active_first : (kind : Kind) (e : Entry) (p : Part) (s : Shelf)
    → (shelved.shelved_first kind e p s).active ≡ s.active
active_first kinds.Wide e p s = refl
active_first kinds.Rolled e p s = refl
active_first kinds.Sealed e p s = refl
active_first kinds.Active e p s = refl

active_behind : (es : List Entry) (ps : List Part) (s : Shelf) → (shelved.shelved es ps s).active ≡ s.active
active_behind [] ps s = refl
active_behind (e ∷ es) [] s = refl
active_behind (e ∷ es) (p ∷ ps) s =
    active_first e.kind e p (shelved.shelved es ps s) ∙ active_behind es ps s

pub position_is : (s : State) (files : List Frozen) → IsValidManifest s.manifest
    → length files ≡ length (front_of s.manifest) → s.parts ≡ parts_at octets_in (front_of s.manifest) files
    → position_of (shelved.shelf_of s) ≡ messages_of s.manifest.entries + length s.active.messages
position_is s files valid long is =
    omega (
      arith,
      length-append (messages_in (shelved.shelf_of s).sealed) (shelved.shelf_of s).active,
      counted_in_front s files valid long is,
      ap (λ (l : List (List ℕ)). length l) (active_behind (front_of s.manifest) s.parts (shelved.active_shelf s)),
    )

-- ---- the change of a mark

added_there : (a ms later all : List (List ℕ)) (before first last : ℕ) → all ≡ (a ++ ms) ++ later
    → first ≡ before + length a + 1 → last ≡ before + length a + length ms → numbered before all first last ≡ ms
added_there a ms later all before first last is from to =
    ap (λ (n : ℕ). take n (drop (first - 1 - before) all)) (let n : last + 1 - first ≡ length ms = omega (arith, from, to) in n)
    ∙ ap (λ (n : ℕ). take (length ms) (drop n all)) (let n : first - 1 - before ≡ length a = omega (arith, from) in n)
    ∙ ap (λ (l : List (List ℕ)). take (length ms) (drop (length a) l)) (is ∙ append_assoc a ms later)
    ∙ ap (take (length ms)) (drop_at a (ms ++ later) (length a) refl) ∙ take_at ms later (length ms) refl

pub told_is : (files : List Frozen) (prefix : List ℕ) (n : ℕ) (messages : List (List ℕ)) (width wide : ℕ) (mark : Mark)
    (x : Change) (before : Shelf) (change : Change) (later : List (List ℕ))
    → IsMarkedAmong files prefix n messages mark x → mark ≡ mark_of before change
    → shelf_with width wide files prefix messages ≡ applied (applied before change) (added later)
    → n ≡ before_active (shelf_with width wide files prefix messages) → x ≡ change
told_is files prefix n messages width wide mark x before (added ms) later told mark_is is count =
    let m : IsMarkedAmong files prefix n messages (mark_of before (added ms)) x =
    subst (λ (k : Mark). IsMarkedAmong files prefix n messages k x) mark_is told in
    let all : n ≡ before_active before = count ∙ ap before_active is in
    m ∙ ap added (added_there before.active ms later messages n (position_of before + 1)
    (position_of before + length ms) (ap (λ (s : Shelf). s.active) is)
    (omega (arith, all, length-append (messages_in before.sealed) before.active))
    (omega (arith, all, length-append (messages_in before.sealed) before.active)))
told_is files prefix n messages width wide mark x before (sealed segment next) later told mark_is is count =
    let m : IsMarkedAmong files prefix n messages (mark_of before (sealed segment next)) x =
    subst (λ (k : Mark). IsMarkedAmong files prefix n messages k x) mark_is told in
    m.2 ∙ ap (λ (g : Segment). sealed g prefix)
    (newest_segment files m.0 before.sealed segment m.1 (ap (λ (s : Shelf). s.sealed) is))
    ∙ ap (sealed segment) (ap (λ (s : Shelf). s.prefix) is)
told_is files prefix n messages width wide mark x before (installed file k) later told mark_is is count =
    let m : IsMarkedAmong files prefix n messages (mark_of before (installed file k)) x =
    subst (λ (k : Mark). IsMarkedAmong files prefix n messages k x) mark_is told in
    m.2 ∙ ap (λ (r : Rollup). installed r k)
    (newest_rolled files m.0 before.rolled file m.1 (ap (λ (s : Shelf). s.rolled) is))
told_is files prefix n messages width wide mark x before (merged file k) later told mark_is is count =
    let m : IsMarkedAmong files prefix n messages (mark_of before (merged file k)) x =
    subst (λ (k : Mark). IsMarkedAmong files prefix n messages k x) mark_is told in
    m.2 ∙ ap (λ (r : Rollup). merged r k)
    (newest_wide files m.0 before.merged file m.1 (ap (λ (s : Shelf). s.merged) is))
