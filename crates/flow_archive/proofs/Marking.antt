-- The newest file of a kind, and what a mark says of an archive's files.
use Rattle.std.proofs.Common.{◌≡◌, ◌≢◌, ⊎_elim, ℕ, zero, suc, ◌+◌, ◌-◌, ◌<◌, ◌≤◌, Bool, false, IsTrue, List, [], ◌∷◌, ◌++◌}
use Rattle.std.proofs.Common.{length, map, take, drop, get_or, append_assoc, refl, sym, ap, ◌∙◌, subst, arith}
use Rattle.std.proofs.Common.{IfOk, Result, Ok, Err}
use Rattle.std.specs.List.{list_all}
use Rattle.std.proofs.lemmas.Bool.{cases_order}
use Rattle.std.proofs.lemmas.List.{drop_at, drop_more, get_or-append_right, get_or-map, get_or-take}
use Rattle.std.proofs.lemmas.List.{get_or_at, get_or_default, length-append, length-map}
use Rattle.std.proofs.lemmas.List.{length-take-le, map-append, take-append-drop, take_at}
use Rattle.flow_manifest.specs.declared.manifest.Entry.{Entry}
use Rattle.flow_manifest.specs.declared.manifest.Kind.{Kind}
use Rattle.flow_manifest.specs.declared.manifest.Kind.TheVariants as kinds
use Rattle.flow_manifest.specs.declared.manifest.Manifest.{Manifest}
use Rattle.flow_manifest.specs.Following.{active_of, front_of, messages_of, no_entry}
use Rattle.flow_manifest.specs.Manifest.{IsValidManifest}
use Rattle.flow_manifest.proofs.ValidEntries.{are_entries, front_long}
use Rattle.flow_snapshot.specs.declared.step.Mark.{Mark}
use Rattle.flow_snapshot.specs.declared.step.Mark.TheVariants.{Added, Sealed, Installed, Merged}
use Rattle.flow_model.specs.Changes.{Change}
use Rattle.flow_model.specs.Changes.Change.{added}
use Rattle.flow_model.specs.State.{State}
use Rattle.flow_archive.specs.Marks.{numbered, HasKind, HasMark, HasMarkAmong, IsMarked, IsMarkedAmong}
use Rattle.flow_archive.specs.Marks.{IsNewest, IsNewestOf}
use Rattle.flow_archive.specs.Frozen.{rollup_of, segment_of, unshared}
use Rattle.flow_archive.specs.Frozen.{AreHeldAs, Frozen}
use Rattle.flow_archive.proofs.Owning.{as_many, honest_at}
use Rattle.flow_archive.proofs.SourceStand.{all_at, entry_at}

-- ---- one of the files, whoever has it too

same_at : (new old : List Frozen) (i : ℕ) (x y : Frozen) → i < length old → map unshared new ≡ map unshared old
    → x ≡ get_or new i x → y ≡ get_or old i y → unshared x ≡ unshared y
same_at new old i x y lt same x_is y_is =
    let long : length new ≡ length old =
    sym (length-map new unshared) ∙ ap (λ (l : List Frozen). length l) same ∙ length-map old unshared in
    ap unshared x_is ∙ sym (get_or-map unshared new i x (unshared x) (omega (arith, long, lt)))
    ∙ ap (λ (l : List Frozen). get_or l i (unshared x)) same ∙ get_or-map unshared old i y (unshared x) lt
    ∙ ap unshared (sym y_is)

pub newest_part : (kind : Kind) (new old : List Frozen) (place : ℕ) (x : Frozen) → place < length old
    → ((f : Frozen) → f ≡ get_or old place f → IsNewestOf kind old f) → map unshared new ≡ map unshared old
    → x ≡ get_or new place x → (f : Frozen) × IsNewestOf kind old f × (unshared x ≡ unshared f)
newest_part kind new old place x lt newest same at =
    let f = get_or old place x in
    let is : f ≡ get_or old place f = get_or_default old place x f lt in
    (f, newest f is, same_at new old place x f lt same at is)

pub newest_honest : (kind : Kind) (files : List Frozen) (f : Frozen) → IsNewestOf kind files f
    → IsTrue (list_all (λ (x : Frozen). x.honest) files) → IsTrue f.honest
newest_honest kind files f newest all =
    subst (λ (x : Frozen). IsTrue x.honest) (sym newest.is) (honest_at files newest.place f newest.below all)

-- one of them, taken out and put back
pub put_back : (old left new : List Frozen) (i : ℕ) (x y : Frozen) → i < length old → x ≡ get_or old i x
    → left ≡ take i old ++ drop (i + 1) old → new ≡ take i left ++ y ∷ drop i left → unshared y ≡ unshared x
    → map unshared new ≡ map unshared old
put_back old left new i x y lt at out back same =
    let rest = drop (i + 1) old in
    let long : length (take i old) ≡ i = length-take-le i old (omega (arith, lt)) in
    let front_is : take i left ≡ take i old = ap (take i) out ∙ take_at (take i old) rest i long in
    let rest_is : drop i left ≡ rest = ap (drop i) out ∙ drop_at (take i old) rest i long in
    let new_is : new ≡ take i old ++ y ∷ rest =
    back ∙ ap (λ (l : List Frozen). l ++ y ∷ drop i left) front_is
    ∙ ap (λ (l : List Frozen). take i old ++ y ∷ l) rest_is in
    let old_is : old ≡ take i old ++ x ∷ rest =
    sym (take-append-drop i old) ∙ ap (λ (l : List Frozen). take i old ++ l)
    (drop_more old i x lt ∙ ap (λ (z : Frozen). z ∷ rest) (sym at)) in
    ap (map unshared) new_is ∙ map-append unshared (take i old) (y ∷ rest)
    ∙ ap (λ (z : Frozen). map unshared (take i old) ++ z ∷ map unshared rest) same
    ∙ sym (ap (map unshared) old_is ∙ map-append unshared (take i old) (x ∷ rest))

pub if_ok : {X E : Type 0} (r : Result X E) (P Q : X → Type 0) → ((x : X) → P x → Q x) → IfOk r P → IfOk r Q
if_ok (Ok x) P Q f h = f x h
if_ok (Err e) P Q f h = tt

pub if_both : {X E : Type 0} (r : Result X E) (P Q R : X → Type 0) → ((x : X) → P x → Q x → R x) → IfOk r P → IfOk r Q
    → IfOk r R
if_both (Ok x) P Q R f h k = f x h k
if_both (Err e) P Q R f h k = tt

-- ---- it is looked for

abbrev pub SomeBelow : Kind → List Frozen → ℕ → ℕ → Type 0
SomeBelow kind files newest place = (k : ℕ) → k < place → ((x : Frozen) → (get_or files k x).entry.kind ≡ kind)
    → (newest < place) × ((x : Frozen) → (get_or files newest x).entry.kind ≡ kind)

abbrev pub NoneBehind : Kind → List Frozen → ℕ → ℕ → Type 0
NoneBehind kind files newest place =
    (k : ℕ) (x : Frozen) → newest < k → k < place → (get_or files k x).entry.kind ≢ kind

module _ (kind : Kind) (files : List Frozen) (old new place : ℕ) (some : SomeBelow kind files old place)
    (none : NoneBehind kind files old place) where
  pub here_one : new ≡ place → ((x : Frozen) → (get_or files place x).entry.kind ≡ kind)
      → SomeBelow kind files new (place + 1) × NoneBehind kind files new (place + 1)
  here_one is one = (
    λ k lt at. (
      omega (arith, is),
      λ x. ap (λ (n : ℕ). (get_or files n x).entry.kind) is ∙ one x,
    ),
    λ k x lt below. absurd (omega (arith, is, lt, below)),
  )

  pub here_none : new ≡ old → ((x : Frozen) → (get_or files place x).entry.kind ≢ kind)
      → SomeBelow kind files new (place + 1) × NoneBehind kind files new (place + 1)
  here_none is not = (
    λ k lt at. ⊎_elim (λ same. absurd (not nobody (at_place k same at)))
        (λ differ. ⊎_elim (λ lower.
        let was = some k lower at in
        (omega (arith, is, was.0), λ x. ap (λ (n : ℕ). (get_or files n x).entry.kind) is ∙ was.1 x))
        (λ higher. absurd (omega (arith, lt, higher))) differ) (cases_order k place),
    λ k x lt below. ⊎_elim (λ same. λ one. not x (ap (λ (n : ℕ). (get_or files n x).entry.kind) (sym same) ∙ one))
        (λ differ. ⊎_elim (λ lower. none k x (omega (arith, is, lt)) lower)
        (λ higher. absurd (omega (arith, below, higher))) differ) (cases_order k place),
  )
    where
      nobody : Frozen
      nobody = record { entry = no_entry; honest = false; octets = []; shared = false }

      at_place : (k : ℕ) → k ≡ place → ((x : Frozen) → (get_or files k x).entry.kind ≡ kind)
          → (get_or files place nobody).entry.kind ≡ kind
      at_place k same at = ap (λ (n : ℕ). (get_or files n nobody).entry.kind) (sym same) ∙ at nobody

-- at the end all were looked at
pub newest_is : (kind : Kind) (files : List Frozen) (newest place : ℕ) → HasKind kind files → length files ≤ place
    → place ≤ length files → SomeBelow kind files newest place → NoneBehind kind files newest place
    → (newest < length files) × ((f : Frozen) → f ≡ get_or files newest f → IsNewestOf kind files f)
newest_is kind files newest place has all within some none =
    let one = some has.0 (omega (arith, has.1, all)) has.2 in (
      omega (arith, one.0, within),
      λ f is. record {
        place = newest;
        below = omega (arith, one.0, within);
        is = is;
        kind_is = ap (λ (x : Frozen). x.entry.kind) is ∙ one.1 f;
        newest = λ k x lt below. none k x lt (omega (arith, below, all));
      },
    )

-- ---- the newest entry

module _ (kind : Kind) (file : ℕ) (honest : Bool) (m : Manifest) (valid : IsValidManifest m) (files : List Frozen)
    (held : AreHeldAs honest (front_of m) files) (not : kind ≢ kinds.Active) (new : IsNewest kind file m.entries) where
  abbrev older : List Entry
  older = new.0

  abbrev e : Entry
  e = new.1

  abbrev newer : List Entry
  newer = new.2

  counted : length m.entries ≡ length older + (length newer + 1)
  counted = ap (λ (l : List Entry). length l) new.3 ∙ length-append older (e ∷ newer) ∙ omega arith

  here : (d : Entry) → get_or m.entries (length older) d ≡ e
  here d = ap (λ (l : List Entry). get_or l (length older) d) new.3 ∙ get_or_at older e newer d (length older) refl

  -- it isn't the active one
  last : length newer ≡ 0 → ⊥
  last none =
      let is : active_of m ≡ e =
      ap (λ (n : ℕ). get_or m.entries n no_entry) (omega (arith, counted, none)) ∙ here no_entry in
      not (sym new.4 ∙ ap (λ (x : Entry). x.kind) (sym is) ∙ (are_entries m valid).kind)

  within : length older < length (front_of m)
  within = some (length newer) refl
    where
      some : (n : ℕ) → length newer ≡ n → length older < length (front_of m)
      some zero none = absurd (last none)
      some (suc n) is = omega (arith, is, counted, front_long m valid)

  among_front : (d : Entry) (i : ℕ) → i < length (front_of m) → get_or (front_of m) i d ≡ get_or m.entries i d
  among_front d i lt =
      get_or-take (length m.entries - 1) m.entries i d (omega (arith, lt, front_long m valid))

  entry_here : (x : Frozen) → (get_or files (length older) x).entry ≡ e
  entry_here x = entry_at honest (front_of m) files (length older) no_entry x within held
      ∙ among_front no_entry (length older) within ∙ here no_entry

  pub has_kind : HasKind kind files
  has_kind = (
    length older,
    omega (arith, as_many honest (front_of m) files held, within),
    λ x. ap (λ (y : Entry). y.kind) (entry_here x) ∙ new.4,
  )

  -- no other file is the newest one
  pub newest_file : (f : Frozen) → IsNewestOf kind files f → f.entry.file ≡ file
  newest_file f newest =
      let long : length files ≡ length (front_of m) = as_many honest (front_of m) files held in
      ⊎_elim (λ same. ap (λ (x : Frozen). x.entry.file) newest.is
      ∙ ap (λ (n : ℕ). (get_or files n f).entry.file) (sym same)
      ∙ ap (λ (x : Entry). x.file) (entry_here f) ∙ new.5) (λ differ. ⊎_elim (λ lower. absurd (later f newest long lower))
      (λ higher. absurd (newest.newest (length older) f higher (omega (arith, long, within))
      (ap (λ (y : Entry). y.kind) (entry_here f) ∙ new.4))) differ) (cases_order (length older) newest.place)
    where
      later : (f : Frozen) → (newest : IsNewestOf kind files f) → length files ≡ length (front_of m)
          → length older < newest.place → ⊥
      later f newest long lt =
          let n = newest.place in
          let below : n < length (front_of m) = omega (arith, long, newest.below) in
          let rest : (get_or newer (n - length older - 1) no_entry).kind ≢ kind =
          all_at (λ (x : Entry). x.kind ≢ kind) newer (n - length older - 1) no_entry
          (omega (arith, lt, below, counted, front_long m valid)) new.6 in
          let behind : get_or m.entries n no_entry ≡ get_or newer (n - length older - 1) no_entry =
          ap (λ (l : List Entry). get_or l n no_entry) (new.3 ∙ sym (append_assoc older (e ∷ []) newer))
          ∙ get_or-append_right (older ++ e ∷ []) newer (length older + 1) n no_entry (length-append older (e ∷ []))
          (omega (arith, lt))
          ∙ ap (λ (k : ℕ). get_or newer k no_entry) (omega arith) in
          let entry : f.entry ≡ get_or newer (n - length older - 1) no_entry =
          ap (λ (x : Frozen). x.entry) newest.is ∙ entry_at honest (front_of m) files n no_entry f below held
          ∙ among_front no_entry n below ∙ behind in
          rest (ap (λ (x : Entry). x.kind) (sym entry) ∙ newest.kind_is)

-- ---- where a step may be asked for

pub among : (honest : Bool) (s : State) (files : List Frozen) (before : ℕ) (mark : Mark) → IsValidManifest s.manifest
    → AreHeldAs honest (front_of s.manifest) files → before ≡ messages_of s.manifest.entries → HasMark s mark
    → HasMarkAmong files before s.active.messages mark
among honest s files before (Added first last) valid held is has =
    (omega (arith, is, has.0), has.1, omega (arith, is, has.2))
among honest s files before (Sealed file) valid held is has =
    has_kind kinds.Sealed file honest s.manifest valid files held (λ is. cc) has
among honest s files before (Installed file count) valid held is has =
    has_kind kinds.Rolled file honest s.manifest valid files held (λ is. cc) has
among honest s files before (Merged file count) valid held is has =
    has_kind kinds.Wide file honest s.manifest valid files held (λ is. cc) has

pub as_marked : (honest : Bool) (s : State) (files : List Frozen) (before : ℕ) (mark : Mark) (change : Change)
    → IsValidManifest s.manifest → AreHeldAs honest (front_of s.manifest) files
    → before ≡ messages_of s.manifest.entries → HasMark s mark
    → IsMarkedAmong files s.active.front before s.active.messages mark change → IsMarked s mark change
as_marked honest s files before (Added first last) change valid held is has told =
    told ∙ ap (λ (n : ℕ). added (numbered n s.active.messages first last)) is
as_marked honest s files before (Sealed file) change valid held is has told = (
  segment_of told.0,
  newest_file kinds.Sealed file honest s.manifest valid files held (λ is. cc) has told.0 told.1,
  told.2,
)
as_marked honest s files before (Installed file count) change valid held is has told = (
  rollup_of told.0,
  newest_file kinds.Rolled file honest s.manifest valid files held (λ is. cc) has told.0 told.1,
  told.2,
)
as_marked honest s files before (Merged file count) change valid held is has told = (
  rollup_of told.0,
  newest_file kinds.Wide file honest s.manifest valid files held (λ is. cc) has told.0 told.1,
  told.2,
)
