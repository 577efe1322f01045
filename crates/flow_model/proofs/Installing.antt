-- What an install means: a file of sums takes the place of its sources.
use Rattle.std.proofs.Common.{◌≡◌, ℕ, ◌<◌, ◌≤◌, List, [], ◌∷◌, ◌++◌, length, take, drop, refl, sym}
use Rattle.std.proofs.Common.{ap, subst, ◌∙◌, length-append, arith, Option, None}
use Rattle.std.specs.List.{AllByRecursion}
use Rattle.std.proofs.Math.Seq.{drop-append_seam, take-append_seam}
use Rattle.std.proofs.lemmas.List.Sums.{sum_by-cons}
use Rattle.flow_manifest.specs.declared.manifest.Kind.{Kind}
use Rattle.flow_manifest.specs.declared.manifest.Kind.TheVariants.{Wide, Rolled, Sealed, Active}
use Rattle.flow_manifest.specs.declared.manifest.Entry.{Entry}
use Rattle.flow_manifest.specs.declared.manifest.Manifest.{Manifest}
use Rattle.flow_manifest.specs.Manifest.{rank}
use Rattle.flow_manifest.specs.Following.{messages_of}
use Rattle.flow_rolled.specs.Rollup.{IsRollup}
use Rattle.flow_segment.specs.Carry.{Carry}
use Rattle.flow_model.specs.Shelf.{Rollup, Segment, Shelf, messages_in, rollup_message_count}
use Rattle.flow_model.specs.Changes.{applied, installed, merged}
use Rattle.flow_model.specs.State.{Part}
use Rattle.flow_model.specs.Chain.{ArePartsBehind, IsPartBehind, IsSegmentBehind}
use Rattle.flow_model.specs.Shelved.{rollup_of, segment_of, shelved, shelved_first}
use Rattle.flow_model.specs.Standing.{PartsStand, StandsAs}

-- ---- kinds

sealed_kind : (kind : Kind) → rank kind ≡ 2 → kind ≡ Sealed
sealed_kind Wide is = absurd (omega (arith, is))
sealed_kind Rolled is = absurd (omega (arith, is))
sealed_kind Sealed is = refl
sealed_kind Active is = absurd (omega (arith, is))

rolled_kind : (kind : Kind) → rank kind ≡ 1 → kind ≡ Rolled
rolled_kind Wide is = absurd (omega (arith, is))
rolled_kind Rolled is = refl
rolled_kind Sealed is = absurd (omega (arith, is))
rolled_kind Active is = absurd (omega (arith, is))

-- ---- the shelf of files one after the other

pub shelved_join : (es fs : List Entry) (ps qs : List Part) (s : Shelf) → length es ≡ length ps
    → shelved (es ++ fs) (ps ++ qs) s ≡ shelved es ps (shelved fs qs s)
shelved_join [] fs [] qs s same = refl
shelved_join [] fs (p ∷ ps) qs s same = absurd (omega (arith, same))
shelved_join (e ∷ es) fs [] qs s same = absurd (omega (arith, same))
shelved_join (e ∷ es) fs (p ∷ ps) qs s same =
    ap (λ (x : Shelf). shelved_first e.kind e p x) (shelved_join es fs ps qs s (omega (arith, same)))

-- a rolled file after all rolled ones, before which files of lower kinds may come
roll_first : (r : Rollup) (k : ℕ) (kind : Kind) (e : Entry) (p : Part) (s : Shelf) → rank kind < 2
    → shelved_first kind e p (applied s (installed r k)) ≡ applied (shelved_first kind e p s) (installed r k)
roll_first r k Wide e p s low = refl
roll_first r k Rolled e p s low = refl
roll_first r k Sealed e p s low = absurd (omega (arith, low))
roll_first r k Active e p s low = absurd (omega (arith, low))

pub roll_front : (r : Rollup) (k : ℕ) (es : List Entry) (ps : List Part) (s : Shelf)
    → AllByRecursion (λ e. rank e.kind < 2) es
    → shelved es ps (applied s (installed r k)) ≡ applied (shelved es ps s) (installed r k)
roll_front r k [] ps s low = refl
roll_front r k (e ∷ es) [] s low = refl
roll_front r k (e ∷ es) (p ∷ ps) s low =
    ap (λ (x : Shelf). shelved_first e.kind e p x) (roll_front r k es ps s low.1)
    ∙ roll_first r k e.kind e p (shelved es ps s) low.0

merge_first : (r : Rollup) (k : ℕ) (kind : Kind) (e : Entry) (p : Part) (s : Shelf) → rank kind < 1
    → shelved_first kind e p (applied s (merged r k)) ≡ applied (shelved_first kind e p s) (merged r k)
merge_first r k Wide e p s low = refl
merge_first r k Rolled e p s low = absurd (omega (arith, low))
merge_first r k Sealed e p s low = absurd (omega (arith, low))
merge_first r k Active e p s low = absurd (omega (arith, low))

pub merge_front : (r : Rollup) (k : ℕ) (es : List Entry) (ps : List Part) (s : Shelf)
    → AllByRecursion (λ e. rank e.kind < 1) es
    → shelved es ps (applied s (merged r k)) ≡ applied (shelved es ps s) (merged r k)
merge_front r k [] ps s low = refl
merge_front r k (e ∷ es) [] s low = refl
merge_front r k (e ∷ es) (p ∷ ps) s low =
    ap (λ (x : Shelf). shelved_first e.kind e p x) (merge_front r k es ps s low.1)
    ∙ merge_first r k e.kind e p (shelved es ps s) low.0

-- ---- sources

abbrev pub segments_of : List Entry → List Part → List Segment
segments_of [] ps = []
segments_of (e ∷ es) [] = []
segments_of (e ∷ es) (p ∷ ps) = segment_of e p ∷ segments_of es ps

abbrev pub rollups_of : List Entry → List Part → List Rollup
rollups_of [] ps = []
rollups_of (e ∷ es) [] = []
rollups_of (e ∷ es) (p ∷ ps) = rollup_of e p ∷ rollups_of es ps

-- sealed segments before others, with the messages that their entries count
pub record AreSegments (es : List Entry) (ps : List Part) (s : Shelf) : Type 0 where
  pub front : List Segment
  pub front_is : front ≡ segments_of es ps
  pub long : length front ≡ length es
  pub is : shelved es ps s ≡ record s { sealed = front ++ s.sealed }
  pub count : length (messages_in front) ≡ messages_of es

one_segment : (kind : Kind) (e : Entry) (p : Part) (front : List Segment) (s : Shelf) → rank kind ≡ 2
    → shelved_first kind e p (record s { sealed = front ++ s.sealed })
    ≡ record s { sealed = segment_of e p ∷ front ++ s.sealed }
one_segment Wide e p front s is = absurd (omega (arith, is))
one_segment Rolled e p front s is = absurd (omega (arith, is))
one_segment Sealed e p front s is = refl
one_segment Active e p front s is = absurd (omega (arith, is))

counts : (kind : Kind) (octets : List ℕ) (e : Entry) (p : Part) → rank kind ≡ 2 → StandsAs kind octets e p
    → length p.messages ≡ e.messages
counts Wide octets e p is stands = absurd (omega (arith, is))
counts Rolled octets e p is stands = absurd (omega (arith, is))
counts Sealed octets e p is stands = stands.messages
counts Active octets e p is stands = absurd stands

pub segments : (image : ℕ → List ℕ) (es : List Entry) (ps : List Part) (s : Shelf) → PartsStand image es ps
    → AllByRecursion (λ e. rank e.kind ≡ 2) es → AreSegments es ps s
segments image [] [] s stand are = record { front = []; front_is = refl; long = refl; is = refl; count = refl }
segments image [] (p ∷ ps) s never are = absurd never
segments image (e ∷ es) [] s never are = absurd never
segments image (e ∷ es) (p ∷ ps) s (one, stand) (kind, are) =
    let more = segments image es ps s stand are in
    record {
      front = segment_of e p ∷ more.front;
      front_is = ap (λ (gs : List Segment). segment_of e p ∷ gs) more.front_is;
      long = omega (arith, more.long);
      is = ap (λ (x : Shelf). shelved_first e.kind e p x) more.is ∙ one_segment e.kind e p more.front s kind;
      count = omega (
        arith,
        length-append p.messages (messages_in more.front),
        sum_by-cons (λ (o : Entry). o.messages) e es,
        counts e.kind (image e.file) e p kind one,
        more.count,
      );
    }

-- rolled files before others
pub record AreRollups (es : List Entry) (ps : List Part) (s : Shelf) : Type 0 where
  pub front : List Rollup
  pub front_is : front ≡ rollups_of es ps
  pub long : length front ≡ length es
  pub is : shelved es ps s ≡ record s { rolled = front ++ s.rolled }
  pub count : rollup_message_count front ≡ messages_of es

one_rollup : (kind : Kind) (e : Entry) (p : Part) (front : List Rollup) (s : Shelf) → rank kind ≡ 1
    → shelved_first kind e p (record s { rolled = front ++ s.rolled })
    ≡ record s { rolled = rollup_of e p ∷ front ++ s.rolled }
one_rollup Wide e p front s is = absurd (omega (arith, is))
one_rollup Rolled e p front s is = refl
one_rollup Sealed e p front s is = absurd (omega (arith, is))
one_rollup Active e p front s is = absurd (omega (arith, is))

pub rollups : (es : List Entry) (ps : List Part) (s : Shelf) → length es ≡ length ps
    → AllByRecursion (λ e. rank e.kind ≡ 1) es → AreRollups es ps s
rollups [] [] s same are = record { front = []; front_is = refl; long = refl; is = refl; count = refl }
rollups [] (p ∷ ps) s same are = absurd (omega (arith, same))
rollups (e ∷ es) [] s same are = absurd (omega (arith, same))
rollups (e ∷ es) (p ∷ ps) s same (kind, are) =
    let more = rollups es ps s (omega (arith, same)) are in
    record {
      front = rollup_of e p ∷ more.front;
      front_is = ap (λ (rs : List Rollup). rollup_of e p ∷ rs) more.front_is;
      long = omega (arith, more.long);
      is = ap (λ (x : Shelf). shelved_first e.kind e p x) more.is ∙ one_rollup e.kind e p more.front s kind;
      count = omega (
        arith,
        sum_by-cons (λ (o : Entry). o.messages) e es,
        sum_by-cons (λ (r : Rollup). r.messages) (rollup_of e p) more.front,
        more.count,
      );
    }

-- a file that is neither wide nor rolled leaves the rolled ones
no_rolled_first : (kind : Kind) (e : Entry) (p : Part) (s : Shelf) → 2 ≤ rank kind
    → (shelved_first kind e p s).rolled ≡ s.rolled
no_rolled_first Wide e p s high = absurd (omega (arith, high))
no_rolled_first Rolled e p s high = absurd (omega (arith, high))
no_rolled_first Sealed e p s high = refl
no_rolled_first Active e p s high = refl

pub no_rolled : (es : List Entry) (ps : List Part) (s : Shelf) → AllByRecursion (λ e. 2 ≤ rank e.kind) es
    → (shelved es ps s).rolled ≡ s.rolled
no_rolled [] ps s high = refl
no_rolled (e ∷ es) [] s high = refl
no_rolled (e ∷ es) (p ∷ ps) s high = no_rolled_first e.kind e p (shelved es ps s) high.0 ∙ no_rolled es ps s high.1

no_merged_first : (kind : Kind) (e : Entry) (p : Part) (s : Shelf) → 1 ≤ rank kind
    → (shelved_first kind e p s).merged ≡ s.merged
no_merged_first Wide e p s high = absurd (omega (arith, high))
no_merged_first Rolled e p s high = refl
no_merged_first Sealed e p s high = refl
no_merged_first Active e p s high = refl

pub no_merged : (es : List Entry) (ps : List Part) (s : Shelf) → AllByRecursion (λ e. 1 ≤ rank e.kind) es
    → (shelved es ps s).merged ≡ s.merged
no_merged [] ps s high = refl
no_merged (e ∷ es) [] s high = refl
no_merged (e ∷ es) (p ∷ ps) s high = no_merged_first e.kind e p (shelved es ps s) high.0 ∙ no_merged es ps s high.1

only_one : {X : Type 0} (x : X) (xs : List X) → xs ≡ [] → xs ++ x ∷ [] ≡ x ∷ xs
only_one {X} x xs none = ap (λ (l : List X). l ++ x ∷ []) none ∙ sym (ap (λ (l : List X). x ∷ l) none)

dropped : {X : Type 0} (n : ℕ) (xs ys : List X) → length xs ≡ n → drop n (xs ++ ys) ≡ ys
dropped {X} n xs ys long = ap (λ (k : ℕ). drop k (xs ++ ys)) (sym long) ∙ drop-append_seam xs ys

pub taken : {X : Type 0} (n : ℕ) (xs ys : List X) → length xs ≡ n → take n (xs ++ ys) ≡ xs
taken {X} n xs ys long = ap (λ (k : ℕ). take k (xs ++ ys)) (sym long) ∙ take-append_seam xs ys

-- a rolled file in place of sealed segments
pub roll_over : (made : Entry) (p : Part) (k : ℕ) (es : List Entry) (ps : List Part) (s : Shelf)
    → (are : AreSegments es ps s) → length es ≡ k → s.rolled ≡ []
    → shelved_first Rolled made p s ≡ applied (shelved es ps s) (installed (rollup_of made p) k)
roll_over made p k es ps s are long none =
    let sealed : drop k (are.front ++ s.sealed) ≡ s.sealed = dropped k are.front s.sealed (are.long ∙ long) in
    let rolled : s.rolled ++ rollup_of made p ∷ [] ≡ rollup_of made p ∷ s.rolled =
    only_one (rollup_of made p) s.rolled none in
    let now : applied (record s { sealed = are.front ++ s.sealed }) (installed (rollup_of made p) k)
    ≡ shelved_first Rolled made p s =
    λ i. record s { sealed = sealed i; rolled = rolled i } in
    sym (ap (λ (x : Shelf). applied x (installed (rollup_of made p) k)) are.is ∙ now)

-- a wide file in place of rolled ones
pub merge_over : (made : Entry) (p : Part) (k : ℕ) (es : List Entry) (ps : List Part) (s : Shelf)
    → (are : AreRollups es ps s) → length es ≡ k → s.merged ≡ []
    → shelved_first Wide made p s ≡ applied (shelved es ps s) (merged (rollup_of made p) k)
merge_over made p k es ps s are long none =
    let rolled : drop k (are.front ++ s.rolled) ≡ s.rolled = dropped k are.front s.rolled (are.long ∙ long) in
    let wide_files : s.merged ++ rollup_of made p ∷ [] ≡ rollup_of made p ∷ s.merged =
    only_one (rollup_of made p) s.merged none in
    let now : applied (record s { rolled = are.front ++ s.rolled }) (merged (rollup_of made p) k)
    ≡ shelved_first Wide made p s =
    λ i. record s { rolled = rolled i; merged = wide_files i } in
    sym (ap (λ (x : Shelf). applied x (merged (rollup_of made p) k)) are.is ∙ now)

-- ---- what is passed on

pub same_length : (m : Manifest) (before after : Option Carry) (es : List Entry) (ps : List Part)
    → ArePartsBehind m before es ps after → length es ≡ length ps
same_length m before after [] [] h = refl
same_length m before after [] (p ∷ ps) never = absurd never
same_length m before after (e ∷ es) [] never = absurd never
same_length m before after (e ∷ es) (p ∷ ps) (between, one, more) =
    omega (arith, same_length m between after es ps more)

pub behind_left : (m : Manifest) (before after : Option Carry) (es fs : List Entry) (ps qs : List Part)
    → length es ≡ length ps → ArePartsBehind m before (es ++ fs) (ps ++ qs) after
    → (mid : Option Carry) × ArePartsBehind m before es ps mid × ArePartsBehind m mid fs qs after
behind_left m before after [] fs [] qs same h = (before, refl, h)
behind_left m before after [] fs (p ∷ ps) qs same h = absurd (omega (arith, same))
behind_left m before after (e ∷ es) fs [] qs same h = absurd (omega (arith, same))
behind_left m before after (e ∷ es) fs (p ∷ ps) qs same (between, one, more) =
    let rest = behind_left m between after es fs ps qs (omega (arith, same)) more in
    (rest.0, (between, one, rest.1), rest.2)

pub behind_join : (m : Manifest) (before mid after : Option Carry) (es fs : List Entry) (ps qs : List Part)
    → ArePartsBehind m before es ps mid → ArePartsBehind m mid fs qs after
    → ArePartsBehind m before (es ++ fs) (ps ++ qs) after
behind_join m before mid after [] fs [] qs same h =
    subst (λ (x : Option Carry). ArePartsBehind m x fs qs after) same h
behind_join m before mid after [] fs (p ∷ ps) qs never h = absurd never
behind_join m before mid after (e ∷ es) fs [] qs never h = absurd never
behind_join m before mid after (e ∷ es) fs (p ∷ ps) qs (between, one, more) h =
    (between, one, behind_join m between mid after es fs ps qs more h)

-- sums hand nothing on
sums_pass : (m : Manifest) (kind : Kind) (before after : Option Carry) (p : Part) → rank kind < 2
    → IsPartBehind m kind before p after → after ≡ before
sums_pass m Wide before after p low h = h.1
sums_pass m Rolled before after p low h = h.1
sums_pass m Sealed before after p low h = absurd (omega (arith, low))
sums_pass m Active before after p low h = absurd (omega (arith, low))

pub all_pass : (m : Manifest) (before after : Option Carry) (es : List Entry) (ps : List Part)
    → AllByRecursion (λ e. rank e.kind < 2) es → ArePartsBehind m before es ps after → after ≡ before
all_pass m before after [] [] low h = h
all_pass m before after [] (p ∷ ps) low never = absurd never
all_pass m before after (e ∷ es) [] low never = absurd never
all_pass m before after (e ∷ es) (p ∷ ps) low (between, one, more) =
    all_pass m between after es ps low.1 more ∙ sums_pass m e.kind before between p low.0 one

-- These parts are chained where none is before them any more, and the active segment after them still has the prefix
-- that the segment before it determines, if there is one.
pub record Freed (m : Manifest) (es : List Entry) (ps : List Part) (active : Part) (after : Option Carry) (last : Option Carry)
    : Type 0 where
  pub sealed : Option Carry
  pub parts : ArePartsBehind m None es ps sealed
  pub active_is : IsSegmentBehind after active last → IsSegmentBehind sealed active last

first_segment : (before : Option Carry) (p : Part) (after : Option Carry) → IsSegmentBehind before p after
    → IsSegmentBehind None p after
first_segment before p after (carry, called, segment, is) = (carry, tt, segment, is)

freed_one : (m : Manifest) (kind : Kind) (before between after : Option Carry) (e : Entry) (es : List Entry) (p : Part)
    (ps : List Part) (active : Part) (last : Option Carry) → e.kind ≡ kind → IsPartBehind m kind before p between
    → ArePartsBehind m between es ps after → Freed m es ps active after last
    → Freed m (e ∷ es) (p ∷ ps) active after last
freed_one m Wide before between after e es p ps active last is one more rest = record {
  sealed = rest.sealed;
  parts = (None, subst (λ (k : Kind). IsPartBehind m k None p None) (sym is) (one.0, refl), rest.parts);
  active_is = rest.active_is;
}
freed_one m Rolled before between after e es p ps active last is one more rest = record {
  sealed = rest.sealed;
  parts = (None, subst (λ (k : Kind). IsPartBehind m k None p None) (sym is) (one.0, refl), rest.parts);
  active_is = rest.active_is;
}
freed_one m Sealed before between after e es p ps active last is one more rest = record {
  sealed = after;
  parts = (
    between,
    subst (λ (k : Kind). IsPartBehind m k None p between) (sym is) (first_segment before p between one),
    more,
  );
  active_is = λ h. h;
}
freed_one m Active before between after e es p ps active last is never more rest = absurd never

pub freed : (m : Manifest) (before after : Option Carry) (es : List Entry) (ps : List Part) (active : Part)
    (last : Option Carry) → ArePartsBehind m before es ps after → Freed m es ps active after last
freed m before after [] [] active last h = record {
  sealed = None;
  parts = refl;
  active_is = first_segment after active last;
}
freed m before after [] (p ∷ ps) active last never = absurd never
freed m before after (e ∷ es) [] active last never = absurd never
freed m before after (e ∷ es) (p ∷ ps) active last (between, one, more) =
    freed_one m e.kind before between after e es p ps active last refl one more
    (freed m between after es ps active last more)

-- only the widths of a manifest play a part
one_widths : (m n : Manifest) (kind : Kind) (before after : Option Carry) (p : Part) → n.width ≡ m.width
    → n.wide ≡ m.wide → IsPartBehind m kind before p after → IsPartBehind n kind before p after
one_widths m n Wide before after p width wide ((table, is), same) =
    ((table, subst (λ (w : ℕ). IsRollup w p.front table) (sym wide) is), same)
one_widths m n Rolled before after p width wide ((table, is), same) =
    ((table, subst (λ (w : ℕ). IsRollup w p.front table) (sym width) is), same)
one_widths m n Sealed before after p width wide h = h
one_widths m n Active before after p width wide never = absurd never

pub all_widths : (m n : Manifest) (before after : Option Carry) (es : List Entry) (ps : List Part) → n.width ≡ m.width
    → n.wide ≡ m.wide → ArePartsBehind m before es ps after → ArePartsBehind n before es ps after
all_widths m n before after [] [] width wide h = h
all_widths m n before after [] (p ∷ ps) width wide never = absurd never
all_widths m n before after (e ∷ es) [] width wide never = absurd never
all_widths m n before after (e ∷ es) (p ∷ ps) width wide (between, one, more) =
    (between, one_widths m n e.kind before between p width wide one, all_widths m n between after es ps width wide more)
