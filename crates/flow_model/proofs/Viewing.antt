-- A state whose files are an archive's has one view.
use Rattle.std.proofs.Common.{◌≡◌, ℕ, ◌<◌, ◌^◌, List, [], ◌∷◌, ◌++◌, refl, sym, ap, subst, ◌∙◌}
use Rattle.std.proofs.Common.{append_assoc, arith, Option, Some, None}
use Rattle.std.proofs.lemmas.List.{map-append}
use Rattle.flow_codec.specs.Templates.{AllTemplates}
use Rattle.flow_manifest.specs.declared.manifest.Kind.{Kind}
use Rattle.flow_manifest.specs.declared.manifest.Kind.TheVariants.{Wide, Rolled, Sealed, Active}
use Rattle.flow_manifest.specs.declared.manifest.Entry.{Entry}
use Rattle.flow_manifest.specs.declared.manifest.Manifest.{Manifest}
use Rattle.flow_manifest.specs.Manifest.{IsValidManifest}
use Rattle.flow_manifest.specs.Following.{front_of}
use Rattle.flow_measure.specs.Sums.{Table}
use Rattle.flow_measure.specs.History.{Accepted, AreAcceptedFrom, read_from, templates_from}
use Rattle.flow_measure.specs.View.{View, gathered_all}
use Rattle.flow_rolled.specs.Rollup.{IsRollup}
use Rattle.flow_segment.specs.Carry.{Carry, IsCarry, no_carry, octets_of}
use Rattle.flow_segment.specs.Prefix.{IsRestated}
use Rattle.flow_model.specs.Shelf.{Shelf, cut_of, messages_in, position_of, second_of}
use Rattle.flow_model.specs.Views.{AreRestated, IsViewOf}
use Rattle.flow_model.proofs.Accepting.{accepted_then, carried, one_restated, prefix_restates, read_as}
use Rattle.flow_model.proofs.Accepting.{templates_then}
use Rattle.flow_model.proofs.Meaning.{one_view}
use Rattle.flow_model.specs.State.{Part, State}
use Rattle.flow_model.specs.Chain.{ArePartsBehind, HandsOn, IsCalledFor, IsChained, IsPartBehind, IsSegment}
use Rattle.flow_model.specs.Chain.{IsSegmentBehind}
use Rattle.flow_model.specs.Shelved.{active_shelf, shelf_of, shelved, shelved_first}

-- the files after a carry have a view whose templates are the carry's
abbrev templates_given : Carry → Option Carry → AllTemplates
templates_given own None = own.templates
templates_given own (Some c) = c.templates

abbrev IsCarried : Option Carry → Type 0
IsCarried None = Unit {0}
IsCarried (Some c) = IsCarry c

abbrev AreCarried : Option Carry → AllTemplates → Type 0
AreCarried None t = Unit {0}
AreCarried (Some c) t = t ≡ c.templates

record Behind (m : Manifest) (before : Option Carry) (last : AllTemplates) (s : Shelf) : Type 0 where
  pub view : View
  pub is : IsViewOf s view
  pub carried : AreCarried before view.templates
  pub handed : templates_from view.templates view.kept ≡ last
  pub width : s.width ≡ m.width
  pub wide : s.wide ≡ m.wide

empty_carried : (time : ℕ) → time < 2 ^ 32 → IsCarry (no_carry time)
empty_carried time small = record {
  templates = record { once = tt; domains = tt; count = omega arith };
  domains = tt;
  due = refl;
  numbers = tt;
  time = small;
}

-- ---- a segment

-- what a segment passes on
handed : (p : Part) (c : Carry) → (g : IsSegment p c)
    → IsCarry c × (c.templates ≡ templates_from (templates_from [] g.prefix) g.messages)
handed p c g =
    let all : AreAcceptedFrom [] (g.prefix ++ g.messages) =
    accepted_then [] g.prefix g.messages (g.front).accepted g.accepted in
    let there = carried (no_carry g.time) (g.prefix ++ g.messages) (empty_carried g.time g.small) all in (
      subst IsCarry (sym g.hands_on) there.0,
      ap (λ (x : Carry). x.templates) g.hands_on ∙ there.1 ∙ templates_then [] g.prefix g.messages,
    )

restates : (p : Part) (c : Carry) → (g : IsSegment p c) → IsRestated p.front (templates_from [] g.prefix)
restates p c g = (g.prefix, g.front, g.restated, refl)

-- the prefix restates what the segment before passes on
called : (before : Option Carry) (p : Part) (t : AllTemplates) → IsCarried before → IsCalledFor before p.front
    → IsRestated p.front t → AreCarried before t
called None p t h calls is = tt
called (Some c) p t h calls is =
    one_restated p.front t c.templates is
    (subst (λ (o : List ℕ). IsRestated o c.templates) (sym calls) (prefix_restates c h))

last_segment : (s : State) (before : Option Carry) (c : Carry) → IsCarried before
    → IsSegmentBehind before s.active (Some c) → Behind s.manifest before c.templates (active_shelf s)
last_segment s before c h (own, calls, g, same) =
    let t = templates_from [] g.prefix in
    record {
      view = record {
        merged = gathered_all [];
        rolled = [];
        kept = g.messages;
        templates = t;
        second = second_of (active_shelf s);
        cut = cut_of (active_shelf s);
        position = position_of (active_shelf s);
        width = s.manifest.width;
        wide = s.manifest.wide;
      };
      is = record {
        merged = ([], tt, refl);
        rolled = tt;
        prefixes = restates s.active own g;
        accepted = g.accepted;
        kept = g.octets;
        second = refl;
        cut = refl;
        position = refl;
        width = refl;
        wide = refl;
      };
      carried = called before s.active t h calls (restates s.active own g);
      handed = sym (ap (templates_given own) same ∙ (handed s.active own g).1);
      width = refl;
      wide = refl;
    }

-- a sealed segment put before the others
sealed_first : (m : Manifest) (before : Option Carry) (last : AllTemplates) (e : Entry) (p : Part) (c : Carry)
    (s : Shelf)
    → IsCarried before → IsCalledFor before p.front → IsSegment p c → Behind m (Some c) last s
    → Behind m before last (shelved_first Sealed e p s)
sealed_first m before last e p c s h calls g rest =
    let t : AllTemplates = templates_from [] g.prefix in
    let v = rest.view in
    let there : templates_from t g.messages ≡ v.templates = sym (rest.carried ∙ (handed p c g).1) in
    let read : templates_from t (read_from t p.messages) ≡ v.templates =
    ap (templates_from t) (read_as t g.messages p.messages g.accepted g.octets) ∙ there in
    let now = shelved_first Sealed e p s in
    record {
      view = record {
        merged = v.merged;
        rolled = v.rolled;
        kept = g.messages ++ v.kept;
        templates = t;
        second = second_of now;
        cut = cut_of now;
        position = position_of now;
        width = now.width;
        wide = now.wide;
      };
      is = record {
        merged = (rest.is).merged;
        rolled = (rest.is).rolled;
        prefixes = (
          restates p c g,
          subst (λ (x : AllTemplates). AreRestated x s.sealed s.prefix) (sym read) (rest.is).prefixes,
        );
        accepted = accepted_then t g.messages v.kept g.accepted
            (subst (λ (x : AllTemplates). AreAcceptedFrom x v.kept) (sym there) (rest.is).accepted);
        kept = map-append (λ (a : Accepted). a.octets) g.messages v.kept
            ∙ ap (λ (os : List (List ℕ)). os ++ octets_of v.kept) g.octets
            ∙ ap (λ (os : List (List ℕ)). p.messages ++ os) (rest.is).kept
            ∙ sym (append_assoc p.messages (messages_in s.sealed) s.active);
        second = refl;
        cut = refl;
        position = refl;
        width = refl;
        wide = refl;
      };
      carried = called before p t h calls (restates p c g);
      handed = templates_then t g.messages v.kept ∙ ap (λ (x : AllTemplates). templates_from x v.kept) there
          ∙ rest.handed;
      width = rest.width;
      wide = rest.wide;
    }

-- ---- rolled and wide files

as_table : (width : ℕ) (octets : List ℕ) (table : Table) → IsRollup width octets table
    → IsRollup width octets (record { width = width; sums = table.sums })
as_table width octets table is =
    let path : table ≡ record { width = width; sums = table.sums } =
    λ i. record { width = is.width_is i; sums = table.sums } in
    subst (IsRollup width octets) path is

rolled_first : (m : Manifest) (before : Option Carry) (last : AllTemplates) (e : Entry) (p : Part) (s : Shelf)
    (table : Table)
    → IsRollup m.width p.front table → Behind m before last s → Behind m before last (shelved_first Rolled e p s)
rolled_first m before last e p s table roll rest =
    let v = rest.view in
    let own = subst (λ (w : ℕ). IsRollup w p.front (record { width = w; sums = table.sums })) (sym rest.width)
    (as_table m.width p.front table roll) in
    let now = shelved_first Rolled e p s in
    record {
      view = record {
        merged = v.merged;
        rolled = table.sums ∷ v.rolled;
        kept = v.kept;
        templates = v.templates;
        second = second_of now;
        cut = cut_of now;
        position = position_of now;
        width = now.width;
        wide = now.wide;
      };
      is = record {
        merged = (rest.is).merged;
        rolled = (own, (rest.is).rolled);
        prefixes = (rest.is).prefixes;
        accepted = (rest.is).accepted;
        kept = (rest.is).kept;
        second = refl;
        cut = refl;
        position = refl;
        width = refl;
        wide = refl;
      };
      carried = rest.carried;
      handed = rest.handed;
      width = rest.width;
      wide = rest.wide;
    }

wide_first : (m : Manifest) (before : Option Carry) (last : AllTemplates) (e : Entry) (p : Part) (s : Shelf)
    (table : Table)
    → IsRollup m.wide p.front table → Behind m before last s → Behind m before last (shelved_first Wide e p s)
wide_first m before last e p s table roll rest =
    let v = rest.view in
    let own = subst (λ (w : ℕ). IsRollup w p.front (record { width = w; sums = table.sums })) (sym rest.wide)
    (as_table m.wide p.front table roll) in
    let others = (rest.is).merged in
    let now = shelved_first Wide e p s in
    record {
      view = record {
        merged = gathered_all (table.sums ∷ others.0);
        rolled = v.rolled;
        kept = v.kept;
        templates = v.templates;
        second = second_of now;
        cut = cut_of now;
        position = position_of now;
        width = now.width;
        wide = now.wide;
      };
      is = record {
        merged = (table.sums ∷ others.0, (own, others.1), refl);
        rolled = (rest.is).rolled;
        prefixes = (rest.is).prefixes;
        accepted = (rest.is).accepted;
        kept = (rest.is).kept;
        second = refl;
        cut = refl;
        position = refl;
        width = refl;
        wide = refl;
      };
      carried = rest.carried;
      handed = rest.handed;
      width = rest.width;
      wide = rest.wide;
    }

-- ---- all files

behind_one : (m : Manifest) (kind : Kind) (before between : Option Carry) (last : AllTemplates) (e : Entry) (p : Part)
    (s : Shelf) → IsCarried before → IsPartBehind m kind before p between
    → (IsCarried between → Behind m between last s) → Behind m before last (shelved_first kind e p s)
behind_one m Wide before between last e p s h (roll, same) rest =
    wide_first m before last e p s roll.0 roll.1
    (subst (λ (b : Option Carry). Behind m b last s) same (rest (subst IsCarried (sym same) h)))
behind_one m Rolled before between last e p s h (roll, same) rest =
    rolled_first m before last e p s roll.0 roll.1
    (subst (λ (b : Option Carry). Behind m b last s) same (rest (subst IsCarried (sym same) h)))
behind_one m Sealed before between last e p s h (c, calls, g, same) rest =
    sealed_first m before last e p c s h calls g
    (subst (λ (b : Option Carry). Behind m b last s) same (rest (subst IsCarried (sym same) (handed p c g).0)))
behind_one m Active before between last e p s h never rest = absurd never

behind_all : (m : Manifest) (before sealed : Option Carry) (last : AllTemplates) (es : List Entry) (ps : List Part)
    (base : Shelf) → IsCarried before → ArePartsBehind m before es ps sealed
    → (IsCarried sealed → Behind m sealed last base) → Behind m before last (shelved es ps base)
behind_all m before sealed last [] [] base h same active =
    subst (λ (b : Option Carry). Behind m b last base) same (active (subst IsCarried (sym same) h))
behind_all m before sealed last [] (p ∷ ps) base h never active = absurd never
behind_all m before sealed last (e ∷ es) [] base h never active = absurd never
behind_all m before sealed last (e ∷ es) (p ∷ ps) base h (between, first, more) active =
    behind_one m e.kind before between last e p (shelved es ps base) h first
    (λ is. behind_all m between sealed last es ps base is more active)

whole : (s : State) (c : Carry) → HandsOn s c → Behind s.manifest None c.templates (shelf_of s)
whole s c hands =
    behind_all s.manifest None hands.sealed c.templates (front_of s.manifest) s.parts (active_shelf s) tt hands.parts
    (λ is. last_segment s hands.sealed c is hands.active)

pub has_view : (s : State) → IsChained s → (v : View) × IsViewOf (shelf_of s) v
has_view s (c, hands) = ((whole s c hands).view, (whole s c hands).is)

-- ---- one view

widths_first : (kind : Kind) (e : Entry) (p : Part) (s : Shelf)
    → ((shelved_first kind e p s).width ≡ s.width) × ((shelved_first kind e p s).wide ≡ s.wide)
widths_first Wide e p s = (refl, refl)
widths_first Rolled e p s = (refl, refl)
widths_first Sealed e p s = (refl, refl)
widths_first Active e p s = (refl, refl)

pub widths : (es : List Entry) (ps : List Part) (s : Shelf)
    → ((shelved es ps s).width ≡ s.width) × ((shelved es ps s).wide ≡ s.wide)
widths [] ps s = (refl, refl)
widths (e ∷ es) [] s = (refl, refl)
widths (e ∷ es) (p ∷ ps) s =
    let first = widths_first e.kind e p (shelved es ps s) in
    let more = widths es ps s in
    (first.0 ∙ more.0, first.1 ∙ more.1)

pub one_view_of : (s : State) (v w : View) → IsValidManifest s.manifest → IsViewOf (shelf_of s) v
    → IsViewOf (shelf_of s) w → v ≡ w
one_view_of s v w valid h k =
    let same = widths (front_of s.manifest) s.parts (active_shelf s) in
    one_view (shelf_of s) v w (subst (λ (n : ℕ). n < 2 ^ 32) (sym same.0) (valid.fits).width)
    (subst (λ (n : ℕ). n < 2 ^ 32) (sym same.1) (valid.fits).wide) h k

-- the templates that the archive passes on are those after all its messages
pub handed_on : (s : State) (c : Carry) (v : View) → IsValidManifest s.manifest → HandsOn s c → IsViewOf (shelf_of s) v
    → templates_from v.templates v.kept ≡ c.templates
handed_on s c v valid hands is =
    let all = whole s c hands in
    ap (λ (x : View). templates_from x.templates x.kept) (one_view_of s v all.view valid is all.is) ∙ all.handed
