-- What is asked of a snapshot's files.
use Rattle.std.proofs.Common.{◌≡◌, ℕ, Bool, ◌+◌, ◌<◌, List, [], ◌∷◌, ◌++◌, length, map, take, refl, sym, ap}
use Rattle.std.proofs.Common.{subst, ◌∙◌, append-nil, get_or}
use Rattle.std.specs.Prelude.{IsTrue, ◌&&◌, Err, Some, None, slice_get}
use Rattle.std.specs.List.{list_all}
use Rattle.std.specs.Arc.{arc_value}
use Rattle.std.specs.declared.sync.Arc.{Arc}
use Rattle.std.proofs.lemmas.List.{take_more, map-append, length-append}
use Rattle.std.proofs.lemmas.List.Concat.{flat_map-append}
use Rattle.flow_codec.specs.Templates.{AllTemplates}
use Rattle.flow_disk.specs.declared.sealed.SealedFile.{Ghosts}
use Rattle.flow_refusals.specs.declared.read_refusal.ReadRefusal.{ReadRefusal}
use Rattle.flow_refusals.specs.declared.read_refusal.ReadRefusal.TheVariants as read
use Rattle.flow_measure.specs.View.{View}
use Rattle.flow_segment.specs.declared.sealed.SealedPart.{SealedPart}
use Rattle.flow_segment.specs.Prefix.{AreTemplatesGiven, IsRestated}
use Rattle.flow_segment.specs.Segment.{part_octets}
use Rattle.flow_snapshot.specs.Files.{cut_into, is_honest, segment_of, shared}
use Rattle.flow_model.specs.Shelf.{messages_in, Shelf}
use Rattle.flow_snapshot.specs.Answered.{IsNoDamage}
use Rattle.flow_model.specs.Views.{AreRestated, IsViewOf}
use Rattle.flow_snapshot.proofs.KeptFlows.{next_ones, Next}
use Rattle.flow_snapshot.proofs.PartMessages.{cut_count}
use Rattle.flow_snapshot.proofs.Sharing.{first_of_two, second_of_two}

-- one part more has its messages more
pub sealed_more : {F X Z : Type 0} {files : Ghosts F X} (parts : List (Arc (SealedPart F X files) Z)) (i : ℕ)
    (item : Arc (SealedPart F X files) Z) (part : SealedPart F X files) → i < length parts → item ≡ get_or parts i item
    → part ≡ arc_value item
    → length (messages_in (map segment_of (shared (take (i + 1) parts))))
    ≡ length (messages_in (map segment_of (shared (take i parts)))) + part.messages
sealed_more {F} {X} {Z} {files} parts i item part within is same =
    let octets = part_octets part.prefix part.length (files.octets part.reader) in
    let front = map segment_of (shared (take i parts)) in
    let more : take (i + 1) parts ≡ take i parts ++ item ∷ [] =
    take_more parts i item within ∙ ap (λ (x : Arc (SealedPart F X files) Z). take i parts ++ x ∷ []) (sym is) in
    let all : messages_in (map segment_of (shared (take (i + 1) parts)))
    ≡ messages_in front ++ cut_into part.messages octets =
    ap (λ (ps : List (Arc (SealedPart F X files) Z)). messages_in (map segment_of (shared ps))) more
    ∙ ap (λ (ps : List (SealedPart F X files)). messages_in (map segment_of ps))
    (map-append arc_value (take i parts) (item ∷ [])
    ∙ ap (λ (p : SealedPart F X files). shared (take i parts) ++ p ∷ []) (sym same))
    ∙ ap messages_in (map-append segment_of (shared (take i parts)) (part ∷ []))
    ∙ flat_map-append (λ g. g.messages) front (segment_of part ∷ [])
    ∙ ap (λ (ms : List (List ℕ)). messages_in front ++ ms) (append-nil (cut_into part.messages octets)) in
    ap length all ∙ length-append (messages_in front) (cut_into part.messages octets)
    ∙ ap (λ (k : ℕ). length (messages_in front) + k) (cut_count part.messages octets)

-- ---- kept messages in two parts, those of sealed segments and those of the active one

pub kept_in_two : (s : Shelf) (v : View) → IsViewOf s v
    → Next (λ ms. ms ≡ []) v.templates v.kept (messages_in s.sealed) s.active v.templates
kept_in_two s v is = next_ones (λ ms. ms ≡ []) v.templates v.kept (messages_in s.sealed) s.active v.templates
    is.accepted (record {
      front = [];
      rest = v.kept;
      whole = refl;
      octets = is.kept;
      moved = refl;
      has = refl;
    })

-- ---- the templates before the kept messages

-- the first segment's prefix restates them
pub first_templates : {F X Z : Type 0} {files : Ghosts F X} (items rest : List (Arc (SealedPart F X files) Z))
    (item : Arc (SealedPart F X files) Z) (part : SealedPart F X files) (m : Bool) (before : AllTemplates)
    (prefix : List ℕ) → items ≡ item ∷ rest → part ≡ arc_value item
    → IsTrue (m && list_all is_honest (shared items)) → AreRestated before (map segment_of (shared items)) prefix
    → IsTrue (is_honest part) × IsRestated (part_octets 0 part.prefix (files.octets part.reader)) before
first_templates {F} {X} {Z} {files} items rest item part m before prefix is same honest restated =
    let parts : shared items ≡ part ∷ shared rest =
    ap shared is ∙ ap (λ (p : SealedPart F X files). p ∷ shared rest) (sym same) in
    let all = second_of_two m (list_all is_honest (shared items)) honest in (
      first_of_two (is_honest part) (list_all is_honest (shared rest))
          (subst (λ (ps : List (SealedPart F X files)). IsTrue (list_all is_honest ps)) parts all),
      (subst (λ (ps : List (SealedPart F X files)). AreRestated before (map segment_of ps) prefix) parts restated).0,
    )

-- without sealed segments it is the active one's
pub active_templates : {F X Z : Type 0} {files : Ghosts F X} (items : List (Arc (SealedPart F X files) Z))
    (before : AllTemplates) (prefix : List ℕ) → items ≡ []
    → AreRestated before (map segment_of (shared items)) prefix → IsRestated prefix before
active_templates {F} {X} {Z} {files} items before prefix is restated =
    subst (λ (ps : List (Arc (SealedPart F X files) Z)). AreRestated before (map segment_of (shared ps)) prefix) is
    restated

pub templates_blameless : (e : ReadRefusal) (all : AllTemplates) → AreTemplatesGiven all (Err e)
    → IsNoDamage e
templates_blameless (read.Damaged file at) all h = h
templates_blameless read.Fault all h = tt
templates_blameless read.OutOfMemory all h = tt

pub honest_sealed : (m a : Bool) → IsTrue (m && a) → IsTrue a
honest_sealed m a h = second_of_two m a h

pub first_item : {A : Type 0} (list : List A) (x : A) → Some x ≡ slice_get list 0
    → (rest : List A) × (list ≡ x ∷ rest)
first_item [] x is = absurd cc
first_item (y ∷ ys) x is = (ys, cc)

pub no_item : {A : Type 0} (list : List A) → None ≡ slice_get list 0 → list ≡ []
no_item [] is = refl
no_item (y ∷ ys) is = absurd cc
