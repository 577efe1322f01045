-- The shelf of an archive's frozen files.
use Rattle.std.proofs.Common.{◌≡◌, Bool, List, [], ◌∷◌, ◌++◌, take, refl, sym}
use Rattle.std.proofs.Common.{ap, ◌∙◌}
use Rattle.std.specs.List.{flat_map}
use Rattle.std.proofs.lemmas.List.{append-nil, append_assoc}
use Rattle.flow_manifest.specs.declared.manifest.Entry.{Entry}
use Rattle.flow_manifest.specs.declared.manifest.Kind.{Kind}
use Rattle.flow_manifest.specs.declared.manifest.Kind.TheVariants.{Wide, Rolled, Sealed, Active}
use Rattle.flow_manifest.specs.Following.{front_of}
use Rattle.flow_model.specs.Shelf.{Rollup, Segment, Shelf}
use Rattle.flow_model.specs.Shelved as shelved
use Rattle.flow_model.specs.State.{Part, State}
use Rattle.flow_archive.specs.Frozen.{counted_of, octets_in, rolled_in, rollup_of, segment_in, segment_of, shelf_with}
use Rattle.flow_archive.specs.Frozen.{wide_in, AreHeldAs, Frozen}
use Rattle.flow_archive.specs.Parts.{part_at, parts_at}

-- ---- one file

rollup_taken : (e : Entry) (f : Frozen) → f.entry ≡ e → take e.length f.octets ≡ f.octets
    → shelved.rollup_of e (record { front = take e.length f.octets; messages = [] }) ≡ rollup_of f
rollup_taken e f named counted =
    let back = sym named in
    λ i. record { file = (back i).file; messages = (back i).messages; octets = counted i }

segment_taken : (e : Entry) (f : Frozen) → f.entry ≡ e
    → shelved.segment_of e (part_at Sealed e f.octets) ≡ segment_of f
segment_taken e f named = ap (λ (x : Entry). segment_of (record f { entry = x })) (sym named)

-- a file put before others
abbrev pub with_first : Kind → Frozen → Shelf → Shelf
with_first kind f s = record s {
  merged = wide_in kind f ++ s.merged;
  rolled = rolled_in kind f ++ s.rolled;
  sealed = segment_in kind f ++ s.sealed;
}

first_taken : (kind : Kind) (e : Entry) (f : Frozen) (s : Shelf) → f.entry ≡ e
    → counted_of kind e.length f.octets ≡ f.octets
    → shelved.shelved_first kind e (part_at kind e f.octets) s ≡ with_first kind f s
first_taken Wide e f s named counted =
    ap (λ (r : Rollup). record s { merged = r ∷ s.merged }) (rollup_taken e f named counted)
first_taken Rolled e f s named counted =
    ap (λ (r : Rollup). record s { rolled = r ∷ s.rolled }) (rollup_taken e f named counted)
first_taken Sealed e f s named counted =
    ap (λ (g : Segment). record s { sealed = g ∷ s.sealed }) (segment_taken e f named)
first_taken Active e f s named counted = refl

-- ---- all of them

abbrev with_files : List Frozen → Shelf → Shelf
with_files files s = record s {
  merged = flat_map (λ f. wide_in f.entry.kind f) files ++ s.merged;
  rolled = flat_map (λ f. rolled_in f.entry.kind f) files ++ s.rolled;
  sealed = flat_map (λ f. segment_in f.entry.kind f) files ++ s.sealed;
}

files_taken : (honest : Bool) (entries : List Entry) (files : List Frozen) (s : Shelf) → AreHeldAs honest entries files
    → shelved.shelved entries (parts_at octets_in entries files) s ≡ with_files files s
files_taken honest [] [] s are = refl
files_taken honest [] (f ∷ files) s are = absurd are
files_taken honest (e ∷ entries) [] s are = absurd are
files_taken honest (e ∷ entries) (f ∷ files) s are =
    ap (shelved.shelved_first e.kind e (part_at e.kind e f.octets)) (files_taken honest entries files s are.1)
    ∙ first_taken e.kind e f (with_files files s) are.0.entry_is are.0.counted
    ∙ ap (λ (x : Entry). with_first x.kind f (with_files files s)) (sym are.0.entry_is)
    ∙ joined (wide_in f.entry.kind f) (rolled_in f.entry.kind f) (segment_in f.entry.kind f)
  where
    joined : (m r : List Rollup) (g : List Segment)
        → ◌≡◌ {A = Shelf} (record s {
          merged = m ++ (flat_map (λ (x : Frozen). wide_in x.entry.kind x) files ++ s.merged);
          rolled = r ++ (flat_map (λ (x : Frozen). rolled_in x.entry.kind x) files ++ s.rolled);
          sealed = g ++ (flat_map (λ (x : Frozen). segment_in x.entry.kind x) files ++ s.sealed);
        }) (record s {
          merged = (m ++ flat_map (λ (x : Frozen). wide_in x.entry.kind x) files) ++ s.merged;
          rolled = (r ++ flat_map (λ (x : Frozen). rolled_in x.entry.kind x) files) ++ s.rolled;
          sealed = (g ++ flat_map (λ (x : Frozen). segment_in x.entry.kind x) files) ++ s.sealed;
        })
    joined m r g =
        let a = sym (append_assoc m (flat_map (λ (x : Frozen). wide_in x.entry.kind x) files) s.merged) in
        let b = sym (append_assoc r (flat_map (λ (x : Frozen). rolled_in x.entry.kind x) files) s.rolled) in
        let d = sym (append_assoc g (flat_map (λ (x : Frozen). segment_in x.entry.kind x) files) s.sealed) in
        λ i. record s { merged = a i; rolled = b i; sealed = d i }

-- the shelf of a state, on every disk
pub shelf_is : (honest : Bool) (s : State) (files : List Frozen) → AreHeldAs honest (front_of s.manifest) files
    → s.parts ≡ parts_at octets_in (front_of s.manifest) files
    → shelf_with s.manifest.width s.manifest.wide files s.active.front s.active.messages ≡ shelved.shelf_of s
shelf_is honest s files are is =
    let a = append-nil (flat_map (λ (x : Frozen). wide_in x.entry.kind x) files) in
    let b = append-nil (flat_map (λ (x : Frozen). rolled_in x.entry.kind x) files) in
    let d = append-nil (flat_map (λ (x : Frozen). segment_in x.entry.kind x) files) in
    sym (ap (λ (ps : List Part). shelved.shelved (front_of s.manifest) ps (shelved.active_shelf s)) is
    ∙ files_taken honest (front_of s.manifest) files (shelved.active_shelf s) are
    ∙ (λ i. record (shelved.active_shelf s) { merged = a i; rolled = b i; sealed = d i }))
