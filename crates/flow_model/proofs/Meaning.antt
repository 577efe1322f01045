-- A shelf has one view at most.
use Rattle.std.proofs.Common.{◌≡◌, ℕ, ◌<◌, ◌^◌, List, [], ◌∷◌, refl, sym, ap, ◌∙◌}
use Rattle.std.specs.FinMap.{FinMap}
use Rattle.flow_codec.specs.Templates.{AllTemplates}
use Rattle.flow_measure.specs.declared.rows.Sums.{Sums}
use Rattle.flow_measure.specs.Sums.{Table, key_cmp}
use Rattle.flow_measure.specs.History.{read_from}
use Rattle.flow_measure.specs.View.{View, gathered_all}
use Rattle.flow_rolled.proofs.Breaking.{one_table}
use Rattle.flow_segment.specs.Prefix.{IsRestated}
use Rattle.flow_model.specs.Views.{first_prefix, IsReadIn}
use Rattle.flow_model.specs.Shelf.{Rollup, Segment, Shelf, kept_of}
use Rattle.flow_model.specs.Views.{AreRestated, AreRolled, AreRolledInto, IsViewOf}
use Rattle.flow_model.proofs.Accepting.{one_restated, read_as}

pub one_rolled : (width : ℕ) (rs : List Rollup) (ms ns : List (FinMap key_cmp Sums)) → width < 2 ^ 32
    → AreRolled width rs ms → AreRolled width rs ns → ms ≡ ns
one_rolled width [] [] [] wide h k = refl
one_rolled width [] (m ∷ ms) ns wide h k = absurd h
one_rolled width [] [] (n ∷ ns) wide h k = absurd k
one_rolled width (r ∷ rs) [] ns wide h k = absurd h
one_rolled width (r ∷ rs) (m ∷ ms) [] wide h k = absurd k
one_rolled width (r ∷ rs) (m ∷ ms) (n ∷ ns) wide h k =
    let first : m ≡ n = ap (λ (t : Table). t.sums) (one_table width wide r.octets
    (record { width = width; sums = m }) (record { width = width; sums = n }) h.0 k.0) in
    let more = one_rolled width rs ms ns wide h.1 k.1 in
    ap (λ (x : FinMap key_cmp Sums). x ∷ ms) first ∙ ap (λ (xs : List (FinMap key_cmp Sums)). n ∷ xs) more

one_merged : (width : ℕ) (rs : List Rollup) (m n : FinMap key_cmp Sums) → width < 2 ^ 32 → AreRolledInto width rs m
    → AreRolledInto width rs n → m ≡ n
one_merged width rs m n wide (ms, h, is) (ns, k, has) =
    is ∙ ap gathered_all (one_rolled width rs ms ns wide h k) ∙ sym has

same_view : (v w : View) → v.merged ≡ w.merged → v.rolled ≡ w.rolled → v.kept ≡ w.kept → v.templates ≡ w.templates
    → v.second ≡ w.second → v.cut ≡ w.cut → v.position ≡ w.position → v.width ≡ w.width → v.wide ≡ w.wide → v ≡ w
same_view v w merged rolled kept templates second cut position width wide = λ i. record {
  merged = merged i;
  rolled = rolled i;
  kept = kept i;
  templates = templates i;
  second = second i;
  cut = cut i;
  position = position i;
  width = width i;
  wide = wide i;
}

first_of_all : (before : AllTemplates) (gs : List Segment) (active : List ℕ) → AreRestated before gs active
    → IsRestated (first_prefix gs active) before
first_of_all before [] active r = r
first_of_all before (g ∷ gs) active r = r.0

pub view_read : (s : Shelf) (v : View) → IsViewOf s v → IsReadIn s v
view_read s v is = record {
  merged = is.merged;
  rolled = is.rolled;
  kept = record {
    prefix = first_of_all v.templates s.sealed s.prefix is.prefixes;
    accepted = is.accepted;
    octets = is.kept;
  };
  second = is.second;
  cut = is.cut;
  position = is.position;
  width = is.width;
  wide = is.wide;
}

pub one_read : (s : Shelf) (v w : View) → s.width < 2 ^ 32 → s.wide < 2 ^ 32 → IsReadIn s v → IsReadIn s w → v ≡ w
one_read s v w narrow wide h k =
    let templates : v.templates ≡ w.templates =
    one_restated (first_prefix s.sealed s.prefix) v.templates w.templates h.kept.prefix k.kept.prefix in
    let kept : v.kept ≡ w.kept =
    sym (read_as v.templates v.kept (kept_of s) h.kept.accepted h.kept.octets)
    ∙ ap (λ (t : AllTemplates). read_from t (kept_of s)) templates
    ∙ read_as w.templates w.kept (kept_of s) k.kept.accepted k.kept.octets in
    same_view v w (one_merged s.wide s.merged v.merged w.merged wide h.merged k.merged)
    (one_rolled s.width s.rolled v.rolled w.rolled narrow h.rolled k.rolled) kept templates (h.second ∙ sym k.second)
    (h.cut ∙ sym k.cut) (h.position ∙ sym k.position) (h.width ∙ sym k.width) (h.wide ∙ sym k.wide)

pub one_view : (s : Shelf) (v w : View) → s.width < 2 ^ 32 → s.wide < 2 ^ 32 → IsViewOf s v → IsViewOf s w → v ≡ w
one_view s v w narrow wide h k = one_read s v w narrow wide (view_read s v h) (view_read s w k)
