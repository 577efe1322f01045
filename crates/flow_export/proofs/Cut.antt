-- How many messages of an archive are in sums alone.
use Rattle.std.proofs.Common.{◌≡◌, ◌∙◌, ◌≤◌, ◌+◌, ◌-◌, ℕ, List, [], ◌∷◌, length, sym, arith, refl}
use Rattle.std.proofs.Math.Nat.{min-eq_left}
use Rattle.std.proofs.lemmas.List.Sums.{sum_by-cons, sum_by-take-le}
use Rattle.flow_manifest.specs.declared.manifest.Entry.{Entry}
use Rattle.flow_manifest.specs.declared.manifest.Kind.{Kind}
use Rattle.flow_manifest.specs.declared.manifest.Kind.TheVariants.{Wide, Rolled, Sealed, Active}
use Rattle.flow_manifest.specs.Following.{front_of, messages_of}
use Rattle.flow_measure.specs.View.{View}
use Rattle.flow_model.specs.Shelf.{cut_of, rollup_message_count, Rollup, Shelf}
use Rattle.flow_model.specs.Shelved.{active_shelf, rollup_of, shelf_of, shelved, shelved_first}
use Rattle.flow_model.specs.Standing.{StandsFor}
use Rattle.flow_model.specs.State.{Part, State}
use Rattle.flow_model.specs.Views.{IsViewOf}
use Rattle.flow_export.specs.Asked.{cut_in}

first_most : (kind : Kind) (entry : Entry) (part : Part) (s : Shelf)
    → cut_of (shelved_first kind entry part s) ≤ entry.messages + cut_of s
first_most Wide entry part s =
    let own : cut_of (shelved_first Wide entry part s)
    ≡ rollup_message_count (rollup_of entry part ∷ s.merged) + rollup_message_count s.rolled = refl in
    let more : rollup_message_count (rollup_of entry part ∷ s.merged) ≡ entry.messages + rollup_message_count s.merged =
    sum_by-cons (λ (r : Rollup). r.messages) (rollup_of entry part) s.merged in
    omega (arith, own, more)
first_most Rolled entry part s =
    let own : cut_of (shelved_first Rolled entry part s)
    ≡ rollup_message_count s.merged + rollup_message_count (rollup_of entry part ∷ s.rolled) = refl in
    let more : rollup_message_count (rollup_of entry part ∷ s.rolled) ≡ entry.messages + rollup_message_count s.rolled =
    sum_by-cons (λ (r : Rollup). r.messages) (rollup_of entry part) s.rolled in
    omega (arith, own, more)
first_most Sealed entry part s =
    let same : cut_of (shelved_first Sealed entry part s) ≡ cut_of s = refl in omega (arith, same)
first_most Active entry part s =
    let same : cut_of (shelved_first Active entry part s) ≡ cut_of s = refl in omega (arith, same)

all_most : (entries : List Entry) (parts : List Part) (s : Shelf)
    → cut_of (shelved entries parts s) ≤ messages_of entries + cut_of s
all_most [] parts s = let same : cut_of (shelved [] parts s) ≡ cut_of s = refl in omega (arith, same)
all_most (entry ∷ entries) [] s =
    let same : cut_of (shelved (entry ∷ entries) [] s) ≡ cut_of s = refl in omega (arith, same)
all_most (entry ∷ entries) (part ∷ parts) s =
    let before = shelved entries parts s in
    let same : cut_of (shelved (entry ∷ entries) (part ∷ parts) s)
    ≡ cut_of (shelved_first entry.kind entry part before) = refl in
    let more : messages_of (entry ∷ entries) ≡ entry.messages + messages_of entries =
    sum_by-cons (λ (e : Entry). e.messages) entry entries in
    let own = first_most entry.kind entry part before in
    let rest = all_most entries parts s in
    omega (arith, same, more, own, rest)

cut_small : (reads : ℕ → List ℕ) (s : State) → StandsFor reads s → cut_of (shelf_of s) ≤ 18446744073709551615
cut_small reads s stands =
    let most = all_most (front_of s.manifest) s.parts (active_shelf s) in
    let own = sum_by-take-le (λ (e : Entry). e.messages) s.manifest.entries (length s.manifest.entries - 1) in
    let within = stands.files.within.all in
    omega (arith, most, own, within)

-- what is seen of it is the cut of the view
pub cut_is : (reads : ℕ → List ℕ) (s : State) (v : View) → StandsFor reads s → IsViewOf (shelf_of s) v
    → cut_in (shelf_of s) ≡ v.cut
cut_is reads s v stands view = min-eq_left (cut_small reads s stands) ∙ sym view.cut
