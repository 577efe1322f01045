-- What is left of a history: kept messages, and the sums of those that were rolled.
use Rattle.std.specs.Prelude.{◌≡◌, ℕ, ◌-◌, List, [], ◌∷◌, length, map, sum, take, drop}
use Rattle.std.specs.List.{flat_map}
use Rattle.std.specs.FinMap.{FinMap, entries}
use Rattle.flow_codec.specs.Templates.{AllTemplates}
use Rattle.flow_measure.specs.declared.rows.Sums.{Sums}
use Rattle.flow_measure.specs.Sums.{key_cmp, gathered, sums_by}
use Rattle.flow_measure.specs.History.{Accepted, History, templates_of, flows_in}

pub record View : Type 0 where
  -- the sums over wide intervals of the messages up to `second`
  pub merged : FinMap key_cmp Sums
  -- the sums of each rolled entry's messages, the oldest first: together those after `second` up to `cut`
  pub rolled : List (FinMap key_cmp Sums)
  -- the messages after the cut, and the templates before them
  pub kept : List Accepted
  pub templates : AllTemplates
  pub second : ℕ
  pub cut : ℕ
  pub position : ℕ
  pub width : ℕ
  pub wide : ℕ

-- the list divided into lists of these lengths, one after the other
abbrev pub parted : {A : Type 0} → List ℕ → List A → List (List A)
parted [] xs = []
parted (n ∷ ns) xs = take n xs ∷ parted ns (drop n xs)

-- the messages of a history after its second cut and up to its cut
abbrev pub messages_between_cuts : History → List Accepted
messages_between_cuts h = take (h.cut - h.second) (drop h.second h.all)

-- the view of a history whose rolled entries have so many messages each, the oldest first
abbrev pub view_of : History → List ℕ → View
view_of h counts = record {
  merged = sums_by h.wide (flows_in (take h.second h.all));
  rolled = map (λ messages. sums_by h.width (flows_in messages)) (parted counts (messages_between_cuts h));
  kept = drop h.cut h.all;
  templates = templates_of (take h.cut h.all);
  second = h.second;
  cut = h.cut;
  position = length h.all;
  width = h.width;
  wide = h.wide;
}

-- the entries represent all messages between the cuts
abbrev pub AreCountsOf : History → List ℕ → Type 0
AreCountsOf h counts = sum counts ≡ h.cut - h.second

-- the sums of several maps, key by key
abbrev pub gathered_all : List (FinMap key_cmp Sums) → FinMap key_cmp Sums
gathered_all maps = gathered (flat_map entries maps)
