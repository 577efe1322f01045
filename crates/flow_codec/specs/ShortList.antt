-- The items of a list that keeps one in place, and more in memory of their own.
use Rattle.std.specs.Prelude.{List, []}
use Rattle.flow_codec.specs.declared.short_list.Kept.{Kept}
use Rattle.flow_codec.specs.declared.short_list.Kept.TheVariants.{Nothing, One, Many}

abbrev pub listed : {T : Type 0} → Kept T → List T
listed Nothing = []
listed (One items) = items
listed (Many items) = items.items
