use Rattle.std.proofs.Common.{rules}
use Rattle.std.proofs.lemmas.Fn.{filter_same}
use Rattle.std.specs.Ordering.{nat_cmp}
use Rattle.std.specs.BTreeMap.{get}
use Rattle.flow_folder_view.specs.Changed.{is_left}
use Rattle.flow_folder_view.proofs.changed.ChangedFiles.left_of.Goals as goal

pub returns : goal.returns
returns c =
    filter_same _ (λ file. is_left (get nat_cmp c.args.self.now.changes file)) _ (λ x b f' k. search rules) _ _
    c.retain.ensures.filtered
