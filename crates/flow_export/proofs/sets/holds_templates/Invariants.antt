use Rattle.std.proofs.Common.{◌≡◌, ◌-◌, length}
use Rattle.std.specs.List.{list_any}
use Rattle.flow_export.specs.Span.{holds_templates, is_of_templates, set_ids}
use Rattle.flow_export.proofs.sets.holds_templates.Given as goal

-- the Sets so far are of no template records
abbrev pub invariant-loop-set : goal.invariant-loop-set
invariant-loop-set l =
    holds_templates l.fn.octets ≡ list_any is_of_templates (set_ids (length l.fn.octets - l.set) l.rest)
