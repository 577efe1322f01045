use Rattle.std.proofs.Common.{◌≡◌, ℕ, length, ap, ◌∙◌, arith}
use Rattle.std.specs.Prelude.{nat_lt}
use Rattle.std.proofs.lemmas.Bool.{lt-leb}
use Rattle.flow_codec.specs.declared.templates.DomainTemplates.{DomainTemplates}
use Rattle.flow_codec.specs.Templates.{AllTemplates}
use Rattle.flow_codec.proofs.Entries.{with_entry}
use Rattle.flow_codec.proofs.Limits.{is_some_map, no_room_left, room_left}
use Rattle.flow_codec.proofs.templates.Templates.lacks_room_for.Goals as goal

-- the length after an insertion, as the value of the open list
seen : (domain : ℕ) (here : DomainTemplates) (xs ys : AllTemplates) → xs ≡ ys
    → nat_lt 64 (length (with_entry xs domain here)) ≡ nat_lt 64 (length (with_entry ys domain here))
seen domain here xs ys e = ap (λ (all : AllTemplates). nat_lt 64 (length (with_entry all domain here))) e

pub returns-then-len-ge-MOST_DOMAINS : goal.returns-then-len-ge-MOST_DOMAINS
returns-then-len-ge-MOST_DOMAINS c here =
    no_room_left c.args.domain c.self.inside.domains.entries here c.is_none.result
    (omega (arith, c.len.ensures)) c.self.invariant.0.count (rw (← c.get.ensures.value) (is_some_map _ c.get.result
    ∙ c.is_none.ensures))
    ∙ seen c.args.domain here c.self.inside.domains.entries c.args.self.now c.self.view_is

pub returns-else-len-ge-MOST_DOMAINS : goal.returns-else-len-ge-MOST_DOMAINS
returns-else-len-ge-MOST_DOMAINS c here =
    lt-leb _ _ c.if-len-ge-MOST_DOMAINS.false
    ∙ room_left c.args.domain c.self.inside.domains.entries here (omega (arith, c.len.ensures))
    ∙ seen c.args.domain here c.self.inside.domains.entries c.args.self.now c.self.view_is
