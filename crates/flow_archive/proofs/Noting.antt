-- The span of the active segment's flows, as messages are added to it and new segments begin.
use Rattle.std.proofs.Common.{◌≡◌, ℕ, List, [], ◌++◌, sym, subst}
use Rattle.std.specs.Prelude.{Option, Some, None, IfSome}
use Rattle.flow_codec.specs.Templates.{AllTemplates}
use Rattle.flow_measure.specs.declared.span.PartSpan.{PartSpan}
use Rattle.flow_measure.specs.Span.{no_span}
use Rattle.flow_segment.specs.Batch.{AreTakenNoting}
use Rattle.flow_segment.specs.Carry.{Carry, prefix_of, restated, IsCarry}
use Rattle.flow_segment.specs.Spans.{AreNotedSoFar, IsOwnSpan}
use Rattle.flow_segment.proofs.Carrying.{is_read_back}
use Rattle.flow_segment.proofs.Noted.{noted_more, none_so_far}
use Rattle.flow_archive.proofs.Chaining.{called_read}

-- a batch more
pub noted_on : (prefix : List ℕ) (done octets : List (List ℕ)) (old new : Carry) (before after : Option PartSpan)
    → IfSome before (λ s. AreNotedSoFar prefix done old.templates (Some s))
    → AreTakenNoting octets old new before after
    → IfSome after (λ s. AreNotedSoFar prefix (done ++ octets) new.templates (Some s))
noted_on prefix done octets old new before None h taken = tt
noted_on prefix done octets old new None (Some t) h taken = let wrong = taken.5 in absurd cc
noted_on prefix done octets old new (Some s) (Some t) h taken = noted_more prefix done octets old new (Some s) (Some t) h taken

-- a segment that begins
pub none_noted : (c : Carry) (span : PartSpan) → IsCarry c → span ≡ no_span
    → AreNotedSoFar (prefix_of c) [] c.templates (Some span)
none_noted c span h is =
    let back = is_read_back c h in
    subst (λ (s : PartSpan). AreNotedSoFar (prefix_of c) [] c.templates (Some s)) (sym is)
    (none_so_far (prefix_of c) c.templates (restated c, called_read c h, back.none, sym back.templates))

pub some_noted : (prefix : List ℕ) (messages : List (List ℕ)) (now : AllTemplates) (span : Option PartSpan)
    → IfSome span (λ s. AreNotedSoFar prefix messages now (Some s))
    → IfSome span (λ s. (at : AllTemplates) × AreNotedSoFar prefix messages at (Some s))
some_noted prefix messages now None h = tt
some_noted prefix messages now (Some s) h = (now, h)
