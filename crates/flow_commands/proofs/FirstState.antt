-- The first state of an archive, by its numbers.
use Rattle.std.proofs.Common.{◌≡◌, ◌∙◌, ap, ap₂, ℕ, Option, Some, None}
use Rattle.std.specs.Prelude.{unwrap_or}
use Rattle.flow_model.specs.State.{State, empty_state}
use Rattle.flow_archive.specs.Beginning.{widest}
use Rattle.flow_commands.specs.Plans.{Plan}
use Rattle.flow_commands.specs.Made.{first_state}

abbrev with_wide : Plan → Option ℕ → State
with_wide p wide = empty_state p.width (unwrap_or wide (widest p.width)) p.limit

pub without_wide : (p : Plan) (width limit : ℕ) → width ≡ p.width → limit ≡ p.limit → None ≡ p.wide
    → empty_state width (widest width) limit ≡ first_state p
without_wide p width limit w l none =
    ap₂ (λ (w : ℕ) (l : ℕ). empty_state w (widest w) l) w l ∙ ap (with_wide p) none

pub by_choice : (p : Plan) (width wide limit : ℕ) → width ≡ p.width → limit ≡ p.limit → Some wide ≡ p.wide
    → empty_state width wide limit ≡ first_state p
by_choice p width wide limit w l some =
    ap₂ (λ (w : ℕ) (l : ℕ). empty_state w wide l) w l ∙ ap (with_wide p) some
