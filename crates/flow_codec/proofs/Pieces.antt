-- What messages show of records that aren't read, counted by pieces.
use Rattle.std.proofs.Common.{◌≡◌, ◌∙◌, ℕ, ◌+◌, ◌-◌, ◌^◌, List, [], ◌∷◌, Option, refl, sym, ap, arith}
use Rattle.std.specs.Prelude.{min}
use Rattle.flow_codec.specs.declared.losses.CaveatCounts.{CaveatCounts}
use Rattle.flow_codec.specs.declared.losses.Losses.{Losses}
use Rattle.flow_codec.specs.Losses.{both_caveats, both_losses, elsewhere_of, joined_losses, losses_from, none_after}
use Rattle.flow_codec.specs.Losses.{AreCounts}

-- a sum that stops at a limit
capped : (a b c m : ℕ) → min (min (a + b) m + c) m ≡ min (a + min (b + c) m) m
capped a b c m = omega (arith)

-- the counts of a piece, and of all
abbrev counts : (d : Option ℕ) (u e g m : ℕ) (c : CaveatCounts) → Losses
counts d u e g m c = record { unread = u; domain = d; elsewhere = e; gaps = g; missing = m; caveats = c }

same : (d : Option ℕ) (u0 u1 e0 e1 g0 g1 m0 m1 : ℕ) (c0 c1 : CaveatCounts) → u0 ≡ u1 → e0 ≡ e1 → g0 ≡ g1 → m0 ≡ m1
    → c0 ≡ c1 → counts d u0 e0 g0 m0 c0 ≡ counts d u1 e1 g1 m1 c1
same d u0 u1 e0 e1 g0 g1 m0 m1 c0 c1 pu pe pg pm pc =
    ap (λ (x : ℕ). counts d x e0 g0 m0 c0) pu ∙ ap (λ (x : ℕ). counts d u1 x g0 m0 c0) pe
    ∙ ap (λ (x : ℕ). counts d u1 e1 x m0 c0) pg ∙ ap (λ (x : ℕ). counts d u1 e1 g1 x c0) pm
    ∙ ap (counts d u1 e1 g1 m1) pc

abbrev three : (p u s : ℕ) → CaveatCounts
three p u s = record { placed = p; uncounted = u; sampled = s }

alike : (p0 p1 u0 u1 s0 s1 : ℕ) → p0 ≡ p1 → u0 ≡ u1 → s0 ≡ s1 → three p0 u0 s0 ≡ three p1 u1 s1
alike p0 p1 u0 u1 s0 s1 pp pu ps =
    ap (λ (x : ℕ). three x u0 s0) pp ∙ ap (λ (x : ℕ). three p1 x s0) pu ∙ ap (three p1 u1) ps

caveats_more : (a b c : CaveatCounts) → both_caveats (both_caveats a b) c ≡ both_caveats a (both_caveats b c)
caveats_more a b c = alike _ _ _ _ _ _ (capped a.placed b.placed c.placed (2 ^ 64 - 1))
    (capped a.uncounted b.uncounted c.uncounted (2 ^ 64 - 1)) (capped a.sampled b.sampled c.sampled (2 ^ 64 - 1))

-- one message more, of the whole and of the piece
more : (a piece m : Losses) → both_losses (joined_losses a piece) m ≡ joined_losses a (both_losses piece m)
more a piece m = same _ _ _ _ _ _ _ _ _ _ _ (capped a.unread piece.unread m.unread (2 ^ 64 - 1))
    (capped a.elsewhere piece.elsewhere (elsewhere_of piece.domain m) (2 ^ 64 - 1))
    (capped a.gaps piece.gaps m.gaps (2 ^ 64 - 1)) (capped a.missing piece.missing m.missing (2 ^ 64 - 1))
    (caveats_more a.caveats piece.caveats m.caveats)

pieces : (a piece : Losses) (messages : List Losses)
    → losses_from (joined_losses a piece) messages ≡ joined_losses a (losses_from piece messages)
pieces a piece [] = refl
pieces a piece (m ∷ ms) =
    ap (λ (l : Losses). losses_from l ms) (more a piece m) ∙ pieces a (both_losses piece m) ms

none_more : (a : Losses) → AreCounts a → joined_losses a (none_after a) ≡ a
none_more a (u, e, g, m, p, c, s) =
    same _ _ _ _ _ _ _ _ _ _ _ (omega (arith, u)) (omega (arith, e)) (omega (arith, g)) (omega (arith, m))
    (alike _ _ _ _ _ _ (omega (arith, p)) (omega (arith, c)) (omega (arith, s)))

pub by_pieces : (a : Losses) (messages : List Losses) → AreCounts a
    → joined_losses a (losses_from (none_after a) messages) ≡ losses_from a messages
by_pieces a messages counts =
    sym (pieces a (none_after a) messages) ∙ ap (λ (l : Losses). losses_from l messages) (none_more a counts)
