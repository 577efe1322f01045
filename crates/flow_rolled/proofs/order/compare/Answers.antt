use Rattle.std.proofs.Common.{◌≡◌, ℕ, Bool, Option, Some, None, true, false, refl, sym, ap, ◌∙◌}
use Rattle.std.specs.Prelude.{is_some, not}
use Rattle.std.specs.Option.{option_cmp}
use Rattle.std.specs.Ordering.{nat_cmp, bool_cmp, ordering_then}
use Rattle.std.specs.declared.cmp.Ordering.{Ordering}
use Rattle.std.specs.declared.cmp.Ordering.TheVariants.{Less, Equal, Greater}
use Rattle.flow_rolled.specs.Rows.{protocol_rank}
use Rattle.flow_rolled.proofs.order.compare.Goals as goal

kinds : (a b : Option ℕ) → bool_cmp (not (is_some a)) (not (is_some b)) ≡ nat_cmp (protocol_rank a) (protocol_rank b)
kinds None None = refl
kinds None (Some q) = refl
kinds (Some p) None = refl
kinds (Some p) (Some q) = refl

turned : (s x : Bool) → s ≡ not x → x ≡ not s
turned s true h = ap not (sym h)
turned s false h = ap not (sym h)

regrouped : (a b c d : Ordering)
    → ordering_then (ordering_then (ordering_then a b) c) d ≡ ordering_then a (ordering_then b (ordering_then c d))
regrouped Less b c d = refl
regrouped Equal Less c d = refl
regrouped Equal Equal c d = refl
regrouped Equal Greater c d = refl
regrouped Greater b c d = refl

pub returns : goal.returns
returns c =
    let a = c.args.a.now in let b = c.args.b.now in
    let kind : bool_cmp c.is_none.result c.is_none-2.result
    ≡ nat_cmp (protocol_rank a.protocol) (protocol_rank b.protocol) =
    (λ i. bool_cmp (turned _ c.is_none.result c.is_none.ensures i)
    (turned _ c.is_none-2.result c.is_none-2.ensures i)) ∙ kinds a.protocol b.protocol in
    rw (
      c.then-3.ensures,
      c.then-2.ensures,
      c.then.ensures,
      c.cmp.ensures,
      c.cmp-2.ensures,
      c.cmp-3.ensures,
      c.cmp-4.ensures,
    )
    (regrouped (nat_cmp a.domain b.domain) (bool_cmp c.is_none.result c.is_none-2.result) (nat_cmp a.start b.start)
    (option_cmp nat_cmp a.protocol b.protocol)
    ∙ ap (λ x. ordering_then (nat_cmp a.domain b.domain)
    (ordering_then x (ordering_then (nat_cmp a.start b.start) (option_cmp nat_cmp a.protocol b.protocol)))) kind)
