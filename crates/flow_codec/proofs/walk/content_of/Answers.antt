use Rattle.std.proofs.Common.{List, [], refl, sym, subst, append-nil, arith}
use Rattle.std.proofs.lemmas.Bool.{lt-ltb}
use Rattle.flow_codec.specs.Raw.{Placed}
use Rattle.flow_codec.specs.Reading.{content_at, data_at}
use Rattle.flow_codec.proofs.walk.content_of.Goals as goal

pub returns-in-Some-clause-exact : goal.returns-in-Some-clause-exact
unfolding content_at
returns-in-Some-clause-exact g c = (
  [],
  rw (← c.kind_of.ensures, c.in-Some.is, c.in_ok-replaced.ensures.exact) refl,
  (
    (λ start before h. subst (λ (taken : List Placed). g.S.RecordSink.holds start taken c.args.sink.now)
        (sym (append-nil before)) h),
    omega arith,
  ),
)

pub returns-then-id-lt-FIRST_DATA_SET-clause-exact : goal.returns-then-id-lt-FIRST_DATA_SET-clause-exact
unfolding content_at data_at
returns-then-id-lt-FIRST_DATA_SET-clause-exact g c = (
  [],
  rw (← c.kind_of.ensures, c.in_default.is, lt-ltb c.args.id 256 (omega (arith, c.if-id-lt-FIRST_DATA_SET.true))) refl,
  (
    (λ start before h. subst (λ (taken : List Placed). g.S.RecordSink.holds start taken c.args.sink.now)
        (sym (append-nil before)) h),
    omega arith,
  ),
)
