use Rattle.std.proofs.Common.{◌≡◌, Option, Some, IsTrue, length, sym, ◌∙◌, ap, subst}
use Rattle.flow_measure.specs.declared.span.PartSpan.{PartSpan}
use Rattle.flow_measure.specs.Span.{span_of, starts_in}
use Rattle.flow_measure.specs.Sums.{Table}
use Rattle.flow_manifest.specs.Following.{made_of}
use Rattle.flow_archive.specs.Frozen.{Frozen, HasSpan, IsAlone, IsHeldAs}
use Rattle.flow_archive.specs.UnderWay.{frozen_staged, frozen_staged_in, FrozenStaged, RunningJob}
use Rattle.flow_archive.proofs.Spanned.{held_there, made_there}
use Rattle.flow_archive.proofs.install.take_staged.Goals as goal

pub with_span-requires : goal.with_span-requires
with_span-requires g c =
    let S = g.S.SealedFile in
    let r : RunningJob = c.in-Some.job in
    let raw = c.in-Some-staged.file in
    let f : FrozenStaged = frozen_staged S.number S.size S.honest S.octets raw in
    let job_is : c.args.job.now ≡ Some r = sym c.replace.ensures.value ∙ c.in-Some.is in
    let staged_is : r.staged ≡ Some f = sym (ap (λ (x : RunningJob). x.staged) c.job.view_is)
    ∙ ap (frozen_staged_in S.number S.size S.honest S.octets) c.in-Some-staged.is in
    let rows_are : r.rows ≡ c.job.inside.rows = sym (ap (λ (x : RunningJob). x.rows) c.job.view_is) in
    let is = c.requires.staged in
    let same : is.0 ≡ r = cc in
    let file : is.1 ≡ f = cc in
    let there = made_there (S.honest raw) (S.size raw) (S.octets raw) c.args.entry r.kind r.rows
    (g.met.S.SealedFile.whole raw) (ap (λ (x : FrozenStaged). length x.octets) (sym file) ∙ is.5)
    (is.7 ∙ ap (λ (x : RunningJob). made_of x.kind) same) (c.requires.sums r f job_is staged_is) in
    let has : HasSpan c.named.result r.rows.width (span_of (starts_in r.rows.sums)) =
    subst (λ (x : Frozen). HasSpan x r.rows.width (span_of (starts_in r.rows.sums))) (sym c.named.ensures) there in
    let own : HasSpan c.named.result c.job.inside.rows.width (span_of (starts_in c.job.inside.rows.sums)) =
    subst (λ (t : Table). HasSpan c.named.result t.width (span_of (starts_in t.sums))) rows_are has in
    rw (c.width.ensures.width, c.span.ensures) own

pub returns-clause-file : goal.returns-clause-file
returns-clause-file g c = λ r f is made.
    let S = g.S.SealedFile in
    let own : RunningJob = c.in-Some.job in
    let raw = c.in-Some-staged.file in
    let here : FrozenStaged = frozen_staged S.number S.size S.honest S.octets raw in
    let job_is : c.args.job.now ≡ Some own = sym c.replace.ensures.value ∙ c.in-Some.is in
    let staged_is : own.staged ≡ Some here = sym (ap (λ (x : RunningJob). x.staged) c.job.view_is)
    ∙ ap (frozen_staged_in S.number S.size S.honest S.octets) c.in-Some-staged.is in
    let same : f ≡ here = cc in
    let asked = c.requires.staged in
    let file : asked.1 ≡ here = cc in
    let there = held_there (S.honest raw) (S.size raw) (S.octets raw) c.args.entry asked.0.kind
    (g.met.S.SealedFile.whole raw) (ap (λ (x : FrozenStaged). length x.octets) (sym file) ∙ asked.5) asked.7 in
    subst (λ (x : FrozenStaged). IsHeldAs x.honest c.args.entry c.with_span.result × IsAlone c.with_span.result
    × (IsTrue x.honest → c.with_span.result.octets ≡ x.octets)) (sym same)
    (subst (λ (x : Frozen). IsHeldAs (S.honest raw) c.args.entry x × IsAlone x × (IsTrue (S.honest raw)
    → x.octets ≡ here.octets)) (sym (c.with_span.ensures ∙ c.named.ensures)) there)
