use Rattle.std.proofs.Common.{[], refl}
use Rattle.flow_disk.proofs.Results.{passed_on}
use Rattle.flow_measure.specs.Query.{flows_in_view}
use Rattle.flow_refusals.specs.declared.read_refusal.ReadRefusal.TheVariants as query
use Rattle.flow_several.specs.declared.listing_refusal.ListingRefusal.TheVariants as refusal
use Rattle.flow_several.specs.Flows.{archive_flows, AreFlowsRead, IsListedUpTo, IsWhileListed, Lists, ListsFront}
use Rattle.flow_several.specs.Flows.{StartIn}
use Rattle.flow_several.proofs.Listed.{listed_as, memory_is_no_fault, none_in, none_of, other_than}
use Rattle.flow_several.proofs.OneByOne.{err_matched}
use Rattle.flow_several.proofs.listing.list_archive.Goals as goal

pub returns-in_err-directory-clause-listed : goal.returns-in_err-directory-clause-listed
returns-in_err-directory-clause-listed g c = λ h reads stands.
    let l = c.args.listing.now in
    let s = c.args.archive.now.state in
    let seen = c.one_view_of_a_state.ensures.there s stands.files.chained in
    let output = g.W.Write.contents c.args.output.now in
    let flows = flows_in_view l.from l.to seen.0 in
    err_matched c.from_residual.result (refusal.Query query.OutOfMemory)
    (λ _. Lists l.format l.number (AreFlowsRead l.from l.to reads) output output)
    (IsListedUpTo l.format l.number l.from l.to reads output output) c.from_residual.ensures.1
    (tt, (flows, (seen.0, (s, stands, seen.1), refl), none_of output (archive_flows l.format l.number flows)))

pub returns-in_err-directory-clause-some : goal.returns-in_err-directory-clause-some
returns-in_err-directory-clause-some g c =
    let l = c.args.listing.now in
    let output = g.W.Write.contents c.args.output.now in
    passed_on c.from_residual.result (refusal.Query query.OutOfMemory)
    (λ e. IsWhileListed e × ListsFront l.format l.number (StartIn l.from l.to) output output)
    c.from_residual.ensures.1 (tt, ([], none_in l.from l.to, none_of output (archive_flows l.format l.number [])))

pub returns-in_err-directory-clause-cause : goal.returns-in_err-directory-clause-cause
returns-in_err-directory-clause-cause g c =
    other_than _ (refusal.Query query.OutOfMemory) _ _ c.from_residual.result c.from_residual.ensures.1
    memory_is_no_fault refl

pub returns-clause-listed : goal.returns-clause-listed
returns-clause-listed g c = λ h reads stands.
    let l = c.args.listing.now in
    let s = c.args.archive.now.state in
    let seen = c.one_view_of_a_state.ensures.there s stands.files.chained in
    listed_as l.format l.number l.from l.to reads s stands seen.0 seen.1 c.into_snapshot-snapshot.result
    c.in_ok-directory.directory c.into_snapshot-snapshot.ensures (c.in_ok-directory.ensures.shown h)
    (g.W.Write.contents c.args.output.now) (g.W.Write.contents c.list_snapshot.new.output) c.list_snapshot.result
    c.list_snapshot.ensures.told c.list_snapshot.ensures.cut c.list_snapshot.ensures.some
