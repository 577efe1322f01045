use Rattle.std.proofs.Common.{[], refl}
use Rattle.std.proofs.KnownBytes.{Appends-trans}
use Rattle.std.specs.Io.KnownBytes.{Appends}
use Rattle.flow_disk.proofs.Results.{if_err_by, on_ok_by, passed_on}
use Rattle.flow_measure.specs.Query.{flows_in_view}
use Rattle.flow_report.specs.Writing.{AppendsFront}
use Rattle.flow_several.specs.Flows.{archive_flows, names_before_flows, numbered_flow, of_text, IsNoBlame}
use Rattle.flow_several.specs.Flows.{IsWhileListed, Lists, ListsFront, StartIn}
use Rattle.flow_several.proofs.EachLines.{front_then}
use Rattle.flow_several.proofs.Listed.{front_more, lines, none_in, other_than, text_asks, text_blameless}
use Rattle.flow_several.proofs.Listed.{text_is_no_fault, HasAny, HasAnyFront}
use Rattle.flow_several.proofs.listing.list_snapshot.Goals as goal

pub returns-in_err-write_names-clause-some : goal.returns-in_err-write_names-clause-some
returns-in_err-write_names-clause-some g c =
    let l = c.args.listing.now in
    let e = (c.in_err-write_names.field-0).0 in
    let old = g.W.Write.contents c.args.output.now in
    let new = g.W.Write.contents c.write_names.new.output in
    passed_on c.from_residual.result (of_text e)
    (λ e. IsWhileListed e × ListsFront l.format l.number (StartIn l.from l.to) old new) c.from_residual.ensures.1 (
      text_asks e,
      (
        [],
        none_in l.from l.to,
        front_more old new (names_before_flows l.format.layout l.number) [] c.in_err-write_names.ensures.cut,
      ),
    )

pub returns-in_err-write_names-clause-cut : goal.returns-in_err-write_names-clause-cut
returns-in_err-write_names-clause-cut g c = λ honest v is.
    let l = c.args.listing.now in
    let e = (c.in_err-write_names.field-0).0 in
    let old = g.W.Write.contents c.args.output.now in
    let new = g.W.Write.contents c.write_names.new.output in
    let flows = flows_in_view l.from l.to v in
    passed_on c.from_residual.result (of_text e)
    (λ e. IsNoBlame e × AppendsFront old new (archive_flows l.format l.number flows)) c.from_residual.ensures.1 (
      text_blameless e,
      front_more old new (names_before_flows l.format.layout l.number) (lines (numbered_flow l.format l.number) flows)
          c.in_err-write_names.ensures.cut,
    )

pub returns-in_err-write_names-clause-cause : goal.returns-in_err-write_names-clause-cause
returns-in_err-write_names-clause-cause g c =
    other_than _ (of_text (c.in_err-write_names.field-0).0) _ _ c.from_residual.result c.from_residual.ensures.1
    (text_is_no_fault (c.in_err-write_names.field-0).0) refl

pub returns-clause-all : goal.returns-clause-all
returns-clause-all g c =
    let l = c.args.listing.now in
    let old = g.W.Write.contents c.args.output.now in
    let now = g.W.Write.contents c.write_names.new.output in
    let new = g.W.Write.contents c.list_files.new.output in
    let line = numbered_flow l.format l.number in
    let names = names_before_flows l.format.layout l.number in
    on_ok_by c.list_files.result (HasAny line l.from l.to now new)
    (Lists l.format l.number (StartIn l.from l.to) old new)
    (λ any. (any.0, any.1, Appends-trans old now new names (lines line any.0) c.in_ok-write_names.ensures.all any.2))
    c.list_files.ensures.all

pub returns-clause-some : goal.returns-clause-some
returns-clause-some g c =
    let l = c.args.listing.now in
    let old = g.W.Write.contents c.args.output.now in
    let now = g.W.Write.contents c.write_names.new.output in
    let new = g.W.Write.contents c.list_files.new.output in
    let line = numbered_flow l.format l.number in
    let names = names_before_flows l.format.layout l.number in
    if_err_by c.list_files.result (λ e. IsWhileListed e × HasAnyFront line l.from l.to now new)
    (λ e. IsWhileListed e × ListsFront l.format l.number (StartIn l.from l.to) old new)
    (λ e some. (
      some.0,
      (
        some.1.0,
        some.1.1,
        front_then old now new names (lines line some.1.0) c.in_ok-write_names.ensures.all some.1.2,
      ),
    ))
    c.list_files.ensures.some

pub returns-clause-told : goal.returns-clause-told
returns-clause-told g c = λ honest v is.
    let l = c.args.listing.now in
    let old = g.W.Write.contents c.args.output.now in
    let now = g.W.Write.contents c.write_names.new.output in
    let new = g.W.Write.contents c.list_files.new.output in
    let own = lines (numbered_flow l.format l.number) (flows_in_view l.from l.to v) in
    let names = names_before_flows l.format.layout l.number in
    on_ok_by c.list_files.result (Appends now new own)
    (Appends old new (archive_flows l.format l.number (flows_in_view l.from l.to v)))
    (λ grown. Appends-trans old now new names own c.in_ok-write_names.ensures.all grown)
    (c.list_files.ensures.told honest v is)

pub returns-clause-cut : goal.returns-clause-cut
returns-clause-cut g c = λ honest v is.
    let l = c.args.listing.now in
    let old = g.W.Write.contents c.args.output.now in
    let now = g.W.Write.contents c.write_names.new.output in
    let new = g.W.Write.contents c.list_files.new.output in
    let own = lines (numbered_flow l.format l.number) (flows_in_view l.from l.to v) in
    let names = names_before_flows l.format.layout l.number in
    if_err_by c.list_files.result (λ e. IsNoBlame e × AppendsFront now new own)
    (λ e. IsNoBlame e × AppendsFront old new (archive_flows l.format l.number (flows_in_view l.from l.to v)))
    (λ e cut. (cut.0, front_then old now new names own c.in_ok-write_names.ensures.all cut.1))
    (c.list_files.ensures.cut honest v is)
