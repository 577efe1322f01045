use Rattle.std.proofs.Common.{◌≡◌, ◌∙◌, ap, arith, length, sym, subst}
use Rattle.flow_disk.proofs.Results.{passed_on}
use Rattle.flow_manifest.specs.declared.manifest.Manifest.{Manifest}
use Rattle.flow_model.specs.State.{end_of, State}
use Rattle.flow_refusals.specs.declared.read_refusal.ReadRefusal.TheVariants as query
use Rattle.flow_snapshot.specs.ShelfSeen.{ShelfSeen}
use Rattle.flow_snapshot.specs.Totals.{first_file, SumsFit}
use Rattle.flow_commands.specs.Archives.{of_query}
use Rattle.flow_commands.specs.Asking.{IsNotFound}
use Rattle.flow_commands.specs.Check.{standing_line, standing_of}
use Rattle.flow_commands.proofs.FileLines.{listed, sums_of, SumsOf}
use Rattle.flow_commands.proofs.archive_files.find_files.Goals as goal

pub push_files-requires-clause-some : goal.push_files-requires-clause-some
push_files-requires-clause-some g c =
    let width : c.width-width.result ≡ c.args.archive.now.state.manifest.width =
    c.width-width.ensures ∙ ap (λ (x : State). x.manifest.width) c.directory.ensures.state in
    let least = c.is_closed-closed.ensures.valid.ranges.width_from in
    omega (arith, width, least)

pub push_files-requires-clause-width : goal.push_files-requires-clause-width
push_files-requires-clause-width g c =
    c.width-width.ensures ∙ ap (λ (x : State). x.manifest.width) c.directory.ensures.state
    ∙ sym c.in_ok-directory.ensures.active.width
    ∙ sym (ap (λ (x : ShelfSeen). x.shelf.width) c.into_snapshot-snapshot.ensures)

pub returns-in_err-directory-clause-refused : goal.returns-in_err-directory-clause-refused
returns-in_err-directory-clause-refused g c h reads stands =
    passed_on c.from_residual.result query.OutOfMemory (λ e. IsNotFound SumsFit reads (of_query e))
    c.from_residual.ensures.1 tt

pub returns-in_err-text-clause-refused : goal.returns-in_err-text-clause-refused
returns-in_err-text-clause-refused g c h reads stands =
    passed_on c.from_residual-in_err-text.result query.OutOfMemory (λ e. IsNotFound SumsFit reads (of_query e))
    c.from_residual-in_err-text.ensures.1 tt

pub returns-in_err-push_files-clause-refused : goal.returns-in_err-push_files-clause-refused
returns-in_err-push_files-clause-refused g c h reads stands =
    let s = c.args.archive.now.state in
    let e = c.in_err-push_files.field-0.0 in
    let is = ap (λ (x : ShelfSeen). x.shelf) c.into_snapshot-snapshot.ensures ∙ c.in_ok-directory.ensures.every in
    let honest = ap (λ (x : ShelfSeen). x.honest) c.into_snapshot-snapshot.ensures
    ∙ (c.in_ok-directory.ensures.shown h).1 in
    let sums = subst (SumsOf reads) (sym is) (sums_of reads s stands c.one_view_of_a_state.ensures.there) in
    passed_on c.from_residual-in_err-push_files.result e (λ e. IsNotFound SumsFit reads (of_query e))
    c.from_residual-in_err-push_files.ensures.1
    (sums.spent (first_file c.into_snapshot-snapshot.result.shelf) e
    (c.in_err-push_files.ensures.given honest sums.wide sums.narrow sums.are_wide sums.are_narrow))

pub returns-clause-lines : goal.returns-clause-lines
returns-clause-lines g c h reads stands =
    let s = c.args.archive.now.state in
    let st = c.directory.ensures.state in
    let is = ap (λ (x : ShelfSeen). x.shelf) c.into_snapshot-snapshot.ensures ∙ c.in_ok-directory.ensures.every in
    let honest = ap (λ (x : ShelfSeen). x.honest) c.into_snapshot-snapshot.ensures
    ∙ (c.in_ok-directory.ensures.shown h).1 in
    let sums = subst (SumsOf reads) (sym is) (sums_of reads s stands c.one_view_of_a_state.ensures.there) in
    listed reads s c.into_snapshot-snapshot.result.shelf c.push_files.new.text.items c.in_ok-text.text.items
    c.end.result c.active_count-active.result c.as_slice-entries.result.now stands is sums
    (c.in_ok-text.ensures ∙ ap standing_line (c.standing_of.ensures ∙ ap standing_of st)) (c.end.ensures ∙ ap end_of st)
    (c.active_count-active.ensures ∙ ap (λ (x : State). length x.active.messages) st)
    (c.as_slice-entries.ensures ∙ ap (λ (m : Manifest). m.entries) c.manifest.ensures
    ∙ ap (λ (x : State). x.manifest.entries) st)
    (c.in_ok-push_files.ensures.given honest sums.wide sums.narrow sums.are_wide sums.are_narrow)
