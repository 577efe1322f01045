use Rattle.std.proofs.Common.{◌≡◌}
use Rattle.std.specs.Prelude.{Option}
use Rattle.flow_snapshot.specs.Shares.{AllPartsFit}
use Rattle.flow_snapshot.specs.Totals.{first_file}
use Rattle.flow_snapshot.proofs.Adding.{made_err}
use Rattle.flow_commands.specs.declared.archive_files.Starts.{Starts}
use Rattle.flow_commands.specs.ArchiveFiles.{starts_of_file}
use Rattle.flow_commands.proofs.archive_files.starts_of_file.Goals as goal

pub returns-in_err-sums-clause-given : goal.returns-in_err-sums-clause-given
returns-in_err-sums-clause-given g c = λ honest wide narrow are_wide are_narrow.
    let s = c.args.snapshot.now.shelf in
    let fit = AllPartsFit s wide narrow in
    made_err (λ (starts : Option Starts). starts ≡ starts_of_file s c.args.count wide narrow c.args.number)
    (first_file s) fit fit c.from_residual.result c.in_err-sums.field-0.0 (λ f. f) c.from_residual.ensures.1
    (rw c.first_file-first.ensures at (c.in_err-sums.ensures.share.given honest wide narrow are_wide are_narrow))
