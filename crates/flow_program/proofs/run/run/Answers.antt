use Rattle.std.proofs.KnownBytes.{Keeps-refl}
use Rattle.flow_program.proofs.run.run.Goals as goal

pub returns-in-TotalsOfSeveral-clause-runs : goal.returns-in-TotalsOfSeveral-clause-runs
returns-in-TotalsOfSeveral-clause-runs g c =
    rw c.in-TotalsOfSeveral.is
    (Keeps-refl (g.R.Read.remaining c.args.input.now), rw c.totals_wanted.ensures at c.run_several_folders.ensures.runs)

pub returns-in-FlowsOfSeveral-clause-runs : goal.returns-in-FlowsOfSeveral-clause-runs
returns-in-FlowsOfSeveral-clause-runs g c =
    rw c.in-FlowsOfSeveral.is
    (Keeps-refl (g.R.Read.remaining c.args.input.now), c.run_several_folders-in-FlowsOfSeveral.ensures.runs)

pub returns-in-CheckSeveral-clause-runs : goal.returns-in-CheckSeveral-clause-runs
returns-in-CheckSeveral-clause-runs g c =
    rw c.in-CheckSeveral.is (Keeps-refl (g.R.Read.remaining c.args.input.now), c.run_folder_checks.ensures.runs)

pub returns-in-Export-clause-runs : goal.returns-in-Export-clause-runs
returns-in-Export-clause-runs g c =
    rw c.in-Export.is (Keeps-refl (g.R.Read.remaining c.args.input.now), c.run_export.ensures.runs)

pub returns-in-Templates-clause-runs : goal.returns-in-Templates-clause-runs
returns-in-Templates-clause-runs g c =
    rw c.in-Templates.is (Keeps-refl (g.R.Read.remaining c.args.input.now), c.run_templates.ensures.runs)

pub returns-in-ExportByTime-clause-runs : goal.returns-in-ExportByTime-clause-runs
returns-in-ExportByTime-clause-runs g c =
    rw c.in-ExportByTime.is (Keeps-refl (g.R.Read.remaining c.args.input.now), c.run_export_by_time.ensures.runs)

pub returns-in-Measure-clause-runs : goal.returns-in-Measure-clause-runs
returns-in-Measure-clause-runs g c =
    rw c.in-Measure.is c.run_measure.ensures.runs

pub returns-in-Dump-clause-runs : goal.returns-in-Dump-clause-runs
returns-in-Dump-clause-runs g c =
    rw c.in-Dump.is c.run_dump.ensures.runs

pub returns-in-Inspect-clause-runs : goal.returns-in-Inspect-clause-runs
returns-in-Inspect-clause-runs g c =
    rw c.in-Inspect.is c.run_inspect.ensures.runs

pub returns-in-InspectFiles-clause-runs : goal.returns-in-InspectFiles-clause-runs
returns-in-InspectFiles-clause-runs g c =
    rw c.in-InspectFiles.is (c.run_inspect_files.ensures.input, c.run_inspect_files.ensures.runs)

pub returns-in-Check-clause-runs : goal.returns-in-Check-clause-runs
returns-in-Check-clause-runs g c =
    rw c.in-Check.is (Keeps-refl (g.R.Read.remaining c.args.input.now), c.run_check.ensures.runs)

pub returns-in-CheckFiles-clause-runs : goal.returns-in-CheckFiles-clause-runs
returns-in-CheckFiles-clause-runs g c =
    rw c.in-CheckFiles.is (Keeps-refl (g.R.Read.remaining c.args.input.now), c.run_check_files.ensures.runs)

pub returns-in-Totals-clause-runs : goal.returns-in-Totals-clause-runs
returns-in-Totals-clause-runs g c =
    rw c.in-Totals.is (Keeps-refl (g.R.Read.remaining c.args.input.now), c.run_totals.ensures.runs)

pub returns-in-Flows-clause-runs : goal.returns-in-Flows-clause-runs
returns-in-Flows-clause-runs g c =
    rw c.in-Flows.is (Keeps-refl (g.R.Read.remaining c.args.input.now), c.run_flows.ensures.runs)

pub returns-in-Records-clause-runs : goal.returns-in-Records-clause-runs
returns-in-Records-clause-runs g c =
    rw c.in-Records.is (Keeps-refl (g.R.Read.remaining c.args.input.now), c.run_records.ensures.runs)

pub returns-in-Feed-clause-runs : goal.returns-in-Feed-clause-runs
returns-in-Feed-clause-runs g c =
    rw c.in-Feed.is (c.run_feed.ensures.input, c.run_feed.ensures.runs)

pub returns-in-Shell-clause-runs : goal.returns-in-Shell-clause-runs
returns-in-Shell-clause-runs g c =
    rw c.in-Shell.is c.run_shell.ensures.runs

pub returns-in-Roll-clause-runs : goal.returns-in-Roll-clause-runs
returns-in-Roll-clause-runs g c =
    rw c.in-Roll.is (Keeps-refl (g.R.Read.remaining c.args.input.now), c.run_job.ensures.runs)

pub returns-in-Merge-clause-runs : goal.returns-in-Merge-clause-runs
returns-in-Merge-clause-runs g c =
    rw c.in-Merge.is (Keeps-refl (g.R.Read.remaining c.args.input.now), c.run_job-in-Merge.ensures.runs)

pub returns-in-Create-clause-runs : goal.returns-in-Create-clause-runs
returns-in-Create-clause-runs g c =
    rw c.in-Create.is (
      Keeps-refl (g.R.Read.remaining c.args.input.now),
      Keeps-refl (g.W.Write.contents c.args.output.now),
      c.run_create.ensures.runs,
    )

pub returns-in-Explain-clause-runs : goal.returns-in-Explain-clause-runs
returns-in-Explain-clause-runs g c =
    rw c.in-Explain.is (Keeps-refl (g.R.Read.remaining c.args.input.now), c.run_explain.ensures.shown)
