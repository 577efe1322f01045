use Rattle.std.proofs.Common.{rules, ◌≡◌, ◌∙◌, ◌++◌, ◌%◌, ◌+◌, ap, drop, get_or, length, [], ◌∷◌}
use Rattle.std.proofs.lemmas.List.{drop_more}
use Rattle.flow_manifest.specs.Following.{no_entry}
use Rattle.flow_snapshot.specs.Shares.{AllPartsFit}
use Rattle.flow_snapshot.specs.Totals.{first_file}
use Rattle.flow_snapshot.proofs.Adding.{made_err}
use Rattle.flow_commands.specs.ArchiveFiles.{line_of, lines_of, starts_of_file}
use Rattle.flow_commands.proofs.FileLines.{one_entry, one_line}
use Rattle.flow_commands.proofs.archive_files.push_files.Goals as goal

pub returns-in_err-starts-clause-given : goal.returns-in_err-starts-clause-given
returns-in_err-starts-clause-given g c = λ honest wide narrow are_wide are_narrow.
    let s = c.args.snapshot.now.shelf in
    let fit = AllPartsFit s wide narrow in
    made_err (λ x. c.loop-entry.text.items
    ≡ c.args.text.now.items ++ lines_of s wide narrow c.args.end c.args.active c.args.entries.now)
    (first_file s) fit fit c.from_residual.result c.in_err-starts.field-0.0 (λ f. f) c.from_residual.ensures.1
    (c.in_err-starts.ensures.given honest wide narrow are_wide are_narrow)

pub loop-entry-preserved : goal.loop-entry-preserved
loop-entry-preserved g c = record {
  faults = search rules;
  number = search rules;
  text = λ honest wide narrow are_wide are_narrow.
      let es = c.args.entries.now in
      let i = c.loop-entry.entry-index in
      let x = get_or es i no_entry in
      let starts = starts_of_file c.args.snapshot.now.shelf (length es) wide narrow in
      one_entry starts c.args.end c.args.active c.loop-entry.number ((c.loop-entry.number + 1) % 4294967296)
      c.loop-entry.text.items c.push_line.new.text.items x (drop i es) (drop (i + 1) es) c.line_of.result _
      (drop_more es i no_entry c.loop-entry-test.true) (search rules)
      (c.line_of.ensures ∙ ap (line_of c.args.end c.args.active x)
      (c.in_ok-starts.ensures.given honest wide narrow are_wide are_narrow))
      c.in_ok-push_line.ensures (c.loop-entry.invariant.text honest wide narrow are_wide are_narrow);
  lines = (
    c.loop-entry.invariant.lines.0 ++ c.line_of.result ∷ [],
    one_line c.args.text.now.items c.loop-entry.text.items c.push_line.new.text.items c.loop-entry.invariant.lines.0
        c.line_of.result c.loop-entry.invariant.lines.1 c.in_ok-push_line.ensures,
  );
}
