use Rattle.std.proofs.Common.{◌≡◌, ◌∙◌, ◌+◌, List, refl, sym, ap, subst, arith, drop}
use Rattle.std.specs.Borrow.{Bor}
use Rattle.std.proofs.KnownBytes.{Keeps-refl, Keeps-trans}
use Rattle.std.specs.List.{All}
use Rattle.std.proofs.lemmas.List.Elements.{All-nil}
use Rattle.flow_several.proofs.Opened.{paths_of}
use Rattle.flow_several.specs.Folders.{Path}
use Rattle.flow_program.specs.Checks.{ChecksEnd, IsOutcome}
use Rattle.flow_program.specs.SideBySide.{outcome_of, AreAhead, MayBeChecked}
use Rattle.flow_program.proofs.Ahead.{none_ahead, turn_is}
use Rattle.flow_program.proofs.Checked.{all_checked, ends_so, none_checked, one_checked, one_cut, reported_is, HaveChecked}
use Rattle.flow_program.proofs.checks.run_checks.Goals as goal

pub loop-place-init : goal.loop-place-init
loop-place-init g c =
    let opens = g.O.Opener.opens in
    let refuses = g.O.Opener.refuses in
    let files = c.args.files in
    let paths = c.as_slice-paths.result.now in
    let errors = g.E.Write.contents c.args.errors.now in
    let archives = c.none-archives.result.archives in
    record {
      so_far = none_checked (IsOutcome g.D.Disk opens refuses files) (paths_of paths)
          (g.W.Write.contents c.args.output.now) errors;
      ahead = none_ahead g.D.Disk opens refuses files archives.answers.items archives.left.items
          c.none-archives.ensures.answers c.none-archives.ensures.left (paths_of paths);
      thawed = subst (All (MayBeChecked g.D.Disk)) (sym c.none-archives.ensures.left) (All-nil (MayBeChecked g.D.Disk));
      quiet = λ none. Keeps-refl errors;
      most = omega arith;
      other = λ is. absurd (cc);
    }

pub loop-place-preserved : goal.loop-place-preserved
loop-place-preserved g c =
    let opens = g.O.Opener.opens in
    let refuses = g.O.Opener.refuses in
    let files = c.args.files in
    let is = IsOutcome g.D.Disk opens refuses files in
    let paths = c.as_slice-paths.result.now in
    let at = c.loop-place in
    let opened = c.open_more.new.self.archives in
    let later = drop (at.place + 1) (paths_of paths) in
    let ahead = subst (AreAhead g.D.Disk opens refuses files opened.answers.items opened.left.items)
    (turn_is paths at.place c.loop-place-test.true) (c.open_more.ensures.ahead files at.invariant.ahead) in
    let old = g.W.Write.contents c.args.output.now in
    let now = g.W.Write.contents at.output in
    let new = g.W.Write.contents c.write_one.new.output in
    let before = g.E.Write.contents c.args.errors.now in
    let mid = g.E.Write.contents at.errors in
    let after = g.E.Write.contents c.write_one.new.errors in
    let done = c.in-Ok.ensures.done in
    record {
      so_far = subst (HaveChecked is (paths_of paths) (at.place + 1) old new before after)
          (sym c.greater-greatest.ensures.value)
          (one_checked is paths at.place (at.place + 1) c.loop-place-test.true refl old now before mid at.greatest
          at.invariant.so_far done.0 new after c.in-Ok.status
          (reported_is g.D.Disk opens refuses files _ (outcome_of c.next-answer.result) done.0 done.1
          (c.next-answer.ensures.answer later ahead)) done.2 done.3 done.4);
      ahead = c.next-answer.ensures.ahead later ahead;
      thawed = c.next-answer.ensures.thawed;
      quiet = λ none.
          let both = c.greater-greatest.ensures.none none in
          Keeps-trans before mid after (at.invariant.quiet both.0) (c.in-Ok.ensures.quiet both.1);
      most = c.greater-greatest.ensures.most at.invariant.most c.in-Ok.ensures.most;
      other = c.greater-greatest.ensures.either at.invariant.other c.in-Ok.ensures.other;
    }

pub returns-in-Err-clause-folders : goal.returns-in-Err-clause-folders
returns-in-Err-clause-folders g c =
    let opens = g.O.Opener.opens in
    let refuses = g.O.Opener.refuses in
    let files = c.args.files in
    let is = IsOutcome g.D.Disk opens refuses files in
    let paths = c.as_slice-paths.result.now in
    let at = c.loop-place in
    let opened = c.open_more.new.self.archives in
    let later = drop (at.place + 1) (paths_of paths) in
    let ahead = subst (AreAhead g.D.Disk opens refuses files opened.answers.items opened.left.items)
    (turn_is paths at.place c.loop-place-test.true) (c.open_more.ensures.ahead files at.invariant.ahead) in
    let old = g.W.Write.contents c.args.output.now in
    let now = g.W.Write.contents at.output in
    let new = g.W.Write.contents c.write_one.new.output in
    let before = g.E.Write.contents c.args.errors.now in
    let mid = g.E.Write.contents at.errors in
    let after = g.E.Write.contents c.write_one.new.errors in
    let cut = c.in-Err.ensures.cut in
    let folders_are : paths_of paths ≡ c.args.folders.now =
    ap (λ (words : List (Bor Path)). paths_of words) c.as_slice-paths.ensures.value ∙ c.folders.view_is in
    subst (λ (folders : List Path). ChecksEnd is folders old new before after c.in-Err.status) folders_are
    (one_cut is paths at.place (at.place + 1) c.loop-place-test.true refl old now before mid at.greatest
    at.invariant.so_far cut.0 cut.1 new after c.in-Err.status
    (subst (is _) cut.2 (c.next-answer.ensures.answer later ahead)) cut.3 cut.4 cut.5)

pub returns-in-Err-clause-runs : goal.returns-in-Err-clause-runs
returns-in-Err-clause-runs g c =
    ends_so g.D.Disk g.O.Opener.opens g.O.Opener.refuses c.args.files c.args.folders.now
    (g.W.Write.contents c.args.output.now) (g.W.Write.contents c.write_one.new.output)
    (g.E.Write.contents c.args.errors.now) (g.E.Write.contents c.write_one.new.errors) c.in-Err.status
    (returns-in-Err-clause-folders g c)

pub returns-clause-folders : goal.returns-clause-folders
returns-clause-folders g c =
    let is = IsOutcome g.D.Disk g.O.Opener.opens g.O.Opener.refuses c.args.files in
    let paths = c.as_slice-paths.result.now in
    let at = c.loop-place in
    let old = g.W.Write.contents c.args.output.now in
    let now = g.W.Write.contents at.output in
    let before = g.E.Write.contents c.args.errors.now in
    let mid = g.E.Write.contents at.errors in
    let folders_are : paths_of paths ≡ c.args.folders.now =
    ap (λ (words : List (Bor Path)). paths_of words) c.as_slice-paths.ensures.value ∙ c.folders.view_is in
    subst (λ (folders : List Path). ChecksEnd is folders old now before mid at.greatest) folders_are
    (all_checked is paths at.place old now before mid at.greatest
    (omega (arith, c.loop-place-test.false, at.auto.place-end)) at.invariant.so_far)

pub returns-clause-runs : goal.returns-clause-runs
returns-clause-runs g c =
    ends_so g.D.Disk g.O.Opener.opens g.O.Opener.refuses c.args.files c.args.folders.now
    (g.W.Write.contents c.args.output.now) (g.W.Write.contents c.loop-place.output)
    (g.E.Write.contents c.args.errors.now) (g.E.Write.contents c.loop-place.errors) c.loop-place.greatest
    (returns-clause-folders g c)
