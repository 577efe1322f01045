use Rattle.std.proofs.Common.{refl, sym, ◌∙◌}
use Rattle.flow_memory_disk.specs.Lying.{never}
use Rattle.flow_memory_disk.proofs.Lies.{marked_truly, marked_falsely}
use Rattle.flow_memory_disk.proofs.Turns.{passed}
use Rattle.flow_memory_disk.proofs.lying.LyingDiskDisk.cut.Goals as goal

pub returns-in_default-clause-marks : goal.returns-in_default-clause-marks
returns-in_default-clause-marks g c =
    marked_truly c.args.self.now.lie _ _ c.args.file _ _ _ (sym c.of.ensures.is ∙ c.in_default.is) c.cut.ensures.marks

pub returns-in_default-clause-held : goal.returns-in_default-clause-held
returns-in_default-clause-held g c = λ is. never is

pub returns-in_default-clause-time : goal.returns-in_default-clause-time
returns-in_default-clause-time g c = λ is. never is

pub returns-in_default-clause-covered : goal.returns-in_default-clause-covered
returns-in_default-clause-covered g c = λ is. never is

pub returns-in_default-clause-cause : goal.returns-in_default-clause-cause
returns-in_default-clause-cause g c = passed _ _ _ _ _ refl c.cut.ensures.cause

pub returns-clause-marks : goal.returns-clause-marks
returns-clause-marks g c =
    marked_falsely c.args.self.now.lie c.tell_after.new.self _ _ c.args.file _ _ _ _ c.tell_after.ensures.here refl
    c.tell_after.ensures.others c.cut_there-result.ensures.marks

pub returns-clause-held : goal.returns-clause-held
returns-clause-held g c = λ is. never is

pub returns-clause-time : goal.returns-clause-time
returns-clause-time g c = λ is. never is

pub returns-clause-covered : goal.returns-clause-covered
returns-clause-covered g c = λ is. never is

pub returns-clause-cause : goal.returns-clause-cause
returns-clause-cause g c = passed _ _ _ _ _ refl c.cut_there-result.ensures.cause
