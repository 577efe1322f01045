use Rattle.std.proofs.Common.{refl, sym, ◌∙◌}
use Rattle.flow_memory_disk.specs.Lying.{never, told}
use Rattle.flow_memory_disk.proofs.Lies.{written_truly, marked_falsely, larger}
use Rattle.flow_memory_disk.proofs.Turns.{passed, refused_by, kept_marks}
use Rattle.flow_memory_disk.proofs.lying.LyingDiskDisk.write_at.Goals as goal

pub returns-in_default-clause-marks : goal.returns-in_default-clause-marks
returns-in_default-clause-marks g c =
    written_truly c.args.self.now.lie _ _ c.args.file _ _ (sym c.of.ensures.is ∙ c.in_default.is)
    c.write_at.ensures.marks

pub returns-in_default-clause-held : goal.returns-in_default-clause-held
returns-in_default-clause-held g c = λ is. never is

pub returns-in_default-clause-time : goal.returns-in_default-clause-time
returns-in_default-clause-time g c = λ is. never is

pub returns-in_default-clause-covered : goal.returns-in_default-clause-covered
returns-in_default-clause-covered g c = λ is. never is

pub returns-in_default-clause-cause : goal.returns-in_default-clause-cause
returns-in_default-clause-cause g c = passed _ _ _ _ _ refl c.write_at.ensures.cause

pub returns-then-count-at-clause-marks : goal.returns-then-count-at-clause-marks
returns-then-count-at-clause-marks g c =
    kept_marks (told c.args.self.now.lie (g.D.Disk.marks c.args.self.now.disk)) _ _ _ _ c.requires.thawed

pub returns-then-count-at-clause-held : goal.returns-then-count-at-clause-held
returns-then-count-at-clause-held g c = λ is. never is

pub returns-then-count-at-clause-time : goal.returns-then-count-at-clause-time
returns-then-count-at-clause-time g c = λ is. never is

pub returns-then-count-at-clause-cause : goal.returns-then-count-at-clause-cause
returns-then-count-at-clause-cause g c =
    refused_by _ _ _ _ c.fault.ensures.fault c.fault.ensures.later c.fault.ensures.risen

pub returns-clause-marks : goal.returns-clause-marks
returns-clause-marks g c =
    marked_falsely c.args.self.now.lie c.tell_after.new.self _ _ c.args.file _ _ _ _ c.tell_after.ensures.here
    (c.max.ensures ∙ larger _ (g.D.Disk.marks c.args.self.now.disk c.args.file) _ _ (sym c.of.ensures.is
    ∙ c.in-Some.is))
    c.tell_after.ensures.others c.write_there-result.ensures.marks

pub returns-clause-held : goal.returns-clause-held
returns-clause-held g c = λ is. never is

pub returns-clause-time : goal.returns-clause-time
returns-clause-time g c = λ is. never is

pub returns-clause-covered : goal.returns-clause-covered
returns-clause-covered g c = λ is. never is

pub returns-clause-cause : goal.returns-clause-cause
returns-clause-cause g c = passed _ _ _ _ _ refl c.write_there-result.ensures.cause
