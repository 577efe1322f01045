use Rattle.std.proofs.Common.{refl}
use Rattle.flow_disk.specs.Disk.{touched_at, loosened_at}
use Rattle.flow_disk.proofs.Images.{same_front, behind_touched, behind_cut, settled_fast, settled_shut, one_octet}
use Rattle.flow_disk.proofs.laws.laws_of_images.Goals as goal

pub returns-clause-settled : goal.returns-clause-settled
returns-clause-settled c file alone = (settled_fast file alone, settled_shut file alone)

pub returns-clause-write : goal.returns-clause-write
returns-clause-write c file at count bound reads image le within whole is =
    let new = touched_at file at count reads in
    same_front bound file new (behind_touched bound at count file new le within refl) within whole image is

pub returns-clause-cut : goal.returns-clause-cut
returns-clause-cut c file count bound reads image le within whole is =
    let new = loosened_at file count reads in
    same_front bound file new (behind_cut bound count file new le within refl) within whole image is

pub returns-clause-octet : goal.returns-clause-octet
returns-clause-octet c file at reads image alone lt is = one_octet file at reads image alone lt is
