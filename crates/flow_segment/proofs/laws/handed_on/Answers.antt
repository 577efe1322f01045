use Rattle.std.proofs.Common.{arith, refl, []}
use Rattle.flow_measure.proofs.Histories.{read_again}
use Rattle.flow_segment.proofs.Carrying.{carries, is_read_back, known_alone, segment_file}
use Rattle.flow_segment.proofs.laws.handed_on.Goals as goal

pub returns-clause-start : goal.returns-clause-start
returns-clause-start c = record {
  templates = record { once = tt; domains = tt; count = omega arith };
  domains =
      tt;
  due = refl;
  numbers = tt;
  time = omega arith;
}

pub returns-clause-kept : goal.returns-clause-kept
returns-clause-kept c = λ x a h is. carries x a h is

pub returns-clause-read_back : goal.returns-clause-read_back
returns-clause-read_back c = λ x h. is_read_back x h

pub returns-clause-read : goal.returns-clause-read
returns-clause-read c = λ x h. let back = is_read_back x h in read_again [] _ back.accepted

pub returns-clause-alone : goal.returns-clause-alone
returns-clause-alone c = λ x time a more h. known_alone x time a more h

pub returns-clause-file : goal.returns-clause-file
returns-clause-file c = λ x messages h is. segment_file x messages h is
