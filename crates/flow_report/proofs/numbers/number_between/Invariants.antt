use Rattle.std.proofs.Common.{◌≡◌, ◌-◌, ◌^◌, take}
use Rattle.std.specs.Prelude.{min, true}
use Rattle.std.specs.List.{list_all}
use Rattle.flow_report.specs.Numbers.{is_digit, number_of}
use Rattle.flow_report.proofs.numbers.number_between.Given as goal

abbrev pub invariant-loop-octet : goal.invariant-loop-octet
invariant-loop-octet l =
    record {
      digits : list_all is_digit (take l.octet-index l.word) ≡ true;
      value : l.number ≡ min (number_of (take l.octet-index l.word)) (2 ^ 64 - 1);
    }
