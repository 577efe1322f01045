use Rattle.flow_gate.proofs.Exact.{one_list, never_both, one_place, one_row}
use Rattle.flow_gate.proofs.Walking.{list_or_damage}
use Rattle.flow_gate.proofs.Rows.{row_octets, row_in_cut, gated_in_cut}
use Rattle.flow_gate.proofs.laws.laws_of_lists.Goals as goal

pub returns-clause-one_list : goal.returns-clause-one_list
returns-clause-one_list c octets from a b gated_a gated_b = one_list octets from a b gated_a gated_b

pub returns-clause-list_or_damage : goal.returns-clause-list_or_damage
returns-clause-list_or_damage c octets from = list_or_damage octets from

pub returns-clause-never_both : goal.returns-clause-never_both
returns-clause-never_both c octets from at list gated damaged = never_both octets from at list gated damaged

pub returns-clause-one_place : goal.returns-clause-one_place
returns-clause-one_place c octets from a b first second = one_place octets from a b first second

pub returns-clause-row_octets : goal.returns-clause-row_octets
returns-clause-row_octets c octets from list row = row_octets octets from list row

pub returns-clause-row_stays : goal.returns-clause-row_stays
returns-clause-row_stays c octets from count list le row = row_in_cut octets from count list le row

pub returns-clause-one_row : goal.returns-clause-one_row
returns-clause-one_row c octets from a b row_a row_b same = one_row octets from a b row_a row_b same

pub returns-clause-list_stays : goal.returns-clause-list_stays
returns-clause-list_stays c octets from count list le gated = gated_in_cut octets from count list le gated
