use Rattle.flow_headline.proofs.Living.{histories_of_lives}
use Rattle.flow_headline.proofs.laws.lives_have_histories.Goals as goal

pub returns : goal.returns
returns c = histories_of_lives
