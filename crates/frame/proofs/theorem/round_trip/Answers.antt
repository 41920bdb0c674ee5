use Rattle.frame.proofs.Round.{round, writes_back}
use Rattle.frame.proofs.theorem.round_trip.Goals as goal

pub returns : goal.returns
returns c = record { there = round; back = writes_back }
