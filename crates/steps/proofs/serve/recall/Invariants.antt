use Rattle.line.specs.Lists.{paired}
use Rattle.notes.specs.Sets.{members}
use Rattle.steps.proofs.Posting.{Calling}
use Rattle.steps.proofs.serve.recall.Given as goal

-- the stations to come are still to be called back
abbrev pub invariant-loop-station : goal.invariant-loop-station
invariant-loop-station g l =
    (goal.iterator-loop-station g).can_next l.station-iterator
    × (goal.iterator-loop-station g).is_finite l.station-iterator
    × Calling l.site.home l.site.page (members l.stations.bits) (paired (g.L.Line.waiting l.initial.line)) (members l.station-iterator.rest.bits) (paired (g.L.Line.waiting l.line))
