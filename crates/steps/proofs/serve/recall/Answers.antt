use Rattle.std.proofs.Common.{[], ap, ◌∙◌}
use Rattle.line.specs.declared.kind.Kind.TheVariants.{Invalidate}
use Rattle.line.specs.declared.pair.Pair.{Pair}
use Rattle.line.specs.Messages.{msg}
use Rattle.line.specs.Lists.{paired, posted}
use Rattle.notes.specs.Sets.{members}
use Rattle.steps.proofs.Posting.{none_called, calls_one}
use Rattle.steps.proofs.serve.recall.Goals as goal

pub loop-station-init : goal.loop-station-init
loop-station-init g c =
    (tt, tt, none_called _ _ c.args.stations.bits _ c.requires.away _ (ap (λ (s : _). members s.bits) c.into_iter-station-iterator.ensures.into_iter_gives))

pub loop-station-preserved : goal.loop-station-preserved
loop-station-preserved g c =
    (tt, tt, calls_one _ _ c.args.stations.bits _ c.requires.away c.in-Some.station _ _ _ _ c.loop-station.invariant.2 c.in-Some.ensures.steps (c.send.ensures.lists ∙ ap (λ (p : Pair). posted (msg p.sender p.receiver c.args.site.page Invalidate []) (paired (g.L.Line.waiting c.loop-station.line))) c.from_home.ensures) c.args.site.home_in)
