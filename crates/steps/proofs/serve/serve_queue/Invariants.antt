use Rattle.std.proofs.Common.{length}
use Rattle.line.specs.Lists.{paired}
use Rattle.notes.specs.View.{notes_of}
use Rattle.notes.specs.Queues.{entries}
use Rattle.steps.proofs.Servings.{Going}
use Rattle.steps.proofs.serve.serve_queue.Given as goal

abbrev pub invariant-loop-site : goal.invariant-loop-site
invariant-loop-site g l =
    Going l.site.home l.site.page l.text g.L.Line.CAPACITY (notes_of l.initial.row) (paired (g.L.Line.waiting l.initial.line))
    (notes_of l.row) (paired (g.L.Line.waiting l.line)) l.posted

abbrev pub decreases-loop-site : goal.decreases-loop-site
decreases-loop-site g l = length (entries l.row.desk.queue.slots)
