use Rattle.std.proofs.Common.{◌≡◌, map, drop, Ok}
use Rattle.line.specs.View.{msg_of}
use Rattle.line.specs.Lists.{paired, postings}
use Rattle.line.proofs.line.post_all.Given as goal

-- what is left to post, from the lists as they are
abbrev pub invariant-loop-message : goal.invariant-loop-message
invariant-loop-message g l =
    postings g.L.Line.CAPACITY (map msg_of l.messages) (Ok tt, paired (g.L.Line.waiting l.initial.line))
    ≡ postings g.L.Line.CAPACITY (map msg_of (drop l.message-index l.messages)) (Ok tt, paired (g.L.Line.waiting l.line))
