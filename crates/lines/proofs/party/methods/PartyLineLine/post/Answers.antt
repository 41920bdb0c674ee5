use Rattle.std.proofs.Common.{map, ap, ◌∙◌, arith}
use Rattle.std.proofs.lemmas.List.{map_push}
use Rattle.line.specs.View.{msg_of}
use Rattle.lines.specs.Held.{log}
use Rattle.lines.proofs.Logs.{posts}
use Rattle.lines.proofs.Store.{proper}
use Rattle.lines.proofs.party.methods.PartyLineLine.post.Goals as goal

pub returns : goal.returns
returns c =
    posts (log c.args.self.now) (msg_of c.args.message) 576 _ (proper c.args.message) (omega (arith, c.total.ensures))
    (ap (map msg_of) c.push_reserved.ensures.items ∙ map_push msg_of c.args.self.now.messages.items c.args.message)
