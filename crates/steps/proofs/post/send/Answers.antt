use Rattle.std.proofs.Common.{◌≡◌, ap, ◌∙◌, rules}
use Rattle.line.specs.Messages.{msg}
use Rattle.line.specs.Lists.{paired, total, posted}
use Rattle.line.proofs.Totals.{total_posted}
use Rattle.steps.proofs.Posting.{in_range}
use Rattle.steps.proofs.post.send.Goals as goal

pub returns : goal.returns
returns g c =
    let m = msg c.args.pair.sender c.args.pair.receiver c.args.page c.args.kind c.args.text.now in
    let e : paired (g.L.Line.waiting c.post.new.self) ≡ posted m (paired (g.L.Line.waiting c.args.line.now)) = search rules in
    let r = in_range m c.requires.makes in
    record { lists = e; added = ap total e ∙ total_posted m (paired (g.L.Line.waiting c.args.line.now)) r.0 r.1 }
