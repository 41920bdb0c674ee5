use Rattle.std.proofs.Common.{length, ap, ◌∙◌, sym, rules}
use Rattle.lines.proofs.Slots.{stops, goes_on}
use Rattle.lines.proofs.framed.each.SlotsIterator.next.Goals as goal

pub returns-in_err-message-clause-steps : goal.returns-in_err-message-clause-steps
returns-in_err-message-clause-steps c =
    let s = c.args.self.now in
    let e = stops s.bytes.now s.at c.read.result c.read.ensures.exact (sym c.ok.ensures.value ∙ c.in_err-message.was) in
    search rules

pub returns-clause-steps : goal.returns-clause-steps
returns-clause-steps c =
    let s = c.args.self.now in
    goes_on s.bytes.now s.at c.read.result c.read.ensures.exact _ (sym c.ok.ensures.value ∙ c.in_ok-message.was)

pub returns-clause-goes : goal.returns-clause-goes
returns-clause-goes c =
    let s = c.args.self.now in
    let e = ap length (goes_on s.bytes.now s.at c.read.result c.read.ensures.exact (c.in_ok-message.message, c.in_ok-message.size) (sym c.ok.ensures.value ∙ c.in_ok-message.was)) in
    search rules
