use Rattle.std.proofs.Common.{◌≡◌, rules, Some, None, IfSome, get_or, ℕ}
use Rattle.notes.specs.declared.row.Access.TheVariants.{Read}
use Rattle.notes.specs.declared.queue.Entry.{Entry}
use Rattle.notes.proofs.Slots.{searched}
use Rattle.notes.proofs.queue.Queue.has.Goals as goal

-- an entry, as a default for what is read
blank : Entry
blank = record { station = 0; access = Read }

pub returns : goal.returns
returns c =
    let p = c.any.ensures.runs.0 in
    let q = c.map_while.ensures.runs p p.seen c.any.ensures.runs.1 in
    let h : (k : ℕ) → IfSome (p.at k) (λ y. get_or c.args.self.now.slots k None ≡ Some y) = λ k. search rules in
    searched c.args.self.now.slots p.len c.args.station p.at (λ k l. let z = p.reads k blank l in search rules) (q.0.at p.len) _ p.whole (λ e. search rules) (search rules)
