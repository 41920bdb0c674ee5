use Rattle.std.proofs.Common.{rules, ◌≡◌, ◌<◌, ℕ, suc, length, get_or, IsSome, None, add-one, arith}
use Rattle.notes.proofs.Slots.{pushed, pushed_last, all_taken}
use Rattle.notes.proofs.queue.Queue.push.Goals as goal

pub returns-then-place-lt7 : goal.returns-then-place-lt7
returns-then-place-lt7 c =
    let t : (k : ℕ) → k < c.in-Some.place → IsSome (get_or c.args.self.now.slots k None) = λ k l. search rules in
    let f : get_or c.args.self.now.slots c.in-Some.place None ≡ None = search rules in
    let l : suc c.in-Some.place < length c.args.self.now.slots = search rules in
    rw add-one (pushed c.in-Some.place c.args.self.now.slots c.args.entry t l f)

pub returns-else-place-lt7 : goal.returns-else-place-lt7
returns-else-place-lt7 c =
    let t : (k : ℕ) → k < c.in-Some.place → IsSome (get_or c.args.self.now.slots k None) = λ k l. search rules in
    let f : get_or c.args.self.now.slots c.in-Some.place None ≡ None = search rules in
    let l : suc c.in-Some.place ≡ length c.args.self.now.slots = search rules in
    pushed_last c.in-Some.place c.args.self.now.slots c.args.entry t l f

pub returns-in_default : goal.returns-in_default
returns-in_default c =
    let t : (k : ℕ) → k < 8 → IsSome (get_or c.args.self.now.slots k None) = λ k l. search rules in
    let m = all_taken 8 c.args.self.now.slots t in
    absurd (omega (arith, m, c.requires))
