use Rattle.std.proofs.Common.{refl, rules, arith}
use Rattle.lines.specs.Kept.{log}
use Rattle.lines.specs.Logs.{goes}
use Rattle.lines.proofs.Logs.{stands, drops}
use Rattle.lines.proofs.Slots.{first}
use Rattle.lines.proofs.Framing.{whole_of, log_of}
use Rattle.lines.proofs.Cut.{some, forward, within, moved, left}
use Rattle.lines.proofs.framed.methods.FrameLineLine.drop_oldest.Goals as goal

pub returns-in_err-bytes : goal.returns-in_err-bytes
returns-in_err-bytes c =
    let a = c.args.pair.sender in
    let b = c.args.pair.receiver in
    let e = stands (λ p. p.message) a b (log c.args.self.now) _ (first (goes a b) 0 (log c.args.self.now)) _ c.in_err-bytes.ensures in
    search rules

pub overflow_sub-left : goal.overflow_sub-left
overflow_sub-left c =
    omega (arith, forward c.args.self.now c.args.pair.sender c.args.pair.receiver _ c.in_ok-bytes.ensures)

pub overflow_sub-left-2 : goal.overflow_sub-left-2
overflow_sub-left-2 c =
    omega (arith, within c.args.self.now c.args.pair.sender c.args.pair.receiver _ c.in_ok-bytes.ensures, c.args.self.now.frames.ok.0, c.len.ensures)

pub copy_within-requires : goal.copy_within-requires
copy_within-requires c =
    let a = c.args.pair.sender in
    let b = c.args.pair.receiver in
    let e = within c.args.self.now a b _ c.in_ok-bytes.ensures in
    let f = forward c.args.self.now a b _ c.in_ok-bytes.ensures in
    let l = c.args.self.now.frames.ok.0 in
    record { start_le_end = omega (arith, e, l); in_bounds = omega arith; dest_in_bounds = omega (arith, e, f, l); not_exhausted = tt }

pub overflow_sub-self : goal.overflow_sub-self
overflow_sub-self c =
    some c.args.self.now c.args.pair.sender c.args.pair.receiver _ c.in_ok-bytes.ensures

pub invariant_of-self : goal.invariant_of-self
invariant_of-self c =
    let a = c.args.pair.sender in
    let b = c.args.pair.receiver in
    let e = within c.args.self.now a b _ c.in_ok-bytes.ensures in
    let f = forward c.args.self.now a b _ c.in_ok-bytes.ensures in
    let m = moved c.args.self.now a b _ c.in_ok-bytes.ensures _ _ c.args.self.now.frames.len _ _ _ c.args.self.now.frames.ok.0
    (omega (arith, c.len.ensures, c.args.self.now.frames.ok.0, e, f)) c.copy_within.ensures.items c.truncate.ensures.items (grind arith) (grind arith) in
    let h = left c.args.self.now a b _ c.in_ok-bytes.ensures _ m in
    record {
      few = omega (arith, c.args.self.now.few);
      reserved = omega (arith, c.args.self.now.reserved, c.copy_within.ensures.capacity, c.truncate.ensures.capacity);
      whole = whole_of _ _ _ h;
    }

pub returns : goal.returns
returns c =
    let a = c.args.pair.sender in
    let b = c.args.pair.receiver in
    let e = within c.args.self.now a b _ c.in_ok-bytes.ensures in
    let f = forward c.args.self.now a b _ c.in_ok-bytes.ensures in
    let m = moved c.args.self.now a b _ c.in_ok-bytes.ensures _ _ c.args.self.now.frames.len _ _ _ c.args.self.now.frames.ok.0
    (omega (arith, c.len.ensures, c.args.self.now.frames.ok.0, e, f)) c.copy_within.ensures.items c.truncate.ensures.items (grind arith) (grind arith) in
    let h = left c.args.self.now a b _ c.in_ok-bytes.ensures _ m in
    drops (λ p. p.message) a b (log c.args.self.now) _ (first (goes a b) 0 (log c.args.self.now)) _ c.in_ok-bytes.ensures _ refl _ (log_of _ _ _ h)
