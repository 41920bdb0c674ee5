use Rattle.std.proofs.Common.{replicate, is_ok, refl, ap, arith}
use Rattle.line.proofs.Making.{sound}
use Rattle.line.specs.View.{msg_of}
use Rattle.lines.specs.Kept.{log}
use Rattle.lines.proofs.Logs.{posts}
use Rattle.lines.proofs.Framing.{keeps, short, fits_proper, whole_of, log_of, waits}
use Rattle.lines.proofs.Buffer.{few, grows}
use Rattle.lines.proofs.framed.methods.FrameLineLine.post.Goals as goal

pub unwrap-requires : goal.unwrap-requires
unwrap-requires c =
    let h = keeps c.args.self.now in
    c.extend_from_slice.ensures.succeeds
    (omega (arith, few c.args.message (replicate 84 0) c.write.new.out c.write.result c.unwrap-size.result refl c.write.ensures.exact c.unwrap-size.ensures, short c.args.self.now, waits c.args.self.now, c.total.ensures, c.args.self.now.frames.ok.0, c.args.self.now.reserved))

pub invariant_of-self : goal.invariant_of-self
invariant_of-self c =
    let h = keeps c.args.self.now in
    let g = grows c.args.message (replicate 84 0) c.write.new.out c.write.result c.unwrap-size.result refl c.write.ensures.exact c.unwrap-size.ensures _ _ _ h _ _ (ap is_ok c.unwrap.ensures) c.extend_from_slice.ensures.items in
    record {
      few = omega (arith, c.total.ensures, waits c.args.self.now);
      reserved = omega (arith, c.extend_from_slice.ensures.capacity, c.args.self.now.reserved);
      whole = whole_of _ _ _ g;
    }

pub returns : goal.returns
returns c =
    let h = keeps c.args.self.now in
    let g = grows c.args.message (replicate 84 0) c.write.new.out c.write.result c.unwrap-size.result refl c.write.ensures.exact c.unwrap-size.ensures _ _ _ h _ _ (ap is_ok c.unwrap.ensures) c.extend_from_slice.ensures.items in
    posts (log c.args.self.now) (msg_of c.args.message) 256 _ (fits_proper (msg_of c.args.message) (sound c.args.message)) (omega (arith, c.total.ensures)) (log_of _ _ _ g)
