-- What firmware written in C is told.
use Rattle.std.specs.Prelude.{ℕ, List, length, Ok, Err, Result}
use Rattle.line.specs.declared.kind.Kind.{Kind}
use Rattle.line.specs.declared.fault.Misfit.{Misfit}
use Rattle.line.specs.declared.refusal.Place.{Place}
use Rattle.line.specs.declared.refusal.Place.TheVariants.{Offset, Pair, Row}
use Rattle.line.specs.declared.refusal.Refusal.{Refusal}
use Rattle.line.specs.Kinds.{number}
use Rattle.line.specs.Refusals.{misfits}
use Rattle.line.specs.Messages.{Msg, msg, headed}
use Rattle.frame.specs.declared.exports.FrameRead.{FrameRead}
use Rattle.frame.specs.declared.exports.FrameWritten.{FrameWritten}
use Rattle.frame.specs.Frames.{written}

-- the offset of a frame's fault; other places have none
abbrev pub offset : Place → ℕ
offset (Offset n) = n
offset (Pair p) = 0
offset (Row r) = 0

-- what was read: status 0 and the message, with how many bytes were taken; or the refusal's number and offset
abbrev pub read_as : Result (Msg × ℕ) Refusal → FrameRead
read_as (Ok p) =
    record { status = 0; receiver = p.0.receiver; kind = number p.0.kind; page = p.0.page; sender = p.0.sender; length = length p.0.text; at = p.1 }
read_as (Err e) = record { status = e.number; receiver = 0; kind = 0; page = 0; sender = 0; length = 0; at = offset e.place }

abbrev pub with_kind : (receiver page sender : ℕ) → List ℕ → Result Kind Misfit → Result Msg Refusal
with_kind r p s t (Ok k) = Ok (msg s r p k t)
with_kind r p s t (Err part) = Err (misfits part)

-- the message of these numbers and this text, or NO MESSAGE at the first number that fits none
abbrev pub composed : (receiver kind page sender : ℕ) → List ℕ → Result Msg Refusal
composed r k p s t = with_kind r p s t (headed r k p s (length t))

-- what was written: status 0 and the frame's size; or the refusal's number and offset
abbrev pub written_as : Result ℕ Refusal → FrameWritten
written_as (Ok n) = record { status = 0; at = n }
written_as (Err e) = record { status = e.number; at = offset e.place }

-- the answer to a writer in C, and the buffer after it
abbrev pub sent : Result Msg Refusal → List ℕ → FrameWritten × List ℕ
sent (Ok m) out = (written_as (written m out).0, (written m out).1)
sent (Err e) out = (written_as (Err e), out)
