-- Where the frames of messages lie.
use Rattle.std.specs.Prelude.{ℕ, zero, suc, ◌+◌, List, [], ◌∷◌, length, drop, Ok, Err, Result}
use Rattle.line.specs.declared.refusal.Refusal.{Refusal}
use Rattle.line.specs.Messages.{Msg}
use Rattle.line.specs.View.{msg_of}
use Rattle.frame.specs.Frames.{size, decoded}
use Rattle.lines.specs.declared.framed.slots.Slot.{Slot}
use Rattle.lines.specs.declared.framed.slots.Slots.{Slots}

-- a message, and the bytes where its frame begins and ends
pub record Spot : Type 0 where
  pub message : Msg
  pub start : ℕ
  pub end : ℕ

-- what a slot says
abbrev pub spot : Slot → Spot
spot s = record { message = msg_of s.message; start = s.bytes.start; end = s.bytes.end }

-- the places of a log's frames, the first of them at the byte `at`
unfoldable pub placed : (at : ℕ) → List Msg → List Spot
placed at [] = []
placed at (m ∷ ms) = record { message = m; start = at; end = at + size m } ∷ placed (at + size m) ms

-- the place of the message that was read, before those of the bytes after it
abbrev pub ahead : (ℕ → List ℕ → List Spot) → ℕ → List ℕ → Result (Msg × ℕ) Refusal → List Spot
ahead rest at bs (Ok p) = record { message = p.0; start = at; end = at + p.1 } ∷ rest (at + p.1) (drop p.1 bs)
ahead rest at bs (Err e) = []

-- the places of the first n frames in these bytes, where the first of the bytes is that at the place `at`
unfoldable pub found : (n at : ℕ) → List ℕ → List Spot
found zero at bs = []
found (suc n) at bs = ahead (found n) at bs (decoded bs)

-- the places that an iterator still goes over: there are no more of them than bytes
abbrev pub left : Slots → List Spot
left s = found (length (drop s.at s.bytes.now)) s.at (drop s.at s.bytes.now)
