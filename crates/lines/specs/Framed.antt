-- The frames of a log, one after another, and the log that such bytes hold.
use Rattle.std.specs.Prelude.{ℕ, zero, suc, List, [], ◌∷◌, drop, Some, None, Ok, Err, Option, Result}
use Rattle.std.specs.List.{flat_map}
use Rattle.line.specs.declared.refusal.Refusal.{Refusal}
use Rattle.line.specs.Messages.{Msg}
use Rattle.frame.specs.Frames.{encoded, decoded}

unfoldable pub framed : List Msg → List ℕ
framed ms = flat_map encoded ms

abbrev pub consed : Msg → Option (List Msg) → Option (List Msg)
consed m None = None
consed m (Some ms) = Some (m ∷ ms)

-- the message that was read, before those of the bytes after it
abbrev pub before : (List ℕ → Option (List Msg)) → List ℕ → Result (Msg × ℕ) Refusal → Option (List Msg)
before rest bs (Ok p) = consed p.0 (rest (drop p.1 bs))
before rest bs (Err e) = None

-- the messages of n frames with nothing after them, where the bytes are such frames
unfoldable pub parsed : ℕ → List ℕ → Option (List Msg)
parsed zero [] = Some []
parsed zero (b ∷ bs) = None
parsed (suc n) bs = before (parsed n) bs (decoded bs)
