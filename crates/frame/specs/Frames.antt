-- A message as bytes, and the message that bytes begin with.
use Rattle.std.specs.Prelude.{◌≡◌, ℕ, ◌+◌, ◌*◌, ◌/◌, ◌%◌, cond, List, [], ◌∷◌, ◌++◌, length, take, drop, Ok, Err, Result, nat_le, nat_lt, slice_index}
use Rattle.line.specs.declared.kind.Kind.{Kind}
use Rattle.line.specs.declared.message.Message.{Message}
use Rattle.line.specs.declared.fault.Misfit.{Misfit}
use Rattle.line.specs.declared.refusal.Place.TheVariants.{Offset}
use Rattle.line.specs.declared.refusal.Refusal.{Refusal}
use Rattle.line.specs.Kinds.{number}
use Rattle.line.specs.Refusals.{refused, misfits}
use Rattle.line.specs.Messages.{Msg, msg, headed}
use Rattle.line.specs.View.{msg_of}

-- a number below 2^32 as four bytes, the highest first
abbrev pub word : ℕ → List ℕ
word n = (n / 16777216 % 256) ∷ (n / 65536 % 256) ∷ (n / 256 % 256) ∷ (n % 256) ∷ []

-- The frame of m: receiver, kind, page, sender and text length, then the text.
abbrev pub encoded : Msg → List ℕ
encoded m =
    word m.receiver ++ word (number m.kind) ++ word m.page ++ word m.sender ++ word (length m.text) ++ m.text

-- how many bytes the frame of m has
abbrev pub size : Msg → ℕ
size m = 20 + length m.text

-- Writing m into out: the frame's size, and out with the frame at its start; or BUFFER at its length, and out as it was.
abbrev pub written : Msg → List ℕ → Result ℕ Refusal × List ℕ
written m out =
    cond (nat_le (size m) (length out)) (Ok (size m), encoded m ++ drop (size m) out)
    (Err (refused 20 (Offset (length out))), out)

-- the number that the four bytes from place i on write
abbrev pub word_at : List ℕ → ℕ → ℕ
word_at bs i = slice_index bs i * 16777216 + slice_index bs (i + 1) * 65536 + slice_index bs (i + 2) * 256 + slice_index bs (i + 3)

-- the text after the words, and how many bytes are taken; CUT SHORT at the first missing byte
abbrev pub bodied : List ℕ → Result Kind Misfit → Result (Msg × ℕ) Refusal
bodied bs (Err part) = Err (misfits part)
bodied bs (Ok k) =
    cond (nat_lt (length bs) (20 + word_at bs 16)) (Err (refused 18 (Offset (length bs))))
    (Ok (msg (word_at bs 12) (word_at bs 0) (word_at bs 8) k (take (word_at bs 16) (drop 20 bs)), 20 + word_at bs 16))

-- Reading: the message that bytes begin with, and how many bytes it takes; CUT SHORT under twenty bytes, then NO MESSAGE
-- at the first word that fits none, then CUT SHORT within the text.
abbrev pub decoded : List ℕ → Result (Msg × ℕ) Refusal
decoded bs =
    cond (nat_lt (length bs) 20) (Err (refused 18 (Offset (length bs))))
    (bodied bs (headed (word_at bs 0) (word_at bs 4) (word_at bs 8) (word_at bs 12) (word_at bs 16)))

-- what the code read
abbrev pub seen : Message × ℕ → Msg × ℕ
seen p = (msg_of p.0, p.1)

-- Every message, written and read with any bytes after it, comes out equal, with those bytes left over.
abbrev pub RoundTrip : Type 0
RoundTrip =
    (m : Message) (rest : List ℕ) → (decoded (encoded (msg_of m) ++ rest) ≡ Ok (msg_of m, size (msg_of m)))
    × (drop (size (msg_of m)) (encoded (msg_of m) ++ rest) ≡ rest)

-- Whatever is read writes back to the bytes that were taken.
abbrev pub WritesBack : Type 0
WritesBack = (bs : List ℕ) (m : Msg) (n : ℕ) → decoded bs ≡ Ok (m, n) → encoded m ≡ take n bs
