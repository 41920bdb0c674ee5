-- What a reader answers, and where it is then.
use Rattle.std.specs.Prelude.{◌≡◌, ℕ, ◌+◌, Bool, List, Ok, Err, Result}
use Rattle.line.specs.declared.refusal.Refusal.{Refusal}
use Rattle.plan.specs.Plans.{byte_at, passing}

-- a reader: the plan's bytes, and the place of the next one
pub record Reading : Type 0 where
  pub bytes : List ℕ
  pub offset : ℕ

-- the reader that is so many bytes further
abbrev pub past : ℕ → Reading → Reading
past n r = record { bytes = r.bytes; offset = r.offset + n }

-- after an answer the reader is past the part that it read, of this size; after a fault it is where it was
abbrev pub answered : {A : Type 0} → ℕ → Reading → Result A Refusal → Result A Refusal × Reading
answered size r (Ok a) = (Ok a, past size r)
answered size r (Err e) = (Err e, r)

-- a rule for a part of this size, at the reader's place
abbrev pub reads : {A : Type 0} → (List ℕ → ℕ → Result A Refusal) → ℕ → Reading → Result A Refusal × Reading
reads rule size r = answered size r (rule r.bytes r.offset)

-- a rule that tells the place after what it read; the bytes stay
abbrev pub reads_on : {A : Type 0} → (List ℕ → ℕ → Result (A × ℕ) Refusal) → Reading → Result (A × ℕ) Refusal × List ℕ
reads_on rule r = (rule r.bytes r.offset, r.bytes)

-- the next byte, if it passes: a call of the test may give this answer at that byte
abbrev pub ReadsPassing : (ℕ → Bool → Type 0) → Reading → Result ℕ Refusal × Reading → Type 0
ReadsPassing gives r read = (pass : Bool) × ((b : ℕ) → byte_at r.bytes r.offset ≡ Ok b → gives b pass) × (read ≡ reads (passing (λ _. pass)) 1 r)
