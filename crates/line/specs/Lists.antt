-- The lists of a line, and what each call of a line answers and does to them.
use Rattle.std.specs.Prelude.{ℕ, zero, suc, ◌+◌, Bool, cond, not, ◌&&◌, List, [], ◌∷◌, ◌++◌, length, Ok, Err, Result, ◌==◌, nat_lt}
use Rattle.line.specs.declared.refusal.Refusal.{Refusal}
use Rattle.line.specs.Refusals.{refused, between}
use Rattle.line.specs.Messages.{Msg}

-- For each ordered pair of stations, sender first, the messages that wait, oldest first.
abbrev pub Lists : Type 0
Lists = ℕ → ℕ → List Msg

-- whether these are the numbers of two different stations
abbrev pub pair : ℕ → ℕ → Bool
pair a b = nat_lt a 8 && (nat_lt b 8 && not (a == b))

-- The lists of the pairs: nothing else of w counts.
unfoldable pub paired : Lists → Lists
paired w a b = cond (pair a b) (w a b) []

-- nothing waits
abbrev pub empty : Lists
empty a b = []

-- the sum of f over the n lowest numbers
unfoldable pub sum_to : ℕ → (ℕ → ℕ) → ℕ
sum_to zero f = 0
sum_to (suc n) f = sum_to n f + f n

-- how many messages wait, over all pairs
unfoldable pub total : Lists → ℕ
total w = sum_to 8 (λ a. sum_to 8 (λ b. length (w a b)))

-- m is put last in its pair's list
unfoldable pub posted : Msg → Lists → Lists
posted m w a b = cond (a == m.sender && b == m.receiver) (w a b ++ m ∷ []) (w a b)

abbrev pub behind : List Msg → List Msg
behind [] = []
behind (_ ∷ ms) = ms

-- the oldest message of the pair is gone
unfoldable pub taken : ℕ → ℕ → Lists → Lists
taken s r w a b = cond (a == s && b == r) (behind (w a b)) (w a b)

-- An answer, and the lists after it.
abbrev pub Change : Type 0
Change = Result (Unit {0}) Refusal × Lists

-- post, on a line of this capacity: NO PLACE where as many messages wait
abbrev pub posting : ℕ → Msg → Lists → Change
posting capacity m w =
    cond (nat_lt (total w) capacity) (Ok tt, posted m w) (Err (refused 16 (between m.sender m.receiver)), w)

-- PAIR where there is no such pair
abbrev pub pairing : ℕ → ℕ → Result (Unit {0}) Refusal
pairing s r = cond (pair s r) (Ok tt) (Err (refused 14 (between s r)))

-- count: PAIR where there is no such pair
abbrev pub counting : ℕ → ℕ → Lists → Result ℕ Refusal
counting s r w = cond (pair s r) (Ok (length (w s r))) (Err (refused 14 (between s r)))

-- a list's oldest message, or EMPTY
abbrev pub oldest : ℕ → ℕ → List Msg → Result Msg Refusal
oldest s r [] = Err (refused 15 (between s r))
oldest s r (m ∷ _) = Ok m

-- peek: PAIR, then EMPTY
abbrev pub peeking : ℕ → ℕ → Lists → Result Msg Refusal
peeking s r w = cond (pair s r) (oldest s r (w s r)) (Err (refused 14 (between s r)))

-- what is taken off, where there is an oldest message
abbrev pub taking : ℕ → ℕ → Lists → Result Msg Refusal → Change
taking s r w (Ok _) = (Ok tt, taken s r w)
taking s r w (Err e) = (Err e, w)

-- drop: refused as peek is
abbrev pub dropping : ℕ → ℕ → Lists → Change
dropping s r w = taking s r w (peeking s r w)

-- posting one after another, up to the first that is refused
abbrev pub postings : ℕ → List Msg → Change → Change
postings capacity [] c = c
postings capacity (m ∷ ms) (Ok _, w) = postings capacity ms (posting capacity m w)
postings capacity (m ∷ ms) (Err e, w) = (Err e, w)

-- the lists after these messages, posted one after another
abbrev pub sent : List Msg → Lists → Lists
sent [] w = w
sent (m ∷ ms) w = sent ms (posted m w)
