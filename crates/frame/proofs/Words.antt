-- A number as four bytes, and back.
use Rattle.std.proofs.Common.{◌≡◌, ℕ, ◌+◌, ◌*◌, ◌/◌, ◌%◌, ◌<◌, ◌≤◌, List, ◌∷◌, ◌++◌, length, get_or, drop, arith}
use Rattle.std.proofs.lemmas.List.{drop_more}
use Rattle.frame.specs.Frames.{word, word_at}

-- a number below 256 comes back from its word
pub from_word : (n : ℕ) → n < 256
    → n / 16777216 % 256 * 16777216 + n / 65536 % 256 * 65536 + n / 256 % 256 * 256 + n % 256 ≡ n
from_word n h = omega arith

-- four bytes from place i on, and those after them
fours : (bs : List ℕ) (i : ℕ) → i + 4 ≤ length bs
    → drop i bs ≡ get_or bs i 0 ∷ get_or bs (i + 1) 0 ∷ get_or bs (i + 2) 0 ∷ get_or bs (i + 3) 0 ∷ drop (i + 4) bs
fours bs i le = grind (arith, drop_more bs i 0, drop_more bs (i + 1) 0, drop_more bs (i + 2) 0, drop_more bs (i + 3) 0)

-- the word of the number that is read at place i stands there
pub stands : (bs : List ℕ) (i n : ℕ) → i + 4 ≤ length bs → word_at bs i ≡ n → n < 256 → word n ++ drop (i + 4) bs ≡ drop i bs
stands bs i n le e h =
    let p : n / 16777216 % 256 ≡ get_or bs i 0 = omega arith in
    let q : n / 65536 % 256 ≡ get_or bs (i + 1) 0 = omega arith in
    let r : n / 256 % 256 ≡ get_or bs (i + 2) 0 = omega arith in
    let s : n % 256 ≡ get_or bs (i + 3) 0 = omega arith in
    let f = fours bs i le in cc
