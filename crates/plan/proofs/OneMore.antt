-- Reading the letters and the pages, one by one.
use Rattle.std.proofs.Common.{◌≡◌, ℕ, zero, suc, ◌+◌, ◌-◌, ◌<◌, ◌≤◌, List, [], ◌∷◌, ◌++◌, Ok, ap, arith}
use Rattle.std.proofs.lemmas.List.{map_push, length_push}
use Rattle.plan.specs.Plans.{Sheet, and_then, passing, new_letter, letters_at, sheet_at, sheets_at}

-- of n letters i were read, and there is one more
pub one_letter : (n i : ℕ) (bs : List ℕ) (o : ℕ) (seen : List ℕ) → i < n
    → letters_at (n - i) bs o seen ≡ and_then (passing (new_letter seen) bs o) (λ b. letters_at (n - (i + 1)) bs (o + 1) (seen ++ b ∷ []))
unfolding letters_at
one_letter n i bs o seen lt =
    let more : n - i ≡ suc (n - (i + 1)) = omega arith in
    ap (λ (k : ℕ). letters_at k bs o seen) more

-- and there is none
pub no_letter : (n i : ℕ) (bs : List ℕ) (o : ℕ) (seen : List ℕ) → n ≤ i → letters_at (n - i) bs o seen ≡ Ok seen
unfolding letters_at
no_letter n i bs o seen le =
    let none : n - i ≡ zero = omega arith in
    ap (λ (k : ℕ). letters_at k bs o seen) none

-- the same of pages
pub one_page : (p i n : ℕ) (bs : List ℕ) (o : ℕ) (gs : List Sheet) → i < p
    → sheets_at (p - i) n bs o gs ≡ and_then (sheet_at n bs o) (λ q. sheets_at (p - (i + 1)) n bs q.1 (gs ++ q.0 ∷ []))
unfolding sheets_at
one_page p i n bs o gs lt =
    let more : p - i ≡ suc (p - (i + 1)) = omega arith in
    ap (λ (k : ℕ). sheets_at k n bs o gs) more

pub no_page : (p i n : ℕ) (bs : List ℕ) (o : ℕ) (gs : List Sheet) → p ≤ i → sheets_at (p - i) n bs o gs ≡ Ok (gs, o)
unfolding sheets_at
no_page p i n bs o gs le =
    let none : p - i ≡ zero = omega arith in
    ap (λ (k : ℕ). sheets_at k n bs o gs) none

-- a turn of the letters' loop, and of the pages'
pub ruleset letter_turns = (one_letter, no_letter, length_push)

pub ruleset page_turns = (one_page, no_page, length_push, map_push)
