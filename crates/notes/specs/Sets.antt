-- Sets of stations as the bits of a byte: station k is in the set m when bit k of m is set.
use Rattle.std.specs.Prelude.{◌≡◌, ℕ, zero, suc, ◌-◌, ◌/◌, ◌%◌, ◌^◌, ◌<◌, Bool, true, false, cond, List, [], ◌∷◌, ◌++◌, ◌==◌, bit_and, bit_or}

abbrev pub isin : ℕ → ℕ → Bool
isin k m = m / 2 ^ k % 2 == 1

-- the station s alone
abbrev pub only : ℕ → ℕ
only s = 2 ^ s

-- m and the station s
abbrev pub joined : ℕ → ℕ → ℕ
joined m s = bit_or m (only s)

-- m but for the station s
abbrev pub left : ℕ → ℕ → ℕ
left m s = bit_and m (255 - only s)

-- the stations below n that are in m, lowest first
unfoldable pub members_below : ℕ → ℕ → List ℕ
members_below zero m = []
members_below (suc n) m = members_below n m ++ cond (isin n m) (n ∷ []) []

abbrev pub members : ℕ → List ℕ
members m = members_below 8 m

-- What the bits mean as sets.
abbrev pub Alone : Type 0
Alone = (k s : ℕ) → k < 8 → s < 8 → isin k (only s) ≡ (k == s)

abbrev pub Joins : Type 0
Joins = (k s m : ℕ) → k < 8 → s < 8 → isin k (joined m s) ≡ cond (k == s) true (isin k m)

abbrev pub Leaves : Type 0
Leaves = (k s m : ℕ) → k < 8 → s < 8 → isin k (left m s) ≡ cond (k == s) false (isin k m)

-- a set with no member is the empty one
abbrev pub Empty : Type 0
Empty = (m : ℕ) → m < 256 → ((k : ℕ) → k < 8 → isin k m ≡ false) → m ≡ 0
