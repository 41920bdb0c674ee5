-- Sets of stations, member by member.
use Rattle.std.proofs.Common.{◌≡◌, ℕ, ◌-◌, ◌^◌, ◌<◌, ◌≤◌, Bool, true, false, cond, ◌&&◌, eqb, ltb, sym, refl, ◌∙◌, arith}
use native.Mathlib.Nat.{zero-div}
use lib.Bits.{or_lt, and_le_l}
use lib.Pow.{pow-lt}
use Rattle.std.proofs.lemmas.Bool.Decides.{nat_tests}
use Rattle.notes.specs.Sets.{isin, joined, left as without}
use Rattle.notes.proofs.Bits.{alone, joins, leaves, emptied}
use Rattle.law.proofs.Model.{remote, none}
use Rattle.law.proofs.Desks.{none_true, none_false}
use Rattle.law.proofs.Serves.{remote_lt}

-- whether station j is in the set m: stations are below 8
abbrev pub flag : ℕ → ℕ → Bool
flag j m = ltb j 8 && isin j m

pub in_range : (j m : ℕ) → j < 8 → flag j m ≡ isin j m
in_range j m l = grind (arith, nat_tests)

pub out_of_range : (j m : ℕ) → 8 ≤ j → flag j m ≡ false
out_of_range j m l = grind (arith, nat_tests)

pub flag_join : (j s m : ℕ) → s < 8 → flag j (joined m s) ≡ cond (eqb j s) true (flag j m)
flag_join j s m l = grind (arith, nat_tests, joins j s m)

pub flag_leave : (j s m : ℕ) → s < 8 → flag j (without m s) ≡ cond (eqb j s) false (flag j m)
flag_leave j s m l = grind (arith, nat_tests, leaves j s m)

pub flag_only : (j s : ℕ) → s < 8 → flag j (2 ^ s) ≡ eqb j s
flag_only j s l = grind (arith, nat_tests, alone j s)

pub flag_zero : (j : ℕ) → flag j 0 ≡ false
flag_zero j = grind (arith, nat_tests, zero-div (2 ^ j))

pub flag_empty : (m : ℕ) → m < 256 → ((j : ℕ) → flag j m ≡ false) → m ≡ 0
flag_empty m l f = emptied m l (λ k a. sym (in_range k m a) ∙ f k)

pub joined_small : (m s : ℕ) → m < 256 → s < 8 → joined m s < 256
joined_small m s a b = or_lt 8 m (2 ^ s) a (pow-lt b)

pub without_small : (m s : ℕ) → m < 256 → without m s < 256
without_small m s a = let x = and_le_l m (255 - 2 ^ s) in omega (arith, x, a)

pub only_small : (s : ℕ) → s < 8 → 2 ^ s < 256
only_small s b = pow-lt b

-- the empty set, by its mask and by a scan
pub scan_empty : (n h m : ℕ) → m < 256 → ((j : ℕ) → flag j m ≡ true → remote n h j ≡ true) → none n (λ j. flag j m) ≡ eqb m 0
scan_empty n h m l r = go (none n (λ j. flag j m)) refl
  where
    off : none n (λ j. flag j m) ≡ true → (j : ℕ) → flag j m ≡ false
    off e j = grind (arith, none_true n (λ j. flag j m) e j, remote_lt n h j, r j)

    go : (c : Bool) → none n (λ j. flag j m) ≡ c → c ≡ eqb m 0
    go true e = grind (arith, nat_tests, flag_empty m l (off e))
    go false e = let o = none_false n (λ j. flag j m) e in grind (arith, nat_tests, o.2, flag_zero o.0)
