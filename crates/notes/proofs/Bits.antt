-- The bits of a byte.
use Rattle.std.proofs.Common.{◌≡◌, ℕ, ◌-◌, ◌%◌, ◌^◌, ◌<◌, Bool, true, false, cond, ◌||◌, eqb, [], ◌∷◌, bytes_eq, length, refl, ap, ◌∙◌, ◌*◌, rules, arith}
use Rattle.std.specs.Int.{w8}
use Rattle.std.proofs.Math.Pow.{pow-lt}
use lib.Count.{ones, ones_in, count_trailing_zeros}
use Rattle.std.specs.Int.{bit_at}
use Rattle.std.proofs.lemmas.Grind.{common_steps}
use Rattle.std.proofs.lemmas.Bool.{eqb-true, eqb-false, ne_eqb, agree_below, agree_below_at}
use Rattle.std.proofs.lemmas.Nat.Bits.{bit_at_and, bit_at_or, bit_at-pow_same, bit_at-pow_other, bit_at-zero, bit_at_not, same_from_bits_below}
use Rattle.std.proofs.lemmas.Slice.Eq.{bytes_eq-Decides}
use Rattle.notes.specs.Sets.{isin, only, left, members_below, members, Alone, Joins, Leaves, Empty}

-- a bit of a byte with one bit
bit_only : (k s : ℕ) → bit_at (only s) k ≡ cond (eqb k s) 1 0
bit_only k s = grind (arith, common_steps, bit_at-pow_same, bit_at-pow_other)

-- what a shift by less than a byte's width computes
pub shifted : (s : ℕ) → s < 8 → 1 * 2 ^ s % 256 ≡ only s
shifted s lt = search rules

pub alone : Alone
alone k s lk ls = grind (arith, common_steps, bit_only)

pub joins : Joins
joins k s m lk ls = grind (arith, common_steps, bit_at_or, bit_only)

bit_but : (k s : ℕ) → k < 8 → s < 8 → bit_at (255 - only s) k ≡ cond (eqb k s) 0 1
bit_but k s lk ls = bit_at_not w8 (only s) k (pow-lt ls) lk ∙ grind (arith, bit_only)

pub leaves : Leaves
leaves k s m lk ls = ap (λ n. eqb n 1) (bit_at_and m (255 - only s) k) ∙ rw (bit_but k s lk ls) (grind (arith, common_steps))

-- a test that every byte passes
byte : (test : ℕ → Bool) → agree_below test (λ _. true) 256 ≡ true → (m : ℕ) → m < 256 → test m ≡ true
byte test t m lt = agree_below_at test (λ _. true) 256 m t lt

pub emptied : Empty
emptied m lt h = same_from_bits_below 8 m 0 lt (omega arith) (λ k lk. omega (arith, eqb-false _ _ (h k lk), bit_at-zero k))

pub counted : (m : ℕ) → m < 256 → ones m ≡ length (members m)
unfolding ones ones_in members_below
counted m lt = eqb-true _ _ (byte (λ m. eqb (ones m) (length (members m))) refl m lt)

-- a set of one, without it
pub gone : (k : ℕ) → k < 8 → left (only k) k ≡ 0
gone k lt = eqb-true _ _ (agree_below_at (λ k. eqb (left (only k) k) 0) (λ _. true) 8 k refl lt)

-- nobody is in the empty set
pub nobody : (k : ℕ) → isin k 0 ≡ false
nobody k = ap (λ n. eqb n 1) (bit_at-zero k)

pub no_members : members 0 ≡ []
unfolding members_below
no_members = refl

-- the members of a set are its lowest one and those of the set without it
pub lowest_first : (m : ℕ) → m < 256 → (m ≡ 0 → ⊥) → members m ≡ count_trailing_zeros 8 m ∷ members (left m (count_trailing_zeros 8 m))
unfolding members_below count_trailing_zeros
lowest_first m lt some =
    let t = byte (λ m. eqb m 0 || bytes_eq (members m) (count_trailing_zeros 8 m ∷ members (left m (count_trailing_zeros 8 m)))) refl m lt in
    (bytes_eq-Decides _ _).0 (rw (ne_eqb m 0 some) at t)
