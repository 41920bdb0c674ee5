-- Sums over the n lowest numbers.
use Rattle.std.proofs.Common.{◌≡◌, ℕ, zero, suc, ◌+◌, ◌-◌, ◌*◌, ◌<◌, ◌≤◌, false, eqb, sym, refl, ap, ◌∙◌, subst, arith}
use Rattle.std.proofs.lemmas.Bool.Decides.{nat_tests}
use Rattle.line.specs.Lists.{sum_to}

pub sum_ext : (n : ℕ) (f g : ℕ → ℕ) → ((k : ℕ) → k < n → f k ≡ g k) → sum_to n f ≡ sum_to n g
unfolding sum_to
sum_ext zero f g e = refl
sum_ext (suc n) f g e = grind (arith, sum_ext n f g, e)

pub sum_le : (n : ℕ) (f g : ℕ → ℕ) → ((k : ℕ) → k < n → f k ≤ g k) → sum_to n f ≤ sum_to n g
unfolding sum_to
sum_le zero f g e = omega arith
sum_le (suc n) f g e = grind (arith, sum_le n f g, e)

pub sum_zero : (n : ℕ) (f : ℕ → ℕ) → ((k : ℕ) → k < n → f k ≡ 0) → sum_to n f ≡ 0
unfolding sum_to
sum_zero zero f e = refl
sum_zero (suc n) f e = grind (arith, sum_zero n f, e)

pub sum_add : (n : ℕ) (f g : ℕ → ℕ) → sum_to n (λ k. f k + g k) ≡ sum_to n f + sum_to n g
unfolding sum_to
sum_add zero f g = refl
sum_add (suc n) f g = grind (arith, sum_add n f g)

pub sum_one : (n : ℕ) (f : ℕ → ℕ) (h : ℕ) → h < n → ((k : ℕ) → eqb k h ≡ false → f k ≡ 0) → sum_to n f ≡ f h
unfolding sum_to
sum_one zero f h l e = absurd (omega arith)
sum_one (suc n) f h l e = grind (arith, nat_tests, sum_one n f h, sum_zero n f, e n)

pub sum_swap : (n m : ℕ) (f : ℕ → ℕ → ℕ) → sum_to n (λ i. sum_to m (λ j. f i j)) ≡ sum_to m (λ j. sum_to n (λ i. f i j))
unfolding sum_to
sum_swap zero m f = sym (sum_zero m (λ _. 0) (λ k l. refl))
sum_swap (suc n) m f = ap (λ a. a + sum_to m (λ j. f n j)) (sum_swap n m f) ∙ sym (sum_add m (λ j. sum_to n (λ i. f i j)) (λ j. f n j))

pub sum_lt : (n : ℕ) (f g : ℕ → ℕ) (k : ℕ) → k < n → ((j : ℕ) → eqb j k ≡ false → f j ≤ g j) → f k < g k → sum_to n f < sum_to n g
unfolding sum_to
sum_lt zero f g k l o h = absurd (omega arith)
sum_lt (suc n) f g k l o h = grind (arith, nat_tests, sum_lt n f g k, sum_le n f g, o n)

pub sum_part : (n : ℕ) (f : ℕ → ℕ) (k : ℕ) → k < n → f k ≤ sum_to n f
unfolding sum_to
sum_part zero f k l = absurd (omega arith)
sum_part (suc n) f k l = grind (arith, nat_tests, sum_part n f k)

pub sum_bound : (n : ℕ) (f : ℕ → ℕ) (c : ℕ) → ((k : ℕ) → k < n → f k ≤ 5 * c) → sum_to n f ≤ 5 * (n * c)
unfolding sum_to
sum_bound zero f c e = omega arith
sum_bound (suc n) f c e = grind (arith, sum_bound n f c, e)

-- one of them is nothing
pub sum_bound_but : (n h : ℕ) (f : ℕ → ℕ) → ((k : ℕ) → f k ≤ 5) → f h ≡ 0 → h < n → sum_to n f ≤ 5 * (n - 1)
unfolding sum_to
sum_bound_but zero h f e z l = absurd (omega arith)
sum_bound_but (suc n) h f e z l = let all = sum_bound n f 1 (λ k _. e k) in grind (arith, nat_tests, sum_bound_but n h f e z, all, e n)

-- nothing from n on
pub sum_cut : (n m : ℕ) (f : ℕ → ℕ) → n ≤ m → ((k : ℕ) → n ≤ k → f k ≡ 0) → sum_to m f ≡ sum_to n f
unfolding sum_to
sum_cut n zero f l e = let z : n ≡ 0 = omega arith in subst (λ k. 0 ≡ sum_to k f) (sym z) refl
sum_cut n (suc m) f l e = let at_end = λ (z : n ≡ suc m). ap (λ k. sum_to k f) z in grind (arith, sum_cut n m f, e m, at_end)
