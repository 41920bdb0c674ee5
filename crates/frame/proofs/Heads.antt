-- What five words that make a message say of it.
use Rattle.std.proofs.Common.{◌≡◌, ℕ, ◌<◌, ◌≤◌, Some, None, Ok, arith}
use Rattle.std.proofs.lemmas.Bool.Decides.{nat_tests}
use Rattle.line.specs.declared.kind.Kind.{Kind}
use Rattle.line.specs.Kinds.{number, kind_of}
use Rattle.line.specs.Messages.{misfit, headed}

pub of_number : (k : Kind) → kind_of (number k) ≡ Some k
of_number k = grind (arith, nat_tests)

pub number_of : (n : ℕ) (k : Kind) → kind_of n ≡ Some k → number k ≡ n
number_of n k e = grind (arith, nat_tests)

pub few : (k : Kind) → number k < 256
few k = grind (arith, nat_tests, of_number k)

-- words that make a message
pub passes : (r k p s n : ℕ) (kind : Kind) → r < 8 → kind_of k ≡ Some kind → misfit r kind p s n ≡ None → headed r k p s n ≡ Ok kind
passes r k p s n kind lt e none = grind (arith, nat_tests)

-- what they say
pub passed : (r k p s n : ℕ) (kind : Kind) → headed r k p s n ≡ Ok kind → (kind_of k ≡ Some kind) × (misfit r kind p s n ≡ None)
passed r k p s n kind e = grind (arith, nat_tests)

-- the bounds of the numbers of a message
pub bounds : (r : ℕ) (kind : Kind) (p s n : ℕ) → misfit r kind p s n ≡ None → (r < 8) × (p < 16) × (s < 8) × (n ≤ 64)
bounds r kind p s n e = grind (arith, nat_tests)
