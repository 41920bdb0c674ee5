-- How many messages wait after a post, and after many.
use Rattle.std.proofs.Common.{◌≡◌, ℕ, zero, suc, ◌+◌, ◌<◌, ◌≤◌, List, [], ◌∷◌, map, length, Ok, refl, ap, ◌∙◌, arith, length-append}
use Rattle.std.proofs.lemmas.Bool.{cases_eq}
use Rattle.std.proofs.lemmas.Bool.Decides.{nat_tests}
use Rattle.line.specs.declared.message.Message.{Message}
use Rattle.line.specs.Messages.{Msg}
use Rattle.line.specs.View.{msg_of}
use Rattle.line.specs.Lists.{Lists, sum_to, total, posted, posting, postings}

pub sum_to_same : (n : ℕ) (f g : ℕ → ℕ) → ((i : ℕ) → i < n → g i ≡ f i) → sum_to n g ≡ sum_to n f
unfolding sum_to
sum_to_same zero f g h = refl
sum_to_same (suc n) f g h = omega (arith, sum_to_same n f g (λ i lt. h i (omega arith)), h n (omega arith))

-- one summand, at j, is greater by one
pub sum_to_more : (n j : ℕ) (f g : ℕ → ℕ) → j < n → g j ≡ f j + 1 → ((i : ℕ) → (i ≡ j → ⊥) → g i ≡ f i)
    → sum_to n g ≡ sum_to n f + 1
unfolding sum_to
sum_to_more zero j f g lt here others = omega arith
sum_to_more (suc n) j f g lt here others = grind (arith, cases_eq j n, sum_to_more n j f g, sum_to_same n f g, others n)

-- one list is longer by one, and the others stand
pub total_more : (w v : Lists) (a b : ℕ) → a < 8 → b < 8 → length (v a b) ≡ length (w a b) + 1
    → ((p q : ℕ) → ((p ≡ a) × (q ≡ b) → ⊥) → v p q ≡ w p q)
    → total v ≡ total w + 1
unfolding total
total_more w v a b la lb here others =
    sum_to_more 8 a (λ p. sum_to 8 (λ q. length (w p q))) (λ p. sum_to 8 (λ q. length (v p q))) la
    (sum_to_more 8 b (λ q. length (w a q)) (λ q. length (v a q)) lb here (λ q ne. ap length (others a q (λ x. ne x.1))))
    (λ p ne. sum_to_same 8 _ _ (λ q lt. ap length (others p q (λ x. ne x.0))))

pub total_posted : (m : Msg) (w : Lists) → m.sender < 8 → m.receiver < 8 → total (posted m w) ≡ total w + 1
unfolding posted
total_posted m w ls lr =
    total_more w (posted m w) m.sender m.receiver ls lr
    (grind (arith, nat_tests, length-append {A = Msg}))
    (λ p q ne. grind (arith, nat_tests))

-- a place is free
pub posting_free : (room : ℕ) (m : Msg) (w : Lists) → total w < room → posting room m w ≡ (Ok tt, posted m w)
posting_free room m w lt = grind (arith, nat_tests)

-- while enough places are free every post succeeds
pub enough : (room : ℕ) (ms : List Message) (w : Lists) → total w + length ms ≤ room
    → ((postings room (map msg_of ms) (Ok tt, w)).0 ≡ Ok tt) × (total (postings room (map msg_of ms) (Ok tt, w)).1 ≡ total w + length ms)
enough room [] w fits = (refl, omega arith)
enough room (m ∷ ms) w fits =
    let n = total_posted (msg_of m) w m.header.sender_in m.header.receiver_in in
    let h = enough room ms (posted (msg_of m) w) (omega (arith, n)) in
    rw (posting_free room (msg_of m) w (omega arith), postings) (h.0, h.1 ∙ omega (arith, n))
