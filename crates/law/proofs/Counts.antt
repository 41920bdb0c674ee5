-- The messages of the line are those of its pages.
use Rattle.std.proofs.Common.{◌≡◌, ℕ, ◌+◌, ◌<◌, ◌≤◌, true, false, ◌&&◌, eqb, List, [], ◌∷◌, length, sym, refl, ap, ◌∙◌, arith}
use Rattle.std.proofs.lemmas.Bool.Decides.{nat_tests}
use Rattle.line.specs.Messages.{Msg}
use Rattle.line.specs.Lists.{sum_to}
use Rattle.line.specs.Lists.{total}
use Rattle.law.specs.State.{State}
use Rattle.law.proofs.Sums.{sum_ext, sum_zero, sum_add, sum_one, sum_swap, sum_cut}
use Rattle.law.proofs.Model.{remote, one, messages, link_sum}
use Rattle.law.proofs.Desks.{eqb_same}
use Rattle.law.proofs.Views.{downs, ups, page_of}
use Rattle.law.proofs.Lines.{turned, Proper, Clean}
use Rattle.law.proofs.Steps.{at_link}

-- the messages of one page in a list
abbrev count : ℕ → List Msg → ℕ
count g ms = length (downs g ms) + length (ups g ms)

module _ (n p : ℕ) (home : ℕ → ℕ) where
  size_sum : (a b : ℕ) (ms : List Msg) → Proper n p home a b ms → length ms ≡ sum_to p (λ g. count g ms)
  size_sum a b [] q = sym (sum_zero p (λ g. count g []) (λ k l. refl))
  size_sum a b (m ∷ ms) q =
      let x = size_sum a b ms q.2 in
      let y = sum_add p (λ g. count g ms) (λ g. one (eqb m.page g)) in
      let c : sum_to p (λ g. one (eqb m.page g)) ≡ 1 = sum_one p (λ g. one (eqb m.page g)) m.page q.0 (λ k e. ap one (turned k m.page e)) ∙ ap one (eqb_same m.page) in
      let d = sum_ext p (λ g. count g (m ∷ ms)) (λ g. count g ms + one (eqb m.page g)) (λ g l. grind (arith, nat_tests)) in
      omega (arith, x, y, c, d)

  -- a page has its messages in the lists between its home and stations away
  downs_none : (a b g : ℕ) (ms : List Msg) → Proper n p home a b ms → (eqb a (home g) && remote n (home g) b) ≡ false → length (downs g ms) ≡ 0
  downs_none a b g [] q e = refl
  downs_none a b g (m ∷ ms) q e = grind (arith, nat_tests, downs_none a b g ms q.2 e, q.1)

  ups_none : (a b g : ℕ) (ms : List Msg) → Proper n p home a b ms → (eqb b (home g) && remote n (home g) a) ≡ false → length (ups g ms) ≡ 0
  ups_none a b g [] q e = refl
  ups_none a b g (m ∷ ms) q e = grind (arith, nat_tests, ups_none a b g ms q.2 e, q.1)

  page_count : (x : State) (g : ℕ) → home g < n → Clean n p home x.lists
      → sum_to n (λ a. sum_to n (λ b. count g (x.lists a b))) ≡ link_sum n messages (page_of n (home g) [] x g).at
  page_count x g l c =
      sum_ext n (λ a. sum_to n (λ b. count g (x.lists a b))) (λ a. sum_to n (λ b. D a b) + sum_to n (λ b. U a b)) (λ a _. sum_add n (D a) (U a))
      ∙ sum_add n (λ a. sum_to n (λ b. D a b)) (λ a. sum_to n (λ b. U a b))
      ∙ (λ z. sent_down z + sent_up z)
      ∙ sym (sum_ext n (λ k. messages ((page_of n (home g) [] x g).at k)) (λ k. D h k + U k h) (λ k _. here k) ∙ sum_add n (λ k. D h k) (λ k. U k h))
    where
      h : ℕ
      h = home g

      D : ℕ → ℕ → ℕ
      D a b = length (downs g (x.lists a b))

      U : ℕ → ℕ → ℕ
      U a b = length (ups g (x.lists a b))

      sent_down : sum_to n (λ a. sum_to n (λ b. D a b)) ≡ sum_to n (λ k. D (home g) k)
      sent_down = sum_one n (λ a. sum_to n (λ b. D a b)) (home g) l (λ a e. sum_zero n (D a) (λ b _. downs_none a b g (x.lists a b) (c a b) (ap (λ z. z && remote n (home g) b) e)))

      sent_up : sum_to n (λ a. sum_to n (λ b. U a b)) ≡ sum_to n (λ k. U k (home g))
      sent_up = sum_ext n (λ a. sum_to n (λ b. U a b)) (λ a. U a (home g))
          (λ a _. sum_one n (U a) (home g) l (λ b e. ups_none a b g (x.lists a b) (c a b) (ap (λ z. z && remote n (home g) a) e)))

      here : (k : ℕ) → messages ((page_of n (home g) [] x g).at k) ≡ D (home g) k + U k (home g)
      here k = grind (arith, λ (e : remote n (home g) k ≡ true). ap messages (at_link n (home g) k g [] x e), downs_none (home g) k g (x.lists (home g) k) (c (home g) k), ups_none k (home g) g (x.lists k (home g)) (c k (home g)))

  -- a list from or to a station that there is not is empty
  beyond : ((g : ℕ) → g < p → home g < n) → (a b : ℕ) (ms : List Msg) → Proper n p home a b ms → (a < n → b < n → ⊥) → length ms ≡ 0
  beyond hn a b [] q k = refl
  beyond hn a b (m ∷ ms) q k = grind (arith, nat_tests, hn m.page q.0, q.1)

  -- the messages of the line are those of its pages
  pub count_all : (x : State) → n ≤ 8 → ((g : ℕ) → g < p → home g < n) → Clean n p home x.lists → total x.lists ≡ sum_to p (λ g. link_sum n messages (page_of n (home g) [] x g).at)
  unfolding total
  count_all x few hn c =
      sum_cut n 8 (λ a. sum_to 8 (λ b. length (x.lists a b))) few (λ a l. sum_zero 8 (λ b. length (x.lists a b)) (λ b _. beyond hn a b (x.lists a b) (c a b) (λ (la : a < n) _. omega (arith, l, la))))
      ∙ sum_ext n (λ a. sum_to 8 (λ b. length (x.lists a b))) (λ a. sum_to p (λ g. sum_to n (λ b. count g (x.lists a b))))
      (λ a _. sum_cut n 8 (λ b. length (x.lists a b)) few (λ b l. beyond hn a b (x.lists a b) (c a b) (λ _ (lb : b < n). omega (arith, l, lb)))
      ∙ sum_ext n (λ b. length (x.lists a b)) (λ b. sum_to p (λ g. count g (x.lists a b))) (λ b _. size_sum a b (x.lists a b) (c a b)) ∙ sum_swap n p (λ b g. count g (x.lists a b)))
      ∙ sum_swap n p (λ a g. sum_to n (λ b. count g (x.lists a b)))
      ∙ sum_ext p (λ g. sum_to n (λ a. sum_to n (λ b. count g (x.lists a b)))) (λ g. link_sum n messages (page_of n (home g) [] x g).at) (λ g l. page_count x g (hn g l) c)
