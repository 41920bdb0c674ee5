-- The lists of a log as they are: what `Logs` says of them behind the test for a pair.
use Rattle.std.proofs.Common.{◌≡◌, ℕ, true, false, cond, ◌&&◌, eqb, List, [], ◌∷◌, ◌++◌, length, Ok, sym, refl, ap, ◌∙◌, ⊎_elim, append-nil, arith}
use mathlib.Core.Path.{fun_ext}
use Rattle.std.specs.List.{All}
use Rattle.std.proofs.lemmas.List.Elements.{All-head, All-tail, filter-append}
use Rattle.std.proofs.lemmas.Bool.{cases_Bool, eq-eqb, eqb-true, and_parts, and_from, both_ways}
use Rattle.line.specs.Messages.{Msg}
use Rattle.line.specs.Lists.{Lists, pair, paired, empty, total, posted, behind, taken, sum_to, pairing}
use Rattle.lines.specs.Logs.{goes, of}
use Rattle.lines.proofs.Logs.{Proper, total_of}

pub goes_here : (m : Msg) → goes m.sender m.receiver m ≡ true
goes_here m = and_from _ _ (eq-eqb m.sender m.sender refl) (eq-eqb m.receiver m.receiver refl)

pub goes_from : (a b : ℕ) (m : Msg) → goes a b m ≡ true → (a ≡ m.sender) × (b ≡ m.receiver)
goes_from a b m t = let e = and_parts _ _ t in (eqb-true _ _ e.0, eqb-true _ _ e.1)

pub of_append : (xs ys : List Msg) (a b : ℕ) → of (xs ++ ys) a b ≡ of xs a b ++ of ys a b
unfolding of
of_append xs ys a b = filter-append (goes a b) xs ys

pub of_one : (m : Msg) (a b : ℕ) → of (m ∷ []) a b ≡ cond (goes a b m) (m ∷ []) []
unfolding of
of_one m a b = refl

of_here : (m : Msg) (xs : List Msg) (a b : ℕ) → goes a b m ≡ true → of (m ∷ xs) a b ≡ m ∷ of xs a b
unfolding of
of_here m xs a b t = rw t

of_other : (m : Msg) (xs : List Msg) (a b : ℕ) → goes a b m ≡ false → of (m ∷ xs) a b ≡ of xs a b
unfolding of
of_other m xs a b t = rw t

pub of_none : of [] ≡ empty
unfolding of
of_none = refl

-- one message more at the end of the log is last in its pair's list
pub posted_of : (xs : List Msg) (m : Msg) → of (xs ++ m ∷ []) ≡ posted m (of xs)
unfolding posted
posted_of xs m =
    fun_ext (λ a. fun_ext (λ b. of_append xs (m ∷ []) a b ∙ ap (λ (z : List Msg). of xs a b ++ z) (of_one m a b) ∙ ⊎_elim
    (λ (t : goes a b m ≡ true). rw t)
    (λ (t : goes a b m ≡ false). rw t (append-nil (of xs a b)))
    (cases_Bool (goes a b m))))

silent : (xs : List Msg) (a b : ℕ) → All Proper xs → pair a b ≡ false → of xs a b ≡ []
silent [] a b h t = ap (λ (w : Lists). w a b) of_none
silent (m ∷ xs) a b h t =
    ⊎_elim
    (λ (g : goes a b m ≡ true).
    let e = goes_from a b m g in absurd (both_ways (pair a b) t ((λ i. pair (e.0 i) (e.1 i)) ∙ All-head Proper m xs h)))
    (λ (g : goes a b m ≡ false). of_other m xs a b g ∙ silent xs a b (All-tail Proper m xs h) t)
    (cases_Bool (goes a b m))

-- nothing waits between what is no pair
pub paired_of : (xs : List Msg) → All Proper xs → paired (of xs) ≡ of xs
unfolding paired
paired_of xs h =
    fun_ext (λ a. fun_ext (λ b. ⊎_elim
    (λ (t : pair a b ≡ true). rw t)
    (λ (t : pair a b ≡ false). rw t (sym (silent xs a b h t)))
    (cases_Bool (pair a b))))

pub total_none : total (of []) ≡ 0
unfolding total sum_to of
total_none = refl

-- a log holds as many as its lists together
pub total_all : (xs : List Msg) → All Proper xs → total (of xs) ≡ length xs
total_all xs h = ap total (sym (paired_of xs h)) ∙ total_of xs h

-- the two numbers were found to be a pair
pub is_pair : (a b : ℕ) → Ok tt ≡ pairing a b → pair a b ≡ true
is_pair a b e = grind (arith, e)

-- a log in which the pair's oldest message is m
module _ (front : List Msg) (m : Msg) (back : List Msg) (a b : ℕ) (none : of front a b ≡ []) (here : goes a b m ≡ true) where
  pub oldest_of : of (front ++ m ∷ back) a b ≡ m ∷ of back a b
  oldest_of =
      of_append front (m ∷ back) a b
      ∙ ap (λ (z : List Msg). z ++ of (m ∷ back) a b) none
      ∙ of_here m back a b here

  without : of (front ++ back) a b ≡ of back a b
  without = of_append front back a b ∙ ap (λ (z : List Msg). z ++ of back a b) none

  beside : (p q : ℕ) → goes p q m ≡ false → of (front ++ back) p q ≡ of (front ++ m ∷ back) p q
  beside p q g =
      of_append front back p q
      ∙ ap (λ (z : List Msg). of front p q ++ z) (sym (of_other m back p q g))
      ∙ sym (of_append front (m ∷ back) p q)

  -- it is gone from its list, and every other list stands
  pub taken_of : of (front ++ back) ≡ taken a b (of (front ++ m ∷ back))
  unfolding taken
  taken_of =
      fun_ext (λ p. fun_ext (λ q. ⊎_elim
      (λ (t : (eqb p a && eqb q b) ≡ true).
      let e = and_parts (eqb p a) (eqb q b) t in
      rw t ((λ i. of (front ++ back) (eqb-true p a e.0 i) (eqb-true q b e.1 i))
      ∙ without ∙ sym (ap behind oldest_of)
      ∙ (λ i. behind (of (front ++ m ∷ back) (sym (eqb-true p a e.0) i) (sym (eqb-true q b e.1) i)))))
      (λ (t : (eqb p a && eqb q b) ≡ false).
      rw t (beside p q (⊎_elim
      (λ (g : goes p q m ≡ true).
      let e = goes_from p q m g in
      let f = goes_from a b m here in
      absurd (both_ways _ t (and_from _ _ (eq-eqb p a (e.0 ∙ sym f.0)) (eq-eqb q b (e.1 ∙ sym f.1)))))
      (λ (g : goes p q m ≡ false). g)
      (cases_Bool (goes p q m)))))
      (cases_Bool (eqb p a && eqb q b))))
