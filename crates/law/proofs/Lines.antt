-- The lists of a line, page by page.
use Rattle.std.proofs.Common.{◌≡◌, ℕ, ◌<◌, Bool, true, false, cond, ◌&&◌, eqb, List, [], ◌∷◌, ◌++◌, sym, refl, ap, ◌∙◌, subst, append_assoc, append-nil, arith}
use mathlib.Core.Path.{fun_ext}
use Rattle.std.proofs.lemmas.Bool.Decides.{nat_tests}
use Rattle.std.proofs.lemmas.Bool.{eqb-true, eq-eqb, cond_both}
use Rattle.line.specs.declared.kind.Kind.{Kind}
use Rattle.line.specs.Messages.{Msg}
use Rattle.line.specs.Lists.{Lists, posted, taken, sent}
use Rattle.line.specs.Lists.{behind}
use Rattle.delivery.specs.Deliveries.{from_home}
use Rattle.law.proofs.Model.{Up, remote}
use Rattle.law.proofs.Views.{as_down, as_up, downs, ups}

pub turned : (a b : ℕ) → eqb a b ≡ false → eqb b a ≡ false
turned a b e = grind (arith, nat_tests)

pub downs_append : (g : ℕ) (xs ys : List Msg) → downs g (xs ++ ys) ≡ downs g xs ++ downs g ys
downs_append g [] ys = refl
downs_append g (m ∷ xs) ys = grind (arith, downs_append g xs ys, append_assoc (as_down m.kind m.text) (downs g xs) (downs g ys))

pub ups_append : (g : ℕ) (xs ys : List Msg) → ups g (xs ++ ys) ≡ ups g xs ++ ups g ys
ups_append g [] ys = refl
ups_append g (m ∷ xs) ys = grind (arith, ups_append g xs ys, append_assoc (as_up m.kind m.text) (ups g xs) (ups g ys))

-- whether a message of this kind goes between the home h and a station away, and the right way
abbrev pub goes : (n h a b : ℕ) → Kind → Bool
goes n h a b k = cond (from_home k) (eqb a h && remote n h b) (eqb b h && remote n h a)

-- messages about page g that go right
abbrev pub Posts : (n h g : ℕ) → List Msg → Type 0
Posts n h g [] = Unit {0}
Posts n h g (m ∷ ms) = (m.page ≡ g) × (goes n h m.sender m.receiver m.kind ≡ true) × Posts n h g ms

-- lists that are the same to page g
pub record Same (g : ℕ) (w v : Lists) : Type 0 where
  pub down : (a b : ℕ) → downs g (v a b) ≡ downs g (w a b)
  pub up : (a b : ℕ) → ups g (v a b) ≡ ups g (w a b)

pub same_line : (g : ℕ) (w : Lists) → Same g w w
same_line g w = record { down = λ a b. refl; up = λ a b. refl }

pub same_trans : (g : ℕ) (w v u : Lists) → Same g w v → Same g v u → Same g w u
same_trans g w v u p q = record { down = λ a b. q.down a b ∙ p.down a b; up = λ a b. q.up a b ∙ p.up a b }

-- a post about another page
posted_same : (k g : ℕ) (m : Msg) (w : Lists) → m.page ≡ g → eqb g k ≡ false → Same k w (posted m w)
unfolding posted
posted_same k g m w q e = record {
  down = λ a b. grind (arith, nat_tests, q, e, downs_append k (w a b) (m ∷ []), append-nil (downs k (w a b)));
  up = λ a b. grind (arith, nat_tests, q, e, ups_append k (w a b) (m ∷ []), append-nil (ups k (w a b)));
}

pub sent_same : (n h k g : ℕ) (ms : List Msg) (w : Lists) → Posts n h g ms → eqb g k ≡ false → Same k w (sent ms w)
sent_same n h k g [] w o e = same_line k w
sent_same n h k g (m ∷ ms) w o e = same_trans k w (posted m w) (sent ms (posted m w)) (posted_same k g m w o.0 e) (sent_same n h k g ms (posted m w) o.2 e)

-- the oldest message, about another page, is taken
pub taken_same : (k a b : ℕ) (m : Msg) (rest : List Msg) (w : Lists) → w a b ≡ m ∷ rest → eqb m.page k ≡ false → Same k w (taken a b w)
unfolding taken
taken_same k a b m rest w e off = record {
  down = λ i j. grind (arith, nat_tests, e, off);
  up = λ i j. grind (arith, nat_tests, e, off);
}

pub taken_here : (a b : ℕ) (m : Msg) (rest : List Msg) (w : Lists) → w a b ≡ m ∷ rest → taken a b w a b ≡ rest
unfolding taken
taken_here a b m rest w e = grind (arith, nat_tests, e)

pub taken_other : (a b i j : ℕ) (w : Lists) → (eqb i a && eqb j b) ≡ false → taken a b w i j ≡ w i j
unfolding taken
taken_other a b i j w e = rw e

-- posting behind the oldest, which is then taken
posted_taken : (a b : ℕ) (x m : Msg) (rest : List Msg) (w : Lists) → w a b ≡ m ∷ rest → taken a b (posted x w) ≡ posted x (taken a b w)
unfolding taken posted
posted_taken a b x m rest w e = fun_ext (λ i. fun_ext (λ j. grind (arith, nat_tests, e)))

more_there : (a b : ℕ) (x m : Msg) (rest : List Msg) (w : Lists) → w a b ≡ m ∷ rest → (r : List Msg) × (posted x w a b ≡ m ∷ r)
unfolding posted
more_there a b x m rest w e = cond_both (eqb a x.sender && eqb b x.receiver) (w a b ++ x ∷ []) (w a b) (λ ms. (r : List Msg) × (ms ≡ m ∷ r)) (λ _. (rest ++ x ∷ [], ap (λ ms. ms ++ x ∷ []) e)) (λ _. (rest, e))

pub sent_taken : (a b : ℕ) (ms : List Msg) (m : Msg) (rest : List Msg) (w : Lists) → w a b ≡ m ∷ rest → taken a b (sent ms w) ≡ sent ms (taken a b w)
sent_taken a b [] m rest w e = refl
sent_taken a b (x ∷ ms) m rest w e = let h = more_there a b x m rest w e in sent_taken a b ms m h.0 (posted x w) h.1 ∙ ap (sent ms) (posted_taken a b x m rest w e)

-- every message of the list from a to b is about a page, and goes right
module _ (n p : ℕ) (home : ℕ → ℕ) where
  abbrev pub Proper : (a b : ℕ) → List Msg → Type 0
  Proper a b [] = Unit {0}
  Proper a b (m ∷ ms) = (m.page < p) × (goes n (home m.page) a b m.kind ≡ true) × Proper a b ms

  abbrev pub Clean : Lists → Type 0
  Clean w = (a b : ℕ) → Proper a b (w a b)

  proper_more : (a b : ℕ) (xs : List Msg) (m : Msg) → Proper a b xs → m.page < p → goes n (home m.page) a b m.kind ≡ true → Proper a b (xs ++ m ∷ [])
  proper_more a b [] m q l e = (l, e, tt)
  proper_more a b (x ∷ xs) m q l e = (q.0, q.1, proper_more a b xs m q.2 l e)

  clean_posted : (g : ℕ) (m : Msg) (w : Lists) → m.page ≡ g → g < p → goes n (home g) m.sender m.receiver m.kind ≡ true → Clean w → Clean (posted m w)
  unfolding posted
  clean_posted g m w q l e c a b = go (eqb a m.sender) (eqb b m.receiver) refl refl
    where
      go : (d f : Bool) → eqb a m.sender ≡ d → eqb b m.receiver ≡ f → Proper a b (cond (d && f) (w a b ++ m ∷ []) (w a b))
      go true true x y = proper_more a b (w a b) m (c a b) (subst (λ i. i < p) (sym q) l)
          (subst (λ i. goes n (home i) a b m.kind ≡ true) (sym q) ((λ z. goes n (home g) (eqb-true a m.sender x z) (eqb-true b m.receiver y z) m.kind) ∙ e))
      go true false x y = c a b
      go false f x y = c a b

  pub clean_sent : (g : ℕ) (ms : List Msg) (w : Lists) → g < p → Posts n (home g) g ms → Clean w → Clean (sent ms w)
  clean_sent g [] w l o c = c
  clean_sent g (m ∷ ms) w l o c = clean_sent g ms (posted m w) l o.2 (clean_posted g m w o.0 l o.1 c)

  pub clean_taken : (a b : ℕ) (w : Lists) → Clean w → Clean (taken a b w)
  unfolding taken
  clean_taken a b w c i j = go (eqb i a && eqb j b) (w i j) (c i j)
    where
      go : (d : Bool) (ms : List Msg) → Proper i j ms → Proper i j (cond d (behind ms) ms)
      go true [] q = tt
      go true (m ∷ ms) q = q.2
      go false ms q = q

-- messages from a station s to the home h
abbrev pub Inward : (s h g : ℕ) → List Msg → Type 0
Inward s h g [] = Unit {0}
Inward s h g (m ∷ ms) = (m.sender ≡ s) × (m.receiver ≡ h) × (m.page ≡ g) × (from_home m.kind ≡ false) × Inward s h g ms

abbrev pub ups_in : List Msg → List Up
ups_in [] = []
ups_in (m ∷ ms) = as_up m.kind m.text ++ ups_in ms

posted_here : (s h : ℕ) (m : Msg) (w : Lists) → m.sender ≡ s → m.receiver ≡ h → posted m w s h ≡ w s h ++ m ∷ []
unfolding posted
posted_here s h m w p q = rw (eq-eqb s m.sender (sym p), eq-eqb h m.receiver (sym q))

posted_apart : (s h i j : ℕ) (m : Msg) (w : Lists) → m.sender ≡ s → m.receiver ≡ h → (eqb i s && eqb j h) ≡ false → posted m w i j ≡ w i j
unfolding posted
posted_apart s h i j m w p q e = ap (λ c. cond c (w i j ++ m ∷ []) (w i j)) ((λ z. eqb i (p z) && eqb j (q z)) ∙ e)

pub inward_ups : (s h g : ℕ) (ms : List Msg) (w : Lists) → Inward s h g ms → ups g (sent ms w s h) ≡ ups g (w s h) ++ ups_in ms
inward_ups s h g [] w o = grind (arith, append-nil (ups g (w s h)))
inward_ups s h g (m ∷ ms) w o = grind (arith, nat_tests, inward_ups s h g ms (posted m w) o.4, posted_here s h m w o.0 o.1, ups_append g (w s h) (m ∷ []), o.2, append-nil (as_up m.kind m.text), append_assoc (ups g (w s h)) (as_up m.kind m.text) (ups_in ms))

pub inward_apart : (s h g i j : ℕ) (ms : List Msg) (w : Lists) → Inward s h g ms → (eqb i s && eqb j h) ≡ false → sent ms w i j ≡ w i j
inward_apart s h g i j [] w o e = refl
inward_apart s h g i j (m ∷ ms) w o e = inward_apart s h g i j ms (posted m w) o.4 e ∙ posted_apart s h i j m w o.0 o.1 e

pub inward_posts : (n s h g : ℕ) (ms : List Msg) → remote n h s ≡ true → Inward s h g ms → Posts n h g ms
inward_posts n s h g [] r o = tt
inward_posts n s h g (m ∷ ms) r o = (o.2, grind (arith, nat_tests, o, r), inward_posts n s h g ms r o.4)
