-- What a step does to each page of a house, and the invariant of a house.
use Rattle.std.proofs.Common.{◌≡◌, ℕ, ◌<◌, Bool, true, false, cond, eqb, List, length, sym, refl, ap, ◌∙◌, subst, arith}
use mathlib.Core.Path.{fun_ext}
use Rattle.std.proofs.lemmas.Bool.Decides.{nat_tests}
use Rattle.std.proofs.lemmas.Bool.{eqb-true, and_right}
use Rattle.line.specs.Lists.{Lists}
use Rattle.notes.specs.Notes.{Notes}
use Rattle.law.specs.State.{State, state, at}
use Rattle.law.proofs.Model.{Text, Down, Up, Link, world, remote, placed, local, nobody}
use Rattle.law.proofs.Desks.{eqb_same, Inv}
use Rattle.law.proofs.Flags.{flag}
use Rattle.law.proofs.Views.{downs, ups, places, linked, links, noted, view, page_of, holds, awaits}
use Rattle.law.proofs.Lines.{turned, Same, Clean}
use Rattle.law.proofs.Homes.{remote_not}

-- one station's row or text of one page changed
module _ {A : Type 0} (s g : ℕ) (v : A) (f : ℕ → ℕ → A) where
  pub at_here : at s g v f s g ≡ v
  at_here = rw (eqb_same s, eqb_same g)

  pub at_page : (i j : ℕ) → eqb j g ≡ false → at s g v f i j ≡ f i j
  at_page i j e = ap (λ c. cond c v (f i j)) (and_right (eqb i s) (eqb j g) e)

  pub at_station : (i j : ℕ) → eqb i s ≡ false → at s g v f i j ≡ f i j
  at_station i j e = rw e

pub at_same : {A : Type 0} (s g : ℕ) (f : ℕ → ℕ → A) → at s g (f s g) f ≡ f
at_same s g f = fun_ext (λ i. fun_ext (λ j. grind (arith, nat_tests)))

-- a page that a step does not touch
pub other_page : (n h k : ℕ) (b c : Text) (x y : State) → c ≡ b → ((j : ℕ) → y.rows j k ≡ x.rows j k) → ((j : ℕ) → y.texts j k ≡ x.texts j k) → Same k x.lists y.lists
    → page_of n h c y k ≡ page_of n h b x k
other_page n h k b c x y e r t s = λ i. view h (t h i) (e i) (r h i).standing (r h i).home
    (λ j. cond (remote n h j) (linked false false (r j i) (t j i) (s.down h j i) (s.up j h i)) nobody)

-- the page g whose home h has a new row and text
pub home_page : (n h g : ℕ) (b : Text) (x : State) (r : Notes) (t : Text) (w : Lists)
    → page_of n h b (state (at h g r x.rows) (at h g t x.texts) w) g ≡ view h t b r.standing r.home (links n h g x.rows x.texts w)
home_page n h g b x r t w =
    λ i. view h (at_here h g t x.texts i) b (at_here h g r x.rows i).standing (at_here h g r x.rows i).home (fun_ext there i)
  where
    there : (j : ℕ) → links n h g (at h g r x.rows) (at h g t x.texts) w j ≡ links n h g x.rows x.texts w j
    there j = grind (arith, nat_tests)

-- the page g where a station s away has a new row and text, and new lists
pub away_page : (n h s g : ℕ) (b : Text) (x : State) (r : Notes) (t : Text) (w : Lists) (d : List Down) (u : List Up) → remote n h s ≡ true
    → downs g (w h s) ≡ d → ups g (w s h) ≡ u
    → ((j : ℕ) → eqb j s ≡ false → remote n h j ≡ true → (downs g (w h j) ≡ downs g (x.lists h j)) × (ups g (w j h) ≡ ups g (x.lists j h)))
    → page_of n h b (state (at s g r x.rows) (at s g t x.texts) w) g
    ≡ local s (linked (holds x h g s) (awaits x h g s) r t d u) (page_of n h b x g)
away_page n h s g b x r t w d u aw is-d is-u others =
    (λ i. view h (home_text i) b (home_row i).standing (home_row i).home new)
    ∙ ap (λ (f : ℕ → Link). world (x.rows h g).home.mode (x.rows h g).standing (x.texts h g) b (places h (x.rows h g).home.queue) f) (fun_ext there)
  where
    hs : ℕ
    hs = (x.rows h g).home.holders

    a : ℕ
    a = (x.rows h g).home.awaited

    new : ℕ → Link
    new = links n h g (at s g r x.rows) (at s g t x.texts) w

    old : ℕ → Link
    old = links n h g x.rows x.texts x.lists

    home_row : at s g r x.rows h g ≡ x.rows h g
    home_row = at_station s g r x.rows h g (turned s h (remote_not n h s aw))

    home_text : at s g t x.texts h g ≡ x.texts h g
    home_text = at_station s g t x.texts h g (turned s h (remote_not n h s aw))

    here : new s ≡ linked false false r t d u
    here = grind (arith, nat_tests, aw, is-d, is-u)

    same : (j : ℕ) → eqb j s ≡ false → new j ≡ old j
    same j e = grind (arith, nat_tests, e, others j e)

    there : (j : ℕ) → noted hs a new j ≡ placed (noted hs a old) s (linked (flag s hs) (flag s a) r t d u) j
    there j = grind (arith, nat_tests, here, same j)

-- The invariant of a house, and what a step at page g leaves.
module _ (n p : ℕ) (home : ℕ → ℕ) where
  pub record Sane (book : ℕ → Text) (x : State) : Type 0 where
    pub inv : (g : ℕ) → g < p → Inv n (home g) (page_of n (home g) (book g) x g)
    pub small : (g : ℕ) → g < p → ((x.rows (home g) g).home.holders < 256) × ((x.rows (home g) g).home.awaited < 256)
    pub long : (s g : ℕ) → g < p → length (x.texts s g) ≡ length (book g)
    pub clean : Clean n p home x.lists

  pub record Moved (g : ℕ) (book : ℕ → Text) (x : State) (page : ℕ → Text) (y : State) : Type 0 where
    pub sane : Sane page y
    pub others : (k : ℕ) → eqb k g ≡ false → page_of n (home k) (page k) y k ≡ page_of n (home k) (book k) x k

  pub moved : (s g : ℕ) (r : Notes) (t : Text) (w : Lists) (book page : ℕ → Text) (x : State) → Sane book x
      → ((k : ℕ) → eqb k g ≡ false → page k ≡ book k)
      → Inv n (home g) (page_of n (home g) (page g) (state (at s g r x.rows) (at s g t x.texts) w) g)
      → ((at s g r x.rows (home g) g).home.holders < 256) × ((at s g r x.rows (home g) g).home.awaited < 256)
      → length t ≡ length (page g) → length (page g) ≡ length (book g)
      → ((k : ℕ) → eqb k g ≡ false → Same k x.lists w) → Clean n p home w
      → Moved g book x page (state (at s g r x.rows) (at s g t x.texts) w)
  moved s g r t w book page x i books here small len same_len same clean = record {
    sane = record {
      inv = λ k l. by_page k l (eqb k g) refl;
      small = small_at;
      long = long_at;
      clean = clean;
    };
    others = others;
  }
    where
      y : State
      y = state (at s g r x.rows) (at s g t x.texts) w

      others : (k : ℕ) → eqb k g ≡ false → page_of n (home k) (page k) y k ≡ page_of n (home k) (book k) x k
      others k e = other_page n (home k) k (book k) (page k) x y (books k e) (λ j. at_page s g r x.rows j k e) (λ j. at_page s g t x.texts j k e) (same k e)

      by_page : (k : ℕ) → k < p → (c : Bool) → eqb k g ≡ c → Inv n (home k) (page_of n (home k) (page k) y k)
      by_page k l true e = subst (λ z. Inv n (home z) (page_of n (home z) (page z) y z)) (sym (eqb-true k g e)) here
      by_page k l false e = subst (Inv n (home k)) (sym (others k e)) (i.inv k l)

      small_at : (k : ℕ) → k < p → ((y.rows (home k) k).home.holders < 256) × ((y.rows (home k) k).home.awaited < 256)
      small_at k l = grind (arith, nat_tests, small, i.small k l)

      long_at : (j k : ℕ) → k < p → length (y.texts j k) ≡ length (page k)
      long_at j k l = grind (arith, nat_tests, len, same_len, i.long j k l, books k)
