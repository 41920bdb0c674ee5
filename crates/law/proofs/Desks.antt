-- What the home notes and all links together: the invariant of a page.
use Rattle.std.proofs.Common.{◌≡◌, ℕ, zero, suc, ◌<◌, Bool, true, false, ◌||◌, eqb, List, [], ◌∷◌, sym, refl, ◌∙◌, subst, arith, Option, Some, None}
use Rattle.std.proofs.lemmas.Bool.Decides.{nat_tests}
use Rattle.std.proofs.lemmas.Bool.{eqb-true, cond_both}
use Rattle.notes.specs.declared.row.Access.{Access}
use Rattle.notes.specs.declared.row.Standing.{Standing}
use Rattle.notes.specs.declared.row.Standing.TheVariants.{Waiting}
use Rattle.notes.specs.declared.row.Mode.{Mode}
use Rattle.notes.specs.Notes.{is_open, is_writing}
use Rattle.delivery.specs.Deliveries.{is_away}
use Rattle.law.proofs.Model.{Text, Link, Place, mine, theirs, World, wish_in, my_wish, remote, placed, none, local, nobody}
use Rattle.law.proofs.Phases.{Phase, dirty, Tame, never'}
use Rattle.law.proofs.Facts.{is_own}

-- P of each, after one was put
pub placed_all : (P : ℕ → Link → Type 0) (f : ℕ → Link) (k : ℕ) (q : Link) → ((j : ℕ) → eqb j k ≡ false → P j (f j)) → P k q → (j : ℕ) → P j (placed f k q j)
placed_all P f k q others here j = cond_both (eqb j k) q (f j) (P j) (λ e. subst (λ i. P i q) (sym (eqb-true j k e)) here) (others j)

pub eqb_same : (s : ℕ) → eqb s s ≡ true
eqb_same s = grind (arith, nat_tests)

pub placed_same : (f : ℕ → Link) (k : ℕ) (q : Link) → placed f k q k ≡ q
placed_same f k q = rw (eqb_same k)

pub placed_other : (f : ℕ → Link) (k : ℕ) (q : Link) (j : ℕ) → eqb j k ≡ false → placed f k q j ≡ f j
placed_other f k q j e = rw e

-- scans
pub none_true : (n : ℕ) (p : ℕ → Bool) → none n p ≡ true → (j : ℕ) → j < n → p j ≡ false
none_true zero p e j l = absurd (omega arith)
none_true (suc n) p e j l = grind (arith, nat_tests, none_true n p)

pub none_false : (n : ℕ) (p : ℕ → Bool) → none n p ≡ false → (j : ℕ) × (j < n) × (p j ≡ true)
none_false zero p e = never' e
none_false (suc n) p e = grind (arith, nat_tests, none_false n p)

-- the queue
abbrev pub Distinct : List Place → Type 0
Distinct [] = Unit {0}
Distinct (mine w ∷ q) = (my_wish q ≡ None) × Distinct q
Distinct (theirs s w ∷ q) = (wish_in s q ≡ None) × Distinct q

abbrev pub wait_of : Standing → Option Access
wait_of (Waiting w) = Some w
wait_of _ = None

abbrev pub is_empty : List Place → Bool
is_empty [] = true
is_empty (e ∷ q) = false

-- all but settled
pub record Pre (n h : ℕ) (m : Mode) (g : Standing) (t b : Text) (f : ℕ → Link) (q : List Place) : Type 0 where
  pub links : (j : ℕ) → Phase b m (wish_in j q) (f j)
  pub outside : (j : ℕ) → remote n h j ≡ false → (f j ≡ nobody) × (wish_in j q ≡ None)
  pub distinct : Distinct q
  pub own_wish : my_wish q ≡ wait_of g
  pub held : is_own m ≡ false → (o : ℕ) × ((f o).holder ≡ true)
  pub single : is_away m ≡ true → (i j : ℕ) → (f i).holder ≡ true → (f j).holder ≡ true → i ≡ j
  pub home_writes : is_writing g ≡ true → is_own m ≡ true
  pub home_open : is_open g ≡ true → is_away m ≡ false
  pub fresh : ((j : ℕ) → dirty (f j) ≡ false) → t ≡ b

-- of a world, but with the queue q
abbrev pub PreOf : (n h : ℕ) → World → List Place → Type 0
PreOf n h w q = Pre n h w.mode w.home w.text w.book w.at q

pub record Inv (n h : ℕ) (w : World) : Type 0 where
  pub pre : PreOf n h w w.queue
  pub settled : ((j : ℕ) → (w.at j).awaited ≡ false) → (is_empty w.queue || is_open w.home) ≡ true

pub nothing_some : {w : Access} {A : Type 0} → Some w ≡ None → A
nothing_some e = cc

-- links that change, but for the home's notes of who holds
pub record Alike (b : Text) (m : Mode) (q : Option Access) (l k : Link) : Type 0 where
  pub phase : Phase b m q k
  pub holder : k.holder ≡ l.holder
  pub dirty : dirty k ≡ dirty l

pub pre_alike : {n h : ℕ} {m : Mode} {g : Standing} {t b : Text} {f : ℕ → Link} {q : List Place} (f' : ℕ → Link) → Pre n h m g t b f q
    → ((j : ℕ) → Alike b m (wish_in j q) (f j) (f' j)) → ((j : ℕ) → remote n h j ≡ false → f' j ≡ f j) → Pre n h m g t b f' q
pre_alike f' p a s = record {
  links = λ j. (a j).phase;
  outside = λ j e. (s j e ∙ (p.outside j e).0, (p.outside j e).1);
  distinct = p.distinct;
  own_wish = p.own_wish;
  held = λ e. ((p.held e).0, (a (p.held e).0).holder ∙ (p.held e).1);
  single = λ e i j x y. p.single e i j (sym (a i).holder ∙ x) (sym (a j).holder ∙ y);
  home_writes = p.home_writes;
  home_open = p.home_open;
  fresh = λ e. p.fresh (λ j. sym (a j).dirty ∙ e j);
}

-- one station's own step
pub local_alike : (b : Text) (m : Mode) (q : List Place) (f : ℕ → Link) (s : ℕ) (k : Link) → ((j : ℕ) → Phase b m (wish_in j q) (f j)) → Tame b m (wish_in s q) (f s) k
    → (j : ℕ) → Alike b m (wish_in j q) (f j) (placed f s k j)
local_alike b m q f s k p t = placed_all (λ j l. Alike b m (wish_in j q) (f j) l) f s k (λ j e. record { phase = p j; holder = refl; dirty = refl }) (record { phase = t.phase; holder = t.holder; dirty = t.dirty })

pub local_still : (n h : ℕ) (f : ℕ → Link) (s : ℕ) (k : Link) → remote n h s ≡ true → (j : ℕ) → remote n h j ≡ false → placed f s k j ≡ f j
local_still n h f s k r = placed_all (λ j l. remote n h j ≡ false → l ≡ f j) f s k (λ j e x. refl) (λ x. never' (sym r ∙ x))

pub local_awaited : (b : Text) (m : Mode) (q : Option Access) (f : ℕ → Link) (s : ℕ) (k : Link) → Tame b m q (f s) k → (j : ℕ) → (placed f s k j).awaited ≡ (f j).awaited
local_awaited b m q f s k t = placed_all (λ j l. l.awaited ≡ (f j).awaited) f s k (λ j e. refl) t.awaited

pub keeps_local : (n h : ℕ) (w : World) (s : ℕ) (k : Link) → remote n h s ≡ true → Inv n h w → Tame w.book w.mode (wish_in s w.queue) (w.at s) k → Inv n h (local s k w)
keeps_local n h w s k r i t = record {
  pre = pre_alike (placed w.at s k) i.pre
      (local_alike w.book w.mode w.queue w.at s k i.pre.links t) (local_still n h w.at s k r);
  settled = λ e. i.settled (λ j. sym (local_awaited w.book w.mode (wish_in s w.queue) w.at s k t j) ∙ e j);
}
