-- Each call and each delivery keeps the invariant of a page, and each delivery lowers its potential.
use Rattle.std.proofs.Common.{◌≡◌, ℕ, Bool, true, false, cond, eqb, ltb, List, [], ◌∷◌, ◌++◌, sym, refl, ap, ◌∙◌, subst, arith, Option, Some, None, length}
use Rattle.std.proofs.lemmas.Bool.Decides.{nat_tests}
use Rattle.std.proofs.lemmas.Bool.{eqb-false, false_from_ne_true, both_ways, cond_both}
use Rattle.notes.specs.declared.row.Access.{Access}
use Rattle.notes.specs.declared.row.Standing.TheVariants.{Idle, Waiting}
use Rattle.notes.specs.declared.row.Mode.{Mode}
use Rattle.notes.specs.declared.row.Mode.TheVariants.{Own}
use Rattle.notes.specs.Notes.{is_idle, is_open, is_writing}
use Rattle.law.proofs.Model.{Text, Up, Link, Place, mine, theirs, World, world, wish_in, my_wish, remote, placed, written_link, heard_link, left_link, unheld, serve_world, fits_up, returned_world, arrived_world, nobody, potential}
use Rattle.law.proofs.Phases.{Phase, dirty, Tame, never, never', Left, Heard, silent, asks, thins, fulls, writing, free}
use Rattle.law.proofs.Facts.{is_own, holder_mode, writes_away, written_dirty}
use Rattle.law.proofs.Desks.{placed_all, placed_same, placed_other, none_false, Distinct, Pre, PreOf, Inv, local_still}
use Rattle.law.proofs.Serves.{outside_free, nowhere, Settled, serve_keeps}

-- the end of the queue
end_wish : (s : ℕ) (v : Access) (q : List Place) → wish_in s q ≡ None → wish_in s (q ++ (theirs s v ∷ [])) ≡ Some v
end_wish s v [] e = grind (arith, nat_tests)
end_wish s v (_ ∷ q) e = grind (arith, end_wish s v q)

end_other : (s : ℕ) (v : Access) (q : List Place) (j : ℕ) → eqb j s ≡ false → wish_in j (q ++ (theirs s v ∷ [])) ≡ wish_in j q
end_other s v [] j e = grind arith
end_other s v (_ ∷ q) j e = grind (arith, end_other s v q j e)

end_mine : (v : Access) (q : List Place) (j : ℕ) → wish_in j (q ++ (mine v ∷ [])) ≡ wish_in j q
end_mine v [] j = refl
end_mine v (_ ∷ q) j = grind (arith, end_mine v q j)

my_end : (v : Access) (q : List Place) → my_wish q ≡ None → my_wish (q ++ (mine v ∷ [])) ≡ Some v
my_end v [] e = refl
my_end v (_ ∷ q) e = grind (arith, my_end v q)

my_other : (s : ℕ) (v : Access) (q : List Place) → my_wish (q ++ (theirs s v ∷ [])) ≡ my_wish q
my_other s v [] = refl
my_other s v (_ ∷ q) = grind (arith, my_other s v q)

distinct_mine : (v : Access) (q : List Place) → my_wish q ≡ None → Distinct q → Distinct (q ++ (mine v ∷ []))
distinct_mine v [] e d = (refl, tt)
distinct_mine v (mine u ∷ q) e d = grind (arith, e)
distinct_mine v (theirs k u ∷ q) e d = (grind (arith, end_mine v q k, d.0), distinct_mine v q e d.1)

distinct_theirs : (s : ℕ) (v : Access) (q : List Place) → wish_in s q ≡ None → Distinct q → Distinct (q ++ (theirs s v ∷ []))
distinct_theirs s v [] e d = (refl, tt)
distinct_theirs s v (mine u ∷ q) e d = (my_other s v q ∙ d.0, distinct_theirs s v q e d.1)
distinct_theirs s v (theirs k u ∷ q) e d = grind (arith, nat_tests, end_other s v q k, distinct_theirs s v q)

-- a request comes to the home
request_pre : (n h : ℕ) (w : World) (s : ℕ) (v : Access) (k : Link) → remote n h s ≡ true → Inv n h w → wish_in s w.queue ≡ None → Tame w.book w.mode (Some v) (w.at s) k
    → Pre n h w.mode w.home w.text w.book (placed w.at s k) (w.queue ++ (theirs s v ∷ []))
request_pre n h w s v k r i e t = record {
  links = placed_all (λ j l. Phase w.book w.mode (wish_in j q') l) w.at s k
      (λ j x. subst (λ y. Phase w.book w.mode y (w.at j)) (sym (end_other s v w.queue j x)) (p.links j))
      (subst (λ y. Phase w.book w.mode y k) (sym (end_wish s v w.queue e)) t.phase);
  outside = placed_all (λ j l. remote n h j ≡ false → (l ≡ nobody) × (wish_in j q' ≡ None)) w.at s k
      (λ j x y. ((p.outside j y).0, end_other s v w.queue j x ∙ (p.outside j y).1))
      (λ y. never' (sym r ∙ y));
  distinct = distinct_theirs s v w.queue e p.distinct;
  own_wish = my_other s v w.queue ∙ p.own_wish;
  held = λ x. ((p.held x).0, holds (p.held x).0 ∙ (p.held x).1);
  single = λ x i j y z. p.single x i j (sym (holds i) ∙ y) (sym (holds j) ∙ z);
  home_writes = p.home_writes;
  home_open = p.home_open;
  fresh = λ x. p.fresh (λ j. sym (news j) ∙ x j);
}
  where
    q' : List Place
    q' = w.queue ++ (theirs s v ∷ [])

    p : PreOf n h w w.queue
    p = i.pre

    holds : (j : ℕ) → (placed w.at s k j).holder ≡ (w.at j).holder
    holds = placed_all (λ j l. l.holder ≡ (w.at j).holder) w.at s k (λ j x. refl) t.holder

    news : (j : ℕ) → dirty (placed w.at s k j) ≡ dirty (w.at j)
    news = placed_all (λ j l. dirty l ≡ dirty (w.at j)) w.at s k (λ j x. refl) t.dirty

-- a copy comes back to the home
mode_free : (b : Text) (m : Mode) (q : Option Access) (l : Link) (c : Bool) → (c ≡ true → l.holder ≡ false) → Phase b m q l → Phase b (cond c Own m) q l
mode_free b m q l c e p = cond_both c Own m (λ x. Phase b x q l) (λ x. free b Own p (e x)) (λ _. p)

return_pre : (n h : ℕ) (w : World) (s : ℕ) (u : List Up) (t : Text) → remote n h s ≡ true → Inv n h w → Left w.book (wish_in s w.queue) (w.at s) u
    → (((j : ℕ) → dirty (placed w.at s (left_link u (w.at s)) j) ≡ false) → t ≡ w.book)
    → Pre n h (returned_world n s u t w).mode w.home t w.book (placed w.at s (left_link u (w.at s))) w.queue
return_pre n h w s u t r i v f = record {
  links = placed_all (λ j l. Phase w.book m' (wish_in j w.queue) l) w.at s k
      (λ j x. mode_free w.book w.mode (wish_in j w.queue) (w.at j) c (λ y. sym (ap (λ (l : Link). l.holder) (placed_other w.at s k j x)) ∙ unheld_all y j) (p.links j))
      (v.phase m');
  outside = λ j x. (out j x ∙ (p.outside j x).0, (p.outside j x).1);
  distinct = p.distinct;
  own_wish = p.own_wish;
  held = held_by;
  single = λ x i j y z. p.single (grind (arith, x)) i j (was i y) (was j z);
  home_writes = λ x. never' (sym (p.home_writes x) ∙ holder_mode (p.links s) v.held);
  home_open = λ x. grind (arith, p.home_open x);
  fresh = f;
}
  where
    k : Link
    k = left_link u (w.at s)

    p : PreOf n h w w.queue
    p = i.pre

    c : Bool
    c = unheld n (placed w.at s k)

    m' : Mode
    m' = cond c Own w.mode

    out : (j : ℕ) → remote n h j ≡ false → placed w.at s k j ≡ w.at j
    out = local_still n h w.at s k r

    unheld_all : c ≡ true → (j : ℕ) → (placed w.at s k j).holder ≡ false
    unheld_all y = nowhere n h (λ j. (placed w.at s k j).holder)
        (λ j x. ap (λ (l : Link). l.holder) (out j x) ∙ (outside_free p j x).0) y

    was : (j : ℕ) → (placed w.at s k j).holder ≡ true → (w.at j).holder ≡ true
    was = placed_all (λ j l. l.holder ≡ true → (w.at j).holder ≡ true) w.at s k (λ j x y. y) never

    held_by : is_own m' ≡ false → (o : ℕ) × ((placed w.at s k o).holder ≡ true)
    held_by y = let o = none_false n (λ j. (placed w.at s k j).holder) (grind (arith, y)) in (o.0, o.2)

-- what a step does
pub record Kept (n h : ℕ) (f : ℕ → Link) (s : ℕ) (w : World) : Type 0 where
  pub inv : Inv n h w
  pub others : (j : ℕ) → eqb j s ≡ false → ltb (potential (f j)) (potential (w.at j)) ≡ false
  pub here : ltb (potential (w.at s)) (potential (f s)) ≡ true

-- after a change of the link s alone, and serving
after_serve : (n h : ℕ) (f : ℕ → Link) (s : ℕ) (k : Link) (w : World) → Settled n h (placed f s k) w → ltb (potential k) (potential (f s)) ≡ true → Kept n h f s w
after_serve n h f s k w v e = record {
  inv = v.inv;
  others = λ j x. grind (arith, x, v.no_more j);
  here = grind (arith, nat_tests, e, v.no_more s);
}

pub arrives : (n h : ℕ) (w : World) (s : ℕ) (u : List Up) → remote n h s ≡ true → Inv n h w → Heard w.book w.mode (wish_in s w.queue) (w.at s) u
    → ltb 0 (length u) ≡ true → Kept n h w.at s (arrived_world n s u w)
arrives n h w s _ r i silent e = never e
arrives n h w s _ r i (asks v u x t y z) e = after_serve n h w.at s (heard_link u (w.at s)) _
    (serve_keeps n h (world w.mode w.home w.text w.book (w.queue ++ (theirs s v ∷ [])) (placed w.at s (heard_link u (w.at s)))) (request_pre n h w s v (heard_link u (w.at s)) r i x t)) z
arrives n h w s _ r i (thins f u v x y) e = after_serve n h w.at s (left_link u (w.at s)) _
    (serve_keeps n h (returned_world n s u w.text w) (return_pre n h w s u w.text r i v (λ a. i.pre.fresh (news a)))) v.falls
  where
    news : ((j : ℕ) → dirty (placed w.at s (left_link u (w.at s)) j) ≡ false) → (j : ℕ) → dirty (w.at j) ≡ false
    news a j = grind (arith, nat_tests, x, a j)
arrives n h w s _ r i (fulls f t u v x y) e = after_serve n h w.at s (left_link u (w.at s)) _
    (serve_keeps n h (returned_world n s u t w) (return_pre n h w s u t r i v (λ _. x))) v.falls

-- the home's own calls
own_free : {b : Text} {m : Mode} {q : Option Access} {l : Link} → Phase b m q l → is_own m ≡ true → l.holder ≡ false
own_free {l = l} p e = false_from_ne_true l.holder (λ x. both_ways _ (holder_mode p x) e)

pub home_starts : (n h : ℕ) (w : World) (v : Access) → is_idle w.home ≡ true → Inv n h w → Inv n h (serve_world n (world w.mode (Waiting v) w.text w.book (w.queue ++ (mine v ∷ [])) w.at))
home_starts n h w v r i = (serve_keeps n h (world w.mode (Waiting v) w.text w.book (w.queue ++ (mine v ∷ [])) w.at) (record {
  links = λ j. subst (λ y. Phase w.book w.mode y (w.at j)) (sym (end_mine v w.queue j)) (i.pre.links j);
  outside = λ j x. ((i.pre.outside j x).0, end_mine v w.queue j ∙ (i.pre.outside j x).1);
  distinct = distinct_mine v w.queue none_mine i.pre.distinct;
  own_wish = my_end v w.queue none_mine;
  held = i.pre.held;
  single = i.pre.single;
  home_writes = never;
  home_open = never;
  fresh = i.pre.fresh;
})).inv
  where
    none_mine : my_wish w.queue ≡ None
    none_mine = grind (arith, i.pre.own_wish, r)

pub home_ends : (n h : ℕ) (w : World) → is_open w.home ≡ true → Inv n h w → Inv n h (serve_world n (world w.mode Idle w.text w.book w.queue w.at))
home_ends n h w r i = (serve_keeps n h (world w.mode Idle w.text w.book w.queue w.at) (record {
  links = i.pre.links;
  outside = i.pre.outside;
  distinct = i.pre.distinct;
  own_wish = grind (arith, i.pre.own_wish, r);
  held = i.pre.held;
  single = i.pre.single;
  home_writes = never;
  home_open = never;
  fresh = i.pre.fresh;
})).inv

pub home_puts : (n h : ℕ) (w : World) (t : Text) → is_writing w.home ≡ true → Inv n h w → Inv n h (world w.mode w.home t t w.queue w.at)
home_puts n h w t r i = record {
  pre = record {
    links = λ j. free t w.mode (i.pre.links j) (own_free (i.pre.links j) (i.pre.home_writes r));
    outside = i.pre.outside;
    distinct = i.pre.distinct;
    own_wish = i.pre.own_wish;
    held = i.pre.held;
    single = i.pre.single;
    home_writes = i.pre.home_writes;
    home_open = i.pre.home_open;
    fresh = λ _. refl;
  };
  settled = i.settled;
}

-- a writer away
pub puts : (n h : ℕ) (w : World) (s : ℕ) (t : Text) → remote n h s ≡ true → is_writing (w.at s).standing ≡ true → Inv n h w
    → Inv n h (world w.mode w.home w.text t w.queue (placed w.at s (written_link t (w.at s))))
puts n h w s t r e i = record {
  pre = record {
    links = placed_all (λ j l. Phase t w.mode (wish_in j w.queue) l) w.at s k (λ j x. free t w.mode (p.links j) (others j x)) (writing t (p.links s) e);
    outside = λ j x. (local_still n h w.at s k r j x ∙ (p.outside j x).0, (p.outside j x).1);
    distinct = p.distinct;
    own_wish = p.own_wish;
    held = λ x. ((p.held x).0, holds (p.held x).0 ∙ (p.held x).1);
    single = λ x i j y z. p.single x i j (sym (holds i) ∙ y) (sym (holds j) ∙ z);
    home_writes = p.home_writes;
    home_open = p.home_open;
    fresh = λ x. never' (sym (written_dirty (p.links s) t e) ∙ subst (λ (l : Link). dirty l ≡ false) (placed_same w.at s k) (x s));
  };
  settled = λ x. i.settled (λ j. sym (awaits j) ∙ x j);
}
  where
    k : Link
    k = written_link t (w.at s)

    p : PreOf n h w w.queue
    p = i.pre

    holds : (j : ℕ) → (placed w.at s k j).holder ≡ (w.at j).holder
    holds = placed_all (λ j l. l.holder ≡ (w.at j).holder) w.at s k (λ j x. refl) refl

    awaits : (j : ℕ) → (placed w.at s k j).awaited ≡ (w.at j).awaited
    awaits = placed_all (λ j l. l.awaited ≡ (w.at j).awaited) w.at s k (λ j x. refl) refl

    others : (j : ℕ) → eqb j s ≡ false → (w.at j).holder ≡ false
    others j x = false_from_ne_true (w.at j).holder (λ y. eqb-false j s x (p.single (writes_away (p.links s) e).1 j s y (writes_away (p.links s) e).0))

pub fits_of : {b : Text} {m : Mode} {q : Option Access} {l : Link} {u : List Up} → Heard b m q l u → fits_up u m q l ≡ true
fits_of silent = refl
fits_of (asks v u x t y z) = y
fits_of (thins f u v x y) = y
fits_of (fulls f t u v x y) = y
