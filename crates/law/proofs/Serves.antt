-- Serving: each grant and each recall keeps what is known, and serving ends settled.
use Rattle.std.proofs.Common.{◌≡◌, ℕ, ◌<◌, Bool, true, false, cond, ◌&&◌, eqb, ltb, List, [], ◌∷◌, sym, refl, ap, ◌∙◌, subst, arith, Option, Some, None}
use Rattle.std.proofs.lemmas.Bool.Decides.{nat_tests}
use Rattle.std.proofs.lemmas.Bool.{and_left, and_parts, true_from_ne_false, both_ways, false_from_ne_true, le-ltb}
use Rattle.notes.specs.declared.row.Access.{Access}
use Rattle.notes.specs.declared.row.Access.TheVariants.{Read, Write}
use Rattle.notes.specs.declared.row.Standing.{Standing}
use Rattle.notes.specs.declared.row.Mode.{Mode}
use Rattle.notes.specs.declared.row.Mode.TheVariants.{Own, Shared as Readers, Away}
use Rattle.notes.specs.Notes.{is_open}
use Rattle.delivery.specs.Deliveries.{is_away}
use Rattle.law.proofs.Model.{Text, Link, Place, mine, theirs, World, wish_in, remote, placed, granted_link, recalled_link, other, in_way, none, clear, calm, recalling, Turn, gives, fetches, stays, judge_read, judge_write, wish, judge, granting, with_queue, fetching, pick, served_world, serve_world, nobody, potential}
use Rattle.law.proofs.Phases.{Phase, queueing, dirty, never, never', Moved, grants_read, grants_write, Recalled, recalls, free}
use Rattle.law.proofs.Facts.{is_own, holder_mode, clean, free_clean}
use Rattle.law.proofs.Desks.{placed_all, eqb_same, placed_same, none_true, none_false, Pre, PreOf, Inv, nothing_some, Alike, pre_alike}

-- who is outside holds nothing, and is not awaited
pub outside_free : {n h : ℕ} {m : Mode} {g : Standing} {t b : Text} {f : ℕ → Link} {q : List Place} → Pre n h m g t b f q → (j : ℕ) → remote n h j ≡ false → ((f j).holder ≡ false) × ((f j).awaited ≡ false)
outside_free p j e = (ap (λ (l : Link). l.holder) (p.outside j e).0, ap (λ (l : Link). l.awaited) (p.outside j e).0)

pub remote_lt : (n h j : ℕ) → remote n h j ≡ true → j < n
remote_lt n h j e = grind (arith, nat_tests)

-- a test that fails outside and passes for none below n passes for none
pub nowhere : (n h : ℕ) (p : ℕ → Bool) → ((j : ℕ) → remote n h j ≡ false → p j ≡ false) → none n p ≡ true → (j : ℕ) → p j ≡ false
nowhere n h p o e j = grind (arith, none_true n p e j, remote_lt n h j, o j)

pub not_own_away : (m : Mode) → is_own m ≡ true → is_away m ≡ false
not_own_away m e = grind (arith, e)

pub ltb_same : (x : ℕ) → ltb x x ≡ false
ltb_same x = le-ltb x x (omega arith)

pub record Granted (n h : ℕ) (f : ℕ → Link) (w : World) (q : List Place) : Type 0 where
  pub pre : PreOf n h w q
  pub no_more : (j : ℕ) → ltb (potential (f j)) (potential (w.at j)) ≡ false

-- nobody holds it: the mode is Own
pub all_free_own : {n h : ℕ} {m : Mode} {g : Standing} {t b : Text} {f : ℕ → Link} {q : List Place} → Pre n h m g t b f q → ((j : ℕ) → (f j).holder ≡ false) → is_own m ≡ true
all_free_own {m = m} p e = true_from_ne_false (is_own m) (λ x. both_ways _ (e (p.held x).0) (p.held x).1)

grant_mine_read : (n h : ℕ) (w : World) (q : List Place) → judge_read w.mode w.home ≡ gives → PreOf n h w (mine Read ∷ q)
    → ((j : ℕ) → (w.at j).awaited ≡ false) → Granted n h w.at (granting (mine Read) w) q
grant_mine_read n h w q v p a = record {
  pre = record {
    links = p.links;
    outside = p.outside;
    distinct = p.distinct.1;
    own_wish = p.distinct.0;
    held = p.held;
    single = p.single;
    home_writes = never;
    home_open = λ _. grind (arith, v);
    fresh = p.fresh;
  };
  no_more = λ j. grind (arith, nat_tests);
}

grant_mine_write : (n h : ℕ) (w : World) (q : List Place) → judge_write (clear n (mine Write) w.at) w.home ≡ gives → PreOf n h w (mine Write ∷ q)
    → ((j : ℕ) → (w.at j).awaited ≡ false) → Granted n h w.at (granting (mine Write) w) q
grant_mine_write n h w q v p a = record {
  pre = record {
    links = p.links;
    outside = p.outside;
    distinct = p.distinct.1;
    own_wish = p.distinct.0;
    held = p.held;
    single = p.single;
    home_writes = λ _. own;
    home_open = λ _. grind (arith, own);
    fresh = p.fresh;
  };
  no_more = λ j. grind (arith, nat_tests);
}
  where
    free_all : (j : ℕ) → in_way (mine Write) w.at j ≡ false
    free_all = nowhere n h (in_way (mine Write) w.at) (λ j e. and_left (w.at j).holder true (outside_free p j e).0) (grind (arith, v))

    own : is_own w.mode ≡ true
    own = all_free_own p (λ j. grind (arith, free_all j))

-- the first of the queue, and the others
first_wish : (s : ℕ) (v : Access) (q : List Place) → wish_in s (theirs s v ∷ q) ≡ Some v
first_wish s v q = rw (eqb_same s)

first_remote : {n h : ℕ} {m : Mode} {g : Standing} {t b : Text} {f : ℕ → Link} {s : ℕ} {v : Access} {q : List Place} → Pre n h m g t b f (theirs s v ∷ q) → remote n h s ≡ true
first_remote {n} {h} {s = s} {v = v} {q = q} p = true_from_ne_false (remote n h s) (λ e. nothing_some (sym (first_wish s v q) ∙ (p.outside s e).1))

-- a link of another mode
not_away_common : (m : Mode) {b : Text} {q : Option Access} {l : Link} → is_away m ≡ false → Phase b m q l → Phase b Readers q l
not_away_common Own {l = l} e p = free _ Readers p (false_from_ne_true l.holder (λ x. both_ways _ (holder_mode p x) refl))
not_away_common Readers e p = p
not_away_common Away e p = never' e

grant_read : (n h : ℕ) (w : World) (s : ℕ) (q : List Place) → judge_read w.mode w.home ≡ gives → PreOf n h w (theirs s Read ∷ q)
    → ((j : ℕ) → (w.at j).awaited ≡ false) → Granted n h w.at (granting (theirs s Read) w) q
grant_read n h w s q v p a = record {
  pre = record {
    links = placed_all (λ j l. Phase w.book Readers (wish_in j q) l) w.at s k
        (λ j e. not_away_common w.mode no_away (rw e at (p.links j)))
        (subst (λ x. Phase w.book Readers x k) (sym p.distinct.0) mv.phase);
    outside = placed_all (λ j l. remote n h j ≡ false → (l ≡ nobody) × (wish_in j q ≡ None)) w.at s k
        (λ j e x. ((p.outside j x).0, grind (arith, e, (p.outside j x).1)))
        (λ x. never' (sym (first_remote p) ∙ x));
    distinct = p.distinct.1;
    own_wish = p.own_wish;
    held = λ _. (s, ap (λ (l : Link). l.holder) (placed_same w.at s k));
    single = never;
    home_writes = λ x. grind (arith, v, x);
    home_open = λ _. refl;
    fresh = λ _. text_is;
  };
  no_more = placed_all (λ j l. ltb (potential (w.at j)) (potential l) ≡ false) w.at s k (λ j e. grind (arith, nat_tests)) mv.no_more;
}
  where
    k : Link
    k = granted_link Read w.text (w.at s)

    no_away : is_away w.mode ≡ false
    no_away = grind (arith, v)

    text_is : w.text ≡ w.book
    text_is = p.fresh (λ j. clean (p.links j) no_away)

    mv : Moved w.book Readers None (w.at s) k
    mv = subst (λ t. Moved w.book Readers None (w.at s) (granted_link Read t (w.at s))) (sym text_is)
        (grants_read (subst (λ x. Phase w.book w.mode x (w.at s)) (first_wish s Read q) (p.links s)))

lined_clean : {b : Text} {m : Mode} {v : Access} {l : Link} → Phase b m (Some v) l → dirty l ≡ false
lined_clean (queueing x _) = refl
lined_clean _ = refl

grant_write : (n h : ℕ) (w : World) (s : ℕ) (q : List Place) → judge_write (clear n (theirs s Write) w.at) w.home ≡ gives → PreOf n h w (theirs s Write ∷ q)
    → ((j : ℕ) → (w.at j).awaited ≡ false) → Granted n h w.at (granting (theirs s Write) w) q
grant_write n h w s q v p a = record {
  pre = record {
    links = placed_all (λ j l. Phase w.book Away (wish_in j q) l) w.at s k
        (λ j e. free w.book Away (rw e at (p.links j)) (others j e))
        (subst (λ x. Phase w.book Away x k) (sym p.distinct.0) mv.phase);
    outside = placed_all (λ j l. remote n h j ≡ false → (l ≡ nobody) × (wish_in j q ≡ None)) w.at s k
        (λ j e x. ((p.outside j x).0, grind (arith, e, (p.outside j x).1)))
        (λ x. never' (sym (first_remote p) ∙ x));
    distinct = p.distinct.1;
    own_wish = p.own_wish;
    held = λ _. (s, ap (λ (l : Link). l.holder) (placed_same w.at s k));
    single = λ _ i j x y. is_s i x ∙ sym (is_s j y);
    home_writes = λ x. grind (arith, x, shut);
    home_open = λ x. never' (sym x ∙ shut);
    fresh = λ _. text_is;
  };
  no_more = placed_all (λ j l. ltb (potential (w.at j)) (potential l) ≡ false) w.at s k (λ j e. grind (arith, nat_tests)) mv.no_more;
}
  where
    k : Link
    k = granted_link Write w.text (w.at s)

    shut : is_open w.home ≡ false
    shut = grind (arith, v)

    way : (j : ℕ) → in_way (theirs s Write) w.at j ≡ false
    way = nowhere n h (in_way (theirs s Write) w.at) (λ j e. and_left (w.at j).holder (other (theirs s Write) j) (outside_free p j e).0) (grind (arith, v))

    others : (j : ℕ) → eqb j s ≡ false → (w.at j).holder ≡ false
    others j e = grind (arith, way j)

    mine_now : Phase w.book w.mode (Some Write) (w.at s)
    mine_now = subst (λ x. Phase w.book w.mode x (w.at s)) (first_wish s Write q) (p.links s)

    text_is : w.text ≡ w.book
    text_is = p.fresh (λ j. grind (arith, nat_tests, lined_clean mine_now, free_clean (p.links j), others j))

    mv : Moved w.book Away None (w.at s) k
    mv = subst (λ t. Moved w.book Away None (w.at s) (granted_link Write t (w.at s))) (sym text_is) (grants_write mine_now (a s))

    is_s : (j : ℕ) → (placed w.at s k j).holder ≡ true → j ≡ s
    is_s = placed_all (λ j l. l.holder ≡ true → j ≡ s) w.at s k (λ j e x. never' (sym x ∙ others j e)) (λ x. refl)

pub grant_keeps : (n h : ℕ) (e : Place) (w : World) (q : List Place) → judge (wish e) n e w ≡ gives → PreOf n h w (e ∷ q)
    → ((j : ℕ) → (w.at j).awaited ≡ false) → Granted n h w.at (granting e w) q
grant_keeps n h (mine Read) w q = grant_mine_read n h w q
grant_keeps n h (mine Write) w q = grant_mine_write n h w q
grant_keeps n h (theirs s Read) w q = grant_read n h w s q
grant_keeps n h (theirs s Write) w q = grant_write n h w s q

-- a recall of all that stand in the way
pub record Fetched (b : Text) (m : Mode) (q : Option Access) (l k : Link) : Type 0 where
  pub alike : Alike b m q l k
  pub no_more : ltb (potential l) (potential k) ≡ false

fetch_one : (b : Text) (m : Mode) (q : Option Access) (l : Link) (o c : Bool) → (l.holder && o) ≡ c → Phase b m q l → l.awaited ≡ false → Fetched b m q l (cond c (recalled_link l) l)
fetch_one b m q l o true e p a = let r : Recalled b m q l = recalls p (and_parts l.holder o e).0 a in
    record { alike = record { phase = r.phase; holder = refl; dirty = r.dirty }; no_more = r.no_more }
fetch_one b m q l o false e p a = record { alike = record { phase = p; holder = refl; dirty = refl }; no_more = grind (arith, nat_tests) }

fetch_all : (b : Text) (m : Mode) (q : List Place) (f : ℕ → Link) (e : Place) → ((j : ℕ) → Phase b m (wish_in j q) (f j)) → ((j : ℕ) → (f j).awaited ≡ false)
    → (j : ℕ) → Fetched b m (wish_in j q) (f j) (recalling e f j)
fetch_all b m q f e p a j = fetch_one b m (wish_in j q) (f j) (other e j) (in_way e f j) refl (p j) (a j)

-- somebody is in the way
in_the_way : (n h : ℕ) (e : Place) (v : Access) (w : World) (q : List Place) → wish e ≡ v → judge v n e w ≡ fetches → PreOf n h w q → (j : ℕ) × (in_way e w.at j ≡ true)
in_the_way n h e Read w q x v p = let o = p.held (grind (arith, v)) in (o.0, grind (arith, o.1, x))
in_the_way n h e Write w q x v p = let o = none_false n (in_way e w.at) (grind (arith, v)) in (o.0, o.2)

pub record Settled (n h : ℕ) (f : ℕ → Link) (w : World) : Type 0 where
  pub inv : Inv n h w
  pub no_more : (j : ℕ) → ltb (potential (f j)) (potential (w.at j)) ≡ false

fetch_keeps : (n h : ℕ) (e : Place) (w : World) (q : List Place) → judge (wish e) n e w ≡ fetches → PreOf n h w (e ∷ q)
    → ((j : ℕ) → (w.at j).awaited ≡ false) → Settled n h w.at (fetching e (with_queue (e ∷ q) w))
fetch_keeps n h e w q v p a = record {
  inv = record {
    pre = pre_alike (recalling e w.at) p (λ j. (all j).alike)
        (λ j x. ap (λ c. cond c (recalled_link (w.at j)) (w.at j)) (and_left (w.at j).holder (other e j) (outside_free p j x).0));
    settled = λ x. never' (sym (ap (λ c. (cond c (recalled_link (w.at o.0)) (w.at o.0)).awaited) o.1) ∙ x o.0);
  };
  no_more = λ j. (all j).no_more;
}
  where
    all : (j : ℕ) → Fetched w.book w.mode (wish_in j (e ∷ q)) (w.at j) (recalling e w.at j)
    all = fetch_all w.book w.mode (e ∷ q) w.at e p.links a

    o : (j : ℕ) × (in_way e w.at j ≡ true)
    o = in_the_way n h e (wish e) w (e ∷ q) refl v p

pub served_keeps : (n h : ℕ) (q : List Place) (w : World) → PreOf n h w q → Settled n h w.at (served_world n w q)
served_keeps n h [] w p = record { inv = record { pre = p; settled = λ _. refl }; no_more = λ j. grind (arith, nat_tests) }
served_keeps n h (e ∷ q) w p = quiet_or (calm n w.at) refl (served_keeps n h q)
  where
    go : (v : Turn) → judge (wish e) n e w ≡ v → ((j : ℕ) → (w.at j).awaited ≡ false)
        → ((x : World) → PreOf n h x q → Settled n h x.at (served_world n x q))
        → Settled n h w.at (pick v (served_world n (granting e w) q) (fetching e (with_queue (e ∷ q) w)) (with_queue (e ∷ q) w))
    go gives x a ih =
        let g : Granted n h w.at (granting e w) q = grant_keeps n h e w q x p a in
        let r : Settled n h (granting e w).at (served_world n (granting e w) q) = ih (granting e w) g.pre in
        record { inv = r.inv; no_more = λ j. grind (arith, nat_tests, g.no_more j, r.no_more j) }
    go fetches x a ih = fetch_keeps n h e w q x p a
    go stays x a ih = record { inv = record { pre = p; settled = λ _. grind (arith, x) }; no_more = λ j. grind (arith, nat_tests) }

    quiet_or : (c : Bool) → calm n w.at ≡ c
        → ((x : World) → PreOf n h x q → Settled n h x.at (served_world n x q))
        → Settled n h w.at (cond c (pick (judge (wish e) n e w) (served_world n (granting e w) q) (fetching e (with_queue (e ∷ q) w)) (with_queue (e ∷ q) w)) (with_queue (e ∷ q) w))
    quiet_or true x ih = go (judge (wish e) n e w) refl (nowhere n h (λ j. (w.at j).awaited) (λ j y. (outside_free p j y).1) x) ih
    quiet_or false x ih = let o = none_false n (λ j. (w.at j).awaited) x in
        record { inv = record { pre = p; settled = λ y. never' (sym o.2 ∙ y o.0) }; no_more = λ j. grind (arith, nat_tests) }

pub serve_keeps : (n h : ℕ) (w : World) → PreOf n h w w.queue → Settled n h w.at (serve_world n w)
serve_keeps n h w p = served_keeps n h w.queue w p
