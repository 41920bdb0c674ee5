-- Serving with sets, a queue and messages is serving the page.
use Rattle.std.proofs.Common.{◌≡◌, ℕ, zero, suc, ◌<◌, Bool, true, false, cond, ◌&&◌, eqb, ltb, List, [], ◌∷◌, ◌++◌, map, sym, refl, ap, ◌∙◌, arith, ◌≤◌, subst}
use mathlib.Core.Path.{fun_ext}
use Rattle.std.proofs.lemmas.List.{map-append}
use Rattle.std.proofs.lemmas.Bool.Decides.{nat_tests}
use Rattle.std.proofs.lemmas.Bool.{eqb-true, le-ltb, lt-ltb, cond_both}
use Rattle.delivery.specs.Deliveries.{from_home}
use Rattle.line.specs.declared.kind.Kind.TheVariants.{Invalidate}
use Rattle.line.specs.Messages.{Msg, msg}
use Rattle.notes.specs.declared.row.Access.{Access}
use Rattle.notes.specs.declared.row.Access.TheVariants.{Read, Write}
use Rattle.notes.specs.declared.row.Standing.{Standing}
use Rattle.notes.specs.declared.row.Standing.TheVariants.{Open}
use Rattle.notes.specs.declared.row.Mode.{Mode}
use Rattle.notes.specs.declared.queue.Entry.{Entry}
use Rattle.notes.specs.Sets.{isin, left as without, members_below}
use Rattle.notes.specs.Notes.{HomeNotes, home_notes}
use Rattle.steps.specs.Serving.{mode_for}
use Rattle.notes.specs.declared.set.StationSet.{StationSet}
use Rattle.steps.specs.declared.serve.Verdict.{Verdict}
use Rattle.steps.specs.declared.serve.Verdict.TheVariants.{Grant, Recall, Wait}
use Rattle.steps.specs.Serving.{set, verdict, holders_for, Served, served, after, by, grant, recalls, serving, served_by}
use Rattle.law.proofs.Model.{Text, Down, invalidate, Link, Place, mine, theirs, World, world, remote, placed, right, granted_link, in_way, none, recalling, Turn, gives, fetches, stays, judge_read, judge_write, wish, judge, granting, with_queue, fetching, pick, served_world, serve_world}
use Rattle.law.proofs.Flags.{flag, in_range, flag_join, flag_leave, flag_only, flag_zero, joined_small, without_small, only_small, scan_empty}
use Rattle.law.proofs.Views.{place, places, noted, view, add_downs, post_all, Sound}

-- whom the first entry calls back, and what becomes of it
abbrev pub in_its_way : Access → ℕ → ℕ → ℕ
in_its_way Read hs s = hs
in_its_way Write hs s = without hs s

abbrev pub turn : Access → Mode → ℕ → Standing → ℕ → Turn
turn Read m hs st s = judge_read m st
turn Write m hs st s = judge_write (eqb (without hs s) 0) st

abbrev pub as_verdict : Turn → ℕ → Verdict
as_verdict gives w = Grant
as_verdict fetches w = Recall (set w)
as_verdict stays w = Wait

pub verdict_is : (v : Access) (s : ℕ) (m : Mode) (hs : ℕ) (st : Standing) → verdict v s m hs st ≡ as_verdict (turn v m hs st s) (in_its_way v hs s)
verdict_is v s m hs st = grind arith

abbrev pub add_one : Down → Link → Link
add_one k l = add_downs (k ∷ []) l

-- a grant on the links
post_grant : (h g : ℕ) (t : Text) (v : Access) (s : ℕ) (c : Bool) (ms : List Msg) (f : ℕ → Link)
    → post_all (grant h g t v s c ∷ ms) f ≡ post_all ms (placed f s (add_one (right v c t) (f s)))
post_grant h g t Read s c ms f = refl
post_grant h g t Write s true ms f = refl
post_grant h g t Write s false ms f = refl

-- recalls on the links, station by station
module _ (h g : ℕ) where
  abbrev call : ℕ → Msg
  call k = msg h k g Invalidate []

  posts_append : (xs ys : List ℕ) (f : ℕ → Link) → post_all (map call (xs ++ ys)) f ≡ post_all (map call ys) (post_all (map call xs) f)
  posts_append [] ys f = refl
  posts_append (x ∷ xs) ys f = posts_append xs ys (placed f x (add_one invalidate (f x)))

  abbrev called : ℕ → ℕ → (ℕ → Link) → ℕ → Link
  called m k f j = cond (ltb j k && isin j m) (add_one invalidate (f j)) (f j)

  calls_are : (m k : ℕ) (f : ℕ → Link) (j : ℕ) → post_all (map call (members_below k m)) f j ≡ called m k f j
  unfolding members_below
  calls_are m zero f j = sym (ap (λ c. cond (c && isin j m) (add_one invalidate (f j)) (f j)) (le-ltb j 0 (omega arith)))
  calls_are m (suc k) f j = ap (λ (y : ℕ → Link). y j) (posts_append (members_below k m) (cond (isin k m) (k ∷ []) []) f)
      ∙ go (isin k m) refl (eqb j k) refl (calls_are m k f)
    where
      was : ℕ → Link
      was = post_all (map call (members_below k m)) f

      go : (c : Bool) → isin k m ≡ c → (d : Bool) → eqb j k ≡ d → ((i : ℕ) → was i ≡ called m k f i)
          → post_all (map call (cond c (k ∷ []) [])) was j ≡ called m (suc k) f j
      go c e d x ih = grind (arith, nat_tests, ih, e, x)

recalls_are : (h g : ℕ) (t : Text) (m : ℕ) (f : ℕ → Link) (j : ℕ) → post_all (recalls h g m) f j ≡ cond (flag j m) (add_one invalidate (f j)) (f j)
recalls_are h g t m f j = calls_are h g m 8 f j

-- the page after serving
abbrev pub seen_by : (h g : ℕ) → Text → Text → (ℕ → Link) → Served → World
seen_by h g t b f r = view h t b r.standing r.home (post_all r.posts f)

-- the world before and after, with any queue in it
abbrev seen : Text → Text → Mode → Standing → ℕ → ℕ → List Place → (ℕ → Link) → World
seen t b m g hs a z f = world m g t b z (noted hs a f)

-- who is in the way of the first entry
way_is : (n h hs : ℕ) (a : ℕ) (f : ℕ → Link) (e : Entry) → e.station < 8 → ((i : ℕ) → flag i hs ≡ true → remote n h i ≡ true) → (v : Access) → e.access ≡ v
    → (j : ℕ) → in_way (place h e) (noted hs a f) j ≡ flag j (in_its_way v hs e.station)
way_is n h hs a f e l r v q j = grind (arith, nat_tests, flag_leave j e.station hs l, r j)

pub in_its_way_held : (v : Access) (hs s j : ℕ) → s < 8 → flag j (in_its_way v hs s) ≡ true → flag j hs ≡ true
in_its_way_held v hs s j l e = grind (arith, flag_leave j s hs l)

judge_is : (n h : ℕ) (t b : Text) (m : Mode) (g : Standing) (hs a : ℕ) (z : List Place) (f : ℕ → Link) (e : Entry) → e.station < 8 → hs < 256
    → ((i : ℕ) → flag i hs ≡ true → remote n h i ≡ true) → judge (wish (place h e)) n (place h e) (seen t b m g hs a z f) ≡ turn e.access m hs g e.station
judge_is n h t b m g hs a z f e l small r = ap (λ v. judge v n (place h e) (seen t b m g hs a z f)) (grind arith) ∙ go e.access refl
  where
    go : (v : Access) → e.access ≡ v → judge v n (place h e) (seen t b m g hs a z f) ≡ turn v m hs g e.station
    go Read x = refl
    go Write x = ap (λ c. judge_write c g)
        (ap (none n) (fun_ext (way_is n h hs a f e l r Write x))
        ∙ scan_empty n h (without hs e.station) (without_small hs e.station small) (λ j y. r j (in_its_way_held Write hs e.station j l y)))

-- a recall
fetch_is : (n h g : ℕ) (u : Text) (hs a : ℕ) (f : ℕ → Link) (e : Entry) → e.station < 8 → a ≡ 0 → ((i : ℕ) → flag i hs ≡ true → remote n h i ≡ true)
    → (j : ℕ) → recalling (place h e) (noted hs a f) j ≡ noted hs (in_its_way e.access hs e.station) (post_all (recalls h g (in_its_way e.access hs e.station)) f) j
fetch_is n h g u hs a f e l none_yet r j =
    grind (arith, way_is n h hs a f e l r e.access refl j, recalls_are h g u (in_its_way e.access hs e.station) f j, none_yet, flag_zero j)

-- a grant to a station away
others_after : (v : Access) (m : Mode) (g : Standing) (hs s j : ℕ) → s < 8 → turn v m hs g s ≡ gives → eqb j s ≡ false → flag j hs ≡ flag j (holders_for v hs s)
others_after v m g hs s j l x e = grind (arith, nat_tests, flag_join j s hs l, flag_only j s l, flag_leave j s hs l, flag_zero j)

grant_is : (t : Text) (v : Access) (m : Mode) (g : Standing) (hs a s : ℕ) (f : ℕ → Link) → s < 8 → turn v m hs g s ≡ gives
    → (j : ℕ) → placed (noted hs a f) s (granted_link v t (noted hs a f s)) j ≡ noted (holders_for v hs s) a (placed f s (add_one (right v (isin s hs) t) (f s))) j
grant_is t v m g hs a s f l x j = grind (arith, nat_tests, flag_join j s hs l, flag_only j s l, others_after v m g hs s j l x, in_range s hs l)

pub small_after : (v : Access) (hs s : ℕ) → hs < 256 → s < 8 → holders_for v hs s < 256
small_after v hs s a b = grind (arith, joined_small hs s a b, only_small s b)

pub away_after : (n h : ℕ) (v : Access) (m : Mode) (g : Standing) (hs s : ℕ) → s < 8 → s < n → eqb s h ≡ false → turn v m hs g s ≡ gives
    → ((i : ℕ) → flag i hs ≡ true → remote n h i ≡ true) → (j : ℕ) → flag j (holders_for v hs s) ≡ true → remote n h j ≡ true
away_after n h v m g hs s l ln eh x r j y = grind (arith, nat_tests, others_after v m g hs s j l x, r j)

-- messages from the home h about page g to stations away
abbrev pub Outward : (n h g : ℕ) → List Msg → Type 0
Outward n h g [] = Unit {0}
Outward n h g (m ∷ ms) = (m.sender ≡ h) × (m.page ≡ g) × (remote n h m.receiver ≡ true) × (from_home m.kind ≡ true) × Outward n h g ms

outward_append : (n h g : ℕ) (xs ys : List Msg) → Outward n h g xs → Outward n h g ys → Outward n h g (xs ++ ys)
outward_append n h g [] ys a q = q
outward_append n h g (x ∷ xs) ys a q = (a.0, a.1, a.2, a.3, outward_append n h g xs ys a.4 q)

-- the stations of a set that are called
recalls_out : (n h g m k : ℕ) → k ≤ 8 → ((j : ℕ) → flag j m ≡ true → remote n h j ≡ true) → Outward n h g (map (call h g) (members_below k m))
unfolding members_below
recalls_out n h g m zero l f = tt
recalls_out n h g m (suc k) l f = rw (map-append (call h g) (members_below k m) (cond (isin k m) (k ∷ []) []))
    (outward_append n h g _ (map (call h g) (cond (isin k m) (k ∷ []) [])) (recalls_out n h g m k (omega (arith, l)) f)
    (cond_both (isin k m) (k ∷ []) [] (λ ks. Outward n h g (map (call h g) ks)) (λ e. (refl, refl, f k (in_range k m (omega (arith, l)) ∙ e), refl, tt)) (λ _. tt)))

grant_out : (n h g : ℕ) (t : Text) (v : Access) (s : ℕ) (c : Bool) (ms : List Msg) → remote n h s ≡ true → Outward n h g ms → Outward n h g (grant h g t v s c ∷ ms)
grant_out n h g t Read s c ms r o = (refl, refl, r, refl, o)
grant_out n h g t Write s true ms r o = (refl, refl, r, refl, o)
grant_out n h g t Write s false ms r o = (refl, refl, r, refl, o)

-- what serving leaves: the page after serving, small sets, and messages to stations away
pub record Serving (n h g : ℕ) (t b : Text) (f : ℕ → Link) (w : World) (r : Served) : Type 0 where
  pub same : w ≡ seen_by h g t b f r
  pub holders : r.home.holders < 256
  pub awaited : r.home.awaited < 256
  pub out : Outward n h g r.posts

served_is : (n h g : ℕ) (t b : Text) (q : List Entry) (st : Standing) (m : Mode) (hs a : ℕ) (z : List Place) (f : ℕ → Link) → Sound n h (home_notes m hs a q)
    → Serving n h g t b f (served_world n (seen t b m st hs a z f) (places h q)) (serving h g t st m hs a q)
unfolding serving
served_is n h g t b [] st m hs a z f o = record { same = refl; holders = o.holders_small; awaited = o.awaited_small; out = tt }
served_is n h g t b (e ∷ q) st m hs a z f o =
    subst (λ (x : World). Serving n h g t b f x (serving h g t st m hs a (e ∷ q)))
    (sym (ap (λ c. cond c (pick (judge (wish (place h e)) n (place h e) w) (served_world n (granting (place h e) w) (places h q)) B C) C) (scan_empty n h a o.awaited_small o.awaited_away)
    ∙ ap (λ d. cond (eqb a 0) (pick d (served_world n (granting (place h e) w) (places h q)) B C) C) (judge_is n h t b m st hs a z f e l o.holders_small o.holders_away)))
    (subst (λ (d : Verdict). Serving n h g t b f (cond (eqb a 0) (pick V (served_world n (granting (place h e) w) (places h q)) B C) C) (cond (eqb a 0) (by d (cond (eqb e.station h) X Y) F S) S))
    (sym (verdict_is e.access e.station m hs st))
    (go (eqb a 0) refl V refl (eqb e.station h) refl (served_is n h g t b q)))
  where
    l : e.station < 8
    l = let x = o.below.0 in let y = o.few in omega (arith, x, y)

    w : World
    w = seen t b m st hs a z f

    B : World
    B = fetching (place h e) (with_queue (places h (e ∷ q)) w)

    C : World
    C = with_queue (places h (e ∷ q)) w

    X : Served
    X = serving h g t (Open e.access) m hs a q

    Z : Served
    Z = serving h g t st (mode_for e.access) (holders_for e.access hs e.station) a q

    Y : Served
    Y = after (grant h g t e.access e.station (isin e.station hs)) Z

    F : StationSet → Served
    F = λ s. served st (home_notes m hs s.bits (e ∷ q)) (recalls h g s.bits)

    S : Served
    S = served st (home_notes m hs a (e ∷ q)) []

    V : Turn
    V = turn e.access m hs st e.station

    way : ℕ
    way = in_its_way e.access hs e.station

    go : (c : Bool) → eqb a 0 ≡ c → (d : Turn) → turn e.access m hs st e.station ≡ d → (k : Bool) → eqb e.station h ≡ k
        → ((st : Standing) (m : Mode) (hs a : ℕ) (z : List Place) (f : ℕ → Link) → Sound n h (home_notes m hs a q)
        → Serving n h g t b f (served_world n (seen t b m st hs a z f) (places h q)) (serving h g t st m hs a q))
        → Serving n h g t b f (cond c (pick d (served_world n (granting (cond k (mine e.access) (theirs e.station e.access)) w) (places h q)) B C) C)
        (cond c (by (as_verdict d way) (cond k X Y) F S) S)
    go true y gives v true x ih = ih (Open e.access) m hs a z f (record { few = o.few; holders_small = o.holders_small; awaited_small = o.awaited_small; holders_away = o.holders_away; awaited_away = o.awaited_away; below = o.below.1 })
    go true y gives v false x ih =
        let r = ih st (mode_for e.access) (holders_for e.access hs e.station) a z (placed f e.station (add_one (right e.access (isin e.station hs) t) (f e.station)))
        (record {
          few = o.few;
          holders_small = small_after e.access hs e.station o.holders_small l;
          awaited_small = o.awaited_small;
          holders_away = away_after n h e.access m st hs e.station l o.below.0 x v o.holders_away;
          awaited_away = o.awaited_away;
          below = o.below.1;
        }) in
        record {
          same = ap (λ (k : ℕ → Link). served_world n (world (mode_for e.access) st t b z k) (places h q)) (fun_ext (grant_is t e.access m st hs a e.station f l v))
              ∙ r.same ∙ sym (ap (view h t b Y.standing Y.home) (post_grant h g t e.access e.station (isin e.station hs) Z.posts f));
          holders = r.holders;
          awaited = r.awaited;
          out = grant_out n h g t e.access e.station (isin e.station hs) Z.posts (rw x (lt-ltb e.station n o.below.0)) r.out;
        }
    go true y fetches v k x ih = record {
      same = ap (λ (k : ℕ → Link). world m st t b (places h (e ∷ q)) k) (fun_ext (fetch_is n h g t hs a f e l (eqb-true a 0 y) o.holders_away));
      holders = o.holders_small;
      awaited = grind (arith, without_small hs e.station o.holders_small);
      out = recalls_out n h g way 8 (omega arith) (λ j y. o.holders_away j (in_its_way_held e.access hs e.station j l y));
    }
    go true y stays v k x ih = record { same = refl; holders = o.holders_small; awaited = o.awaited_small; out = tt }
    go false y d v k x ih = record { same = refl; holders = o.holders_small; awaited = o.awaited_small; out = tt }

-- serving is serving the page
pub serve_is : (n h g : ℕ) (t b : Text) (st : Standing) (d : HomeNotes) (f : ℕ → Link) → Sound n h d
    → Serving n h g t b f (serve_world n (view h t b st d f)) (served_by h g t st d)
serve_is n h g t b st d f o = served_is n h g t b d.queue st d.mode d.holders d.awaited (places h d.queue) f o
