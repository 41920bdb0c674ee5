-- The law of one page: what its invariant gives.
use Rattle.std.proofs.Common.{◌≡◌, ℕ, ◌-◌, ◌*◌, ◌<◌, ◌≤◌, Bool, true, false, cond, eqb, ltb, refl, ap, arith, length}
use Rattle.std.proofs.lemmas.Bool.Decides.{nat_tests}
use Rattle.std.proofs.lemmas.Bool.{ltb-true, ltb-false}
use Rattle.delivery.specs.Deliveries.{is_away}
use Rattle.notes.specs.declared.row.Standing.{Standing}
use Rattle.notes.specs.Notes.{is_open, is_writing, is_waiting}
use Rattle.law.proofs.Sums.{sum_le, sum_lt, sum_part, sum_bound_but}
use Rattle.law.proofs.Model.{Text, Link, World, remote, placed, received_link, calm, arrived_world, messages, potential, link_sum}
use Rattle.law.proofs.Phases.{receives, hears}
use Rattle.law.proofs.Facts.{holder_mode, clean, writes_away, still_queued, still_open, at_most_five, open_holds}
use Rattle.law.proofs.Desks.{eqb_same, none_false, is_empty, PreOf, Inv}
use Rattle.law.proofs.Serves.{outside_free, remote_lt, nowhere}
use Rattle.law.proofs.Moves.{Kept, arrives}

-- a delivery to the station
pub falls_down : (n h : ℕ) (w : World) (s : ℕ) → Inv n h w → remote n h s ≡ true → ltb 0 (length (w.at s).down) ≡ true
    → link_sum n potential (placed w.at s (received_link (w.at s).down (w.at s))) < link_sum n potential w.at
falls_down n h w s i r e = sum_lt n (λ j. potential (placed w.at s k j)) (λ j. potential (w.at j)) s (remote_lt n h s r)
    (λ j x. grind (arith, x))
    (grind (arith, nat_tests, (receives (i.pre.links s)).falls e))
  where
    k : Link
    k = received_link (w.at s).down (w.at s)

-- a delivery to the home
pub arrival : (n h : ℕ) (w : World) (s : ℕ) → Inv n h w → remote n h s ≡ true → ltb 0 (length (w.at s).up) ≡ true → Kept n h w.at s (arrived_world n s (w.at s).up w)
arrival n h w s i r e = arrives n h w s (w.at s).up r i (hears (i.pre.links s)) e

pub falls_up : (n h : ℕ) (w : World) (s : ℕ) → Inv n h w → remote n h s ≡ true → ltb 0 (length (w.at s).up) ≡ true
    → link_sum n potential (arrived_world n s (w.at s).up w).at < link_sum n potential w.at
falls_up n h w s i r e = sum_lt n (λ j. potential (after.at j)) (λ j. potential (w.at j)) s (remote_lt n h s r)
    (λ j x. ltb-false (potential (w.at j)) (potential (after.at j)) (v.others j x))
    (ltb-true (potential (after.at s)) (potential (w.at s)) v.here)
  where
    after : World
    after = arrived_world n s (w.at s).up w

    v : Kept n h w.at s after
    v = arrival n h w s i r e

-- how a station stands, the home or one away, and its text
abbrev pub stands_at : ℕ → World → ℕ → Standing
stands_at h w s = cond (eqb s h) w.home (w.at s).standing

abbrev pub text_at : ℕ → World → ℕ → Text
text_at h w s = cond (eqb s h) w.text (w.at s).text

-- exclusion
pub alone_all : (n h : ℕ) (w : World) → Inv n h w → (i j : ℕ) → is_writing (stands_at h w i) ≡ true → is_open (stands_at h w j) ≡ true → i ≡ j
alone_all n h w v i j x y =
    let p : PreOf n h w w.queue = v.pre in
    let opened = λ (z : is_open (w.at j).standing ≡ true). (open_holds (p.links j) z).0 in
    grind (arith, nat_tests, p.home_writes, p.home_open, holder_mode (p.links j), writes_away (p.links i), opened, λ (a : is_away w.mode ≡ true). p.single a i j)

pub fresh_all : (n h : ℕ) (w : World) → Inv n h w → (s : ℕ) → is_open (stands_at h w s) ≡ true → text_at h w s ≡ w.book
fresh_all n h w v s x =
    let p : PreOf n h w w.queue = v.pre in
    let at_home = λ (z : is_open w.home ≡ true). p.fresh (λ j. clean (p.links j) (p.home_open z)) in
    let away = λ (z : is_open (w.at s).standing ≡ true). (open_holds (p.links s) z).1 in
    grind (arith, at_home, away)

-- nobody waits for nothing
pub waits_all : (n h : ℕ) (w : World) → Inv n h w → link_sum n messages w.at ≡ 0 → (s : ℕ) → h < n → is_waiting (stands_at h w s) ≡ true
    → (j : ℕ) × (j < n) × (j ≡ s → ⊥) × (is_open (stands_at h w j) ≡ true)
waits_all n h w v nil s hn x = go (calm n w.at) refl
  where
    p : PreOf n h w w.queue
    p = v.pre

    still : (j : ℕ) → eqb (messages (w.at j)) 0 ≡ true
    still j = grind (arith, nat_tests, nil, sum_part n (λ k. messages (w.at k)) j, remote_lt n h j, λ (y : remote n h j ≡ false). ap messages (p.outside j y).0)

    differs : (j : ℕ) → is_open (stands_at h w j) ≡ true → j ≡ s → ⊥
    differs j o e = grind (arith, nat_tests, o, e, x)

    there : (j : ℕ) → (w.at j).awaited ≡ true → is_open (stands_at h w j) ≡ true
    there j a = grind (arith, nat_tests, outside_free p j, still_open (p.links j) (still j) a)

    lined_up : is_empty w.queue ≡ false
    lined_up = grind (arith, nat_tests, p.own_wish, still_queued (p.links s) (still s), x)

    at_home : is_open w.home ≡ true → is_open (stands_at h w h) ≡ true
    at_home o = grind (arith, nat_tests)

    go : (c : Bool) → calm n w.at ≡ c → (j : ℕ) × (j < n) × (j ≡ s → ⊥) × (is_open (stands_at h w j) ≡ true)
    go true e =
        let settled = v.settled (nowhere n h (λ j. (w.at j).awaited) (λ j y. (outside_free p j y).1) e) in
        let o : is_open w.home ≡ true = grind (arith, settled, lined_up) in
        (h, hn, differs h (at_home o), at_home o)
    go false e =
        let o = none_false n (λ j. (w.at j).awaited) e in
        let y = there o.0 o.2 in
        (o.0, o.1, differs o.0 y, y)

-- at most five for each station away, and at least the messages
pub bounded : (n h : ℕ) (w : World) → Inv n h w → h < n → link_sum n potential w.at ≤ 5 * (n - 1)
bounded n h w v l =
    sum_bound_but n h (λ j. potential (w.at j)) (λ s. ltb-false 5 (potential (w.at s)) (at_most_five (v.pre.links s))) (ap potential (v.pre.outside h (rw (eqb_same h))).0) l

pub enough : (n : ℕ) (w : World) → link_sum n messages w.at ≤ link_sum n potential w.at
enough n w = sum_le n (λ j. messages (w.at j)) (λ j. potential (w.at j)) (λ j l. omega arith)
