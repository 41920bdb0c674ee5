-- Serving, one entry at a time.
use Rattle.std.proofs.Common.{◌≡◌, ℕ, zero, suc, ◌+◌, ◌≤◌, cond, List, [], ◌∷◌, length, refl, arith, length-append}
use lib.ListN.{length-map}
use Rattle.std.proofs.lemmas.Bool.Decides.{nat_tests}
use Rattle.std.proofs.lemmas.Bool.{ne_eqb}
use Rattle.line.specs.Lists.{Lists, total, sent}
use Rattle.notes.specs.declared.row.Standing.{Standing}
use Rattle.notes.specs.declared.row.Standing.TheVariants.{Open}
use Rattle.notes.specs.declared.row.Mode.{Mode}
use Rattle.notes.specs.declared.queue.Entry.{Entry}
use Rattle.notes.specs.declared.set.StationSet.{StationSet}
use Rattle.notes.specs.Sets.{isin, members_below, members}
use Rattle.notes.specs.Notes.{Notes, notes, home_notes}
use Rattle.steps.specs.declared.serve.Verdict.{Verdict}
use Rattle.steps.specs.declared.serve.Verdict.TheVariants.{Grant, Recall, Wait}
use Rattle.steps.specs.Steps.{step, done}
use Rattle.steps.specs.Soundness.{Sound}
use Rattle.steps.specs.Serving.{verdict, recalls, mode_for, holders_for, serving, serve, granted}

-- what becomes of the entry e
abbrev pub turn : Entry → Notes → Verdict
turn e r = verdict e.access e.station r.home.mode r.home.holders r.standing

-- the stations s are awaited
abbrev pub awaiting : StationSet → Notes → Notes
awaiting s r = notes r.copy r.changed r.recall r.standing (home_notes r.home.mode r.home.holders s.bits r.home.queue)

module _ (h g : ℕ) (t : List ℕ) (r : Notes) where
  -- nothing is done
  pub serve_waits : (r.home.awaited ≡ 0 → ⊥) → serve h g t r ≡ step r t []
  unfolding serving
  serve_waits ne = go r.home.queue refl
    where
      go : (q : List Entry) → r.home.queue ≡ q → serve h g t r ≡ step r t []
      go [] e = rw e
      go (x ∷ q) e = rw (e, ne_eqb r.home.awaited 0 ne)

  pub serve_none : r.home.queue ≡ [] → serve h g t r ≡ step r t []
  unfolding serving
  serve_none e = rw e

  module _ (e : Entry) (q : List Entry) (first : r.home.queue ≡ e ∷ q) (calm : r.home.awaited ≡ 0) where
    pub serve_stays : turn e r ≡ Wait → serve h g t r ≡ step r t []
    unfolding serving
    serve_stays v = rw (first, calm, v)

    pub serve_recalls : (s : StationSet) → turn e r ≡ Recall s → serve h g t r ≡ step (awaiting s r) t (recalls h g s.bits)
    unfolding serving
    serve_recalls s v = rw (first, calm, v)

    -- the entry is granted, and the rest is served after it
    pub serve_grants : (w : Lists) → turn e r ≡ Grant
        → (done (serve h g t r) w ≡ done (serve h g t (granted h g t e r).notes) (sent (granted h g t e r).posts w))
        × (length (serve h g t r).posts ≡ length (granted h g t e r).posts + length (serve h g t (granted h g t e r).notes).posts)
    unfolding serving
    serve_grants w v = grind (arith, nat_tests, first, calm, v)

-- a set has at most eight members
within : (n m : ℕ) → length (members_below n m) ≤ n
unfolding members_below
within zero m = omega arith
within (suc n) m = grind (arith, within n m, length-append (members_below n m) (cond (isin n m) (n ∷ []) []))

pub few_recalls : (h g m : ℕ) → length (recalls h g m) ≤ 8
few_recalls h g m = rw (length-map (members m) _) (within 8 m)

-- one serving posts at most a message for each entry, and eight
few_served : (h g : ℕ) (t : List ℕ) (st : Standing) (m : Mode) (hs aw : ℕ) (q : List Entry) → length (serving h g t st m hs aw q).posts ≤ length q + 8
unfolding serving
few_served h g t st m hs aw [] = omega arith
few_served h g t st m hs aw (e ∷ q) =
    grind (arith, few_recalls h g, few_served h g t (Open e.access) m hs aw q, few_served h g t st (mode_for e.access) (holders_for e.access hs e.station) aw q)

pub few_posts : (h g : ℕ) (t : List ℕ) (r : Notes) → length r.home.queue ≤ 8 → length (serve h g t r).posts ≤ 16
few_posts h g t r le = let f = few_served h g t r.standing r.home.mode r.home.holders r.home.awaited r.home.queue in omega (arith, f, le)

-- Serving from r0 with the lists w0 has come to r with the lists w, and n messages were posted.
pub record Going (h g : ℕ) (t : List ℕ) (room : ℕ) (r0 : Notes) (w0 : Lists) (r : Notes) (w : Lists) (n : ℕ) : Type 0 where
  pub same : done (serve h g t r) w ≡ done (serve h g t r0) w0
  pub count : n + length (serve h g t r).posts ≡ length (serve h g t r0).posts
  pub added : total w ≡ total w0 + n
  pub free : total w + length (serve h g t r).posts ≤ room
  pub few : length (serve h g t r0).posts ≤ 16
  pub sound : Sound h r
