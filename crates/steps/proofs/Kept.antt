-- What every step keeps of the home's notes.
use Rattle.std.proofs.Common.{◌≡◌, ℕ, ◌<◌, Bool, true, false, cond, eqb, ◌⊎◌, List, ◌∷◌, drop, refl, ◌∙◌, subst, ⊎_elim, arith}
use Rattle.std.proofs.lemmas.Bool.Decides.{nat_tests}
use Rattle.std.proofs.lemmas.Bool.{ne_eqb, eqb-true, eqb-false, false_from_ne_true, both_ways}
use Rattle.notes.specs.declared.row.Access.{Access}
use Rattle.notes.specs.declared.row.Access.TheVariants.{Read, Write}
use Rattle.notes.specs.declared.row.Standing.{Standing}
use Rattle.notes.specs.declared.row.Mode.{Mode}
use Rattle.notes.specs.declared.row.Mode.TheVariants.{Own, Shared, Away}
use Rattle.notes.specs.declared.queue.Entry.{Entry}
use Rattle.notes.specs.declared.set.StationSet.{StationSet}
use Rattle.notes.specs.Sets.{isin, left}
use Rattle.notes.specs.Queues.{queued}
use Rattle.notes.specs.Notes.{Notes, is_waiting}
use Rattle.notes.proofs.Bits.{alone, joins, leaves, gone, nobody}
use Rattle.steps.specs.declared.serve.Verdict.TheVariants.{Recall}
use Rattle.steps.specs.Steps.{stand}
use Rattle.steps.specs.Serving.{verdict, mode_for, holders_for, granted, enqueued, returned}
use Rattle.steps.specs.Soundness.{Apart, Fitting, Sound}
use Rattle.steps.proofs.Crowds.{joins_apart, last_or}
use Rattle.steps.proofs.Servings.{turn, awaiting}

-- whom a recall calls
recalled : (a : Access) (s : ℕ) (m : Mode) (hs : ℕ) (st : Standing) (x : StationSet) → verdict a s m hs st ≡ Recall x
    → (x.bits ≡ hs) ⊎ (x.bits ≡ left hs s)
recalled a s m hs st x v = grind arith

-- a member of what is left is a member, and not who left
pub in_left : (k s m : ℕ) → k < 8 → s < 8 → isin k (left m s) ≡ true → (isin k m ≡ true) × (k ≡ s → ⊥)
in_left k s m lk ls e = grind (arith, nat_tests, leaves k s m lk ls)

-- the recall of an entry calls holders alone
pub recalled_held : (h : ℕ) (r : Notes) (e : Entry) (x : StationSet) → e.station < 8 → turn e r ≡ Recall x
    → (k : ℕ) → k < 8 → isin k x.bits ≡ true → isin k r.home.holders ≡ true
recalled_held h r e x lt v k lk i =
    grind (arith, in_left k e.station r.home.holders lk lt, recalled e.access e.station r.home.mode r.home.holders r.standing x v)

-- so never the home
pub recalled_away : (h : ℕ) (r : Notes) (e : Entry) (x : StationSet) → h < 8 → e.station < 8 → Sound h r → turn e r ≡ Recall x
    → isin h x.bits ≡ false
recalled_away h r e x lh lt o v = false_from_ne_true (isin h x.bits) (λ t. both_ways _ o.away (recalled_held h r e x lt v h lh t))

pub awaiting_sound : (h : ℕ) (r : Notes) (e : Entry) (x : StationSet) → e.station < 8 → Sound h r → turn e r ≡ Recall x → Sound h (awaiting x r)
awaiting_sound h r e x lt o v = record { apart = o.apart; own = o.own; away = o.away; within = recalled_held h r e x lt v; fitting = o.fitting }

module _ (h g : ℕ) (t : List ℕ) (e : Entry) (q : List Entry) (r : Notes) (lh : h < 8) (o : Sound h r)
    (first : r.home.queue ≡ e ∷ q) (calm : r.home.awaited ≡ 0) where
  -- the queue from the second entry on
  apart : (e.station < 8) × (queued e.station q ≡ false) × Apart q
  apart = subst Apart first o.apart

  pub first_in : e.station < 8
  first_in = apart.0

  rest : Apart (drop 1 r.home.queue)
  rest = rw first apart.2

  others : (a : Access) → eqb e.station h ≡ false → isin h (holders_for a r.home.holders e.station) ≡ false
  others a n = grind (arith, nat_tests, joins h e.station r.home.holders lh first_in, alone h e.station lh first_in, o.away)

  fits : (a : Access) → Fitting (mode_for a) (holders_for a r.home.holders e.station)
  fits Read = λ z. grind (arith, nat_tests, joins e.station e.station r.home.holders first_in first_in, z, nobody e.station)
  fits Write = (e.station, first_in, refl)

  -- who is queued further back was queued
  pub behind : (k : ℕ) → queued k (drop 1 r.home.queue) ≡ true → (queued k r.home.queue ≡ true) × (queued k q ≡ true)
  behind k i = grind (arith, first, i)

  pub granted_sound : Sound h (granted h g t e r).notes
  granted_sound = go (eqb e.station h) refl
    where
      go : (c : Bool) → eqb e.station h ≡ c → Sound h (granted h g t e r).notes
      go true x =
          rw x (record {
            apart = rest;
            own = λ i. grind (arith, nat_tests, behind h i, x, apart.1);
            away = o.away;
            within = o.within;
            fitting = o.fitting;
          })
      go false x =
          rw x (record {
            apart = rest;
            own = λ i. o.own (behind h i).0;
            away = others e.access x;
            within = λ k lk i. grind (arith, i, calm, nobody k);
            fitting = fits e.access;
          })

-- a station that is not queued joins the queue; the home only while it waits
pub joins_sound : (h s : ℕ) (a : Access) (r : Notes) → Sound h r → s < 8 → queued s r.home.queue ≡ false → (s ≡ h → is_waiting r.standing ≡ true)
    → Sound h (enqueued s a r)
joins_sound h s a r o lt f w =
    record {
      apart = joins_apart r.home.queue (record { station = s; access = a }) o.apart lt f;
      own = λ i. ⊎_elim o.own (λ x. w x) (last_or r.home.queue h s a i);
      away = o.away;
      within = o.within;
      fitting = o.fitting;
    }

-- a holder's copy came back
pub left_sound : (h s : ℕ) (r : Notes) → h < 8 → s < 8 → Sound h r → isin s r.home.holders ≡ true → Sound h (returned s r)
left_sound h s r lh ls o i =
    record {
      apart = o.apart;
      own = o.own;
      away = grind (arith, leaves h s r.home.holders lh ls, o.away);
      within = λ k lk j. let p = in_left k s r.home.awaited lk ls j in leaves k s r.home.holders lk ls ∙ rw (ne_eqb k s p.1) (o.within k lk p.0);
      fitting = go (eqb (left r.home.holders s) 0) refl r.home.mode o.fitting;
    }
  where
    go : (c : Bool) → eqb (left r.home.holders s) 0 ≡ c → (m : Mode) → Fitting m r.home.holders → Fitting (cond c Own m) (left r.home.holders s)
    go true x m f = eqb-true _ _ x
    go false x Own f = grind (arith, i, f, nobody s)
    go false x Shared f = eqb-false _ _ x
    go false x Away f = grind (arith, nat_tests, alone s f.0 ls f.1, f.2, i, gone s ls, x)

-- the home is not queued unless it waits
pub not_queued : (h : ℕ) (r : Notes) → Sound h r → is_waiting r.standing ≡ false → queued h r.home.queue ≡ false
not_queued h r o f = false_from_ne_true (queued h r.home.queue) (λ t. both_ways _ f (o.own t))

-- a home that is not queued may stand in any way
pub stand_sound : (h : ℕ) (r : Notes) (st : Standing) → Sound h r → queued h r.home.queue ≡ false → Sound h (stand st r)
stand_sound h r st o f =
    record { apart = o.apart; own = λ i. absurd (both_ways _ f i); away = o.away; within = o.within; fitting = o.fitting }
