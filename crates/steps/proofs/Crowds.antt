-- A queue in which no station stands twice has at most eight entries.
use Rattle.std.proofs.Common.{◌≡◌, ℕ, zero, suc, ◌<◌, ◌≤◌, Bool, true, false, cond, eqb, ◌⊎◌, List, [], ◌∷◌, ◌++◌, length, sym, refl, ap, ◌∙◌, arith}
use Rattle.std.proofs.lemmas.Bool.Decides.{nat_tests}
use Rattle.std.proofs.lemmas.Bool.{eqb-true, eqb-false, or_parts}
use Rattle.notes.specs.declared.row.Access.{Access}
use Rattle.notes.specs.declared.row.Access.TheVariants.{Read}
use Rattle.notes.specs.declared.queue.Entry.{Entry}
use Rattle.notes.specs.Queues.{queued}
use Rattle.steps.specs.Soundness.{Apart}

-- none stands twice, and each is below n
Below : ℕ → List Entry → Type 0
Below n [] = Unit {0}
Below n (e ∷ q) = (e.station < n) × (queued e.station q ≡ false) × Below n q

-- the queue but for station n
but : ℕ → List Entry → List Entry
but n [] = []
but n (e ∷ q) = cond (eqb e.station n) (but n q) (e ∷ but n q)

stays_out : (n k : ℕ) (q : List Entry) → queued k q ≡ false → queued k (but n q) ≡ false
unfolding but
stays_out n k [] f = refl
stays_out n k (e ∷ q) f = grind (arith, stays_out n k q)

unchanged : (n : ℕ) (q : List Entry) → queued n q ≡ false → but n q ≡ q
unfolding but
unchanged n [] f = refl
unchanged n (e ∷ q) f = grind (arith, unchanged n q)

-- one station less
lower : (n : ℕ) (q : List Entry) → Below (suc n) q → Below n (but n q) × (length q ≤ suc (length (but n q)))
unfolding Below but
lower n [] b = (tt, omega arith)
lower n (e ∷ q) b = go (eqb e.station n) refl (lower n q b.2)
  where
    go : (c : Bool) → eqb e.station n ≡ c → Below n (but n q) × (length q ≤ suc (length (but n q)))
        → Below n (cond c (but n q) (e ∷ but n q)) × (length (e ∷ q) ≤ suc (length (cond c (but n q) (e ∷ but n q))))
    go true x rest =
        let same = unchanged n q (ap (λ k. queued k q) (sym (eqb-true _ _ x)) ∙ b.1) in
        (rest.0, omega (arith, ap length same))
    go false x rest =
        let ne = eqb-false _ _ x in
        let r = rest.1 in
        ((omega (arith, b.0, ne), stays_out n e.station q b.1, rest.0), omega (arith, r))

few : (n : ℕ) (q : List Entry) → Below n q → length q ≤ n
unfolding Below
few zero [] b = omega arith
few zero (e ∷ q) b = absurd (omega (arith, b.0))
few (suc n) q b = let l = lower n q b in let h = few n (but n q) l.0 in omega (arith, h, l.1)

below : (q : List Entry) → Apart q → Below 8 q
unfolding Below
below [] a = tt
below (e ∷ q) a = (a.0, a.1, below q a.2)

pub at_most_eight : (q : List Entry) → Apart q → length q ≤ 8
at_most_eight q a = few 8 q (below q a)

-- there is a place for a station that is not in the queue
pub place_left : (q : List Entry) (s : ℕ) → Apart q → s < 8 → queued s q ≡ false → length q < 8
unfolding Below
place_left q s a lt f =
    let h = few 8 (record { station = s; access = Read } ∷ q) (lt, f, below q a) in omega (arith, h)

-- who is queued once s has joined was queued, or is s
pub last_or : (q : List Entry) (k s : ℕ) (a : Access) → queued k (q ++ record { station = s; access = a } ∷ []) ≡ true → (queued k q ≡ true) ⊎ (s ≡ k)
last_or [] k s a i = grind (arith, nat_tests)
last_or (e ∷ q) k s a i = grind (arith, last_or q k s a)

pub joins_apart : (q : List Entry) (e : Entry) → Apart q → e.station < 8 → queued e.station q ≡ false → Apart (q ++ e ∷ [])
joins_apart [] e a lt f = (lt, refl, tt)
joins_apart (x ∷ q) e a lt f =
    let p = or_parts (eqb x.station e.station) (queued e.station q) f in
    (a.0, grind (arith, nat_tests, p.0, a.1, last_or q x.station e.station e.access), joins_apart q e a.2 lt p.1)
