-- What holds of a home's row by itself, whatever is delivered.
use Rattle.std.specs.Prelude.{◌≡◌, ℕ, ◌<◌, true, false, List, [], ◌∷◌}
use Rattle.notes.specs.declared.row.Mode.{Mode}
use Rattle.notes.specs.declared.row.Mode.TheVariants.{Own, Shared, Away}
use Rattle.notes.specs.declared.queue.Entry.{Entry}
use Rattle.notes.specs.Sets.{isin, only}
use Rattle.notes.specs.Queues.{queued}
use Rattle.notes.specs.Notes.{Notes, is_waiting}

-- the stations of the queue are below 8, and none stands twice
abbrev pub Apart : List Entry → Type 0
Apart [] = Unit {0}
Apart (e ∷ q) = (e.station < 8) × (queued e.station q ≡ false) × Apart q

-- OWN with no holder, SHARED with some, AWAY with one
abbrev pub Fitting : Mode → ℕ → Type 0
Fitting Own hs = hs ≡ 0
Fitting Shared hs = hs ≡ 0 → ⊥
Fitting Away hs = (k : ℕ) × (k < 8) × (hs ≡ only k)

-- The home h and its row: no station is queued twice, the home waits while it is queued, holders are other stations, who is
-- awaited holds a copy, and the mode tells how many hold one.
pub record Sound (h : ℕ) (r : Notes) : Type 0 where
  pub apart : Apart r.home.queue
  pub own : queued h r.home.queue ≡ true → is_waiting r.standing ≡ true
  pub away : isin h r.home.holders ≡ false
  pub within : (k : ℕ) → k < 8 → isin k r.home.awaited ≡ true → isin k r.home.holders ≡ true
  pub fitting : Fitting r.home.mode r.home.holders
