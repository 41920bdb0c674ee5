-- How the home of a page serves its queue.
use Rattle.std.specs.Prelude.{ℕ, Bool, cond, List, [], ◌∷◌, ◌++◌, map, drop, ◌==◌}
use Rattle.line.specs.declared.kind.Kind.TheVariants.{SharedCopy, ExclusiveCopy, ModifyGrant, Invalidate}
use Rattle.line.specs.Messages.{Msg, msg}
use Rattle.notes.specs.declared.row.Access.{Access}
use Rattle.notes.specs.declared.row.Access.TheVariants.{Read, Write}
use Rattle.notes.specs.declared.row.Standing.{Standing}
use Rattle.notes.specs.declared.row.Standing.TheVariants.{Open}
use Rattle.notes.specs.declared.row.Mode.{Mode}
use Rattle.notes.specs.declared.row.Mode.TheVariants.{Own, Shared, Away}
use Rattle.notes.specs.declared.queue.Entry.{Entry}
use Rattle.notes.specs.declared.set.StationSet.{StationSet}
use Rattle.notes.specs.Sets.{isin, only, joined, left, members}
use Rattle.notes.specs.Notes.{Notes, notes, HomeNotes, home_notes, is_open, is_writing}
use Rattle.steps.specs.declared.serve.Verdict.{Verdict}
use Rattle.steps.specs.declared.serve.Verdict.TheVariants.{Grant, Recall, Wait}
use Rattle.steps.specs.Steps.{Step, step}

abbrev pub set : ℕ → StationSet
set m = record { bits = m }

-- a read: called back in AWAY, else granted unless the home is writing
abbrev pub read_verdict : Mode → ℕ → Standing → Verdict
read_verdict Own hs st = cond (is_writing st) Wait Grant
read_verdict Shared hs st = cond (is_writing st) Wait Grant
read_verdict Away hs st = Recall (set hs)

-- a write: the other holders are called back, else granted unless the page is open at home
abbrev pub write_verdict : (others : ℕ) → Standing → Verdict
write_verdict others st = cond (others == 0) (cond (is_open st) Wait Grant) (Recall (set others))

-- what becomes of the first entry
abbrev pub verdict : Access → (station : ℕ) → Mode → (holders : ℕ) → Standing → Verdict
verdict Read s m hs st = read_verdict m hs st
verdict Write s m hs st = write_verdict (left hs s) st

abbrev pub mode_for : Access → Mode
mode_for Read = Shared
mode_for Write = Away

abbrev pub holders_for : Access → ℕ → ℕ → ℕ
holders_for Read hs s = joined hs s
holders_for Write hs s = only s

-- What serving leaves: how the home stands, what it notes, and what it posts, in order.
pub record Served : Type 0 where
  pub standing : Standing
  pub home : HomeNotes
  pub posts : List Msg

abbrev pub served : Standing → HomeNotes → List Msg → Served
served st d ms = record { standing = st; home = d; posts = ms }

abbrev pub after : Msg → Served → Served
after m o = served o.standing o.home (m ∷ o.posts)

abbrev pub by : Verdict → Served → (StationSet → Served) → Served → Served
by Grant granted recalled waits = granted
by (Recall set) granted recalled waits = recalled set
by Wait granted recalled waits = waits

-- INVALIDATE for the page g from its home h to each station of the set, lowest first
abbrev pub recalls : (h g set : ℕ) → List Msg
recalls h g m = map (λ k. msg h k g Invalidate []) (members m)

-- The page g with its text t at its home h.
module _ (h g : ℕ) (t : List ℕ) where
  -- the grant to station s, which may be a holder
  abbrev pub grant : Access → (s : ℕ) → Bool → Msg
  grant Read s holds = msg h s g SharedCopy t
  grant Write s holds = cond holds (msg h s g ModifyGrant []) (msg h s g ExclusiveCopy t)

  -- nothing while a station is awaited; else the first entry, and on until one is not granted
  unfoldable pub serving : Standing → Mode → (holders awaited : ℕ) → List Entry → Served
  serving st m hs aw [] = served st (home_notes m hs aw []) []
  serving st m hs aw (e ∷ q) =
      cond (aw == 0)
      (by (verdict e.access e.station m hs st)
      (cond (e.station == h) (serving (Open e.access) m hs aw q)
      (after (grant e.access e.station (isin e.station hs))
      (serving st (mode_for e.access) (holders_for e.access hs e.station) aw q)))
      (λ s. served st (home_notes m hs s.bits (e ∷ q)) (recalls h g s.bits))
      (served st (home_notes m hs aw (e ∷ q)) []))
      (served st (home_notes m hs aw (e ∷ q)) [])

  abbrev pub served_by : Standing → HomeNotes → Served
  served_by st d = serving st d.mode d.holders d.awaited d.queue

  abbrev pub serve : Notes → Step
  serve r =
      step (notes r.copy r.changed r.recall (served_by r.standing r.home).standing (served_by r.standing r.home).home) t
      (served_by r.standing r.home).posts

  -- the first entry e is granted
  abbrev pub granted : Entry → Notes → Step
  granted e r =
      cond (e.station == h)
      (step (notes r.copy r.changed r.recall (Open e.access) (home_notes r.home.mode r.home.holders r.home.awaited (drop 1 r.home.queue))) t [])
      (step
      (notes r.copy r.changed r.recall r.standing
      (home_notes (mode_for e.access) (holders_for e.access r.home.holders e.station) r.home.awaited (drop 1 r.home.queue))) t
      (grant e.access e.station (isin e.station r.home.holders) ∷ []))

-- an entry more, at the end of the queue
abbrev pub enqueued : ℕ → Access → Notes → Notes
enqueued s a r =
    notes r.copy r.changed r.recall r.standing
    (home_notes r.home.mode r.home.holders r.home.awaited (r.home.queue ++ record { station = s; access = a } ∷ []))

abbrev pub left_by : ℕ → HomeNotes → HomeNotes
left_by s d = home_notes (cond (left d.holders s == 0) Own d.mode) (left d.holders s) (left d.awaited s) d.queue

-- a copy came back from station s
abbrev pub returned : ℕ → Notes → Notes
returned s r = notes r.copy r.changed r.recall r.standing (left_by s r.home)
