-- A house as the law over runs sees it: every station's rows and texts, page by page, and the lists of the line.
use Rattle.std.specs.Prelude.{ℕ, Bool, false, cond, not, ◌&&◌, List, [], ◌∷◌, is_ok, Result, ◌==◌, nat_lt}
use Rattle.line.specs.declared.refusal.Refusal.{Refusal}
use Rattle.line.specs.Messages.{Msg}
use Rattle.line.specs.Lists.{Lists, taken}
use Rattle.notes.specs.declared.row.Access.{Access}
use Rattle.notes.specs.Notes.{Notes}
use Rattle.steps.specs.Steps.{laid}
use Rattle.station.specs.Calls.{After, starting, ending, flushing, putting}
use Rattle.delivery.specs.Taking.{delivering}

-- rows and texts by station and page; a text is the page's bytes on the station's part of the shelf
pub record State : Type 0 where
  pub rows : ℕ → ℕ → Notes
  pub texts : ℕ → ℕ → List ℕ
  pub lists : Lists

abbrev pub state : (ℕ → ℕ → Notes) → (ℕ → ℕ → List ℕ) → Lists → State
state r t w = record { rows = r; texts = t; lists = w }

-- what stations and the line are asked to do
pub data Act : Type 0 where
  start : (station page : ℕ) → Access → Act
  end : (station page : ℕ) → Act
  flush : (station page : ℕ) → Act
  put : (station page offset : ℕ) → List ℕ → Act
  deliver : (sender receiver : ℕ) → Act

-- f with v at station s and page g
abbrev pub at : {A : Type 0} → ℕ → ℕ → A → (ℕ → ℕ → A) → ℕ → ℕ → A
at s g v f i j = cond (i == s && j == g) v (f i j)

-- whether an act is accepted, and the house after it
abbrev pub Outcome : Type 0
Outcome = Bool × State

-- the row, the text and the lists that station s is left with at page g
abbrev pub left : {A : Type 0} → ℕ → ℕ → After A → State → Outcome
left s g o x = (is_ok o.0, state (at s g o.1 x.rows) (at s g o.2 x.texts) o.3)

-- put and the lists: they stand
abbrev pub written : Result (Unit {0}) Refusal × Notes × List ℕ → Lists → After (Unit {0})
written o w = (o.0, o.1, o.2, w)

-- an accepted delivery takes its message off the line
abbrev pub dropped : (a b : ℕ) → After ℕ → After ℕ
dropped a b o = (o.0, o.1, o.2, cond (is_ok o.0) (taken a b o.3) o.3)

-- A house of n stations and p pages, by their homes, over a line with so many places.
module _ (room n p : ℕ) (home : ℕ → ℕ) where
  -- what the receiver makes of the oldest message from a to b
  abbrev pub delivered : (a b : ℕ) → List Msg → State → Outcome
  delivered a b [] x = (false, x)
  delivered a b (m ∷ _) x =
      cond (nat_lt m.page p)
      (left b m.page (dropped a b (delivering a b (home m.page) m.page room m (x.rows b m.page) (x.texts b m.page) x.lists)) x)
      (false, x)

  -- a call at station s about page g, if there are such
  abbrev pub called : (s g : ℕ) → Outcome → State → Outcome
  called s g o x = cond (nat_lt s n && nat_lt g p) o (false, x)

  abbrev pub does : Act → State → Outcome
  does (start s g a) x = called s g (left s g (starting s (home g) g room a (x.rows s g) (x.texts s g) x.lists) x) x
  does (end s g) x = called s g (left s g (ending s (home g) g room (x.rows s g) (x.texts s g) x.lists) x) x
  does (flush s g) x = called s g (left s g (flushing s (home g) g room (x.rows s g) (x.texts s g) x.lists) x) x
  does (put s g i xs) x = called s g (left s g (written (putting s (home g) g i xs (x.rows s g) (x.texts s g)) x.lists) x) x
  does (deliver a b) x = cond (nat_lt a n && (nat_lt b n && not (a == b))) (delivered a b (x.lists a b) x) (false, x)

-- the book after an act: an accepted put is laid into its page's text
abbrev pub noted : Act → Bool → (ℕ → List ℕ) → ℕ → List ℕ
noted (start s g a) ok book k = book k
noted (end s g) ok book k = book k
noted (flush s g) ok book k = book k
noted (put s g i xs) ok book k = cond (ok && k == g) (laid i xs (book k)) (book k)
noted (deliver a b) ok book k = book k
