-- What each call of a station answers and does: its tests in order, each with its refusal, and then its step.
use Rattle.std.specs.Prelude.{ℕ, ◌+◌, Bool, cond, not, ◌&&◌, List, [], ◌∷◌, length, Ok, Err, Result, ◌==◌, nat_le, nat_lt}
use Rattle.line.specs.Refusals.{row_at}
use Rattle.line.specs.declared.refusal.Refusal.{Refusal}
use Rattle.line.specs.Lists.{Lists, total, sent}
use Rattle.notes.specs.declared.row.Access.{Access}
use Rattle.notes.specs.declared.row.Standing.TheVariants.{Idle, Waiting}
use Rattle.notes.specs.Notes.{Notes, is_idle, is_open, is_writing, is_none}
use Rattle.station.specs.declared.starts.Started.{Started}
use Rattle.station.specs.declared.starts.Started.TheVariants.{Opened, Waits}
use Rattle.station.specs.Refusals.{refused}
use Rattle.steps.specs.Steps.{Step, step, stand, laid, started_away, ended_away, flushed, put_away}
use Rattle.steps.specs.Serving.{serve, enqueued}

-- what is asked, in order, each with its refusal
abbrev pub Tests : Type 0
Tests = List (Bool × Refusal)

-- the first test that fails names the refusal
abbrev pub tested : {A : Type 0} → Tests → (Refusal → A) → A → A
tested [] refuse accept = accept
tested (x ∷ xs) refuse accept = cond x.0 (tested xs refuse accept) (refuse x.1)

-- an answer; and the row, the page's text there and the lists of the line after it
abbrev pub After : Type 0 → Type 0
After A = Result A Refusal × Notes × List ℕ × Lists

-- nothing changes
abbrev pub refusing : {A : Type 0} → Notes → List ℕ → Lists → Refusal → After A
refusing r t w e = (Err e, r, t, w)

-- the step is made, and its messages are posted
abbrev pub making : {A : Type 0} → (Step → A) → Lists → Step → After A
making answer w o = (Ok (answer o), o.notes, o.text, sent o.posts w)

-- how many messages were posted
abbrev pub number : Step → ℕ
number o = length o.posts

-- whether sixteen places are free
abbrev pub has_room : ℕ → Lists → Bool
has_room room w = nat_le (total w + 16) room

abbrev pub began : Step → Started
began o = cond (is_open o.notes.standing) (Opened (number o)) (Waits (number o))

-- how many messages a start posted
abbrev pub posted_by : Started → ℕ
posted_by (Opened n) = n
posted_by (Waits n) = n

-- Station s, the page g with its home h.
module _ (s h g : ℕ) where
  abbrev pub started : Access → Notes → List ℕ → Step
  started a r t = cond (s == h) (serve h g t (enqueued h a (stand (Waiting a) r))) (started_away s h g a r t)

  abbrev pub starting : ℕ → Access → Notes → List ℕ → Lists → After Started
  starting room a r t w =
      tested ((is_idle r.standing, refused 9 (row_at s g)) ∷ (has_room room w, refused 13 (row_at s g)) ∷ [])
      (refusing r t w) (making began w (started a r t))

  abbrev pub ended : Notes → List ℕ → Step
  ended r t = cond (s == h) (serve h g t (stand Idle r)) (ended_away s h g r t)

  abbrev pub ending : ℕ → Notes → List ℕ → Lists → After ℕ
  ending room r t w =
      tested ((is_open r.standing, refused 9 (row_at s g)) ∷ (has_room room w, refused 13 (row_at s g)) ∷ [])
      (refusing r t w) (making number w (ended r t))

  abbrev pub flushing : ℕ → Notes → List ℕ → Lists → After ℕ
  flushing room r t w =
      tested
      ((is_idle r.standing, refused 9 (row_at s g)) ∷ (not (s == h) && not (is_none r.copy), refused 11 (row_at s g))
      ∷ (has_room room w, refused 13 (row_at s g)) ∷ [])
      (refusing r t w) (making number w (flushed s h g r t))

  abbrev pub put : ℕ → List ℕ → Notes → List ℕ → Step
  put i xs r t = cond (s == h) (step r (laid i xs t) []) (put_away s h g i xs r t)

  -- put and look have no need of a line
  abbrev pub putting : ℕ → List ℕ → Notes → List ℕ → Result (Unit {0}) Refusal × Notes × List ℕ
  putting i xs r t =
      tested
      ((is_writing r.standing, refused 9 (row_at s g)) ∷ (nat_lt 0 (length xs) && nat_le (i + length xs) (length t), refused 10 (row_at s g)) ∷ [])
      (λ e. (Err e, r, t)) (Ok tt, (put i xs r t).notes, (put i xs r t).text)

  abbrev pub looking : Notes → List ℕ → Result (List ℕ) Refusal
  looking r t = tested ((is_open r.standing, refused 9 (row_at s g)) ∷ []) Err (Ok t)
