-- The steps of a station away from a page's home, on its own row and on the page's text on its part of the shelf.
use Rattle.std.specs.Prelude.{◌≡◌, ℕ, ◌+◌, ◌≤◌, Bool, true, false, cond, not, ◌&&◌, List, [], ◌∷◌, ◌++◌, length, take, drop, Option, None}
use Rattle.line.specs.declared.kind.Kind.{Kind}
use Rattle.line.specs.declared.kind.Kind.TheVariants.{ReadRequest, WriteRequest, Ack, AckWithText, Flush, FlushWithText}
use Rattle.line.specs.Messages.{Msg, msg}
use Rattle.line.specs.Lists.{Lists, total, sent}
use Rattle.notes.specs.declared.row.Access.{Access}
use Rattle.notes.specs.declared.row.Access.TheVariants.{Read, Write}
use Rattle.notes.specs.declared.row.CopyKind.{CopyKind}
use Rattle.notes.specs.declared.row.Standing.{Standing}
use Rattle.notes.specs.declared.row.Standing.TheVariants.{Idle, Waiting, Open}
use Rattle.notes.specs.Notes.{Notes, notes, is_none, is_exclusive}

-- What a step leaves: the row, the page's text on the station's part of the shelf, and what it posts, in order.
pub record Step : Type 0 where
  pub notes : Notes
  pub text : List ℕ
  pub posts : List Msg

abbrev pub step : Notes → List ℕ → List Msg → Step
step r t ms = record { notes = r; text = t; posts = ms }

-- the row, the text and the lists of the line once a step is made and its messages are posted
abbrev pub done : Step → Lists → Notes × List ℕ × Lists
done o w = (o.notes, o.text, sent o.posts w)

-- n messages, and no more than sixteen, were added to those that waited
abbrev pub Counted : (before after : Lists) → ℕ → Type 0
Counted w v n = (total v ≡ total w + n) × (n ≤ 16)

abbrev pub stand : Standing → Notes → Notes
stand s r = notes r.copy r.changed r.recall s r.home

-- what a station posts to ask for a page
abbrev pub request : Access → Kind
request Read = ReadRequest
request Write = WriteRequest

-- whether a copy is enough to open the page at once
abbrev pub suffices : Access → Option CopyKind → Bool
suffices Read c = not (is_none c)
suffices Write c = is_exclusive c

-- xs laid over t from byte i on
abbrev pub laid : ℕ → List ℕ → List ℕ → List ℕ
laid i xs t = take i t ++ (xs ++ drop (length xs) (drop i t))

-- Station s, the page g, and its home h.
module _ (s h g : ℕ) where
  -- giving back: the text goes with the copy where it was changed
  abbrev pub given_back : (changed unchanged : Kind) → Notes → List ℕ → Step
  given_back k l r t =
      step (notes None false false r.standing r.home) t
      (cond (is_exclusive r.copy && r.changed) (msg s h g k t) (msg s h g l []) ∷ [])

  abbrev pub started_away : Access → Notes → List ℕ → Step
  started_away a r t =
      cond (suffices a r.copy) (step (stand (Open a) r) t [])
      (step (stand (Waiting a) r) t (msg s h g (request a) [] ∷ []))

  abbrev pub ended_away : Notes → List ℕ → Step
  ended_away r t = cond r.recall (given_back AckWithText Ack (stand Idle r) t) (step (stand Idle r) t [])

  abbrev pub flushed : Notes → List ℕ → Step
  flushed r t = given_back FlushWithText Flush r t

  abbrev pub put_away : ℕ → List ℕ → Notes → List ℕ → Step
  put_away i xs r t = step (notes r.copy true r.recall r.standing r.home) (laid i xs t) []
