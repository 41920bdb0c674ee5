-- What a message needs of the receiver's row, and what it does there.
use Rattle.std.specs.Prelude.{ℕ, Bool, true, false, cond, not, ◌&&◌, ◌||◌, List, [], length, ◌==◌, Option, Some, None}
use Rattle.line.specs.declared.kind.Kind.{Kind}
use Rattle.line.specs.declared.kind.Kind.TheVariants.{SharedCopy, ExclusiveCopy, ModifyGrant, Invalidate, ReadRequest, WriteRequest, Ack, AckWithText, Flush, FlushWithText}
use Rattle.line.specs.Kinds.{bears}
use Rattle.notes.specs.declared.row.Access.{Access}
use Rattle.notes.specs.declared.row.Access.TheVariants.{Read, Write}
use Rattle.notes.specs.declared.row.CopyKind.{CopyKind}
use Rattle.notes.specs.declared.row.CopyKind.TheVariants.{Shared, Exclusive}
use Rattle.notes.specs.declared.row.Standing.{Standing}
use Rattle.notes.specs.declared.row.Standing.TheVariants.{Idle, Waiting, Open}
use Rattle.notes.specs.declared.row.Mode.{Mode}
use Rattle.notes.specs.declared.row.Mode.TheVariants.{Own, Shared as Readers, Away}
use Rattle.notes.specs.Sets.{isin}
use Rattle.notes.specs.Queues.{queued}
use Rattle.notes.specs.Notes.{Notes, notes, is_none, is_open, is_write}
use Rattle.steps.specs.Steps.{Step, step, given_back}
use Rattle.steps.specs.Serving.{serve, enqueued, returned}

abbrev pub is_shared : Option CopyKind → Bool
is_shared None = false
is_shared (Some Shared) = true
is_shared (Some Exclusive) = false

abbrev pub is_away : Mode → Bool
is_away Own = false
is_away Readers = false
is_away Away = true

abbrev pub waits_to_read : Standing → Bool
waits_to_read Idle = false
waits_to_read (Waiting a) = not (is_write a)
waits_to_read (Open a) = false

abbrev pub waits_to_write : Standing → Bool
waits_to_write Idle = false
waits_to_write (Waiting a) = is_write a
waits_to_write (Open a) = false

-- kinds 1 to 4 come from the page's home, 5 to 10 go to it
abbrev pub from_home : Kind → Bool
from_home SharedCopy = true
from_home ExclusiveCopy = true
from_home ModifyGrant = true
from_home Invalidate = true
from_home ReadRequest = false
from_home WriteRequest = false
from_home Ack = false
from_home AckWithText = false
from_home Flush = false
from_home FlushWithText = false

abbrev pub goes_right : (sender receiver home : ℕ) → Kind → Bool
goes_right a b h k = cond (from_home k) (a == h) (b == h)

-- a text is as long as the page
abbrev pub is_whole : Kind → (text page : List ℕ) → Bool
is_whole k xs t = not (bears k) || length xs == length t

-- what a kind needs of the receiver's row, from sender a
abbrev pub meets : Kind → (a : ℕ) → Notes → Bool
meets SharedCopy a r = is_none r.copy && waits_to_read r.standing
meets ExclusiveCopy a r = is_none r.copy && waits_to_write r.standing
meets ModifyGrant a r = is_shared r.copy && waits_to_write r.standing
meets Invalidate a r = not r.recall
meets ReadRequest a r = not (queued a r.home.queue) && not (isin a r.home.holders)
meets WriteRequest a r = not (queued a r.home.queue) && not (is_away r.home.mode && isin a r.home.holders)
meets Ack a r = isin a r.home.awaited
meets AckWithText a r = isin a r.home.awaited && is_away r.home.mode
meets Flush a r = isin a r.home.holders
meets FlushWithText a r = isin a r.home.holders && is_away r.home.mode

-- whether a message from a to b is one that the protocol sends; any other is strange
abbrev pub expected : (a b h : ℕ) → Kind → (text : List ℕ) → Notes → (page : List ℕ) → Bool
expected a b h k xs r t = goes_right a b h k && (is_whole k xs t && meets k a r)

-- a copy to read, or to write, is there and open
abbrev pub opened : Access → Notes → Notes
opened Read r = notes (Some Shared) r.changed r.recall (Open Read) r.home
opened Write r = notes (Some Exclusive) false r.recall (Open Write) r.home

-- INVALIDATE: nothing without a copy, a mark while the page is open, else the copy goes back
abbrev pub called : (b h g : ℕ) → Notes → List ℕ → Step
called b h g r t =
    cond (is_none r.copy) (step r t [])
    (cond (is_open r.standing) (step (notes r.copy r.changed true r.standing r.home) t [])
    (given_back b h g AckWithText Ack r t))

-- What a message with the text xs, about the page g of the home h, does at its receiver b.
abbrev pub received : (a b h g : ℕ) → Kind → (xs : List ℕ) → Notes → (t : List ℕ) → Step
received a b h g SharedCopy xs r t = step (opened Read r) xs []
received a b h g ExclusiveCopy xs r t = step (opened Write r) xs []
received a b h g ModifyGrant xs r t = step (opened Write r) t []
received a b h g Invalidate xs r t = called b h g r t
received a b h g ReadRequest xs r t = serve h g t (enqueued a Read r)
received a b h g WriteRequest xs r t = serve h g t (enqueued a Write r)
received a b h g Ack xs r t = serve h g t (returned a r)
received a b h g AckWithText xs r t = serve h g xs (returned a r)
received a b h g Flush xs r t = serve h g t (returned a r)
received a b h g FlushWithText xs r t = serve h g xs (returned a r)
