-- One page as a transition system: what its home notes, a link for each station away from home (what the home notes of
-- it, its row, and the messages on their way both ways), and what each step does to them.
use Rattle.std.proofs.Common.{ℕ, zero, suc, ◌+◌, Bool, true, false, cond, not, ◌&&◌, ◌||◌, eqb, ltb, Option, Some, None, List, [], ◌∷◌, ◌++◌, length}
use Rattle.std.specs.Option.{is_some}
use Rattle.line.specs.Lists.{sum_to}
use Rattle.notes.specs.declared.row.Access.{Access}
use Rattle.notes.specs.declared.row.Access.TheVariants.{Read, Write}
use Rattle.notes.specs.declared.row.CopyKind.{CopyKind}
use Rattle.notes.specs.declared.row.CopyKind.TheVariants.{Shared, Exclusive}
use Rattle.notes.specs.declared.row.Standing.{Standing}
use Rattle.notes.specs.declared.row.Standing.TheVariants.{Idle, Waiting, Open}
use Rattle.notes.specs.declared.row.Mode.{Mode}
use Rattle.notes.specs.declared.row.Mode.TheVariants.{Own, Shared as Readers, Away}
use Rattle.notes.specs.Notes.{is_idle, is_open, is_writing, is_none, is_exclusive, is_waiting}
use Rattle.steps.specs.Steps.{suffices}
use Rattle.steps.specs.Serving.{mode_for}
use Rattle.delivery.specs.Deliveries.{is_shared, is_away, waits_to_read, waits_to_write}

abbrev pub waits_for : Access → Standing → Bool
waits_for Read s = waits_to_read s
waits_for Write s = waits_to_write s

abbrev pub Text : Type 0
Text = List ℕ

-- copy Read t is SHARED COPY, copy Write t EXCLUSIVE COPY, modify MODIFY GRANT
pub data Down : Type 0 where
  copy : Access → Text → Down
  modify : Down
  invalidate : Down

-- thin false is ACK, thin true FLUSH; full false t is ACK WITH TEXT, full true t FLUSH WITH TEXT
pub data Up : Type 0 where
  wants : Access → Up
  thin : Bool → Up
  full : Bool → Text → Up

pub record Link : Type 0 where
  pub holder : Bool
  pub awaited : Bool
  pub copied : Option CopyKind
  pub changed : Bool
  pub recall : Bool
  pub standing : Standing
  pub text : Text
  pub down : List Down
  pub up : List Up

abbrev pub link : Bool → Bool → Option CopyKind → Bool → Bool → Standing → Text → List Down → List Up → Link
link h a c g r s t d u = record { holder = h; awaited = a; copied = c; changed = g; recall = r; standing = s; text = t; down = d; up = u }

-- an entry of the queue: the home's own wish, or that of a station away
pub data Place : Type 0 where
  mine : Access → Place
  theirs : ℕ → Access → Place

pub record World : Type 0 where
  pub mode : Mode
  pub home : Standing
  pub text : Text
  pub book : Text
  pub queue : List Place
  pub at : ℕ → Link

abbrev pub world : Mode → Standing → Text → Text → List Place → (ℕ → Link) → World
world m h t b q f = record { mode = m; home = h; text = t; book = b; queue = q; at = f }

abbrev pub wish_in : ℕ → List Place → Option Access
wish_in s [] = None
wish_in s (mine w ∷ q) = wish_in s q
wish_in s (theirs k w ∷ q) = cond (eqb s k) (Some w) (wish_in s q)

abbrev pub my_wish : List Place → Option Access
my_wish [] = None
my_wish (mine w ∷ q) = Some w
my_wish (theirs k w ∷ q) = my_wish q

-- a station away from home: below n, and not the home h
abbrev pub remote : ℕ → ℕ → ℕ → Bool
remote n h s = cond (eqb s h) false (ltb s n)

abbrev pub placed : (ℕ → Link) → ℕ → Link → ℕ → Link
placed f k l j = cond (eqb j k) l (f j)

-- what a station away does to its own link
abbrev pub dirty_row : Link → Bool
dirty_row l = is_exclusive l.copied && l.changed

-- giving back: f is true for a flush
abbrev pub give_link : Bool → Link → Link
give_link f l = link l.holder l.awaited None false false l.standing l.text l.down
    (l.up ++ (cond (dirty_row l) (full f l.text) (thin f) ∷ []))

abbrev pub stand_link : Standing → Link → Link
stand_link s l = link l.holder l.awaited l.copied l.changed l.recall s l.text l.down l.up

abbrev pub ask_link : Access → Link → Link
ask_link w l = link l.holder l.awaited l.copied l.changed l.recall (Waiting w) l.text l.down (l.up ++ (wants w ∷ []))

abbrev pub started_link : Access → Link → Link
started_link w l = cond (is_idle l.standing) (cond (suffices w l.copied) (stand_link (Open w) l) (ask_link w l)) l

abbrev pub ended_link : Link → Link
ended_link l = cond (is_open l.standing) (cond l.recall (give_link false (stand_link Idle l)) (stand_link Idle l)) l

abbrev pub flushed_link : Link → Link
flushed_link l = cond (is_idle l.standing && not (is_none l.copied)) (give_link true l) l

-- a writer's new text
abbrev pub written_link : Text → Link → Link
written_link t l = link l.holder l.awaited l.copied true l.recall l.standing t l.down l.up

-- a message from home, the oldest of its list, and the needs that it has
abbrev pub fits_down : List Down → Link → Bool
fits_down [] l = true
fits_down (copy w t ∷ d) l = is_none l.copied && waits_for w l.standing
fits_down (modify ∷ d) l = is_shared l.copied && waits_for Write l.standing
fits_down (invalidate ∷ d) l = not l.recall

abbrev pub mark_link : Link → Link
mark_link l = link l.holder l.awaited l.copied l.changed true l.standing l.text l.down l.up

abbrev pub behind_link : List Down → Link → Link
behind_link d l = link l.holder l.awaited l.copied l.changed l.recall l.standing l.text d l.up

abbrev pub called_link : Link → Link
called_link l = cond (is_none l.copied) l (cond (is_open l.standing) (mark_link l) (give_link false l))

abbrev pub received_link : List Down → Link → Link
received_link [] l = l
received_link (copy Read t ∷ d) l = link l.holder l.awaited (Some Shared) l.changed l.recall (Open Read) t d l.up
received_link (copy Write t ∷ d) l = link l.holder l.awaited (Some Exclusive) false l.recall (Open Write) t d l.up
received_link (modify ∷ d) l = link l.holder l.awaited (Some Exclusive) false l.recall (Open Write) l.text d l.up
received_link (invalidate ∷ d) l = called_link (behind_link d l)

-- what the home does to a link
abbrev pub right : Access → Bool → Text → Down
right Read h t = copy Read t
right Write true t = modify
right Write false t = copy Write t

abbrev pub granted_link : Access → Text → Link → Link
granted_link w t l = link true l.awaited l.copied l.changed l.recall l.standing l.text (l.down ++ (right w l.holder t ∷ [])) l.up

abbrev pub recalled_link : Link → Link
recalled_link l = link l.holder true l.copied l.changed l.recall l.standing l.text (l.down ++ (invalidate ∷ [])) l.up

-- the rest of its list up, after a request and after a copy came back
abbrev pub heard_link : List Up → Link → Link
heard_link u l = link l.holder l.awaited l.copied l.changed l.recall l.standing l.text l.down u

abbrev pub left_link : List Up → Link → Link
left_link u l = link false false l.copied l.changed l.recall l.standing l.text l.down u

-- serving
abbrev pub other : Place → ℕ → Bool
other (theirs s Write) j = not (eqb j s)
other _ j = true

abbrev pub in_way : Place → (ℕ → Link) → ℕ → Bool
in_way e f j = (f j).holder && other e j

-- no station below n passes the test
abbrev pub none : ℕ → (ℕ → Bool) → Bool
none zero p = true
none (suc k) p = cond (p k) false (none k p)

abbrev pub clear : ℕ → Place → (ℕ → Link) → Bool
clear n e f = none n (in_way e f)

abbrev pub unheld : ℕ → (ℕ → Link) → Bool
unheld n f = none n (λ j. (f j).holder)

abbrev pub calm : ℕ → (ℕ → Link) → Bool
calm n f = none n (λ j. (f j).awaited)

abbrev pub recalling : Place → (ℕ → Link) → ℕ → Link
recalling e f j = cond (in_way e f j) (recalled_link (f j)) (f j)

pub data Turn : Type 0 where
  gives : Turn
  fetches : Turn
  stays : Turn

abbrev pub judge_read : Mode → Standing → Turn
judge_read Own h = cond (is_writing h) stays gives
judge_read Readers h = cond (is_writing h) stays gives
judge_read Away h = fetches

abbrev pub judge_write : Bool → Standing → Turn
judge_write c h = cond c (cond (is_open h) stays gives) fetches

abbrev pub wish : Place → Access
wish (mine w) = w
wish (theirs s w) = w

abbrev pub judge : Access → ℕ → Place → World → Turn
judge Read n e w = judge_read w.mode w.home
judge Write n e w = judge_write (clear n e w.at) w.home

abbrev pub granting : Place → World → World
granting (mine v) w = world w.mode (Open v) w.text w.book w.queue w.at
granting (theirs s v) w = world (mode_for v) w.home w.text w.book w.queue (placed w.at s (granted_link v w.text (w.at s)))

abbrev pub with_queue : List Place → World → World
with_queue q w = world w.mode w.home w.text w.book q w.at

abbrev pub fetching : Place → World → World
fetching e w = world w.mode w.home w.text w.book w.queue (recalling e w.at)

abbrev pub pick : Turn → World → World → World → World
pick gives a b c = a
pick fetches a b c = b
pick stays a b c = c

-- nothing while a station is awaited; else the first entry, and on until one is not granted
abbrev pub served_world : ℕ → World → List Place → World
served_world n w [] = with_queue [] w
served_world n w (e ∷ q) = cond (calm n w.at)
    (pick (judge (wish e) n e w) (served_world n (granting e w) q) (fetching e (with_queue (e ∷ q) w)) (with_queue (e ∷ q) w))
    (with_queue (e ∷ q) w)

abbrev pub serve_world : ℕ → World → World
serve_world n w = served_world n w w.queue

-- a message to the home, and its needs
abbrev pub fits_up : List Up → Mode → Option Access → Link → Bool
fits_up [] m a l = true
fits_up (wants Read ∷ u) m a l = not (is_some a) && not l.holder
fits_up (wants Write ∷ u) m a l = not (is_some a) && not (is_away m && l.holder)
fits_up (thin false ∷ u) m a l = l.awaited
fits_up (thin true ∷ u) m a l = l.holder
fits_up (full false t ∷ u) m a l = l.awaited && is_away m
fits_up (full true t ∷ u) m a l = l.holder && is_away m

abbrev pub returned_world : ℕ → ℕ → List Up → Text → World → World
returned_world n s u t w = world (cond (unheld n (placed w.at s (left_link u (w.at s)))) Own w.mode) w.home t w.book w.queue (placed w.at s (left_link u (w.at s)))

abbrev pub arrived_world : ℕ → ℕ → List Up → World → World
arrived_world n s [] w = w
arrived_world n s (wants v ∷ u) w = serve_world n (world w.mode w.home w.text w.book (w.queue ++ (theirs s v ∷ [])) (placed w.at s (heard_link u (w.at s))))
arrived_world n s (thin f ∷ u) w = serve_world n (returned_world n s u w.text w)
arrived_world n s (full f t ∷ u) w = serve_world n (returned_world n s u t w)

abbrev pub local : ℕ → Link → World → World
local s l w = world w.mode w.home w.text w.book w.queue (placed w.at s l)

abbrev pub nobody : Link
nobody = link false false None false false Idle [] [] []

-- the potential
abbrev pub one : Bool → ℕ
one true = 1
one false = 0

abbrev pub is_granted : List Down → Bool
is_granted [] = false
is_granted (copy w t ∷ d) = true
is_granted (modify ∷ d) = true
is_granted (invalidate ∷ d) = is_granted d

abbrev pub is_raised : List Down → Bool
is_raised [] = false
is_raised (copy w t ∷ d) = is_raised d
is_raised (modify ∷ d) = true
is_raised (invalidate ∷ d) = is_raised d

abbrev pub messages : Link → ℕ
messages l = length l.down + length l.up

abbrev pub potential : Link → ℕ
potential l = messages l
    + (one (is_waiting l.standing && not (is_granted l.down)) + one (is_waiting l.standing && not (is_granted l.down))
    + (one ((is_granted l.down || l.holder) && not l.awaited)
    + one (not (is_none l.copied) && (not (is_open l.standing) && not (is_raised l.down)))))

abbrev pub link_sum : ℕ → (Link → ℕ) → (ℕ → Link) → ℕ
link_sum n g f = sum_to n (λ j. g (f j))
