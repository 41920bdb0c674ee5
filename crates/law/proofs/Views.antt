-- The page that rows, texts and lists make.
use Rattle.std.proofs.Common.{◌≡◌, ℕ, ◌<◌, ◌≤◌, Bool, true, false, cond, eqb, List, [], ◌∷◌, ◌++◌, map}
use Rattle.line.specs.declared.kind.Kind.{Kind}
use Rattle.line.specs.declared.kind.Kind.TheVariants.{SharedCopy, ExclusiveCopy, ModifyGrant, Invalidate, ReadRequest, WriteRequest, Ack, AckWithText, Flush, FlushWithText}
use Rattle.line.specs.Messages.{Msg}
use Rattle.line.specs.Lists.{Lists}
use Rattle.notes.specs.declared.row.Access.TheVariants.{Read, Write}
use Rattle.notes.specs.declared.row.Standing.{Standing}
use Rattle.notes.specs.declared.queue.Entry.{Entry}
use Rattle.notes.specs.Notes.{Notes, HomeNotes}
use Rattle.law.specs.State.{State}
use Rattle.law.proofs.Model.{Text, Down, copy, modify, invalidate, Up, wants, thin, full, Link, link, Place, mine, theirs, World, world, remote, placed, nobody}
use Rattle.law.proofs.Flags.{flag}

-- what a message means to a page, on its way to a station and on its way to the home
abbrev pub as_down : Kind → Text → List Down
as_down SharedCopy t = copy Read t ∷ []
as_down ExclusiveCopy t = copy Write t ∷ []
as_down ModifyGrant t = modify ∷ []
as_down Invalidate t = invalidate ∷ []
as_down _ t = []

abbrev pub as_up : Kind → Text → List Up
as_up ReadRequest t = wants Read ∷ []
as_up WriteRequest t = wants Write ∷ []
as_up Ack t = thin false ∷ []
as_up AckWithText t = full false t ∷ []
as_up Flush t = thin true ∷ []
as_up FlushWithText t = full true t ∷ []
as_up _ t = []

-- the messages of page g in a list
abbrev pub downs : ℕ → List Msg → List Down
downs g [] = []
downs g (m ∷ ms) = cond (eqb m.page g) (as_down m.kind m.text) [] ++ downs g ms

abbrev pub ups : ℕ → List Msg → List Up
ups g [] = []
ups g (m ∷ ms) = cond (eqb m.page g) (as_up m.kind m.text) [] ++ ups g ms

-- the queue of the home h
abbrev pub place : ℕ → Entry → Place
place h e = cond (eqb e.station h) (mine e.access) (theirs e.station e.access)

abbrev pub places : ℕ → List Entry → List Place
places h q = map (place h) q

-- a row and its lists as a link
abbrev pub linked : Bool → Bool → Notes → Text → List Down → List Up → Link
linked h a r t d u = link h a r.copy r.changed r.recall r.standing t d u

-- the links of page g with home h, but for what the home notes of them
abbrev pub links : (n h g : ℕ) → (ℕ → ℕ → Notes) → (ℕ → ℕ → Text) → Lists → ℕ → Link
links n h g r t w j = cond (remote n h j) (linked false false (r j g) (t j g) (downs g (w h j)) (ups g (w j h))) nobody

abbrev pub noted : ℕ → ℕ → (ℕ → Link) → ℕ → Link
noted hs a f j = link (flag j hs) (flag j a) (f j).copied (f j).changed (f j).recall (f j).standing (f j).text (f j).down (f j).up

-- the page by what its home notes, with its text and the book's
abbrev pub view : ℕ → Text → Text → Standing → HomeNotes → (ℕ → Link) → World
view h t b st d f = world d.mode st t b (places h d.queue) (noted d.holders d.awaited f)

abbrev pub page_of : (n h : ℕ) → Text → State → ℕ → World
page_of n h b x g = view h (x.texts h g) b (x.rows h g).standing (x.rows h g).home (links n h g x.rows x.texts x.lists)

-- what the home h notes of station s and page g
abbrev pub holds : State → (h g s : ℕ) → Bool
holds x h g s = flag s (x.rows h g).home.holders

abbrev pub awaits : State → (h g s : ℕ) → Bool
awaits x h g s = flag s (x.rows h g).home.awaited

-- what the home posts, on the links
abbrev pub add_downs : List Down → Link → Link
add_downs ds l = link l.holder l.awaited l.copied l.changed l.recall l.standing l.text (l.down ++ ds) l.up

abbrev pub post_all : List Msg → (ℕ → Link) → ℕ → Link
post_all [] f = f
post_all (m ∷ ms) f = post_all ms (placed f m.receiver (add_downs (as_down m.kind m.text) (f m.receiver)))

-- what the notes of a home always have: sets of stations away, and stations below n in the queue
abbrev pub Below : ℕ → List Entry → Type 0
Below n [] = Unit {0}
Below n (e ∷ q) = (e.station < n) × Below n q

pub record Sound (n h : ℕ) (d : HomeNotes) : Type 0 where
  pub few : n ≤ 8
  pub holders_small : d.holders < 256
  pub awaited_small : d.awaited < 256
  pub holders_away : (j : ℕ) → flag j d.holders ≡ true → remote n h j ≡ true
  pub awaited_away : (j : ℕ) → flag j d.awaited ≡ true → remote n h j ≡ true
  pub below : Below n d.queue
