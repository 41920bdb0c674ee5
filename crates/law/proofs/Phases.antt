-- The phases of a link: where its copy is, what is asked for and what is on its way; and each move of one link.
use Rattle.std.proofs.Common.{◌≡◌, Bool, true, false, ◌||◌, ltb, Some, None, List, [], ◌∷◌, refl, Option, length, arith}
use Rattle.std.proofs.lemmas.Bool.{false≢true, true≢false}
use Rattle.notes.specs.declared.row.Access.{Access}
use Rattle.notes.specs.declared.row.Access.TheVariants.{Read, Write}
use Rattle.notes.specs.declared.row.CopyKind.TheVariants.{Shared, Exclusive}
use Rattle.notes.specs.declared.row.Standing.{Standing}
use Rattle.notes.specs.declared.row.Standing.TheVariants.{Idle, Waiting, Open}
use Rattle.notes.specs.declared.row.Mode.{Mode}
use Rattle.notes.specs.declared.row.Mode.TheVariants.{Shared as Readers, Away}
use Rattle.notes.specs.Notes.{is_writing}
use Rattle.steps.specs.Serving.{mode_for}
use Rattle.law.proofs.Model.{Text, Down, copy, modify, invalidate, Up, wants, thin, full, Link, link, dirty_row, started_link, ended_link, flushed_link, written_link, fits_down, received_link, granted_link, recalled_link, heard_link, left_link, fits_up, potential}

-- a stale INVALIDATE before the rest, a live one after it
abbrev pub stale : Bool → List Down → List Down
stale true d = invalidate ∷ d
stale false d = d

abbrev pub live : Bool → List Down
live true = invalidate ∷ []
live false = []

-- how a copy that goes back stands to the home's recall
pub data Way : Type 0 where
  answer : Way
  alone : Way
  crossing : Way
  crossed : Way

abbrev pub by_flush : Way → Bool
by_flush answer = false
by_flush _ = true

abbrev pub called_back : Way → Bool
called_back alone = false
called_back _ = true

abbrev pub after_way : Way → List Down
after_way crossing = invalidate ∷ []
after_way _ = []

abbrev pub then_stands : Option Access → Standing
then_stands None = Idle
then_stands (Some w) = Waiting w

abbrev pub then_asks : Option Access → List Up
then_asks None = []
then_asks (Some w) = wants w ∷ []

abbrev pub held_mode : Bool → Mode
held_mode true = Away
held_mode false = Readers

-- b is the book's text; m the mode, q what the queue has of the station
pub data Phase (b : Text) : Mode → Option Access → Link → Type 0 where
  -- the copy is nowhere
  quiet : {m : Mode} {t : Text} (x : Bool) → Phase b m None (link false false None false false Idle t (stale x []) [])
  asking : {m : Mode} {t : Text} (x : Bool) (w : Access) → Phase b m None (link false false None false false (Waiting w) t (stale x []) (wants w ∷ []))
  queueing : {m : Mode} {t : Text} (x : Bool) (w : Access) → Phase b m (Some w) (link false false None false false (Waiting w) t (stale x []) [])
  -- on its way to the station
  coming : {t : Text} (x : Bool) (w : Access) (a : Bool) → Phase b (mode_for w) None (link true a None false false (Waiting w) t (stale x (copy w b ∷ live a)) [])
  raising : (a : Bool) → Phase b Away None (link true a (Some Shared) false false (Waiting Write) b (modify ∷ live a) [])
  -- held shared
  resting : (a : Bool) → Phase b Readers None (link true a (Some Shared) false false Idle b (live a) [])
  reading : (a : Bool) → Phase b Readers None (link true a (Some Shared) false false (Open Read) b (live a) [])
  marked : Phase b Readers None (link true true (Some Shared) false true (Open Read) b [] [])
  wishing : (a : Bool) → Phase b Readers None (link true a (Some Shared) false false (Waiting Write) b (live a) (wants Write ∷ []))
  lined : (a : Bool) → Phase b Readers (Some Write) (link true a (Some Shared) false false (Waiting Write) b (live a) [])
  -- held exclusive
  owning : (a g : Bool) → Phase b Away None (link true a (Some Exclusive) g false Idle b (live a) [])
  busy : (a g : Bool) (w : Access) → Phase b Away None (link true a (Some Exclusive) g false (Open w) b (live a) [])
  called : (g : Bool) (w : Access) → Phase b Away None (link true true (Some Exclusive) g true (Open w) b [] [])
  -- on its way back
  back_thin : {t : Text} (o : Bool) (y : Way) (q : Option Access) → Phase b (held_mode o) None (link true (called_back y) None false false (then_stands q) t (after_way y) (thin (by_flush y) ∷ then_asks q))
  back_full : {t : Text} (y : Way) (q : Option Access) → Phase b Away None (link true (called_back y) None false false (then_stands q) t (after_way y) (full (by_flush y) b ∷ then_asks q))
  late : {t : Text} → Phase b Readers None (link true true None false false (Waiting Write) t [] (wants Write ∷ thin false ∷ []))
  late_lined : {t : Text} → Phase b Readers (Some Write) (link true true None false false (Waiting Write) t [] (thin false ∷ []))

abbrev pub any_full : List Up → Bool
any_full [] = false
any_full (wants w ∷ u) = any_full u
any_full (thin f ∷ u) = any_full u
any_full (full f t ∷ u) = true

-- the home's text may be old
abbrev pub dirty : Link → Bool
dirty l = dirty_row l || any_full l.up

-- what a station away does to its own link
pub record Tame (b : Text) (m : Mode) (q : Option Access) (l k : Link) : Type 0 where
  pub phase : Phase b m q k
  pub holder : k.holder ≡ l.holder
  pub awaited : k.awaited ≡ l.awaited
  pub dirty : dirty k ≡ dirty l

abbrev tame : {b : Text} {m : Mode} {q : Option Access} {l k : Link} → Phase b m q k → k.holder ≡ l.holder → k.awaited ≡ l.awaited → dirty k ≡ dirty l → Tame b m q l k
tame p e f g = record { phase = p; holder = e; awaited = f; dirty = g }

pub tame_ended : {b : Text} {m : Mode} {q : Option Access} {l : Link} → Phase b m q l → Tame b m q l (ended_link l)
tame_ended (reading a) = tame (resting a) refl refl refl
tame_ended marked = tame (back_thin false answer None) refl refl refl
tame_ended (busy a g w) = tame (owning a g) refl refl refl
tame_ended (called true w) = tame (back_full answer None) refl refl refl
tame_ended (called false w) = tame (back_thin true answer None) refl refl refl
tame_ended (back_thin o y None) = tame (back_thin o y None) refl refl refl
tame_ended (back_full y None) = tame (back_full y None) refl refl refl
tame_ended p = tame p refl refl refl

pub never : {A : Type 0} → false ≡ true → A
never e = absurd (false≢true e)

pub never' : {A : Type 0} → true ≡ false → A
never' e = absurd (true≢false e)

pub tame_started : (v : Access) {b : Text} {m : Mode} {q : Option Access} {l : Link} → Phase b m q l → Tame b m q l (started_link v l)
tame_started Read (quiet x) = tame (asking x Read) refl refl refl
tame_started Write (quiet x) = tame (asking x Write) refl refl refl
tame_started Read (resting a) = tame (reading a) refl refl refl
tame_started Write (resting a) = tame (wishing a) refl refl refl
tame_started v (owning a g) = tame (busy a g v) refl refl refl
tame_started v (back_thin o y None) = tame (back_thin o y (Some v)) refl refl refl
tame_started v (back_full y None) = tame (back_full y (Some v)) refl refl refl
tame_started v p = tame p refl refl refl

pub tame_flushed : {b : Text} {m : Mode} {q : Option Access} {l : Link} → Phase b m q l → Tame b m q l (flushed_link l)
tame_flushed (resting false) = tame (back_thin false alone None) refl refl refl
tame_flushed (resting true) = tame (back_thin false crossing None) refl refl refl
tame_flushed (owning false false) = tame (back_thin true alone None) refl refl refl
tame_flushed (owning true false) = tame (back_thin true crossing None) refl refl refl
tame_flushed (owning false true) = tame (back_full alone None) refl refl refl
tame_flushed (owning true true) = tame (back_full crossing None) refl refl refl
tame_flushed (back_thin o y None) = tame (back_thin o y None) refl refl refl
tame_flushed (back_full y None) = tame (back_full y None) refl refl refl
tame_flushed p = tame p refl refl refl

-- a delivery to the station
pub record Received (b : Text) (m : Mode) (q : Option Access) (l : Link) : Type 0 where
  pub fits : fits_down l.down l ≡ true
  pub tamed : Tame b m q l (received_link l.down l)
  pub falls : ltb 0 (length l.down) ≡ true → ltb (potential (received_link l.down l)) (potential l) ≡ true

abbrev got : {b : Text} {m : Mode} {q : Option Access} {l : Link} → fits_down l.down l ≡ true → Tame b m q l (received_link l.down l)
    → (ltb 0 (length l.down) ≡ true → ltb (potential (received_link l.down l)) (potential l) ≡ true) → Received b m q l
got f t p = record { fits = f; tamed = t; falls = p }

pub receives : {b : Text} {m : Mode} {q : Option Access} {l : Link} → Phase b m q l → Received b m q l
receives (quiet true) = got refl (tame (quiet false) refl refl refl) (λ _. refl)
receives (asking true w) = got refl (tame (asking false w) refl refl refl) (λ _. refl)
receives (queueing true w) = got refl (tame (queueing false w) refl refl refl) (λ _. refl)
receives (coming true w a) = got refl (tame (coming false w a) refl refl refl) (λ _. grind arith)
receives (coming false Read a) = got refl (tame (reading a) refl refl refl) (λ _. grind arith)
receives (coming false Write a) = got refl (tame (busy a false Write) refl refl refl) (λ _. grind arith)
receives (raising a) = got refl (tame (busy a false Write) refl refl refl) (λ _. grind arith)
receives (resting true) = got refl (tame (back_thin false answer None) refl refl refl) (λ _. refl)
receives (reading true) = got refl (tame marked refl refl refl) (λ _. refl)
receives (wishing true) = got refl (tame late refl refl refl) (λ _. refl)
receives (lined true) = got refl (tame late_lined refl refl refl) (λ _. refl)
receives (owning true true) = got refl (tame (back_full answer None) refl refl refl) (λ _. refl)
receives (owning true false) = got refl (tame (back_thin true answer None) refl refl refl) (λ _. refl)
receives (busy true g w) = got refl (tame (called g w) refl refl refl) (λ _. refl)
receives (back_thin o crossing q) = got refl (tame (back_thin o crossed q) refl refl refl) (λ _. grind arith)
receives (back_full crossing q) = got refl (tame (back_full crossed q) refl refl refl) (λ _. grind arith)
receives p = got refl (tame p refl refl refl) never

-- a delivery to the home
pub record Left (b : Text) (q : Option Access) (l : Link) (u : List Up) : Type 0 where
  pub phase : (m : Mode) → Phase b m q (left_link u l)
  pub held : l.holder ≡ true
  pub falls : ltb (potential (left_link u l)) (potential l) ≡ true

pub data Heard (b : Text) (m : Mode) (q : Option Access) (l : Link) : List Up → Type 0 where
  silent : Heard b m q l []
  asks : (v : Access) (u : List Up) → q ≡ None → Tame b m (Some v) l (heard_link u l) → fits_up (wants v ∷ u) m q l ≡ true
      → ltb (potential (heard_link u l)) (potential l) ≡ true → Heard b m q l (wants v ∷ u)
  thins : (f : Bool) (u : List Up) → Left b q l u → dirty l ≡ false → fits_up (thin f ∷ u) m q l ≡ true → Heard b m q l (thin f ∷ u)
  fulls : (f : Bool) (t : Text) (u : List Up) → Left b q l u → t ≡ b → fits_up (full f t ∷ u) m q l ≡ true → Heard b m q l (full f t ∷ u)

abbrev gone : {b : Text} {q : Option Access} {l : Link} {u : List Up} → ((m : Mode) → Phase b m q (left_link u l)) → l.holder ≡ true → ltb (potential (left_link u l)) (potential l) ≡ true → Left b q l u
gone p e f = record { phase = p; held = e; falls = f }

pub hears : {b : Text} {m : Mode} {q : Option Access} {l : Link} → Phase b m q l → Heard b m q l l.up
hears (asking x v) = asks _ _ refl (tame (queueing x v) refl refl refl) (grind arith) (grind arith)
hears (wishing a) = asks _ _ refl (tame (lined a) refl refl refl) refl (grind arith)
hears (back_thin o crossing None) = thins _ _ (gone (λ m. quiet true) refl refl) refl refl
hears (back_thin o crossing (Some w)) = thins _ _ (gone (λ m. asking true w) refl refl) refl refl
hears (back_thin o y None) = thins _ _ (gone (λ m. quiet false) refl refl) refl refl
hears (back_thin o y (Some w)) = thins _ _ (gone (λ m. asking false w) refl refl) refl refl
hears (back_full crossing None) = fulls _ _ _ (gone (λ m. quiet true) refl refl) refl refl
hears (back_full crossing (Some w)) = fulls _ _ _ (gone (λ m. asking true w) refl refl) refl refl
hears (back_full y None) = fulls _ _ _ (gone (λ m. quiet false) refl refl) refl refl
hears (back_full y (Some w)) = fulls _ _ _ (gone (λ m. asking false w) refl refl) refl refl
hears late = asks _ _ refl (tame late_lined refl refl refl) refl refl
hears late_lined = thins _ _ (gone (λ m. queueing false Write) refl refl) refl refl
hears _ = silent

-- grants and recalls
pub record Moved (b : Text) (m : Mode) (q : Option Access) (l k : Link) : Type 0 where
  pub phase : Phase b m q k
  pub awaited : k.awaited ≡ l.awaited
  pub no_more : ltb (potential l) (potential k) ≡ false
  pub dirty : dirty k ≡ dirty l

abbrev moved : {b : Text} {m : Mode} {q : Option Access} {l k : Link} → Phase b m q k → k.awaited ≡ l.awaited → ltb (potential l) (potential k) ≡ false → dirty k ≡ dirty l → Moved b m q l k
moved p e f g = record { phase = p; awaited = e; no_more = f; dirty = g }

pub grants_read : {b : Text} {m : Mode} {l : Link} → Phase b m (Some Read) l → Moved b Readers None l (granted_link Read b l)
grants_read (queueing true _) = moved (coming true Read false) refl refl refl
grants_read (queueing false _) = moved (coming false Read false) refl refl refl

pub grants_write : {b : Text} {m : Mode} {l : Link} → Phase b m (Some Write) l → l.awaited ≡ false → Moved b Away None l (granted_link Write b l)
grants_write (queueing true _) e = moved (coming true Write false) refl refl refl
grants_write (queueing false _) e = moved (coming false Write false) refl refl refl
grants_write (lined false) e = moved (raising false) refl refl refl
grants_write _ e = never' e

pub record Recalled (b : Text) (m : Mode) (q : Option Access) (l : Link) : Type 0 where
  pub phase : Phase b m q (recalled_link l)
  pub no_more : ltb (potential l) (potential (recalled_link l)) ≡ false
  pub dirty : dirty (recalled_link l) ≡ dirty l

abbrev rec : {b : Text} {m : Mode} {q : Option Access} {l : Link} → Phase b m q (recalled_link l) → ltb (potential l) (potential (recalled_link l)) ≡ false → dirty (recalled_link l) ≡ dirty l → Recalled b m q l
rec p f g = record { phase = p; no_more = f; dirty = g }

pub recalls : {b : Text} {m : Mode} {q : Option Access} {l : Link} → Phase b m q l → l.holder ≡ true → l.awaited ≡ false → Recalled b m q l
recalls (quiet x) h a = never h
recalls (asking x w) h a = never h
recalls (queueing x w) h a = never h
recalls (coming true w false) h a = rec (coming true w true) refl refl
recalls (coming false w false) h a = rec (coming false w true) refl refl
recalls (raising false) h a = rec (raising true) refl refl
recalls (resting false) h a = rec (resting true) refl refl
recalls (reading false) h a = rec (reading true) refl refl
recalls (wishing false) h a = rec (wishing true) refl refl
recalls (lined false) h a = rec (lined true) refl refl
recalls (owning false g) h a = rec (owning true g) refl refl
recalls (busy false g w) h a = rec (busy true g w) refl refl
recalls (back_thin o alone q) h a = rec (back_thin o crossing q) (grind arith) (grind arith)
recalls (back_full alone q) h a = rec (back_full crossing q) (grind arith) (grind arith)
recalls _ h a = never' a

-- a writer writes: the book has a new text
pub writing : (t : Text) {b : Text} {m : Mode} {q : Option Access} {l : Link} → Phase b m q l → is_writing l.standing ≡ true → Phase t m q (written_link t l)
writing t (busy a g Write) e = busy a true Write
writing t (called g Write) e = called true Write
writing t (back_thin o y None) e = never e
writing t (back_full y None) e = never e
writing t _ e = never e

-- who holds nothing suits each mode and each book, and has nothing new
pub free : (b' : Text) (m' : Mode) {b : Text} {m : Mode} {q : Option Access} {l : Link} → Phase b m q l → l.holder ≡ false → Phase b' m' q l
free b' m' (quiet x) e = quiet x
free b' m' (asking x w) e = asking x w
free b' m' (queueing x w) e = queueing x w
free b' m' _ e = never' e
