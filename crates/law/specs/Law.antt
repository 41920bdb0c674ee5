-- What is true of every house that its set-up and any acts, accepted or refused, have led to.
use Rattle.std.specs.Prelude.{◌≡◌, ℕ, ◌+◌, ◌-◌, ◌*◌, ◌<◌, ◌≤◌, true, List, [], ◌∷◌, length, ◌≢◌}
use Rattle.line.specs.Messages.{Msg}
use Rattle.line.specs.Lists.{total}
use Rattle.notes.specs.Notes.{blank, is_open, is_waiting, is_writing}
use Rattle.law.specs.State.{State, Act, deliver, does, noted}

-- at most so many deliveries in a row
abbrev pub bound : (pages stations : ℕ) → ℕ
bound p n = 5 * (p * (n - 1))

-- A plan and a line that a house can be set up with.
pub record Fit (room n p : ℕ) (home : ℕ → ℕ) : Type 0 where
  pub stations : n ≤ 8
  pub homes : (g : ℕ) → g < p → home g < n
  pub places : bound p n + 16 ≤ room

-- after set-up: every row blank, each page's text at its home, nothing on the line
pub record New (p : ℕ) (home : ℕ → ℕ) (book : ℕ → List ℕ) (x : State) : Type 0 where
  pub rows : (s g : ℕ) → x.rows s g ≡ blank
  pub texts : (g : ℕ) → g < p → x.texts (home g) g ≡ book g
  pub lengths : (s g : ℕ) → g < p → length (x.texts s g) ≡ length (book g)
  pub lists : (a b : ℕ) → x.lists a b ≡ []

module _ (room n p : ℕ) (home : ℕ → ℕ) where
  -- what acts lead to, with the book
  pub data Reached : (ℕ → List ℕ) → State → Type 0 where
    new : {book : ℕ → List ℕ} {x : State} → New p home book x → Reached book x
    next : {book : ℕ → List ℕ} {x : State} → Reached book x → (a : Act)
        → Reached (noted a (does room n p home a x).0 book) (does room n p home a x).1

  pub record Holds (potential : State → ℕ) (book : ℕ → List ℕ) (x : State) : Type 0 where
    -- while one station has a page open for writing, no other has it open
    pub alone : (g i j : ℕ) → g < p → i < n → j < n → is_writing (x.rows i g).standing ≡ true → is_open (x.rows j g).standing ≡ true → i ≡ j
    -- where a page is open, the book's text stands
    pub fresh : (g s : ℕ) → g < p → s < n → is_open (x.rows s g).standing ≡ true → x.texts s g ≡ book g
    -- every waiting message can be delivered
    pub goes : (a b : ℕ) (m : Msg) (rest : List Msg) → x.lists a b ≡ m ∷ rest → (does room n p home (deliver a b) x).0 ≡ true
    -- an accepted delivery lowers the potential, which is at most the bound
    pub falls : (a b : ℕ) → (does room n p home (deliver a b) x).0 ≡ true → potential (does room n p home (deliver a b) x).1 < potential x
    pub bounded : potential x ≤ bound p n
    -- there is room for whatever a step posts
    pub free : total x.lists + 16 ≤ room
    -- with nothing on the line, a station waits for a page only if another has it open
    pub released : ((a b : ℕ) → x.lists a b ≡ []) → (g s : ℕ) → g < p → s < n → is_waiting (x.rows s g).standing ≡ true
        → (j : ℕ) × (j < n) × (j ≢ s) × (is_open (x.rows j g).standing ≡ true)

-- For every house there is a potential by which the law holds wherever acts have led.
abbrev pub Law : Type 0
Law =
    (room n p : ℕ) (home : ℕ → ℕ) → Fit room n p home
    → (potential : State → ℕ) × ((book : ℕ → List ℕ) (x : State) → Reached room n p home book x → Holds room n p home potential book x)
