-- What a plan is, and the reading of its bytes from left to right.
use Rattle.std.specs.Prelude.{◌≡◌, ℕ, zero, suc, ◌+◌, Bool, if◌then◌else◌, not, ◌&&◌, List, [], ◌∷◌, ◌++◌, length, take, drop, Ok, Err, Result, ◌==◌, nat_le, nat_lt, slice_index}
use Rattle.std.specs.List.{list_any, flat_map}
use Rattle.line.specs.declared.refusal.Refusal.{Refusal}
use Rattle.plan.specs.Refusals.{short, value, long}

-- a page: its home's number and its text
pub record Sheet : Type 0 where
  pub home : ℕ
  pub text : List ℕ

abbrev pub sheet : ℕ → List ℕ → Sheet
sheet h t = record { home = h; text = t }

-- a plan: the stations' letters and the pages
pub record Layout : Type 0 where
  pub letters : List ℕ
  pub sheets : List Sheet

abbrev pub layout : List ℕ → List Sheet → Layout
layout ls gs = record { letters = ls; sheets = gs }

-- what comes after an answer, unless it is a refusal
abbrev pub and_then : {A B : Type 0} → Result A Refusal → (A → Result B Refusal) → Result B Refusal
and_then (Ok a) next = next a
and_then (Err e) next = Err e

-- the byte at place i, or SHORT at the first missing byte
abbrev pub byte_at : List ℕ → ℕ → Result ℕ Refusal
byte_at bs i = if nat_lt i (length bs) then Ok (slice_index bs i) else Err (short (length bs))

-- the byte at place i, or VALUE there unless it passes
abbrev pub passing : (ℕ → Bool) → List ℕ → ℕ → Result ℕ Refusal
passing test bs i = and_then (byte_at bs i) (λ b. if test b then Ok b else Err (value i))

-- from low to high
abbrev pub between : ℕ → ℕ → ℕ → Bool
between low high b = nat_le low b && nat_le b high

-- whether b stands in the list
abbrev pub has : List ℕ → ℕ → Bool
has xs b = list_any (λ x. x == b) xs

-- a letter, A to Z, that is not among these
abbrev pub new_letter : List ℕ → ℕ → Bool
new_letter seen b = between 65 90 b && not (has seen b)

-- n letters from place i on, after those already seen
unfoldable pub letters_at : ℕ → List ℕ → ℕ → List ℕ → Result (List ℕ) Refusal
letters_at zero bs i seen = Ok seen
letters_at (suc n) bs i seen = and_then (passing (new_letter seen) bs i) (λ b. letters_at n bs (i + 1) (seen ++ b ∷ []))

-- the text of l bytes from place i on, or SHORT at the first missing byte
abbrev pub text_at : List ℕ → ℕ → ℕ → Result (List ℕ) Refusal
text_at bs i l = if nat_le (i + l) (length bs) then Ok (take l (drop i bs)) else Err (short (length bs))

-- a page of a house with n stations, from place i on, and the place after it
unfoldable pub sheet_at : ℕ → List ℕ → ℕ → Result (Sheet × ℕ) Refusal
sheet_at n bs i =
    and_then (passing (λ b. nat_lt b n) bs i)
    (λ h. and_then (passing (between 1 64) bs (i + 1)) (λ l. and_then (text_at bs (i + 2) l) (λ t. Ok (sheet h t, i + 2 + l))))

-- p pages from place i on, after those already read, and the place after them
unfoldable pub sheets_at : ℕ → ℕ → List ℕ → ℕ → List Sheet → Result (List Sheet × ℕ) Refusal
sheets_at zero n bs i gs = Ok (gs, i)
sheets_at (suc p) n bs i gs = and_then (sheet_at n bs i) (λ q. sheets_at p n bs q.1 (gs ++ q.0 ∷ []))

-- nothing is left over, or LONG at the first byte that is
abbrev pub end_at : List ℕ → ℕ → Result (Unit {0}) Refusal
end_at bs i = if nat_lt i (length bs) then Err (long i) else Ok tt

abbrev pub ended : List ℕ → List ℕ → List Sheet × ℕ → Result Layout Refusal
ended bs ls q = and_then (end_at bs q.1) (λ _. Ok (layout ls q.0))

-- after the letters: the pages
abbrev pub paged : List ℕ → ℕ → List ℕ → Result Layout Refusal
paged bs n ls = and_then (passing (between 1 16) bs (1 + n)) (λ p. and_then (sheets_at p n bs (2 + n) []) (ended bs ls))

-- The plan that the bytes are, or the leftmost fault.
unfoldable pub planned : List ℕ → Result Layout Refusal
planned bs = and_then (passing (between 1 8) bs 0) (λ n. and_then (letters_at n bs 1 []) (paged bs n))

-- The bytes of a plan: its parts, written down from left to right.
abbrev pub sheet_down : Sheet → List ℕ
sheet_down g = g.home ∷ length g.text ∷ g.text

abbrev pub sheets_down : List Sheet → List ℕ
sheets_down gs = flat_map sheet_down gs

abbrev pub down : Layout → List ℕ
down p = length p.letters ∷ p.letters ++ (length p.sheets ∷ sheets_down p.sheets)

-- An accepted plan is the only reading of its bytes: its parts, written down in order, give the bytes back.
abbrev pub WritesDown : Type 0
WritesDown = (bs : List ℕ) (p : Layout) → planned bs ≡ Ok p → down p ≡ bs
