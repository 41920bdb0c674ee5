-- What the phase of a link tells.
use Rattle.std.proofs.Common.{◌≡◌, Bool, true, false, not, ◌&&◌, ◌||◌, eqb, ltb, List, ◌∷◌, refl, arith, Option}
use Rattle.std.specs.Option.{is_some}
use Rattle.std.proofs.lemmas.Bool.{and_parts, not-true}
use Rattle.notes.specs.declared.row.Access.{Access}
use Rattle.notes.specs.declared.row.Standing.{Standing}
use Rattle.notes.specs.declared.row.Mode.{Mode}
use Rattle.notes.specs.declared.row.Mode.TheVariants.{Own}
use Rattle.notes.specs.Notes.{is_open, is_writing, is_exclusive, is_waiting}
use Rattle.delivery.specs.Deliveries.{is_away}
use Rattle.law.proofs.Model.{Text, Down, copy, Up, full, Link, written_link, messages, potential}
use Rattle.law.proofs.Phases.{crossing, Phase, quiet, asking, queueing, coming, resting, reading, wishing, lined, owning, busy, back_thin, back_full, any_full, dirty, Heard, fulls}

abbrev pub is_own : Mode → Bool
is_own Own = true
is_own _ = false

-- the copy or the text that goes back may be newer than the home's
abbrev news : Link → Bool
news l = is_exclusive l.copied || any_full l.up

-- what a phase tells, as one test
abbrev others : Mode → Option Access → Link → Bool
others m q l =
    (not l.holder || not (is_own m))
    && ((is_exclusive l.copied || not (is_writing l.standing))
    && ((not (news l) || (is_away m && l.holder))
    && ((not (eqb (messages l) 0) || (is_some q || not (is_waiting l.standing)))
    && (not (eqb (messages l) 0) || (is_open l.standing || not l.awaited)))))

abbrev tells : Mode → Option Access → Link → Bool
tells m q l = not (ltb 5 (potential l)) && others m q l

told : {b : Text} {m : Mode} {q : Option Access} {l : Link} → Phase b m q l → tells m q l ≡ true
told (quiet x) = grind arith
told _ = grind arith

module _ {b : Text} {m : Mode} {q : Option Access} {l : Link} (f : Phase b m q l) where
  pub at_most_five : ltb 5 (potential l) ≡ false
  at_most_five = not-true (ltb 5 (potential l)) (and_parts _ _ (told f)).0

  rest : others m q l ≡ true
  rest = (and_parts _ _ (told f)).1

  -- a holder's mode
  pub holder_mode : l.holder ≡ true → is_own m ≡ false
  holder_mode e = grind (arith, rest)

  pub clean : is_away m ≡ false → dirty l ≡ false
  clean e = grind (arith, rest)

  pub free_clean : l.holder ≡ false → dirty l ≡ false
  free_clean e = grind (arith, rest)

  -- who writes is the holder in AWAY
  pub writes_away : is_writing l.standing ≡ true → (l.holder ≡ true) × (is_away m ≡ true)
  writes_away e = grind (arith, rest)

  pub written_dirty : (t : Text) → is_writing l.standing ≡ true → dirty (written_link t l) ≡ true
  written_dirty t e = grind (arith, rest)

  -- with nothing on its way, who waits is queued, and who is awaited has the page open
  pub still_queued : eqb (messages l) 0 ≡ true → is_waiting l.standing ≡ true → is_some q ≡ true
  still_queued e w = grind (arith, rest)

  pub still_open : eqb (messages l) 0 ≡ true → l.awaited ≡ true → is_open l.standing ≡ true
  still_open e a = grind (arith, rest)

pub writes_open : (g : Standing) → is_writing g ≡ true → is_open g ≡ true
writes_open g e = grind arith

-- who has it open holds it, with the book's text
pub open_holds : {b : Text} {m : Mode} {q : Option Access} {l : Link} → Phase b m q l → is_open l.standing ≡ true → (l.holder ≡ true) × (l.text ≡ b)
open_holds (quiet x) e = grind arith
open_holds _ e = grind arith

-- the texts on their way are the book's
abbrev pub DownText : Text → List Down → Type 0
DownText b (copy w t ∷ d) = t ≡ b
DownText b _ = Unit {0}

pub down_text : {b : Text} {m : Mode} {q : Option Access} {l : Link} → Phase b m q l → DownText b l.down
down_text (coming false w a) = refl
down_text (quiet true) = tt
down_text (asking true w) = tt
down_text (queueing true w) = tt
down_text (resting true) = tt
down_text (reading true) = tt
down_text (wishing true) = tt
down_text (lined true) = tt
down_text (owning true g) = tt
down_text (busy true g w) = tt
down_text (back_thin o crossing q) = tt
down_text (back_full crossing q) = tt
down_text _ = tt

abbrev pub UpText : Text → List Up → Type 0
UpText b (full f t ∷ u) = t ≡ b
UpText b _ = Unit {0}

pub up_text : {b : Text} {m : Mode} {q : Option Access} {l : Link} {u : List Up} → Heard b m q l u → UpText b u
up_text (fulls f t u v x y) = x
up_text _ = tt
