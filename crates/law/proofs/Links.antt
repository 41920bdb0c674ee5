-- A step of a station away on its row and its lists is a step of its link.
use Rattle.std.proofs.Common.{◌≡◌, ℕ, Bool, true, not, List, ◌++◌, length, ap, append-nil, arith}
use Rattle.std.proofs.lemmas.Bool.Decides.{nat_tests}
use Rattle.line.specs.declared.kind.Kind.{Kind}
use Rattle.line.specs.declared.kind.Kind.TheVariants.{SharedCopy, ExclusiveCopy}
use Rattle.notes.specs.declared.row.Access.{Access}
use Rattle.notes.specs.Notes.{Notes, is_idle, is_open, is_none}
use Rattle.steps.specs.Steps.{Step, started_away, ended_away, flushed}
use Rattle.delivery.specs.Deliveries.{from_home, received, expected}
use Rattle.law.proofs.Model.{Text, Down, Up, Link, fits_down, received_link, started_link, ended_link, flushed_link}
use Rattle.law.proofs.Facts.{DownText}
use Rattle.law.proofs.Views.{as_down, linked}
use Rattle.law.proofs.Lines.{Inward, ups_in}

-- Station s, page g and its home h; what the home notes of s, and the lists between them.
module _ (s h g : ℕ) (fh fa : Bool) (d : List Down) (u : List Up) where
  -- the link after a step of the station
  abbrev pub link_after : Step → Link
  link_after o = linked fh fa o.notes o.text d (u ++ ups_in o.posts)

  pub started_is : (a : Access) (r : Notes) (t : Text) → is_idle r.standing ≡ true → started_link a (linked fh fa r t d u) ≡ link_after (started_away s h g a r t)
  started_is a r t idle = grind (arith, idle, append-nil u)

  pub ended_is : (r : Notes) (t : Text) → is_open r.standing ≡ true → ended_link (linked fh fa r t d u) ≡ link_after (ended_away s h g r t)
  ended_is r t open_now = grind (arith, open_now, append-nil u)

  pub flushed_is : (r : Notes) (t : Text) → is_idle r.standing ≡ true → not (is_none r.copy) ≡ true → flushed_link (linked fh fa r t d u) ≡ link_after (flushed s h g r t)
  flushed_is r t idle held = grind (arith, idle, held)

  -- a message from home
  pub received_is : (k : Kind) (x : Text) (e : List Down) (r : Notes) (t : Text) → from_home k ≡ true → received_link (as_down k x ++ d) (linked fh fa r t e u) ≡ link_after (received h s h g k x r t)
  received_is k x e r t f = grind (arith, append-nil u)

-- what stations away post goes to the home
pub started_in : (s h g : ℕ) (a : Access) (r : Notes) (t : Text) → Inward s h g (started_away s h g a r t).posts
started_in s h g a r t = grind arith

pub ended_in : (s h g : ℕ) (r : Notes) (t : Text) → Inward s h g (ended_away s h g r t).posts
ended_in s h g r t = grind arith

pub flushed_in : (s h g : ℕ) (r : Notes) (t : Text) → Inward s h g (flushed s h g r t).posts
flushed_in s h g r t = grind arith

pub received_in : (s h g : ℕ) (k : Kind) (x : Text) (r : Notes) (t : Text) → from_home k ≡ true → Inward s h g (received h s h g k x r t).posts
received_in s h g k x r t f = grind arith

-- the text after a step, by its length
pub started_text : (s h g : ℕ) (a : Access) (r : Notes) (t : Text) → (started_away s h g a r t).text ≡ t
started_text s h g a r t = grind arith

pub ended_text : (s h g : ℕ) (r : Notes) (t : Text) → (ended_away s h g r t).text ≡ t
ended_text s h g r t = grind arith

pub received_text : (s h g : ℕ) (k : Kind) (x : Text) (b : Text) (d : List Down) (r : Notes) (t : Text) → from_home k ≡ true → DownText b (as_down k x ++ d) → length t ≡ length b
    → length (received h s h g k x r t).text ≡ length b
received_text s h g SharedCopy x b d r t f e l = ap length e
received_text s h g ExclusiveCopy x b d r t f e l = ap length e
received_text s h g _ x b d r t f e l = grind arith

-- a message from home is expected
pub expected_down : (s h : ℕ) (k : Kind) (x b : Text) (fh fa : Bool) (d e : List Down) (u : List Up) (r : Notes) (t : Text) → from_home k ≡ true → DownText b (as_down k x ++ d) → length t ≡ length b
    → fits_down (as_down k x ++ d) (linked fh fa r t e u) ≡ true → expected h s h k x r t ≡ true
expected_down s h SharedCopy x b fh fa d e u r t f q l z = grind (arith, nat_tests, ap length q)
expected_down s h ExclusiveCopy x b fh fa d e u r t f q l z = grind (arith, nat_tests, ap length q)
expected_down s h _ x b fh fa d e u r t f q l z = grind (arith, nat_tests)
