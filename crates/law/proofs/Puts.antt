-- Putting bytes into a page, accepted or refused, keeps the invariant of a house, with the book after it.
use Rattle.std.proofs.Common.{◌≡◌, ℕ, ◌+◌, ◌<◌, ◌≤◌, Bool, true, false, cond, ◌&&◌, eqb, ltb, leb, List, [], length, Result, sym, refl, ap, ◌∙◌, subst, arith, length-append, length-drop, length-take}
use Rattle.std.proofs.lemmas.Bool.{ltb-true, leb-true, eqb-true, and_parts, cond_both}
use Rattle.line.specs.declared.refusal.Refusal.{Refusal}
use Rattle.notes.specs.Notes.{Notes, notes, is_writing}
use Rattle.steps.specs.Steps.{laid}
use Rattle.steps.specs.Steps.{step, put_away}
use Rattle.station.specs.Calls.{putting}
use Rattle.law.specs.State.{State, state, put, at, Outcome, left, written, does, noted}
use Rattle.law.proofs.Model.{Text, Link, World, world, remote, placed, written_link}
use Rattle.law.proofs.Facts.{clean, open_holds, writes_open}
use Rattle.law.proofs.Desks.{eqb_same, Inv}
use Rattle.law.proofs.Moves.{home_puts, puts}
use Rattle.law.proofs.Views.{downs, ups, linked, links, view, page_of, holds, awaits}
use Rattle.law.proofs.Lines.{turned, same_line}
use Rattle.law.proofs.Homes.{remote_not}
use Rattle.law.proofs.Pages.{at_here, at_station, home_page, away_page, Sane, moved}
use Rattle.law.proofs.Steps.{at_link}
use Rattle.law.proofs.Calls.{remote_from, refused_keeps}

laid_length : (i : ℕ) (xs t : Text) → i + length xs ≤ length t → length (laid i xs t) ≡ length t
laid_length i xs t l = simp (length-append, length-take, length-drop) (omega arith)

-- Bytes xs are put into page g from byte k on.
module _ (n p : ℕ) (home : ℕ → ℕ) (g k : ℕ) (xs : Text) (book : ℕ → Text) (x : State) (l : g < p) (i : Sane n p home book x) where
  -- the book after it
  abbrev page : ℕ → Text
  page j = cond (eqb j g) (laid k xs (book j)) (book j)

  page_others : (j : ℕ) → eqb j g ≡ false → page j ≡ book j
  page_others j e = rw e

  -- where the text of station s is the book's
  page_is : (s : ℕ) → x.texts s g ≡ book g → page g ≡ laid k xs (x.texts s g)
  page_is s e = ap (λ c. cond c (laid k xs (book g)) (book g)) (eqb_same g) ∙ ap (laid k xs) (sym e)

  page_length : (s : ℕ) → x.texts s g ≡ book g → k + length xs ≤ length (x.texts s g) → length (page g) ≡ length (book g)
  page_length s e f = ap length (page_is s e) ∙ laid_length k xs (x.texts s g) f ∙ i.long s g l

  put_home : is_writing (x.rows (home g) g).standing ≡ true → k + length xs ≤ length (x.texts (home g) g)
      → Sane n p home page (state (at (home g) g (x.rows (home g) g) x.rows) (at (home g) g (laid k xs (x.texts (home g) g)) x.texts) x.lists)
  put_home wr f = (moved n p home h g r (laid k xs (x.texts h g)) x.lists book page x i page_others
      (subst (Inv n h) (sym (home_page n h g (page g) x r (laid k xs (x.texts h g)) x.lists ∙ (λ z. view h (laid k xs (x.texts h g)) (page_is h is_book z) r.standing r.home (links n h g x.rows x.texts x.lists))))
      (home_puts n h w (laid k xs (x.texts h g)) wr v))
      (subst (λ (z : Notes). (z.home.holders < 256) × (z.home.awaited < 256)) (sym (at_here h g r x.rows)) (i.small g l))
      (ap length (sym (page_is h is_book))) (page_length h is_book f) (λ j e. same_line j x.lists) i.clean).sane
    where
      h : ℕ
      h = home g

      r : Notes
      r = x.rows (home g) g

      w : World
      w = page_of n (home g) (book g) x g

      v : Inv n (home g) (page_of n (home g) (book g) x g)
      v = i.inv g l

      is_book : x.texts (home g) g ≡ book g
      is_book = v.pre.fresh (λ j. clean (v.pre.links j) (v.pre.home_open (writes_open _ wr)))

  put_away_lem : (s : ℕ) → remote n (home g) s ≡ true → is_writing (x.rows s g).standing ≡ true → k + length xs ≤ length (x.texts s g)
      → Sane n p home page (state (at s g (notes (x.rows s g).copy true (x.rows s g).recall (x.rows s g).standing (x.rows s g).home) x.rows) (at s g (laid k xs (x.texts s g)) x.texts) x.lists)
  put_away_lem s aw wr f = (moved n p home s g r (laid k xs (x.texts s g)) x.lists book page x i page_others
      (subst (Inv n h) (sym (away_page n h s g (page g) x r (laid k xs (x.texts s g)) x.lists (downs g (x.lists h s)) (ups g (x.lists s h)) aw refl refl (λ j e q. (refl, refl))
      ∙ (λ z. world w.mode w.home w.text (page_is s is_book z) w.queue (placed w.at s (sym (ap (written_link (laid k xs (x.texts s g))) is_link) z)))))
      (puts n h w s (laid k xs (x.texts s g)) aw standing v))
      (subst (λ (z : Notes). (z.home.holders < 256) × (z.home.awaited < 256)) (sym (at_station s g r x.rows h g (turned s h (remote_not n h s aw)))) (i.small g l))
      (ap length (sym (page_is s is_book))) (page_length s is_book f) (λ j e. same_line j x.lists) i.clean).sane
    where
      h : ℕ
      h = home g

      r : Notes
      r = notes (x.rows s g).copy true (x.rows s g).recall (x.rows s g).standing (x.rows s g).home

      w : World
      w = page_of n (home g) (book g) x g

      v : Inv n (home g) (page_of n (home g) (book g) x g)
      v = i.inv g l

      is_link : (page_of n (home g) (book g) x g).at s ≡ linked (holds x (home g) g s) (awaits x (home g) g s) (x.rows s g) (x.texts s g) (downs g (x.lists (home g) s)) (ups g (x.lists s (home g)))
      is_link = at_link n (home g) s g (book g) x aw

      standing : is_writing ((page_of n (home g) (book g) x g).at s).standing ≡ true
      standing = ap (λ (y : Link). is_writing y.standing) is_link ∙ wr

      is_book : x.texts s g ≡ book g
      is_book = sym (ap (λ (y : Link). y.text) is_link) ∙ (open_holds (v.pre.links s) (writes_open _ standing)).1

pub put_keeps : (room n p : ℕ) (home : ℕ → ℕ) (s g k : ℕ) (xs : Text) (book : ℕ → Text) (x : State) → Sane n p home book x
    → Sane n p home (noted (put s g k xs) (does room n p home (put s g k xs) x).0 book) (does room n p home (put s g k xs) x).1
put_keeps room n p home s g k xs book x i = go (ltb s n) (ltb g p) refl refl
  where
    Good : Outcome → Type 0
    Good o = Sane n p home (noted (put s g k xs) o.0 book) o.1

    put_well : Result (Unit {0}) Refusal × Notes × List ℕ → Type 0
    put_well o = Good (left s g (written o x.lists) x)

    here : ltb s n ≡ true → (l : g < p) → is_writing (x.rows s g).standing ≡ true → k + length xs ≤ length (x.texts s g) → (c : Bool) → eqb s (home g) ≡ c
        → Sane n p home (page n p home g k xs book x l i)
        (state (at s g (cond c (step (x.rows s g) (laid k xs (x.texts s g)) []) (put_away s (home g) g k xs (x.rows s g) (x.texts s g))).notes x.rows)
        (at s g (cond c (step (x.rows s g) (laid k xs (x.texts s g)) []) (put_away s (home g) g k xs (x.rows s g) (x.texts s g))).text x.texts) x.lists)
    here ls l wr f true e = subst (λ z. is_writing (x.rows z g).standing ≡ true → k + length xs ≤ length (x.texts z g)
        → Sane n p home (page n p home g k xs book x l i) (state (at z g (x.rows z g) x.rows) (at z g (laid k xs (x.texts z g)) x.texts) x.lists)) (sym (eqb-true s (home g) e))
        (put_home n p home g k xs book x l i) wr f
    here ls l wr f false e = put_away_lem n p home g k xs book x l i s (remote_from n (home g) s e ls) wr f

    go : (c d : Bool) → ltb s n ≡ c → ltb g p ≡ d → Good (cond (c && d) (left s g (written (putting s (home g) g k xs (x.rows s g) (x.texts s g)) x.lists) x) (false, x))
    go true true e f = cond_both (is_writing (x.rows s g).standing) _ _ put_well
        (λ wr. cond_both (ltb 0 (length xs) && leb (k + length xs) (length (x.texts s g))) _ _ put_well
        (λ q. here e (ltb-true g p f) wr (leb-true (k + length xs) (length (x.texts s g)) (and_parts (ltb 0 (length xs)) (leb (k + length xs) (length (x.texts s g))) q).1) (eqb s (home g)) refl)
        (λ _. refused_keeps n p home s g book x i))
        (λ _. refused_keeps n p home s g book x i)
    go true false e f = i
    go false d e f = i
