-- Calls of stations, accepted or refused, keep the invariant of a house.
use Rattle.std.proofs.Common.{◌≡◌, ℕ, ◌<◌, Bool, true, false, cond, not, ◌&&◌, eqb, ltb, List, [], ◌∷◌, ◌++◌, sym, refl, ap, ◌∙◌, subst, arith, append-nil}
use Rattle.std.proofs.lemmas.List.{map-append}
use Rattle.std.proofs.lemmas.Bool.Decides.{nat_tests}
use Rattle.std.proofs.lemmas.Bool.{ltb-true, eqb-true, and_parts, not-true, cond_both}
use Rattle.notes.specs.declared.row.Access.{Access}
use Rattle.notes.specs.declared.row.Standing.TheVariants.{Idle, Waiting}
use Rattle.notes.specs.Notes.{Notes, is_idle, is_open, is_none}
use Rattle.station.specs.declared.starts.Started.{Started}
use Rattle.steps.specs.Steps.{stand, started_away, ended_away, flushed}
use Rattle.steps.specs.Serving.{serve, enqueued}
use Rattle.station.specs.Calls.{After, making, number, has_room, began}
use Rattle.law.specs.State.{State, state, start, end, flush, at, Outcome, left, called, does}
use Rattle.law.specs.Law.{Fit}
use Rattle.law.proofs.Model.{Text, Place, mine, theirs, World, world, remote, started_link, ended_link, flushed_link, serve_world}
use Rattle.law.proofs.Phases.{tame_ended, tame_started, tame_flushed}
use Rattle.law.proofs.Desks.{eqb_same, Inv}
use Rattle.law.proofs.Moves.{home_starts, home_ends}
use Rattle.law.proofs.Views.{place, places, links, page_of, Sound, ups}
use Rattle.law.proofs.Lines.{same_line}
use Rattle.law.proofs.Homes.{sound_of, sound_add}
use Rattle.law.proofs.Pages.{at_same, Sane}
use Rattle.law.proofs.Steps.{serve_moved, call_moved}

pub remote_from : (n h s : ℕ) → eqb s h ≡ false → ltb s n ≡ true → remote n h s ≡ true
remote_from n h s e l = grind (arith, nat_tests)

-- nothing has changed
pub refused_keeps : (n p : ℕ) (home : ℕ → ℕ) (s g : ℕ) (book : ℕ → Text) (x : State) → Sane n p home book x → Sane n p home book (state (at s g (x.rows s g) x.rows) (at s g (x.texts s g) x.texts) x.lists)
refused_keeps n p home s g book x i = subst (Sane n p home book) (sym (λ z. state (at_same s g x.rows z) (at_same s g x.texts z) x.lists)) i

module _ (room n p : ℕ) (home : ℕ → ℕ) (fit : Fit room n p home) where
  pub sound_here : (g : ℕ) (book : ℕ → Text) (x : State) → g < p → Sane n p home book x → Sound n (home g) (x.rows (home g) g).home
  sound_here g book x l i = sound_of n (home g) (x.texts (home g) g) (book g) (x.rows (home g) g).standing (x.rows (home g) g).home (links n (home g) g x.rows x.texts x.lists)
      fit.stations (fit.homes g l) (i.small g l).0 (i.small g l).1 (i.inv g l)

  -- a call at a station and a page that there are
  called_keeps : (s g : ℕ) (book : ℕ → Text) (x : State) (o : Outcome) → Sane n p home book x → (ltb s n ≡ true → g < p → Sane n p home book o.1) → Sane n p home book (called room n p home s g o x).1
  called_keeps s g book x o i k = cond_both (ltb s n && ltb g p) o (false, x) (λ (y : Outcome). Sane n p home book y.1) (λ e. let f = and_parts (ltb s n) (ltb g p) e in k f.0 (ltb-true g p f.1)) (λ _. i)

  -- start
  start_home : (g : ℕ) (a : Access) (book : ℕ → Text) (x : State) → g < p → Sane n p home book x → is_idle (x.rows (home g) g).standing ≡ true
      → Sane n p home book (left (home g) g (making began x.lists (serve (home g) g (x.texts (home g) g) (enqueued (home g) a (stand (Waiting a) (x.rows (home g) g))))) x).1
  start_home g a book x l i idle = (serve_moved n p home g (enqueued h a (stand (Waiting a) r)) (x.texts h g) x.lists book x l i
      (sound_add n h r.home (record { station = h; access = a }) (sound_here g book x l i) (fit.homes g l))
      (subst (λ (q : List Place). Inv n h (serve_world n (world r.home.mode (Waiting a) (x.texts h g) (book g) q w.at)))
      (sym (map-append (place h) r.home.queue (record { station = h; access = a } ∷ []) ∙ ap (λ c. places h r.home.queue ++ (cond c (mine a) (theirs h a) ∷ [])) (eqb_same h)))
      (home_starts n h w a idle (i.inv g l)))
      (i.long h g l) (λ k e. same_line k x.lists) i.clean).sane
    where
      h : ℕ
      h = home g

      r : Notes
      r = x.rows (home g) g

      w : World
      w = page_of n (home g) (book g) x g

  pub start_keeps : (s g : ℕ) (a : Access) (book : ℕ → Text) (x : State) → Sane n p home book x → Sane n p home book (does room n p home (start s g a) x).1
  start_keeps s g a book x i = called_keeps s g book x _ i (λ ls l.
      cond_both (is_idle (x.rows s g).standing) _ _ (λ (o : After Started). Sane n p home book (left s g o x).1)
      (λ q. cond_both (has_room room x.lists) _ _ (λ (o : After Started). Sane n p home book (left s g o x).1) (λ _. go ls l q (eqb s (home g)) refl) (λ _. refused_keeps n p home s g book x i))
      (λ _. refused_keeps n p home s g book x i))
    where
      go : ltb s n ≡ true → g < p → is_idle (x.rows s g).standing ≡ true → (c : Bool) → eqb s (home g) ≡ c
          → Sane n p home book (left s g (making began x.lists (cond c (serve (home g) g (x.texts s g) (enqueued (home g) a (stand (Waiting a) (x.rows s g)))) (started_away s (home g) g a (x.rows s g) (x.texts s g)))) x).1
      go ls l idle true e = subst (λ z. is_idle (x.rows z g).standing ≡ true
          → Sane n p home book (left z g (making began x.lists (serve (home g) g (x.texts z g) (enqueued (home g) a (stand (Waiting a) (x.rows z g))))) x).1) (sym (eqb-true s (home g) e))
          (start_home g a book x l i) idle
      go ls l idle false e = (call_moved n p home s g (started_away s (home g) g a (x.rows s g) (x.texts s g)) book x l i (remote_from n (home g) s e ls)
          (grind arith) (started_link a) (grind (arith, idle, append-nil (ups g (x.lists s (home g))))) (λ m q y f. tame_started a f)
          (grind arith)).sane

  -- end
  end_home : (g : ℕ) (book : ℕ → Text) (x : State) → g < p → Sane n p home book x → is_open (x.rows (home g) g).standing ≡ true
      → Sane n p home book (left (home g) g (making number x.lists (serve (home g) g (x.texts (home g) g) (stand Idle (x.rows (home g) g)))) x).1
  end_home g book x l i opened = (serve_moved n p home g (stand Idle (x.rows (home g) g)) (x.texts (home g) g) x.lists book x l i (sound_here g book x l i)
      (home_ends n (home g) (page_of n (home g) (book g) x g) opened (i.inv g l)) (i.long (home g) g l) (λ k e. same_line k x.lists) i.clean).sane

  pub end_keeps : (s g : ℕ) (book : ℕ → Text) (x : State) → Sane n p home book x → Sane n p home book (does room n p home (end s g) x).1
  end_keeps s g book x i = called_keeps s g book x _ i (λ ls l.
      cond_both (is_open (x.rows s g).standing) _ _ (λ (o : After ℕ). Sane n p home book (left s g o x).1)
      (λ q. cond_both (has_room room x.lists) _ _ (λ (o : After ℕ). Sane n p home book (left s g o x).1) (λ _. go ls l q (eqb s (home g)) refl) (λ _. refused_keeps n p home s g book x i))
      (λ _. refused_keeps n p home s g book x i))
    where
      go : ltb s n ≡ true → g < p → is_open (x.rows s g).standing ≡ true → (c : Bool) → eqb s (home g) ≡ c
          → Sane n p home book (left s g (making number x.lists (cond c (serve (home g) g (x.texts s g) (stand Idle (x.rows s g))) (ended_away s (home g) g (x.rows s g) (x.texts s g)))) x).1
      go ls l opened true e = subst (λ z. is_open (x.rows z g).standing ≡ true
          → Sane n p home book (left z g (making number x.lists (serve (home g) g (x.texts z g) (stand Idle (x.rows z g)))) x).1) (sym (eqb-true s (home g) e))
          (end_home g book x l i) opened
      go ls l opened false e = (call_moved n p home s g (ended_away s (home g) g (x.rows s g) (x.texts s g)) book x l i (remote_from n (home g) s e ls)
          (grind arith) ended_link (grind (arith, opened, append-nil (ups g (x.lists s (home g))))) (λ m q y f. tame_ended f)
          (grind arith)).sane

  -- flush
  pub flush_keeps : (s g : ℕ) (book : ℕ → Text) (x : State) → Sane n p home book x → Sane n p home book (does room n p home (flush s g) x).1
  flush_keeps s g book x i = called_keeps s g book x _ i (λ ls l.
      cond_both (is_idle (x.rows s g).standing) _ _ kept
      (λ idle. cond_both (not (eqb s (home g)) && not (is_none (x.rows s g).copy)) _ _ kept
      (λ r. cond_both (has_room room x.lists) _ _ kept (λ _. let c = and_parts (not (eqb s (home g))) (not (is_none (x.rows s g).copy)) r in go ls l idle (not-true (eqb s (home g)) c.0) c.1) (λ _. nothing_done))
      (λ _. nothing_done))
      (λ _. nothing_done))
    where
      kept : After ℕ → Type 0
      kept o = Sane n p home book (left s g o x).1

      nothing_done : Sane n p home book (state (at s g (x.rows s g) x.rows) (at s g (x.texts s g) x.texts) x.lists)
      nothing_done = refused_keeps n p home s g book x i

      go : ltb s n ≡ true → g < p → is_idle (x.rows s g).standing ≡ true → eqb s (home g) ≡ false → not (is_none (x.rows s g).copy) ≡ true
          → Sane n p home book (left s g (making number x.lists (flushed s (home g) g (x.rows s g) (x.texts s g))) x).1
      go ls l idle e held = (call_moved n p home s g (flushed s (home g) g (x.rows s g) (x.texts s g)) book x l i (remote_from n (home g) s e ls)
          (grind arith) flushed_link (grind (arith, idle, held)) (λ m q y f. tame_flushed f) refl).sane
