-- What a message does at its page's home is what it does to the page.
use Rattle.std.proofs.Common.{◌≡◌, ℕ, ◌<◌, ◌≤◌, Bool, true, false, cond, not, ◌&&◌, eqb, ltb, List, [], ◌∷◌, ◌++◌, length, sym, refl, ap, ◌∙◌, arith}
use mathlib.Core.Path.{fun_ext}
use Rattle.std.proofs.lemmas.List.{map-append}
use Rattle.std.specs.Option.{is_some}
use Rattle.std.proofs.lemmas.Bool.Decides.{nat_tests}
use Rattle.std.proofs.lemmas.Bool.{eq-eqb}
use Rattle.line.specs.declared.kind.Kind.{Kind}
use Rattle.line.specs.declared.kind.Kind.TheVariants.{ReadRequest, WriteRequest, Ack, AckWithText, Flush, FlushWithText}
use Rattle.line.specs.Messages.{Msg}
use Rattle.line.specs.Lists.{taken}
use Rattle.notes.specs.declared.row.Access.{Access}
use Rattle.notes.specs.declared.row.Access.TheVariants.{Read, Write}
use Rattle.notes.specs.declared.row.Mode.TheVariants.{Own}
use Rattle.notes.specs.declared.queue.Entry.{Entry}
use Rattle.notes.specs.Sets.{isin, left as without}
use Rattle.notes.specs.Queues.{queued}
use Rattle.notes.specs.Notes.{Notes, HomeNotes}
use Rattle.delivery.specs.Deliveries.{is_away}
use Rattle.steps.specs.Serving.{serve, enqueued, left_by, returned}
use Rattle.delivery.specs.Deliveries.{from_home, received, expected}
use Rattle.law.specs.State.{State, state}
use Rattle.law.proofs.Model.{Text, Up, Down, Link, mine, theirs, world, wish_in, remote, placed, heard_link, left_link, unheld, serve_world, fits_up, returned_world, arrived_world, nobody}
use Rattle.law.proofs.Phases.{never'}
use Rattle.law.proofs.Facts.{UpText}
use Rattle.law.proofs.Desks.{eqb_same}
use Rattle.law.proofs.Serves.{remote_lt}
use Rattle.law.proofs.Flags.{flag, in_range, flag_leave, scan_empty}
use Rattle.law.proofs.Views.{as_up, as_down, downs, ups, places, linked, links, noted, view, page_of, holds, awaits, Sound, place}
use Rattle.law.proofs.Lines.{turned, taken_here, taken_other}
use Rattle.law.proofs.Homes.{remote_not, sound_add, sound_leave}
use Rattle.law.proofs.Steps.{at_link}

-- what a message makes of its list is not empty
pub some_up : (k : Kind) (x : Text) (u : List Up) → from_home k ≡ false → ltb 0 (length (as_up k x ++ u)) ≡ true
some_up k x u f = grind (arith, nat_tests, f)

pub some_down : (k : Kind) (x : Text) (d : List Down) → from_home k ≡ true → ltb 0 (length (as_down k x ++ d)) ≡ true
some_down k x d f = grind (arith, nat_tests, f)

abbrev pub hear_row : Kind → ℕ → Notes → Notes
hear_row ReadRequest s r = enqueued s Read r
hear_row WriteRequest s r = enqueued s Write r
hear_row Ack s r = returned s r
hear_row AckWithText s r = returned s r
hear_row Flush s r = returned s r
hear_row FlushWithText s r = returned s r
hear_row _ s r = r

abbrev pub hear_text : Kind → Text → Text → Text
hear_text AckWithText x t = x
hear_text FlushWithText x t = x
hear_text _ x t = t

-- the home notes what came, and serves
pub received_up : (a b h g : ℕ) (k : Kind) (x : Text) (r : Notes) (t : Text) → from_home k ≡ false → received a b h g k x r t ≡ serve h g (hear_text k x t) (hear_row k a r)
received_up a b h g k x r t f = grind arith

pub heard_length : (k : Kind) (x b t : Text) (u : List Up) → UpText b (as_up k x ++ u) → length t ≡ length b → length (hear_text k x t) ≡ length b
heard_length AckWithText x b t u e l = ap length e
heard_length FlushWithText x b t u e l = ap length e
heard_length _ x b t u e l = l

-- who is queued
queued_is : (h s : ℕ) (q : List Entry) → eqb s h ≡ false → is_some (wish_in s (places h q)) ≡ queued s q
queued_is h s [] e = refl
queued_is h s (y ∷ q) e = grind (arith, nat_tests, queued_is h s q e)

-- a message to the home is expected
pub expected_up : (s h : ℕ) (k : Kind) (x b : Text) (l : Link) (u : List Up) (r : Notes) (t : Text) → from_home k ≡ false → s < 8 → eqb s h ≡ false
    → l.holder ≡ flag s r.home.holders → l.awaited ≡ flag s r.home.awaited → UpText b (as_up k x ++ u) → length t ≡ length b
    → fits_up (as_up k x ++ u) r.home.mode (wish_in s (places h r.home.queue)) l ≡ true → expected s h h k x r t ≡ true
expected_up s h k x b l u r t f s8 off is-holder is-awaited text len fit = go k f text fit
  where
    holds : l.holder ≡ isin s r.home.holders
    holds = is-holder ∙ in_range s r.home.holders s8

    awaits : l.awaited ≡ isin s r.home.awaited
    awaits = is-awaited ∙ in_range s r.home.awaited s8

    lined : is_some (wish_in s (places h r.home.queue)) ≡ queued s r.home.queue
    lined = queued_is h s r.home.queue off

    go : (k : Kind) → from_home k ≡ false → UpText b (as_up k x ++ u) → fits_up (as_up k x ++ u) r.home.mode (wish_in s (places h r.home.queue)) l ≡ true → expected s h h k x r t ≡ true
    go ReadRequest f text fit = rw (eqb_same h) (sym (λ z. not (lined z) && not (holds z)) ∙ fit)
    go WriteRequest f text fit = rw (eqb_same h) (sym (λ z. not (lined z) && not (is_away r.home.mode && holds z)) ∙ fit)
    go Ack f text fit = rw (eqb_same h) (sym awaits ∙ fit)
    go AckWithText f text fit = rw (eqb_same h, eq-eqb (length x) (length t) (ap length text ∙ sym len)) (sym (λ z. awaits z && is_away r.home.mode) ∙ fit)
    go Flush f text fit = rw (eqb_same h) (sym holds ∙ fit)
    go FlushWithText f text fit = rw (eqb_same h, eq-eqb (length x) (length t) (ap length text ∙ sym len)) (sym (λ z. holds z && is_away r.home.mode) ∙ fit)
    go _ f text fit = never' f

-- The page g with its home h, after the oldest message from station s to the home was taken.
module _ (n h g s : ℕ) (b : Text) (x : State) (m : Msg) (rest : List Msg) (few : n ≤ 8) (aw : remote n h s ≡ true) (is : x.lists s h ≡ m ∷ rest) where
  link_other : (j : ℕ) → eqb j s ≡ false → links n h g x.rows x.texts x.lists j ≡ links n h g x.rows x.texts (taken s h x.lists) j
  link_other j e = λ z. cond (remote n h j) (linked false false (x.rows j g) (x.texts j g)
      (downs g (sym (taken_other s h h j x.lists (ap (λ c. c && eqb j h) (turned s h (remote_not n h s aw)))) z))
      (ups g (sym (taken_other s h j h x.lists (ap (λ c. c && eqb h h) e)) z))) nobody

  link_here : (fh fa : Bool) → linked fh fa (x.rows s g) (x.texts s g) (downs g (x.lists h s)) (ups g rest)
      ≡ linked fh fa (x.rows s g) (x.texts s g) (downs g (taken s h x.lists h s)) (ups g (taken s h x.lists s h))
  link_here fh fa = λ z. linked fh fa (x.rows s g) (x.texts s g) (downs g (sym (taken_other s h h s x.lists (ap (λ c. c && eqb s h) (turned s h (remote_not n h s aw)))) z))
      (ups g (sym (taken_here s h m rest x.lists is) z))

  -- the request is taken off its list
  heard_at : (j : ℕ) → placed (page_of n h b x g).at s (heard_link (ups g rest) ((page_of n h b x g).at s)) j ≡ (page_of n h b (state x.rows x.texts (taken s h x.lists)) g).at j
  heard_at j = grind (arith, nat_tests, at_link n h s g b x aw, link_here (holds x h g s) (awaits x h g s), at_link n h s g b (state x.rows x.texts (taken s h x.lists)) aw, link_other j)

  s8 : s < 8
  s8 = let z = remote_lt n h s aw in omega (arith, z, few)

  -- the station has left
  left_at : (j : ℕ) → placed (page_of n h b x g).at s (left_link (ups g rest) ((page_of n h b x g).at s)) j
      ≡ noted (without (x.rows h g).home.holders s) (without (x.rows h g).home.awaited s) (links n h g x.rows x.texts (taken s h x.lists)) j
  left_at j = grind (arith, nat_tests, at_link n h s g b x aw, link_here false false, flag_leave j s (x.rows h g).home.holders s8, flag_leave j s (x.rows h g).home.awaited s8, link_other j, aw)

  returned_is : (t : Text) → Sound n h (x.rows h g).home
      → returned_world n s (ups g rest) t (page_of n h b x g) ≡ view h t b (x.rows h g).standing (left_by s (x.rows h g).home) (links n h g x.rows x.texts (taken s h x.lists))
  returned_is t o =
      ap (λ (f : ℕ → Link). world (cond (unheld n f) Own d.mode) (x.rows h g).standing t b (places h d.queue) f) (fun_ext left_at)
      ∙ ap (λ c. world (cond c Own d.mode) (x.rows h g).standing t b (places h d.queue) (noted (without d.holders s) (without d.awaited s) (links n h g x.rows x.texts (taken s h x.lists))))
      (scan_empty n h (without d.holders s) o'.holders_small o'.holders_away)
    where
      d : HomeNotes
      d = (x.rows h g).home

      o' : Sound n h (left_by s (x.rows h g).home)
      o' = sound_leave n h (x.rows h g).home s s8 o

  asked_is : (v : Access) → places h (x.rows h g).home.queue ++ (theirs s v ∷ []) ≡ places h ((x.rows h g).home.queue ++ record { station = s; access = v } ∷ [])
  asked_is v = sym (map-append (place h) (x.rows h g).home.queue (record { station = s; access = v } ∷ []) ∙ ap (λ c. places h (x.rows h g).home.queue ++ (cond c (mine v) (theirs s v) ∷ [])) (remote_not n h s aw))

  pub arrived_is : (k : Kind) (y : Text) → from_home k ≡ false → Sound n h (x.rows h g).home
      → arrived_world n s (as_up k y ++ ups g rest) (page_of n h b x g)
      ≡ serve_world n (view h (hear_text k y (x.texts h g)) b (hear_row k s (x.rows h g)).standing (hear_row k s (x.rows h g)).home (links n h g x.rows x.texts (taken s h x.lists)))
  arrived_is ReadRequest y f o = λ z. serve_world n (world (x.rows h g).home.mode (x.rows h g).standing (x.texts h g) b (asked_is Read z) (fun_ext heard_at z))
  arrived_is WriteRequest y f o = λ z. serve_world n (world (x.rows h g).home.mode (x.rows h g).standing (x.texts h g) b (asked_is Write z) (fun_ext heard_at z))
  arrived_is Ack y f o = ap (serve_world n) (returned_is (x.texts h g) o)
  arrived_is AckWithText y f o = ap (serve_world n) (returned_is y o)
  arrived_is Flush y f o = ap (serve_world n) (returned_is (x.texts h g) o)
  arrived_is FlushWithText y f o = ap (serve_world n) (returned_is y o)
  arrived_is _ y f o = never' f

  pub heard_sound : (k : Kind) → Sound n h (x.rows h g).home → Sound n h (hear_row k s (x.rows h g)).home
  heard_sound ReadRequest o = sound_add n h (x.rows h g).home (record { station = s; access = Read }) o (remote_lt n h s aw)
  heard_sound WriteRequest o = sound_add n h (x.rows h g).home (record { station = s; access = Write }) o (remote_lt n h s aw)
  heard_sound Ack o = sound_leave n h (x.rows h g).home s s8 o
  heard_sound AckWithText o = sound_leave n h (x.rows h g).home s s8 o
  heard_sound Flush o = sound_leave n h (x.rows h g).home s s8 o
  heard_sound FlushWithText o = sound_leave n h (x.rows h g).home s s8 o
  heard_sound _ o = o
