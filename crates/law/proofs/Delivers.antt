-- Every waiting message can be delivered; its delivery keeps the invariant of a house and lowers the potential of its page.
use Rattle.std.proofs.Common.{◌≡◌, ℕ, ◌<◌, ◌≤◌, Bool, true, false, cond, not, ◌&&◌, eqb, ltb, List, [], ◌∷◌, ◌++◌, sym, refl, ap, ◌∙◌, subst, arith, length}
use Rattle.std.proofs.lemmas.Bool.Decides.{nat_tests}
use Rattle.std.proofs.lemmas.Bool.{eqb-true, lt-ltb, and_parts, and_right}
use Rattle.line.specs.Messages.{Msg}
use Rattle.line.specs.Lists.{Lists, taken, sent}
use Rattle.notes.specs.Notes.{Notes}
use Rattle.steps.specs.Steps.{Step}
use Rattle.line.specs.Refusals.{between}
use Rattle.station.specs.Refusals.{refused}
use Rattle.steps.specs.Serving.{serve}
use Rattle.delivery.specs.Deliveries.{from_home, received, expected}
use Rattle.station.specs.Calls.{refusing, making, number, has_room}
use Rattle.delivery.specs.Taking.{delivering}
use Rattle.law.specs.State.{State, state, deliver, at, left, dropped, delivered, does}
use Rattle.law.specs.Law.{Fit}
use Rattle.law.proofs.Model.{Text, Down, Up, Link, World, wish_in, remote, fits_down, received_link, serve_world, fits_up, arrived_world, local, potential, link_sum}
use Rattle.law.proofs.Phases.{receives, Heard, hears}
use Rattle.law.proofs.Facts.{DownText, down_text, UpText, up_text}
use Rattle.law.proofs.Desks.{eqb_same, Inv, keeps_local}
use Rattle.law.proofs.Serves.{remote_lt}
use Rattle.law.proofs.Moves.{Kept, fits_of}
use Rattle.law.proofs.Page.{falls_down, arrival, falls_up}
use Rattle.law.proofs.Views.{as_down, as_up, downs, ups, linked, links, view, page_of, holds, awaits, Sound}
use Rattle.law.proofs.Lines.{turned, taken_same, taken_here, taken_other, sent_taken, Proper, clean_taken, Inward}
use Rattle.law.proofs.Homes.{remote_not}
use Rattle.law.proofs.Links.{link_after, received_is, received_in, received_text, expected_down}
use Rattle.law.proofs.Pages.{Sane, Moved}
use Rattle.law.proofs.Steps.{at_link, serve_page, step_page, serve_moved, step_moved}
use Rattle.law.proofs.Calls.{sound_here}
use Rattle.law.proofs.Arrivals.{hear_row, hear_text, received_up, heard_length, expected_up, arrived_is, heard_sound}

-- what a delivery that is made leaves
pub record Delivered (room n p : ℕ) (home : ℕ → ℕ) (book : ℕ → Text) (x : State) (a b g : ℕ) : Type 0 where
  pub after : State
  pub is : does room n p home (deliver a b) x ≡ (true, after)
  pub moved : Moved n p home g book x book after
  pub falls : link_sum n potential (page_of n (home g) (book g) after g).at < link_sum n potential (page_of n (home g) (book g) x g).at

module _ (room n p : ℕ) (home : ℕ → ℕ) (fit : Fit room n p home) (book : ℕ → Text) (x : State) (i : Sane n p home book x) (free : has_room room x.lists ≡ true) where
  -- the oldest message from a to b, where it is expected
  accepted : (a b : ℕ) (m : Msg) (rest : List Msg) → x.lists a b ≡ m ∷ rest → ltb a n ≡ true → ltb b n ≡ true → eqb a b ≡ false → m.page < p
      → expected a b (home m.page) m.kind m.text (x.rows b m.page) (x.texts b m.page) ≡ true
      → (o : Step) → received a b (home m.page) m.page m.kind m.text (x.rows b m.page) (x.texts b m.page) ≡ o
      → does room n p home (deliver a b) x ≡ (true, state (at b m.page o.notes x.rows) (at b m.page o.text x.texts) (sent o.posts (taken a b x.lists)))
  accepted a b m rest is la lb off l ex o is-o =
      (λ z. cond (la z && (lb z && not (off z))) (delivered room n p home a b (is z) x) (false, x))
      ∙ ap (λ c. cond c (left b g (dropped a b (delivering a b h g room m r t x.lists)) x) (false, x)) (lt-ltb g p l)
      ∙ (λ z. left b g (dropped a b (cond (ex z) (cond (free z) (making number x.lists (is-o z)) (refusing r t x.lists (refused 13 (between a b)))) (refusing r t x.lists (refused 12 (between a b))))) x)
      ∙ ap (λ (w : Lists). (true, state (at b g o.notes x.rows) (at b g o.text x.texts) w)) (sent_taken a b o.posts m rest x.lists is)
    where
      g : ℕ
      g = m.page

      h : ℕ
      h = home m.page

      r : Notes
      r = x.rows b m.page

      t : Text
      t = x.texts b m.page

  -- a message from the home
  down_delivers : (s : ℕ) (m : Msg) (rest : List Msg) → x.lists (home m.page) s ≡ m ∷ rest → m.page < p → from_home m.kind ≡ true → remote n (home m.page) s ≡ true
      → Delivered room n p home book x (home m.page) s m.page
  down_delivers s m rest is l down aw = record {
    after = y;
    is = accepted h s m rest is (lt-ltb h n (fit.homes g l)) (lt-ltb s n (remote_lt n h s aw)) (turned s h (remote_not n h s aw)) l
        (expected_down s h m.kind m.text (book g) fh fa (downs g rest) (downs g (x.lists h s)) (ups g (x.lists s h)) (x.rows s g) (x.texts s g) down text (i.long s g l) fits_now) o refl;
    moved = step_moved n p home s g o w1 book x l i aw inward up others (received_link (w.at s).down (w.at s)) is_k
        (keeps_local n h w s (received_link (w.at s).down (w.at s)) aw v (receives (v.pre.links s)).tamed)
        (received_text s h g m.kind m.text (book g) (downs g rest) (x.rows s g) (x.texts s g) down text (i.long s g l))
        (λ k e. taken_same k h s m rest x.lists is (turned k g e)) (clean_taken n p home h s x.lists i.clean);
    falls = subst (λ (z : World). link_sum n potential z.at < link_sum n potential w.at) (sym page_is)
        (falls_down n h w s v aw (ap (λ (d : List Down). ltb 0 (length d)) at_down ∙ grind (arith, nat_tests, down)));
  }
    where
      g : ℕ
      g = m.page

      h : ℕ
      h = home m.page

      w : World
      w = page_of n (home m.page) (book m.page) x m.page

      v : Inv n (home m.page) (page_of n (home m.page) (book m.page) x m.page)
      v = i.inv m.page l

      fh : Bool
      fh = holds x (home m.page) m.page s

      fa : Bool
      fa = awaits x (home m.page) m.page s

      o : Step
      o = received (home m.page) s (home m.page) m.page m.kind m.text (x.rows s m.page) (x.texts s m.page)

      w1 : Lists
      w1 = taken (home m.page) s x.lists

      y : State
      y = state (at s m.page o.notes x.rows) (at s m.page o.text x.texts) (sent o.posts w1)

      inward : Inward s (home m.page) m.page o.posts
      inward = received_in s h g m.kind m.text (x.rows s g) (x.texts s g) down

      not_home : eqb s (home m.page) ≡ false
      not_home = remote_not n h s aw

      list_is : downs m.page (x.lists (home m.page) s) ≡ as_down m.kind m.text ++ downs m.page rest
      list_is = ap (downs g) is ∙ ap (λ c. cond c (as_down m.kind m.text) [] ++ downs g rest) (eqb_same g)

      at_is : w.at s ≡ linked fh fa (x.rows s g) (x.texts s g) (downs g (x.lists h s)) (ups g (x.lists s h))
      at_is = at_link n h s g (book g) x aw

      at_down : (w.at s).down ≡ as_down m.kind m.text ++ downs g rest
      at_down = ap (λ (k : Link). k.down) at_is ∙ list_is

      text : DownText (book g) (as_down m.kind m.text ++ downs g rest)
      text = subst (DownText (book g)) at_down (down_text (v.pre.links s))

      fits_now : fits_down (as_down m.kind m.text ++ downs g rest) (linked fh fa (x.rows s g) (x.texts s g) (downs g (x.lists h s)) (ups g (x.lists s h))) ≡ true
      fits_now = sym (λ z. fits_down (at_down z) (at_is z)) ∙ (receives (v.pre.links s)).fits

      up : ups g (w1 s h) ≡ ups g (x.lists s h)
      up = ap (ups g) (taken_other h s s h x.lists (ap (λ c. c && eqb h s) not_home))

      others : (j : ℕ) → eqb j s ≡ false → remote n h j ≡ true → (downs g (w1 h j) ≡ downs g (x.lists h j)) × (ups g (w1 j h) ≡ ups g (x.lists j h))
      others j e q = (ap (downs g) (taken_other h s h j x.lists (and_right (eqb h h) (eqb j s) e)), ap (ups g) (taken_other h s j h x.lists (ap (λ c. c && eqb h s) (remote_not n h j q))))

      is_k : received_link (w.at s).down (w.at s) ≡ link_after s h g fh fa (downs g (w1 h s)) (ups g (x.lists s h)) o
      is_k = (λ z. received_link (at_down z) (at_is z))
          ∙ received_is s h g fh fa (downs g rest) (ups g (x.lists s h)) m.kind m.text (downs g (x.lists h s)) (x.rows s g) (x.texts s g) down
          ∙ ap (λ (d : List Down). link_after s h g fh fa d (ups g (x.lists s h)) o) (sym (ap (downs g) (taken_here h s m rest x.lists is)))

      page_is : page_of n h (book g) y g ≡ local s (received_link (w.at s).down (w.at s)) w
      page_is = step_page n h s g (book g) x o w1 aw inward up others ∙ sym (ap (λ (k : Link). local s k w) is_k)

  -- a message to the home
  up_delivers : (s : ℕ) (m : Msg) (rest : List Msg) → x.lists s (home m.page) ≡ m ∷ rest → m.page < p → from_home m.kind ≡ false → remote n (home m.page) s ≡ true
      → Delivered room n p home book x s (home m.page) m.page
  up_delivers s m rest is l up aw = record {
    after = y;
    is = accepted s h m rest is (lt-ltb s n (remote_lt n h s aw)) (lt-ltb h n (fit.homes g l)) (remote_not n h s aw) l
        (expected_up s h m.kind m.text (book g) (w.at s) (ups g rest) r (x.texts h g) up (let z = remote_lt n h s aw in let f = fit.stations in omega (arith, z, f)) (remote_not n h s aw)
        refl refl text (i.long h g l) fits_now)
        (serve h g t' r') (received_up s h h g m.kind m.text r (x.texts h g) up);
    moved = serve_moved n p home g r' t' w1 book x l i (heard_sound n h g s (book g) x m rest few aw is m.kind sound)
        (subst (Inv n h) served_is ar.inv)
        (heard_length m.kind m.text (book g) (x.texts h g) (ups g rest) text (i.long h g l))
        (λ k e. taken_same k s h m rest x.lists is (turned k g e)) (clean_taken n p home s h x.lists i.clean);
    falls = subst (λ (z : World). link_sum n potential z.at < link_sum n potential w.at)
        (served_is ∙ sym (serve_page n h g (book g) x r' t' w1 (heard_sound n h g s (book g) x m rest few aw is m.kind sound)))
        (falls_up n h w s v aw some_there);
  }
    where
      g : ℕ
      g = m.page

      h : ℕ
      h = home m.page

      few : n ≤ 8
      few = fit.stations

      w : World
      w = page_of n (home m.page) (book m.page) x m.page

      v : Inv n (home m.page) (page_of n (home m.page) (book m.page) x m.page)
      v = i.inv m.page l

      r : Notes
      r = x.rows (home m.page) m.page

      r' : Notes
      r' = hear_row m.kind s (x.rows (home m.page) m.page)

      t' : Text
      t' = hear_text m.kind m.text (x.texts (home m.page) m.page)

      w1 : Lists
      w1 = taken s (home m.page) x.lists

      y : State
      y = state (at h g (serve h g t' r').notes x.rows) (at h g t' x.texts) (sent (serve h g t' r').posts w1)

      sound : Sound n h (x.rows h g).home
      sound = sound_here room n p home fit g book x l i

      at_up : (w.at s).up ≡ as_up m.kind m.text ++ ups g rest
      at_up = ap (λ (k : Link). k.up) (at_link n h s g (book g) x aw) ∙ ap (ups g) is ∙ ap (λ c. cond c (as_up m.kind m.text) [] ++ ups g rest) (eqb_same g)

      heard : Heard (book g) w.mode (wish_in s w.queue) (w.at s) (w.at s).up
      heard = hears (v.pre.links s)

      text : UpText (book g) (as_up m.kind m.text ++ ups g rest)
      text = subst (UpText (book g)) at_up (up_text heard)

      fits_now : fits_up (as_up m.kind m.text ++ ups g rest) w.mode (wish_in s w.queue) (w.at s) ≡ true
      fits_now = sym (λ z. fits_up (at_up z) w.mode (wish_in s w.queue) (w.at s)) ∙ fits_of heard

      some_there : ltb 0 (length (w.at s).up) ≡ true
      some_there = ap (λ (u : List Up). ltb 0 (length u)) at_up ∙ grind (arith, nat_tests, up)

      ar : Kept n h w.at s (arrived_world n s (w.at s).up w)
      ar = arrival n h w s v aw some_there

      served_is : arrived_world n s (w.at s).up w ≡ serve_world n (view h t' (book g) r'.standing r'.home (links n h g x.rows x.texts w1))
      served_is = ap (λ (u : List Up). arrived_world n s u w) at_up ∙ arrived_is n h g s (book g) x m rest few aw is m.kind m.text up sound

  -- any oldest message
  pub delivers : (a b : ℕ) (m : Msg) (rest : List Msg) → x.lists a b ≡ m ∷ rest → (m.page < p) × Delivered room n p home book x a b m.page
  delivers a b m rest is = (q.0, go (from_home m.kind) refl q.1)
    where
      q : Proper n p home a b (m ∷ rest)
      q = subst (Proper n p home a b) is (i.clean a b)

      go : (c : Bool) → from_home m.kind ≡ c → cond c (eqb a (home m.page) && remote n (home m.page) b) (eqb b (home m.page) && remote n (home m.page) a) ≡ true
          → Delivered room n p home book x a b m.page
      go true e z =
          let f = and_parts (eqb a (home m.page)) (remote n (home m.page) b) z in
          subst (λ k. x.lists k b ≡ m ∷ rest → Delivered room n p home book x k b m.page) (sym (eqb-true a (home m.page) f.0)) (λ y. down_delivers b m rest y q.0 e f.1) is
      go false e z =
          let f = and_parts (eqb b (home m.page)) (remote n (home m.page) a) z in
          subst (λ k. x.lists a k ≡ m ∷ rest → Delivered room n p home book x a k m.page) (sym (eqb-true b (home m.page) f.0)) (λ y. up_delivers a m rest y q.0 e f.1) is
