-- A step of a house: at a page's home, or at a station away.
use Rattle.std.proofs.Common.{◌≡◌, ℕ, ◌<◌, true, false, cond, ◌&&◌, eqb, ◌++◌, length, sym, refl, ap, ◌∙◌, subst, Option}
use Rattle.notes.specs.declared.row.Access.{Access}
use Rattle.line.specs.Lists.{Lists, sent}
use Rattle.notes.specs.declared.row.Mode.{Mode}
use Rattle.notes.specs.Notes.{Notes}
use Rattle.steps.specs.Steps.{Step}
use Rattle.steps.specs.Serving.{serve, served_by}
use Rattle.law.specs.State.{State, state, at}
use Rattle.law.proofs.Model.{Text, Link, link, remote, serve_world, local, nobody}
use Rattle.law.proofs.Phases.{Phase, Tame}
use Rattle.law.proofs.Desks.{Inv, keeps_local}
use Rattle.law.proofs.Views.{downs, ups, linked, links, view, page_of, holds, awaits, Sound}
use Rattle.law.proofs.Same.{Serving, serve_is}
use Rattle.law.proofs.Lines.{turned, Posts, Same, same_line, same_trans, sent_same, Clean, clean_sent, Inward, ups_in, inward_ups, inward_apart, inward_posts}
use Rattle.law.proofs.Homes.{outward_posts, remote_not, posts_are}
use Rattle.law.proofs.Links.{link_after}
use Rattle.law.proofs.Pages.{at_here, at_station, home_page, away_page, Sane, Moved, moved}

-- the link of a station away
pub at_link : (n h s g : ℕ) (b : Text) (x : State) → remote n h s ≡ true
    → (page_of n h b x g).at s ≡ linked (holds x h g s) (awaits x h g s) (x.rows s g) (x.texts s g) (downs g (x.lists h s)) (ups g (x.lists s h))
at_link n h s g b x aw = ap (λ (l : Link). link (holds x h g s) (awaits x h g s) l.copied l.changed l.recall l.standing l.text l.down l.up)
    (ap (λ c. cond c (linked false false (x.rows s g) (x.texts s g) (downs g (x.lists h s)) (ups g (x.lists s h))) nobody) aw)

-- the home h has served: the page is served
pub serve_page : (n h g : ℕ) (b : Text) (x : State) (r : Notes) (t : Text) (w : Lists) → Sound n h r.home
    → page_of n h b (state (at h g (serve h g t r).notes x.rows) (at h g t x.texts) (sent (serve h g t r).posts w)) g
    ≡ serve_world n (view h t b r.standing r.home (links n h g x.rows x.texts w))
serve_page n h g b x r t w o =
    home_page n h g b x (serve h g t r).notes t (sent (serve h g t r).posts w)
    ∙ ap (view h t b (serve h g t r).notes.standing (serve h g t r).notes.home) (posts_are n h g x.rows x.texts (serve h g t r).posts w s.out)
    ∙ sym s.same
  where
    s : Serving n h g t b (links n h g x.rows x.texts w) (serve_world n (view h t b r.standing r.home (links n h g x.rows x.texts w))) (served_by h g t r.standing r.home)
    s = serve_is n h g t b r.standing r.home (links n h g x.rows x.texts w) o

-- station s away has made a step, after which the lists before its posts are w
module _ (n h s g : ℕ) (b : Text) (x : State) (o : Step) (w : Lists) (aw : remote n h s ≡ true) (inward : Inward s h g o.posts) where
  pub step_page : ups g (w s h) ≡ ups g (x.lists s h)
      → ((j : ℕ) → eqb j s ≡ false → remote n h j ≡ true → (downs g (w h j) ≡ downs g (x.lists h j)) × (ups g (w j h) ≡ ups g (x.lists j h)))
      → page_of n h b (state (at s g o.notes x.rows) (at s g o.text x.texts) (sent o.posts w)) g
      ≡ local s (link_after s h g (holds x h g s) (awaits x h g s) (downs g (w h s)) (ups g (x.lists s h)) o) (page_of n h b x g)
  step_page up others = away_page n h s g b x o.notes o.text (sent o.posts w) (downs g (w h s)) (ups g (x.lists s h) ++ ups_in o.posts) aw
      (ap (downs g) (inward_apart s h g h s o.posts w inward (ap (λ c. c && eqb s h) (turned s h (remote_not n h s aw)))))
      (inward_ups s h g o.posts w inward ∙ ap (λ u. u ++ ups_in o.posts) up)
      (λ j e q. (
        ap (downs g) (inward_apart s h g h j o.posts w inward (ap (λ c. c && eqb j h) (turned s h (remote_not n h s aw)))) ∙ (others j e q).0,
        ap (ups g) (inward_apart s h g j h o.posts w inward (ap (λ c. c && eqb h h) e)) ∙ (others j e q).1,
      ))

-- The steps of a house that keep its invariant.
module _ (n p : ℕ) (home : ℕ → ℕ) where
  -- the home of page g serves, with the lists w
  pub serve_moved : (g : ℕ) (r : Notes) (t : Text) (w : Lists) (book : ℕ → Text) (x : State) → g < p → Sane n p home book x → Sound n (home g) r.home
      → Inv n (home g) (serve_world n (view (home g) t (book g) r.standing r.home (links n (home g) g x.rows x.texts w)))
      → length t ≡ length (book g) → ((k : ℕ) → eqb k g ≡ false → Same k x.lists w) → Clean n p home w
      → Moved n p home g book x book (state (at (home g) g (serve (home g) g t r).notes x.rows) (at (home g) g t x.texts) (sent (serve (home g) g t r).posts w))
  serve_moved g r t w book x l i o v len same clean = moved n p home (home g) g (serve (home g) g t r).notes t (sent (serve (home g) g t r).posts w) book book x i (λ k e. refl)
      (subst (Inv n (home g)) (sym (serve_page n (home g) g (book g) x r t w o)) v)
      (subst (λ (z : Notes). (z.home.holders < 256) × (z.home.awaited < 256)) (sym (at_here (home g) g (serve (home g) g t r).notes x.rows)) (fine.holders, fine.awaited))
      len refl
      (λ k e. same_trans k x.lists w (sent (serve (home g) g t r).posts w) (same k e) (sent_same n (home g) k g (serve (home g) g t r).posts w posts (turned k g e)))
      (clean_sent n p home g (serve (home g) g t r).posts w l posts clean)
    where
      fine : Serving n (home g) g t (book g) (links n (home g) g x.rows x.texts w) (serve_world n (view (home g) t (book g) r.standing r.home (links n (home g) g x.rows x.texts w))) (served_by (home g) g t r.standing r.home)
      fine = serve_is n (home g) g t (book g) r.standing r.home (links n (home g) g x.rows x.texts w) o

      posts : Posts n (home g) g (serve (home g) g t r).posts
      posts = outward_posts n (home g) g (serve (home g) g t r).posts fine.out

  -- a station away makes a step, with the lists w
  pub step_moved : (s g : ℕ) (o : Step) (w : Lists) (book : ℕ → Text) (x : State) → g < p → Sane n p home book x → remote n (home g) s ≡ true → Inward s (home g) g o.posts
      → ups g (w s (home g)) ≡ ups g (x.lists s (home g))
      → ((j : ℕ) → eqb j s ≡ false → remote n (home g) j ≡ true → (downs g (w (home g) j) ≡ downs g (x.lists (home g) j)) × (ups g (w j (home g)) ≡ ups g (x.lists j (home g))))
      → (k : Link) → k ≡ link_after s (home g) g (holds x (home g) g s) (awaits x (home g) g s) (downs g (w (home g) s)) (ups g (x.lists s (home g))) o
      → Inv n (home g) (local s k (page_of n (home g) (book g) x g))
      → length o.text ≡ length (book g) → ((k : ℕ) → eqb k g ≡ false → Same k x.lists w) → Clean n p home w
      → Moved n p home g book x book (state (at s g o.notes x.rows) (at s g o.text x.texts) (sent o.posts w))
  step_moved s g o w book x l i aw inward up others k is_k v len same clean = moved n p home s g o.notes o.text (sent o.posts w) book book x i (λ k e. refl)
      (subst (Inv n (home g)) (ap (λ (y : Link). local s y (page_of n (home g) (book g) x g)) is_k ∙ sym (step_page n (home g) s g (book g) x o w aw inward up others)) v)
      (subst (λ (z : Notes). (z.home.holders < 256) × (z.home.awaited < 256)) (sym (at_station s g o.notes x.rows (home g) g (turned s (home g) (remote_not n (home g) s aw)))) (i.small g l))
      len refl
      (λ k e. same_trans k x.lists w (sent o.posts w) (same k e) (sent_same n (home g) k g o.posts w posts (turned k g e)))
      (clean_sent n p home g o.posts w l posts clean)
    where
      posts : Posts n (home g) g o.posts
      posts = inward_posts n s (home g) g o.posts aw inward

  -- a call of a station away: its link k, by a step of its own
  pub call_moved : (s g : ℕ) (o : Step) (book : ℕ → Text) (x : State) → g < p → Sane n p home book x → remote n (home g) s ≡ true → Inward s (home g) g o.posts
      → (f : Link → Link)
      → f (linked (holds x (home g) g s) (awaits x (home g) g s) (x.rows s g) (x.texts s g) (downs g (x.lists (home g) s)) (ups g (x.lists s (home g))))
      ≡ link_after s (home g) g (holds x (home g) g s) (awaits x (home g) g s) (downs g (x.lists (home g) s)) (ups g (x.lists s (home g))) o
      → ((m : Mode) (q : Option Access) (y : Link) → Phase (book g) m q y → Tame (book g) m q y (f y))
      → o.text ≡ x.texts s g
      → Moved n p home g book x book (state (at s g o.notes x.rows) (at s g o.text x.texts) (sent o.posts x.lists))
  call_moved s g o book x l i aw inward f is_f tames is-text = step_moved s g o x.lists book x l i aw inward refl (λ j e q. (refl, refl))
      (f ((page_of n (home g) (book g) x g).at s)) (ap f (at_link n (home g) s g (book g) x aw) ∙ is_f)
      (keeps_local n (home g) (page_of n (home g) (book g) x g) s (f ((page_of n (home g) (book g) x g).at s)) aw (i.inv g l) (tames _ _ _ ((i.inv g l).pre.links s)))
      (ap length is-text ∙ i.long s g l)
      (λ k e. same_line k x.lists) i.clean
