-- What serving leaves and posts, and the notes of a home that an invariant makes sound.
use Rattle.std.proofs.Common.{◌≡◌, ℕ, ◌<◌, ◌≤◌, true, false, eqb, List, [], ◌∷◌, ◌++◌, refl, ap, ◌∙◌, append-nil, arith, None}
use mathlib.Core.Path.{fun_ext}
use Rattle.std.proofs.lemmas.Bool.Decides.{nat_tests}
use Rattle.std.proofs.lemmas.Bool.{true_from_ne_false, both_ways}
use Rattle.line.specs.Messages.{Msg}
use Rattle.line.specs.Lists.{Lists, posted, sent}
use Rattle.notes.specs.declared.row.Access.TheVariants.{Write}
use Rattle.notes.specs.declared.row.Standing.{Standing}
use Rattle.notes.specs.declared.queue.Entry.{Entry}
use Rattle.notes.specs.Notes.{Notes, HomeNotes, home_notes}
use Rattle.steps.specs.Serving.{left_by}
use Rattle.law.proofs.Model.{Text, Link, wish_in, remote, placed}
use Rattle.law.proofs.Desks.{Inv}
use Rattle.law.proofs.Serves.{outside_free}
use Rattle.law.proofs.Flags.{flag, without_small}
use Rattle.law.proofs.Views.{as_down, places, links, view, add_downs, post_all, Below, Sound}
use Rattle.law.proofs.Same.{in_its_way_held, Outward}
use Rattle.law.proofs.Lines.{downs_append, Posts}

pub outward_posts : (n h g : ℕ) (ms : List Msg) → Outward n h g ms → Posts n h g ms
outward_posts n h g [] o = tt
outward_posts n h g (m ∷ ms) o = (o.1, grind (arith, nat_tests, o), outward_posts n h g ms o.4)

pub remote_not : (n h s : ℕ) → remote n h s ≡ true → eqb s h ≡ false
remote_not n h s e = grind (arith, nat_tests)

-- stations of the queue
below_of : (n h : ℕ) (q : List Entry) → h < n → ((j : ℕ) → remote n h j ≡ false → wish_in j (places h q) ≡ None) → Below n q
below_of n h [] l f = tt
below_of n h (e ∷ q) l f = (grind (arith, nat_tests, f e.station), below_of n h q l (λ j x. grind (arith, f j x)))

pub sound_of : (n h : ℕ) (t b : Text) (st : Standing) (d : HomeNotes) (f : ℕ → Link) → n ≤ 8 → h < n → d.holders < 256 → d.awaited < 256 → Inv n h (view h t b st d f) → Sound n h d
sound_of n h t b st d f few l x y i = record {
  few = few;
  holders_small = x;
  awaited_small = y;
  holders_away = λ j e. true_from_ne_false (remote n h j) (λ z. both_ways _ (out j z).0 e);
  awaited_away = λ j e. true_from_ne_false (remote n h j) (λ z. both_ways _ (out j z).1 e);
  below = below_of n h d.queue l (λ j e. (i.pre.outside j e).1);
}
  where
    out : (j : ℕ) → remote n h j ≡ false → (flag j d.holders ≡ false) × (flag j d.awaited ≡ false)
    out = outside_free i.pre

below_end : (n : ℕ) (q : List Entry) (e : Entry) → Below n q → e.station < n → Below n (q ++ e ∷ [])
below_end n [] e b l = (l, tt)
below_end n (x ∷ q) e b l = (b.0, below_end n q e b.1 l)

pub sound_add : (n h : ℕ) (d : HomeNotes) (e : Entry) → Sound n h d → e.station < n → Sound n h (home_notes d.mode d.holders d.awaited (d.queue ++ e ∷ []))
sound_add n h d e o l = record { few = o.few; holders_small = o.holders_small; awaited_small = o.awaited_small; holders_away = o.holders_away; awaited_away = o.awaited_away; below = below_end n d.queue e o.below l }

pub sound_leave : (n h : ℕ) (d : HomeNotes) (s : ℕ) → s < 8 → Sound n h d → Sound n h (left_by s d)
sound_leave n h d s l o = record {
  few = o.few;
  holders_small = without_small d.holders s o.holders_small;
  awaited_small = without_small d.awaited s o.awaited_small;
  holders_away = λ j e. o.holders_away j (in_its_way_held Write d.holders s j l e);
  awaited_away = λ j e. o.awaited_away j (in_its_way_held Write d.awaited s j l e);
  below = o.below;
}

-- what the home posts, on the links of its page
one_post : (n h g : ℕ) (r : ℕ → ℕ → Notes) (t : ℕ → ℕ → Text) (w : Lists) (m : Msg) → m.sender ≡ h → m.page ≡ g → remote n h m.receiver ≡ true → (j : ℕ)
    → links n h g r t (posted m w) j ≡ placed (links n h g r t w) m.receiver (add_downs (as_down m.kind m.text) (links n h g r t w m.receiver)) j
unfolding posted
one_post n h g r t w m is-h is-g away j = grind (arith, nat_tests, is-h, is-g, away, downs_append g (w h j) (m ∷ []), append-nil (as_down m.kind m.text))

pub posts_are : (n h g : ℕ) (r : ℕ → ℕ → Notes) (t : ℕ → ℕ → Text) (ms : List Msg) (w : Lists) → Outward n h g ms → links n h g r t (sent ms w) ≡ post_all ms (links n h g r t w)
posts_are n h g r t [] w o = refl
posts_are n h g r t (m ∷ ms) w o = posts_are n h g r t ms (posted m w) o.4 ∙ ap (post_all ms) (fun_ext (one_post n h g r t w m o.0 o.1 o.2))
