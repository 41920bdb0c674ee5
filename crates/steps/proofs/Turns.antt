-- The turns of serving: where it stands before and after each.
use Rattle.std.proofs.Common.{◌≡◌, ℕ, ◌+◌, ◌<◌, ◌≤◌, Bool, true, false, eqb, List, [], ◌∷◌, length, drop, Some, None, sym, refl, ap, ◌∙◌, subst, arith}
use lib.ListN.{length-map}
use Rattle.std.proofs.lemmas.Bool.Decides.{nat_tests}
use Rattle.line.specs.declared.kind.Kind.TheVariants.{Invalidate}
use Rattle.line.specs.Messages.{Msg, msg}
use Rattle.line.specs.Lists.{Lists, total, sent}
use Rattle.line.proofs.Totals.{total_posted}
use Rattle.notes.specs.declared.queue.Entry.{Entry}
use Rattle.notes.specs.declared.set.StationSet.{StationSet}
use Rattle.notes.specs.Sets.{isin, members}
use Rattle.notes.specs.Queues.{oldest}
use Rattle.notes.specs.Notes.{Notes}
use Rattle.steps.specs.declared.serve.Verdict.TheVariants.{Grant, Recall, Wait}
use Rattle.steps.specs.Steps.{Step, step, done}
use Rattle.steps.specs.Serving.{recalls, serve, granted, grant}
use Rattle.steps.specs.Steps.{Counted}
use Rattle.steps.specs.Soundness.{Sound}
use Rattle.steps.proofs.Crowds.{at_most_eight}
use Rattle.steps.proofs.Servings.{turn, awaiting, serve_stays, serve_recalls, serve_grants, few_posts, Going}
use Rattle.steps.proofs.Kept.{first_in, granted_sound, awaiting_sound, recalled_away}

pub none_is : (q : List Entry) → None ≡ oldest q → q ≡ []
none_is q x = grind arith

-- the first entry of any queue
pub head_is : (q : List Entry) (e : Entry) → Some e ≡ oldest q → q ≡ e ∷ drop 1 q
head_is q e x = grind (arith, x)

-- a grant adds its messages to those that wait
total_granted : (h g : ℕ) (t : List ℕ) (e : Entry) (r : Notes) (w : Lists) → h < 8 → e.station < 8
    → total (sent (granted h g t e r).posts w) ≡ total w + length (granted h g t e r).posts
total_granted h g t e r w lh ls = grind (arith, total_posted (grant h g t e.access e.station (isin e.station r.home.holders)) w)

-- Serving stands at r with the first entry e, and nobody is awaited.
pub record Turn (h g : ℕ) (t : List ℕ) (room : ℕ) (r0 : Notes) (w0 : Lists) (r : Notes) (w : Lists) (n : ℕ) (e : Entry) : Type 0 where
  pub going : Going h g t room r0 w0 r w n
  pub first : r.home.queue ≡ e ∷ drop 1 r.home.queue
  pub calm : r.home.awaited ≡ 0
  pub home_in : h < 8

module _ {h g : ℕ} {t : List ℕ} {room : ℕ} {r0 : Notes} {w0 : Lists} where
  pub begins : Sound h r0 → total w0 + 16 ≤ room → Going h g t room r0 w0 r0 w0 0
  begins o f =
      let n = few_posts h g t r0 (at_most_eight r0.home.queue o.apart) in
      record { same = refl; count = omega arith; added = omega arith; free = omega (arith, n, f); few = n; sound = o }

  module _ {r : Notes} {w : Lists} {n : ℕ} (i : Going h g t room r0 w0 r w n) where
    -- serving ends with the messages ms
    ends : (r' : Notes) (w' : Lists) (m : ℕ) (ms : List Msg) → serve h g t r ≡ step r' t ms → w' ≡ sent ms w → m ≡ length ms
        → ((r', t, w') ≡ done (serve h g t r0) w0) × (n + m ≡ length (serve h g t r0).posts)
    ends r' w' m ms e f c =
        (ap (λ v. (r', t, v)) f ∙ sym (ap (λ (o : Step). done o w) e) ∙ i.same, ap (λ k. n + k) (c ∙ sym (ap (λ (o : Step). length o.posts) e)) ∙ i.count)

    -- nothing more is done
    pub stops : serve h g t r ≡ step r t [] → ((r, t, w) ≡ done (serve h g t r0) w0) × (n ≡ length (serve h g t r0).posts) × Counted w0 w n
    stops e = let x = ends r w 0 [] e refl refl in let m = i.few in (x.0, omega (arith, x.1), (i.added, omega (arith, x.1, m)))

    pub turn_of : {e : Entry} {b : Bool} → Some e ≡ oldest r.home.queue → b ≡ eqb r.home.awaited 0 → b ≡ true → h < 8 → Turn h g t room r0 w0 r w n e
    turn_of first is on lh = record { going = i; first = grind (arith, first); calm = grind (arith, nat_tests, is, on); home_in = lh }

  module _ {r : Notes} {w : Lists} {n : ℕ} {e : Entry} (k : Turn h g t room r0 w0 r w n e) where
    pub in_range : e.station < 8
    in_range = first_in h g t e (drop 1 r.home.queue) r k.home_in k.going.sound k.first k.calm

    pub some_left : 0 < length r.home.queue
    some_left = omega (arith, ap length k.first)

    pub waits_stops : Wait ≡ turn e r → ((r, t, w) ≡ done (serve h g t r0) w0) × (n ≡ length (serve h g t r0).posts) × Counted w0 w n
    waits_stops v = stops k.going (serve_stays h g t r e (drop 1 r.home.queue) k.first k.calm (sym v))

    module _ (v : Grant ≡ turn e r) where
      both : (done (serve h g t r) w ≡ done (serve h g t (granted h g t e r).notes) (sent (granted h g t e r).posts w))
          × (length (serve h g t r).posts ≡ length (granted h g t e r).posts + length (serve h g t (granted h g t e r).notes).posts)
      both = serve_grants h g t r e (drop 1 r.home.queue) k.first k.calm w (sym v)

      pub grant_free : total w + length (granted h g t e r).posts ≤ room
      grant_free = omega (arith, k.going.free, both.1)

      pub goes : (r' : Notes) (w' : Lists) (m : ℕ) → (r', t, w') ≡ done (granted h g t e r) w → m ≡ length (granted h g t e r).posts → Going h g t room r0 w0 r' w' (n + m)
      goes r' w' m d c =
          let er : (granted h g t e r).notes ≡ r' = sym (ap (λ (x : Notes × List ℕ × Lists). x.0) d) in
          let ew : sent (granted h g t e r).posts w ≡ w' = sym (ap (λ (x : Notes × List ℕ × Lists). x.2) d) in
          subst (λ (x : Notes). Going h g t room r0 w0 x w' (n + m)) er
          (subst (λ (x : Lists). Going h g t room r0 w0 (granted h g t e r).notes x (n + m)) ew
          (record {
            same = sym both.0 ∙ k.going.same;
            count = omega (arith, k.going.count, both.1, c);
            added = omega (arith, k.going.added, c, total_granted h g t e r w k.home_in in_range);
            free = omega (arith, k.going.free, both.1, total_granted h g t e r w k.home_in in_range);
            few = k.going.few;
            sound = granted_sound h g t e (drop 1 r.home.queue) r k.home_in k.going.sound k.first k.calm;
          }))

    module _ {s : StationSet} (v : Recall s ≡ turn e r) where
      pub recall_away : isin h s.bits ≡ false
      recall_away = recalled_away h r e s k.home_in in_range k.going.sound (sym v)

      posts : serve h g t r ≡ step (awaiting s r) t (recalls h g s.bits)
      posts = serve_recalls h g t r e (drop 1 r.home.queue) k.first k.calm s (sym v)

      pub recall_free : total w + length (members s.bits) ≤ room
      recall_free = omega (arith, k.going.free, ap (λ (o : Step). length o.posts) posts, length-map (members s.bits) (λ k. msg h k g Invalidate []))

      pub recall_ends : (w' : Lists) (m : ℕ) → w' ≡ sent (recalls h g s.bits) w → m ≡ length (members s.bits) → total w' ≡ total w + m
          → ((awaiting s r, t, w') ≡ done (serve h g t r0) w0) × (n + m ≡ length (serve h g t r0).posts) × Counted w0 w' (n + m) × Sound h (awaiting s r)
      recall_ends w' m f c a =
          let x = ends k.going (awaiting s r) w' m (recalls h g s.bits) posts f (c ∙ sym (length-map (members s.bits) _)) in
          let few = k.going.few in let added = k.going.added in
          (x.0, x.1, (omega (arith, a, added), omega (arith, x.1, few)), awaiting_sound h r e s in_range k.going.sound (sym v))
