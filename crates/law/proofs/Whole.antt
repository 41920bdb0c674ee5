-- The law of a house.
use Rattle.std.proofs.Common.{◌≡◌, ℕ, ◌+◌, ◌-◌, ◌<◌, ◌≤◌, Bool, true, false, cond, List, [], ◌∷◌, sym, refl, ap, ◌∙◌, subst, None, arith}
use Rattle.std.proofs.lemmas.Bool.Decides.{nat_tests}
use Rattle.std.proofs.lemmas.Bool.{le-leb, cond_both}
use Rattle.line.specs.Messages.{Msg}
use Rattle.line.specs.Lists.{sum_to}
use Rattle.notes.specs.declared.row.Standing.TheVariants.{Idle}
use Rattle.notes.specs.declared.row.Mode.TheVariants.{Own}
use Rattle.notes.specs.Notes.{Notes, blank, is_open, is_writing, is_waiting}
use Rattle.line.specs.Lists.{total}
use Rattle.station.specs.Calls.{has_room}
use Rattle.law.specs.State.{State, start, end, flush, put, deliver, Outcome, does}
use Rattle.law.specs.Law.{bound, Fit, New, Reached, new, next, Law}
use Rattle.law.proofs.Sums.{sum_le, sum_zero, sum_lt, sum_bound}
use Rattle.law.proofs.Model.{Text, Link, link, World, world, remote, nobody, messages, potential, link_sum}
use Rattle.law.proofs.Phases.{Phase, quiet, never, never'}
use Rattle.law.proofs.Desks.{Inv}
use Rattle.law.proofs.Page.{stands_at, text_at, alone_all, fresh_all, waits_all, bounded, enough}
use Rattle.law.proofs.Flags.{flag, flag_zero}
use Rattle.law.proofs.Views.{downs, ups, linked, view, page_of}
use Rattle.law.proofs.Lines.{Proper}
use Rattle.law.proofs.Pages.{Sane}
use Rattle.law.proofs.Steps.{at_link}
use Rattle.law.proofs.Calls.{start_keeps, end_keeps, flush_keeps}
use Rattle.law.proofs.Puts.{put_keeps}
use Rattle.law.proofs.Delivers.{delivers}
use Rattle.law.proofs.Counts.{count_all}

-- the potential of a house
abbrev pub house_potential : (n p : ℕ) → (ℕ → ℕ) → State → ℕ
house_potential n p home x = sum_to p (λ g. link_sum n potential (page_of n (home g) [] x g).at)

-- a page after set-up
module _ (n h g : ℕ) (b : Text) (x : State) (rows : (s k : ℕ) → x.rows s k ≡ blank) (text : x.texts h g ≡ b) (lists : (i j : ℕ) → x.lists i j ≡ []) where
  new_link : ℕ → Link
  new_link j = cond (remote n h j) (link false false None false false Idle (x.texts j g) [] []) nobody

  new_page : World
  new_page = world Own Idle b b [] new_link

  new_is : new_page ≡ page_of n h b x g
  unfolding new_page new_link
  new_is = (λ z. world Own Idle b b [] (λ j. links_are j (remote n h j) z))
      ∙ sym (λ z. view h (text z) b (rows h g z).standing (rows h g z).home (λ j. cond (remote n h j) (linked false false (rows j g z) (x.texts j g) (downs g (lists h j z)) (ups g (lists j h z))) nobody))
    where
      links_are : (j : ℕ) (c : Bool) → cond c (link false false None false false Idle (x.texts j g) [] []) nobody
          ≡ link (flag j 0) (flag j 0) (cond c (linked false false blank (x.texts j g) [] []) nobody).copied (cond c (linked false false blank (x.texts j g) [] []) nobody).changed
          (cond c (linked false false blank (x.texts j g) [] []) nobody).recall (cond c (linked false false blank (x.texts j g) [] []) nobody).standing (cond c (linked false false blank (x.texts j g) [] []) nobody).text
          (cond c (linked false false blank (x.texts j g) [] []) nobody).down (cond c (linked false false blank (x.texts j g) [] []) nobody).up
      links_are j c = grind (arith, flag_zero j)

  quiet_link : (j : ℕ) → Phase b Own None (new_link j)
  unfolding new_link
  quiet_link j = cond_both (remote n h j) _ _ (Phase b Own None) (λ _. quiet false) (λ _. quiet false)

  pub new_inv : Inv n h (page_of n h b x g)
  unfolding new_page new_link
  new_inv = subst (Inv n h) new_is (record {
    pre = record {
      links = quiet_link;
      outside = λ j e. (ap (λ c. cond c (link false false None false false Idle (x.texts j g) [] []) nobody) e, refl);
      distinct = tt;
      own_wish = refl;
      held = never';
      single = never;
      home_writes = never;
      home_open = never;
      fresh = λ _. refl;
    };
    settled = λ _. refl;
  })

module _ (room n p : ℕ) (home : ℕ → ℕ) (fit : Fit room n p home) where
  new_sane : (book : ℕ → Text) (x : State) → New p home book x → Sane n p home book x
  new_sane book x o = record {
    inv = λ g l. new_inv n (home g) g (book g) x o.rows (o.texts g l) o.lists;
    small = λ g l. subst (λ (r : Notes). (r.home.holders < 256) × (r.home.awaited < 256)) (sym (o.rows (home g) g)) (omega arith, omega arith);
    long = o.lengths;
    clean = λ a b. subst (Proper n p home a b) (sym (o.lists a b)) tt;
  }

  bounded_all : (book : ℕ → Text) (x : State) → Sane n p home book x → house_potential n p home x ≤ bound p n
  bounded_all book x i = sum_bound p (λ g. link_sum n potential (page_of n (home g) [] x g).at) (n - 1)
      (λ g l. bounded n (home g) (page_of n (home g) (book g) x g) (i.inv g l) (fit.homes g l))

  free_all : (book : ℕ → Text) (x : State) → Sane n p home book x → total x.lists + 16 ≤ room
  free_all book x i =
      let a = count_all n p home x fit.stations fit.homes i.clean in
      let b = sum_le p (λ g. link_sum n messages (page_of n (home g) [] x g).at) (λ g. link_sum n potential (page_of n (home g) [] x g).at) (λ g l. enough n (page_of n (home g) [] x g)) in
      let c = bounded_all book x i in
      let d = fit.places in
      omega (arith, a, b, c, d)

  has_room_lem : (book : ℕ → Text) (x : State) → Sane n p home book x → has_room room x.lists ≡ true
  has_room_lem book x i = le-leb (total x.lists + 16) room (free_all book x i)

  -- nothing to deliver
  none_there : (a b : ℕ) (x : State) → x.lists a b ≡ [] → does room n p home (deliver a b) x ≡ (false, x)
  none_there a b x e = grind (arith, e)

  deliver_keeps : (a b : ℕ) (book : ℕ → Text) (x : State) → Sane n p home book x → Sane n p home book (does room n p home (deliver a b) x).1
  deliver_keeps a b book x i = go (x.lists a b) refl
    where
      go : (ms : List Msg) → x.lists a b ≡ ms → Sane n p home book (does room n p home (deliver a b) x).1
      go [] e = subst (λ (o : Outcome). Sane n p home book o.1) (sym (none_there a b x e)) i
      go (m ∷ rest) e = let d = (delivers room n p home fit book x i (has_room_lem book x i) a b m rest e).1 in subst (λ (o : Outcome). Sane n p home book o.1) (sym d.is) d.moved.sane

  sane : (book : ℕ → Text) (x : State) → Reached room n p home book x → Sane n p home book x
  sane book x (new o) = new_sane book x o
  sane _ _ (next {book = book} {x = x} r (start s g a)) = start_keeps room n p home fit s g a book x (sane book x r)
  sane _ _ (next {book = book} {x = x} r (end s g)) = end_keeps room n p home fit s g book x (sane book x r)
  sane _ _ (next {book = book} {x = x} r (flush s g)) = flush_keeps room n p home fit s g book x (sane book x r)
  sane _ _ (next {book = book} {x = x} r (put s g k xs)) = put_keeps room n p home s g k xs book x (sane book x r)
  sane _ _ (next {book = book} {x = x} r (deliver a b)) = deliver_keeps a b book x (sane book x r)

  -- how a station stands, and its text, in the page and in the house
  module _ (book : ℕ → Text) (x : State) (i : Sane n p home book x) (g : ℕ) (l : g < p) where
    stands_is : (s : ℕ) → s < n → stands_at (home g) (page_of n (home g) (book g) x g) s ≡ (x.rows s g).standing
    stands_is s ls = grind (arith, nat_tests, λ (e : remote n (home g) s ≡ true). ap (λ (k : Link). k.standing) (at_link n (home g) s g (book g) x e))

    text_is : (s : ℕ) → s < n → text_at (home g) (page_of n (home g) (book g) x g) s ≡ x.texts s g
    text_is s ls = grind (arith, nat_tests, λ (e : remote n (home g) s ≡ true). ap (λ (k : Link). k.text) (at_link n (home g) s g (book g) x e))

    no_messages : ((a b : ℕ) → x.lists a b ≡ []) → link_sum n messages (page_of n (home g) (book g) x g).at ≡ 0
    no_messages e = sum_zero n (λ k. messages ((page_of n (home g) (book g) x g).at k)) (λ k _. grind (arith, e (home g) k, e k (home g)))

    alone_here : (s k : ℕ) → s < n → k < n → is_writing (x.rows s g).standing ≡ true → is_open (x.rows k g).standing ≡ true → s ≡ k
    alone_here s k ls lk w o = alone_all n (home g) (page_of n (home g) (book g) x g) (i.inv g l) s k (ap is_writing (stands_is s ls) ∙ w) (ap is_open (stands_is k lk) ∙ o)

    fresh_here : (s : ℕ) → s < n → is_open (x.rows s g).standing ≡ true → x.texts s g ≡ book g
    fresh_here s ls o = sym (text_is s ls) ∙ fresh_all n (home g) (page_of n (home g) (book g) x g) (i.inv g l) s (ap is_open (stands_is s ls) ∙ o)

    released_here : ((a b : ℕ) → x.lists a b ≡ []) → (s : ℕ) → s < n → is_waiting (x.rows s g).standing ≡ true → (j : ℕ) × (j < n) × (j ≡ s → ⊥) × (is_open (x.rows j g).standing ≡ true)
    released_here e s ls w =
        let r = waits_all n (home g) (page_of n (home g) (book g) x g) (i.inv g l) (no_messages e) s (fit.homes g l) (ap is_waiting (stands_is s ls) ∙ w) in
        (r.0, r.1, r.2, ap is_open (sym (stands_is r.0 r.1)) ∙ r.3)

  goes_all : (book : ℕ → Text) (x : State) → Sane n p home book x → (a b : ℕ) (m : Msg) (rest : List Msg) → x.lists a b ≡ m ∷ rest → (does room n p home (deliver a b) x).0 ≡ true
  goes_all book x i a b m rest e = ap (λ (o : Outcome). o.0) (delivers room n p home fit book x i (has_room_lem book x i) a b m rest e).1.is

  falls_all : (book : ℕ → Text) (x : State) → Sane n p home book x → (a b : ℕ) → (does room n p home (deliver a b) x).0 ≡ true
      → house_potential n p home (does room n p home (deliver a b) x).1 < house_potential n p home x
  falls_all book x i a b t = go (x.lists a b) refl
    where
      go : (ms : List Msg) → x.lists a b ≡ ms → house_potential n p home (does room n p home (deliver a b) x).1 < house_potential n p home x
      go [] e = never (sym (ap (λ (o : Outcome). o.0) (none_there a b x e)) ∙ t)
      go (m ∷ rest) e =
          let q = delivers room n p home fit book x i (has_room_lem book x i) a b m rest e in
          let d = q.1 in
          subst (λ (o : Outcome). house_potential n p home o.1 < house_potential n p home x) (sym d.is)
          (sum_lt p (λ g. link_sum n potential (page_of n (home g) [] d.after g).at) (λ g. link_sum n potential (page_of n (home g) [] x g).at) m.page q.0
          (λ k z. let e = ap (λ (w : World). link_sum n potential w.at) (d.moved.others k z) in omega (arith, e)) d.falls)

pub law : Law
law room n p home fit = (
  house_potential n p home,
  λ book x r. let i : Sane n p home book x = sane room n p home fit book x r in record {
    alone = λ g s k l ls lk. alone_here room n p home fit book x i g l s k ls lk;
    fresh = λ g s l ls. fresh_here room n p home fit book x i g l s ls;
    goes = goes_all room n p home fit book x i;
    falls = falls_all room n p home fit book x i;
    bounded = bounded_all room n p home fit book x i;
    free = free_all room n p home fit book x i;
    released = λ e g s l ls. released_here room n p home fit book x i g l e s ls;
  },
)
