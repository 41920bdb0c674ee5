-- Messages posted one after another.
use Rattle.std.proofs.Common.{◌≡◌, ℕ, zero, suc, ◌+◌, ◌<◌, ◌≤◌, Bool, true, false, cond, ◌||◌, eqb, leb, List, [], ◌∷◌, ◌++◌, map, length, All, Some, None, Option, sym, refl, ap, ◌∙◌, ⊎_elim, arith, length-append}
use Rattle.std.proofs.lemmas.Bool.Decides.{nat_tests}
use Rattle.std.proofs.lemmas.List.Elements.{All-nil, All-cons, All-head, All-rest, All-append}
use Rattle.std.proofs.lemmas.Bool.{true≢false, cases_eq}
use Rattle.line.specs.declared.fault.Misfit.{Misfit}
use Rattle.line.specs.declared.fault.Misfit.TheVariants.{Receiver, Page, Sender}
use Rattle.line.specs.declared.kind.Kind.TheVariants.{Invalidate}
use Rattle.line.specs.Messages.{Msg, msg, Fits}
use Rattle.line.specs.Lists.{Lists, total, posted, sent}
use Rattle.line.proofs.Totals.{total_posted}
use Rattle.notes.specs.Sets.{isin, members_below, members}

pub sent-++ : (xs ys : List Msg) (w : Lists) → sent (xs ++ ys) w ≡ sent ys (sent xs w)
sent-++ [] ys w = refl
sent-++ (x ∷ xs) ys w = sent-++ xs ys (posted x w)

-- the stations below n among those below k
pub fewer : (n k m : ℕ) → n ≤ k → length (members_below n m) ≤ length (members_below k m)
unfolding members_below
fewer zero zero m le = omega arith
fewer (suc n) zero m le = absurd (omega arith)
fewer n (suc k) m le =
    ⊎_elim
    (λ (e : n ≡ suc k). rw e (omega arith))
    (λ (e : n ≡ suc k → ⊥).
    let h = fewer n k m (omega arith) in
    rw (length-append (members_below k m) (cond (isin k m) (k ∷ []) [])) (omega (arith, h)))
    (cases_eq n (suc k))

-- who is in a set and who is not
pub apart : (h k m : ℕ) → isin h m ≡ false → isin k m ≡ true → k ≡ h → ⊥
apart h k m f t e = true≢false (sym t ∙ ap (λ j. isin j m) e ∙ f)

-- the messages that call back these stations
abbrev calls : ℕ → ℕ → List ℕ → List Msg
calls h g ks = map (λ k. msg h k g Invalidate []) ks

-- a station that is not the home
abbrev pub Other : ℕ → ℕ → Type 0
Other h k = (k < 8) × (k ≡ h → ⊥)

-- From the lists w to the lists x the stations ms were called back but for ks, which are to come.
pub record Calling (h g : ℕ) (ms : List ℕ) (w : Lists) (ks : List ℕ) (x : Lists) : Type 0 where
  pub lists : sent (calls h g ks) x ≡ sent (calls h g ms) w
  pub count : total x + length ks ≡ total w + length ms
  pub able : All (Other h) ks

-- the stations of a set without the home
others : (h m n : ℕ) → isin h m ≡ false → n ≤ 8 → All (Other h) (members_below n m)
unfolding members_below
others h m zero a le = All-nil (Other h)
others h m (suc n) a le = All-append (Other h) _ _ (others h m n a (omega arith)) (go (isin n m) refl)
  where
    go : (b : Bool) → isin n m ≡ b → All (Other h) (cond b (n ∷ []) [])
    go true t = All-cons (Other h) n [] (omega arith, λ e. true≢false (sym t ∙ ap (λ j. isin j m) e ∙ a)) (All-nil (Other h))
    go false t = All-nil (Other h)

module _ (h g m : ℕ) (w : Lists) (away : isin h m ≡ false) where
  pub none_called : (ks : List ℕ) → ks ≡ members m → Calling h g (members m) w ks w
  none_called ks e = rw e (record { lists = refl; count = refl; able = others h m 8 away (omega arith) })

  pub calls_one : (k : ℕ) (js ks : List ℕ) (x u : Lists) → Calling h g (members m) w js x → js ≡ k ∷ ks → u ≡ posted (msg h k g Invalidate []) x → h < 8
      → Calling h g (members m) w ks u
  calls_one k js ks x u c i e lh =
      let t = ap total e ∙ total_posted (msg h k g Invalidate []) x lh (All-head (Other h) k ks (rw i at c.able)).0 in
      record {
        lists = ap (λ y. sent (calls h g ks) y) e ∙ ap (λ ls. sent (calls h g ls) x) (sym i) ∙ c.lists;
        count = omega (arith, t, c.count, ap length i);
        able = All-rest (Other h) k ks js i c.able;
      }

-- three tests that no misfit was found by
passed : (a b c : Bool) (x y z : Misfit) (o : Option Misfit) → cond a (Some x) (cond b (Some y) (cond c (Some z) o)) ≡ None → (a ≡ false) × (c ≡ false)
passed a b c x y z o e = grind arith

-- the stations of a message are below 8
pub in_range : (m : Msg) → Fits m → (m.sender < 8) × (m.receiver < 8)
in_range m f =
    let p = passed (leb 8 m.receiver) (leb 16 m.page) (leb 8 m.sender || eqb m.sender m.receiver) Receiver Page Sender _ f in
    grind (arith, nat_tests, p)
