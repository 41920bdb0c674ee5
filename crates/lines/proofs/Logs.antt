-- What posting, counting, peeking and taking off do to the lists of a log.
use Rattle.std.proofs.Common.{◌≡◌, ℕ, ◌<◌, Bool, position, get_or, true, false, cond, ◌&&◌, eqb, ltb, List, [], ◌∷◌, ◌++◌, filter, length, Ok, None, Some, Option, Result, sym, refl, ap, ◌∙◌, ⊎_elim, append-nil, arith}
use mathlib.Core.Path.{fun_ext}
use Rattle.std.specs.List.{All, find, remove, position_or_len}
use Rattle.std.specs.Option.{ok_or, option_map}
use Rattle.std.specs.Result.{result_map_both}
use Rattle.line.specs.declared.fault.LineFault.{LineFault}
use Rattle.line.specs.declared.fault.LineFault.TheVariants.{Empty}
use Rattle.std.proofs.lemmas.List.Elements.{All-head, All-tail, filter-append}
use Rattle.std.proofs.lemmas.Bool.{cases_Bool, and_parts, ltb-true}
use Rattle.line.specs.declared.refusal.Refusal.{Refusal}
use Rattle.line.specs.Refusals.{refused, told, pair_of, between}
use Rattle.line.specs.Messages.{Msg}
use Rattle.line.specs.Lists.{pair, paired, empty, total, posted, behind, taken, sum_to, pairing, counting, peeking, oldest, Change, posting, dropping, taking}
use Rattle.line.proofs.Totals.{total_more, posting_free}
use Rattle.lines.specs.Logs.{goes, of, searched}

-- m is between two different stations
abbrev pub Proper : Msg → Type 0
Proper m = pair m.sender m.receiver ≡ true

-- nothing waits where the log is empty
pub none : paired (of []) ≡ empty
unfolding paired of
none = fun_ext (λ a. fun_ext (λ b. grind arith))

-- a message posted last is last in its pair's list
posted_of : (xs : List Msg) (m : Msg) → Proper m → paired (of (xs ++ m ∷ [])) ≡ posted m (paired (of xs))
unfolding paired of posted
posted_of xs m p =
    fun_ext (λ a. fun_ext (λ b. grind (arith, filter-append (goes a b) xs (m ∷ []), append-nil (filter (goes a b) xs), p)))

-- without the pair's oldest message, that is gone from its list, and every other list stands
taken_at : (xs : List Msg) (a b p q : ℕ) → of (remove xs (position_or_len (goes a b) xs)) p q ≡ cond (eqb p a && eqb q b) (behind (of xs p q)) (of xs p q)
unfolding of
taken_at [] a b p q = grind arith
taken_at (m ∷ xs) a b p q =
    ⊎_elim
    (λ (t : goes a b m ≡ true). rw t (grind (arith, t)))
    (λ (t : goes a b m ≡ false). rw t (grind (arith, t, taken_at xs a b p q)))
    (cases_Bool (goes a b m))

taken_of : (xs : List Msg) (a b : ℕ) → paired (of (remove xs (position_or_len (goes a b) xs))) ≡ taken a b (paired (of xs))
unfolding paired taken
taken_of xs a b = fun_ext (λ p. fun_ext (λ q. grind (arith, taken_at xs a b p q)))

-- a log of messages between stations holds as many as its lists together
pub total_of : (xs : List Msg) → All Proper xs → total (paired (of xs)) ≡ length xs
unfolding paired of total sum_to
total_of [] h = grind arith
total_of (m ∷ xs) h =
    let p = and_parts (ltb m.sender 8) _ (All-head Proper m xs h) in
    let q = and_parts (ltb m.receiver 8) _ p.1 in
    omega (arith, total_of xs (All-tail Proper m xs h), total_more (paired (of xs)) (paired (of (m ∷ xs))) m.sender m.receiver (ltb-true _ _ p.0) (ltb-true _ _ q.0) (grind (arith, All-head Proper m xs h)) (λ a b ne. grind (arith, ne)))

-- a search of the log finds what waits
oldest_of : (a b : ℕ) (xs : List Msg) → oldest a b (of xs a b) ≡ ok_or (find (goes a b) xs) (refused 15 (between a b))
unfolding of
oldest_of a b [] = refl
oldest_of a b (m ∷ xs) = grind (arith, oldest_of a b xs)

pub counts : (a b : ℕ) (xs : List Msg) (n : ℕ) → Ok tt ≡ pairing a b → n ≡ length (filter (goes a b) xs) → Ok n ≡ counting a b (paired (of xs))
unfolding paired of
counts a b xs n e w = grind (arith, e, w)

opened : {X : Type 0} (f : X → Msg) (found : Option X) (e : Refusal) → result_map_both f (λ e. e) (ok_or found e) ≡ ok_or (option_map f found) e
opened f None e = refl
opened f (Some x) e = refl

-- what was found in the log of xs, of which f reads the message
module _ {X : Type 0} (f : X → Msg) (a b : ℕ) (xs : List Msg) (found : Option X) (first : option_map f found ≡ find (goes a b) xs) (r : Result X Refusal) (is : r ≡ searched a b found) where
  pub peeks : result_map_both f (λ e. e) r ≡ peeking a b (paired (of xs))
  unfolding paired
  peeks =
      rw is
      (⊎_elim
      (λ (t : pair a b ≡ true). rw t (opened f found _ ∙ ap (λ (o : Option Msg). ok_or o (refused 15 (between a b))) first ∙ sym (oldest_of a b xs)))
      (λ (t : pair a b ≡ false). rw t refl)
      (cases_Bool (pair a b)))

  pub stands : ◌≡◌ {A = Change} (taking a b (paired (of xs)) (result_map_both f (λ e. e) r)) (dropping a b (paired (of xs)))
  stands = ap (taking a b (paired (of xs))) peeks

  pub drops : (x : X) → r ≡ Ok x → (ys : List Msg) → ys ≡ remove xs (position_or_len (goes a b) xs) → ◌≡◌ {A = Change} (Ok tt, paired (of ys)) (dropping a b (paired (of xs)))
  drops x e ys g =
      (λ i. (Ok tt, (ap (λ (zs : List Msg). paired (of zs)) g ∙ taken_of xs a b) i))
      ∙ ap (λ (z : Result X Refusal). taking a b (paired (of xs)) (result_map_both f (λ e. e) z)) (sym e) ∙ stands

-- what was found behind the test of the pair
pub searches : {X Y : Type 0} (f : X → Y) (a b : ℕ) (found : Option X) (r : Result X LineFault) → Ok tt ≡ pairing a b → r ≡ ok_or found (Empty (pair_of a b))
    → result_map_both f told r ≡ searched a b (option_map f found)
searches f a b None r e w = rw w (grind (arith, e))
searches f a b (Some x) r e w = rw w (grind (arith, e))

-- and what was found so
pub sought : {X : Type 0} (a b : ℕ) (found : Option X) (x : X) → Ok x ≡ searched a b found → found ≡ Some x
sought a b found x e = grind (arith, e)

-- the place of the pair's oldest message
pub at_place : (p : Msg → Bool) (xs : List Msg) (d : Msg) → option_map (λ i. get_or xs i d) (position p xs) ≡ find p xs
at_place p [] d = refl
at_place p (x ∷ xs) d = grind (arith, at_place p xs d)

pub is_place : (p : Msg → Bool) (xs : List Msg) (i : ℕ) → position p xs ≡ Some i → (position_or_len p xs ≡ i) × (i < length xs)
is_place p xs i e = (grind (arith, e), grind (arith, e))

-- one message more
pub posts : (xs : List Msg) (m : Msg) (room : ℕ) (ys : List Msg) → Proper m → total (paired (of xs)) < room → ys ≡ xs ++ m ∷ []
    → ◌≡◌ {A = Change} (Ok tt, paired (of ys)) (posting room m (paired (of xs)))
posts xs m room ys p lt e =
    (λ i. (Ok tt, (ap (λ (zs : List Msg). paired (of zs)) e ∙ posted_of xs m p) i)) ∙ sym (posting_free room m (paired (of xs)) lt)
