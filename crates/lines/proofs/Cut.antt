-- A frame on its way off a frame line.
use Rattle.std.proofs.Common.{◌≡◌, ℕ, suc, ◌+◌, ◌-◌, ◌≤◌, Bool, true, false, Some, is_some, unwrap_or, vec_items, Option, Ok, List, [], ◌∷◌, ◌++◌, length, take, drop, sym, refl, ap, ◌∙◌, subst, ⊎_elim, arith, length-append}
use Rattle.std.specs.List.{find, remove, remove_range, position_or_len}
use lib.Seq.{paste}
use Rattle.std.proofs.lemmas.List.{take_at, drop_at, drop-drop, take_all, length-drop}
use Rattle.std.proofs.lemmas.List.Edits.{take-paste}
use Rattle.std.proofs.lemmas.List.Elements.{All-append, All-take, All-drop}
use Rattle.std.proofs.lemmas.Bool.{cases_Bool, cond-true, cond-false, false≢true}
use Rattle.line.specs.Messages.{Msg, Fits}
use Rattle.frame.specs.Frames.{encoded, size}
use Rattle.frame.proofs.Round.{leaves}
use Rattle.lines.specs.Framed.{framed}
use Rattle.lines.specs.Slots.{Spot, placed}
use Rattle.lines.specs.declared.framed.FrameLine.{FrameLine}
use Rattle.lines.specs.Kept.{log}
use Rattle.lines.specs.Logs.{goes, searched}
use Rattle.lines.proofs.Logs.{sought}
use Rattle.lines.proofs.Framing.{Holds, keeps, framed_append, framed_cons}

-- the first message that passes the test t, in a log whose first frame begins at the byte `at`
record Cut (t : Msg → Bool) (at : ℕ) (log : List Msg) (p : Spot) : Type 0 where
  front : List Msg
  back : List Msg
  about : log ≡ front ++ p.message ∷ back
  starts : p.start ≡ at + length (framed front)
  ends : p.end ≡ p.start + size p.message
  rest : remove log (position_or_len t log) ≡ front ++ back

behind : (t : Msg → Bool) (m : Msg) (log : List Msg) → t m ≡ false → remove (m ∷ log) (position_or_len t (m ∷ log)) ≡ m ∷ remove log (position_or_len t log)
behind t m log n = grind (arith, n)

cuts : (t : Msg → Bool) (at : ℕ) (log : List Msg) (p : Spot) → find (λ q. t q.message) (placed at log) ≡ Some p → Cut t at log p
unfolding placed framed
cuts t at [] p e = absurd (false≢true (ap (λ (o : Option Spot). is_some o) e))
cuts t at (m ∷ log) p e =
    ⊎_elim
    (λ (y : t m ≡ true).
    let here : Spot = record { message = m; start = at; end = at + size m } in
    let is : here ≡ p = ap (λ (o : Option Spot). unwrap_or o here) (sym (cond-true (t m) _ _ y) ∙ e) in
    subst (Cut t at (m ∷ log)) is (record { front = []; back = log; about = refl; starts = omega arith; ends = refl; rest = rw y refl }))
    (λ (n : t m ≡ false).
    let c = cuts t (at + size m) log p (sym (cond-false (t m) _ _ n) ∙ e) in
    record {
      front = m ∷ c.front;
      back = c.back;
      about = ap (λ (ms : List Msg). m ∷ ms) c.about;
      starts = omega (arith, c.starts, length-append m.text (framed c.front));
      ends = c.ends;
      rest = behind t m log n ∙ ap (λ (ms : List Msg). m ∷ ms) c.rest;
    })
    (cases_Bool (t m))

-- the frame of the pair's oldest message on a frame line
module _ (f : FrameLine) (a b : ℕ) (p : Spot) (found : Ok p ≡ searched a b (find (λ q. goes a b q.message) (placed 0 (log f)))) where
  h : Holds f.count (vec_items f.frames) (log f)
  h = keeps f

  cut : Cut (goes a b) 0 (log f) p
  cut = cuts (goes a b) 0 (log f) p (sought a b _ p found)

  split : vec_items f.frames ≡ framed cut.front ++ (encoded p.message ++ framed cut.back)
  split =
      h.bytes ∙ ap framed cut.about ∙ framed_append cut.front (p.message ∷ cut.back)
      ∙ ap (λ (z : List ℕ). framed cut.front ++ z) (framed_cons p.message cut.back)

  many : length (log f) ≡ length cut.front + suc (length cut.back)
  many = ap length cut.about ∙ length-append cut.front (p.message ∷ cut.back)

  pub some : 1 ≤ f.count
  some = omega (arith, h.many, many)

  pub forward : p.start ≤ p.end
  forward = omega (arith, cut.ends)

  pub within : p.end ≤ length (vec_items f.frames)
  within =
      omega (arith, ap length split, length-append (framed cut.front) (encoded p.message ++ framed cut.back), length-append p.message.text (framed cut.back), cut.starts, cut.ends)

  first : take p.start (vec_items f.frames) ≡ framed cut.front
  first = ap (take p.start) split ∙ take_at (framed cut.front) (encoded p.message ++ framed cut.back) p.start (omega (arith, cut.starts))

  last : drop p.end (vec_items f.frames) ≡ framed cut.back
  last =
      (λ i. drop (cut.ends i) (split i)) ∙ sym (drop-drop (size p.message) p.start (framed cut.front ++ (encoded p.message ++ framed cut.back)))
      ∙ ap (drop (size p.message)) (drop_at (framed cut.front) (encoded p.message ++ framed cut.back) p.start (omega (arith, cut.starts)))
      ∙ leaves p.message (framed cut.back)

  -- the bytes behind it are copied over it, and the rest is cut off
  pub moved : (from to len left : ℕ) (xs ys : List ℕ) → len ≡ length (vec_items f.frames) → left + (p.end - p.start) ≡ len
      → xs ≡ paste (vec_items f.frames) to (drop from (vec_items f.frames)) (len - from) → ys ≡ take left xs → from ≡ p.end → to ≡ p.start
      → ys ≡ remove_range (vec_items f.frames) p.start p.end
  moved from to len left xs ys el es ex' ey ef et =
      let ex : xs ≡ paste (vec_items f.frames) p.start (drop p.end (vec_items f.frames)) (len - p.end) =
      ex' ∙ (λ i. paste (vec_items f.frames) (et i) (drop (ef i) (vec_items f.frames)) (len - ef i)) in
      let bs = vec_items f.frames in
      let rest = drop p.end bs in
      let k = len - p.end in
      let e : left ≡ p.start + k = omega (arith, forward, within, el, es) in
      let lr : length rest ≡ k = length-drop p.end bs ∙ omega (arith, el) in
      ey ∙ (λ i. take (e i) (ex i)) ∙ take-paste bs p.start rest k (omega (arith, forward, within)) (omega (arith, lr))
      ∙ (λ i. take p.start bs ++ take_all k rest (omega (arith, lr)) i)

  -- it is gone, and the bytes behind it have moved up
  pub left : (ys : List ℕ) → ys ≡ remove_range (vec_items f.frames) p.start p.end → Holds (f.count - 1) ys (remove (log f) (position_or_len (goes a b) (log f)))
  left ys e =
      let i = position_or_len (goes a b) (log f) in
      record {
        bytes = e ∙ (λ j. first j ++ last j) ∙ sym (framed_append cut.front cut.back) ∙ ap framed (sym cut.rest);
        many = omega (arith, h.many, many, ap length cut.rest, length-append cut.front cut.back);
        fit = All-append Fits (take i (log f)) (drop (suc i) (log f)) (All-take Fits i (log f) h.fit) (All-drop Fits (suc i) (log f) h.fit);
      }
