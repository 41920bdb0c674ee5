-- The places of frames, and going over them.
use Rattle.std.proofs.Common.{filter, Option, None, Some, is_some, unwrap_or, Bool, ◌≡◌, ℕ, zero, suc, ◌+◌, ◌-◌, ◌≤◌, List, [], ◌∷◌, ◌++◌, length, take, drop, Ok, Err, Result, sym, refl, ap, ◌∙◌, arith, length-append, length-drop}
use Rattle.std.specs.List.{All, find}
use Rattle.std.proofs.lemmas.List.Elements.{All-head, All-tail}
use Rattle.std.specs.Option.{option_map, is_none}
use Rattle.std.specs.Result.{result_map_both, result_ok}
use Rattle.std.proofs.lemmas.Bool.{false≢true}
use Rattle.line.specs.declared.message.Message.{Message}
use Rattle.line.specs.View.{msg_of}
use Rattle.frame.specs.declared.fault.FrameFault.{FrameFault}
use Rattle.frame.specs.Refusals.{told}
use Rattle.std.proofs.lemmas.List.{length-take, take_rest, drop-drop}
use Rattle.line.specs.declared.refusal.Refusal.{Refusal}
use Rattle.line.specs.Messages.{Msg, Fits}
use Rattle.frame.specs.Frames.{encoded, size, decoded, seen}
use Rattle.frame.proofs.Round.{again, leaves, writes_back}
use Rattle.lines.specs.Framed.{framed}
use Rattle.lines.specs.declared.framed.FrameLine.{FrameLine}
use Rattle.lines.specs.Kept.{log}
use Rattle.lines.proofs.Framing.{keeps}
use Rattle.lines.specs.Slots.{Spot, placed, ahead, found}

-- a frame has at least twenty bytes
shorter : (bs : List ℕ) (p : Msg × ℕ) → decoded bs ≡ Ok p → length (drop p.1 bs) + 20 ≤ length bs
shorter bs p e = rw (length-drop p.1 bs) (omega (arith, ap length (writes_back bs p.0 p.1 e), length-take p.1 bs))

-- bytes have no more frames than bytes
after : (f g : ℕ → List ℕ → List Spot) (at : ℕ) (bs : List ℕ) (d : Result (Msg × ℕ) Refusal)
    → ((p : Msg × ℕ) → d ≡ Ok p → f (at + p.1) (drop p.1 bs) ≡ g (at + p.1) (drop p.1 bs)) → ahead f at bs d ≡ ahead g at bs d
after f g at bs (Err e) h = refl
after f g at bs (Ok p) h = ap (λ (ps : List Spot). record { message = p.0; start = at; end = at + p.1 } ∷ ps) (h p refl)

enough : (n k at : ℕ) (bs : List ℕ) → length bs ≤ n → length bs ≤ k → found n at bs ≡ found k at bs
unfolding found
enough zero zero at bs l r = refl
enough zero (suc k) at [] l r = refl
enough (suc n) zero at [] l r = refl
enough zero (suc k) at (b ∷ bs) l r = absurd (omega (arith, l))
enough (suc n) zero at (b ∷ bs) l r = absurd (omega (arith, r))
enough (suc n) (suc k) at bs l r =
    after (found n) (found k) at bs (decoded bs)
    (λ p e. enough n k (at + p.1) (drop p.1 bs) (omega (arith, shorter bs p e)) (omega (arith, shorter bs p e)))

next : (bs : List ℕ) (p : Msg × ℕ) → decoded bs ≡ Ok p → (at : ℕ)
    → found (length bs) at bs ≡ record { message = p.0; start = at; end = at + p.1 } ∷ found (length (drop p.1 bs)) (at + p.1) (drop p.1 bs)
unfolding found
next [] p d at = absurd (omega (arith, shorter [] p d))
next (b ∷ bs) p d at =
    ap (ahead (found (length bs)) at (b ∷ bs)) d
    ∙ ap (λ (ps : List Spot). record { message = p.0; start = at; end = at + p.1 } ∷ ps)
    (enough (length bs) (length (drop p.1 (b ∷ bs))) (at + p.1) (drop p.1 (b ∷ bs)) (omega (arith, shorter (b ∷ bs) p d)) (omega arith))

-- what was read from the byte `at` on
module _ (bytes : List ℕ) (at : ℕ) (r : Result (Message × ℕ) FrameFault) (got : result_map_both seen told r ≡ decoded (take (length bytes - at) (drop at bytes))) where
  is : result_map_both seen told r ≡ decoded (drop at bytes)
  is = got ∙ ap decoded (take_rest bytes at)

  none : (q : Result (Message × ℕ) FrameFault) → q ≡ r → result_ok q ≡ None → (n : ℕ) → found n at (drop at bytes) ≡ []
  unfolding found
  none (Ok x) e t n = absurd (false≢true (ap (λ (o : Option (Message × ℕ)). is_none o) t))
  none (Err f) e t zero = refl
  none (Err f) e t (suc n) = ap (ahead (found n) at (drop at bytes)) (sym is ∙ ap (λ (z : Result (Message × ℕ) FrameFault). result_map_both seen told z) (sym e))

  -- no frame
  pub stops : result_ok r ≡ None → found (length (drop at bytes)) at (drop at bytes) ≡ []
  stops t = none r refl t (length (drop at bytes))

  module _ (x : Message × ℕ) (t : result_ok r ≡ Some x) where
    frame : (q : Result (Message × ℕ) FrameFault) → result_ok q ≡ Some x → q ≡ Ok x
    frame (Ok y) e = ap (λ (o : Option (Message × ℕ)). Ok (unwrap_or o y)) e
    frame (Err f) e = absurd (false≢true (ap (λ (o : Option (Message × ℕ)). is_some o) e))

    -- a frame
    pub goes_on : found (length (drop at bytes)) at (drop at bytes)
        ≡ record { message = msg_of x.0; start = at; end = at + x.1 } ∷ found (length (drop (at + x.1) bytes)) (at + x.1) (drop (at + x.1) bytes)
    goes_on =
        next (drop at bytes) (seen x) (sym is ∙ ap (λ (z : Result (Message × ℕ) FrameFault). result_map_both seen told z) (frame r t)) at
        ∙ ap (λ (bs : List ℕ). record { message = msg_of x.0; start = at; end = at + x.1 } ∷ found (length bs) (at + x.1) bs) (drop-drop x.1 at bytes)

-- the frames of a log lie one behind the other
pub lies : (log : List Msg) → All Fits log → (n at : ℕ) → length (framed log) ≤ n → found n at (framed log) ≡ placed at log
unfolding framed found placed
lies [] fit zero at le = refl
lies [] fit (suc n) at le = refl
lies (m ∷ log) fit zero at le = absurd (omega (arith, le))
lies (m ∷ log) fit (suc n) at le =
    ap (ahead (found n) at (encoded m ++ framed log)) (again m (framed log) (All-head Fits m log fit))
    ∙ ap (λ (bs : List ℕ). record { message = m; start = at; end = at + size m } ∷ found n (at + size m) bs) (leaves m (framed log))
    ∙ ap (λ (ps : List Spot). record { message = m; start = at; end = at + size m } ∷ ps) (lies log (All-tail Fits m log fit) n (at + size m) (omega (arith, le, length-append m.text (framed log))))

pub length-placed : (at : ℕ) (log : List Msg) → length (placed at log) ≡ length log
unfolding placed
length-placed at [] = refl
length-placed at (m ∷ log) = ap suc (length-placed (at + size m) log)

-- the places of a frame line
pub whole : (f : FrameLine) (bs : List ℕ) → bs ≡ framed (log f) → found (length bs) 0 bs ≡ placed 0 (log f)
whole f bs e = ap (λ (xs : List ℕ). found (length xs) 0 xs) e ∙ lies (log f) (keeps f).fit _ 0 (omega arith)

pub few : (f : FrameLine) (bs : List ℕ) → bs ≡ framed (log f) → length (found (length bs) 0 bs) ≤ 256
few f bs e = omega (arith, ap length (whole f bs e), length-placed 0 (log f), (keeps f).many, f.few)

-- how many places of a pair there are
pub counted : (p : Msg → Bool) (at : ℕ) (log : List Msg) → length (filter (λ q. p q.message) (placed at log)) ≡ length (filter p log)
unfolding placed
counted p at [] = refl
counted p at (m ∷ log) = grind (arith, counted p (at + size m) log)

-- the first place of a pair
pub first : (p : Msg → Bool) (at : ℕ) (log : List Msg) → option_map (λ q. q.message) (find (λ q. p q.message) (placed at log)) ≡ find p log
unfolding placed
first p at [] = refl
first p at (m ∷ log) = grind (arith, first p (at + size m) log)
