-- The bytes of a frame line and the log that they hold.
use Rattle.std.proofs.Common.{◌≡◌, ℕ, zero, suc, ◌*◌, ◌≤◌, true, List, [], ◌∷◌, ◌++◌, length, drop, is_some, Some, None, Ok, Err, Option, Result, unwrap_or, vec_items, sym, refl, ap, ◌∙◌, subst, arith, length-append}
use Rattle.std.specs.List.{All}
use Rattle.std.proofs.lemmas.List.Elements.{All-nil, All-cons, All-head, All-tail, All-weaker}
use Rattle.std.proofs.lemmas.List.{take-append-drop}
use Rattle.std.proofs.lemmas.Grind.{flat_map-append}
use Rattle.std.proofs.lemmas.Bool.{false≢true}
use Rattle.std.proofs.lemmas.Bool.Decides.{nat_tests}
use Rattle.line.specs.declared.refusal.Refusal.{Refusal}
use Rattle.line.specs.declared.kind.Kind.{Kind}
use Rattle.line.specs.Messages.{Msg, misfit, Fits}
use Rattle.line.specs.Lists.{pair, paired, total}
use Rattle.frame.specs.Frames.{encoded, decoded}
use Rattle.frame.proofs.Round.{again, leaves, writes_back, read_fits}
use Rattle.frame.proofs.Heads.{bounds}
use Rattle.lines.specs.Framed.{framed, consed, before, parsed}
use Rattle.lines.specs.declared.framed.FrameLine.{FrameLine}
use Rattle.lines.specs.Kept.{log}
use Rattle.lines.specs.Logs.{of}
use Rattle.lines.proofs.Logs.{Proper, total_of}

proper_parts : (r : ℕ) (k : Kind) (p s n : ℕ) → misfit r k p s n ≡ None → pair s r ≡ true
proper_parts r k p s n e = grind (arith, nat_tests)

pub fits_proper : (m : Msg) → Fits m → Proper m
fits_proper m fit = proper_parts m.receiver m.kind m.page m.sender (length m.text) fit

pub framed_append : (xs ys : List Msg) → framed (xs ++ ys) ≡ framed xs ++ framed ys
unfolding framed
framed_append xs ys = flat_map-append encoded xs ys

pub framed_cons : (m : Msg) (ms : List Msg) → framed (m ∷ ms) ≡ encoded m ++ framed ms
unfolding framed
framed_cons m ms = refl

-- a frame takes at most 84 bytes
pub framed_short : (log : List Msg) → All Fits log → length (framed log) ≤ 84 * length log
unfolding framed
framed_short [] h = omega arith
framed_short (m ∷ log) h =
    omega (arith, framed_short log (All-tail Fits m log h), bounds m.receiver m.kind m.page m.sender (length m.text) (All-head Fits m log h), length-append m.text (framed log))

-- bytes that are the frames of a log of n messages
pub record Holds (n : ℕ) (bs : List ℕ) (log : List Msg) : Type 0 where
  pub bytes : bs ≡ framed log
  pub many : length log ≡ n
  pub fit : All Fits log

joins : (n : ℕ) (bs : List ℕ) (m : Msg) (k : ℕ) → decoded bs ≡ Ok (m, k) → (o : Option (List Msg)) → (is_some o ≡ true → Holds n (drop k bs) (unwrap_or o []))
    → is_some (consed m o) ≡ true → Holds (suc n) bs (unwrap_or (consed m o) [])
joins n bs m k e None h t = absurd (false≢true t)
joins n bs m k e (Some log) h t =
    let g = h refl in
    record {
      bytes = sym (take-append-drop k bs) ∙ (λ i. sym (writes_back bs m k e) i ++ g.bytes i) ∙ sym (framed_cons m log);
      many = ap suc g.many;
      fit = All-cons Fits m log (read_fits bs m k e) g.fit;
    }

reads : (n : ℕ) (bs : List ℕ) (d : Result (Msg × ℕ) Refusal) → decoded bs ≡ d
    → ((cs : List ℕ) → is_some (parsed n cs) ≡ true → Holds n cs (unwrap_or (parsed n cs) []))
    → is_some (before (parsed n) bs d) ≡ true → Holds (suc n) bs (unwrap_or (before (parsed n) bs d) [])
reads n bs (Err x) e h t = absurd (false≢true t)
reads n bs (Ok p) e h t = joins n bs p.0 p.1 e (parsed n (drop p.1 bs)) (h (drop p.1 bs)) t

-- the log of bytes that hold one
pub holds : (n : ℕ) (bs : List ℕ) → is_some (parsed n bs) ≡ true → Holds n bs (unwrap_or (parsed n bs) [])
unfolding parsed framed
holds zero [] t = record { bytes = refl; many = refl; fit = All-nil Fits }
holds zero (b ∷ bs) t = absurd (false≢true t)
holds (suc n) bs t = reads n bs (decoded bs) refl (holds n) t

closes_at : (log : List Msg) → All Fits log → parsed (length log) (framed log) ≡ Some log
unfolding parsed framed
closes_at [] fit = refl
closes_at (m ∷ log) fit =
    ap (before (parsed (length log)) (encoded m ++ framed log)) (again m (framed log) (All-head Fits m log fit))
    ∙ ap (λ (z : List ℕ). consed m (parsed (length log) z)) (leaves m (framed log))
    ∙ ap (consed m) (closes_at log (All-tail Fits m log fit))

-- what bytes that hold this log say
module _ (n : ℕ) (bs : List ℕ) (log : List Msg) (h : Holds n bs log) where
  -- they hold this log
  pub closes : parsed n bs ≡ Some log
  closes = (λ i. parsed (sym h.many i) (h.bytes i)) ∙ closes_at log h.fit

  pub whole_of : is_some (parsed n bs) ≡ true
  whole_of = ap (λ (o : Option (List Msg)). is_some o) closes

  pub log_of : unwrap_or (parsed n bs) [] ≡ log
  log_of = ap (λ (o : Option (List Msg)). unwrap_or o []) closes

  pub short_of : length bs ≤ 84 * n
  short_of = omega (arith, ap length h.bytes, framed_short log h.fit, h.many)

-- bytes that hold a log are its frames
pub opens : (n : ℕ) (bs : List ℕ) (log : List Msg) → parsed n bs ≡ Some log → Holds n bs log
opens n bs log e =
    subst (Holds n bs) (ap (λ (o : Option (List Msg)). unwrap_or o []) e)
    (holds n bs (ap (λ (o : Option (List Msg)). is_some o) e))

-- no byte is no frame
pub holds_none : (bs : List ℕ) → bs ≡ [] → Holds 0 bs []
unfolding framed
holds_none bs e = record { bytes = e; many = refl; fit = All-nil Fits }

-- the same bytes, as they are told
pub holds_as : (n : ℕ) (xs bs : List ℕ) → is_some (parsed n xs) ≡ true → bs ≡ framed (unwrap_or (parsed n xs) []) → Holds n bs (unwrap_or (parsed n xs) [])
holds_as n xs bs whole e = let h = holds n xs whole in record { bytes = e; many = h.many; fit = h.fit }

pub all_proper : (log : List Msg) → All Fits log → All Proper log
all_proper log h = All-weaker Fits Proper fits_proper log h

-- what a frame line holds
pub keeps : (f : FrameLine) → Holds f.count (vec_items f.frames) (log f)
keeps f = holds f.count (vec_items f.frames) f.whole

pub short : (f : FrameLine) → length (vec_items f.frames) ≤ 84 * f.count
short f = short_of f.count (vec_items f.frames) (log f) (keeps f)

-- its bytes
pub lie : (f : FrameLine) → vec_items f.frames ≡ framed (log f)
lie f = (keeps f).bytes

pub within : (f : FrameLine) → length (vec_items f.frames) ≤ 21504
within f = omega (arith, short f, f.few)

pub waits : (f : FrameLine) → total (paired (of (log f))) ≡ f.count
waits f = let h = keeps f in total_of (log f) (all_proper (log f) h.fit) ∙ h.many
