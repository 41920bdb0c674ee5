-- A frame on its way onto a frame line.
use Rattle.std.proofs.Common.{◌≡◌, ℕ, ◌+◌, ◌≤◌, Bool, true, cond, leb, List, [], ◌∷◌, ◌++◌, length, take, drop, Ok, Result, sym, ap, ◌∙◌, append-nil, arith}
use Rattle.std.proofs.lemmas.List.Elements.{All-push}
use Rattle.std.proofs.lemmas.List.{take_at, length_push}
use Rattle.std.proofs.lemmas.Bool.{cond-true, le-leb}
use Rattle.std.specs.Result.{result_map_both, result_unwrap_or}
use Rattle.line.specs.declared.message.Message.{Message}
use Rattle.line.specs.declared.refusal.Refusal.{Refusal}
use Rattle.line.specs.Messages.{Msg, Fits}
use Rattle.line.specs.View.{msg_of}
use Rattle.line.proofs.Making.{short, sound}
use Rattle.frame.specs.declared.fault.FrameFault.{FrameFault}
use Rattle.frame.specs.Refusals.{told}
use Rattle.frame.specs.Frames.{encoded, size, written}
use Rattle.lines.specs.Framed.{framed}
use Rattle.lines.proofs.Framing.{Holds, framed_append}

abbrev Wrote : Type 0
Wrote = Result ℕ Refusal × List ℕ

alone : (m : Msg) → framed (m ∷ []) ≡ encoded m
unfolding framed
alone m = append-nil (encoded m)

-- the frame of m was written into the buffer out, and n told as its size
module _ (m : Message) (out after : List ℕ) (r : Result ℕ FrameFault) (n : ℕ) (long : length out ≡ 84)
    (wrote : ◌≡◌ {A = Wrote} (result_map_both (λ j. j) told r, after) (written (msg_of m) out)) (was : r ≡ Ok n) where
  small : size (msg_of m) ≤ 84
  small = omega (arith, short m)

  laid : ◌≡◌ {A = Wrote} (Ok n, after) (Ok (size (msg_of m)), encoded (msg_of m) ++ drop (size (msg_of m)) out)
  laid =
      ap (λ (z : Result ℕ FrameFault). (result_map_both {T = ℕ} {U = ℕ} (λ j. j) told z, after)) (sym was) ∙ wrote
      ∙ cond-true (leb (size (msg_of m)) (length out)) _ _ (le-leb _ _ (omega (arith, small, long)))

  sized : n ≡ size (msg_of m)
  sized = ap (λ (p : Wrote). result_unwrap_or p.0 n) laid

  -- the bytes that were written
  front : take n after ≡ encoded (msg_of m)
  front = (λ i. take (sized i) (laid i).1) ∙ take_at (encoded (msg_of m)) (drop (size (msg_of m)) out) (size (msg_of m)) (omega arith)

  pub few : length (take n after) ≤ 84
  few = omega (arith, ap length front, small)

  -- they are put behind those of a log
  pub grows : (k : ℕ) (bs : List ℕ) (log : List Msg) → Holds k bs log → (ys : List ℕ) (ok : Bool) → ok ≡ true → ys ≡ cond ok (bs ++ take n after) bs
      → Holds (k + 1) ys (log ++ msg_of m ∷ [])
  grows k bs log h ys ok t e =
      record {
        bytes = e ∙ cond-true ok _ _ t ∙ (λ i. h.bytes i ++ front i) ∙ ap (λ (z : List ℕ). framed log ++ z) (sym (alone (msg_of m)))
            ∙ sym (framed_append log (msg_of m ∷ []));
        many = length_push log (msg_of m) ∙ ap (λ (j : ℕ). j + 1) h.many;
        fit = All-push Fits log (msg_of m) h.fit (sound m);
      }
