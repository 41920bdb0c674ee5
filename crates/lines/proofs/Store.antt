-- The list of a party line as a log.
use Rattle.std.proofs.Common.{◌≡◌, ℕ, ◌<◌, position, get_or, Ok, Err, Some, Result, sym, List, [], map, ap, subst, ◌∙◌, length, suc, take, drop, Iter}
use Rattle.std.proofs.iter.Yields.{fronts}
use Rattle.std.proofs.lemmas.Iterator.{YieldsList}
use Rattle.std.proofs.lemmas.Iterator.Consumers.{YieldsList-from_shown}
use Rattle.std.specs.List.{All, remove}
use Rattle.std.specs.Result.{result_map_both}
use Rattle.std.specs.Slice.Iter.{iter_rest}
use Rattle.std.proofs.lemmas.List.{get_or-map, map-append, take-map, drop-map, length-map}
use Rattle.std.proofs.lemmas.List.Elements.{All-map}
use Rattle.std.proofs.lemmas.Bool.{lt-ltb, and_from, ne_eqb, not_from_false}
use Rattle.line.specs.declared.message.Message.{Message}
use Rattle.line.specs.View.{msg_of}
use Rattle.line.specs.declared.kind.Kind.TheVariants.{Ack}
use Rattle.line.specs.declared.refusal.Refusal.{Refusal}
use Rattle.line.specs.Messages.{Msg, msg}
use Rattle.line.specs.Lists.{paired, total, Change, peeking, dropping}
use Rattle.lines.specs.Logs.{goes, of, searched}
use Rattle.lines.proofs.Logs.{Proper, total_of, peeks, drops, at_place, is_place, sought}

pub proper : (m : Message) → Proper (msg_of m)
proper m =
    and_from _ _ (lt-ltb _ _ m.header.sender_in)
    (and_from _ _ (lt-ltb _ _ m.header.receiver_in) (not_from_false _ (ne_eqb _ _ m.header.apart)))

pub all_proper : (ms : List Message) → All Proper (map msg_of ms)
all_proper ms = All-map Proper msg_of ms (λ i d lt. proper (get_or ms i d))

pub waits : (ms : List Message) → total (paired (of (map msg_of ms))) ≡ length ms
waits ms = total_of (map msg_of ms) (all_proper ms) ∙ length-map ms msg_of

-- what an iterator over the messages shows, as a log
pub shown : {s : Iter Message} (ms : List Message) → iter_rest s ≡ ms → YieldsList fronts (λ y. msg_of y.now) s (map msg_of ms)
shown {s} ms e =
    subst (λ (xs : List Message). YieldsList fronts (λ y. msg_of y.now) s (map msg_of xs)) e
    (YieldsList-from_shown fronts (λ y. msg_of y.now) (λ t. map msg_of (iter_rest t)) (λ t u h. length-map _ msg_of ∙ h.0) (λ t x u h. ap (map msg_of) h) s)

without : (ms : List Message) (i : ℕ) → map msg_of (remove ms i) ≡ remove (map msg_of ms) i
without ms i = rw (take-map msg_of i ms, drop-map msg_of (suc i) ms) (map-append msg_of (take i ms) (drop (suc i) ms))

-- a message that no list has
nobody : Msg
nobody = msg 0 0 0 Ack []

-- where the pair's oldest message was sought
module _ (a b : ℕ) (ms : List Message) (r : Result ℕ Refusal) (is : r ≡ searched a b (position (goes a b) (map msg_of ms))) where
  pub missed : (e : Refusal) → r ≡ Err e → Err e ≡ peeking a b (paired (of (map msg_of ms)))
  missed e f =
      ap (λ (z : Result ℕ Refusal). result_map_both (λ i. get_or (map msg_of ms) i nobody) (λ x. x) z) (sym f)
      ∙ peeks _ a b (map msg_of ms) _ (at_place (goes a b) (map msg_of ms) nobody) r is

  -- and it is at i
  module _ (i : ℕ) (f : r ≡ Ok i) where
    place : position (goes a b) (map msg_of ms) ≡ Some i
    place = sought a b _ i (sym f ∙ is)

    inside : i < length ms
    inside = rw (sym (length-map ms msg_of)) (is_place (goes a b) (map msg_of ms) i place).1

    pub met : (m : Message) → m ≡ get_or ms i m → Ok (msg_of m) ≡ peeking a b (paired (of (map msg_of ms)))
    met m at =
        ap (λ (z : Msg). Ok z) (ap msg_of at ∙ sym (get_or-map msg_of ms i m (msg_of m) inside))
        ∙ ap (λ (z : Result ℕ Refusal). result_map_both (λ j. get_or (map msg_of ms) j (msg_of m)) (λ x. x) z) (sym f)
        ∙ peeks _ a b (map msg_of ms) _ (at_place (goes a b) (map msg_of ms) (msg_of m)) r is

    pub gone : (xs : List Message) → xs ≡ remove ms i → ◌≡◌ {A = Change} (Ok tt, paired (of (map msg_of xs))) (dropping a b (paired (of (map msg_of ms))))
    gone xs e = drops _ a b (map msg_of ms) _ (at_place (goes a b) (map msg_of ms) nobody) r is i f _ (ap (map msg_of) e ∙ without ms i ∙ ap (remove (map msg_of ms)) (sym (is_place (goes a b) (map msg_of ms) i place).0))
