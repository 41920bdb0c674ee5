-- Posting many messages, one at a time.
use Rattle.std.proofs.Common.{◌≡◌, ℕ, ◌+◌, ◌<◌, ◌≤◌, List, [], ◌∷◌, map, length, get_or, drop, Ok, Err, refl, arith}
use Rattle.std.proofs.lemmas.List.{drop_more, drop_all}
use Rattle.line.specs.declared.message.Message.{Message}
use Rattle.line.specs.declared.refusal.Refusal.{Refusal}
use Rattle.line.specs.Messages.{Msg}
use Rattle.line.specs.View.{msg_of}
use Rattle.line.specs.Lists.{Lists, Change, posting, postings}

-- one message is posted
pub turn : (room : ℕ) (ms : List Message) (i : ℕ) (m : Message) (w : Lists) (c : Change)
    → i < length ms → m ≡ get_or ms i m → c ≡ posting room (msg_of m) w
    → postings room (map msg_of (drop i ms)) (Ok tt, w) ≡ postings room (map msg_of (drop (i + 1) ms)) c
turn room ms i m w c lt e f = grind (arith, drop_more ms i m lt)

-- nothing is posted after a refusal
pub stops : (room : ℕ) (ms : List Msg) (e : Refusal) (w : Lists) → postings room ms (Err e, w) ≡ (Err e, w)
stops room [] e w = refl
stops room (m ∷ ms) e w = refl

-- every message is posted
pub ends : (room : ℕ) (ms : List Message) (i : ℕ) (w : Lists) → length ms ≤ i
    → postings room (map msg_of (drop i ms)) (Ok tt, w) ≡ (Ok tt, w)
ends room ms i w le = grind (arith, drop_all)
