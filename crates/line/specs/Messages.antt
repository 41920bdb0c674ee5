-- What a message says, and which parts make one.
use Rattle.std.specs.Prelude.{◌≡◌, ℕ, cond, not, ◌&&◌, ◌||◌, List, length, Some, None, Ok, Err, Option, Result, ◌==◌, nat_le, nat_lt}
use Rattle.line.specs.declared.kind.Kind.{Kind}
use Rattle.line.specs.declared.refusal.Refusal.{Refusal}
use Rattle.line.specs.declared.fault.Misfit.{Misfit}
use Rattle.line.specs.declared.fault.Misfit.TheVariants.{Receiver, Kind as KindPart, Page, Sender, Length}
use Rattle.line.specs.Kinds.{kind_of, bears}
use Rattle.line.specs.Refusals.{misfits}

-- A message as plain data: its text is the bytes themselves.
pub record Msg : Type 0 where
  pub sender : ℕ
  pub receiver : ℕ
  pub page : ℕ
  pub kind : Kind
  pub text : List ℕ

abbrev pub msg : ℕ → ℕ → ℕ → Kind → List ℕ → Msg
msg s r p k t = record { sender = s; receiver = r; page = p; kind = k; text = t }

-- The first part, in the order of a frame, that fits no message together with the parts before it.
abbrev pub misfit : (receiver : ℕ) (kind : Kind) (page sender length : ℕ) → Option Misfit
misfit r k p s n =
    cond (nat_le 8 r) (Some Receiver)
    (cond (nat_le 16 p) (Some Page)
    (cond (nat_le 8 s || s == r) (Some Sender)
    (cond (nat_lt 64 n || (nat_lt 0 n && not (bears k))) (Some Length) None)))

-- the parts of m make a message
abbrev pub Fits : Msg → Type 0
Fits m = misfit m.receiver m.kind m.page m.sender (length m.text) ≡ None

abbrev pub unless : Option Misfit → Msg → Result Msg Refusal
unless None m = Ok m
unless (Some part) m = Err (misfits part)

-- the message of these parts, or its refusal
abbrev pub made : (sender receiver page : ℕ) → Kind → List ℕ → Result Msg Refusal
made s r p k t = unless (misfit r k p s (length t)) (msg s r p k t)

-- The same for a message whose kind may be any number.
abbrev pub whole : Kind → Option Misfit → Result Kind Misfit
whole k None = Ok k
whole k (Some part) = Err part

-- the kind, unless a part fits no message
abbrev pub fitted : (receiver : ℕ) → Kind → (page sender length : ℕ) → Result Kind Misfit
fitted r k p s n = whole k (misfit r k p s n)

abbrev pub kinded : (receiver : ℕ) → Option Kind → (page sender length : ℕ) → Result Kind Misfit
kinded r None p s n = Err KindPart
kinded r (Some k) p s n = fitted r k p s n

-- the kind that five words name, or the first word that fits no message together with those before it
abbrev pub headed : (receiver kind page sender length : ℕ) → Result Kind Misfit
headed r k p s n = cond (nat_le 8 r) (Err Receiver) (kinded r (kind_of k) p s n)
