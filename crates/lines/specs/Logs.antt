-- A log: messages in order of posting, and what each pair has of it.
use Rattle.std.specs.Prelude.{ℕ, Bool, cond, ◌&&◌, List, Err, filter, Option, Result, ◌==◌}
use Rattle.std.specs.Option.{ok_or}
use Rattle.line.specs.declared.refusal.Refusal.{Refusal}
use Rattle.line.specs.Refusals.{refused, between}
use Rattle.line.specs.Messages.{Msg}
use Rattle.line.specs.Lists.{Lists, pair}

-- whether m is of the pair
abbrev pub goes : ℕ → ℕ → Msg → Bool
goes a b m = a == m.sender && b == m.receiver

-- for each pair its messages of the log, in order
unfoldable pub of : List Msg → Lists
of log a b = filter (goes a b) log

-- what a search for the pair's oldest message answers: where it is; PAIR, then EMPTY
abbrev pub searched : {X : Type 0} → ℕ → ℕ → Option X → Result X Refusal
searched a b found = cond (pair a b) (ok_or found (refused 15 (between a b))) (Err (refused 14 (between a b)))
