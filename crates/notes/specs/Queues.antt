-- The entries of a queue, oldest first.
use Rattle.std.specs.Prelude.{ℕ, Bool, false, ◌||◌, List, [], ◌∷◌, Some, None, Option, ◌==◌}
use Rattle.notes.specs.declared.queue.Entry.{Entry}

-- the slots up to the first free one
abbrev pub entries : List (Option Entry) → List Entry
entries [] = []
entries (None ∷ xs) = []
entries (Some e ∷ xs) = e ∷ entries xs

abbrev pub oldest : List Entry → Option Entry
oldest [] = None
oldest (e ∷ _) = Some e

-- whether the station has an entry
abbrev pub queued : ℕ → List Entry → Bool
queued s [] = false
queued s (e ∷ q) = e.station == s || queued s q
