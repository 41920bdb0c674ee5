-- What a delivery answers and does at its receiver: its tests in order, each with its refusal, and then its step.
use Rattle.std.specs.Prelude.{ℕ, List, [], ◌∷◌}
use Rattle.line.specs.Refusals.{between}
use Rattle.line.specs.Messages.{Msg}
use Rattle.line.specs.Lists.{Lists}
use Rattle.notes.specs.Notes.{Notes}
use Rattle.steps.specs.Steps.{Step}
use Rattle.station.specs.Refusals.{refused}
use Rattle.station.specs.Calls.{After, tested, refusing, making, number, has_room}
use Rattle.delivery.specs.Deliveries.{expected, received}

-- a message from a to b does its step, if there is room for what that posts
abbrev pub taking : (a b room : ℕ) → Notes → List ℕ → Lists → Step → After ℕ
taking a b room r t w o = tested ((has_room room w, refused 13 (between a b)) ∷ []) (refusing r t w) (making number w o)

-- A message from a, with its kind and text, comes to station b.
abbrev pub delivering : (a b h g room : ℕ) → Msg → Notes → List ℕ → Lists → After ℕ
delivering a b h g room m r t w =
    tested ((expected a b h m.kind m.text r t, refused 12 (between a b)) ∷ []) (refusing r t w)
    (taking a b room r t w (received a b h g m.kind m.text r t))
