-- What a row of the code says.
use Rattle.notes.specs.declared.row.Desk.{Desk}
use Rattle.notes.specs.declared.row.Row.{Row}
use Rattle.notes.specs.Queues.{entries}
use Rattle.notes.specs.Notes.{Notes, notes, HomeNotes, home_notes}

abbrev pub home_of : Desk → HomeNotes
home_of d = home_notes d.mode d.holders.bits d.awaited.bits (entries d.queue.slots)

abbrev pub notes_of : Row → Notes
notes_of r = notes r.copy r.changed r.recall r.standing (home_of r.desk)
