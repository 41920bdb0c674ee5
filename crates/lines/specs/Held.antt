-- The log that a party line holds.
use Rattle.std.specs.Prelude.{List, map, vec_items}
use Rattle.line.specs.Messages.{Msg}
use Rattle.line.specs.View.{msg_of}
use Rattle.lines.specs.declared.party.PartyLine.{PartyLine}

abbrev pub log : PartyLine → List Msg
log p = map msg_of (vec_items p.messages)
