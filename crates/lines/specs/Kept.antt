-- The log that a frame line holds.
use Rattle.std.specs.Prelude.{List, [], vec_items}
use Rattle.std.specs.Option.{unwrap_or}
use Rattle.line.specs.Messages.{Msg}
use Rattle.lines.specs.declared.framed.FrameLine.{FrameLine}
use Rattle.lines.specs.Framed.{parsed}

abbrev pub log : FrameLine → List Msg
log f = unwrap_or (parsed f.count (vec_items f.frames)) []
