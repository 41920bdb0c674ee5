use Rattle.std.proofs.Common.{◌≡◌, ◌-◌, [], length}
use Rattle.plan.specs.Plans.{sheets_at}
use Rattle.plan.specs.View.{listed, sheets_of}
use Rattle.plan.proofs.read.read_pages.Given as goal

abbrev pub invariant-loop : goal.invariant-loop
invariant-loop l = record {
  counted : length (listed l.pages) ≡ l.counter;
  same : l.reader.bytes ≡ l.initial.reader.bytes;
  -- what is left gives the pages, after those read so far
  left : sheets_at l.count l.stations l.initial.reader.bytes l.initial.reader.offset []
      ≡ sheets_at (l.count - l.counter) l.stations l.reader.bytes l.reader.offset (sheets_of l.reader.bytes l.pages);
}
