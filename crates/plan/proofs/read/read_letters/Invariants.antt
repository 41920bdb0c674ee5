use Rattle.std.proofs.Common.{◌≡◌, ◌-◌, [], length}
use Rattle.plan.specs.Plans.{letters_at}
use Rattle.plan.specs.View.{listed}
use Rattle.plan.specs.Reading.{past}
use Rattle.plan.proofs.read.read_letters.Given as goal

abbrev pub invariant-loop : goal.invariant-loop
invariant-loop l = record {
  counted : length (listed l.letters) ≡ l.counter;
  moved : l.reader ≡ past l.counter l.initial.reader;
  -- what is left gives the letters, after those read so far
  left : letters_at l.stations l.initial.reader.bytes l.initial.reader.offset []
      ≡ letters_at (l.stations - l.counter) l.reader.bytes l.reader.offset (listed l.letters);
}
