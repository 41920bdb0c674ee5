-- What the faults of frames tell: each with its layer, its number, its name and its place.
use Rattle.std.specs.Prelude.{ℕ, List, codes}
use Rattle.line.specs.declared.refusal.Place.TheVariants.{Offset}
use Rattle.line.specs.declared.refusal.Refusal.{Refusal}
use Rattle.line.specs.Refusals.{refused, misfits}
use Rattle.frame.specs.declared.fault.FrameFault.{FrameFault}
use Rattle.frame.specs.declared.fault.FrameFault.TheVariants.{Cut, Words, Buffer}

abbrev pub told : FrameFault → Refusal
told (Cut n) = refused 18 (Offset n)
told (Words part) = misfits part
told (Buffer n) = refused 20 (Offset n)

abbrev pub title : FrameFault → List ℕ
title (Cut n) = codes "CUT SHORT"
title (Words part) = codes "NO MESSAGE"
title (Buffer n) = codes "BUFFER"
