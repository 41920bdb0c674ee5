-- What the faults of a station's step tell: each with its layer, its number, its name and its place.
use Rattle.std.specs.Prelude.{ℕ, List, codes}
use Rattle.line.specs.declared.refusal.Layer.TheVariants.{House}
use Rattle.line.specs.declared.refusal.Place.{Place}
use Rattle.line.specs.declared.refusal.Place.TheVariants.{Row, Pair}
use Rattle.line.specs.declared.refusal.Refusal.{Refusal}
use Rattle.station.specs.declared.fault.StationFault.{StationFault}
use Rattle.station.specs.declared.fault.StationFault.TheVariants.{Standing, Range, NoCopy, Strange, Full}

-- refusal n in the layer of the house
abbrev pub refused : ℕ → Place → Refusal
refused n p = record { layer = House; number = n; place = p }

abbrev pub told : StationFault → Refusal
told (Standing r) = refused 9 (Row r)
told (Range r) = refused 10 (Row r)
told (NoCopy r) = refused 11 (Row r)
told (Strange p) = refused 12 (Pair p)
told (Full p) = refused 13 p

abbrev pub title : StationFault → List ℕ
title (Standing r) = codes "STANDING"
title (Range r) = codes "RANGE"
title (NoCopy r) = codes "NO COPY"
title (Strange p) = codes "STRANGE"
title (Full p) = codes "FULL"
