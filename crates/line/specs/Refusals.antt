-- What the faults of a line tell: each with its layer, its number, its name and its place.
use Rattle.std.specs.Prelude.{ℕ, List, codes}
use Rattle.line.specs.declared.refusal.Layer.TheVariants.{Line}
use Rattle.line.specs.declared.refusal.Place.{Place}
use Rattle.line.specs.declared.refusal.Place.TheVariants.{Offset, Pair as OfPair, Row}
use Rattle.line.specs.declared.refusal.Refusal.{Refusal}
use Rattle.line.specs.declared.refusal.RowId.{RowId}
use Rattle.line.specs.declared.pair.Pair.{Pair}
use Rattle.line.specs.declared.fault.LineFault.{LineFault}
use Rattle.line.specs.declared.fault.LineFault.TheVariants.{Pair as NoPair, Empty, NoPlace}
use Rattle.line.specs.declared.fault.Misfit.{Misfit}
use Rattle.line.specs.declared.fault.Misfit.TheVariants.{Receiver, Kind, Page, Sender, Length}

abbrev pub pair_of : (sender receiver : ℕ) → Pair
pair_of a b = record { sender = a; receiver = b }

-- the place of a refusal that names a pair
abbrev pub between : (sender receiver : ℕ) → Place
between a b = OfPair (pair_of a b)

abbrev pub row_id : (station page : ℕ) → RowId
row_id s g = record { station = s; page = g }

-- the place of a refusal that names a station and a page
abbrev pub row_at : (station page : ℕ) → Place
row_at s g = Row (row_id s g)

-- refusal n in the layer of lines and frames
abbrev pub refused : ℕ → Place → Refusal
refused n p = record { layer = Line; number = n; place = p }

abbrev pub told : LineFault → Refusal
told (NoPair p) = refused 14 (OfPair p)
told (Empty p) = refused 15 (OfPair p)
told (NoPlace p) = refused 16 (OfPair p)

abbrev pub title : LineFault → List ℕ
title (NoPair p) = codes "PAIR"
title (Empty p) = codes "EMPTY"
title (NoPlace p) = codes "NO PLACE"

-- the parts of a message that fit none, by the offset of their word in a frame
abbrev pub misfits : Misfit → Refusal
misfits Receiver = refused 19 (Offset 0)
misfits Kind = refused 19 (Offset 4)
misfits Page = refused 19 (Offset 8)
misfits Sender = refused 19 (Offset 12)
misfits Length = refused 19 (Offset 16)

-- the name of each of them
abbrev pub misfit_title : Misfit → List ℕ
misfit_title part = codes "NO MESSAGE"
