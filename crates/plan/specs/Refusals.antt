-- What the faults of a plan tell: each with its layer, its number, its name and its place.
use Rattle.std.specs.Prelude.{ℕ, List, Result, codes}
use Rattle.std.specs.Result.{result_map_both}
use Rattle.line.specs.declared.refusal.Layer.TheVariants.{Plan}
use Rattle.line.specs.declared.refusal.Place.TheVariants.{Offset}
use Rattle.line.specs.declared.refusal.Refusal.{Refusal}
use Rattle.plan.specs.declared.fault.PlanFault.{PlanFault}
use Rattle.plan.specs.declared.fault.PlanFault.TheVariants.{Short, Value, Long}

-- refusal n at this byte of the plan
abbrev refused : ℕ → ℕ → Refusal
refused n at = record { layer = Plan; number = n; place = Offset at }

abbrev pub short : ℕ → Refusal
short at = refused 1 at

abbrev pub value : ℕ → Refusal
value at = refused 2 at

abbrev pub long : ℕ → Refusal
long at = refused 3 at

abbrev pub told : PlanFault → Refusal
told (Short at) = short at
told (Value at) = value at
told (Long at) = long at

abbrev pub title : PlanFault → List ℕ
title (Short at) = codes "SHORT"
title (Value at) = codes "VALUE"
title (Long at) = codes "LONG"

-- an answer, with its fault as it is told
abbrev pub as_told : {A : Type 0} → Result A PlanFault → Result A Refusal
as_told answer = result_map_both (λ a. a) told answer
