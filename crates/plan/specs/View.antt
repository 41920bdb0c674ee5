-- What a plan of the code says, over the bytes that it was read from.
use Rattle.std.specs.Prelude.{ℕ, List, map, take, drop}
use Rattle.plan.specs.declared.list.FixedList.{FixedList}
use Rattle.plan.specs.declared.plan.Page.{Page}
use Rattle.plan.specs.declared.plan.Plan.{Plan}
use Rattle.plan.specs.Plans.{Sheet, sheet, Layout, layout}

-- the items of a list
abbrev pub listed : {T : Type 0} {N : ℕ} → FixedList T N → List T
listed l = take l.count l.items

abbrev pub sheet_of : List ℕ → Page → Sheet
sheet_of bs g = sheet g.home (take g.length (drop g.text bs))

abbrev pub sheets_of : {N : ℕ} → List ℕ → FixedList Page N → List Sheet
sheets_of bs gs = map (sheet_of bs) (listed gs)

abbrev pub layout_of : List ℕ → Plan → Layout
layout_of bs p = layout (listed p.letters) (sheets_of bs p.pages)
