-- A plan that was read, written down again.
use Rattle.std.proofs.Common.{◌≡◌, ℕ, zero, suc, ◌+◌, Bool, List, [], ◌∷◌, ◌++◌, length, drop, Ok, Err, Result, refl, ap, append_assoc, append-nil, nat_lt, arith}
use Rattle.std.proofs.lemmas.Grind.{common_steps}
use Rattle.std.proofs.lemmas.List.{drop_more, drop_all, drop-drop, take-append-drop, length-take-le, length-drop, length_push, flat_map_more}
use Rattle.line.specs.declared.refusal.Refusal.{Refusal}
use Rattle.plan.specs.Plans.{Sheet, sheet, layout, and_then, passing, between, new_letter, text_at, letters_at, sheet_at, sheets_at, end_at, planned, sheet_down, sheets_down, down, WritesDown}

-- what was answered after a part that was read
went_on : {A B : Type 0} (a : Result A Refusal) (f : A → Result B Refusal) (y : B) → and_then a f ≡ Ok y → (x : A) × (a ≡ Ok x) × (f x ≡ Ok y)
went_on (Ok x) f y q = (x, refl, q)
went_on (Err e) f y q = cc

-- the byte that passed is the next one
passed : (t : ℕ → Bool) (bs : List ℕ) (i b : ℕ) → passing t bs i ≡ Ok b → drop i bs ≡ b ∷ drop (i + 1) bs
passed t bs i b q = grind (arith, common_steps, drop_more {X = ℕ})

-- a text that was read stands there
texted : (bs : List ℕ) (i l : ℕ) (t : List ℕ) → text_at bs i l ≡ Ok t → (drop i bs ≡ t ++ drop (i + l) bs) × (length t ≡ l)
texted bs i l t q =
    let split = take-append-drop l (drop i bs) in
    let rest = drop-drop l i bs in
    (grind (arith, common_steps), grind (arith, common_steps, length-take-le {A = ℕ}, length-drop {A = ℕ}))

-- and nothing stands after the last one
ended_there : (bs : List ℕ) (i : ℕ) → end_at bs i ≡ Ok tt → drop i bs ≡ []
ended_there bs i q = grind (arith, common_steps, drop_all {X = ℕ})

-- so many letters more were read, and they stand there
lettered : (n : ℕ) (bs : List ℕ) (i : ℕ) (seen ls : List ℕ) → letters_at n bs i seen ≡ Ok ls
    → (seen ++ drop i bs ≡ ls ++ drop (i + n) bs) × (length ls ≡ length seen + n)
unfolding letters_at
lettered zero bs i seen ls q =
    let none : i + 0 ≡ i = omega arith in
    let all : seen ≡ ls = cc in
    (cc, omega (arith, ap length all))
lettered (suc n) bs i seen ls q =
    let w = went_on (passing (new_letter seen) bs i) _ ls q in
    let h = lettered n bs (i + 1) (seen ++ w.0 ∷ []) ls w.2 in
    let more : i + 1 + n ≡ i + suc n = omega arith in
    let there = passed (new_letter seen) bs i w.0 w.1 in
    let joined = append_assoc seen (w.0 ∷ []) (drop (i + 1) bs) in
    (cc, omega (arith, h.1, length_push seen w.0))

-- a page was read, and it stands there
sheeted : (n : ℕ) (bs : List ℕ) (i : ℕ) (q : Sheet × ℕ) → sheet_at n bs i ≡ Ok q → drop i bs ≡ sheet_down q.0 ++ drop q.1 bs
unfolding sheet_at
sheeted n bs i q e =
    let w = went_on (passing (λ b. nat_lt b n) bs i) _ q e in
    let u = went_on (passing (between 1 64) bs (i + 1)) _ q w.2 in
    let v = went_on (text_at bs (i + 2) u.0) _ q u.2 in
    let all : (sheet w.0 v.0, i + 2 + u.0) ≡ q = cc in
    let two : i + 1 + 1 ≡ i + 2 = omega arith in
    let home = passed _ bs i w.0 w.1 in
    let size = passed _ bs (i + 1) u.0 u.1 in
    let text = texted bs (i + 2) u.0 v.0 v.1 in
    rw (← all) cc

-- so many pages more were read, and they stand there
paged_down : (p n : ℕ) (bs : List ℕ) (i : ℕ) (gs : List Sheet) (q : List Sheet × ℕ) → sheets_at p n bs i gs ≡ Ok q
    → (sheets_down gs ++ drop i bs ≡ sheets_down q.0 ++ drop q.1 bs) × (length q.0 ≡ length gs + p)
unfolding sheets_at
paged_down zero n bs i gs q e =
    let all : (gs, i) ≡ q = cc in
    (cc, omega (arith, ap (λ (z : List Sheet × ℕ). length z.0) all))
paged_down (suc p) n bs i gs q e =
    let w = went_on (sheet_at n bs i) _ q e in
    let g = w.0.0 in
    let h = paged_down p n bs w.0.1 (gs ++ g ∷ []) q w.2 in
    let there = sheeted n bs i w.0 w.1 in
    let more = flat_map_more sheet_down [] gs g in
    let joined = append_assoc (sheets_down gs) (sheet_down g) (drop w.0.1 bs) in
    (cc, omega (arith, h.1, length_push gs g))

-- the parts one after another are the plan's bytes
joined : (bs : List ℕ) (n p j : ℕ) (ls : List ℕ) (gs : List Sheet) → bs ≡ n ∷ drop 1 bs
    → (drop 1 bs ≡ ls ++ drop (1 + n) bs) × (length ls ≡ 0 + n) → drop (1 + n) bs ≡ p ∷ drop (1 + n + 1) bs
    → (drop (2 + n) bs ≡ sheets_down gs ++ drop j bs) × (length gs ≡ 0 + p) → drop j bs ≡ [] → down (layout ls gs) ≡ bs
joined bs n p j ls gs stations letters pages sheets last =
    let two : 1 + n + 1 ≡ 2 + n = omega arith in
    let many : length ls ≡ n = omega (arith, letters.1) in
    let more : length gs ≡ p = omega (arith, sheets.1) in
    let none = append-nil (sheets_down gs) in
    cc

pub writes_down : WritesDown
unfolding planned
writes_down bs lay e =
    let w = went_on (passing (between 1 8) bs 0) _ lay e in
    let n = w.0 in
    let u = went_on (letters_at n bs 1 []) _ lay w.2 in
    let v = went_on (passing (between 1 16) bs (1 + n)) _ lay u.2 in
    let x = went_on (sheets_at v.0 n bs (2 + n) []) _ lay v.2 in
    let y = went_on (end_at bs x.0.1) _ lay x.2 in
    let all : layout u.0 x.0.0 ≡ lay = cc y.2 in
    rw (← all) (joined bs n v.0 x.0.1 u.0 x.0.0 (passed _ bs 0 n w.1) (lettered n bs 1 [] u.0 u.1)
    (passed _ bs (1 + n) v.0 v.1) (paged_down v.0 n bs (2 + n) [] x.0 x.1) (ended_there bs x.0.1 y.1))
