-- A queue in slots, up to the first free one.
use Rattle.std.proofs.Common.{◌≡◌, ℕ, zero, suc, ◌<◌, ◌≤◌, ◌≢◌, MatchBool, Bool, true, false, List, [], ◌∷◌, ◌++◌, length, get_or, take, drop, set, is_some, IfSome, IsSome, IsSomeAnd, MatchOption, Some, None, Option, refl, sym, ap, arith}
use Rattle.std.proofs.lemmas.List.{get_or_past}
use Rattle.std.proofs.lemmas.Bool.{eq-eqb, ne_eqb, or_right, false≢true}
use Rattle.notes.specs.declared.queue.Entry.{Entry}
use Rattle.notes.specs.Queues.{entries, queued}

abbrev Slots : Type 0
Slots = List (Option Entry)

-- the slots turned by one, with the last one free
ends_free : (xs : Slots) (x : Option Entry) → entries (set (xs ++ x ∷ []) (length xs) None) ≡ entries xs
ends_free [] x = refl
ends_free (None ∷ xs) x = refl
ends_free (Some e ∷ xs) x = ap (λ q. e ∷ q) (ends_free xs x)

pub popped : (xs ys : Slots) → length xs ≡ 8 → 0 < length (entries xs) → ys ≡ drop 1 xs ++ take 1 xs → entries (set ys 7 None) ≡ drop 1 (entries xs)
popped [] ys l lt e = absurd (omega arith)
popped (None ∷ xs) ys l lt e = absurd (omega arith)
popped (Some x ∷ xs) ys l lt e =
    let n : 7 ≡ length xs = omega arith in
    rw (e, n) (ends_free xs (Some x))

none_first : (xs : Slots) → get_or xs 0 None ≡ None → entries xs ≡ []
none_first [] n = refl
none_first (None ∷ xs) n = refl
none_first (Some e ∷ xs) n = let z : ◌≡◌ {A = ℕ} 0 1 = cc in absurd (omega arith)

-- an entry in the first free slot, and the next one freed
pub pushed : (i : ℕ) (xs : Slots) (e : Entry) → ((k : ℕ) → k < i → IsSome (get_or xs k None)) → suc i < length xs → get_or xs i None ≡ None
    → entries (set (set xs i (Some e)) (suc i) None) ≡ entries xs ++ e ∷ []
pushed zero [] e t l f = absurd (omega arith)
pushed zero (x ∷ []) e t l f = absurd (omega arith)
pushed zero (x ∷ y ∷ xs) e t l f = rw (none_first (x ∷ y ∷ xs) f) refl
pushed (suc i) [] e t l f = absurd (omega arith)
pushed (suc i) (None ∷ xs) e t l f = absurd (false≢true (t 0 (omega arith)))
pushed (suc i) (Some x ∷ xs) e t l f = ap (λ q. x ∷ q) (pushed i xs e (λ k l. t (suc k) (omega arith)) (omega arith) f)

-- and in the last slot
pub pushed_last : (i : ℕ) (xs : Slots) (e : Entry) → ((k : ℕ) → k < i → IsSome (get_or xs k None)) → suc i ≡ length xs → get_or xs i None ≡ None
    → entries (set xs i (Some e)) ≡ entries xs ++ e ∷ []
pushed_last zero [] e t l f = absurd (omega arith)
pushed_last zero (x ∷ []) e t l f = rw (none_first (x ∷ []) f) refl
pushed_last zero (x ∷ y ∷ xs) e t l f = absurd (omega arith)
pushed_last (suc i) [] e t l f = absurd (omega arith)
pushed_last (suc i) (None ∷ xs) e t l f = absurd (false≢true (t 0 (omega arith)))
pushed_last (suc i) (Some x ∷ xs) e t l f = ap (λ q. x ∷ q) (pushed_last i xs e (λ k l. t (suc k) (omega arith)) (omega arith) f)

-- n slots are taken at most
pub all_taken : (n : ℕ) (xs : Slots) → ((k : ℕ) → k < n → IsSome (get_or xs k None)) → n ≤ length (entries xs)
all_taken zero xs t = omega arith
all_taken (suc n) [] t = absurd (false≢true (t 0 (omega arith)))
all_taken (suc n) (None ∷ xs) t = absurd (false≢true (t 0 (omega arith)))
all_taken (suc n) (Some e ∷ xs) t = let h = all_taken n xs (λ k l. t (suc k) (omega arith)) in omega (arith, h)

-- an entry of the station in a slot, with none free before it
pub found : (k s : ℕ) (xs : Slots) → ((j : ℕ) → j < k → IsSome (get_or xs j None)) → IsSomeAnd (get_or xs k None) (λ e. e.station ≡ s) → queued s (entries xs) ≡ true
found zero s [] t h = absurd h
found zero s (None ∷ xs) t h = absurd h
found zero s (Some e ∷ xs) t h = rw (eq-eqb _ _ h) refl
found (suc k) s [] t h = absurd (false≢true (t 0 (omega arith)))
found (suc k) s (None ∷ xs) t h = absurd (false≢true (t 0 (omega arith)))
found (suc k) s (Some e ∷ xs) t h = or_right _ _ (found k s xs (λ j l. t (suc j) (omega arith)) h)

-- no entry of the station in the slots before a free one
pub missed : (n s : ℕ) (xs : Slots) → ((k : ℕ) → k < n → IsSomeAnd (get_or xs k None) (λ e. e.station ≢ s)) → get_or xs n None ≡ None → queued s (entries xs) ≡ false
missed zero s xs t f = rw (none_first xs f) refl
missed (suc n) s [] t f = refl
missed (suc n) s (None ∷ xs) t f = refl
missed (suc n) s (Some e ∷ xs) t f = rw (ne_eqb _ _ (t 0 (omega arith)), missed n s xs (λ k l. t (suc k) (omega arith)) f) refl

module _ (xs : Slots) (n s : ℕ) (at : ℕ → Option Entry) (same : (k : ℕ) → k < n → IsSomeAnd (at k) (λ e. get_or xs k None ≡ Some e)) where
  taken : (k : ℕ) → k < n → IsSome (get_or xs k None)
  taken k l = go (at k) (same k l)
    where
      go : (o : Option Entry) → IsSomeAnd o (λ e. get_or xs k None ≡ Some e) → IsSome (get_or xs k None)
      go None h = elim h [ ]
      go (Some e) h = ap is_some h

  of_slot : (P : Entry → Type 0) (k : ℕ) → k < n → IfSome (at k) P → IsSomeAnd (get_or xs k None) P
  of_slot P k l h = go (at k) (same k l) h
    where
      go : (o : Option Entry) → IsSomeAnd o (λ e. get_or xs k None ≡ Some e) → IfSome o P → IsSomeAnd (get_or xs k None) P
      go None i h = elim i [ ]
      go (Some e) i h = rw i h

  -- the answer of a search of the entries `at`, which are those of the first n slots, and all where the search was whole
  pub searched : {X : Type 0} (next : Option X) (r whole : Bool) → (whole ≡ true → MatchOption next (length xs ≤ n) (λ _. get_or xs n None ≡ None))
      → MatchBool r ((k : ℕ) × (k < n) × IfSome (at k) (λ e. e.station ≡ s)) ((whole ≡ true) × ((k : ℕ) → IfSome (at k) (λ e. e.station ≢ s)))
      → r ≡ queued s (entries xs)
  searched next true whole w h = sym (found h.0 s xs (λ j l. taken j (omega (arith, l, h.1))) (of_slot _ h.0 h.1 h.2))
  searched {X = X} next false whole w h = sym (missed n s xs (λ k l. of_slot _ k l (h.1 k)) (ends next (w h.0)))
    where
      ends : (o : Option X) → MatchOption o (length xs ≤ n) (λ _. get_or xs n None ≡ None) → get_or xs n None ≡ None
      ends None l = get_or_past xs n None l
      ends (Some x) e = e
