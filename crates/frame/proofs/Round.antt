-- Reading what was written, and writing what was read.
use Rattle.std.proofs.Common.{◌≡◌, ℕ, ◌+◌, ◌≤◌, List, ◌++◌, length, take, drop, None, Ok, Err, Result, sym, refl, ap, ◌∙◌, arith}
use Rattle.std.proofs.lemmas.List.{length-append, length-drop, length-take-le, take_at, drop_at, take-append-drop, drop-drop}
use Rattle.std.proofs.lemmas.Bool.Decides.{nat_tests}
use Rattle.line.specs.declared.kind.Kind.{Kind}
use Rattle.line.specs.declared.fault.Misfit.{Misfit}
use Rattle.line.specs.Kinds.{number}
use Rattle.line.specs.Messages.{Msg, msg, misfit, Fits, headed}
use Rattle.line.specs.View.{msg_of}
use Rattle.line.proofs.Making.{sound}
use Rattle.frame.specs.Frames.{encoded, size, word_at, bodied, decoded, RoundTrip, WritesBack}
use Rattle.frame.proofs.Words.{from_word, stands}
use Rattle.frame.proofs.Heads.{of_number, number_of, few, passes, passed, bounds}

-- the message that is read, where its words make one and its text is whole
pub reads : (bs : List ℕ) (k : Kind) → 20 ≤ length bs
    → headed (word_at bs 0) (word_at bs 4) (word_at bs 8) (word_at bs 12) (word_at bs 16) ≡ Ok k → 20 + word_at bs 16 ≤ length bs
    → decoded bs ≡ Ok (msg (word_at bs 12) (word_at bs 0) (word_at bs 8) k (take (word_at bs 16) (drop 20 bs)), 20 + word_at bs 16)
reads bs k ge e fits = grind (arith, nat_tests)

-- a message that was written is read
pub again : (m : Msg) (rest : List ℕ) → Fits m → decoded (encoded m ++ rest) ≡ Ok (m, size m)
again m rest fit =
    let t = m.text in
    let bs = encoded m ++ rest in
    let q = bounds m.receiver m.kind m.page m.sender (length t) fit in
    let r : word_at bs 0 ≡ m.receiver = from_word m.receiver (omega (arith, q.0)) in
    let k : word_at bs 4 ≡ number m.kind = from_word (number m.kind) (few m.kind) in
    let p : word_at bs 8 ≡ m.page = from_word m.page (omega (arith, q.1)) in
    let s : word_at bs 12 ≡ m.sender = from_word m.sender (omega (arith, q.2)) in
    let n : word_at bs 16 ≡ length t = from_word (length t) (omega (arith, q.3)) in
    let long : length (t ++ rest) ≡ length t + length rest = length-append t rest in
    let head = passes m.receiver (number m.kind) m.page m.sender (length t) m.kind q.0 (of_number m.kind) fit in
    reads bs m.kind (omega arith) (rw (r, k, p, s, n) head) (omega (arith, n))
    ∙ rw (r, p, s, n, take_at t rest (length t) refl)

-- and what follows it is left over
pub leaves : (m : Msg) (rest : List ℕ) → drop (size m) (encoded m ++ rest) ≡ rest
leaves m rest = drop_at (encoded m) rest (size m) (omega arith)

pub round : RoundTrip
round m rest = (again (msg_of m) rest (sound m), leaves (msg_of m) rest)

text_length : (bs : List ℕ) → 20 + word_at bs 16 ≤ length bs → length (take (word_at bs 16) (drop 20 bs)) ≡ word_at bs 16
text_length bs fits = length-take-le (word_at bs 16) (drop 20 bs) (omega (arith, length-drop 20 bs))

-- the bytes that are taken are the frame of what is read
pub regains : (bs : List ℕ) (k : Kind)
    → headed (word_at bs 0) (word_at bs 4) (word_at bs 8) (word_at bs 12) (word_at bs 16) ≡ Ok k → 20 + word_at bs 16 ≤ length bs
    → encoded (msg (word_at bs 12) (word_at bs 0) (word_at bs 8) k (take (word_at bs 16) (drop 20 bs))) ≡ take (20 + word_at bs 16) bs
regains bs k e fits =
    let h = passed (word_at bs 0) (word_at bs 4) (word_at bs 8) (word_at bs 12) (word_at bs 16) k e in
    let q = bounds (word_at bs 0) k (word_at bs 8) (word_at bs 12) (word_at bs 16) h.1 in
    let t = take (word_at bs 16) (drop 20 bs) in
    let m = msg (word_at bs 12) (word_at bs 0) (word_at bs 8) k t in
    let after = drop (20 + word_at bs 16) bs in
    let lt : length t ≡ word_at bs 16 = text_length bs fits in
    let d = drop-drop (word_at bs 16) 20 bs in
    let a = take-append-drop (word_at bs 16) (drop 20 bs) in
    let s16 = stands bs 16 (length t) (omega arith) (sym lt) (omega (arith, q.3)) in
    let s12 = stands bs 12 m.sender (omega arith) refl (omega (arith, q.2)) in
    let s8 = stands bs 8 m.page (omega arith) refl (omega (arith, q.1)) in
    let s4 = stands bs 4 (number k) (omega arith) (sym (number_of (word_at bs 4) k h.0)) (few k) in
    let s0 = stands bs 0 m.receiver (omega arith) refl (omega (arith, q.0)) in
    let one : encoded m ++ after ≡ bs = cc in
    rw (← take_at (encoded m) after (20 + word_at bs 16) (omega (arith, lt))) (ap (take (20 + word_at bs 16)) one)

pub writes_back : WritesBack
writes_back bs m n e = grind (arith, nat_tests, regains bs)

body_fits : (bs : List ℕ) (h : Result Kind Misfit) (m : Msg) (n : ℕ) → bodied bs h ≡ Ok (m, n)
    → ((k : Kind) → h ≡ Ok k → misfit (word_at bs 0) k (word_at bs 8) (word_at bs 12) (word_at bs 16) ≡ None) → Fits m
body_fits bs (Err part) m n e f = cc
body_fits bs (Ok k) m n e f =
    let fits : 20 + word_at bs 16 ≤ length bs = grind (arith, nat_tests) in
    let q : msg (word_at bs 12) (word_at bs 0) (word_at bs 8) k (take (word_at bs 16) (drop 20 bs)) ≡ m = grind (arith, nat_tests) in
    rw (← q) (rw (text_length bs fits) (f k refl))

-- what is read is a message
pub read_fits : (bs : List ℕ) (m : Msg) (n : ℕ) → decoded bs ≡ Ok (m, n) → Fits m
read_fits bs m n e =
    body_fits bs _ m n (grind (arith, nat_tests)) (λ k h. (passed (word_at bs 0) (word_at bs 4) (word_at bs 8) (word_at bs 12) (word_at bs 16) k h).1)
