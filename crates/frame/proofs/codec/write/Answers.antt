use Rattle.std.proofs.Common.{◌≡◌, ℕ, ◌+◌, ◌≤◌, List, ◌++◌, length, take, drop, Ok, ap, ◌∙◌, arith}
use borrow.Rule.Slice.PartMut.{put_mid}
use Rattle.std.proofs.lemmas.List.{drop-drop}
use Rattle.std.proofs.lemmas.Slice.{take-put_mid, drop-put_mid}
use Rattle.std.proofs.lemmas.Bool.Decides.{nat_tests}
use Rattle.line.specs.declared.message.Message.{Message}
use Rattle.line.specs.Kinds.{number}
use Rattle.line.specs.Messages.{Msg}
use Rattle.line.specs.View.{msg_of}
use Rattle.frame.specs.Frames.{word, encoded, size, written, decoded}
use Rattle.frame.proofs.Round.{round}
use Rattle.frame.proofs.codec.write.Goals as goal

-- the five words
abbrev words : Msg → List ℕ
words m = word m.receiver ++ word (number m.kind) ++ word m.page ++ word m.sender ++ word (length m.text)

-- two writes, of the words and of the text: what is answered, and that it is read again
writes : (m : Message) (xs ys zs : List ℕ) (l n : ℕ) → ys ≡ words (msg_of m) → zs ≡ (msg_of m).text
    → l ≡ length (msg_of m).text → n ≡ size (msg_of m) → n ≤ length xs
    → ((Ok n, put_mid 20 l (put_mid 0 20 xs ys) zs) ≡ written (msg_of m) xs)
    × (decoded (put_mid 20 l (put_mid 0 20 xs ys) zs) ≡ Ok (msg_of m, n))
writes m xs ys zs l n ey ez el en fits =
    let ly : length ys ≡ 20 = ap length ey in
    let front : take 20 (put_mid 0 20 xs ys) ≡ words (msg_of m) = take-put_mid 0 20 xs ys 20 (omega arith) (omega arith) ∙ ey in
    let back : drop l (drop 20 (put_mid 0 20 xs ys)) ≡ drop n xs =
    drop-drop l 20 _ ∙ drop-put_mid 0 20 xs ys (20 + l) (omega arith) (omega arith) ly ∙ ap (λ (j : ℕ). drop j xs) (omega arith) in
    let laid : put_mid 20 l (put_mid 0 20 xs ys) zs ≡ encoded (msg_of m) ++ drop (size (msg_of m)) xs =
    (λ i. front i ++ (ez i ++ back i)) ∙ ap (λ (j : ℕ). encoded (msg_of m) ++ drop j xs) en in
    let again = round m (drop (size (msg_of m)) xs) in
    (grind (arith, nat_tests, laid), cc)

pub returns : goal.returns
returns c =
    let t = c.text-text.ensures in
    let same = ap length t in
    let h = writes c.args.message.now c.args.out.now _ _ _ _
    (c.copy_from_slice.ensures.after ∙ c.as_flattened.ensures.value
    ∙ rw (c.to_be_bytes.ensures, c.from.ensures, c.receiver.ensures, c.to_be_bytes-2.ensures, c.from-3.ensures)
    (rw (c.from-2.ensures, c.kind.ensures, c.to_be_bytes-3.ensures, c.from-4.ensures, c.page.ensures)
    (rw (c.to_be_bytes-4.ensures, c.from-5.ensures, c.sender.ensures, c.to_be_bytes-5.ensures, t))))
    (c.copy_from_slice-2.ensures.after ∙ t) (omega (arith, same)) (omega (arith, same)) c.if-out-size.false in
    record { exact = h.0; again = h.1 }
