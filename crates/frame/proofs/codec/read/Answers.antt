use Rattle.std.proofs.Common.{◌≡◌, ℕ, ◌+◌, ◌≤◌, List, length, take, drop, Ok, arith, ap, rules}
use Rattle.line.specs.declared.header.Header.{Header}
use Rattle.line.specs.declared.message.Message.{Message}
use Rattle.line.specs.Messages.{msg, headed}
use Rattle.line.specs.View.{msg_of, Says}
use Rattle.frame.specs.Frames.{encoded, word_at, decoded}
use Rattle.frame.proofs.Round.{reads, regains}
use Rattle.std.proofs.lemmas.List.{take_rest}
use Rattle.frame.proofs.codec.read.Goals as goal

-- bytes with a whole frame at their start, and the values that the code has of it
whole : (bs text : List ℕ) (r kn p s n : ℕ) (h : Header) (m : Message)
    → r ≡ word_at bs 0 → kn ≡ word_at bs 4 → p ≡ word_at bs 8 → s ≡ word_at bs 12 → n ≡ word_at bs 16
    → Ok h.kind ≡ headed r kn p s n → Says r p s n h → 20 + n ≤ length bs → text ≡ take n (drop 20 bs)
    → msg_of m ≡ msg h.sender h.receiver h.page h.kind text
    → (Ok (msg_of m, 20 + n) ≡ decoded bs) × (encoded (msg_of m) ≡ take (20 + n) bs)
whole bs text r kn p s n h m er ek ep es en head says fits et is =
    let heads : headed (word_at bs 0) (word_at bs 4) (word_at bs 8) (word_at bs 12) (word_at bs 16) ≡ Ok h.kind = cc in
    let long : 20 + word_at bs 16 ≤ length bs = omega arith in
    let a = reads bs h.kind (omega arith) heads long in
    let b = regains bs h.kind heads long in
    (cc, cc)

pub returns : goal.returns
returns c =
    let bs = c.args.bytes.now in
    let fits : 20 + c.from_be_bytes-length.result ≤ length bs = search rules in
    let w = whole bs _ _ _ _ _ _ c.in_ok-header.header c.with_text-message.result
    c.from_be_bytes-receiver.ensures c.from_be_bytes-kind.ensures c.from_be_bytes-page.ensures c.from_be_bytes-sender.ensures c.from_be_bytes-length.ensures
    c.in_ok-header.ensures.value c.in_ok-header.ensures.says fits (ap (take c.from_be_bytes-length.result) (take_rest bs 20)) c.with_text-message.ensures in
    record { exact = w.0; taken = (omega arith, fits); back = w.1 }
