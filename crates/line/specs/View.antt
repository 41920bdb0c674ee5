-- What a header and a message of the code say.
use Rattle.std.specs.Prelude.{◌≡◌, ℕ, take}
use Rattle.line.specs.declared.header.Header.{Header}
use Rattle.line.specs.declared.message.Message.{Message}
use Rattle.line.specs.Messages.{Msg, msg}

-- a header's numbers, besides its kind
abbrev pub Says : (receiver page sender length : ℕ) → Header → Type 0
Says r p s n h = (h.receiver ≡ r) × (h.page ≡ p) × (h.sender ≡ s) × (h.length ≡ n)

abbrev pub msg_of : Message → Msg
msg_of m = msg m.header.sender m.header.receiver m.header.page m.header.kind (take m.header.length m.text)
