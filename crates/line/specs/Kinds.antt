-- The kinds of message: their numbers, and which bear a text.
use Rattle.std.specs.Prelude.{ℕ, Bool, true, false, cond, List, Some, None, codes, Option, ◌==◌}
use Rattle.line.specs.declared.kind.Kind.{Kind}
use Rattle.line.specs.declared.kind.Kind.TheVariants.{SharedCopy, ExclusiveCopy, ModifyGrant, Invalidate, ReadRequest, WriteRequest, Ack, AckWithText, Flush, FlushWithText}

abbrev pub number : Kind → ℕ
number SharedCopy = 1
number ExclusiveCopy = 2
number ModifyGrant = 3
number Invalidate = 4
number ReadRequest = 5
number WriteRequest = 6
number Ack = 7
number AckWithText = 8
number Flush = 9
number FlushWithText = 10

-- whether a message of this kind may bear a text
abbrev pub bears : Kind → Bool
bears SharedCopy = true
bears ExclusiveCopy = true
bears ModifyGrant = false
bears Invalidate = false
bears ReadRequest = false
bears WriteRequest = false
bears Ack = false
bears AckWithText = true
bears Flush = false
bears FlushWithText = true

-- the kind with this number
abbrev pub kind_of : ℕ → Option Kind
kind_of n =
    cond (n == 1) (Some SharedCopy)
    (cond (n == 2) (Some ExclusiveCopy)
    (cond (n == 3) (Some ModifyGrant)
    (cond (n == 4) (Some Invalidate)
    (cond (n == 5) (Some ReadRequest)
    (cond (n == 6) (Some WriteRequest)
    (cond (n == 7) (Some Ack)
    (cond (n == 8) (Some AckWithText)
    (cond (n == 9) (Some Flush)
    (cond (n == 10) (Some FlushWithText) None)))))))))

-- the kind's name, in ASCII
abbrev pub title : Kind → List ℕ
title SharedCopy = codes "SHARED COPY"
title ExclusiveCopy = codes "EXCLUSIVE COPY"
title ModifyGrant = codes "MODIFY GRANT"
title Invalidate = codes "INVALIDATE"
title ReadRequest = codes "READ REQUEST"
title WriteRequest = codes "WRITE REQUEST"
title Ack = codes "ACK"
title AckWithText = codes "ACK WITH TEXT"
title Flush = codes "FLUSH"
title FlushWithText = codes "FLUSH WITH TEXT"
