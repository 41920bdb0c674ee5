-- What a station notes of a page, as plain data.
use Rattle.std.specs.Prelude.{ℕ, Bool, true, false, List, [], Option, Some, None}
use Rattle.notes.specs.declared.row.Access.{Access}
use Rattle.notes.specs.declared.row.Access.TheVariants.{Read, Write}
use Rattle.notes.specs.declared.row.CopyKind.{CopyKind}
use Rattle.notes.specs.declared.row.CopyKind.TheVariants.{Shared, Exclusive}
use Rattle.notes.specs.declared.row.Standing.{Standing}
use Rattle.notes.specs.declared.row.Standing.TheVariants.{Idle, Waiting, Open}
use Rattle.notes.specs.declared.row.Mode.{Mode}
use Rattle.notes.specs.declared.row.Mode.TheVariants.{Own}
use Rattle.notes.specs.declared.queue.Entry.{Entry}

-- what the home notes besides: sets of stations, and a queue
pub record HomeNotes : Type 0 where
  pub mode : Mode
  pub holders : ℕ
  pub awaited : ℕ
  pub queue : List Entry

abbrev pub home_notes : Mode → ℕ → ℕ → List Entry → HomeNotes
home_notes m h a q = record { mode = m; holders = h; awaited = a; queue = q }

pub record Notes : Type 0 where
  pub copy : Option CopyKind
  pub changed : Bool
  pub recall : Bool
  pub standing : Standing
  pub home : HomeNotes

abbrev pub notes : Option CopyKind → Bool → Bool → Standing → HomeNotes → Notes
notes c g r s h = record { copy = c; changed = g; recall = r; standing = s; home = h }

-- after set-up
abbrev pub blank : Notes
blank = notes None false false Idle (home_notes Own 0 0 [])

abbrev pub is_idle : Standing → Bool
is_idle Idle = true
is_idle (Waiting _) = false
is_idle (Open _) = false

abbrev pub is_waiting : Standing → Bool
is_waiting Idle = false
is_waiting (Waiting _) = true
is_waiting (Open _) = false

abbrev pub is_open : Standing → Bool
is_open Idle = false
is_open (Waiting _) = false
is_open (Open _) = true

abbrev pub is_write : Access → Bool
is_write Read = false
is_write Write = true

-- open for writing
abbrev pub is_writing : Standing → Bool
is_writing Idle = false
is_writing (Waiting _) = false
is_writing (Open a) = is_write a

abbrev pub is_none : Option CopyKind → Bool
is_none None = true
is_none (Some _) = false

abbrev pub is_exclusive : Option CopyKind → Bool
is_exclusive None = false
is_exclusive (Some Shared) = false
is_exclusive (Some Exclusive) = true
