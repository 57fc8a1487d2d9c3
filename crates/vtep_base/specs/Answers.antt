-- Statuses of the top calls, and what a call may say where it finds no memory.
use Rattle.std.specs.Prelude.{ℕ, Option, Some, None}
use Rattle.vtep_base.specs.declared.answers.Status.{Status}
use Rattle.vtep_base.specs.declared.answers.Status.TheVariants.{Done, Usage, Refused, ReadFault, WriteFault, NoMemory, AcceptFault, SpawnFault, JournalFull}

-- the exit status of the process
abbrev pub status_number : Status → ℕ
status_number Done = 0
status_number Usage = 2
status_number Refused = 3
status_number ReadFault = 4
status_number WriteFault = 5
status_number NoMemory = 6
status_number AcceptFault = 7
status_number SpawnFault = 8
status_number JournalFull = 9

-- of a fault whose refusal this is, none where it is want of memory: it is want of memory, or the fact holds of the refusal
abbrev pub OrMemory : {R : Type 0} → Option R → (R → Type 0) → Type 0
OrMemory None meant = Unit {0}
OrMemory (Some refusal) meant = meant refusal
