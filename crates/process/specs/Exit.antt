-- Exit statuses.
use Rattle.std.specs.Prelude.{ℕ, ◌≤◌, ◌≡◌, Result, Ok, Err}
use Rattle.process.specs.declared.exit.Status.{Status}
use Rattle.process.specs.declared.exit.Status.TheVariants.{Answered, Failed, Misused}
use Rattle.process.specs.declared.streams.Failure.{Failure}

-- All that was read was answered, or renewed.
abbrev pub answered : ℕ
answered = 0

-- A read or a write failed, or not all of the input was what it should be.
abbrev pub failed : ℕ
failed = 1

-- The arguments were wrong.
abbrev pub misused : ℕ
misused = 2

-- The number of a status.
abbrev pub number : Status → ℕ
number Answered = answered
number Failed = failed
number Misused = misused

-- Either of the first two: the system decides which, and what was read.
abbrev pub AnsweredOrFailed : Status → Type 0
AnsweredOrFailed status = number status ≤ failed

-- What a program ends with: one of the three.
abbrev pub Ended : Status → Type 0
Ended status = number status ≤ misused

-- What a run comes to: its status, or, where a call of the system failed, Failed.
abbrev pub EndedBy : Result Status Failure → Status → Type 0
EndedBy (Ok status) end = end ≡ status
EndedBy (Err failure) end = end ≡ Failed
