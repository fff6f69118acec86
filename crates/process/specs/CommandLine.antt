-- The command line.
use Rattle.std.specs.Prelude.{◌≡◌, Option, Some, None}
use Rattle.arguments.specs.declared.options.Wish.{Wish}
use Rattle.arguments.specs.declared.options.Wish.TheVariants.{Help, Version, Other}
use Rattle.process.specs.declared.exit.Status.{Status}
use Rattle.process.specs.Exit.{number, misused, AnsweredOrFailed, Ended}

-- To a wish the program does not run: help and version are written, which may fail, and all else is a misuse.
abbrev pub RepliedTo : Wish → Status → Type 0
RepliedTo Help status = AnsweredOrFailed status
RepliedTo Version status = AnsweredOrFailed status
RepliedTo Other status = number status ≡ misused

-- A program that is not to run ends with a status; which, the arguments and the system decide.
abbrev pub Replied : Option Status → Type 0
Replied None = Unit {0}
Replied (Some status) = Ended status
