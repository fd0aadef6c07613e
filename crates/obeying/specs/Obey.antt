-- What a command of a script does to a board, in the words of the replay's definition.
-- Assumes nothing.
use Rattle.std.specs.Prelude.{◌≡◌, ℕ, Result, Ok, Err}
use Rattle.model.specs.declared.State.{State}
use Rattle.model.specs.declared.Refusal.{Refusal}
use Rattle.model.specs.Refusals.{number_of}
use Rattle.model.specs.Sound.{Sound}
use Rattle.commands.specs.declared.Command.{Command}
use Rattle.replaying.specs.declared.Said.{Said}
use Rattle.replaying.specs.declared.Said.TheVariants.{Refused}
use Rattle.replaying.specs.Replay.{Stand, before, on, ended, commanded}
use Rattle.replaying.specs.Text.{said_bytes}

-- what a line says by what its call answers: the value in its own way, or the number of its refusal
unfoldable pub said_of : (ℕ → Said) → Result ℕ Refusal → Said
said_of says (Ok v) = says v
said_of says (Err r) = Refused (number_of r)

-- a command takes state s to state t and says so much
abbrev pub Obeyed : Command → State → State → Said → Type 0
Obeyed c s t said = commanded c s ≡ record { stand = on t; prints = said_bytes said }

-- where a replay stands on a board, it is sound
abbrev pub SoundAt : Stand → Type 0
SoundAt before = Unit {0}
SoundAt (on s) = Sound s
SoundAt ended = Unit {0}
