-- The limits of a board and of a script's line, by name. Document 01, "What the board contains", "Waits, buckets and the two reports", "Replay".
-- Assumes nothing.
use Rattle.std.specs.Prelude.{ℕ, ◌+◌, ◌-◌, ◌*◌, ◌/◌}

-- "The state has room for 128 sources, number 0 included"; "N sources (1 to 127)"
abbrev pub source_room : ℕ
source_room = 128

abbrev pub last_source : ℕ
last_source = source_room - 1

-- "C contexts (1 to 8)"; a context's words of 32 sources, and those of all contexts
abbrev pub context_room : ℕ
context_room = 8

abbrev pub word_room : ℕ
word_room = source_room / 32

abbrev pub enable_room : ℕ
enable_room = context_room * word_room

-- "a table of 33 numbers"; "bucket k, for k = 1..32"
abbrev pub bucket_room : ℕ
bucket_room = 33

abbrev pub last_bucket : ℕ
last_bucket = bucket_room - 1

-- "b priority bits (1 to 5)"; "extra edges (0..255)"
abbrev pub most_bits : ℕ
most_bits = 5

abbrev pub most_edges : ℕ
most_edges = 255

-- "Lines over 255 bytes without the line feed .. are unreadable": a byte more than the longest line says that a line is too long
abbrev pub line_room : ℕ
line_room = 255

abbrev pub held_room : ℕ
held_room = line_room + 1
