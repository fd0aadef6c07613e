-- What a check of a call on a sound state finds, and the refusals that it looks at: the grounds of the call, by the numbers that they
-- depend on.
-- Assumes nothing.
use Rattle.std.specs.Prelude.{not, ◌&&◌, List, [], ◌∷◌, ℕ, ◌+◌, ◌%◌, leb, ltb, eqb}
use Rattle.model.specs.Board.{is_source, is_context}
use Rattle.model.specs.Refusals.{Ground}

-- the grounds of a step: 3 before its own
abbrev pub step_grounds : ℕ → List Ground → List Ground
step_grounds steps rest = record { number = 3; holds = leb 4294967295 steps } ∷ rest

abbrev pub line_grounds : ℕ → ℕ → ℕ → List Ground
line_grounds steps n i = step_grounds steps (record { number = 6; holds = not (is_source n i) } ∷ [])

abbrev pub advance_grounds : ℕ → ℕ → ℕ → List Ground
advance_grounds steps clock ticks = step_grounds steps (record { number = 8; holds = ltb 4294967295 (clock + ticks) } ∷ [])

abbrev pub access_grounds : ℕ → ℕ → List Ground
access_grounds steps off =
    step_grounds steps (record { number = 4; holds = ltb 0x3FFFFFC off } ∷ record { number = 5; holds = not (eqb (off % 4) 0) } ∷ [])

abbrev pub context_grounds : ℕ → ℕ → List Ground
context_grounds m c = record { number = 7; holds = not (is_context m c) } ∷ []

abbrev pub percentile_grounds : ℕ → ℕ → List Ground
percentile_grounds p all = record { number = 9; holds = not (leb 1 p && leb p 1000) } ∷ record { number = 10; holds = eqb all 0 } ∷ []
