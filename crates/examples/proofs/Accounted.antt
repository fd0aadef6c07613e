-- One run, computed: a claim, an open request, two refusals and a completion, with its area. The account holds of it, so that its
-- premises can be met.
-- Assumes nothing.
use mathlib.Core.Path.{◌≡◌, refl, sym, subst₂}
use mathlib.Core.Bool.{Bool, true, So}
use mathlib.Core.List.{List, [], ◌∷◌}
use lib.Dec.{eqb}
use lib.ListN.{length}
use Rattle.laws.specs.Fold.{all_of}
use Rattle.model.specs.declared.State.{State}
use Rattle.model.specs.Calls.{Call, line, advance, read, write, respond}
use Rattle.model.specs.Run.{Past, run, claims_in, ticks_in, every, ages_open, Accounted, past}
use Rattle.model.proofs.Runs.{accounted}
use Rattle.model.proofs.Quick.{quick_run, quick_past, run_quick, answer_quick, past_quick, computed}
use Rattle.examples.specs.Play.{bits, kinds, board}
use Rattle.examples.proofs.Quickly.{board_is_sound}

-- source 2 has priority 1 and is enabled in context 0, source 3 is enabled nowhere; both rise; 10 ticks pass
pub waiting : List Call
waiting = advance 10 ∷ line 3 true ∷ line 2 true ∷ write 0x2000 4 ∷ write 8 1 ∷ []

-- source 2 is claimed, a read is refused, 5 ticks pass, source 2 is completed, an advance is refused, 7 ticks pass
pub whole : List Call
unfolding waiting
whole = advance 7 ∷ advance 4294967295 ∷ write 0x200004 2 ∷ advance 5 ∷ read 0x200002 ∷ read 0x200004 ∷ waiting

-- the two refusals
pub refusals : ((respond (read 0x200002) (run board waiting)).number ≡ 5) × ((respond (advance 4294967295) (run board waiting)).number ≡ 8)
unfolding computed quick_run board waiting
refusals = (rw (answer_quick board board_is_sound) refl, rw (answer_quick board board_is_sound) refl)

-- what is read off the run
pub told : Past → State → Bool
told p s = all_of (
    -- 10 × 2 + 5 × 1 + 7 × 1: the claim's 10, and source 3's age of 22
    eqb p.area 32
    ∷ eqb (ticks_in every p.events) 10
    ∷ eqb (claims_in every p.events) 1
    ∷ eqb (ages_open s p) 22
    -- a claim and a completion, and a rise of each source
    ∷ eqb (length p.events) 2
    ∷ eqb (p.rose 2) 1
    ∷ eqb (p.rose 3) 1
    ∷ [])

quick_told : So (told (quick_past board whole) (quick_run board whole))
unfolding computed quick_run quick_past board whole told
quick_told = refl

pub one_run : So (told (past board whole) (run board whole))
one_run = subst₂ (λ (p : Past) (s : State). So (told p s))
    (sym (past_quick board board_is_sound whole)) (sym (run_quick board board_is_sound whole)) quick_told

pub one_run_accounted : Accounted (run board whole) (past board whole)
unfolding board
one_run_accounted = accounted 3 2 bits kinds (unfold computed in refl) whole
