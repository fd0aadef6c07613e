-- The examples of document 01 marked P, as one list with a single statement, which antt computes.
-- Offsets: 0x4 × s the priority of s, 0x1000 the pending word, 0x2000 and 0x2080 the enables of contexts 0 and 1,
-- 0x200000 and 0x201000 their thresholds, 0x200004 and 0x201004 their claims and completions.
-- Assumes nothing.
use mathlib.Core.Path.{refl}
use mathlib.Core.Bool.{true, false, So}
use mathlib.Core.List.{[], ◌∷◌}
use lib.Dec.{eqb}
use Rattle.model.specs.Board.{request}
use Rattle.model.specs.Waits.{bucket_claims, bucket_ticks}
use Rattle.model.specs.Calls.{line, read, write, notification}
use Rattle.model.proofs.Quick.{computed}
use Rattle.examples.specs.Play.{board, same, is_given, gives, leaves, waits, ranks, all_hold, booked_times, booked_all}
use Rattle.examples.proofs.Quickly.{board_is_sound, quick_accepted, quick_holds, all_quick, all_quick_lem}

pub examples : So (all_hold (
    -- sources 2 and 3 pending, enabled, both priority 5: claim gives 2; with source 3 at 6: 3
    gives (write 8 5 ∷ write 12 5 ∷ write 0x2000 0xC ∷ line 2 true ∷ line 3 true ∷ []) (read 0x200004) (2 ∷ [])
    ∷ gives (write 8 5 ∷ write 12 6 ∷ write 0x2000 0xC ∷ line 2 true ∷ line 3 true ∷ []) (read 0x200004) (3 ∷ [])
    -- priority 5, threshold 5: notification 0, claim still gives the ID; threshold 4: notification 1
    ∷ gives (write 8 5 ∷ write 0x2000 4 ∷ write 0x200000 5 ∷ line 2 true ∷ []) (notification 0) (0 ∷ [])
    ∷ gives (write 8 5 ∷ write 0x2000 4 ∷ write 0x200000 5 ∷ line 2 true ∷ []) (read 0x200004) (2 ∷ [])
    ∷ gives (write 8 5 ∷ write 0x2000 4 ∷ write 0x200000 4 ∷ line 2 true ∷ []) (notification 0) (1 ∷ [])
    -- priority 0, threshold 0: notification 0, claim 0
    ∷ gives (write 0x2000 4 ∷ line 2 true ∷ []) (notification 0) (0 ∷ [])
    ∷ gives (write 0x2000 4 ∷ line 2 true ∷ []) (read 0x200004) (0 ∷ [])
    -- writing priority 9 reads back 1; writing 7 reads 7
    ∷ gives (write 4 9 ∷ []) (read 4) (1 ∷ [])
    ∷ gives (write 4 7 ∷ []) (read 4) (7 ∷ [])
    -- claimed by context 0, completed by context 1 that enables it: takes effect, so that the level source, its line still
    -- high, is pending again; if context 1 doesn't enable it: ignored
    ∷ gives (write 4 1 ∷ write 0x2000 2 ∷ write 0x2080 2 ∷ line 1 true ∷ read 0x200004 ∷ write 0x201004 1 ∷ []) (read 0x1000) (2 ∷ [])
    ∷ gives (write 4 1 ∷ write 0x2000 2 ∷ line 1 true ∷ read 0x200004 ∷ write 0x201004 1 ∷ []) (read 0x1000) (0 ∷ [])
    -- completion with 0x102 while source 2 is in service: ignored, so that it is in service still
    ∷ gives (write 8 1 ∷ write 0x2000 4 ∷ line 2 true ∷ read 0x200004 ∷ write 0x200004 0x102 ∷ []) (read 0x1000) (0 ∷ [])
    ∷ leaves (write 8 1 ∷ write 0x2000 4 ∷ line 2 true ∷ read 0x200004 ∷ write 0x200004 0x102 ∷ []) (λ s. eqb (request s.requests 2).stage 2)
    -- counting source, fresh, its line rising three times with falls between and no claim: pending, two extra edges
    ∷ gives (line 3 true ∷ line 3 false ∷ line 3 true ∷ line 3 false ∷ line 3 true ∷ []) (read 0x1000) (8 ∷ [])
    ∷ leaves (line 3 true ∷ line 3 false ∷ line 3 true ∷ line 3 false ∷ line 3 true ∷ []) (λ s. eqb (request s.requests 3).extra 2)
    -- level line high, then low, before the claim: still claimed
    ∷ gives (write 4 1 ∷ write 0x2000 2 ∷ line 1 true ∷ line 1 false ∷ []) (read 0x200004) (1 ∷ [])
    -- wait 0 is bucket 0, 1 is 1, 3 is 2, 4 is 3, 4,294,967,295 is 32
    ∷ waits 0 0 ∷ waits 1 1 ∷ waits 3 2 ∷ waits 4 3 ∷ waits 4294967295 32
    -- 99 waits of 1 and one of 900: p 990 gives 1, p 991 gives 1023; by time p 500 gives 1023
    ∷ ranks bucket_claims ((99, 1) ∷ (1, 900) ∷ []) 990 1
    ∷ ranks bucket_claims ((99, 1) ∷ (1, 900) ∷ []) 991 1023
    ∷ ranks bucket_ticks ((99, 1) ∷ (1, 900) ∷ []) 500 1023
    ∷ []))
unfolding computed board same is_given booked_times booked_all quick_accepted quick_holds all_quick
examples = rw (all_quick_lem board_is_sound) refl
