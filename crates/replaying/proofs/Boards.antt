-- A replay is a run of its own script: the board that it stands on is what the first line makes after the calls that the later lines
-- ask for, so that the account holds of it.
-- Assumes nothing.
use mathlib.Core.Path.{◌≡◌, ◌∙◌, refl, sym, ap, subst}
use mathlib.Core.Bool.{Bool, true, false, cond, So}
use mathlib.Core.List.{List, [], ◌∷◌, ◌++◌}
use mathlib.Core.Logic.{⊎_elim}
use Prim.Native.Nat.{ℕ}
use native.Mathlib.Omega.{arith}
use lib.Dec.{eqb}
use lib.ListN.{drop}
use borrow.Author.Tests.{eqb-true}
use Rattle.std.proofs.lemmas.Bool.{cases_Bool, cond-true, cond-false}
use Rattle.std.specs.Prelude.{Option, Some, None}
use Rattle.model.specs.declared.State.{State}
use Rattle.model.specs.Calls.{Call, respond}
use Rattle.model.specs.Run.{Past, run, past, claims_in, ticks_in, every, ages_open, Accounted}
use Rattle.model.proofs.Runs.{accounted}
use Rattle.commands.specs.declared.Command.{Command}
use Rattle.commands.specs.declared.Command.TheVariants.{Make, Line, Advance, Read, Write, Notify, Unreadable}
use Rattle.commands.specs.declared.Opening.{Opening}
use Rattle.commands.specs.Grammar.{command_of, opening_of}
use Rattle.replaying.specs.Replay.{Stand, before, on, ended, goes_on, commanded, kind_bytes, started, bad_start, first_line, answer, Replay, line_ends, fed, fed_all, last_in, closing, totals_line, finished, fresh, replay}
use Rattle.replaying.specs.Script.{lines_from, lines_in, call_of, calls_in, making_by, making, board_of, calls_of, stand_after, rest_of, all_lines, Reached}

-- line by line
through : Stand → List (List ℕ) → Stand
through p [] = p
through p (l ∷ ls) = through (answer p l).stand ls

fed_through : (r : Replay) (bs : List ℕ) → (fed_all r bs).stand ≡ through r.stand (lines_from r.begun bs)
unfolding fed_all fed line_ends lines_from through
fed_through r [] = refl
fed_through r (b ∷ bs) = by_cases (eqb b 10) (λ k. fed_through k bs)
  where
    by_cases : (t : Bool) → ((k : Replay) → (fed_all k bs).stand ≡ through k.stand (lines_from k.begun bs)) →
        (fed_all (cond t (line_ends r) (record { stand = r.stand; begun = r.begun ++ (b ∷ []); printed = r.printed })) bs).stand
        ≡ through r.stand (cond t (r.begun ∷ lines_from [] bs) (lines_from (r.begun ++ (b ∷ [])) bs))
    by_cases true ih = ih (line_ends r)
    by_cases false ih = ih (record { stand = r.stand; begun = r.begun ++ (b ∷ []); printed = r.printed })

-- a run of calls and of earlier ones
run_after : (s : State) (later earlier : List Call) → run s (later ++ earlier) ≡ run (run s earlier) later
unfolding run
run_after s [] earlier = refl
run_after s (a ∷ later) earlier = ap (λ (t : State). (respond a t).state) (run_after s later earlier)

commanded_runs : (c : Command) (s : State) → (commanded c s).stand ≡ on (run s (call_of c))
unfolding commanded goes_on call_of run
commanded_runs (Make o) s = refl
commanded_runs (Line i v) s = refl
commanded_runs (Advance n) s = refl
commanded_runs (Read off) s = refl
commanded_runs (Write off v) s = refl
commanded_runs (Notify c) s = refl
commanded_runs Unreadable s = refl

on_through : (s : State) (ls : List (List ℕ)) → through (on s) ls ≡ on (run s (calls_in ls))
unfolding through calls_in answer run
on_through s [] = refl
on_through s (l ∷ ls) =
    ap (λ (p : Stand). through p ls) (commanded_runs (command_of l) s)
    ∙ on_through (run s (call_of (command_of l))) ls
    ∙ ap on (sym (run_after s (calls_in ls) (call_of (command_of l))))

ended_through : (ls : List (List ℕ)) → through ended ls ≡ ended
unfolding through answer
ended_through [] = refl
ended_through (l ∷ ls) = ended_through ls

first_made : (o : Option Opening) (bytes : List ℕ) → (first_line o bytes).stand ≡ cond (eqb (making_by o bytes).number 0) (on (making_by o bytes).state) ended
unfolding first_line bad_start started making_by
first_made (Some o) bytes = refl
first_made None bytes = refl

lines_lead : (ls : List (List ℕ)) → through before ls ≡ stand_after ls
unfolding through stand_after answer making
lines_lead [] = refl
lines_lead (first ∷ later) =
    ap (λ (p : Stand). through p later) (first_made (opening_of (command_of first)) first)
    ∙ by_cases (eqb (making first).number 0)
  where
    by_cases : (t : Bool) → through (cond t (on (making first).state) ended) later ≡ cond t (on (run (making first).state (calls_in later))) ended
    by_cases true = on_through (making first).state later
    by_cases false = ended_through later

-- where a replay stands after its input, for every input
pub stands_after : (input : List ℕ) → (fed_all fresh input).stand ≡ stand_after (lines_in input)
unfolding fresh lines_in
stands_after input = fed_through fresh input ∙ lines_lead (lines_in input)

-- the board that lines lead to is accounted for: every call of theirs, and no other
made_accounted : (o : Option Opening) (bytes : List ℕ) (calls : List Call) → (making_by o bytes).number ≡ 0 →
    Accounted (run (making_by o bytes).state calls) (past (making_by o bytes).state calls)
unfolding making_by
made_accounted (Some o) bytes calls e = accounted o.sources o.contexts o.bits (kind_bytes (drop o.kinds bytes)) e calls
made_accounted None bytes calls e = absurd (omega (arith, e))

-- the board that a script's lines lead to is so reached
pub lines_reach : (lines : List (List ℕ)) (s : State) → stand_after lines ≡ on s → Reached lines s
unfolding stand_after board_of calls_of making
lines_reach [] s e = absurd (never e)
  where
    never : before ≡ on s → ⊥
    never e = let z : ◌≡◌ {A = ℕ} 0 1 = cc in omega arith
lines_reach (first ∷ later) s e = ⊎_elim
    (λ (t : So (eqb (making first).number 0)).
    let same : on (run (making first).state (calls_in later)) ≡ on s = sym (cond-true _ _ _ t) ∙ e in
    let is : s ≡ run (making first).state (calls_in later) = cc in
    record {
      is = is;
      account = subst (λ (k : State). Accounted k (past (making first).state (calls_in later))) (sym is)
          (made_accounted (opening_of (command_of first)) first (calls_in later) (eqb-true _ 0 t));
    })
    (λ t. absurd (never (sym (cond-false _ _ _ t) ∙ e)))
    (cases_Bool (eqb (making first).number 0))
  where
    never : ended ≡ on s → ⊥
    never e = let z : ◌≡◌ {A = ℕ} 0 1 = cc in omega arith

-- for every input: the board that the replay stands on is the run of this script's calls on the board of its first line, and
-- accounted for to the tick
pub replay_reached : (input : List ℕ) (s : State) → (fed_all fresh input).stand ≡ on s → Reached (lines_in input) s
replay_reached input s e = lines_reach (lines_in input) s (sym (stands_after input) ∙ e)

pub replay_accounted : (input : List ℕ) (s : State) → (fed_all fresh input).stand ≡ on s →
    Accounted s (past (board_of (lines_in input)) (calls_of (lines_in input)))
replay_accounted input s e = (replay_reached input s e).account

through_more : (p : Stand) (ls ms : List (List ℕ)) → through p (ls ++ ms) ≡ through (through p ls) ms
unfolding through
through_more p [] ms = refl
through_more p (l ∷ ls) ms = through_more (answer p l).stand ls ms

last_through : (r : Replay) (begun : List ℕ) → begun ≡ r.begun → (last_in begun r).stand ≡ through r.stand (rest_of begun)
unfolding last_in line_ends rest_of through
last_through r [] e = refl
last_through r (b ∷ bs) e = ap (λ (l : List ℕ). (answer r.stand l).stand) (sym e)

end_stands : (input : List ℕ) → (last_in (fed_all fresh input).begun (fed_all fresh input)).stand ≡ stand_after (all_lines input)
unfolding all_lines
end_stands input =
    last_through (fed_all fresh input) (fed_all fresh input).begun refl
    ∙ ap (λ (p : Stand). through p (rest_of (fed_all fresh input).begun)) (fed_through fresh input)
    ∙ sym (through_more fresh.stand (lines_from fresh.begun input) (rest_of (fed_all fresh input).begun))
    ∙ (unfold fresh lines_in in lines_lead (lines_from [] input ++ rest_of (fed_all fresh input).begun))

-- the last line of output gives what is read off the script's own run: clock, claims, ticks waited by claims, and ages still open
pub last_line : (input : List ℕ) (s : State) → stand_after (all_lines input) ≡ on s →
    let p : Past = past (board_of (all_lines input)) (calls_of (all_lines input)) in
    (printed : List ℕ)
    × (replay input ≡ printed ++ totals_line (s.clock ∷ claims_in every p.events ∷ ticks_in every p.events ∷ ages_open s p ∷ []))
unfolding replay finished closing
last_line input s e =
    let r : Replay = last_in (fed_all fresh input).begun (fed_all fresh input) in (
      r.printed,
      ap (λ (q : Stand). r.printed ++ closing q) (end_stands input ∙ e)
          ∙ ap (λ (t : List ℕ). r.printed ++ totals_line t) (lines_reach (all_lines input) s e).account.totals,
    )
