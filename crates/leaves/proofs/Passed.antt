-- What a call knows past its tests: what a negated test stands for, the number that a check comes to, and what a call whose check finds
-- no ground may rely on.
-- Assumes nothing.
use mathlib.Core.Path.{◌≡◌, ◌∙◌, refl, sym, ap}
use mathlib.Core.Bool.{Bool, true, false, not, ◌&&◌, So}
use mathlib.Core.List.{List, [], ◌∷◌}
use Prim.Native.Nat.{ℕ, suc, ◌+◌, ◌≤◌, ◌<◌}
use native.Mathlib.Nat.{suc-ne-zero}
use lib.Dec.{leb, ltb}
use borrow.Author.Tests.{ltb-false, leb-true, leb-false, not-true, not-false}
use Rattle.model.specs.Board.{is_source, is_context}
use Rattle.model.specs.declared.Refusal.{Refusal}
use Rattle.model.specs.Refusals.{number_of, answer_number, Ground, first_of}
use Rattle.std.proofs.lemmas.Bool.{and_parts}
use Rattle.std.specs.Prelude.{Result, Ok, Err}
use Rattle.leaves.specs.Checks.{step_grounds, line_grounds, advance_grounds, context_grounds, percentile_grounds}

-- a test that the code negates, where it stops at it and where it goes on
module _ {test is : Bool} (says : test ≡ is) where
  pub tested_false : not test ≡ true → is ≡ false
  tested_false t = sym says ∙ not-true test t

  pub tested_true : not test ≡ false → is ≡ true
  tested_true t = sym says ∙ not-false test t

-- the number of the grounds that a check looks at, by what it finds
module _ {check : Result (Unit {0}) Refusal} {number : ℕ} (says : answer_number check ≡ number) where
  pub found_refused : {why : Refusal} → check ≡ Err why → number ≡ number_of why
  unfolding answer_number
  found_refused e = sym says ∙ ap answer_number e

  pub found_none : {v : Unit {0}} → check ≡ Ok v → number ≡ 0
  unfolding answer_number
  found_none e = sym says ∙ ap answer_number e

pub first_none : first_of [] ≡ 0
unfolding first_of
first_none = refl

-- where a list finds none, its first ground does not hold, and the rest finds none
passed : (b : Bool) (k : ℕ) (rest : List Ground) → first_of (record { number = suc k; holds = b } ∷ rest) ≡ 0 → (b ≡ false) × (first_of rest ≡ 0)
unfolding first_of
passed true k rest e = absurd (suc-ne-zero k e)
passed false k rest e = (refl, e)

pub step_passed : (steps : ℕ) (rest : List Ground) → first_of (step_grounds steps rest) ≡ 0 → (steps < 4294967295) × (first_of rest ≡ 0)
step_passed steps rest e =
    let p = passed (leb 4294967295 steps) 2 rest e in
    (leb-false 4294967295 steps p.0, p.1)

pub line_passed : (steps n i : ℕ) → first_of (line_grounds steps n i) ≡ 0 → (steps < 4294967295) × So (is_source n i)
line_passed steps n i e =
    let p = step_passed steps _ e in
    (p.0, not-false _ (passed (not (is_source n i)) 5 [] p.1).0)

pub advance_passed : (steps clock ticks : ℕ) → first_of (advance_grounds steps clock ticks) ≡ 0 →
    (steps < 4294967295) × (clock + ticks ≤ 4294967295)
advance_passed steps clock ticks e =
    let p = step_passed steps _ e in
    (p.0, ltb-false 4294967295 (clock + ticks) (passed (ltb 4294967295 (clock + ticks)) 7 [] p.1).0)

pub context_passed : (m c : ℕ) → first_of (context_grounds m c) ≡ 0 → So (is_context m c)
context_passed m c e = not-false _ (passed (not (is_context m c)) 6 [] e).0

pub percentile_passed : (p all : ℕ) → first_of (percentile_grounds p all) ≡ 0 → p ≤ 1000
percentile_passed p all e =
    leb-true p 1000 (and_parts (leb 1 p) _ (not-false _ (passed (not (leb 1 p && leb p 1000)) 8 _ e).0)).1
