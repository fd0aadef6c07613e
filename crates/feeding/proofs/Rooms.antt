-- The bytes of a line as they are held: two parts joined, the line feed after them, and the room that they stand in.
-- Assumes nothing.
use Rattle.std.proofs.Common.{◌≡◌, ◌∙◌, sym, ap, refl, ℕ, zero, suc, ◌≤◌, ◌<◌, ltb, Result, Ok, Err, IsOk, OnOk, List, [], ◌∷◌, ◌++◌, length, take, arith}
use native.Mathlib.Nat.{min-le_right}
use mathlib.Core.Bool.{So, false≢true}
use mathlib.Core.Logic.{⊎_elim}
use lib.ListN.{length-take}
use lib.Seq.{take_all, length-take-le}
use borrow.Author.Tests.{ltb-true, ltb-false, lt-ltb, le-ltb}
use Rattle.std.proofs.lemmas.Bool.{cond-true, cond-false, cases_Bool}
use Rattle.limits.specs.Limits.{line_room, held_room}
use Rattle.feeding.specs.Engine.{stand_in}

-- what a call that is accepted leaves
pub on_ok : {T E P : Type 0} (r : Result T E) → IsOk r → OnOk r P → P
on_ok (Ok v) is p = p
on_ok (Err e) is p = absurd (false≢true is)

-- as far as there is room, twice
pub take_joined : (n : ℕ) (xs ys : List ℕ) → take n (take n xs ++ ys) ≡ take n (xs ++ ys)
take_joined zero xs ys = refl
take_joined (suc n) [] ys = refl
take_joined (suc n) (x ∷ xs) ys = ap (λ (l : List ℕ). x ∷ l) (take_joined n xs ys)

-- a line that leaves no room for its line feed
pub stands_empty : (l : List ℕ) → length (take held_room l) ≡ held_room → [] ≡ stand_in l
unfolding stand_in
stands_empty l full =
    let long : line_room < length l = omega (arith, full, length-take held_room l, min-le_right held_room (length l)) in
    sym (cond-true _ [] l (lt-ltb line_room (length l) long))

-- .. and one that does
pub stands_whole : (l : List ℕ) → (length (take held_room l) ≡ held_room → ⊥) → take held_room l ≡ stand_in l
unfolding stand_in
stands_whole l some =
    let short : length l ≤ line_room = short_of in
    take_all held_room l (omega (arith, short)) ∙ sym (cond-false _ [] l (le-ltb line_room (length l) short))
  where
    short_of : length l ≤ line_room
    short_of = ⊎_elim
        (λ (t : So (ltb line_room (length l))). absurd (some (length-take-le held_room l (omega (arith, ltb-true line_room (length l) t)))))
        (λ t. ltb-false line_room (length l) t)
        (cases_Bool (ltb line_room (length l)))
