-- A list of numbers in which one element, or a run of them, has changed.
-- Assumes nothing.
use mathlib.Core.Path.{◌≡◌, ◌∙◌, refl, sym, ap}
use mathlib.Core.List.{List, [], ◌∷◌, ◌++◌, append_assoc}
use mathlib.Core.Bool.{So}
use mathlib.Core.Logic.{⊎_elim}
use Prim.Native.Nat.{ℕ, suc, ◌+◌, ◌≤◌, ◌<◌, min}
use lib.Dec.{leb}
use borrow.Author.Tests.{leb-true, leb-false}
use native.Mathlib.Nat.{add-zero, suc-add, add-suc}
use native.Mathlib.Omega.{arith}
use lib.ListN.{length, get_or, set, take, drop}
use borrow.Rule.Slice.PartMut.{put_mid}
use Rattle.std.proofs.lemmas.Bool.{cases_Bool}
use Rattle.std.proofs.lemmas.List.{drop-drop}
use lib.Seq.{sets, sets-eq, take_all, take-length, get_or-set_same, get_or-set_other, set_comm}
use Rattle.laws.specs.Fold.{sum_to}
use Rattle.laws.proofs.Fold.{sum_change}

-- a sum over a list changes by as much as the element does
pub list_sum : (l : List ℕ) (n i x : ℕ) → i < n → i < length l →
    sum_to (λ k. get_or (set l i x) k 0) n + get_or l i 0 ≡ sum_to (λ k. get_or l k 0) n + x
list_sum l n i x h k =
    sum_change (λ j. get_or l j 0) (λ j. get_or (set l i x) j 0) n i h (λ j ne. sym (get_or-set_other l i j x 0 ne))
    ∙ ap (λ (y : ℕ). sum_to (λ j. get_or l j 0) n + y) (get_or-set_same l i x 0 k)

-- a text stored in two parts
pub sets_append : (l : List ℕ) (at : ℕ) (xs ys : List ℕ) → sets l at (xs ++ ys) ≡ sets (sets l at xs) (at + length xs) ys
sets_append l at [] ys = ap (λ (k : ℕ). sets l k ys) (sym (add-zero at))
sets_append l at (x ∷ xs) ys =
    sets_append (set l at x) (suc at) xs ys
    ∙ ap (λ (k : ℕ). sets (sets (set l at x) (suc at) xs) k ys) (suc-add at (length xs) ∙ sym (add-suc at (length xs)))

-- a store past the place of a text, made before the text is stored or after
pub sets_after : (l : List ℕ) (at : ℕ) (xs : List ℕ) (j b : ℕ) → at + length xs ≤ j → sets (set l j b) at xs ≡ set (sets l at xs) j b
sets_after l at [] j b h = refl
sets_after l at (x ∷ xs) j b h =
    ap (λ (k : List ℕ). sets k (suc at) xs) (set_comm l j at b x (λ e. omega arith))
    ∙ sets_after (set l at x) (suc at) xs j b (omega arith)

-- a text stored as a part of the list that is written over
pub sets_part : (l : List ℕ) (at n : ℕ) (xs : List ℕ) → length xs ≡ n → at + n ≤ length l → put_mid at n l xs ≡ sets l at xs
sets_part l at n xs e h =
    ap (λ (k : List ℕ). take at l ++ (xs ++ k)) (drop-drop n at l ∙ ap (λ (k : ℕ). drop (at + k) l) (sym e))
    ∙ sym (sets-eq xs l at (omega (arith, e, h)) ∙ append_assoc (take at l) xs (drop (at + length xs) l))

-- as many as there are, or as there is room for
pub take_most : (k : ℕ) (l : List ℕ) → take (min (length l) k) l ≡ take k l
take_most k l = ⊎_elim
    (λ (t : So (leb (length l) k)).
    let all : min (length l) k ≡ length l = omega (arith, leb-true (length l) k t) in
    ap (λ (n : ℕ). take n l) all ∙ take-length l ∙ sym (take_all k l (leb-true (length l) k t)))
    (λ t. let some : min (length l) k ≡ k = omega (arith, leb-false (length l) k t) in ap (λ (n : ℕ). take n l) some)
    (cases_Bool (leb (length l) k))
