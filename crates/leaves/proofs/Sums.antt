-- The sum of a list of numbers as a sum over its indices, and that of what a function gives at each index.
-- Assumes nothing.
use Rattle.std.proofs.Common.{◌≡◌, ◌∙◌, refl, sym, ap, ℕ, zero, suc, ◌+◌, ◌≤◌, List, length, take, get_or, map, sum, add-one, arith}
use Rattle.std.specs.List.{range_with_len}
use Rattle.std.proofs.lemmas.List.{take_all}
use Rattle.std.proofs.lemmas.List.FromFn.{sum_by-map-range_with_len_more}
use Rattle.std.proofs.lemmas.List.Sums.{sum_by_more}
use Rattle.laws.specs.Fold.{sum_to}

-- the first n of them
sum_first : (xs : List ℕ) (n : ℕ) → n ≤ length xs → sum (take n xs) ≡ sum_to (λ i. get_or xs i 0) n
unfolding sum_to
sum_first xs zero h = refl
sum_first xs (suc n) h =
    ap (λ k. sum (take k xs)) (sym (add-one n)) ∙ sum_by_more (λ x. x) xs n 0 (omega arith)
    ∙ ap (λ s. s + get_or xs n 0) (sum_first xs n (omega arith))

pub sum_by_index : (xs : List ℕ) (n : ℕ) → length xs ≡ n → sum xs ≡ sum_to (λ i. get_or xs i 0) n
sum_by_index xs n e = ap sum (sym (take_all n xs (omega arith))) ∙ sum_first xs n (omega arith)

pub sum_range : (f : ℕ → ℕ) (n : ℕ) → sum (map f (range_with_len 0 n)) ≡ sum_to f n
unfolding sum_to
sum_range f zero = refl
sum_range f (suc n) =
    ap (λ k. sum (map f (range_with_len 0 k))) (sym (add-one n)) ∙ sum_by-map-range_with_len_more (λ x. x) f 0 n n (omega arith)
    ∙ ap (λ s. s + f n) (sum_range f n)
