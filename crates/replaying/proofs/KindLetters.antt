-- The kinds of a first line, letter by letter.
-- Assumes nothing.
use Rattle.std.proofs.Common.{◌≡◌, ◌∙◌, sym, ap, ℕ, ◌+◌, ◌<◌, List, [], ◌∷◌, ◌++◌, length, get_or, take, add-one, take-suc}
use Rattle.std.proofs.lemmas.List.{map-append}
use Rattle.replaying.specs.Replay.{kind_byte, kind_bytes}

-- one letter more
pub kinds_more : (letters kinds : List ℕ) (k x : ℕ) → k < length letters → kinds ≡ kind_bytes (take k letters) → x ≡ kind_byte (get_or letters k 0) →
    kinds ++ (x ∷ []) ≡ kind_bytes (take (k + 1) letters)
kinds_more letters kinds k x h e f =
    (λ i. e i ++ (f i ∷ []))
    ∙ sym (map-append kind_byte (take k letters) (get_or letters k 0 ∷ []))
    ∙ ap kind_bytes (sym (take-suc letters k 0 h) ∙ ap (λ (j : ℕ). take j letters) (sym (add-one k)))
