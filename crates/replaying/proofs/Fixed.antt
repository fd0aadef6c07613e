-- Each public function's promise fixes its answer and the lent output: any two results that it allows are equal.
-- Assumes nothing.
use mathlib.Core.Path.{◌≡◌, ◌∙◌, sym, ap}
use mathlib.Core.List.{List}
use Prim.Native.Nat.{ℕ, ◌+◌}
use lib.ListN.{drop}
use Rattle.replaying.specs.Text.{Put, put}
use Rattle.replaying.specs.Pieces.{line_length}

pub line_end_fixed : (input : List ℕ) (from x y : ℕ) → x ≡ from + line_length (drop from input) → y ≡ from + line_length (drop from input) → x ≡ y
line_end_fixed input from x y p q = p ∙ sym q

-- `put_said` and `put_totals`
pub put_fixed : (room : ℕ) (text output : List ℕ) (at : ℕ) (x y : ℕ) (o p : List ℕ) →
    record { bytes = o; end = x } ≡ put room text output at → record { bytes = p; end = y } ≡ put room text output at → (x ≡ y) × (o ≡ p)
put_fixed room text output at x y o p e f = (ap (λ (k : Put). k.end) (e ∙ sym f), ap (λ (k : Put). k.bytes) (e ∙ sym f))
