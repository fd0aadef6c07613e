use Rattle.std.proofs.Common.{◌≡◌, ◌∙◌, refl, sym, ap, ap₂, arith, ℕ, ◌+◌, ◌*◌, ◌%◌, ◌^◌, ◌<◌, Bool}
use Rattle.std.proofs.lemmas.Bool.{cond-true, cond-false}
use native.Mathlib.Nat.{add-zero, one-mul, mod-eq_of_lt}
use lib.Pow.{pow_mono}
use Rattle.laws.specs.Bits.{packed}
use Rattle.laws.proofs.Bits.{packed_lt, packed_more}
use Rattle.model.specs.declared.Requests.{Requests}
use Rattle.model.specs.Board.{request}
use Rattle.model.specs.Waits.{is_pending}
use Rattle.leaves.proofs.stages.pending_word.Goals as goal
use Rattle.leaves.proofs.stages.pending_word.Goals.{then-is_pending, else-is_pending}

-- the bit at a place of the word w
abbrev at : Requests → ℕ → ℕ → Bool
at q w k = is_pending (request q (w * 32 + k))

pub loop-j-init : goal.loop-j-init
unfolding packed
loop-j-init c = refl

-- the worth of a bit below the 32nd, as the shift gives it
worth : (j : ℕ) → j < 32 → 1 * 2 ^ j % 4294967296 ≡ 2 ^ j
worth j h =
    ap (λ (x : ℕ). x % 4294967296) (one-mul (2 ^ j)) ∙ mod-eq_of_lt (omega (arith, pow_mono {i = j} {j = 31} (omega arith)))

pub overflow_add-word : goal.overflow_add-word
overflow_add-word c =
    let j = c.loop-j.j in
    let is = c.loop-j.invariant in
    omega (arith, is, worth j c.loop-j-test.true, packed_lt (at c.args.requests.now c.args.w) j, pow_mono {i = j} {j = 31} (omega arith))

pub loop-j-preserved : goal.loop-j-preserved
loop-j-preserved c =
    let f = at c.args.requests.now c.args.w in
    let j = c.loop-j.j in
    elim c.if-is_pending.branch [
      | then-is_pending w ↦ w.word-is ∙ ap₂ ◌+◌ c.loop-j.invariant (worth j c.loop-j-test.true ∙ sym (cond-true _ _ _ (sym (w.if-is_pending.ensures))))
          ∙ sym (packed_more f j)
      | else-is_pending w ↦ w.word-is ∙ c.loop-j.invariant
          ∙ sym (packed_more f j ∙ ap (λ (x : ℕ). packed f j + x) (cond-false _ _ _ (sym c.is_pending.ensures ∙ w.if-is_pending.false)) ∙ add-zero (packed f j))
    ]

pub returns : goal.returns
returns c =
    let last : c.loop-j.j ≡ 32 = omega arith in
    c.loop-j.invariant ∙ ap (packed (at c.args.requests.now c.args.w)) last
