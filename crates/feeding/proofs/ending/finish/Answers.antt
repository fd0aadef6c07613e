-- `ending::finish` meets its contract: a replay that cannot go on, or what is printed at the end.
use Rattle.std.proofs.Common.{◌≡◌, ◌∙◌, [], ◌∷◌, ℕ, length, replicate, sym, ap, arith}
use Rattle.std.proofs.lemmas.Bool.{cond-true, cond-false}
use mathlib.Core.Bool.{So}
use native.Mathlib.Nat.{zero-add}
use lib.Seq.{sets}
use Rattle.model.specs.declared.Refusal.TheVariants.{NotSound}
use Rattle.model.specs.Refusals.{number_of, answer_number, answer_values}
use Rattle.replaying.specs.declared.Replaying.{Replaying}
use Rattle.replaying.specs.Replay.{last_in, finished}
use Rattle.replaying.specs.Pieces.{shown, fit, ending, ending_of, finishing}
use Rattle.replaying.proofs.Short.{ending_short}
use Rattle.feeding.proofs.ending.finish.Goals as goal

the_end : (r : Replaying) → So (fit r) → finished (last_in (shown r).begun (shown r)) ≡ ending r
unfolding ending
the_end r t = sym (cond-true _ _ _ t)

pub returns-then-not-is_fit : goal.returns-then-not-is_fit
unfolding ending_of finishing ending answer_number answer_values
returns-then-not-is_fit c =
    let unfit = sym c.is_fit.ensures ∙ c.if-not-is_fit.true in
    let number = sym {A = ℕ} (cond-false _ 0 (number_of NotSound) unfit) in
    let none = sym (cond-false _ _ _ unfit) in
    λ i. record { number = number i; values = length (none i) ∷ []; bytes = sets (replicate 160 0) 0 (none i) }

pub put_ending-printed-requires : goal.put_ending-printed-requires
put_ending-printed-requires c = (sym c.is_fit.ensures ∙ c.if-not-is_fit.false, omega arith)

pub overflow_cast-result : goal.overflow_cast-result
overflow_cast-result c =
    let r = c.args.replay.now in
    let t = sym c.is_fit.ensures ∙ c.if-not-is_fit.false in
    omega (arith, c.put_ending-printed.ensures.place, ap length (the_end r t), ending_short r)

pub returns : goal.returns
unfolding ending_of finishing answer_number answer_values
returns c =
    let r = c.args.replay.now in
    let t = sym c.is_fit.ensures ∙ c.if-not-is_fit.false in
    let w = c.put_ending-printed.ensures in
    let number = sym {A = ℕ} (cond-true _ 0 (number_of NotSound) t) in
    let count = w.place ∙ zero-add _ ∙ ap length (the_end r t) in
    let bytes = w.bytes ∙ ap (sets (replicate 160 0) 0) (the_end r t) in
    λ i. record { number = number i; values = count i ∷ []; bytes = bytes i }
