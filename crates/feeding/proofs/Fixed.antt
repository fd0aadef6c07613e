-- Each public call's promise fixes its answer, the replay and the lent output: any two results that it allows are equal. The pieces that
-- `feed` is lent are behind a `&`, and no function can change those.
-- Assumes nothing.
use mathlib.Core.Path.{◌≡◌, ◌∙◌, refl, sym, ap}
use mathlib.Core.List.{List, []}
use Prim.Native.Nat.{ℕ, ◌≤◌}
use lib.ListN.{length, get_or}
use Rattle.std.specs.Prelude.{Result}
use Rattle.laws.proofs.Once.{once}
use Rattle.model.specs.declared.Refusal.{Refusal}
use Rattle.model.specs.Refusals.{answer_values}
use Rattle.model.proofs.Refusals.{back, answer_back}
use Rattle.replaying.specs.declared.Fed.{Fed}
use Rattle.replaying.specs.declared.Ending.{Ending}
use Rattle.replaying.specs.declared.Replaying.{Replaying}
use Rattle.replaying.specs.Replay.{before}
use Rattle.replaying.specs.Pieces.{Feeding, taken_values, printed_by, fed_of, paused, feeding, Finishing, ending_of, finishing}

-- feeding a replay: the answer, the replay after it and the lent output
taken_of : List ℕ → Fed
taken_of vs = record { taken = get_or vs 0 0; printed = get_or vs 1 0 }

reading : Result Fed Refusal × Replaying × List ℕ → Feeding
reading x = fed_of x.0 x.1 x.2

fed_back : Feeding → Result Fed Refusal × Replaying × List ℕ
fed_back f = (back taken_of f.number f.values, f.replay, f.output)

fed_same : (x : Result Fed Refusal × Replaying × List ℕ) → fed_back (reading x) ≡ x
unfolding fed_back reading fed_of taken_of taken_values
fed_same x = λ i. (answer_back taken_of taken_values (λ v. refl) x.0 i, x.1, x.2)

-- what `feed` promises of a result
abbrev Promised : Replaying → List ℕ → List ℕ → Result Fed Refusal → Replaying → List ℕ → Type 0
Promised r input output x after out = (fed_of x after out ≡ feeding r input output) × (printed_by x ≤ length output)

pub feed_fixed : (r : Replaying) (input output : List ℕ) (x y : Result Fed Refusal) (a b : Replaying) (o p : List ℕ) →
    Promised r input output x a o → Promised r input output y b p → (x ≡ y) × (a ≡ b) × (o ≡ p)
unfolding reading
feed_fixed r input output x y a b o p e f =
    let Whole : Type 0 = Result Fed Refusal × Replaying × List ℕ in
    let same : (x, a, o) ≡ (y, b, p) = once reading fed_back fed_same (feeding r input output) (x, a, o) (y, b, p) e.0 f.0 in
    (ap (λ (k : Whole). k.0) same, ap (λ (k : Whole). k.1) same, ap (λ (k : Whole). k.2) same)

pub start_fixed : (x y : Replaying) → x ≡ paused before [] → y ≡ paused before [] → x ≡ y
start_fixed x y p q = p ∙ sym q

-- ending a script: the answer and the bytes
ending_back : Finishing → Ending
ending_back f = record { answer = back (λ vs. get_or vs 0 0) f.number f.values; bytes = f.bytes }

ending_same : (e : Ending) → ending_back (ending_of e) ≡ e
unfolding ending_back ending_of answer_values
ending_same e = λ i. record { answer = answer_back (λ vs. get_or vs 0 0) answer_values (λ v. refl) e.answer i; bytes = e.bytes }

pub finish_fixed : (r : Replaying) (x y : Ending) → ending_of x ≡ finishing r → ending_of y ≡ finishing r → x ≡ y
finish_fixed r x y = once ending_of ending_back ending_same (finishing r) x y
