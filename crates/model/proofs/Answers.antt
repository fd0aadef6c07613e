-- What a call answers: which number is given, what a refused call gives, and what a step counts.
-- It stands on the definitions alone, so that a wrong answer is refused here, before any law on soundness.
-- Assumes nothing.
use mathlib.Core.Path.{◌≡◌, ◌∙◌, refl, sym, ap, subst}
use mathlib.Core.Bool.{false, So}
use mathlib.Core.Logic.{⊎_elim, ◌≢◌}
use mathlib.Core.List.Memᴰ
use mathlib.Core.List.{List, [], ◌∷◌, Memᴰ}
use Prim.Native.Nat.{ℕ, ◌+◌, ◌<◌}
use native.Mathlib.Omega.{arith}
use lib.Dec.{eqb, eqb-suc-zero, lit<}
use lib.ListN.{length, replicate}
use borrow.Author.Tests.{eqb-true, eqb-false, eq-eqb, ne_eqb}
use Rattle.std.proofs.lemmas.Bool.{cases_Bool, both_ways, false_from_ne_true, cond-true, cond-false, cond_both}
use Rattle.model.specs.declared.State.{State}
use Rattle.model.specs.declared.Refusal.{Refusal}
use Rattle.model.specs.Board.{with_steps}
use Rattle.model.specs.Refusals.{number_of, Ground, first_of, Smallest}
use Rattle.model.proofs.Refusals.{number_back}
use Rattle.model.specs.Calls.{Call, line, advance, read, write, notification, mean, by_claim, by_time, totals, is_step, grounds, values_of, effect, after, respond}
use Rattle.model.specs.Calls.{not_sound, no_step_left, offset_above, offset_unaligned, no_such_source, no_such_context, clock_past, per_mille_outside, nothing_to_divide}

-- numbers that rise, from above n on
abbrev pub Rising : ℕ → List Ground → Type 0
Rising n [] = Unit {0}
Rising n (g ∷ gs) = (n < g.number) × Rising g.number gs

pub rising_above : (n : ℕ) (gs : List Ground) → Rising n gs → (g : Ground) → Memᴰ g gs → n < g.number
rising_above n [] r g m = absurd (Memᴰ.not-nil m)
rising_above n (x ∷ gs) r g m = ⊎_elim
    (λ (e : g ≡ x). subst (λ (k : Ground). n < k.number) (sym e) r.0)
    (λ k. omega (arith, r.0, rising_above x.number gs r.1 g k))
    (Memᴰ.cases_cons m)

pub smallest_of : (n : ℕ) (gs : List Ground) → Rising n gs → Smallest gs (first_of gs)
unfolding first_of
smallest_of n [] r = record { refused = λ ne. absurd (ne refl); least = λ m c. absurd (Memᴰ.not-nil c.1) }
smallest_of n (g ∷ gs) r =
    let ih = smallest_of g.number gs r.1 in
    cond_both g.holds _ _ (Smallest (g ∷ gs))
    (λ t. record {
      refused = λ _. (g, Memᴰ.head refl, t, refl);
      least = λ m c. (
        λ e. omega (arith, e, r.0),
        ⊎_elim
            (λ (e : c.0 ≡ g). omega (arith, c.3, ap (λ (k : Ground). k.number) e))
            (λ k. omega (arith, c.3, rising_above g.number gs r.1 c.0 k))
            (Memᴰ.cases_cons c.1),
      );
    })
    (λ t. record {
      refused = λ ne. let c = ih.refused ne in (c.0, Memᴰ.tail c.1, c.2, c.3);
      least = λ m c. ⊎_elim
          (λ (e : c.0 ≡ g). absurd (both_ways _ t (subst (λ (k : Ground). So k.holds) e c.2)))
          (λ k. ih.least m (c.0, k, c.2, c.3))
          (Memᴰ.cases_cons c.1);
    })

-- the numbers of each call rise, so the first that holds is the smallest
pub rising : (a : Call) (s : State) → Rising 0 (grounds a s)
unfolding grounds not_sound no_step_left offset_above offset_unaligned no_such_source no_such_context clock_past per_mille_outside nothing_to_divide
rising (line i v) s = (lit< tt, (lit< tt, (lit< tt, tt)))
rising (advance n) s = (lit< tt, (lit< tt, (lit< tt, tt)))
rising (read off) s = (lit< tt, (lit< tt, (lit< tt, (lit< tt, tt))))
rising (write off v) s = (lit< tt, (lit< tt, (lit< tt, (lit< tt, tt))))
rising (notification c) s = (lit< tt, (lit< tt, tt))
rising mean s = (lit< tt, (lit< tt, tt))
rising (by_claim p) s = (lit< tt, (lit< tt, (lit< tt, tt)))
rising (by_time p) s = (lit< tt, (lit< tt, (lit< tt, tt)))
rising totals s = (lit< tt, tt)

-- the number given is the smallest of those that concern the call, and 0 exactly if none does
pub number_smallest : (a : Call) (s : State) → Smallest (grounds a s) (respond a s).number
unfolding respond
number_smallest a s = smallest_of 0 (grounds a s) (rising a s)

-- "A refusal gives value zero and the state exactly as handed in"
pub refused_gives : (a : Call) (s : State) → (respond a s).number ≢ 0 →
    ((respond a s).values ≡ replicate (length (values_of a s)) 0) × ((respond a s).state ≡ s)
unfolding respond
refused_gives a s ne = (cond-false _ _ _ (ne_eqb _ 0 ne), cond-false _ _ _ (ne_eqb _ 0 ne))

pub accepted_gives : (a : Call) (s : State) → (respond a s).number ≡ 0 → (respond a s).state ≡ after a s
unfolding respond
accepted_gives a s e = cond-true _ _ _ (eq-eqb _ 0 e)

-- of an accepted call no refusal's case holds
pub none_holds : (a : Call) (s : State) → (respond a s).number ≡ 0 → (g : Ground) → Memᴰ g (grounds a s) → g.holds ≡ false
none_holds a s e g m = false_from_ne_true g.holds (λ t. ((number_smallest a s).least g.number (g, m, t, refl)).0 e)

module _ (s : State) where
  no_effect : (a : Call) → is_step a ≡ false → effect a s ≡ s
  unfolding is_step effect
  no_effect (line i v) t = absurd (both_ways _ t refl)
  no_effect (advance n) t = absurd (both_ways _ t refl)
  no_effect (read off) t = absurd (both_ways _ t refl)
  no_effect (write off v) t = absurd (both_ways _ t refl)
  no_effect (notification c) t = refl
  no_effect mean t = refl
  no_effect (by_claim p) t = refl
  no_effect (by_time p) t = refl
  no_effect totals t = refl

  -- "Each accepted step adds one to the step count; refused ones, notifications and reports don't."
  pub step_counts : (a : Call) → (respond a s).number ≡ 0 → So (is_step a) → (respond a s).state.steps ≡ s.steps + 1
  unfolding after with_steps
  step_counts a e t = ap (λ (k : State). k.steps) (accepted_gives a s e ∙ cond-true _ _ _ t)

  -- notifications and reports leave the whole state as it was
  pub others_leave : (a : Call) → is_step a ≡ false → (respond a s).state ≡ s
  unfolding after
  others_leave a t = ⊎_elim
      (λ (u : So (eqb (respond a s).number 0)). accepted_gives a s (eqb-true _ 0 u) ∙ cond-false _ _ _ t ∙ no_effect a t)
      (λ u. (refused_gives a s (eqb-false _ 0 u)).1)
      (cases_Bool (eqb (respond a s).number 0))

-- which number is given, one ground at a time
pub first_hit : (g : Ground) (gs : List Ground) → So g.holds → first_of (g ∷ gs) ≡ g.number
unfolding first_of
first_hit g gs t = cond-true _ g.number (first_of gs) t

pub first_miss : (g : Ground) (gs : List Ground) → g.holds ≡ false → first_of (g ∷ gs) ≡ first_of gs
unfolding first_of
first_miss g gs e = cond-false _ g.number (first_of gs) e

-- where the number is 0, no refusal's case holds
pub clear : (a : Call) (s : State) → first_of (grounds a s) ≡ 0 → (g : Ground) → Memᴰ g (grounds a s) → g.holds ≡ false
unfolding respond
clear a s e = none_holds a s e

-- the outcome of a call, by the number
pub refused_as : (a : Call) (s : State) (r : Refusal) → first_of (grounds a s) ≡ number_of r →
    respond a s ≡ record { number = number_of r; values = replicate (length (values_of a s)) 0; state = s }
unfolding respond
refused_as a s r e =
    let n = number_back r in
    let fails = ap (λ (k : ℕ). eqb k 0) (e ∙ n.1) ∙ eqb-suc-zero n.0 in
    λ i. record { number = e i; values = cond-false _ (values_of a s) (replicate (length (values_of a s)) 0) fails i; state = cond-false _ (after a s) s fails i }

pub accepted_as : (a : Call) (s : State) → first_of (grounds a s) ≡ 0 →
    respond a s ≡ record { number = 0; values = values_of a s; state = after a s }
unfolding respond
accepted_as a s e =
    let holds = eq-eqb (first_of (grounds a s)) 0 e in
    λ i. record { number = e i; values = cond-true _ (values_of a s) (replicate (length (values_of a s)) 0) holds i; state = cond-true _ (after a s) s holds i }
