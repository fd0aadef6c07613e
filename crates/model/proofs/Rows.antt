-- Document 01, the table of refusals, a row each: the number is given exactly when the row says so, where no smaller number is.
-- Assumes nothing.
use mathlib.Core.Path.{◌≡◌, ◌∙◌, refl, sym, ap, subst}
use mathlib.Core.Bool.{Bool, false, not, So}
use mathlib.Core.Logic.{◌⊎◌, inl, inr, ⊎_elim, ◌≢◌, ◌↔◌}
use mathlib.Core.List.{List, [], ◌∷◌}
use Prim.Native.Nat.{ℕ, ◌+◌, ◌%◌, ◌≤◌, ◌<◌}
use native.Mathlib.Omega.{arith}
use lib.Dec.{ltb, eqb, lit<}
use borrow.Author.Tests.{leb-true, ltb-true, ltb-false, lt-ltb, le-ltb, le-leb, lt-leb, eqb-true, eqb-false, eq-eqb, ne_eqb}
use Rattle.std.proofs.lemmas.Bool.{cases_Bool, both_ways, false_from_ne_true, not-true}
use Rattle.model.specs.declared.State.{State}
use Rattle.model.specs.Board.{is_source, is_context}
use Rattle.model.specs.Refusals.{Ground, first_of}
use Rattle.model.specs.Waits.{board_claims, board_waited}
use Rattle.model.specs.Sound.{sound, Sound}
use Rattle.model.specs.Calls.{Call, line, advance, read, write, notification, mean, by_claim, by_time, totals, is_step, grounds, respond}
use Rattle.model.specs.Calls.{not_sound, no_step_left, offset_above, offset_unaligned, no_such_source, no_such_context, clock_past, per_mille_outside, nothing_to_divide}
use Rattle.model.proofs.Sound.{sound_facts, sound_test}
use Rattle.model.proofs.Claim.{source_range, range_source}
use Rattle.model.proofs.Answers.{Rising, rising_above, smallest_of, rising, first_hit, first_miss}

-- the first of rows whose numbers rise is given exactly if its case holds
hit_iff : (n : ℕ) (g : Ground) (gs : List Ground) → Rising n (g ∷ gs) → (first_of (g ∷ gs) ≡ g.number) ↔ So g.holds
hit_iff n g gs r = (
  (λ e. ⊎_elim (λ (t : So g.holds). t)
      (λ t.
      let later = (smallest_of g.number gs r.1).refused (λ z. omega (arith, z, e, first_miss g gs t, r.0)) in
      absurd (omega (arith, rising_above g.number gs r.1 later.0 later.1, later.3, e, first_miss g gs t)))
      (cases_Bool g.holds)),
  first_hit g gs,
)

-- a number outside 1..n
pub outside_iff : (n i : ℕ) → So (not (is_source n i)) ↔ ((i ≡ 0) ⊎ (n < i))
outside_iff n i = (
  (λ t. ⊎_elim (λ (z : So (eqb i 0)). inl (eqb-true i 0 z))
      (λ z. ⊎_elim (λ (h : So (ltb n i)). inr (ltb-true n i h))
      (λ h. absurd (both_ways _ (not-true _ t) (range_source n i (omega (arith, eqb-false i 0 z)) (omega (arith, ltb-false n i h)))))
      (cases_Bool (ltb n i)))
      (cases_Bool (eqb i 0))),
  (λ o. ap not (false_from_ne_true (is_source n i) (λ t.
      let range = source_range n i t in
      ⊎_elim (λ (e : i ≡ 0). omega (arith, e, range.0)) (λ h. omega (arith, h, range.1)) o))),
)

-- the calls that have an offset, and those that rank by p per mille, with what these divide by
pub data Access (off : ℕ) : Call → Type 0 where
  reading : Access off (read off)
  writing : (v : ℕ) → Access off (write off v)

pub data Ranks (s : State) (p : ℕ) : Call → ℕ → Type 0 where
  claims : Ranks s p (by_claim p) (board_claims s.counts)
  ticks : Ranks s p (by_time p) (board_waited s.counts)

-- the rows but that of 2, which concerns every call and is the first
abbrev pub rest : List Ground → List Ground
rest [] = []
rest (g ∷ gs) = gs

module _ (s : State) where
  grounds_are : (a : Call) → grounds a s ≡ not_sound s ∷ rest (grounds a s)
  unfolding grounds
  grounds_are (line i v) = refl
  grounds_are (advance n) = refl
  grounds_are (read off) = refl
  grounds_are (write off v) = refl
  grounds_are (notification c) = refl
  grounds_are mean = refl
  grounds_are (by_claim p) = refl
  grounds_are (by_time p) = refl
  grounds_are totals = refl

  -- 2: "the state handed in is not sound"
  pub not_sound_iff : (a : Call) → ((respond a s).number ≡ 2) ↔ (Sound s → ⊥)
  unfolding respond not_sound
  not_sound_iff a =
      let row = hit_iff 0 (not_sound s) (rest (grounds a s)) (subst (Rising 0) (grounds_are a) (rising a s)) in
      let is = ap first_of (grounds_are a) in (
        (λ e f. both_ways _ (not-true _ (row.0 (sym is ∙ e))) (sound_test s f)),
        (λ n. is ∙ row.1 (ap not (false_from_ne_true (sound s) (λ t. n (sound_facts s t))))),
      )

  module _ (f : Sound s) where
    -- on a sound state the other rows decide
    pub number_of_rest : (a : Call) → first_of (grounds a s) ≡ first_of (rest (grounds a s))
    unfolding not_sound
    number_of_rest a = ap first_of (grounds_are a) ∙ first_miss (not_sound s) (rest (grounds a s)) (ap not (sound_test s f))

    -- a row that comes next
    row_iff : (a : Call) (n : ℕ) (g : Ground) (gs : List Ground) {P : Type 0} → first_of (grounds a s) ≡ first_of (g ∷ gs) → Rising n (g ∷ gs) →
        So g.holds ↔ P → ((respond a s).number ≡ g.number) ↔ P
    unfolding respond
    row_iff a n g gs is r holds = (
      (λ e. holds.0 ((hit_iff n g gs r).0 (sym is ∙ e))),
      (λ p. is ∙ (hit_iff n g gs r).1 (holds.1 p)),
    )

    full_iff : So (no_step_left s).holds ↔ (4294967295 ≤ s.steps)
    unfolding no_step_left
    full_iff = (leb-true 4294967295 s.steps, le-leb 4294967295 s.steps)

    -- 3: "a step, with 4,294,967,295 steps already taken"
    pub no_step_left_iff : (a : Call) → So (is_step a) → ((respond a s).number ≡ 3) ↔ (4294967295 ≤ s.steps)
    unfolding is_step grounds not_sound no_step_left
    no_step_left_iff (line i v) t = row_iff (line i v) 2 (no_step_left s) _ (number_of_rest (line i v)) (rising (line i v) s).1 full_iff
    no_step_left_iff (advance n) t = row_iff (advance n) 2 (no_step_left s) _ (number_of_rest (advance n)) (rising (advance n) s).1 full_iff
    no_step_left_iff (read off) t = row_iff (read off) 2 (no_step_left s) _ (number_of_rest (read off)) (rising (read off) s).1 full_iff
    no_step_left_iff (write off v) t = row_iff (write off v) 2 (no_step_left s) _ (number_of_rest (write off v)) (rising (write off v) s).1 full_iff
    no_step_left_iff (notification c) t = absurd (both_ways _ refl t)
    no_step_left_iff mean t = absurd (both_ways _ refl t)
    no_step_left_iff (by_claim p) t = absurd (both_ways _ refl t)
    no_step_left_iff (by_time p) t = absurd (both_ways _ refl t)
    no_step_left_iff totals t = absurd (both_ways _ refl t)

    -- 7: "notification asked for a context not below C"
    pub no_such_context_iff : (c : ℕ) → ((respond (notification c) s).number ≡ 7) ↔ (s.shape.contexts ≤ c)
    unfolding grounds not_sound no_such_context is_context
    no_such_context_iff c = row_iff (notification c) 2 (no_such_context s c) [] (number_of_rest (notification c)) (rising (notification c) s).1 (
      (λ t. ltb-false c s.shape.contexts (not-true _ t)),
      (λ h. ap not (le-ltb c s.shape.contexts h)),
    )

    none_iff : (n : ℕ) → So (nothing_to_divide n).holds ↔ (n ≡ 0)
    unfolding nothing_to_divide
    none_iff n = (eqb-true n 0, eq-eqb n 0)

    -- 10: "mean or percentile with nothing to divide by"
    pub mean_of_nothing_iff : ((respond mean s).number ≡ 10) ↔ (board_claims s.counts ≡ 0)
    unfolding grounds not_sound nothing_to_divide
    mean_of_nothing_iff = row_iff mean 2 (nothing_to_divide (board_claims s.counts)) [] (number_of_rest mean) (rising mean s).1 (none_iff _)

    rank_rows : (p : ℕ) {a : Call} {whole : ℕ} → Ranks s p a whole → first_of (grounds a s) ≡ first_of (per_mille_outside p ∷ nothing_to_divide whole ∷ [])
    unfolding grounds
    rank_rows p claims = number_of_rest (by_claim p)
    rank_rows p ticks = number_of_rest (by_time p)

    module _ (p : ℕ) (a : Call) (whole : ℕ) (ranks : Ranks s p a whole) where
      -- 9: "per mille of a percentile outside 1..1000"
      pub per_mille_outside_iff : ((respond a s).number ≡ 9) ↔ ((p ≡ 0) ⊎ (1000 < p))
      unfolding per_mille_outside nothing_to_divide
      per_mille_outside_iff = row_iff a 2 (per_mille_outside p) (nothing_to_divide whole ∷ []) (rank_rows p ranks) (lit< tt, (lit< tt, tt))
          (unfold is_source in outside_iff 1000 p)

      pub nothing_to_divide_iff : 1 ≤ p → p ≤ 1000 → ((respond a s).number ≡ 10) ↔ (whole ≡ 0)
      unfolding nothing_to_divide
      nothing_to_divide_iff low high = row_iff a 9 (nothing_to_divide whole) [] (rank_rows p ranks ∙ first_miss (per_mille_outside p) _ inside) (lit< tt, tt) (none_iff whole)
        where
          inside : (per_mille_outside p).holds ≡ false
          inside = unfold per_mille_outside is_source in ap not (range_source 1000 p low high)

    module _ (room : s.steps < 4294967295) where
      has_room : (no_step_left s).holds ≡ false
      unfolding no_step_left
      has_room = lt-leb 4294967295 s.steps room

      -- 6: "line change for source 0 or above N"
      pub no_such_source_iff : (i : ℕ) (v : Bool) → ((respond (line i v) s).number ≡ 6) ↔ ((i ≡ 0) ⊎ (s.shape.sources < i))
      unfolding grounds no_such_source
      no_such_source_iff i v = row_iff (line i v) 3 (no_such_source s i) [] (number_of_rest (line i v) ∙ first_miss (no_step_left s) _ has_room) (lit< tt, tt) (outside_iff _ i)

      -- 8: "clock advance that would pass 4,294,967,295"
      pub clock_past_iff : (n : ℕ) → ((respond (advance n) s).number ≡ 8) ↔ (4294967295 < s.clock + n)
      unfolding grounds clock_past
      clock_past_iff n = row_iff (advance n) 3 (clock_past s n) [] (number_of_rest (advance n) ∙ first_miss (no_step_left s) _ has_room) (lit< tt, tt)
          (ltb-true 4294967295 (s.clock + n), lt-ltb 4294967295 (s.clock + n))

      access_rows : (off : ℕ) {a : Call} → Access off a → first_of (grounds a s) ≡ first_of (offset_above off ∷ offset_unaligned off ∷ [])
      unfolding grounds
      access_rows off reading = number_of_rest (read off) ∙ first_miss (no_step_left s) _ has_room
      access_rows off (writing v) = number_of_rest (write off v) ∙ first_miss (no_step_left s) _ has_room

      module _ (off : ℕ) (a : Call) (access : Access off a) where
        -- 4: "read or write offset above 0x3FFFFFC"
        pub offset_above_iff : ((respond a s).number ≡ 4) ↔ (0x3FFFFFC < off)
        unfolding offset_above offset_unaligned
        offset_above_iff = row_iff a 3 (offset_above off) _ (access_rows off access) (lit< tt, (lit< tt, tt)) (ltb-true 0x3FFFFFC off, lt-ltb 0x3FFFFFC off)

        -- 5: "offset not a multiple of 4"
        pub offset_unaligned_iff : off ≤ 0x3FFFFFC → ((respond a s).number ≡ 5) ↔ (off % 4 ≢ 0)
        unfolding offset_unaligned
        offset_unaligned_iff low = row_iff a 4 (offset_unaligned off) [] (access_rows off access ∙ first_miss (offset_above off) _ (unfold offset_above in le-ltb 0x3FFFFFC off low)) (lit< tt, tt) (
          (λ t. eqb-false (off % 4) 0 (not-true _ t)),
          (λ ne. ap not (ne_eqb (off % 4) 0 ne)),
        )
