-- Making: an accepted shape gives a sound, fresh state; any other a state that is zero throughout.
-- Assumes nothing.
use mathlib.Core.Path.{◌≡◌, ◌∙◌, refl, sym, ap, subst}
use mathlib.Core.Bool.{Bool, false, not, cond, ◌&&◌, So}
use mathlib.Core.Logic.{◌⊎◌, ⊎_elim, ⊎_map, ◌≢◌, ◌↔◌}
use mathlib.Core.List.{List, ◌++◌}
use Prim.Native.Nat.{ℕ, zero, suc, ◌+◌, ◌-◌, ◌*◌, ◌≤◌, ◌<◌}
use native.Mathlib.Omega.{arith}
use lib.Dec.{leb, ltb, eqb}
use lib.ListN.{length, get_or, replicate, length-replicate, get_or-replicate, length-append, get_or-append}
use lib.Seq.{get_or-append-add}
use borrow.Author.Tests.{leb-true, leb-false, eqb-true, eqb-false, ltb-true, ltb-false}
use Rattle.std.proofs.lemmas.Bool.{cases_Bool, both_ways, false_from_ne_true, not-true, and_from, and_parts}
use Rattle.limits.specs.Limits.{source_room, last_source, context_room, word_room, enable_room, bucket_room, most_bits}
use Rattle.laws.specs.Fold.{all_to}
use Rattle.laws.specs.Bits.{bit}
use Rattle.laws.proofs.Fold.{all_at, sum_zero}
use Rattle.laws.proofs.Bits.{bit_above}
use Rattle.model.specs.declared.Shape.{Shape}
use Rattle.model.specs.declared.Request.{Request}
use Rattle.model.specs.Board.{request, priority, threshold, enable_word, within_limits, kinds_for, is_source, kind_of, zero_state, fresh_in, shape_of}
use Rattle.model.specs.Refusals.{first_of}
use Rattle.model.specs.Waits.{is_pending, is_idle, open_age, source_claims, source_waited, board_claims, board_waited, bucket_claims, bucket_ticks}
use Rattle.model.specs.Sound.{WithinLimits, SoundSource, SoundContext, Sound}
use Rattle.model.specs.Calls.{bad_shape, make}
use Rattle.model.proofs.Sound.{limits_facts, limits_test}
use Rattle.model.proofs.Claim.{source_range, range_source}
use Rattle.model.proofs.Rows.{outside_iff}

-- a request of which nothing has been heard
zero_request : Request
zero_request = record { stage = 0; line = false; extra = 0; start = 0 }

module _ (n c b : ℕ) (kinds : List ℕ) (limits : WithinLimits n c b) (long : length kinds ≡ n)
    (right : (i : ℕ) → i < length kinds → get_or kinds i 0 ≤ 2) where
  h : Shape
  h = shape_of n c b kinds

  kind_in_range : (i : ℕ) → i < source_room → (kind_of h i ≤ 2) × (is_source h.sources i ≡ false → kind_of h i ≡ 0)
  unfolding h kind_of shape_of
  kind_in_range zero l = (omega arith, λ _. refl)
  kind_in_range (suc i) l = ⊎_elim
      (λ (t : So (ltb i n)).
      let inside : i < length kinds = omega (arith, ltb-true i n t) in
      let kind_is : get_or (kinds ++ replicate (last_source - length kinds) 0) i 0 ≡ get_or kinds i 0 = get_or-append kinds _ 0 i inside in (
        omega (arith, kind_is, right i inside),
        λ e. absurd (both_ways _ e (range_source n (suc i) (omega arith) (omega (arith, ltb-true i n t)))),
      ))
      (λ t.
      let zero_is : get_or (kinds ++ replicate (last_source - length kinds) 0) i 0 ≡ 0 = past i l (ltb-false i n t) in
      (omega (arith, zero_is), λ _. zero_is))
      (cases_Bool (ltb i n))
    where
      past : (i : ℕ) → suc i < source_room → n ≤ i → get_or (kinds ++ replicate (last_source - length kinds) 0) i 0 ≡ 0
      past i l k =
          let place : i ≡ length kinds + (i - n) = omega arith in
          ap (λ (j : ℕ). get_or (kinds ++ replicate (last_source - length kinds) 0) j 0) place
          ∙ get_or-append-add kinds (replicate (last_source - length kinds) 0) (i - n) 0
          ∙ get_or-replicate (last_source - length kinds) (i - n) 0 0 (omega arith)

  kind_length : length h.kind ≡ source_room
  unfolding h shape_of
  kind_length = omega (arith, length-append kinds (replicate (last_source - length kinds) 0), length-replicate {A = ℕ} (last_source - length kinds) 0, limits.sources.1)

  fresh_request : (i : ℕ) → i < source_room → request (fresh_in h).requests i ≡ zero_request
  unfolding request fresh_in zero_request
  fresh_request i l = λ k. record {
    stage = get_or-replicate source_room i 0 0 l k;
    line = get_or-replicate source_room i false false l k;
    extra = get_or-replicate source_room i 0 0 l k;
    start = get_or-replicate source_room i 0 0 l k;
  }

  zero_fine : (i prio claimed waited : ℕ) → i < source_room → prio ≡ 0 → claimed ≡ 0 → waited ≡ 0 →
      SoundSource h 0 i prio claimed waited zero_request
  unfolding zero_request is_pending is_idle open_age
  zero_fine i prio claimed waited l p c₀ w₀ = record {
    kind = (kind_in_range i l).0;
    absent = λ e. record {
      kind = (kind_in_range i l).1 e;
      priority = p;
      stage = refl;
      line = refl;
      extra = refl;
      start = refl;
      claims = c₀;
      waited = w₀;
    };
    priorities = omega arith;
    stage = omega arith;
    start = omega arith;
    startless = λ _. refl;
    extra = omega arith;
    counting = λ _. refl;
    edgeless = λ _. refl;
    level = λ _ _ t. both_ways _ refl t;
    waits = omega arith;
  }

  zero_context : (d : ℕ) → d < context_room → SoundContext h (fresh_in h).settings d
  unfolding fresh_in threshold enable_word
  zero_context d l = record {
    absent_threshold = λ _. get_or-replicate context_room d 0 0 l;
    absent_enables = λ _ w k. get_or-replicate enable_room (d * word_room + w) 0 0 (omega arith);
    thresholds = omega (arith, get_or-replicate {A = ℕ} context_room d 0 0 l);
    enables = λ w j k t. absurd (both_ways _ (bit_above 0 0 j (omega arith) (omega arith))
        (subst (λ (x : ℕ). So (bit x j)) (get_or-replicate enable_room (d * word_room + w) 0 0 (omega arith)) t));
  }

  fresh_sound : Sound (fresh_in h)
  unfolding fresh_in
  fresh_sound = record {
    types = record {
      kind = kind_length;
      priority = length-replicate {A = ℕ} source_room 0;
      enable = length-replicate {A = ℕ} enable_room 0;
      threshold = length-replicate {A = ℕ} context_room 0;
      requests = record {
        stage = length-replicate {A = ℕ} source_room 0;
        line = length-replicate {A = Bool} source_room false;
        extra = length-replicate {A = ℕ} source_room 0;
        start = length-replicate {A = ℕ} source_room 0;
      };
      claims = length-replicate {A = ℕ} source_room 0;
      waited = length-replicate {A = ℕ} source_room 0;
      bucket_claims = length-replicate {A = ℕ} bucket_room 0;
      bucket_ticks = length-replicate {A = ℕ} bucket_room 0;
      clock = omega arith;
      steps = omega arith;
    };
    limits = unfold h shape_of in limits;
    source = λ i l. subst (SoundSource h 0 i (priority (fresh_in h).settings i) (source_claims (fresh_in h).counts i)
        (source_waited (fresh_in h).counts i)) (sym (fresh_request i l))
        (zero_fine i (priority (fresh_in h).settings i) (source_claims (fresh_in h).counts i) (source_waited (fresh_in h).counts i) l
        (unfold priority in get_or-replicate source_room i 0 0 l) (unfold source_claims in get_or-replicate source_room i 0 0 l)
        (unfold source_waited in get_or-replicate source_room i 0 0 l));
    context = zero_context;
    claims = omega (arith, no_claims);
    claims_booked = no_claims ∙ sym (sum_zero (bucket_claims (fresh_in h).buckets) bucket_room (λ k l. unfold bucket_claims in get_or-replicate bucket_room k 0 0 l));
    ticks_booked = no_ticks ∙ sym (sum_zero (bucket_ticks (fresh_in h).buckets) bucket_room (λ k l. unfold bucket_ticks in get_or-replicate bucket_room k 0 0 l));
  }
    where
      no_claims : board_claims (fresh_in h).counts ≡ 0
      no_claims = unfold board_claims source_claims in sum_zero _ source_room (λ i l. get_or-replicate source_room i 0 0 l)

      no_ticks : board_waited (fresh_in h).counts ≡ 0
      no_ticks = unfold board_waited source_waited in sum_zero _ source_room (λ i l. get_or-replicate source_room i 0 0 l)

-- the cases of making

pub made_when : (n c b : ℕ) (kinds : List ℕ) → So (within_limits n c b && kinds_for n kinds) →
    ((make n c b kinds).number ≡ 0) × ((make n c b kinds).state ≡ fresh_in (shape_of n c b kinds))
unfolding make first_of bad_shape
made_when n c b kinds t = (
  ap (λ (g : Bool). cond (not g) 1 0) t,
  ap (λ (g : Bool). cond (eqb (cond (not g) 1 0) 0) (fresh_in (shape_of n c b kinds)) zero_state) t,
)

pub unmade_when : (n c b : ℕ) (kinds : List ℕ) → (within_limits n c b && kinds_for n kinds) ≡ false →
    ((make n c b kinds).number ≡ 1) × ((make n c b kinds).state ≡ zero_state)
unfolding make first_of bad_shape
unmade_when n c b kinds t = (
  ap (λ (g : Bool). cond (not g) 1 0) t,
  ap (λ (g : Bool). cond (eqb (cond (not g) 1 0) 0) (fresh_in (shape_of n c b kinds)) zero_state) t,
)

-- making an accepted shape gives a sound state, all of it zero but the shape
pub made_sound : (n c b : ℕ) (kinds : List ℕ) → (make n c b kinds).number ≡ 0 →
    ((make n c b kinds).state ≡ fresh_in (shape_of n c b kinds)) × Sound (make n c b kinds).state
unfolding kinds_for
made_sound n c b kinds e = ⊎_elim
    (λ t.
    let made = (made_when n c b kinds t).1 in
    let kinds_right = (and_parts (within_limits n c b) (kinds_for n kinds) t).1 in (
      made,
      subst Sound (sym made) (unfold h in fresh_sound n c b kinds
          (limits_facts n c b (and_parts (within_limits n c b) (kinds_for n kinds) t).0)
          (eqb-true (length kinds) n (and_parts (eqb (length kinds) n) _ kinds_right).0)
          (λ i l. leb-true (get_or kinds i 0) 2 (all_at _ (length kinds) (and_parts (eqb (length kinds) n) _ kinds_right).1 i l))),
    ))
    (λ t. absurd (omega (arith, e, (unmade_when n c b kinds t).0)))
    (cases_Bool (within_limits n c b && kinds_for n kinds))

-- "1 returns a state that is zero throughout"
pub unmade_zero : (n c b : ℕ) (kinds : List ℕ) → (make n c b kinds).number ≢ 0 →
    ((make n c b kinds).number ≡ 1) × ((make n c b kinds).state ≡ zero_state)
unmade_zero n c b kinds ne = ⊎_elim
    (λ t. absurd (ne (made_when n c b kinds t).0))
    (unmade_when n c b kinds)
    (cases_Bool (within_limits n c b && kinds_for n kinds))

-- the row of 1: "N, C or b outside its range, not exactly N kind bytes, or a kind above 2"
pub data Misshapen (n c b : ℕ) (kinds : List ℕ) : Type 0 where
  sources : (n ≡ 0) ⊎ (last_source < n) → Misshapen n c b kinds
  contexts : (c ≡ 0) ⊎ (context_room < c) → Misshapen n c b kinds
  bits : (b ≡ 0) ⊎ (most_bits < b) → Misshapen n c b kinds
  count : length kinds ≢ n → Misshapen n c b kinds
  kind : (i : ℕ) → i < length kinds → 2 < get_or kinds i 0 → Misshapen n c b kinds

in_or_out : (most x : ℕ) → ((1 ≤ x) × (x ≤ most)) ⊎ ((x ≡ 0) ⊎ (most < x))
in_or_out most x = ⊎_map (source_range most x) (λ t. (outside_iff most x).0 (ap not t)) (cases_Bool (is_source most x))

not_out : (most x : ℕ) → (1 ≤ x) × (x ≤ most) → (x ≡ 0) ⊎ (most < x) → ⊥
not_out most x h o = both_ways _ (not-true _ ((outside_iff most x).1 o)) (range_source most x h.0 h.1)

-- a test that fails of all fails of one
fails_at : (f : ℕ → Bool) (n : ℕ) → all_to f n ≡ false → (i : ℕ) × (i < n) × (f i ≡ false)
unfolding all_to
fails_at f zero e = absurd (both_ways _ e refl)
fails_at f (suc n) e = ⊎_elim
    (λ (t : So (all_to f n)). (n, omega arith, false_from_ne_true (f n) (λ k. both_ways _ e (and_from _ _ t k))))
    (λ t. let one = fails_at f n t in (one.0, omega (arith, one.1), one.2))
    (cases_Bool (all_to f n))

pub bad_shape_iff : (n c b : ℕ) (kinds : List ℕ) → ((make n c b kinds).number ≡ 1) ↔ Misshapen n c b kinds
unfolding kinds_for
bad_shape_iff n c b kinds = (refused, (λ m. (unmade_when n c b kinds (false_from_ne_true _ (λ t. never m t))).0))
  where
    right : Bool
    right = all_to (λ i. leb (get_or kinds i 0) 2) (length kinds)

    -- within the limits, the kinds are wrong
    by_kinds : WithinLimits n c b → (make n c b kinds).number ≡ 1 → Misshapen n c b kinds
    by_kinds limits e = ⊎_elim
        (λ (long : So (eqb (length kinds) n)). ⊎_elim
        (λ (t : So right). absurd (omega (arith, e, (made_when n c b kinds (and_from _ _ (limits_test n c b limits) (and_from _ _ long t))).0)))
        (λ t. let one = fails_at _ (length kinds) t in kind one.0 one.1 (leb-false (get_or kinds one.0 0) 2 one.2))
        (cases_Bool right))
        (λ long. count (eqb-false (length kinds) n long))
        (cases_Bool (eqb (length kinds) n))

    refused : (make n c b kinds).number ≡ 1 → Misshapen n c b kinds
    refused e = ⊎_elim
        (λ ns. ⊎_elim
        (λ cs. ⊎_elim (λ bs. by_kinds (record { sources = ns; contexts = cs; bits = bs }) e) bits (in_or_out most_bits b))
        contexts (in_or_out context_room c))
        sources (in_or_out last_source n)

    never : Misshapen n c b kinds → So (within_limits n c b && kinds_for n kinds) → ⊥
    never m t = wrong m
      where
        limits : WithinLimits n c b
        limits = limits_facts n c b (and_parts (within_limits n c b) (kinds_for n kinds) t).0

        these : So (kinds_for n kinds)
        these = (and_parts (within_limits n c b) (kinds_for n kinds) t).1

        wrong : Misshapen n c b kinds → ⊥
        wrong (sources o) = not_out last_source n limits.sources o
        wrong (contexts o) = not_out context_room c limits.contexts o
        wrong (bits o) = not_out most_bits b limits.bits o
        wrong (count ne) = ne (eqb-true (length kinds) n (and_parts (eqb (length kinds) n) right these).0)
        wrong (kind i l h) = omega (arith, h, leb-true (get_or kinds i 0) 2 (all_at _ (length kinds) (and_parts (eqb (length kinds) n) right these).1 i l))
