-- A sound state in which one group of fields has changed is sound again: the clock, the step count, a setting, a request.
-- Assumes nothing.
use mathlib.Core.Path.{◌≡◌, ◌∙◌, refl, sym, ap, subst, subst₃}
use mathlib.Core.Bool.{Bool, true, false, cond, So}
use mathlib.Core.Logic.{⊎_elim, ◌≢◌}
use Prim.Native.Nat.{ℕ, ◌+◌, ◌-◌, ◌*◌, ◌%◌, ◌^◌, ◌≤◌, ◌<◌}
use native.Mathlib.Nat.{mod-lt}
use native.Mathlib.Omega.{arith}
use lib.Dec.{ltb, eqb}
use lib.ListN.{length, get_or, set, length-set}
use lib.Seq.{get_or-set_same, get_or-set_other}
use lib.Pow.{pow_pos}
use borrow.Author.Tests.{ltb-true, ltb-false, eqb-true, eqb-false}
use Rattle.std.proofs.lemmas.Bool.{cases_Bool, both_ways, and_parts}
use Rattle.limits.specs.Limits.{source_room, context_room, word_room, enable_room, bucket_room}
use Rattle.laws.specs.Fold.{sum_to}
use Rattle.laws.specs.Bits.{bit}
use Rattle.laws.proofs.Fold.{same_or_other}
use Rattle.model.specs.declared.Shape.{Shape}
use Rattle.model.specs.declared.Settings.{Settings}
use Rattle.model.specs.declared.Counts.{Counts}
use Rattle.model.specs.declared.Buckets.{Buckets}
use Rattle.model.specs.declared.State.{State}
use Rattle.model.specs.declared.Request.{Request}
use Rattle.model.specs.Board.{request, set_request, is_source, is_context, priority, threshold, enable_word, with_clock, with_steps, with_settings, with_request, with_counts}
use Rattle.model.specs.Waits.{is_pending, open_age, source_claims, source_waited, board_claims, board_waited, bucket_claims, bucket_ticks}
use Rattle.model.specs.Registers.{kept, with_priority, with_enable, with_threshold}
use Rattle.model.specs.Sound.{SoundSource, SoundContext, Sound}
use Rattle.model.proofs.Sound.{kept_bit, kept_above}
use Rattle.model.proofs.Claim.{source_range}
use Rattle.model.proofs.Registers.{context_range}
use Rattle.model.proofs.Board.{request_same, request_other, roomy_set}

-- a number reduced mod 2^b is at most 2^b - 1
reduced_le : (v b : ℕ) → v % 2 ^ b ≤ 2 ^ b - 1
reduced_le v b = omega (arith, mod-lt v (pow_pos b))

later_age : (clock n : ℕ) (r : Request) → open_age (clock + n) r ≤ open_age clock r + n
unfolding open_age
later_age clock n r = by_cases (is_pending r)
  where
    by_cases : (b : Bool) → cond b (clock + n - r.start) 0 ≤ cond b (clock - r.start) 0 + n
    by_cases true = omega arith
    by_cases false = omega arith

later_source : (h : Shape) (clock n i prio claimed waited : ℕ) (r : Request) → SoundSource h clock i prio claimed waited r →
    SoundSource h (clock + n) i prio claimed waited r
later_source h clock n i prio claimed waited r f = record {
  kind = f.kind;
  absent = f.absent;
  priorities = f.priorities;
  stage = f.stage;
  start = omega (arith, f.start);
  startless = f.startless;
  extra = f.extra;
  counting = f.counting;
  edgeless = f.edgeless;
  level = f.level;
  waits = omega (arith, f.waits, later_age clock n r);
}

settled : (h : Shape) (clock i old new claimed waited : ℕ) (r : Request) → SoundSource h clock i old claimed waited r → new ≤ 2 ^ h.bits - 1 →
    (is_source h.sources i ≡ false → new ≡ 0) → SoundSource h clock i new claimed waited r
settled h clock i old new claimed waited r f most none = record {
  kind = f.kind;
  absent = λ e.
      let z = f.absent e in
      record {
        kind = z.kind;
        priority = none e;
        stage = z.stage;
        line = z.line;
        extra = z.extra;
        start = z.start;
        claims = z.claims;
        waited = z.waited;
      };
  priorities = most;
  stage = f.stage;
  start = f.start;
  startless = f.startless;
  extra = f.extra;
  counting = f.counting;
  edgeless = f.edgeless;
  level = f.level;
  waits = f.waits;
}

-- a context's clauses look at its threshold and its words alone
same_context : (h : Shape) (g k : Settings) (c : ℕ) → threshold k c ≡ threshold g c →
    ((w : ℕ) → w < word_room → enable_word k c w ≡ enable_word g c w) → SoundContext h g c → SoundContext h k c
same_context h g k c t e f = record {
  absent_threshold = λ no_one. t ∙ f.absent_threshold no_one;
  absent_enables = λ no_one w l. e w l ∙ f.absent_enables no_one w l;
  thresholds = subst (λ (x : ℕ). x ≤ 2 ^ h.bits - 1) (sym t) f.thresholds;
  enables = λ w j l set. f.enables w j l (subst (λ (x : ℕ). So (bit x j)) (e w l) set);
}

-- a kept word has the bits of sources alone
kept_sources : (n w v j : ℕ) → So (bit (kept n w v) j) → (j < 32) × So (is_source n (w * 32 + j))
kept_sources n w v j t = ⊎_elim
    (λ l. (ltb-true j 32 l, (and_parts (bit v j) _ (sym (kept_bit n w v j (ltb-true j 32 l)) ∙ t)).1))
    (λ l. absurd (both_ways _ (kept_above n w v j (ltb-false j 32 l)) t))
    (cases_Bool (ltb j 32))

module _ (s : State) (f : Sound s) where
  -- more steps
  pub sound_steps : (n : ℕ) → s.steps ≤ n → n ≤ 4294967295 → Sound (with_steps s n)
  unfolding with_steps
  sound_steps n more most = record {
    types = record {
      kind = f.types.kind;
      priority = f.types.priority;
      enable = f.types.enable;
      threshold = f.types.threshold;
      requests = f.types.requests;
      claims = f.types.claims;
      waited = f.types.waited;
      bucket_claims = f.types.bucket_claims;
      bucket_ticks = f.types.bucket_ticks;
      clock = f.types.clock;
      steps = most;
    };
    limits = f.limits;
    source = f.source;
    context = f.context;
    claims = omega (arith, f.claims);
    claims_booked = f.claims_booked;
    ticks_booked = f.ticks_booked;
  }

  -- a later clock
  pub sound_clock : (n : ℕ) → s.clock + n ≤ 4294967295 → Sound (with_clock s (s.clock + n))
  unfolding with_clock
  sound_clock n most = record {
    types = record {
      kind = f.types.kind;
      priority = f.types.priority;
      enable = f.types.enable;
      threshold = f.types.threshold;
      requests = f.types.requests;
      claims = f.types.claims;
      waited = f.types.waited;
      bucket_claims = f.types.bucket_claims;
      bucket_ticks = f.types.bucket_ticks;
      clock = most;
      steps = f.types.steps;
    };
    limits = f.limits;
    source = λ i h. later_source s.shape s.clock n i (priority s.settings i) (source_claims s.counts i) (source_waited s.counts i)
        (request s.requests i) (f.source i h);
    context = f.context;
    claims = f.claims;
    claims_booked = f.claims_booked;
    ticks_booked = f.ticks_booked;
  }

  -- other settings
  pub sound_settings : (g : Settings) → length g.priority ≡ source_room → length g.enable ≡ enable_room → length g.threshold ≡ context_room →
      ((i : ℕ) → i < source_room → (priority g i ≤ 2 ^ s.shape.bits - 1) × (is_source s.shape.sources i ≡ false → priority g i ≡ 0)) →
      ((c : ℕ) → c < context_room → SoundContext s.shape g c) → Sound (with_settings s g)
  unfolding with_settings
  sound_settings g a b d priorities context = record {
    types = record {
      kind = f.types.kind;
      priority = a;
      enable = b;
      threshold = d;
      requests = f.types.requests;
      claims = f.types.claims;
      waited = f.types.waited;
      bucket_claims = f.types.bucket_claims;
      bucket_ticks = f.types.bucket_ticks;
      clock = f.types.clock;
      steps = f.types.steps;
    };
    limits = f.limits;
    source = λ i h. settled s.shape s.clock i (priority s.settings i) (priority g i) (source_claims s.counts i)
        (source_waited s.counts i) (request s.requests i)
        (f.source i h) (priorities i h).0 (priorities i h).1;
    context = context;
    claims = f.claims;
    claims_booked = f.claims_booked;
    ticks_booked = f.ticks_booked;
  }

  -- one source's request and counts, the buckets and the step count changed together
  pub sound_request : (i : ℕ) (r : Request) (k : Counts) (b : Buckets) (n : ℕ) → i < source_room →
      SoundSource s.shape s.clock i (priority s.settings i) (source_claims k i) (source_waited k i) r →
      ((j : ℕ) → j ≢ i → (source_claims k j ≡ source_claims s.counts j) × (source_waited k j ≡ source_waited s.counts j)) →
      (length k.claims ≡ source_room) × (length k.waited ≡ source_room) → (length b.claims ≡ bucket_room) × (length b.ticks ≡ bucket_room) →
      n ≤ 4294967295 → board_claims k ≤ n → board_claims k ≡ sum_to (bucket_claims b) bucket_room → board_waited k ≡ sum_to (bucket_ticks b) bucket_room →
      Sound (with_steps (with_counts (with_request s i r) k b) n)
  unfolding with_steps with_counts with_request
  sound_request i r k b n below fine others counts-long buckets-long most few claims ticks = record {
    types = record {
      kind = f.types.kind;
      priority = f.types.priority;
      enable = f.types.enable;
      threshold = f.types.threshold;
      requests = roomy_set s.requests i r f.types.requests;
      claims = counts-long.0;
      waited = counts-long.1;
      bucket_claims = buckets-long.0;
      bucket_ticks = buckets-long.1;
      clock = f.types.clock;
      steps = most;
    };
    limits = f.limits;
    source = λ j h. same_or_other
        (λ j. SoundSource s.shape s.clock j (priority s.settings j) (source_claims k j) (source_waited k j)
        (request (set_request s.requests i r) j)) i j
        (subst (SoundSource s.shape s.clock i (priority s.settings i) (source_claims k i) (source_waited k i))
        (sym (request_same s.requests i r f.types.requests below)) fine)
        (λ ne. subst₃ (SoundSource s.shape s.clock j (priority s.settings j))
        (sym (others j ne).0) (sym (others j ne).1) (sym (request_other s.requests i r j ne)) (f.source j h));
    context = f.context;
    claims = few;
    claims_booked = claims;
    ticks_booked = ticks;
  }

  -- the three writes that keep something

  pub sound_priority : (i v : ℕ) → So (is_source s.shape.sources i) → Sound (with_priority s i v)
  unfolding with_priority
  sound_priority i v source = sound_settings changed
      (length-set s.settings.priority i kept_value ∙ f.types.priority) f.types.enable f.types.threshold
      (λ j h. same_or_other (λ j. (priority changed j ≤ most) × (is_source s.shape.sources j ≡ false → priority changed j ≡ 0)) i j
      (subst (λ (x : ℕ). x ≤ most) (sym new) (reduced_le v s.shape.bits), λ e. absurd (both_ways _ e source))
      (λ ne. (
        subst (λ (x : ℕ). x ≤ most) (sym (old j ne)) (f.source j h).priorities,
        λ e. old j ne ∙ ((f.source j h).absent e).priority,
      )))
      (λ c h. same_context s.shape s.settings changed c (unfold threshold in refl) (λ _ _. unfold enable_word in refl) (f.context c h))
    where
      most : ℕ
      most = 2 ^ s.shape.bits - 1

      kept_value : ℕ
      kept_value = v % 2 ^ s.shape.bits

      changed : Settings
      changed = record {
        priority = set s.settings.priority i kept_value;
        enable = s.settings.enable;
        threshold = s.settings.threshold;
      }

      new : priority changed i ≡ kept_value
      new = unfold priority in get_or-set_same s.settings.priority i kept_value 0
          (omega (arith, f.types.priority, (source_range s.shape.sources i source).1, f.limits.sources.1))

      old : (j : ℕ) → j ≢ i → priority changed j ≡ priority s.settings j
      old j ne = unfold priority in get_or-set_other s.settings.priority i j kept_value 0 ne

  -- the priorities of a state as they stand
  as_they_stand : (i : ℕ) → i < source_room →
      (priority s.settings i ≤ 2 ^ s.shape.bits - 1) × (is_source s.shape.sources i ≡ false → priority s.settings i ≡ 0)
  as_they_stand i h = ((f.source i h).priorities, λ e. ((f.source i h).absent e).priority)

  pub sound_threshold : (c v : ℕ) → So (is_context s.shape.contexts c) → Sound (with_threshold s c v)
  unfolding with_threshold
  sound_threshold c v there = sound_settings changed
      f.types.priority f.types.enable (length-set s.settings.threshold c kept_value ∙ f.types.threshold)
      (λ j h. unfold priority in as_they_stand j h)
      (λ d h. same_or_other (SoundContext s.shape changed) c d (own (f.context c (omega (arith, inside, f.limits.contexts.1))))
      (λ ne. same_context s.shape s.settings changed d
      (unfold threshold in get_or-set_other s.settings.threshold c d kept_value 0 ne) (λ _ _. unfold enable_word in refl)
      (f.context d h)))
    where
      inside : c < s.shape.contexts
      inside = context_range s.shape.contexts c there

      kept_value : ℕ
      kept_value = v % 2 ^ s.shape.bits

      changed : Settings
      changed = record {
        priority = s.settings.priority;
        enable = s.settings.enable;
        threshold = set s.settings.threshold c kept_value;
      }

      new : threshold changed c ≡ kept_value
      new = unfold threshold in get_or-set_same s.settings.threshold c kept_value 0
          (omega (arith, f.types.threshold, inside, f.limits.contexts.1))

      own : SoundContext s.shape s.settings c → SoundContext s.shape changed c
      own k = record {
        absent_threshold = λ e. absurd (both_ways _ e there);
        absent_enables = λ e. absurd (both_ways _ e there);
        thresholds = subst (λ (x : ℕ). x ≤ 2 ^ s.shape.bits - 1) (sym new) (reduced_le v s.shape.bits);
        enables = unfold enable_word in k.enables;
      }

  pub sound_enable : (c w v : ℕ) → So (is_context s.shape.contexts c) → w < word_room → Sound (with_enable s c w v)
  unfolding with_enable
  sound_enable c w v there small = sound_settings changed
      f.types.priority (length-set s.settings.enable (c * word_room + w) word ∙ f.types.enable) f.types.threshold
      (λ j h. unfold priority in as_they_stand j h)
      (λ d h. record {
        absent_threshold = unfold threshold in (f.context d h).absent_threshold;
        absent_enables = λ e x l.
            old d x (λ same. both_ways _ e (subst (λ (y : ℕ). So (is_context s.shape.contexts y)) (omega arith) there))
            ∙ (f.context d h).absent_enables e x l;
        thresholds = unfold threshold in (f.context d h).thresholds;
        enables = λ x j l. ⊎_elim
            (λ (t : So (eqb (d * word_room + x) (c * word_room + w))).
            let same : d * word_room + x ≡ c * word_room + w = eqb-true (d * word_room + x) (c * word_room + w) t in
            let x_is : x ≡ w = omega arith in
            λ set. subst (λ (y : ℕ). (j < 32) × So (is_source s.shape.sources (y * 32 + j))) (sym x_is)
            (kept_sources s.shape.sources w v j (subst (λ (y : ℕ). So (bit y j)) (new d x same) set)))
            (λ t. λ set. (f.context d h).enables x j l
            (subst (λ (y : ℕ). So (bit y j)) (old d x (eqb-false (d * word_room + x) (c * word_room + w) t)) set))
            (cases_Bool (eqb (d * word_room + x) (c * word_room + w)));
      })
    where
      word : ℕ
      word = kept s.shape.sources w v

      changed : Settings
      changed = record {
        priority = s.settings.priority;
        enable = set s.settings.enable (c * word_room + w) word;
        threshold = s.settings.threshold;
      }

      new : (d x : ℕ) → d * word_room + x ≡ c * word_room + w → enable_word changed d x ≡ word
      new d x e = unfold enable_word in ap (λ (k : ℕ). get_or (set s.settings.enable (c * word_room + w) word) k 0) e
          ∙ get_or-set_same s.settings.enable (c * word_room + w) word 0
          (omega (arith, f.types.enable, context_range s.shape.contexts c there, f.limits.contexts.1))

      old : (d x : ℕ) → d * word_room + x ≢ c * word_room + w → enable_word changed d x ≡ enable_word s.settings d x
      old d x ne = unfold enable_word in get_or-set_other s.settings.enable (c * word_room + w) (d * word_room + x) word 0 ne
