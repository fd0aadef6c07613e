-- Sound as a test and Sound as plain facts: each follows from the other.
-- Assumes nothing.
use mathlib.Core.Path.{◌≡◌, ◌∙◌, refl, sym, ap, subst}
use mathlib.Core.Bool.{Bool, true, false, not, ◌&&◌, ◌||◌, So}
use mathlib.Core.Logic.{⊎_elim, ◌↔◌}
use Prim.Native.Nat.{ℕ, ◌+◌, ◌*◌, ◌≤◌, ◌<◌}
use lib.Dec.{ltb, eqb}
use borrow.Author.Tests.{ltb-true, ltb-false, lt-ltb, le-ltb, leb-true, eqb-true, le-leb, eq-eqb, ne_eqb, eqb-false, not-false}
use Rattle.std.proofs.lemmas.Bool.{cases_Bool, both_ways, false_from_ne_true, not-true, and_from, and_parts}
use Rattle.std.proofs.lemmas.Bool.Decides.{same_from_decides}
use Rattle.limits.specs.Limits.{source_room, context_room, word_room}
use Rattle.laws.specs.Fold.{all_of}
use Rattle.laws.specs.Bits.{bit}
use Rattle.laws.proofs.Fold.{all_at, all_from_each, test_at}
use Rattle.laws.proofs.Bits.{bit_packed, bit_above, packed_lt, bits_ext}
use Rattle.model.specs.declared.Shape.{Shape}
use Rattle.model.specs.declared.Settings.{Settings}
use Rattle.model.specs.declared.State.{State}
use Rattle.model.specs.declared.Request.{Request}
use Rattle.model.specs.Board.{request, within_limits, is_source, kind_of, enable_word}
use Rattle.model.specs.Waits.{is_idle}
use Rattle.model.specs.Registers.{kept}
use Rattle.model.specs.Sound.{typed, all_zero, sound_source, sound_source_at, sound_context, sound, Typed, WithinLimits, AllZero, SoundSourceAt, SoundContext, Sound}

-- a clause "a or b" is "b where not a"
or_else : (a b : Bool) → So (a || b) → a ≡ false → So b
or_else true b h e = absurd (both_ways _ e refl)
or_else false b h e = h

else_or : (a b : Bool) → (a ≡ false → So b) → So (a || b)
else_or true b h = refl
else_or false b h = h refl

not_all : (a b c : Bool) → (So a → So b → So c → ⊥) → So (not (a && b && c))
not_all true true true f = absurd (f refl refl refl)
not_all true true false f = refl
not_all true false c f = refl
not_all false b c f = refl

typed_facts : (s : State) → So (typed s) → Typed s
unfolding typed
typed_facts s h = record {
  kind = eqb-true _ _ (test_at _ h 0);
  priority = eqb-true _ _ (test_at _ h 1);
  enable = eqb-true _ _ (test_at _ h 2);
  threshold = eqb-true _ _ (test_at _ h 3);
  requests = record {
    stage = eqb-true _ _ (test_at _ h 4);
    line = eqb-true _ _ (test_at _ h 5);
    extra = eqb-true _ _ (test_at _ h 6);
    start = eqb-true _ _ (test_at _ h 7);
  };
  claims = eqb-true _ _ (test_at _ h 8);
  waited = eqb-true _ _ (test_at _ h 9);
  bucket_claims = eqb-true _ _ (test_at _ h 10);
  bucket_ticks = eqb-true _ _ (test_at _ h 11);
  clock = leb-true _ _ (test_at _ h 12);
  steps = leb-true _ _ (test_at _ h 13);
}

pub typed_test : (s : State) → Typed s → So (typed s)
unfolding typed all_of
typed_test s f =
    let room = f.requests in
    and_from _ _ (eq-eqb _ _ f.kind) (and_from _ _ (eq-eqb _ _ f.priority) (and_from _ _ (eq-eqb _ _ f.enable)
    (and_from _ _ (eq-eqb _ _ f.threshold) (and_from _ _ (eq-eqb _ _ room.stage) (and_from _ _ (eq-eqb _ _ room.line)
    (and_from _ _ (eq-eqb _ _ room.extra) (and_from _ _ (eq-eqb _ _ room.start) (and_from _ _ (eq-eqb _ _ f.claims)
    (and_from _ _ (eq-eqb _ _ f.waited) (and_from _ _ (eq-eqb _ _ f.bucket_claims) (and_from _ _ (eq-eqb _ _ f.bucket_ticks)
    (and_from _ _ (le-leb _ _ f.clock) (and_from _ _ (le-leb _ _ f.steps) refl)))))))))))))

pub limits_facts : (n c b : ℕ) → So (within_limits n c b) → WithinLimits n c b
unfolding within_limits
limits_facts n c b h = record {
  sources = (leb-true _ _ (test_at _ h 0), leb-true _ _ (test_at _ h 1));
  contexts = (leb-true _ _ (test_at _ h 2), leb-true _ _ (test_at _ h 3));
  bits = (leb-true _ _ (test_at _ h 4), leb-true _ _ (test_at _ h 5));
}

pub limits_test : (n c b : ℕ) → WithinLimits n c b → So (within_limits n c b)
unfolding within_limits all_of
limits_test n c b f =
    and_from _ _ (le-leb _ _ f.sources.0) (and_from _ _ (le-leb _ _ f.sources.1)
    (and_from _ _ (le-leb _ _ f.contexts.0) (and_from _ _ (le-leb _ _ f.contexts.1)
    (and_from _ _ (le-leb _ _ f.bits.0) (and_from _ _ (le-leb _ _ f.bits.1) refl)))))

zero_facts : (k p c w : ℕ) (r : Request) → So (all_zero k p c w r) → AllZero k p c w r
unfolding all_zero
zero_facts k p c w r h = record {
  kind = eqb-true _ _ (test_at _ h 0);
  priority = eqb-true _ _ (test_at _ h 1);
  stage = eqb-true _ _ (test_at _ h 2);
  line = not-true _ (test_at _ h 3);
  extra = eqb-true _ _ (test_at _ h 4);
  start = eqb-true _ _ (test_at _ h 5);
  claims = eqb-true _ _ (test_at _ h 6);
  waited = eqb-true _ _ (test_at _ h 7);
}

zero_test : (k p c w : ℕ) (r : Request) → AllZero k p c w r → So (all_zero k p c w r)
unfolding all_zero all_of
zero_test k p c w r f =
    and_from _ _ (eq-eqb _ _ f.kind) (and_from _ _ (eq-eqb _ _ f.priority) (and_from _ _ (eq-eqb _ _ f.stage)
    (and_from _ _ (ap not f.line) (and_from _ _ (eq-eqb _ _ f.extra) (and_from _ _ (eq-eqb _ _ f.start)
    (and_from _ _ (eq-eqb _ _ f.claims) (and_from _ _ (eq-eqb _ _ f.waited) refl)))))))

source_facts : (s : State) (i : ℕ) → So (sound_source_at s i) → SoundSourceAt s i
unfolding sound_source_at sound_source
source_facts s i t = record {
  kind = leb-true _ _ (test_at _ t 0);
  absent = λ e. zero_facts _ _ _ _ _ (or_else _ _ (test_at _ t 1) e);
  priorities = leb-true _ _ (test_at _ t 2);
  stage = leb-true _ _ (test_at _ t 3);
  start = leb-true _ _ (test_at _ t 4);
  startless = λ e. eqb-true _ _ (or_else _ _ (test_at _ t 5) e);
  extra = leb-true _ _ (test_at _ t 6);
  counting = λ ne. eqb-true _ _ (or_else _ _ (test_at _ t 7) (ne_eqb _ _ ne));
  edgeless = λ e. eqb-true _ _ (or_else _ _ (test_at _ t 8) (ap not e));
  level = λ k e l. both_ways _ (not-true _ (test_at _ t 9)) (and_from _ _ (and_from _ _ (eq-eqb _ _ k) e) l);
  waits = leb-true _ _ (test_at _ t 10);
}

source_test : (s : State) (i : ℕ) → SoundSourceAt s i → So (sound_source_at s i)
unfolding sound_source_at sound_source all_of
source_test s i f =
    and_from _ _ (le-leb _ _ f.kind)
    (and_from _ _ (else_or _ _ (λ e. zero_test _ _ _ _ _ (f.absent e)))
    (and_from _ _ (le-leb _ _ f.priorities)
    (and_from _ _ (le-leb _ _ f.stage)
    (and_from _ _ (le-leb _ _ f.start)
    (and_from _ _ (else_or _ _ (λ e. eq-eqb _ _ (f.startless e)))
    (and_from _ _ (le-leb _ _ f.extra)
    (and_from _ _ (else_or _ _ (λ e. eq-eqb _ _ (f.counting (eqb-false _ _ e))))
    (and_from _ _ (else_or _ _ (λ e. eq-eqb _ _ (f.edgeless (not-false _ e))))
    (and_from _ _ (not_all (eqb (kind_of s.shape i) 0) (is_idle (request s.requests i)) (request s.requests i).line (λ k. f.level (eqb-true _ _ k)))
    (and_from _ _ (le-leb _ _ f.waits) refl))))))))))

-- a set bit of a kept word is that of a source, and the other way round
pub kept_bit : (n w v j : ℕ) → j < 32 → bit (kept n w v) j ≡ (bit v j && is_source n (w * 32 + j))
unfolding kept
kept_bit n w v j k = bit_packed _ 32 j k

pub kept_above : (n w v j : ℕ) → 32 ≤ j → bit (kept n w v) j ≡ false
unfolding kept
kept_above n w v j k = bit_above _ 32 j (packed_lt _ 32) k

word_facts : (n w v : ℕ) → v ≡ kept n w v → (j : ℕ) → So (bit v j) → (j < 32) × So (is_source n (w * 32 + j))
word_facts n w v e j t = ⊎_elim
    (λ k.
    let l : j < 32 = ltb-true j 32 k in
    (l, (and_parts (bit v j) (is_source n (w * 32 + j)) (sym (kept_bit n w v j l) ∙ t')).1))
    (λ k. absurd (both_ways _ (kept_above n w v j (ltb-false j 32 k)) t'))
    (cases_Bool (ltb j 32))
  where
    t' : So (bit (kept n w v) j)
    t' = subst (λ (x : ℕ). So (bit x j)) e t

word_test : (n w v : ℕ) → ((j : ℕ) → So (bit v j) → (j < 32) × So (is_source n (w * 32 + j))) → v ≡ kept n w v
word_test n w v f = bits_ext v (kept n w v) (λ j. ⊎_elim
    (λ k. same_from_decides _ _ ((λ t. t), (λ t. t))
    ((λ t. (and_parts (bit v j) _ (sym (kept_bit n w v j (ltb-true j 32 k)) ∙ t)).0), (λ t. kept_bit n w v j (ltb-true j 32 k) ∙ and_from _ _ t (f j t).1)))
    (λ k.
    let l : 32 ≤ j = ltb-false j 32 k in
    false_from_ne_true (bit v j) (λ t. both_ways _ (le-ltb j 32 l) (lt-ltb j 32 (f j t).0)) ∙ sym (kept_above n w v j l))
    (cases_Bool (ltb j 32)))

context_facts : (h : Shape) (g : Settings) (c : ℕ) → So (sound_context h g c) → SoundContext h g c
unfolding sound_context
context_facts h g c t = record {
  absent_threshold = λ e. eqb-true _ _ (or_else _ _ (test_at _ t 0) e);
  absent_enables = λ e w k. eqb-true _ _ (all_at _ word_room (or_else _ _ (test_at _ t 1) e) w k);
  thresholds = leb-true _ _ (test_at _ t 2);
  enables = λ w j k. word_facts h.sources w (enable_word g c w) (eqb-true _ _ (all_at _ word_room (test_at _ t 3) w k)) j;
}

context_test : (h : Shape) (g : Settings) (c : ℕ) → SoundContext h g c → So (sound_context h g c)
unfolding sound_context all_of
context_test h g c f =
    and_from _ _ (else_or _ _ (λ e. eq-eqb _ _ (f.absent_threshold e)))
    (and_from _ _ (else_or _ _ (λ e. all_from_each _ word_room (λ w k. eq-eqb _ _ (f.absent_enables e w k))))
    (and_from _ _ (le-leb _ _ f.thresholds)
    (and_from _ _ (all_from_each _ word_room (λ w k. eq-eqb _ _ (word_test h.sources w (enable_word g c w) (λ j. f.enables w j k)))) refl)))

pub sound_facts : (s : State) → So (sound s) → Sound s
unfolding sound
sound_facts s t = record {
  types = typed_facts s (test_at _ t 0);
  limits = limits_facts _ _ _ (test_at _ t 1);
  source = λ i k. source_facts s i (all_at _ source_room (test_at _ t 2) i k);
  context = λ c k. context_facts _ _ c (all_at _ context_room (test_at _ t 3) c k);
  claims = leb-true _ _ (test_at _ t 4);
  claims_booked = eqb-true _ _ (test_at _ t 5);
  ticks_booked = eqb-true _ _ (test_at _ t 6);
}

pub sound_test : (s : State) → Sound s → So (sound s)
unfolding sound all_of
sound_test s f =
    and_from _ _ (typed_test s f.types)
    (and_from _ _ (limits_test _ _ _ f.limits)
    (and_from _ _ (all_from_each _ source_room (λ i k. source_test s i (f.source i k)))
    (and_from _ _ (all_from_each _ context_room (λ c k. context_test _ _ c (f.context c k)))
    (and_from _ _ (le-leb _ _ f.claims)
    (and_from _ _ (eq-eqb _ _ f.claims_booked) (and_from _ _ (eq-eqb _ _ f.ticks_booked) refl))))))

-- Sound is what the test says
pub sound_iff : (s : State) → So (sound s) ↔ Sound s
sound_iff s = (sound_facts s, sound_test s)
