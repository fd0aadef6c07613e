-- The register map: each register is met by exactly its offset, and the words of bits are the sources'.
-- Assumes nothing.
use mathlib.Core.Path.{◌≡◌, ◌∙◌, refl, sym, ap, ap₂, subst}
use mathlib.Core.Bool.{Bool, true, false, cond, ◌&&◌, So, and-false}
use mathlib.Core.Logic.{◌⊎◌, inl, inr, ⊎_elim, ◌≢◌, ◌↔◌}
use Prim.Native.Nat.{ℕ, ◌+◌, ◌-◌, ◌*◌, ◌/◌, ◌%◌, ◌^◌, ◌≤◌, ◌<◌}
use native.Mathlib.Nat.{div-add-mod', mod-lt}
use native.Mathlib.Omega.{arith}
use lib.Dec.{ltb, eqb}
use lib.Seq.{get_or-set_same}
use borrow.Author.Tests.{leb-true, ltb-true, ltb-false, lt-ltb, le-ltb, eqb-true}
use Rattle.std.proofs.lemmas.Bool.{cases_Bool, both_ways, and_from, and_parts, cond-true, cond-false}
use Rattle.limits.specs.Limits.{source_room, last_source, context_room, word_room}
use Rattle.laws.specs.Bits.{bit, packed}
use Rattle.laws.proofs.Bits.{bit_packed}
use Rattle.model.specs.declared.State.{State}
use Rattle.model.specs.declared.Register.{Register}
use Rattle.model.specs.declared.Register.TheVariants.{Priority, Pending, Enable, Threshold, Claim, Nothing}
use Rattle.model.specs.Board.{request, is_source, is_context, is_word, priority, threshold, enable_word, enabled, with_settings}
use Rattle.model.specs.Waits.{is_pending}
use Rattle.model.specs.Registers.{StandsAt, priority_at, pending_at, enable_at, page_at, decode, pending_word, kept, read_of, after_write, with_priority, with_enable, with_threshold}
use Rattle.model.specs.Sound.{Typed}
use Rattle.model.proofs.Claim.{source_range}
use Rattle.model.proofs.Sound.{kept_bit}

pub context_range : (m c : ℕ) → So (is_context m c) → c < m
unfolding is_context
context_range m c t = ltb-true c m t

pub word_range : (n w : ℕ) → So (is_word n w) → w ≤ n / 32
unfolding is_word
word_range n w t = leb-true w (n / 32) t

-- few enough sources and contexts that the regions of the map keep apart
abbrev pub Wide : ℕ → ℕ → Type 0
Wide n m = (n ≤ last_source) × (m ≤ context_room)

-- the four regions of the map
module _ (n m off : ℕ) where
  in_priorities : off < 0x1000 → decode n m off ≡ priority_at n (off / 4)
  unfolding decode
  in_priorities a = cond-true _ _ _ (lt-ltb off 0x1000 a)

  in_pending : 0x1000 ≤ off → off < 0x2000 → decode n m off ≡ pending_at n ((off - 0x1000) / 4)
  unfolding decode
  in_pending a b = cond-false _ _ _ (le-ltb off 0x1000 a) ∙ cond-true _ _ _ (lt-ltb off 0x2000 b)

  in_enables : 0x2000 ≤ off → off < 0x200000 → decode n m off ≡ enable_at n m ((off - 0x2000) / 0x80) ((off - 0x2000) % 0x80 / 4)
  unfolding decode
  in_enables a b =
      cond-false _ _ _ (le-ltb off 0x1000 (omega arith)) ∙ cond-false _ _ _ (le-ltb off 0x2000 a) ∙ cond-true _ _ _ (lt-ltb off 0x200000 b)

  in_pages : 0x200000 ≤ off → decode n m off ≡ page_at m ((off - 0x200000) / 0x1000) ((off - 0x200000) % 0x1000)
  unfolding decode
  in_pages a =
      cond-false _ _ _ (le-ltb off 0x1000 (omega arith)) ∙ cond-false _ _ _ (le-ltb off 0x2000 (omega arith))
      ∙ cond-false _ _ _ (le-ltb off 0x200000 a)

  -- where a register stands, the offset decodes to it
  stands_decodes : Wide n m → (r : Register) → StandsAt n m off r → decode n m off ≡ r
  unfolding priority_at pending_at enable_at page_at
  stands_decodes l (Priority s) p =
      let range = source_range n s p.0 in
      let place : off / 4 ≡ s = omega (arith, p.1) in
      in_priorities (omega (arith, p.1, range.1, l.0)) ∙ ap (priority_at n) place ∙ cond-true _ _ _ p.0
  stands_decodes l (Pending w) p =
      let range = word_range n w p.0 in
      let place : (off - 0x1000) / 4 ≡ w = omega (arith, p.1) in
      in_pending (omega (arith, p.1)) (omega (arith, p.1, range, l.0)) ∙ ap (pending_at n) place ∙ cond-true _ _ _ p.0
  stands_decodes l (Enable c w) p =
      let words = word_range n w p.1 in
      let contexts = context_range m c p.0 in
      let most : w < word_room = omega (arith, words, l.0) in
      let place : off - 0x2000 ≡ 0x80 * c + 4 * w = omega (arith, p.2) in
      let context : (off - 0x2000) / 0x80 ≡ c = omega (arith, place) in
      let word : (off - 0x2000) % 0x80 / 4 ≡ w = omega (arith, place) in
      in_enables (omega (arith, p.2)) (omega (arith, p.2, contexts, l.1))
      ∙ ap₂ (enable_at n m) context word ∙ cond-true _ _ _ (and_from _ _ p.0 p.1)
  stands_decodes l (Threshold c) p =
      let context : (off - 0x200000) / 0x1000 ≡ c = omega (arith, p.1) in
      let place : (off - 0x200000) % 0x1000 ≡ 0 = omega (arith, p.1) in
      in_pages (omega (arith, p.1)) ∙ ap₂ (page_at m) context place ∙ cond-true _ _ _ (and_from _ _ p.0 refl)
  stands_decodes l (Claim c) p =
      let context : (off - 0x200000) / 0x1000 ≡ c = omega (arith, p.1) in
      let place : (off - 0x200000) % 0x1000 ≡ 4 = omega (arith, p.1) in
      in_pages (omega (arith, p.1)) ∙ ap₂ (page_at m) context place
      ∙ cond-false _ _ _ (and-false (is_context m c)) ∙ cond-true _ _ _ (and_from _ _ p.0 refl)
  stands_decodes l Nothing p = absurd p

  -- what an aligned offset decodes to, stands there
  Decoded : Register → Type 0
  Decoded r = (r ≡ Nothing) ⊎ StandsAt n m off r

  decoded_cond : (b : Bool) (r : Register) → (So b → StandsAt n m off r) → Decoded (cond b r Nothing)
  unfolding Decoded
  decoded_cond true r f = inr (f refl)
  decoded_cond false r f = inl refl

  decoded_page : (c place : ℕ) → off ≡ 0x200000 + 0x1000 * c + place → Decoded (page_at m c place)
  unfolding page_at Decoded
  decoded_page c place e = ⊎_elim
      (λ t. subst Decoded (sym (cond-true _ _ _ t)) (inr ((and_parts (is_context m c) _ t).0, omega (arith, e, eqb-true place 0 (and_parts (is_context m c) _ t).1))))
      (λ t. subst Decoded (sym (cond-false _ _ _ t)) (decoded_cond (is_context m c && eqb place 4) (Claim c)
      (λ u. ((and_parts (is_context m c) _ u).0, omega (arith, e, eqb-true place 4 (and_parts (is_context m c) _ u).1)))))
      (cases_Bool (is_context m c && eqb place 0))

  decoded : off % 4 ≡ 0 → Decoded (decode n m off)
  unfolding priority_at pending_at enable_at
  decoded aligned = ⊎_elim
      (λ a. subst Decoded (sym (in_priorities (ltb-true off 0x1000 a)))
      (decoded_cond (is_source n (off / 4)) (Priority (off / 4)) (λ t. (t, omega arith))))
      (λ a. ⊎_elim
      (λ b. subst Decoded (sym (in_pending (ltb-false off 0x1000 a) (ltb-true off 0x2000 b)))
      (decoded_cond (is_word n ((off - 0x1000) / 4)) (Pending ((off - 0x1000) / 4))
      (λ t. (t, omega (arith, ltb-false off 0x1000 a)))))
      (λ b. ⊎_elim
      (λ d. subst Decoded (sym (in_enables (ltb-false off 0x2000 b) (ltb-true off 0x200000 d)))
      (decoded_cond (is_context m ((off - 0x2000) / 0x80) && is_word n ((off - 0x2000) % 0x80 / 4))
      (Enable ((off - 0x2000) / 0x80) ((off - 0x2000) % 0x80 / 4))
      (λ t. (
        (and_parts _ (is_word n ((off - 0x2000) % 0x80 / 4)) t).0,
        (and_parts (is_context m ((off - 0x2000) / 0x80)) _ t).1,
        omega (arith, ltb-false off 0x2000 b),
      ))))
      (λ d. subst Decoded (sym (in_pages (ltb-false off 0x200000 d)))
      (decoded_page ((off - 0x200000) / 0x1000) ((off - 0x200000) % 0x1000) (omega (arith, ltb-false off 0x200000 d))))
      (cases_Bool (ltb off 0x200000)))
      (cases_Bool (ltb off 0x2000)))
      (cases_Bool (ltb off 0x1000))

  module _ (limits : Wide n m) (aligned : off % 4 ≡ 0) where
    -- each register of the map is met by exactly its offset
    pub decode_iff : (r : Register) → r ≢ Nothing → (decode n m off ≡ r) ↔ StandsAt n m off r
    unfolding Decoded
    decode_iff r ne = (
      (λ e. ⊎_elim (λ n. absurd (ne (sym e ∙ n))) (λ t. subst (StandsAt n m off) e t) (decoded aligned)),
      stands_decodes limits r,
    )

    -- and every other aligned offset by none
    pub decode_nothing : (decode n m off ≡ Nothing) ↔ ((r : Register) → StandsAt n m off r → ⊥)
    unfolding Decoded
    decode_nothing = (
      (λ e r t. subst (StandsAt n m off) (sym (stands_decodes limits r t) ∙ e) t),
      (λ none. ⊎_elim (λ n. n) (λ t. absurd (none (decode n m off) t)) (decoded aligned)),
    )

-- a register that is named is not nothing
abbrev named : Register → Bool
named (Priority s) = true
named (Pending w) = true
named (Enable c w) = true
named (Threshold c) = true
named (Claim c) = true
named Nothing = false

pub is_named : (r : Register) → So (named r) → r ≢ Nothing
is_named r t e = both_ways _ refl (subst (λ (x : Register). So (named x)) e t)

-- "Source n is bit n mod 32 of word n / 32": a word packed from the sources' bits has each source's bit in that place
pub source_bit : (f : ℕ → Bool) (n : ℕ) → bit (packed (λ j. f (n / 32 * 32 + j)) 32) (n % 32) ≡ f n
source_bit f n = bit_packed (λ j. f (n / 32 * 32 + j)) 32 (n % 32) (mod-lt n (omega arith)) ∙ ap f (div-add-mod' n 32)

pub pending_bit : (s : State) (n : ℕ) → bit (pending_word s (n / 32)) (n % 32) ≡ is_pending (request s.requests n)
unfolding pending_word
pending_bit s n = source_bit (λ i. is_pending (request s.requests i)) n

pub kept_source : (most v n : ℕ) → bit (kept most (n / 32) v) (n % 32) ≡ (bit v (n % 32) && is_source most n)
kept_source most v n =
    kept_bit most (n / 32) v (n % 32) (mod-lt n (omega arith)) ∙ ap (λ (k : ℕ). bit v (n % 32) && is_source most k) (div-add-mod' n 32)

-- what was written reads back: a priority and a threshold mod 2^b, an enable word masked to 1..N
module _ (s : State) (types : Typed s) where
  pub priority_reads : (i v : ℕ) → i < source_room → read_of (after_write s (Priority i) v) (Priority i) ≡ v % 2 ^ s.shape.bits
  unfolding read_of after_write with_priority with_settings priority
  priority_reads i v h =
      get_or-set_same s.settings.priority i (v % 2 ^ s.shape.bits) 0 (omega (arith, types.priority))

  pub threshold_reads : (c v : ℕ) → c < context_room → read_of (after_write s (Threshold c) v) (Threshold c) ≡ v % 2 ^ s.shape.bits
  unfolding read_of after_write with_threshold with_settings threshold
  threshold_reads c v h =
      get_or-set_same s.settings.threshold c (v % 2 ^ s.shape.bits) 0 (omega (arith, types.threshold))

  pub enable_reads : (c w v : ℕ) → c < context_room → w < word_room → read_of (after_write s (Enable c w) v) (Enable c w) ≡ kept s.shape.sources w v
  unfolding read_of after_write with_enable with_settings enable_word
  enable_reads c w v h k =
      get_or-set_same s.settings.enable (c * word_room + w) (kept s.shape.sources w v) 0 (omega (arith, types.enable))

  -- and so a source is enabled exactly if its bit was written, for each source of the word
  pub enable_written : (c n v : ℕ) → c < context_room → n < source_room →
      enabled (after_write s (Enable c (n / 32)) v).settings c n ≡ (bit v (n % 32) && is_source s.shape.sources n)
  unfolding enabled read_of
  enable_written c n v h k =
      ap (λ (x : ℕ). bit x (n % 32)) (enable_reads c (n / 32) v h (omega arith)) ∙ kept_source s.shape.sources v n
