-- Document 01, "Register map (32-bit words, offsets from base)".
-- Assumes nothing.
use Rattle.std.specs.Prelude.{◌≡◌, cond, ◌&&◌, ℕ, ◌+◌, ◌-◌, ◌*◌, ◌/◌, ◌%◌, ◌^◌, ltb, eqb, set}
use Rattle.std.proofs.Math.Bool.{So}
use Rattle.limits.specs.Limits.{word_room}
use Rattle.laws.specs.Bits.{bit, packed}
use Rattle.model.specs.declared.State.{State}
use Rattle.model.specs.declared.Register.{Register}
use Rattle.model.specs.declared.Register.TheVariants.{Priority, Pending, Enable, Threshold, Claim, Nothing}
use Rattle.model.specs.Board.{is_source, is_context, is_word, request, priority, threshold, enable_word, with_settings}
use Rattle.model.specs.Waits.{is_pending}
use Rattle.model.specs.Life.{winner, claim_by, complete_by}

-- the map for N sources and C contexts, as the fact that a register stands at an offset
abbrev pub StandsAt : ℕ → ℕ → ℕ → Register → Type 0
StandsAt n m off (Priority s) = So (is_source n s) × (off ≡ 4 * s)
StandsAt n m off (Pending w) = So (is_word n w) × (off ≡ 0x1000 + 4 * w)
StandsAt n m off (Enable c w) = So (is_context m c) × So (is_word n w) × (off ≡ 0x2000 + 0x80 * c + 4 * w)
StandsAt n m off (Threshold c) = So (is_context m c) × (off ≡ 0x200000 + 0x1000 * c)
StandsAt n m off (Claim c) = So (is_context m c) × (off ≡ 0x200004 + 0x1000 * c)
StandsAt n m off Nothing = ⊥

-- the map, as a decoding of an offset: "All else up to 0x3FFFFFC, including registers of absent sources and contexts", is nothing
unfoldable pub priority_at : ℕ → ℕ → Register
priority_at n s = cond (is_source n s) (Priority s) Nothing

unfoldable pub pending_at : ℕ → ℕ → Register
pending_at n w = cond (is_word n w) (Pending w) Nothing

unfoldable pub enable_at : ℕ → ℕ → ℕ → ℕ → Register
enable_at n m c w = cond (is_context m c && is_word n w) (Enable c w) Nothing

unfoldable pub page_at : ℕ → ℕ → ℕ → Register
page_at m c place =
    cond (is_context m c && eqb place 0) (Threshold c) (cond (is_context m c && eqb place 4) (Claim c) Nothing)

unfoldable pub decode : ℕ → ℕ → ℕ → Register
decode n m off =
    cond (ltb off 0x1000) (priority_at n (off / 4))
    (cond (ltb off 0x2000) (pending_at n ((off - 0x1000) / 4))
    (cond (ltb off 0x200000) (enable_at n m ((off - 0x2000) / 0x80) ((off - 0x2000) % 0x80 / 4))
    (page_at m ((off - 0x200000) / 0x1000) ((off - 0x200000) % 0x1000))))

-- "pending bits of sources 32w to 32w + 31"
unfoldable pub pending_word : State → ℕ → ℕ
pending_word s w = packed (λ j. is_pending (request s.requests (w * 32 + j))) 32

-- "Bit 0 of word 0 and bits above N stay zero."
unfoldable pub kept : ℕ → ℕ → ℕ → ℕ
kept n w v = packed (λ j. bit v j && is_source n (w * 32 + j)) 32

-- what a read gives; "reading claims"; nothing "reads 0"
unfoldable pub read_of : State → Register → ℕ
read_of s (Priority i) = priority s.settings i
read_of s (Pending w) = pending_word s w
read_of s (Enable c w) = enable_word s.settings c w
read_of s (Threshold c) = threshold s.settings c
read_of s (Claim c) = winner s c
read_of s Nothing = 0

unfoldable pub after_read : State → Register → State
after_read s (Priority i) = s
after_read s (Pending w) = s
after_read s (Enable c w) = s
after_read s (Threshold c) = s
after_read s (Claim c) = claim_by s c
after_read s Nothing = s

-- "A write keeps value mod 2^b."
unfoldable pub with_priority : State → ℕ → ℕ → State
with_priority s i v = with_settings s (record {
  priority = set s.settings.priority i (v % 2 ^ s.shape.bits);
  enable = s.settings.enable;
  threshold = s.settings.threshold;
})

unfoldable pub with_enable : State → ℕ → ℕ → ℕ → State
with_enable s c w v = with_settings s (record {
  priority = s.settings.priority;
  enable = set s.settings.enable (c * word_room + w) (kept s.shape.sources w v);
  threshold = s.settings.threshold;
})

-- "threshold, kept mod 2^b"
unfoldable pub with_threshold : State → ℕ → ℕ → State
with_threshold s c v = with_settings s (record {
  priority = s.settings.priority;
  enable = s.settings.enable;
  threshold = set s.settings.threshold c (v % 2 ^ s.shape.bits);
})

-- what a write does; "writing completes"; to pending bits, and to nothing, "writes change nothing (house rule)"
unfoldable pub after_write : State → Register → ℕ → State
after_write s (Priority i) v = with_priority s i v
after_write s (Pending w) v = s
after_write s (Enable c w) v = with_enable s c w v
after_write s (Threshold c) v = with_threshold s c v
after_write s (Claim c) v = complete_by s c v
after_write s Nothing v = s
