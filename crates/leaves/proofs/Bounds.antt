-- The numbers of a register that an offset decodes to are indices of their arrays.
-- Assumes nothing.
use mathlib.Core.Path.{◌≡◌, sym, subst}
use mathlib.Core.Bool.{Bool, cond, ◌&&◌, So}
use Prim.Native.Nat.{ℕ, ◌-◌, ◌/◌, ◌%◌, ◌≤◌}
use native.Mathlib.Omega.{arith}
use lib.Dec.{ltb, eqb}
use Rattle.std.proofs.lemmas.Bool.{and_parts, cond_both}
use Rattle.limits.specs.Limits.{context_room}
use Rattle.model.specs.declared.Register.{Register}
use Rattle.model.specs.declared.Register.TheVariants.{Nothing}
use Rattle.model.specs.Board.{is_source, is_context, is_word}
use Rattle.model.specs.Registers.{priority_at, pending_at, enable_at, page_at, decode}
use Rattle.model.proofs.Claim.{source_range}
use Rattle.model.proofs.Registers.{context_range, word_range}
use Rattle.leaves.specs.Leaves.{Within}

module _ (n m off : ℕ) (most : m ≤ context_room) where
  -- a register where a test holds, and nothing where it does not
  tested : (b : Bool) (r : Register) → (So b → Within n r) → Within n (cond b r Nothing)
  tested b r f = cond_both b _ _ (Within n) f (λ _. tt)

  decode_within : Within n (decode n m off)
  unfolding decode priority_at pending_at enable_at page_at
  decode_within = cond_both (ltb off 0x1000) _ _ (Within n)
      (λ _. tested (is_source n (off / 4)) _ (λ t. (source_range n (off / 4) t).1))
      (λ _. cond_both (ltb off 0x2000) _ _ (Within n)
      (λ _. tested (is_word n ((off - 0x1000) / 4)) _ (λ t. word_range n _ t))
      (λ _. cond_both (ltb off 0x200000) _ _ (Within n) (λ _. enables ((off - 0x2000) / 0x80) ((off - 0x2000) % 0x80 / 4))
      (λ _. page ((off - 0x200000) / 0x1000) ((off - 0x200000) % 0x1000))))
    where
      enables : (c w : ℕ) → Within n (enable_at n m c w)
      enables c w = tested (is_context m c && is_word n w) _ (λ t. (
        omega (arith, most, context_range m c (and_parts (is_context m c) (is_word n w) t).0),
        word_range n w (and_parts (is_context m c) (is_word n w) t).1,
      ))

      context : (c : ℕ) (b : Bool) → So (is_context m c && b) → Prim.Native.Nat.◌<◌ c context_room
      context c b t = omega (arith, most, context_range m c (and_parts (is_context m c) b t).0)

      page : (c place : ℕ) → Within n (page_at m c place)
      page c place = cond_both (is_context m c && eqb place 0) _ _ (Within n) (context c (eqb place 0))
          (λ _. tested (is_context m c && eqb place 4) _ (context c (eqb place 4)))

  pub bounded : (r : Register) → r ≡ decode n m off → Within n r
  bounded r e = subst (Within n) (sym e) decode_within
