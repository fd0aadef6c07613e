-- What a line prints, as the code answers it, and text put into bytes.
-- Assumes nothing.
use Rattle.std.specs.Prelude.{◌≡◌, cond, List, [], ℕ, ◌+◌, leb, length}
use Rattle.std.proofs.lemmas.List.Edits.{sets}
use Rattle.replaying.specs.declared.Said.{Said}
use Rattle.replaying.specs.declared.Said.TheVariants.{Nothing, Value, Refused}
use Rattle.replaying.specs.Replay.{refused_line, value_line}

unfoldable pub said_bytes : Said → List ℕ
said_bytes Nothing = []
said_bytes (Value letter v) = value_line letter v
said_bytes (Refused n) = refused_line n

-- text stored from `at` on, up to `end`; the rest is as it was
pub record Written (before after : List ℕ) (at end : ℕ) (text : List ℕ) : Type 0 where
  pub bytes : after ≡ sets before at text
  pub place : end ≡ at + length text

-- bytes, and the place after what was put there
pub record Put : Type 0 where
  pub bytes : List ℕ
  pub end : ℕ

-- text put from a place on, where `room` bytes are free there; nothing where they are not
unfoldable pub put : ℕ → List ℕ → List ℕ → ℕ → Put
put room text out at = record {
  bytes = cond (leb (at + room) (length out)) (sets out at text) out;
  end = cond (leb (at + room) (length out)) (at + length text) at;
}
