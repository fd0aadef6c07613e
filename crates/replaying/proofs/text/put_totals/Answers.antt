-- `text::put_totals` meets its contract: no room, or the four totals one after the other.
use Rattle.std.proofs.Common.{◌≡◌, ◌∙◌, ℕ, List, [], ◌∷◌, ◌++◌, append_assoc, subst, arith}
use Rattle.replaying.specs.Replay.{digits, totals_line}
use Rattle.replaying.specs.Text.{Written}
use Rattle.replaying.proofs.Print.{digits_wide, written_length, written_then, put_written, put_nothing}
use Rattle.replaying.proofs.text.put_totals.Goals as goal

-- the parts as the last line brackets them
bracketed : (a b c d : List ℕ) → ((a ++ b) ++ c) ++ d ≡ a ++ (b ++ (c ++ d))
bracketed a b c d = append_assoc (a ++ b) c d ∙ append_assoc a b (c ++ d)

pub returns-then-saturating_sub-lt128 : goal.returns-then-saturating_sub-lt128
returns-then-saturating_sub-lt128 c =
    let a = c.args in
    put_nothing a.output.now a.at 128 (totals_line (a.clock ∷ a.claims ∷ a.waited ∷ a.ages ∷ [])) (omega arith)

pub put_number-first-requires : goal.put_number-first-requires
put_number-first-requires c = omega (arith, digits_wide c.args.clock (omega arith))

pub put_number-second-requires : goal.put_number-second-requires
put_number-second-requires c =
    let first = c.put_number-first.ensures in
    omega (arith, first.place, written_length first, digits_wide c.args.clock (omega arith), digits_wide c.args.claims (omega arith))

pub put_number-third-requires : goal.put_number-third-requires
put_number-third-requires c =
    let first = c.put_number-first.ensures in
    let second = c.put_number-second.ensures in
    omega (
      arith,
      first.place,
      written_length first,
      digits_wide c.args.clock (omega arith),
      second.place,
      written_length second,
      digits_wide c.args.claims (omega arith),
      digits_wide c.args.waited (omega arith),
    )

pub put_line-requires : goal.put_line-requires
put_line-requires c =
    let first = c.put_number-first.ensures in
    let second = c.put_number-second.ensures in
    let third = c.put_number-third.ensures in
    omega (
      arith,
      first.place,
      written_length first,
      digits_wide c.args.clock (omega arith),
      second.place,
      written_length second,
      digits_wide c.args.claims (omega arith),
      third.place,
      written_length third,
      digits_wide c.args.waited (omega arith),
      digits_wide c.args.ages (omega arith),
    )

pub returns : goal.returns
unfolding totals_line
returns c =
    let a = c.args in
    put_written 128 (omega arith)
    (subst (Written a.output.now c.put_line.new.output a.at c.put_line.result)
    (bracketed (99 ∷ 108 ∷ 111 ∷ 99 ∷ 107 ∷ 32 ∷ digits a.clock) (32 ∷ 99 ∷ 108 ∷ 97 ∷ 105 ∷ 109 ∷ 115 ∷ 32 ∷ digits a.claims)
    (32 ∷ 119 ∷ 97 ∷ 105 ∷ 116 ∷ 101 ∷ 100 ∷ 32 ∷ digits a.waited) ((32 ∷ 111 ∷ 112 ∷ 101 ∷ 110 ∷ 32 ∷ digits a.ages) ++ (10 ∷ [])))
    (written_then (written_then (written_then c.put_number-first.ensures c.put_number-second.ensures) c.put_number-third.ensures) c.put_line.ensures))
