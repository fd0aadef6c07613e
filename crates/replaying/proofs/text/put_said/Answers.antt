-- `text::put_said` meets its contract: no room, or each kind of answer.
use Rattle.std.proofs.Common.{◌≡◌, ◌∙◌, refl, sym, ap, subst, ℕ, ◌+◌, ◌≤◌, List, [], ◌∷◌, ◌++◌, length, length-append, add-zero, arith}
use Rattle.replaying.specs.declared.Said.{Said}
use Rattle.replaying.specs.Replay.{digits, value_line, refused_line}
use Rattle.replaying.specs.Text.{Written, said_bytes, put}
use Rattle.replaying.proofs.Print.{digits_narrow, put_written, put_nothing}
use Rattle.replaying.proofs.text.put_said.Goals as goal

-- what is said is known, and its bytes are written
put_as : {said known : Said} {l out text : List ℕ} {at end : ℕ} → said ≡ known → text ≡ said_bytes known → length text ≤ 20 → at + 20 ≤ length l →
    Written l out at end text → (record { bytes = out; end = end } ≡ put 20 (said_bytes said) l at) × (end ≤ at + 20)
put_as {l = l} {out} {at = at} {end} e f short room w =
    (put_written 20 room (subst (Written l out at end) (f ∙ sym (ap said_bytes e)) w), omega (arith, w.place))

number_short : (n : ℕ) → n ≤ 4294967295 → length (digits n ++ (10 ∷ [])) ≤ 11
number_short n h = omega (arith, length-append (digits n) (10 ∷ []), digits_narrow n h)

pub returns-then-saturating_sub-lt20 : goal.returns-then-saturating_sub-lt20
returns-then-saturating_sub-lt20 c =
    (put_nothing c.args.output.now c.args.at 20 (said_bytes c.args.said) (omega arith), omega arith)

pub put_line-requires : goal.put_line-requires
put_line-requires c = omega (arith, digits_narrow c.from.result (omega arith))

pub put_line-requires-in-Refused : goal.put_line-requires-in-Refused
put_line-requires-in-Refused c = omega (arith, digits_narrow c.from-in-Refused.result (omega arith))

pub returns-in-Nothing : goal.returns-in-Nothing
unfolding said_bytes
returns-in-Nothing c = put_as c.in-Nothing.is refl (omega arith) (omega arith) (record { bytes = refl; place = sym (add-zero _) })

pub returns-in-Value : goal.returns-in-Value
unfolding said_bytes value_line
returns-in-Value c =
    let letter = c.in-Value.letter in
    put_as c.in-Value.is (ap (λ (n : ℕ). letter ∷ 32 ∷ (digits n ++ (10 ∷ []))) c.from.ensures) (omega (arith, number_short c.from.result (omega arith)))
    (omega arith) c.put_line.ensures

pub returns-in-Refused : goal.returns-in-Refused
unfolding said_bytes refused_line
returns-in-Refused c =
    put_as c.in-Refused.is (ap (λ (n : ℕ). 114 ∷ 101 ∷ 102 ∷ 117 ∷ 115 ∷ 101 ∷ 100 ∷ 32 ∷ (digits n ++ (10 ∷ []))) c.from-in-Refused.ensures)
    (omega (arith, number_short c.from-in-Refused.result (omega arith))) (omega arith) c.put_line-in-Refused.ensures
