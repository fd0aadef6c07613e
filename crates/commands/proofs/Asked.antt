-- What the words after a line's letter ask for, word by word: nothing, where one is not of its form, or what they all ask for.
-- Assumes nothing.
use Rattle.std.proofs.Common.{◌≡◌, ◌∙◌, refl, sym, ap, ℕ, ◌+◌, ◌-◌, Bool, true, false, List, Option, Some, None, option_map, length, drop, length-drop, ⊎_elim, arith}
use Rattle.std.proofs.lemmas.Bool.{cond-true, cond-false}
use Rattle.std.specs.Bool.{then_some}
use Rattle.commands.specs.declared.Opening.{Opening}
use Rattle.commands.specs.declared.Command.TheVariants.{Line, Write, Unreadable}
use Rattle.commands.specs.declared.scan.Word.{Word}
use Rattle.commands.specs.Grammar.{is_number, decimal, no_needless_zero, is_offset, hex, is_byte, is_kinds, words}
use Rattle.commands.specs.Leaves.{number_at, offset_at, valued, ended, last_word, write_of, level_of, line_of, kinds_of, make_of, read_as}
use Rattle.commands.proofs.Words.{value_none, value_next}
use Rattle.commands.proofs.Last.{one_or_more, kinds_alone, kinds_all, kinds_some}

-- the first word is missing
module _ (l : List ℕ) (at : ℕ) where
  pub write_none : None ≡ offset_at l at → write_of (words (drop at l)) ≡ None
  unfolding write_of
  write_none h = value_none is_offset hex l at _ h

  pub line_none : None ≡ number_at l at → line_of (words (drop at l)) ≡ None
  unfolding line_of
  line_none h = value_none is_number decimal l at _ h

  pub line_none_read : None ≡ number_at l at → Unreadable ≡ read_as (line_of (words (drop at l)))
  line_none_read h = sym (ap read_as (line_none h))

  pub make_none : (long : ℕ) → None ≡ number_at l at → make_of long (words (drop at l)) ≡ None
  unfolding make_of
  make_none long h = value_none is_number decimal l at _ h

-- .. and the second, or neither
module _ (l : List ℕ) (at : ℕ) {w : Word} where
  write_next : Some w ≡ offset_at l at →
      write_of (words (drop at l)) ≡ option_map (Write w.value) (last_word is_number decimal (words (drop (w.end + 1) l)))
  unfolding write_of last_word valued is_number no_needless_zero
  write_next h = value_next is_offset hex l at h (λ off ws. option_map (Write off) (last_word is_number decimal ws)) refl

  pub write_gone : Some w ≡ offset_at l at → None ≡ last_word is_number decimal (words (drop (w.end + 1) l)) → None ≡ write_of (words (drop at l))
  write_gone h e = ap (option_map (Write w.value)) e ∙ sym (write_next h)

  pub write_some : {n : ℕ} → Some w ≡ offset_at l at → Some n ≡ last_word is_number decimal (words (drop (w.end + 1) l)) →
      Some (Write w.value n) ≡ write_of (words (drop at l))
  write_some h e = ap (option_map (Write w.value)) e ∙ sym (write_next h)

  line_next : Some w ≡ number_at l at → line_of (words (drop at l)) ≡ option_map (Line w.value) (level_of (words (drop (w.end + 1) l)))
  unfolding line_of level_of is_byte
  line_next h = value_next is_number decimal l at h (λ s ws. option_map (Line s) (level_of ws)) refl

  pub line_gone : Some w ≡ number_at l at → None ≡ level_of (words (drop (w.end + 1) l)) → None ≡ line_of (words (drop at l))
  line_gone h e = ap (option_map (Line w.value)) e ∙ sym (line_next h)

  pub line_some : {v : Bool} → Some w ≡ number_at l at → Some v ≡ level_of (words (drop (w.end + 1) l)) → Some (Line w.value v) ≡ line_of (words (drop at l))
  line_some h e = ap (option_map (Line w.value)) e ∙ sym (line_next h)

  -- .. as the command that is read
  pub line_gone_read : Some w ≡ number_at l at → None ≡ level_of (words (drop (w.end + 1) l)) → Unreadable ≡ read_as (line_of (words (drop at l)))
  line_gone_read h e = ap read_as (line_gone h e)

  pub line_some_read : {v : Bool} → Some w ≡ number_at l at → Some v ≡ level_of (words (drop (w.end + 1) l)) → Line w.value v ≡ read_as (line_of (words (drop at l)))
  line_some_read h e = ap read_as (line_some h e)

-- after N, C and b: the kinds, up to the end of the line
opening : ℕ → ℕ → ℕ → ℕ → Opening
opening n c b k = record { sources = n; contexts = c; bits = b; kinds = k }

kinds_last : (l : List ℕ) (at n c b : ℕ) (t : Bool) → t ≡ is_kinds (drop at l) → then_some t (opening n c b at) ≡ kinds_of (length l) n c b (words (drop at l))
unfolding kinds_of ended opening
kinds_last l at n c b true h =
    let place : length l - length (drop at l) ≡ at = omega (arith, kinds_some (drop at l) (sym h), length-drop at l) in
    sym (ap (kinds_of (length l) n c b) (kinds_alone (drop at l) (kinds_all (drop at l) (sym h)))
    ∙ cond-true _ (Some (opening n c b (length l - length (drop at l)))) None (sym h)
    ∙ ap (λ (k : ℕ). Some (opening n c b k)) place)
kinds_last l at n c b false h = sym (⊎_elim
    (λ e. ap (kinds_of (length l) n c b) e ∙ cond-false _ (Some (opening n c b (length l - length (drop at l)))) None (sym h))
    (λ e. grind (arith, ap (kinds_of (length l) n c b) e.3))
    (one_or_more (drop at l)))

-- .. after N and C, and after N
abbrev bits_of : ℕ → ℕ → ℕ → List (List ℕ) → Option Opening
bits_of long n c = valued is_number decimal (kinds_of long n c)

abbrev contexts_of : ℕ → ℕ → List (List ℕ) → Option Opening
contexts_of long n = valued is_number decimal (bits_of long n)

module _ (l : List ℕ) (at : ℕ) {n : Word} (hn : Some n ≡ number_at l at) where
  make_next : make_of (length l) (words (drop at l)) ≡ contexts_of (length l) n.value (words (drop (n.end + 1) l))
  unfolding make_of valued is_number no_needless_zero
  make_next = value_next is_number decimal l at hn (contexts_of (length l)) refl

  pub make_no_contexts : None ≡ number_at l (n.end + 1) → None ≡ make_of (length l) (words (drop at l))
  make_no_contexts h = sym (make_next ∙ value_none is_number decimal l (n.end + 1) _ h)

  module _ {c : Word} (hc : Some c ≡ number_at l (n.end + 1)) where
    bits_next : make_of (length l) (words (drop at l)) ≡ bits_of (length l) n.value c.value (words (drop (c.end + 1) l))
    unfolding valued is_number no_needless_zero
    bits_next = make_next ∙ value_next is_number decimal l (n.end + 1) hc (bits_of (length l) n.value) refl

    pub make_no_bits : None ≡ number_at l (c.end + 1) → None ≡ make_of (length l) (words (drop at l))
    make_no_bits h = sym (bits_next ∙ value_none is_number decimal l (c.end + 1) _ h)

    pub make_kinds : {b : Word} → Some b ≡ number_at l (c.end + 1) → (t : Bool) → t ≡ is_kinds (drop (b.end + 1) l) →
        then_some t (record { sources = n.value; contexts = c.value; bits = b.value; kinds = b.end + 1 }) ≡ make_of (length l) (words (drop at l))
    unfolding kinds_of is_kinds opening
    make_kinds {b} hb t h =
        kinds_last l (b.end + 1) n.value c.value b.value t h
        ∙ sym (bits_next ∙ value_next is_number decimal l (c.end + 1) hb (kinds_of (length l) n.value c.value) refl)

    pub make_some : {b : Word} → Some b ≡ number_at l (c.end + 1) → is_kinds (drop (b.end + 1) l) ≡ true →
        Some (record { sources = n.value; contexts = c.value; bits = b.value; kinds = b.end + 1 }) ≡ make_of (length l) (words (drop at l))
    make_some hb h = make_kinds hb true (sym h)

    pub make_no_kinds : {b : Word} → Some b ≡ number_at l (c.end + 1) → is_kinds (drop (b.end + 1) l) ≡ false → None ≡ make_of (length l) (words (drop at l))
    make_no_kinds hb h = make_kinds hb false (sym h)

pub ruleset write_steps = (write_none, write_gone, write_some)

pub ruleset line_steps = (line_none_read, line_gone_read, line_some_read)

pub ruleset make_steps = (make_none, make_no_contexts, make_no_bits, make_no_kinds, make_some)
