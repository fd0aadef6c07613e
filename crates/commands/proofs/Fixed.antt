-- Each public function's promise fixes its answer: any two results that it allows are equal.
-- Assumes nothing.
use Rattle.std.proofs.Common.{◌≡◌, ◌∙◌, sym, ℕ, List, Option}
use Rattle.commands.specs.declared.Command.{Command}
use Rattle.commands.specs.declared.Opening.{Opening}
use Rattle.commands.specs.Grammar.{command_of, opening_of}

pub parse_fixed : (line : List ℕ) (x y : Command) → x ≡ command_of line → y ≡ command_of line → x ≡ y
parse_fixed line x y p q = p ∙ sym q

pub parse_opening_fixed : (line : List ℕ) (x y : Option Opening) → x ≡ opening_of (command_of line) → y ≡ opening_of (command_of line) → x ≡ y
parse_opening_fixed line x y p q = p ∙ sym q
