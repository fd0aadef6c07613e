-- Where a reading can be taken back, a reading fixes what was read: what makes a promise fix its answer.
-- Assumes nothing.
use mathlib.Core.Path.{◌≡◌, ◌∙◌, sym, ap}

-- any two results that a promise `reading r ≡ meaning` allows are equal
pub once : {A B : Type 0} (reading : A → B) (back : B → A) → ((a : A) → back (reading a) ≡ a) →
    (meaning : B) (x y : A) → reading x ≡ meaning → reading y ≡ meaning → x ≡ y
once reading back inverse meaning x y p q = sym (inverse x) ∙ ap back (p ∙ sym q) ∙ inverse y
