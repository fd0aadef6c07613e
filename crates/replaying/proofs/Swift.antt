-- A replay computed without the test of soundness, which every board of a replay passes.
-- Assumes nothing.
use mathlib.Core.Path.{◌≡◌, ◌∙◌, refl, ap}
use mathlib.Core.Bool.{cond}
use mathlib.Core.List.{List, [], ◌∷◌, ◌++◌}
use Prim.Native.Nat.{ℕ}
use lib.Dec.{eqb}
use lib.ListN.{drop}
use borrow.Author.Tests.{eqb-true}
use Rattle.std.proofs.lemmas.Bool.{cond_both}
use Rattle.std.specs.Prelude.{Option, Some, None}
use Rattle.model.specs.declared.State.{State}
use Rattle.model.specs.declared.Refusal.TheVariants as refusal
use Rattle.model.specs.Refusals.{number_of}
use Rattle.model.specs.Sound.{Sound}
use Rattle.model.specs.Calls.{Call, line, advance, read, write, notification, respond, make}
use Rattle.model.proofs.Calls.{stays_sound}
use Rattle.model.proofs.Make.{made_sound}
use Rattle.model.proofs.Quick.{quick, quick_is}
use Rattle.commands.specs.Grammar.{command_of, opening_of}
use Rattle.commands.specs.declared.Opening.{Opening}
use Rattle.commands.specs.declared.Command.{Command}
use Rattle.commands.specs.declared.Command.TheVariants.{Make, Line, Advance, Read, Write, Notify, Unreadable}
use Rattle.replaying.specs.Replay.{Stand, before, on, ended, Told, Replay, goes_on, silent, value_line, refused_line, kind_bytes, started, bad_start, commanded, first_line, answer, line_ends, fed, fed_all, last_in, finished, fresh, replay}

abbrev OnSound : Stand → Type 0
OnSound before = Unit {0}
OnSound (on s) = Sound s
OnSound ended = Unit {0}

unfoldable pub swiftly : Command → State → Told
swiftly (Make o) s = record { stand = on s; prints = refused_line (number_of refusal.Unreadable) }
swiftly (Line i v) s = goes_on silent (quick (line i v) s)
swiftly (Advance n) s = goes_on silent (quick (advance n) s)
swiftly (Read off) s = goes_on (value_line 82) (quick (read off) s)
swiftly (Write off v) s = goes_on silent (quick (write off v) s)
swiftly (Notify c) s = goes_on (value_line 78) (quick (notification c) s)
swiftly Unreadable s = record { stand = on s; prints = refused_line (number_of refusal.Unreadable) }

unfoldable pub swift_answer : Stand → List ℕ → Told
swift_answer before bytes = first_line (opening_of (command_of bytes)) bytes
swift_answer (on s) bytes = swiftly (command_of bytes) s
swift_answer ended bytes = record { stand = ended; prints = [] }

unfoldable pub swift_ends : Replay → Told → Replay
swift_ends r t = record { stand = t.stand; begun = []; printed = r.printed ++ t.prints }

unfoldable pub swift_fed : Replay → ℕ → Replay
swift_fed r b = cond (eqb b 10) (swift_ends r (swift_answer r.stand r.begun))
    (record { stand = r.stand; begun = r.begun ++ (b ∷ []); printed = r.printed })

unfoldable pub swift_all : Replay → List ℕ → Replay
swift_all r [] = r
swift_all r (b ∷ bs) = swift_all (swift_fed r b) bs

one : (says : ℕ → List ℕ) (a : Call) (s : State) → Sound s →
    (goes_on says (respond a s) ≡ goes_on says (quick a s)) × OnSound (goes_on says (respond a s)).stand
unfolding goes_on
one says a s f = (ap (goes_on says) (quick_is s f a), stays_sound s a f)

commanded_swift : (k : Command) (s : State) → Sound s → (commanded k s ≡ swiftly k s) × OnSound (commanded k s).stand
unfolding commanded swiftly
commanded_swift (Make o) s f = (refl, f)
commanded_swift (Line i v) s f = one silent (line i v) s f
commanded_swift (Advance n) s f = one silent (advance n) s f
commanded_swift (Read off) s f = one (value_line 82) (read off) s f
commanded_swift (Write off v) s f = one silent (write off v) s f
commanded_swift (Notify c) s f = one (value_line 78) (notification c) s f
commanded_swift Unreadable s f = (refl, f)

first_sound : (o : Option Opening) (bytes : List ℕ) → OnSound (first_line o bytes).stand
unfolding first_line bad_start started
first_sound (Some o) bytes =
    let kinds : List ℕ = kind_bytes (drop o.kinds bytes) in
    cond_both (eqb (make o.sources o.contexts o.bits kinds).number 0) _ _ OnSound (λ t. (made_sound o.sources o.contexts o.bits kinds (eqb-true _ 0 t)).1) (λ _. tt)
first_sound None bytes = tt

answer_swift : (p : Stand) (bytes : List ℕ) → OnSound p → (answer p bytes ≡ swift_answer p bytes) × OnSound (answer p bytes).stand
unfolding answer swift_answer
answer_swift before bytes f = (refl, first_sound (opening_of (command_of bytes)) bytes)
answer_swift (on s) bytes f = commanded_swift (command_of bytes) s f
answer_swift ended bytes f = (refl, tt)

fed_swift : (r : Replay) (b : ℕ) → OnSound r.stand → (fed r b ≡ swift_fed r b) × OnSound (fed r b).stand
unfolding fed swift_fed line_ends swift_ends
fed_swift r b f =
    let a = answer_swift r.stand r.begun f in
    let held : Replay = record { stand = r.stand; begun = r.begun ++ (b ∷ []); printed = r.printed } in (
      ap (λ (t : Told). cond (eqb b 10) (swift_ends r t) held) a.0,
      cond_both (eqb b 10) _ _ (λ (k : Replay). OnSound k.stand) (λ _. a.1) (λ _. f),
    )

all_swift : (bs : List ℕ) (r : Replay) → OnSound r.stand → fed_all r bs ≡ swift_all r bs
unfolding fed_all swift_all
all_swift [] r f = refl
all_swift (b ∷ bs) r f =
    let fed_one = fed_swift r b f in
    all_swift bs (fed r b) fed_one.1 ∙ ap (λ (k : Replay). swift_all k bs) fed_one.0

pub replay_swift : (input : List ℕ) → replay input ≡ finished (last_in (swift_all fresh input).begun (swift_all fresh input))
unfolding replay fresh
replay_swift input = ap (λ (r : Replay). finished (last_in r.begun r)) (all_swift input fresh tt)
