-- Chunking does not show: a script that comes in pieces prints what it prints in one, though from piece to piece only the
-- first bytes of a line are held; and the replay that is held is always fit to go on.
-- Assumes nothing.
use mathlib.Core.Path.{◌≡◌, ◌∙◌, refl, sym, ap, subst}
use mathlib.Core.Bool.{Bool, true, false, cond, So}
use mathlib.Core.List.{List, [], ◌∷◌, ◌++◌, append_assoc, append-nil}
use Prim.Native.Nat.{ℕ, zero, suc, ◌+◌}
use native.Mathlib.Nat.{zero-add, suc_inj, suc-ne-zero, min-le_left}
use native.Mathlib.Omega.{arith}
use lib.Dec.{leb, eqb, lit≤}
use lib.ListN.{length, take, drop, replicate, length-append, length-take, length-replicate}
use lib.Seq.{sets, sets-eq, take-take, take-append_seam}
use borrow.Author.Tests.{le-leb, eq-eqb}
use Rattle.std.proofs.lemmas.Bool.{and_from, cond-true, cond-false, cond_both}
use Rattle.limits.specs.Limits.{held_room}
use Rattle.laws.specs.Fold.{all_of}
use Rattle.model.specs.declared.State.{State}
use Rattle.model.specs.Board.{zero_state}
use Rattle.model.specs.Sound.{Sound}
use Rattle.model.proofs.Sound.{sound_test}
use Rattle.replaying.specs.declared.Place.TheVariants.{Before, On}
use Rattle.replaying.specs.declared.Replaying.{Replaying}
use Rattle.replaying.specs.Replay.{Stand, before, on, ended, Told, answer, Replay, line_ends, fed, fed_all, last_in, closing, finished, fresh, replay}
use Rattle.replaying.specs.Pieces.{line_length, begun_at, stand_of, shown, padded, paused, board_sound, fit, ending, Replayed, fed_pieces, printed_in_pieces, joined_pieces}
use Rattle.replaying.proofs.Chunks.{fed_apart}
use Rattle.replaying.proofs.Through.{after, printed_apart, line_append, cut_answer}
use Rattle.replaying.proofs.Boards.{replay_accounted}

-- what is held of a line that has begun, and a replay with no more of its line than that
abbrev cut : Stand → List ℕ → List ℕ
cut before l = take held_room l
cut (on s) l = take held_room l
cut ended l = []

abbrev tight : Replay → Replay
tight r = record { stand = r.stand; begun = cut r.stand r.begun; printed = r.printed }

abbrev pub paused_of : Replay → Replaying
paused_of r = paused r.stand r.begun

-- a line that is cut stays as it is, goes on and ends as the line does
cut_twice : (p : Stand) (l : List ℕ) → cut p (cut p l) ≡ cut p l
cut_twice before l = take-take held_room held_room l (lit≤ tt)
cut_twice (on s) l = take-take held_room held_room l (lit≤ tt)
cut_twice ended l = refl

take_more : (n : ℕ) (l xs : List ℕ) → take n (take n l ++ xs) ≡ take n (l ++ xs)
take_more zero l xs = refl
take_more (suc n) [] xs = refl
take_more (suc n) (b ∷ bs) xs = ap (λ (r : List ℕ). b ∷ r) (take_more n bs xs)

cut_more : (p : Stand) (l xs : List ℕ) → cut p (cut p l ++ xs) ≡ cut p (l ++ xs)
cut_more before l xs = take_more held_room l xs
cut_more (on s) l xs = take_more held_room l xs
cut_more ended l xs = refl

cut_told : (p : Stand) (l : List ℕ) → answer p (cut p l) ≡ answer p l
unfolding answer
cut_told before l = cut_answer before l
cut_told (on s) l = cut_answer (on s) l
cut_told ended l = refl

tight_ends : (r : Replay) → line_ends (tight r) ≡ line_ends r
unfolding line_ends
tight_ends r = ap (λ (t : Told). record { stand = t.stand; begun = []; printed = r.printed ++ t.prints }) (cut_told r.stand r.begun)

tight_fed : (r : Replay) (b : ℕ) → tight (fed (tight r) b) ≡ tight (fed r b)
unfolding fed
tight_fed r b = by_cases (eqb b 10)
  where
    by_cases : (t : Bool) →
        tight (cond t (line_ends (tight r)) (record { stand = r.stand; begun = cut r.stand r.begun ++ (b ∷ []); printed = r.printed }))
        ≡ tight (cond t (line_ends r) (record { stand = r.stand; begun = r.begun ++ (b ∷ []); printed = r.printed }))
    by_cases true = ap tight (tight_ends r)
    by_cases false = λ i. record { stand = r.stand; begun = cut_more r.stand r.begun (b ∷ []) i; printed = r.printed }

tight_fed_all : (r : Replay) (bs : List ℕ) → tight (fed_all (tight r) bs) ≡ tight (fed_all r bs)
unfolding fed_all
tight_fed_all r [] = λ i. record { stand = r.stand; begun = cut_twice r.stand r.begun i; printed = r.printed }
tight_fed_all r (b ∷ bs) =
    sym (tight_fed_all (fed (tight r) b) bs)
    ∙ ap (λ (k : Replay). tight (fed_all k bs)) (tight_fed r b)
    ∙ tight_fed_all (fed r b) bs

-- what is held of a line
pub padded_held : (l : List ℕ) → take (length (take held_room l)) (padded l) ≡ take held_room l
unfolding padded
padded_held l =
    ap (take (length (take held_room l))) (sets-eq (take held_room l) (replicate held_room 0) 0
    (omega (arith, length-take held_room l, length-replicate {A = ℕ} held_room 0, zero-add (length (take held_room l)), min-le_left held_room (length l))))
    ∙ take-append_seam (take held_room l) (drop (0 + length (take held_room l)) (replicate held_room 0))

-- the replay that is held is the cut one, and the cut one is held alike
shown_paused : (p : Stand) (l : List ℕ) → shown (paused p l) ≡ begun_at p (cut p l)
unfolding shown paused stand_of
shown_paused before l = ap (begun_at before) (padded_held l)
shown_paused (on s) l = ap (begun_at (on s)) (padded_held l)
shown_paused ended l = refl

paused_cut : (p : Stand) (l : List ℕ) → paused p (cut p l) ≡ paused p l
unfolding paused padded
paused_cut before l = ap (λ (m : List ℕ). record { place = Before; state = zero_state; begun = sets (replicate held_room 0) 0 m; count = length m }) (cut_twice before l)
paused_cut (on s) l = ap (λ (m : List ℕ). record { place = On; state = s; begun = sets (replicate held_room 0) 0 m; count = length m }) (cut_twice (on s) l)
paused_cut ended l = refl

paused_tight : (r k : Replay) → tight r ≡ tight k → paused_of r ≡ paused_of k
paused_tight r k e = sym (paused_cut r.stand r.begun) ∙ ap paused_of e ∙ paused_cut k.stand k.begun

-- one piece, fed to the replay that is held
piece_fed : (r : Replay) (piece : List ℕ) → tight (after r.printed (fed_all (shown (paused_of r)) piece)) ≡ tight (fed_all r piece)
piece_fed r piece =
    ap (λ (k : Replay). tight (after r.printed (fed_all k piece))) (shown_paused r.stand r.begun)
    ∙ ap tight (sym (printed_apart piece r.printed (begun_at r.stand (cut r.stand r.begun))))
    ∙ ap (λ (q : List ℕ). tight (fed_all (record { stand = r.stand; begun = cut r.stand r.begun; printed = q }) piece)) (append-nil r.printed)
    ∙ tight_fed_all r piece

-- .. and the replay that is held after it
pub piece_held : (r : Replay) (piece : List ℕ) → paused_of (fed_all (shown (paused_of r)) piece) ≡ paused_of (fed_all r piece)
piece_held r piece = paused_tight (after r.printed (fed_all (shown (paused_of r)) piece)) (fed_all r piece) (piece_fed r piece)

-- all the pieces
pieces_fed : (r : Replay) (pieces : List (List ℕ)) →
    ◌≡◌ {A = Replayed}
    (record { replay = (fed_pieces (paused_of r) pieces).replay; printed = r.printed ++ (fed_pieces (paused_of r) pieces).printed })
    (record { replay = paused_of (fed_all r (joined_pieces pieces)); printed = (fed_all r (joined_pieces pieces)).printed })
unfolding fed_pieces joined_pieces fed_all
pieces_fed r [] = λ i. record { replay = paused_of r; printed = append-nil r.printed i }
pieces_fed r (piece ∷ pieces) =
    let held : Replay = fed_all (shown (paused_of r)) piece in
    let whole : Replay = fed_all r piece in
    let same = piece_fed r piece in
    let later : Replaying → Replayed = λ k. fed_pieces k pieces in
    (λ i. record { replay = (later (paused_of held)).replay; printed = sym (append_assoc r.printed held.printed (later (paused_of held)).printed) i })
    ∙ (λ i. record {
      replay = (later (paused_tight (after r.printed held) whole same i)).replay;
      printed = (same i).printed ++ (later (paused_tight (after r.printed held) whole same i)).printed;
    })
    ∙ pieces_fed whole pieces
    ∙ ap (λ (k : Replay). record { replay = paused_of k; printed = k.printed }) (sym (fed_apart r piece (joined_pieces pieces)))

-- no line feed is among the bytes of a line that has begun
abbrev OneLine : List ℕ → Type 0
OneLine l = line_length l ≡ length l

one_line_more : (l : List ℕ) (b : ℕ) → eqb b 10 ≡ false → OneLine l → OneLine (l ++ (b ∷ []))
unfolding line_length
one_line_more l b e f =
    line_append l (b ∷ []) f ∙ ap (λ (k : ℕ). length l + k) (cond-false _ 0 1 e) ∙ sym (length-append l (b ∷ []))

one_line_cut : (n : ℕ) (l : List ℕ) → OneLine l → OneLine (take n l)
unfolding line_length
one_line_cut zero l f = refl
one_line_cut (suc n) [] f = refl
one_line_cut (suc n) (b ∷ bs) f = by_cases (eqb b 10) f (one_line_cut n bs)
  where
    by_cases : (t : Bool) → cond t 0 (suc (line_length bs)) ≡ suc (length bs) → (OneLine bs → OneLine (take n bs)) →
        cond t 0 (suc (line_length (take n bs))) ≡ suc (length (take n bs))
    by_cases true f ih = absurd (suc-ne-zero (length bs) (sym f))
    by_cases false f ih = ap suc (ih (suc_inj f))

fed_one_line : (r : Replay) (b : ℕ) → OneLine r.begun → OneLine (fed r b).begun
unfolding fed line_ends line_length
fed_one_line r b f = cond_both (eqb b 10) _ _ (λ (k : Replay). OneLine k.begun) (λ _. refl) (λ t. one_line_more r.begun b t f)

fed_all_one_line : (r : Replay) (bs : List ℕ) → OneLine r.begun → OneLine (fed_all r bs).begun
unfolding fed_all
fed_all_one_line r [] f = f
fed_all_one_line r (b ∷ bs) f = fed_all_one_line (fed r b) bs (fed_one_line r b f)

-- a replay is fit that holds the beginning of one line, and whose board is sound
line_fit : (board : Bool) (l : List ℕ) → OneLine l → So board →
    So (all_of (leb (length (take held_room l)) held_room ∷ eqb (line_length (take (length (take held_room l)) (padded l))) (length (take held_room l)) ∷ board ∷ []))
unfolding all_of
line_fit board l f t =
    and_from _ _ (le-leb (length (take held_room l)) held_room (omega (arith, length-take held_room l, min-le_left held_room (length l))))
    (and_from _ _ (eq-eqb _ _ (ap line_length (padded_held l) ∙ one_line_cut held_room l f)) (and_from _ _ t refl))

paused_fit : (p : Stand) (l : List ℕ) → OneLine l → ((s : State) → p ≡ on s → Sound s) → So (fit (paused p l))
unfolding fit paused board_sound all_of line_length
paused_fit before l f g = line_fit true l f refl
paused_fit (on s) l f g = line_fit _ l f (sound_test s (g s refl))
paused_fit ended l f g = refl

pub replay_fit : (input : List ℕ) → So (fit (paused_of (fed_all fresh input)))
replay_fit input = paused_fit (fed_all fresh input).stand (fed_all fresh input).begun
    (fed_all_one_line fresh input (unfold fresh line_length in refl))
    (λ s e. (replay_accounted input s e).sound)

-- the end of the script
last_line : (p : Stand) (l m q : List ℕ) → answer p m ≡ answer p l →
    q ++ finished (line_ends (begun_at p m)) ≡ finished (line_ends (record { stand = p; begun = l; printed = q }))
unfolding finished line_ends
last_line p l m q e =
    ap (λ (t : Told). q ++ (t.prints ++ closing t.stand)) e ∙ sym (append_assoc q (answer p l).prints (closing (answer p l).stand))

cut_last : (p : Stand) (l q : List ℕ) →
    q ++ finished (last_in (cut p l) (begun_at p (cut p l))) ≡ finished (last_in l (record { stand = p; begun = l; printed = q }))
unfolding last_in finished answer line_ends closing
cut_last before [] q = refl
cut_last before (b ∷ bs) q = last_line before (b ∷ bs) (take held_room (b ∷ bs)) q (cut_answer before (b ∷ bs))
cut_last (on s) [] q = refl
cut_last (on s) (b ∷ bs) q = last_line (on s) (b ∷ bs) (take held_room (b ∷ bs)) q (cut_answer (on s) (b ∷ bs))
cut_last ended [] q = refl
cut_last ended (b ∷ bs) q = sym (append-nil (q ++ []))

paused_ending : (r : Replay) → So (fit (paused_of r)) → r.printed ++ ending (paused_of r) ≡ finished (last_in r.begun r)
unfolding ending
paused_ending r t =
    ap (λ (l : List ℕ). r.printed ++ l) (cond-true _ _ _ t ∙ ap (λ (k : Replay). finished (last_in k.begun k)) (shown_paused r.stand r.begun))
    ∙ cut_last r.stand r.begun r.printed

-- the replay that is held is always fit ..
pub fit_in_pieces : (pieces : List (List ℕ)) → So (fit (fed_pieces (paused before []) pieces).replay)
unfolding fresh
fit_in_pieces pieces =
    subst (λ (k : Replayed). So (fit k.replay)) (sym (pieces_fed fresh pieces)) (replay_fit (joined_pieces pieces))

-- .. and "reading the same script in one piece or in many gives the same output"
pub in_pieces : (pieces : List (List ℕ)) → printed_in_pieces pieces ≡ replay (joined_pieces pieces)
unfolding printed_in_pieces replay fresh
in_pieces pieces =
    ap (λ (k : Replayed). k.printed ++ ending k.replay) (pieces_fed fresh pieces)
    ∙ paused_ending (fed_all fresh (joined_pieces pieces)) (replay_fit (joined_pieces pieces))
