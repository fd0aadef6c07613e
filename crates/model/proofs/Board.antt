-- One source's request, read out and put back: what changes at one source, and what that does to a sum over all.
-- Assumes nothing.
use mathlib.Core.Path.{◌≡◌, ◌∙◌, sym, ap}
use mathlib.Core.Bool.{false}
use mathlib.Core.Logic.{◌≢◌}
use Prim.Native.Nat.{ℕ, ◌+◌, ◌<◌}
use native.Mathlib.Omega.{arith}
use lib.ListN.{length-set}
use lib.Seq.{get_or-set_same, get_or-set_other, set-get_or}
use Rattle.limits.specs.Limits.{source_room}
use Rattle.laws.specs.Fold.{sum_to}
use Rattle.laws.proofs.Fold.{sum_change}
use Rattle.model.specs.declared.Requests.{Requests}
use Rattle.model.specs.declared.Request.{Request}
use Rattle.model.specs.Board.{request, set_request}
use Rattle.model.specs.Sound.{Roomy}

module _ (q : Requests) (i : ℕ) (r : Request) where
  pub request_other : (j : ℕ) → j ≢ i → request (set_request q i r) j ≡ request q j
  unfolding request set_request
  request_other j ne = λ k. record {
    stage = get_or-set_other q.stage i j r.stage 0 ne k;
    line = get_or-set_other q.line i j r.line false ne k;
    extra = get_or-set_other q.extra i j r.extra 0 ne k;
    start = get_or-set_other q.start i j r.start 0 ne k;
  }

  module _ (room : Roomy q) where
    pub roomy_set : Roomy (set_request q i r)
    unfolding set_request
    roomy_set = record {
      stage = length-set q.stage i r.stage ∙ room.stage;
      line = length-set q.line i r.line ∙ room.line;
      extra = length-set q.extra i r.extra ∙ room.extra;
      start = length-set q.start i r.start ∙ room.start;
    }

    pub request_same : i < source_room → request (set_request q i r) i ≡ r
    unfolding request set_request
    request_same h = λ k. record {
      stage = get_or-set_same q.stage i r.stage 0 (omega (arith, room.stage)) k;
      line = get_or-set_same q.line i r.line false (omega (arith, room.line)) k;
      extra = get_or-set_same q.extra i r.extra 0 (omega (arith, room.extra)) k;
      start = get_or-set_same q.start i r.start 0 (omega (arith, room.start)) k;
    }

    -- a sum over all sources changes by as much as the one does
    pub request_sum : (f : Request → ℕ) → i < source_room →
        sum_to (λ j. f (request (set_request q i r) j)) source_room + f (request q i) ≡ sum_to (λ j. f (request q j)) source_room + f r
    request_sum f h =
        sum_change (λ j. f (request q j)) (λ j. f (request (set_request q i r) j)) source_room i h (λ j ne. sym (ap f (request_other j ne)))
        ∙ ap (λ (x : ℕ). sum_to (λ j. f (request q j)) source_room + x) (ap f (request_same h))

-- putting back what was read changes nothing
pub request_back : (q : Requests) (i : ℕ) → set_request q i (request q i) ≡ q
unfolding request set_request
request_back q i = λ k. record {
  stage = set-get_or q.stage i 0 k;
  line = set-get_or q.line i false k;
  extra = set-get_or q.extra i 0 k;
  start = set-get_or q.start i 0 k;
}
