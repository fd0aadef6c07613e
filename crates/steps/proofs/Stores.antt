-- One source's request, taken out of the arrays, changed and stored back.
-- Assumes nothing.
use mathlib.Core.Path.{◌≡◌, ◌∙◌, sym, ap}
use mathlib.Core.Bool.{false}
use mathlib.Core.List.{List}
use Prim.Native.Nat.{ℕ}
use lib.ListN.{get_or, set}
use lib.Seq.{set-get_or}
use Rattle.model.specs.declared.Request.{Request}
use Rattle.model.specs.declared.Requests.{Requests}
use Rattle.model.specs.Board.{request, set_request}
use Rattle.steps.specs.Arrays.{requests_of}

-- the request as the code reads it, with the stage that a leaf gives
abbrev pub request_at : ℕ → Requests → ℕ → Request
request_at stage q i = record {
  stage = stage;
  line = get_or q.line i false;
  extra = get_or q.extra i 0;
  start = get_or q.start i 0;
}

module _ (f : Request → Request) (q : Requests) (i held : ℕ) (r : Request) (stage : List ℕ)
    (is : held ≡ get_or q.stage i 0) (changed : r ≡ f (request_at held q i)) (stored : stage ≡ set q.stage i r.stage) where
  becomes : r ≡ f (request q i)
  unfolding request
  becomes = changed ∙ ap (λ (k : ℕ). f (request_at k q i)) is

  pub put_back : requests_of stage (set q.line i r.line) (set q.extra i r.extra) (set q.start i r.start) ≡ set_request q i (f (request q i))
  unfolding set_request
  put_back = (λ k. requests_of (stored k) (set q.line i r.line) (set q.extra i r.extra) (set q.start i r.start))
      ∙ ap (set_request q i) becomes

  -- the same where the change leaves the line, which is not stored
  pub put_back_lineless : ((x : Request) → (f x).line ≡ x.line) →
      requests_of stage q.line (set q.extra i r.extra) (set q.start i r.start) ≡ set_request q i (f (request q i))
  unfolding request
  put_back_lineless same =
      let there : r.line ≡ get_or q.line i false = ap (λ (x : Request). x.line) becomes ∙ same (request q i) in
      let kept : q.line ≡ set q.line i r.line = sym (ap (set q.line i) there ∙ set-get_or q.line i false) in
      (λ k. requests_of stage (kept k) (set q.extra i r.extra) (set q.start i r.start)) ∙ put_back
