-- Tokens held in arrays: one more is stored after the last.
-- Assumes nothing.
use mathlib.Core.List.{List, [], ◌∷◌, ◌++◌}
use mathlib.Core.Path.{◌≡◌, refl, ◌∙◌, ap}
use Prim.Native.Nat.{ℕ, zero, suc, ◌+◌, ◌≤◌, ◌<◌}
use native.Mathlib.Nat.{add-zero}
use native.Mathlib.Numerals.{add-one}
use native.Mathlib.Omega.{arith}
use lib.ListN.{length, set}
use lib.Seq.{get_or-set_same, get_or-set_other}
use Rattle.qcir_tokens.specs.Tokens.{token}
use Rattle.qcir_tokens.specs.Held.{token_at, tokens_from}

tokens_last : (rs ns ps : List ℕ) (i count : ℕ) → tokens_from rs ns ps i (suc count) ≡ tokens_from rs ns ps i count ++ (token_at rs ns ps (i + count) ∷ [])
unfolding tokens_from
tokens_last rs ns ps i zero = rw add-zero
tokens_last rs ns ps i (suc count) =
    let e : suc i + count ≡ i + suc count = omega arith in
    ap (λ ts. token_at rs ns ps i ∷ ts) (tokens_last rs ns ps (suc i) count ∙ ap (λ k. tokens_from rs ns ps (suc i) count ++ (token_at rs ns ps k ∷ [])) e)

module _ (rs ns ps : List ℕ) (k r n p : ℕ) where
  other_token : (i : ℕ) → i < k → token_at (set rs k r) (set ns k n) (set ps k p) i ≡ token_at rs ns ps i
  unfolding token_at
  other_token i l =
      let ne : i ≡ k → ⊥ = λ e. omega arith in
      rw (get_or-set_other rs k i r 0 ne, get_or-set_other ns k i n 0 ne, get_or-set_other ps k i p 0 ne)

  -- what is stored after them changes none
  pub tokens_kept : (i count : ℕ) → i + count ≤ k → tokens_from (set rs k r) (set ns k n) (set ps k p) i count ≡ tokens_from rs ns ps i count
  unfolding tokens_from
  tokens_kept i zero h = refl
  tokens_kept i (suc count) h =
      let first = other_token i (omega arith) in
      let rest = tokens_kept (suc i) count (omega arith) in
      rw (first, rest)

  module _ (hr : k < length rs) (hn : k < length ns) (hp : k < length ps) where
    new_token : token_at (set rs k r) (set ns k n) (set ps k p) k ≡ token r (record { number = n; position = p })
    unfolding token_at token
    new_token = rw (get_or-set_same rs k r 0 hr, get_or-set_same ns k n 0 hn, get_or-set_same ps k p 0 hp)

    -- a token stored after the last is one more
    pub tokens_more : tokens_from (set rs k r) (set ns k n) (set ps k p) 0 (k + 1) ≡ tokens_from rs ns ps 0 k ++ (token r (record { number = n; position = p }) ∷ [])
    tokens_more =
        let e : 0 + k ≡ k = omega arith in
        let last : token_at (set rs k r) (set ns k n) (set ps k p) (0 + k) ≡ token r (record { number = n; position = p }) = ap (token_at (set rs k r) (set ns k n) (set ps k p)) e ∙ new_token in
        let kept = tokens_kept 0 k (omega arith) in
        rw add-one (tokens_last (set rs k r) (set ns k n) (set ps k p) 0 k ∙ rw (kept, last))
