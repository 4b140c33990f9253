-- Tokens held in arrays, those from one of them on; the tokens of a file in parts.
-- Assumes nothing.
use mathlib.Core.List.{List, [], ◌∷◌, ◌++◌, append_assoc}
use mathlib.Core.Path.{◌≡◌, sym, ◌∙◌, ap}
use Prim.Native.Nat.{ℕ, suc, ◌-◌, ◌≤◌, ◌<◌}
use native.Mathlib.Omega.{arith}
use Rattle.qcir.specs.File.{File}
use Rattle.qcir_tokens.specs.Tokens.{free_tokens, prefix_tokens, output_token, gates_tokens, file_tokens}
use Rattle.qcir_tokens.specs.Held.{token_at, tokens_from}

module _ (roles numbers ps : List ℕ) (count i : ℕ) where
  -- none are left at the end
  pub tokens_end : count ≤ i → tokens_from roles numbers ps i (count - i) ≡ []
  unfolding tokens_from
  tokens_end h =
      let e : count - i ≡ 0 = omega arith in ap (tokens_from roles numbers ps i) e

  -- token i, and those after it
  pub tokens_next : i < count → tokens_from roles numbers ps i (count - i) ≡ token_at roles numbers ps i ∷ tokens_from roles numbers ps (suc i) (count - suc i)
  unfolding tokens_from
  tokens_next h =
      let e : count - i ≡ suc (count - suc i) = omega arith in ap (tokens_from roles numbers ps i) e

  -- token i - 1, and those from token i on
  pub tokens_back : 0 < i → i ≤ count → tokens_from roles numbers ps (i - 1) (count - (i - 1)) ≡ token_at roles numbers ps (i - 1) ∷ tokens_from roles numbers ps i (count - i)
  unfolding tokens_from
  tokens_back h l =
      let a : count - (i - 1) ≡ suc (count - i) = omega arith in
      let b : suc (i - 1) ≡ i = omega arith in
      ap (tokens_from roles numbers ps (i - 1)) a
      ∙ ap (λ (k : ℕ). token_at roles numbers ps (i - 1) ∷ tokens_from roles numbers ps k (count - i)) b

  -- from token 0 on there are all of them
  pub tokens_all : i ≡ 0 → tokens_from roles numbers ps i (count - i) ≡ tokens_from roles numbers ps 0 count
  tokens_all e =
      let n : count - i ≡ count = omega arith in rw (n, e)

-- The tokens of a file: those before the output, the output and the gates.
pub file_parts : (f : File) → file_tokens f ≡ (free_tokens f.free ++ prefix_tokens f.prefix) ++ (output_token f.output ∷ gates_tokens f.gates)
unfolding file_tokens
file_parts f = sym (append_assoc (free_tokens f.free) (prefix_tokens f.prefix) (output_token f.output ∷ gates_tokens f.gates))
