-- The nodes that are stored for a file as it is written: constants 1, variables, not nodes, and operators 8 and 6.
-- Assumes nothing.
use mathlib.Core.Path.{◌≡◌, ◌∙◌, ap}
use mathlib.Core.List.{List, ◌++◌, append_assoc}
use Prim.Native.Nat.{ℕ, ◌+◌, ◌*◌, ◌<◌}
use native.Mathlib.Omega.{arith}
use lib.ListN.{length, get_or, length-append}
use lib.Seq.{get_or-append-add}
use Rattle.formula.specs.Words.{width, node_count, field, node_of, word_list, node_at}
use Rattle.formula.specs.declared.NodeWords.{NodeWords}
use Rattle.formula.proofs.Nodes.{word_list-length}
use Rattle.qcir.proofs.StoredWords.{with_node}

-- The words stand first in all words.
abbrev pub First : List ℕ → List ℕ → Type 0
First all ws = (more : List ℕ) × (all ≡ ws ++ more)

pub first_less : {all : List ℕ} (ws vs : List ℕ) → First all (ws ++ vs) → First all ws
first_less ws vs (more, e) = (vs ++ more, e ∙ append_assoc ws vs more)

-- A node whose words stand after whole nodes.
module _ (all ws : List ℕ) (w : NodeWords) (whole : length ws ≡ width * node_count ws) (first : First all (with_node ws w)) where
  pub first_low : node_count ws < node_count all
  first_low =
      omega (
        arith,
        ap length first.1,
        length-append (with_node ws w) first.0,
        length-append ws (word_list w),
        word_list-length w,
      )

  first_field : (f : ℕ) → field all (node_count ws) f ≡ get_or (word_list w ++ first.0) f 0
  unfolding field
  first_field f =
      let e : width * node_count ws + f ≡ length ws + f = omega arith in
      ap (λ (l : List ℕ). get_or l (width * node_count ws + f) 0) (first.1 ∙ append_assoc ws (word_list w) first.0)
      ∙ ap (λ (k : ℕ). get_or (ws ++ (word_list w ++ first.0)) k 0) e
      ∙ get_or-append-add ws (word_list w ++ first.0) f 0

  pub first_node : (ls : List ℕ) → node_at all ls (node_count ws) ≡ node_of ls w
  unfolding node_at word_list
  first_node ls = rw (first_field 0, first_field 1, first_field 2, first_field 3)
