-- How often the nodes of a table name each other and which do, by their words, and refusal 8.
-- Assumes nothing.
use Rattle.std.specs.Prelude.{not, List, [], ◌∷◌, ◌≡◌, ℕ, ◌+◌, ◌-◌, ◌≤◌, eqb, ltb, length, get_or, replicate}
use Rattle.lists.specs.Choice.{pick}
use Rattle.lists.specs.Search.{lowest}
use Rattle.lists.specs.Members.{times}
use Rattle.lists.specs.Parts.{up_to, sum}
use Rattle.formula.specs.Words.{node_count, is_block_kind, words_at}
use Rattle.formula.specs.declared.NodeWords.{NodeWords}
use Rattle.refusals.specs.Verdict.{first_two, not_a_tree, accepted}
use Rattle.refusals.specs.declared.Verdict.{Verdict}
use Rattle.acceptance.specs.Limits.{limit}
use Rattle.tree_check.specs.declared.FirstUsers.{FirstUsers}

-- The nodes that a node with these words names.
unfoldable pub named_by : NodeWords → List ℕ
named_by w =
    pick (eqb w.kind 3) (w.a ∷ [])
    (pick (eqb w.kind 4) (w.b ∷ w.c ∷ [])
    (pick (is_block_kind w.kind) (w.c ∷ [])
    []))

-- How often the nodes below node i name x.
unfoldable pub named_below : List ℕ → ℕ → ℕ → ℕ
named_below ws x i = sum (λ j. times x (named_by (words_at ws j))) i

-- The array holds how often the nodes below node i name each node.
pub record Counted (ws named : List ℕ) (i : ℕ) : Type 0 where
  pub wide : length named ≡ limit
  pub counts : (x : ℕ) → get_or named x 0 ≡ named_below ws x i

-- The array has a place for each node below node i, and each of them has room for two names more.
pub record Room (named : List ℕ) (i : ℕ) : Type 0 where
  pub wide : i ≤ length named
  pub room : (x : ℕ) → get_or named x 0 + 2 ≤ 65535

-- The users of x among the nodes below node i.
unfoldable pub users_below : List ℕ → ℕ → ℕ → List ℕ
users_below ws x i = up_to (λ j. replicate (times x (named_by (words_at ws j))) j) i

-- The first two of a list of users, and how many of the two there are.
unfoldable pub first_users : List ℕ → FirstUsers
first_users [] = record { count = 0; first = 0; second = 0 }
first_users (a ∷ []) = record { count = 1; first = a; second = 0 }
first_users (a ∷ b ∷ us) = record { count = 2; first = a; second = b }

-- Refusal 8: of the lowest node below the last that is not named exactly once, with the first two of its users.
unfoldable pub tree_verdict : List ℕ → Verdict
tree_verdict ws =
    let n = node_count ws in
    let j = lowest (λ j. not (eqb (named_below ws j n) 1)) (n - 1) in
    pick (ltb j (n - 1)) (not_a_tree j (first_two (users_below ws j n))) accepted
