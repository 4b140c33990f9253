-- Laws of the flags: none is set, one more is set, and those of the numbers at variable nodes.
-- Assumes nothing.
use mathlib.Core.Path.{◌≡◌, sym, ◌∙◌, ap}
use mathlib.Core.Bool.{Bool, true, false, ◌||◌, or-true, or-false}
use mathlib.Core.List.{List, [], ◌∷◌, ◌++◌}
use Prim.Native.Nat.{ℕ, ◌+◌, ◌<◌}
use native.Mathlib.Omega.{arith}
use lib.Dec.{eqb}
use lib.ListN.{get_or, set, replicate, length-set, length-replicate}
use Rattle.lists.specs.Choice.{pick}
use Rattle.lists.specs.Members.{mem}
use Rattle.lists.proofs.Search.{some_none, some_next}
use Rattle.lists.proofs.Members.{mem_append, mem_one}
use Rattle.lists.proofs.Stores.{get_or-filled, get_d_set}
use Rattle.formula.specs.Words.{node_count, field, node_at, table_of}
use Rattle.formula.specs.FreeVariables.{stands_at, some_node}
use Rattle.formula.proofs.Nodes.{Kind, kind_constant, kind_variable, kind_negation, kind_operator, kind_exists, kind_for_all, kind_none, kind_of_lem, node_constant, node_variable, node_negation, node_operator, node_exists, node_for_all, node_none}
use Rattle.acceptance.specs.Accepted.{Accepted}
use Rattle.prenex_form.proofs.Limits.{highest_limit}
use Rattle.prenex_form.proofs.NameLaws.{variable_le}
use Rattle.kept_prefix.specs.Kept.{stands}
use Rattle.leading_blocks.specs.Flags.{Flags, none, one_of, stands_below}

pub flags_none : Flags none (replicate 65536 false)
flags_none = record { size = length-replicate {A = Bool} 65536 false; flag_is = λ x. get_or-filled 65536 x false }

-- the same flags, by another test
pub flags_same : (p q : ℕ → Bool) (flags : List Bool) → ((x : ℕ) → p x ≡ q x) → Flags p flags → Flags q flags
flags_same p q flags e f = record { size = f.size; flag_is = λ x. f.flag_is x ∙ e x }

pick_or : (a b : Bool) → pick a true b ≡ (b || a)
unfolding pick
pick_or true b = sym (or-true b)
pick_or false b = sym (or-false b)

-- the flag of y besides
pub flags_set : (p q : ℕ → Bool) (flags : List Bool) (y : ℕ) → y < 65536 → ((x : ℕ) → (p x || eqb x y) ≡ q x) → Flags p flags → Flags q (set flags y true)
flags_set p q flags y h e f =
    record {
      size = length-set flags y true ∙ f.size;
      flag_is = λ x.
          get_d_set flags y true false (omega (arith, f.size)) x
          ∙ pick_or (eqb x y) (get_or flags x false)
          ∙ ap (λ b. b || eqb x y) (f.flag_is x)
          ∙ e x;
    }

pub flags_join : (xs : List ℕ) (used : List Bool) (y : ℕ) → y < 65536 → Flags (one_of xs) used → Flags (one_of (xs ++ (y ∷ []))) (set used y true)
flags_join xs used y h f =
    flags_set (one_of xs) (one_of (xs ++ (y ∷ []))) used y h (λ x. sym (mem_append x xs (y ∷ []) ∙ ap (λ b. mem x xs || b) (mem_one x y))) f

-- Node by node.

module _ (ws ls : List ℕ) where
  plain_stands : (i x : ℕ) → (field ws i 0 ≡ 2 → ⊥) → stands_at x (node_at ws ls i) ≡ false
  unfolding stands_at
  plain_stands i x n = go (kind_of_lem (field ws i 0))
    where
      go : Kind (field ws i 0) → stands_at x (node_at ws ls i) ≡ false
      go (kind_constant e) = rw (node_constant ws ls i e)
      go (kind_variable e) = absurd (n e)
      go (kind_negation e) = rw (node_negation ws ls i e)
      go (kind_operator e) = rw (node_operator ws ls i e)
      go (kind_exists e) = rw (node_exists ws ls i e)
      go (kind_for_all e) = rw (node_for_all ws ls i e)
      go (kind_none e1 e2 e3 e4 e5 e6) = rw (node_none ws ls i e1 e2 e3 e4 e5 e6)

  below_next : (i x : ℕ) → stands_below (table_of ws ls) (i + 1) x ≡ (stands_below (table_of ws ls) i x || stands_at x (node_at ws ls i))
  unfolding table_of
  below_next i x = some_next (λ j. stands_at x (node_at ws ls j)) i

  -- a node that is no variable node
  pub plain_flags : (i : ℕ) (flags : List Bool) → (field ws i 0 ≡ 2 → ⊥) → Flags (stands_below (table_of ws ls) i) flags → Flags (stands_below (table_of ws ls) (i + 1)) flags
  plain_flags i flags n f =
      flags_same (stands_below (table_of ws ls) i) (stands_below (table_of ws ls) (i + 1)) flags
      (λ x. sym (below_next i x ∙ ap (λ b. stands_below (table_of ws ls) i x || b) (plain_stands i x n) ∙ or-false _)) f

  -- one that is
  pub variable_flags : (i : ℕ) (flags : List Bool) → field ws i 0 ≡ 2 → field ws i 1 < 65536 → Flags (stands_below (table_of ws ls) i) flags
      → Flags (stands_below (table_of ws ls) (i + 1)) (set flags (field ws i 1) true)
  unfolding stands_at
  variable_flags i flags k h f =
      flags_set (stands_below (table_of ws ls) i) (stands_below (table_of ws ls) (i + 1)) flags (field ws i 1) h
      (λ x. sym (below_next i x ∙ ap (λ nd. stands_below (table_of ws ls) i x || stands_at x nd) (node_variable ws ls i k))) f

  pub number_low : Accepted ws ls → (i : ℕ) → i < node_count ws → field ws i 0 ≡ 2 → field ws i 1 < 65536
  unfolding table_of
  number_low a i h k = omega (arith, highest_limit ws ls a, variable_le (table_of ws ls) i (field ws i 1) h (node_variable ws ls i k))

  pub flags_start : (flags : List Bool) → Flags none flags → Flags (stands_below (table_of ws ls) 0) flags
  flags_start flags f = flags_same none (stands_below (table_of ws ls) 0) flags (λ x. sym (some_none (λ j. stands_at x ((table_of ws ls).node j)))) f

  pub flags_end : (flags : List Bool) → Flags (stands_below (table_of ws ls) (node_count ws)) flags → Flags (stands (table_of ws ls)) flags
  unfolding stands some_node table_of
  flags_end flags f = f
