-- The examples of request S-12, computed by the definitions.
-- Assumes nothing.
use mathlib.Core.Path.{◌≡◌, refl, ap, subst}
use mathlib.Core.List.{List, [], ◌∷◌, flat_map}
use Prim.Native.Nat.{ℕ, zero, suc, ◌<◌}
use native.Mathlib.Omega.{arith}
use lib.ListN.{get_or, replicate}
use Rattle.lists.specs.Choice.{pick, clash}
use Rattle.lists.specs.Search.{lowest}
use Rattle.lists.specs.Members.{mem, all, distinct, times, place, maximum}
use Rattle.lists.specs.Parts.{up_to, numbers, sum, highest}
use Rattle.formula.specs.Node.{Node, variable, Table, operands, is_block, bound}
use Rattle.formula.specs.Words.{field, is_block_kind, is_empty_block, range, node_of, words_of, word_list, node_words, node_at, table_of}
use Rattle.formula.specs.Truth.{digit}
use Rattle.formula.specs.FreeVariables.{number_at}
use Rattle.formula.specs.Tree.{users, times_named, count, bound_below}
use Rattle.refusals.specs.Verdict.{first_two, refusal, not_a_tree, accepted}
use Rattle.refusals.specs.declared.Verdict.{Verdict}
use Rattle.acceptance.specs.Verdict.{is_number_to, partial_node, too_large, well_formed, forward_reference, range_past_end, empty_block, count_at, too_many_variables, bad_variable, node_fault, not_named_once, tree_refusal, verdict_within, verdict}
use Rattle.prenex_form.specs.Scope.{parent, path_up, path, above, binder, inner, how_many, level}
use Rattle.prenex_form.specs.Names.{highest_at, highest_number, bound_count, first_name, new_name}
use Rattle.prenex_form.specs.Levels.{levels}
use Rattle.prenex_form.specs.Matrix.{kept, renamed, first_nodes, nodes_to, prenex_nodes, written_nodes}
use Rattle.alpha_equivalence.specs.AlphaEquivalence.{unnamed, SameVariable, AlphaEquivalent, Interchangeable}
use Rattle.alpha_equivalence.specs.Examples.{itself_words, itself, UnequalHighest, both_words, two_entries, one_entry, BothPackings}

-- what is asked of one node, its number being read off the node
record SameNode (t u : Table) (i : ℕ) : Type 0 where
  node : unnamed (t.node i) ≡ unnamed (u.node i)
  at_variable : SameVariable t u i (number_at (t.node i)) (number_at (u.node i))

number_of : (nd : Node) (x : ℕ) → nd ≡ variable x → number_at nd ≡ x
unfolding number_at
number_of nd x e = ap number_at e

by_node : (t u : Table) → t.size ≡ u.size → ((i : ℕ) → i < t.size → SameNode t u i) → AlphaEquivalent t u
by_node t u size same =
    record {
      same_size = size;
      same_nodes = λ i h. (same i h).node;
      same_variables = λ i x y h e d.
          subst (λ z. SameVariable t u i x z) (number_of (u.node i) y d)
          (subst (λ z. SameVariable t u i z (number_at (u.node i))) (number_of (t.node i) x e) (same i h).at_variable);
    }

-- the verdicts on the four tables, in one computation
verdicts : verdict (itself_words 1) (1 ∷ []) ∷ verdict (itself_words 2) (2 ∷ []) ∷ verdict (both_words 1 1) (1 ∷ 2 ∷ []) ∷ verdict (both_words 2 0) (2 ∷ []) ∷ []
    ≡ replicate 4 accepted
unfolding accepted refusal not_a_tree first_two tree_refusal users verdict_within partial_node too_large node_fault well_formed forward_reference range_past_end empty_block too_many_variables count_at bad_variable not_named_once is_number_to is_block_kind is_empty_block field range node_of node_at table_of times_named operands is_block bound lowest pick sum all distinct mem times up_to
verdicts = refl

one_two : (i : ℕ) → i < 2 → SameNode (itself 1) (itself 2) i
unfolding unnamed number_at is_block_kind field range node_of node_at table_of operands is_block bound lowest pick mem place parent path_up path above binder
one_two zero h =
    record { node = refl; at_variable = record { same_number = λ b. clash refl b; same_block = λ b. refl; same_position = λ b. refl } }
one_two (suc zero) h =
    record { node = refl; at_variable = record { same_number = λ b. refl; same_block = λ b. refl; same_position = λ b. refl } }
one_two (suc (suc i)) h = absurd (omega arith)

one_two_equivalent : AlphaEquivalent (itself 1) (itself 2)
unfolding table_of
one_two_equivalent = by_node (itself 1) (itself 2) refl one_two

one_two_highest : highest_number (itself 1) ≡ highest_number (itself 2) → ⊥
unfolding highest_number highest highest_at maximum is_block_kind field range node_of node_at table_of pick
one_two_highest e = let z : ◌≡◌ {A = ℕ} 1 2 = e in omega arith

-- the number at the first node is 2 in the one form and 3 in the other
one_two_nodes : written_nodes (itself 1) ≡ written_nodes (itself 2) → ⊥
unfolding is_block_kind field range node_of node_at table_of digit operands is_block bound lowest pick sum mem place up_to numbers highest count bound_below parent path_up path above binder inner how_many level maximum highest_at highest_number bound_count first_name new_name levels kept renamed first_nodes nodes_to prenex_nodes node_words words_of word_list written_nodes flat_map
one_two_nodes e = let z : ◌≡◌ {A = ℕ} 2 3 = ap (λ (ws : List ℕ). get_or ws 1 0) e in omega arith

pub unequal_highest : UnequalHighest
unequal_highest =
    record {
      accepted_1 = ap (λ (vs : List Verdict). get_or vs 0 accepted) verdicts;
      accepted_2 = ap (λ (vs : List Verdict). get_or vs 1 accepted) verdicts;
      alpha_equivalent = one_two_equivalent;
      highest_differ = one_two_highest;
      nodes_differ = one_two_nodes;
    }

packings : (i : ℕ) → i < 5 → SameNode two_entries one_entry i
unfolding unnamed number_at is_block_kind field range node_of node_at table_of operands is_block bound lowest pick mem place parent path_up path above binder
packings zero h =
    record { node = refl; at_variable = record { same_number = λ b. clash refl b; same_block = λ b. refl; same_position = λ b. refl } }
packings (suc zero) h =
    record { node = refl; at_variable = record { same_number = λ b. refl; same_block = λ b. refl; same_position = λ b. refl } }
packings (suc (suc zero)) h =
    record { node = refl; at_variable = record { same_number = λ b. refl; same_block = λ b. refl; same_position = λ b. refl } }
packings (suc (suc (suc zero))) h =
    record { node = refl; at_variable = record { same_number = λ b. refl; same_block = λ b. refl; same_position = λ b. refl } }
packings (suc (suc (suc (suc zero)))) h =
    record { node = refl; at_variable = record { same_number = λ b. refl; same_block = λ b. refl; same_position = λ b. refl } }
packings (suc (suc (suc (suc (suc i))))) h = absurd (omega arith)

packings_equivalent : AlphaEquivalent two_entries one_entry
unfolding table_of
packings_equivalent = by_node two_entries one_entry refl packings

packings_interchangeable : Interchangeable two_entries one_entry
unfolding highest_number highest highest_at maximum is_block_kind field range node_of node_at table_of pick
packings_interchangeable = record { alpha_equivalent = packings_equivalent; same_highest = refl }

pub both_packings : BothPackings
both_packings =
    record {
      accepted_two = ap (λ (vs : List Verdict). get_or vs 2 accepted) verdicts;
      accepted_one = ap (λ (vs : List Verdict). get_or vs 3 accepted) verdicts;
      interchangeable = packings_interchangeable;
      words_differ = λ e. let z : ◌≡◌ {A = ℕ} 1 2 = ap (λ (ws : List ℕ). get_or ws 1 0) e in omega arith;
    }
