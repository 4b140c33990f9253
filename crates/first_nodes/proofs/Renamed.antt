-- The words of the first nodes of a prenex form, by what is read of the input.
-- Assumes nothing.
use mathlib.Core.Path.{◌≡◌, refl, sym, ◌∙◌, ap}
use mathlib.Core.Bool.{true, false}
use mathlib.Core.List.{List, [], ◌∷◌, ◌++◌, flat_map, append-nil}
use Prim.Native.Nat.{ℕ, zero, suc, ◌+◌, ◌-◌, ◌*◌, ◌≤◌, ◌<◌}
use native.Mathlib.Omega.{arith}
use native.Mathlib.Numerals.{add-one}
use lib.Dec.{eqb, leb, ltb}
use lib.ListN.{length, get_or, length-append}
use borrow.Author.Tests.{ltb-true, ltb-false, le-leb, lt-leb}
use Rattle.lists.specs.Choice.{pick, pick_yes, pick_no, Is, is_true, is_false, look}
use Rattle.lists.specs.Parts.{up_to, overwrite}
use Rattle.lists.proofs.Parts.{flat_map_append, length_each}
use Rattle.lists.proofs.Overwrite.{overwrite_nil, overwrite_append}
use Rattle.formula.specs.Node.{Node, variable, Table, is_block}
use Rattle.formula.specs.Words.{width, node_count, words_at, node_of, words_of, word_list, node_words, node_at, table_of}
use Rattle.formula.specs.declared.NodeWords.{NodeWords}
use Rattle.formula.specs.Truth.{digit}
use Rattle.formula.specs.Tree.{Proper}
use Rattle.formula.proofs.Nodes.{node_block}
use Rattle.acceptance.specs.Limits.{table_limits}
use Rattle.acceptance.specs.Accepted.{Accepted}
use Rattle.acceptance.proofs.Accepted.{Formed, formed_constant, formed_variable, formed_negation, formed_operator, formed_exists, formed_for_all, formed_cases, accepted_holds}
use Rattle.prenex_form.specs.Scope.{binder, inner}
use Rattle.prenex_form.specs.Names.{highest_number, bound_count, first_name, new_name, definition_variable}
use Rattle.prenex_form.specs.Matrix.{kept, renamed, first_nodes}
use Rattle.prenex_form.proofs.Paths.{kept_le, kept_inner}
use Rattle.prenex_form.proofs.NodeLists.{length_words}
use Rattle.prenex_form.proofs.Limits.{bound_limit, highest_limit}
use Rattle.arrays.specs.Held.{bound_entry}
use Rattle.arrays.proofs.Bound.{entry_free, entry_bound, entry_within}
use Rattle.first_nodes.specs.Given.{Given}

-- The new name of a number, by the entry that binds it.
module _ (t : Table) (proper : Proper t) (i x : ℕ) where
  name_free : bound_entry t i x ≡ 0 → new_name t i x ≡ x
  unfolding new_name
  name_free e = go (look (ltb (binder t i x) t.size))
    where
      go : Is (ltb (binder t i x) t.size) → new_name t i x ≡ x
      go (is_true l) = absurd (omega (arith, entry_bound t proper i x (ltb-true _ _ l)))
      go (is_false l) = pick_no _ _ _ l

  name_bound : (e : ℕ) → bound_entry t i x ≡ suc e → new_name t i x ≡ highest_number t + 1 + e
  unfolding new_name first_name
  name_bound e q = go (look (ltb (binder t i x) t.size))
    where
      go : Is (ltb (binder t i x) t.size) → new_name t i x ≡ highest_number t + 1 + e
      go (is_true l) = pick_yes _ _ _ l ∙ omega (arith, entry_bound t proper i x (ltb-true _ _ l))
      go (is_false l) = absurd (omega (arith, entry_free t proper i x (ltb-false (binder t i x) t.size l)))

-- the new name as the code finds it: the number itself, or its entry's name
module _ {ws ls bindings : List ℕ} {names : ℕ} (b : Given ws ls bindings names) (i x : ℕ) (inside : i < node_count ws)
    (holds : node_at ws ls i ≡ variable x) where
  abbrev t : Table
  t = table_of ws ls

  proper : Proper t
  proper = (accepted_holds ws ls b.accepts).proper

  entry_is : get_or bindings i 0 ≡ bound_entry t i x
  unfolding table_of
  entry_is = b.entries_bound.bindings_hold.binding_is i x inside holds

  pub keeps_number : get_or bindings i 0 ≡ 0 → x ≡ new_name t i x
  keeps_number z = sym (name_free t proper i x (sym entry_is ∙ z))

  module _ (some : get_or bindings i 0 ≡ 0 → ⊥) where
    bound_is : bound_entry t i x ≡ suc (get_or bindings i 0 - 1)
    bound_is = omega (arith, some, entry_is)

    name_within : get_or bindings i 0 - 1 < bound_count t
    name_within = entry_within t proper i x (get_or bindings i 0 - 1) bound_is

    pub name_small : names + (get_or bindings i 0 - 1) < 4294967296
    name_small =
        let a = accepted_holds ws ls b.accepts in
        omega (arith, bound_limit ws ls a, highest_limit ws ls a, name_within, b.names_first)

    pub takes_name : names + (get_or bindings i 0 - 1) ≡ new_name t i x
    takes_name = omega (arith, b.names_first, name_bound t proper i x _ bound_is)

-- The nodes that are kept: all but a root that is a block.
module _ (t : Table) (i : ℕ) (h : i < kept t) where
  pub kept_lt : i < t.size
  kept_lt = omega (arith, kept_le t)

digit_is : (a : ℕ) → a ≤ 1 → digit (eqb a 1) ≡ a
unfolding digit
digit_is zero h = refl
digit_is (suc zero) h = refl
digit_is (suc (suc a)) h = absurd (omega arith)

-- Node i of the form, by the words that are read of the table's node i.
module _ (ws ls : List ℕ) (accepts : Accepted ws ls) (i : ℕ) (h : i < kept (table_of ws ls)) where
  abbrev form : Node
  form = renamed (table_of ws ls) i (node_at ws ls i)

  pub kept_node : i < node_count ws
  unfolding table_of
  kept_node = kept_lt (table_of ws ls) i h

  -- a node with these words is written
  pub written : {w : NodeWords} → w ≡ words_of form → (out last : List ℕ)
      → last ≡ overwrite out (width * i) (word_list w) → last ≡ overwrite out (width * i) (node_words form)
  unfolding node_words
  written e out last p = rw e at p

  module _ {w : NodeWords} (read : w ≡ words_at ws i) where
    node_read : node_at ws ls i ≡ node_of ls w
    unfolding node_at
    node_read = ap (node_of ls) (sym read)

    formed : Formed table_limits w
    formed = rw read (formed_cases table_limits (words_at ws i) (accepts.formed i kept_node))

    pub variable_is : w.kind ≡ 2 → node_at ws ls i ≡ variable w.a
    unfolding node_of pick
    variable_is e = node_read ∙ rw e

    -- a variable node is renamed
    pub variable_form : w.kind ≡ 2 → (name : ℕ) → name ≡ new_name (table_of ws ls) i w.a → words_of (variable name) ≡ words_of form
    unfolding renamed
    variable_form e name n = rw (variable_is e, n)

    -- the blocks are the nodes of kind 5 and up
    block_kind : is_block (node_at ws ls i) ≡ leb 5 w.kind
    unfolding is_block node_of pick
    block_kind = ap is_block node_read ∙ go formed
      where
        go : Formed table_limits w → is_block (node_of ls w) ≡ leb 5 w.kind
        go (formed_constant k _ _ _) = rw k
        go (formed_variable k _ _ _) = rw k
        go (formed_negation k _ _) = rw k
        go (formed_operator k _) = rw k
        go (formed_exists k _) = rw k
        go (formed_for_all k _) = rw k

    block_is : 5 ≤ w.kind → is_block (node_at ws ls i) ≡ true
    block_is l = block_kind ∙ le-leb 5 w.kind l

    pub is_inner : 5 ≤ w.kind → inner (table_of ws ls) i ≡ true
    unfolding table_of
    is_inner l = kept_inner (table_of ws ls) i h (block_is l)

    pub not_inner : w.kind < 5 → inner (table_of ws ls) i ≡ false
    unfolding table_of inner
    not_inner l = rw (block_kind, lt-leb 5 w.kind l)

    -- a block is replaced by its definition variable
    pub block_form : 5 ≤ w.kind → (name : ℕ) → name ≡ definition_variable (table_of ws ls) i → words_of (variable name) ≡ words_of form
    unfolding renamed
    block_form l name n = rw (node_block ws ls i (block_is l), n)

    -- every other node is copied
    pub copy_form : (w.kind ≡ 2 → ⊥) → w.kind < 5 → w ≡ words_of form
    unfolding renamed node_of pick words_of
    copy_form v l = rw node_read (go formed)
      where
        go : Formed table_limits w
            → record { kind = w.kind; a = w.a; b = w.b; c = w.c } ≡ words_of (renamed (table_of ws ls) i (node_of ls w))
        go (formed_constant k u p q) = rw (k, p, q, digit_is w.a u)
        go (formed_variable k _ _ _) = absurd (v k)
        go (formed_negation k p q) = rw (k, p, q)
        go (formed_operator k _) = rw k
        go (formed_exists k _) = absurd (omega arith)
        go (formed_for_all k _) = absurd (omega arith)

-- The words of the first n nodes of the form.
unfoldable pub first_words : Table → ℕ → List ℕ
first_words t n = flat_map node_words (up_to (λ i. renamed t i (t.node i) ∷ []) n)

module _ (t : Table) where
  first_none : first_words t 0 ≡ []
  unfolding first_words up_to flat_map
  first_none = refl

  first_next : (i : ℕ) → first_words t (i + 1) ≡ first_words t i ++ node_words (renamed t i (t.node i))
  unfolding first_words up_to flat_map
  first_next i = rw (add-one, flat_map_append, append-nil)

  length_first : (n : ℕ) → length (first_words t n) ≡ width * n
  unfolding first_words
  length_first n =
      let l = length_each (λ i. renamed t i (t.node i)) n in
      omega (arith, length_words (up_to (λ i. renamed t i (t.node i) ∷ []) n))

  -- nothing written yet, one node more, and all
  pub write_none : (out : List ℕ) → out ≡ overwrite out 0 (first_words t 0)
  write_none out = rw first_none (sym (overwrite_nil out 0))

  pub write_next : (out cur next : List ℕ) (i : ℕ) → cur ≡ overwrite out 0 (first_words t i)
      → next ≡ overwrite cur (width * i) (node_words (renamed t i (t.node i))) → width * (i + 1) ≤ length out
      → next ≡ overwrite out 0 (first_words t (i + 1))
  write_next out cur next i p q fits =
      let l : 0 + length (first_words t i) ≡ width * i = omega (arith, length_first i) in
      let next_words = node_words (renamed t i (t.node i)) in
      let m : length (first_words t i) + length next_words ≡ width * (i + 1) =
      sym (length-append (first_words t i) next_words) ∙ sym (ap length (first_next i)) ∙ length_first (i + 1) in
      q ∙ rw (p, first_next i, ← l) (overwrite_append out 0 (first_words t i) next_words (omega arith))

  pub write_all : (out last : List ℕ) (i : ℕ) → last ≡ overwrite out 0 (first_words t i) → i ≡ kept t
      → last ≡ overwrite out 0 (flat_map node_words (first_nodes t))
  unfolding first_words first_nodes
  write_all out last i p e = rw e at p
