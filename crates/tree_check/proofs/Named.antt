-- Laws of the nodes that a node names, and of how often the nodes of a table name each other.
-- Assumes nothing.
use mathlib.Core.Path.{◌≡◌, refl, sym, ◌∙◌, ap}
use mathlib.Core.Bool.{true, false, not}
use mathlib.Core.List.{List, [], ◌∷◌}
use Prim.Native.Nat.{ℕ, zero, suc, ◌+◌, ◌-◌, ◌≤◌, ◌<◌}
use native.Mathlib.Numerals.{add-one}
use native.Mathlib.Omega.{arith}
use lib.Dec.{eqb, ltb}
use lib.ListN.{length, get_or, set, replicate, length-replicate}
use borrow.Author.Tests.{lt-ltb, le-ltb, eq-eqb, ne_eqb}
use Rattle.lists.specs.Choice.{pick, pick_yes, pick_no, clash}
use Rattle.lists.specs.Search.{lowest}
use Rattle.lists.specs.Members.{times}
use Rattle.lists.specs.Parts.{sum}
use Rattle.lists.proofs.Search.{lowest_cong}
use Rattle.lists.proofs.Parts.{sum_cong, pick_le}
use Rattle.lists.proofs.Stores.{get_or-filled, set_cases}
use Rattle.formula.specs.Node.{operands}
use Rattle.formula.specs.Words.{node_count, is_block_kind, words_at, node_of, node_at, table_of}
use Rattle.formula.specs.declared.NodeWords.{NodeWords}
use Rattle.formula.specs.Tree.{times_named}
use Rattle.formula.proofs.Nodes.{Kind, kind_of_lem, kind_constant, kind_variable, kind_negation, kind_operator, kind_exists, kind_for_all, kind_none}
use Rattle.refusals.specs.Verdict.{first_two, not_a_tree, accepted}
use Rattle.refusals.specs.declared.Verdict.{Verdict}
use Rattle.acceptance.specs.Limits.{limit}
use Rattle.acceptance.specs.Verdict.{not_named_once}
use Rattle.tree_check.specs.Named.{named_by, named_below, Counted, Room, users_below, tree_verdict}

times_none : (x : ℕ) → times x [] ≡ 0
unfolding times
times_none x = refl

pub times_two : (x a b : ℕ) → times x (a ∷ b ∷ []) ≡ times x (a ∷ []) + times x (b ∷ [])
unfolding times
times_two x a b = omega arith

pub times_one_le : (x a : ℕ) → times x (a ∷ []) ≤ 1
unfolding times
times_one_le x a = omega (arith, pick_le (eqb x a) 1)

-- A node with these words.
module _ (w : NodeWords) where
  operands_by_kind : (ls : List ℕ) → Kind w.kind → operands (node_of ls w) ≡ named_by w
  unfolding node_of named_by operands pick is_block_kind
  operands_by_kind ls (kind_constant e) = rw e
  operands_by_kind ls (kind_variable e) = rw e
  operands_by_kind ls (kind_negation e) = rw e
  operands_by_kind ls (kind_operator e) = rw e
  operands_by_kind ls (kind_exists e) = rw e
  operands_by_kind ls (kind_for_all e) = rw e
  operands_by_kind ls (kind_none e1 e2 e3 e4 e5 e6) = rw (e1, e2, e3, e4, e5, e6)

  -- its operands and body, by the words alone
  pub operands_are : (ls : List ℕ) → operands (node_of ls w) ≡ named_by w
  operands_are ls = operands_by_kind ls (kind_of_lem w.kind)

  pub names_none : is_block_kind w.kind ≡ false → eqb w.kind 3 ≡ false → eqb w.kind 4 ≡ false → named_by w ≡ []
  unfolding named_by
  names_none b n o = pick_no _ _ _ n ∙ pick_no _ _ _ o ∙ pick_no _ _ _ b

  pub names_negation : w.kind ≡ 3 → named_by w ≡ w.a ∷ []
  unfolding named_by pick
  names_negation e = rw e

  pub names_operator : w.kind ≡ 4 → named_by w ≡ w.b ∷ w.c ∷ []
  unfolding named_by pick
  names_operator e = rw e

  pub names_block : is_block_kind w.kind ≡ true → named_by w ≡ w.c ∷ []
  unfolding named_by pick is_block_kind
  names_block b = go (kind_of_lem w.kind)
    where
      go : Kind w.kind → named_by w ≡ w.c ∷ []
      go (kind_constant e) = clash b (rw e)
      go (kind_variable e) = clash b (rw e)
      go (kind_negation e) = clash b (rw e)
      go (kind_operator e) = clash b (rw e)
      go (kind_exists e) = rw e
      go (kind_for_all e) = rw e
      go (kind_none e1 e2 e3 e4 e5 e6) = clash b (rw (e5, e6))

  le_by_kind : Kind w.kind → (x : ℕ) → times x (named_by w) ≤ 2
  unfolding named_by pick is_block_kind
  le_by_kind (kind_constant e) x = rw (e, times_none) (omega arith)
  le_by_kind (kind_variable e) x = rw (e, times_none) (omega arith)
  le_by_kind (kind_negation e) x = rw e (omega (arith, times_one_le x w.a))
  le_by_kind (kind_operator e) x = rw (e, times_two) (omega (arith, times_one_le x w.b, times_one_le x w.c))
  le_by_kind (kind_exists e) x = rw e (omega (arith, times_one_le x w.c))
  le_by_kind (kind_for_all e) x = rw e (omega (arith, times_one_le x w.c))
  le_by_kind (kind_none e1 e2 e3 e4 e5 e6) x = rw (e3, e4, e5, e6, times_none) (omega arith)

  names_le : (x : ℕ) → times x (named_by w) ≤ 2
  names_le = le_by_kind (kind_of_lem w.kind)

named_none : (ws : List ℕ) (x : ℕ) → named_below ws x 0 ≡ 0
unfolding named_below sum
named_none ws x = refl

named_more : (ws : List ℕ) (x i : ℕ) → named_below ws x (i + 1) ≡ named_below ws x i + times x (named_by (words_at ws i))
unfolding named_below sum
named_more ws x i = rw add-one

named_le : (ws : List ℕ) (x i : ℕ) → named_below ws x i ≤ i + i
unfolding named_below sum
named_le ws x zero = omega arith
named_le ws x (suc i) =
    omega (arith, named_le ws x i, names_le (words_at ws i) x)

-- an array of how often each number is named, after one name more
pub name_more : (named : List ℕ) (x : ℕ) → x < length named → (y : ℕ) → get_or (set named x (get_or named x 0 + 1)) y 0 ≡ get_or named y 0 + times y (x ∷ [])
unfolding times
name_more named x h y =
    set_cases named x (get_or named x 0 + 1) 0 h (λ c. c ≡ get_or named y 0 + (pick (eqb y x) 1 0 + 0)) y
    (λ q. omega (arith, ap (λ z. get_or named z 0) q, pick_yes {A = ℕ} (eqb y x) 1 0 (eq-eqb y x q)))
    (λ n. omega (arith, pick_no {A = ℕ} (eqb y x) 1 0 (ne_eqb y x n)))

pub counted_new : (ws : List ℕ) → Counted ws (replicate {A = ℕ} limit 0) 0
counted_new ws =
    record { wide = length-replicate {A = ℕ} limit 0; counts = λ x. get_or-filled limit x 0 ∙ sym (named_none ws x) }

-- no node is named more than twice by each node
pub counted_room : (ws named : List ℕ) (i : ℕ) → i ≤ limit → Counted ws named i → Room named i
counted_room ws named i l p =
    record { wide = omega (arith, p.wide); room = λ x. omega (arith, p.counts x, named_le ws x i) }

-- the counts after node i, whose names are added
pub counted_more : (ws named after : List ℕ) (i : ℕ) → length after ≡ length named → Counted ws named i
    → ((x : ℕ) → get_or after x 0 ≡ get_or named x 0 + times x (named_by (words_at ws i))) → Counted ws after (i + 1)
counted_more ws named after i l p h =
    record { wide = l ∙ p.wide; counts = λ x. rw (p.counts x) at (h x) ∙ sym (named_more ws x i) }

-- the counts after node i, which names none
pub counted_still : (ws named : List ℕ) (i : ℕ) → named_by (words_at ws i) ≡ [] → Counted ws named i → Counted ws named (i + 1)
counted_still ws named i n p = counted_more ws named named i refl p (λ x. rw (n, times_none) (omega arith))

times_named_is : (ws ls : List ℕ) (x : ℕ) → times_named (table_of ws ls) x ≡ named_below ws x (node_count ws)
unfolding times_named table_of node_at named_below
times_named_is ws ls x =
    sum_cong _ _ (node_count ws) (λ j h. ap (times x) (operands_are (words_at ws j) ls))

-- refusal 8's node, by the words alone
pub not_once_is : (ws ls : List ℕ) (k : ℕ) → lowest (not_named_once ws ls) k ≡ lowest (λ j. not (eqb (named_below ws j (node_count ws)) 1)) k
unfolding not_named_once
not_once_is ws ls k = lowest_cong _ _ k (λ j h. ap (λ v. not (eqb v 1)) (times_named_is ws ls j))

-- What an array of the counts says of the table, where j is the lowest node below the last that it does not hold 1 for.
module _ (ws named : List ℕ) (counted : Counted ws named (node_count ws)) (j : ℕ) (found : j ≡ lowest (λ k. not (eqb (get_or named k 0) 1)) (node_count ws - 1)) where
  place : lowest (λ k. not (eqb (named_below ws k (node_count ws)) 1)) (node_count ws - 1) ≡ j
  place = sym (found ∙ lowest_cong _ _ (node_count ws - 1) (λ k h. ap (λ v. not (eqb v 1)) (counted.counts k)))

  -- refusal 8 at a node
  abbrev refused : ℕ → Verdict
  refused k = not_a_tree k (first_two (users_below ws k (node_count ws)))

  verdict_at : tree_verdict ws ≡ pick (ltb j (node_count ws - 1)) (refused j) accepted
  unfolding tree_verdict
  verdict_at = ap (λ k. pick (ltb k (node_count ws - 1)) (refused k) accepted) place

  pub tree_refused : j < node_count ws - 1 → tree_verdict ws ≡ refused j
  tree_refused h = verdict_at ∙ pick_yes _ _ _ (lt-ltb _ _ h)

  pub tree_passed : node_count ws - 1 ≤ j → tree_verdict ws ≡ accepted
  tree_passed h = verdict_at ∙ pick_no _ _ _ (le-ltb _ _ h)
