-- When a table is refused (document 01, "When the lifter says no"; request S-6): refusals 1 to 8 and 16, within any limits.
-- Assumes nothing.
use Rattle.std.specs.Prelude.{Bool, not, ◌&&◌, ◌||◌, List, ℕ, ◌+◌, ◌-◌, ◌%◌, eqb, leb, ltb, length}
use Rattle.lists.specs.Choice.{pick}
use Rattle.lists.specs.Search.{lowest}
use Rattle.lists.specs.Members.{all, distinct}
use Rattle.lists.specs.Parts.{sum}
use Rattle.formula.specs.Words.{width, node_count, is_block_kind, is_empty_block, range, words_at, table_of}
use Rattle.formula.specs.Tree.{users, times_named}
use Rattle.formula.specs.declared.NodeWords.{NodeWords}
use Rattle.refusals.specs.Verdict.{first_two, refusal, not_a_tree, accepted}
use Rattle.refusals.specs.declared.Verdict.{Verdict}
use Rattle.acceptance.specs.Limits.{TableLimits, table_limits, stored_limits}

-- "its number, 1 to 65,535": a number from 1 up to the highest.
unfoldable pub is_number_to : ℕ → ℕ → Bool
is_number_to highest x = leb 1 x && leb x highest

-- Refusal 1, PartialNode (document 01: ragged): "no words, or not a multiple of four".
unfoldable pub partial_node : List ℕ → Bool
partial_node ws = eqb (length ws) 0 || not (eqb (length ws % width) 0)

-- Refusal 2, TooLarge (oversize): "over 4,096 nodes or list entries".
unfoldable pub too_large : TableLimits → List ℕ → List ℕ → Bool
too_large lim ws ls = ltb lim.nodes (node_count ws) || ltb lim.entries (length ls)

-- Refusal 3, MalformedNode (odd node): "kind not 1 to 6; constant, variable number, truth table or unused field outside its
-- range". A node is well formed if it is
unfoldable pub well_formed : TableLimits → NodeWords → Bool
well_formed lim w =
    -- a constant: "value 0 or 1"
    (eqb w.kind 1 && leb w.a 1 && eqb w.b 0 && eqb w.c 0)
    -- a variable: "its number, 1 to 65,535"
    || (eqb w.kind 2 && is_number_to lim.highest w.a && eqb w.b 0 && eqb w.c 0)
    -- a not node
    || (eqb w.kind 3 && eqb w.b 0 && eqb w.c 0)
    -- an operator: "truth table 0 to 15"
    || (eqb w.kind 4 && leb w.a 15)
    -- a block, where there may be one
    || (is_block_kind w.kind && lim.blocks)

-- Refusal 4, ForwardReference (forward): "an operand or body at or above its own node", of node i.
unfoldable pub forward_reference : ℕ → NodeWords → Bool
forward_reference i w =
    (eqb w.kind 3 && leb i w.a)
    || (eqb w.kind 4 && (leb i w.b || leb i w.c))
    || (is_block_kind w.kind && leb i w.c)

-- Refusal 5, RangePastEnd (overhang): "first + count passes the list's length", at a block.
unfoldable pub range_past_end : List ℕ → NodeWords → Bool
range_past_end ls w = is_block_kind w.kind && ltb (length ls) (w.a + w.b)

-- Refusal 16, EmptyBlock (request S-6: empty block): "a count of 0 is now refused", where no block may be empty.
unfoldable pub empty_block : TableLimits → NodeWords → Bool
empty_block lim w = not lim.empty && is_empty_block w

-- The count of node i, 0 where it is no block.
unfoldable pub count_at : List ℕ → ℕ → ℕ
count_at ws i = let w = words_at ws i in pick (is_block_kind w.kind) w.b 0

-- Refusal 6, TooManyVariables (crowd): "this block's count brings the sum so far over" the most.
unfoldable pub too_many_variables : ℕ → List ℕ → ℕ → Bool
too_many_variables most ws i = let w = words_at ws i in is_block_kind w.kind && ltb most (sum (count_at ws) i + w.b)

-- Refusal 7, BadVariable (bad name): "a covered entry outside 1 to 65,535, or twice in one block".
unfoldable pub bad_variable : TableLimits → List ℕ → NodeWords → Bool
bad_variable lim ls w =
    is_block_kind w.kind && not (all (is_number_to lim.highest) (range ls w.a w.b) && distinct (range ls w.a w.b))

-- "Nodes upward, each tested for 3 to 7 in that order", and for 16, which is "tested after 5": the first of them that applies to node
-- i, 0 if none does.
unfoldable pub node_fault : TableLimits → List ℕ → List ℕ → ℕ → ℕ
node_fault lim ws ls i =
    let w = words_at ws i in
    pick (not (well_formed lim w)) 3
    (pick (forward_reference i w) 4
    (pick (range_past_end ls w) 5
    (pick (empty_block lim w) 16
    (pick (too_many_variables lim.counts ws i) 6
    (pick (bad_variable lim ls w) 7
    0)))))

-- Refusal 8, NotATree (not a tree): "lowest node below the last that isn't named exactly once".
unfoldable pub not_named_once : List ℕ → List ℕ → ℕ → Bool
not_named_once ws ls i = not (eqb (times_named (table_of ws ls) i) 1)

-- Request S-2: "The tree test now also gives the two lowest nodes that name it, 0 and 0 if none does; a parent naming it twice stands
-- twice."
unfoldable pub tree_refusal : List ℕ → List ℕ → ℕ → Verdict
tree_refusal ws ls i = not_a_tree i (first_two (users (table_of ws ls) i))

-- "Order: 1, 2; then nodes upward, each tested for 3 to 7 in that order" (and for 16); "then 8. .. The first that applies is the
-- answer, and no other condition is ever a refusal."
unfoldable pub verdict_within : TableLimits → List ℕ → List ℕ → Verdict
verdict_within lim ws ls =
    let n = node_count ws in
    let i = lowest (λ i. not (eqb (node_fault lim ws ls i) 0)) n in
    let j = lowest (not_named_once ws ls) (n - 1) in
    pick (partial_node ws) (refusal 1 0)
    (pick (too_large lim ws ls) (refusal 2 0)
    (pick (ltb i n) (refusal (node_fault lim ws ls i) i)
    (pick (ltb j (n - 1)) (tree_refusal ws ls j)
    accepted)))

-- The verdict on a formula table, that on a stored one, and which of their numbers are variables.
abbrev pub verdict : List ℕ → List ℕ → Verdict
verdict = verdict_within table_limits

abbrev pub stored_verdict : List ℕ → List ℕ → Verdict
stored_verdict = verdict_within stored_limits

abbrev pub is_number : ℕ → Bool
is_number = is_number_to 65535
