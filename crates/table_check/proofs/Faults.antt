-- Laws of the verdict's steps: a node's fault by the tests of the code, and the verdict by its two passes.
-- Assumes nothing.
use mathlib.Core.Path.{◌≡◌, refl, sym, ◌∙◌, ap}
use mathlib.Core.Bool.{Bool, true, false, not, ◌&&◌, ◌||◌}
use mathlib.Core.List.{List}
use Prim.Native.Nat.{ℕ, ◌+◌, ◌-◌, ◌%◌, ◌≤◌, ◌<◌}
use native.Mathlib.Numerals.{add-one}
use native.Mathlib.Omega.{arith}
use lib.Dec.{eqb, leb, ltb}
use lib.ListN.{length}
use borrow.Author.Count.{below_none, below_more}
use borrow.Author.Tests.{eqb-true, eqb-false, eq-eqb, ne_eqb, ltb-true, ltb-false, lt-ltb, le-ltb, le-leb, lt-leb, not-true, not-false}
use Rattle.lists.specs.Choice.{pick, pick_yes, pick_no, Is, is_true, is_false, look, clash, or_neither_left, or_neither_right, or_left, or_right, and_left, and_right, and_off_right}
use Rattle.lists.specs.Search.{lowest}
use Rattle.lists.specs.Parts.{sum}
use Rattle.lists.proofs.Search.{lowest_holds, lowest_before, lowest_is, lowest_none}
use Rattle.formula.specs.Words.{width, node_count, field, is_block_kind, is_empty_block, words_at}
use Rattle.formula.specs.declared.NodeWords.{NodeWords}
use Rattle.formula.proofs.Nodes.{Kind, kind_of_lem, kind_constant, kind_variable, kind_negation, kind_operator, kind_exists, kind_for_all, kind_none}
use Rattle.refusals.specs.Verdict.{first_two, refusal, not_a_tree, accepted}
use Rattle.refusals.specs.declared.Verdict.{Verdict}
use Rattle.acceptance.specs.Limits.{TableLimits, limit, table_limits, tables_with}
use Rattle.acceptance.specs.Verdict.{is_number, partial_node, too_large, well_formed, forward_reference, range_past_end, empty_block, count_at, too_many_variables, bad_variable, node_fault, tree_refusal, verdict_within}
use Rattle.acceptance.proofs.Accepted.{count_block, count_none}
use Rattle.range_check.specs.Chains.{good_range}
use Rattle.range_check.proofs.Ranges.{good_none}
use Rattle.tree_check.specs.Named.{named_below, tree_verdict}
use Rattle.tree_check.proofs.Named.{not_once_is}
use Rattle.tree_check.proofs.Users.{users_are}
use Rattle.block_check.specs.Fault.{block_fault, passable}
use Rattle.block_check.proofs.Fault.{block_clear}
use Rattle.table_check.specs.Steps.{words_fault, block_node_fault, refuses, nodes_verdict}

-- the fault of node i in a table without empty blocks
abbrev pub fault_at : List ℕ → List ℕ → ℕ → ℕ
fault_at ws ls i = node_fault table_limits ws ls i

-- a node that is no block binds nothing
pub binds_none : (ws : List ℕ) (i before : ℕ) → is_block_kind (field ws i 0) ≡ false → before + count_at ws i ≡ before
binds_none ws i before k = omega (arith, count_none ws i k)

-- Refusal 7 comes after the others.
module _ (ls : List ℕ) (i before : ℕ) (w : NodeWords) where
  abbrev others : ℕ
  others = block_fault (length ls) i before w

  pub block_refused : (others ≡ 0 → ⊥) → block_node_fault ls i before w ≡ others
  unfolding block_node_fault
  block_refused f = pick_no _ _ _ (ne_eqb others 0 f)

  pub block_bad : others ≡ 0 → good_range ls w.a w.b ≡ false → block_node_fault ls i before w ≡ 7
  unfolding block_node_fault
  block_bad e g = pick_yes _ _ _ (eq-eqb others 0 e) ∙ pick_yes _ _ _ (ap not g)

  pub block_good : others ≡ 0 → good_range ls w.a w.b ≡ true → block_node_fault ls i before w ≡ 0
  unfolding block_node_fault
  block_good e g = pick_yes _ _ _ (eq-eqb others 0 e) ∙ pick_no _ _ _ (ap not g)

  others_from : Is (eqb others 0) → passable (block_node_fault ls i before w) ≡ true → passable others ≡ true
  others_from (is_true t) p = or_left _ _ t
  others_from (is_false t) p = rw (block_refused (eqb-false others 0 t)) at p

  -- past all of them a pass may go on only where it may past the others
  pass_others : passable (block_node_fault ls i before w) ≡ true → passable others ≡ true
  pass_others = others_from (look (eqb others 0))

-- a last answer: in the order of the tests, or once the fault of the others is known
last_or_after : (t4 t5 t16 t6 : Bool) (last : ℕ)
    → let fault : ℕ = pick t4 4 (pick t5 5 (pick t16 16 (pick t6 6 0))) in
    pick t4 4 (pick t5 5 (pick t16 16 (pick t6 6 last))) ≡ pick (eqb fault 0) last fault
unfolding pick
last_or_after true t5 t16 t6 last = refl
last_or_after false true t16 t6 last = refl
last_or_after false false true t6 last = refl
last_or_after false false false true last = refl
last_or_after false false false false last = refl

-- the answer where 16 is tested or not, by that where it is: neither test after that of 16 passes together with it
empty_or_not : (empty t3 t4 t5 t16 t6 t7 : Bool) → (t16 ≡ true → (t6 ≡ false) × (t7 ≡ false))
    → let fault : ℕ = pick t3 3 (pick t4 4 (pick t5 5 (pick t16 16 (pick t6 6 (pick t7 7 0))))) in
    pick t3 3 (pick t4 4 (pick t5 5 (pick (not empty && t16) 16 (pick t6 6 (pick t7 7 0))))) ≡ pick (empty && eqb fault 16) 0 fault
unfolding pick
empty_or_not false t3 t4 t5 t16 t6 t7 h = refl
empty_or_not true true t4 t5 t16 t6 t7 h = refl
empty_or_not true false true t5 t16 t6 t7 h = refl
empty_or_not true false false true t16 t6 t7 h = refl
empty_or_not true false false false true t6 t7 h = rw ((h refl).0, (h refl).1)
empty_or_not true false false false false true t7 h = refl
empty_or_not true false false false false false true h = refl
empty_or_not true false false false false false false h = refl

-- what refuses nothing lets the pass go on, and is 0 or 16 where blocks may be empty
pub not_refused : (empty : Bool) (fault : ℕ) → refuses empty fault ≡ false
    → (passable fault ≡ true) × (pick (empty && eqb fault 16) 0 fault ≡ 0)
not_refused empty fault = go (look (empty && eqb fault 16)) (look (eqb fault 0))
  where
    go : Is (empty && eqb fault 16) → Is (eqb fault 0) → refuses empty fault ≡ false
        → (passable fault ≡ true) × (pick (empty && eqb fault 16) 0 fault ≡ 0)
    go (is_true t) u r = (or_right (eqb fault 0) _ (and_right empty _ t), pick_yes _ _ _ t)
    go (is_false t) (is_true u) r = (or_left _ _ u, pick_no _ _ _ t ∙ eqb-true fault 0 u)
    go (is_false t) (is_false u) r = clash (rw (t, u) refl) r

-- 16 is no fault of a node that is no block
pub words_passed : (i : ℕ) (w : NodeWords) (fault : ℕ) → fault ≡ words_fault i w → passable fault ≡ true → fault ≡ 0
unfolding words_fault pick
words_passed i w fault e p = e ∙ go (not (well_formed table_limits w)) (forward_reference i w) (rw e at p)
  where
    go : (t3 t4 : Bool) → let fault : ℕ = pick t3 3 (pick t4 4 0) in passable fault ≡ true → fault ≡ 0
    go true t4 q = clash q refl
    go false true q = clash q refl
    go false false q = refl

-- The words of a node that is no block, by kind.
module _ (i : ℕ) (w : NodeWords) where
  pub variable_words : w.kind ≡ 2 → words_fault i w ≡ pick (is_number w.a && eqb w.b 0 && eqb w.c 0) 0 3
  unfolding words_fault well_formed forward_reference is_block_kind pick
  variable_words k = rw k (leaf (is_number w.a && eqb w.b 0 && eqb w.c 0))
    where
      leaf : (t : Bool) → ◌≡◌ {A = ℕ} (pick (not ((((false || t) || false) || false) || false)) 3 0) (pick t 0 3)
      leaf true = refl
      leaf false = refl

  pub constant_words : w.kind ≡ 1 → words_fault i w ≡ pick (leb w.a 1 && eqb w.b 0 && eqb w.c 0) 0 3
  unfolding words_fault well_formed forward_reference is_block_kind pick
  constant_words k = rw k (leaf (leb w.a 1 && eqb w.b 0 && eqb w.c 0))
    where
      leaf : (t : Bool) → ◌≡◌ {A = ℕ} (pick (not ((((t || false) || false) || false) || false)) 3 0) (pick t 0 3)
      leaf true = refl
      leaf false = refl

  pub operator_malformed : w.kind ≡ 4 → 15 < w.a → words_fault i w ≡ 3
  unfolding words_fault well_formed forward_reference is_block_kind pick
  operator_malformed k h = rw (k, lt-leb w.a 15 h)

  pub operator_forward : w.kind ≡ 4 → w.a ≤ 15 → (leb i w.b || leb i w.c) ≡ true → words_fault i w ≡ 4
  unfolding words_fault well_formed forward_reference is_block_kind pick
  operator_forward k h f = rw (k, le-leb w.a 15 h, f)

  pub operator_sound : w.kind ≡ 4 → w.a ≤ 15 → (leb i w.b || leb i w.c) ≡ false → words_fault i w ≡ 0
  unfolding words_fault well_formed forward_reference is_block_kind pick
  operator_sound k h f = rw (k, le-leb w.a 15 h, f)

  pub negation_malformed : w.kind ≡ 3 → (eqb w.b 0 && eqb w.c 0) ≡ false → words_fault i w ≡ 3
  unfolding words_fault well_formed forward_reference is_block_kind pick
  negation_malformed k h = rw (k, h)

  pub negation_forward : w.kind ≡ 3 → (eqb w.b 0 && eqb w.c 0) ≡ true → i ≤ w.a → words_fault i w ≡ 4
  unfolding words_fault well_formed forward_reference is_block_kind pick
  negation_forward k h f = rw (k, h, le-leb i w.a f)

  pub negation_sound : w.kind ≡ 3 → (eqb w.b 0 && eqb w.c 0) ≡ true → w.a < i → words_fault i w ≡ 0
  unfolding words_fault well_formed forward_reference is_block_kind pick
  negation_sound k h f = rw (k, h, lt-leb i w.a f)

-- A block's words are well formed, and it names its body.
module _ (w : NodeWords) (k : is_block_kind w.kind ≡ true) where
  block_formed : well_formed table_limits w ≡ true
  unfolding well_formed is_block_kind
  block_formed = go (kind_of_lem w.kind)
    where
      go : Kind w.kind → well_formed table_limits w ≡ true
      go (kind_constant e) = clash k (rw e)
      go (kind_variable e) = clash k (rw e)
      go (kind_negation e) = clash k (rw e)
      go (kind_operator e) = clash k (rw e)
      go (kind_exists e) = rw e
      go (kind_for_all e) = rw e
      go (kind_none e1 e2 e3 e4 e5 e6) = clash k (rw (e5, e6))

  block_names : (i : ℕ) → forward_reference i w ≡ leb i w.c
  unfolding forward_reference is_block_kind
  block_names i = go (kind_of_lem w.kind)
    where
      go : Kind w.kind → forward_reference i w ≡ leb i w.c
      go (kind_constant e) = clash k (rw e)
      go (kind_variable e) = clash k (rw e)
      go (kind_negation e) = clash k (rw e)
      go (kind_operator e) = clash k (rw e)
      go (kind_exists e) = rw e
      go (kind_for_all e) = rw e
      go (kind_none e1 e2 e3 e4 e5 e6) = clash k (rw (e5, e6))

-- Node i of a table.
module _ (ws ls : List ℕ) (i : ℕ) where
  -- a node that is no block has only refusals 3 and 4
  pub fault_words : is_block_kind (field ws i 0) ≡ false → fault_at ws ls i ≡ words_fault i (words_at ws i)
  unfolding node_fault words_fault well_formed range_past_end empty_block is_empty_block too_many_variables bad_variable pick
  fault_words k = rw k

  pub fault_block : is_block_kind (field ws i 0) ≡ true → fault_at ws ls i ≡ block_node_fault ls i (sum (count_at ws) i) (words_at ws i)
  unfolding node_fault range_past_end empty_block is_empty_block too_many_variables bad_variable block_node_fault block_fault good_range
  fault_block k =
      pick_no _ _ _ (ap not (block_formed (words_at ws i) k)) ∙ rw (block_names (words_at ws i) k i, k) (last_or_after _ _ _ _ _)

  -- a word that is no kind
  pub fault_no_kind : (field ws i 0 ≡ 1 → ⊥) → (field ws i 0 ≡ 2 → ⊥) → (field ws i 0 ≡ 3 → ⊥) → (field ws i 0 ≡ 4 → ⊥)
      → is_block_kind (field ws i 0) ≡ false → fault_at ws ls i ≡ 3
  unfolding node_fault well_formed
  fault_no_kind d1 d2 d3 d4 k =
      pick_yes _ _ _ (rw (ne_eqb (field ws i 0) 1 d1, ne_eqb (field ws i 0) 2 d2, ne_eqb (field ws i 0) 3 d3, ne_eqb (field ws i 0) 4 d4, k) refl)

  -- The counts below the node are within the limit.
  module _ (few : sum (count_at ws) i ≤ limit) where
    -- an empty block adds nothing to them, and its range has no bad entry
    binds_good : is_empty_block (words_at ws i) ≡ true
        → (too_many_variables limit ws i ≡ false) × (bad_variable table_limits ls (words_at ws i) ≡ false)
    unfolding is_empty_block too_many_variables bad_variable good_range
    binds_good e =
        let block : Bool = is_block_kind (field ws i 0) in
        let none : field ws i 2 ≡ 0 = eqb-true (field ws i 2) 0 (and_right block _ e) in
        let good : good_range ls (field ws i 1) (field ws i 2) ≡ true = rw none (good_none ls (field ws i 1)) in
        let within = le-ltb limit (sum (count_at ws) i + field ws i 2) (omega arith) in
        (and_off_right block _ within, and_off_right block _ (ap not good))

    -- the fault of the node where a block may be empty or not
    fault_with : (empty : Bool) → node_fault (tables_with empty) ws ls i ≡ pick (empty && eqb (fault_at ws ls i) 16) 0 (fault_at ws ls i)
    unfolding node_fault well_formed empty_block bad_variable
    fault_with empty = empty_or_not empty _ _ _ _ _ _ binds_good

    counts_from : Is (is_block_kind (field ws i 0)) → passable (fault_at ws ls i) ≡ true → sum (count_at ws) i + count_at ws i ≤ limit
    counts_from (is_true k) p =
        let w = words_at ws i in
        let q = pass_others ls i (sum (count_at ws) i) w (rw (fault_block k) at p) in
        rw (count_block ws i k) (block_clear (length ls) i (sum (count_at ws) i) w few q).2
    counts_from (is_false k) p = rw (count_none ws i k) (omega arith)

    -- the counts stay within the limit
    counts_fit : passable (fault_at ws ls i) ≡ true → sum (count_at ws) i + count_at ws i ≤ limit
    counts_fit = counts_from (look (is_block_kind (field ws i 0)))

counts_more : (ws : List ℕ) (i : ℕ) → sum (count_at ws) (i + 1) ≡ sum (count_at ws) i + count_at ws i
unfolding sum
counts_more ws i = rw add-one

-- What holds of the nodes below i once they are passed, with the count as it is then.
pub record Checked (empty : Bool) (ws ls : List ℕ) (before i : ℕ) : Type 0 where
  pub counted : before ≡ sum (count_at ws) i
  pub few : before ≤ limit
  pub faultless : (j : ℕ) → j < i → node_fault (tables_with empty) ws ls j ≡ 0

pub checked_none : (empty : Bool) (ws ls : List ℕ) → Checked empty ws ls 0 0
unfolding sum
checked_none empty ws ls =
    record { counted = refl; few = omega arith; faultless = below_none (λ j. node_fault (tables_with empty) ws ls j ≡ 0) }

-- the count and what node i adds to it
pub checked_more : (empty : Bool) (ws ls : List ℕ) (before after i : ℕ) → Checked empty ws ls before i
    → refuses empty (fault_at ws ls i) ≡ false → after ≡ before + count_at ws i → Checked empty ws ls after (i + 1)
checked_more empty ws ls before after i p r e =
    let few : sum (count_at ws) i ≤ limit = rw p.counted at p.few in
    let passed = not_refused empty (fault_at ws ls i) r in
    record {
      counted = rw (e, p.counted) (sym (counts_more ws i));
      few = rw (e, p.counted) (counts_fit ws ls i few passed.0);
      faultless = below_more (λ j. node_fault (tables_with empty) ws ls j ≡ 0) i p.faultless (fault_with ws ls i few empty ∙ passed.1);
    }

-- whole nodes, and one at least
pub some_node_lem : (ws : List ℕ) → partial_node ws ≡ false → 0 < node_count ws
unfolding partial_node
some_node_lem ws p =
    let l : length ws ≡ 0 → ⊥ = eqb-false (length ws) 0 (or_neither_left _ _ p) in
    let m : length ws % width ≡ 0 = eqb-true _ _ (not-false _ (or_neither_right (eqb (length ws) 0) _ p)) in omega arith

-- The two passes of a table.
module _ (lim : TableLimits) (ws ls : List ℕ) where
  abbrev faulty : ℕ → Bool
  faulty i = not (eqb (node_fault lim ws ls i) 0)

  abbrev at : ℕ
  at = lowest faulty (node_count ws)

  not_faulty : (i : ℕ) → node_fault lim ws ls i ≡ 0 → faulty i ≡ false
  not_faulty i e = ap not (eq-eqb (node_fault lim ws ls i) 0 e)

  nodes_refused : (i : ℕ) → i < node_count ws → ((j : ℕ) → j < i → node_fault lim ws ls j ≡ 0) → (node_fault lim ws ls i ≡ 0 → ⊥)
      → nodes_verdict lim ws ls ≡ refusal (node_fault lim ws ls i) i
  unfolding nodes_verdict
  nodes_refused i h below f =
      let e : at ≡ i = lowest_is faulty (node_count ws) i h (ap not (ne_eqb (node_fault lim ws ls i) 0 f)) (λ j l. not_faulty j (below j l)) in
      rw e (pick_yes _ _ _ (lt-ltb i (node_count ws) h))

  pub nodes_passed : ((j : ℕ) → j < node_count ws → node_fault lim ws ls j ≡ 0) → nodes_verdict lim ws ls ≡ accepted
  unfolding nodes_verdict
  nodes_passed below =
      let e : at ≡ node_count ws = lowest_none faulty (node_count ws) (λ j l. not_faulty j (below j l)) in
      pick_no _ _ _ (le-ltb at (node_count ws) (omega arith))

  -- what the first pass says of the table
  data Pass : Type 0 where
    refused : at < node_count ws → nodes_verdict lim ws ls ≡ refusal (node_fault lim ws ls at) at → Pass
    passed : node_count ws ≤ at → nodes_verdict lim ws ls ≡ accepted → Pass

  pass : Is (ltb at (node_count ws)) → Pass
  unfolding nodes_verdict
  pass (is_true t) = refused (ltb-true _ _ t) (pick_yes _ _ _ t)
  pass (is_false t) = passed (ltb-false _ _ t) (pick_no _ _ _ t)

  first_pass : Pass
  first_pass = pass (look (ltb at (node_count ws)))

  none_from : Pass → (nodes_verdict lim ws ls).number ≡ 0 → (i : ℕ) → i < node_count ws → node_fault lim ws ls i ≡ 0
  unfolding refusal
  none_from (refused h e) z i l =
      let f : not (eqb (node_fault lim ws ls at) 0) ≡ true = lowest_holds faulty (node_count ws) h in
      let g : node_fault lim ws ls at ≡ 0 = ap (λ (v : Verdict). v.number) (sym e) ∙ z in
      absurd (eqb-false (node_fault lim ws ls at) 0 (not-true _ f) g)
  none_from (passed h e) z i l = eqb-true (node_fault lim ws ls i) 0 (not-false _ (lowest_before faulty (node_count ws) i (omega arith)))

  -- no node has a fault where the first pass accepts
  none_faulty : (nodes_verdict lim ws ls).number ≡ 0 → (i : ℕ) → i < node_count ws → node_fault lim ws ls i ≡ 0
  none_faulty = none_from first_pass

  pub verdict_partial : partial_node ws ≡ true → verdict_within lim ws ls ≡ refusal 1 0
  unfolding verdict_within
  verdict_partial p = pick_yes _ _ _ p

  pub verdict_large : partial_node ws ≡ false → too_large lim ws ls ≡ true → verdict_within lim ws ls ≡ refusal 2 0
  unfolding verdict_within
  verdict_large p l = pick_no _ _ _ p ∙ pick_yes _ _ _ l

  by_nodes : partial_node ws ≡ false → too_large lim ws ls ≡ false → ((nodes_verdict lim ws ls).number ≡ 0 → ⊥) → Pass
      → verdict_within lim ws ls ≡ nodes_verdict lim ws ls
  unfolding verdict_within accepted
  by_nodes p l f (refused h e) = pick_no _ _ _ p ∙ pick_no _ _ _ l ∙ pick_yes _ _ _ (lt-ltb _ _ h) ∙ sym e
  by_nodes p l f (passed h e) = absurd (f (ap (λ (v : Verdict). v.number) e))

  pub verdict_nodes : partial_node ws ≡ false → too_large lim ws ls ≡ false → ((nodes_verdict lim ws ls).number ≡ 0 → ⊥)
      → verdict_within lim ws ls ≡ nodes_verdict lim ws ls
  verdict_nodes p l f = by_nodes p l f first_pass

  pub verdict_tree : partial_node ws ≡ false → too_large lim ws ls ≡ false → (nodes_verdict lim ws ls).number ≡ 0
      → verdict_within lim ws ls ≡ tree_verdict ws
  unfolding verdict_within tree_verdict tree_refusal
  verdict_tree p l z =
      let last : ℕ = node_count ws - 1 in
      let j : ℕ = lowest (λ j. not (eqb (named_below ws j (node_count ws)) 1)) last in
      let e : at ≡ node_count ws = lowest_none faulty (node_count ws) (λ j h. not_faulty j (none_faulty z j h)) in
      pick_no _ _ _ p
      ∙ pick_no _ _ _ l
      ∙ pick_no _ _ _ (le-ltb at (node_count ws) (omega arith))
      ∙ ap (λ (j : ℕ). pick (ltb j last) (tree_refusal ws ls j) accepted) (not_once_is ws ls last)
      ∙ ap (λ (us : List ℕ). pick (ltb j last) (not_a_tree j (first_two us)) accepted) (users_are ws ls j)

  pub few_nodes : too_large lim ws ls ≡ false → node_count ws ≤ lim.nodes
  unfolding too_large
  few_nodes l = ltb-false lim.nodes (node_count ws) (or_neither_left _ _ l)

-- where the fault of node i refuses the table, it is the first pass's answer
pub checked_refused : (empty : Bool) (ws ls : List ℕ) (before i : ℕ) → i < node_count ws → Checked empty ws ls before i
    → refuses empty (fault_at ws ls i) ≡ true
    → (nodes_verdict (tables_with empty) ws ls ≡ refusal (fault_at ws ls i) i) × (fault_at ws ls i ≡ 0 → ⊥)
checked_refused empty ws ls before i h p r =
    let fault = fault_at ws ls i in
    let few : sum (count_at ws) i ≤ limit = rw p.counted at p.few in
    let e = fault_with ws ls i few empty ∙ pick_no _ _ _ (not-true _ (and_right (not (eqb fault 0)) _ r)) in
    let some = eqb-false fault 0 (not-true _ (and_left (not (eqb fault 0)) _ r)) in
    (nodes_refused (tables_with empty) ws ls i h p.faultless (λ z. some (sym e ∙ z)) ∙ ap (λ f. refusal f i) e, some)
