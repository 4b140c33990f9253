-- The passes that chain the nodes of an accepted table, step by step.
-- Assumes nothing.
use mathlib.Core.Path.{◌≡◌, sym, ◌∙◌, subst}
use mathlib.Core.Bool.{true, false}
use mathlib.Core.List.{List}
use Prim.Native.Nat.{ℕ, suc, ◌+◌, ◌<◌, ◌≤◌, max}
use native.Mathlib.Numerals.{add-one}
use native.Mathlib.Omega.{arith}
use lib.ListN.{length, get_or, set, length-set}
use lib.Seq.{get_or-set_same, get_or-set_other}
use Rattle.lists.specs.Choice.{clash}
use Rattle.lists.specs.Members.{maximum}
use Rattle.lists.specs.Parts.{highest}
use Rattle.formula.specs.Node.{is_block}
use Rattle.formula.specs.declared.NodeWords.{NodeWords}
use Rattle.formula.specs.Words.{node_count, range, words_at, node_at, table_of}
use Rattle.formula.specs.Tree.{count, bound_below}
use Rattle.formula.proofs.Nodes.{block_kind}
use Rattle.refusals.specs.Verdict.{accepted}
use Rattle.acceptance.specs.Limits.{limit}
use Rattle.acceptance.specs.Verdict.{verdict}
use Rattle.acceptance.proofs.Accepted.{accepted_holds}
use Rattle.prenex_form.specs.Scope.{inner, level}
use Rattle.prenex_form.specs.Names.{highest_at, highest_number, bound_count}
use Rattle.prenex_form.proofs.Paths.{inner_is, not_inner, inner_root}
use Rattle.prenex_form.proofs.NameLaws.{none_bound}
use Rattle.arrays.specs.Held.{enclosing, is_member, Parents, NodeLevels, LevelChains, MemberChains, Starts}
use Rattle.arrays.proofs.Nodes.{from_here, accepted_tree, nodes_few, level_small, count_read}
use Rattle.arrays.proofs.Enclosing.{enclosing_le}
use Rattle.arrays.proofs.Entries.{bound_below_next, bound_below_grows}
use Rattle.chains.specs.declared.Passed.{Passed}
use Rattle.chains.specs.Chaining.{Cleared, LevelsFrom, MembersFrom, ChainedFrom}
use Rattle.chains.proofs.Nodes.{variable_read, plain_member}
use Rattle.chains.proofs.Chains.{chains_start, chains_skip, chains_put, chains_end}
use Rattle.chains.proofs.Highest.{highest_next, plain_highest, block_highest}

module _ (ws ls : List ℕ) (ok : verdict ws ls ≡ accepted) (i : ℕ) (h : i < node_count ws) where
  -- the keys of a node as the arrays hold them, which index the arrays of the first nodes

  module _ (ps : List ℕ) (held : Parents (table_of ws ls) ps) where
    parent_read : get_or ps i 0 ≡ enclosing (table_of ws ls) i
    unfolding table_of
    parent_read = held.parent_is i h

    pub parent_small : get_or ps i 0 ≤ limit
    unfolding table_of
    parent_small = omega (arith, parent_read, enclosing_le (table_of ws ls) (accepted_tree ws ls ok) i, nodes_few ws ls ok)

    pub member_chained : (fs ns fs' ns' : List ℕ) → is_member (node_at ws ls i) ≡ true → length fs ≡ suc limit → length ns ≡ limit
        → MembersFrom (table_of ws ls) (i + 1) fs ns → fs' ≡ set fs (get_or ps i 0) (suc i) → ns' ≡ set ns i (get_or fs (get_or ps i 0) 0)
        → MembersFrom (table_of ws ls) i fs' ns'
    unfolding table_of
    member_chained fs ns fs' ns' m w v s =
        chains_put (λ j. is_member (node_at ws ls j)) (enclosing (table_of ws ls)) (node_count ws) i fs ns h m
        (omega (arith, parent_read, parent_small)) (omega (arith, nodes_few ws ls ok)) (rw add-one at s) (get_or ps i 0) fs' ns' parent_read

  module _ (vs : List ℕ) (held : NodeLevels (table_of ws ls) vs) where
    level_read : get_or vs i 0 ≡ level (table_of ws ls) i
    unfolding table_of
    level_read = held.level_is i h

    pub level_index : get_or vs i 0 < limit
    level_index = rw level_read (level_small ws ls ok i h)

    pub inner_chained : (fs ns fs' ns' : List ℕ) → is_block (node_at ws ls i) ≡ true → i + 1 < node_count ws → length fs ≡ limit → length ns ≡ limit
        → LevelsFrom (table_of ws ls) (i + 1) fs ns → fs' ≡ set fs (get_or vs i 0) (suc i) → ns' ≡ set ns i (get_or fs (get_or vs i 0) 0)
        → LevelsFrom (table_of ws ls) i fs' ns'
    unfolding table_of
    inner_chained fs ns fs' ns' e n w v s =
        chains_put (inner (table_of ws ls)) (level (table_of ws ls)) (node_count ws) i fs ns h (inner_is (table_of ws ls) i (omega arith) ∙ e)
        (omega (arith, level_small ws ls ok i h)) (omega (arith, nodes_few ws ls ok)) (rw add-one at s) (get_or vs i 0) fs' ns' level_read

  -- a node that is no block
  pub plain_chained : (fs ns : List ℕ) → is_block (node_at ws ls i) ≡ false → LevelsFrom (table_of ws ls) (i + 1) fs ns → LevelsFrom (table_of ws ls) i fs ns
  unfolding table_of
  plain_chained fs ns e s =
      chains_skip (inner (table_of ws ls)) (level (table_of ws ls)) (node_count ws) i fs ns (not_inner (table_of ws ls) i e) (rw add-one at s)

  -- a block's entries lie within the list, and there are no more than entries up to it
  module _ (w : NodeWords) (r : w ≡ words_at ws i) (e : is_block (node_at ws ls i) ≡ true) where
    pub entries_within : w.a + w.b ≤ length ls
    entries_within = rw r ((accepted_holds ws ls ok).fits i h (block_kind ws ls i e))

    start_before : bound_below (table_of ws ls) (i + 1) ≡ bound_below (table_of ws ls) i + w.b
    start_before = rw (add-one, count_read ws ls ok i h w r e) (bound_below_next (table_of ws ls) i)

  start_small : bound_below (table_of ws ls) (i + 1) ≤ limit
  start_small = omega (arith, bound_below_grows (table_of ws ls) (i + 1) (node_count ws) (omega arith), (accepted_holds ws ls ok).counts_limit)

  module _ (firsts nexts starts : List ℕ) (p : Passed) (s : ChainedFrom (table_of ws ls) (i + 1) firsts nexts starts p) where
    -- what the nodes above were given stays
    above_same : is_block (node_at ws ls i) ≡ false
        → (j : ℕ) → i ≤ j → j < (table_of ws ls).size → is_block ((table_of ws ls).node j) ≡ true → get_or starts j 0 ≡ bound_below (table_of ws ls) j
    unfolding table_of
    above_same e =
        from_here (λ j. is_block (node_at ws ls j) ≡ true → get_or starts j 0 ≡ bound_below (table_of ws ls) j) i (node_count ws) (λ y. clash y e)
        (λ j k l y. s.start_is j (omega arith) l y)

    start_same : is_block (node_at ws ls i) ≡ false → p.start ≡ bound_below (table_of ws ls) i
    unfolding table_of count
    start_same e =
        let q : bound_below (table_of ws ls) (i + 1) ≡ bound_below (table_of ws ls) i + count (table_of ws ls) i = rw add-one (bound_below_next (table_of ws ls) i) in
        omega (arith, s.start_here, q, none_bound (node_at ws ls i) e)

    highest_with : (x : ℕ) → highest_at (node_at ws ls i) ≡ x
        → max (highest (λ j. highest_at ((table_of ws ls).node j)) i) (max p.highest x) ≡ highest_number (table_of ws ls)
    unfolding table_of
    highest_with x e = omega (arith, e, s.highest_is, highest_next (λ j. highest_at (node_at ws ls j)) i)

    pub plain_passed : (w : NodeWords) → w ≡ words_at ws i → (w.kind ≡ 2 → ⊥) → is_block (node_at ws ls i) ≡ false
        → ChainedFrom (table_of ws ls) i firsts nexts starts (record { start = p.start; highest = p.highest })
    unfolding table_of
    plain_passed w r n e =
        let m = plain_member ws ls i w r n e in
        record {
          firsts_length = s.firsts_length;
          nexts_length = s.nexts_length;
          starts_length = s.starts_length;
          members_linked = chains_skip (λ j. is_member (node_at ws ls j)) (enclosing (table_of ws ls)) (node_count ws) i firsts nexts m (rw add-one at s.members_linked);
          start_is = above_same e;
          start_here = start_same e;
          highest_is = omega (arith, highest_with 0 (plain_highest (node_at ws ls i) m));
        }

    module _ (firsts' nexts' : List ℕ) (fl : length firsts' ≡ length firsts) (nl : length nexts' ≡ length nexts) (members : MembersFrom (table_of ws ls) i firsts' nexts') where
      pub variable_passed : (w : NodeWords) → w ≡ words_at ws i → w.kind ≡ 2 → (y : ℕ) → y ≡ max p.highest w.a
          → ChainedFrom (table_of ws ls) i firsts' nexts' starts (record { start = p.start; highest = y })
      unfolding table_of is_block highest_at
      variable_passed w r k y ey =
          let v = variable_read ws ls i w r k in
          let e : is_block (node_at ws ls i) ≡ false = rw v in
          record {
            firsts_length = fl ∙ s.firsts_length;
            nexts_length = nl ∙ s.nexts_length;
            starts_length = s.starts_length;
            members_linked = members;
            start_is = above_same e;
            start_here = start_same e;
            highest_is = rw ey (highest_with w.a (rw v));
          }

      pub block_passed : (w : NodeWords) → w ≡ words_at ws i → is_block (node_at ws ls i) ≡ true
          → (starts' : List ℕ) (q : Passed) → starts' ≡ set starts i q.start → q.start + w.b ≡ p.start
          → q.highest ≡ max p.highest (maximum (range ls w.a w.b))
          → ChainedFrom (table_of ws ls) i firsts' nexts' starts' q
      unfolding table_of
      block_passed w r e starts' q es eq ey =
          let v : q.start ≡ bound_below (table_of ws ls) i = omega (arith, s.start_here, start_before w r e) in
          record {
            firsts_length = fl ∙ s.firsts_length;
            nexts_length = nl ∙ s.nexts_length;
            starts_length = rw es (length-set starts i q.start ∙ s.starts_length);
            members_linked = members;
            start_is =
                rw es (from_here (λ j. is_block (node_at ws ls j) ≡ true → get_or (set starts i q.start) j 0 ≡ bound_below (table_of ws ls) j) i (node_count ws)
                (λ y. get_or-set_same starts i q.start 0 (omega (arith, s.starts_length, nodes_few ws ls ok)) ∙ v)
                (λ j k l y. get_or-set_other starts i j q.start 0 (λ d. omega arith) ∙ s.start_is j (omega arith) l y));
            start_here = v;
            highest_is = rw ey (highest_with _ (block_highest ws ls i w r e));
          }

    -- the block's entries are among those counted
    pub start_fits : (w : NodeWords) → w ≡ words_at ws i → is_block (node_at ws ls i) ≡ true → (w.b ≤ p.start) × (p.start ≤ limit)
    start_fits w r e = (omega (arith, s.start_here, start_before w r e), omega (arith, s.start_here, start_small))

module _ (ws ls : List ℕ) (firsts nexts starts : List ℕ) where
  pub passed_none : (q : ℕ) → q ≡ bound_count (table_of ws ls) → Cleared (suc limit) firsts nexts → length starts ≡ limit
      → ChainedFrom (table_of ws ls) (node_count ws) firsts nexts starts (record { start = q; highest = 0 })
  unfolding table_of bound_count highest_number
  passed_none q e c l =
      record {
        firsts_length = c.firsts_length;
        nexts_length = c.nexts_length;
        starts_length = l;
        members_linked = chains_start (λ j. is_member (node_at ws ls j)) (enclosing (table_of ws ls)) (node_count ws) firsts nexts c.firsts_clear;
        start_is = λ j k l y. absurd (omega arith);
        start_here = e;
        highest_is = omega arith;
      }

  module _ (i : ℕ) (p : Passed) (z : i ≡ 0) (s : ChainedFrom (table_of ws ls) i firsts nexts starts p) where
    pub members_done : MemberChains (table_of ws ls) firsts nexts
    members_done = chains_end (λ j. is_member ((table_of ws ls).node j)) (enclosing (table_of ws ls)) (table_of ws ls).size i firsts nexts z s.members_linked

    pub starts_done : Starts (table_of ws ls) starts
    starts_done = record { start_is = λ j h y. s.start_is j (omega arith) h y }

    pub highest_done : p.highest ≡ highest_number (table_of ws ls)
    unfolding highest
    highest_done = let s' : ChainedFrom (table_of ws ls) 0 firsts nexts starts p = rw z at s in omega (arith, s'.highest_is)

-- The levels, from below the root, which is no inner block.
module _ (ws ls : List ℕ) (firsts nexts : List ℕ) (i : ℕ) where
  pub levels_none : i + 1 ≡ node_count ws → Cleared limit firsts nexts → LevelsFrom (table_of ws ls) i firsts nexts
  unfolding table_of
  levels_none e c =
      chains_skip (inner (table_of ws ls)) (level (table_of ws ls)) (node_count ws) i firsts nexts (inner_root (table_of ws ls) i (rw add-one at e))
      (subst (λ k. LevelsFrom (table_of ws ls) k firsts nexts) (sym e ∙ add-one i) (chains_start (inner (table_of ws ls)) (level (table_of ws ls)) (node_count ws) firsts nexts c.firsts_clear))

  pub levels_done : i ≡ 0 → LevelsFrom (table_of ws ls) i firsts nexts → LevelChains (table_of ws ls) firsts nexts
  levels_done z s = chains_end (inner (table_of ws ls)) (level (table_of ws ls)) (table_of ws ls).size i firsts nexts z s
