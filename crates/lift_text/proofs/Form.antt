-- The form of an accepted table: the most that it takes, and what a lift leaves of it where there is room for all of the prefix and
-- the variables.
-- Assumes nothing.
use mathlib.Core.Path.{◌≡◌, sym, ◌∙◌, ap}
use mathlib.Core.Bool.{Bool, true, false}
use mathlib.Core.List.{List}
use Prim.Native.Nat.{ℕ, suc, ◌*◌, ◌<◌, ◌≤◌}
use native.Mathlib.Omega.{arith}
use lib.Dec.{eqb, ltb}
use lib.ListN.{length, take}
use borrow.Author.Tests.{ltb-true, ltb-false}
use Rattle.lists.specs.Choice.{pick, Is, is_true, is_false, look}
use Rattle.lists.specs.Parts.{overwrite}
use Rattle.lists.proofs.Overwrite.{start_of, length_overwrite}
use Rattle.formula.specs.Words.{width, table_of}
use Rattle.formula.specs.Form.{prefix_width}
use Rattle.refusals.specs.Verdict.{refusal, accepted}
use Rattle.refusals.specs.Outcome.{Outcome, refused, done}
use Rattle.refusals.specs.declared.Verdict.{Verdict}
use Rattle.refusals.proofs.Outcome.{call_next, call_room, call_short}
use Rattle.acceptance.specs.Verdict.{verdict}
use Rattle.prenex_form.specs.declared.Sizes.{Sizes}
use Rattle.prenex_form.specs.Matrix.{written_nodes}
use Rattle.prenex_form.specs.Prefix.{prefix_blocks, written_prefix, written_variables, block_count}
use Rattle.prenex_form.specs.Levels.{levels}
use Rattle.prenex_form.specs.Sizes.{sizes}
use Rattle.prenex_form.proofs.PrefixNames.{prefix_levels, block_count-le, prefix_length}
use Rattle.prenex_form.proofs.Theorem.{prenex, sizes_written}
use Rattle.prenex.specs.declared.Answer.{Answer}
use Rattle.prenex.specs.Arrays.{Room}
use Rattle.prenex.specs.Outcome.{no_sizes, FormBuffers, buffers, too_short, written, lifted, after}
use Rattle.prenex.proofs.Answers.{room_enough, short_nodes}
use Rattle.prenex.proofs.Measured.{levels_limit, count_limit, bound_few}

pick_most : (t : Bool) (a m : ℕ) → a ≤ m → pick t 0 a ≤ m
unfolding pick
pick_most true a m h = omega arith
pick_most false a m h = h

-- A buffer over whose start a list was written, and a size that is the list's length.
module _ (out out' ws : List ℕ) (n : ℕ) (fits : length ws ≤ length out) (size : length ws ≡ n) (e : out' ≡ overwrite out 0 ws) where
  size_fits : n ≤ length out'
  size_fits =
      let l : length out' ≡ length out = ap length e ∙ length_overwrite out 0 ws (omega (arith, fits)) in
      omega (arith, fits, size, l)

  start_is : take n out' ≡ ws
  start_is = ap (take n) e ∙ start_of out ws n size

module _ (ws ls : List ℕ) (ok : verdict ws ls ≡ accepted) where
  -- The most that a form takes.
  pub nodes_most : length (written_nodes (table_of ws ls)) ≤ 163840
  nodes_most = let p = prenex ws ls ok in omega (arith, p.whole_nodes, p.nodes_limit)

  pub blocks_most : length (prefix_blocks (table_of ws ls)) ≤ 4097
  blocks_most =
      let l = levels_limit ws ls ok in
      rw (prefix_levels (table_of ws ls)) (pick_most (eqb (block_count (table_of ws ls)) 0) (suc (levels (table_of ws ls))) 4097 (omega (arith, l)))

  pub prefix_most : length (written_prefix (table_of ws ls)) ≤ 12291
  prefix_most = omega (arith, prefix_length (table_of ws ls), blocks_most)

  pub variables_most : length (written_variables (table_of ws ls)) ≤ 12288
  unfolding table_of
  variables_most =
      let p = prenex ws ls ok in
      omega (arith, p.variables_bound, bound_few ws ls ok, count_limit ws ls ok, block_count-le (table_of ws ls))

  -- A lift that is done: the form stands at the buffers' starts, as far as the sizes say.
  pub record Lifts (r : Answer) (nodes nodes' prefix' variables' : List ℕ) : Type 0 where
    pub room : length (written_nodes (table_of ws ls)) ≤ length nodes
    pub nodes_over : nodes' ≡ overwrite nodes 0 (written_nodes (table_of ws ls))
    pub sizes_are : r.sizes ≡ sizes (table_of ws ls)
    pub nodes_fit : width * r.sizes.nodes ≤ length nodes'
    pub prefix_fits : prefix_width * r.sizes.blocks ≤ length prefix'
    pub variables_fit : r.sizes.entries ≤ length variables'
    pub nodes_are : take (width * r.sizes.nodes) nodes' ≡ written_nodes (table_of ws ls)
    pub prefix_is : take (prefix_width * r.sizes.blocks) prefix' ≡ written_prefix (table_of ws ls)
    pub variables_are : take r.sizes.entries variables' ≡ written_variables (table_of ws ls)

  -- One that is refused, for want of room for the nodes.
  pub record Short (nodes nodes' : List ℕ) : Type 0 where
    pub no_room : length nodes < length (written_nodes (table_of ws ls))
    pub unchanged : nodes' ≡ nodes

  module _ (nodes prefix variables : List ℕ) (few_blocks : length prefix ≡ 12291) (few_entries : length variables ≡ 12288)
      (r : Answer) (nodes' prefix' variables' : List ℕ)
      (e : after r (buffers nodes' prefix' variables') ≡ lifted ws ls (buffers nodes prefix variables)) where
    abbrev before : FormBuffers
    before = buffers nodes prefix variables

    short_lift : length nodes < length (written_nodes (table_of ws ls))
        → after r (buffers nodes' prefix' variables') ≡ record { answer = refused (refusal 9 0) no_sizes; buffers = before }
    unfolding lifted accepted
    short_lift h =
        e ∙ call_next no_sizes before _ (verdict ws ls) (ap (λ (v : Verdict). v.number) ok)
        ∙ call_short no_sizes before _ (too_short (table_of ws ls) before) (short_nodes (table_of ws ls) before h)

    done_lift : Room ws ls nodes prefix variables
        → after r (buffers nodes' prefix' variables') ≡ record { answer = done (sizes (table_of ws ls)); buffers = written (table_of ws ls) before }
    unfolding lifted accepted
    done_lift room =
        e ∙ call_next no_sizes before _ (verdict ws ls) (ap (λ (v : Verdict). v.number) ok)
        ∙ call_room no_sizes before _ (too_short (table_of ws ls) before) (room_enough ws ls nodes prefix variables room)

    roomy : length (written_nodes (table_of ws ls)) ≤ length nodes → Room ws ls nodes prefix variables
    roomy h = record { nodes_fit = h; prefix_fits = omega (arith, prefix_most, few_blocks); variables_fit = omega (arith, variables_most, few_entries) }

    pub is_short : (r.verdict.number ≡ 0 → ⊥) → Short nodes nodes'
    unfolding done accepted
    is_short n = go (look (ltb (length nodes) (length (written_nodes (table_of ws ls)))))
      where
        go : Is (ltb (length nodes) (length (written_nodes (table_of ws ls)))) → Short nodes nodes'
        go (is_true t) =
            let h = ltb-true _ _ t in
            record { no_room = h; unchanged = ap (λ (o : Outcome Sizes FormBuffers). o.buffers.nodes) (short_lift h) }
        go (is_false t) = absurd (n (ap (λ (o : Outcome Sizes FormBuffers). o.answer.verdict.number) (done_lift (roomy (ltb-false _ _ t)))))

    pub lifts : r.verdict.number ≡ 0 → Lifts r nodes nodes' prefix' variables'
    unfolding written done refused refusal
    lifts z = go (look (ltb (length nodes) (length (written_nodes (table_of ws ls)))))
      where
        go : Is (ltb (length nodes) (length (written_nodes (table_of ws ls)))) → Lifts r nodes nodes' prefix' variables'
        go (is_true t) = absurd (omega (arith, z, ap (λ (o : Outcome Sizes FormBuffers). o.answer.verdict.number) (short_lift (ltb-true _ _ t))))
        go (is_false t) =
            let room = roomy (ltb-false _ _ t) in
            let d = done_lift room in
            let s : r.sizes ≡ sizes (table_of ws ls) = ap (λ (o : Outcome Sizes FormBuffers). o.answer.sizes) d in
            let m = sizes_written (table_of ws ls) in
            let n : length (written_nodes (table_of ws ls)) ≡ width * r.sizes.nodes = m.nodes_measured ∙ ap (λ (y : Sizes). width * y.nodes) (sym s) in
            let b : length (written_prefix (table_of ws ls)) ≡ prefix_width * r.sizes.blocks = m.blocks_measured ∙ ap (λ (y : Sizes). prefix_width * y.blocks) (sym s) in
            let v : length (written_variables (table_of ws ls)) ≡ r.sizes.entries = m.entries_measured ∙ ap (λ (y : Sizes). y.entries) (sym s) in
            let hn = ap (λ (o : Outcome Sizes FormBuffers). o.buffers.nodes) d in
            let hb = ap (λ (o : Outcome Sizes FormBuffers). o.buffers.prefix) d in
            let hv = ap (λ (o : Outcome Sizes FormBuffers). o.buffers.variables) d in
            record {
              room = room.nodes_fit;
              nodes_over = hn;
              sizes_are = s;
              nodes_fit = size_fits nodes nodes' _ _ room.nodes_fit n hn;
              prefix_fits = size_fits prefix prefix' _ _ room.prefix_fits b hb;
              variables_fit = size_fits variables variables' _ _ room.variables_fit v hv;
              nodes_are = start_is nodes nodes' _ _ room.nodes_fit n hn;
              prefix_is = start_is prefix prefix' _ _ room.prefix_fits b hb;
              variables_are = start_is variables variables' _ _ room.variables_fit v hv;
            }
