-- What the functions leave, at each of their returns, is what comes of the table.
-- Assumes nothing.
use mathlib.Core.Path.{◌≡◌, sym, ◌∙◌, ap, ap₂}
use mathlib.Core.Bool.{Bool, true, false, ◌||◌}
use mathlib.Core.List.{List, [], ◌++◌, append_assoc}
use Prim.Native.Nat.{ℕ, ◌+◌, ◌-◌, ◌*◌, ◌/◌, ◌≤◌, ◌<◌}
use native.Mathlib.Omega.{arith}
use lib.Dec.{ltb}
use lib.ListN.{length, get_or, take, drop, get_or-append, length-append, length-drop, length-take}
use lib.Seq.{drop_at}
use borrow.Author.Tests.{ltb-true, ltb-false, lt-ltb}
use Rattle.lists.specs.Choice.{Is, is_true, is_false, look, absent, same_test, or_neither_left, or_neither_right}
use Rattle.lists.specs.Parts.{sum, overwrite}
use Rattle.lists.proofs.Parts.{sum_grows}
use Rattle.lists.proofs.Overwrite.{overwrite_nil, length_overwrite, drop_overwrite, lent_tail}
use Rattle.formula.specs.Node.{Table}
use Rattle.formula.specs.Words.{width, table_of}
use Rattle.formula.specs.Form.{prefix_width, prefix_words}
use Rattle.formula.proofs.Prefix.{length-prefix_words}
use Rattle.refusals.specs.Verdict.{refusal, accepted}
use Rattle.refusals.specs.Outcome.{Outcome, refused, done}
use Rattle.refusals.proofs.Outcome.{call_next, call_room, call_short}
use Rattle.acceptance.specs.Verdict.{verdict}
use Rattle.acceptance.proofs.Accepted.{accepted_holds}
use Rattle.prenex_form.specs.declared.Sizes.{Sizes}
use Rattle.prenex_form.specs.Matrix.{written_nodes}
use Rattle.prenex_form.specs.Prefix.{prefix_blocks, written_prefix, written_variables}
use Rattle.prenex_form.specs.Sizes.{sizes}
use Rattle.prenex_form.proofs.PrefixNames.{prefix_length as prefix_length_of, block_count-le}
use Rattle.prenex_form.proofs.PrefixShape.{prefix_count_lem, prefix_follow, prefix_fill}
use Rattle.prenex_form.specs.Scope.{depth}
use Rattle.prenex_form.proofs.Paths.{depth_levels}
use Rattle.prenex.proofs.Measured.{root_le, levels_limit, count_limit, bound_few}
use Rattle.kept_prefix.proofs.Theorem.{kept_prenex}
use Rattle.prenex.specs.declared.Answer.{Answer}
use Rattle.prenex.specs.Outcome.{no_sizes, answer_of, FormBuffers, buffers, written_form, lifted, after}
use Rattle.lift_kept.specs.FormOutcome.{too_short_for, with_form, form_outcome}
use Rattle.lift_kept.proofs.Outcomes.{zero_number, form_short, form_done, short_prefix, short_variables, lifted_outcome}
use Rattle.kept_prefix.specs.Leading.{leading_count, words_below, below}
use Rattle.kept_prefix.specs.Kept.{kept_nodes, kept_prefix, kept_variables, kept_sizes}
use Rattle.leading_blocks.specs.declared.Front.{Front}
use Rattle.leading_blocks.specs.Front.{FrontTo}
use Rattle.front_writer.specs.Written.{front_words, front_names, moved, Movable}
use Rattle.front_writer.proofs.Laws.{moved_words}
use Rattle.lift_kept.specs.Outcome.{kept_form, lifted_kept}
use Rattle.lift_kept.specs.Steps.{FrontRoom, PrefixPut, with_front}
use Rattle.lift_kept.proofs.Form.{prefix_parts, variables_parts, front_at, front_words_lem, front_names_lem, sizes_parts, below_accepted, words_lent}
use Rattle.lift_kept.proofs.Put.{tail_whole}

-- A list put behind so many words.
tail_of : (out b : List ℕ) (n : ℕ) → n + length b ≤ length out → drop n (overwrite out n b) ≡ b ++ drop (n + length b) out
unfolding overwrite
tail_of out b n h = drop_at (take n out) _ n (omega (arith, length-take n out))

-- One list put before another.
put_before : (out a b : List ℕ) → length a + length b ≤ length out → overwrite (overwrite out (length a) b) 0 a ≡ overwrite out 0 (a ++ b)
unfolding overwrite
put_before out a b h =
    let z : 0 + length a ≡ length a = omega arith in
    let l : length a + length b ≡ 0 + length (a ++ b) = omega (arith, length-append a b) in
    ap (λ (n : ℕ). a ++ drop n (overwrite out (length a) b)) z
    ∙ (ap (λ (ys : List ℕ). a ++ ys) (tail_of out b (length a) h)
    ∙ (sym (append_assoc a b (drop (length a + length b) out)) ∙ ap (λ (n : ℕ). (a ++ b) ++ drop n out) l))

-- Room for a part behind others.
short_tail : (l at n m : ℕ) → at ≤ l → m ≡ at + n → ltb l m ≡ ltb (l - at) n
short_tail l at n m h e =
    same_test (ltb l m) (ltb (l - at) n)
    (λ t. lt-ltb (l - at) n (let a : l < m = ltb-true l m t in omega (arith, a, h, e)))
    (λ t. lt-ltb l m (let a : l - at < n = ltb-true (l - at) n t in omega (arith, a, h, e)))

-- Where the range of a prefix block begins.
first_low : (b : Table) (j : ℕ) → j < length (prefix_blocks b) → get_or (written_prefix b) (3 * j + 1) 0 ≤ length (written_variables b)
first_low b j h =
    let c : ℕ → ℕ = λ i. get_or (written_prefix b) (3 * i + 2) 0 in
    let l : j < length (written_prefix b) / 3 = rw (prefix_count_lem b) h in
    let grows : sum c j ≤ sum c (length (written_prefix b) / 3) = sum_grows c j (length (written_prefix b) / 3) (omega arith) in
    omega (arith, prefix_follow b j l, grows, prefix_fill b)

-- The sizes answered, given first and then handed on.
pub answered : (r : Answer) (s s' : Sizes) → s ≡ s' → answer_of r ≡ done s → answer_of r ≡ done s'
answered r s s' e a = a ∙ ap done e

-- An accepted table is not deep.
depth_few : (ws ls : List ℕ) → verdict ws ls ≡ accepted → depth (table_of ws ls) ≤ 4097
depth_few ws ls ok =
    omega (arith, depth_levels (table_of ws ls) (accepted_holds ws ls ok).proper.tree, levels_limit ws ls ok, root_le (table_of ws ls))

-- Buffers that are not too short.
pub has_room : (form before : FormBuffers) → too_short_for form before ≡ false
    → (length form.nodes ≤ length before.nodes) × (length form.prefix ≤ length before.prefix) × (length form.variables ≤ length before.variables)
unfolding too_short_for
has_room form before h =
    let n = ltb (length before.nodes) (length form.nodes) in
    let p = ltb (length before.prefix) (length form.prefix) in
    let v = ltb (length before.variables) (length form.variables) in
    let b = or_neither_left (n || p) v h in
    (ltb-false _ _ (or_neither_left n p b), ltb-false _ _ (or_neither_right n p b), ltb-false _ _ (or_neither_right (n || p) v h))

-- A lent tail that was not changed.
unchanged : (out part : List ℕ) (at : ℕ) → at ≤ length out → part ≡ drop at out → take at out ++ (part ++ drop (length out - at) (drop at out)) ≡ out
unchanged out part at h e = lent_tail out part at [] h (e ∙ sym (overwrite_nil (drop at out) 0)) ∙ overwrite_nil out at

module _ (ws ls : List ℕ) (ok : verdict ws ls ≡ accepted) (front : Front) (f : FrontTo (table_of ws ls) (leading_count (table_of ws ls)) front) where
  abbrev t : Table
  t = table_of ws ls

  abbrev k : ℕ
  k = leading_count t

  abbrev at : ℕ
  at = prefix_width * front.blocks

  abbrev names : ℕ
  names = front.names

  abbrev lift : FormBuffers
  lift = written_form (below ws ls)

  -- the words lent
  pub words_few : width * front.taken ≤ length ws
  words_few = omega (arith, (front_at ws ls ok front f).0, (accepted_holds ws ls ok).whole)

  pub taken_few : front.taken ≤ 4096
  taken_few = omega (arith, (front_at ws ls ok front f).0, count_limit ws ls ok)

  pub lent_accepted : verdict (take (length ws - width * front.taken) ws) ls ≡ accepted
  lent_accepted =
      ap (λ (n : ℕ). verdict (take (length ws - width * n) ws) ls) f.taken_is
      ∙ (ap (λ (us : List ℕ). verdict us ls) (words_lent ws ls ok) ∙ below_accepted ws ls ok)

  prefix_length : length (kept_prefix ws ls) ≡ at + length (written_prefix (below ws ls))
  unfolding written_prefix
  prefix_length =
      let bs = prefix_blocks (below ws ls) in
      omega (
        arith,
        ap length (prefix_parts ws ls ok),
        length-append (front_words t k) (prefix_words (length (front_names t k)) bs),
        front_words_lem ws ls ok front f,
        length-prefix_words (length (front_names t k)) bs,
        length-prefix_words 0 bs,
      )

  variables_length : length (kept_variables ws ls) ≡ names + length (written_variables (below ws ls))
  variables_length =
      omega (
        arith,
        ap length (variables_parts ws ls ok),
        length-append (front_names t k) (written_variables (below ws ls)),
        front_names_lem ws ls ok front f,
      )

  -- there are few names
  names_few : length (kept_variables ws ls) ≤ 12288
  unfolding table_of
  names_few =
      omega (arith, (kept_prenex ws ls ok).form.variables_bound, bound_few ws ls ok, count_limit ws ls ok, block_count-le t)

  pub blocks_low : at ≤ 12294
  blocks_low =
      let p = (kept_prenex ws ls ok).form in
      omega (arith, p.blocks_bound, p.whole_blocks, prefix_length, depth_few ws ls ok)

  -- there is no room for the front
  pub front_short : (nodes prefix variables : List ℕ) → length prefix < at → (r : Answer) → answer_of r ≡ refused (refusal 9 0) no_sizes
      → after r (buffers nodes prefix variables) ≡ lifted_kept ws ls (buffers nodes prefix variables)
  unfolding lifted_kept
  front_short nodes prefix variables h r e =
      form_short _ _ _ (verdict ws ls) (zero_number ws ls ok) (short_prefix (kept_form ws ls) (buffers nodes prefix variables) (omega (arith, h, prefix_length))) r e

  pub names_short : (nodes prefix variables : List ℕ) → length variables < names → (r : Answer) → answer_of r ≡ refused (refusal 9 0) no_sizes
      → after r (buffers nodes prefix variables) ≡ lifted_kept ws ls (buffers nodes prefix variables)
  unfolding lifted_kept
  names_short nodes prefix variables h r e =
      form_short _ _ _ (verdict ws ls) (zero_number ws ls ok) (short_variables (kept_form ws ls) (buffers nodes prefix variables) (omega (arith, h, variables_length))) r e

  module _ (nodes prefix variables : List ℕ) (room : FrontRoom front prefix variables) where
    abbrev before : FormBuffers
    before = buffers nodes prefix variables

    -- what is lent to the lift
    abbrev tails : FormBuffers
    tails = buffers nodes (drop at prefix) (drop names variables)

    same_room : too_short_for (kept_form ws ls) before ≡ too_short_for lift tails
    unfolding too_short_for kept_nodes
    same_room =
        let p : ltb (length prefix) (length (kept_prefix ws ls)) ≡ ltb (length (drop at prefix)) (length (written_prefix (below ws ls))) =
        short_tail (length prefix) at _ _ room.blocks_fit prefix_length ∙ ap (λ (n : ℕ). ltb n (length (written_prefix (below ws ls)))) (sym (length-drop at prefix)) in
        let v : ltb (length variables) (length (kept_variables ws ls)) ≡ ltb (length (drop names variables)) (length (written_variables (below ws ls))) =
        short_tail (length variables) names _ _ room.names_fit variables_length ∙ ap (λ (n : ℕ). ltb n (length (written_variables (below ws ls)))) (sym (length-drop names variables)) in
        ap₂ (λ (x y : Bool). ltb (length nodes) (length (written_nodes (below ws ls))) || x || y) p v

    -- the lift, as it is called
    pub lent_call : (held : Outcome Sizes FormBuffers)
        → held ≡ lifted (take (length ws - width * front.taken) ws) ls
        (buffers nodes (take (length prefix - at) (drop at prefix)) (take (length variables - names) (drop names variables)))
        → held ≡ lifted (words_below k ws) ls tails
    lent_call held h =
        let w : take (length ws - width * front.taken) ws ≡ words_below k ws =
        ap (λ (n : ℕ). take (length ws - width * n) ws) f.taken_is ∙ words_lent ws ls ok in
        h ∙ (λ i. lifted (w i) ls (buffers nodes (tail_whole prefix at i) (tail_whole variables names i)))

    module _ (r : Answer) (nodes' prefix' variables' : List ℕ)
        (e : after r (buffers nodes' prefix' variables') ≡ lifted (words_below k ws) ls tails) where
      outcome : after r (buffers nodes' prefix' variables') ≡ form_outcome (verdict (words_below k ws) ls) lift (sizes (below ws ls)) tails
      unfolding below
      outcome = e ∙ lifted_outcome (words_below k ws) ls tails

      is_short : too_short_for lift tails ≡ true → after r (buffers nodes' prefix' variables') ≡ record { answer = refused (refusal 9 0) no_sizes; buffers = tails }
      unfolding form_outcome
      is_short s =
          outcome ∙ call_next no_sizes tails _ (verdict (words_below k ws) ls) (zero_number (words_below k ws) ls (below_accepted ws ls ok))
          ∙ call_short no_sizes tails _ (too_short_for lift tails) s

      is_done_lem : too_short_for lift tails ≡ false
          → after r (buffers nodes' prefix' variables') ≡ record { answer = done (sizes (below ws ls)); buffers = with_form lift tails }
      unfolding form_outcome
      is_done_lem s =
          outcome ∙ call_next no_sizes tails _ (verdict (words_below k ws) ls) (zero_number (words_below k ws) ls (below_accepted ws ls ok))
          ∙ call_room no_sizes tails _ (too_short_for lift tails) s

      -- the lift had no room
      pub below_short : (r.verdict.number ≡ 0 → ⊥)
          → after r (buffers nodes' (take at prefix ++ (prefix' ++ drop (length prefix - at) (drop at prefix))) (take names variables ++ (variables' ++ drop (length variables - names) (drop names variables))))
          ≡ lifted_kept ws ls before
      unfolding lifted_kept done accepted
      below_short n = go (look (too_short_for lift tails))
        where
          go : Is (too_short_for lift tails)
              → after r (buffers nodes' (take at prefix ++ (prefix' ++ drop (length prefix - at) (drop at prefix))) (take names variables ++ (variables' ++ drop (length variables - names) (drop names variables))))
              ≡ form_outcome (verdict ws ls) (kept_form ws ls) (kept_sizes ws ls) before
          go (is_true s) =
              let d = is_short s in
              let p = unchanged prefix prefix' at room.blocks_fit (ap (λ (o : Outcome Sizes FormBuffers). o.buffers.prefix) d) in
              let v = unchanged variables variables' names room.names_fit (ap (λ (o : Outcome Sizes FormBuffers). o.buffers.variables) d) in
              (λ i. after r (buffers (d i).buffers.nodes (p i) (v i)))
              ∙ form_short _ _ before (verdict ws ls) (zero_number ws ls ok) (same_room ∙ s) r (ap (λ (o : Outcome Sizes FormBuffers). o.answer) d)
          go (is_false s) = absurd (n (ap (λ (o : Outcome Sizes FormBuffers). o.answer.verdict.number) (is_done_lem s)))

      -- it is done
      module _ (z : r.verdict.number ≡ 0) where
        enough : too_short_for lift tails ≡ false
        unfolding refused refusal
        enough = absent (too_short_for lift tails) (λ s. omega (arith, z, ap (λ (o : Outcome Sizes FormBuffers). o.answer.verdict.number) (is_short s)))

        is : after r (buffers nodes' prefix' variables') ≡ record { answer = done (sizes (below ws ls)); buffers = with_form lift tails }
        is = is_done_lem enough

        sizes_are : r.sizes ≡ sizes (below ws ls)
        unfolding done
        sizes_are = ap (λ (o : Outcome Sizes FormBuffers). o.answer.sizes) is

        blocks_are : r.sizes.blocks ≡ length (prefix_blocks (below ws ls))
        unfolding sizes
        blocks_are = ap (λ (s : Sizes). s.blocks) sizes_are

        kept_sizes_lem : with_front r.sizes front ≡ kept_sizes ws ls
        kept_sizes_lem = ap (λ (s : Sizes). with_front s front) sizes_are ∙ sizes_parts ws ls ok front f

        nodes_are : nodes' ≡ overwrite nodes 0 (kept_nodes ws ls)
        unfolding with_form kept_nodes
        nodes_are = ap (λ (o : Outcome Sizes FormBuffers). o.buffers.nodes) is

        -- there is room
        fits : (length (kept_nodes ws ls) ≤ length nodes) × (length (kept_prefix ws ls) ≤ length prefix) × (length (kept_variables ws ls) ≤ length variables)
        fits = has_room (kept_form ws ls) before (same_room ∙ enough)

        -- the prefix and the variables, as the lift left them
        abbrev prefix₁ : List ℕ
        prefix₁ = take at prefix ++ (prefix' ++ drop (length prefix - at) (drop at prefix))

        abbrev variables₁ : List ℕ
        variables₁ = take names variables ++ (variables' ++ drop (length variables - names) (drop names variables))

        prefix_behind : prefix₁ ≡ overwrite prefix at (written_prefix (below ws ls))
        unfolding with_form
        prefix_behind = lent_tail prefix prefix' at _ room.blocks_fit (ap (λ (o : Outcome Sizes FormBuffers). o.buffers.prefix) is)

        variables_behind : variables₁ ≡ overwrite variables names (written_variables (below ws ls))
        unfolding with_form
        variables_behind = lent_tail variables variables' names _ room.names_fit (ap (λ (o : Outcome Sizes FormBuffers). o.buffers.variables) is)

        pub prefix_kept : length prefix₁ ≡ length prefix
        prefix_kept = ap length prefix_behind ∙ length_overwrite prefix at _ (omega (arith, fits.1, prefix_length))

        pub variables_kept : length variables₁ ≡ length variables
        variables_kept = ap length variables_behind ∙ length_overwrite variables names _ (omega (arith, fits.2, variables_length))

        -- the front has the room that it had
        pub room_left : FrontRoom front prefix₁ variables₁
        room_left =
            record {
              blocks_fit = omega (arith, prefix_kept, room.blocks_fit);
              names_fit = omega (arith, variables_kept, room.names_fit);
            }

        tail_left : drop at prefix₁ ≡ written_prefix (below ws ls) ++ drop (at + length (written_prefix (below ws ls))) prefix
        tail_left = ap (drop at) prefix_behind ∙ tail_of prefix (written_prefix (below ws ls)) at (omega (arith, fits.1, prefix_length))

        -- the lifted blocks can be moved
        pub can_move : Movable r.sizes.blocks names (drop at prefix₁)
        can_move =
            let b = below ws ls in
            let wp = written_prefix b in
            let l : length wp ≡ 3 * length (prefix_blocks b) = prefix_length_of b in
            record {
              blocks_there = omega (arith, ap length tail_left, length-append wp (drop (at + length wp) prefix), l, blocks_are);
              firsts_fit = λ j h.
                  let i : j < length (prefix_blocks b) = omega (arith, h, blocks_are) in
                  let inside : 3 * j + 1 < length wp = omega (arith, i, l) in
                  let e : get_or (drop at prefix₁) (3 * j + 1) 0 ≡ get_or wp (3 * j + 1) 0 =
                  ap (λ (ps : List ℕ). get_or ps (3 * j + 1) 0) tail_left ∙ get_or-append wp (drop (at + length wp) prefix) 0 (3 * j + 1) inside in
                  omega (arith, e, first_low b j i, names_few, variables_length);
            }

        -- moved, they are those of the form
        moved_are : moved r.sizes.blocks names (drop at prefix₁) ≡ prefix_words (length (front_names t k)) (prefix_blocks (below ws ls))
        unfolding written_prefix
        moved_are =
            let z : 0 + names ≡ length (front_names t k) = omega (arith, front_names_lem ws ls ok front f) in
            ap₂ (λ (m : ℕ) (ps : List ℕ). moved m names ps) blocks_are tail_left
            ∙ (moved_words 0 names (prefix_blocks (below ws ls)) _ ∙ ap (λ (n : ℕ). prefix_words n (prefix_blocks (below ws ls))) z)

        module _ (prefix₂ variables₂ : List ℕ) (put : PrefixPut t front r.sizes.blocks prefix₁ variables₁ prefix₂ variables₂) where
          prefix_is : prefix₂ ≡ overwrite prefix 0 (kept_prefix ws ls)
          unfolding overwrite
          prefix_is =
              let e : front_words t k ++ moved r.sizes.blocks names (drop at prefix₁) ≡ kept_prefix ws ls =
              ap (λ (ps : List ℕ). front_words t k ++ ps) moved_are ∙ sym (prefix_parts ws ls ok) in
              let d : drop (0 + length (kept_prefix ws ls)) prefix₁ ≡ drop (0 + length (kept_prefix ws ls)) prefix =
              ap (drop (0 + length (kept_prefix ws ls))) prefix_behind
              ∙ drop_overwrite prefix at (written_prefix (below ws ls)) (omega (arith, fits.1, prefix_length)) (0 + length (kept_prefix ws ls)) (omega (arith, prefix_length)) in
              put.prefix_is ∙ (ap (overwrite prefix₁ 0) e ∙ ap (λ (ps : List ℕ). kept_prefix ws ls ++ ps) d)

          variables_are : variables₂ ≡ overwrite variables 0 (kept_variables ws ls)
          variables_are =
              let n = front_names_lem ws ls ok front f in
              put.variables_are
              ∙ (ap (λ (xs : List ℕ). overwrite xs 0 (front_names t k)) (variables_behind ∙ ap (λ (m : ℕ). overwrite variables m (written_variables (below ws ls))) (sym n))
              ∙ (put_before variables (front_names t k) (written_variables (below ws ls)) (omega (arith, fits.2, variables_length, n))
              ∙ ap (overwrite variables 0) (sym (variables_parts ws ls ok))))

          pub below_done : (q : Answer) → answer_of q ≡ done (with_front r.sizes front) → after q (buffers nodes' prefix₂ variables₂) ≡ lifted_kept ws ls before
          unfolding lifted_kept with_form
          below_done q a =
              form_done _ _ before (verdict ws ls) (zero_number ws ls ok) (same_room ∙ enough) q
              (a ∙ ap done kept_sizes_lem) _
              (λ i. buffers (nodes_are i) (prefix_is i) (variables_are i))

        -- the sizes fit
        pub nodes_fit : (r.sizes.n + front.taken ≤ 4096) × (r.sizes.b + front.taken ≤ 4096)
        unfolding with_front kept_sizes table_of
        nodes_fit =
            let e = kept_sizes_lem in
            let n = ap (λ (s : Sizes). s.n) e in
            let b = ap (λ (s : Sizes). s.b) e in
            (omega (arith, n, count_limit ws ls ok), omega (arith, b, block_count-le t, count_limit ws ls ok))

        pub bound_fits : (r.sizes.q + front.bound ≤ 4096) × (r.sizes.depth + front.taken ≤ 4098)
        unfolding with_front kept_sizes
        bound_fits =
            let e = kept_sizes_lem in
            let q = ap (λ (s : Sizes). s.q) e in
            let d = ap (λ (s : Sizes). s.depth) e in
            (omega (arith, q, bound_few ws ls ok), omega (arith, d, depth_few ws ls ok))

        pub blocks_fit : (r.sizes.blocks + front.blocks ≤ 65536) × (r.sizes.entries + front.names ≤ 65536)
        unfolding with_front kept_sizes
        blocks_fit =
            let e = kept_sizes_lem in
            let p = kept_prenex ws ls ok in
            let b = ap (λ (s : Sizes). s.blocks) e in
            let x = ap (λ (s : Sizes). s.entries) e in
            let m : length (kept_prefix ws ls) ≡ 3 * (kept_sizes ws ls).blocks = p.sizes_are.blocks_measured in
            (omega (arith, b, m, p.form.blocks_bound, depth_few ws ls ok), omega (arith, x, p.sizes_are.entries_measured, names_few))
