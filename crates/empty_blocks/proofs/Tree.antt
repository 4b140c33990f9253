-- The table without empty blocks is a tree: operands and bodies are lower, and each node but the last is named exactly once, by a count
-- of how often nodes are named at each new index.
-- Assumes nothing.
use mathlib.Core.Path.{◌≡◌, refl, sym, ◌∙◌, ap}
use mathlib.Core.Bool.{Bool, true, false}
use mathlib.Core.List.{List, [], ◌∷◌, map}
use Prim.Native.Nat.{ℕ, suc, ◌+◌, ◌-◌, ◌≤◌, ◌<◌}
use native.Mathlib.Omega.{arith}
use lib.Dec.{eqb}
use borrow.Author.Tests.{eqb-true, ne_eqb}
use Rattle.lists.specs.Choice.{pick, pick_yes, pick_no, Is, is_true, is_false, look, clash, or_cases}
use Rattle.lists.specs.Members.{mem, times}
use Rattle.lists.specs.Parts.{sum}
use Rattle.lists.proofs.Members.{mem_nil, mem_head, mem_tail, eqb_swap}
use Rattle.lists.proofs.Parts.{sum_cong, sum_add, sum_zero, pick_le, pick_add}
use Rattle.lists.proofs.Sums.{sum_swap, sum_single}
use Rattle.formula.specs.Node.{Table, operands}
use Rattle.formula.specs.Words.{node_count, node_at, table_of}
use Rattle.formula.specs.Tree.{Tree, times_named}
use Rattle.formula.proofs.Users.{last_unnamed}
use Rattle.acceptance.specs.Accepted.{LowerOperands}
use Rattle.empty_blocks.specs.Removal.{stays, left_below, named_for, new_index, without_empty_blocks}
use Rattle.empty_blocks.proofs.Named.{named_stays, named_body, named_left, named_no_higher}
use Rattle.empty_blocks.proofs.Left.{left_order, sum_left, left_count, each_left}
use Rattle.empty_blocks.proofs.Nodes.{moved_operands, left_node, gone_node}

-- Sums of what is counted where a test passes.

pick_apart : (b : Bool) (m : ℕ) → m ≡ pick b m 0 + pick b 0 m
unfolding pick
pick_apart true m = omega arith
pick_apart false m = omega arith

sum_apart : (p : ℕ → Bool) (f : ℕ → ℕ) (n : ℕ) → sum f n ≡ sum (λ i. pick (p i) (f i) 0) n + sum (λ i. pick (p i) 0 (f i)) n
sum_apart p f n =
    sum_cong f (λ i. pick (p i) (f i) 0 + pick (p i) 0 (f i)) n (λ i _. pick_apart (p i) (f i))
    ∙ sum_add (λ i. pick (p i) (f i) 0) (λ i. pick (p i) 0 (f i)) n

sum_pick : (b : Bool) (f : ℕ → ℕ) (n : ℕ) → sum (λ i. pick b (f i) 0) n ≡ pick b (sum f n) 0
unfolding pick
sum_pick true f n = refl
sum_pick false f n = sum_zero (λ i. 0) n (λ i _. refl)

-- k stands among the images of a list as often as what has the image k stands in the list.
module _ (f : ℕ → ℕ) (k : ℕ) where
  times_at : (y a : ℕ) → Is (eqb a y) → ◌≡◌ {A = ℕ} (pick (eqb k (f a)) (pick (eqb a y) 1 0) 0) (pick (eqb a y) (pick (eqb k (f y)) 1 0) 0)
  unfolding pick
  times_at y a (is_true e) = rw (e, eqb-true a y e)
  times_at y a (is_false e) = rw e (omega (arith, pick_le (eqb k (f a)) 0))

  times_one : (y a m : ℕ)
      → pick (eqb k (f a)) (pick (eqb a y) 1 0 + m) 0 ≡ pick (eqb a y) (pick (eqb k (f y)) 1 0) 0 + pick (eqb k (f a)) m 0
  times_one y a m = omega (arith, pick_add (eqb k (f a)) (pick (eqb a y) 1 0) m, times_at y a (look (eqb a y)))

  times_map : (xs : List ℕ) (n : ℕ) → ((x : ℕ) → mem x xs ≡ true → x < n)
      → times k (map f xs) ≡ sum (λ a. pick (eqb k (f a)) (times a xs) 0) n
  unfolding times
  times_map [] n h = sym (sum_zero _ n (λ i _. omega (arith, pick_le (eqb k (f i)) 0)))
  times_map (y ∷ ys) n h =
      sym (sum_cong _ _ n (λ a _. times_one y a (times a ys))
      ∙ sum_add (λ a. pick (eqb a y) (pick (eqb k (f y)) 1 0) 0) (λ a. pick (eqb k (f a)) (times a ys) 0) n
      ∙ omega (arith, sum_single y (pick (eqb k (f y)) 1 0) n (h y (mem_head y ys)), times_map ys n (λ x m. h x (mem_tail x y ys m))))

mem_map_from : (f : ℕ → ℕ) (x : ℕ) (xs : List ℕ) → mem x (map f xs) ≡ true → (y : ℕ) × (mem y xs ≡ true) × (x ≡ f y)
unfolding mem
mem_map_from f x [] m = clash m (mem_nil x)
mem_map_from f x (y ∷ ys) m =
    or_cases (eqb x (f y)) (mem x (map f ys)) m
    (λ e. (y, mem_head y ys, eqb-true x (f y) e))
    (λ n. let r = mem_map_from f x ys n in (r.0, mem_tail r.0 y ys r.1, r.2))

module _ (ws ls : List ℕ) (tree : Tree (table_of ws ls)) (ordered : LowerOperands ws) where
  abbrev n : ℕ
  n = node_count ws

  -- where what is named for a node stands
  abbrev index : ℕ → ℕ
  index = new_index ws

  abbrev operands_at : ℕ → List ℕ
  operands_at i = operands (node_at ws ls i)

  abbrev new : Table
  new = table_of (without_empty_blocks ws) ls

  pub operands_below : (i a : ℕ) → i < n → mem a (operands_at i) ≡ true → a < i
  unfolding table_of
  operands_below i a h m = tree.lower i a h m

  index_below : (a i : ℕ) → i < n → a < i → index a < left_below ws i
  unfolding new_index
  index_below a i h l =
      let m : named_for a ws a ≤ a = named_no_higher ws ordered a (omega arith) in
      left_order ws (named_for a ws a) i (named_left ws ordered a (omega arith)) (omega arith)

  -- the operands of a node that stays, where it stands
  new_operands : (i : ℕ) → i < n → stays ws i ≡ true
      → operands (node_at (without_empty_blocks ws) ls (left_below ws i)) ≡ map index (operands_at i)
  new_operands i h s = ap operands (left_node ws ls i h s) ∙ moved_operands index (node_at ws ls i)

  new_lower : (k a : ℕ) → k < new.size → mem a (operands (new.node k)) ≡ true → a < k
  unfolding table_of
  new_lower k a h =
      each_left ws (λ j. mem a (operands (node_at (without_empty_blocks ws) ls j)) ≡ true → a < j)
      (λ i l s m.
      let r = mem_map_from index a (operands_at i) (rw (new_operands i l s) at m) in
      let e : a ≡ index r.0 = r.2 in
      rw e (index_below r.0 i l (operands_below i r.0 l r.1)))
      k h

  root_unnamed : (l : ℕ) → n ≡ suc l → times_named (table_of ws ls) l ≡ 0
  unfolding table_of
  root_unnamed l e = last_unnamed (table_of ws ls) operands_below l (omega arith)

  others_named : (a : ℕ) → suc a < n → times_named (table_of ws ls) a ≡ 1
  unfolding table_of
  others_named a h = tree.once a h

  -- How often the nodes that stay name index k, counted over all nodes.
  module _ (k : ℕ) where
    -- 1 where node i is at index k
    abbrev hit : ℕ → ℕ
    hit i = pick (eqb k (index i)) 1 0

    -- how many operands of node i are
    abbrev hits : ℕ → ℕ
    hits i = times k (map index (operands_at i))

    named_new : times_named new k ≡ sum (λ i. pick (stays ws i) (hits i) 0) n
    unfolding times_named table_of
    named_new =
        ap (sum (λ j. times k (operands (node_at (without_empty_blocks ws) ls j)))) (left_count ws)
        ∙ sum_left ws _ hits n (λ i h s. ap (times k) (new_operands i h s))

    named_old : sum hits n ≡ sum (λ a. pick (eqb k (index a)) (times_named (table_of ws ls) a) 0) n
    unfolding times_named table_of
    named_old =
        sum_cong _ _ n (λ i h. times_map index k (operands_at i) n (λ x m. let l : x < i = operands_below i x h m in omega arith))
        ∙ sum_swap (λ i a. pick (eqb k (index a)) (times a (operands_at i)) 0) n n
        ∙ sum_cong _ _ n (λ a _. sum_pick (eqb k (index a)) (λ i. times a (operands_at i)) n)

    -- an empty block is at the index of its body, which alone it names
    hits_gone : (i : ℕ) → i < n → stays ws i ≡ false → hits i ≡ hit i
    unfolding operands times
    hits_gone i h s = rw (gone_node ws ls i s, named_body ws ordered i h s) (omega arith)

    hit_gone : (i : ℕ) → i < n → Is (stays ws i) → pick (stays ws i) 0 (hits i) ≡ pick (stays ws i) 0 (hit i)
    hit_gone i h (is_true s) = pick_yes _ _ _ s ∙ sym (pick_yes _ _ _ s)
    hit_gone i h (is_false s) = ap (pick (stays ws i) 0) (hits_gone i h s)

    -- one node that stays is at index k
    hit_left : k < left_below ws n → sum (λ i. pick (stays ws i) (hit i) 0) n ≡ 1
    hit_left h =
        sym (sum_left ws (λ j. pick (eqb j k) 1 0) hit n (λ i _ s.
        ap (λ (b : Bool). pick {A = ℕ} b 1 0) (eqb_swap (left_below ws i) k ∙ ap (eqb k) (sym (named_stays ws i s)))))
        ∙ sum_single k 1 (left_below ws n) h

    -- each node but the last is named once
    hit_named : (l : ℕ) → n ≡ suc l → sum (λ a. pick (eqb k (index a)) (times_named (table_of ws ls) a) 0) n + hit l ≡ sum hit n
    unfolding sum
    hit_named l e =
        let one : sum (λ a. pick (eqb k (index a)) (times_named (table_of ws ls) a) 0) l ≡ sum hit l =
        sum_cong _ _ l (λ a h. ap (λ m. pick (eqb k (index a)) m 0) (others_named a (omega arith))) in
        let last : pick (eqb k (index l)) (times_named (table_of ws ls) l) 0 ≤ 0 = rw (root_unnamed l e) (pick_le (eqb k (index l)) 0) in
        rw e (omega arith)

    -- so index k is named once by the nodes that stay, or is the root's
    named_or_root : (l : ℕ) → n ≡ suc l → k < left_below ws n → times_named new k + hit l ≡ 1
    named_or_root l e h =
        let gone : sum (λ i. pick (stays ws i) 0 (hits i)) n ≡ sum (λ i. pick (stays ws i) 0 (hit i)) n =
        sum_cong _ _ n (λ i h. hit_gone i h (look (stays ws i))) in
        omega (arith, named_new, named_old, sum_apart (stays ws) hits n, sum_apart (stays ws) hit n, hit_left h, hit_named l e)

  -- The root is at the last index, since nothing names this one.

  some_node_lem : 0 < n
  unfolding table_of
  some_node_lem = tree.nonempty

  some_left : 0 < left_below ws n
  some_left =
      let some : 0 < n = some_node_lem in
      let m : named_for (n - 1) ws (n - 1) ≤ n - 1 = named_no_higher ws ordered (n - 1) (omega arith) in
      omega (arith, left_order ws (named_for (n - 1) ws (n - 1)) n (named_left ws ordered (n - 1) (omega arith)) (omega arith))

  pub root_last : index (n - 1) ≡ left_below ws n - 1
  unfolding table_of
  root_last =
      let some : 0 < n = some_node_lem in
      let left : 0 < left_below ws n = some_left in
      let k : ℕ = left_below ws n - 1 in
      let none : times_named new k ≡ 0 = last_unnamed new new_lower k (omega (arith, left_count ws)) in
      let one : times_named new k + hit k (n - 1) ≡ 1 = named_or_root k (n - 1) (omega arith) (omega arith) in
      go k (omega arith) (look (eqb k (index (n - 1))))
    where
      go : (k : ℕ) → hit k (n - 1) ≡ 1 → Is (eqb k (index (n - 1))) → index (n - 1) ≡ k
      go k h (is_true e) = sym (eqb-true k (index (n - 1)) e)
      go k h (is_false e) = absurd (omega (arith, h, pick_no {A = ℕ} (eqb k (index (n - 1))) 1 0 e))

  new_once : (k : ℕ) → suc k < left_below ws n → times_named new k ≡ 1
  new_once k h =
      let some : 0 < n = some_node_lem in
      let other : k ≡ index (n - 1) → ⊥ = λ e. omega (arith, root_last) in
      omega (arith, named_or_root k (n - 1) (omega arith) (omega arith), pick_no {A = ℕ} _ 1 0 (ne_eqb k (index (n - 1)) other))

  pub new_tree : Tree new
  unfolding table_of
  new_tree =
      record {
        nonempty = omega (arith, some_left, left_count ws);
        lower = new_lower;
        once = λ k h. new_once k (rw (left_count ws) at h);
      }
