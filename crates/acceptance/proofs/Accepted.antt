-- The verdict accepts a table exactly where `Accepted` holds of it.
-- Assumes nothing.
use mathlib.Core.Path.{◌≡◌, refl, sym, ◌∙◌, ap}
use mathlib.Core.Bool.{Bool, true, false, not, ◌&&◌, ◌||◌, true≢false, or-false}
use mathlib.Core.List.{List}
use Prim.Native.Nat.{ℕ, zero, suc, ◌+◌, ◌*◌, ◌%◌, ◌<◌, ◌≤◌}
use native.Mathlib.Omega.{arith}
use lib.Dec.{eqb, leb, ltb}
use lib.ListN.{length, length-take, length-drop}
use borrow.Author.Tests.{eqb-true, eqb-false, eq-eqb, ne_eqb, ltb-false, le-ltb, leb-true, leb-false, lt-leb, not-true, not-false}
use Rattle.lists.specs.Choice.{pick, pick_yes, pick_no, Is, is_true, is_false, look, clash, and_left, and_right, and_both, or_neither_left, or_neither_right, or_neither}
use Rattle.lists.specs.Members.{mem, all, distinct}
use Rattle.lists.specs.Parts.{sum}
use Rattle.lists.proofs.Members.{all_mem, all_intro}
use Rattle.lists.proofs.Parts.{sum_cong, sum_grows}
use Rattle.formula.specs.Node.{operands, is_block, bound}
use Rattle.formula.specs.Words.{width, node_count, field, is_block_kind, is_empty_block, range, words_at, node_of, node_at, table_of}
use Rattle.formula.specs.declared.NodeWords.{NodeWords}
use Rattle.formula.specs.Tree.{times_named, count, bound_below}
use Rattle.formula.proofs.Nodes.{Kind, kind_of_lem, kind_constant, kind_variable, kind_negation, kind_operator, kind_exists, kind_for_all, kind_none, is_block_lem}
use Rattle.refusals.specs.Verdict.{refusal, not_a_tree, accepted}
use Rattle.refusals.specs.declared.Verdict.{Verdict}
use Rattle.acceptance.specs.Limits.{TableLimits, table_limits}
use Rattle.acceptance.specs.Verdict.{is_number_to, partial_node, too_large, well_formed, forward_reference, range_past_end, empty_block, count_at, too_many_variables, bad_variable, node_fault, not_named_once, tree_refusal, verdict_within, verdict}
use Rattle.acceptance.specs.Order.{Whole, FirstThatApplies, partial, large, fault, not_tree, none}
use Rattle.acceptance.specs.Accepted.{AcceptedWithin, LowerOperands, Accepted}
use Rattle.acceptance.proofs.Order.{verdict_order}

-- How many variables a node binds, by its kind.
pub count_block : (ws : List ℕ) (i : ℕ) → is_block_kind (field ws i 0) ≡ true → count_at ws i ≡ field ws i 2
unfolding count_at
count_block ws i k = pick_yes _ _ _ k

pub count_none : (ws : List ℕ) (i : ℕ) → is_block_kind (field ws i 0) ≡ false → count_at ws i ≡ 0
unfolding count_at
count_none ws i k = pick_no _ _ _ k

-- The tests of a node's words, said of the node that they make.

one_forward : (t : Bool) → ((t || false) || false) ≡ not (not t && true)
one_forward true = refl
one_forward false = refl

two_forward : (s t : Bool) → ((s || t) || false) ≡ not (not s && (not t && true))
two_forward true t = refl
two_forward false true = refl
two_forward false false = refl

body_forward : (t : Bool) → t ≡ not (not t && true)
body_forward true = refl
body_forward false = refl

forward_at : (ls : List ℕ) (i : ℕ) (w : NodeWords) → Kind w.kind → forward_reference i w ≡ not (all (λ x. not (leb i x)) (operands (node_of ls w)))
unfolding forward_reference is_block_kind node_of pick operands all
forward_at ls i w (kind_constant e) = rw e
forward_at ls i w (kind_variable e) = rw e
forward_at ls i w (kind_negation e) = rw e (one_forward (leb i w.a))
forward_at ls i w (kind_operator e) = rw e (two_forward (leb i w.b) (leb i w.c))
forward_at ls i w (kind_exists e) = rw e (body_forward (leb i w.c))
forward_at ls i w (kind_for_all e) = rw e (body_forward (leb i w.c))
forward_at ls i w (kind_none e1 e2 e3 e4 e5 e6) = rw (e1, e2, e3, e4, e5, e6)

bad_at : (lim : TableLimits) (ls : List ℕ) (w : NodeWords) → Kind w.kind
    → bad_variable lim ls w ≡ not (all (is_number_to lim.highest) (bound (node_of ls w)) && distinct (bound (node_of ls w)))
unfolding bad_variable is_block_kind node_of pick bound all distinct
bad_at lim ls w (kind_constant e) = rw e
bad_at lim ls w (kind_variable e) = rw e
bad_at lim ls w (kind_negation e) = rw e
bad_at lim ls w (kind_operator e) = rw e
bad_at lim ls w (kind_exists e) = rw e
bad_at lim ls w (kind_for_all e) = rw e
bad_at lim ls w (kind_none e1 e2 e3 e4 e5 e6) = rw (e1, e2, e3, e4, e5, e6)

length_range : (ls : List ℕ) (a b : ℕ) → a + b ≤ length ls → length (range ls a b) ≡ b
unfolding range
length_range ls a b h = simp (length-take, length-drop) (omega arith)

bound_length : (ls : List ℕ) (w : NodeWords) → (is_block_kind w.kind ≡ true → w.a + w.b ≤ length ls) → Kind w.kind
    → length (bound (node_of ls w)) ≡ pick (is_block_kind w.kind) w.b 0
unfolding is_block_kind node_of pick bound
bound_length ls w h (kind_constant e) = rw e
bound_length ls w h (kind_variable e) = rw e
bound_length ls w h (kind_negation e) = rw e
bound_length ls w h (kind_operator e) = rw e
bound_length ls w h (kind_exists e) = let f : w.a + w.b ≤ length ls = h (rw e) in rw e (length_range ls w.a w.b f)
bound_length ls w h (kind_for_all e) = let f : w.a + w.b ≤ length ls = h (rw e) in rw e (length_range ls w.a w.b f)
bound_length ls w h (kind_none e1 e2 e3 e4 e5 e6) = rw (e1, e2, e3, e4, e5, e6)

-- A node without a fault is clear of the six tests, and the other way round.

record Clear (lim : TableLimits) (ws ls : List ℕ) (i : ℕ) : Type 0 where
  formed : well_formed lim (words_at ws i) ≡ true
  lower : forward_reference i (words_at ws i) ≡ false
  fits : range_past_end ls (words_at ws i) ≡ false
  some : empty_block lim (words_at ws i) ≡ false
  few : too_many_variables lim.counts ws i ≡ false
  good : bad_variable lim ls (words_at ws i) ≡ false

pick_zero : (t : Bool) (k r : ℕ) → pick t (suc k) r ≡ 0 → (t ≡ false) × (r ≡ 0)
unfolding pick
pick_zero true k r h = absurd (omega arith)
pick_zero false k r h = (refl, h)

module _ (lim : TableLimits) (ws ls : List ℕ) (i : ℕ) where
  no_fault : node_fault lim ws ls i ≡ 0 → Clear lim ws ls i
  unfolding node_fault
  no_fault e =
      let r3 = pick_zero _ 2 _ e in
      let r4 = pick_zero _ 3 _ r3.1 in
      let r5 = pick_zero _ 4 _ r4.1 in
      let r16 = pick_zero _ 15 _ r5.1 in
      let r6 = pick_zero _ 5 _ r16.1 in
      let r7 = pick_zero _ 6 _ r6.1 in
      record { formed = not-false _ r3.0; lower = r4.0; fits = r5.0; some = r16.0; few = r6.0; good = r7.0 }

  clear_fault : Clear lim ws ls i → node_fault lim ws ls i ≡ 0
  unfolding node_fault
  clear_fault c = pick_no _ _ _ (ap not c.formed) ∙ pick_no _ _ _ c.lower ∙ pick_no _ _ _ c.fits ∙ pick_no _ _ _ c.some ∙ pick_no _ _ _ c.few ∙ pick_no _ _ _ c.good

-- What a verdict says, by the first refusal that applies.

module _ (lim : TableLimits) (ws ls : List ℕ) where
  few_nodes : too_large lim ws ls ≡ false → node_count ws ≤ lim.nodes
  unfolding too_large
  few_nodes l = ltb-false lim.nodes (node_count ws) (or_neither_left _ _ l)

  list_short : too_large lim ws ls ≡ false → length ls ≤ lim.entries
  unfolding too_large
  list_short l = ltb-false _ _ (or_neither_right (ltb lim.nodes (node_count ws)) (ltb lim.entries (length ls)) l)

-- no refusal applies
record Fine (lim : TableLimits) (ws ls : List ℕ) : Type 0 where
  sizes : Whole lim ws ls
  clear : (i : ℕ) → i < node_count ws → Clear lim ws ls i
  once : (i : ℕ) → suc i < node_count ws → not_named_once ws ls i ≡ false

module _ (lim : TableLimits) (ws ls : List ℕ) where
  -- the number 0 is an accepted table's alone
  zero_fine : (v : Verdict) → FirstThatApplies lim ws ls v → v.number ≡ 0 → Fine lim ws ls × (v ≡ accepted)
  unfolding refusal tree_refusal not_a_tree
  zero_fine _ (partial p) z = absurd (omega arith)
  zero_fine _ (large p l) z = absurd (omega arith)
  zero_fine _ (fault w i h f before) z = absurd (f z)
  zero_fine _ (not_tree w clear j h o before) z = absurd (omega arith)
  zero_fine _ (none w clear once) z =
      (record { sizes = w; clear = λ i h. no_fault lim ws ls i (clear i h); once = once }, refl)

  fine_accepted : Fine lim ws ls → (v : Verdict) → FirstThatApplies lim ws ls v → v ≡ accepted
  fine_accepted r _ (partial p) = clash p r.sizes.whole
  fine_accepted r _ (large p l) = clash l r.sizes.small
  fine_accepted r _ (fault w i h f before) = absurd (f (clear_fault lim ws ls i (r.clear i h)))
  fine_accepted r _ (not_tree w clear j h o before) = clash o (r.once j h)
  fine_accepted r _ (none w clear once) = refl

-- What the tests of a clear node say of the table, and the other way round.

pub and_when : (a b : Bool) → (a && b) ≡ false → a ≡ true → b ≡ false
and_when true b h e = h
and_when false b h e = absurd (true≢false (sym e))

pub and_not : (a b : Bool) → (a ≡ true → b ≡ false) → (a && b) ≡ false
and_not true b h = h refl
and_not false b h = refl

-- the range of node i, if it is a block, lies within the list
abbrev pub Fits : List ℕ → List ℕ → ℕ → Type 0
Fits ws ls i = is_block_kind (field ws i 0) ≡ true → field ws i 1 + field ws i 2 ≤ length ls

-- then the node's count is the length of what it binds
pub count_at_lem : (ws ls : List ℕ) (i : ℕ) → Fits ws ls i → count (table_of ws ls) i ≡ count_at ws i
unfolding count table_of node_at count_at
count_at_lem ws ls i h = bound_length ls (words_at ws i) h (kind_of_lem (field ws i 0))

pub counts_below : (ws ls : List ℕ) (n : ℕ) → ((i : ℕ) → i < n → Fits ws ls i) → bound_below (table_of ws ls) n ≡ sum (count_at ws) n
unfolding bound_below
counts_below ws ls n h = sum_cong _ _ n (λ i l. count_at_lem ws ls i (h i l))

-- A node's count is 0 exactly if it binds nothing.
module _ (lim : TableLimits) (ws ls : List ℕ) (i : ℕ) where
  clear_some : Clear lim ws ls i → Fits ws ls i → lim.empty ≡ false → is_block (node_at ws ls i) ≡ true → 0 < count (table_of ws ls) i
  unfolding empty_block is_empty_block table_of
  clear_some c f e b =
      let k = sym (is_block_lem ws ls i) ∙ b in
      let n : field ws i 2 ≡ 0 → ⊥ = eqb-false _ _ (and_when _ _ (and_when _ _ c.some (ap not e)) k) in
      omega (arith, count_at_lem ws ls i f, count_block ws i k)

  some_clear : (lim.empty ≡ false → is_block (node_at ws ls i) ≡ true → 0 < count (table_of ws ls) i) → Fits ws ls i
      → empty_block lim (words_at ws i) ≡ false
  unfolding empty_block is_empty_block table_of
  some_clear h f =
      and_not _ _ (λ e. and_not _ _ (λ k. ne_eqb (field ws i 2) 0 (λ z.
      let p = h (not-true _ e) (is_block_lem ws ls i ∙ k) in omega (arith, count_at_lem ws ls i f, count_block ws i k))))

module _ (lim : TableLimits) (ws ls : List ℕ) (i : ℕ) where
  clear_fits : Clear lim ws ls i → Fits ws ls i
  unfolding range_past_end
  clear_fits c b = ltb-false _ _ (and_when _ _ c.fits b)

  fits_clear : Fits ws ls i → range_past_end ls (words_at ws i) ≡ false
  unfolding range_past_end
  fits_clear h = and_not _ _ (λ b. le-ltb _ _ (h b))

  forward_node : forward_reference i (words_at ws i) ≡ not (all (λ x. not (leb i x)) (operands (node_at ws ls i)))
  unfolding node_at
  forward_node = forward_at ls i (words_at ws i) (kind_of_lem (field ws i 0))

  clear_lower : Clear lim ws ls i → (a : ℕ) → mem a (operands (node_at ws ls i)) ≡ true → a < i
  clear_lower c a m = leb-false _ _ (not-true _ (all_mem _ _ a (not-false _ (sym forward_node ∙ c.lower)) m))

  lower_clear : ((a : ℕ) → mem a (operands (node_at ws ls i)) ≡ true → a < i)
      → forward_reference i (words_at ws i) ≡ false
  lower_clear h = forward_node ∙ ap not (all_intro _ _ (λ a m. ap not (lt-leb i a (h a m))))

  bad_node : bad_variable lim ls (words_at ws i) ≡ not (all (is_number_to lim.highest) (bound (node_at ws ls i)) && distinct (bound (node_at ws ls i)))
  unfolding node_at
  bad_node = bad_at lim ls (words_at ws i) (kind_of_lem (field ws i 0))

  clear_good : Clear lim ws ls i → (all (is_number_to lim.highest) (bound (node_at ws ls i)) && distinct (bound (node_at ws ls i))) ≡ true
  clear_good c = not-false _ (sym bad_node ∙ c.good)

  clear_numbered : Clear lim ws ls i → all (is_number_to lim.highest) (bound (node_at ws ls i)) ≡ true
  clear_numbered c = and_left (all (is_number_to lim.highest) (bound (node_at ws ls i))) (distinct (bound (node_at ws ls i))) (clear_good c)

  clear_apart : Clear lim ws ls i → distinct (bound (node_at ws ls i)) ≡ true
  clear_apart c = and_right (all (is_number_to lim.highest) (bound (node_at ws ls i))) (distinct (bound (node_at ws ls i))) (clear_good c)

  good_clear : all (is_number_to lim.highest) (bound (node_at ws ls i)) ≡ true → distinct (bound (node_at ws ls i)) ≡ true
      → bad_variable lim ls (words_at ws i) ≡ false
  good_clear p q = bad_node ∙ ap not (and_both _ _ p q)

-- The sum of counts stays within `most` where no block brings it over.
module _ (most : ℕ) (ws : List ℕ) where
  few_next : (i : ℕ) → Is (is_block_kind (field ws i 0)) → too_many_variables most ws i ≡ false → sum (count_at ws) i ≤ most → sum (count_at ws) i + count_at ws i ≤ most
  unfolding too_many_variables
  few_next i (is_true b) t s = rw (count_block ws i b) (ltb-false _ _ (and_when _ _ t b))
  few_next i (is_false b) t s = rw (count_none ws i b) (omega arith)

  pub counts_few : (n : ℕ) → ((i : ℕ) → i < n → too_many_variables most ws i ≡ false) → sum (count_at ws) n ≤ most
  unfolding sum
  counts_few zero h = omega arith
  counts_few (suc n) h = few_next n (look (is_block_kind (field ws n 0))) (h n (omega arith)) (counts_few n (λ i l. h i (omega arith)))

  sum_few : (i n : ℕ) → i < n → sum (count_at ws) n ≤ most → too_many_variables most ws i ≡ false
  unfolding too_many_variables sum
  sum_few i n l h =
      let g = sum_grows (count_at ws) (suc i) n l in
      and_not (is_block_kind (field ws i 0)) _ (λ b. le-ltb most (sum (count_at ws) i + field ws i 2) (omega (arith, count_block ws i b)))

module _ (lim : TableLimits) (ws ls : List ℕ) where
  partial_length : partial_node ws ≡ false → (0 < length ws) × (length ws % width ≡ 0)
  unfolding partial_node
  partial_length p =
      let n : length ws ≡ 0 → ⊥ = eqb-false _ _ (or_neither_left (eqb (length ws) 0) (not (eqb (length ws % width) 0)) p) in
      (omega arith, eqb-true _ _ (not-false _ (or_neither_right (eqb (length ws) 0) (not (eqb (length ws % width) 0)) p)))

  length_whole : 0 < node_count ws → length ws ≡ width * node_count ws → partial_node ws ≡ false
  unfolding partial_node
  length_whole h e = or_neither _ _ (ne_eqb (length ws) 0 (λ z. omega arith)) (ap not (eq-eqb (length ws % width) 0 (omega arith)))

  once_named : (i : ℕ) → not_named_once ws ls i ≡ false → times_named (table_of ws ls) i ≡ 1
  unfolding not_named_once
  once_named i h = eqb-true _ _ (not-false _ h)

  named_once : (i : ℕ) → times_named (table_of ws ls) i ≡ 1 → not_named_once ws ls i ≡ false
  unfolding not_named_once
  named_once i e = ap not (eq-eqb _ _ e)

  fine_holds : Fine lim ws ls → AcceptedWithin lim ws ls
  unfolding table_of
  fine_holds r =
      let w = partial_length r.sizes.whole in
      let sums : bound_below (table_of ws ls) (node_count ws) ≡ sum (count_at ws) (node_count ws) = counts_below ws ls (node_count ws) (λ i h. clear_fits lim ws ls i (r.clear i h)) in
      record {
        whole = omega arith;
        proper = record {
          tree = record {
            nonempty = omega arith;
            lower = λ i a h m. clear_lower lim ws ls i (r.clear i h) a m;
            once = λ i h. once_named i (r.once i h);
          };
          apart = λ i h. clear_apart lim ws ls i (r.clear i h);
        };
        nodes_limit = few_nodes lim ws ls r.sizes.small;
        list_limit = list_short lim ws ls r.sizes.small;
        counts_limit = omega (arith, counts_few lim.counts ws (node_count ws) (λ i h. (r.clear i h).few));
        formed = λ i h. (r.clear i h).formed;
        fits = λ i h. clear_fits lim ws ls i (r.clear i h);
        filled = λ e i h. clear_some lim ws ls i (r.clear i h) (clear_fits lim ws ls i (r.clear i h)) e;
        numbered = λ i h. clear_numbered lim ws ls i (r.clear i h);
      }

  holds_fine : AcceptedWithin lim ws ls → Fine lim ws ls
  unfolding table_of too_large
  holds_fine r =
      let sums : bound_below (table_of ws ls) (node_count ws) ≡ sum (count_at ws) (node_count ws) = counts_below ws ls (node_count ws) r.fits in
      let few : sum (count_at ws) (node_count ws) ≤ lim.counts = omega arith in
      record {
        sizes = record {
          whole = length_whole r.proper.tree.nonempty r.whole;
          small = or_neither _ _ (le-ltb _ _ r.nodes_limit) (le-ltb _ _ r.list_limit);
        };
        clear = λ i h.
            record {
              formed = r.formed i h;
              lower = lower_clear lim ws ls i (λ a m. r.proper.tree.lower i a h m);
              fits = fits_clear lim ws ls i (r.fits i h);
              some = some_clear lim ws ls i (λ e. r.filled e i h) (r.fits i h);
              few = sum_few lim.counts ws i (node_count ws) h few;
              good = good_clear lim ws ls i (r.numbered i h) (r.proper.apart i h);
            };
        once = λ i h. named_once i (r.proper.tree.once i h);
      }

  pub within_lower : AcceptedWithin lim ws ls → LowerOperands ws
  unfolding table_of
  within_lower r i h = lower_clear lim ws ls i (λ a m. r.proper.tree.lower i a h m)

  pub within_holds : verdict_within lim ws ls ≡ accepted → AcceptedWithin lim ws ls
  unfolding accepted
  within_holds e = fine_holds (zero_fine lim ws ls _ (verdict_order lim ws ls) (ap (λ v. v.number) e)).0

  pub within_zero : (verdict_within lim ws ls).number ≡ 0 → verdict_within lim ws ls ≡ accepted
  within_zero z = (zero_fine lim ws ls _ (verdict_order lim ws ls) z).1

  pub holds_within : AcceptedWithin lim ws ls → verdict_within lim ws ls ≡ accepted
  holds_within r = fine_accepted lim ws ls (holds_fine r) _ (verdict_order lim ws ls)

-- The same of formula tables.
module _ (ws ls : List ℕ) where
  pub accepted_holds : verdict ws ls ≡ accepted → Accepted ws ls
  accepted_holds = within_holds table_limits ws ls

  pub holds_accepted : Accepted ws ls → verdict ws ls ≡ accepted
  holds_accepted = holds_within table_limits ws ls

  pub number_zero : (verdict ws ls).number ≡ 0 → verdict ws ls ≡ accepted
  number_zero = within_zero table_limits ws ls

-- The words of a well-formed node, by its kind.

pub data Formed (lim : TableLimits) (w : NodeWords) : Type 0 where
  formed_constant : w.kind ≡ 1 → w.a ≤ 1 → w.b ≡ 0 → w.c ≡ 0 → Formed lim w
  formed_variable : w.kind ≡ 2 → is_number_to lim.highest w.a ≡ true → w.b ≡ 0 → w.c ≡ 0 → Formed lim w
  formed_negation : w.kind ≡ 3 → w.b ≡ 0 → w.c ≡ 0 → Formed lim w
  formed_operator : w.kind ≡ 4 → w.a ≤ 15 → Formed lim w
  formed_exists : w.kind ≡ 5 → lim.blocks ≡ true → Formed lim w
  formed_for_all : w.kind ≡ 6 → lim.blocks ≡ true → Formed lim w

two_tests : (s t : Bool) → (s && t) ≡ true → (s ≡ true) × (t ≡ true)
two_tests s t h = (and_left s t h, and_right s t h)

three_tests : (s t u : Bool) → ((s && t) && u) ≡ true → (s ≡ true) × (t ≡ true) × (u ≡ true)
three_tests s t u h = let p = and_left (s && t) u h in (and_left s t p, and_right s t p, and_right (s && t) u h)

formed_by : (lim : TableLimits) (w : NodeWords) → Kind w.kind → well_formed lim w ≡ true → Formed lim w
unfolding well_formed is_block_kind
formed_by lim w (kind_constant e) h =
    let r = three_tests (leb w.a 1) (eqb w.b 0) (eqb w.c 0) (simp or-false at (rw e at h)) in
    formed_constant e (leb-true _ _ r.0) (eqb-true _ _ r.1) (eqb-true _ _ r.2)
formed_by lim w (kind_variable e) h =
    let r = three_tests (is_number_to lim.highest w.a) (eqb w.b 0) (eqb w.c 0) (simp or-false at (rw e at h)) in
    formed_variable e r.0 (eqb-true _ _ r.1) (eqb-true _ _ r.2)
formed_by lim w (kind_negation e) h =
    let r = two_tests (eqb w.b 0) (eqb w.c 0) (simp or-false at (rw e at h)) in formed_negation e (eqb-true _ _ r.0) (eqb-true _ _ r.1)
formed_by lim w (kind_operator e) h = formed_operator e (leb-true w.a 15 (simp or-false at (rw e at h)))
formed_by lim w (kind_exists e) h = formed_exists e (rw e at h)
formed_by lim w (kind_for_all e) h = formed_for_all e (rw e at h)
formed_by lim w (kind_none e1 e2 e3 e4 e5 e6) h = absurd (true≢false (sym (rw (e1, e2, e3, e4, e5, e6) at h)))

pub formed_cases : (lim : TableLimits) (w : NodeWords) → well_formed lim w ≡ true → Formed lim w
formed_cases lim w h = formed_by lim w (kind_of_lem w.kind) h
