-- Laws of drafts: what one node more changes in the number of nodes, in the sum of counts and in the lowest block that brings the sum
-- over the limit.
-- Assumes nothing.
use mathlib.Core.Bool.{Bool, true, false, ◌&&◌}
use mathlib.Core.List.{List, ◌++◌}
use mathlib.Core.Path.{◌≡◌, refl, sym, ◌∙◌, ap}
use Prim.Native.Nat.{ℕ, suc, ◌+◌, ◌*◌, ◌≤◌, ◌<◌}
use native.Mathlib.Omega.{arith}
use lib.Dec.{ltb}
use lib.ListN.{length, length-append}
use Rattle.std.specs.Prelude.{Option, None}
use Rattle.std.specs.Bool.{then_some}
use Rattle.std.specs.Option.{option_or}
use Rattle.lists.specs.Choice.{pick, pick_yes, pick_no, and_off_left}
use Rattle.lists.specs.Search.{lowest, some_below}
use Rattle.lists.specs.Parts.{sum}
use Rattle.lists.proofs.Parts.{sum_cong}
use Rattle.formula.specs.Words.{width, node_count, is_block_kind, words_at, word_list}
use Rattle.formula.specs.declared.NodeWords.{NodeWords}
use Rattle.formula.proofs.Nodes.{word_list-length}
use Rattle.acceptance.specs.Limits.{limit}
use Rattle.acceptance.specs.Verdict.{count_at, too_many_variables}
use Rattle.qcir.specs.Table.{Draft, store, empty_draft}
use Rattle.qcir.proofs.StoredWords.{with_node, words_kept, words_new}
use Rattle.qcir_table_sizes.specs.Excess.{lowest_below}
use Rattle.qcir_table_sizes.proofs.Excess.{below_cong, below_suc, or_none}

-- the count of a node with these words, and whether it brings the sum over `most`
abbrev count_of : NodeWords → ℕ
count_of w = pick (is_block_kind w.kind) w.b 0

abbrev over_with : ℕ → NodeWords → ℕ → Bool
over_with most w s = is_block_kind w.kind && ltb most (s + w.b)

-- Words of n whole nodes.
module _ (ws : List ℕ) (n : ℕ) (whole : length ws ≡ width * n) where
  pub node_count_lem : node_count ws ≡ n
  node_count_lem = omega arith

  nodes_whole : length ws ≡ width * node_count ws
  nodes_whole = omega arith

  module _ (w : NodeWords) where
    -- the nodes before another keep their words
    before_kept : (i : ℕ) → i < n → words_at (with_node ws w) i ≡ words_at ws i
    before_kept i h = words_kept ws nodes_whole w i (omega arith)

    -- and it has its own
    after_is : words_at (with_node ws w) n ≡ w
    after_is = ap (words_at (with_node ws w)) (sym node_count_lem) ∙ words_new ws nodes_whole w

    sum_before : (i : ℕ) → i ≤ n → sum (count_at (with_node ws w)) i ≡ sum (count_at ws) i
    unfolding count_at
    sum_before i h = sum_cong (count_at (with_node ws w)) (count_at ws) i (λ j l. ap count_of (before_kept j (omega arith)))

    over_before : (most i : ℕ) → i < n → too_many_variables most (with_node ws w) i ≡ too_many_variables most ws i
    unfolding too_many_variables
    over_before most i h =
        ap (λ (u : NodeWords). over_with most u (sum (count_at (with_node ws w)) i)) (before_kept i h)
        ∙ ap (over_with most (words_at ws i)) (sum_before i (omega arith))

    pub excess_before : (most : ℕ) → lowest_below (too_many_variables most (with_node ws w)) n ≡ lowest_below (too_many_variables most ws) n
    excess_before most = below_cong (too_many_variables most (with_node ws w)) (too_many_variables most ws) n (over_before most)

    -- the sum with one node more, and whether that node brings it over
    pub sum_after : sum (count_at (with_node ws w)) (suc n) ≡ sum (count_at ws) n + count_of w
    unfolding sum count_at
    sum_after =
        ap (λ (x : ℕ). x + count_at (with_node ws w) n) (sum_before n (omega arith))
        ∙ ap (λ (u : NodeWords). sum (count_at ws) n + count_of u) after_is

    pub over_after : (most : ℕ) → too_many_variables most (with_node ws w) n ≡ over_with most w (sum (count_at ws) n)
    unfolding too_many_variables
    over_after most =
        ap (λ (u : NodeWords). over_with most u (sum (count_at (with_node ws w)) n)) after_is
        ∙ ap (over_with most w) (sum_before n (omega arith))

-- A draft with n nodes and e entries; k is the first node at which the sum of the counts, which is e, passes the limit, if it does.
pub record Measured (gate : ℕ → ℕ) (d : Draft) (n e : ℕ) (k : Option ℕ) : Type 0 where
  pub gate_is : d.gate ≡ gate
  pub whole : length d.words ≡ width * n
  pub listed : length d.entries ≡ e
  pub counted : sum (count_at d.words) n ≡ e
  pub excess_is : lowest_below (too_many_variables limit d.words) n ≡ k

pub measured_empty : Measured (λ x. 0) empty_draft 0 0 None
unfolding empty_draft sum lowest some_below pick
measured_empty = record { gate_is = refl; whole = omega arith; listed = refl; counted = refl; excess_is = refl }

-- One node more.
module _ (gate : ℕ → ℕ) (d : Draft) (n e : ℕ) (k : Option ℕ) (m : Measured gate d n e k) where
  whole_with : (w : NodeWords) → length (with_node d.words w) ≡ width * suc n
  whole_with w = length-append d.words (word_list w) ∙ omega (arith, m.whole, word_list-length w)

  -- the first node over the limit, if the next one is over it or not
  excess_with : (w : NodeWords) (t : Bool) → too_many_variables limit (with_node d.words w) n ≡ t → lowest_below (too_many_variables limit (with_node d.words w)) (suc n) ≡ option_or k (then_some t n)
  excess_with w t h =
      below_suc (too_many_variables limit (with_node d.words w)) n
      ∙ ap (λ (b : Bool). option_or (lowest_below (too_many_variables limit (with_node d.words w)) n) (then_some b n)) h
      ∙ ap (λ (j : Option ℕ). option_or j (then_some t n)) (excess_before d.words n m.whole w limit ∙ m.excess_is)

  pub measured_node : (w : NodeWords) → is_block_kind w.kind ≡ false → Measured gate (store d w).draft (suc n) e k
  unfolding store
  measured_node w h =
      let z = pick_no (is_block_kind w.kind) w.b 0 h in
      record {
        gate_is = m.gate_is;
        whole = whole_with w;
        listed = m.listed;
        counted = sum_after d.words n m.whole w ∙ omega (arith, m.counted);
        excess_is = excess_with w false (over_after d.words n m.whole w limit ∙ and_off_left (is_block_kind w.kind) _ h) ∙ or_none k;
      }

  pub measured_block : (w : NodeWords) (xs : List ℕ) → is_block_kind w.kind ≡ true → w.b ≡ length xs
      → Measured gate (store (record { words = d.words; entries = d.entries ++ xs; gate = d.gate }) w).draft (suc n) (e + length xs) (option_or k (then_some (ltb limit (e + length xs)) n))
  unfolding store
  measured_block w xs h l =
      let b : ℕ = length xs in
      let z = pick_yes (is_block_kind w.kind) w.b 0 h in
      record {
        gate_is = m.gate_is;
        whole = whole_with w;
        listed = length-append d.entries xs ∙ ap (λ (x : ℕ). x + length xs) m.listed;
        counted = sum_after d.words n m.whole w ∙ omega (arith, m.counted);
        excess_is =
            excess_with w (ltb limit (e + b))
            (over_after d.words n m.whole w limit
            ∙ ap (λ (t : Bool). t && ltb limit (sum (count_at d.words) n + w.b)) h
            ∙ ap (λ (x : ℕ). ltb limit (sum (count_at d.words) n + x)) l
            ∙ ap (λ (x : ℕ). ltb limit (x + b)) m.counted);
      }
