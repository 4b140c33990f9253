-- The table of a file whose names are not refused has the file's truth value, and within the limits the table checker accepts it.
-- Assumes nothing.
use mathlib.Core.Path.{◌≡◌, refl, ap, fun_ext}
use mathlib.Core.Bool.{Bool, false}
use mathlib.Core.List.{List, [], ◌∷◌, map}
use Prim.Native.Nat.{ℕ, ◌+◌, ◌-◌, ◌*◌, ◌≤◌, ◌<◌}
use native.Mathlib.Omega.{arith}
use lib.Dec.{eqb}
use lib.ListN.{length}
use borrow.Author.Tests.{eqb-true, eqb-false}
use Rattle.lists.specs.Choice.{Is, is_true, is_false, look}
use Rattle.lists.specs.Members.{mem, times}
use Rattle.lists.specs.Parts.{sum}
use Rattle.lists.proofs.Members.{times_zero}
use Rattle.lists.proofs.Parts.{sum_zero}
use Rattle.formula.specs.Node.{operands}
use Rattle.formula.specs.Words.{width, node_count, node_at, table_of}
use Rattle.formula.specs.Valuation.{Valuation, quant}
use Rattle.formula.specs.Truth.{truth}
use Rattle.formula.specs.Form.{blocks_of, quantify}
use Rattle.formula.proofs.Prefix.{words_read}
use Rattle.formula.specs.Tree.{times_named, Tree, count}
use Rattle.refusals.specs.Verdict.{accepted}
use Rattle.acceptance.specs.Limits.{limit}
use Rattle.acceptance.specs.Verdict.{count_at, too_many_variables, verdict}
use Rattle.acceptance.specs.Accepted.{Accepted}
use Rattle.acceptance.proofs.Accepted.{counts_below, counts_few, holds_accepted}
use Rattle.qcir.specs.File.{Line, line_variables, File, numbers_of}
use Rattle.qcir.specs.Meaning.{Meaning, literal_value, meaning, prefix_value, file_truth}
use Rattle.qcir.specs.Refusals.{misplaced, not_used_once}
use Rattle.qcir.specs.Laws.{PrefixKept}
use Rattle.qcir.specs.Table.{Draft, Stored, store_gates, empty_draft, store_matrix, store_file, table_words, table_list, matrix_words, matrix_list, line_block, file_prefix, file_prefix_words, file_prefix_list}
use Rattle.qcir.proofs.Numbers.{Ranged}
use Rattle.qcir.proofs.GateLines.{gate_lines, prefix_proper, output_ranged}
use Rattle.qcir.proofs.StoredValues.{kept_same}
use Rattle.qcir.proofs.StoredNodes.{Sound}
use Rattle.qcir.proofs.StoredCounts.{file_counts}
use Rattle.qcir.proofs.Drafts.{below, below_yes, times_other, Holds, Stores}
use Rattle.qcir.proofs.StoredGates.{empty_holds, gates_hold, literal_stores, prefix_stores}

-- The table's words are whole nodes, ..
pub table_whole : (f : File) → length (table_words f) ≡ width * node_count (table_words f)
table_whole f = (file_counts f).whole

-- .. its list has as many entries as its blocks bind variables, ..
pub table_entries : (f : File) → sum (count_at (table_words f)) (node_count (table_words f)) ≡ length (table_list f)
table_entries f = (file_counts f).counted

-- .. and they are few where no block brings the sum of counts over the limit.
pub table_few : (most : ℕ) (f : File) → ((i : ℕ) → i < node_count (table_words f) → too_many_variables most (table_words f) i ≡ false) → length (table_list f) ≤ most
table_few most f h = omega (arith, table_entries f, counts_few most (table_words f) (node_count (table_words f)) h)

-- What is stored last names all that is stored before: it is a tree, with the value of the node that stands for it.
module _ {R : Type 0} {d : Draft} {m : Meaning} {g : Valuation → Bool} (s : Stored) (stored : Stores R d [] [] m g s) where
  abbrev ws : List ℕ
  ws = s.draft.words

  abbrev ls : List ℕ
  ls = s.draft.entries

  root_low : s.node < node_count ws
  unfolding table_of
  root_low = stored.stands.low

  -- each node is named by one, but the one that stands for the whole
  named : (k : ℕ) → times_named (table_of ws ls) k + times k (s.node ∷ []) ≡ below k (node_count ws)
  unfolding times
  named k = omega (arith, stored.holds.once k)

  -- no node names the last
  last_not_named : times_named (table_of ws ls) (node_count ws - 1) ≡ 0
  unfolding times_named table_of
  last_not_named = sum_zero _ (node_count ws) (λ j h. go j h (look (mem (node_count ws - 1) (operands (node_at ws ls j)))))
    where
      go : (j : ℕ) → j < node_count ws → Is (mem (node_count ws - 1) (operands (node_at ws ls j))) → times (node_count ws - 1) (operands (node_at ws ls j)) ≡ 0
      go j h (is_true e) = let l = stored.holds.sound.lower j (node_count ws - 1) h e in absurd (omega arith)
      go j h (is_false e) = times_zero _ _ e

  -- so it is the root
  root : node_count ws - 1 ≡ s.node
  root = go (look (eqb (node_count ws - 1) s.node))
    where
      go : Is (eqb (node_count ws - 1) s.node) → node_count ws - 1 ≡ s.node
      go (is_true e) = eqb-true _ _ e
      go (is_false e) =
          let n : node_count ws - 1 ≡ s.node → ⊥ = eqb-false _ _ e in
          absurd (omega (
            arith,
            root_low,
            named (node_count ws - 1),
            last_not_named,
            times_other (node_count ws - 1) s.node n,
            below_yes (node_count ws - 1) (node_count ws) (omega (arith, root_low)),
          ))

  stored_tree : Tree (table_of ws ls)
  unfolding table_of
  stored_tree =
      record {
        nonempty = omega (arith, root_low);
        lower = stored.holds.sound.lower;
        once = λ i h.
            omega (
              arith,
              named i,
              times_other i s.node (λ e. omega (arith, root)),
              below_yes i (node_count ws) (omega arith),
            );
      }

  stored_truth : (v : Valuation) → truth (table_of ws ls) v ≡ g v
  unfolding truth table_of
  stored_truth v = rw root (stored.stands.gives _ (kept_same _) _ root_low v)

-- What each name of a file stands for.
abbrev file_meaning : File → Meaning
file_meaning f = meaning (λ x u. u x) f.gates

-- Prefix lines as prefix blocks quantify the same.
lines_quantify : (ls : List Line) (g : Valuation → Bool) (v : Valuation) → quantify (map line_block ls) g v ≡ prefix_value ls g v
unfolding quantify line_block prefix_value
lines_quantify [] g v = refl
lines_quantify (l ∷ ls) g v =
    ap (λ (h : Valuation → Bool). quant l.quantifier (numbers_of (line_variables l)) h v) (fun_ext (lines_quantify ls g))

module _ (f : File) (placed : misplaced f ≡ []) (used : not_used_once f ≡ []) where
  gates_stored : Holds (Ranged f) (store_gates empty_draft f.gates) [] (f.output.name.number ∷ []) (file_meaning f)
  unfolding empty_draft
  gates_stored =
      gates_hold (Ranged f) (f.output.name.number ∷ []) [] f.gates (gate_lines f placed used) empty_draft (λ x u. u x)
      (λ x h. refl) (empty_holds (Ranged f) _)

  matrix_stored : Stores (Ranged f) (store_gates empty_draft f.gates) [] [] (file_meaning f) (literal_value (file_meaning f) f.output) (store_matrix f)
  unfolding store_matrix
  matrix_stored = literal_stores (Ranged f) (store_gates empty_draft f.gates) [] [] (file_meaning f) f.output (output_ranged f placed) gates_stored

  -- With the prefix lines kept as prefix, the matrix alone is a tree, and what was stored last is its root.
  pub matrix_tree : Tree (table_of (matrix_words f) (matrix_list f))
  unfolding matrix_words matrix_list
  matrix_tree = stored_tree (store_matrix f) matrix_stored

  pub matrix_root : node_count (matrix_words f) - 1 ≡ (store_matrix f).node
  unfolding matrix_words
  matrix_root = root (store_matrix f) matrix_stored

  file_stored : Stores (Ranged f) (store_gates empty_draft f.gates) [] [] (file_meaning f)
      (prefix_value f.prefix (literal_value (file_meaning f) f.output)) (store_file f)
  unfolding store_file
  file_stored =
      prefix_stores (Ranged f) f.prefix (prefix_proper f placed) (store_gates empty_draft f.gates) (file_meaning f) (literal_value (file_meaning f) f.output)
      (store_matrix f) matrix_stored

  sound : Sound (Ranged f) (table_words f) (table_list f)
  unfolding table_words table_list
  sound = file_stored.holds.sound

  pub table_tree : Tree (table_of (table_words f) (table_list f))
  unfolding table_words table_list
  table_tree = stored_tree (store_file f) file_stored

  -- The table has the file's truth value, ..
  pub table_truth : (v : Valuation) → truth (table_of (table_words f) (table_list f)) v ≡ file_truth f v
  unfolding table_words table_list file_truth
  table_truth = stored_truth (store_file f) file_stored

  -- .. and with the prefix lines kept as prefix the matrix has the output's value
  matrix_truth_lem : (v : Valuation) → truth (table_of (matrix_words f) (matrix_list f)) v ≡ literal_value (file_meaning f) f.output v
  unfolding matrix_words matrix_list
  matrix_truth_lem = stored_truth (store_matrix f) matrix_stored

  -- and, under the prefix, the file's.
  under_prefix : (v : Valuation) → quantify (blocks_of (file_prefix_words f) (file_prefix_list f)) (truth (table_of (matrix_words f) (matrix_list f))) v ≡ file_truth f v
  unfolding file_prefix_words file_prefix_list file_prefix file_truth
  under_prefix v = rw (words_read (map line_block f.prefix), fun_ext matrix_truth_lem) (lines_quantify f.prefix (literal_value (file_meaning f) f.output) v)

pub prefix_kept : PrefixKept
prefix_kept = under_prefix

module _ (f : File) (ranged : Ranged f) (placed : misplaced f ≡ []) (used : not_used_once f ≡ []) (nodes : node_count (table_words f) ≤ limit)
    (counts : (i : ℕ) → i < node_count (table_words f) → too_many_variables limit (table_words f) i ≡ false) where
  holds : Accepted (table_words f) (table_list f)
  unfolding table_of count
  holds =
      let s = sound f placed used in
      let few = table_few limit f counts in
      record {
        whole = table_whole f;
        proper = record { tree = table_tree f placed used; apart = s.apart };
        nodes_limit = nodes;
        list_limit = few;
        counts_limit = omega (arith, table_entries f, counts_below (table_words f) (table_list f) (node_count (table_words f)) s.fits);
        formed = s.formed ranged;
        fits = s.fits;
        filled = λ e. s.filled;
        numbered = s.numbered ranged;
      }

  accepts : verdict (table_words f) (table_list f) ≡ accepted
  accepts = holds_accepted (table_words f) (table_list f) holds

-- Within the limits the table checker accepts it.
pub table_accepted : (f : File) → Ranged f → misplaced f ≡ [] → not_used_once f ≡ [] → node_count (table_words f) ≤ limit
    → ((i : ℕ) → i < node_count (table_words f) → too_many_variables limit (table_words f) i ≡ false) → verdict (table_words f) (table_list f) ≡ accepted
table_accepted = accepts
