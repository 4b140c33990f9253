-- The words of every file's table are whole nodes, and its blocks bind as many variables as its list has entries.
-- Assumes nothing.
use mathlib.Core.Path.{◌≡◌, refl, sym, ap, subst}
use mathlib.Core.Bool.{Bool, true, false}
use mathlib.Core.List.{List, [], ◌∷◌, ◌++◌}
use Prim.Native.Nat.{ℕ, suc, ◌+◌, ◌*◌}
use native.Mathlib.Omega.{arith}
use lib.Dec.{eqb}
use lib.ListN.{length, length-append}
use Rattle.lists.specs.Choice.{pick, pick_yes, pick_no}
use Rattle.lists.specs.Parts.{sum}
use Rattle.lists.proofs.Parts.{sum_cong}
use Rattle.formula.specs.Node.{Quantifier, Node, constant, variable, negation, operator}
use Rattle.formula.specs.Words.{width, node_count, is_block_kind, words_of, block_words}
use Rattle.formula.specs.Form.{kind_of}
use Rattle.formula.specs.declared.NodeWords.{NodeWords}
use Rattle.formula.proofs.Nodes.{words_plain, block_kind_of}
use Rattle.acceptance.specs.Verdict.{count_at}
use Rattle.qcir.specs.File.{Literal, Gate, junction_gate, xor_gate, quantifier_gate, gate_name, Line, line_variables, File, numbers_of}
use Rattle.qcir.specs.Table.{Draft, Stored, store, store_name, store_literal, store_inputs, store_block, junction_table, empty_value, store_gate, store_gates, store_prefix, empty_draft, store_file, store_matrix, table_words, table_list}
use Rattle.qcir.proofs.StoredWords.{with_node, count_with, whole_with, words_kept, words_new}

-- what holds of both holds of the one picked
either : (P : Stored → Type 0) (t : Bool) (a b : Stored) → P a → P b → P (pick t a b)
unfolding pick
either P true a b p q = p
either P false a b p q = q

-- Words that are whole nodes, whose counts add up to n.
pub record Counts (ws : List ℕ) (n : ℕ) : Type 0 where
  pub whole : length ws ≡ width * node_count ws
  pub counted : sum (count_at ws) (node_count ws) ≡ n

-- what a node adds to them
abbrev count_of : NodeWords → ℕ
count_of w = pick (is_block_kind w.kind) w.b 0

counts_more : (ws : List ℕ) (n : ℕ) (w : NodeWords) → Counts ws n → Counts (with_node ws w) (n + count_of w)
unfolding sum count_at
counts_more ws n w p =
    let e = p.whole in
    record {
      whole = whole_with ws e w;
      counted = rw (count_with ws e w)
          (omega (
            arith,
            p.counted,
            sum_cong (count_at (with_node ws w)) (count_at ws) (node_count ws) (λ i h. ap count_of (words_kept ws e w i h)),
            ap count_of (words_new ws e w),
          ));
    }

abbrev Whole : Draft → Type 0
Whole d = Counts d.words (length d.entries)

-- a node that is no block
whole_store : (d : Draft) (nd : Node) → Whole d → Whole (store d (words_of nd)).draft
unfolding store
whole_store d nd p =
    let e : length d.entries + count_of (words_of nd) ≡ length d.entries = rw (pick_no _ _ _ (words_plain nd)) (omega arith) in
    subst (Counts (with_node d.words (words_of nd))) e (counts_more d.words (length d.entries) (words_of nd) p)

whole_block : (q : Quantifier) (xs : List ℕ) (s : Stored) → Whole s.draft → Whole (store_block q xs s).draft
unfolding store_block store block_words
whole_block q xs s p =
    let d = s.draft in
    let w = block_words (kind_of q) (length d.entries) (length xs) s.node in
    let e : length d.entries + count_of w ≡ length (d.entries ++ xs) =
    rw (pick_yes _ _ _ (block_kind_of q)) (sym (length-append d.entries xs)) in
    subst (Counts (with_node d.words w)) e (counts_more d.words (length d.entries) w p)

whole_name : (d : Draft) (x : ℕ) → Whole d → Whole (store_name d x).draft
unfolding store_name
whole_name d x p = either (λ s. Whole s.draft) (eqb (d.gate x) 0) _ _ (whole_store d (variable x) p) p

whole_literal : (d : Draft) (l : Literal) → Whole d → Whole (store_literal d l).draft
unfolding store_literal
whole_literal d l p =
    let s = store_name d l.name.number in
    let q = whole_name d l.name.number p in
    either (λ s. Whole s.draft) l.minus _ _ (whole_store s.draft (negation s.node) q) q

whole_inputs : (t : ℕ) (s : Stored) (ls : List Literal) → Whole s.draft → Whole (store_inputs t s ls).draft
unfolding store_inputs
whole_inputs t s [] p = p
whole_inputs t s (l ∷ ls) p =
    let r = store_literal s.draft l in
    let nd = operator t s.node r.node in
    whole_inputs t (store r.draft (words_of nd)) ls (whole_store r.draft nd (whole_literal s.draft l p))

whole_gate : (d : Draft) (g : Gate) → Whole d → Whole (store_gate d g).draft
unfolding store_gate
whole_gate d (junction_gate j g []) p = whole_store d (constant (empty_value j)) p
whole_gate d (junction_gate j g (l ∷ ls)) p = whole_inputs (junction_table j) (store_literal d l) ls (whole_literal d l p)
whole_gate d (xor_gate g l r) p = whole_inputs 6 (store_literal d l) (r ∷ []) (whole_literal d l p)
whole_gate d (quantifier_gate q g x xs l) p = whole_block q (numbers_of (x ∷ xs)) (store_literal d l) (whole_literal d l p)

whole_gates : (d : Draft) (gs : List Gate) → Whole d → Whole (store_gates d gs)
unfolding store_gates
whole_gates d [] p = p
whole_gates d (g ∷ gs) p = whole_gates (record { words = (store_gate d g).draft.words; entries = (store_gate d g).draft.entries; gate = λ x. pick (eqb x (gate_name g).number) (suc (store_gate d g).node) ((store_gate d g).draft.gate x) }) gs (whole_gate d g p)

whole_prefix : (s : Stored) (ls : List Line) → Whole s.draft → Whole (store_prefix s ls).draft
unfolding store_prefix
whole_prefix s [] p = p
whole_prefix s (l ∷ ls) p = whole_block l.quantifier (numbers_of (line_variables l)) (store_prefix s ls) (whole_prefix s ls p)

whole_empty : Whole empty_draft
unfolding empty_draft sum
whole_empty = record { whole = omega arith; counted = refl }

pub file_counts : (f : File) → Counts (table_words f) (length (table_list f))
unfolding table_words table_list store_file store_matrix
file_counts f = whole_prefix _ f.prefix (whole_literal _ f.output (whole_gates empty_draft f.gates whole_empty))
