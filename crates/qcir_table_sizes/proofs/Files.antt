-- The passes over a file's tokens count what the file's table has.
-- Assumes nothing.
use mathlib.Core.Bool.{Bool, true, false, not, ◌&&◌}
use mathlib.Core.List.{List, [], ◌∷◌, ◌++◌}
use mathlib.Core.Path.{◌≡◌, refl, sym, ◌∙◌, ap, subst}
use Prim.Native.Nat.{ℕ, suc, ◌+◌, ◌-◌, ◌≤◌, ◌<◌}
use native.Mathlib.Numerals.{add-one}
use native.Mathlib.Omega.{arith}
use lib.Dec.{eqb, leb}
use lib.ListN.{length, get_or, length-map}
use borrow.Author.Tests.{not-false, eq-eqb, ne_eqb, le-leb, lt-leb}
use Rattle.lists.specs.Choice.{pick, pick_yes, pick_no, Is, is_true, is_false, look, and_both, and_off_left, and_off_right}
use Rattle.lists.proofs.Members.{eqb_swap}
use Rattle.std.specs.Prelude.{Option}
use Rattle.formula.specs.Node.{Quantifier, Node, constant, variable, negation, operator}
use Rattle.formula.specs.Words.{node_count, words_of, block_words}
use Rattle.formula.specs.Form.{kind_of}
use Rattle.formula.proofs.Nodes.{words_plain, block_kind_of}
use Rattle.acceptance.specs.Limits.{limit}
use Rattle.acceptance.specs.Verdict.{too_many_variables}
use Rattle.qcir.specs.File.{Name, Literal, Junction, Gate, junction_gate, xor_gate, quantifier_gate, gate_name, Line, line_variables, File, numbers_of}
use Rattle.qcir.specs.Table.{Draft, Stored, store, store_name, store_literal, store_inputs, store_block, junction_table, empty_value, store_gate, store_gates, store_prefix, empty_draft, store_matrix, store_file, table_words, table_list}
use Rattle.qcir_tokens.specs.Tokens.{Token, token, line_role, later_role, output_role, junction_role, xor_role, quantifier_role, bound_role, input_role, empty_role, is_outer, is_free, is_definition, is_bound, is_input, is_minus, list_tokens, free_tokens, prefix_tokens, output_token, inputs_tokens, any_inputs_tokens, gate_tokens, gates_tokens, file_tokens, definition_from}
use Rattle.qcir_tokens.specs.Held.{Definitions}
use Rattle.qcir_tokens.proofs.Roles.{free_all, line_all, later_all, output_all, bound_all, input_all, output_minus, input_minus, output_no_definition, bound_no_definition, input_no_definition, junction_defines, xor_defines, quantifier_defines, Quiet, none, more, quiet_free, quiet_front, front_no_definition, gate_tokens_lem}
use Rattle.qcir_tokens.proofs.Parts.{file_parts}
use Rattle.qcir_table_sizes.specs.declared.Pass.{Pass}
use Rattle.qcir_table_sizes.specs.Pass.{is_earlier, start, block_added, operand_added, input_added, line_begun, variable_added, constant_added, gate_step, gates_pass, output_added, outer_step, file_pass}
use Rattle.qcir_table_sizes.specs.Excess.{lowest_below}
use Rattle.qcir_table_sizes.proofs.Passes.{pick_either}
use Rattle.qcir_table_sizes.proofs.Drafts.{node_count_lem, Measured, measured_empty, measured_node, measured_block}

-- a pass has counted a draft
abbrev Counts : (ℕ → ℕ) → Draft → Pass → Type 0
Counts gate d s = Measured gate d s.nodes s.entries s.excess

-- A name and a literal add what their tests say.
module _ (gate : ℕ → ℕ) (d : Draft) (n e : ℕ) (k : Option ℕ) (m : Measured gate d n e k) where
  measured_name : (x : ℕ) → Measured gate (store_name d x).draft (n + pick (eqb (gate x) 0) 1 0) e k
  unfolding store_name
  measured_name x = go (look (eqb (gate x) 0))
    where
      same : eqb (d.gate x) 0 ≡ eqb (gate x) 0
      same = ap (λ (g : ℕ → ℕ). eqb (g x) 0) m.gate_is

      go : Is (eqb (gate x) 0) → Measured gate (pick (eqb (d.gate x) 0) (store d (words_of (variable x))) (record { draft = d; node = d.gate x - 1 })).draft (n + pick (eqb (gate x) 0) 1 0) e k
      go (is_true t) =
          let a : n + pick (eqb (gate x) 0) 1 0 ≡ suc n = omega (arith, pick_yes {A = ℕ} (eqb (gate x) 0) 1 0 t) in
          rw (pick_yes (eqb (d.gate x) 0) (store d (words_of (variable x))) (record { draft = d; node = d.gate x - 1 }) (same ∙ t), a)
          (measured_node gate d n e k m (words_of (variable x)) (words_plain (variable x)))
      go (is_false t) =
          let a : n + pick (eqb (gate x) 0) 1 0 ≡ n = omega (arith, pick_no {A = ℕ} (eqb (gate x) 0) 1 0 t) in
          rw (pick_no (eqb (d.gate x) 0) (store d (words_of (variable x))) (record { draft = d; node = d.gate x - 1 }) (same ∙ t), a) m

module _ (gate : ℕ → ℕ) (d : Draft) (n e : ℕ) (k : Option ℕ) (m : Measured gate d n e k) where
  measured_literal : (l : Literal) → Measured gate (store_literal d l).draft (n + pick (eqb (gate l.name.number) 0) 1 0 + pick l.minus 1 0) e k
  unfolding store_literal
  measured_literal l = go l.minus _ (store_name d l.name.number) (measured_name gate d n e k m l.name.number)
    where
      go : (b : Bool) (j : ℕ) (s : Stored) → Measured gate s.draft j e k → Measured gate (pick b (store s.draft (words_of (negation s.node))) s).draft (j + pick b 1 0) e k
      go true j s r =
          let a : j + pick true 1 0 ≡ suc j = omega (arith, pick_yes {A = ℕ} true 1 0 refl) in
          rw (pick_yes true (store s.draft (words_of (negation s.node))) s refl, a) (measured_node gate s.draft j e k r (words_of (negation s.node)) (words_plain (negation s.node)))
      go false j s r =
          let a : j + pick false 1 0 ≡ j = omega (arith, pick_no {A = ℕ} false 1 0 refl) in
          rw (pick_no false (store s.draft (words_of (negation s.node))) s refl, a) r

-- What a token's role says.
input_no_bound : (a b : Bool) → is_bound (input_role a b) ≡ false
unfolding is_bound
input_no_bound = input_all (λ r. is_bound r ≡ false) refl refl refl refl

input_is : (a b : Bool) → is_input (input_role a b) ≡ true
unfolding is_input
input_is = input_all (λ r. is_input r ≡ true) refl refl refl refl

bound_is : (b : Bool) → is_bound (bound_role b) ≡ true
unfolding is_bound
bound_is = bound_all (λ r. is_bound r ≡ true) refl refl

output_no_outer : (b : Bool) → is_outer (output_role b) ≡ false
unfolding is_outer
output_no_outer = output_all (λ r. is_outer r ≡ false) refl refl

front_outer : (f : File) → Quiet (λ r. not (is_outer r)) (free_tokens f.free ++ prefix_tokens f.prefix)
unfolding is_outer
front_outer f =
    quiet_front (λ r. not (is_outer r)) f (free_all (λ r. not (is_outer r) ≡ false) refl refl refl refl)
    (line_all (λ r. not (is_outer r) ≡ false) refl refl refl refl)
    (later_all (λ r. not (is_outer r) ≡ false) refl refl)

free_is : (xs : List Name) → Quiet (λ r. not (is_free r)) (free_tokens xs)
unfolding is_free
free_is xs = quiet_free (λ r. not (is_free r)) xs (free_all (λ r. not (is_free r) ≡ false) refl refl refl refl)

line_no_free : (q : Quantifier) (b : Bool) → is_free (line_role q b) ≡ false
unfolding is_free
line_no_free = line_all (λ r. is_free r ≡ false) refl refl refl refl

line_first : (q : Quantifier) (b : Bool) → leb (line_role q b) 8 ≡ true
line_first = line_all (λ r. leb r 8 ≡ true) refl refl refl refl

later_no_free : (b : Bool) → is_free (later_role b) ≡ false
unfolding is_free
later_no_free = later_all (λ r. is_free r ≡ false) refl refl

later_not_first : (b : Bool) → leb (later_role b) 8 ≡ false
later_not_first = later_all (λ r. leb r 8 ≡ false) refl refl

-- The steps by the roles.
module _ (gate i : ℕ) (s : Pass) where
  step_definition : (role : ℕ) → is_definition role ≡ true → gate_step role gate i s ≡ line_begun i s
  unfolding gate_step
  step_definition role h = pick_yes _ _ _ h

  step_bound : (b : Bool) → gate_step (bound_role b) gate i s ≡ variable_added s
  unfolding gate_step
  step_bound b = pick_no _ _ _ (bound_no_definition b) ∙ pick_yes _ _ _ (bound_is b)

  step_input : (a b : Bool) → gate_step (input_role a b) gate i s ≡ input_added (input_role a b) gate s
  unfolding gate_step
  step_input a b = pick_no _ _ _ (input_no_definition a b) ∙ pick_no _ _ _ (input_no_bound a b) ∙ pick_yes _ _ _ (input_is a b)

  step_empty : gate_step empty_role gate i s ≡ constant_added s
  unfolding gate_step is_definition is_bound is_input pick
  step_empty = refl

  -- an input of a gate that is not quantified, and of one that is
  step_operand : (a b : Bool) → s.bound ≡ 0 → gate_step (input_role a b) gate i s ≡ operand_added (input_role a b) gate s
  unfolding input_added
  step_operand a b h = step_input a b ∙ pick_yes _ _ _ (eq-eqb s.bound 0 h)

  step_block : (a b : Bool) → 0 < s.bound → gate_step (input_role a b) gate i s ≡ block_added (operand_added (input_role a b) gate s)
  unfolding input_added
  step_block a b h = step_input a b ∙ pick_no _ _ _ (ne_eqb s.bound 0 (λ e. omega arith))

-- Variables more in a list.
unfoldable variables_added : ℕ → Pass → Pass
variables_added n s =
    record { nodes = s.nodes; entries = s.entries; excess = s.excess; line = s.line; bound = s.bound + n; first = s.first }

variables_more : (n : ℕ) (s : Pass) → variables_added (suc n) (variable_added s) ≡ variables_added (suc (suc n)) s
unfolding variable_added variables_added
variables_more n s =
    let e : s.bound + 1 + suc n ≡ s.bound + suc (suc n) = omega arith in
    λ i. record { nodes = s.nodes; entries = s.entries; excess = s.excess; line = s.line; bound = e i; first = s.first }

gates_append : (gates : List ℕ) (i : ℕ) (ts us : List Token) (s : Pass) → gates_pass gates i (ts ++ us) s ≡ gates_pass gates (i + length ts) us (gates_pass gates i ts s)
unfolding gates_pass
gates_append gates i [] us s =
    let e : i ≡ i + 0 = omega arith in ap (λ (k : ℕ). gates_pass gates k us s) e
gates_append gates i (t ∷ ts) us s =
    let e : suc i + length ts ≡ i + suc (length ts) = omega arith in
    let r : Pass = gate_step t.role (get_or gates t.name.number 0) i s in
    gates_append gates (suc i) ts us r ∙ ap (λ (k : ℕ). gates_pass gates k us (gates_pass gates (suc i) ts r)) e

bound_pass : (gates : List ℕ) (x : Name) (xs : List Name) (i : ℕ) (s : Pass) → gates_pass gates i (list_tokens bound_role bound_role x xs) s ≡ variables_added (suc (length xs)) s
unfolding gates_pass list_tokens token variable_added variables_added
bound_pass gates x [] i s = step_bound (get_or gates x.number 0) i s true
bound_pass gates x (y ∷ ys) i s =
    ap (gates_pass gates (suc i) (list_tokens bound_role bound_role y ys)) (step_bound (get_or gates x.number 0) i s false)
    ∙ bound_pass gates y ys (suc i) (variable_added s)
    ∙ variables_more (length ys) s

-- The tokens of one gate line, given the gates' first definitions and, by number, the gates of the earlier lines.
module _ (gates : List ℕ) (gate : ℕ → ℕ) where
  -- an input names a gate of an earlier line exactly if there is such a gate
  abbrev Known : ℕ → Type 0
  Known line = (x : ℕ) → eqb (gate x) 0 ≡ not (is_earlier (get_or gates x 0) line)

  -- one node more
  counts_node : (d : Draft) (n e : ℕ) (k : Option ℕ) → Measured gate d n e k → (nd : Node) → Measured gate (store d (words_of nd)).draft (n + 1) e k
  counts_node d n e k m nd = rw (add-one n) (measured_node gate d n e k m (words_of nd) (words_plain nd))

  operand_first : (d : Draft) (s : Pass) → Counts gate d s → s.first ≡ true → Known s.line → (l : Literal) (b : Bool) → Counts gate (store_literal d l).draft (operand_added (input_role l.minus b) (get_or gates l.name.number 0) s)
  unfolding operand_added
  operand_first d s m f known l b =
      let x : ℕ = l.name.number in
      let p = ap (λ (t : Bool). pick {A = ℕ} t 1 0) (known x) in
      let q = ap (λ (t : Bool). pick {A = ℕ} t 1 0) (input_minus l.minus b) in
      let r = ap (λ (t : Bool). pick {A = ℕ} (not t) 1 0) f ∙ pick_no _ _ _ refl in
      let e : s.nodes + pick (eqb (gate x) 0) 1 0 + pick l.minus 1 0 ≡ s.nodes + pick (not (is_earlier (get_or gates x 0) s.line)) 1 0 + pick (is_minus (input_role l.minus b)) 1 0 + pick (not s.first) 1 0 = omega arith in
      subst (λ (j : ℕ). Measured gate (store_literal d l).draft j s.entries s.excess) e (measured_literal gate d s.nodes s.entries s.excess m l)

  operand_later : (d : Draft) (s : Pass) → Counts gate d s → s.first ≡ false → Known s.line → (l : Literal) (b : Bool) (t u v : ℕ) → Counts gate (store (store_literal d l).draft (words_of (operator t u v))).draft (operand_added (input_role l.minus b) (get_or gates l.name.number 0) s)
  unfolding operand_added
  operand_later d s m f known l b t u v =
      let x : ℕ = l.name.number in
      let p = ap (λ (t : Bool). pick {A = ℕ} t 1 0) (known x) in
      let q = ap (λ (t : Bool). pick {A = ℕ} t 1 0) (input_minus l.minus b) in
      let r = ap (λ (t : Bool). pick {A = ℕ} (not t) 1 0) f ∙ pick_yes _ _ _ refl in
      let e : s.nodes + pick (eqb (gate x) 0) 1 0 + pick l.minus 1 0 + 1 ≡ s.nodes + pick (not (is_earlier (get_or gates x 0) s.line)) 1 0 + pick (is_minus (input_role l.minus b)) 1 0 + pick (not s.first) 1 0 = omega arith in
      subst (λ (j : ℕ). Measured gate (store (store_literal d l).draft (words_of (operator t u v))).draft j s.entries s.excess) e
      (counts_node (store_literal d l).draft (s.nodes + pick (eqb (gate x) 0) 1 0 + pick l.minus 1 0) s.entries s.excess
      (measured_literal gate d s.nodes s.entries s.excess m l) (operator t u v))

  -- inputs after the first, each with its operator
  later_inputs : (t : ℕ) (l : Literal) (ls : List Literal) (i : ℕ) (s : Pass) (st : Stored) → Counts gate st.draft s → s.first ≡ false → s.bound ≡ 0 → Known s.line → Counts gate (store_inputs t st (l ∷ ls)).draft (gates_pass gates i (inputs_tokens l ls) s)
  unfolding store_inputs gates_pass inputs_tokens token operand_added
  later_inputs t l [] i s st m f z known =
      subst (λ (p : Pass). Counts gate (store_inputs t st (l ∷ [])).draft p) (sym (step_operand (get_or gates l.name.number 0) i s l.minus true z))
      (operand_later st.draft s m f known l true t st.node (store_literal st.draft l).node)
  later_inputs t l (h ∷ hs) i s st m f z known =
      let g : ℕ = get_or gates l.name.number 0 in
      let r : Stored = store_literal st.draft l in
      subst (λ (p : Pass). Counts gate (store_inputs t st (l ∷ h ∷ hs)).draft (gates_pass gates (suc i) (inputs_tokens h hs) p)) (sym (step_operand g i s l.minus false z))
      (later_inputs t h hs (suc i) (operand_added (input_role l.minus false) g s) (store r.draft (words_of (operator t st.node r.node)))
      (operand_later st.draft s m f known l false t st.node r.node) refl z known)

  -- all inputs of a gate that is not quantified
  all_inputs : (t : ℕ) (l : Literal) (ls : List Literal) (i : ℕ) (s : Pass) (d : Draft) → Counts gate d s → s.first ≡ true → s.bound ≡ 0 → Known s.line → Counts gate (store_inputs t (store_literal d l) ls).draft (gates_pass gates i (inputs_tokens l ls) s)
  unfolding store_inputs gates_pass inputs_tokens token operand_added
  all_inputs t l [] i s d m f z known =
      subst (λ (p : Pass). Counts gate (store_literal d l).draft p) (sym (step_operand (get_or gates l.name.number 0) i s l.minus true z))
      (operand_first d s m f known l true)
  all_inputs t l (h ∷ hs) i s d m f z known =
      let g : ℕ = get_or gates l.name.number 0 in
      subst (λ (p : Pass). Counts gate (store_inputs t (store_literal d l) (h ∷ hs)).draft (gates_pass gates (suc i) (inputs_tokens h hs) p)) (sym (step_operand g i s l.minus false z))
      (later_inputs t h hs (suc i) (operand_added (input_role l.minus false) g s) (store_literal d l) (operand_first d s m f known l false) refl z known)

  -- a block over what a draft ends with
  counts_block : (q : Quantifier) (xs : List ℕ) (st : Stored) (s : Pass) → Counts gate st.draft s → s.bound ≡ length xs → Counts gate (store_block q xs st).draft (block_added s)
  unfolding store_block block_added block_words
  counts_block q xs st s m e =
      rw (add-one s.nodes, e)
      (measured_block gate st.draft s.nodes s.entries s.excess m (block_words (kind_of q) (length st.draft.entries) (length xs) st.node) xs (block_kind_of q) refl)

  -- the input of a quantified gate, and its block
  quantified_input : (q : Quantifier) (xs : List ℕ) (l : Literal) (i : ℕ) (s : Pass) (d : Draft) → Counts gate d s → s.first ≡ true → s.bound ≡ length xs → 0 < length xs → Known s.line → Counts gate (store_block q xs (store_literal d l)).draft (gates_pass gates i (inputs_tokens l []) s)
  unfolding gates_pass inputs_tokens token operand_added
  quantified_input q xs l i s d m f z y known =
      let g : ℕ = get_or gates l.name.number 0 in
      subst (λ (p : Pass). Counts gate (store_block q xs (store_literal d l)).draft p) (sym (step_block g i s l.minus true (omega arith)))
      (counts_block q xs (store_literal d l) (operand_added (input_role l.minus true) g s) (operand_first d s m f known l true) z)

  -- what follows a definition
  after_definition : (role : ℕ) (x : Name) (ts : List Token) (i : ℕ) (s : Pass) (d : Draft) → is_definition role ≡ true → Counts gate d (gates_pass gates (suc i) ts (line_begun i s)) → Counts gate d (gates_pass gates i (token role x ∷ ts) s)
  unfolding gates_pass token
  after_definition role x ts i s d h m =
      subst (λ (p : Pass). Counts gate d (gates_pass gates (suc i) ts p)) (sym (step_definition (get_or gates x.number 0) i s role h)) m

  -- a gate without inputs
  empty_counts : (j : Junction) (x : Name) (i : ℕ) (s : Pass) (d : Draft) → Counts gate d s → Counts gate (store d (words_of (constant (empty_value j)))).draft (gates_pass gates (suc i) (token empty_role x ∷ []) (line_begun i s))
  unfolding gates_pass token line_begun constant_added
  empty_counts j x i s d m =
      subst (λ (p : Pass). Counts gate (store d (words_of (constant (empty_value j)))).draft p) (sym (step_empty (get_or gates x.number 0) (suc i) (line_begun i s)))
      (counts_node d s.nodes s.entries s.excess m (constant (empty_value j)))

  quantified_counts : (q : Quantifier) (y : Name) (ys : List Name) (l : Literal) (i : ℕ) (s : Pass) (d : Draft) → Counts gate d s → Known i → Counts gate (store_block q (numbers_of (y ∷ ys)) (store_literal d l)).draft (gates_pass gates (suc i) (list_tokens bound_role bound_role y ys ++ inputs_tokens l []) (line_begun i s))
  unfolding line_begun variables_added numbers_of
  quantified_counts q y ys l i s d m known =
      let ts : List Token = list_tokens bound_role bound_role y ys in
      let n : length (numbers_of (y ∷ ys)) ≡ suc (length ys) = length-map (y ∷ ys) (λ x. x.number) in
      subst (λ (p : Pass). Counts gate (store_block q (numbers_of (y ∷ ys)) (store_literal d l)).draft p)
      (sym (gates_append gates (suc i) ts (inputs_tokens l []) (line_begun i s) ∙ ap (gates_pass gates (suc i + length ts) (inputs_tokens l [])) (bound_pass gates y ys (suc i) (line_begun i s))))
      (quantified_input q (numbers_of (y ∷ ys)) l (suc i + length ts) (variables_added (suc (length ys)) (line_begun i s)) d m refl (omega arith) (omega arith) known)

  -- the line of a gate
  gate_counts : (g : Gate) (i : ℕ) (s : Pass) (d : Draft) → Counts gate d s → Known i → Counts gate (store_gate d g).draft (gates_pass gates i (gate_tokens g) s)
  unfolding store_gate gate_tokens any_inputs_tokens line_begun
  gate_counts (junction_gate j x []) i s d m known =
      after_definition (junction_role j) x (token empty_role x ∷ []) i s _ (junction_defines j) (empty_counts j x i s d m)
  gate_counts (junction_gate j x (l ∷ ls)) i s d m known =
      after_definition (junction_role j) x (inputs_tokens l ls) i s _ (junction_defines j)
      (all_inputs (junction_table j) l ls (suc i) (line_begun i s) d m refl refl known)
  gate_counts (xor_gate x l r) i s d m known =
      after_definition xor_role x (inputs_tokens l (r ∷ [])) i s _ xor_defines (all_inputs 6 l (r ∷ []) (suc i) (line_begun i s) d m refl refl known)
  gate_counts (quantifier_gate q x y ys l) i s d m known =
      after_definition (quantifier_role q) x (list_tokens bound_role bound_role y ys ++ inputs_tokens l []) i s _ (quantifier_defines q)
      (quantified_counts q y ys l i s d m known)

-- A number's first definition, gate line by gate line: it stands in an earlier line, or is the first of the tokens left.
data Placed (first gate i : ℕ) (ts : List Token) (x : ℕ) : Type 0 where
  earlier : eqb gate 0 ≡ false → 0 < first → first ≤ i → Placed first gate i ts x
  to_come : gate ≡ 0 → first ≡ definition_from i ts x → Placed first gate i ts x

-- no first definition among the tokens left is earlier than they are
not_earlier : (j i : ℕ) (ts : List Token) (x : ℕ) → j ≤ i → is_earlier (definition_from i ts x) j ≡ false
unfolding definition_from is_earlier
not_earlier j i [] x h = and_off_left (leb 1 0) (leb 0 j) refl
not_earlier j i (t ∷ ts) x h =
    pick_either (λ (v : ℕ). is_earlier v j ≡ false) (is_definition t.role && eqb t.name.number x) (suc i) (definition_from (suc i) ts x)
    (and_off_right (leb 1 (suc i)) (leb (suc i) j) (lt-leb (suc i) j (omega arith)))
    (not_earlier j (suc i) ts x (omega arith))

is_earlier_lem : (first i : ℕ) → 0 < first → first ≤ i → is_earlier first i ≡ true
unfolding is_earlier
is_earlier_lem first i a b = and_both (leb 1 first) (leb first i) (le-leb 1 first a) (le-leb first i b)

placed_known : (first gate i : ℕ) (ts : List Token) (x : ℕ) → Placed first gate i ts x → eqb gate 0 ≡ not (is_earlier first i)
placed_known first gate i ts x (earlier g a b) = g ∙ sym (ap not (is_earlier_lem first i a b))
placed_known first gate i ts x (to_come g e) =
    eq-eqb gate 0 g ∙ sym (ap not (ap (λ (f : ℕ). is_earlier f i) e ∙ not_earlier i i ts x (omega arith)))

-- tokens that define nothing are passed over
definition_quiet : {ts : List Token} (i : ℕ) (us : List Token) (x : ℕ) → Quiet is_definition ts → definition_from i (ts ++ us) x ≡ definition_from (i + length ts) us x
unfolding definition_from
definition_quiet i us x none =
    let e : i ≡ i + 0 = omega arith in ap (λ (k : ℕ). definition_from k us x) e
definition_quiet i us x (more {t} {ts} h q) =
    let e : suc i + length ts ≡ i + suc (length ts) = omega arith in
    pick_no _ _ _ (and_off_left _ _ h) ∙ definition_quiet (suc i) us x q ∙ ap (λ (k : ℕ). definition_from k us x) e

-- the line of a gate is passed
placed_next : (g : Gate) (us : List Token) (first gate i x node : ℕ) → Placed first gate i (gate_tokens g ++ us) x → Placed first (pick (eqb x (gate_name g).number) (suc node) gate) (i + length (gate_tokens g)) us x
unfolding definition_from token
placed_next g us first gate i x node p = go (look (eqb x (gate_name g).number)) p
  where
    go : Is (eqb x (gate_name g).number) → Placed first gate i (gate_tokens g ++ us) x → Placed first (pick (eqb x (gate_name g).number) (suc node) gate) (i + length (gate_tokens g)) us x
    go (is_true t) (earlier a b c) =
        earlier (ap (λ (v : ℕ). eqb v 0) (pick_yes _ _ _ t) ∙ ne_eqb (suc node) 0 (λ e. omega arith)) b (omega arith)
    go (is_false t) (earlier a b c) = earlier (ap (λ (v : ℕ). eqb v 0) (pick_no _ _ _ t) ∙ a) b (omega arith)
    go (is_true t) (to_come a e) =
        let f : first ≡ suc i =
        e
        ∙ ap (λ (ts : List Token). definition_from i (ts ++ us) x) (gate_tokens_lem g).are
        ∙ pick_yes _ _ _ (and_both (is_definition (gate_tokens_lem g).role) (eqb (gate_name g).number x) (gate_tokens_lem g).defines (eqb_swap (gate_name g).number x ∙ t)) in
        earlier (ap (λ (v : ℕ). eqb v 0) (pick_yes _ _ _ t) ∙ ne_eqb (suc node) 0 (λ e. omega arith)) (omega arith) (omega (arith, ap length (gate_tokens_lem g).are))
    go (is_false t) (to_come a e) =
        let k : suc i + length (gate_tokens_lem g).others ≡ i + length (gate_tokens g) = omega (arith, ap length (gate_tokens_lem g).are) in
        to_come (pick_no _ _ _ t ∙ a)
        (e
        ∙ ap (λ (ts : List Token). definition_from i (ts ++ us) x) (gate_tokens_lem g).are
        ∙ pick_no _ _ _ (and_off_right (is_definition (gate_tokens_lem g).role) (eqb (gate_name g).number x) (eqb_swap (gate_name g).number x ∙ t))
        ∙ definition_quiet (suc i) us x (gate_tokens_lem g).quiet
        ∙ ap (λ (j : ℕ). definition_from j us x) k)

-- The gate lines: the draft is counted, and a name that no gate line defines is no gate's.
record Done (gates : List ℕ) (d : Draft) (s : Pass) : Type 0 where
  counts : Counts d.gate d s
  named : (x : ℕ) → eqb (d.gate x) 0 ≡ eqb (get_or gates x 0) 0

named_end : (first gate i x : ℕ) → Placed first gate i [] x → eqb gate 0 ≡ eqb first 0
unfolding definition_from
named_end first gate i x (earlier a b c) = a ∙ sym (ne_eqb first 0 (λ e. omega arith))
named_end first gate i x (to_come a e) = eq-eqb gate 0 a ∙ sym (eq-eqb first 0 e)

gates_counts : (gates : List ℕ) (gs : List Gate) (i : ℕ) (s : Pass) (d : Draft) → Counts d.gate d s → ((x : ℕ) → Placed (get_or gates x 0) (d.gate x) i (gates_tokens gs) x) → Done gates (store_gates d gs) (gates_pass gates i (gates_tokens gs) s)
unfolding store_gates gates_tokens gates_pass
gates_counts gates [] i s d m p = record { counts = m; named = λ x. named_end (get_or gates x 0) (d.gate x) i x (p x) }
gates_counts gates (g ∷ gs) i s d m p =
    let st : Stored = store_gate d g in
    let e : Draft = st.draft in
    let name : ℕ = (gate_name g).number in
    let new : ℕ → ℕ = λ x. pick (eqb x name) (suc st.node) (e.gate x) in
    let after : Draft = record { words = e.words; entries = e.entries; gate = new } in
    let t : Pass = gates_pass gates i (gate_tokens g) s in
    let c : Counts d.gate e t = gate_counts gates d.gate g i s d m (λ x. placed_known (get_or gates x 0) (d.gate x) i (gates_tokens (g ∷ gs)) x (p x)) in
    subst (λ (q : Pass). Done gates (store_gates after gs) q) (sym (gates_append gates i (gate_tokens g) (gates_tokens gs) s))
    (gates_counts gates gs (i + length (gate_tokens g)) t after
    (record { gate_is = refl; whole = c.whole; listed = c.listed; counted = c.counted; excess_is = c.excess_is })
    (λ x. subst (λ (h : ℕ → ℕ). Placed (get_or gates x 0) (pick (eqb x name) (suc st.node) (h x)) (i + length (gate_tokens g)) (gates_tokens gs) x) (sym c.gate_is)
    (placed_next g (gates_tokens gs) (get_or gates x 0) (d.gate x) i x st.node (p x))))

-- The free line and the prefix lines, from the last token to the first.
outer_tokens : List Token → Pass → Pass
outer_tokens [] s = s
outer_tokens (t ∷ ts) s = outer_step t.role (outer_tokens ts s)

outer_append : (ts us : List Token) (s : Pass) → outer_tokens (ts ++ us) s ≡ outer_tokens ts (outer_tokens us s)
unfolding outer_tokens
outer_append [] us s = refl
outer_append (t ∷ ts) us s = ap (outer_step t.role) (outer_append ts us s)

file_outer : {ts : List Token} (gates : List ℕ) (i : ℕ) (us : List Token) → Quiet (λ r. not (is_outer r)) ts → file_pass gates i (ts ++ us) ≡ outer_tokens ts (file_pass gates (i + length ts) us)
unfolding file_pass outer_tokens
file_outer gates i us none =
    let e : i ≡ i + 0 = omega arith in ap (λ (k : ℕ). file_pass gates k us) e
file_outer gates i us (more {t} {ts} h q) =
    let e : suc i + length ts ≡ i + suc (length ts) = omega arith in
    pick_yes _ _ _ (not-false (is_outer t.role) h)
    ∙ ap (outer_step t.role) (file_outer gates (suc i) us q ∙ ap (λ (k : ℕ). outer_tokens ts (file_pass gates k us)) e)

free_pass : {ts : List Token} (s : Pass) → Quiet (λ r. not (is_free r)) ts → outer_tokens ts s ≡ s
unfolding outer_tokens outer_step
free_pass s none = refl
free_pass s (more {t} {ts} h q) = pick_yes _ _ _ (not-false (is_free t.role) h) ∙ free_pass s q

step_later : (b : Bool) (s : Pass) → outer_step (later_role b) s ≡ variable_added s
unfolding outer_step
step_later b s = pick_no _ _ _ (later_no_free b) ∙ pick_no _ _ _ (later_not_first b)

step_line : (q : Quantifier) (b : Bool) (s : Pass) → outer_step (line_role q b) s ≡ block_added (variable_added s)
unfolding outer_step
step_line q b s = pick_no _ _ _ (line_no_free q b) ∙ pick_yes _ _ _ (line_first q b)

variables_then : (n : ℕ) (s : Pass) → variable_added (variables_added n s) ≡ variables_added (suc n) s
unfolding variable_added variables_added
variables_then n s =
    let e : s.bound + n + 1 ≡ s.bound + suc n = omega arith in
    λ i. record { nodes = s.nodes; entries = s.entries; excess = s.excess; line = s.line; bound = e i; first = s.first }

variables_none : (s : Pass) → s ≡ variables_added 0 s
unfolding variables_added
variables_none s =
    let e : s.bound ≡ s.bound + 0 = omega arith in
    λ i. record { nodes = s.nodes; entries = s.entries; excess = s.excess; line = s.line; bound = e i; first = s.first }

later_pass : (x : Name) (xs : List Name) (s : Pass) → outer_tokens (list_tokens later_role later_role x xs) s ≡ variables_added (suc (length xs)) s
unfolding outer_tokens list_tokens token
later_pass x [] s = step_later true s ∙ ap variable_added (variables_none s) ∙ variables_then 0 s
later_pass x (y ∷ ys) s = step_later false (outer_tokens (list_tokens later_role later_role y ys) s) ∙ ap variable_added (later_pass y ys s) ∙ variables_then (suc (length ys)) s

line_pass : (q : Quantifier) (x : Name) (xs : List Name) (s : Pass) → outer_tokens (list_tokens (line_role q) later_role x xs) s ≡ block_added (variables_added (suc (length xs)) s)
unfolding outer_tokens list_tokens token
line_pass q x [] s = step_line q true s ∙ ap block_added (ap variable_added (variables_none s) ∙ variables_then 0 s)
line_pass q x (y ∷ ys) s =
    step_line q false (outer_tokens (list_tokens later_role later_role y ys) s)
    ∙ ap block_added (ap variable_added (later_pass y ys s) ∙ variables_then (suc (length ys)) s)

-- a draft counted between two lines
record Between (gate : ℕ → ℕ) (d : Draft) (s : Pass) : Type 0 where
  counts : Counts gate d s
  no_list : s.bound ≡ 0

prefix_counts : (gate : ℕ → ℕ) (ls : List Line) (st : Stored) (s : Pass) → Between gate st.draft s → Between gate (store_prefix st ls).draft (outer_tokens (prefix_tokens ls) s)
unfolding store_prefix prefix_tokens outer_tokens line_variables block_added variables_added numbers_of
prefix_counts gate [] st s m = m
prefix_counts gate (l ∷ ls) st s m =
    let xs : List Name = l.others in
    let n : length (numbers_of (l.first ∷ xs)) ≡ suc (length xs) = length-map (l.first ∷ xs) (λ x. x.number) in
    let t : Pass = outer_tokens (prefix_tokens ls) s in
    let b : Between gate (store_prefix st ls).draft t = prefix_counts gate ls st s m in
    let z = b.no_list in
    subst (λ (p : Pass). Between gate (store_prefix st (l ∷ ls)).draft p)
    (sym (outer_append (list_tokens (line_role l.quantifier) later_role l.first xs) (prefix_tokens ls) s ∙ line_pass l.quantifier l.first xs t))
    (record {
      counts = counts_block [] gate l.quantifier (numbers_of (l.first ∷ xs)) (store_prefix st ls) (variables_added (suc (length xs)) t) b.counts (omega arith);
      no_list = refl;
    })

-- The output, after the gates.
output_counts : (gates : List ℕ) (d : Draft) (s : Pass) (l : Literal) → Done gates d s → Between d.gate (store_literal d l).draft (output_added (output_role l.minus) (get_or gates l.name.number 0) s)
unfolding output_added
output_counts gates d s l m =
    let x : ℕ = l.name.number in
    let p = ap (λ (t : Bool). pick {A = ℕ} t 1 0) (m.named x) in
    let q = ap (λ (t : Bool). pick {A = ℕ} t 1 0) (output_minus l.minus) in
    let e : s.nodes + pick (eqb (d.gate x) 0) 1 0 + pick l.minus 1 0 ≡ s.nodes + pick (eqb (get_or gates x 0) 0) 1 0 + pick (is_minus (output_role l.minus)) 1 0 = omega arith in
    record {
      counts = subst (λ (j : ℕ). Measured d.gate (store_literal d l).draft j s.entries s.excess) e (measured_literal d.gate d s.nodes s.entries s.excess m.counts l);
      no_list = refl;
    }

-- The first definitions of a file are those among its gates' tokens.
file_definition : (f : File) (x : ℕ) → definition_from 0 (file_tokens f) x ≡ definition_from (suc (length (free_tokens f.free ++ prefix_tokens f.prefix))) (gates_tokens f.gates) x
unfolding definition_from output_token token
file_definition f x =
    let front : List Token = free_tokens f.free ++ prefix_tokens f.prefix in
    let e : 0 + length front ≡ length front = omega arith in
    ap (λ (ts : List Token). definition_from 0 ts x) (file_parts f)
    ∙ definition_quiet 0 (output_token f.output ∷ gates_tokens f.gates) x (front_no_definition f)
    ∙ ap (λ (k : ℕ). definition_from k (output_token f.output ∷ gates_tokens f.gates) x) e
    ∙ pick_no _ _ _ (and_off_left _ _ (output_no_definition f.output.minus))

-- The whole file.
whole_counts : (f : File) (gates : List ℕ) → Definitions gates (file_tokens f) → Counts (store_gates empty_draft f.gates).gate (store_file f).draft (file_pass gates 0 (file_tokens f))
unfolding store_file store_matrix file_pass output_token token empty_draft
whole_counts f gates h =
    let front : List Token = free_tokens f.free ++ prefix_tokens f.prefix in
    let rest : List Token = output_token f.output ∷ gates_tokens f.gates in
    let n : ℕ = length front in
    let d : Draft = store_gates empty_draft f.gates in
    let s : Pass = gates_pass gates (suc n) (gates_tokens f.gates) start in
    let o : Pass = output_added (output_role f.output.minus) (get_or gates f.output.name.number 0) s in
    let done : Done gates d s = gates_counts gates f.gates (suc n) start empty_draft measured_empty (λ x. to_come refl (h.holds x ∙ file_definition f x)) in
    let b : Between d.gate (store_file f).draft (outer_tokens (prefix_tokens f.prefix) o) = prefix_counts d.gate f.prefix (store_literal d f.output) o (output_counts gates d s f.output done) in
    let e : 0 + n ≡ n = omega arith in
    subst (λ (p : Pass). Counts d.gate (store_file f).draft p)
    (sym
    (ap (file_pass gates 0) (file_parts f)
    ∙ file_outer gates 0 rest (front_outer f)
    ∙ ap (λ (k : ℕ). outer_tokens front (file_pass gates k rest)) e
    ∙ ap (outer_tokens front) (pick_no _ _ _ (output_no_outer f.output.minus))
    ∙ outer_append (free_tokens f.free) (prefix_tokens f.prefix) o
    ∙ free_pass (outer_tokens (prefix_tokens f.prefix) o) (free_is f.free)))
    b.counts

-- The sizes are those of the file's table.
pub sizes-of_file : (f : File) (gates : List ℕ) → Definitions gates (file_tokens f) → (s : Pass) → s ≡ file_pass gates 0 (file_tokens f) → (s.nodes ≡ node_count (table_words f)) × (s.entries ≡ length (table_list f)) × (s.excess ≡ lowest_below (too_many_variables limit (table_words f)) (node_count (table_words f)))
unfolding table_words table_list
sizes-of_file f gates h s e =
    let m = subst (λ (t : Pass). Counts (store_gates empty_draft f.gates).gate (store_file f).draft t) (sym e) (whole_counts f gates h) in
    let n : node_count (store_file f).draft.words ≡ s.nodes = node_count_lem (store_file f).draft.words s.nodes m.whole in
    (sym n, sym m.listed, sym m.excess_is ∙ ap (lowest_below (too_many_variables limit (store_file f).draft.words)) (sym n))
