-- Passes over held tokens: what is left of a pass, and how large the counts are.
-- Assumes nothing.
use mathlib.Core.Bool.{Bool, true, false, not}
use mathlib.Core.List.{List}
use mathlib.Core.Path.{◌≡◌, refl, sym, ◌∙◌, ap}
use Prim.Native.Nat.{ℕ, zero, suc, ◌+◌, ◌-◌, ◌≤◌, ◌<◌}
use native.Mathlib.Numerals.{add-one}
use native.Mathlib.Omega.{arith}
use mir.Val.{bool_byte}
use lib.Dec.{eqb, leb}
use lib.ListN.{get_or}
use Rattle.lists.specs.Choice.{pick, pick_yes, pick_no}
use Rattle.lists.proofs.Parts.{pick_le}
use Rattle.qcir_tokens.specs.Tokens.{Token, is_outer, is_free, is_definition, is_bound, is_input, is_minus}
use Rattle.qcir_tokens.specs.Held.{token_at, tokens_from}
use Rattle.qcir_tokens.proofs.Parts.{tokens_end, tokens_next}
use Rattle.qcir_table_sizes.specs.declared.Pass.{Pass}
use Rattle.qcir_table_sizes.specs.Pass.{Small, Room, is_earlier, start, block_added, operand_added, input_added, line_begun, variable_added, constant_added, gate_step, gates_pass, output_added, outer_step, outer_pass, file_pass}

-- what holds of both holds of the one picked
pub pick_either : {A : Type 0} (P : A → Type 0) (t : Bool) (a b : A) → P a → P b → P (pick t a b)
unfolding pick
pick_either P true a b p q = p
pick_either P false a b p q = q

-- The counts stay small.
pub small_start : (n : ℕ) → Small n start
small_start n = record { few_nodes = omega arith; few_entries = omega arith }

pub small_most : (m n : ℕ) {s : Pass} → Small m s → m ≤ n → Small n s
small_most m n h l =
    let a = h.few_nodes in
    let b = h.few_entries in
    record { few_nodes = omega arith; few_entries = omega arith }

pub small_room : (n : ℕ) (s : Pass) → n ≤ 200000 → Small n s → Room 1000000 s
small_room n s h m =
    let a = m.few_nodes in
    let b = m.few_entries in
    record { nodes_low = omega arith; entries_low = omega arith }

module _ (n : ℕ) (s : Pass) (m : Small n s) where
  small_line : (i : ℕ) → Small (suc n) (line_begun i s)
  unfolding line_begun
  small_line i =
      let a = m.few_nodes in
      let b = m.few_entries in
      record { few_nodes = omega arith; few_entries = omega arith }

  small_variable : Small (suc n) (variable_added s)
  unfolding variable_added
  small_variable =
      let a = m.few_nodes in
      let b = m.few_entries in
      record { few_nodes = omega arith; few_entries = omega arith }

  small_constant : Small (suc n) (constant_added s)
  unfolding constant_added
  small_constant =
      let a = m.few_nodes in
      let b = m.few_entries in
      record { few_nodes = omega arith; few_entries = omega arith }

  small_same : Small (suc n) s
  small_same =
      let a = m.few_nodes in
      let b = m.few_entries in
      record { few_nodes = omega arith; few_entries = omega arith }

  small_input : (role gate : ℕ) → Small (suc n) (input_added role gate s)
  unfolding input_added operand_added block_added
  small_input role gate =
      let a = m.few_nodes in
      let b = m.few_entries in
      let x = pick_le (not (is_earlier gate s.line)) 1 in
      let y = pick_le (is_minus role) 1 in
      let z = pick_le (not s.first) 1 in
      pick_either (Small (suc n)) (eqb s.bound 0) (operand_added role gate s) (block_added (operand_added role gate s))
      (record { few_nodes = omega arith; few_entries = omega arith })
      (record { few_nodes = omega arith; few_entries = omega arith })

  pub small_gate : (role gate i : ℕ) → Small (suc n) (gate_step role gate i s)
  unfolding gate_step
  small_gate role gate i =
      pick_either (Small (suc n)) (is_definition role) (line_begun i s) _ (small_line i)
      (pick_either (Small (suc n)) (is_bound role) (variable_added s) _ small_variable
      (pick_either (Small (suc n)) (is_input role) (input_added role gate s) (constant_added s) (small_input role gate) small_constant))

  pub small_output : (role gate : ℕ) → Small (suc n) (output_added role gate s)
  unfolding output_added
  small_output role gate =
      let a = m.few_nodes in
      let b = m.few_entries in
      let x = pick_le (eqb gate 0) 1 in
      let y = pick_le (is_minus role) 1 in
      record { few_nodes = omega arith; few_entries = omega arith }

  pub small_outer : (role : ℕ) → Small (suc n) (outer_step role s)
  unfolding outer_step variable_added block_added
  small_outer role =
      let a = m.few_nodes in
      let b = m.few_entries in
      pick_either (Small (suc n)) (is_free role) s _ small_same
      (pick_either (Small (suc n)) (leb role 8) (block_added (variable_added s)) (variable_added s)
      (record { few_nodes = omega arith; few_entries = omega arith })
      small_variable)

-- There is room for a block after one input or variable more.
module _ (s : Pass) (m : Room 1000000 s) where
  pub operand_room : (role gate : ℕ) → Room 2000000 (operand_added role gate s)
  unfolding operand_added
  operand_room role gate =
      let a = m.nodes_low in
      let b = m.entries_low in
      let x = pick_le (not (is_earlier gate s.line)) 1 in
      let y = pick_le (is_minus role) 1 in
      let z = pick_le (not s.first) 1 in
      record { nodes_low = omega arith; entries_low = omega arith }

  pub variable_room : Room 2000000 (variable_added s)
  unfolding variable_added
  variable_room =
      let a = m.nodes_low in
      let b = m.entries_low in
      record { nodes_low = omega arith; entries_low = omega arith }

-- A pass from its parts.
pub byte_is : (b : Bool) → bool_byte b ≡ pick b 1 0
unfolding pick
byte_is true = refl
byte_is false = refl

pub operand_is : (role gate : ℕ) (s : Pass) (v n o : ℕ) → v ≡ pick (not (is_earlier gate s.line)) 1 0 → n ≡ pick (is_minus role) 1 0 → o ≡ pick (not s.first) 1 0 → record { nodes = s.nodes + v + n + o; entries = s.entries; excess = s.excess; line = s.line; bound = s.bound; first = false } ≡ operand_added role gate s
unfolding operand_added
operand_is role gate s v n o p q r =
    λ i. record { nodes = s.nodes + p i + q i + r i; entries = s.entries; excess = s.excess; line = s.line; bound = s.bound; first = false }

pub output_is : (role gate : ℕ) (s : Pass) (v n : ℕ) → v ≡ pick (eqb gate 0) 1 0 → n ≡ pick (is_minus role) 1 0 → record { nodes = s.nodes + v + n; entries = s.entries; excess = s.excess; line = s.line; bound = 0; first = s.first } ≡ output_added role gate s
unfolding output_added
output_is role gate s v n p q =
    λ i. record { nodes = s.nodes + p i + q i; entries = s.entries; excess = s.excess; line = s.line; bound = 0; first = s.first }

-- A pass over `count` tokens.
module _ (roles numbers : List ℕ) (count : ℕ) (gates : List ℕ) where
  -- What is left to do from token i on, with the counts s, gives the whole pass from token `from` on.
  pub record Left (from i : ℕ) (s : Pass) : Type 0 where
    pub small : Small i s
    pub leads : (ps : List ℕ) → gates_pass gates i (tokens_from roles numbers ps i (count - i)) s ≡ gates_pass gates from (tokens_from roles numbers ps from (count - from)) start

  pub left_start : (from : ℕ) → Left from from start
  left_start from = record { small = small_start from; leads = λ ps. refl }

  pub left_more : (from i : ℕ) (s : Pass) → i < count → Left from i s → Left from (i + 1) (gate_step (get_or roles i 0) (get_or gates (get_or numbers i 0) 0) i s)
  unfolding gates_pass token_at
  left_more from i s h l =
      rw (add-one i)
      (record {
        small = small_gate i s l.small (get_or roles i 0) (get_or gates (get_or numbers i 0) 0) i;
        leads = λ ps. sym (ap (λ (ts : List Token). gates_pass gates i ts s) (tokens_next roles numbers ps count i h)) ∙ l.leads ps;
      })

  pub left_none : (from i : ℕ) (s : Pass) → count ≤ i → Left from i s → (ps : List ℕ) → s ≡ gates_pass gates from (tokens_from roles numbers ps from (count - from)) start
  unfolding gates_pass
  left_none from i s h l ps = sym (ap (λ (ts : List Token). gates_pass gates i ts s) (tokens_end roles numbers ps count i h)) ∙ l.leads ps

  pub file_none : (ps : List ℕ) (i : ℕ) → count ≤ i → start ≡ file_pass gates i (tokens_from roles numbers ps i (count - i))
  unfolding file_pass
  file_none ps i h = sym (ap (file_pass gates i) (tokens_end roles numbers ps count i h))

  pub file_output : (ps : List ℕ) (i : ℕ) (s : Pass) → i < count → is_outer (get_or roles i 0) ≡ false → s ≡ gates_pass gates (i + 1) (tokens_from roles numbers ps (i + 1) (count - (i + 1))) start → output_added (get_or roles i 0) (get_or gates (get_or numbers i 0) 0) s ≡ file_pass gates i (tokens_from roles numbers ps i (count - i))
  unfolding file_pass token_at
  file_output ps i s h o e =
      ap (output_added (get_or roles i 0) (get_or gates (get_or numbers i 0) 0)) (e ∙ ap (λ (k : ℕ). gates_pass gates k (tokens_from roles numbers ps k (count - k)) start) (add-one i))
      ∙ sym (ap (file_pass gates i) (tokens_next roles numbers ps count i h) ∙ pick_no _ _ _ o)

  -- The tokens below `end` are entries of the free line and the prefix lines.
  pub outer_whole : (ps : List ℕ) (end i : ℕ) → end ≤ count → ((j : ℕ) → j < end → is_outer (get_or roles j 0) ≡ true) → i ≤ end → outer_pass roles i (file_pass gates i (tokens_from roles numbers ps i (count - i))) ≡ file_pass gates 0 (tokens_from roles numbers ps 0 count)
  unfolding outer_pass file_pass token_at
  outer_whole ps end zero h o l =
      let e : count - 0 ≡ count = omega arith in ap (λ (k : ℕ). file_pass gates 0 (tokens_from roles numbers ps 0 k)) e
  outer_whole ps end (suc i) h o l =
      ap (outer_pass roles i) (sym (ap (file_pass gates i) (tokens_next roles numbers ps count i (omega arith)) ∙ pick_yes _ _ _ (o i (omega arith))))
      ∙ outer_whole ps end i h o (omega arith)

-- What is left of the pass over the tokens below `end`, from token i - 1 down.
pub record OuterLeft (roles : List ℕ) (end : ℕ) (inner : Pass) (i : ℕ) (s : Pass) : Type 0 where
  pub small : Small (32769 + (end - i)) s
  pub leads : outer_pass roles i s ≡ outer_pass roles end inner

pub outer_start : (roles : List ℕ) (end : ℕ) (inner : Pass) → Small 32769 inner → OuterLeft roles end inner end inner
outer_start roles end inner m =
    let e : 32769 + (end - end) ≡ 32769 = omega arith in record { small = rw e m; leads = refl }

pub outer_more : (roles : List ℕ) (end : ℕ) (inner : Pass) (i : ℕ) (s : Pass) → 0 < i → i ≤ end → OuterLeft roles end inner i s → OuterLeft roles end inner (i - 1) (outer_step (get_or roles (i - 1) 0) s)
unfolding outer_pass
outer_more roles end inner i s h l m =
    let a : suc (i - 1) ≡ i = omega arith in
    let e : 32769 + (end - (i - 1)) ≡ suc (32769 + (end - i)) = omega arith in
    record {
      small = rw e (small_outer (32769 + (end - i)) s m.small (get_or roles (i - 1) 0));
      leads = ap (λ (k : ℕ). outer_pass roles k s) a ∙ m.leads;
    }

pub outer_none : (roles : List ℕ) (end : ℕ) (inner : Pass) (i : ℕ) (s : Pass) → i ≡ 0 → OuterLeft roles end inner i s → s ≡ outer_pass roles end inner
unfolding outer_pass
outer_none roles end inner i s e m = ap (λ (k : ℕ). outer_pass roles k s) (sym e) ∙ m.leads
