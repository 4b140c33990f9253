-- The value of one node of the file of a form: what stands for it has, after its gate line, the node's value, if what stands for its
-- operands has theirs.
-- Assumes nothing.
use mathlib.Core.Path.{◌≡◌, refl, sym, ◌∙◌, ap, ap₂}
use mathlib.Core.Bool.{Bool, true, false, not, ◌&&◌, xor}
use mathlib.Core.List.{[], ◌∷◌}
use Prim.Native.Nat.{ℕ}
use lib.Dec.{eqb}
use borrow.Author.Tests.{eq-eqb}
use Rattle.lists.specs.Choice.{pick, pick_yes, pick_no, clash}
use Rattle.lists.specs.Members.{mem}
use Rattle.lists.proofs.Members.{mem_head, mem_tail}
use Rattle.formula.specs.Node.{Node, constant, variable, negation, operator, block}
use Rattle.formula.specs.Valuation.{Valuation}
use Rattle.formula.specs.Truth.{node_value}
use Rattle.acceptance.proofs.Matrix.{MatrixNode}
use Rattle.qcir.specs.File.{Literal, conjunction, Gate, junction_gate, xor_gate, gate_name}
use Rattle.qcir.specs.Meaning.{Meaning, literal_value, junction_value, gate_value, meaning}
use Rattle.qcir_form.specs.Rows.{RowKind, constant_row, left_row, right_row, and_row, xor_row, row, kind_value, row_value}
use Rattle.qcir_form.specs.File.{row_operands, used_operands, named, literal, turned, unsigned, row_has_gate, has_gate, row_literal, node_literal, row_gates, node_gates}
use Rattle.qcir_form.proofs.Rows.{row_rule, signs_operands, left_unsigned, right_unsigned}

-- Exclusive or.

xor_off : (b : Bool) → xor false b ≡ b
unfolding xor
xor_off true = refl
xor_off false = refl

xor_on : (b : Bool) → xor true b ≡ not b
unfolding xor
xor_on true = refl
xor_on false = refl

xor_swap : (a b : Bool) → xor a b ≡ xor b a
unfolding xor
xor_swap true true = refl
xor_swap true false = refl
xor_swap false true = refl
xor_swap false false = refl

xor_group : (a b c : Bool) → xor (xor a b) c ≡ xor a (xor b c)
unfolding xor
xor_group true true true = refl
xor_group true true false = refl
xor_group true false true = refl
xor_group true false false = refl
xor_group false true true = refl
xor_group false true false = refl
xor_group false false true = refl
xor_group false false false = refl

-- signs move outside
xor_outside : (a p b q : Bool) → xor (xor a b) (xor p q) ≡ xor (xor a p) (xor b q)
xor_outside a p b q =
    xor_group a b (xor p q)
    ∙ ap (xor a) (sym (xor_group b p q) ∙ ap (λ s. xor s q) (xor_swap b p) ∙ xor_group p b q)
    ∙ sym (xor_group a p (xor b q))

-- Literals: a sign is an exclusive or.

module _ (m : Meaning) (v : Valuation) where
  literal_sign : (l : Literal) → literal_value m l v ≡ xor l.minus (m l.name.number v)
  unfolding literal_value pick
  literal_sign l = go l.minus (m l.name.number v)
    where
      go : (s b : Bool) → pick s (not b) b ≡ xor s b
      go true b = sym (xor_on b)
      go false b = sym (xor_off b)

  pub literal_turned : (s : Bool) (l : Literal) → literal_value m (turned s l) v ≡ xor s (literal_value m l v)
  unfolding turned
  literal_turned s l =
      literal_sign (turned s l) ∙ xor_group s l.minus (m l.name.number v) ∙ ap (xor s) (sym (literal_sign l))

  unsigned_value : (l : Literal) → literal_value m (unsigned l) v ≡ m l.name.number v
  unfolding unsigned
  unsigned_value l = literal_sign (unsigned l) ∙ xor_off (m l.name.number v)

-- A literal has the same value where its name has.
pub literal_kept : (m n : Meaning) (v : Valuation) (l : Literal) → m l.name.number v ≡ n l.name.number v
    → literal_value m l v ≡ literal_value n l v
literal_kept m n v l e = literal_sign m v l ∙ ap (xor l.minus) e ∙ sym (literal_sign n v l)

-- A gate line gives its name the gate's value, and keeps every other.

one_line : (m : Meaning) (g : Gate) (v : Valuation) → meaning m (g ∷ []) (gate_name g).number v ≡ gate_value m g v
unfolding meaning
one_line m g v = pick_yes _ _ _ (eq-eqb (gate_name g).number (gate_name g).number refl)

line_kept : (m : Meaning) (g : Gate) (x : ℕ) (v : Valuation) → eqb x (gate_name g).number ≡ false → meaning m (g ∷ []) x v ≡ m x v
unfolding meaning
line_kept m g x v e = pick_no _ _ _ e

row_kept : (k : RowKind) (left right : Bool) (m : Meaning) (g : ℕ) (a b : Literal) (x : ℕ) (v : Valuation) → eqb x g ≡ false
    → meaning m (row_gates k left right g a b) x v ≡ m x v
unfolding row_gates meaning gate_name
row_kept constant_row left right m g a b x v e = line_kept m (junction_gate conjunction (named g) []) x v e
row_kept left_row left right m g a b x v e = refl
row_kept right_row left right m g a b x v e = refl
row_kept and_row left right m g a b x v e = line_kept m (junction_gate conjunction (named g) (turned left a ∷ turned right b ∷ [])) x v e
row_kept xor_row left right m g a b x v e = line_kept m (xor_gate (named g) (unsigned a) (unsigned b)) x v e

pub gates_kept : (nd : Node) (at : ℕ → Literal) (m : Meaning) (g x : ℕ) (v : Valuation) → eqb x g ≡ false
    → meaning m (node_gates at g nd) x v ≡ m x v
unfolding node_gates meaning gate_name
gates_kept (constant c) at m g x v e = line_kept m (junction_gate conjunction (named g) []) x v e
gates_kept (variable y) at m g x v e = refl
gates_kept (negation a) at m g x v e = refl
gates_kept (operator f a b) at m g x v e = row_kept (row f).kind (row f).left (row f).right m g (at a) (at b) x v e
gates_kept (block q xs a) at m g x v e = refl

-- A node that is not written as a gate has no gate line.

row_no_gates : (k : RowKind) (left right : Bool) (g : ℕ) (a b : Literal) → row_has_gate k ≡ false → row_gates k left right g a b ≡ []
unfolding row_has_gate row_gates
row_no_gates constant_row left right g a b e = clash refl e
row_no_gates left_row left right g a b e = refl
row_no_gates right_row left right g a b e = refl
row_no_gates and_row left right g a b e = clash refl e
row_no_gates xor_row left right g a b e = clash refl e

pub no_gates : (nd : Node) (at : ℕ → Literal) (g : ℕ) → has_gate nd ≡ false → node_gates at g nd ≡ []
unfolding has_gate node_gates
no_gates (constant c) at g e = clash refl e
no_gates (variable x) at g e = refl
no_gates (negation a) at g e = refl
no_gates (operator f a b) at g e = row_no_gates (row f).kind (row f).left (row f).right g (at a) (at b) e
no_gates (block q xs a) at g e = refl

-- The literal of a gate, after its line.
gate_literal : (m : Meaning) (g : Gate) (s : Bool) (v : Valuation)
    → literal_value (meaning m (g ∷ [])) (literal s (gate_name g).number) v ≡ xor s (gate_value m g v)
gate_literal m g s v =
    literal_sign (meaning m (g ∷ [])) v (literal s (gate_name g).number) ∙ ap (xor s) (one_line m g v)

-- a constant is `and()`, with a minus for 0
constant_sign : (c : Bool) → xor (not c) true ≡ c
unfolding xor
constant_sign true = refl
constant_sign false = refl

and_on : (b : Bool) → (b && true) ≡ b
and_on true = refl
and_on false = refl

module _ (m : Meaning) (at : ℕ → Literal) (val : ℕ → Valuation → Bool) (g : ℕ) (v : Valuation) where
  -- What a row says, if it has signs on operands only where its kind does.
  row_says : (k : RowKind) (left right whole : Bool) (a b : ℕ)
      → (signs_operands k ≡ false → left ≡ false) → (signs_operands k ≡ false → right ≡ false)
      → ((c : ℕ) → mem c (row_operands k a b) ≡ true → literal_value m (at c) v ≡ val c v)
      → literal_value (meaning m (row_gates k left right g (at a) (at b))) (row_literal k whole g (at a) (at b)) v
      ≡ xor whole (kind_value k (xor left (val a v)) (xor right (val b v)))
  unfolding row_gates row_literal row_operands kind_value signs_operands meaning gate_name gate_value junction_value
  row_says constant_row left right whole a b ls rs same = gate_literal m (junction_gate conjunction (named g) []) whole v
  row_says left_row left right whole a b ls rs same =
      literal_turned m v whole (at a)
      ∙ ap (xor whole) (same a (mem_head a []) ∙ sym (ap (λ s. xor s (val a v)) (ls refl) ∙ xor_off (val a v)))
  row_says right_row left right whole a b ls rs same =
      literal_turned m v whole (at b)
      ∙ ap (xor whole) (same b (mem_head b []) ∙ sym (ap (λ s. xor s (val b v)) (rs refl) ∙ xor_off (val b v)))
  row_says and_row left right whole a b ls rs same =
      let l : literal_value m (turned left (at a)) v ≡ xor left (val a v) =
      literal_turned m v left (at a) ∙ ap (xor left) (same a (mem_head a (b ∷ []))) in
      let r : literal_value m (turned right (at b)) v ≡ xor right (val b v) =
      literal_turned m v right (at b) ∙ ap (xor right) (same b (mem_tail b a (b ∷ []) (mem_head b []))) in
      gate_literal m (junction_gate conjunction (named g) (turned left (at a) ∷ turned right (at b) ∷ [])) whole v
      ∙ ap (xor whole) (ap₂ ◌&&◌ l (and_on (literal_value m (turned right (at b)) v) ∙ r))
  row_says xor_row left right whole a b ls rs same =
      let l : xor (at a).minus (m (at a).name.number v) ≡ xor left (val a v) =
      sym (literal_sign m v (at a)) ∙ same a (mem_head a (b ∷ [])) ∙ sym (ap (λ s. xor s (val a v)) (ls refl) ∙ xor_off (val a v)) in
      let r : xor (at b).minus (m (at b).name.number v) ≡ xor right (val b v) =
      sym (literal_sign m v (at b)) ∙ same b (mem_tail b a (b ∷ []) (mem_head b [])) ∙ sym (ap (λ s. xor s (val b v)) (rs refl) ∙ xor_off (val b v)) in
      gate_literal m (xor_gate (named g) (unsigned (at a)) (unsigned (at b))) (xor whole (xor (at a).minus (at b).minus)) v
      ∙ ap (xor (xor whole (xor (at a).minus (at b).minus))) (ap₂ xor (unsigned_value m v (at a)) (unsigned_value m v (at b)))
      ∙ xor_group whole (xor (at a).minus (at b).minus) (xor (m (at a).name.number v) (m (at b).name.number v))
      ∙ ap (xor whole)
      (xor_outside (at a).minus (m (at a).name.number v) (at b).minus (m (at b).name.number v) ∙ ap₂ xor l r)

  pub node_says : (most : ℕ) (nd : Node) → MatrixNode most nd
      → ((x : ℕ) → nd ≡ variable x → m x v ≡ v x)
      → ((a : ℕ) → mem a (used_operands nd) ≡ true → literal_value m (at a) v ≡ val a v)
      → literal_value (meaning m (node_gates at g nd)) (node_literal at g nd) v ≡ node_value val nd v
  unfolding node_gates node_literal node_value used_operands meaning gate_name gate_value junction_value row_value
  node_says most (constant c) w names same = gate_literal m (junction_gate conjunction (named g) []) (not c) v ∙ constant_sign c
  node_says most (variable x) w names same = literal_sign m v (literal false x) ∙ xor_off (m x v) ∙ names x refl
  node_says most (negation a) w names same =
      literal_turned m v true (at a) ∙ ap (xor true) (same a (mem_head a [])) ∙ xor_on (val a v)
  node_says most (operator f a b) w names same =
      row_says (row f).kind (row f).left (row f).right (row f).whole a b (left_unsigned f w) (right_unsigned f w) same
      ∙ row_rule f w (val a v) (val b v)
  node_says most (block q xs a) w names same = absurd w
