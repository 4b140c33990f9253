-- The lines of a form's file: every position is 0, and the gate lines are of the shapes that are written.
-- Assumes nothing.
use mathlib.Core.Path.{◌≡◌, refl, sym, ◌∙◌, ap, subst}
use mathlib.Core.Bool.{Bool, true, xor}
use mathlib.Core.List.{List, [], ◌∷◌, ◌++◌, append-nil}
use Prim.Native.Nat.{ℕ, zero, suc, ◌+◌}
use native.Mathlib.Omega.{arith}
use lib.ListN.{length, length-append}
use Rattle.lists.specs.Choice.{pick, pick_yes, pick_no, Is, is_true, is_false, look, clash, and_right}
use Rattle.lists.specs.Parts.{up_to, sum}
use Rattle.formula.specs.Node.{Node, constant, variable, negation, operator, block, Table}
use Rattle.formula.specs.Truth.{digit}
use Rattle.qcir.specs.File.{Literal, Gate}
use Rattle.qcir_form.specs.Rows.{RowKind, constant_row, left_row, right_row, and_row, xor_row, row}
use Rattle.qcir_form.specs.File.{written, turned, unsigned, row_has_gate, has_gate, row_literal, node_literal, literal_at, node_literal_of, row_gates, node_gates, is_gate, gate_number, gates_of}
use Rattle.qcir_round_trip.proofs.Shapes.{Shape, one, both, differ, Shapes, no_gate, a_gate, Unplaced}

-- What stands for a node.
turned_unplaced : (s : Bool) (l : Literal) → Unplaced l → Unplaced (turned s l)
unfolding turned
turned_unplaced s l e = λ i. record { minus = xor s l.minus; name = (e i).name }

row_unplaced : (k : RowKind) (s : Bool) (g : ℕ) (l m : Literal) → Unplaced l → Unplaced m → Unplaced (row_literal k s g l m)
unfolding row_literal
row_unplaced constant_row s g l m e h = refl
row_unplaced left_row s g l m e h = turned_unplaced s l e
row_unplaced right_row s g l m e h = turned_unplaced s m h
row_unplaced and_row s g l m e h = refl
row_unplaced xor_row s g l m e h = refl

node_unplaced : (at : ℕ → Literal) (g : ℕ) (nd : Node) → ((a : ℕ) → Unplaced (at a)) → Unplaced (node_literal at g nd)
unfolding node_literal
node_unplaced at g (constant c) h = refl
node_unplaced at g (variable x) h = refl
node_unplaced at g (negation a) h = turned_unplaced true (at a) (h a)
node_unplaced at g (operator f a b) h = row_unplaced (row f).kind (row f).whole g (at a) (at b) (h a) (h b)
node_unplaced at g (block q xs a) h = refl

literal_unplaced : (f : ℕ) (node : ℕ → Node) (gate : ℕ → ℕ) (i : ℕ) → Unplaced (literal_at f node gate i)
unfolding literal_at
literal_unplaced zero node gate i = refl
literal_unplaced (suc f) node gate i = node_unplaced (literal_at f node gate) (gate i) (node i) (literal_unplaced f node gate)

pub output_unplaced : (t : Table) (first i : ℕ) → Unplaced (node_literal_of t first i)
unfolding node_literal_of
output_unplaced t first i = literal_unplaced t.size t.node (gate_number t first) i

-- The gate line of a row that has one.
pub record OneShape (g : ℕ) (gs : List Gate) : Type 0 where
  pub gate : Gate
  pub only : gs ≡ gate ∷ []
  pub shape : Shape g gate

row_shape : (k : RowKind) (s r : Bool) (g : ℕ) (l m : Literal) → Unplaced l → Unplaced m → row_has_gate k ≡ true
    → OneShape g (row_gates k s r g l m)
unfolding row_has_gate row_gates turned unsigned
row_shape constant_row s r g l m e h y = record { gate = _; only = refl; shape = one }
row_shape left_row s r g l m e h y = clash y refl
row_shape right_row s r g l m e h y = clash y refl
row_shape and_row s r g l m e h y =
    record {
      gate = _;
      only = λ i. row_gates and_row s r g (e i) (h i);
      shape = both (xor s l.minus) (xor r m.minus) l.name.number m.name.number;
    }
row_shape xor_row s r g l m e h y =
    record { gate = _; only = λ i. row_gates xor_row s r g (e i) (h i); shape = differ l.name.number m.name.number }

node_shape_lem : (at : ℕ → Literal) (g : ℕ) (nd : Node) → ((a : ℕ) → Unplaced (at a)) → has_gate nd ≡ true → OneShape g (node_gates at g nd)
unfolding has_gate node_gates
node_shape_lem at g (constant c) h y = record { gate = _; only = refl; shape = one }
node_shape_lem at g (variable x) h y = clash y refl
node_shape_lem at g (negation a) h y = clash y refl
node_shape_lem at g (operator f a b) h y = row_shape (row f).kind (row f).left (row f).right g (at a) (at b) (h a) (h b) y
node_shape_lem at g (block q xs a) h y = clash y refl

-- One line more.
shapes_more : (n m : ℕ) (gs : List Gate) (g : Gate) → Shapes n gs → m ≡ n + length gs → Shape m g → Shapes n (gs ++ (g ∷ []))
shapes_more n m [] g no_gate e s = let q : m ≡ n = omega arith in a_gate (subst (λ k. Shape k g) q s) no_gate
shapes_more n m (h ∷ gs) g (a_gate p ps) e s = a_gate p (shapes_more (suc n) m gs g ps (omega arith) s)

module _ (t : Table) (first : ℕ) where
  abbrev lines : ℕ → List Gate
  lines i = pick (is_gate t i) (node_gates (node_literal_of t first) (gate_number t first i) (t.node i)) []

  -- the lines of the first k nodes, and the next gate's number
  record ShapesTo (k : ℕ) : Type 0 where
    shapes : Shapes first (up_to lines k)
    next : gate_number t first k ≡ first + length (up_to lines k)

  shapes_to : (k : ℕ) → ShapesTo k
  unfolding up_to is_gate gate_number sum digit
  shapes_to zero = record { shapes = no_gate; next = omega arith }
  shapes_to (suc k) = go (shapes_to k) (look (is_gate t k))
    where
      go : ShapesTo k → Is (is_gate t k) → ShapesTo (suc k)
      go r (is_true e) =
          let at = node_literal_of t first in
          let n = gate_number t first k in
          let s = node_shape_lem at n (t.node k) (output_unplaced t first) (and_right (written t k) _ e) in
          let line : lines k ≡ s.gate ∷ [] = pick_yes _ _ _ e ∙ s.only in
          let both : up_to lines (suc k) ≡ up_to lines k ++ (s.gate ∷ []) = ap (λ l. up_to lines k ++ l) line in
          record {
            shapes = subst (Shapes first) (sym both) (shapes_more first n (up_to lines k) s.gate r.shapes r.next s.shape);
            next = omega (arith, ap digit e, r.next, ap length both, length-append (up_to lines k) (s.gate ∷ []));
          }
      go r (is_false e) =
          let none : up_to lines (suc k) ≡ up_to lines k = ap (λ l. up_to lines k ++ l) (pick_no _ _ _ e) ∙ append-nil _ in
          record {
            shapes = subst (Shapes first) (sym none) r.shapes;
            next = omega (arith, ap digit e, r.next, ap length none);
          }

  pub gates_shapes : Shapes first (gates_of t first)
  unfolding gates_of
  gates_shapes = (shapes_to t.size).shapes
