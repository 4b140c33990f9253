-- The gate lines that are written of the nodes stored for a written file are its gate lines, one after the other.
-- Assumes nothing.
use mathlib.Core.Path.{◌≡◌, refl, sym, ◌∙◌, ap, subst}
use mathlib.Core.Bool.{Bool, true, false, xor}
use mathlib.Core.List.{List, [], ◌∷◌, ◌++◌, append_assoc, append-nil}
use Prim.Native.Nat.{ℕ, suc, ◌+◌, ◌-◌, ◌*◌, ◌<◌}
use native.Mathlib.Omega.{arith}
use lib.Dec.{eqb}
use lib.ListN.{length, length-append}
use borrow.Author.Tests.{eqb-true, eqb-false}
use Rattle.lists.specs.Choice.{pick, pick_yes, pick_no, Is, is_true, is_false, look}
use Rattle.lists.specs.Parts.{up_to, sum}
use Rattle.formula.specs.Node.{Node, constant, variable, negation, operator, Table, is_block}
use Rattle.formula.specs.Words.{width, node_count, words_of, word_list, node_at, table_of}
use Rattle.formula.specs.declared.NodeWords.{NodeWords}
use Rattle.formula.specs.Truth.{digit}
use Rattle.formula.specs.Tree.{Tree}
use Rattle.formula.proofs.Nodes.{words_node}
use Rattle.qcir.specs.File.{Literal, conjunction, Gate, junction_gate, xor_gate, gate_name}
use Rattle.qcir.specs.Table.{Draft, Stored, store, store_name, store_literal, store_inputs, junction_table, empty_value, store_gate, store_gates, empty_draft}
use Rattle.qcir.proofs.StoredWords.{with_node, count_with, whole_with}
use Rattle.qcir_form.specs.Rows.{rows, row_in, row}
use Rattle.qcir_form.specs.File.{written, named, literal, turned, unsigned, row_has_gate, has_gate, row_literal, node_literal, node_literal_of, row_gates, node_gates, is_gate, gate_number}
use Rattle.qcir_form.proofs.Written.{literal_step}
use Rattle.qcir_round_trip.proofs.Words.{First, first_less, first_low, first_node}
use Rattle.qcir_round_trip.proofs.Shapes.{Shape, one, both, differ, Shapes, no_gate, a_gate, Unplaced}
use Rattle.qcir_round_trip.proofs.Stored.{either}

-- What is stored, the name x standing for it from then on.
abbrev naming : ℕ → Stored → Draft
naming x s = record { words = s.draft.words; entries = s.draft.entries; gate = λ y. pick (eqb y x) (suc s.node) (s.draft.gate y) }

-- Storing goes on after the words that are there.
module _ {all : List ℕ} where
  first_store : (d : Draft) (w : NodeWords) → First all (store d w).draft.words → First all d.words
  unfolding store
  first_store d w f = first_less d.words (word_list w) f

  first_name_lem : (d : Draft) (x : ℕ) → First all (store_name d x).draft.words → First all d.words
  unfolding store_name
  first_name_lem d x f =
      either (λ s. First all s.draft.words → First all d.words) (eqb (d.gate x) 0) _ _
      (λ e. first_store d (words_of (variable x))) (λ e g. g) f

  pub first_literal : (d : Draft) (l : Literal) → First all (store_literal d l).draft.words → First all d.words
  unfolding store_literal
  first_literal d l f =
      let s = store_name d l.name.number in
      either (λ u. First all u.draft.words → First all d.words) l.minus _ _
      (λ e g. first_name_lem d l.name.number (first_store s.draft (words_of (negation s.node)) g))
      (λ e g. first_name_lem d l.name.number g) f

  first_two_lem : (d : Draft) (o : ℕ) (l m : Literal) → First all (store_inputs o (store_literal d l) (m ∷ [])).draft.words
      → First all (store_literal (store_literal d l).draft m).draft.words
  unfolding store_inputs
  first_two_lem d o l m f =
      let s = store_literal d l in
      let u = store_literal s.draft m in
      first_store u.draft (words_of (operator o s.node u.node)) f

  first_gate_lem : (n : ℕ) (d : Draft) (g : Gate) → Shape n g → First all (store_gate d g).draft.words → First all d.words
  unfolding store_gate junction_table empty_value
  first_gate_lem n d _ one f = first_store d (words_of (constant true)) f
  first_gate_lem n d _ (both s r x y) f =
      first_literal d (literal s x)
      (first_literal (store_literal d (literal s x)).draft (literal r y) (first_two_lem d 8 (literal s x) (literal r y) f))
  first_gate_lem n d _ (differ x y) f =
      first_literal d (literal false x)
      (first_literal (store_literal d (literal false x)).draft (literal false y) (first_two_lem d 6 (literal false x) (literal false y) f))

  first_gates : (n : ℕ) (d : Draft) (gs : List Gate) → Shapes n gs → First all (store_gates d gs).words → First all d.words
  unfolding store_gates
  first_gates n d [] no_gate f = f
  first_gates n d (g ∷ gs) (a_gate p ps) f = first_gate_lem n d g p (first_gates (suc n) _ gs ps f)

-- a gate line's number
shape_number : (n : ℕ) (g : Gate) → Shape n g → (gate_name g).number ≡ n
unfolding gate_name
shape_number n _ one = refl
shape_number n _ (both s r x y) = refl
shape_number n _ (differ x y) = refl

-- a minus turns the sign, and no sign leaves it
minus_on : (l : Literal) (x : ℕ) → l ≡ literal false x → turned true l ≡ literal true x
unfolding turned xor
minus_on l x e = ap (turned true) e

minus_off : (s : Bool) (x : ℕ) → turned false (literal s x) ≡ literal s x
unfolding turned xor
minus_off true x = refl
minus_off false x = refl

-- All nodes of the table that has the words `all` are written, and the first gate has the number `first`.
module _ (all : List ℕ) (first : ℕ) (tree : Tree (table_of all []))
    (every : (i : ℕ) → i < node_count all → written (table_of all []) i ≡ true) where
  abbrev table : Table
  table = table_of all []

  -- what stands for a node, the number of its gate, and the gate lines of the nodes below it
  abbrev pub at : ℕ → Literal
  at = node_literal_of table first

  abbrev pub number : ℕ → ℕ
  number = gate_number table first

  abbrev pub lines_below : ℕ → List Gate
  lines_below n = up_to (λ i. pick (is_gate table i) (node_gates at (number i) (table.node i)) []) n

  -- One node, stored after whole nodes.
  module _ (ws : List ℕ) (whole : length ws ≡ width * node_count ws) (nd : Node) (plain : is_block nd ≡ false)
      (f : First all (with_node ws (words_of nd))) where
    low : node_count ws < node_count all
    low = first_low all ws (words_of nd) whole f

    node_is : node_at all [] (node_count ws) ≡ nd
    node_is = first_node all ws (words_of nd) whole f [] ∙ words_node [] nd plain

    gate_is : is_gate table (node_count ws) ≡ has_gate nd
    unfolding is_gate table_of
    gate_is = rw (every (node_count ws) low, node_is)

    literal_is : at (node_count ws) ≡ node_literal at (number (node_count ws)) nd
    unfolding node_literal_of table_of
    literal_is = literal_step table tree number (node_count ws) low ∙ ap (node_literal at (number (node_count ws))) node_is

    lines_is : lines_below (suc (node_count ws)) ≡ lines_below (node_count ws) ++ pick (has_gate nd) (node_gates at (number (node_count ws)) nd) []
    unfolding up_to table_of
    lines_is = λ i. lines_below (node_count ws) ++ pick (gate_is i) (node_gates at (number (node_count ws)) (node_is i)) []

    number_is : number (suc (node_count ws)) ≡ number (node_count ws) + digit (has_gate nd)
    unfolding gate_number sum
    number_is = omega (arith, ap digit gate_is)

  -- The lines of the nodes stored so far are gs, and each gate's name is what stands for its node.
  pub record State (d : Draft) (gs : List Gate) : Type 0 where
    pub whole : length d.words ≡ width * node_count d.words
    pub lines : lines_below (node_count d.words) ≡ gs
    pub next : number (node_count d.words) ≡ first + length gs
    pub gates : (x k : ℕ) → d.gate x ≡ suc k → at k ≡ literal false x

  -- A node without a gate line, and one with.
  quiet : (d : Draft) (gs : List Gate) (nd : Node) → is_block nd ≡ false → has_gate nd ≡ false
      → First all (store d (words_of nd)).draft.words → State d gs → State (store d (words_of nd)).draft gs
  unfolding store digit
  quiet d gs nd plain off f p =
      let ws = d.words in
      let c = count_with ws p.whole (words_of nd) in
      record {
        whole = whole_with ws p.whole (words_of nd);
        lines = rw c (lines_is ws p.whole nd plain f ∙ rw (pick_no _ _ _ off) (append-nil _ ∙ p.lines));
        next = rw c (omega (arith, p.next, number_is ws p.whole nd plain f, ap digit off));
        gates = p.gates;
      }

  loud : (d : Draft) (gs : List Gate) (nd : Node) (g : Gate) → is_block nd ≡ false → has_gate nd ≡ true
      → node_gates at (first + length gs) nd ≡ g ∷ [] → First all (store d (words_of nd)).draft.words → State d gs
      → State (store d (words_of nd)).draft (gs ++ (g ∷ []))
  unfolding store digit
  loud d gs nd g plain on line f p =
      let ws = d.words in
      let c = count_with ws p.whole (words_of nd) in
      record {
        whole = whole_with ws p.whole (words_of nd);
        lines = rw c (lines_is ws p.whole nd plain f
            ∙ rw (pick_yes _ _ _ on) (λ i. p.lines i ++ (ap (λ n. node_gates at n nd) p.next ∙ line) i));
        next = rw c (omega (arith, p.next, number_is ws p.whole nd plain f, ap digit on, length-append gs (g ∷ [])));
        gates = p.gates;
      }

  -- What is stored for a literal stands for it.
  pub record Stands (gs : List Gate) (l : Literal) (s : Stored) : Type 0 where
    pub state : State s.draft gs
    pub stands : at s.node ≡ l

  stands_name : (d : Draft) (gs : List Gate) (x : ℕ) → First all (store_name d x).draft.words → State d gs
      → Stands gs (literal false x) (store_name d x)
  unfolding store_name store has_gate is_block node_literal
  stands_name d gs x f p =
      either (λ s. First all s.draft.words → Stands gs (literal false x) s) (eqb (d.gate x) 0) _ _
      (λ e h.
      record {
        state = quiet d gs (variable x) refl refl h p;
        stands = literal_is d.words p.whole (variable x) refl h;
      })
      (λ e h.
      let n : d.gate x ≡ 0 → ⊥ = eqb-false _ _ e in
      record { state = p; stands = p.gates x (d.gate x - 1) (omega arith) })
      f

  stands_signed : (d : Draft) (gs : List Gate) (s : Bool) (x : ℕ) → First all (store_literal d (literal s x)).draft.words → State d gs
      → Stands gs (literal s x) (store_literal d (literal s x))
  unfolding store_literal pick store has_gate is_block node_literal
  stands_signed d gs false x f p = stands_name d gs x f p
  stands_signed d gs true x f p =
      let s = store_name d x in
      let q = stands_name d gs x (first_store s.draft (words_of (negation s.node)) f) p in
      record {
        state = quiet s.draft gs (negation s.node) refl refl f q.state;
        stands = literal_is s.draft.words q.state.whole (negation s.node) refl f ∙ minus_on (at s.node) x q.stands;
      }

  pub stands_literal : (d : Draft) (gs : List Gate) (l : Literal) → Unplaced l → First all (store_literal d l).draft.words → State d gs
      → Stands gs l (store_literal d l)
  stands_literal d gs l e =
      subst (λ (m : Literal). First all (store_literal d m).draft.words → State d gs → Stands gs m (store_literal d m)) (sym e)
      (stands_signed d gs l.minus l.name.number)

  -- the gate lines of operators 8 and 6, and of the constant 1
  and_line : (n a b : ℕ) (s r : Bool) (x y : ℕ) → at a ≡ literal s x → at b ≡ literal r y
      → node_gates at n (operator 8 a b) ≡ junction_gate conjunction (named n) (literal s x ∷ literal r y ∷ []) ∷ []
  unfolding node_gates row row_in rows row_gates
  and_line n a b s r x y e h =
      let l : turned false (at a) ≡ literal s x = ap (turned false) e ∙ minus_off s x in
      let m : turned false (at b) ≡ literal r y = ap (turned false) h ∙ minus_off r y in
      λ i. junction_gate conjunction (named n) (l i ∷ m i ∷ []) ∷ []

  xor_line : (n a b x y : ℕ) → at a ≡ literal false x → at b ≡ literal false y
      → node_gates at n (operator 6 a b) ≡ xor_gate (named n) (literal false x) (literal false y) ∷ []
  unfolding node_gates row row_in rows row_gates unsigned
  xor_line n a b x y e h = λ i. xor_gate (named n) (unsigned (e i)) (unsigned (h i)) ∷ []

  and_literal : (n a b : ℕ) → node_literal at n (operator 8 a b) ≡ literal false n
  unfolding node_literal row row_in rows row_literal
  and_literal n a b = refl

  xor_literal : (n a b x y : ℕ) → at a ≡ literal false x → at b ≡ literal false y → node_literal at n (operator 6 a b) ≡ literal false n
  unfolding node_literal row row_in rows row_literal xor
  xor_literal n a b x y e h = λ i. literal (xor false (xor (e i).minus (h i).minus)) n

  -- What is stored for a gate line gives the line, and its number stands for it.
  record Line (gs : List Gate) (g : Gate) (n : ℕ) (s : Stored) : Type 0 where
    state : State s.draft (gs ++ (g ∷ []))
    stands : at s.node ≡ literal false n

  -- an operator over two literals
  line_two : (d : Draft) (gs : List Gate) (g : Gate) (o : ℕ) (s r : Bool) (x y : ℕ)
      → ((a b : ℕ) → has_gate (operator o a b) ≡ true)
      → ((n a b : ℕ) → at a ≡ literal s x → at b ≡ literal r y → node_literal at n (operator o a b) ≡ literal false n)
      → ((a b : ℕ) → at a ≡ literal s x → at b ≡ literal r y → node_gates at (first + length gs) (operator o a b) ≡ g ∷ [])
      → First all (store_inputs o (store_literal d (literal s x)) (literal r y ∷ [])).draft.words → State d gs
      → Line gs g (first + length gs) (store_inputs o (store_literal d (literal s x)) (literal r y ∷ []))
  unfolding store_inputs store is_block
  line_two d gs g o s r x y gate whole line f p =
      let l = store_literal d (literal s x) in
      let m = store_literal l.draft (literal r y) in
      let nd = operator o l.node m.node in
      let f2 = first_store m.draft (words_of nd) f in
      let q1 = stands_signed d gs s x (first_literal l.draft (literal r y) f2) p in
      let q2 = stands_signed l.draft gs r y f2 q1.state in
      record {
        state = loud m.draft gs nd g refl (gate l.node m.node) (line l.node m.node q1.stands q2.stands) f q2.state;
        stands = literal_is m.draft.words q2.state.whole nd refl f
            ∙ whole _ l.node m.node q1.stands q2.stands
            ∙ ap (literal false) q2.state.next;
      }

  operator_gates : (a b : ℕ) → (has_gate (operator 8 a b) ≡ true) × (has_gate (operator 6 a b) ≡ true)
  unfolding has_gate row row_in rows row_has_gate
  operator_gates a b = (refl, refl)

  line_gate : (d : Draft) (gs : List Gate) (g : Gate) → Shape (first + length gs) g → First all (store_gate d g).draft.words → State d gs
      → Line gs g (first + length gs) (store_gate d g)
  unfolding store_gate junction_table empty_value store has_gate is_block node_literal node_gates
  line_gate d gs _ one f p =
      let ws = d.words in
      record {
        state = loud d gs (constant true) (junction_gate conjunction (named (first + length gs)) []) refl refl refl f p;
        stands = literal_is ws p.whole (constant true) refl f ∙ ap (literal false) p.next;
      }
  line_gate d gs _ (both s r x y) f p =
      line_two d gs _ 8 s r x y (λ a b. (operator_gates a b).0) (λ n a b e h. and_literal n a b)
      (λ a b e h. and_line (first + length gs) a b s r x y e h) f p
  line_gate d gs _ (differ x y) f p =
      line_two d gs _ 6 false false x y (λ a b. (operator_gates a b).1) (λ n a b e h. xor_literal n a b x y e h)
      (λ a b e h. xor_line (first + length gs) a b x y e h) f p

  -- the gate's name stands for its node from then on
  named_state : (s : Stored) (gs : List Gate) (n : ℕ) → at s.node ≡ literal false n → State s.draft gs
      → State (naming n s) gs
  named_state s gs n e p =
      record { whole = p.whole; lines = p.lines; next = p.next; gates = λ x k h. go x k h (look (eqb x n)) }
    where
      go : (x k : ℕ) → pick (eqb x n) (suc s.node) (s.draft.gate x) ≡ suc k → Is (eqb x n) → at k ≡ literal false x
      go x k h (is_true q) =
          let z : suc s.node ≡ suc k = sym (pick_yes _ _ _ q) ∙ h in
          let i : k ≡ s.node = omega arith in
          ap at i ∙ e ∙ ap (literal false) (sym (eqb-true x n q))
      go x k h (is_false q) = p.gates x k (sym (pick_no _ _ _ q) ∙ h)

  -- What is stored for gate lines gives these lines, after those before them.
  pub lines_gates : (n : ℕ) (done gs : List Gate) → n ≡ first + length done → Shapes n gs → (d : Draft) → First all (store_gates d gs).words
      → State d done → State (store_gates d gs) (done ++ gs)
  unfolding store_gates
  lines_gates n done [] e no_gate d f p = subst (State d) (sym (append-nil done)) p
  lines_gates n done (g ∷ gs) e (a_gate p ps) d f q =
      let s = store_gate d g in
      let x = (gate_name g).number in
      let c = naming x s in
      let h = line_gate d done g (subst (λ n. Shape n g) e p) (first_gates (suc n) c gs ps f) q in
      let w : at s.node ≡ literal false x = h.stands ∙ ap (literal false) (sym e ∙ sym (shape_number n g p)) in
      subst (State (store_gates c gs)) (append_assoc done (g ∷ []) gs)
      (lines_gates (suc n) (done ++ (g ∷ [])) gs (omega (arith, length-append done (g ∷ []))) ps c f
      (named_state s (done ++ (g ∷ [])) x w h.state))

  pub lines_empty : State empty_draft []
  unfolding empty_draft up_to gate_number sum
  lines_empty = record { whole = omega arith; lines = refl; next = omega arith; gates = λ x k e. absurd (omega arith) }
