-- What is stored for a written file: nodes of the five sorts, and no list.
-- Assumes nothing.
use mathlib.Core.Path.{◌≡◌, refl, sym, subst}
use mathlib.Core.Bool.{Bool, true, false}
use mathlib.Core.List.{List, [], ◌∷◌}
use Prim.Native.Nat.{ℕ, suc, ◌*◌, ◌<◌}
use native.Mathlib.Omega.{arith}
use lib.Dec.{eqb}
use lib.ListN.{length}
use borrow.Author.Count.{below_more}
use Rattle.lists.specs.Choice.{pick}
use Rattle.formula.specs.Node.{constant, variable, negation, operator}
use Rattle.formula.specs.Words.{width, node_count, words_at, words_of}
use Rattle.formula.specs.declared.NodeWords.{NodeWords}
use Rattle.qcir.specs.File.{Literal, Gate, File}
use Rattle.qcir.specs.Table.{Draft, Stored, store, store_name, store_literal, store_inputs, junction_table, empty_value, store_gate, store_gates, empty_draft, store_matrix}
use Rattle.qcir.proofs.StoredWords.{with_node, count_with, whole_with, words_kept, words_new}
use Rattle.qcir_form.specs.File.{literal}
use Rattle.qcir_round_trip.proofs.Shapes.{Shape, one, both, differ, Shapes, no_gate, a_gate}

-- What holds of both holds of the one picked.
pub either : (P : Stored → Type 0) (t : Bool) (a b : Stored) → (t ≡ true → P a) → (t ≡ false → P b) → P (pick t a b)
unfolding pick
either P true a b p q = p refl
either P false a b p q = q refl

-- The draft's words are whole nodes, each of which passes P, and its list is empty.
pub record Built (P : NodeWords → Type 0) (d : Draft) : Type 0 where
  pub whole : length d.words ≡ width * node_count d.words
  pub none : d.entries ≡ []
  pub each : (i : ℕ) → i < node_count d.words → P (words_at d.words i)

-- The sorts of nodes of a written file pass P.
pub record Sorts (P : NodeWords → Type 0) : Type 0 where
  pub a_constant : P (words_of (constant true))
  pub a_variable : (x : ℕ) → P (words_of (variable x))
  pub a_negation : (a : ℕ) → P (words_of (negation a))
  pub an_and : (a b : ℕ) → P (words_of (operator 8 a b))
  pub a_xor : (a b : ℕ) → P (words_of (operator 6 a b))

module _ (P : NodeWords → Type 0) (sorts : Sorts P) where
  built_store : (d : Draft) (w : NodeWords) → P w → Built P d → Built P (store d w).draft
  unfolding store
  built_store d w p b =
      let ws = d.words in
      let c = count_with ws b.whole w in
      record {
        whole = whole_with ws b.whole w;
        none = b.none;
        each = λ i h.
            below_more (λ i. P (words_at (with_node ws w) i)) (node_count ws)
            (λ i h. subst P (sym (words_kept ws b.whole w i h)) (b.each i h))
            (subst P (sym (words_new ws b.whole w)) p)
            i (omega arith);
      }

  built_name : (d : Draft) (x : ℕ) → Built P d → Built P (store_name d x).draft
  unfolding store_name
  built_name d x b =
      either (λ s. Built P s.draft) (eqb (d.gate x) 0) _ _ (λ e. built_store d (words_of (variable x)) (sorts.a_variable x) b) (λ e. b)

  built_literal : (d : Draft) (l : Literal) → Built P d → Built P (store_literal d l).draft
  unfolding store_literal
  built_literal d l b =
      let s = store_name d l.name.number in
      let c = built_name d l.name.number b in
      either (λ s. Built P s.draft) l.minus _ _
      (λ e. built_store s.draft (words_of (negation s.node)) (sorts.a_negation s.node) c) (λ e. c)

  built_two : (d : Draft) (o : ℕ) (l m : Literal) → ((a b : ℕ) → P (words_of (operator o a b))) → Built P d
      → Built P (store_inputs o (store_literal d l) (m ∷ [])).draft
  unfolding store_inputs
  built_two d o l m p b =
      let s = store_literal d l in
      let u = store_literal s.draft m in
      built_store u.draft (words_of (operator o s.node u.node)) (p s.node u.node)
      (built_literal s.draft m (built_literal d l b))

  built_gate : (n : ℕ) (d : Draft) (g : Gate) → Shape n g → Built P d → Built P (store_gate d g).draft
  unfolding store_gate junction_table empty_value
  built_gate n d _ one b = built_store d (words_of (constant true)) sorts.a_constant b
  built_gate n d _ (both s r x y) b = built_two d 8 (literal s x) (literal r y) sorts.an_and b
  built_gate n d _ (differ x y) b = built_two d 6 (literal false x) (literal false y) sorts.a_xor b

  built_gates : (n : ℕ) (gs : List Gate) → Shapes n gs → (d : Draft) → Built P d → Built P (store_gates d gs)
  unfolding store_gates
  built_gates n [] no_gate d b = b
  built_gates n (g ∷ gs) (a_gate p ps) d b =
      let c = built_gate n d g p b in built_gates (suc n) gs ps _ record { whole = c.whole; none = c.none; each = c.each }

  built_empty : Built P empty_draft
  unfolding empty_draft
  built_empty = record { whole = omega arith; none = refl; each = λ i h. absurd (omega arith) }

  pub built_matrix : (n : ℕ) (f : File) → Shapes n f.gates → Built P (store_matrix f).draft
  unfolding store_matrix
  built_matrix n f p = built_literal _ f.output (built_gates n f.gates p empty_draft built_empty)
