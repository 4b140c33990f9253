-- The tokens of gate lines, passed one after the other, store what the definition of the table stores gate line by gate line.
-- Assumes nothing.
use mathlib.Core.Bool.{Bool, true, false}
use mathlib.Core.List.{List, [], ◌∷◌, ◌++◌, append_assoc, append-nil}
use mathlib.Core.Path.{◌≡◌, refl, sym, ◌∙◌, ap}
use Prim.Native.Nat.{ℕ, suc, ◌+◌, ◌-◌}
use native.Mathlib.Omega.{arith}
use lib.Dec.{eqb, leb}
use Rattle.std.specs.Prelude.{Option, Some, None}
use lib.ListN.{length}
use Rattle.lists.specs.Choice.{pick, pick_yes, pick_no}
use Rattle.formula.specs.Node.{Quantifier, exists, for_all, constant}
use Rattle.formula.specs.Words.{words_of, block_words}
use Rattle.formula.specs.Form.{kind_of}
use Rattle.qcir.specs.File.{Name, Literal, Junction, conjunction, disjunction, Gate, junction_gate, xor_gate, quantifier_gate, gate_name, numbers_of}
use Rattle.qcir.specs.Table.{Draft, Stored, store, store_literal, store_inputs, store_block, junction_table, empty_value, store_gate, store_gates}
use Rattle.qcir_tokens.specs.Tokens.{
  Token,
  token,
  junction_role,
  xor_role,
  quantifier_role,
  bound_role,
  input_role,
  empty_role,
  is_definition,
  is_bound,
  is_minus,
  is_last,
  list_tokens,
  inputs_tokens,
  any_inputs_tokens,
  gate_tokens,
  gates_tokens,
}
use Rattle.qcir_tokens.proofs.Roles.{junction_defines, xor_defines}
use Rattle.qcir_nodes.specs.declared.Progress.{Progress}
use Rattle.qcir_nodes.specs.Nodes.{Added, begun, lengthened, add_none, add_node, and_then, add_literal, join_table, add_join, add_input, empty_constant, add_operand, gate_block_kind, add_block, add_end, add_use, add_token, token_entries}
use Rattle.qcir_nodes.proofs.Nodes.{follows_input, follows_use}
use Rattle.qcir_nodes.proofs.Roles.{definition_not_last, bound_not_last, entries_definition, entries_bound, entries_use}
use Rattle.qcir_nodes.proofs.Stored.{with_added, Aligned, aligned_after, with_node_lem, with_none, with_then, with_literal, with_input, join_stored, store_joined}
use Rattle.qcir_table.specs.Passes.{Writing, gates_after, write_token}
use Rattle.qcir_table.proofs.Gates.{Counted, counted_token}

-- Tokens passed one after the other.
unfoldable pub write_tokens : Writing → List Token → Writing
write_tokens w [] = w
write_tokens w (t ∷ ts) = write_tokens (write_token w t.role t.name.number) ts

pub tokens_append : (w : Writing) (ts us : List Token) → write_tokens w (ts ++ us) ≡ write_tokens (write_tokens w ts) us
unfolding write_tokens
tokens_append w [] us = refl
tokens_append w (t ∷ ts) us = tokens_append (write_token w t.role t.name.number) ts us

pub counted_tokens : (ts : List Token) (w : Writing) → Counted w → Counted (write_tokens w ts)
unfolding write_tokens
counted_tokens [] w k = k
counted_tokens (t ∷ ts) w k = counted_tokens ts (write_token w t.role t.name.number) (counted_token w t.role t.name.number k)

-- What is stored, and the node that stands for what was stored last.
abbrev at_hand : Writing → Stored
at_hand w = record { draft = w.draft; node = w.progress.node }

-- A gate of number g whose nodes are stored: from then on g stands for its node.
abbrev closed : Stored → ℕ → Draft
closed s g =
    record { words = s.draft.words; entries = s.draft.entries; gate = λ x. pick (eqb x g) (suc s.node) (s.draft.gate x) }

-- What is stored with what a token adds.
abbrev after : Writing → ℕ → Added → List ℕ → Writing
after w role a es =
    record {
      draft = record { words = w.draft.words ++ a.words; entries = w.draft.entries ++ es; gate = gates_after w.draft.gate role a.progress };
      progress = a.progress;
    }

module _ (w : Writing) (role x : ℕ) where
  token_after : (a : Added) (es : List ℕ) → add_token w.progress (w.draft.gate x) role x ≡ a → token_entries role x ≡ es → write_token w role x ≡ after w role a es
  unfolding write_token
  token_after a es p q = ap (λ z. after w role z (token_entries role x)) p ∙ ap (λ z. after w role a z) q

  definition_token : is_definition role ≡ true → write_token w role x ≡ record { draft = w.draft; progress = begun w.progress role x }
  unfolding add_token gates_after
  definition_token t =
      token_after (record { words = []; progress = begun w.progress role x }) [] (pick_yes _ _ _ t) (entries_definition role x t)
      ∙ rw (append-nil w.draft.words, append-nil w.draft.entries, pick_no (is_last role) _ w.draft.gate (definition_not_last role t))

  bound_token : is_definition role ≡ false → is_bound role ≡ true
      → write_token w role x ≡ record { draft = record { words = w.draft.words; entries = w.draft.entries ++ (x ∷ []); gate = w.draft.gate }; progress = lengthened w.progress 1 }
  unfolding add_token gates_after
  bound_token t u =
      token_after (record { words = []; progress = lengthened w.progress 1 }) (x ∷ []) (pick_no _ _ _ t ∙ pick_yes _ _ _ u) (entries_bound role x t u)
      ∙ rw (append-nil w.draft.words, pick_no (is_last role) _ w.draft.gate (bound_not_last role u))

  use_token : is_definition role ≡ false → is_bound role ≡ false → write_token w role x ≡ after w role (add_use w.progress (w.draft.gate x) role x) []
  unfolding add_token
  use_token t u = token_after (add_use w.progress (w.draft.gate x) role x) [] (pick_no _ _ _ t ∙ pick_no _ _ _ u) (entries_use role x t u)

  -- the last token of a gate line
  last_token : (s : Stored) → is_definition role ≡ false → is_bound role ≡ false → is_last role ≡ true → with_added w.draft (add_use w.progress (w.draft.gate x) role x) ≡ s
      → (write_token w role x).draft ≡ closed s w.progress.gate
  unfolding gates_after
  last_token s t u l e =
      let a = add_use w.progress (w.draft.gate x) role x in
      ap (λ z. z.draft) (use_token t u)
      ∙ rw (append-nil w.draft.entries, pick_yes (is_last role) _ w.draft.gate l, (follows_use w.progress (w.draft.gate x) role x).gate_kept) (ap (λ z. closed z w.progress.gate) e)

  -- another token of its inputs
  inner_token : (s : Stored) → is_definition role ≡ false → is_bound role ≡ false → is_last role ≡ false → with_added w.draft (add_use w.progress (w.draft.gate x) role x) ≡ s
      → at_hand (write_token w role x) ≡ s
  unfolding gates_after
  inner_token s t u l e =
      ap at_hand (use_token t u)
      ∙ rw (append-nil w.draft.entries, pick_no (is_last role) _ w.draft.gate l) e

-- What the roles of inputs say.
input_roles : (minus last : Bool) → (is_definition (input_role minus last) ≡ false) × (is_bound (input_role minus last) ≡ false) × (is_last (input_role minus last) ≡ last)
unfolding input_role is_definition is_bound is_last
input_roles false false = (refl, refl, refl)
input_roles false true = (refl, refl, refl)
input_roles true false = (refl, refl, refl)
input_roles true true = (refl, refl, refl)

-- The block at the last token, nothing before.
add_end_if : Bool → Progress → Added
add_end_if last p = pick last (add_block p) (add_none p)

use_input : (minus last : Bool) (p : Progress) (g x : ℕ) → add_use p g (input_role minus last) x ≡ and_then (add_input p g x minus) (add_end_if last)
unfolding input_role add_use add_operand add_end add_end_if is_minus is_last pick
use_input false false p g x = refl
use_input false true p g x = refl
use_input true false p g x = refl
use_input true true p g x = refl

-- where no block comes after it
with_end : (d : Draft) (a : Added) (f : Progress → Added) → f a.progress ≡ add_none a.progress → with_added d (and_then a f) ≡ with_added d a
with_end d a f e = with_then d a f ∙ ap (with_added (with_added d a).draft) e ∙ with_none (with_added d a).draft a.progress

no_block : (p : Progress) → leb 16 p.kind ≡ false → add_block p ≡ add_none p
unfolding add_block
no_block p h = pick_no _ _ _ h

-- once an input is stored, what was stored last is the node over the inputs so far
join_inputs : (left : Option ℕ) (p : Progress) → (add_join left p).progress.inputs ≡ Some (add_join left p).progress.node
unfolding add_join
join_inputs (Some left) p = refl
join_inputs None p = refl

input_inputs : (p : Progress) (g x : ℕ) (minus : Bool) → (add_input p g x minus).progress.inputs ≡ Some (add_input p g x minus).progress.node
unfolding add_input and_then
input_inputs p g x minus = join_inputs p.inputs (add_literal p g x minus).progress

module _ (w : Writing) (counted : Counted w) (l : Literal) where
  abbrev p : Progress
  p = w.progress

  abbrev x : ℕ
  x = l.name.number

  abbrev g : ℕ
  g = w.draft.gate x

  abbrev joined : Stored
  joined = store_joined p.inputs (join_table p.kind) w.draft l

  -- an input that is not the last
  input_token : at_hand (write_token w (input_role l.minus false) x) ≡ joined
  unfolding add_end_if pick
  input_token =
      let r = input_roles l.minus false in
      inner_token w _ x joined r.0 r.1 r.2
      (ap (with_added w.draft) (use_input l.minus false p g x)
      ∙ with_end w.draft (add_input p g x l.minus) (add_end_if false) refl
      ∙ with_input w.draft p l counted.words_counted)

  input_progress : (write_token w (input_role l.minus false) x).progress ≡ (add_input p g x l.minus).progress
  unfolding add_end_if pick and_then
  input_progress =
      let r = input_roles l.minus false in
      ap (λ z. z.progress) (use_token w _ x r.0 r.1) ∙ ap (λ z. z.progress) (use_input l.minus false p g x)

  -- the last input of a gate that is not quantified
  last_input : leb 16 p.kind ≡ false → (write_token w (input_role l.minus true) x).draft ≡ closed joined p.gate
  unfolding add_end_if pick
  last_input h =
      let r = input_roles l.minus true in
      let a = add_input p g x l.minus in
      let k = ap (leb 16) (follows_input p g x l.minus).kind_kept ∙ h in
      last_token w _ x joined r.0 r.1 r.2
      (ap (with_added w.draft) (use_input l.minus true p g x)
      ∙ with_end w.draft a (add_end_if true) (no_block a.progress k)
      ∙ with_input w.draft p l counted.words_counted)

-- the gate closed over the inputs ms, where kind, left, d and gate are those before them
abbrev closed_inputs : Literal → List Literal → ℕ → Option ℕ → Draft → ℕ → Draft
closed_inputs m ms kind left d gate = closed (store_inputs (join_table kind) (store_joined left (join_table kind) d m) ms) gate

joined_next : (t : ℕ) (s : Stored) (m : Literal) (ms : List Literal) → store_inputs t (store_joined (Some s.node) t s.draft m) ms ≡ store_inputs t s (m ∷ ms)
unfolding join_stored store_inputs
joined_next t s m ms = refl

inputs_law : (l : Literal) (ls : List Literal) (w : Writing) → Counted w → leb 16 w.progress.kind ≡ false
    → (write_tokens w (inputs_tokens l ls)).draft ≡ closed_inputs l ls w.progress.kind w.progress.inputs w.draft w.progress.gate
unfolding write_tokens inputs_tokens store_inputs token
inputs_law l [] w k h = last_input w k l h
inputs_law l (m ∷ ms) w k h =
    let x = l.name.number in
    let a = add_input w.progress (w.draft.gate x) x l.minus in
    let f = follows_input w.progress (w.draft.gate x) x l.minus in
    let v = write_token w (input_role l.minus false) x in
    let e : v.progress ≡ a.progress = input_progress w k l in
    let kind : v.progress.kind ≡ w.progress.kind = ap (λ z. z.kind) e ∙ f.kind_kept in
    let gate : v.progress.gate ≡ w.progress.gate = ap (λ z. z.gate) e ∙ f.gate_kept in
    let s = store_joined w.progress.inputs (join_table w.progress.kind) w.draft l in
    let inputs : v.progress.inputs ≡ Some v.progress.node = ap (λ z. z.inputs) e ∙ input_inputs w.progress (w.draft.gate x) x l.minus ∙ ap (λ z. Some z.node) (sym e) in
    inputs_law m ms v (counted_token w _ x k) (ap (leb 16) kind ∙ h)
    ∙ ap (λ z. closed_inputs m ms z v.progress.inputs v.draft v.progress.gate) kind
    ∙ ap (λ z. closed_inputs m ms w.progress.kind z v.draft v.progress.gate) inputs
    ∙ ap (λ (z : Stored). closed_inputs m ms w.progress.kind (Some z.node) z.draft v.progress.gate) (input_token w k l)
    ∙ ap (λ z. closed_inputs m ms w.progress.kind (Some s.node) s.draft z) gate
    ∙ ap (λ z. closed z w.progress.gate) (joined_next (join_table w.progress.kind) s m ms)

-- The variables of a quantified gate.
bound_roles : (last : Bool) → (is_definition (bound_role last) ≡ false) × (is_bound (bound_role last) ≡ true)
unfolding bound_role is_definition is_bound
bound_roles false = (refl, refl)
bound_roles true = (refl, refl)

-- A draft with more list entries.
abbrev with_entries : Draft → List ℕ → Draft
with_entries d es = record { words = d.words; entries = d.entries ++ es; gate = d.gate }

bound_law : (x : Name) (xs : List Name) (w : Writing)
    → write_tokens w (list_tokens bound_role bound_role x xs)
    ≡ record { draft = with_entries w.draft (numbers_of (x ∷ xs)); progress = lengthened w.progress (length (numbers_of (x ∷ xs))) }
unfolding write_tokens list_tokens token numbers_of
bound_law x [] w =
    let r = bound_roles true in bound_token w _ x.number r.0 r.1
bound_law x (y ∷ ys) w =
    let r = bound_roles false in
    let ns = numbers_of (y ∷ ys) in
    let e : w.progress.listed + 1 + length ns ≡ w.progress.listed + length (x.number ∷ ns) = omega arith in
    ap (λ z. write_tokens z (list_tokens bound_role bound_role y ys)) (bound_token w _ x.number r.0 r.1)
    ∙ bound_law y ys (record { draft = with_entries w.draft (x.number ∷ []); progress = lengthened w.progress 1 })
    ∙ rw (append_assoc w.draft.entries (x.number ∷ []) ns, e)

-- A quantified gate's only input, with the block over it.
module _ (d : Draft) (q : Quantifier) (ns : List ℕ) (l : Literal) (p : Progress) (aligned : Aligned d p) (listed : length d.entries ≡ p.first)
    (count : p.listed - p.first ≡ length ns) (fresh : p.inputs ≡ None) (kind : leb 16 p.kind ≡ true) (block : gate_block_kind p.kind ≡ kind_of q) where
  abbrev x' : ℕ
  x' = l.name.number

  abbrev literal : Added
  literal = add_literal p (d.gate x') x' l.minus

  abbrev input : Added
  input = add_input p (d.gate x') x' l.minus

  input_is : with_added (with_entries d ns) input ≡ with_added (with_entries d ns) literal
  unfolding join_stored
  input_is =
      with_input (with_entries d ns) p l aligned
      ∙ ap (λ t. store_joined t (join_table p.kind) (with_entries d ns) l) fresh
      ∙ sym (with_literal (with_entries d ns) p l aligned)

  block_is : with_added (with_entries d ns) (and_then input add_block) ≡ store_block q ns (store_literal d l)
  unfolding add_block store_block
  block_is =
      let f = follows_input p (d.gate x') x' l.minus in
      let r = input.progress in
      let e = aligned_after (with_entries d ns) p input aligned f in
      let k : leb 16 r.kind ≡ true = ap (leb 16) f.kind_kept ∙ kind in
      let b : gate_block_kind r.kind ≡ kind_of q = ap gate_block_kind f.kind_kept ∙ block in
      let first : r.first ≡ length d.entries = f.first_kept ∙ sym listed in
      let n : r.listed - r.first ≡ length ns = omega (arith, f.first_kept, f.listed_kept) in
      with_then (with_entries d ns) input add_block
      ∙ ap (with_added (with_added (with_entries d ns) input).draft) (pick_yes (leb 16 r.kind) (add_node r (block_words (gate_block_kind r.kind) r.first (r.listed - r.first) r.node)) (add_none r) k)
      ∙ with_node_lem (with_added (with_entries d ns) input).draft r (block_words (gate_block_kind r.kind) r.first (r.listed - r.first) r.node) e
      ∙ rw (n, b, first) (ap (λ s. store s.draft (block_words (kind_of q) (length d.entries) (length ns) s.node)) input_is
      ∙ ap (store_block q ns) (with_literal d p l aligned))

-- The state after a gate's definition.
abbrev defined : Writing → ℕ → ℕ → Writing
defined w role g = record { draft = w.draft; progress = begun w.progress role g }

counted_defined : (w : Writing) (role g : ℕ) → is_definition role ≡ true → Counted w → Counted (defined w role g)
counted_defined w role g t k = record { words_counted = k.words_counted; entries_counted = k.entries_counted; first_in = omega arith }

junction_kind : (j : Junction) → (leb 16 (junction_role j) ≡ false) × (join_table (junction_role j) ≡ junction_table j) × (empty_constant (junction_role j) ≡ empty_value j)
unfolding junction_role join_table junction_table empty_value pick
junction_kind conjunction = (refl, refl, refl)
junction_kind disjunction = (refl, refl, refl)

quantifier_kind : (q : Quantifier) → (is_definition (quantifier_role q) ≡ true) × (leb 16 (quantifier_role q) ≡ true) × (gate_block_kind (quantifier_role q) ≡ kind_of q)
unfolding quantifier_role is_definition gate_block_kind kind_of pick
quantifier_kind exists = (refl, refl, refl)
quantifier_kind for_all = (refl, refl, refl)

xor_table : join_table xor_role ≡ 6
unfolding join_table pick
xor_table = refl

-- a gate without inputs
empty_law : (j : Junction) (g : Name) (w : Writing) → Counted w
    → (write_token (defined w (junction_role j) g.number) empty_role g.number).draft ≡ closed (store w.draft (words_of (constant (empty_value j)))) g.number
unfolding add_use add_operand add_end is_last is_definition is_bound pick
empty_law j g w k =
    let v = defined w (junction_role j) g.number in
    let c = junction_kind j in
    let a = add_node v.progress (words_of (constant (empty_constant (junction_role j)))) in
    last_token v empty_role g.number (store w.draft (words_of (constant (empty_value j)))) refl refl refl
    (with_end w.draft a add_block (no_block a.progress c.0)
    ∙ with_node_lem w.draft v.progress (words_of (constant (empty_constant (junction_role j)))) k.words_counted
    ∙ ap (λ z. store w.draft (words_of (constant z))) c.2)

-- a gate whose inputs are joined
joined_law : (role t : ℕ) (g : Name) (l : Literal) (ls : List Literal) (w : Writing) → Counted w → is_definition role ≡ true → leb 16 role ≡ false → join_table role ≡ t
    → (write_tokens (defined w role g.number) (inputs_tokens l ls)).draft ≡ closed (store_inputs t (store_literal w.draft l) ls) g.number
unfolding join_stored
joined_law role t g l ls w k d h e =
    inputs_law l ls (defined w role g.number) (counted_defined w role g.number d k) h
    ∙ ap (λ z. closed (store_inputs z (store_literal w.draft l) ls) g.number) e

-- a quantified gate
quantified_law : (q : Quantifier) (g x : Name) (xs : List Name) (l : Literal) (w : Writing) → Counted w
    → (write_tokens (defined w (quantifier_role q) g.number) (list_tokens bound_role bound_role x xs ++ inputs_tokens l [])).draft
    ≡ closed (store_block q (numbers_of (x ∷ xs)) (store_literal w.draft l)) g.number
unfolding write_tokens inputs_tokens token add_end_if pick
quantified_law q g x xs l w k =
    let v = defined w (quantifier_role q) g.number in
    let ns = numbers_of (x ∷ xs) in
    let c = quantifier_kind q in
    let u : Writing = record { draft = with_entries w.draft ns; progress = lengthened v.progress (length ns) } in
    let n = l.name.number in
    let r = input_roles l.minus true in
    ap (λ z. z.draft) (tokens_append v (list_tokens bound_role bound_role x xs) (inputs_tokens l []))
    ∙ ap (λ z. (write_tokens z (inputs_tokens l [])).draft) (bound_law x xs v)
    ∙ last_token u (input_role l.minus true) n (store_block q ns (store_literal w.draft l)) r.0 r.1 r.2
    (ap (with_added u.draft) (use_input l.minus true u.progress (w.draft.gate n) n)
    ∙ block_is w.draft q ns l u.progress k.words_counted k.entries_counted (omega arith) refl c.1 c.2)

gate_law : (g : Gate) (w : Writing) → Counted w → (write_tokens w (gate_tokens g)).draft ≡ closed (store_gate w.draft g) (gate_name g).number
unfolding write_tokens gate_tokens any_inputs_tokens token store_gate gate_name
gate_law (junction_gate j g []) w k =
    ap (λ z. (write_token z empty_role g.number).draft) (definition_token w (junction_role j) g.number (junction_defines j))
    ∙ empty_law j g w k
gate_law (junction_gate j g (l ∷ ls)) w k =
    let c = junction_kind j in
    ap (λ z. (write_tokens z (inputs_tokens l ls)).draft) (definition_token w (junction_role j) g.number (junction_defines j))
    ∙ joined_law (junction_role j) (junction_table j) g l ls w k (junction_defines j) c.0 c.1
gate_law (xor_gate g l r) w k =
    ap (λ z. (write_tokens z (inputs_tokens l (r ∷ []))).draft) (definition_token w xor_role g.number xor_defines)
    ∙ joined_law xor_role 6 g l (r ∷ []) w k xor_defines refl xor_table
gate_law (quantifier_gate q g x xs l) w k =
    let c = quantifier_kind q in
    ap (λ z. (write_tokens z (list_tokens bound_role bound_role x xs ++ inputs_tokens l [])).draft) (definition_token w (quantifier_role q) g.number c.0)
    ∙ quantified_law q g x xs l w k

pub gates_law : (gs : List Gate) (w : Writing) → Counted w → (write_tokens w (gates_tokens gs)).draft ≡ store_gates w.draft gs
unfolding gates_tokens store_gates write_tokens
gates_law [] w k = refl
gates_law (g ∷ gs) w k =
    ap (λ z. z.draft) (tokens_append w (gate_tokens g) (gates_tokens gs))
    ∙ gates_law gs (write_tokens w (gate_tokens g)) (counted_tokens (gate_tokens g) w k)
    ∙ ap (λ d. store_gates d gs) (gate_law g w k)
