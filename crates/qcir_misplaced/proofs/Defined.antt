-- What the first definitions of a file say at a token: which numbers are defined before it, and which from it on.
-- Assumes nothing.
use mathlib.Core.Path.{◌≡◌, refl, sym, ◌∙◌, ap}
use mathlib.Core.Bool.{true, false, not, ◌&&◌, and-true}
use mathlib.Core.List.{List, [], ◌∷◌, ◌++◌}
use Prim.Native.Nat.{ℕ, suc, ◌≤◌, ◌<◌}
use native.Mathlib.Omega.{arith}
use lib.Dec.{eqb, leb}
use borrow.Author.Tests.{eqb-true, eqb-false, eq-eqb, ne_eqb, leb-true, le-leb, lt-leb}
use Rattle.lists.specs.Choice.{pick_yes, pick_no, Is, is_true, is_false, look, clash, or_left, or_cases, or_neither_left, or_neither_right, and_both, and_off_left, and_off_right}
use Rattle.lists.specs.Members.{mem}
use Rattle.lists.proofs.Members.{mem_nil}
use Rattle.qcir.specs.File.{Name, Gate, gate_name, numbers_of}
use Rattle.qcir.specs.Refusals.{gate_names}
use Rattle.qcir_tokens.specs.Tokens.{Token, is_definition, definition_from, gates_tokens}
use Rattle.qcir_misplaced.proofs.Entries.{Entries, past, past_le, entries_define, entry_defines, input_defines}
use Rattle.qcir_misplaced.proofs.Shapes.{gate_shape, gate_head, gates_shape}

-- at a definition
module _ (i : ℕ) (t : Token) (ts : List Token) (y : ℕ) (d : is_definition t.role ≡ true) where
  defines_own : t.name.number ≡ y → definition_from i (t ∷ ts) y ≡ suc i
  unfolding definition_from
  defines_own e = pick_yes (is_definition t.role && eqb t.name.number y) (suc i) (definition_from (suc i) ts y) (and_both (is_definition t.role) (eqb t.name.number y) d (eq-eqb t.name.number y e))

  defines_other : eqb t.name.number y ≡ false → definition_from i (t ∷ ts) y ≡ definition_from (suc i) ts y
  unfolding definition_from
  defines_other e = pick_no (is_definition t.role && eqb t.name.number y) (suc i) (definition_from (suc i) ts y) (and_off_right (is_definition t.role) (eqb t.name.number y) e)

-- a definition found from i on is after i
after_cons : (i : ℕ) (t : Token) (ts : List Token) (y : ℕ) → Is (is_definition t.role && eqb t.name.number y)
    → ((definition_from (suc i) ts y ≡ 0 → ⊥) → suc i < definition_from (suc i) ts y) → (definition_from i (t ∷ ts) y ≡ 0 → ⊥) → i < definition_from i (t ∷ ts) y
unfolding definition_from
after_cons i t ts y (is_true h) r f =
    let e = pick_yes {A = ℕ} (is_definition t.role && eqb t.name.number y) (suc i) (definition_from (suc i) ts y) h in omega arith
after_cons i t ts y (is_false h) r f =
    let e = pick_no {A = ℕ} (is_definition t.role && eqb t.name.number y) (suc i) (definition_from (suc i) ts y) h in
    let l : suc i < definition_from (suc i) ts y = r (λ z. f (e ∙ z)) in omega arith

after : (i : ℕ) (ts : List Token) (y : ℕ) → (definition_from i ts y ≡ 0 → ⊥) → i < definition_from i ts y
unfolding definition_from
after i [] y f = absurd (f refl)
after i (t ∷ ts) y f = after_cons i t ts y (look (is_definition t.role && eqb t.name.number y)) (after (suc i) ts y) f

-- The numbers defined before index i, where the tokens `rest` begin.
pub record Known (gates : ℕ → ℕ) (i : ℕ) (defined : List ℕ) (rest : List Token) : Type 0 where
  pub old : (y : ℕ) → mem y defined ≡ true → (0 < gates y) × (gates y ≤ i)
  pub new : (y : ℕ) → mem y defined ≡ false → gates y ≡ definition_from i rest y

pub known_start : (gates : ℕ → ℕ) (i : ℕ) (rest : List Token) → ((y : ℕ) → gates y ≡ definition_from i rest y) → Known gates i [] rest
known_start gates i rest h = record { old = λ y m. clash m (mem_nil y); new = λ y m. h y }

module _ (gates : ℕ → ℕ) (i : ℕ) (defined : List ℕ) where
  -- which numbers they are
  pub known_test : (rest : List Token) → Known gates i defined rest → (y : ℕ) → (not (eqb (gates y) 0) && leb (gates y) i) ≡ mem y defined
  known_test rest known y = go (look (mem y defined)) (look (leb (gates y) i))
    where
      go : Is (mem y defined) → Is (leb (gates y) i) → (not (eqb (gates y) 0) && leb (gates y) i) ≡ mem y defined
      go (is_true h) l =
          let o = known.old y h in
          let p : 0 < gates y = o.0 in
          and_both (not (eqb (gates y) 0)) (leb (gates y) i) (ap not (ne_eqb (gates y) 0 (λ e. omega arith))) (le-leb (gates y) i o.1) ∙ sym h
      go (is_false h) (is_true l) =
          and_off_left (not (eqb (gates y) 0)) (leb (gates y) i) (ap not (zero_from (look (eqb (gates y) 0)))) ∙ sym h
        where
          zero_from : Is (eqb (gates y) 0) → eqb (gates y) 0 ≡ true
          zero_from (is_true z) = z
          zero_from (is_false z) =
              let e : gates y ≡ definition_from i rest y = known.new y h in
              let f : gates y ≡ 0 → ⊥ = eqb-false (gates y) 0 z in
              let a : i < definition_from i rest y = after i rest y (λ q. f (e ∙ q)) in
              let b : gates y ≤ i = leb-true (gates y) i l in absurd (omega arith)
      go (is_false h) (is_false l) = and_off_right (not (eqb (gates y) 0)) (leb (gates y) i) l ∙ sym h

  -- past tokens that define nothing
  pub known_past : {P : ℕ → Type 0} {ts : List Token} {xs : List Name} (rest : List Token) → ((r : ℕ) → P r → is_definition r ≡ false) → Entries P ts xs
      → Known gates i defined (ts ++ rest) → Known gates (past ts i) defined rest
  known_past {P} {ts} {xs} rest f e known =
      record {
        old = λ y m.
            let o = known.old y m in
            let l : gates y ≤ i = o.1 in
            let p : i ≤ past ts i = past_le ts i in (o.0, omega arith);
        new = λ y m. known.new y m ∙ entries_define rest f i e y;
      }

  -- at a definition, and past it
  module _ (t : Token) (rest : List Token) (d : is_definition t.role ≡ true) (known : Known gates i defined (t ∷ rest)) where
    pub known_gate : leb (gates t.name.number) i ≡ mem t.name.number defined
    known_gate = go (look (mem t.name.number defined))
      where
        go : Is (mem t.name.number defined) → leb (gates t.name.number) i ≡ mem t.name.number defined
        go (is_true h) = le-leb (gates t.name.number) i (known.old t.name.number h).1 ∙ sym h
        go (is_false h) =
            let e : gates t.name.number ≡ suc i = known.new t.name.number h ∙ defines_own i t rest t.name.number d refl in
            lt-leb (gates t.name.number) i (omega arith) ∙ sym h

    known_old : (y : ℕ) → mem y (t.name.number ∷ defined) ≡ true → (0 < gates y) × (gates y ≤ suc i)
    unfolding mem
    known_old y m = go (look (mem y defined))
      where
        go : Is (mem y defined) → (0 < gates y) × (gates y ≤ suc i)
        go (is_true h) = let o = known.old y h in let l : gates y ≤ i = o.1 in (o.0, omega arith)
        go (is_false h) =
            let e : t.name.number ≡ y = or_cases (eqb y t.name.number) (mem y defined) m (λ z. sym (eqb-true y t.name.number z)) (λ z. clash z h) in
            let q : gates y ≡ suc i = known.new y h ∙ defines_own i t rest y d e in (omega arith, omega arith)

    known_new : (y : ℕ) → mem y (t.name.number ∷ defined) ≡ false → gates y ≡ definition_from (suc i) rest y
    unfolding mem
    known_new y m =
        known.new y (or_neither_right (eqb y t.name.number) (mem y defined) m)
        ∙ defines_other i t rest y d (ne_eqb t.name.number y (λ e. clash (eq-eqb y t.name.number (sym e)) (or_neither_left (eqb y t.name.number) (mem y defined) m)))

    pub known_next : Known gates (suc i) (t.name.number ∷ defined) rest
    known_next = record { old = known_old; new = known_new }

-- a number is defined from i on if a gate has it
names_cons : (j i y : ℕ) (t : Token) (ts : List Token) (ns : List ℕ) → is_definition t.role ≡ true → j ≤ i → Is (eqb y t.name.number)
    → leb (suc j) (definition_from (suc i) ts y) ≡ mem y ns → leb (suc j) (definition_from i (t ∷ ts) y) ≡ mem y (t.name.number ∷ ns)
unfolding mem
names_cons j i y t ts ns d h (is_true e) r =
    let q = defines_own i t ts y d (sym (eqb-true y t.name.number e)) in
    le-leb (suc j) (definition_from i (t ∷ ts) y) (omega arith) ∙ sym (or_left (eqb y t.name.number) (mem y ns) e)
names_cons j i y t ts ns d h (is_false e) r =
    let n : eqb t.name.number y ≡ false = ne_eqb t.name.number y (λ q. clash (eq-eqb y t.name.number (sym q)) e) in
    ap (leb (suc j)) (defines_other i t ts y d n) ∙ r ∙ rw e

names_gate : (j i y : ℕ) (g : Gate) (gs : List Gate) → j ≤ i
    → ((n : ℕ) → j ≤ n → leb (suc j) (definition_from n (gates_tokens gs) y) ≡ mem y (numbers_of (gate_names gs)))
    → leb (suc j) (definition_from i (gates_tokens (g ∷ gs)) y) ≡ mem y (numbers_of (gate_names (g ∷ gs)))
unfolding gate_names numbers_of
names_gate j i y g gs h next =
    let s = gate_shape g in
    let a : suc i ≤ past s.bound (suc i) = past_le s.bound (suc i) in
    let b : past s.bound (suc i) ≤ past s.inputs (past s.bound (suc i)) = past_le s.inputs (past s.bound (suc i)) in
    ap (λ (ts : List Token). leb (suc j) (definition_from i ts y)) (gates_shape g gs)
    ∙ names_cons j i y (gate_head g) (s.bound ++ (s.inputs ++ gates_tokens gs)) (numbers_of (gate_names gs)) s.definition h (look (eqb y (gate_name g).number))
    (ap (leb (suc j)) (entries_define (s.inputs ++ gates_tokens gs) entry_defines (suc i) s.variables y ∙ entries_define (gates_tokens gs) input_defines (past s.bound (suc i)) s.uses y)
    ∙ next (past s.inputs (past s.bound (suc i))) (omega arith))

names_defined : (j y : ℕ) (gs : List Gate) (i : ℕ) → j ≤ i → leb (suc j) (definition_from i (gates_tokens gs) y) ≡ mem y (numbers_of (gate_names gs))
unfolding gates_tokens definition_from gate_names numbers_of mem
names_defined j y [] i h = lt-leb (suc j) 0 (omega arith)
names_defined j y (g ∷ gs) i h = names_gate j i y g gs h (names_defined j y gs)

-- an input's fault: its number is defined from index i on, and not before
pub known_early : (gates : ℕ → ℕ) (i : ℕ) (defined : List ℕ) (gs : List Gate) → Known gates i defined (gates_tokens gs) → (y : ℕ)
    → leb (suc i) (gates y) ≡ (mem y (numbers_of (gate_names gs)) && not (mem y defined))
known_early gates i defined gs known y = go (look (mem y defined))
  where
    go : Is (mem y defined) → leb (suc i) (gates y) ≡ (mem y (numbers_of (gate_names gs)) && not (mem y defined))
    go (is_true h) =
        let l : gates y ≤ i = (known.old y h).1 in
        lt-leb (suc i) (gates y) (omega arith) ∙ sym (and_off_right (mem y (numbers_of (gate_names gs))) (not (mem y defined)) (ap not h))
    go (is_false h) = ap (leb (suc i)) (known.new y h) ∙ names_defined i y gs i (omega arith) ∙ rw h (sym (and-true (mem y (numbers_of (gate_names gs)))))
