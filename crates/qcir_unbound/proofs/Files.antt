-- The whole walk: it stays within the arrays that hold a file's tokens, and finds the file's unbound variables.
-- Assumes nothing.
use mathlib.Core.Path.{◌≡◌, refl, sym, ◌∙◌, ap, subst}
use mathlib.Core.Bool.{Bool, true, false, not, ◌&&◌}
use mathlib.Core.List.{List, [], ◌∷◌, ◌++◌, append-nil, append_assoc, append-eq-nil_iff}
use Prim.Native.Nat.{ℕ, zero, suc, ◌+◌, ◌*◌, ◌-◌, ◌≤◌, ◌<◌, min}
use native.Mathlib.Omega.{arith}
use lib.Dec.{eqb}
use lib.ListN.{length, get_or, length-append}
use Rattle.std.specs.Prelude.{None, Some}
use Rattle.lists.specs.Choice.{pick, pick_yes, pick_no, Is, is_true, is_false, look, clash, and_off_left}
use Rattle.lists.specs.Members.{mem}
use Rattle.lists.proofs.Members.{mem_nil}
use Rattle.qcir.specs.File.{Literal, Name, Gate, gate_name, gate_variables, gate_inputs, File, numbers_of, prefix_variables}
use Rattle.qcir.specs.Refusals.{least, gate_names, outer_names, quantified_names, repeated, gates_listed, early_uses, misplaced, input_numbers, used_numbers, not_used_once, free_in_gates, unbound}
use Rattle.qcir_tokens.specs.Tokens.{Token, token, is_use, is_definition, output_token, output_role, free_tokens, prefix_tokens, inputs_tokens, any_inputs_tokens, gate_tokens, gates_tokens, file_tokens, definition_from, definition}
use Rattle.qcir_tokens.specs.Held.{token_at, tokens_from, HoldsNames, Definitions, DefinitionsIn, found_of, with_number}
use Rattle.qcir.proofs.Keep.{keep_cong}
use Rattle.qcir_unbound.specs.declared.Walk.{Walk}
use Rattle.qcir_unbound.specs.Outer.{outer_from, Outer, AllMarked}
use Rattle.qcir_unbound.specs.Steps.{Tokens, tokens_of, first, start, is_end, is_above, moved, noted, run, Within}
use Rattle.qcir_unbound.proofs.Run.{stand, run_two, run_still, step_above, noted_all, listed}
use Rattle.qcir_unbound.proofs.Roles.{input_tests, empty_tests, output_tests, Each, each_none, each_more, each_append, each_map, OuterEntry, free_each, prefix_each, bound_tokens, gate_line, token_numbers, numbers_append, free_numbers, prefix_numbers, names_append, Held, held_none, held_more, held_right}
use Rattle.qcir_unbound.proofs.Lines.{past_end, numbers_length, Good, use_run}
use Rattle.qcir_unbound.proofs.Gates.{weights, skip_definitions, no_definition, passed_all}
use Rattle.qcir_unbound.proofs.Linear.{output_le}
use Rattle.qcir_unbound.proofs.Variables.{none_unbound}
use Rattle.qcir_unbound.proofs.Marks.{outer_held, Uses, held_uses, of_cons, gates_used}

-- What is noted is what is found.
least_two : (x y : ℕ) (xs : List ℕ) → least (min x y ∷ xs) ≡ least (y ∷ x ∷ xs)
unfolding least
least_two x y [] = omega arith
least_two x y (z ∷ zs) = omega arith

found_more : (y : ℕ) (xs : List ℕ) (w : Walk) → w.lowest ≡ Some y → (noted_all xs w).lowest ≡ found_of (y ∷ xs)
unfolding noted_all noted found_of least with_number
found_more y [] w e = e
found_more y (x ∷ xs) w e = found_more (min x y) xs (noted x w) (ap (λ l. with_number l x) e) ∙ ap Some (least_two x y xs)

found_all : (xs : List ℕ) (w : Walk) → w.lowest ≡ None → (noted_all xs w).lowest ≡ found_of xs
unfolding noted_all noted found_of least with_number
found_all [] w e = e
found_all (x ∷ xs) w e = found_more x xs (noted x w) (ap (λ l. with_number l x) e)

module _ (roles numbers : List ℕ) where
  tokens_length : (ps : List ℕ) (p count : ℕ) → length (tokens_from roles numbers ps p count) ≡ count
  unfolding tokens_from
  tokens_length ps p zero = refl
  tokens_length ps p (suc count) = ap suc (tokens_length ps (suc p) count)

  tokens_held : (gates ps : List ℕ) (p count : ℕ) → Held (tokens_of roles numbers gates) p (tokens_from roles numbers ps p count)
  unfolding tokens_from token_at tokens_of
  tokens_held gates ps p zero = held_none
  tokens_held gates ps p (suc count) = held_more refl refl (tokens_held gates ps (suc p) count)

-- The tokens above the gates, but the output.
unfoldable outer_tokens : File → List Token
outer_tokens f = free_tokens f.free ++ prefix_tokens f.prefix

file_tokens_lem : (f : File) → file_tokens f ≡ outer_tokens f ++ (output_token f.output ∷ gates_tokens f.gates)
unfolding file_tokens outer_tokens
file_tokens_lem f = sym (append_assoc (free_tokens f.free) (prefix_tokens f.prefix) (output_token f.output ∷ gates_tokens f.gates))

outer_each : (f : File) → Each OuterEntry (outer_tokens f)
unfolding outer_tokens
outer_each f = each_append (free_each f.free) (prefix_each f.prefix)

outer_numbers : (f : File) → token_numbers (outer_tokens f) ≡ numbers_of (outer_names f)
unfolding outer_tokens outer_names
outer_numbers f =
    numbers_append (free_tokens f.free) (prefix_tokens f.prefix)
    ∙ ap (λ xs. xs ++ token_numbers (prefix_tokens f.prefix)) (free_numbers f.free)
    ∙ ap (λ xs. numbers_of f.free ++ xs) (prefix_numbers f.prefix)
    ∙ sym (names_append f.free (prefix_variables f.prefix))

-- the gates' definitions come after the output
file_definition : (f : File) (x : ℕ) → definition (file_tokens f) x ≡ definition_from (suc (length (outer_tokens f))) (gates_tokens f.gates) x
unfolding definition_from output_token token
file_definition f x =
    ap (λ ks. definition_from 0 ks x) (file_tokens_lem f)
    ∙ skip_definitions (outer_tokens f) (output_token f.output ∷ gates_tokens f.gates) (each_map (λ k h. h.definition_is) (outer_each f)) 0 x
    ∙ ap (λ i. definition_from i (output_token f.output ∷ gates_tokens f.gates) x) (let e : 0 + length (outer_tokens f) ≡ length (outer_tokens f) = omega arith in e)
    ∙ pick_no _ _ _ (and_off_left (is_definition (output_role f.output.minus)) (eqb f.output.name.number x) (output_tests f.output.minus).definition_is)

definition_le : (ks : List Token) (p x : ℕ) → definition_from p ks x ≤ p + length ks
unfolding definition_from
definition_le [] p x = omega arith
definition_le (k ∷ ks) p x = go (look (is_definition k.role && eqb k.name.number x)) (definition_le ks (suc p) x)
  where
    go : Is (is_definition k.role && eqb k.name.number x) → definition_from (suc p) ks x ≤ suc p + length ks
        → pick (is_definition k.role && eqb k.name.number x) (suc p) (definition_from (suc p) ks x) ≤ p + suc (length ks)
    go (is_true e) r = omega (arith, pick_yes {A = ℕ} _ (suc p) (definition_from (suc p) ks x) e)
    go (is_false e) r = omega (arith, pick_no {A = ℕ} _ (suc p) (definition_from (suc p) ks x) e)

-- The last token ends a line.
data Ended : List Token → Type 0 where
  ended_last : {k : Token} → is_end k.role ≡ true → Ended (k ∷ [])
  ended_more : {k : Token} {ks : List Token} → Ended ks → Ended (k ∷ ks)

ended_append : (ks ls : List Token) → Ended ls → Ended (ks ++ ls)
ended_append [] ls e = e
ended_append (k ∷ ks) ls e = ended_more (ended_append ks ls e)

ended_inputs : (l : Literal) (ls : List Literal) → Ended (inputs_tokens l ls)
unfolding inputs_tokens token
ended_inputs l [] = ended_last (input_tests l.minus true).end_is
ended_inputs l (m ∷ ms) = ended_more (ended_inputs m ms)

ended_any : (g : Name) (ls : List Literal) → Ended (any_inputs_tokens g ls)
unfolding any_inputs_tokens token
ended_any g [] = ended_last empty_tests.end_is
ended_any g (l ∷ ls) = ended_inputs l ls

ended_gate : (g : Gate) → Ended (gate_tokens g)
ended_gate g =
    subst Ended (sym (gate_line g))
    (ended_more (ended_append (bound_tokens (gate_variables g)) (any_inputs_tokens (gate_name g) (gate_inputs g)) (ended_any (gate_name g) (gate_inputs g))))

ended_gates : (gs : List Gate) (ks : List Token) → Ended ks → Ended (ks ++ gates_tokens gs)
unfolding gates_tokens
ended_gates [] ks e = subst Ended (sym (append-nil ks)) e
ended_gates (g ∷ gs) ks e = ended_append ks (gate_tokens g ++ gates_tokens gs) (ended_gates gs (gate_tokens g) (ended_gate g))

ended_file : (f : File) → Ended (file_tokens f)
unfolding output_token token
ended_file f =
    subst Ended (sym (file_tokens_lem f))
    (ended_append (outer_tokens f) (output_token f.output ∷ gates_tokens f.gates)
    (ended_gates f.gates (output_token f.output ∷ []) (ended_last (output_tests f.output.minus).end_is)))

held_ended : (t : Tokens) (ks : List Token) (p i : ℕ) → Ended ks → Held t p ks → suc i ≡ p + length ks → is_end (t.role i) ≡ true
held_ended t [] p i x3 _ l = elim x3 [ ]
held_ended t (k ∷ []) p i (ended_last e) (held_more r n h) l =
    let q : i ≡ p = omega arith in ap (λ j. is_end (t.role j)) q ∙ ap is_end r ∙ e
held_ended t (k ∷ ks) p i (ended_more e) (held_more r n h) l = held_ended t ks (suc p) i e h (omega arith)

head_above : (t : Tokens) (ks : List Token) (k : Token) (ls : List Token) (p : ℕ) → Each OuterEntry ks → is_above k.role ≡ true → Held t p (ks ++ (k ∷ ls)) → is_above (t.role p) ≡ true
head_above t [] k ls p each_none e (held_more r n h) = ap is_above r ∙ e
head_above t (l ∷ ks) k ls p (each_more a b) e (held_more r n h) = ap is_above r ∙ a.above_is

-- The walk stays within the arrays.
pub within : (roles numbers : List ℕ) (count : ℕ) (gates : List ℕ) (f : File) → HoldsNames roles numbers count f → DefinitionsIn roles numbers count gates → Within roles numbers count gates
unfolding tokens_of output_token token
within roles numbers count gates f (ps, h) defined =
    let d : Definitions gates (file_tokens f) = subst (Definitions gates) h.tokens (defined ps) in
    let held : Held (tokens_of roles numbers gates) 0 (file_tokens f) = subst (Held (tokens_of roles numbers gates) 0) h.tokens (tokens_held roles numbers gates ps 0 count) in
    let long : length (file_tokens f) ≡ count = sym (ap length h.tokens) ∙ tokens_length roles numbers ps 0 count in
    let parts = ap length (file_tokens_lem f) ∙ length-append (outer_tokens f) (output_token f.output ∷ gates_tokens f.gates) in
    record {
      roles_hold = h.room.roles_hold;
      numbers_hold = h.room.numbers_hold;
      few = h.few;
      gates_wide = d.wide;
      gates_low = λ x. omega (arith, d.holds x, definition_le (file_tokens f) 0 x);
      starts_above =
          head_above (tokens_of roles numbers gates) (outer_tokens f) (output_token f.output) (gates_tokens f.gates) 0 (outer_each f)
          (output_tests f.output.minus).above_is (subst (Held (tokens_of roles numbers gates) 0) (file_tokens_lem f) held);
      stops = λ i l. held_ended (tokens_of roles numbers gates) (file_tokens f) 0 i (ended_file f) held (omega arith);
    }

-- What holds of a file whose names stand in their places.
gates_apart : (f : File) → misplaced f ≡ [] → (repeated [] (gate_names f.gates) ≡ []) × (early_uses [] f.gates ≡ [])
unfolding misplaced
gates_apart f e =
    let a = (append-eq-nil_iff {p = repeated [] (gate_names f.gates)}).0 e in
    let b = (append-eq-nil_iff {p = gates_listed (gate_names f.gates) (outer_names f ++ quantified_names f.gates)}).0 a.1 in
    (a.0, ((append-eq-nil_iff {p = early_uses [] f.gates}).0 b.1).0)

-- The walk finds the unbound variables.
module _ (t : Tokens) (f : File) (held : Held t 0 (file_tokens f)) where
  held_output : Held t (length (outer_tokens f)) (output_token f.output ∷ gates_tokens f.gates)
  held_output =
      subst (λ p. Held t p (output_token f.output ∷ gates_tokens f.gates)) (let e : 0 + length (outer_tokens f) ≡ length (outer_tokens f) = omega arith in e)
      (held_right t 0 (outer_tokens f) (output_token f.output ∷ gates_tokens f.gates) (subst (Held t 0) (file_tokens_lem f) held))

  module _ (defined : (x : ℕ) → t.gate x ≡ definition (file_tokens f) x) (placed : misplaced f ≡ []) (once : not_used_once f ≡ [])
      (m : ℕ → Bool) (c : ℕ → ℕ) (outer : (x : ℕ) → m x ≡ mem x (numbers_of (outer_names f))) where
    names_good : Held t (suc (length (outer_tokens f))) (gates_tokens f.gates)
        → (x : ℕ) → Good t (suc (length (outer_tokens f)) + length (gates_tokens f.gates)) (free_in_gates (λ y. y ∷ []) f.gates x) (weights (λ y. 0) f.gates x) x
    names_good h =
        let apart = gates_apart f placed in
        passed_all t f.gates (suc (length (outer_tokens f))) [] (λ y. y ∷ []) (λ y. 0) h apart.0 apart.1
        (record { later = λ x e. defined x ∙ file_definition f x; known = λ x e. clash e (mem_nil x); alone = λ x e. refl; light = λ x e. refl })

    ends : (w : Walk) → Held t (length (outer_tokens f)) (output_token f.output ∷ gates_tokens f.gates)
        → (run t (2 * length (file_tokens f)) (stand (moved (length (outer_tokens f)) false w) m c)).walk
        ≡ moved (length (outer_tokens f)) true (noted_all (unbound f) w)
    unfolding output_token token listed unbound
    ends w (held_more r n h) =
        let i : ℕ = length (outer_tokens f) in
        let y : ℕ = f.output.name.number in
        let xs : List ℕ = free_in_gates (λ z. z ∷ []) f.gates y in
        let k : ℕ = weights (λ z. 0) f.gates y in
        let q : ℕ = suc i + length (gates_tokens f.gates) in
        let tests = output_tests f.output.minus in
        let good = subst (λ z. Good t q xs k z) (sym n) (names_good h y) in
        let d = use_run t q xs k i (ap is_use r ∙ tests.use_is) good w m c in
        let v : Walk = listed m xs w in
        let halt = run_still t (2 * length (file_tokens f) - suc k) (stand (moved i true v) m d.keeps)
        (step_above t i v m d.keeps (ap is_above r ∙ tests.above_is)) in
        let parts = ap length (file_tokens_lem f) ∙ length-append (outer_tokens f) (output_token f.output ∷ gates_tokens f.gates) in
        let few = output_le f once in
        let a : 2 * length (file_tokens f) ≡ suc k + (2 * length (file_tokens f) - suc k) = omega arith in
        ap (λ u. u.walk)
        (ap (λ j. run t j (stand (moved i false w) m c)) a
        ∙ run_two t (suc k) (2 * length (file_tokens f) - suc k) _ (stand (moved i true v) m d.keeps) _
        (d.runs ∙ ap (λ u. stand u m d.keeps) (past_end (t.role i) i v (ap is_end r ∙ tests.end_is)))
        halt)
        ∙ ap (λ zs. moved i true (noted_all zs w)) (keep_cong (λ z. not (m z)) (λ z. not (mem z (numbers_of (outer_names f)))) xs (λ z. ap not (outer z)))

    walk_found : (w : Walk) → w ≡ (run t (2 * length (file_tokens f)) (stand (first (length (outer_tokens f))) m c)).walk
        → w.lowest ≡ found_of (unbound f)
    unfolding moved
    walk_found w e =
        ap (λ u. u.lowest) (e ∙ ends (first (length (outer_tokens f))) held_output)
        ∙ found_all (unbound f) (first (length (outer_tokens f))) refl

-- The same of the arrays.
module _ (roles numbers : List ℕ) (count : ℕ) (gates : List ℕ) (f : File) (ps : List ℕ) (tokens : tokens_from roles numbers ps 0 count ≡ file_tokens f) where
  t : Tokens
  t = tokens_of roles numbers gates

  long : length (file_tokens f) ≡ count
  long = sym (ap length tokens) ∙ tokens_length roles numbers ps 0 count

  held : Held t 0 (file_tokens f)
  unfolding t
  held = subst (Held (tokens_of roles numbers gates) 0) tokens (tokens_held roles numbers gates ps 0 count)

  gate_at : DefinitionsIn roles numbers count gates → (x : ℕ) → get_or gates x 0 ≡ definition (file_tokens f) x
  gate_at defined x = (defined ps).holds x ∙ ap (λ ks. definition ks x) tokens

  outer_tokens_lem : outer_from roles numbers 0 count ≡ token_numbers (outer_tokens f)
  unfolding t output_token token
  outer_tokens_lem =
      let e : length (outer_tokens f ++ (output_token f.output ∷ gates_tokens f.gates)) ≡ count = sym (ap length (file_tokens_lem f)) ∙ long in
      ap (outer_from roles numbers 0) (sym e)
      ∙ outer_held roles numbers gates (outer_tokens f) (output_token f.output) (gates_tokens f.gates) 0 (outer_each f)
      (output_tests f.output.minus).outer_is
      (subst (Held (tokens_of roles numbers gates) 0) (file_tokens_lem f) held)

  module _ {output : ℕ} {marks : List Bool} (o : Outer roles numbers count output marks) where
    output_at : output ≡ length (outer_tokens f)
    output_at = o.output_is ∙ ap length outer_tokens_lem ∙ numbers_length (outer_tokens f)

    marked_outer : (x : ℕ) → get_or marks x false ≡ mem x (numbers_of (outer_names f))
    marked_outer x = o.marked x ∙ ap (mem x) (outer_tokens_lem ∙ outer_numbers f)

    -- the output's token
    pub output_low : output < count
    output_low =
        let e = output_at in
        let parts = ap length (file_tokens_lem f) ∙ length-append (outer_tokens f) (output_token f.output ∷ gates_tokens f.gates) in
        let l = long in omega arith

    -- what the walk finds
    pub unbound_found : DefinitionsIn roles numbers count gates
        → (w : Walk) → w ≡ (run (tokens_of roles numbers gates) (2 * count) (start output marks)).walk
        → misplaced f ≡ [] → not_used_once f ≡ []
        → w.lowest ≡ found_of (unbound f)
    unfolding start tokens_of t
    unbound_found j w e placed once =
        walk_found t f held (gate_at j) placed once (λ x. get_or marks x false) (λ i. 0) marked_outer w
        (e
        ∙ ap (λ i. (run t (2 * count) (start i marks)).walk) output_at
        ∙ ap (λ n. (run t (2 * n) (start (length (outer_tokens f)) marks)).walk) (sym long))

    -- where every variable used is marked, none is unbound
    pub none_found : DefinitionsIn roles numbers count gates → AllMarked roles numbers gates marks output count → misplaced f ≡ []
        → None ≡ found_of (unbound f)
    unfolding t tokens_of output_token token found_of used_numbers
    none_found j a placed = ap found_of (sym (none_unbound f (gates_apart f placed).1 (λ x m n. sym (marked_outer x) ∙ used x m (no_gate x n))))
      where
        R : ℕ → Type 0
        R x = get_or gates x 0 ≡ 0 → get_or marks x false ≡ true

        no_gate : (x : ℕ) → mem x (numbers_of (gate_names f.gates)) ≡ false → get_or gates x 0 ≡ 0
        no_gate x n = gate_at j x ∙ file_definition f x ∙ no_definition f.gates (suc (length (outer_tokens f))) x n

        go : Each (Uses R) (output_token f.output ∷ gates_tokens f.gates) → (x : ℕ) → mem x (f.output.name.number ∷ input_numbers f.gates) ≡ true → R x
        go (each_more u b) = of_cons R f.output.name.number (input_numbers f.gates) (u (output_tests f.output.minus).use_is) (gates_used R f.gates b)

        used : (x : ℕ) → mem x (used_numbers f) ≡ true → R x
        used =
            let e = output_at in
            let parts = ap length (file_tokens_lem f) ∙ length-append (outer_tokens f) (output_token f.output ∷ gates_tokens f.gates) in
            let l = long in
            go (held_uses R t (output_token f.output ∷ gates_tokens f.gates) (length (outer_tokens f)) count (omega arith) (held_output t f held)
            (λ k h q u. a k (omega arith) q u))
