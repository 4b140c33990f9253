-- Uses and definitions among a file's tokens are those of the file.
-- Assumes nothing.
use mathlib.Core.Bool.{Bool, true, false, not, ◌&&◌}
use mathlib.Core.List.{List, [], ◌∷◌, ◌++◌, append_assoc}
use mathlib.Core.Path.{◌≡◌, refl, ◌∙◌, ap}
use Prim.Native.Nat.{ℕ, ◌+◌, min}
use native.Mathlib.Omega.{arith}
use lib.Dec.{eqb}
use borrow.Author.Tests.{eqb-true, eq-eqb}
use Rattle.lists.specs.Choice.{pick, pick_yes, pick_no, same_test, and_off_left}
use Rattle.lists.specs.Members.{times}
use Rattle.lists.proofs.Members.{times_append, eqb_swap}
use Rattle.formula.specs.Node.{Quantifier}
use Rattle.qcir.specs.File.{Name, Literal, Junction, Gate, junction_gate, xor_gate, quantifier_gate, gate_name, gate_inputs, File, numbers_of, names_of}
use Rattle.qcir.specs.Refusals.{keep, gate_names, input_numbers, used_numbers, not_used_once}
use Rattle.qcir.proofs.Keep.{keep_cong}
use Rattle.qcir_tokens.specs.Tokens.{Token, token, output_role, junction_role, xor_role, quantifier_role, bound_role, input_role, is_output, is_definition, is_input, is_use, list_tokens, free_tokens, prefix_tokens, output_token, inputs_tokens, any_inputs_tokens, gate_tokens, gates_tokens, file_tokens}
use Rattle.qcir_gates.specs.Uses.{uses_in, defined_in, misused_in}
use Rattle.qcir_tokens.proofs.Roles.{free_all, line_all, later_all, output_all, junction_all, quantifier_all, bound_all, input_all, output_no_definition, Quiet, none, more, quiet_list, quiet_front, front_no_definition, gate_tokens_lem}
use Rattle.qcir_tokens.proofs.Parts.{file_parts}

uses_quiet : {ts : List Token} (us : List Token) (x : ℕ) → Quiet is_use ts → uses_in (ts ++ us) x ≡ uses_in us x
unfolding uses_in
uses_quiet us x none = refl
uses_quiet us x (more {t} {ts} h q) =
    let a = pick_no {A = ℕ} (is_use t.role && eqb t.name.number x) 1 0 (and_off_left _ _ h) in omega (arith, uses_quiet us x q)

defined_quiet : {ts : List Token} (us : List Token) → Quiet is_definition ts → defined_in (ts ++ us) ≡ defined_in us
unfolding defined_in
defined_quiet us none = refl
defined_quiet us (more h q) = pick_no _ _ _ h ∙ defined_quiet us q

-- Which roles are uses.
output_use : (b : Bool) → is_use (output_role b) ≡ true
unfolding is_use is_input is_output
output_use = output_all (λ r. is_use r ≡ true) refl refl

input_use : (a b : Bool) → is_use (input_role a b) ≡ true
unfolding is_use is_input is_output
input_use = input_all (λ r. is_use r ≡ true) refl refl refl refl

junction_no_use : (j : Junction) → is_use (junction_role j) ≡ false
unfolding is_use is_input is_output
junction_no_use = junction_all (λ r. is_use r ≡ false) refl refl

xor_no_use : is_use xor_role ≡ false
unfolding is_use is_input is_output
xor_no_use = refl

quantifier_no_use : (q : Quantifier) → is_use (quantifier_role q) ≡ false
unfolding is_use is_input is_output
quantifier_no_use = quantifier_all (λ r. is_use r ≡ false) refl refl

bound_no_use : (b : Bool) → is_use (bound_role b) ≡ false
unfolding is_use is_input is_output
bound_no_use = bound_all (λ r. is_use r ≡ false) refl refl

front_no_use : (f : File) → Quiet is_use (free_tokens f.free ++ prefix_tokens f.prefix)
unfolding is_use is_input is_output
front_no_use f =
    quiet_front is_use f (free_all (λ r. is_use r ≡ false) refl refl refl refl) (line_all (λ r. is_use r ≡ false) refl refl refl refl)
    (later_all (λ r. is_use r ≡ false) refl refl)

-- The gates that the tokens define.
defined_gates : (gs : List Gate) → defined_in (gates_tokens gs) ≡ numbers_of (gate_names gs)
unfolding defined_in gates_tokens gate_names numbers_of token
defined_gates [] = refl
defined_gates (g ∷ gs) =
    let r = gate_tokens_lem g in
    ap (λ (ts : List Token). defined_in (ts ++ gates_tokens gs)) r.are
    ∙ pick_yes _ _ _ r.defines
    ∙ ap (λ (xs : List ℕ). (gate_name g).number ∷ xs) (defined_quiet (gates_tokens gs) r.quiet ∙ defined_gates gs)

-- The uses among the tokens.
-- a token that is a use
use_one : (r n x : ℕ) → is_use r ≡ true → ◌≡◌ {A = ℕ} (pick (is_use r && eqb n x) 1 0) (pick (eqb x n) 1 0)
use_one r n x h = ap (λ (b : Bool). pick (b && eqb n x) 1 0) h ∙ ap (λ (b : Bool). pick b 1 0) (eqb_swap n x)

uses_inputs : (l : Literal) (ls : List Literal) (us : List Token) (x : ℕ) → uses_in (inputs_tokens l ls ++ us) x ≡ times x (numbers_of (names_of (l ∷ ls))) + uses_in us x
unfolding uses_in inputs_tokens token numbers_of names_of times
uses_inputs l [] us x = omega (arith, use_one (input_role l.minus true) l.name.number x (input_use l.minus true))
uses_inputs l (m ∷ ms) us x = omega (arith, use_one (input_role l.minus false) l.name.number x (input_use l.minus false), uses_inputs m ms us x)

uses_any : (g : Name) (ls : List Literal) (us : List Token) (x : ℕ) → uses_in (any_inputs_tokens g ls ++ us) x ≡ times x (numbers_of (names_of ls)) + uses_in us x
unfolding uses_in any_inputs_tokens token numbers_of names_of times is_use is_input is_output
uses_any g [] us x = omega (arith, pick_no {A = ℕ} false 1 0 refl)
uses_any g (l ∷ ls) us x = uses_inputs l ls us x

not_used : (r : ℕ) (n : Name) (ts : List Token) (x : ℕ) → is_use r ≡ false → uses_in (token r n ∷ ts) x ≡ uses_in ts x
unfolding token
not_used r n ts x h = uses_quiet {ts = token r n ∷ []} ts x (more h none)

uses_gate : (g : Gate) (us : List Token) (x : ℕ) → uses_in (gate_tokens g ++ us) x ≡ times x (numbers_of (names_of (gate_inputs g))) + uses_in us x
unfolding gate_tokens gate_inputs
uses_gate (junction_gate j g ls) us x = not_used (junction_role j) g (any_inputs_tokens g ls ++ us) x (junction_no_use j) ∙ uses_any g ls us x
uses_gate (xor_gate g l r) us x = not_used xor_role g (inputs_tokens l (r ∷ []) ++ us) x xor_no_use ∙ uses_inputs l (r ∷ []) us x
uses_gate (quantifier_gate q g x' xs l) us x =
    not_used (quantifier_role q) g ((list_tokens bound_role bound_role x' xs ++ inputs_tokens l []) ++ us) x (quantifier_no_use q)
    ∙ ap (λ (ts : List Token). uses_in ts x) (append_assoc (list_tokens bound_role bound_role x' xs) (inputs_tokens l []) us)
    ∙ uses_quiet (inputs_tokens l [] ++ us) x (quiet_list is_use bound_role bound_role x' xs bound_no_use bound_no_use)
    ∙ uses_inputs l [] us x

uses_gates : (gs : List Gate) (x : ℕ) → uses_in (gates_tokens gs) x ≡ times x (input_numbers gs)
unfolding gates_tokens input_numbers uses_in times
uses_gates [] x = refl
uses_gates (g ∷ gs) x =
    uses_gate g (gates_tokens gs) x
    ∙ omega (arith, uses_gates gs x, times_append x (numbers_of (names_of (gate_inputs g))) (input_numbers gs))

file_defined : (f : File) → defined_in (file_tokens f) ≡ numbers_of (gate_names f.gates)
unfolding output_token token defined_in
file_defined f =
    ap defined_in (file_parts f)
    ∙ defined_quiet (output_token f.output ∷ gates_tokens f.gates) (front_no_definition f)
    ∙ pick_no _ _ _ (output_no_definition f.output.minus)
    ∙ defined_gates f.gates

file_uses : (f : File) (x : ℕ) → uses_in (file_tokens f) x ≡ times x (used_numbers f)
unfolding output_token token uses_in used_numbers times
file_uses f x =
    ap (λ (ts : List Token). uses_in ts x) (file_parts f)
    ∙ uses_quiet (output_token f.output ∷ gates_tokens f.gates) x (front_no_use f)
    ∙ omega (arith, use_one (output_role f.output.minus) f.output.name.number x (output_use f.output.minus), uses_gates f.gates x)

-- Two uses at most are enough to see whether there is one.
once : (n u : ℕ) → n ≡ min 2 u → eqb n 1 ≡ eqb u 1
once n u e =
    same_test (eqb n 1) (eqb u 1)
    (λ q. let a : n ≡ 1 = eqb-true n 1 q in eq-eqb u 1 (omega arith))
    (λ q. let a : u ≡ 1 = eqb-true u 1 q in eq-eqb n 1 (omega arith))

pub file_misused : (f : File) (ts : List Token) (uses : ℕ → ℕ) → ts ≡ file_tokens f → ((x : ℕ) → uses x ≡ min 2 (uses_in ts x)) → misused_in uses ts ≡ not_used_once f
unfolding misused_in not_used_once
file_misused f ts uses e h =
    ap (keep (λ x. not (eqb (uses x) 1))) (ap defined_in e ∙ file_defined f)
    ∙ keep_cong (λ x. not (eqb (uses x) 1)) (λ x. not (eqb (times x (used_numbers f)) 1)) (numbers_of (gate_names f.gates))
    (λ x. ap not (once (uses x) (times x (used_numbers f)) (h x ∙ ap (min 2) (ap (λ (us : List Token). uses_in us x) e ∙ file_uses f x))))
