-- The pass finds refusal 11's places: its first is the lowest of them.
-- Assumes nothing.
use mathlib.Core.Path.{◌≡◌, refl, sym, ◌∙◌, ap, subst, fun_ext}
use mathlib.Core.Logic.{◌↔◌}
use mathlib.Core.Bool.{Bool, true, false}
use mathlib.Core.List.{List, [], ◌∷◌, ◌++◌}
use Prim.Native.Nat.{ℕ, suc, ◌≤◌, ◌<◌}
use native.Mathlib.Omega.{arith}
use lib.Dec.{eqb}
use lib.ListN.{get_or}
use borrow.Author.Tests.{eqb-true}
use Rattle.lists.specs.Choice.{pick_no, Is, is_true, is_false, look}
use Rattle.lists.specs.Members.{mem}
use Rattle.lists.proofs.Members.{mem_nil}
use Rattle.qcir.specs.File.{Name, Literal, File, numbers_of}
use Rattle.qcir.specs.Refusals.{gate_names, quantified_names, outer_names, repeated, repeated_in_gates, gates_listed, naming_gates, early_uses, misplaced}
use Rattle.qcir_tokens.specs.Tokens.{Token, token, output_role, empty_role, is_outer, is_bound, is_definition, is_input, free_tokens, prefix_tokens, output_token, gates_tokens, file_tokens, definition_from, definition, ascending}
use Rattle.qcir_tokens.proofs.Parts.{file_parts}
use Rattle.qcir_tokens.specs.Held.{Definitions, found_of}
use Rattle.qcir_misplaced.specs.Faults.{is_entry, fault, lists_after, line_after, faults, first_of}
use Rattle.qcir_misplaced.proofs.Turn.{faults_here, faults_later, faults_passed}
use Rattle.qcir_misplaced.proofs.Above.{Above, none, above_left, above_right, above_both, above_pick, above_lower, found_same, first_none, first_some}
use Rattle.qcir_misplaced.proofs.Entries.{entry_defines, past, marked, entries_found, each_map, Ascent, ascending_one, ascending_passed, entries_ascend, entries_define, defines_none}
use Rattle.qcir_misplaced.proofs.Shapes.{outer_entries}
use Rattle.qcir_misplaced.proofs.Defined.{Known, known_start, known_test}
use Rattle.qcir_misplaced.proofs.Gates.{Marks, marks_next, Clear, gates_found}

-- the end of a gate without inputs has no fault
empty_passed : (gates lists : ℕ → ℕ) (line i : ℕ) (t : Token) (ts : List Token) → eqb t.role empty_role ≡ true
    → faults gates lists line i (t ∷ ts) ≡ faults gates lists line (suc i) ts
unfolding is_entry is_outer is_bound is_definition is_input
empty_passed gates lists line i t ts h =
    let e : t.role ≡ 24 = eqb-true t.role 24 h in
    faults_passed gates lists line i t ts (ap is_entry e) (ap is_definition e) (ap is_input e)

-- the places at fault are among those of the tokens
above_cons : (gates lists : ℕ → ℕ) (line i p : ℕ) (t : Token) (ts : List Token) → Is (eqb t.role empty_role)
    → ((lists : ℕ → ℕ) (line i p : ℕ) → ascending p ts ≡ true → Above p (faults gates lists line i ts))
    → ascending p (t ∷ ts) ≡ true → Above p (faults gates lists line i (t ∷ ts))
unfolding faults
above_cons gates lists line i p t ts (is_true h) next a =
    subst (Above p) (sym (empty_passed gates lists line i t ts h)) (next lists line (suc i) p (ascending_passed p t ts h a))
above_cons gates lists line i p t ts (is_false h) next a =
    let x = t.name.number in
    let at = t.name.position in
    let s = ascending_one p t ts h a in
    let l : p ≤ at = s.0 in
    let rest = faults gates (lists_after t.role x line lists) (line_after t.role line i) (suc i) ts in
    (above_pick p at (fault t.role (gates x) (lists x) line i) rest).1
    (λ m. l, above_lower p (suc at) rest (omega arith) (next (lists_after t.role x line lists) (line_after t.role line i) (suc i) (suc at) s.1))

faults_above : (gates : ℕ → ℕ) (ts : List Token) (lists : ℕ → ℕ) (line i p : ℕ) → ascending p ts ≡ true → Above p (faults gates lists line i ts)
unfolding faults
faults_above gates [] lists line i p a = none
faults_above gates (t ∷ ts) lists line i p a = above_cons gates lists line i p t ts (look (eqb t.role empty_role)) (faults_above gates ts) a

-- The first token at fault has the lowest place.
first_cons : (gates lists : ℕ → ℕ) (line i p : ℕ) (t : Token) (ts : List Token) → Is (eqb t.role empty_role)
    → Is (fault t.role (gates t.name.number) (lists t.name.number) line i)
    → ((lists : ℕ → ℕ) (line i p : ℕ) → ascending p ts ≡ true → first_of (faults gates lists line i ts) ≡ found_of (faults gates lists line i ts))
    → ascending p (t ∷ ts) ≡ true → first_of (faults gates lists line i (t ∷ ts)) ≡ found_of (faults gates lists line i (t ∷ ts))
first_cons gates lists line i p t ts (is_true h) b next a =
    let e = empty_passed gates lists line i t ts h in
    ap first_of e ∙ next lists line (suc i) p (ascending_passed p t ts h a) ∙ sym (ap found_of e)
first_cons gates lists line i p t ts (is_false h) (is_true b) next a =
    let x = t.name.number in
    let at = t.name.position in
    let rest = faults gates (lists_after t.role x line lists) (line_after t.role line i) (suc i) ts in
    let e = faults_here gates lists line i t ts b in
    let above = faults_above gates ts (lists_after t.role x line lists) (line_after t.role line i) (suc i) (suc at) (ascending_one p t ts h a).1 in
    ap first_of e ∙ first_some at rest (above_lower at (suc at) rest (omega arith) above) ∙ sym (ap found_of e)
first_cons gates lists line i p t ts (is_false h) (is_false b) next a =
    let x = t.name.number in
    let e = faults_later gates lists line i t ts b in
    ap first_of e ∙ next (lists_after t.role x line lists) (line_after t.role line i) (suc i) (suc t.name.position) (ascending_one p t ts h a).1 ∙ sym (ap found_of e)

first_lowest : (gates : ℕ → ℕ) (ts : List Token) (lists : ℕ → ℕ) (line i p : ℕ) → ascending p ts ≡ true → first_of (faults gates lists line i ts) ≡ found_of (faults gates lists line i ts)
unfolding faults
first_lowest gates [] lists line i p a = first_none
first_lowest gates (t ∷ ts) lists line i p a =
    first_cons gates lists line i p t ts (look (eqb t.role empty_role)) (look (fault t.role (gates t.name.number) (lists t.name.number) line i)) (first_lowest gates ts) a

record OutputRole (r : ℕ) : Type 0 where
  no_entry : is_entry r ≡ false
  no_definition : is_definition r ≡ false
  no_input : is_input r ≡ false
  no_empty : eqb r empty_role ≡ false

role_of_output : (minus : Bool) → OutputRole (output_role minus)
unfolding output_role is_entry is_outer is_bound is_definition is_input
role_of_output true = record { no_entry = refl; no_definition = refl; no_input = refl; no_empty = refl }
role_of_output false = record { no_entry = refl; no_definition = refl; no_input = refl; no_empty = refl }

output_role_lem : (l : Literal) → OutputRole (output_token l).role
unfolding output_token token
output_role_lem l = role_of_output l.minus

naming_none : (k : ℕ) (xs : List Name) → Above k (naming_gates [] xs)
unfolding naming_gates
naming_none k [] = none
naming_none k (x ∷ xs) = subst (λ l. Above k (l ++ naming_gates [] xs)) (sym (pick_no (mem x.number []) (x.position ∷ []) [] (mem_nil x.number))) (naming_none k xs)

marks_start : Marks (λ x. 0) 0 []
unfolding numbers_of
marks_start = record { listed = λ y. sym (mem_nil y); fresh = λ y. omega arith }

module _ (k : ℕ) (gates : ℕ → ℕ) (f : File) (defined : (x : ℕ) → gates x ≡ definition (file_tokens f) x) (order : ascending 0 (file_tokens f) ≡ true) where
  abbrev outer : List Token
  outer = free_tokens f.free ++ prefix_tokens f.prefix

  abbrev tail : List Token
  tail = output_token f.output ∷ gates_tokens f.gates

  abbrev index : ℕ
  index = past outer 0

  abbrev marks : ℕ → ℕ
  marks = marked 1 (outer_names f) (λ x. 0)

  known_outer : Known gates 0 [] (outer ++ tail)
  known_outer = known_start gates 0 (outer ++ tail) (λ y. defined y ∙ ap (λ (ts : List Token). definition_from 0 ts y) (file_parts f))

  known_gates : Known gates (suc index) [] (gates_tokens f.gates)
  known_gates =
      known_start gates (suc index) (gates_tokens f.gates)
      (λ y. known_outer.new y (mem_nil y) ∙ entries_define tail entry_defines 0 (outer_entries f) y
      ∙ defines_none index (output_token f.output) (gates_tokens f.gates) y (output_role_lem f.output).no_definition)

  ascent : Ascent 0 (outer_names f) tail
  ascent = entries_ascend tail (λ r q. q.no_empty) 0 (outer_entries f) (subst (λ ts. ascending 0 ts ≡ true) (file_parts f) order)

  outer_found : (Above k (faults gates (λ x. 0) 0 0 (outer ++ tail))
      ↔ (Above k (repeated [] (outer_names f)) × Above k (naming_gates [] (outer_names f)) × Above k (faults gates marks 0 index tail)))
  outer_found = entries_found k gates 0 tail [] (known_test gates 0 [] (outer ++ tail) known_outer) 0 (λ x. 0) [] (outer_entries f) (λ y. sym (mem_nil y))

  output_passed : faults gates marks 0 index tail ≡ faults gates marks 0 (suc index) (gates_tokens f.gates)
  output_passed =
      let r = output_role_lem f.output in
      faults_passed gates marks 0 index (output_token f.output) (gates_tokens f.gates) r.no_entry r.no_definition r.no_input

  lines_found : (Above k (faults gates marks 0 (suc index) (gates_tokens f.gates)) ↔ Clear k (outer_names f) [] f.gates)
  lines_found =
      let at = (output_token f.output).name.position in
      let o = ascending_one ascent.end (output_token f.output) (gates_tokens f.gates) (output_role_lem f.output).no_empty ascent.onward in
      let o0 : ascent.end ≤ at = o.0 in
      gates_found k gates f.gates marks 0 (suc index) (outer_names f) [] (suc at)
      (marks_next 1 0 (suc index) (λ x. 0) [] (outer_names f) (omega arith) (omega arith) (omega arith) marks_start)
      known_gates (each_map (λ y b. let b1 : y.position < ascent.end = b.1 in omega arith) ascent.between) o.1

  pub file_found : (Above k (faults gates (λ x. 0) 0 0 (file_tokens f)) ↔ Above k (misplaced f))
  unfolding misplaced
  file_found =
      let gs = f.gates in
      let a = repeated [] (gate_names gs) in
      let b = gates_listed (gate_names gs) (outer_names f ++ quantified_names gs) in
      let c = early_uses [] gs in
      let d = repeated [] (outer_names f) in
      let e = repeated_in_gates gs in (
        λ z.
            let o = outer_found.0 (subst (λ ts. Above k (faults gates (λ x. 0) 0 0 ts)) (file_parts f) z) in
            let l = lines_found.0 (subst (Above k) output_passed o.2) in
            above_both k a (b ++ (c ++ (d ++ e))) l.twice (above_both k b (c ++ (d ++ e)) l.listed (above_both k c (d ++ e) l.early (above_both k d e o.0 l.repeats))),
        λ z.
            let z1 = above_right k a (b ++ (c ++ (d ++ e))) z in
            let z2 = above_right k b (c ++ (d ++ e)) z1 in
            let z3 = above_right k c (d ++ e) z2 in
            let l : Clear k (outer_names f) [] gs = record { twice = above_left k a (b ++ (c ++ (d ++ e))) z; bound = naming_none k (quantified_names gs); listed = above_left k b (c ++ (d ++ e)) z1; early = above_left k c (d ++ e) z2; repeats = above_right k d e z3 } in
            subst (λ ts. Above k (faults gates (λ x. 0) 0 0 ts)) (sym (file_parts f))
            (outer_found.1 (above_left k d e z3, naming_none k (outer_names f), subst (Above k) (sym output_passed) (lines_found.1 l))),
      )

-- What the pass finds in a file's tokens, from arrays.
pub first_misplaced : (gates lists : List ℕ) (ts : List Token) → Definitions gates ts → ((x : ℕ) → get_or lists x 0 ≡ 0) → (f : File) → ts ≡ file_tokens f → ascending 0 (file_tokens f) ≡ true
    → first_of (faults (λ x. get_or gates x 0) (λ x. get_or lists x 0) 0 0 ts) ≡ found_of (misplaced f)
first_misplaced gates lists ts held empty f e order =
    ap (λ (l : ℕ → ℕ). first_of (faults (λ x. get_or gates x 0) l 0 0 ts)) (fun_ext empty)
    ∙ ap (λ (us : List Token). first_of (faults (λ x. get_or gates x 0) (λ x. 0) 0 0 us)) e
    ∙ first_lowest (λ x. get_or gates x 0) (file_tokens f) (λ x. 0) 0 0 0 order
    ∙ found_same (faults (λ x. get_or gates x 0) (λ x. 0) 0 0 (file_tokens f)) (misplaced f)
    (λ k. file_found k (λ x. get_or gates x 0) f (λ x. held.holds x ∙ ap (λ (us : List Token). definition us x) e) order)
