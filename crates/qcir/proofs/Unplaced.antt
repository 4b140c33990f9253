-- What does not depend on positions.
-- Assumes nothing.
use mathlib.Core.Path.{◌≡◌, refl, sym, ◌∙◌, ap, fun_ext}
use mathlib.Core.Bool.{Bool, true, false, not, ◌&&◌, ◌||◌}
use mathlib.Core.List.{List, [], ◌∷◌, ◌++◌, map, map-append, map-map}
use Prim.Native.Nat.{ℕ, suc, ◌+◌, max}
use lib.Dec.{eqb}
use lib.ListN.{length, length-append}
use native.Mathlib.Omega.{arith}
use Rattle.lists.specs.Choice.{pick}
use Rattle.lists.specs.Members.{mem, times}
use Rattle.lists.proofs.Passing.{chosen_length}
use Rattle.formula.specs.Valuation.{Valuation, quant}
use Rattle.qcir.specs.File.{Name, Literal, Junction, conjunction, disjunction, Gate, junction_gate, xor_gate, quantifier_gate, gate_name, gate_variables, gate_inputs, Line, line_variables, prefix_variables, File, numbers_of, names_of}
use Rattle.formula.specs.Node.{operator}
use Rattle.formula.specs.Words.{words_of}
use Rattle.qcir.specs.Meaning.{Meaning, literal_value, junction_value, gate_value, meaning, prefix_value, file_truth}
use Rattle.qcir.specs.Refusals.{keep, gate_names, outer_names, quantified_names, repeated, repeated_in_gates, later_places, gates_listed, naming_gates, without, early_uses, misplaced, input_numbers, used_numbers, not_used_once, FreeIn, free_in_inputs, free_in_gates, unbound}
use Rattle.qcir.specs.Table.{Draft, Stored, store, store_literal, store_inputs, store_block, store_gate, store_gates, store_prefix, empty_draft, store_matrix, store_file, line_block, file_prefix, table_words, table_list, junction_table}
use Rattle.qcir.specs.Positions.{unplaced_name, unplaced_literal, unplaced_gate, unplaced_line, unplaced, UnplacedAgain, TruthUnplaced, NotUsedOnceUnplaced, UnboundUnplaced, WordsUnplaced, ListUnplaced, MatrixUnplaced, PrefixUnplaced, MisplacedUnplaced}

-- Files without positions.
map_again : {A : Type 0} (p : A → A) → ((x : A) → p (p x) ≡ p x) → (xs : List A) → map p (map p xs) ≡ map p xs
map_again p h xs = map-map p p xs ∙ ap (λ q. map q xs) (fun_ext h)

names_again : (xs : List Name) → map unplaced_name (map unplaced_name xs) ≡ map unplaced_name xs
unfolding unplaced_name
names_again xs = map_again unplaced_name (λ x. refl) xs

literals_again : (ls : List Literal) → map unplaced_literal (map unplaced_literal ls) ≡ map unplaced_literal ls
unfolding unplaced_literal unplaced_name
literals_again ls = map_again unplaced_literal (λ l. refl) ls

line_again : (l : Line) → unplaced_line (unplaced_line l) ≡ unplaced_line l
unfolding unplaced_line unplaced_name
line_again l = λ i. record { quantifier = l.quantifier; first = unplaced_name l.first; others = names_again l.others i }

gate_again : (g : Gate) → unplaced_gate (unplaced_gate g) ≡ unplaced_gate g
unfolding unplaced_gate unplaced_literal unplaced_name
gate_again (junction_gate j g ls) = ap (junction_gate j (unplaced_name g)) (literals_again ls)
gate_again (xor_gate g l r) = refl
gate_again (quantifier_gate q g x xs l) = ap (λ ys. quantifier_gate q (unplaced_name g) (unplaced_name x) ys (unplaced_literal l)) (names_again xs)

pub unplaced_again : UnplacedAgain
unfolding unplaced unplaced_literal unplaced_name
unplaced_again f = λ i.
    record {
      free = names_again f.free i;
      prefix = map_again unplaced_line line_again f.prefix i;
      output = unplaced_literal f.output;
      gates = map_again unplaced_gate gate_again f.gates i;
    }

-- Names and numbers.
pub numbers_unplaced : (xs : List Name) → numbers_of (map unplaced_name xs) ≡ numbers_of xs
unfolding numbers_of unplaced_name
numbers_unplaced xs = map-map _ unplaced_name xs

names_unplaced : (ls : List Literal) → names_of (map unplaced_literal ls) ≡ map unplaced_name (names_of ls)
unfolding names_of unplaced_literal
names_unplaced ls = map-map _ unplaced_literal ls ∙ sym (map-map unplaced_name _ ls)

name_unplaced : (g : Gate) → gate_name (unplaced_gate g) ≡ unplaced_name (gate_name g)
unfolding gate_name unplaced_gate
name_unplaced (junction_gate j g ls) = refl
name_unplaced (xor_gate g l r) = refl
name_unplaced (quantifier_gate q g x xs l) = refl

number_unplaced : (g : Gate) → (gate_name (unplaced_gate g)).number ≡ (gate_name g).number
unfolding unplaced_name
number_unplaced g = ap (λ x. x.number) (name_unplaced g)

variables_unplaced : (g : Gate) → gate_variables (unplaced_gate g) ≡ map unplaced_name (gate_variables g)
unfolding gate_variables unplaced_gate
variables_unplaced (junction_gate j g ls) = refl
variables_unplaced (xor_gate g l r) = refl
variables_unplaced (quantifier_gate q g x xs l) = refl

inputs_unplaced : (g : Gate) → gate_inputs (unplaced_gate g) ≡ map unplaced_literal (gate_inputs g)
unfolding gate_inputs unplaced_gate
inputs_unplaced (junction_gate j g ls) = refl
inputs_unplaced (xor_gate g l r) = refl
inputs_unplaced (quantifier_gate q g x xs l) = refl

gate_names-unplaced : (gs : List Gate) → gate_names (map unplaced_gate gs) ≡ map unplaced_name (gate_names gs)
unfolding gate_names
gate_names-unplaced [] = refl
gate_names-unplaced (g ∷ gs) = λ i. name_unplaced g i ∷ gate_names-unplaced gs i

quantified_unplaced : (gs : List Gate) → quantified_names (map unplaced_gate gs) ≡ map unplaced_name (quantified_names gs)
unfolding quantified_names
quantified_unplaced [] = refl
quantified_unplaced (g ∷ gs) = (λ i. variables_unplaced g i ++ quantified_unplaced gs i) ∙ sym (map-append unplaced_name (gate_variables g) (quantified_names gs))

prefix_unplaced : (ls : List Line) → prefix_variables (map unplaced_line ls) ≡ map unplaced_name (prefix_variables ls)
unfolding prefix_variables line_variables unplaced_line
prefix_unplaced [] = refl
prefix_unplaced (l ∷ ls) = ap (λ xs. map unplaced_name (line_variables l) ++ xs) (prefix_unplaced ls) ∙ sym (map-append unplaced_name (line_variables l) (prefix_variables ls))

outer_unplaced : (f : File) → outer_names (unplaced f) ≡ map unplaced_name (outer_names f)
unfolding outer_names unplaced
outer_unplaced f = ap (λ xs. map unplaced_name f.free ++ xs) (prefix_unplaced f.prefix) ∙ sym (map-append unplaced_name f.free (prefix_variables f.prefix))

input_numbers-unplaced : (gs : List Gate) → input_numbers (map unplaced_gate gs) ≡ input_numbers gs
unfolding input_numbers
input_numbers-unplaced [] = refl
input_numbers-unplaced (g ∷ gs) =
    let e : numbers_of (names_of (gate_inputs (unplaced_gate g))) ≡ numbers_of (names_of (gate_inputs g)) =
    ap numbers_of (ap names_of (inputs_unplaced g) ∙ names_unplaced (gate_inputs g)) ∙ numbers_unplaced _ in
    λ i. e i ++ input_numbers-unplaced gs i

-- The truth value.
junction_unplaced : (m : Meaning) (j : Junction) (ls : List Literal) (v : Valuation) → junction_value m j (map unplaced_literal ls) v ≡ junction_value m j ls v
unfolding junction_value literal_value unplaced_literal unplaced_name
junction_unplaced m conjunction [] v = refl
junction_unplaced m conjunction (l ∷ ls) v = ap (λ b. literal_value m l v && b) (junction_unplaced m conjunction ls v)
junction_unplaced m disjunction [] v = refl
junction_unplaced m disjunction (l ∷ ls) v = ap (λ b. literal_value m l v || b) (junction_unplaced m disjunction ls v)

gate_unplaced : (m : Meaning) (g : Gate) (v : Valuation) → gate_value m (unplaced_gate g) v ≡ gate_value m g v
unfolding gate_value literal_value unplaced_gate unplaced_literal unplaced_name
gate_unplaced m (junction_gate j g ls) v = junction_unplaced m j ls v
gate_unplaced m (xor_gate g l r) v = refl
gate_unplaced m (quantifier_gate q g x xs l) v = ap (λ ns. quant q ns (literal_value m l) v) (numbers_unplaced (x ∷ xs))

meaning_unplaced : (m : Meaning) (gs : List Gate) → meaning m (map unplaced_gate gs) ≡ meaning m gs
unfolding meaning
meaning_unplaced m [] = refl
meaning_unplaced m (g ∷ gs) =
    (λ i. meaning (λ x v. pick (eqb x (number_unplaced g i)) (gate_unplaced m g v i) (m x v)) (map unplaced_gate gs)) ∙ meaning_unplaced (λ x v. pick (eqb x (gate_name g).number) (gate_value m g v) (m x v)) gs

prefix_value-unplaced : (ls : List Line) (g : Valuation → Bool) (v : Valuation) → prefix_value (map unplaced_line ls) g v ≡ prefix_value ls g v
unfolding prefix_value line_variables unplaced_line
prefix_value-unplaced [] g v = refl
prefix_value-unplaced (l ∷ ls) g v = λ i. quant l.quantifier (numbers_unplaced (line_variables l) i) (λ u. prefix_value-unplaced ls g u i) v

pub truth_unplaced : TruthUnplaced
unfolding file_truth literal_value unplaced unplaced_literal unplaced_name
truth_unplaced f v =
    prefix_value-unplaced f.prefix _ v
    ∙ ap (λ m. prefix_value f.prefix (literal_value m f.output) v) (meaning_unplaced (λ x u. u x) f.gates)

-- Refusals 13 and 12.
pub not_used_once-unplaced : NotUsedOnceUnplaced
unfolding not_used_once used_numbers unplaced unplaced_literal unplaced_name
not_used_once-unplaced f =
    (λ i. keep (λ x. not (eqb (times x (f.output.name.number ∷ input_numbers-unplaced f.gates i)) 1)) (numbers_of (gate_names-unplaced f.gates i)))
    ∙ ap (keep (λ x. not (eqb (times x (used_numbers f)) 1))) (numbers_unplaced (gate_names f.gates))

free_inputs_unplaced : (o : FreeIn) (ls : List Literal) → free_in_inputs o (map unplaced_literal ls) ≡ free_in_inputs o ls
unfolding free_in_inputs unplaced_literal unplaced_name
free_inputs_unplaced o [] = refl
free_inputs_unplaced o (l ∷ ls) = ap (λ xs. o l.name.number ++ xs) (free_inputs_unplaced o ls)

free_gates_unplaced : (o : FreeIn) (gs : List Gate) → free_in_gates o (map unplaced_gate gs) ≡ free_in_gates o gs
unfolding free_in_gates
free_gates_unplaced o [] = refl
free_gates_unplaced o (g ∷ gs) =
    let bound : numbers_of (gate_variables (unplaced_gate g)) ≡ numbers_of (gate_variables g) = ap numbers_of (variables_unplaced g) ∙ numbers_unplaced _ in
    let used : free_in_inputs o (gate_inputs (unplaced_gate g)) ≡ free_in_inputs o (gate_inputs g) = ap (free_in_inputs o) (inputs_unplaced g) ∙ free_inputs_unplaced o _ in
    (λ i. free_in_gates (λ x. pick (eqb x (number_unplaced g i)) (keep (λ y. not (mem y (bound i))) (used i)) (o x)) (map unplaced_gate gs))
    ∙ free_gates_unplaced (λ x. pick (eqb x (gate_name g).number) (keep (λ y. not (mem y (numbers_of (gate_variables g)))) (free_in_inputs o (gate_inputs g))) (o x)) gs

pub unbound_unplaced : UnboundUnplaced
unfolding unbound unplaced unplaced_literal unplaced_name
unbound_unplaced f =
    let outer : numbers_of (outer_names (unplaced f)) ≡ numbers_of (outer_names f) = ap numbers_of (outer_unplaced f) ∙ numbers_unplaced _ in
    λ i. keep (λ y. not (mem y (outer i))) (free_gates_unplaced (λ x. x ∷ []) f.gates i f.output.name.number)

-- The table.
store_inputs-unplaced : (t : ℕ) (s : Stored) (ls : List Literal) → store_inputs t s (map unplaced_literal ls) ≡ store_inputs t s ls
unfolding store_inputs store_literal unplaced_literal unplaced_name
store_inputs-unplaced t s [] = refl
store_inputs-unplaced t s (l ∷ ls) = store_inputs-unplaced t (let r = store_literal s.draft l in store r.draft (words_of (operator t s.node r.node))) ls

store_gate-unplaced : (d : Draft) (g : Gate) → store_gate d (unplaced_gate g) ≡ store_gate d g
unfolding store_gate store_literal unplaced_gate unplaced_literal unplaced_name
store_gate-unplaced d (junction_gate j g []) = refl
store_gate-unplaced d (junction_gate j g (l ∷ ls)) = store_inputs-unplaced (junction_table j) (store_literal d l) ls
store_gate-unplaced d (xor_gate g l r) = store_inputs-unplaced 6 (store_literal d l) (r ∷ [])
store_gate-unplaced d (quantifier_gate q g x xs l) = ap (λ ns. store_block q ns (store_literal d l)) (numbers_unplaced (x ∷ xs))

store_gates-unplaced : (d : Draft) (gs : List Gate) → store_gates d (map unplaced_gate gs) ≡ store_gates d gs
unfolding store_gates
store_gates-unplaced d [] = refl
store_gates-unplaced d (g ∷ gs) =
    (λ i.
    let s = store_gate-unplaced d g i in
    let e = s.draft in
    store_gates (record { words = e.words; entries = e.entries; gate = λ x. pick (eqb x (number_unplaced g i)) (suc s.node) (e.gate x) }) (map unplaced_gate gs))
    ∙ store_gates-unplaced (record { words = (store_gate d g).draft.words; entries = (store_gate d g).draft.entries; gate = λ x. pick (eqb x (gate_name g).number) (suc (store_gate d g).node) ((store_gate d g).draft.gate x) }) gs

store_prefix-unplaced : (s : Stored) (ls : List Line) → store_prefix s (map unplaced_line ls) ≡ store_prefix s ls
unfolding store_prefix line_variables unplaced_line
store_prefix-unplaced s [] = refl
store_prefix-unplaced s (l ∷ ls) = λ i. store_block l.quantifier (numbers_unplaced (line_variables l) i) (store_prefix-unplaced s ls i)

lines_unplaced : (ls : List Line) → map line_block (map unplaced_line ls) ≡ map line_block ls
unfolding line_block line_variables unplaced_line
lines_unplaced [] = refl
lines_unplaced (l ∷ ls) =
    ap (λ xs. record { quantifier = l.quantifier; variables = xs } ∷ map line_block (map unplaced_line ls)) (numbers_unplaced (l.first ∷ l.others))
    ∙ ap (λ bs. line_block l ∷ bs) (lines_unplaced ls)

pub matrix_unplaced : MatrixUnplaced
unfolding store_matrix store_literal unplaced unplaced_literal unplaced_name
matrix_unplaced f = ap (λ d. store_literal d f.output) (store_gates-unplaced empty_draft f.gates)

pub blocks_unplaced : PrefixUnplaced
unfolding file_prefix unplaced
blocks_unplaced f = lines_unplaced f.prefix

file_unplaced : (f : File) → store_file (unplaced f) ≡ store_file f
unfolding store_file unplaced
file_unplaced f =
    store_prefix-unplaced (store_matrix (unplaced f)) f.prefix
    ∙ ap (λ s. store_prefix s f.prefix) (matrix_unplaced f)

pub words_unplaced : WordsUnplaced
unfolding table_words
words_unplaced f = ap (λ s. s.draft.words) (file_unplaced f)

pub list_unplaced : ListUnplaced
unfolding table_list
list_unplaced f = ap (λ s. s.draft.entries) (file_unplaced f)

-- Refusal 11: as many places are at fault.
record AsMany (xs ys : List ℕ) : Type 0 where
  lengths : length xs ≡ length ys

parts : {xs ys zs us : List ℕ} → AsMany xs zs → AsMany ys us → AsMany (xs ++ ys) (zs ++ us)
parts {xs} {ys} {zs} {us} e f = record { lengths = length-append xs ys ∙ (λ i. e.lengths i + f.lengths i) ∙ sym (length-append zs us) }

picked : (b : Bool) (p q : ℕ) → AsMany (pick b (p ∷ []) []) (pick b (q ∷ []) [])
picked b p q = record { lengths = chosen_length b p ∙ sym (chosen_length b q) }

nothing : AsMany [] []
nothing = record { lengths = refl }

carried : {xs ys zs : List ℕ} → xs ≡ ys → AsMany ys zs → AsMany xs zs
carried e m = rw e m

repeated_unplaced : (before : List ℕ) (xs : List Name) → AsMany (repeated before (map unplaced_name xs)) (repeated before xs)
unfolding repeated unplaced_name
repeated_unplaced before [] = nothing
repeated_unplaced before (x ∷ xs) = parts (picked (mem x.number before) 0 x.position) (repeated_unplaced (x.number ∷ before) xs)

repeated_gates_unplaced : (gs : List Gate) → AsMany (repeated_in_gates (map unplaced_gate gs)) (repeated_in_gates gs)
unfolding repeated_in_gates
repeated_gates_unplaced [] = nothing
repeated_gates_unplaced (g ∷ gs) = parts (carried (ap (repeated []) (variables_unplaced g)) (repeated_unplaced [] (gate_variables g))) (repeated_gates_unplaced gs)

later_unplaced : (x : Name) (ys : List Name) → AsMany (later_places (unplaced_name x) (map unplaced_name ys)) (later_places x ys)
unfolding later_places unplaced_name
later_unplaced x [] = nothing
later_unplaced x (y ∷ ys) = parts (picked (eqb x.number y.number) 0 (max x.position y.position)) (later_unplaced x ys)

listed_unplaced : (xs ys : List Name) → AsMany (gates_listed (map unplaced_name xs) (map unplaced_name ys)) (gates_listed xs ys)
unfolding gates_listed
listed_unplaced [] ys = nothing
listed_unplaced (x ∷ xs) ys = parts (later_unplaced x ys) (listed_unplaced xs ys)

naming_unplaced : (gates : List ℕ) (xs : List Name) → AsMany (naming_gates gates (map unplaced_name xs)) (naming_gates gates xs)
unfolding naming_gates unplaced_name
naming_unplaced gates [] = nothing
naming_unplaced gates (x ∷ xs) = parts (picked (mem x.number gates) 0 x.position) (naming_unplaced gates xs)

pick_of : {A B : Type 0} (h : A → B) (b : Bool) (x y : A) → pick b (h x) (h y) ≡ h (pick b x y)
unfolding pick
pick_of h true x y = refl
pick_of h false x y = refl

without_unplaced : (before : List ℕ) (xs : List Name) → without before (map unplaced_name xs) ≡ map unplaced_name (without before xs)
unfolding without unplaced_name
without_unplaced before [] = refl
without_unplaced before (x ∷ xs) =
    ap (λ ys. pick (mem x.number before) ys (unplaced_name x ∷ ys)) (without_unplaced before xs)
    ∙ pick_of (map unplaced_name) (mem x.number before) (without before xs) (x ∷ without before xs)

early_unplaced : (before : List ℕ) (gs : List Gate) → AsMany (early_uses before (map unplaced_gate gs)) (early_uses before gs)
unfolding early_uses
early_unplaced before [] = nothing
early_unplaced before (g ∷ gs) =
    let gates : numbers_of (gate_names (map unplaced_gate (g ∷ gs))) ≡ numbers_of (gate_names (g ∷ gs)) = ap numbers_of (gate_names-unplaced (g ∷ gs)) ∙ numbers_unplaced (gate_names (g ∷ gs)) in
    let inputs : without before (names_of (gate_inputs (unplaced_gate g))) ≡ map unplaced_name (without before (names_of (gate_inputs g))) =
    ap (without before) (ap names_of (inputs_unplaced g) ∙ names_unplaced (gate_inputs g)) ∙ without_unplaced before (names_of (gate_inputs g)) in
    parts (carried (λ i. naming_gates (gates i) (inputs i)) (naming_unplaced (numbers_of (gate_names (g ∷ gs))) (without before (names_of (gate_inputs g)))))
    (carried (ap (λ n. early_uses (n ∷ before) (map unplaced_gate gs)) (number_unplaced g)) (early_unplaced ((gate_name g).number ∷ before) gs))

pub misplaced_count_unplaced : (f : File) → length (misplaced (unplaced f)) ≡ length (misplaced f)
unfolding misplaced unplaced
misplaced_count_unplaced f =
    let gates = gate_names-unplaced f.gates in
    let lists : outer_names (unplaced f) ++ quantified_names (map unplaced_gate f.gates) ≡ map unplaced_name (outer_names f ++ quantified_names f.gates) =
    (λ i. outer_unplaced f i ++ quantified_unplaced f.gates i) ∙ sym (map-append unplaced_name (outer_names f) (quantified_names f.gates)) in
    (parts (carried (ap (repeated []) gates) (repeated_unplaced [] (gate_names f.gates)))
    (parts (carried (λ i. gates_listed (gates i) (lists i)) (listed_unplaced (gate_names f.gates) (outer_names f ++ quantified_names f.gates)))
    (parts (early_unplaced [] f.gates)
    (parts (carried (ap (repeated []) (outer_unplaced f)) (repeated_unplaced [] (outer_names f))) (repeated_gates_unplaced f.gates))))).lengths

as_empty : (xs ys : List ℕ) → length xs ≡ length ys → xs ≡ [] → ys ≡ []
as_empty xs [] e h = refl
as_empty xs (y ∷ ys) e h = absurd (omega (arith, e, ap length h))

pub misplaced_unplaced : MisplacedUnplaced
misplaced_unplaced f = let e = misplaced_count_unplaced f in (as_empty _ _ e, as_empty _ _ (sym e))
