-- Which files are refused for their names (request S-1): 11, 13 and 12, each as the list of the places or numbers at fault, the
-- lowest of which is the refusal's position.
-- Assumes nothing.
use Rattle.std.specs.Prelude.{Bool, not, List, [], ◌∷◌, ◌++◌, ℕ, max, min, eqb}
use Rattle.lists.specs.Choice.{pick}
use Rattle.lists.specs.Members.{mem, times}
use Rattle.qcir.specs.File.{Name, Literal, Gate, gate_name, gate_variables, gate_inputs, prefix_variables, File, numbers_of, names_of}

-- The elements that pass the test.
unfoldable pub keep : (ℕ → Bool) → List ℕ → List ℕ
keep p [] = []
keep p (x ∷ xs) = pick (p x) (x ∷ keep p xs) (keep p xs)

-- The lowest element; 0 if there is none.
unfoldable pub least : List ℕ → ℕ
least [] = 0
least (x ∷ []) = x
least (x ∷ y ∷ ys) = min x (least (y ∷ ys))

unfoldable pub gate_names : List Gate → List Name
gate_names [] = []
gate_names (g ∷ gs) = gate_name g ∷ gate_names gs

-- The names in the free line and the prefix lines.
unfoldable pub outer_names : File → List Name
outer_names f = f.free ++ prefix_variables f.prefix

-- The names in the lists of quantified gates.
unfoldable pub quantified_names : List Gate → List Name
quantified_names [] = []
quantified_names (g ∷ gs) = gate_variables g ++ quantified_names gs

-- Of names in the order of the text, the positions of those whose number is among `before` or stands at an earlier name.
unfoldable pub repeated : List ℕ → List Name → List ℕ
repeated before [] = []
repeated before (x ∷ xs) = pick (mem x.number before) (x.position ∷ []) [] ++ repeated (x.number ∷ before) xs

-- "a name twice in one such list": in that of a quantified gate.
unfoldable pub repeated_in_gates : List Gate → List ℕ
repeated_in_gates [] = []
repeated_in_gates (g ∷ gs) = repeated [] (gate_variables g) ++ repeated_in_gates gs

-- The later place of the name x and each of the names xs that has its number.
unfoldable pub later_places : Name → List Name → List ℕ
later_places x [] = []
later_places x (y ∷ ys) = pick (eqb x.number y.number) (max x.position y.position ∷ []) [] ++ later_places x ys

-- A gate name "also in a free, prefix or quantifier list".
unfoldable pub gates_listed : List Name → List Name → List ℕ
gates_listed [] ys = []
gates_listed (x ∷ xs) ys = later_places x ys ++ gates_listed xs ys

-- Of names, the positions of those whose number is that of one of these gates.
unfoldable pub naming_gates : List ℕ → List Name → List ℕ
naming_gates gates [] = []
naming_gates gates (x ∷ xs) = pick (mem x.number gates) (x.position ∷ []) [] ++ naming_gates gates xs

-- Of names, those whose number is not among `before`.
unfoldable pub without : List ℕ → List Name → List Name
without before [] = []
without before (x ∷ xs) = pick (mem x.number before) (without before xs) (x ∷ without before xs)

-- "an input in a gate line not after its first definition": one that names a gate of this or a later line, and none of an earlier one.
-- `before` are the gates of the earlier lines.
unfoldable pub early_uses : List ℕ → List Gate → List ℕ
early_uses before [] = []
early_uses before (g ∷ gs) =
    naming_gates (numbers_of (gate_names (g ∷ gs))) (without before (names_of (gate_inputs g)))
    ++ early_uses ((gate_name g).number ∷ before) gs

-- Refusal 11: the places at fault.
unfoldable pub misplaced : File → List ℕ
misplaced f =
    -- "a gate name defined twice"
    repeated [] (gate_names f.gates)
    -- "also in a free, prefix or quantifier list"
    ++ (gates_listed (gate_names f.gates) (outer_names f ++ quantified_names f.gates)
    -- "an input in a gate line not after its first definition"
    ++ (early_uses [] f.gates
    -- "a name twice in one such list or in the free and prefix lines together"
    ++ (repeated [] (outer_names f) ++ repeated_in_gates f.gates)))

-- The numbers that the output and the inputs name, one for each use.
unfoldable pub input_numbers : List Gate → List ℕ
input_numbers [] = []
input_numbers (g ∷ gs) = numbers_of (names_of (gate_inputs g)) ++ input_numbers gs

unfoldable pub used_numbers : File → List ℕ
used_numbers f = f.output.name.number ∷ input_numbers f.gates

-- Refusal 13: "a gate not used exactly once".
unfoldable pub not_used_once : File → List ℕ
not_used_once f = keep (λ x. not (eqb (times x (used_numbers f)) 1)) (numbers_of (gate_names f.gates))

-- The variables that occur in what each name stands for, bound by no quantified gate there.
abbrev pub FreeIn : Type 0
FreeIn = ℕ → List ℕ

unfoldable pub free_in_inputs : FreeIn → List Literal → List ℕ
free_in_inputs o [] = []
free_in_inputs o (l ∷ ls) = o l.name.number ++ free_in_inputs o ls

-- A gate line gives its name the variables of its inputs but those that the gate quantifies.
unfoldable pub free_in_gates : FreeIn → List Gate → FreeIn
free_in_gates o [] = o
free_in_gates o (g ∷ gs) =
    free_in_gates (λ x. pick (eqb x (gate_name g).number) (keep (λ y. not (mem y (numbers_of (gate_variables g)))) (free_in_inputs o (gate_inputs g))) (o x)) gs

-- Refusal 12: "a variable that no block above binds and no free line names". A name that no gate line defines is a variable.
unfoldable pub unbound : File → List ℕ
unbound f = keep (λ y. not (mem y (numbers_of (outer_names f)))) (free_in_gates (λ x. x ∷ []) f.gates f.output.name.number)
