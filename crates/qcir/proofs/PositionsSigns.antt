-- The signs of a file at other positions are those of a file that is the same apart from positions, and at no positions those of the
-- file without positions. Shown part by part.
-- Assumes nothing.
use mathlib.Core.Path.{◌≡◌, refl, sym, ◌∙◌, ap}
use mathlib.Core.Bool.{Bool, true, false}
use mathlib.Core.List.{List, [], ◌∷◌, ◌++◌, map, map-append, append_assoc, append-nil}
use Prim.Native.Nat.{ℕ}
use Rattle.lists.specs.Choice.{pick}
use Rattle.qcir.specs.File.{Name, Literal, Gate, junction_gate, xor_gate, quantifier_gate, Line, File}
use Rattle.qcir.specs.Spelling.{Sign, word, name, newline, comma, closing, opening, minus_sign, semicolon, equals, output_word, free_word, xor_word, quantifier_word, junction_word, literal_signs, names_signs, inputs_signs, any_inputs_signs, list_signs, free_signs, prefix_signs, output_signs, gate_signs, gates_signs, file_signs}
use Rattle.qcir.specs.Positions.{unplaced_name, unplaced_literal, unplaced_gate, unplaced_line, unplaced}

-- The sign, at position 0 if it is a name.
unfoldable pub unplaced_sign : Sign → Sign
unplaced_sign (word w) = word w
unplaced_sign (name x) = name (unplaced_name x)
unplaced_sign newline = newline

-- Signs that differ in positions only.
pub data Alike : List Sign → List Sign → Type 0 where
  no_sign : Alike [] []
  same_word : (w : List ℕ) {ss rr : List Sign} → Alike ss rr → Alike (word w ∷ ss) (word w ∷ rr)
  same_name : {x y : Name} {ss rr : List Sign} → y.number ≡ x.number → Alike ss rr → Alike (name x ∷ ss) (name y ∷ rr)
  same_line : {ss rr : List Sign} → Alike ss rr → Alike (newline ∷ ss) (newline ∷ rr)

-- The signs rr begin with those of a part that is x apart from positions, and go on like ss.
record Begins {A : Type 0} (signs : A → List Sign) (plain : A → A) (x : A) (ss rr : List Sign) : Type 0 where
  part : A
  rest : List Sign
  starts : rr ≡ signs part ++ rest
  same : plain part ≡ plain x
  more : Alike ss rest

-- What is to be shown of the part x of a file, which is `plain x` without positions.
record Part {A : Type 0} (signs : A → List Sign) (plain : A → A) (x : A) : Type 0 where
  placed : (ss rr : List Sign) → Alike (signs x ++ ss) rr → Begins signs plain x ss rr
  unplaced_signs : map unplaced_sign (signs x) ≡ signs (plain x)

-- Two parts.
then : {A B : Type 0} {s : A → List Sign} {p : A → A} {t : B → List Sign} {q : B → B} {x : A} {y : B} → Part s p x → Part t q y
    → Part {A = A × B} (λ c. s c.0 ++ t c.1) (λ c. (p c.0, q c.1)) (x, y)
then {s} {p} {t} {q} {x} {y} a b =
    record {
      placed = λ ss rr h.
          let k : Alike (s x ++ (t y ++ ss)) rr = rw append_assoc at h in
          let l = a.placed (t y ++ ss) rr k in
          let m = b.placed ss l.rest l.more in
          record {
            part = (l.part, m.part);
            rest = m.rest;
            starts = l.starts ∙ ap (λ us. s l.part ++ us) m.starts ∙ sym (append_assoc (s l.part) (t m.part) m.rest);
            same = λ i. (l.same i, m.same i);
            more = m.more;
          };
      unplaced_signs = map-append unplaced_sign (s x) (t y) ∙ (λ i. a.unplaced_signs i ++ b.unplaced_signs i);
    }

-- A part seen as one of another kind.
seen_as : {A B : Type 0} {s : A → List Sign} {p : A → A} {x : A} (t : B → List Sign) (q : B → B) (k : A → B)
    → ((a : A) → t (k a) ≡ s a) → ((a : A) → q (k a) ≡ k (p a)) → Part s p x → Part t q (k x)
seen_as {s} {p} {x} t q k e f a =
    record {
      placed = λ ss rr h.
          let i : Alike (s x ++ ss) rr = rw e at h in
          let l = a.placed ss rr i in
          record {
            part = k l.part;
            rest = l.rest;
            starts = l.starts ∙ ap (λ us. us ++ l.rest) (sym (e l.part));
            same = f l.part ∙ ap k l.same ∙ sym (f x);
            more = l.more;
          };
      unplaced_signs = ap (map unplaced_sign) (e x) ∙ a.unplaced_signs ∙ sym (e (p x)) ∙ ap t (sym (f x));
    }

-- A part without signs.
none : {A : Type 0} {s : A → List Sign} {p : A → A} {x : A} → s x ≡ [] → p x ≡ x → Part s p x
none {s} {x} e h =
    record {
      placed = λ ss rr k. let l : Alike ([] ++ ss) rr = rw e at k in record { part = x; rest = rr; starts = rw e; same = refl; more = l };
      unplaced_signs = ap (map unplaced_sign) e ∙ sym e ∙ ap s (sym h);
    }

-- Any number of parts.
each : {A : Type 0} {s : A → List Sign} {p : A → A} (t : List A → List Sign) → t [] ≡ [] → ((a : A) (b : List A) → t (a ∷ b) ≡ s a ++ t b)
    → ((x : A) → Part s p x) → (xs : List A) → Part t (map p) xs
each t e f a [] = none e refl
each {p} t e f a (x ∷ xs) = seen_as t (map p) (λ c. c.0 ∷ c.1) (λ c. f c.0 c.1) (λ c. refl) (then (a x) (each t e f a xs))

-- A word, the end of a line, and a name.
a_word : (w : List ℕ) → Part {A = Unit} (λ u. word w ∷ []) (λ u. u) tt
unfolding unplaced_sign
a_word w = record { placed = go; unplaced_signs = refl }
  where
    go : (ss rr : List Sign) → Alike (word w ∷ ss) rr → Begins {A = Unit} (λ u. word w ∷ []) (λ u. u) tt ss rr
    go ss _ (same_word _ {rr = rr} h) = record { part = tt; rest = rr; starts = refl; same = refl; more = h }

at_line_end : Part {A = Unit} (λ u. word closing ∷ newline ∷ []) (λ u. u) tt
unfolding unplaced_sign
at_line_end = record { placed = go; unplaced_signs = refl }
  where
    go : (ss rr : List Sign) → Alike (word closing ∷ newline ∷ ss) rr → Begins {A = Unit} (λ u. word closing ∷ newline ∷ []) (λ u. u) tt ss rr
    go ss _ (same_word _ (same_line {rr = rr} h)) = record { part = tt; rest = rr; starts = refl; same = refl; more = h }

name_part : (x : Name) → Part (λ y. name y ∷ []) unplaced_name x
unfolding unplaced_sign unplaced_name
name_part x = record { placed = go; unplaced_signs = refl }
  where
    go : (ss rr : List Sign) → Alike (name x ∷ ss) rr → Begins (λ y. name y ∷ []) unplaced_name x ss rr
    go ss _ (same_name {y} {rr} e h) = record { part = y; rest = rr; starts = refl; same = λ i. record { number = e i; position = 0 }; more = h }

after_word_lem : {A : Type 0} {s : A → List Sign} {p : A → A} {x : A} (w : List ℕ) → Part s p x → Part (λ a. word w ∷ s a) p x
after_word_lem w a = seen_as _ _ (λ c. c.1) (λ c. refl) (λ c. refl) (then (a_word w) a)

ended : {A : Type 0} {s : A → List Sign} {p : A → A} {x : A} → Part s p x → Part (λ a. s a ++ (word closing ∷ newline ∷ [])) p x
ended a = seen_as _ _ (λ c. c.0) (λ c. refl) (λ c. refl) (then a at_line_end)

-- Names with commas between them.
names_part : (x : Name) (xs : List Name)
    → Part {A = Name × List Name} (λ c. names_signs c.0 c.1) (λ c. (unplaced_name c.0, map unplaced_name c.1)) (x, xs)
unfolding names_signs
names_part x [] = seen_as _ _ (λ y. (y, [])) (λ y. refl) (λ y. refl) (name_part x)
names_part x (y ∷ ys) =
    seen_as _ _ (λ c. (c.0, c.1.0 ∷ c.1.1)) (λ c. refl) (λ c. refl) (then (name_part x) (after_word_lem comma (names_part y ys)))

-- Literals.
literal_by : (m : Bool) (x : Name) → Part literal_signs unplaced_literal (record { minus = m; name = x })
unfolding literal_signs unplaced_literal pick
literal_by true x = seen_as _ _ (λ y. record { minus = true; name = y }) (λ y. refl) (λ y. refl) (after_word_lem minus_sign (name_part x))
literal_by false x = seen_as _ _ (λ y. record { minus = false; name = y }) (λ y. refl) (λ y. refl) (name_part x)

literal_part : (l : Literal) → Part literal_signs unplaced_literal l
literal_part l = literal_by l.minus l.name

-- Inputs with commas between them.
inputs_part : (l : Literal) (ls : List Literal)
    → Part {A = Literal × List Literal} (λ c. inputs_signs c.0 c.1) (λ c. (unplaced_literal c.0, map unplaced_literal c.1)) (l, ls)
unfolding inputs_signs
inputs_part l [] = seen_as _ _ (λ m. (m, [])) (λ m. refl) (λ m. refl) (literal_part l)
inputs_part l (m ∷ ms) =
    seen_as _ _ (λ c. (c.0, c.1.0 ∷ c.1.1)) (λ c. refl) (λ c. refl) (then (literal_part l) (after_word_lem comma (inputs_part m ms)))

any_inputs_part : (ls : List Literal) → Part any_inputs_signs (map unplaced_literal) ls
unfolding any_inputs_signs
any_inputs_part [] = none refl refl
any_inputs_part (l ∷ ls) = seen_as _ _ (λ c. c.0 ∷ c.1) (λ c. refl) (λ c. refl) (inputs_part l ls)

-- Lines.
list_part : (w : List ℕ) (x : Name) (xs : List Name)
    → Part {A = Name × List Name} (λ c. list_signs w c.0 c.1) (λ c. (unplaced_name c.0, map unplaced_name c.1)) (x, xs)
unfolding list_signs
list_part w x xs = after_word_lem w (after_word_lem opening (ended (names_part x xs)))

free_part : (xs : List Name) → Part free_signs (map unplaced_name) xs
unfolding free_signs
free_part [] = none refl refl
free_part (x ∷ xs) = seen_as _ _ (λ c. c.0 ∷ c.1) (λ c. refl) (λ c. refl) (list_part free_word x xs)

line_part : (l : Line) → Part (λ m. list_signs (quantifier_word m.quantifier) m.first m.others) unplaced_line l
unfolding unplaced_line
line_part l =
    seen_as _ _ (λ c. record { quantifier = l.quantifier; first = c.0; others = c.1 }) (λ c. refl) (λ c. refl)
    (list_part (quantifier_word l.quantifier) l.first l.others)

output_part_lem : (l : Literal) → Part output_signs unplaced_literal l
unfolding output_signs
output_part_lem l = after_word_lem output_word (after_word_lem opening (ended (literal_part l)))

-- the name that a gate line defines, and what follows `= w(`
defines : {A : Type 0} {s : A → List Sign} {p : A → A} {x : A} (g : Name) (w : List ℕ) → Part s p x
    → Part {A = Name × A} (λ c. name c.0 ∷ word equals ∷ word w ∷ word opening ∷ s c.1) (λ c. (unplaced_name c.0, p c.1)) (g, x)
defines g w a = then (name_part g) (after_word_lem equals (after_word_lem w (after_word_lem opening a)))

gate_part : (g : Gate) → Part gate_signs unplaced_gate g
unfolding gate_signs unplaced_gate
gate_part (junction_gate j g ls) =
    seen_as _ _ (λ c. junction_gate j c.0 c.1) (λ c. refl) (λ c. refl) (defines g (junction_word j) (ended (any_inputs_part ls)))
gate_part (xor_gate g l r) =
    seen_as _ _ (λ c. xor_gate c.0 c.1.0 c.1.1) (λ c. refl) (λ c. refl)
    (defines g xor_word (then (literal_part l) (after_word_lem comma (ended (literal_part r)))))
gate_part (quantifier_gate q g x xs l) =
    seen_as _ _ (λ c. quantifier_gate q c.0 c.1.0.0 c.1.0.1 c.1.1) (λ c. refl) (λ c. refl)
    (defines g (quantifier_word q) (then (names_part x xs) (after_word_lem semicolon (ended (literal_part l)))))

-- Files.
file_part : (f : File) → Part file_signs unplaced f
unfolding file_signs unplaced prefix_signs gates_signs
file_part f =
    seen_as _ _ (λ c. record { free = c.0; prefix = c.1.0; output = c.1.1.0; gates = c.1.1.1 }) (λ c. refl) (λ c. refl)
    (then (free_part f.free)
    (then (each prefix_signs refl (λ l ls. refl) line_part f.prefix)
    (then (output_part_lem f.output) (each gates_signs refl (λ g gs. refl) gate_part f.gates))))

-- Without positions the signs of a file are those of the file without positions.
pub file_signs_lem : (f : File) → map unplaced_sign (file_signs f) ≡ file_signs (unplaced f)
file_signs_lem f = (file_part f).unplaced_signs

no_more : (us : List Sign) {rest : List Sign} → Alike [] rest → us ++ rest ≡ us
no_more us no_sign = append-nil us

-- Signs that are a file's but for positions are those of a file that is the same apart from positions.
pub placed_file : (f : File) (rr : List Sign) → Alike (file_signs f) rr → (g : File) × (rr ≡ file_signs g) × (unplaced g ≡ unplaced f)
placed_file f rr h =
    let l = (file_part f).placed [] rr (rw append-nil h) in
    (l.part, l.starts ∙ no_more (file_signs l.part) l.more, l.same)
