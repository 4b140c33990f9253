-- The walk through lists of entries, through inputs, and through a gate line and back.
-- Assumes nothing.
use mathlib.Core.Path.{◌≡◌, refl, sym, ◌∙◌, ap, subst}
use mathlib.Core.Bool.{Bool, true, false, not, ◌||◌}
use mathlib.Core.List.{List, [], ◌∷◌, ◌++◌}
use Prim.Native.Nat.{ℕ, suc, ◌+◌, ◌*◌, ◌-◌, ◌≤◌, ◌<◌}
use native.Mathlib.Omega.{arith}
use lib.Dec.{eqb}
use lib.ListN.{length, length-append}
use Rattle.lists.specs.Choice.{pick_yes, pick_no, Is, is_true, is_false, look}
use Rattle.lists.specs.Members.{mem}
use Rattle.lists.proofs.Members.{mem_head, mem_tail}
use Rattle.qcir.specs.File.{Name, Literal, Gate, gate_name, gate_variables, gate_inputs, numbers_of, names_of}
use Rattle.qcir.specs.Refusals.{keep, FreeIn, free_in_inputs}
use Rattle.qcir_tokens.specs.Tokens.{Token, token, is_use, is_bound, is_definition, inputs_tokens, any_inputs_tokens, gate_tokens}
use Rattle.qcir.proofs.Keep.{keep_cong}
use Rattle.qcir_unbound.specs.declared.Walk.{Walk}
use Rattle.qcir_unbound.specs.Steps.{Tokens, State, put, flag, is_end, is_above, moved, past, run}
use Rattle.qcir_unbound.proofs.Run.{state_same, stand, flag_back, put_same, put_other, put_back, run_two, run_one, step_plain, step_entry, step_variable, step_call, step_return, step_free, step_back, listed, noted_all, listed_append, listed_none, keep_two, judged_one, past_judged}
use Rattle.qcir_unbound.proofs.Roles.{Tests, definition_role, definition_tests, input_tests, empty_tests, Each, each_none, each_more, GateEntry, Plain, bound_tokens, bound_each, any_each, gate_line, token_numbers, bound_numbers, Held, held_none, held_more, held_left, held_right}

past_on : (r i : ℕ) (w : Walk) → is_end r ≡ false → past r i w ≡ moved (suc i) false w
unfolding past
past_on r i w e = pick_no _ _ _ e

pub past_end : (r i : ℕ) (w : Walk) → is_end r ≡ true → past r i w ≡ moved i true w
unfolding past
past_end r i w e = pick_yes _ _ _ e

-- The marks once these numbers are bound.
unfoldable marked : (ℕ → Bool) → List ℕ → ℕ → Bool
marked m [] = m
marked m (x ∷ xs) = marked (put m x true) xs

-- What the entries from token p on keep.
unfoldable kept_all : ℕ → (ℕ → Bool) → (ℕ → ℕ) → List ℕ → ℕ → ℕ
kept_all p m c [] = c
kept_all p m c (x ∷ xs) = kept_all (suc p) (put m x true) (put c p (flag (m x))) xs

pub marked_put : (m : ℕ → Bool) (x y : ℕ) (b : Bool) → Is (eqb y x) → (b || put m x true y) ≡ ((eqb y x || b) || m y)
unfolding put
marked_put m x y b (is_true e) = rw e (ap (λ v. b || v) (pick_yes true true (m y) refl) ∙ last b)
  where
    last : (a : Bool) → (a || true) ≡ true
    last true = refl
    last false = refl
marked_put m x y b (is_false e) = rw e (ap (λ v. b || v) (pick_no false true (m y) refl))

marked_is : (m : ℕ → Bool) (xs : List ℕ) (y : ℕ) → marked m xs y ≡ (mem y xs || m y)
unfolding marked mem
marked_is m [] y = refl
marked_is m (x ∷ xs) y = marked_is (put m x true) xs y ∙ marked_put m x y (mem y xs) (look (eqb y x))

kept_before : (xs : List ℕ) (p : ℕ) (m : ℕ → Bool) (c : ℕ → ℕ) (i : ℕ) → i < p → kept_all p m c xs i ≡ c i
unfolding kept_all
kept_before [] p m c i h = refl
kept_before (x ∷ xs) p m c i h = kept_before xs (suc p) (put m x true) (put c p (flag (m x))) i (omega arith) ∙ put_other c p i (flag (m x)) (λ e. omega arith)

kept_after : (xs : List ℕ) (p : ℕ) (m : ℕ → Bool) (c : ℕ → ℕ) (i : ℕ) → p + length xs ≤ i → kept_all p m c xs i ≡ c i
unfolding kept_all
kept_after [] p m c i h = refl
kept_after (x ∷ xs) p m c i h = kept_after xs (suc p) (put m x true) (put c p (flag (m x))) i (omega arith) ∙ put_other c p i (flag (m x)) (λ e. omega arith)

-- The entries of these numbers, from token p on, have kept the marks m before them.
pub data Keeps (c : ℕ → ℕ) : ℕ → (ℕ → Bool) → List ℕ → Type 0 where
  keeps_none : {p : ℕ} {m : ℕ → Bool} → Keeps c p m []
  keeps_more : {p : ℕ} {m : ℕ → Bool} {x : ℕ} {xs : List ℕ} → c p ≡ flag (m x) → Keeps c (suc p) (put m x true) xs → Keeps c p m (x ∷ xs)

kept_keeps : (xs : List ℕ) (p : ℕ) (m : ℕ → Bool) (c : ℕ → ℕ) → Keeps (kept_all p m c xs) p m xs
unfolding kept_all
kept_keeps [] p m c = keeps_none
kept_keeps (x ∷ xs) p m c =
    keeps_more (kept_before xs (suc p) (put m x true) (put c p (flag (m x))) p (omega arith) ∙ put_same c p (flag (m x)))
    (kept_keeps xs (suc p) (put m x true) (put c p (flag (m x))))

keeps_same : (c u : ℕ → ℕ) (xs : List ℕ) (p : ℕ) (m : ℕ → Bool) → ((i : ℕ) → p ≤ i → u i ≡ c i) → Keeps c p m xs → Keeps u p m xs
keeps_same c u [] p m k keeps_none = keeps_none
keeps_same c u (x ∷ xs) p m k (keeps_more e h) = keeps_more (k p (omega arith) ∙ e) (keeps_same c u xs (suc p) (put m x true) (λ i l. k i (omega arith)) h)

module _ (t : Tokens) where
  -- onward through entries
  entries_run : (ks : List Token) → Each GateEntry ks → (p : ℕ) → Held t p ks
      → (w : Walk) (m : ℕ → Bool) (c : ℕ → ℕ)
      → run t (length ks) (stand (moved p false w) m c) ≡ stand (moved (p + length ks) false w) (marked m (token_numbers ks)) (kept_all p m c (token_numbers ks))
  unfolding run marked kept_all token_numbers
  entries_run [] each_none p held_none w m c = let e : p ≡ p + 0 = omega arith in ap (λ i. stand (moved i false w) m c) e
  entries_run (k ∷ ks) (each_more h hs) p (held_more r n g) w m c =
      let u = ap is_use r ∙ h.use_is in
      let v = ap is_bound r ∙ h.bound_is in
      let x : ℕ = k.name.number in
      let e : suc p + length ks ≡ p + suc (length ks) = omega arith in
      ap (run t (length ks))
      (step_entry t p w m c u v
      ∙ state_same refl (ap (λ y. put m y true) n) (ap (λ y. put c p (flag (m y))) n))
      ∙ entries_run ks hs (suc p) g w (put m x true) (put c p (flag (m x)))
      ∙ ap (λ i. stand (moved i false w) (marked (put m x true) (token_numbers ks)) (kept_all (suc p) (put m x true) (put c p (flag (m x))) (token_numbers ks))) e

  -- back through a gate's entries
  undo_run : (ks : List Token) → Each GateEntry ks → (p : ℕ) → Held t p ks → (w : Walk) (m : ℕ → Bool) (c : ℕ → ℕ) → Keeps c p m (token_numbers ks)
      → run t (length ks) (stand (moved (p + length ks - 1) true w) (marked m (token_numbers ks)) c) ≡ stand (moved (p - 1) true w) m c
  unfolding run marked token_numbers
  undo_run [] each_none p held_none w m c keeps_none =
      let e : p + 0 - 1 ≡ p - 1 = omega arith in ap (λ i. stand (moved i true w) m c) e
  undo_run (k ∷ ks) (each_more h hs) p (held_more r n g) w m c (keeps_more e z) =
      let x : ℕ = k.name.number in
      let a : p + suc (length ks) - 1 ≡ suc p + length ks - 1 = omega arith in
      let b : suc p - 1 ≡ p = omega arith in
      let l : suc (length ks) ≡ length ks + 1 = omega arith in
      ap (λ q. run t q (stand (moved (p + suc (length ks) - 1) true w) (marked (put m x true) (token_numbers ks)) c)) l
      ∙ run_two t (length ks) 1 _ (stand (moved p true w) (put m x true) c) _
      (ap (λ i. run t (length ks) (stand (moved i true w) (marked (put m x true) (token_numbers ks)) c)) a
      ∙ undo_run ks hs (suc p) g w (put m x true) c z
      ∙ ap (λ i. stand (moved i true w) (put m x true) c) b)
      (step_free t p w (put m x true) c (ap is_above r ∙ h.above_is) (ap is_definition r ∙ h.definition_is) (ap is_bound r ∙ h.bound_is)
      ∙ state_same refl (ap (λ y. put (put m x true) y (not (eqb (c p) 0))) n ∙ put_back m x true (not (eqb (c p) 0)) (flag_back (m x) (c p) e)) refl)

  -- back through the tokens after them
  back_run : (ks : List Token) → Each Plain ks → (p : ℕ) → Held t p ks → (w : Walk) (m : ℕ → Bool) (c : ℕ → ℕ)
      → run t (length ks) (stand (moved (p + length ks - 1) true w) m c) ≡ stand (moved (p - 1) true w) m c
  unfolding run
  back_run [] each_none p held_none w m c =
      let e : p + 0 - 1 ≡ p - 1 = omega arith in ap (λ i. stand (moved i true w) m c) e
  back_run (k ∷ ks) (each_more h hs) p (held_more r n g) w m c =
      let a : p + suc (length ks) - 1 ≡ suc p + length ks - 1 = omega arith in
      let b : suc p - 1 ≡ p = omega arith in
      let l : suc (length ks) ≡ length ks + 1 = omega arith in
      ap (λ q. run t q (stand (moved (p + suc (length ks) - 1) true w) m c)) l
      ∙ run_two t (length ks) 1 _ (stand (moved p true w) m c) _
      (ap (λ i. run t (length ks) (stand (moved i true w) m c)) a
      ∙ back_run ks hs (suc p) g w m c
      ∙ ap (λ i. stand (moved i true w) m c) b)
      (step_back t p w m c (ap is_above r ∙ h.above_is) (ap is_definition r ∙ h.definition_is) (ap is_bound r ∙ h.bound_is))

-- A run of n steps from s to a walk and marks, by which nothing that is kept for token q or later changes.
pub record Done (t : Tokens) (q n : ℕ) (s : State) (w : Walk) (m : ℕ → Bool) : Type 0 where
  pub keeps : ℕ → ℕ
  pub runs : run t n s ≡ stand w m keeps
  pub later_kept : (i : ℕ) → q ≤ i → keeps i ≡ s.kept i

module _ {t : Tokens} {q : ℕ} where
  done_then : {a b : ℕ} {s : State} {w v : Walk} {m l : ℕ → Bool} (d : Done t q a s w m) → Done t q b (stand w m d.keeps) v l → Done t q (a + b) s v l
  done_then {a} {b} {s} {w} {v} {m} {l} d e =
      record {
        keeps = e.keeps;
        runs = run_two t a b s (stand w m d.keeps) (stand v l e.keeps) d.runs e.runs;
        later_kept = λ i h. e.later_kept i h ∙ d.later_kept i h;
      }

  done_as : {a b : ℕ} {s : State} {w v : Walk} {m : ℕ → Bool} → a ≡ b → w ≡ v → Done t q a s w m → Done t q b s v m
  done_as {a} {b} {s} {w} {v} {m} e f d =
      record {
        keeps = d.keeps;
        runs = ap (λ k. run t k s) (sym e) ∙ d.runs ∙ ap (λ u. stand u m d.keeps) f;
        later_kept = d.later_kept;
      }

-- The n steps from the gate line at d, with its variables in xs, back to the token that uses the gate.
abbrev pub Runs : Tokens → ℕ → ℕ → ℕ → List ℕ → Type 0
Runs t q d n xs = (w : Walk) (m : ℕ → Bool) (c : ℕ → ℕ) → Done t q n (stand (moved d false w) m c) (past (t.role (c d)) (c d) (listed m xs w)) m

-- What a name stands for, as the walk goes through it: itself, or a gate line before token q.
pub data Good (t : Tokens) (q : ℕ) (xs : List ℕ) (n : ℕ) (x : ℕ) : Type 0 where
  good_variable : t.gate x ≡ 0 → xs ≡ x ∷ [] → n ≡ 0 → Good t q xs n x
  good_gate : (d : ℕ) → t.gate x ≡ suc d → d < q → Runs t q d n xs → Good t q xs n x

-- The sum of the steps of each of the names.
unfoldable pub total : (ℕ → ℕ) → List ℕ → ℕ
total n [] = 0
total n (x ∷ xs) = n x + total n xs

module _ (t : Tokens) (q : ℕ) where
  pub use_run : (xs : List ℕ) (n i : ℕ) → is_use (t.role i) ≡ true → Good t q xs n (t.number i) → (w : Walk) (m : ℕ → Bool) (c : ℕ → ℕ)
      → Done t q (suc n) (stand (moved i false w) m c) (past (t.role i) i (listed m xs w)) m
  unfolding run
  use_run xs n i u (good_variable g e z) w m c =
      let x : ℕ = t.number i in
      record {
        keeps = c;
        runs =
            ap (λ k. run t (suc k) (stand (moved i false w) m c)) z
            ∙ step_variable t i w m c u g
            ∙ ap (λ v. stand v m c)
            (past_judged (t.role i) i i (m x) false x w ∙ ap (past (t.role i) i) (judged_one m x w ∙ ap (λ l. listed m l w) (sym e)));
        later_kept = λ j h. refl;
      }
  use_run xs n i u (good_gate d g l r) w m c =
      let e = r w m (put c d i) in
      record {
        keeps = e.keeps;
        runs =
            ap (run t n) (step_call t i w m c d u g)
            ∙ e.runs
            ∙ ap (λ j. stand (past (t.role j) j (listed m xs w)) m e.keeps) (put_same c d i);
        later_kept = λ j h. e.later_kept j h ∙ put_other c d j i (λ z. omega arith);
      }

  module _ (o : FreeIn) (n : ℕ → ℕ) where
    inputs_run : (l : Literal) (ls : List Literal) (p : ℕ) → Held t p (inputs_tokens l ls)
        → ((x : ℕ) → mem x (numbers_of (names_of (l ∷ ls))) ≡ true → Good t q (o x) (n x) x)
        → (w : Walk) (m : ℕ → Bool) (c : ℕ → ℕ)
        → Done t q (suc (length ls) + total n (numbers_of (names_of (l ∷ ls)))) (stand (moved p false w) m c)
        (moved (p + length ls) true (listed m (free_in_inputs o (l ∷ ls)) w)) m
    unfolding inputs_tokens token total numbers_of names_of free_in_inputs
    inputs_run l [] p (held_more r e held_none) good w m c =
        let x : ℕ = l.name.number in
        let h = input_tests l.minus true in
        let g = subst (λ y. Good t q (o x) (n x) y) (sym e) (good x (mem_head x [])) in
        let a : suc (n x) ≡ suc 0 + (n x + 0) = omega arith in
        let b : p ≡ p + 0 = omega arith in
        done_as a
        (past_end (t.role p) p (listed m (o x) w) (ap is_end r ∙ h.end_is)
        ∙ ap (λ i. moved i true (listed m (o x) w)) b
        ∙ ap (moved (p + 0) true) (sym (listed_append m (o x) [] w ∙ listed_none m (listed m (o x) w))))
        (use_run (o x) (n x) p (ap is_use r ∙ h.use_is) g w m c)
    inputs_run l (k ∷ ks) p (held_more r e held) good w m c =
        let x : ℕ = l.name.number in
        let h = input_tests l.minus false in
        let g = subst (λ y. Good t q (o x) (n x) y) (sym e) (good x (mem_head x (numbers_of (names_of (k ∷ ks))))) in
        let first =
        done_as refl (past_on (t.role p) p (listed m (o x) w) (ap is_end r ∙ h.end_is))
        (use_run (o x) (n x) p (ap is_use r ∙ h.use_is) g w m c) in
        let rest = inputs_run k ks (suc p) held (λ y z. good y (mem_tail y x (numbers_of (names_of (k ∷ ks))) z)) (listed m (o x) w) m first.keeps in
        let a : suc (n x) + (suc (length ks) + total n (numbers_of (names_of (k ∷ ks)))) ≡ suc (suc (length ks)) + (n x + total n (numbers_of (names_of (k ∷ ks)))) = omega arith in
        let b : suc p + length ks ≡ p + suc (length ks) = omega arith in
        done_as a
        (ap (λ i. moved i true (listed m (free_in_inputs o (k ∷ ks)) (listed m (o x) w))) b
        ∙ ap (moved (p + suc (length ks)) true) (sym (listed_append m (o x) (free_in_inputs o (k ∷ ks)) w)))
        (done_then first rest)

    inputs_length : (l : Literal) (ls : List Literal) → length (inputs_tokens l ls) ≡ suc (length ls)
    unfolding inputs_tokens
    inputs_length l [] = refl
    inputs_length l (k ∷ ks) = ap suc (inputs_length k ks)

    -- onward through the inputs, or past the end of none
    end_run : (g : Name) (ls : List Literal) (p : ℕ) → Held t p (any_inputs_tokens g ls)
        → ((x : ℕ) → mem x (numbers_of (names_of ls)) ≡ true → Good t q (o x) (n x) x)
        → (w : Walk) (m : ℕ → Bool) (c : ℕ → ℕ)
        → Done t q (length (any_inputs_tokens g ls) + total n (numbers_of (names_of ls))) (stand (moved p false w) m c)
        (moved (p + length (any_inputs_tokens g ls) - 1) true (listed m (free_in_inputs o ls) w)) m
    unfolding any_inputs_tokens token total numbers_of names_of free_in_inputs run
    end_run g [] p (held_more r e held_none) good w m c =
        let h = empty_tests in
        let b : p ≡ p + 1 - 1 = omega arith in
        record {
          keeps = c;
          runs =
              step_plain t p w m c (ap is_use r ∙ h.use_is) (ap is_bound r ∙ h.bound_is)
              ∙ ap (λ v. stand v m c)
              (past_end (t.role p) p w (ap is_end r ∙ h.end_is) ∙ ap (λ i. moved i true w) b ∙ ap (moved (p + 1 - 1) true) (sym (listed_none m w)));
          later_kept = λ i z. refl;
        }
    end_run g (l ∷ ls) p held good w m c =
        let k = inputs_length l ls in
        let b : p + length ls ≡ p + length (inputs_tokens l ls) - 1 = omega arith in
        done_as (ap (λ a. a + total n (numbers_of (names_of (l ∷ ls)))) (sym k))
        (ap (λ i. moved i true (listed m (free_in_inputs o (l ∷ ls)) w)) b)
        (inputs_run l ls p held good w m c)

pub numbers_length : (ks : List Token) → length (token_numbers ks) ≡ length ks
unfolding token_numbers
numbers_length [] = refl
numbers_length (k ∷ ks) = ap suc (numbers_length ks)

-- judged by the marks with these numbers bound
listed_marked : (m : ℕ → Bool) (ys xs : List ℕ) (w : Walk) → listed (marked m ys) xs w ≡ listed m (keep (λ y. not (mem y ys)) xs) w
unfolding listed
listed_marked m ys xs w =
    ap (λ l. noted_all l w) (keep_cong (λ y. not (marked m ys y)) (λ y. not (mem y ys || m y)) xs (λ y. ap not (marked_is m ys y)) ∙ keep_two (λ y. mem y ys) m xs)

-- Through a line of a definition, entries and what comes after them, and back.
module _ (t : Tokens) (o : FreeIn) (n : ℕ → ℕ) (r : ℕ) (tests : Tests r false false false false true false) (g : Name) (xs : List Name) (ls : List Literal)
    (p : ℕ) (good : (x : ℕ) → mem x (numbers_of (names_of ls)) ≡ true → Good t p (o x) (n x) x)
    (vs es : List Token) (vs_are : vs ≡ bound_tokens xs) (es_are : es ≡ any_inputs_tokens g ls)
    (role : t.role p ≡ r) (held_vs : Held t (suc p) vs) (held_es : Held t (suc p + length vs) es) where
  through : Runs t (p + suc (length (vs ++ es))) p (2 * suc (length (vs ++ es)) + total n (numbers_of (names_of ls))) (keep (λ y. not (mem y (numbers_of xs))) (free_in_inputs o ls))
  through w m c =
      let ys : List ℕ = token_numbers vs in
      let ks : ys ≡ numbers_of xs = ap token_numbers vs_are ∙ bound_numbers xs in
      let k = numbers_length vs in
      let mm : ℕ → Bool = marked m ys in
      let cc : ℕ → ℕ = kept_all (suc p) m c ys in
      let v : Walk = listed mm (free_in_inputs o ls) w in
      let each_vs = subst (Each GateEntry) (sym vs_are) (bound_each xs) in
      let each_es = subst (Each Plain) (sym es_are) (any_each g ls) in
      let tot : ℕ = total n (numbers_of (names_of ls)) in
      let d : Done t p (length es + tot) (stand (moved (suc p + length vs) false w) mm cc) (moved (suc p + length vs + length es - 1) true v) mm
      = subst (λ z. Done t p (length z + tot) (stand (moved (suc p + length vs) false w) mm cc) (moved (suc p + length vs + length z - 1) true v) mm) (sym es_are)
      (end_run t p o n g ls (suc p + length vs) (subst (Held t (suc p + length vs)) es_are held_es) good w mm cc) in
      let keeps = keeps_same cc d.keeps ys (suc p) m (λ i l. d.later_kept i (omega arith)) (kept_keeps ys (suc p) m c) in
      let b : suc p - 1 ≡ p = omega arith in
      let a : 1 + (length vs + ((length es + tot) + (length es + (length vs + 1)))) ≡ 2 * suc (length (vs ++ es)) + tot
      = omega (arith, length-append vs es) in
      let into : run t 1 (stand (moved p false w) m c) ≡ stand (moved (suc p) false w) m c
      = run_one t _ _ (step_plain t p w m c (ap is_use role ∙ tests.use_is) (ap is_bound role ∙ tests.bound_is)
      ∙ ap (λ u. stand u m c) (past_on (t.role p) p w (ap is_end role ∙ tests.end_is))) in
      let out : run t 1 (stand (moved p true v) m d.keeps) ≡ stand (past (t.role (c p)) (c p) v) m d.keeps
      = run_one t _ _ (step_return t p v m d.keeps (ap is_above role ∙ tests.above_is) (ap is_definition role ∙ tests.definition_is)
      ∙ ap (λ j. stand (past (t.role j) j v) m d.keeps) (d.later_kept p (omega arith) ∙ kept_before ys (suc p) m c p (omega arith))) in
      record {
        keeps = d.keeps;
        runs =
            ap (λ j. run t j (stand (moved p false w) m c)) (sym a)
            ∙ run_two t 1 (length vs + ((length es + tot) + (length es + (length vs + 1)))) _ _ _ into
            (run_two t (length vs) ((length es + tot) + (length es + (length vs + 1))) _ _ _ (entries_run t vs each_vs (suc p) held_vs w m c)
            (run_two t (length es + tot) (length es + (length vs + 1)) _ _ _ d.runs
            (run_two t (length es) (length vs + 1) _ _ _ (back_run t es each_es (suc p + length vs) held_es v mm d.keeps)
            (run_two t (length vs) 1 _ _ _
            (undo_run t vs each_vs (suc p) held_vs v m d.keeps keeps ∙ ap (λ i. stand (moved i true v) m d.keeps) b)
            out))))
            ∙ ap (λ u. stand (past (t.role (c p)) (c p) u) m d.keeps)
            (listed_marked m ys (free_in_inputs o ls) w ∙ ap (λ zs. listed m (keep (λ y. not (mem y zs)) (free_in_inputs o ls)) w) ks);
        later_kept = λ i h. d.later_kept i (omega arith) ∙ kept_after ys (suc p) m c i (omega (arith, length-append vs es));
      }

pub line_run : (t : Tokens) (o : FreeIn) (n : ℕ → ℕ) (g : Gate) (p : ℕ) → Held t p (gate_tokens g)
    → ((x : ℕ) → mem x (numbers_of (names_of (gate_inputs g))) ≡ true → Good t p (o x) (n x) x)
    → Runs t (p + length (gate_tokens g)) p (2 * length (gate_tokens g) + total n (numbers_of (names_of (gate_inputs g))))
    (keep (λ y. not (mem y (numbers_of (gate_variables g)))) (free_in_inputs o (gate_inputs g)))
unfolding token
line_run t o n g p held good = go (subst (Held t p) (gate_line g) held)
  where
    vs : List Token
    vs = bound_tokens (gate_variables g)

    es : List Token
    es = any_inputs_tokens (gate_name g) (gate_inputs g)

    go : Held t p (token (definition_role g) (gate_name g) ∷ (vs ++ es))
        → Runs t (p + length (gate_tokens g)) p (2 * length (gate_tokens g) + total n (numbers_of (names_of (gate_inputs g))))
        (keep (λ y. not (mem y (numbers_of (gate_variables g)))) (free_in_inputs o (gate_inputs g)))
    go (held_more r e h) =
        subst (λ k. Runs t (p + k) p (2 * k + total n (numbers_of (names_of (gate_inputs g)))) (keep (λ y. not (mem y (numbers_of (gate_variables g)))) (free_in_inputs o (gate_inputs g))))
        (sym (ap length (gate_line g)))
        (through t o n (definition_role g) (definition_tests g) (gate_name g) (gate_variables g) (gate_inputs g) p good vs es refl refl r
        (held_left t (suc p) vs es h) (held_right t (suc p) vs es h))
