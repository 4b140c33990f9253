-- Where each gate is used at most once, the walk takes at most two steps for each token of a gate line.
-- Assumes nothing.
use mathlib.Core.Path.{◌≡◌, refl, sym}
use mathlib.Core.Bool.{true, not}
use mathlib.Core.List.{List, [], ◌∷◌, ◌++◌}
use Prim.Native.Nat.{ℕ, ◌+◌, ◌*◌, ◌≤◌}
use native.Mathlib.Omega.{arith}
use lib.Dec.{eqb}
use lib.ListN.{length, length-append}
use borrow.Author.Tests.{eqb-true, eq-eqb, not-false}
use Rattle.lists.specs.Choice.{pick, pick_yes, pick_no, Is, is_true, is_false, look}
use Rattle.lists.specs.Members.{mem, times}
use Rattle.lists.proofs.Members.{mem_head, mem_tail}
use Rattle.qcir.specs.File.{Gate, gate_name, gate_inputs, File, numbers_of, names_of}
use Rattle.qcir.proofs.Keep.{keep_none}
use Rattle.qcir.specs.Refusals.{gate_names, input_numbers, used_numbers, not_used_once}
use Rattle.qcir_tokens.specs.Tokens.{gate_tokens, gates_tokens}
use Rattle.qcir_unbound.proofs.Lines.{total}
use Rattle.qcir_unbound.proofs.Gates.{weights}

total_append : (n : ℕ → ℕ) (xs ys : List ℕ) → total n (xs ++ ys) ≡ total n xs + total n ys
unfolding total
total_append n [] ys = omega arith
total_append n (x ∷ xs) ys = let e = total_append n xs ys in omega arith

times_append : (x : ℕ) (xs ys : List ℕ) → times x (xs ++ ys) ≡ times x xs + times x ys
unfolding times
times_append x [] ys = omega arith
times_append x (y ∷ xs) ys = let e = times_append x xs ys in omega arith

module _ (n : ℕ → ℕ) (a v : ℕ) where
  -- n with v at a
  with_at : ℕ → ℕ
  with_at x = pick (eqb x a) v (n x)

  times_here : (y : ℕ) → eqb y a ≡ true → pick {A = ℕ} (eqb a y) 1 0 ≡ 1
  times_here y e = pick_yes _ _ _ (eq-eqb a y (sym (eqb-true y a e)))

  total_without : (xs : List ℕ) → times a xs ≡ 0 → total with_at xs ≡ total n xs
  unfolding total times with_at
  total_without [] h = refl
  total_without (y ∷ ys) h = go (look (eqb y a)) (total_without ys)
    where
      go : Is (eqb y a) → (times a ys ≡ 0 → total with_at ys ≡ total n ys) → pick (eqb y a) v (n y) + total with_at ys ≡ n y + total n ys
      go (is_true e) r = let b = times_here y e in absurd (omega arith)
      go (is_false e) r =
          let b = r (omega arith) in
          let c = pick_no {A = ℕ} (eqb y a) v (n y) e in omega arith

  total_once : (xs : List ℕ) → times a xs ≤ 1 → total with_at xs ≤ total n xs + v
  unfolding total times with_at
  total_once [] h = omega arith
  total_once (y ∷ ys) h = go (look (eqb y a)) (total_once ys)
    where
      go : Is (eqb y a) → (times a ys ≤ 1 → total with_at ys ≤ total n ys + v) → pick (eqb y a) v (n y) + total with_at ys ≤ n y + total n ys + v
      go (is_true e) r =
          let b = times_here y e in
          let d = total_without ys (omega arith) in
          let c = pick_yes {A = ℕ} (eqb y a) v (n y) e in omega arith
      go (is_false e) r =
          let b = r (omega arith) in
          let c = pick_no {A = ℕ} (eqb y a) v (n y) e in omega arith

weights_le : (gs : List Gate) (n : ℕ → ℕ) (us : List ℕ)
    → ((x : ℕ) → mem x (numbers_of (gate_names gs)) ≡ true → times x (us ++ input_numbers gs) ≤ 1)
    → total (weights n gs) us ≤ 2 * length (gates_tokens gs) + total n (us ++ input_numbers gs)
unfolding weights input_numbers gates_tokens gate_names numbers_of with_at
weights_le [] n us h = omega (arith, total_append n us [])
weights_le (g ∷ gs) n us h =
    let own : ℕ = (gate_name g).number in
    let is : List ℕ = numbers_of (names_of (gate_inputs g)) in
    let rest : List ℕ = input_numbers gs in
    let k : ℕ = 2 * length (gate_tokens g) + total n is in
    let fewer : (x : ℕ) → times x (us ++ rest) ≤ times x (us ++ (is ++ rest))
    = λ x. omega (arith, times_append x us rest, times_append x us (is ++ rest), times_append x is rest) in
    let r = weights_le gs (with_at n own k) us (λ x m. let a = h x (mem_tail x own (numbers_of (gate_names gs)) m) in let b = fewer x in omega arith) in
    let o = h own (mem_head own (numbers_of (gate_names gs))) in
    let f = fewer own in
    let s = total_once n own k (us ++ rest) (omega arith) in
    let l = length-append (gate_tokens g) (gates_tokens gs) in
    omega (arith, total_append n us rest, total_append n us (is ++ rest), total_append n is rest)

none_weighs : (xs : List ℕ) → total (λ x. 0) xs ≡ 0
unfolding total
none_weighs [] = refl
none_weighs (x ∷ xs) = let e = none_weighs xs in omega arith

pub output_le : (f : File) → not_used_once f ≡ [] → weights (λ x. 0) f.gates f.output.name.number ≤ 2 * length (gates_tokens f.gates)
unfolding not_used_once used_numbers total
output_le f e =
    let y : ℕ = f.output.name.number in
    let once : (x : ℕ) → mem x (numbers_of (gate_names f.gates)) ≡ true → times x (y ∷ input_numbers f.gates) ≡ 1
    = λ x m. eqb-true (times x (y ∷ input_numbers f.gates)) 1
    (not-false (eqb (times x (y ∷ input_numbers f.gates)) 1) (keep_none (λ z. not (eqb (times z (y ∷ input_numbers f.gates)) 1)) (numbers_of (gate_names f.gates)) e x m)) in
    let r = weights_le f.gates (λ x. 0) (y ∷ []) (λ x m. let o = once x m in omega arith) in
    omega (arith, none_weighs (input_numbers f.gates))
