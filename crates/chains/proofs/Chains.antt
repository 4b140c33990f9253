-- Numbers chained by their keys from the highest down, step by step.
-- Assumes nothing.
use mathlib.Core.Path.{◌≡◌, refl, sym, ◌∙◌, subst}
use mathlib.Core.Bool.{Bool, true, false, ◌&&◌}
use mathlib.Core.List.{List}
use Prim.Native.Nat.{ℕ, suc, ◌<◌, ◌≤◌}
use native.Mathlib.Omega.{arith}
use lib.Dec.{eqb}
use lib.ListN.{length, get_or, set}
use borrow.Author.Tests.{eq-eqb, ne_eqb}
use Rattle.lists.specs.Choice.{clash, and_both, and_off_left, and_off_right}
use Rattle.lists.proofs.Stores.{set_all}
use Rattle.arrays.specs.Link.{link, Chains}
use Rattle.arrays.proofs.Nodes.{from_here}
use Rattle.arrays.proofs.Link.{link_end, link_here, link_skip}
use Rattle.chains.specs.Chaining.{LinkedFrom}

module _ (passes : ℕ → Bool) (key : ℕ → ℕ) (n : ℕ) where
  -- number j passes the test and has key k
  abbrev keyed : ℕ → ℕ → Bool
  keyed k j = passes j && eqb (key j) k

  pub chains_start : (fs ns : List ℕ) → ((k : ℕ) → get_or fs k 0 ≡ 0) → LinkedFrom passes key n n fs ns
  chains_start fs ns z =
      record {
        first_is = λ k. z k ∙ sym (link_end (keyed k) n n (omega arith));
        next_is = λ j k l e. absurd (omega arith);
      }

  -- a number that does not pass the test
  pub chains_skip : (i : ℕ) (fs ns : List ℕ) → passes i ≡ false → LinkedFrom passes key n (suc i) fs ns → LinkedFrom passes key n i fs ns
  chains_skip i fs ns o s =
      record {
        first_is = λ k. s.first_is k ∙ sym (link_skip (keyed k) i n (and_off_left (passes i) (eqb (key i) k) o));
        next_is = from_here (λ j. passes j ≡ true → get_or ns j 0 ≡ link (keyed (key j)) (suc j) n) i n (λ y. clash y o) s.next_is;
      }

  -- one that does goes before those with its key
  module _ (i : ℕ) (fs ns : List ℕ) (h : i < n) (o : passes i ≡ true) (w : key i < length fs) (v : i < length ns) (s : LinkedFrom passes key n (suc i) fs ns) where
    put : LinkedFrom passes key n i (set fs (key i) (suc i)) (set ns i (get_or fs (key i) 0))
    put =
        record {
          first_is =
              set_all fs (key i) (suc i) 0 w (λ k c. c ≡ link (keyed k) i n)
              (sym (link_here (keyed (key i)) i n h (and_both (passes i) (eqb (key i) (key i)) o (eq-eqb (key i) (key i) refl))))
              (λ k d.
              s.first_is k
              ∙ sym (link_skip (keyed k) i n (and_off_right (passes i) (eqb (key i) k) (ne_eqb (key i) k (λ e. d (sym e))))));
          next_is =
              set_all ns i (get_or fs (key i) 0) 0 v (λ j c. i ≤ j → j < n → passes j ≡ true → c ≡ link (keyed (key j)) (suc j) n)
              (λ _ _ _. s.first_is (key i))
              (λ j d k l e. s.next_is j (omega arith) l e);
        }

    -- where the key was read and the lists were written
    pub chains_put : (k : ℕ) (fs' ns' : List ℕ) → k ≡ key i → fs' ≡ set fs k (suc i) → ns' ≡ set ns i (get_or fs k 0) → LinkedFrom passes key n i fs' ns'
    chains_put k fs' ns' e p q = rw (p, q, e) put

  pub chains_end : (i : ℕ) (fs ns : List ℕ) → i ≡ 0 → LinkedFrom passes key n i fs ns → Chains passes key n fs ns
  chains_end i fs ns z s =
      record { first_is = λ k h. subst (λ m. get_or fs k 0 ≡ link (keyed k) m n) z (s.first_is k); next_is = λ j h e. s.next_is j (omega arith) h e }
