-- Laws of pieces that are put one after the other, where eight bytes after each may be spoilt.
-- Assumes nothing.
use mathlib.Core.List.{List, [], ◌++◌, append_assoc, append-nil}
use mathlib.Core.Path.{◌≡◌, refl, sym, ◌∙◌, ap}
use Prim.Native.Nat.{ℕ, ◌+◌, ◌-◌, ◌≤◌, ◌<◌}
use native.Mathlib.Nat.{add-zero}
use native.Mathlib.Omega.{arith}
use lib.ListN.{length, take, drop, length-append}
use lib.Seq.{drop-drop}
use Rattle.lists.specs.Parts.{overwrite}
use Rattle.lists.proofs.Overwrite.{take_overwrite, drop_overwrite}
use Rattle.texts.specs.Put.{Put}
use Rattle.qdimacs_words.specs.Words.{Loose}

-- lists that are equal from an index on are so from any later one
drop_later : (s t : List ℕ) (j k : ℕ) → j ≤ k → drop j s ≡ drop j t → drop k s ≡ drop k t
drop_later s t j k h e =
    let n : j + (k - j) ≡ k = omega arith in
    ap (λ m. drop m s) (sym n) ∙ sym (drop-drop (k - j) j s) ∙ ap (drop (k - j)) e ∙ drop-drop (k - j) j t ∙ ap (λ m. drop m t) n

-- nothing stored
pub loose_counted : {before piece : List ℕ} {at next : ℕ} → next ≡ at + length piece → length before < next + 8
    → Loose before at piece before next
loose_counted n short = record { counted = n; kept = refl; front = λ fits. absurd (omega arith); back = λ fits. refl }

-- nothing put
pub loose_none : {before : List ℕ} {at : ℕ} → Loose before at [] before at
loose_none {before} {at} =
    record { counted = sym (add-zero at); kept = refl; front = λ fits. sym (append-nil (take at before)); back = λ fits. refl }

-- a piece that is put exactly
pub put_loose : {before p after : List ℕ} {at n : ℕ} → Put before at p after n → Loose before at p after n
put_loose {before} {p} {after} {at} {n} a =
    record { counted = a.counted; kept = a.kept; front = λ fits. first fits; back = λ fits. rest fits }
  where
    first : n + 8 ≤ length before → take n after ≡ take at before ++ p
    first fits =
        let c : n ≡ at + length p = a.counted in
        let r : at + length p ≤ length before = omega arith in
        (λ i. take (c i) (a.held r i)) ∙ take_overwrite before at p r

    rest : n + 8 ≤ length before → drop (n + 8) after ≡ drop (n + 8) before
    rest fits =
        let c : n ≡ at + length p = a.counted in
        let r : at + length p ≤ length before = omega arith in
        ap (drop (n + 8)) (a.held r) ∙ drop_overwrite before at p r (n + 8) (omega arith)

-- two pieces in a row are one
pub loose_then : {before p mid q after : List ℕ} {at m n : ℕ} → Loose before at p mid m → Loose mid m q after n
    → Loose before at (p ++ q) after n
loose_then {before} {p} {mid} {q} {after} {at} {m} {n} a b =
    let l : length (p ++ q) ≡ length p + length q = length-append p q in
    record {
      counted = omega (arith, l, a.counted, b.counted);
      kept = b.kept ∙ a.kept;
      front = λ fits. first fits;
      back = λ fits. rest fits;
    }
  where
    first : n + 8 ≤ length before → take n after ≡ take at before ++ (p ++ q)
    first fits =
        let k : length mid ≡ length before = a.kept in
        let c : n ≡ m + length q = b.counted in
        b.front (omega arith) ∙ ap (λ t. t ++ q) (a.front (omega arith)) ∙ append_assoc (take at before) p q

    rest : n + 8 ≤ length before → drop (n + 8) after ≡ drop (n + 8) before
    rest fits =
        let k : length mid ≡ length before = a.kept in
        let c : n ≡ m + length q = b.counted in
        b.back (omega arith) ∙ drop_later mid before (m + 8) (n + 8) (omega arith) (a.back (omega arith))

-- a part written after one that was written loosely
overwrite_spoilt : (before mid p q : List ℕ) (at m : ℕ) → take m mid ≡ take at before ++ p
    → drop (m + length q) mid ≡ drop (at + length (p ++ q)) before → overwrite mid m q ≡ overwrite before at (p ++ q)
unfolding overwrite
overwrite_spoilt before mid p q at m front back =
    (λ i. front i ++ (q ++ back i))
    ∙ append_assoc (take at before) p (q ++ drop (at + length (p ++ q)) before)
    ∙ ap (λ t. take at before ++ t) (sym (append_assoc p q (drop (at + length (p ++ q)) before)))

-- a piece that is put exactly and has at least eight bytes is stored over what was spoilt
pub loose_put : {before p mid q after : List ℕ} {at m n : ℕ} → Loose before at p mid m → Put mid m q after n → 8 ≤ length q
    → Put before at (p ++ q) after n
loose_put {before} {p} {mid} {q} {after} {at} {m} {n} a b long =
    let l : length (p ++ q) ≡ length p + length q = length-append p q in
    record { counted = omega (arith, l, a.counted, b.counted); kept = b.kept ∙ a.kept; held = λ fits. both fits }
  where
    both : at + length (p ++ q) ≤ length before → after ≡ overwrite before at (p ++ q)
    both fits =
        let l : length (p ++ q) ≡ length p + length q = length-append p q in
        let k : length mid ≡ length before = a.kept in
        let c : m ≡ at + length p = a.counted in
        let front : take m mid ≡ take at before ++ p = a.front (omega arith) in
        let e : m + length q ≡ at + length (p ++ q) = omega arith in
        let back : drop (m + length q) mid ≡ drop (m + length q) before =
        drop_later mid before (m + 8) (m + length q) (omega arith) (a.back (omega arith)) in
        b.held (omega arith) ∙ overwrite_spoilt before mid p q at m front (back ∙ ap (λ j. drop j before) e)

-- what stands in a buffer of its own
pub loose_local : {before p after : List ℕ} {n : ℕ} → Loose before 0 p after n → n + 8 ≤ length before → take n after ≡ p
loose_local a fits = a.front fits

-- the same piece by another name
pub loose_as : {before p q after : List ℕ} {at n : ℕ} → q ≡ p → Loose before at p after n → Loose before at q after n
loose_as e a = rw e a

-- where the piece starts, by another name
pub loose_from : {before p after : List ℕ} {at at' n : ℕ} → at' ≡ at → Loose before at p after n → Loose before at' p after n
loose_from e a = rw e a
