-- Laws of pieces that are put one after the other.
-- Assumes nothing.
use mathlib.Core.List.{List, [], ◌++◌}
use mathlib.Core.Path.{◌≡◌, refl, sym, ◌∙◌, ap}
use Prim.Native.Nat.{ℕ, ◌+◌, ◌-◌, ◌≤◌, ◌<◌}
use native.Mathlib.Nat.{add-zero}
use native.Mathlib.Omega.{arith}
use lib.ListN.{length, length-append}
use Rattle.lists.specs.Parts.{overwrite}
use Rattle.lists.proofs.Overwrite.{overwrite_nil, overwrite_append, length_overwrite}
use Rattle.texts.specs.Put.{Put}
use Rattle.texts.proofs.Stores.{overwrite_over}

-- a piece that is stored, and one that does not fit
pub put_held : (before : List ℕ) (at : ℕ) (piece after : List ℕ) (next : ℕ) → next ≡ at + length piece → next ≤ length before
    → after ≡ overwrite before at piece → Put before at piece after next
put_held before at piece after next n fits e =
    record { counted = n; kept = ap length e ∙ length_overwrite before at piece (omega arith); held = λ _. e }

-- one that ends where the next begins
pub put_stored : (before : List ℕ) (at : ℕ) (piece after : List ℕ) (next : ℕ) → next ≡ at + length piece → next ≤ length before
    → after ≡ overwrite before (next - length piece) piece → Put before at piece after next
put_stored before at piece after next n fits e =
    let a : next - length piece ≡ at = omega arith in
    put_held before at piece after next n fits (e ∙ ap (λ k. overwrite before k piece) a)

pub put_counted : (before : List ℕ) (at : ℕ) (piece : List ℕ) (next : ℕ) → next ≡ at + length piece → length before < next
    → Put before at piece before next
put_counted before at piece next n short = record { counted = n; kept = refl; held = λ fits. absurd (omega arith) }

-- nothing put
pub put_none : (before : List ℕ) (at : ℕ) → Put before at [] before at
put_none before at = record { counted = sym (add-zero at); kept = refl; held = λ fits. sym (overwrite_nil before at) }

-- two pieces in a row are one
pub put_then : {before p mid q after : List ℕ} {at m n : ℕ} → Put before at p mid m → Put mid m q after n → Put before at (p ++ q) after n
put_then {before} {p} {mid} {q} {after} {at} {m} {n} a b =
    let l : length (p ++ q) ≡ length p + length q = length-append p q in
    record {
      counted = omega (arith, l, a.counted, b.counted);
      kept = b.kept ∙ a.kept;
      held = λ fits. both fits;
    }
  where
    both : at + length (p ++ q) ≤ length before → after ≡ overwrite before at (p ++ q)
    both fits =
        let l : length (p ++ q) ≡ length p + length q = length-append p q in
        let ka : length mid ≡ length before = a.kept in
        let ca : m ≡ at + length p = a.counted in
        let first : mid ≡ overwrite before at p = a.held (omega arith) in
        let second : after ≡ overwrite mid m q = b.held (omega arith) in
        second ∙ (λ i. overwrite (first i) (ca i) q) ∙ overwrite_append before at p q (omega arith)

-- a piece put over one that is not longer
pub put_over : {before p mid q after : List ℕ} {at m n : ℕ} → Put before at p mid m → Put mid at q after n → length p ≤ length q
    → Put before at q after n
put_over {before} {p} {mid} {q} {after} {at} {m} {n} a b shorter =
    record { counted = b.counted; kept = b.kept ∙ a.kept; held = λ fits. both fits }
  where
    both : at + length q ≤ length before → after ≡ overwrite before at q
    both fits =
        let ka : length mid ≡ length before = a.kept in
        let first : mid ≡ overwrite before at p = a.held (omega arith) in
        let second : after ≡ overwrite mid at q = b.held (omega arith) in
        second ∙ ap (λ t. overwrite t at q) first ∙ overwrite_over before at p q shorter fits

-- the same piece by another name
pub put_as : {before p q after : List ℕ} {at n : ℕ} → q ≡ p → Put before at p after n → Put before at q after n
put_as e a = rw e a

-- where the piece starts, by another name
pub put_from : {before p after : List ℕ} {at at' n : ℕ} → at' ≡ at → Put before at p after n → Put before at' p after n
put_from e a = rw e a
