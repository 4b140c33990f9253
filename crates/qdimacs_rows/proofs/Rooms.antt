-- Room for clauses that are stored one after the other.
-- Assumes nothing.
use mathlib.Core.Bool.{Bool, true, false}
use mathlib.Core.List.{List, ◌++◌}
use Prim.Native.Nat.{ℕ, ◌+◌, ◌≤◌}
use native.Mathlib.Omega.{arith}
use lib.ListN.{length, length-append}
use Rattle.qdimacs_form.specs.Clauses.{two_operands}
use Rattle.qdimacs_words.specs.declared.Piece.{Piece}
use Rattle.qdimacs_words.specs.Words.{PieceHolds, Loose}
use Rattle.qdimacs_rows.specs.Rows.{lines_text}
use Rattle.qdimacs_rows.proofs.Lines.{ended, two_row, two_lines}

-- A piece fits at an index of a buffer with eight bytes behind it.
pub record Room (text : List ℕ) (at : ℕ) (piece : List ℕ) : Type 0 where
  pub enough : at + length piece + 8 ≤ length text

-- Room for two pieces is room for the first, and after it for the second.
pub room_first : {text : List ℕ} {at : ℕ} (p q : List ℕ) → Room text at (p ++ q) → Room text at p
room_first p q r = record { enough = omega (arith, r.enough, length-append p q) }

pub room_after : {before p mid : List ℕ} {at m : ℕ} (q : List ℕ) → Loose before at p mid m → Room before at (p ++ q) → Room mid m q
room_after {before} {p} q a r = record { enough = omega (arith, r.enough, length-append p q, a.counted, a.kept) }

-- Room for a clause of three literals is room for their pieces.
pub three_room : {text xs ys zs : List ℕ} {a b c : Piece} {at : ℕ} → PieceHolds a xs → PieceHolds b ys → PieceHolds c zs
    → Room text at (xs ++ (ys ++ (zs ++ ended))) → at + a.length + b.length + c.length + 10 ≤ length text
three_room {text} {xs} {ys} {zs} h k l r =
    omega (
      arith,
      r.enough,
      h.sized,
      k.sized,
      l.sized,
      length-append xs (ys ++ (zs ++ ended)),
      length-append ys (zs ++ ended),
      length-append zs ended,
    )

-- Room for the lines of two operands is room for the four rows.
pub two_room : (text : List ℕ) (g : ℕ) (f : Bool → Bool → Bool) (x y at : ℕ)
    → at + length (lines_text (two_operands g f x y)) + 8 ≤ length text
    → Room text at (two_row g f x y false false ++ (two_row g f x y false true ++ (two_row g f x y true false ++ two_row g f x y true true)))
two_room text g f x y at h = record { enough = rw (two_lines g f x y) at h }
