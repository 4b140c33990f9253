-- Letters of words, two at a time: where they lead.
-- Assumes nothing.
use mathlib.Core.Bool.{Bool, true, ◌&&◌}
use mathlib.Core.List.{List}
use mathlib.Core.Path.{◌≡◌, refl}
use Prim.Native.Nat.{ℕ}
use native.Mathlib.Omega.{arith}
use lib.Dec.{eqb, ltb}
use borrow.Author.Tests.{eqb-true, ltb-true}
use Rattle.lists.specs.Choice.{pick, and_left, and_right}
use Rattle.lists.specs.Members.{mem}
use Rattle.qcir.specs.Spelling.{is_space}
use Rattle.qcir_spelling.specs.Machine.{row, arrow, points, row_at, arrow_of, some_begins, same, begins, move, emit, read_word, step_at}
use Rattle.qcir_scan.specs.declared.Progress.{Progress}
use Rattle.qcir_scan.specs.Places.{places, place_of, code, index_in, number_of}
use Rattle.qcir_scan.specs.Tables.{samples, sample_of, trial, first_role, done, entry_for, entry_at}
use Rattle.qcir_scan.specs.Held.{Leads, GoesOn}

-- What `Leads` says, as a test, m being the place between the two bytes.
unfoldable test : ℕ → ℕ → ℕ → ℕ → ℕ → Bool
test place first second next m = (ltb 0 place && (ltb 0 m && (ltb m 115 && ltb next 115))) && (eqb (entry_at m second) next && (ltb first 256 && ltb second 256))

module _ (place first second next : ℕ) (t : test place first second next (entry_at place first) ≡ true) where
  m : ℕ
  m = entry_at place first

  places_low : (ltb 0 place && (ltb 0 m && (ltb m 115 && ltb next 115))) ≡ true
  unfolding test m
  places_low = and_left _ (eqb (entry_at m second) next && (ltb first 256 && ltb second 256)) t

  bytes_low : (eqb (entry_at m second) next && (ltb first 256 && ltb second 256)) ≡ true
  unfolding test m
  bytes_low = and_right (ltb 0 place && (ltb 0 m && (ltb m 115 && ltb next 115))) _ t

  leads : Leads place first second next
  unfolding m
  leads =
      let p₁ = and_right (ltb 0 place) (ltb 0 m && (ltb m 115 && ltb next 115)) places_low in
      let p₂ = and_right (ltb 0 m) (ltb m 115 && ltb next 115) p₁ in
      let b₁ = and_right (eqb (entry_at m second) next) (ltb first 256 && ltb second 256) bytes_low in
      record {
        going = ltb-true _ _ (and_left (ltb 0 place) _ places_low);
        middle = ltb-true _ _ (and_left (ltb 0 m) _ p₁);
        middle_low = ltb-true _ _ (and_left (ltb m 115) (ltb next 115) p₂);
        arrives = eqb-true _ _ (and_left (eqb (entry_at m second) next) _ bytes_low);
        next_low = ltb-true _ _ (and_right (ltb m 115) (ltb next 115) p₂);
        first_low = ltb-true _ _ (and_left (ltb first 256) (ltb second 256) b₁);
        second_low = ltb-true _ _ (and_right (ltb first 256) (ltb second 256) b₁);
      }

-- a|nd
pub leads_and : Leads 100 110 100 30
unfolding test entry_at entry_for sample_of samples mem is_space place_of places number_of index_in code trial first_role done step_at read_word move emit arrow_of some_begins same begins pick row arrow points row_at
leads_and = leads 100 110 100 30 refl

-- x|or
pub leads_xor : Leads 103 111 114 32
unfolding test entry_at entry_for sample_of samples mem is_space place_of places number_of index_in code trial first_role done step_at read_word move emit arrow_of some_begins same begins pick row arrow points row_at
leads_xor = leads 103 111 114 32 refl

-- e|xi
pub leads_exists : Leads 105 120 105 107
unfolding test entry_at entry_for sample_of samples mem is_space place_of places number_of index_in code trial first_role done step_at read_word move emit arrow_of some_begins same begins pick row arrow points row_at
leads_exists = leads 105 120 105 107 refl

-- exi|st
pub leads_exists_on : Leads 107 115 116 109
unfolding test entry_at entry_for sample_of samples mem is_space place_of places number_of index_in code trial first_role done step_at read_word move emit arrow_of some_begins same begins pick row arrow points row_at
leads_exists_on = leads 107 115 116 109 refl

-- f|or
pub leads_forall : Leads 110 111 114 112
unfolding test entry_at entry_for sample_of samples mem is_space place_of places number_of index_in code trial first_role done step_at read_word move emit arrow_of some_begins same begins pick row arrow points row_at
leads_forall = leads 110 111 114 112 refl

-- for|al
pub leads_forall_on : Leads 112 97 108 114
unfolding test entry_at entry_for sample_of samples mem is_space place_of places number_of index_in code trial first_role done step_at read_word move emit arrow_of some_begins same begins pick row arrow points row_at
leads_forall_on = leads 112 97 108 114 refl

-- on, and on from there
pub goes_further : (text : List ℕ) (p q r : Progress) → GoesOn text p q → GoesOn text q r → GoesOn text p r
goes_further text p q r f g =
    let a = f.0 in
    let b = g.0 in
    (omega arith, λ rs ns ps h. g.1 rs ns ps (f.1 rs ns ps h))
