-- The prefix of an accepted form can be written.
-- Assumes nothing.
use mathlib.Core.List.{List}
use Prim.Native.Nat.{ℕ}
use native.Mathlib.Omega.{arith}
use Rattle.form_check.specs.Accepted.{AcceptedForm}
use Rattle.form_check.proofs.Entries.{block_names_below, names_below}
use Rattle.qdimacs_prefix.specs.Lines.{PrefixHeld}

pub form_held : (ns ps xs : List ℕ) → AcceptedForm ns ps xs → PrefixHeld ps xs
form_held ns ps xs a =
    record {
      kinds = a.kinds;
      fits = a.fits;
      writable = λ j h k l. omega (arith, block_names_below ns ps xs a j h k l);
      few = names_below ns ps xs a;
    }
