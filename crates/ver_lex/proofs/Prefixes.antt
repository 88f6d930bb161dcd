-- Bytes that begin with others.
use Rattle.std.proofs.Common.{◌≡◌, ℕ, true, false, List, ◌++◌, length, drop, refl}
use Rattle.std.specs.Prelude.{nat_eq}
use Rattle.std.specs.List.{starts_with}
use Rattle.std.proofs.lemmas.Bool.{both_ways}
use Rattle.std.proofs.lemmas.Bool.Decides.{Decides-eqb}
use Rattle.std.proofs.lemmas.Slice.Eq.{starts_is}

pub begins : (bytes w : List ℕ) → starts_with nat_eq bytes w ≡ true → bytes ≡ w ++ drop (length w) bytes
begins bytes w e = (starts_is Decides-eqb bytes w (starts_with nat_eq bytes w) refl).0 e

pub never : (bytes w more : List ℕ) → starts_with nat_eq bytes w ≡ false → bytes ≡ w ++ more → ⊥
never bytes w more off e =
    both_ways (starts_with nat_eq bytes w) off ((starts_is Decides-eqb bytes w (starts_with nat_eq bytes w) refl).1 more e)
