-- What is read in a whole net: it is there, at most 128 bits wide, and a value of its type wherever its number has its width.
use Rattle.std.proofs.Common.{ℕ, ◌≤◌, List, [], ◌∷◌, subst}
use Rattle.std.specs.List.{AllByRecursion}
use Rattle.std.proofs.lemmas.Nat.{pow_pos}
use Rattle.std.proofs.lemmas.Option.{slice_get_within}
use Rattle.fir_bits.specs.declared.types.NumTy.{NumTy}
use Rattle.fir_bits.proofs.Typing.{typed-outcome}
use Rattle.fir_net.specs.declared.reads.Read.{Read}
use Rattle.fir_net.specs.declared.reads.Read.TheVariants as read
use Rattle.fir_net.specs.declared.net.FlatNet.{FlatNet}
use Rattle.fir_net.specs.working.Dependence.{IsOf}
use Rattle.fir_net.specs.working.IsNet.{CanRead, IsNet}
use Rattle.fir_net.proofs.WholeValues.{nodes_have_types}
use Rattle.fir_work.specs.working.Numbers.{Fits, type_read}
use Rattle.fir_work.specs.working.Works.{IsThere}

module _ (net : FlatNet) where
  pub read_of : (r : Read) → CanRead net.leaves net.nodes r → IsOf net r
  read_of (read.Leaf k) can = slice_get_within net.leaves k can.0 can.1
  read_of (read.Node k) can = can

  module _ (whole : IsNet net) where
    pub read_narrow : (r : Read) → CanRead net.leaves net.nodes r → (type_read net r).width ≤ 128
    read_narrow r can =
        let value = nodes_have_types typed-outcome net (λ k. 0) r whole (record { each = λ k l at plain. pow_pos l.width }) can in
        subst (λ (t : NumTy). t.width ≤ 128) value.is value.bits.narrow

    pub read_there : (ns : List ℕ) (r : Read) → CanRead net.leaves net.nodes r → Fits net ns r → IsThere net ns r
    read_there ns r can fits = record { of = read_of r can; whole = record { narrow = read_narrow r can; below = fits } }

    pub reads_there : (ns : List ℕ) (rs : List Read) → AllByRecursion (CanRead net.leaves net.nodes) rs → AllByRecursion (Fits net ns) rs → AllByRecursion (IsThere net ns) rs
    reads_there ns [] can fits = tt
    reads_there ns (r ∷ rs) can fits = (read_there ns r can.0 fits.0, reads_there ns rs can.1 fits.1)
