-- A term of a type that is no wider than 128 bits, and zero of no bits in place of one that is.
use Rattle.std.proofs.Common.{◌≡◌, ◌<◌, ◌≤◌, List, nat_le, false, le-leb, refl, sym, subst, arith}
use Rattle.std.proofs.lemmas.Bool.Decides.{nat_tests}
use Rattle.fir_bits.specs.Forms.{no_type}
use Rattle.fir_bits.specs.declared.types.NumTy.{NumTy}
use Rattle.fir_meaning.specs.working.TermValues.{Holds}
use Rattle.fir_net.specs.declared.node.Node.{Node}
use Rattle.fir_connect.specs.working.Lowered.{zero_of}
use Rattle.fir_connect.specs.working.NetTerms.{NetTerm}
use Rattle.fir_merge.specs.declared.bound.Bound.{Bound}
use Rattle.fir_merge.specs.working.Bounds.{StandsFor}
use Rattle.fir_merge.specs.working.Made.{narrow_or_none}

pub narrow_is : (t : NumTy) (x : NetTerm) → t.width ≤ 128 → narrow_or_none t x ≡ x
narrow_is t x narrow = rw (le-leb t.width 128 narrow) refl

pub wide_is : (t : NumTy) (x : NetTerm) → 128 < t.width → narrow_or_none t x ≡ zero_of no_type
wide_is t x wide = let over : nat_le t.width 128 ≡ false = grind (arith, nat_tests) in rw over refl

pub narrow_stands : (holds : Holds) (net : List Node) (r : Bound) (t : NumTy) (x : NetTerm) → t.width ≤ 128 → StandsFor holds net r x
    → StandsFor holds net r (narrow_or_none t x)
narrow_stands holds net r t x narrow h = subst (λ (y : NetTerm). StandsFor holds net r y) (sym (narrow_is t x narrow)) h

pub wide_stands : (holds : Holds) (net : List Node) (r : Bound) (t : NumTy) (x : NetTerm) → 128 < t.width → StandsFor holds net r (zero_of no_type)
    → StandsFor holds net r (narrow_or_none t x)
wide_stands holds net r t x wide h = subst (λ (y : NetTerm). StandsFor holds net r y) (sym (wide_is t x wide)) h
