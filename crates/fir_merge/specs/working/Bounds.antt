-- Where a value is in a net, and its type.
use Rattle.std.specs.Prelude.{◌≡◌, ℕ, List, [], ◌∷◌, length, map, slice_index_or}
use Rattle.fir_bits.specs.Forms.{no_type}
use Rattle.fir_bits.specs.working.Types.{typed}
use Rattle.fir_bits.specs.declared.operators.PrimOp.{PrimOp}
use Rattle.fir_bits.specs.declared.types.NumTy.{NumTy}
use Rattle.fir_bits.specs.declared.values.Num.{Num}
use Rattle.fir_meaning.specs.working.TermValues.{Holds}
use Rattle.fir_net.specs.declared.node.Node.{Node}
use Rattle.fir_net.specs.declared.reads.Read.{Read}
use Rattle.fir_merge.specs.declared.bound.Bound.{Bound}
use Rattle.fir_connect.specs.working.Lowered.{one_bit, result, type_or_none, zero_of}
use Rattle.fir_connect.specs.working.NetTerms.{NetTerm, NetTerms, choice, mux, no_terms, operation, term, term_type, value}
use Rattle.fir_merge.specs.working.NodeTerms.{AreBelow, Grows, IsBelow, node_term, read_term, terms}

-- the type of each leaf, by a list of them
abbrev pub types_in : List NumTy → Holds
types_in types x = slice_index_or types x no_type

-- it stands for a term, and has the type of that
pub record StandsFor (holds : Holds) (net : List Node) (b : Bound) (t : NetTerm) : Type 0 where
  pub below : IsBelow (length net) b.read
  pub term : read_term (terms net) b.read ≡ t
  pub has_type : b.ty ≡ term_type holds t

-- nodes are added at most, and the bound is a leaf or one of them
pub record Grown (old new : List Node) (b : Bound) : Type 0 where
  pub grows : Grows old new
  pub below : IsBelow (length new) b.read

-- it stands for what a node makes of the earlier ones, and has the type
pub record NodeStands (old new : List Node) (n : Node) (t : NumTy) (b : Bound) : Type 0 where
  pub grown : Grown old new b
  pub term : read_term (terms new) b.read ≡ node_term (terms old) n
  pub has_type : b.ty ≡ t

abbrev pub EachBelow : ℕ → List Bound → Type 0
EachBelow n bs = AreBelow n (map (λ b. b.read) bs)

-- bounds that stand for terms, one by one
abbrev pub EachStands : Holds → List Node → List Bound → NetTerms → Type 0
EachStands holds net [] no_terms = Unit {0}
EachStands holds net (b ∷ bs) (term t ts) = StandsFor holds net b t × EachStands holds net bs ts
EachStands holds net _ _ = ⊥

-- the type of an operation's result; of what has none, that of no bits
abbrev pub operation_type : PrimOp → List Bound → List ℕ → NumTy
operation_type op bs ks = type_or_none (typed op (map (λ b. b.ty) bs) ks)

-- what new bounds stand for, whatever the leaves hold
abbrev pub ValueStands : List Node → Num → Bound → Type 0
ValueStands new v r = (holds : Holds) → StandsFor holds new r (value v)

abbrev pub ZeroStands : List Node → NumTy → Bound → Type 0
ZeroStands new t r = (holds : Holds) → StandsFor holds new r (zero_of t)

abbrev pub OperationStands : List Node → List Node → PrimOp → List Bound → List ℕ → Bound → Type 0
OperationStands old new op bs ks r = (holds : Holds) (ts : NetTerms) → EachStands holds old bs ts → StandsFor holds new r (result holds op ts ks)

abbrev pub TestStands : List Node → List Node → PrimOp → Bound → Bound → Bound → Type 0
TestStands old new op a b r =
    (holds : Holds) (s t : NetTerm) → StandsFor holds old a s → StandsFor holds old b t
    → StandsFor holds new r (operation op (term s (term t no_terms)) [] one_bit)

abbrev pub ChoiceStands : List Node → List Node → Bound → Bound → Bound → Bound → Type 0
ChoiceStands old new c a b r =
    (holds : Holds) (u s t : NetTerm) → StandsFor holds old c u → StandsFor holds old a s → StandsFor holds old b t
    → StandsFor holds new r (choice holds u s t)

-- a choice of a type
abbrev pub MuxStands : List Node → List Node → Read → Read → Read → NumTy → Bound → Type 0
MuxStands old new c a b ty r =
    (holds : Holds) (u s t : NetTerm) → read_term (terms old) c ≡ u → read_term (terms old) a ≡ s → read_term (terms old) b ≡ t
    → StandsFor holds new r (mux u s t ty)
