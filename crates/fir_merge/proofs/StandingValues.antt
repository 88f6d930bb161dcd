-- The bounds of new nodes stand for values and operations.
use Rattle.std.proofs.Common.{◌≡◌, ℕ, List, [], ◌∷◌, map, refl, ap, ◌∙◌, subst}
use Rattle.fir_bits.specs.working.Types.{typed}
use Rattle.fir_bits.specs.declared.operators.PrimOp.{PrimOp}
use Rattle.fir_bits.specs.declared.types.NumTy.{NumTy}
use Rattle.fir_bits.specs.declared.values.Num.{Num}
use Rattle.fir_meaning.specs.working.TermValues.{Holds}
use Rattle.fir_net.specs.declared.node.Node.{Node}
use Rattle.fir_net.specs.declared.node.Node.TheVariants as node
use Rattle.fir_net.specs.declared.reads.Read.{Read}
use Rattle.fir_connect.specs.working.Lowered.{type_or_none}
use Rattle.fir_connect.specs.working.NetTerms.{NetTerm, NetTerms, no_terms, operation, term, term_types, value}
use Rattle.fir_merge.specs.declared.bound.Bound.{Bound}
use Rattle.fir_merge.specs.working.NodeTerms.{Grows, read_terms, terms}
use Rattle.fir_merge.specs.working.Bounds.{EachStands, NodeStands, OperationStands, StandsFor, operation_type}
use Rattle.fir_merge.proofs.GrownTerms.{below_later, grown_keeps, same_read}

-- a bound keeps standing for its term where nodes are added
pub stands_later : (holds : Holds) (old new : List Node) (b : Bound) (t : NetTerm) → Grows old new → StandsFor holds old b t → StandsFor holds new b t
stands_later holds old new b t g h = record {
  below = below_later old new b.read g h.below;
  term = same_read _ (terms old) (terms new) b.read (grown_keeps old new g) h.below ∙ h.term;
  has_type = h.has_type;
}

-- equal values
pub same_value : (holds : Holds) (net : List Node) (r : Bound) (v w : Num) → v ≡ w → StandsFor holds net r (value v) → StandsFor holds net r (value w)
same_value holds net r v w e h = subst (λ (n : Num). StandsFor holds net r (value n)) e h

-- the terms and the types of bounds
each_terms : (holds : Holds) (net : List Node) (bs : List Bound) (ts : NetTerms) → EachStands holds net bs ts
    → read_terms (terms net) (map (λ b. b.read) bs) ≡ ts
each_terms holds net [] no_terms h = refl
each_terms holds net [] (term t ts) h = absurd h
each_terms holds net (b ∷ bs) no_terms h = absurd h
each_terms holds net (b ∷ bs) (term t ts) h =
    let first = h.0.term in
    let rest = each_terms holds net bs ts h.1 in
    λ i. term (first i) (rest i)

each_types : (holds : Holds) (net : List Node) (bs : List Bound) (ts : NetTerms) → EachStands holds net bs ts → map (λ b. b.ty) bs ≡ term_types holds ts
each_types holds net [] no_terms h = refl
each_types holds net [] (term t ts) h = absurd h
each_types holds net (b ∷ bs) no_terms h = absurd h
each_types holds net (b ∷ bs) (term t ts) h =
    let first = h.0.has_type in
    let rest = each_types holds net bs ts h.1 in
    λ i. first i ∷ rest i

pub operation_stands : (old new : List Node) (op : PrimOp) (bs : List Bound) (ks : List ℕ) (reads : List Read) (integers : List ℕ) (t : NumTy) (r : Bound)
    → reads ≡ map (λ b. b.read) bs → integers ≡ ks → t ≡ operation_type op bs ks
    → NodeStands old new (node.Operation (record { op = op; reads = reads; integers = integers; signed = t.signed; width = t.width })) t r
    → OperationStands old new op bs ks r
operation_stands old new op bs ks reads integers t r all_reads all_integers type h = λ holds ts each.
    let inner : read_terms (terms old) reads ≡ ts = ap (read_terms (terms old)) all_reads ∙ each_terms holds old bs ts each in
    let of_type : t ≡ type_or_none (typed op (term_types holds ts) ks) =
    type ∙ ap (λ us. type_or_none (typed op us ks)) (each_types holds old bs ts each) in
    let is : operation op (read_terms (terms old) reads) integers t ≡ operation op ts ks (type_or_none (typed op (term_types holds ts) ks)) =
    λ i. operation op (inner i) (all_integers i) (of_type i) in
    record { below = h.grown.below; term = h.term ∙ is; has_type = h.has_type ∙ of_type }
