-- Two that are joined, one of them a Reset, stand in the graph, or are of one class.
use Rattle.std.proofs.Common.{◌≡◌, ℕ, List, Some, sym, inl, inr, ◌⊎◌, Vec, Global}
use Rattle.std.specs.Prelude.{slice_get}
use Rattle.fir_base.specs.Lists.{In}
use Rattle.fir_ast.specs.Circuits.{CircuitTree}
use Rattle.fir_infer_resets.specs.declared.graph.Kind.{Kind}
use Rattle.fir_meaning.specs.ResetItems.{End}
use Rattle.fir_meaning.specs.ResetJoins.{Join, joins}
use Rattle.fir_meaning.specs.ResetWalks.{IsReset, Joined}
use Rattle.fir_infer_resets.specs.working.ResetGraphs.{IsJoined}
use Rattle.fir_infer_resets.specs.working.ResetLaws.{OthersShareClasses}
use Rattle.fir_infer_resets.specs.working.BuiltGraphs.{StandsFor, Stands, IsBuilt}
use Rattle.fir_infer_resets.specs.working.FoundKinds.{IsShared, AllButShared}

-- a number whose end stands for this one
pub record Numbered (c : CircuitTree) (ends : List End) (kinds : List Kind) (e : End) : Type 0 where
  pub number : ℕ
  pub end : End
  pub kind : Kind
  pub is : slice_get ends number ≡ Some end
  pub has_kind : slice_get kinds number ≡ Some kind
  pub stands : StandsFor c e end kind

-- numbers of both are joined, either way round
pub record Edge (c : CircuitTree) (ends : List End) (graph : List (Vec ℕ Global)) (kinds : List Kind) (a b : End) : Type 0 where
  pub one : Numbered c ends kinds a
  pub other : Numbered c ends kinds b
  pub there : IsJoined graph one.number other.number
  pub back : IsJoined graph other.number one.number

abbrev pub Met : CircuitTree → List End → List (Vec ℕ Global) → List Kind → End → End → Type 0
Met c ends graph kinds a b = Edge c ends graph kinds a b ⊎ IsShared c a b

module _ (c : CircuitTree) (js : List Join) (ends : List End) (graph : List (Vec ℕ Global)) (kinds : List Kind) (elements : OthersShareClasses c) (all : AllButShared c js) (built : IsBuilt c js ends graph kinds) where
  edge : (j : Join) → Stands c ends graph kinds j → Edge c ends graph kinds j.one j.other
  edge j s =
      record {
        one = record { number = s.x; end = s.e; kind = s.one_kind; is = s.has_x; has_kind = s.kind_x; stands = s.one };
        other = record { number = s.y; end = s.f; kind = s.other_kind; is = s.has_y; has_kind = s.kind_y; stands = s.other };
        there = s.joined;
        back = built.both_ways s.x s.y s.joined;
      }

  of_join : (j : Join) → In (joins c) j → IsReset j.one ⊎ IsReset j.other → Met c ends graph kinds j.one j.other
  of_join j m r = by (all j m)
    where
      by : In js j ⊎ IsShared c j.one j.other → Met c ends graph kinds j.one j.other
      by (inl h) = inl (edge j (built.stand j h r))
      by (inr s) = inr s

  turned : (a b : End) → Met c ends graph kinds a b → Met c ends graph kinds b a
  turned a b (inl e) = inl (record { one = e.other; other = e.one; there = e.back; back = e.there })
  turned a b (inr s) = inr (record { class = sym s.class; ground_type = sym s.ground_type })

  other_way : (a b : End) → IsReset a ⊎ IsReset b → IsReset b ⊎ IsReset a
  other_way a b (inl r) = inr r
  other_way a b (inr r) = inl r

  pub met : (a b : End) → Joined c a b → IsReset a ⊎ IsReset b → Met c ends graph kinds a b
  met a b (inl m) r = of_join (record { one = a; other = b }) m r
  met a b (inr (inl m)) r = turned b a (of_join (record { one = b; other = a }) m (other_way a b r))
  met a b (inr (inr (l, m, e))) r = inr (record { class = elements a b l m e; ground_type = e.ground_type })
