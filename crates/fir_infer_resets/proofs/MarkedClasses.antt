-- Where a Reset is asynchronous in the circuit, one of its class is marked.
use Rattle.std.proofs.Common.{◌≡◌, ℕ, List, [], ◌∷◌, ◌++◌, Bool, Some, sym, ap, ◌∙◌, subst, inl, inr, ◌⊎◌, Vec, Global}
use Rattle.std.specs.Prelude.{slice_get}
use Rattle.fir_ast.specs.Circuits.{CircuitTree}
use Rattle.fir_ast.specs.Faults.{Fault}
use Rattle.std.specs.List.{AllByRecursion}
use Rattle.fir_infer_resets.specs.declared.graph.Kind.{Kind}
use Rattle.fir_infer_resets.specs.declared.graph.Kind.TheVariants.{Reset}
use Rattle.fir_meaning.specs.ResetItems.{End}
use Rattle.fir_meaning.specs.ResetJoins.{Join}
use Rattle.fir_meaning.specs.ResetWalks.{IsReset, IsAsyncReset, IsUInt, IsAsynchronous, meets, goes_on, Joined, IsChain, ShowsResets}
use Rattle.fir_reset.specs.working.LeafClasses.{Class, class_of}
use Rattle.fir_infer_resets.specs.working.ResetGraphs.{IsReached, begins, goes_on as reached_on, IsFound}
use Rattle.fir_infer_resets.specs.working.ResetLaws.{LeavesHaveClasses, OthersShareClasses}
use Rattle.fir_infer_resets.specs.working.BuiltGraphs.{HasKind, Connects, here, along, IsBuilt}
use Rattle.fir_infer_resets.specs.working.FoundKinds.{IsClassMarked, AllButShared}
use Rattle.fir_infer_resets.proofs.EndKinds.{no_async_reset, no_uint_reset, reset_kind, async_kind, uint_kind}
use Rattle.fir_infer_resets.proofs.MetEnds.{Numbered, Edge, Met, met}

asynchronous_reset : (c : CircuitTree) (e : End) → IsAsynchronous c e → IsReset e
asynchronous_reset c e (meets x f r j a) = r
asynchronous_reset c e (goes_on x f r j a) = r

walk_asynchronous : (c : CircuitTree) (e : End) (others : List End) (last : End) → AllByRecursion IsReset (e ∷ others) → IsChain c e (others ++ last ∷ []) → IsAsyncReset last → IsAsynchronous c e
walk_asynchronous c e [] last r chain a = meets e last r.0 chain.0 a
walk_asynchronous c e (f ∷ fs) last r chain a = goes_on e f r.0 chain.0 (walk_asynchronous c f fs last r.1 chain.1 a)

connects_reached : (graph : List (Vec ℕ Global)) (kinds : List Kind) (x y : ℕ) → Connects graph kinds x y → IsReached graph kinds x → IsReached graph kinds y
connects_reached graph kinds x y (here v) h = h
connects_reached graph kinds x y (along u v w kind j more) h = connects_reached graph kinds v w more (reached_on u v kind j h)

module _ (c : CircuitTree) (js : List Join) (ends : List End) (graph : List (Vec ℕ Global)) (kinds : List Kind) (marks : List Bool) (leaves : LeavesHaveClasses c) (elements : OthersShareClasses c) (all : AllButShared c js) (built : IsBuilt c js ends graph kinds) (found : IsFound graph kinds marks) where
  abbrev Marked : Class → Type 0
  Marked k = IsClassMarked c ends marks k

  -- a Reset stands in the graph as a Reset of its class
  record StandsReset (e : End) (n : Numbered c ends kinds e) : Type 0 where
    kind : slice_get kinds n.number ≡ Some Reset
    resets : IsReset n.end
    class : class_of c e.item ≡ class_of c n.end.item

  stands_reset : (e : End) (n : Numbered c ends kinds e) → IsReset e → StandsReset e n
  stands_reset e n r =
      let kind = reset_kind e n.kind n.stands.one r in
      record {
        kind = n.has_kind ∙ ap Some kind;
        resets = subst (HasKind n.end) kind n.stands.other;
        class = n.stands.class kind;
      }

  -- its number is reached where its class is marked
  number_reached : (e : End) (n : Numbered c ends kinds e) → IsReset e → ((k : Class) → class_of c e.item ≡ Some k → Marked k) → IsReached graph kinds n.number
  number_reached e n r marked =
      let s = stands_reset e n r in
      let class = leaves.has n.end (built.leaves n.number n.end n.is s.resets) in
      let m = marked class.0 (s.class ∙ class.1) in
      connects_reached graph kinds m.number n.number
      (built.classes m.number n.number m.end n.end m.is n.is m.resets s.resets (m.of_class ∙ sym class.1))
      (found.reached m.number m.marked)

  -- its class is marked where a number beside its own is reached
  edge_marked : (e f : End) (k : Class) (edge : Edge c ends graph kinds e f) → IsReset e → class_of c e.item ≡ Some k → IsReached graph kinds edge.other.number → Marked k
  edge_marked e f k edge r class reached =
      let s = stands_reset e edge.one r in
      record {
        number = edge.one.number;
        end = edge.one.end;
        is = edge.one.is;
        resets = s.resets;
        of_class = sym s.class ∙ class;
        marked = found.all edge.one.number (reached_on edge.other.number edge.one.number s.kind edge.back reached);
      }

  met_ends : (e f : End) → Joined c e f → IsReset e ⊎ IsReset f → Met c ends graph kinds e f
  met_ends = met c js ends graph kinds elements all built

  meets_marked : (e f : End) (k : Class) → IsReset e → IsAsyncReset f → class_of c e.item ≡ Some k → Met c ends graph kinds e f → Marked k
  meets_marked e f k r a class (inr s) = absurd (no_async_reset e r (s.ground_type ∙ a))
  meets_marked e f k r a class (inl edge) =
      let root = edge.other.has_kind ∙ ap Some (async_kind f edge.other.kind edge.other.stands.one a) in
      edge_marked e f k edge r class (begins edge.other.number root)

  on_marked : (e f : End) (k : Class) → IsReset e → IsReset f → class_of c e.item ≡ Some k → ((l : Class) → class_of c f.item ≡ Some l → Marked l) → Met c ends graph kinds e f → Marked k
  on_marked e f k r q class marked (inr s) = marked k (sym s.class ∙ class)
  on_marked e f k r q class marked (inl edge) = edge_marked e f k edge r class (number_reached f edge.other q marked)

  pub asynchronous_marked : (e : End) (k : Class) → IsAsynchronous c e → class_of c e.item ≡ Some k → IsClassMarked c ends marks k
  asynchronous_marked e k (meets x f r j a) class = meets_marked x f k r a class (met_ends x f j (inl r))
  asynchronous_marked e k (goes_on x f r j a) class =
      on_marked x f k r (asynchronous_reset c f a) class (λ l p. asynchronous_marked f l a p) (met_ends x f j (inl r))

  -- no UInt is joined to an asynchronous Reset
  unsigned_apart : (u e : End) → IsUInt u → IsAsynchronous c e → Met c ends graph kinds u e → ⊥
  unsigned_apart u e h a (inr s) = no_uint_reset e (asynchronous_reset c e a) (h.0, sym s.ground_type ∙ h.1)
  unsigned_apart u e h a (inl edge) =
      let unsigned = edge.one.has_kind ∙ ap Some (uint_kind u edge.one.kind edge.one.stands.one h) in
      let reached = number_reached e edge.other (asynchronous_reset c e a) (λ k p. asynchronous_marked e k a p) in
      found.clear edge.other.number edge.one.number unsigned edge.back reached

  pub no_walk : (f : Fault) → ShowsResets c f → ⊥
  no_walk f s =
      let a = walk_asynchronous c s.first s.others s.ends s.walk.resets s.walk.chain.1 s.walk.async_end in
      unsigned_apart s.begins s.first s.walk.uint_end a (met_ends s.begins s.first s.walk.chain.0 (inr s.walk.resets.0))
