-- Where the first ends of two sides are joined, all joins of what meets stand in the graph.
use Rattle.std.proofs.Common.{◌≡◌, ℕ, List, [], ◌++◌, flat_map, map, inl, inr, ⊎_elim, sym, ap, ◌∙◌, subst}
use Rattle.fir_base.specs.Lists.{In}
use Rattle.fir_base.proofs.Members.{in_flat_map, in_flat_map_from, in_map, in_left, in_right, in_either}
use Rattle.fir_ast.specs.Types.{DataType}
use Rattle.fir_ast.specs.Circuits.{CircuitTree}
use Rattle.fir_meaning.specs.TypeLeaves.{TypeLeaf, type_leaves}
use Rattle.fir_meaning.specs.ConnectPairs.{Pair}
use Rattle.fir_infer_resets.specs.declared.graph.Kind.{Kind}
use Rattle.fir_infer_resets.specs.declared.graph.Kind.TheVariants as kind
use Rattle.fir_infer_resets.specs.declared.joined.Joined.{Joined as JoinedOfCode}
use Rattle.fir_infer_resets.specs.declared.root.Root.{Root}
use Rattle.fir_meaning.specs.ResetItems.{End}
use Rattle.fir_reset.specs.working.ElementPaths.{any_element}
use Rattle.fir_meaning.specs.ResetJoins.{Join, each_with_each, joins}
use Rattle.fir_meaning.specs.ResetWalks.{IsReset, IsLeafOf}
use Rattle.fir_reset.specs.working.LeafClasses.{class_of}
use Rattle.fir_infer_resets.specs.working.BuiltGraphs.{HasKind, HasReset, StandsFor}
use Rattle.fir_infer_resets.specs.working.Holding.{Holds, HoldsMore}
use Rattle.fir_infer_resets.specs.working.FirstPairs.{Met}
use Rattle.fir_infer_resets.specs.working.FirstEnds.{first_ends, MayMeet, joins_where, JoinsMet}
use Rattle.fir_infer_resets.proofs.MetSteps.{for_joins}
use Rattle.fir_infer_resets.proofs.ScalarsMet.{of_both}
use Rattle.fir_infer_resets.proofs.FirstOfPairs.{OfPairs, StandForAll}

-- one stands for the other
pub record IsLike (c : CircuitTree) (a b : End) : Type 0 where
  pub ground_type : a.ground_type ≡ b.ground_type
  pub class : IsReset b → class_of c b.item ≡ class_of c a.item

-- a leaf that differs from another in elements alone
pub record LikeLeaf (l k : TypeLeaf) : Type 0 where
  pub path : map any_element l.path ≡ map any_element k.path
  pub ground_type : l.ground_type ≡ k.ground_type

-- one that stands for the end among those
pub record StandsAmong (c : CircuitTree) (es : List End) (b : End) : Type 0 where
  pub end : End
  pub among : In es end
  pub like : IsLike c end b

-- the root's ends are those of leaves of that type, and stand for all of them
pub record IsSide (c : CircuitTree) (number : ℕ) (t : DataType) (ends : TypeLeaf → List End) (own : Root) : Type 0 where
  pub within : (l : TypeLeaf) → In (type_leaves t) l → (a : End) → In (first_ends number own l.path l.ground_type) a → In (ends l) a × (IsReset a → IsLeafOf c a)
  pub covers : (l k : TypeLeaf) → In (type_leaves t) l → In (type_leaves t) k → LikeLeaf l k → (b : End) → In (ends k) b
      → StandsAmong c (first_ends number own l.path l.ground_type) b

like_kind : (a b : End) (k : Kind) → a.ground_type ≡ b.ground_type → HasKind a k → HasKind b k
like_kind a b kind.Unsigned e h = (h.0, sym e ∙ h.1)
like_kind a b kind.Asynchronous e h = sym e ∙ h
like_kind a b kind.Reset e h = sym e ∙ h
like_kind a b kind.Other e h = ((λ u. h.0 (u.0, e ∙ u.1)), (λ u. h.1 (e ∙ u)), λ u. h.2 (e ∙ u))

-- what stands for the one stands for the other
stands_for : (c : CircuitTree) (a b e : End) (k : Kind) → IsLike c a b → StandsFor c a e k → StandsFor c b e k
stands_for c a b e k like h =
    let one = like_kind a b k like.ground_type h.one in
    record { one = one; other = h.other; class = λ r. like.class (subst (HasKind b) r one) ∙ h.class r }

in_both : (ones others : List End) (a b : End) → In ones a → In others b → In (each_with_each ones others) (record { one = a; other = b })
in_both ones others a b h i =
    in_flat_map (λ x. map (λ y. record { one = x; other = y }) others) ones a (record { one = a; other = b }) h (in_map (λ y. record { one = a; other = y }) others b i)

module _ (c : CircuitTree) (number : ℕ) (left right : Root) (t u : DataType) (ones others : TypeLeaf → List End) (of_left : IsSide c number t ones left) (of_right : IsSide c number u others right)
    (ps : List Pair) (ms : List Met) where
  abbrev pub pair_joins : Pair → List Join
  pair_joins p = each_with_each (ones p.left) (others p.right)

  -- the pairs are of leaves of both types
  abbrev pub AreOfLeaves : Type 0
  AreOfLeaves = (p : Pair) → In ps p → In (type_leaves t) p.left × In (type_leaves u) p.right

  module _ (leaves : AreOfLeaves) (of : OfPairs [] ms ps) (all : StandForAll [] ms ps) (joined : (j : Join) → In (flat_map pair_joins ps) j → In (joins c) j) where
    may_meet : (m : Met) → In ms m → MayMeet c number left right m
    may_meet m i =
        let x = of m i in
        let p = x.0 in
        let is = x.2 in
        let at = leaves p x.1 in
        let lefts : first_ends number left m.path m.one ≡ first_ends number left p.left.path p.left.ground_type =
        ap (λ l. first_ends number left l m.one) is.left ∙ ap (first_ends number left p.left.path) is.one in
        let rights : first_ends number right m.path m.other ≡ first_ends number right p.right.path p.right.ground_type =
        ap (λ l. first_ends number right l m.other) is.right ∙ ap (first_ends number right p.right.path) is.other in
        record {
          one = λ e k. (of_left.within p.left at.0 e (subst (λ l. In l e) lefts k)).1;
          other = λ e k. (of_right.within p.right at.1 e (subst (λ l. In l e) rights k)).1;
          joined = λ e f k n.
              let a = (of_left.within p.left at.0 e (subst (λ l. In l e) lefts k)).0 in
              let b = (of_right.within p.right at.1 f (subst (λ l. In l f) rights n)).0 in
              inl (joined (record { one = e; other = f }) (in_flat_map pair_joins ps p (record { one = e; other = f }) x.1 (in_both (ones p.left) (others p.right) e f a b)));
        }

    -- a join of the first ends that stands for the join
    record StandsForJoin (j : Join) : Type 0 where
      first : Join
      among : In (flat_map (joins_where number left right) ms) first
      one : IsLike c first.one j.one
      other : IsLike c first.other j.other

    join_for : (j : Join) → In (flat_map pair_joins ps) j → StandsForJoin j
    join_for j i =
        let from = in_flat_map_from pair_joins ps j i in
        let p = from.0 in
        let parts = of_both (ones p.left) (others p.right) j from.2 in
        let r = all p from.1 in
        let m = r.0 in
        let q = of m r.1 in
        let first = q.0 in
        let is = q.2 in
        let stands = r.2 in
        let at = leaves p from.1 in
        let at_first = leaves first q.1 in
        let a = of_left.covers first.left p.left at_first.0 at.0 (record { path = ap (map any_element) (sym is.left) ∙ stands.left; ground_type = sym is.one ∙ stands.one }) j.one parts.one in
        let b = of_right.covers first.right p.right at_first.1 at.1 (record { path = ap (map any_element) (sym is.right) ∙ stands.right; ground_type = sym is.other ∙ stands.other }) j.other parts.other in
        let lefts : first_ends number left first.left.path first.left.ground_type ≡ first_ends number left m.path m.one =
        ap (λ l. first_ends number left l first.left.ground_type) (sym is.left) ∙ ap (first_ends number left m.path) (sym is.one) in
        let rights : first_ends number right first.right.path first.right.ground_type ≡ first_ends number right m.path m.other =
        ap (λ l. first_ends number right l first.right.ground_type) (sym is.right) ∙ ap (first_ends number right m.path) (sym is.other) in
        let k : Join = record { one = a.end; other = b.end } in
        record {
          first = k;
          among = in_flat_map (joins_where number left right) ms m k r.1
              (in_both (first_ends number left m.path m.one) (first_ends number right m.path m.other) a.end b.end (subst (λ l. In l a.end) lefts a.among) (subst (λ l. In l b.end) rights b.among));
          one = a.like;
          other = b.like;
        }

    pub all_stand : (old new : JoinedOfCode) → JoinsMet c number left right ms old new → (js : List Join) (before : Holds c js old) → HoldsMore before (flat_map pair_joins ps) new
    all_stand old new met js before =
        let h = met.more js before may_meet in
        let built = h.holds.built in
        record {
          holds =
              for_joins c (js ++ flat_map (joins_where number left right) ms) new h.holds (js ++ flat_map pair_joins ps)
              (λ j i r.
              ⊎_elim
              (λ (k : In js j). built.stand j (in_left js (flat_map (joins_where number left right) ms) j k) r)
              (λ (k : In (flat_map pair_joins ps) j).
              let w = join_for j k in
              let resets : HasReset w.first = ⊎_elim (λ (a : IsReset j.one). inl (w.one.ground_type ∙ a)) (λ (a : IsReset j.other). inr (w.other.ground_type ∙ a)) r in
              let s = built.stand w.first (in_right js (flat_map (joins_where number left right) ms) w.first w.among) resets in
              record {
                x = s.x;
                y = s.y;
                e = s.e;
                f = s.f;
                one_kind = s.one_kind;
                other_kind = s.other_kind;
                has_x = s.has_x;
                has_y = s.has_y;
                kind_x = s.kind_x;
                kind_y = s.kind_y;
                one = stands_for c w.first.one j.one s.e s.one_kind w.one s.one;
                other = stands_for c w.first.other j.other s.f s.other_kind w.other s.other;
                joined = s.joined;
              })
              (in_either js (flat_map pair_joins ps) j i));
          extends = h.extends;
        }
