-- A graph of resets with an end more, and with two that are joined more: all that is said of it but of classes.
use Rattle.std.proofs.Common.{◌≡◌, ℕ, ◌<◌, List, [], ◌∷◌, ◌++◌, Some, length, sym, ap, ◌∙◌, subst, inl, inr, ◌⊎◌, ⊎_elim, arith, length-append, Vec, Global}
use Rattle.std.specs.Prelude.{slice_get}
use Rattle.std.proofs.lemmas.Option.{same_Some, none-some, slice_get_within}
use Rattle.fir_base.specs.Lists.{In}
use Rattle.fir_base.proofs.Elements.{there}
use Rattle.fir_base.proofs.Writes.{PushedOr, push_left, push_cases}
use Rattle.fir_ast.specs.Circuits.{CircuitTree}
use Rattle.fir_infer_resets.specs.declared.graph.Kind.{Kind}
use Rattle.fir_infer_resets.specs.declared.graph.Kind.TheVariants.{Reset}
use Rattle.fir_meaning.specs.ResetItems.{End}
use Rattle.fir_meaning.specs.ResetJoins.{Join}
use Rattle.fir_meaning.specs.ResetWalks.{IsReset, Joined, IsLeafOf}
use Rattle.fir_infer_resets.specs.working.ResetGraphs.{IsGraph, IsJoined}
use Rattle.fir_infer_resets.specs.working.BuiltGraphs.{HasKind, Stands, HasReset, IsBuilt, Connects}
use Rattle.fir_reset.specs.working.LeafClasses.{class_of}
use Rattle.fir_infer_resets.specs.working.Adding.{AddsBoth}
use Rattle.fir_infer_resets.proofs.EndKinds.{reset_kind}
use Rattle.fir_infer_resets.proofs.JoinedEnds.{joined_back}

pub record IsPartlyBuilt (c : CircuitTree) (js : List Join) (ends : List End) (graph : List (Vec ℕ Global)) (kinds : List Kind) : Type 0 where
  pub is_graph : IsGraph graph kinds
  pub long : length ends ≡ length kinds
  pub kind : (x : ℕ) (e : End) (k : Kind) → slice_get ends x ≡ Some e → slice_get kinds x ≡ Some k → HasKind e k
  pub leaves : (x : ℕ) (e : End) → slice_get ends x ≡ Some e → IsReset e → IsLeafOf c e
  pub once : (x y : ℕ) (e : End) → IsReset e → slice_get ends x ≡ Some e → slice_get ends y ≡ Some e → x ≡ y
  pub joined : (x y : ℕ) (e f : End) → IsJoined graph x y → slice_get ends x ≡ Some e → slice_get ends y ≡ Some f → Joined c e f
  pub meets : (x y : ℕ) → IsJoined graph x y → slice_get kinds x ≡ Some Reset ⊎ slice_get kinds y ≡ Some Reset
  pub both_ways : (x y : ℕ) → IsJoined graph x y → IsJoined graph y x
  pub stand : (j : Join) → In js j → HasReset j → Stands c ends graph kinds j

-- Resets of one class are connected
abbrev pub ConnectsClasses : CircuitTree → List End → List (Vec ℕ Global) → List Kind → Type 0
ConnectsClasses c ends graph kinds = (x y : ℕ) (e f : End) → slice_get ends x ≡ Some e → slice_get ends y ≡ Some f → IsReset e → IsReset f → class_of c e.item ≡ class_of c f.item → Connects graph kinds x y

module _ (c : CircuitTree) (js : List Join) (ends : List End) (graph : List (Vec ℕ Global)) (kinds : List Kind) where
  pub partly : IsBuilt c js ends graph kinds → IsPartlyBuilt c js ends graph kinds
  partly b = record {
    is_graph = b.is_graph;
    long = b.long;
    kind = b.kind;
    leaves = b.leaves;
    once = b.once;
    joined = b.joined;
    meets = b.meets;
    both_ways = b.both_ways;
    stand = b.stand;
  }

  pub built_whole : IsPartlyBuilt c js ends graph kinds → ConnectsClasses c ends graph kinds → IsBuilt c js ends graph kinds
  built_whole b h = record {
    is_graph = b.is_graph;
    long = b.long;
    kind = b.kind;
    leaves = b.leaves;
    once = b.once;
    joined = b.joined;
    meets = b.meets;
    both_ways = b.both_ways;
    classes = h;
    stand = b.stand;
  }

  module _ (b : IsPartlyBuilt c js ends graph kinds) where
    -- a Reset has its kind
    pub reset_at : (x : ℕ) (e : End) → slice_get ends x ≡ Some e → IsReset e → slice_get kinds x ≡ Some Reset
    reset_at x e h r =
        let k = there kinds x (omega (arith, slice_get_within ends x e h, b.long)) in
        k.1 ∙ ap (λ (l : Kind). Some l) (reset_kind e k.0 (b.kind x e k.0 h k.1) r)

    edge_within : (x y : ℕ) → IsJoined graph x y → x < length kinds
    edge_within x y j = omega (arith, slice_get_within graph x j.list j.at, b.is_graph.long)

    stands_more : (new : List End) (more : List (Vec ℕ Global)) (after : List Kind) → ((x : ℕ) (e : End) → slice_get ends x ≡ Some e → slice_get new x ≡ Some e)
        → ((x y : ℕ) → IsJoined graph x y → IsJoined more x y) → ((x : ℕ) (k : Kind) → slice_get kinds x ≡ Some k → slice_get after x ≡ Some k)
        → (j : Join) → Stands c ends graph kinds j → Stands c new more after j
    stands_more new more after has edges kept j s = record {
      x = s.x;
      y = s.y;
      e = s.e;
      f = s.f;
      one_kind = s.one_kind;
      other_kind = s.other_kind;
      has_x = has s.x s.e s.has_x;
      has_y = has s.y s.f s.has_y;
      kind_x = kept s.x s.one_kind s.kind_x;
      kind_y = kept s.y s.other_kind s.kind_y;
      one = s.one;
      other = s.other;
      joined = edges s.x s.y s.joined;
    }

    -- an end more, that is joined to nothing
    module _ (e : End) (k : Kind) (list : Vec ℕ Global) (empty : list.items ≡ []) where
      pub edge_kept : (x y : ℕ) → IsJoined graph x y → IsJoined (graph ++ list ∷ []) x y
      edge_kept x y j = record { list = j.list; at = push_left graph (list ∷ []) x j.list j.at; index = j.index; is = j.is }

      edge_from : (x y : ℕ) → IsJoined (graph ++ list ∷ []) x y → IsJoined graph x y
      edge_from x y j = by (push_cases graph list x j.list j.at)
        where
          by : PushedOr graph list x j.list → IsJoined graph x y
          by (inl h) = record { list = j.list; at = h; index = j.index; is = j.is }
          by (inr (h, same)) =
              let none : slice_get [] j.index ≡ Some y = ap (λ xs. slice_get xs j.index) (sym empty) ∙ ap (λ (l : Vec ℕ Global). slice_get l.items j.index) same ∙ j.is in
              absurd (none-some y none)

      -- an end of an old edge is an old one
      old_end : (x : ℕ) (f : End) → x < length kinds → slice_get (ends ++ e ∷ []) x ≡ Some f → slice_get ends x ≡ Some f
      old_end x f within h = by (push_cases ends e x f h)
        where
          by : PushedOr ends e x f → slice_get ends x ≡ Some f
          by (inl i) = i
          by (inr (i, same)) = absurd (omega (arith, i, within, b.long))

      module _ (has : HasKind e k) (leaf : IsReset e → IsLeafOf c e) (fresh : (x : ℕ) → IsReset e → slice_get ends x ≡ Some e → ⊥) where
        kind_now : (x : ℕ) (f : End) (l : Kind) → slice_get (ends ++ e ∷ []) x ≡ Some f → slice_get (kinds ++ k ∷ []) x ≡ Some l → HasKind f l
        kind_now x f l h i = by (push_cases ends e x f h) (push_cases kinds k x l i)
          where
            by : PushedOr ends e x f → PushedOr kinds k x l → HasKind f l
            by (inl p) (inl q) = b.kind x f l p q
            by (inl p) (inr (q, same)) = absurd (omega (arith, slice_get_within ends x f p, q, b.long))
            by (inr (p, same)) (inl q) = absurd (omega (arith, slice_get_within kinds x l q, p, b.long))
            by (inr (p, same)) (inr (q, alike)) = subst (HasKind f) alike (subst (λ (z : End). HasKind z k) same has)

        leaves_now : (x : ℕ) (f : End) → slice_get (ends ++ e ∷ []) x ≡ Some f → IsReset f → IsLeafOf c f
        leaves_now x f h r = by (push_cases ends e x f h)
          where
            by : PushedOr ends e x f → IsLeafOf c f
            by (inl p) = b.leaves x f p r
            by (inr (p, same)) = subst (IsLeafOf c) same (leaf (subst IsReset (sym same) r))

        once_now : (x y : ℕ) (f : End) → IsReset f → slice_get (ends ++ e ∷ []) x ≡ Some f → slice_get (ends ++ e ∷ []) y ≡ Some f → x ≡ y
        once_now x y f r h i = by (push_cases ends e x f h) (push_cases ends e y f i)
          where
            twice : (z : ℕ) → slice_get ends z ≡ Some f → e ≡ f → ⊥
            twice z p same = fresh z (subst IsReset (sym same) r) (p ∙ ap (λ (g : End). Some g) (sym same))

            by : PushedOr ends e x f → PushedOr ends e y f → x ≡ y
            by (inl p) (inl q) = b.once x y f r p q
            by (inl p) (inr (q, same)) = absurd (twice x p same)
            by (inr (p, same)) (inl q) = absurd (twice y q same)
            by (inr (p, same)) (inr (q, alike)) = p ∙ sym q

        pub partly_pushed : IsPartlyBuilt c js (ends ++ e ∷ []) (graph ++ list ∷ []) (kinds ++ k ∷ [])
        partly_pushed = record {
          is_graph = record {
            long = omega (arith, b.is_graph.long, length-append graph (list ∷ []), length-append kinds (k ∷ []));
            within = λ x y j. omega (arith, b.is_graph.within x y (edge_from x y j), length-append kinds (k ∷ []));
          };
          long = omega (arith, b.long, length-append ends (e ∷ []), length-append kinds (k ∷ []));
          kind = kind_now;
          leaves = leaves_now;
          once = once_now;
          joined = λ x y f g j h i.
              let old = edge_from x y j in
              b.joined x y f g old (old_end x f (edge_within x y old) h) (old_end y g (b.is_graph.within x y old) i);
          meets = λ x y j.
              ⊎_elim
              (λ (h : slice_get kinds x ≡ Some Reset). inl (push_left kinds (k ∷ []) x Reset h))
              (λ (h : slice_get kinds y ≡ Some Reset). inr (push_left kinds (k ∷ []) y Reset h))
              (b.meets x y (edge_from x y j));
          both_ways = λ x y j. edge_kept y x (b.both_ways x y (edge_from x y j));
          stand = λ j i r.
              stands_more (ends ++ e ∷ []) (graph ++ list ∷ []) (kinds ++ k ∷ []) (λ x f h. push_left ends (e ∷ []) x f h) edge_kept
              (λ x l h. push_left kinds (k ∷ []) x l h) j (b.stand j i r);
        }

    -- two that are joined more
    module _ (more : List (Vec ℕ Global)) (one other : ℕ) (a : AddsBoth graph more one other) (e f : End) (h : slice_get ends one ≡ Some e) (i : slice_get ends other ≡ Some f) where
      abbrev From : ℕ → ℕ → Type 0
      From x y = IsJoined graph x y ⊎ ((x ≡ one) × (y ≡ other)) ⊎ ((x ≡ other) × (y ≡ one))

      one_within : one < length kinds
      one_within = omega (arith, slice_get_within ends one e h, b.long)

      other_within : other < length kinds
      other_within = omega (arith, slice_get_within ends other f i, b.long)

      pub joined_one : IsJoined more one other
      joined_one = a.added (omega (arith, one_within, b.is_graph.long))

      pub joined_other : IsJoined more other one
      joined_other = a.back (omega (arith, other_within, b.is_graph.long))

      within_now : (x y : ℕ) → From x y → y < length kinds
      within_now x y (inl j) = b.is_graph.within x y j
      within_now x y (inr (inl (p, q))) = omega (arith, q, other_within)
      within_now x y (inr (inr (p, q))) = omega (arith, q, one_within)

      end_is : (x z : ℕ) (g k : End) → x ≡ z → slice_get ends z ≡ Some k → slice_get ends x ≡ Some g → k ≡ g
      end_is x z g k p has l = same_Some k g (sym has ∙ ap (slice_get ends) (sym p) ∙ l)

      joined_now : (x y : ℕ) (g k : End) → Joined c e f → From x y → slice_get ends x ≡ Some g → slice_get ends y ≡ Some k → Joined c g k
      joined_now x y g k m (inl j) l n = b.joined x y g k j l n
      joined_now x y g k m (inr (inl (p, q))) l n =
          subst (λ z. Joined c z k) (end_is x one g e p h l) (subst (Joined c e) (end_is y other k f q i n) m)
      joined_now x y g k m (inr (inr (p, q))) l n =
          subst (λ z. Joined c z k) (end_is x other g f p i l) (subst (Joined c f) (end_is y one k e q h n) (joined_back c e f m))

      meets_now : (x y : ℕ) → IsReset e ⊎ IsReset f → From x y → slice_get kinds x ≡ Some Reset ⊎ slice_get kinds y ≡ Some Reset
      meets_now x y r (inl j) = b.meets x y j
      meets_now x y (inl r) (inr (inl (p, q))) = inl (ap (slice_get kinds) p ∙ reset_at one e h r)
      meets_now x y (inr r) (inr (inl (p, q))) = inr (ap (slice_get kinds) q ∙ reset_at other f i r)
      meets_now x y (inl r) (inr (inr (p, q))) = inr (ap (slice_get kinds) q ∙ reset_at one e h r)
      meets_now x y (inr r) (inr (inr (p, q))) = inl (ap (slice_get kinds) p ∙ reset_at other f i r)

      back_now : (x y : ℕ) → From x y → IsJoined more y x
      back_now x y (inl j) = a.kept y x (b.both_ways x y j)
      back_now x y (inr (inl (p, q))) = subst (λ z. IsJoined more z x) (sym q) (subst (IsJoined more other) (sym p) joined_other)
      back_now x y (inr (inr (p, q))) = subst (λ z. IsJoined more z x) (sym q) (subst (IsJoined more one) (sym p) joined_one)

      pub partly_joined : Joined c e f → IsReset e ⊎ IsReset f → IsPartlyBuilt c js ends more kinds
      partly_joined m r = record {
        is_graph = record { long = a.long ∙ b.is_graph.long; within = λ x y j. within_now x y (a.from x y j) };
        long = b.long;
        kind = b.kind;
        leaves = b.leaves;
        once = b.once;
        joined = λ x y g k j l n. joined_now x y g k m (a.from x y j) l n;
        meets = λ x y j. meets_now x y r (a.from x y j);
        both_ways = λ x y j. back_now x y (a.from x y j);
        stand = λ j n q. stands_more ends more kinds (λ x g l. l) a.kept (λ x l p. p) j (b.stand j n q);
      }
