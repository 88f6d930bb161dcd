-- The ends below a root: what kind they are of, and their numbers.
use Rattle.std.proofs.Common.{◌≡◌, ℕ, List, [], ◌∷◌, ◌++◌, true, false, Some, refl, inl, sym, ap, ◌∙◌, subst, Vec, Global}
use Rattle.std.proofs.lemmas.Option.{same_Some, none-some}
use Rattle.fir_base.specs.Lists.{In}
use Rattle.fir_ast.specs.declared.place.Place.{Place}
use Rattle.fir_ast.specs.Types.{DataType, uint, sint, clock, reset, async_reset, bundle, vector}
use Rattle.fir_ast.specs.Circuits.{CircuitTree}
use Rattle.fir_meaning.specs.LeafPaths.{LeafPath}
use Rattle.fir_infer_resets.specs.declared.graph.Kind.{Kind}
use Rattle.fir_infer_resets.specs.declared.graph.Kind.TheVariants as kind
use Rattle.fir_infer_resets.specs.declared.item.Step.{Step}
use Rattle.fir_infer_resets.specs.declared.joined.Joined.{Joined as JoinedOfCode}
use Rattle.fir_infer_resets.specs.declared.root.Access.{Access}
use Rattle.fir_infer_resets.specs.declared.root.Access.TheVariants as access
use Rattle.fir_infer_resets.specs.declared.root.Root.{Root}
use Rattle.fir_infer_resets.specs.declared.root.Root.TheVariants as root
use Rattle.fir_meaning.specs.ResetItems.{End, is_reset}
use Rattle.fir_meaning.specs.ResetJoins.{Join}
use Rattle.fir_meaning.specs.ResetWalks.{IsLeafOf}
use Rattle.fir_infer_resets.specs.working.BuiltGraphs.{HasKind}
use Rattle.fir_infer_resets.specs.working.Holding.{path_of, reset_end, Holds, HasNumber}
use Rattle.fir_infer_resets.specs.working.FirstPairs.{kind_of_type}
use Rattle.fir_infer_resets.specs.working.FirstEnds.{end_of_leaf, first_ends, HasEnd, AreLeaves}

pub kind_reset : (t : DataType) → kind_of_type t ≡ Some kind.Reset → t ≡ reset
kind_reset (uint w) e = cc
kind_reset (sint w) e = cc
kind_reset clock e = cc
kind_reset reset e = refl
kind_reset async_reset e = cc
kind_reset (bundle fs) e = cc
kind_reset (vector t n) e = cc

pub kind_other : (t : DataType) (k : Kind) → kind_of_type t ≡ Some k → (k ≡ kind.Reset → ⊥) → is_reset t ≡ false
kind_other (uint w) k e no_reset = refl
kind_other (sint w) k e no_reset = refl
kind_other clock k e no_reset = refl
kind_other reset k e no_reset = absurd (no_reset (sym (same_Some kind.Reset k e)))
kind_other async_reset k e no_reset = refl
kind_other (bundle fs) k e no_reset = refl
kind_other (vector t n) k e no_reset = refl

pub unlike_reset : (t : DataType) → is_reset t ≡ false → t ≡ reset → ⊥
unlike_reset t e f = let same : true ≡ false = ap is_reset (sym f) ∙ e in cc

pub kind_has : (e : End) (k : Kind) → kind_of_type e.ground_type ≡ Some k → HasKind e k
kind_has e k h = by e.ground_type refl h
  where
    by : (t : DataType) → e.ground_type ≡ t → kind_of_type t ≡ Some k → HasKind e k
    by (uint w) is f = subst (HasKind e) (same_Some kind.Unsigned k f) (w, is)
    by (sint w) is f = subst (HasKind e) (same_Some kind.Other k f) ((λ u. let same : uint u.0 ≡ sint w = sym u.1 ∙ is in cc), (λ a. let same : async_reset ≡ sint w = sym a ∙ is in cc), λ r. let same : reset ≡ sint w = sym r ∙ is in cc)
    by clock is f = subst (HasKind e) (same_Some kind.Other k f) ((λ u. let same : uint u.0 ≡ clock = sym u.1 ∙ is in cc), (λ a. let same : async_reset ≡ clock = sym a ∙ is in cc), λ r. let same : reset ≡ clock = sym r ∙ is in cc)
    by reset is f = subst (HasKind e) (same_Some kind.Reset k f) is
    by async_reset is f = subst (HasKind e) (same_Some kind.Asynchronous k f) is
    by (bundle fs) is f = absurd (none-some k f)
    by (vector t n) is f = absurd (none-some k f)

-- a Reset where no index picks in a vector of length 0
reset_there : (number : ℕ) (path : LeafPath) (p : Place) (a : Access) → ((q : Place) → a ≡ access.Empty q → ⊥)
    → end_of_leaf number path p a true reset ≡ reset_end number path p ∷ []
reset_there number path p access.Fixed some = refl
reset_there number path p (access.Picks q) some = refl
reset_there number path p (access.Empty q) some = absurd (some q refl)

pub reset_numbered : (c : CircuitTree) (js : List Join) (old new : JoinedOfCode) (before : Holds c js old) (number : ℕ) (own : Root) (path : Vec Step Global) (p : Place) (a : Access)
    (steps whole : LeafPath) (x : ℕ) → own ≡ root.Leaf path p a → ((q : Place) → a ≡ access.Empty q → ⊥) → whole ≡ path_of path.items ++ steps
    → AreLeaves c (first_ends number own steps reset) → (IsLeafOf c (reset_end number whole p) → HasNumber before (reset_end number whole p) new x)
    → HasEnd before (first_ends number own steps reset) new (Some x)
reset_numbered c js old new before number own path p a steps whole x is some behind leaves has =
    let e = reset_end number whole p in
    let there : first_ends number own steps reset ≡ e ∷ [] =
    ap (λ (r : Root). first_ends number r steps reset) is ∙ reset_there number (path_of path.items ++ steps) p a some
    ∙ ap (λ l. reset_end number l p ∷ []) (sym behind) in
    (e, there, has (leaves e (subst (λ es. In es e) (sym there) (inl refl)) refl))
