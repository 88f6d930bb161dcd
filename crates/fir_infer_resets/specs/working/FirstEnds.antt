-- The ends that stand for a side of what meets: its leaves with the first elements, or a value.
use Rattle.std.specs.Prelude.{◌≡◌, ℕ, zero, suc, List, [], ◌∷◌, ◌++◌, flat_map, Bool, true, false, Option, Some, None, slice_get}
use Rattle.std.specs.declared.vec.Vec.{Vec}
use Rattle.std.specs.declared.alloc.Global.{Global}
use Rattle.fir_base.specs.Lists.{In}
use Rattle.fir_ast.specs.declared.place.Place.{Place}
use Rattle.fir_ast.specs.Types.{DataType}
use Rattle.fir_ast.specs.Statements.{PlacedName, SinkReference}
use Rattle.fir_ast.specs.Circuits.{ModuleTree, CircuitTree}
use Rattle.fir_meaning.specs.LeafPaths.{LeafPath, named}
use Rattle.fir_meaning.specs.Components.{find}
use Rattle.fir_meaning.specs.Visibility.{declarations}
use Rattle.fir_types.specs.working.Seen.{sink_path}
use Rattle.fir_infer_resets.specs.declared.item.Step.{Step}
use Rattle.fir_infer_resets.specs.declared.item.End.{End as EndOfCode}
use Rattle.fir_infer_resets.specs.declared.root.Access.{Access}
use Rattle.fir_infer_resets.specs.declared.root.Access.TheVariants as access
use Rattle.fir_infer_resets.specs.declared.root.Root.{Root}
use Rattle.fir_infer_resets.specs.declared.root.Root.TheVariants as root
use Rattle.fir_infer_resets.specs.declared.joined.Joined.{Joined as JoinedOfCode}
use Rattle.fir_meaning.specs.ResetItems.{End, is_reset, declared_at, value_end, leaf_end}
use Rattle.fir_meaning.specs.ResetJoins.{Join, each_with_each}
use Rattle.fir_meaning.specs.ResetWalks.{IsReset, IsLeafOf, Joined}
use Rattle.fir_infer_resets.specs.working.FirstPairs.{Met}
use Rattle.fir_infer_resets.specs.working.Holding.{path_of, IsEnd, Holds, HasNumber, HoldsMore}

-- what indices into vectors of these lengths pick, behind what was picked before
abbrev pub access_behind : Place → Access → List ℕ → Access
access_behind p a [] = a
access_behind p a (zero ∷ ns) = access.Empty p
access_behind p a (suc n ∷ ns) = access_behind p (access.Picks p) ns

-- the root of a reference that picks so in the module of that number
pub record IsReferenceRoot (c : CircuitTree) (number : ℕ) (s : SinkReference) (lengths : List ℕ) (own : Root) : Type 0 where
  pub path : Vec Step Global
  pub place : Place
  pub is : own ≡ root.Leaf path place (access_behind s.place access.Fixed lengths)
  pub steps : path_of path.items ≡ sink_path s
  pub declared : (m : ModuleTree) → slice_get c.modules number ≡ Some m → place ≡ declared_at s.place (find (declarations m) s.name)

-- that of a node
pub record IsNodeRoot (n : PlacedName) (own : Root) : Type 0 where
  pub path : Vec Step Global
  pub is : own ≡ root.Leaf path n.place access.Fixed
  pub steps : path_of path.items ≡ named n.name ∷ []

-- the end below a root where a ground type stands, if one is there
abbrev pub end_of_leaf : ℕ → LeafPath → Place → Access → Bool → DataType → List End
end_of_leaf number path p access.Fixed resets t = leaf_end number p path t ∷ []
end_of_leaf number path p (access.Picks q) true t = leaf_end number p path t ∷ []
end_of_leaf number path p (access.Picks q) false t = value_end q t ∷ []
end_of_leaf number path p (access.Empty q) true t = []
end_of_leaf number path p (access.Empty q) false t = value_end q t ∷ []

abbrev pub end_of_value : Place → Bool → DataType → List End
end_of_value p true t = []
end_of_value p false t = value_end p t ∷ []

abbrev pub first_ends : ℕ → Root → LeafPath → DataType → List End
first_ends number (root.Leaf path p a) steps t = end_of_leaf number (path_of path.items ++ steps) p a (is_reset t) t
first_ends number (root.Value p) steps t = end_of_value p (is_reset t) t

-- it has this number in the graph that has grown; or it is none, and nothing has changed
abbrev pub HasEnd : {c : CircuitTree} {js : List Join} {old : JoinedOfCode} → Holds c js old → List End → JoinedOfCode → Option ℕ → Type 0
HasEnd {c} {js} {old} before es new None = (es ≡ []) × (new ≡ old)
HasEnd before es new (Some x) = (e : End) × (es ≡ e ∷ []) × HasNumber before e new x

-- the code's end is that one end
pub record IsFirstEnd (own : EndOfCode) (es : List End) : Type 0 where
  pub end : End
  pub one : es ≡ end ∷ []
  pub is : IsEnd own end

abbrev pub AreLeaves : CircuitTree → List End → Type 0
AreLeaves c es = (e : End) → In es e → IsReset e → IsLeafOf c e

-- two ground types may meet where their ends are leaves, and joined
pub record MayMeet (c : CircuitTree) (number : ℕ) (left right : Root) (m : Met) : Type 0 where
  pub one : AreLeaves c (first_ends number left m.path m.one)
  pub other : AreLeaves c (first_ends number right m.path m.other)
  pub joined : (e f : End) → In (first_ends number left m.path m.one) e → In (first_ends number right m.path m.other) f → Joined c e f

abbrev pub joins_where : ℕ → Root → Root → Met → List Join
joins_where number left right m = each_with_each (first_ends number left m.path m.one) (first_ends number right m.path m.other)

-- what meets is joined
pub record JoinsMet (c : CircuitTree) (number : ℕ) (left right : Root) (ms : List Met) (old new : JoinedOfCode) : Type 0 where
  pub more : (js : List Join) (before : Holds c js old) → ((m : Met) → In ms m → MayMeet c number left right m)
      → HoldsMore before (flat_map (joins_where number left right) ms) new
