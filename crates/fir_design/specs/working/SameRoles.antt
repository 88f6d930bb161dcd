-- A role over numbered leaves and one over paths say the same: under all values of the leaves of the module.
use Rattle.std.specs.Prelude.{◌≡◌, ℕ, List, ◌∷◌, [], map, Option, Some, None}
use Rattle.fir_base.specs.Lists.{In}
use Rattle.fir_ast.specs.Circuits.{CircuitTree}
use Rattle.fir_ast.specs.Expressions.{Expression}
use Rattle.fir_meaning.specs.LeafPaths.{LeafPath}
use Rattle.fir_meaning.specs.working.NameGroups.{HasNames}
use Rattle.fir_meaning.specs.SizedDeclarations.{numbered_modules}
use Rattle.fir_meaning.specs.TypeGroup.{type_faults}
use Rattle.fir_meaning.specs.TypedScopes.{TypedScope}
use Rattle.fir_leaf.specs.working.DesignStates.{array_at}
use Rattle.fir_meaning.specs.working.LeafModules as over
use Rattle.fir_meaning.specs.working.LeafModules.{LeafArray, LeafDeclared, LeafReset, Need, Reading, Role, Writing, leaf_at}
use Rattle.fir_meaning.specs.ModuleScenes.{Scene}
use Rattle.fir_meaning.specs.working.LeafedModules.{leafed_module}
use Rattle.fir_meaning.specs.working.TermValues.{clock_of, eval}
use Rattle.fir_meaning.specs.working.Terms.{Term}
use Rattle.fir_meaning.specs.TreeValues.{TypesByPath, ValuesByPath, aim_read, leaf_where, value}
use Rattle.fir_meaning.specs.SourceRoles as tree
use Rattle.fir_meaning.specs.SourceRoles.{PathNeed, PathReading, PathWriting, SourceArray, SourceLeaf, SourceReset, SourceRole, source_arrays, source_leaves}
use Rattle.fir_meaning.specs.SourceStores.{clock_where}

module _ (leaves : List LeafDeclared) where
  abbrev pub path_at : ℕ → LeafPath
  path_at x = (leaf_at leaves x).path

  -- what a function of paths is over the numbers of leaves
  abbrev pub by_number : {A : Type 0} → (LeafPath → A) → ℕ → A
  by_number f x = f (path_at x)

  -- a term has the value of the leaf at a path of an expression, and gives its clock
  pub record SameTerm (t : Term) (scope : TypedScope) (e : Expression) (q : LeafPath) : Type 0 where
    pub number : (holds : TypesByPath) (env : ValuesByPath) → eval (by_number holds) (by_number env) t ≡ value scope holds env e q
    pub clock :
        (holds : TypesByPath) (env : ValuesByPath) (clocks : LeafPath → Option ℕ)
        → clock_of (by_number holds) (record { numbers = by_number env; clocks = by_number clocks }) t
        ≡ clock_where clocks (leaf_where (aim_read scope holds env e) q)

  pub record SameReset (r : LeafReset) (sr : SourceReset) (q : LeafPath) : Type 0 where
    pub is_async : r.is_async ≡ sr.is_async
    pub condition : SameTerm r.condition sr.scope sr.condition []
    pub init : SameTerm r.init sr.scope sr.init q

  abbrev pub MaySameReset : Option LeafReset → Option SourceReset → LeafPath → Type 0
  MaySameReset None None q = Unit {0}
  MaySameReset (Some r) (Some sr) q = SameReset r sr q
  MaySameReset _ _ q = ⊥

  abbrev pub need_on : Need → PathNeed
  need_on n = record { leaf = path_at n.leaf; high = n.high }

  module _ (arrays : List LeafArray) where
    abbrev pub reading_on : Reading → PathReading
    reading_on r = record { array = (array_at arrays r.array).path; address = path_at r.address; needs = map need_on r.needs }

    abbrev pub SameRole : Role → SourceRole → Type 0
    SameRole over.source tree.source = Unit {0}
    SameRole over.sink tree.sink = Unit {0}
    SameRole (over.computed t) (tree.computed scope e q) = SameTerm t scope e q
    SameRole (over.register c r) (tree.register scope clock reset q) = SameTerm c scope clock [] × MaySameReset r reset q
    SameRole (over.reading r) (tree.reading p) = reading_on r ≡ p
    SameRole (over.pipe r x under_write) (tree.pipe p clock kept) = (reading_on r ≡ p) × (path_at x ≡ clock) × (under_write ≡ kept)
    SameRole _ _ = ⊥

  abbrev pub writing_on : Writing → PathWriting
  writing_on w = record { address = path_at w.address; needs = map need_on w.needs; clock = path_at w.clock; given = path_at w.given }

  abbrev pub array_on : LeafArray → SourceArray
  array_on a = record { path = a.path; holds = a.holds; words = a.words; writings = map writing_on a.writings }

-- leaf by leaf
abbrev pub SameLeaves : List LeafDeclared → List LeafArray → List LeafDeclared → List SourceLeaf → Type 0
SameLeaves leaves arrays [] [] = Unit {0}
SameLeaves leaves arrays (l ∷ ls) (t ∷ ts) = ((l.path ≡ t.path) × (l.holds ≡ t.holds) × SameRole leaves arrays l.role t.role) × SameLeaves leaves arrays ls ts
SameLeaves leaves arrays _ _ = ⊥

-- the leaves and arrays of a module's leaf view are those of its tree
abbrev pub ViewsHaveRoles : Type 0
ViewsHaveRoles =
    (c : CircuitTree) (s : Scene) → HasNames c → type_faults c ≡ [] → In (numbered_modules c) s.own
    → SameLeaves (leafed_module s).leaves (leafed_module s).arrays (leafed_module s).leaves (source_leaves s)
    × (map (array_on (leafed_module s).leaves) (leafed_module s).arrays ≡ source_arrays s)
