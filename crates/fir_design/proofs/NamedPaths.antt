-- Paths that are not empty: those of leaves and arrays of a module, and those that roles and writes of arrays speak of.
use Rattle.std.proofs.Common.{◌≡◌, ℕ, zero, suc, ◌<◌, List, [], ◌∷◌, ◌++◌, length, refl, arith}
use Rattle.std.specs.List.{AllByRecursion}
use Rattle.fir_meaning.specs.LeafPaths.{LeafPath}
use Rattle.fir_leaf.specs.working.DesignStates.{array_at}
use Rattle.fir_meaning.specs.working.LeafModules.{LeafArray, LeafDeclared, leaf_at}
use Rattle.fir_meaning.specs.SourceRoles.{PathNeed, PathReading, PathWriting, SourceArray, SourceLeaf, SourceRole, pipe, reading}

pub record HasName (q : LeafPath) : Type 0 where
  pub some : q ≡ [] → ⊥

abbrev pub NeedsHaveNames : List PathNeed → Type 0
NeedsHaveNames = AllByRecursion (λ (n : PathNeed). HasName n.leaf)

pub record ReadingHasNames (p : PathReading) : Type 0 where
  pub array : HasName p.array
  pub address : HasName p.address
  pub needs : NeedsHaveNames p.needs

abbrev pub RoleHasNames : SourceRole → Type 0
RoleHasNames (reading p) = ReadingHasNames p
RoleHasNames (pipe p clock kept) = ReadingHasNames p × HasName clock
RoleHasNames _ = Unit {0}

pub record LeafHasNames (l : SourceLeaf) : Type 0 where
  pub path : HasName l.path
  pub role : RoleHasNames l.role

pub record WritingHasNames (w : PathWriting) : Type 0 where
  pub address : HasName w.address
  pub needs : NeedsHaveNames w.needs
  pub clock : HasName w.clock
  pub given : HasName w.given

pub record ArrayHasNames (a : SourceArray) : Type 0 where
  pub path : HasName a.path
  pub writings : AllByRecursion WritingHasNames a.writings

-- only a leaf that is there has a path, and so an array
pub leaf_within : (leaves : List LeafDeclared) (x : ℕ) → HasName (leaf_at leaves x).path → x < length leaves
leaf_within [] x h = absurd (h.some refl)
leaf_within (l ∷ leaves) zero h = omega arith
leaf_within (l ∷ leaves) (suc x) h = let e : x < length leaves = leaf_within leaves x h in omega (arith, e)

pub array_within : (arrays : List LeafArray) (x : ℕ) → HasName (array_at arrays x).path → x < length arrays
array_within [] x h = absurd (h.some refl)
array_within (a ∷ arrays) zero h = omega arith
array_within (a ∷ arrays) (suc x) h = let e : x < length arrays = array_within arrays x h in omega (arith, e)

-- behind the path of an instance, too
pub name_behind : (at q : LeafPath) → HasName q → HasName (at ++ q)
name_behind [] q h = h
name_behind (s ∷ at) q h = record { some = λ e. cc }
