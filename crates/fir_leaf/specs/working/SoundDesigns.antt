-- When a design is sound (FIRRTL spec, "Instances", "Sub-accesses").
-- Its statements speak of leaves of their modules, what indices may pick are all leaves of ports or none of them is, a module that has an instance has the
-- leaves of its ports with their paths, and no path is that of two leaves.
use Rattle.std.specs.Prelude.{◌≡◌, ℕ, ◌+◌, ◌*◌, ◌-◌, ◌<◌, ◌≤◌, ◌∷◌, length}
use Rattle.fir_meaning.specs.LeafPaths.{LeafPath, named}
use Rattle.fir_meaning.specs.working.Terms.{Term, zeros, absent, literal, read, operation, mux, validif, Picks, no_picks, pick, Terms, no_terms, term}
use Rattle.fir_meaning.specs.working.LeafBlocks.{HeldInstance}
use Rattle.fir_meaning.specs.working.LeafModules.{LeafModule, leaf_at}
use Rattle.fir_meaning.specs.working.LeafCircuits.{LeafCircuit}
use Rattle.fir_meaning.specs.working.Designs.{Item, drive, when, instance, Items, done, then, Design, made_of}
use Rattle.fir_meaning.specs.working.DesignPaths.{instance_name}
use Rattle.fir_meaning.specs.working.Flattened.{flattened}

-- the last leaf that indices may pick
abbrev pub last_of : ℕ → Picks → ℕ
last_of b no_picks = b
last_of b (pick ps p i n each) = last_of b ps + (n - 1) * each

-- all that it may pick are leaves of the module, and all are leaves of ports or none is
pub record IsRead (m : LeafModule) (b : ℕ) (ps : Picks) : Type 0 where
  pub within : last_of b ps < length m.leaves
  pub ports : b < m.port_leaves → last_of b ps < m.port_leaves

module _ (m : LeafModule) where
  abbrev mutual
    pub IsTermIn : Term → Type 0
    IsTermIn zeros = Unit {0}
    IsTermIn (absent t ps) = Unit {0}
    IsTermIn (literal l) = Unit {0}
    IsTermIn (read b ps) = IsRead m b ps × ArePicksIn ps
    IsTermIn (operation op ts ks) = AreTermsIn ts
    IsTermIn (mux c a b) = IsTermIn c × IsTermIn a × IsTermIn b
    IsTermIn (validif c a) = IsTermIn c × IsTermIn a

    pub ArePicksIn : Picks → Type 0
    ArePicksIn no_picks = Unit {0}
    ArePicksIn (pick ps p i n each) = ArePicksIn ps × IsTermIn i

    pub AreTermsIn : Terms → Type 0
    AreTermsIn no_terms = Unit {0}
    AreTermsIn (term t ts) = IsTermIn t × AreTermsIn ts

-- the module holds, within k whens, the leaves of the ports of its instance of the module c
pub record IsHeld (m : LeafModule) (k : ℕ) (i : HeldInstance) (c : LeafModule) : Type 0 where
  pub ports : c.port_leaves ≤ length c.leaves
  pub own : m.port_leaves ≤ i.first
  pub within : i.first + c.port_leaves ≤ length m.leaves
  pub path : (x : ℕ) → x < c.port_leaves → (leaf_at m.leaves (i.first + x)).path ≡ named (instance_name m i) ∷ (leaf_at c.leaves x).path
  pub depth : (x : ℕ) → x < c.port_leaves → (leaf_at m.leaves (i.first + x)).depth ≡ k + (leaf_at c.leaves x).depth

abbrev mutual
  pub IsWired : LeafModule → ℕ → Item → Type 0
  IsWired m k (drive p b ps t) = IsRead m b ps × ArePicksIn m ps × IsTermIn m t
  IsWired m k (when p c a b) = IsTermIn m c × AreWired m (k + 1) a × AreWired m (k + 1) b
  IsWired m k (instance i d) = IsInstance m k i d

  pub AreWired : LeafModule → ℕ → Items → Type 0
  AreWired m k done = Unit {0}
  AreWired m k ((then) i is) = IsWired m k i × AreWired m k is

  pub IsInstance : LeafModule → ℕ → HeldInstance → Design → Type 0
  IsInstance m k i (made_of c is) = IsHeld m k i c × AreWired c 0 is

abbrev pub IsMain : Design → Type 0
IsMain (made_of m is) = (m.port_leaves ≤ length m.leaves) × AreWired m 0 is

-- the path of the leaf of a number
abbrev pub circuit_path : LeafCircuit → ℕ → LeafPath
circuit_path c x = (leaf_at c.leaves x).path

pub record IsSound (d : Design) : Type 0 where
  pub wired : IsMain d
  pub once : (x y : ℕ) → x < length (flattened d).leaves → y < length (flattened d).leaves
      → circuit_path (flattened d) x ≡ circuit_path (flattened d) y → x ≡ y
