-- What the statements of a design drive: each leaf is driven by the statements of one of its modules, and what is live for it in the whole is what is live in
-- that module, moved; so is what drives it in a net, and whether it is covered.
use Rattle.std.proofs.Common.{◌≡◌, ℕ, ◌+◌, ◌<◌, ◌≤◌, List, [], ◌∷◌, ◌++◌, map, flat_map, Bool, true, false, not, ◌||◌, length, refl, ap, ◌∙◌, inl, inr, arith, ◌⊎◌}
use Rattle.std.proofs.lemmas.Bool.{false_from_ne_true}
use Rattle.fir_base.specs.Lists.{In}
use Rattle.fir_ast.specs.declared.place.Place.{Place}
use Rattle.fir_meaning.specs.working.Terms.{Term}
use Rattle.fir_meaning.specs.LeafPaths.{LeafPath, named}
use Rattle.fir_meaning.specs.SourceDependence.{PlacedModule, modules_of_design, modules_of_instances}
use Rattle.fir_meaning.specs.SourceDesigns.{Instances, held, no_instances}
use Rattle.fir_meaning.specs.working.Choices.{covers_all, lives_all}
use Rattle.fir_meaning.specs.working.FlatLeaves.{placed_leaf}
use Rattle.fir_meaning.specs.working.LeafBlocks.{HeldInstance, LeafBlock, joined}
use Rattle.fir_meaning.specs.working.LeafBlocks as over
use Rattle.fir_meaning.specs.working.LeafModules.{LeafDeclared, LeafModule, depth_at, leaf_at, may_drive, role_at}
use Rattle.fir_meaning.specs.working.LeafedModules.{leafed_module, module_leaves}
use Rattle.fir_meaning.specs.working.Numberings.{Numbering, number}
use Rattle.fir_meaning.specs.working.UndrivenChoices.{drives_any}
use Rattle.fir_leaf.proofs.FlatStores.{depths}
use Rattle.fir_leaf.proofs.MovedTerms.{Stands}
use Rattle.fir_design.proofs.InstanceTrees.{NamedTree, trees_in}
use Rattle.fir_source_faults.specs.working.ReadsByPath.{path_in}
use Rattle.fir_source_faults.proofs.JoinedChoices.{drives_joined}
use Rattle.fir_design_faults.proofs.FlatLives.{before_quiet, behind_quiet, covers_before_quiet, covers_behind_quiet, covers_first_of_when, covers_second_of_when, first_of_when, moved_live, second_of_when}
use Rattle.fir_design_faults.proofs.MovedDrivers.{DriverMoves, moves_before_quiet, moves_behind_quiet, moves_first, moves_second}

-- a leaf of an instance's port, in the module that holds the instance and in its own
pub record IsTurned (m c : LeafModule) (i : HeldInstance) (z : ℕ) : Type 0 where
  pub declaration : (leaf_at m.leaves (i.first + z)).declaration ≡ i.declaration
  pub turned : may_drive (role_at m (i.first + z)) ≡ not (may_drive (role_at c z))

-- the modules below instances
abbrev pub modules_of_trees : LeafPath → List NamedTree → List PlacedModule
modules_of_trees at = flat_map (λ (e : NamedTree). modules_of_design (at ++ named e.name ∷ []) e.tree)

pub modules_by_trees : (at : LeafPath) (is : Instances) → modules_of_trees at (trees_in is) ≡ modules_of_instances at is
modules_by_trees at no_instances = refl
modules_by_trees at (held name d rest) = ap (λ hs. modules_of_design (at ++ named name ∷ []) d ++ hs) (modules_by_trees at rest)

-- where a bool is not true it is false
pub not_true : (b : Bool) → (b ≡ true → ⊥) → b ≡ false
not_true b h = false_from_ne_true b h

pub either_true : (a b : Bool) → (a || b) ≡ true → (a ≡ true) ⊎ (b ≡ true)
either_true true b e = inl refl
either_true false b e = inr e

pub left_true : (a b : Bool) → a ≡ true → (a || b) ≡ true
left_true true b e = refl
left_true false b e = absurd (cc)

pub right_true : (a b : Bool) → b ≡ true → (a || b) ≡ true
right_true true b e = refl
right_true false b e = e

module _ (table : List LeafDeclared) where
  -- one of these modules drives the leaf
  pub record Driver (hs : List PlacedModule) (x : ℕ) : Type 0 where
    pub holder : PlacedModule
    pub among : In hs holder
    pub leaf : ℕ
    pub within : leaf < length (module_leaves holder.scene)
    pub path : (leaf_at table x).path ≡ holder.at ++ path_in holder.scene leaf
    pub drives : drives_any leaf (leafed_module holder.scene).body ≡ true

  pub driver_within : (hs ks : List PlacedModule) (x : ℕ) → ((h : PlacedModule) → In hs h → In ks h) → Driver hs x → Driver ks x
  driver_within hs ks x f d = record {
    holder = d.holder;
    among = f d.holder d.among;
    leaf = d.leaf;
    within = d.within;
    path = d.path;
    drives = d.drives;
  }

  -- what is live in a block for a leaf that a module may drive, whether it is covered, and what drives it
  pub record Agrees (b : LeafBlock) (level : ℕ) (n : Numbering) (m : LeafModule) (y : ℕ) : Type 0 where
    pub drives : drives_any y m.body ≡ true → drives_any (number n y) b ≡ true
    pub lives :
        lives_all (depths table (number n y)) (number n y) b level ≡ map (moved_live n) (lives_all (depth_at m y) y m.body 0)
    pub covers : covers_all (depths table (number n y)) (number n y) b level ≡ covers_all (depth_at m y) y m.body 0
    pub driver : DriverMoves n m y (depths table (number n y)) b level (depth_at m y) m.body 0

  pub record Member (b : LeafBlock) (level : ℕ) (Where : ℕ → Type 0) (h : PlacedModule) : Type 0 where
    pub numbers : Numbering
    pub whens : ℕ
    pub deep : level ≤ whens
    pub stands : Stands table numbers h.at whens (leafed_module h.scene)
    -- its leaves that are no ports
    pub placed :
        (x : ℕ) → (leafed_module h.scene).port_leaves ≤ x → x < length (module_leaves h.scene)
        → (array : ℕ) × (leaf_at table (number numbers x) ≡ placed_leaf h.at whens numbers array (leaf_at (module_leaves h.scene) x))
    pub only :
        (y : ℕ) → y < length (module_leaves h.scene) → drives_any y (leafed_module h.scene).body ≡ true
        → may_drive (role_at (leafed_module h.scene) y) ≡ true
    pub agrees :
        (y : ℕ) → y < length (module_leaves h.scene) → may_drive (role_at (leafed_module h.scene) y) ≡ true
        → Agrees b level numbers (leafed_module h.scene) y × Where (number numbers y)

  -- of a block that is quiet where the other drives
  pub joined_member : (a b : LeafBlock) (level : ℕ) (W V : ℕ → Type 0) (h : PlacedModule) → ((x : ℕ) → W x → drives_any x b ≡ false) → ((x : ℕ) → W x → V x)
      → Member a level W h → Member (joined a b) level V h
  joined_member a b level W V h none more p = record {
    numbers = p.numbers;
    whens = p.whens;
    deep = p.deep;
    stands = p.stands;
    placed = p.placed;
    only = p.only;
    agrees = λ y lt e.
        let both = p.agrees y lt e in
        let m = leafed_module h.scene in
        let x = number p.numbers y in
        let still = none x both.1 in (
          record {
            drives = λ d. drives_joined x a b ∙ left_true (drives_any x a) (drives_any x b) (both.0.drives d);
            lives = before_quiet (depths table x) x a b level still ∙ both.0.lives;
            covers = covers_before_quiet (depths table x) x a b level still ∙ both.0.covers;
            driver = moves_before_quiet p.numbers m y (depths table x) (depth_at m y) a b level m.body 0 still both.0.driver;
          },
          more x both.1,
        );
  }

  pub behind_member : (a b : LeafBlock) (level : ℕ) (W V : ℕ → Type 0) (h : PlacedModule) → ((x : ℕ) → W x → drives_any x a ≡ false) → ((x : ℕ) → W x → V x)
      → Member b level W h → Member (joined a b) level V h
  behind_member a b level W V h none more p = record {
    numbers = p.numbers;
    whens = p.whens;
    deep = p.deep;
    stands = p.stands;
    placed = p.placed;
    only = p.only;
    agrees = λ y lt e.
        let both = p.agrees y lt e in
        let m = leafed_module h.scene in
        let x = number p.numbers y in
        let still = none x both.1 in (
          record {
            drives = λ d. drives_joined x a b ∙ right_true (drives_any x a) (drives_any x b) (both.0.drives d);
            lives = behind_quiet (depths table x) x a b level still ∙ both.0.lives;
            covers = covers_behind_quiet (depths table x) x a b level still ∙ both.0.covers;
            driver = moves_behind_quiet p.numbers m y (depths table x) (depth_at m y) a b level m.body 0 still both.0.driver;
          },
          more x both.1,
        );
  }

  -- of one block of a when
  pub first_member : (p : Place) (c : Term) (a b : LeafBlock) (level : ℕ) (W V : ℕ → Type 0) (h : PlacedModule) → ((x : ℕ) → W x → drives_any x b ≡ false)
      → ((x : ℕ) → W x → V x)
      → Member a (level + 1) W h → Member (over.then (over.when p c a b) over.done) level V h
  first_member p c a b level W V h none more q = record {
    numbers = q.numbers;
    whens = q.whens;
    deep = omega (arith, q.deep);
    stands = q.stands;
    placed = q.placed;
    only = q.only;
    agrees = λ y lt e.
        let both = q.agrees y lt e in
        let m = leafed_module h.scene in
        let x = number q.numbers y in
        let still = none x both.1 in
        let under : level < depths table x = omega (arith, q.deep, q.stands.depth y lt) in (
          record {
            drives = λ d. left_true (drives_any x a || drives_any x b) false (left_true (drives_any x a) (drives_any x b) (both.0.drives d));
            lives = first_of_when (depths table x) x p c a b level under still ∙ both.0.lives;
            covers = covers_first_of_when (depths table x) x p c a b level under still ∙ both.0.covers;
            driver = moves_first q.numbers m y (depths table x) (depth_at m y) p c a b level m.body 0 under still both.0.driver;
          },
          more x both.1,
        );
  }

  pub second_member : (p : Place) (c : Term) (a b : LeafBlock) (level : ℕ) (W V : ℕ → Type 0) (h : PlacedModule) → ((x : ℕ) → W x → drives_any x a ≡ false)
      → ((x : ℕ) → W x → V x)
      → Member b (level + 1) W h → Member (over.then (over.when p c a b) over.done) level V h
  second_member p c a b level W V h none more q = record {
    numbers = q.numbers;
    whens = q.whens;
    deep = omega (arith, q.deep);
    stands = q.stands;
    placed = q.placed;
    only = q.only;
    agrees = λ y lt e.
        let both = q.agrees y lt e in
        let m = leafed_module h.scene in
        let x = number q.numbers y in
        let still = none x both.1 in
        let under : level < depths table x = omega (arith, q.deep, q.stands.depth y lt) in (
          record {
            drives = λ d. left_true (drives_any x a || drives_any x b) false (right_true (drives_any x a) (drives_any x b) (both.0.drives d));
            lives = second_of_when (depths table x) x p c a b level under still ∙ both.0.lives;
            covers = covers_second_of_when (depths table x) x p c a b level under still ∙ both.0.covers;
            driver = moves_second q.numbers m y (depths table x) (depth_at m y) p c a b level m.body 0 under still both.0.driver;
          },
          more x both.1,
        );
  }
