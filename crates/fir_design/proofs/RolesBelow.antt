-- A role that says the same over a module's leaves and by paths in it says so, moved, over the leaves of the circuit and by paths below an instance.
use Rattle.std.proofs.Common.{◌≡◌, ℕ, ◌+◌, ◌<◌, List, [], ◌∷◌, ◌++◌, map, length, Option, Some, None, option_map, refl, sym, ap, ◌∙◌, subst}
use Rattle.fir_ast.specs.Expressions.{Expression}
use Rattle.fir_meaning.specs.LeafPaths.{LeafPath}
use Rattle.fir_meaning.specs.TypedScopes.{TypedScope}
use Rattle.fir_leaf.specs.working.DesignStates.{array_at}
use Rattle.fir_meaning.specs.working.LeafCircuits.{LeafCircuit}
use Rattle.fir_meaning.specs.working.LeafModules as over
use Rattle.fir_meaning.specs.working.LeafModules.{LeafModule, LeafReset, Need, Reading, Role}
use Rattle.fir_meaning.specs.working.Numberings.{Numbering, moved, moved_need, moved_reading, moved_reset, moved_role, number}
use Rattle.fir_leaf.specs.working.SoundDesigns.{IsTermIn, circuit_path}
use Rattle.fir_meaning.specs.working.Terms.{Term}
use Rattle.fir_leaf.proofs.MovedTerms.{Stands, clock_same, eval_same}
use Rattle.fir_design.specs.working.SameRoles.{MaySameReset, SameRole, SameTerm, need_on, path_at, reading_on}
use Rattle.fir_meaning.specs.SourceCircuits.{role_within}
use Rattle.fir_meaning.specs.SourceRoles as tree
use Rattle.fir_meaning.specs.SourceRoles.{PathReading, SourceReset, SourceRole}
use Rattle.fir_meaning.specs.SourceStores.{below}
use Rattle.fir_design.proofs.InStep.{MaySameResetBelow, SameNeeds, SameReading, SameRoleBelow, SameTermBelow}
use Rattle.fir_design.proofs.NamedPaths.{HasName, NeedsHaveNames, ReadingHasNames, RoleHasNames, array_within, leaf_within}

-- the terms of a role read leaves of the module
pub record ResetReads (m : LeafModule) (r : LeafReset) : Type 0 where
  pub condition : IsTermIn m r.condition
  pub init : IsTermIn m r.init

abbrev pub MayResetReads : LeafModule → Option LeafReset → Type 0
MayResetReads m None = Unit {0}
MayResetReads m (Some r) = ResetReads m r

abbrev pub RoleReads : LeafModule → Role → Type 0
RoleReads m (over.computed t) = IsTermIn m t
RoleReads m (over.register k r) = IsTermIn m k × MayResetReads m r
RoleReads m _ = Unit {0}

-- where the arrays of the module of the instance at a path stand
pub record ArraysStand (c : LeafCircuit) (at : LeafPath) (first : ℕ) (m : LeafModule) : Type 0 where
  pub within : (x : ℕ) → x < length m.arrays → first + x < length c.arrays
  pub path : (x : ℕ) → x < length m.arrays → (array_at c.arrays (first + x)).path ≡ at ++ (array_at m.arrays x).path

module _ (c : LeafCircuit) (n : Numbering) (at : LeafPath) (k : ℕ) (m : LeafModule) (st : Stands c.leaves n at k m) where
  term_below : (t : Term) (scope : TypedScope) (e : Expression) (q : LeafPath) → IsTermIn m t → SameTerm m.leaves t scope e q
      → SameTermBelow c at (moved n t) scope e q
  term_below t scope e q w h = record {
    number = λ holds env. eval_same c.leaves holds env n at k m st t w ∙ h.number (below at holds) (below at env);
    clock = λ holds env clocks.
        clock_same c.leaves holds env n at k m st clocks t w ∙ h.clock (below at holds) (below at env) (below at clocks);
  }

  reset_below : (r : Option LeafReset) (sr : Option SourceReset) (q : LeafPath) → MayResetReads m r → MaySameReset m.leaves r sr q
      → MaySameResetBelow c at (option_map (moved_reset n) r) sr q
  reset_below None None q w h = tt
  reset_below None (Some sr) q w h = absurd h
  reset_below (Some r) None q w h = absurd h
  reset_below (Some r) (Some sr) q w h = record {
    is_async = h.is_async;
    condition = term_below r.condition sr.scope sr.condition [] w.condition h.condition;
    init = term_below r.init sr.scope sr.init q w.init h.init;
  }

  -- a leaf that has a path
  pub path_below : (x : ℕ) → HasName (path_at m.leaves x) → circuit_path c (number n x) ≡ below at (λ y. y) (path_at m.leaves x)
  path_below x h = st.path x (leaf_within m.leaves x h)

  pub needs_below : (ns : List Need) → NeedsHaveNames (map (need_on m.leaves) ns)
      → SameNeeds c at (map (moved_need n) ns) (map (need_on m.leaves) ns)
  needs_below [] h = tt
  needs_below (x ∷ ns) h = (record { leaf = path_below x.leaf h.0; high = refl }, needs_below ns h.1)

  module _ (first : ℕ) (arrays : ArraysStand c at first m) where
    reading_below : (r : Reading) (p : PathReading) → reading_on m.leaves m.arrays r ≡ p → ReadingHasNames p
        → SameReading c at (moved_reading n first r) p
    reading_below r p e h =
        subst (λ x. ReadingHasNames x → SameReading c at (moved_reading n first r) x) e
        (λ has.
        let inside = array_within m.arrays r.array has.array in
        record {
          within = arrays.within r.array inside;
          array = arrays.path r.array inside;
          address = path_below r.address has.address;
          needs = needs_below r.needs has.needs;
        }) h

    clock_below : (x : ℕ) (q : LeafPath) → path_at m.leaves x ≡ q → HasName q → circuit_path c (number n x) ≡ below at (λ y. y) q
    clock_below x q e h = path_below x (subst HasName (sym e) h) ∙ ap (λ p. at ++ p) e

    pub role_below : (r : Role) (sr : SourceRole) → RoleReads m r → RoleHasNames sr → SameRole m.leaves m.arrays r sr
        → SameRoleBelow c at (moved_role n first r) (role_within sr)
    role_below over.source tree.source w g h = tt
    role_below over.sink tree.sink w g h = tt
    role_below (over.computed t) (tree.computed scope e q) w g h = term_below t scope e q w h
    role_below (over.register x r) (tree.register scope clock reset q) w g h =
        (term_below x scope clock [] w.0 h.0, reset_below r reset q w.1 h.1)
    role_below (over.reading r) (tree.reading p) w g h = reading_below r p h g
    role_below (over.pipe r x u) (tree.pipe p clock kept) w g h = (reading_below r p h.0 g.0, clock_below x clock h.1 g.1, h.2)
    role_below over.source tree.sink w g h = absurd h
    role_below over.source (tree.computed scope e q) w g h = absurd h
    role_below over.source (tree.register scope clock reset q) w g h = absurd h
    role_below over.source (tree.reading p) w g h = absurd h
    role_below over.source (tree.pipe p clock kept) w g h = absurd h
    role_below over.sink tree.source w g h = absurd h
    role_below over.sink (tree.computed scope e q) w g h = absurd h
    role_below over.sink (tree.register scope clock reset q) w g h = absurd h
    role_below over.sink (tree.reading p) w g h = absurd h
    role_below over.sink (tree.pipe p clock kept) w g h = absurd h
    role_below (over.computed t) tree.source w g h = absurd h
    role_below (over.computed t) tree.sink w g h = absurd h
    role_below (over.computed t) (tree.register scope clock reset q) w g h = absurd h
    role_below (over.computed t) (tree.reading p) w g h = absurd h
    role_below (over.computed t) (tree.pipe p clock kept) w g h = absurd h
    role_below (over.register k r) tree.source w g h = absurd h
    role_below (over.register k r) tree.sink w g h = absurd h
    role_below (over.register k r) (tree.computed scope e q) w g h = absurd h
    role_below (over.register k r) (tree.reading p) w g h = absurd h
    role_below (over.register k r) (tree.pipe p clock kept) w g h = absurd h
    role_below (over.reading r) tree.source w g h = absurd h
    role_below (over.reading r) tree.sink w g h = absurd h
    role_below (over.reading r) (tree.computed scope e q) w g h = absurd h
    role_below (over.reading r) (tree.register scope clock reset q) w g h = absurd h
    role_below (over.reading r) (tree.pipe p clock kept) w g h = absurd h
    role_below (over.pipe r x u) tree.source w g h = absurd h
    role_below (over.pipe r x u) tree.sink w g h = absurd h
    role_below (over.pipe r x u) (tree.computed scope e q) w g h = absurd h
    role_below (over.pipe r x u) (tree.register scope clock reset q) w g h = absurd h
    role_below (over.pipe r x u) (tree.reading p) w g h = absurd h
