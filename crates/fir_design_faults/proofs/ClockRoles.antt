-- What picks a clock, by its role over numbered leaves and by that of its path.
use Rattle.std.proofs.Common.{◌≡◌, ℕ, List, [], ◌∷◌, ◌++◌, flat_map, refl, sym, ap, ◌∙◌, subst, inl, inr, ◌⊎◌}
use Rattle.fir_base.specs.Lists.{In}
use Rattle.fir_ast.specs.declared.place.Place.{Place}
use Rattle.fir_ast.specs.Expressions.{Expression, reference, literal, operation, mux, validif}
use Rattle.fir_meaning.specs.LeafPaths.{LeafPath}
use Rattle.fir_meaning.specs.LeafTypes.{LeafType, a_clock, number}
use Rattle.fir_meaning.specs.ModuleScenes.{Scene}
use Rattle.fir_meaning.specs.SourceClocks as tree
use Rattle.fir_meaning.specs.SourceClocks.{DrivePicks, PicksFor}
use Rattle.fir_meaning.specs.SourceDesigns.{SourceDesign}
use Rattle.fir_meaning.specs.SourceDrives.{side}
use Rattle.fir_meaning.specs.SourceRoles as sources
use Rattle.fir_meaning.specs.SourceRoles.{SourceRole}
use Rattle.fir_meaning.specs.TypedScopes.{TypedScope}
use Rattle.fir_meaning.specs.working.LeafCircuits.{LeafCircuit}
use Rattle.fir_meaning.specs.working.LeafModules as role
use Rattle.fir_meaning.specs.working.LeafModules.{Role}
use Rattle.fir_meaning.specs.working.Numberings.{Numbering, moved, moved_picks, moved_role}
use Rattle.fir_meaning.specs.working.Terms.{Picks, Term, absent, no_picks, pick, read, zeros}
use Rattle.fir_meaning.specs.working.Terms as term
use Rattle.fir_leaf.specs.working.ClockFaults.{clock_places, index_places, live_places, picking_places}
use Rattle.fir_leaf.specs.working.ClockRoots.{lives_of}
use Rattle.fir_design.proofs.InStep.{SameRoleBelow}
use Rattle.fir_design_faults.proofs.ClockGifts.{GivesSame}

-- where the indices stand that pick the clock of a register, or in a node
abbrev pub role_places : Role → List Place
role_places (role.computed t) = picking_places t
role_places (role.register t r) = picking_places t
role_places _ = []

abbrev pub source_places : SourceRole → List Place
source_places (sources.computed scope e q) = tree.picking_places e
source_places (sources.register scope e reset q) = tree.picking_places e
source_places _ = []

pub side_places : (scope : TypedScope) (e : Expression) (q : LeafPath) → (side scope e q).index_places ≡ tree.picking_places e
side_places scope (reference p n ps) q = refl
side_places scope (literal l) q = refl
side_places scope (operation p op es ks) q = refl
side_places scope (mux p c a b) q = refl
side_places scope (validif p c a) q = refl

-- numbers that are moved leave places
pub moved_index_places : (n : Numbering) (ps : Picks) → index_places (moved_picks n ps) ≡ index_places ps
moved_index_places n no_picks = refl
moved_index_places n (pick ps p i k each) = ap (λ (qs : List Place). qs ++ p ∷ []) (moved_index_places n ps)

pub moved_places : (n : Numbering) (t : Term) → picking_places (moved n t) ≡ picking_places t
moved_places n zeros = refl
moved_places n (absent t ps) = moved_index_places n ps
moved_places n (term.literal l) = refl
moved_places n (read b ps) = moved_index_places n ps
moved_places n (term.operation op ts ks) = refl
moved_places n (term.mux c a b) = refl
moved_places n (term.validif c a) = refl

module _ (c : LeafCircuit) (at : LeafPath) (s : Scene) where
  own_places : (r : Role) (u : SourceRole) → SameRoleBelow c at r u → GivesSame s r u → role_places r ≡ source_places u
  own_places role.source sources.source h g = refl
  own_places role.sink sources.sink h g = refl
  own_places (role.computed t) (sources.computed scope e q) h g = g.places ∙ side_places scope e q
  own_places (role.register t r) (sources.register scope e reset q) h g = g.places ∙ side_places scope e []
  own_places (role.reading r) (sources.reading p) h g = refl
  own_places (role.pipe r x under) (sources.pipe p k kept) h g = refl
  own_places _ _ h g = absurd h

  moved_role_places : (n : Numbering) (k : ℕ) (r : Role) (u : SourceRole) → SameRoleBelow c at (moved_role n k r) u → GivesSame s r u
      → role_places (moved_role n k r) ≡ source_places u
  moved_role_places n k role.source sources.sink h g = refl
  moved_role_places n k role.sink sources.sink h g = refl
  moved_role_places n k (role.computed t) (sources.computed scope e q) h g = moved_places n t ∙ g.places ∙ side_places scope e q
  moved_role_places n k (role.register t r) (sources.register scope e reset q) h g = moved_places n t ∙ g.places ∙ side_places scope e []
  moved_role_places n k (role.reading r) (sources.reading p) h g = refl
  moved_role_places n k (role.pipe r x under) (sources.pipe p j kept) h g = refl
  moved_role_places n k _ _ h g = absurd h

  pub places_same : (r g : Role) (u : SourceRole) → (g ≡ r) ⊎ ((n : Numbering) × (k : ℕ) × (g ≡ moved_role n k r)) → SameRoleBelow c at g u → GivesSame s r u
      → role_places g ≡ source_places u
  places_same r g u (inl e) h k = ap role_places e ∙ own_places r u (subst (λ z. SameRoleBelow c at z u) e h) k
  places_same r g u (inr e) h k =
      ap role_places e.2 ∙ moved_role_places e.0 e.1 r u (subst (λ z. SameRoleBelow c at z u) e.2 h) k

module _ (c : LeafCircuit) (at : LeafPath) where
  -- what picks a clock, by what the leaf holds and its role
  pub picks_by_path : (t : SourceDesign) (x : ℕ) (path : LeafPath) (p : Place) (holds : LeafType) (r : Role) (u : SourceRole) → SameRoleBelow c at r u
      → role_places r ≡ source_places u → (In (flat_map live_places (lives_of c x)) p → DrivePicks t path p)
      → In (clock_places c x holds r) p → PicksFor t path holds u p
  picks_by_path t x path p a_clock role.source sources.source h e f i = i
  picks_by_path t x path p a_clock role.sink sources.sink h e f i = f i
  picks_by_path t x path p a_clock (role.computed u) (sources.computed scope k q) h e f i = subst (λ (ps : List Place). In ps p) e i
  picks_by_path t x path p a_clock (role.register u r) (sources.register scope k reset q) h e f i = subst (λ (ps : List Place). In ps p) e i
  picks_by_path t x path p a_clock (role.reading r) (sources.reading q) h e f i = i
  picks_by_path t x path p a_clock (role.pipe r y under) (sources.pipe q j kept) h e f i = i
  picks_by_path t x path p (number n) role.source sources.source h e f i = i
  picks_by_path t x path p (number n) role.sink sources.sink h e f i = i
  picks_by_path t x path p (number n) (role.computed u) (sources.computed scope k q) h e f i = i
  picks_by_path t x path p (number n) (role.register u r) (sources.register scope k reset q) h e f i = subst (λ (ps : List Place). In ps p) e i
  picks_by_path t x path p (number n) (role.reading r) (sources.reading q) h e f i = i
  picks_by_path t x path p (number n) (role.pipe r y under) (sources.pipe q j kept) h e f i = i
  picks_by_path t x path p _ _ _ h e f i = absurd h

  pub picks_by_number : (t : SourceDesign) (x : ℕ) (path : LeafPath) (p : Place) (holds : LeafType) (r : Role) (u : SourceRole) → SameRoleBelow c at r u
      → role_places r ≡ source_places u → (DrivePicks t path p → In (flat_map live_places (lives_of c x)) p)
      → PicksFor t path holds u p → In (clock_places c x holds r) p
  picks_by_number t x path p a_clock role.source sources.source h e f i = i
  picks_by_number t x path p a_clock role.sink sources.sink h e f i = f i
  picks_by_number t x path p a_clock (role.computed u) (sources.computed scope k q) h e f i = subst (λ (ps : List Place). In ps p) (sym e) i
  picks_by_number t x path p a_clock (role.register u r) (sources.register scope k reset q) h e f i = subst (λ (ps : List Place). In ps p) (sym e) i
  picks_by_number t x path p a_clock (role.reading r) (sources.reading q) h e f i = i
  picks_by_number t x path p a_clock (role.pipe r y under) (sources.pipe q j kept) h e f i = i
  picks_by_number t x path p (number n) role.source sources.source h e f i = i
  picks_by_number t x path p (number n) role.sink sources.sink h e f i = i
  picks_by_number t x path p (number n) (role.computed u) (sources.computed scope k q) h e f i = i
  picks_by_number t x path p (number n) (role.register u r) (sources.register scope k reset q) h e f i = subst (λ (ps : List Place). In ps p) (sym e) i
  picks_by_number t x path p (number n) (role.reading r) (sources.reading q) h e f i = i
  picks_by_number t x path p (number n) (role.pipe r y under) (sources.pipe q j kept) h e f i = i
  picks_by_number t x path p _ _ _ h e f i = absurd h

  -- roles are sinks in both
  pub sink_by_path : (r : Role) (u : SourceRole) → SameRoleBelow c at r u → r ≡ role.sink → u ≡ sources.sink
  sink_by_path role.sink sources.sink h e = refl
  sink_by_path role.source sources.source h e = absurd (cc)
  sink_by_path (role.computed t) (sources.computed scope k q) h e = absurd (cc)
  sink_by_path (role.register t r) (sources.register scope k reset q) h e = absurd (cc)
  sink_by_path (role.reading r) (sources.reading q) h e = absurd (cc)
  sink_by_path (role.pipe r y under) (sources.pipe q j kept) h e = absurd (cc)
  sink_by_path _ _ h e = absurd h

  pub sink_by_number : (r : Role) (u : SourceRole) → SameRoleBelow c at r u → u ≡ sources.sink → r ≡ role.sink
  sink_by_number role.sink sources.sink h e = refl
  sink_by_number role.source sources.source h e = absurd (cc)
  sink_by_number (role.computed t) (sources.computed scope k q) h e = absurd (cc)
  sink_by_number (role.register t r) (sources.register scope k reset q) h e = absurd (cc)
  sink_by_number (role.reading r) (sources.reading q) h e = absurd (cc)
  sink_by_number (role.pipe r y under) (sources.pipe q j kept) h e = absurd (cc)
  sink_by_number _ _ h e = absurd h
