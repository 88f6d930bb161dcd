-- Roles over numbers and over paths that say the same are of one kind: both sources, both sinks, or both such that they show state.
use Rattle.std.proofs.Common.{◌≡◌, List, refl}
use Rattle.fir_meaning.specs.working.Flattened.{is_input}
use Rattle.fir_meaning.specs.working.LeafModules as over
use Rattle.fir_meaning.specs.working.LeafModules.{LeafArray, LeafDeclared, Role}
use Rattle.fir_meaning.specs.working.StateWalks as over_state
use Rattle.fir_design.specs.working.SameRoles.{SameRole}
use Rattle.fir_meaning.specs.SourceCircuits.{is_sink_role, is_source_role, is_state}
use Rattle.fir_meaning.specs.SourceRoles as tree
use Rattle.fir_meaning.specs.SourceRoles.{SourceRole}

module _ (leaves : List LeafDeclared) (arrays : List LeafArray) where
  pub same_source : (r : Role) (q : SourceRole) → SameRole leaves arrays r q → is_input r ≡ is_source_role q
  same_source over.source tree.source h = refl
  same_source over.sink tree.sink h = refl
  same_source (over.computed t) (tree.computed scope e p) h = refl
  same_source (over.register c r) (tree.register scope clock reset p) h = refl
  same_source (over.reading r) (tree.reading p) h = refl
  same_source (over.pipe r x u) (tree.pipe p clock kept) h = refl
  same_source _ _ h = absurd h

  pub same_sink : (r : Role) (q : SourceRole) → SameRole leaves arrays r q → over.is_sink r ≡ is_sink_role q
  same_sink over.source tree.source h = refl
  same_sink over.sink tree.sink h = refl
  same_sink (over.computed t) (tree.computed scope e p) h = refl
  same_sink (over.register c r) (tree.register scope clock reset p) h = refl
  same_sink (over.reading r) (tree.reading p) h = refl
  same_sink (over.pipe r x u) (tree.pipe p clock kept) h = refl
  same_sink _ _ h = absurd h

  pub same_state : (r : Role) (q : SourceRole) → SameRole leaves arrays r q → over_state.is_state r ≡ is_state q
  same_state over.source tree.source h = refl
  same_state over.sink tree.sink h = refl
  same_state (over.computed t) (tree.computed scope e p) h = refl
  same_state (over.register c r) (tree.register scope clock reset p) h = refl
  same_state (over.reading r) (tree.reading p) h = refl
  same_state (over.pipe r x u) (tree.pipe p clock kept) h = refl
  same_state _ _ h = absurd h
