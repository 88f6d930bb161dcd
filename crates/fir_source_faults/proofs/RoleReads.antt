-- What a role reads within a tick, as one list, by numbers and by paths, and what its init alone reads; and on what a leaf of the role depends.
use Rattle.std.proofs.Common.{◌≡◌, ℕ, List, [], true, false, Option, Some, None}
use Rattle.fir_base.specs.Lists.{In}
use Rattle.fir_meaning.specs.working.Dependence as over
use Rattle.fir_meaning.specs.working.LeafBlocks.{LeafBlock}
use Rattle.fir_meaning.specs.working.LeafModules as role
use Rattle.fir_meaning.specs.working.LeafModules.{LeafArray, LeafDeclared, LeafReset, Need, Reading, Role, is_sink}
use Rattle.fir_meaning.specs.LeafPaths.{LeafPath}
use Rattle.fir_meaning.specs.SourceCircuits as source
use Rattle.fir_meaning.specs.SourceDependence as tree
use Rattle.fir_meaning.specs.SourceDependence.{DriveReads, from_main}
use Rattle.fir_meaning.specs.SourceDesigns.{SourceDesign}
use Rattle.fir_meaning.specs.SourceReads as by_path
use Rattle.fir_meaning.specs.SourceRoles as sources
use Rattle.fir_meaning.specs.SourceRoles.{PathNeed, PathReading, SourceReset, SourceRole}
use Rattle.fir_meaning.specs.working.TermReads.{reads}
use Rattle.fir_meaning.specs.working.Choices.{LiveReads}

abbrev pub role_reads : Role → List ℕ
role_reads (role.computed t) = reads t
role_reads (role.register c r) = over.reset_reads r
role_reads (role.reading r) = over.reading_reads r
role_reads _ = []

abbrev pub path_reads : SourceRole → List LeafPath
path_reads (sources.computed scope e q) = by_path.reads scope e q
path_reads (sources.register scope clock reset q) = tree.reset_reads reset q
path_reads (sources.reading r) = tree.reading_reads r
path_reads _ = []

-- the init of a register
abbrev pub reset_inits : Option LeafReset → List ℕ
reset_inits None = []
reset_inits (Some r) = reads r.init

abbrev pub init_reads : Role → List ℕ
init_reads (role.register c r) = reset_inits r
init_reads _ = []

abbrev pub path_reset_inits : Option SourceReset → LeafPath → List LeafPath
path_reset_inits None q = []
path_reset_inits (Some r) q = by_path.reads r.scope r.init q

abbrev pub path_inits : SourceRole → List LeafPath
path_inits (sources.register scope clock reset q) = path_reset_inits reset q
path_inits _ = []

-- what a leaf depends on is read by statements that are live for it, where it is a sink, and by its role, where it is none
pub of_role : (body : LeafBlock) (depth x : ℕ) (r : Role) (y : ℕ) → is_sink r ≡ false → over.RoleDepends body depth x r y → In (role_reads r) y
of_role body depth x role.source y e h = absurd h
of_role body depth x role.sink y e h = cc
of_role body depth x (role.computed t) y e h = h
of_role body depth x (role.register c r) y e h = h
of_role body depth x (role.reading r) y e h = h
of_role body depth x (role.pipe r c u) y e h = absurd h

pub by_role : (body : LeafBlock) (depth x : ℕ) (r : Role) (y : ℕ) → is_sink r ≡ false → In (role_reads r) y → over.RoleDepends body depth x r y
by_role body depth x role.source y e h = absurd h
by_role body depth x role.sink y e h = cc
by_role body depth x (role.computed t) y e h = h
by_role body depth x (role.register c r) y e h = h
by_role body depth x (role.reading r) y e h = h
by_role body depth x (role.pipe r c u) y e h = absurd h

pub of_sink : (body : LeafBlock) (depth x : ℕ) (r : Role) (y : ℕ) → is_sink r ≡ true → over.RoleDepends body depth x r y → LiveReads depth x body y
of_sink body depth x role.source y e h = cc
of_sink body depth x role.sink y e h = h
of_sink body depth x (role.computed t) y e h = cc
of_sink body depth x (role.register c r) y e h = cc
of_sink body depth x (role.reading r) y e h = cc
of_sink body depth x (role.pipe r c u) y e h = cc

pub by_sink : (body : LeafBlock) (depth x : ℕ) (r : Role) (y : ℕ) → is_sink r ≡ true → LiveReads depth x body y → over.RoleDepends body depth x r y
by_sink body depth x role.source y e h = cc
by_sink body depth x role.sink y e h = h
by_sink body depth x (role.computed t) y e h = cc
by_sink body depth x (role.register c r) y e h = cc
by_sink body depth x (role.reading r) y e h = cc
by_sink body depth x (role.pipe r c u) y e h = cc

-- the same by paths
module _ (t : SourceDesign) (at x : LeafPath) where
  pub path_of_role : (r : SourceRole) (y : LeafPath) → source.is_sink_role r ≡ false → tree.RoleDepends t at x r y → In (from_main at (path_reads r)) y
  path_of_role sources.source y e h = absurd h
  path_of_role sources.sink y e h = cc
  path_of_role (sources.computed scope c q) y e h = h
  path_of_role (sources.register scope c r q) y e h = h
  path_of_role (sources.reading r) y e h = h
  path_of_role (sources.pipe r c u) y e h = absurd h

  pub path_by_role : (r : SourceRole) (y : LeafPath) → source.is_sink_role r ≡ false → In (from_main at (path_reads r)) y → tree.RoleDepends t at x r y
  path_by_role sources.source y e h = absurd h
  path_by_role sources.sink y e h = cc
  path_by_role (sources.computed scope c q) y e h = h
  path_by_role (sources.register scope c r q) y e h = h
  path_by_role (sources.reading r) y e h = h
  path_by_role (sources.pipe r c u) y e h = absurd h

  pub path_of_sink : (r : SourceRole) (y : LeafPath) → source.is_sink_role r ≡ true → tree.RoleDepends t at x r y → DriveReads t x y
  path_of_sink sources.source y e h = cc
  path_of_sink sources.sink y e h = h
  path_of_sink (sources.computed scope c q) y e h = cc
  path_of_sink (sources.register scope c r q) y e h = cc
  path_of_sink (sources.reading r) y e h = cc
  path_of_sink (sources.pipe r c u) y e h = cc

  pub path_by_sink : (r : SourceRole) (y : LeafPath) → source.is_sink_role r ≡ true → DriveReads t x y → tree.RoleDepends t at x r y
  path_by_sink sources.source y e h = cc
  path_by_sink sources.sink y e h = h
  path_by_sink (sources.computed scope c q) y e h = cc
  path_by_sink (sources.register scope c r q) y e h = cc
  path_by_sink (sources.reading r) y e h = cc
  path_by_sink (sources.pipe r c u) y e h = cc
