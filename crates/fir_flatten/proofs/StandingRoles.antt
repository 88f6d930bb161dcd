-- The roles of a module where they are put among those of the whole design: they stand for the same roles over its numbers.
use Rattle.std.proofs.Common.{◌≡◌, ℕ, ◌+◌, ◌^◌, ◌<◌, List, ◌++◌, length, map, Option, Some, None, refl, ap, ◌∙◌}
use Rattle.std.specs.Prelude.{option_map}
use Rattle.fir_meaning.specs.LeafTypes.{LeafType}
use Rattle.fir_meaning.specs.working.LeafBlocks.{LeafBlock}
use Rattle.fir_meaning.specs.working.LeafModules.{LeafArray, LeafDeclared, Role}
use Rattle.fir_meaning.specs.working.LeafModules as leafed
use Rattle.fir_meaning.specs.working.Numberings.{Numbering, number}
use Rattle.fir_meaning.specs.working.TermValues.{Holds}
use Rattle.fir_connect.specs.working.MovedTerms.{moved_net_role, renumbered, renumbered_reset}
use Rattle.fir_connect.specs.working.NetRoles.{NetReset as ResetMeant, NetRole as RoleMeant, net_role}
use Rattle.fir_connect.specs.working.NetRoles as meant
use Rattle.fir_connect.specs.working.NetTerms.{NetTerm}
use Rattle.fir_net.specs.declared.node.Node.{Node}
use Rattle.fir_merge.specs.declared.bound.Bound.{Bound}
use Rattle.fir_merge.specs.working.Bounds.{StandsFor}
use Rattle.fir_merge.specs.working.NodeTerms.{Grows, ReadBefore}
use Rattle.fir_merge.proofs.StandingValues.{stands_later}
use Rattle.fir_whens.specs.declared.net_role.NetReset.{NetReset}
use Rattle.fir_whens.specs.declared.net_role.NetRole.{NetRole}
use Rattle.fir_whens.specs.declared.net_role.NetRole.TheVariants as code
use Rattle.fir_whens.specs.working.StandingRoles.{ResetStands, RoleStands}
use Rattle.fir_flatten.specs.declared.offsets.Offsets.{Offsets}
use Rattle.fir_flatten.specs.working.DesignNets.{ReadsBelow, ResetReadsBelow, RoleReadsBelow}
use Rattle.fir_flatten.specs.working.MovedNets.{array_moved, leaf_moved, node_moved, read_moved, reset_moved, role_moved}
use Rattle.fir_flatten.proofs.MovedPorts.{IsPortTyped, reading_moved_stands}
use Rattle.fir_flatten.proofs.MovedTerms.{stands_moved}

-- a role stands still where nodes are added
module _ (holds : Holds) (old new : List Node) (grows : Grows old new) where
  reset_later : (r : Option NetReset) (q : Option ResetMeant) → ResetStands holds old r q → ResetStands holds new r q
  reset_later None None h = tt
  reset_later (Some r) (Some q) h =
      (h.0, stands_later holds old new r.condition q.condition grows h.1, stands_later holds old new r.init q.init grows h.2)
  reset_later None (Some q) h = absurd h
  reset_later (Some r) None h = absurd h

  pub role_later : (r : NetRole) (q : RoleMeant) → RoleStands holds old r q → RoleStands holds new r q
  role_later code.Source meant.source h = tt
  role_later (code.Driven b) (meant.driven t) h = stands_later holds old new b t grows h
  role_later (code.Computed b) (meant.computed t) h = stands_later holds old new b t grows h
  role_later (code.Register clock reset next) (meant.register c r t) h =
      (stands_later holds old new clock c grows h.0, reset_later reset r h.1, stands_later holds old new next t grows h.2)
  role_later (code.Reading e) (meant.reading r) h = h
  role_later (code.Pipe e clock under) (meant.pipe r c u) h = h
  role_later r q h = absurd h

-- only a source stands for none
pub no_source : (holds : Holds) (net : List Node) (r : NetRole) → RoleStands holds net r meant.source → r ≡ code.Source
no_source holds net code.Source h = refl
no_source holds net (code.Driven b) h = absurd h
no_source holds net (code.Computed b) h = absurd h
no_source holds net (code.Register clock reset next) h = absurd h
no_source holds net (code.Reading e) h = absurd h
no_source holds net (code.Pipe e clock under) h = absurd h

pub source_stands : (holds : Holds) (net : List Node) (depth : ℕ) (b : LeafBlock) (x : ℕ) (r : Role)
    → RoleStands holds net code.Source (net_role holds depth b x r) → r ≡ leafed.source
source_stands holds net depth b x leafed.source h = refl
source_stands holds net depth b x leafed.sink h = absurd h
source_stands holds net depth b x (leafed.computed t) h = absurd h
source_stands holds net depth b x (leafed.register clock reset) h = absurd h
source_stands holds net depth b x (leafed.reading r) h = absurd h
source_stands holds net depth b x (leafed.pipe r clock under) h = absurd h

pub moved_source : (at : Offsets) (r : NetRole) → role_moved at r ≡ code.Source → r ≡ code.Source
moved_source at code.Source e = refl
moved_source at (code.Driven b) e = cc
moved_source at (code.Computed b) e = cc
moved_source at (code.Register clock reset next) e = cc
moved_source at (code.Reading r) e = cc
moved_source at (code.Pipe r clock under) e = cc

-- a module's nodes are put behind others; its first so many leaves have their types there
module _ (at : Offsets) (old ns : List Node) (first : length old ≡ at.nodes) (room : length old + length ns < 2 ^ 64) (before : ReadBefore 0 ns) where
  module _ (inner outer : Holds) (n : Numbering) (array : ℕ) (leaves : List LeafDeclared) (arrays : List LeafArray)
      (places : (y : ℕ) → y < length leaves → leaf_moved at y ≡ number n y) (stand : (k : ℕ) → k < length arrays → array_moved at k ≡ array + k)
      (held : (y : ℕ) → y < length leaves → outer (number n y) ≡ inner y) where
    abbrev count : ℕ
    count = length leaves

    abbrev net : List Node
    net = old ++ map (node_moved at) ns

    bound_stands : (b : Bound) (t : NetTerm) → ReadsBelow count t → StandsFor inner ns b t
        → StandsFor outer net (record { read = read_moved at b.read; ty = b.ty }) (renumbered (number n) t)
    bound_stands b t reads h =
        stands_moved at old ns first room before inner outer (number n) b t (λ y m. places y (reads y m)) (λ y m. held y (reads y m)) h

    reset_stands : (r : Option NetReset) (q : Option ResetMeant) → ResetReadsBelow count q → ResetStands inner ns r q
        → ResetStands outer net (option_map (reset_moved at) r) (option_map (renumbered_reset (number n)) q)
    reset_stands None None reads h = tt
    reset_stands (Some r) (Some q) reads h =
        (h.0, bound_stands r.condition q.condition reads.0 h.1, bound_stands r.init q.init reads.1 h.2)
    reset_stands None (Some q) reads h = absurd h
    reset_stands (Some r) None reads h = absurd h

    pub role_stands : (h : LeafType) (r : NetRole) (q : RoleMeant) → RoleReadsBelow count q → IsPortTyped leaves arrays h q → RoleStands inner ns r q
        → RoleStands outer net (role_moved at r) (moved_net_role n array q)
    role_stands t code.Source meant.source reads typed h = tt
    role_stands t (code.Driven b) (meant.driven d) reads typed h = bound_stands b d reads h
    role_stands t (code.Computed b) (meant.computed d) reads typed h = bound_stands b d reads h
    role_stands t (code.Register clock reset next) (meant.register c r d) reads typed h =
        (bound_stands clock c reads.0 h.0, reset_stands reset r reads.1 h.1, bound_stands next d reads.2 h.2)
    role_stands t (code.Reading e) (meant.reading r) reads typed h = reading_moved_stands at n leaves places arrays array stand t e r typed h
    role_stands t (code.Pipe e clock under) (meant.pipe r c u) reads typed h =
        (reading_moved_stands at n leaves places arrays array stand t e r typed.0 h.0, ap (leaf_moved at) h.1 ∙ places c typed.1.within, h.2)
    role_stands t r q reads typed h = absurd h
