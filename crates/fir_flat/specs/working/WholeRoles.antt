-- The roles of a module's leaves in its net are made of whole terms (FIRRTL spec, "Connects", "Nodes", "Registers").
use Rattle.std.specs.Prelude.{◌≡◌, ℕ, ◌<◌, length, Option, Some, None}
use Rattle.fir_bits.specs.declared.types.NumTy.{NumTy}
use Rattle.fir_meaning.specs.working.LeafModules.{LeafModule, LeafReset, Role, role_at}
use Rattle.fir_meaning.specs.LeafTypes.{number}
use Rattle.fir_meaning.specs.working.LeafModules as leafed
use Rattle.fir_leaf.specs.working.LeafNumbers.{BlockWithin, TermWithin}
use Rattle.fir_leaf_types.specs.working.TypedModules.{IsModuleTyped, held_in}
use Rattle.fir_connect.specs.working.Lowered.{one_bit}
use Rattle.fir_connect.specs.working.NetRoles.{NetReset, NetRole, computed, driven, net_role_at, net_types, register}
use Rattle.fir_connect.specs.working.NetTerms.{NetTerm, term_type}
use Rattle.fir_flat.specs.working.WholeTerms.{IsWhole}

-- all leaf numbers in its statements and roles are those of its leaves
abbrev pub IsResetWithin : ℕ → Option LeafReset → Type 0
IsResetWithin n None = Unit {0}
IsResetWithin n (Some r) = TermWithin n r.condition × TermWithin n r.init

abbrev pub IsRoleWithin : ℕ → Role → Type 0
IsRoleWithin n (leafed.computed t) = TermWithin n t
IsRoleWithin n (leafed.register clock reset) = TermWithin n clock × IsResetWithin n reset
IsRoleWithin n _ = Unit {0}

pub record IsModuleWithin (m : LeafModule) : Type 0 where
  pub body : BlockWithin (length m.leaves) m.body
  pub roles : (x : ℕ) → x < length m.leaves → IsRoleWithin (length m.leaves) (role_at m x)

module _ (m : LeafModule) where
  abbrev pub IsWholeIn : NetTerm → Type 0
  IsWholeIn t = IsWhole (held_in m) (length m.leaves) t

  -- it may drive a leaf of this signedness
  pub record MayDrive (u : NumTy) (t : NetTerm) : Type 0 where
    pub whole : IsWholeIn t
    pub kind : (term_type (net_types m) t).signed ≡ u.signed

  abbrev pub IsResetWhole : NumTy → Option NetReset → Type 0
  IsResetWhole u None = Unit {0}
  IsResetWhole u (Some r) = IsWholeIn r.condition × (term_type (net_types m) r.condition ≡ one_bit) × MayDrive u r.init

  -- of a leaf that holds a number
  abbrev pub IsRoleWhole : NumTy → NetRole → Type 0
  IsRoleWhole u (driven t) = MayDrive u t
  IsRoleWhole u (computed t) = MayDrive u t
  IsRoleWhole u (register clock reset t) = IsResetWhole u reset × MayDrive u t
  IsRoleWhole u _ = Unit {0}

-- in a module that has types and speaks of its own leaves
abbrev pub RolesAreWhole : Type 0
RolesAreWhole =
    (m : LeafModule) (x : ℕ) (u : NumTy) → IsModuleTyped m → IsModuleWithin m → x < length m.leaves → held_in m x ≡ number u
    → IsRoleWhole m u (net_role_at m x)
