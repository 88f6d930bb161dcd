-- What references name: each of their leaves is one of the module, also the last that their indices may pick, and all these are leaves of ports or
-- none is.
use Rattle.std.proofs.Common.{◌≡◌, ℕ, ◌+◌, ◌<◌, ◌≤◌, List, [], ◌∷◌, ◌++◌, Bool, true, false, if◌then◌else◌, length, Some, ap, ◌⊎◌, inl, inr, ⊎_elim, arith}
use Rattle.std.specs.Str.{bytes_eq}
use Rattle.fir_ast.specs.Types.{DataType}
use Rattle.fir_meaning.specs.Costs.{leaves_where}
use Rattle.fir_meaning.specs.TypeLeaves.{leaf_count}
use Rattle.fir_meaning.specs.TypedScopes.{TypedScope, known}
use Rattle.fir_meaning.specs.ResetJoins.{type_of_known}
use Rattle.fir_meaning.specs.working.LeafModules.{LeafModule}
use Rattle.fir_leaf.specs.working.SoundDesigns.{IsRead, last_of}
use Rattle.fir_design_faults.proofs.AllTerms.{AllPicksIn}
use Rattle.fir_meaning.specs.working.Terms.{no_picks}
use Rattle.fir_meaning.specs.working.Targets.{Target, leaves_ahead, leaves_so_far, named_target}

-- the last leaf that is picked, from each leaf of the target's type
pub record LastBelow (n : ℕ) (r : Target) : Type 0 where
  pub each : (b k : ℕ) → r.base ≡ Some b → k < leaf_count r.data_type → last_of (b + k) r.picks < n

pub record IsBehind (n : ℕ) (r : Target) : Type 0 where
  pub base : (b : ℕ) → r.base ≡ Some b → n ≤ b

pub record IsTargetIn (m : LeafModule) (r : Target) : Type 0 where
  pub picks : AllPicksIn m r.picks
  pub within : LastBelow (length m.leaves) r
  pub ports : LastBelow m.port_leaves r ⊎ IsBehind m.port_leaves r

pub target_read : (m : LeafModule) (r : Target) → IsTargetIn m r → (b k : ℕ) → r.base ≡ Some b → k < leaf_count r.data_type
    → IsRead m (b + k) r.picks
target_read m r h b k e lt = record {
  within = h.within.each b k e lt;
  ports = λ low.
      ⊎_elim (λ (l : LastBelow m.port_leaves r). l.each b k e lt)
      (λ (x : IsBehind m.port_leaves r). absurd (omega (arith, low, x.base b e))) h.ports;
}

-- the leaves of each name are leaves of the module, and of its ports or behind these
pub record AreNamesIn (m : LeafModule) (scope : TypedScope) : Type 0 where
  pub within : (name : List ℕ) (t : DataType) → type_of_known (known scope name) ≡ Some t
      → leaves_ahead scope name + leaf_count t ≤ length m.leaves
  pub ports : (name : List ℕ) (t : DataType) → type_of_known (known scope name) ≡ Some t
      → (leaves_ahead scope name + leaf_count t ≤ m.port_leaves) ⊎ (m.port_leaves ≤ leaves_ahead scope name)

pub named_apart : (ports more : TypedScope) (name : List ℕ) (t : DataType) → type_of_known (known (ports ++ more) name) ≡ Some t
    → (leaves_ahead (ports ++ more) name + leaf_count t ≤ leaves_so_far ports) ⊎ (leaves_so_far ports ≤ leaves_ahead (ports ++ more) name)
named_apart [] more name t h = inr (omega arith)
named_apart (k ∷ ks) more name t h = by (bytes_eq k.name name) h (named_apart ks more name t)
  where
    first : ℕ
    first = leaves_where k.data_type

    by : (b : Bool) → type_of_known (if b then Some k else known (ks ++ more) name) ≡ Some t
        → (type_of_known (known (ks ++ more) name) ≡ Some t
        → (leaves_ahead (ks ++ more) name + leaf_count t ≤ leaves_so_far ks) ⊎ (leaves_so_far ks ≤ leaves_ahead (ks ++ more) name))
        → ((if b then 0 else leaves_where k.data_type + leaves_ahead (ks ++ more) name) + leaf_count t
        ≤ leaves_where k.data_type + leaves_so_far ks)
        ⊎ (leaves_where k.data_type + leaves_so_far ks ≤ (if b then 0 else leaves_where k.data_type + leaves_ahead (ks ++ more) name))
    by true h more_of = let same : leaves_where k.data_type ≡ leaf_count t = ap leaves_where h in inl (omega (arith, same))
    by false h more_of =
        ⊎_elim (λ (l : leaves_ahead (ks ++ more) name + leaf_count t ≤ leaves_so_far ks). inl (omega (arith, l)))
        (λ (r : leaves_so_far ks ≤ leaves_ahead (ks ++ more) name). inr (omega (arith, r))) (more_of h)

module _ (m : LeafModule) where
  pub named_in : (scope : TypedScope) (name : List ℕ) (t : DataType) → AreNamesIn m scope → type_of_known (known scope name) ≡ Some t
      → IsTargetIn m (named_target scope name)
  named_in scope name t names h =
      let first = leaves_ahead scope name in
      rw h (record {
        picks = tt;
        within = whole (length m.leaves) first (names.within name t h);
        ports =
            ⊎_elim (λ (l : first + leaf_count t ≤ m.port_leaves). inl (whole m.port_leaves first l))
            (λ (r : m.port_leaves ≤ first). inr (behind first r)) (names.ports name t h);
      })
    where
      whole : (n first : ℕ) → first + leaf_count t ≤ n → LastBelow n (record { base = Some first; picks = no_picks; data_type = t })
      whole n first room = record { each = λ b k e lt. let is : first ≡ b = cc in omega (arith, is, room, lt) }

      behind : (first : ℕ) → m.port_leaves ≤ first → IsBehind m.port_leaves (record { base = Some first; picks = no_picks; data_type = t })
      behind first low = record { base = λ b e. let is : first ≡ b = cc in omega (arith, is, low) }
