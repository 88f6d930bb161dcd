-- What an invalid stores by numbers it stores by paths.
use Rattle.std.proofs.Common.{◌≡◌, ℕ, suc, ◌+◌, List, [], ◌∷◌, Bool, true, false, if◌then◌else◌, length, slice_get, Option, Some, None, option_map, refl, sym, ap, ◌∙◌, arith}
use Rattle.fir_bits.specs.Operators.{no_operand}
use Rattle.fir_ast.specs.declared.place.Place.{Place}
use Rattle.fir_meaning.specs.LeafPaths.{LeafPath}
use Rattle.fir_meaning.specs.TypeLeaves.{TypeLeaf, type_leaves}
use Rattle.fir_meaning.specs.TypedScopes.{TypedScope}
use Rattle.fir_meaning.specs.working.Terms.{zeros}
use Rattle.fir_meaning.specs.working.LeafBlocks.{LeafStore, LeafBlock}
use Rattle.fir_meaning.specs.working.LeafBlocks as over
use Rattle.fir_meaning.specs.working.Targets.{Target}
use Rattle.fir_meaning.specs.working.LeafedBlocks.{driven, driven_from, invalid_leaf, invalid_leaves, invalid_block}
use Rattle.fir_meaning.specs.TreeAims.{Aim}
use Rattle.fir_meaning.specs.TreeValues.{ValuesByPath, leaf_where}
use Rattle.fir_meaning.specs.working.TreeStores.{PathStore, LeafFacts, path_stored, invalidated, exec_invalid}
use Rattle.fir_meaning.specs.SamePaths.{may_be_driven}
use Rattle.fir_leaf.specs.working.LeafLaws.{numbered, path_at, IsFine, IsSameStore}
use Rattle.fir_leaf.specs.working.Standing.{Stands}
use Rattle.fir_leaf.proofs.LeafPlaces.{leaves_counted}
use Rattle.fir_leaf.proofs.PairStores.{run, run_joined, driven_same, standing_named}

-- leaves that stand in a list from a number on
record StandFrom (all : List TypeLeaf) (k : ℕ) (ls : List TypeLeaf) : Type 0 where
  each : (i : ℕ) (l : TypeLeaf) → slice_get ls i ≡ Some l → slice_get all (k + i) ≡ Some l

stand_first : (all : List TypeLeaf) (k : ℕ) (l : TypeLeaf) (ls : List TypeLeaf) → StandFrom all k (l ∷ ls) → slice_get all k ≡ Some l
stand_first all k l ls s = let e : k ≡ k + 0 = omega arith in ap (slice_get all) e ∙ s.each 0 l refl

stand_later : (all : List TypeLeaf) (k : ℕ) (l : TypeLeaf) (ls : List TypeLeaf) → StandFrom all k (l ∷ ls) → StandFrom all (suc k) ls
stand_later all k l ls s = record { each = λ i x h. let e : suc k + i ≡ k + suc i = omega arith in ap (slice_get all) e ∙ s.each (suc i) x h }

stand_all : (all : List TypeLeaf) → StandFrom all 0 all
stand_all all = record { each = λ i l h. let e : 0 + i ≡ i = omega arith in ap (slice_get all) e ∙ h }

module _ (whole : TypedScope) (fine : IsFine whole) (facts : LeafFacts) (env : ValuesByPath) (p : Place) (r : Target) (a : Aim)
    (stands : Stands whole facts.holds env r a) (taken : List Bool) where
  abbrev may : ℕ → Bool
  may = numbered whole facts.may_drive

  leaf_same : (k : ℕ) (l : TypeLeaf) (ns : LeafStore ℕ) (ps : PathStore) → slice_get (type_leaves r.data_type) k ≡ Some l → IsSameStore whole ns ps
      → IsSameStore whole (run whole fine facts env (invalid_leaf may p r.base r k) taken ns) (invalidated facts env a l.path taken ps)
  leaf_same k l ns ps h same =
      by r.base (leaf_where a.first l.path) (stands.first k l h)
      (driven_same whole fine facts env p (type_leaves r.data_type) (Some r) a.at k l zeros no_operand taken ns ps
      (standing_named whole fine facts env r a stands) h refl same)
    where
      chosen : (c : Bool) (one other : LeafBlock) (q s : PathStore) → IsSameStore whole (run whole fine facts env one taken ns) q
          → IsSameStore whole (run whole fine facts env other taken ns) s
          → IsSameStore whole (run whole fine facts env (if c then one else other) taken ns) (if c then q else s)
      chosen true one other q s x y = x
      chosen false one other q s x y = y

      by : (base : Option ℕ) (first : Option LeafPath) → first ≡ option_map (λ b. path_at whole (b + k)) base
          → IsSameStore whole (run whole fine facts env (driven_from p base r k zeros) taken ns)
          (path_stored facts env (leaf_where a.at l.path) no_operand taken ps)
          → IsSameStore whole (run whole fine facts env (invalid_leaf may p base r k) taken ns)
          (if may_be_driven facts.may_drive first then path_stored facts env (leaf_where a.at l.path) no_operand taken ps else ps)
      by None first e driven = rw e same
      by (Some b) first e driven =
          rw e (chosen (facts.may_drive (path_at whole (b + k))) (driven_from p (Some b) r k zeros) over.done
          (path_stored facts env (leaf_where a.at l.path) no_operand taken ps) ps driven same)

  leaves_same : (ls : List TypeLeaf) (k : ℕ) (ns : LeafStore ℕ) (ps : PathStore) → StandFrom (type_leaves r.data_type) k ls → IsSameStore whole ns ps
      → IsSameStore whole (run whole fine facts env (invalid_leaves may p r k (length ls)) taken ns) (exec_invalid facts env a taken ls ps)
  leaves_same [] k ns ps s same = same
  leaves_same (l ∷ ls) k ns ps s same =
      rw (run_joined whole fine facts env (invalid_leaf may p r.base r k) (invalid_leaves may p r (suc k) (length ls)) taken ns)
      (leaves_same ls (suc k) (run whole fine facts env (invalid_leaf may p r.base r k) taken ns) (invalidated facts env a l.path taken ps)
      (stand_later (type_leaves r.data_type) k l ls s) (leaf_same k l ns ps (stand_first (type_leaves r.data_type) k l ls s) same))

  pub invalid_same : (ns : LeafStore ℕ) (ps : PathStore) → IsSameStore whole ns ps
      → IsSameStore whole (run whole fine facts env (invalid_block may p r) taken ns) (exec_invalid facts env a taken (type_leaves a.data_type) ps)
  invalid_same ns ps same =
      let types : type_leaves a.data_type ≡ type_leaves r.data_type = ap type_leaves (sym stands.data_type) in
      rw (types, ← leaves_counted r.data_type) (leaves_same (type_leaves r.data_type) 0 ns ps (stand_all (type_leaves r.data_type)) same)
