-- Each leaf of a module's table is found by its path, which no other leaf has.
use Rattle.std.proofs.Common.{◌≡◌, ℕ, zero, suc, ◌<◌, List, [], ◌∷◌, map, length, false, refl, sym, ap, subst, arith, inl, inr}
use Rattle.std.proofs.lemmas.Bool.{false_from_ne_true}
use Rattle.fir_base.specs.Lists.{In, Distinct}
use Rattle.fir_base.proofs.Members.{in_map}
use Rattle.fir_meaning.specs.LeafPaths.{LeafPath}
use Rattle.fir_meaning.specs.ComponentTypes.{typed_scope}
use Rattle.fir_meaning.specs.Visibility.{declarations}
use Rattle.fir_meaning.proofs.WellTypedCircuits.{well_typed}
use Rattle.fir_meaning.specs.working.LeafModules.{LeafDeclared, leaf_at, may_drive}
use Rattle.fir_meaning.specs.LeafTypes.{number_type}
use Rattle.fir_meaning.specs.working.LeafedModules.{module_leaves}
use Rattle.fir_meaning.specs.SamePaths.{same_path}
use Rattle.fir_leaf.specs.working.TableLaws.{SayTheTable, TableHasFacts, leaf_on, table_facts}
use Rattle.fir_leaf.proofs.ClearScopes.{fine_module}
use Rattle.fir_leaf.proofs.DeclaredLeaves.{own_module, leaves_declared}
use Rattle.fir_leaf.proofs.OneStore.{path_is, path_same}
use Rattle.fir_leaf.proofs.OwnPaths.{distinct_paths}

abbrev path_of : LeafDeclared → LeafPath
path_of l = l.path

at_in : (ls : List LeafDeclared) (k : ℕ) → k < length ls → In ls (leaf_at ls k)
at_in [] k lt = absurd (omega arith)
at_in (l ∷ ls) zero lt = inl refl
at_in (l ∷ ls) (suc k) lt = inr (at_in ls k (omega arith))

found_by_path : (ls : List LeafDeclared) → Distinct (map path_of ls) → (k : ℕ) → k < length ls → leaf_on ls (leaf_at ls k).path ≡ leaf_at ls k
found_by_path [] d k lt = absurd (omega arith)
found_by_path (l ∷ ls) d zero lt = rw (path_same l.path) refl
found_by_path (l ∷ ls) d (suc k) lt =
    let less : k < length ls = omega arith in
    let apart : same_path l.path (leaf_at ls k).path ≡ false =
    false_from_ne_true (same_path l.path (leaf_at ls k).path)
    (λ t. d.0 (subst (In (map path_of ls)) (sym (path_is l.path (leaf_at ls k).path t)) (in_map path_of ls (leaf_at ls k) (at_in ls k less)))) in
    rw apart (found_by_path ls d.1 k less)

facts_of : (ls : List LeafDeclared) → Distinct (map path_of ls) → SayTheTable ls (table_facts ls)
facts_of ls d = record {
  holds = λ k lt. ap (λ (l : LeafDeclared). number_type l.holds) (found_by_path ls d k lt);
  depth = λ k lt. ap (λ (l : LeafDeclared). l.depth) (found_by_path ls d k lt);
  may_drive = λ k lt. ap (λ (l : LeafDeclared). may_drive l.role) (found_by_path ls d k lt);
}

pub table_has_facts : TableHasFacts
table_has_facts c s names types i =
    let own = own_module c s.own i in
    let fine = fine_module c names s.own.inside own.inside ((well_typed c names).0 types s.own.inside own.inside) in
    facts_of (module_leaves s)
    (subst Distinct (sym (leaves_declared c s i)) (distinct_paths (typed_scope c.modules (declarations s.own.inside)) fine))
