-- The statements of a module over its leaves (FIRRTL spec, "Connects", "Partial Connects", "Invalidates", "Conditionals", "Instances").
-- Of each pair of leaves that a connect has, a flipped one drives the leaf on the right. An invalid drives zero on the leaves that may be driven.
use Rattle.std.specs.Prelude.{ℕ, zero, suc, ◌+◌, List, [], ◌∷◌, length, Bool, if◌then◌else◌, Option, Some, None, slice_index_or}
use Rattle.fir_ast.specs.declared.place.Place.{Place}
use Rattle.fir_ast.specs.Types.{DataType}
use Rattle.fir_ast.specs.Expressions.{Expression}
use Rattle.fir_ast.specs.Statements.{SinkReference, Statement, instance, when, connect, partial_connect, invalid, Block, done, then}
use Rattle.fir_ast.specs.Circuits.{ModuleTree}
use Rattle.fir_meaning.specs.TypeLeaves.{leaf_count}
use Rattle.fir_meaning.specs.Visibility.{Before, opened, reopened, behind, behind_block}
use Rattle.fir_meaning.specs.TypedScopes.{TypedScope}
use Rattle.fir_meaning.specs.ExpressionTypes.{expression_type}
use Rattle.fir_meaning.specs.TypeGroup.{scope_at}
use Rattle.fir_meaning.specs.ResetJoins.{numbered_module}
use Rattle.fir_meaning.specs.working.Terms.{Term, zeros}
use Rattle.fir_meaning.specs.working.LeafBlocks.{LeafBlock, joined}
use Rattle.fir_meaning.specs.working.LeafBlocks as over
use Rattle.fir_meaning.specs.working.Targets.{Target, leaves_so_far}
use Rattle.fir_meaning.specs.working.LeafPairs.{LeafPair, leaf_pairs, partial_leaf_pairs}
use Rattle.fir_meaning.specs.working.Leafed.{first_term, terms, target_terms, target_of, target_read}
use Rattle.fir_meaning.specs.FoundTypes.{type_where}

abbrev pub alone : over.LeafStatement → LeafBlock
alone s = over.then s over.done

abbrev pub driven_from : Place → Option ℕ → Target → ℕ → Term → LeafBlock
driven_from p None r k t = over.done
driven_from p (Some b) r k t = alone (over.drive p (b + k) r.picks t)

-- the leaf of that number of a target takes what a term gives; behind an index into a vector without elements there is none
abbrev pub driven : Place → Target → ℕ → Term → LeafBlock
driven p r k t = driven_from p r.base r k t

abbrev pub driven_where : Place → Option Target → ℕ → Term → LeafBlock
driven_where p None k t = over.done
driven_where p (Some r) k t = driven p r k t

abbrev pub term_at : List Term → ℕ → Term
term_at ts k = slice_index_or ts k zeros

-- both sides of a connect: what is driven, the source where it is a reference, and what both give
pub record Sides : Type 0 where
  pub left : Target
  pub right : Option Target
  pub gives : List Term
  pub gives_back : List Term

abbrev pub pair_block : Place → Sides → LeafPair → LeafBlock
pair_block p sides pair =
    if pair.flip
    then driven_where p sides.right pair.right (term_at sides.gives_back pair.left)
    else driven p sides.left pair.left (term_at sides.gives pair.right)

abbrev pub pairs_block : Place → Sides → List LeafPair → LeafBlock
pairs_block p sides [] = over.done
pairs_block p sides (pair ∷ rest) = joined (pair_block p sides pair) (pairs_block p sides rest)

-- zero on each of so many leaves of a target, from the one of a number on, that may be driven
abbrev pub invalid_leaf : (ℕ → Bool) → Place → Option ℕ → Target → ℕ → LeafBlock
invalid_leaf may_drive p None r k = over.done
invalid_leaf may_drive p (Some b) r k = if may_drive (b + k) then alone (over.drive p (b + k) r.picks zeros) else over.done

abbrev pub invalid_leaves : (ℕ → Bool) → Place → Target → ℕ → ℕ → LeafBlock
invalid_leaves may_drive p r k zero = over.done
invalid_leaves may_drive p r k (suc n) = joined (invalid_leaf may_drive p r.base r k) (invalid_leaves may_drive p r (suc k) n)

-- an instance of the module of that number, before which these are declared
abbrev pub instance_block : TypedScope → Option (ℕ × ModuleTree) → LeafBlock
instance_block scope None = over.done
instance_block scope (Some child) =
    alone (over.instance (record { declaration = length scope; module_number = child.0; first = leaves_so_far scope }))

abbrev pub sides : TypedScope → SinkReference → Expression → Sides
sides scope s e = record {
  left = target_of scope s;
  right = target_read scope e;
  gives = terms scope e;
  gives_back = target_terms (target_of scope s);
}

abbrev pub connect_block : (DataType → DataType → List LeafPair) → TypedScope → Place → SinkReference → Expression → LeafBlock
connect_block pairs_of scope p s e =
    pairs_block p (sides scope s e) (pairs_of (target_of scope s).data_type (type_where (expression_type scope e).has))

abbrev pub invalid_block : (ℕ → Bool) → Place → Target → LeafBlock
invalid_block may_drive p r = invalid_leaves may_drive p r 0 (leaf_count r.data_type)

-- with the modules of the circuit, and which leaves of the module may be driven
module _ (modules : List ModuleTree) (may_drive : ℕ → Bool) where
  abbrev mutual
    pub leafed : Before → Statement → LeafBlock
    leafed before (connect p s e) = connect_block leaf_pairs (scope_at modules before) p s e
    leafed before (partial_connect p s e) = connect_block partial_leaf_pairs (scope_at modules before) p s e
    leafed before (invalid p s) = invalid_block may_drive p (target_of (scope_at modules before) s)
    leafed before (when p c a b) =
        alone (over.when p (first_term (terms (scope_at modules before) c)) (leafed_all (opened before) a)
        (leafed_all (reopened before (behind_block (opened before) a)) b))
    leafed before (instance p n other) =
        instance_block (scope_at modules before) (numbered_module 0 modules other.name)
    leafed before _ = over.done

    pub leafed_all : Before → Block → LeafBlock
    leafed_all before done = over.done
    leafed_all before ((then) s b) = joined (leafed before s) (leafed_all (behind before s) b)
