-- The operands of an operation, one by one.
use Rattle.std.proofs.Common.{◌≡◌, ℕ, List, [], ◌∷◌, ◌++◌, refl, sym, ◌∙◌, subst, append_assoc}
use Rattle.std.proofs.lemmas.List.{append-nil}
use Rattle.fir_ast.specs.Types.{DataType}
use Rattle.fir_ast.specs.Expressions.{Expression, Expressions, no_expressions, expression}
use Rattle.fir_meaning.specs.TypedScopes.{TypedScope}
use Rattle.fir_meaning.specs.working.WellTyped.{HaveTypes}
use Rattle.fir_types.specs.working.Notes.{Note, expression_notes, notes_of_each}
use Rattle.fir_meaning.specs.working.Leafed.{first_term, operands, terms}
use Rattle.fir_leaf.specs.working.Nodes.{Gives}
use Rattle.fir_meaning.specs.working.Terms.{Term}
use Rattle.fir_ground.specs.declared.ground.Ground.{Ground}
use Rattle.fir_ground.specs.declared.walk.Walk.{Walk}
use Rattle.fir_ground.specs.working.Grounds.{Comes, Enters, Expands}
use Rattle.fir_ground.proofs.Coming.{come_none, come_then, enters_then}
use Rattle.fir_ground.proofs.FormsCome.{GivesFirst}
use Rattle.fir_leaf_pairs.proofs.Giving.{gives_none, gives_push}

-- those that are passed so far
pub record OperandsSoFar (g : Ground) (typed : TypedScope) (rest : List Note) (whole left : Expressions) (old now : Walk) (ids : List ℕ) : Type 0 where
  pub types : List DataType
  pub have : HaveTypes typed left types
  pub comes : Comes g (notes_of_each typed left ++ rest) old now
  pub done : List Term
  pub gives : Gives old.nodes.items now.nodes.items ids done
  pub same : operands typed whole ≡ done ++ operands typed left

module _ (g : Ground) (typed : TypedScope) (rest : List Note) (whole : Expressions) (old : Walk) (enters : Enters g typed (notes_of_each typed whole ++ rest) old) where
  pub operands_first : (ts : List DataType) (ids : List ℕ) → HaveTypes typed whole ts → ids ≡ [] → OperandsSoFar g typed rest whole whole old old ids
  operands_first ts ids have none = rw none record {
    types = ts;
    have = have;
    comes = come_none g (notes_of_each typed whole ++ rest) old enters.ahead;
    done = [];
    gives = gives_none old.nodes.items;
    same = refl;
  }

  pub operands_next : (e : Expression) (es : Expressions) (now next : Walk) (ids after : List ℕ) (id : ℕ) → OperandsSoFar g typed rest whole (expression e es) old now ids
      → GivesFirst g typed e now next id → after ≡ ids ++ id ∷ [] → OperandsSoFar g typed rest whole es old next after
  operands_next e es now next ids after id so_far step pushed =
      let here = enters_then g typed (notes_of_each typed whole ++ rest) (notes_of_each typed (expression e es) ++ rest) old now enters so_far.comes in
      let begins = subst (λ ns. Enters g typed ns now) (append_assoc (expression_notes typed e) (notes_of_each typed es) rest) here in
      let own = step so_far.have.0 (notes_of_each typed es ++ rest) begins so_far.have.2 in
      record {
        types = so_far.have.1;
        have = so_far.have.3;
        comes = come_then g (notes_of_each typed (expression e es) ++ rest) (notes_of_each typed es ++ rest) old now next so_far.comes own.comes;
        done = so_far.done ++ first_term (terms typed e) ∷ [];
        gives = gives_push old.nodes.items now.nodes.items next.nodes.items ids after so_far.done id (first_term (terms typed e)) so_far.gives own.shows pushed;
        same = so_far.same ∙ sym (append_assoc so_far.done (first_term (terms typed e) ∷ []) (operands typed es));
      }

  pub operands_done : (left : Expressions) (now : Walk) (ids : List ℕ) → OperandsSoFar g typed rest whole left old now ids → left ≡ no_expressions
      → Expands g rest old now ids (operands typed whole)
  operands_done left now ids so_far none =
      let end = subst (λ l. OperandsSoFar g typed rest whole l old now ids) none so_far in
      subst (λ ts. Expands g rest old now ids ts) (sym (end.same ∙ append-nil end.done)) (record { comes = end.comes; gives = end.gives })
