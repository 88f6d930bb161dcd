use Rattle.std.proofs.Common.{◌≡◌, ◌++◌, List, map, Option, Some, append_assoc, ap, ◌∙◌, subst}
use Rattle.std.specs.Prelude.{option_map}
use Rattle.fir_ast.specs.working.Views.{expr_of, reset_of}
use Rattle.fir_types.specs.working.Notes.{expression_notes}
use Rattle.fir_meaning.specs.working.Leafed.{first_term, terms}
use Rattle.fir_leaf.specs.working.Nodes.{node_term}
use Rattle.fir_meaning.specs.working.Terms.{Term}
use Rattle.fir_ground.specs.working.DeclarationDrivers.{ResetMeant}
use Rattle.fir_ground.specs.working.Grounds.{Enters, types_in}
use Rattle.fir_ground.specs.working.ResetKinds.{KindMeant, kind_of_reset, kind_seen}
use Rattle.fir_ground.proofs.Connecting.{comes_on}
use Rattle.fir_leaf_pairs.proofs.Entries.{grows_on}
use Rattle.fir_leaf_pairs.proofs.Giving.{all_keep, term_keeps}
use Rattle.fir_ground.proofs.NotesLast.{own_last, own_note}
use Rattle.fir_ground.proofs.ResetKinds.{told}
use Rattle.fir_ground.proofs.statements.in_reset.Goals as goal

abbrev meant : Term → KindMeant → List Term → Option ResetMeant
meant condition kind init = Some (record { condition = condition; kind = kind; init = init })

pub returns : goal.returns
returns c = λ typed t rest.
    let g = c.args.ground.now in
    let old = c.args.walk.now in
    let mid = c.in_first.new.walk in
    let new = c.in_expression.new.walk in
    let id = c.in_ok-condition.condition in
    let ids = c.in_ok-init.init in
    let tells = c.reset_kind-kind.result in
    let r = c.in-Some.reset in
    let one = expr_of r.condition in
    let two = expr_of r.init in
    rw (ap (option_map reset_of) c.in-Some.is)
    (λ enters legal.
    let first : Enters g typed (expression_notes typed one ++ (expression_notes typed two ++ rest)) old =
    subst (λ notes. Enters g typed notes old) (append_assoc (expression_notes typed one) (expression_notes typed two) rest) enters in
    let a = c.in_ok-condition.ensures typed legal.0 (expression_notes typed two ++ rest) first legal.2 in
    let second : Enters g typed (expression_notes typed two ++ rest) mid = record { stands = enters.stands; ahead = a.comes.ahead } in
    let b = c.in_ok-init.ensures typed legal.1 rest second legal.4 in
    let own = own_last (types_in g) old.notes.now typed one (expression_notes typed two ++ rest) first.ahead in
    let passed = c.last_passed.ensures (types_in g) own.before (own_note typed one) (expression_notes typed two ++ rest) own.ahead a.comes.ahead in
    let kind : kind_seen tells ≡ kind_of_reset typed one =
    told typed one legal.0 (kind_seen tells) enters.stands.small legal.2
    (record {
      expression = λ t is. c.reset_kind-kind.ensures.expression t (passed ∙ ap Some is);
      reference = λ x is. c.reset_kind-kind.ensures.reference x (passed ∙ ap Some is);
    }) in
    record {
      comes = comes_on g (expression_notes typed two ++ rest) rest old mid new a.comes b.comes;
      seen = λ later grows.
          ap (λ x. meant x (kind_seen tells) (map (node_term later) ids.items))
          (term_keeps mid.nodes.items later id (grows_on mid.nodes.items new.nodes.items later b.comes.grows grows) a.shows.within ∙ a.shows.term)
          ∙ ap (λ k. meant (first_term (terms typed one)) k (map (node_term later) ids.items)) kind
          ∙ ap (meant (first_term (terms typed one)) (kind_of_reset typed one))
          (all_keep new.nodes.items later ids.items grows b.gives.within ∙ b.gives.terms);
    })
