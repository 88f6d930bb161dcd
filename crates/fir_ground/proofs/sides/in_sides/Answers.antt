use Rattle.std.proofs.Common.{◌≡◌, ◌++◌, append_assoc, ap, subst, ◌∙◌}
use Rattle.fir_ast.specs.working.Views.{expr_of, sink_of}
use Rattle.fir_types.specs.working.Notes.{expression_notes, reference_notes}
use Rattle.fir_types.specs.working.Seen.{found_type}
use Rattle.fir_meaning.specs.working.Leafed.{target_read}
use Rattle.fir_ground.specs.working.Grounds.{Enters, types_in}
use Rattle.fir_ground.proofs.Connecting.{no_source, sides_shown, source_found}
use Rattle.fir_ground.proofs.sides.in_sides.Goals as goal
use Rattle.fir_ground.proofs.sides.in_sides.Goals.{in-Some, in-None}

pub returns : goal.returns
returns c = λ typed r t rest enters there has.
    let g = c.args.ground.now in
    let ts = types_in g in
    let s = sink_of c.args.sink.now in
    let e = expr_of c.args.source.now in
    let old = c.args.walk.now in
    let mid = c.in_reference.new.walk in
    let new = c.in_source.new.walk in
    let first : Enters g typed (reference_notes typed s ++ (expression_notes typed e ++ rest)) old =
    subst (λ notes. Enters g typed notes old) (append_assoc (reference_notes typed s) (expression_notes typed e) rest) enters in
    let reaches = c.in_ok-left.ensures typed r (expression_notes typed e ++ rest) first there in
    let second : Enters g typed (expression_notes typed e ++ rest) mid = record { stands = enters.stands; ahead = reaches.comes.ahead } in
    let expands = c.in_ok-source.ensures typed t rest second has in
    let source = c.in_ok-source.source in
    let small = enters.stands.small in
    let found : found_type ts c.match-source.found ≡ t =
    elim c.match-source.branch [
      | in-Some w ↦ ap (found_type ts) w.found-is ∙ source_found ts new.nodes.items typed e t source.target w.in-Some.target small has w.in-Some.is
          expands.target
      | in-None w ↦
          ap (found_type ts) w.found-is
          ∙ w.noted_last-found.ensures ts typed e t rest second.ahead expands.expands.comes.ahead
          (no_source ts new.nodes.items source.target (target_read typed e) w.in-None.is expands.target) has
    ] in
    sides_shown g typed s e t rest old mid new c.in_ok-left.left source c.match-source.found reaches expands found
