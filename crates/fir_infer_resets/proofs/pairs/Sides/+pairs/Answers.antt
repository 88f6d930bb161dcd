use Rattle.std.proofs.Common.{ℕ, ◌+◌, ◌<◌, List, [], ◌∷◌, ◌++◌, length, sym, ap, ◌∙◌, subst, arith, Vec, Global}
use Rattle.std.specs.Prelude.{option_map}
use Rattle.std.proofs.lemmas.Result.{on_ok_weaker}
use Rattle.fir_ast.specs.working.Views.{circuit_of}
use Rattle.fir_type_table.specs.declared.entry.Member.{Member}
use Rattle.fir_type_table.specs.working.Tables.{member_fields, members_at, shown, shown_fields, type_at, types_of}
use Rattle.fir_meaning.specs.LeafPaths.{named}
use Rattle.fir_types.specs.declared.found.Found.TheVariants as found
use Rattle.fir_types.specs.working.Seen.{found_type, field_seen}
use Rattle.fir_infer_resets.specs.declared.item.Step.{Step}
use Rattle.fir_infer_resets.specs.working.Holding.{path_of}
use Rattle.fir_infer_resets.specs.working.FirstPairs.{Met, first_pairs, first_field_pairs, first_partial_pairs, partial_fields_met, met_pairs}
use Rattle.fir_infer_resets.specs.working.FirstEnds.{JoinsMet}
use Rattle.fir_infer_resets.proofs.MetSteps.{none_met, part_met, same_met}
use Rattle.fir_infer_resets.proofs.MetFields.{shown_from, fields_next, fields_end, partial_next, partial_over, partial_end, partial_bundles, min_reached}
use Rattle.fir_infer_resets.proofs.ScalarPairs.{met_at, scalar_pairs}
use Rattle.fir_infer_resets.proofs.pairs.Sides.+pairs.Goals as goal
use Rattle.fir_infer_resets.proofs.pairs.Sides.+pairs.Goals.{join_partial_fields-in-Some+in_ok-join_behind, join_partial_fields-in_default}

pub join_fields-loop-i-preserved : goal.join_fields-loop-i-preserved
join_fields-loop-i-preserved t c =
    let s = c.args.self.now in
    let ts = types_of s.table.now in
    let circuit = circuit_of s.named.now in
    let path = path_of c.args.steps.now.items in
    let x = c.args.x in
    let y = c.args.y in
    let fs : List Member = c.members-fs.result.now in
    let gs : List Member = c.members-gs.result.now in
    let i : ℕ = c.loop-i.i in
    let f = c.index-fs-i.result in
    let g = c.index-gs-i.result in
    let one = shown x (type_at ts f.ty.number) in
    let other = shown y (type_at ts g.ty.number) in
    let within : i < length fs = omega (arith, c.loop-i-test.true, c.min-i-end.ensures) in
    let within_other : i < length gs = omega (arith, c.loop-i-test.true, c.min-i-end.ensures) in
    let here = same_met circuit s.module_number s.left s.right _ (first_pairs (path ++ named f.name ∷ []) one other) c.loop-i.joined c.join_behind.new.joined
    (◌∙◌ {A = List Met} (ap (λ b. met_pairs b (path_of c.loop-i.steps.items ++ named f.name ∷ []) one other) c.requires.partly)
    (ap (λ l. first_pairs (path_of l ++ named f.name ∷ []) one other) c.loop-i.invariant.0))
    c.in_ok-join_behind.ensures.joined in (
      c.in_ok-join_behind.ensures.steps ∙ c.loop-i.invariant.0,
      λ new rest.
          c.loop-i.invariant.1 new
          (part_met circuit s.module_number s.left s.right _ _ _ c.loop-i.joined c.join_behind.new.joined new
          (fields_next ts path x y fs gs i f g within c.index-fs-i.is within_other c.index-gs-i.is) here rest),
    )

pub join_fields-returns-clause-joined : goal.join_fields-returns-clause-joined
join_fields-returns-clause-joined t c =
    let s = c.args.self.now in
    let es = s.table.now in
    let ts = types_of es in
    let circuit = circuit_of s.named.now in
    let path = path_of c.args.steps.now.items in
    let fs : List Member = c.members-fs.result.now in
    let gs : List Member = c.members-gs.result.now in
    let end = fields_end ts path c.args.x c.args.y fs gs c.loop-i.i (min_reached (length fs) (length gs) c.loop-i.i (omega (arith, c.loop-i-test.false, c.min-i-end.ensures))) in
    same_met circuit s.module_number s.left s.right _ _ c.args.joined.now c.loop-i.joined
    (ap (λ l. first_field_pairs path (shown_fields c.args.x (member_fields ts l)) (shown_from ts c.args.y gs 0)) c.members-fs.ensures.members
    ∙ ap (λ l. first_field_pairs path (shown_fields c.args.x (member_fields ts (members_at es c.args.a.number))) (shown_fields c.args.y (member_fields ts l)))
    c.members-gs.ensures.members)
    (c.loop-i.invariant.1 c.loop-i.joined
    (same_met circuit s.module_number s.left s.right [] _ c.loop-i.joined c.loop-i.joined (sym end) (none_met circuit s.module_number s.left s.right c.loop-i.joined)))

pub join_partial_fields-loop-member-preserved : goal.join_partial_fields-loop-member-preserved
join_partial_fields-loop-member-preserved t c =
    let s = c.args.self.now in
    let ts = types_of s.table.now in
    let circuit = circuit_of s.named.now in
    let path = path_of c.args.steps.now.items in
    let x = c.args.x in
    let fs : List Member = c.members-member-items.result.now in
    let u = found_type ts c.args.other in
    let i : ℕ = c.loop-member.member-index in
    let f = c.member-item.result in
    let one = shown x (type_at ts f.ty.number) in
    elim c.match-field.branch [
      | join_partial_fields-in-Some+in_ok-join_behind w ↦
          let g = field_seen ts w.in-Some.found in
          let here = same_met circuit s.module_number s.left s.right _ (first_partial_pairs (path ++ named f.name ∷ []) one g.data_type) c.loop-member.joined
          w.join_behind.new.joined
          (◌∙◌ {A = List Met} (ap (λ b. met_pairs b (path_of c.loop-member.steps.items ++ named f.name ∷ []) one g.data_type) c.requires.partly)
          (ap (λ l. first_partial_pairs (path_of l ++ named f.name ∷ []) one g.data_type) c.loop-member.invariant.0))
          w.in_ok-join_behind.ensures.joined in (
            ap (λ (v : Vec Step Global). v.items) w.steps-is ∙ w.in_ok-join_behind.ensures.steps ∙ c.loop-member.invariant.0,
            λ new rest.
                c.loop-member.invariant.1 new
                (part_met circuit s.module_number s.left s.right _ _ _ c.loop-member.joined w.join_behind.new.joined new
                (partial_next ts path x fs u i f g c.loop-member-test.true c.member-item.is w.in-Some.ensures.found) here
                (subst (λ j. JoinsMet circuit s.module_number s.left s.right (partial_fields_met path (shown_from ts x fs (i + 1)) u) j new) w.joined-is rest)),
          )
      | join_partial_fields-in_default w ↦ (
        ap (λ (v : Vec Step Global). v.items) w.steps-is ∙ c.loop-member.invariant.0,
        λ new rest.
            c.loop-member.invariant.1 new
            (same_met circuit s.module_number s.left s.right _ _ c.loop-member.joined new
            (sym (partial_over ts path x fs u i f c.loop-member-test.true c.member-item.is (sym (ap (option_map (field_seen ts)) w.in_default.is) ∙ c.field.ensures.found)))
            (subst (λ j. JoinsMet circuit s.module_number s.left s.right (partial_fields_met path (shown_from ts x fs (i + 1)) u) j new) w.joined-is rest)),
      )
    ]

pub join_partial_fields-returns-clause-joined : goal.join_partial_fields-returns-clause-joined
join_partial_fields-returns-clause-joined t c =
    let s = c.args.self.now in
    let ts = types_of s.table.now in
    let circuit = circuit_of s.named.now in
    let path = path_of c.args.steps.now.items in
    let fs : List Member = c.members-member-items.result.now in
    let u = found_type ts c.args.other in
    let end = partial_end ts path c.args.x fs u c.loop-member.member-index c.loop-member-test.false in
    same_met circuit s.module_number s.left s.right _ _ c.args.joined.now c.loop-member.joined
    (ap (λ l. partial_fields_met path (shown_fields c.args.x (member_fields ts l)) u) c.members-member-items.ensures.members)
    (c.loop-member.invariant.1 c.loop-member.joined
    (same_met circuit s.module_number s.left s.right [] _ c.loop-member.joined c.loop-member.joined (sym end)
    (none_met circuit s.module_number s.left s.right c.loop-member.joined)))

pub join_types-returns-then-self-clause-joined : goal.join_types-returns-then-self-clause-joined
join_types-returns-then-self-clause-joined t c =
    let s = c.args.self.now in
    let es = s.table.now in
    let ts = types_of es in
    let path = path_of c.args.steps.now.items in
    let arm = c.in-Bundles in
    let fs = shown_fields arm.x (member_fields ts (members_at es arm.a.number)) in
    let gs = shown_fields arm.y (member_fields ts (members_at es arm.b.number)) in
    on_ok_weaker c.join_partial_fields.result
    (same_met (circuit_of s.named.now) s.module_number s.left s.right _ _ c.args.joined.now c.join_partial_fields.new.joined
    (partial_bundles s.partly path (found_type ts c.args.one) (found_type ts c.args.other) (found_type ts (found.Type arm.b arm.y)) fs gs c.if-self.true arm.ensures.0 arm.ensures.1 arm.ensures.2))
    c.join_partial_fields.ensures.joined

pub join_types-returns-in-Vectors-clause-joined : goal.join_types-returns-in-Vectors-clause-joined
join_types-returns-in-Vectors-clause-joined t c =
    let s = c.args.self.now in
    on_ok_weaker c.join_behind.result
    (same_met (circuit_of s.named.now) s.module_number s.left s.right _ _ c.args.joined.now c.join_behind.new.joined (sym (c.in-Vectors.ensures.0 s.partly (path_of c.args.steps.now.items))))
    c.join_behind.ensures.joined

pub join_types-returns-in-Scalars-clause-joined : goal.join_types-returns-in-Scalars-clause-joined
join_types-returns-in-Scalars-clause-joined t c =
    let s = c.args.self.now in
    let ts = types_of s.table.now in
    let one = found_type ts c.args.one in
    let other = found_type ts c.args.other in
    let path = path_of c.args.steps.now.items in
    let arm = c.in-Scalars in
    let pair = ap (λ l. met_at one other (path_of l)) c.as_slice.ensures.value
    ∙ sym (scalar_pairs s.partly path one other arm.k arm.l arm.ensures.0 arm.ensures.1) in
    on_ok_weaker c.join_scalars.result (same_met (circuit_of s.named.now) s.module_number s.left s.right _ _ c.args.joined.now c.join_scalars.new.joined pair)
    (c.join_scalars.ensures one other arm.ensures.0 arm.ensures.1)

pub join_types-returns-in-Apart-clause-joined : goal.join_types-returns-in-Apart-clause-joined
join_types-returns-in-Apart-clause-joined t c =
    let s = c.args.self.now in
    let path = path_of c.args.steps.now.items in
    same_met (circuit_of s.named.now) s.module_number s.left s.right [] (met_pairs s.partly path (found_type (types_of s.table.now) c.args.one) (found_type (types_of s.table.now) c.args.other))
    c.args.joined.now c.args.joined.now (sym (c.in-Apart.ensures s.partly path)) (none_met (circuit_of s.named.now) s.module_number s.left s.right c.args.joined.now)
