use Rattle.std.proofs.Common.{refl, ap, ◌∙◌}
use Rattle.fir_ast.specs.View.{fields_of}
use Rattle.fir_meaning.specs.TypeLeaves.{field_count}
use Rattle.fir_meaning.specs.TypeKinds.{are_passive, are_numeric, are_sized}
use Rattle.fir_meaning.specs.SharedLeaves.{shared_field_count}
use Rattle.fir_type_table.specs.working.Saturated.{saturated}
use Rattle.fir_type_table.specs.working.Tables.{member_fields, types_of}
use Rattle.fir_type_table.specs.working.Fits.{first_member}
use Rattle.fir_type_table.proofs.PlacedMembers.{below_same}
use Rattle.fir_type_table.proofs.table.TypeTable.bundle_entry.Goals as goal

pub returns : goal.returns
returns c =
    let ts = types_of c.args.self.now in
    let made = c.in_ok-members.ensures in
    record {
      kind_is = refl;
      fields = ap fields_of made.fields;
      fits = λ i below. record {
        below = tt;
        members_below = below_same i c.in_ok-members.members.items c.args.parts.items made.numbers below;
        leaves = c.sum_of_leaves.ensures ∙ ap (λ l. saturated (field_count (member_fields ts l))) c.deref-2.ensures.value;
        shared = c.sum_of_shared_leaves.ensures ∙ ap (λ l. saturated (shared_field_count (member_fields ts l))) c.deref-3.ensures.value;
        passive = c.are_passive.ensures ∙ ap (λ l. are_passive (member_fields ts l)) c.deref-4.ensures.value;
        numeric = c.are_numeric.ensures ∙ ap (λ l. are_numeric (member_fields ts l)) c.deref-5.ensures.value;
        sized = c.are_sized.ensures ∙ ap (λ l. are_sized (member_fields ts l)) c.deref-6.ensures.value;
        offsets = made.offsets;
        by_name = λ n. c.in_ok-by_name.ensures n ∙ ap (first_member n 0) c.deref.ensures.value;
      };
    }
