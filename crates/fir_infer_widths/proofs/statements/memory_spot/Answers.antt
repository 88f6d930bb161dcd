use Rattle.std.proofs.Common.{map, flat_map, ap, sym, ◌∙◌}
use Rattle.std.specs.Prelude.{option_map}
use Rattle.fir_ast.specs.working.Views.{memory_part_of}
use Rattle.fir_ast.specs.working.TypeViews.{type_of}
use Rattle.fir_meaning.specs.MemoryTypes.{data_of_part, first_one}
use Rattle.fir_type_table.specs.working.Tables.{types_of}
use Rattle.fir_infer_widths.specs.working.Ports.{has_fields}
use Rattle.fir_infer_widths.proofs.MemoryWalks.{ports_spot, words_spot, words_written}
use Rattle.fir_infer_widths.proofs.statements.memory_spot.Goals.{in_default-via-in-Some+else-not-has_ports, in_default-via-in_default}
use Rattle.fir_infer_widths.proofs.statements.memory_spot.Goals as goal

pub returns-in-Some : goal.returns-in-Some
returns-in-Some c = λ k m t meant typed found is.
    let fields = c.args.memory.now.fields.items in
    words_spot k (types_of c.args.table.now) meant m _ (map memory_part_of fields) t typed c.in-Some.ty (sym (ap has_fields found) ∙ sym c.has_ports.ensures ∙ c.if-not-has_ports.true)
    (ap (λ xs. first_one (flat_map data_of_part (map memory_part_of xs))) (sym c.deref.ensures.value) ∙ sym c.first_word_type.ensures ∙ ap (option_map (λ t. type_of t.now)) c.in-Some.is)

pub returns-in_default : goal.returns-in_default
returns-in_default c = λ k m t meant typed found is.
    let parts = map memory_part_of c.args.memory.now.fields.items in
    elim c.in_default.branch [
      | in_default-via-in-Some+else-not-has_ports w ↦
          ports_spot k (types_of c.args.table.now) meant m _ parts t typed c.args.own is (sym (ap has_fields found) ∙ sym w.has_ports.ensures ∙ w.if-not-has_ports.false)
      | in_default-via-in_default w ↦
          absurd
          (words_written c.args.memory.now.ident.place parts t typed
          (ap (λ xs. first_one (flat_map data_of_part (map memory_part_of xs))) (sym c.deref.ensures.value) ∙ sym c.first_word_type.ensures ∙ ap (option_map (λ t. type_of t.now)) w.in_default.is))
    ]
