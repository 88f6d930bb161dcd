use Rattle.std.proofs.Common.{◌≡◌, ◌∙◌, [], length, map, take, refl, sym, ap, subst}
use Rattle.std.specs.Option.{option_map_or}
use Rattle.std.proofs.lemmas.List.{with_items_is}
use Rattle.trace_text.specs.Lines.{words_of}
use Rattle.trace_text.specs.Spelling.{hexadecimal_of}
use Rattle.trace_text.specs.working.TickWords.{ValuesAreRead, WordsAreRead, tick_of}
use Rattle.trace_text.proofs.tick.Tick.read_words.Goals as goal

pub returns-clause-reads : goal.returns-clause-reads
returns-clause-reads c =
    let shape = c.args.shape.now in
    let w = c.first_word.result.0.now in
    let ws = option_map_or (λ text. words_of text.now) c.first_word.result.1 [] in
    let room = c.read_clock_list-clocks.new.room in
    let held = c.read_values-values.new.inputs in
    let inside = c.self.inside in
    let widths : c.inputs-widths.result.now ≡ shape.inputs = c.inputs-widths.ensures.widths in
    let clocks_fit : length room ≡ length inside.next_clocks.items = c.read_clock_list-clocks.ensures.room ∙ ap length c.as_mut_slice.ensures.value in
    let inputs_fit : length held ≡ length inside.next_inputs.items =
    c.read_values-values.ensures.read.room ∙ ap length widths ∙ sym c.requires.room.inputs ∙ ap (λ t. length t.tick.inputs) (sym c.self.view_is)
    ∙ sym c.self.invariant.1 in
    let read : WordsAreRead shape w ws c.read_clock_list-clocks.result room c.read_values-values.result held = record {
      clocks_read = c.read_clock_list-clocks.ensures.read;
      room_is = clocks_fit ∙ c.self.invariant.2 ∙ ap (λ t. t.room) c.self.view_is ∙ c.requires.room.clocks;
      values_read = subst (λ ns. ValuesAreRead ns ws [] c.read_values-values.result held) widths c.read_values-values.ensures.read;
    } in
    let judged = c.in_ok-named.ensures shape w ws room held (sym widths) read in
    let inputs : c.swap.new.x.items ≡ map hexadecimal_of ws =
    ap (λ v. v.items) c.swap.ensures.x_after ∙ with_items_is inside.next_inputs held (inputs_fit ∙ sym inside.next_inputs.ok.0) ∙ judged.3 in
    let clocks : take c.in_ok-named.named c.swap-2.new.x.items ≡ (tick_of w ws).clocks =
    ap (λ v. take c.in_ok-named.named v.items) c.swap-2.ensures.x_after
    ∙ ap (take c.in_ok-named.named) (with_items_is inside.next_clocks room (clocks_fit ∙ sym inside.next_clocks.ok.0)) ∙ judged.2 in
    (w, ws, c.first_word.ensures, (judged.0, rw (inputs, clocks) refl))
