use Rattle.std.proofs.Common.{◌≡◌, ◌+◌, [], ◌∷◌, ◌++◌, map, take, sym, ap, ◌∙◌}
use Rattle.std.proofs.lemmas.List.{map-append, map_push, take_all, take_more}
use Rattle.fir_ast.specs.working.Views.{module_of}
use Rattle.fir_leaf_text.specs.working.DeclaredNames.{names_in_module}
use Rattle.fir_flatten.proofs.module_parts.declared_by_modules.Goals as goal

pub loop-part-preserved : goal.loop-part-preserved
loop-part-preserved c =
    let parts = c.as_slice-part-items.result.now in
    let i = c.loop-part.part-index in
    let part = c.part-item.result in
    let before = take i parts in
    let new = c.in_ok-declared_names.field-0 in
    let more : map names_in_module (map module_of (take (i + 1) parts)) ≡ map names_in_module (map module_of before) ++ names_in_module (module_of part) ∷ [] =
    ap (λ ps. map names_in_module (map module_of ps))
    (take_more parts i part c.loop-part-test.true ∙ ap (λ p. before ++ p ∷ []) (sym c.part-item.is))
    ∙ ap (map names_in_module) (map-append module_of before (part ∷ []))
    ∙ map-append names_in_module (map module_of before) (module_of part ∷ []) in
    ap (map (λ ns. ns.items)) c.in_ok-push.ensures.items ∙ map_push (λ ns. ns.items) c.loop-part.names.items new
    ∙ ap (λ n. map (λ ns. ns.items) c.loop-part.names.items ++ n ∷ []) c.in_ok-declared_names.ensures
    ∙ ap (λ ns. ns ++ names_in_module (module_of part) ∷ []) c.loop-part.invariant ∙ sym more

pub returns : goal.returns
returns c =
    let parts = c.as_slice-part-items in
    let all = take_all c.loop-part.part-index parts.result.now c.loop-part-test.false ∙ parts.ensures.value in
    c.loop-part.invariant ∙ ap (λ ps. map names_in_module (map module_of ps)) all
