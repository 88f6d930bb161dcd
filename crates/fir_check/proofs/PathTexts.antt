-- The text of a reference's path, as it is put step by step.
use Rattle.std.proofs.Common.{◌≡◌, ℕ, List, ◌++◌, map, flat_map, sym, ap, ◌∙◌, append_assoc}
use Rattle.std.proofs.lemmas.Grind.{flat_map-append}
use Rattle.std.proofs.lemmas.List.{append-nil}
use Rattle.fir_ast.specs.declared.expressions.Part.{Part}
use Rattle.fir_ast.specs.declared.expressions.Reference.{Reference}
use Rattle.fir_ast.specs.Expressions.{Parts, no_parts}
use Rattle.fir_ast.specs.working.Views.{parts_of, sink_of}
use Rattle.fir_meaning.specs.LeafPaths.{path_text, step_text}
use Rattle.fir_names.specs.working.Parts.{part_of, part_view}
use Rattle.fir_types.specs.working.Seen.{sink_path, steps_of}
use Rattle.fir_types.proofs.PartViews.{part_steps, sink_view}

abbrev pub parts_text : Parts → List ℕ
parts_text ps = flat_map step_text (steps_of ps)

pub path_begun : (r : Reference) (before out : List ℕ) (parts : List Part) → parts ≡ r.parts.items → out ≡ before ++ r.name
    → out ++ parts_text (parts_of (map part_of parts)) ≡ before ++ path_text (sink_path (sink_of r))
path_begun r before out parts same is =
    ap (λ xs. xs ++ parts_text (parts_of (map part_of parts))) is ∙ append_assoc before r.name (parts_text (parts_of (map part_of parts)))
    ∙ ap (λ ps. before ++ (r.name ++ parts_text (parts_of (map part_of ps)))) same ∙ ap (λ s. before ++ path_text (sink_path s)) (sym (sink_view r))

pub path_more : (whole out next : List ℕ) (q : Part) (rest : Parts) → next ≡ out ++ parts_text (part_view q) → out ++ parts_text (part_of q rest) ≡ whole
    → next ++ parts_text rest ≡ whole
path_more whole out next q rest is so_far =
    ap (λ xs. xs ++ parts_text rest) is ∙ append_assoc out (parts_text (part_view q)) (parts_text rest)
    ∙ ap (λ xs. out ++ xs) (sym (flat_map-append step_text (steps_of (part_view q)) (steps_of rest)) ∙ ap (flat_map step_text) (sym (part_steps q rest))) ∙ so_far

pub path_done : (whole out : List ℕ) → out ++ parts_text no_parts ≡ whole → out ≡ whole
path_done whole out so_far = sym (append-nil out) ∙ so_far
